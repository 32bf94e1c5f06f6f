-- Records that stand one behind the other.
use Rattle.std.proofs.Common.{List, [], ◌∷◌, ◌++◌, refl, sym, ap, subst, arith, inr}
use Rattle.dby_types.specs.declared.number.Lsn.{Lsn}
use Rattle.log_records.specs.Content.{LogRecord}
use Rattle.log_file.specs.List.{Bytes, StandsAt, behind, Runs, Reads}
use Rattle.log_file.proofs.Standing.{AtMost, at_most, behind_later}

-- they lead onward
pub runs_later : (b : Bytes) (at to : Lsn) (rs : List LogRecord) → Runs b at rs to → AtMost at to
runs_later b at to [] h = subst (λ (p : Lsn). AtMost at p) h (inr (refl, omega arith))
runs_later b at to (r ∷ rs) h = at_most at (behind at r) to (behind_later at r h.0.1.record_is) (runs_later b (behind at r) to rs h.1)

-- bytes that have each of them have them all
pub runs_to : (b c : Bytes) (at to : Lsn) (rs : List LogRecord) → ((p : Lsn) (r : LogRecord) → AtMost at p → AtMost (behind p r) to → StandsAt b p r → StandsAt c p r) → Runs b at rs to → Runs c at rs to
runs_to b c at to [] keep h = h
runs_to b c at to (r ∷ rs) keep h = (
  keep at r (inr (refl, omega arith)) (runs_later b (behind at r) to rs h.1) h.0,
  runs_to b c (behind at r) to rs (λ p x le. keep p x (at_most at (behind at r) p (behind_later at r h.0.1.record_is) le)) h.1,
)

-- one more at the end
pub runs_push : (b : Bytes) (at to : Lsn) (rs : List LogRecord) (r : LogRecord) → Runs b at rs to → StandsAt b to r → Runs b at (rs ++ r ∷ []) (behind to r)
runs_push b at to [] r h s = (subst (λ (p : Lsn). StandsAt b p r) (sym h) s, ap (λ (p : Lsn). behind p r) h)
runs_push b at to (x ∷ rs) r h s = (h.0, runs_push b (behind at x) to rs r h.1 s)

-- one list and then another
pub runs_append : (b : Bytes) (at mid to : Lsn) (xs ys : List LogRecord) → Runs b at xs mid → Runs b mid ys to → Runs b at (xs ++ ys) to
runs_append b at mid to [] ys h k = subst (λ (p : Lsn). Runs b p ys to) (sym h) k
runs_append b at mid to (x ∷ xs) ys h k = (h.0, runs_append b (behind at x) mid to xs ys h.1 k)

-- what is read behind them
pub reads_behind : (b : Bytes) (at to : Lsn) (xs ys : List LogRecord) → Runs b at xs to → Reads b to ys → Reads b at (xs ++ ys)
reads_behind b at to [] ys h k = subst (λ (p : Lsn). Reads b p ys) (sym h) k
reads_behind b at to (x ∷ xs) ys h k = (h.0, reads_behind b (behind at x) to xs ys h.1 k)
