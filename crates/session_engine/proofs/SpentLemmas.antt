-- A connection that is closed has begun all its statements.
use Rattle.std.proofs.Common.{◌≡◌, ℕ, zero, suc, ◌<◌, ◌≤◌, Bool, List, [], ◌∷◌, length, set, get_or, true, false, refl, sym, ◌∙◌, ap, subst, arith}
use Rattle.session_engine.specs.declared.session.Session.{Session}
use Rattle.sql_lexer.specs.declared.token.Span.{Span}
use Rattle.table_model.specs.Tables.{Each}
use Rattle.session_engine.specs.Opening.{IsNew}
use Rattle.session_engine.specs.Release.{Idles}
use Rattle.session_engine.specs.Engine.{AreSpent, IsSpent}

-- what is looked at
abbrev pub stays_of : Session → Bool × List Span × ℕ
stays_of s = (s.closed, s.spans, s.begun)

-- the first of them, and the others
spent_cons : (s : Session) (ss : List Session) → IsSpent s → AreSpent ss → AreSpent (s ∷ ss)
spent_cons s ss own h = λ i d lt. at i d lt
  where
    at : (i : ℕ) (d : Session) → i < length (s ∷ ss) → IsSpent (get_or (s ∷ ss) i d)
    at zero d lt = own
    at (suc i) d lt = h i d (omega arith)

-- another connection in its place
pub spent_set : (ss : List Session) (k : ℕ) (s' : Session) → IsSpent s' → AreSpent ss → AreSpent (set ss k s')
spent_set [] k s' own h = λ i d lt. absurd (omega arith)
spent_set (s ∷ ss) zero s' own h = spent_cons s' ss own (λ i d lt. h (suc i) d (omega arith))
spent_set (s ∷ ss) (suc k) s' own h = spent_cons s (set ss k s') (h zero s (omega arith)) (spent_set ss k s' own (λ i d lt. h (suc i) d (omega arith)))

pub itself : {X : Type 0} (x : X) → x ≡ x
itself x = refl

-- of which these parts are as they were
pub spent_kept : (ss : List Session) (k : ℕ) (r s' : Session) → k < length ss → r ≡ get_or ss k r → s'.closed ≡ r.closed → s'.spans ≡ r.spans → s'.begun ≡ r.begun → AreSpent ss → AreSpent (set ss k s')
spent_kept ss k r s' lt at closed spans begun h = spent_set ss k s' (λ e.
    let own : length r.spans ≤ r.begun = subst IsSpent (sym at) (h k r lt) (sym closed ∙ e) in
    let long : length s'.spans ≡ length r.spans = ap length spans in
    omega (arith, own, long, begun)) h

-- one that is open yet, whatever it begins
pub spent_open : (ss : List Session) (k : ℕ) (s' : Session) → s'.closed ≡ false → AreSpent ss → AreSpent (set ss k s')
spent_open ss k s' open_yet h = spent_set ss k s' (λ e. absurd (let x : false ≡ true = sym open_yet ∙ e in cc)) h

-- one whose transaction has ended
pub spent_idle : (ss : List Session) (k : ℕ) (r s s' : Session) → k < length ss → r ≡ get_or ss k r → Idles s s' s.closed → stays_of s ≡ stays_of r → AreSpent ss → AreSpent (set ss k s')
spent_idle ss k r s s' lt at idles stays h = spent_kept ss k r s' lt at
    (ap (λ (x : Session). x.closed) idles.is ∙ ap (λ x. x.0) stays) (ap (λ (x : Session). x.spans) idles.is ∙ ap (λ x. x.1) stays) (ap (λ (x : Session). x.begun) idles.is ∙ ap (λ x. x.2) stays) h

-- nobody is closed at first
pub spent_new : (ss : List Session) → Each IsNew ss → AreSpent ss
spent_new [] h = λ i d lt. absurd (omega arith)
spent_new (s ∷ ss) h = spent_cons s ss (λ e. absurd (let x : false ≡ true = sym h.0.closed ∙ e in cc)) (spent_new ss h.1)
