-- What stays right under the steps of others: proved once.
use Rattle.std.proofs.Common.{◌≡◌, ◌≢◌, ℕ, List, [], true, false, sym, ◌∙◌, ap, subst, inl, inr}
use Rattle.std.specs.Prelude.{◌⊎◌}
use Rattle.std.proofs.lemmas.Bool.{cases_eq}
use Rattle.dby_types.specs.declared.number.RowId.{RowId}
use Rattle.table_model.specs.Tables.{Made, Each, laid_over}
use Rattle.table_model.proofs.TablesLemmas.{each_map}
use Rattle.journal_model.specs.Legal.{CommitsFit}
use Rattle.session_model.specs.Orders.{order_of}
use Rattle.session_model.specs.World.{World, Txn, Pin, is_ended}
use Rattle.session_model.specs.Places.{Locks, Fits, ReadsCatalog, Written, Stacked, Fitting, touches, TxnHolds, PinRests, Shared, Others}
use Rattle.session_model.proofs.PlaceLemmas.{stacked_at, laid_over_same}
use Rattle.session_model.proofs.FitLemmas.{meant_same}

-- what a pin asks of a step
pub record Keeps (t : ℕ) (w : World) (l : Locks) (w' : World) (l' : Locks) : Type 0 where
  pub alive : is_ended (w'.txns t).stage ≡ false → is_ended (w.txns t).stage ≡ false
  pub reads : is_ended (w'.txns t).stage ≡ false → (table : ℕ) (rid : RowId) → l.reads t table rid ≡ true → l'.reads t table rid ≡ true
  pub committed : is_ended (w'.txns t).stage ≡ false → (table : ℕ) (rid : RowId) → l.reads t table rid ≡ true → w'.committed table rid ≡ w.committed table rid

pub others_keep : (t : ℕ) (w : World) (l : Locks) (w' : World) (l' : Locks) → Others t w l w' l' → Keeps t w l w' l'
others_keep t w l w' l' s = record { alive = λ e. ap (λ (x : Txn). is_ended x.stage) (sym s.txn) ∙ e; reads = λ e. s.reads; committed = λ e. s.committed }

pub pin_stable : (p : Pin) (w : World) (l : Locks) (w' : World) (l' : Locks) → Keeps p.txn w l w' l' → PinRests w l p → PinRests w' l' p
pin_stable p w l w' l' s h = λ alive owed.
    let r = h (s.alive alive) owed in
    let same : (table : ℕ) (rid : RowId) → l.reads p.txn table rid ≡ true → laid_over p.before w.committed table rid ≡ laid_over p.before w'.committed table rid =
    λ table rid x. laid_over_same p.before w.committed w'.committed table rid (sym (s.committed alive table rid x)) in
    record {
      catalog = λ table rid c. s.reads alive table rid (r.catalog table rid c);
      number = r.number;
      rows = λ rid. s.reads alive r.number rid (r.rows rid);
      meant = meant_same (order_of p.text) p.text (laid_over p.before w.committed) (laid_over p.before w'.committed) r.number p.told p.before p.after
          (λ table rid c. same table rid (r.catalog table rid c)) (λ rid. same r.number rid (r.rows rid)) r.meant;
    }

pub pins_stable : (a : ℕ) (w : World) (l : Locks) (w' : World) (l' : Locks) → ((t : ℕ) → t ≢ a → Others t w l w' l') → Keeps a w l w' l'
    → (ps : List Pin) → Each (PinRests w l) ps → Each (PinRests w' l') ps
pins_stable a w l w' l' others own ps h = each_map (PinRests w l) (PinRests w' l') (λ p k. elim (cases_eq p.txn a) [
  | inl e ↦ pin_stable p w l w' l' (subst (λ t. Keeps t w l w' l') (sym e) own) k
  | inr ne ↦ pin_stable p w l w' l' (others_keep p.txn w l w' l' (others p.txn ne)) k
]) ps h

pub lawful_stable : (t : ℕ) (ms : List Made) (l l' : Locks) → ((table : ℕ) (rid : RowId) → l.reads t table rid ≡ true → l'.reads t table rid ≡ true)
    → ((ms ≡ []) ⊎ ReadsCatalog l t) → ((ms ≡ []) ⊎ ReadsCatalog l' t)
lawful_stable t ms l l' more h = elim h [ inl none ↦ inl none | inr r ↦ inr (λ table rid c. more table rid (r table rid c)) ]

pub txn_stable : (t : ℕ) (w : World) (l : Locks) (w' : World) (l' : Locks) → Fits l → Others t w l w' l'
    → ((table : ℕ) (rid : RowId) → l'.reads t table rid ≡ true → l.reads t table rid ≡ true)
    → Fitting w'.committed (w.txns t).changes → TxnHolds w l t → TxnHolds w' l' t
txn_stable t w l w' l' fits s back fitting h =
    let write : (ms : List Made) → Written l t ms → Written l' t ms = λ ms k.
    each_map (λ m. l.writes t m.change.table m.change.rid ≡ true) (λ m. l'.writes t m.change.table m.change.rid ≡ true) (λ m x. s.writes m.change.table m.change.rid x) ms k in
    record {
      owned = subst (λ (x : Txn). Written l' t x.changes) (sym s.txn) (write (w.txns t).changes h.owned);
      kept = subst (λ (x : Txn). Written l' t x.standing) (sym s.txn) (write (w.txns t).standing h.kept);
      stacked = subst (λ (x : Txn). Stacked w'.committed x.changes) (sym s.txn)
          (stacked_at (w.txns t).changes w.committed w'.committed (each_map (λ m. l.writes t m.change.table m.change.rid ≡ true) (λ m. w'.committed m.change.table m.change.rid ≡ w.committed m.change.table m.change.rid)
          (λ m x. s.committed m.change.table m.change.rid (fits.writer_reads t m.change.table m.change.rid x)) (w.txns t).changes h.owned) h.stacked);
      fitting = subst (λ (x : Txn). Fitting w'.committed x.changes) (sym s.txn) fitting;
      lawful = subst (λ (x : Txn). (x.changes ≡ []) ⊎ ReadsCatalog l' t) (sym s.txn) (lawful_stable t (w.txns t).changes l l' s.reads h.lawful);
      seen = λ table rid r. let m : l.reads t table rid ≡ true = back table rid r in
          s.current table rid m ∙ h.seen table rid m ∙ laid_over_same (w.txns t).changes w.committed w'.committed table rid (sym (s.committed table rid m))
          ∙ ap (λ (x : Txn). laid_over x.changes w'.committed table rid) (sym s.txn);
    }

-- a step of `a` that keeps its guarantee to everyone else, and its own part, keeps the whole
pub kept : (a : ℕ) (w : World) (l : Locks) (w' : World) (l' : Locks)
    → ((t : ℕ) → t ≢ a → Others t w l w' l') → ((t : ℕ) → t ≢ a → (table : ℕ) (rid : RowId) → l'.reads t table rid ≡ true → l.reads t table rid ≡ true)
    → ((t : ℕ) → t ≢ a → Fitting w'.committed (w.txns t).changes)
    → TxnHolds w' l' a → Fits l' → CommitsFit w'.committed
    → ((table : ℕ) (rid : RowId) → ((u : ℕ) → touches (w'.txns u).changes table rid ≡ false) → w'.current table rid ≡ w'.committed table rid)
    → Each (PinRests w' l') w'.pins
    → Shared w l → Shared w' l'
kept a w l w' l' others back fitting own fits commits clean pins s = record {
  fits = fits;
  commits = commits;
  clean = clean;
  txns = λ t. elim (cases_eq t a) [ inl e ↦ subst (TxnHolds w' l') (sym e) own | inr ne ↦ txn_stable t w l w' l' s.fits (others t ne) (back t ne) (fitting t ne) (s.txns t) ];
  pins = pins;
}
