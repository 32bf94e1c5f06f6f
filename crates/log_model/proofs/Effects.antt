-- What steps make of what a state stands for, and rows as places.
use Rattle.std.proofs.Common.{◌≡◌, ℕ, List, [], ◌∷◌, ◌++◌, false, Option, refl, ap, arith}
use Rattle.std.specs.Prelude.{if◌then◌else◌, ◌&&◌, ◌==◌}
use Rattle.std.proofs.lemmas.Bool.Decides.{nat_tests}
use Rattle.dby_types.specs.declared.number.RowId.{RowId}
use Rattle.dby_types.specs.declared.value.Value.{Value}
use Rattle.table_model.specs.Tables.{is_same_rid}
use Rattle.table_model.specs.Tables as tables
use Rattle.log_model.specs.Places.{reversed, Database, Same, Change, put, row_place, container_place, is_same, tables_of, taken_back}
use Rattle.log_model.specs.Steps.{Step}
use Rattle.log_model.specs.Steps.Step.{change, compensation, commit, rolled_back, silent}
use Rattle.log_model.specs.States.{State, MayFollow, IsLegal, IsSound, stepped, after, recovered}
use Rattle.log_model.specs.Effects.{stands_for}
use Rattle.log_model.proofs.Puts.{put_back, taken_back_same}
use Rattle.log_model.proofs.Lists.{without_none}
use Rattle.log_model.proofs.Undoing.{commit_sound, undo_sound}
use Rattle.log_model.proofs.States.{after_append, legal_append}

module _ {X : Type 0} where
  pub legal_push : (s : State X) (log : List (Step X)) (r : Step X) → IsLegal s log → MayFollow (after s log) r → IsLegal s (log ++ r ∷ [])
  legal_push s log r legal may = legal_append s log (r ∷ []) legal (may, tt)

  pub after_push : (s : State X) (log : List (Step X)) (r : Step X) → after s (log ++ r ∷ []) ≡ stepped (after s log) r
  after_push s log r = after_append s log (r ∷ [])

  pub step_stands : (base : Database X) (s : State X) (r : Step X) → IsSound base s → MayFollow s r → Same (recovered (stepped s r)) (stands_for s r)
  step_stands base s (change c) ok may p = taken_back_same s.standing _ _ (put_back s.shown c.place c.after c.before may.1) p
  step_stands base s (compensation c) ok may p = undo_sound c.txn s.standing s.shown (reversed c) may.1 ok.apart p
  step_stands base s (commit t) ok may p = commit_sound t s.standing s.shown ok.apart ok.stacked p
  step_stands base s (rolled_back t) ok may p = ap (λ (x : List (Change X)). taken_back x s.shown p) (without_none t s.standing may.1)
  step_stands base s silent ok may p = refl

-- a row's place, and a container's own
pub row_same : (table t : ℕ) (rid r : RowId) → is_same (row_place t r) (row_place table rid) ≡ ((t == table) && is_same_rid r rid)
row_same table t rid r = grind (arith, nat_tests)

pub row_put : (d : Database (Option (List Value))) (table t : ℕ) (rid r : RowId) (x : Option (List Value)) → tables_of (put d (row_place table rid) x) t r ≡ tables.put (tables_of d) table rid x t r
row_put d table t rid r x = ap (λ b. if b then x else d (row_place t r)) (row_same table t rid r)

pub container_other : (n t : ℕ) (r : RowId) → is_same (row_place t r) (container_place n) ≡ false
container_other n t r = grind (arith, nat_tests)

pub container_put : (d : Database (Option (List Value))) (n t : ℕ) (r : RowId) (x : Option (List Value)) → tables_of (put d (container_place n) x) t r ≡ tables_of d t r
container_put d n t r x = ap (λ b. if b then x else d (row_place t r)) (container_other n t r)
