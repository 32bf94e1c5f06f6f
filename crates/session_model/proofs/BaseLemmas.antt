-- Facts about worlds, with no step in them.
use Rattle.std.proofs.Common.{◌≡◌, ℕ, ◌+◌, ◌≤◌, List, [], ◌∷◌, ◌++◌, length, refl, ◌∙◌, ap, arith}
use Rattle.std.proofs.Math.Seq.{take-length}
use Rattle.std.proofs.lemmas.List.{take-append-le}
use Rattle.journal_model.specs.declared.journal.Entry.{Entry}
use Rattle.journal_model.specs.declared.journal.Entry.TheVariants.{Started, Did, Undone, Answered, Refused, Committed, Acknowledged, RolledBack}
use Rattle.table_model.specs.Tables.{Tables}
use Rattle.session_model.specs.World.{World, apply, replay, opening, world_at}

pub replay_push : (w : World) (es : List Entry) (e : Entry) → replay w (es ++ e ∷ []) ≡ apply (replay w es) e
replay_push w [] e = refl
replay_push w (x ∷ es) e = replay_push (apply w x) es e

pub world_end : (f : Tables) (es : List Entry) → world_at f es (length es) ≡ replay (opening f) es
world_end f es = ap (replay (opening f)) (take-length es)

pub world_before : (f : Tables) (es : List Entry) (e : Entry) (i : ℕ) → i ≤ length es → world_at f (es ++ e ∷ []) i ≡ world_at f es i
world_before f es e i h = ap (replay (opening f)) (take-append-le i es (e ∷ []) h)

-- the world counts the entries
count_apply : (w : World) (e : Entry) → (apply w e).count ≡ w.count + 1
count_apply w (Started t c level statement) = refl
count_apply w (Did t table rid old new) = refl
count_apply w (Undone t did) = refl
count_apply w (Answered t answer joined from to) = refl
count_apply w (Refused t why) = refl
count_apply w (Committed t) = refl
count_apply w (Acknowledged t) = refl
count_apply w (RolledBack t) = refl

pub count_is : (w : World) (es : List Entry) → (replay w es).count ≡ w.count + length es
count_is w [] = omega arith
count_is w (e ∷ es) = count_is (apply w e) es ∙ ap (λ n. n + length es) (count_apply w e) ∙ omega arith

-- the tables at the opening stay known
opened_apply : (w : World) (e : Entry) → (apply w e).opened ≡ w.opened
opened_apply w (Started t c level statement) = refl
opened_apply w (Did t table rid old new) = refl
opened_apply w (Undone t did) = refl
opened_apply w (Answered t answer joined from to) = refl
opened_apply w (Refused t why) = refl
opened_apply w (Committed t) = refl
opened_apply w (Acknowledged t) = refl
opened_apply w (RolledBack t) = refl

pub opened_is : (w : World) (es : List Entry) → (replay w es).opened ≡ w.opened
opened_is w [] = refl
opened_is w (e ∷ es) = opened_is (apply w e) es ∙ opened_apply w e
