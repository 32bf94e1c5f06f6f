-- Paths of waits, and what holds of each element of a list.
use Rattle.std.proofs.Common.{◌≡◌, refl, sym, ◌∙◌, List, [], ◌∷◌, ◌++◌}
use Rattle.std.specs.Prelude.{All}
use Rattle.std.proofs.lemmas.List.Elements.{All-nil, All-cons}
use Rattle.dby_types.specs.declared.number.TxnNo.{TxnNo}
use Rattle.lock_modes.specs.declared.cycle.Edge.{Edge}
use Rattle.lock_modes.specs.Waits.{LeadsTo}
use Rattle.deadlock_cycle.specs.Search.{Each, IsPath}

pub each_all : {X : Type 0} (P : X → Type 0) (xs : List X) → Each P xs → All P xs
each_all P [] k = All-nil P
each_all P (x ∷ xs) k = All-cons P x xs k.0 (each_all P xs k.1)

pub each_push : {X : Type 0} (P : X → Type 0) (xs : List X) (y : X) → Each P xs → P y → Each P (xs ++ y ∷ [])
each_push P [] y k h = (h, tt)
each_push P (x ∷ xs) y k h = (k.0, each_push P xs y k.1 h)

pub each_front : {X : Type 0} (P : X → Type 0) (xs : List X) (y : X) → Each P (xs ++ y ∷ []) → Each P xs
each_front P [] y k = tt
each_front P (x ∷ xs) y k = (k.0, each_front P xs y k.1)

pub each_last : {X : Type 0} (P : X → Type 0) (xs : List X) (y : X) → Each P (xs ++ y ∷ []) → P y
each_last P [] y k = k.0
each_last P (x ∷ xs) y k = each_last P xs y k.1

pub each_weaker : {X : Type 0} (P Q : X → Type 0) → ((x : X) → P x → Q x) → (xs : List X) → Each P xs → Each Q xs
each_weaker P Q weaker [] k = tt
each_weaker P Q weaker (x ∷ xs) k = (weaker x k.0, each_weaker P Q weaker xs k.1)

-- a path goes on by an edge
pub path_push : (t node : TxnNo) (path : List Edge) (e : Edge) → IsPath t path node → e.waiter ≡ node → IsPath t (path ++ e ∷ []) e.holder
path_push t node [] e k at = (at ∙ sym k, refl)
path_push t node (p ∷ path) e k at = (k.0, path_push p.holder node path e k.1 at)

-- a path without its last edge
pub path_front : (t node : TxnNo) (path : List Edge) (e : Edge) → IsPath t (path ++ e ∷ []) node → IsPath t path e.waiter
path_front t node [] e k = sym k.0
path_front t node (p ∷ path) e k = (k.0, path_front p.holder node path e k.1)

-- a path whose last edge ends where a given one begins is closed by it
pub path_closes : (first t node : TxnNo) (path : List Edge) (e : Edge) → IsPath t path node → e.waiter ≡ node → e.holder ≡ first → LeadsTo first (path ++ e ∷ [])
path_closes first t node [] e k at to = to
path_closes first t node (p ∷ []) e k at to = (k.1 ∙ sym at, to)
path_closes first t node (p ∷ q ∷ path) e k at to = (sym k.1.0, path_closes first p.holder node (q ∷ path) e k.1 at to)
