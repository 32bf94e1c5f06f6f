-- What is lent, as what it is.
use Rattle.std.specs.Prelude.{ℕ, List, [], ◌∷◌, Option, Some, None}
use Rattle.std.specs.Borrow.{Bor}

abbrev pub lent : {X : Type 0} → Option (Bor X) → Option X
lent None = None
lent (Some x) = Some x.now

abbrev pub texts : List (Bor (List ℕ)) → List (List ℕ)
texts [] = []
texts (t ∷ ts) = t.now ∷ texts ts
