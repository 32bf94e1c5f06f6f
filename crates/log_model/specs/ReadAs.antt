-- A database read otherwise: bytes as the rows that they are, say, or rows without their marks.
use Rattle.std.specs.Prelude.{List, [], ◌∷◌}
use Rattle.log_model.specs.Places.{Place, Database, Change}

-- at each place what a function makes of what stands there
abbrev pub read_as : {X Y : Type 0} → (Place → X → Y) → Database X → Database Y
read_as f d = λ p. f p (d p)

abbrev pub change_as : {X Y : Type 0} → (Place → X → Y) → Change X → Change Y
change_as f c = record { txn = c.txn; place = c.place; before = f c.place c.before; after = f c.place c.after }

abbrev pub changes_as : {X Y : Type 0} → (Place → X → Y) → List (Change X) → List (Change Y)
changes_as f [] = []
changes_as f (c ∷ cs) = change_as f c ∷ changes_as f cs

abbrev pub commits_as : {X Y : Type 0} → (Place → X → Y) → List (List (Change X)) → List (List (Change Y))
commits_as f [] = []
commits_as f (cs ∷ css) = changes_as f cs ∷ commits_as f css
