-- What has been read so far.
use Rattle.std.proofs.Common.{◌≡◌, ℕ, List, [], ◌++◌, take, drop, refl, sym, ap, ◌∙◌, Option, Some, None, Ok, append-nil, append_assoc}
use Rattle.std.proofs.lemmas.List.{take-append-drop}
use Rattle.device.specs.Streams.{Content, Reads}

-- from old to now these bytes were read
abbrev pub HasRead : Option Content → Option Content → List ℕ → Type 0
HasRead None None bytes = Unit {0}
HasRead (Some old) (Some now) bytes = (now.given ≡ old.given ++ bytes) × (old.left ≡ bytes ++ now.left)
HasRead None (Some now) bytes = ⊥
HasRead (Some old) None bytes = ⊥

pub read-nothing : (c : Option Content) → HasRead c c []
read-nothing None = tt
read-nothing (Some c) = (sym (append-nil c.given), refl)

pub read-more : (old now next : Option Content) (bytes buffer into : List ℕ) (n : ℕ) → HasRead old now bytes → Reads now next (Ok n) buffer into → HasRead old next (bytes ++ take n into)
read-more None None None bytes buffer into n h r = tt
read-more None None (Some next) bytes buffer into n h r = absurd r
read-more None (Some now) next bytes buffer into n h r = absurd h
read-more (Some old) None next bytes buffer into n h r = absurd h
read-more (Some old) (Some now) None bytes buffer into n h r = absurd r
read-more (Some old) (Some now) (Some next) bytes buffer into n h r =
    let given : next.given ≡ old.given ++ (bytes ++ take n into) =
    r.given ∙ ap (λ xs. xs ++ take n now.left) h.0 ∙ append_assoc old.given bytes (take n now.left) ∙ ap (λ xs. old.given ++ (bytes ++ xs)) (sym r.bytes) in
    let left : old.left ≡ bytes ++ take n into ++ next.left =
    h.1 ∙ ap (λ xs. bytes ++ xs) (sym (take-append-drop n now.left)) ∙ sym (append_assoc bytes (take n now.left) (drop n now.left))
    ∙ ap (λ xs. bytes ++ xs ++ drop n now.left) (sym r.bytes) ∙ ap (λ xs. bytes ++ take n into ++ xs) (sym r.left) in
    (given, left)
