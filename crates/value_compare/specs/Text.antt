-- Texts, of which trailing blanks don't count.
use Rattle.std.specs.Prelude.{ℕ, List, [], ◌∷◌, ◌==◌, if◌then◌else◌}
use Rattle.std.specs.Ordering.{nat_cmp, ordering_then}
use Rattle.std.specs.declared.cmp.Ordering.{Ordering}
use Rattle.std.specs.declared.cmp.Ordering.TheVariants.{Equal}

-- the order of texts: byte by byte, as if the shorter one were padded with blanks
abbrev pub text_cmp : List ℕ → List ℕ → Ordering
text_cmp [] [] = Equal
text_cmp [] (y ∷ ys) = ordering_then (nat_cmp 32 y) (text_cmp [] ys)
text_cmp (x ∷ xs) [] = ordering_then (nat_cmp x 32) (text_cmp xs [])
text_cmp (x ∷ xs) (y ∷ ys) = ordering_then (nat_cmp x y) (text_cmp xs ys)

-- a byte before a text without trailing blanks
abbrev pub with_first : ℕ → List ℕ → List ℕ
with_first b [] = if b == 32 then [] else b ∷ []
with_first b (c ∷ cs) = b ∷ c ∷ cs

-- a text without its trailing blanks
abbrev pub trimmed_text : List ℕ → List ℕ
trimmed_text [] = []
trimmed_text (b ∷ bs) = with_first b (trimmed_text bs)
