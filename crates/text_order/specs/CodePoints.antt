-- Texts as the code points that they spell.
use Rattle.std.specs.Prelude.{◌≡◌, ℕ, ◌-◌, true, List, ◌++◌, length, replicate}
use Rattle.std.specs.Ordering.{nat_cmp}
use Rattle.std.specs.Cmp.Lexicographic.{slice_cmp}
use Rattle.std.specs.Str.{all_scalars, encode_utf8_all}
use Rattle.std.specs.declared.cmp.Ordering.{Ordering}
use Rattle.dby_types.specs.declared.value.Value.TheVariants.{Text}
use Rattle.value_compare.specs.Order.{value_cmp}

-- a list with blanks at its end, up to a length
abbrev pub padded : ℕ → List ℕ → List ℕ
padded n cs = cs ++ replicate (n - length cs) 32

-- the order of code points: the shorter list is padded, and then the first difference decides
abbrev pub code_points_cmp : List ℕ → List ℕ → Ordering
code_points_cmp cs ds = slice_cmp nat_cmp (padded (length ds) cs) (padded (length cs) ds)

-- an order of bytes that is the order of the code points which they spell in UTF-8
abbrev pub FollowsCodePoints : (List ℕ → List ℕ → Ordering) → Type 0
FollowsCodePoints order = (cs ds : List ℕ) → all_scalars cs ≡ true → all_scalars ds ≡ true → order (encode_utf8_all cs) (encode_utf8_all ds) ≡ code_points_cmp cs ds

-- the order of values that are texts
abbrev pub text_value_cmp : List ℕ → List ℕ → Ordering
text_value_cmp a b = value_cmp (Text a) (Text b)
