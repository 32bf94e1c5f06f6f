-- The tuples of INSERT: "(" item { "," item } ")" { "," "(" item { "," item } ")" }, an item being NULL or a number with its signs.
use Rattle.std.specs.Prelude.{ℕ, ℤ, pos, negsuc, zero, suc, List, [], ◌∷◌, ◌++◌, Option, Some, None, Bool, true, false, ◌||◌, nat_lt, nat_le, codes, if◌then◌else◌}
use Rattle.dby_types.specs.declared.value.Value.{Value}
use Rattle.dby_types.specs.declared.value.Value.TheVariants.{Null, Num}
use Rattle.sql_lexer.specs.declared.token.Token.{Token}
use Rattle.sql_lexer.specs.declared.token.TokenKind.{TokenKind}
use Rattle.sql_lexer.specs.declared.token.TokenKind.TheVariants.{Number}
use Rattle.sql_forms.specs.declared.tuples.TuplesAt.{TuplesAt}
use Rattle.sql_forms.specs.declared.tuples.TuplesAt.TheVariants.{Open, Item, Signed, Next, Done, Failed}
use Rattle.sql_forms.specs.Words.{is_word, is_open, is_close, is_comma, is_plus, is_minus}

-- the greatest number is accepted behind a minus alone
abbrev pub is_number : Bool → TokenKind → Bool
is_number true (Number n) = nat_le n 9223372036854775808
is_number false (Number n) = nat_lt n 9223372036854775808
is_number negative _ = false

-- what is wanted behind a token
abbrev pub next_tuple : TuplesAt → TokenKind → TuplesAt
next_tuple Open t = if is_open t then Item else Failed
next_tuple Item t =
    if is_word (codes "NULL") t || is_number false t then Next
    else if is_minus t then Signed true else if is_plus t then Signed false else Failed
next_tuple (Signed negative) t = if is_number negative t then Next else Failed
next_tuple Next t = if is_comma t then Item else if is_close t then Done else Failed
next_tuple Done t = if is_comma t then Open else Failed
next_tuple Failed t = Failed

abbrev pub minus : ℕ → ℤ
minus zero = pos 0
minus (suc k) = negsuc k

abbrev pub signed : Bool → ℕ → ℤ
signed true n = minus n
signed false n = pos n

-- the value of a number
abbrev pub number_value : Bool → TokenKind → List Value
number_value negative (Number n) = if is_number negative (Number n) then Num (signed negative n) ∷ [] else []
number_value negative _ = []

-- the items that a token gives
abbrev pub items_at : TuplesAt → TokenKind → List Value
items_at Item t = if is_word (codes "NULL") t then Null ∷ [] else number_value false t
items_at (Signed negative) t = number_value negative t
items_at _ t = []

-- what stays of the tuple so far: at its end it begins anew
abbrev pub tuple_kept : TuplesAt → List Value → TokenKind → List Value
tuple_kept Next tuple t = if is_close t then [] else tuple
tuple_kept _ tuple t = tuple

-- the tuple so far
abbrev pub tuple_after : TuplesAt → List Value → TokenKind → List Value
tuple_after at tuple t = tuple_kept at tuple t ++ items_at at t

-- the tuple that ends at a token
abbrev pub tuple_at : TuplesAt → List Value → TokenKind → List (List Value)
tuple_at Next tuple t = if is_close t then tuple ∷ [] else []
tuple_at _ tuple t = []

abbrev pub tuples_from : TuplesAt → List Value → List Token → List (List Value)
tuples_from at tuple [] = []
tuples_from at tuple (t ∷ ts) =
    tuple_at at tuple t.kind ++ tuples_from (next_tuple at t.kind) (tuple_after at tuple t.kind) ts

abbrev pub tuples_end : TuplesAt → List Token → TuplesAt
tuples_end at [] = at
tuples_end at (t ∷ ts) = tuples_end (next_tuple at t.kind) ts

abbrev pub if_ended : TuplesAt → List (List Value) → Option (List (List Value))
if_ended Done tuples = Some tuples
if_ended _ tuples = None

-- the tuples that tokens spell, if they spell tuples
abbrev pub tuples_in : List Token → Option (List (List Value))
tuples_in ts = if_ended (tuples_end Open ts) (tuples_from Open [] ts)
