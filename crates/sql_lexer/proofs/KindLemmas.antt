-- Numbers spelled by digits.
use Rattle.std.proofs.Common.{◌≡◌, ℕ, suc, ◌<◌, ◌≤◌, List, [], ◌∷◌, length, get_or, drop, drop-cons, sym, ap, arith}
use Rattle.std.proofs.lemmas.Bool.Decides.{nat_tests}
use Rattle.sql_lexer.specs.Kinds.{with_digit, number_from, number_of}
use Rattle.sql_lexer.specs.declared.token.TokenKind.TheVariants.{Bad}

-- further digits make no number smaller
pub number_from-grows : (n : ℕ) (bs : List ℕ) → n ≤ number_from n bs
number_from-grows n [] = omega arith
number_from-grows n (b ∷ bs) = omega (arith, number_from-grows (with_digit n b) bs)

number_of-large : (digits : List ℕ) → 9223372036854775808 < number_from 0 digits → number_of digits ≡ Bad
number_of-large digits h = grind (arith, nat_tests)

-- digits whose front is past the greatest number spell none
pub number_of-past : (n i : ℕ) (digits : List ℕ) → i < length digits → number_from n (drop i digits) ≡ number_from 0 digits → 9223372036854775808 < with_digit n (get_or digits i 0) → Bad ≡ number_of digits
number_of-past n i digits h e past =
    let step : number_from n (drop i digits) ≡ number_from (with_digit n (get_or digits i 0)) (drop (suc i) digits) = ap (number_from n) (drop-cons digits i 0 h) in
    let grows : with_digit n (get_or digits i 0) ≤ number_from (with_digit n (get_or digits i 0)) (drop (suc i) digits) = number_from-grows (with_digit n (get_or digits i 0)) (drop (suc i) digits) in
    sym (number_of-large digits (omega arith))
