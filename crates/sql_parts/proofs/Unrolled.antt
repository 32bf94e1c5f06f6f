-- A repeated rule is read one at a time: how many tokens are left makes no difference.
use Rattle.std.proofs.Common.{◌≡◌, ◌<◌, ℕ, zero, suc, List, [], ◌∷◌, ◌++◌, true, false, Option, refl, sym, ap, subst, ◌∙◌, arith, cond, length, length-append}
use Rattle.std.proofs.lemmas.Bool.{false≢true}
use Rattle.sql_grammar.specs.Syntax.{Token}
use Rattle.sql_grammar.specs.Machine.{start}
use Rattle.sql_grammar.specs.Rules.{Rule, many, Parsed, nothing, pair}
use Rattle.sql_grammar.specs.Reading.{Outcome, took, wrong, deep, bind, starts, begins, is_nullable, read_many, read}
use Rattle.sql_grammar.proofs.Walking.{IsShallow}
use Rattle.sql_grammar.proofs.Telling.{Tells, tells}
use Rattle.sql_grammar.proofs.Exact.{Opens, opens}

longer : (a : Rule) (us rest ts : List Token) → is_nullable a ≡ false → Opens a us → ts ≡ us ++ rest → length rest < length ts
longer a [] rest ts n h q = absurd (false≢true (sym n ∙ h))
longer a (t ∷ us) rest ts n h q = omega (arith, ap (λ z. length z) q, length-append us rest)

pub shorter : (l : Option ℕ) → IsShallow l start → (a : Rule) → is_nullable a ≡ false → (ts rest : List Token) (v : Parsed) → read l a ts ≡ took v rest → length rest < length ts
shorter l h a n ts rest v q =
    let P : Outcome → Type 0 = λ o. Tells l a ts o in
    let (us, p, A) = subst P q (tells l h a ts) in
    longer a us rest ts n (opens l a us v A) p

both : (o : Outcome) (f g : List Token → Outcome) → ((v : Parsed) (rest : List Token) → o ≡ took v rest → f rest ≡ g rest)
    → bind o (λ v us. bind (f us) (λ vs rest. took (pair v vs) rest)) ≡ bind o (λ v us. bind (g us) (λ vs rest. took (pair v vs) rest))
both (took v rest) f g h = ap (λ o. bind o (λ vs rest. took (pair v vs) rest)) (h v rest refl)
both (wrong rest) f g h = refl
both (deep rest) f g h = refl

fuel : (l : Option ℕ) → IsShallow l start → (a : Rule) → is_nullable a ≡ false → (i j : ℕ) (ts : List Token) → length ts < i → length ts < j
    → read_many (read l a) (begins a) i ts ≡ read_many (read l a) (begins a) j ts
fuel l h a n zero j ts p q = absurd (omega (arith, p))
fuel l h a n (suc i) zero ts p q = absurd (omega (arith, q))
fuel l h a n (suc i) (suc j) ts p q =
    ap (λ o. cond (starts (begins a) ts) o (took nothing ts))
    (both (read l a ts) (read_many (read l a) (begins a) i) (read_many (read l a) (begins a) j)
    (λ v rest e. fuel l h a n i j rest (omega (arith, p, shorter l h a n ts rest v e)) (omega (arith, q, shorter l h a n ts rest v e))))

pub many_next : (l : Option ℕ) → IsShallow l start → (a : Rule) → is_nullable a ≡ false → (ts : List Token) → starts (begins a) ts ≡ true
    → read l (many a) ts ≡ bind (read l a ts) (λ v us. bind (read l (many a) us) (λ vs rest. took (pair v vs) rest))
many_next l h a n ts s =
    ap (λ b. cond b (bind (read l a ts) (λ v us. bind (read_many (read l a) (begins a) (length ts) us) (λ vs rest. took (pair v vs) rest))) (took nothing ts)) s
    ∙ both (read l a ts) (read_many (read l a) (begins a) (length ts)) (read l (many a))
    (λ v rest e. fuel l h a n (length ts) (suc (length rest)) rest (shorter l h a n ts rest v e) (omega arith))

pub many_ends : (l : Option ℕ) (a : Rule) (ts : List Token) → starts (begins a) ts ≡ false → read l (many a) ts ≡ took nothing ts
many_ends l a ts s =
    ap (λ b. cond b (bind (read l a ts) (λ v us. bind (read_many (read l a) (begins a) (length ts) us) (λ vs rest. took (pair v vs) rest))) (took nothing ts)) s
