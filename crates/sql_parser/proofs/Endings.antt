-- Nothing stands behind a statement.
use Rattle.std.proofs.Common.{◌≡◌, ◌<◌, ◌≤◌, ℕ, zero, suc, List, [], ◌∷◌, length, drop, refl, sym, ap, subst, ◌∙◌, arith}
use Rattle.std.proofs.lemmas.List.{length-map}
use Rattle.sql_lexer.specs.declared.token.Token.{Token as TextToken}
use Rattle.sql_grammar.specs.Syntax.{Token}
use Rattle.sql_grammar.specs.Rules.{Parsed}
use Rattle.sql_grammar.specs.Reading.{Outcome, took, wrong, deep, bind, read}
use Rattle.sql_grammar.specs.Grammar.{statement}
use Rattle.sql_grammar.specs.Tokens.{seen, token_of}
use Rattle.sql_grammar.specs.Verdict.{at_end, whole}
use Rattle.sql_tokens.specs.Reading.{reading, Fails}
use Rattle.sql_tokens.specs.declared.failing.Failing.{Failing}
use Rattle.sql_tokens.specs.declared.failing.Failing.TheVariants as failing
use Rattle.sql_parser.specs.Answers.{limit}
use Rattle.sql_tokens.proofs.Tokens.{seen_end}

pub ends : (o : Outcome) (v : Parsed) (ts : List TextToken) (at : ℕ) → o ≡ took v (drop at (seen ts)) → length ts ≤ at → bind o at_end ≡ took v (drop at (seen ts))
ends o v ts at h n =
    ap (λ o. bind o at_end) h ∙ ap (λ us. at_end v us) (seen_end ts at n) ∙ ap (λ us. took v us) (sym (seen_end ts at n))

some-left : (n : ℕ) (us : List Token) (v : Parsed) → n < length us → at_end v (drop n us) ≡ wrong (drop n us)
some-left zero [] v h = absurd (omega (arith, h))
some-left zero (t ∷ us) v h = refl
some-left (suc n) [] v h = absurd (omega (arith, h))
some-left (suc n) (t ∷ us) v h = some-left n us v (omega (arith, h))

pub goes_on : (o : Outcome) (v : Parsed) (ts : List TextToken) (at : ℕ) → o ≡ took v (drop at (seen ts)) → at < length ts → bind o at_end ≡ wrong (drop at (seen ts))
goes_on o v ts at h n = ap (λ o. bind o at_end) h ∙ some-left at (seen ts) v (omega (arith, n, length-map ts (λ t. token_of t.kind)))

took-nothing : (o : Outcome) (v : Parsed) (rest : List Token) → bind o at_end ≡ took v rest → bind o at_end ≡ took v []
took-nothing (took w []) v rest q =
    let P : Outcome → Type 0 = λ o. elim o [ took u ts ↦ took w [] ≡ took u [] | wrong ts ↦ ⊥ | deep ts ↦ ⊥ ] in subst P q refl
took-nothing (took w (t ∷ ts)) v rest q = let P : Outcome → Type 0 = λ o. elim o [ took u ts ↦ ⊥ | wrong ts ↦ Unit {0} | deep ts ↦ ⊥ ] in absurd (subst P q tt)
took-nothing (wrong ts) v rest q = let P : Outcome → Type 0 = λ o. elim o [ took u ts ↦ ⊥ | wrong ts ↦ Unit {0} | deep ts ↦ ⊥ ] in absurd (subst P q tt)
took-nothing (deep ts) v rest q = let P : Outcome → Type 0 = λ o. elim o [ took u ts ↦ ⊥ | wrong ts ↦ ⊥ | deep ts ↦ Unit {0} ] in absurd (subst P q tt)

pub whole_ok : (ts rest : List Token) (v : Parsed) → bind (reading statement ts) at_end ≡ took v rest → whole limit ts ≡ took v []
unfolding reading
whole_ok ts rest v h = took-nothing (read limit statement ts) v rest h

pub whole_wrong : (ts rest : List Token) (e : Failing) → e ≡ failing.Wrong → Fails e (bind (reading statement ts) at_end) rest → whole limit ts ≡ wrong rest
unfolding reading
whole_wrong ts rest e q h = let P : Failing → Type 0 = λ f. Fails f (bind (read limit statement ts) at_end) rest in subst P q h

pub whole_deep : (ts rest : List Token) (e : Failing) → e ≡ failing.Deep → Fails e (bind (reading statement ts) at_end) rest → whole limit ts ≡ deep rest
unfolding reading
whole_deep ts rest e q h = let P : Failing → Type 0 = λ f. Fails f (bind (read limit statement ts) at_end) rest in subst P q h
