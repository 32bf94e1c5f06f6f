-- The token behind a name.
use Rattle.std.proofs.Common.{◌≡◌, ℕ, List, [], ◌∷◌, Bool, true, false, refl, sym, Option, Some}
use Rattle.std.proofs.lemmas.Bool.{false≢true}
use Rattle.sql_grammar.specs.Machine as m
use Rattle.sql_grammar.specs.Tokens.{token_from}
use Rattle.sql_grammar.specs.declared.symbol.Symbol.{Symbol}
use Rattle.sql_grammar.specs.declared.symbol.Symbol.TheVariants as symbol
use Rattle.sql_expressions.specs.Shape.{is_dot}

pub named_dot : (x : Symbol) (n : List ℕ) (name : List ℕ) (k : m.Level) (out : m.Outer) → is_dot x ≡ true → m.named (token_from x n) name k out ≡ Some (m.state (m.Dotted name) k out)
named_dot symbol.Or n name k out h = absurd (false≢true h)
named_dot symbol.And n name k out h = absurd (false≢true h)
named_dot symbol.Not n name k out h = absurd (false≢true h)
named_dot symbol.Is n name k out h = absurd (false≢true h)
named_dot symbol.Null n name k out h = absurd (false≢true h)
named_dot symbol.Between n name k out h = absurd (false≢true h)
named_dot symbol.In n name k out h = absurd (false≢true h)
named_dot symbol.Dot n name k out h = refl
named_dot symbol.Open n name k out h = absurd (false≢true h)
named_dot symbol.Close n name k out h = absurd (false≢true h)
named_dot symbol.Comma n name k out h = absurd (false≢true h)
named_dot symbol.Huge n name k out h = absurd (false≢true h)
named_dot symbol.Bad n name k out h = absurd (false≢true h)
named_dot (symbol.Compare c) n name k out h = absurd (false≢true h)
named_dot (symbol.Sum c) n name k out h = absurd (false≢true h)
named_dot (symbol.Product c) n name k out h = absurd (false≢true h)
named_dot (symbol.Call c) n name k out h = absurd (false≢true h)
named_dot (symbol.Number c) n name k out h = absurd (false≢true h)
named_dot symbol.Text n name k out h = absurd (false≢true h)
named_dot (symbol.Truth c) n name k out h = absurd (false≢true h)
named_dot (symbol.Key c) n name k out h = absurd (false≢true h)
named_dot (symbol.Name c) n name k out h = absurd (false≢true h)

pub named_other : (x : Symbol) (n : List ℕ) (name : List ℕ) (k : m.Level) (out : m.Outer) → is_dot x ≡ false → m.named (token_from x n) name k out ≡ m.behind (token_from x n) (m.Named name) k out
named_other symbol.Or n name k out h = refl
named_other symbol.And n name k out h = refl
named_other symbol.Not n name k out h = refl
named_other symbol.Is n name k out h = refl
named_other symbol.Null n name k out h = refl
named_other symbol.Between n name k out h = refl
named_other symbol.In n name k out h = refl
named_other symbol.Dot n name k out h = absurd (false≢true (sym h))
named_other symbol.Open n name k out h = refl
named_other symbol.Close n name k out h = refl
named_other symbol.Comma n name k out h = refl
named_other symbol.Huge n name k out h = refl
named_other symbol.Bad n name k out h = refl
named_other (symbol.Compare c) n name k out h = refl
named_other (symbol.Sum c) n name k out h = refl
named_other (symbol.Product c) n name k out h = refl
named_other (symbol.Call c) n name k out h = refl
named_other (symbol.Number c) n name k out h = refl
named_other symbol.Text n name k out h = refl
named_other (symbol.Truth c) n name k out h = refl
named_other (symbol.Key c) n name k out h = refl
named_other (symbol.Name c) n name k out h = refl
