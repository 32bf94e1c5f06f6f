-- How spans and tokens lie in their text.
use Rattle.std.specs.Prelude.{◌≡◌, ◌+◌, ◌<◌, ◌≤◌, ℕ, List, [], ◌∷◌, ◌++◌, length, Bool, true, false, not, ◌&&◌, ◌||◌, ◌==◌}
use Rattle.sql_lexer.specs.Bytes.{is_blank, begins_comment}
use Rattle.sql_lexer.specs.Kinds.{kind_of}
use Rattle.sql_lexer.specs.Tokens.{span_of}
use Rattle.sql_lexer.specs.declared.token.Span.{Span}
use Rattle.sql_lexer.specs.declared.token.Token.{Token}

-- spans one behind the other, none of them empty, from `low` on and not past `end`
abbrev pub AreInOrder : ℕ → ℕ → List Span → Type 0
AreInOrder low end [] = low ≤ end
AreInOrder low end (s ∷ ss) = (low ≤ s.from) × (s.from < s.to) × AreInOrder s.to end ss

-- blanks and comments alone; `comment` says that a comment is open before them
abbrev pub is_blank_text : Bool → List ℕ → Bool
is_blank_text comment [] = true
is_blank_text false (b ∷ bs) = (is_blank b && is_blank_text false bs) || (begins_comment b bs && is_blank_text true bs)
is_blank_text true (b ∷ bs) = is_blank_text (not (b == 10)) bs

-- a text from `at` on begins with a token, behind a gap of blanks and comments, and the rest follows
pub record BeginsWith (at : ℕ) (text : List ℕ) (t : Token) (rest : List ℕ) : Type 0 where
  pub gap : List ℕ
  pub spelling : List ℕ
  pub cut : text ≡ gap ++ (spelling ++ rest)
  pub blank : is_blank_text false gap ≡ true
  pub some : 0 < length spelling
  pub span : t.span ≡ span_of (at + length gap) (at + length gap + length spelling)
  pub kind : t.kind ≡ kind_of spelling

-- a text from `at` on has these tokens and, between them, blanks and comments alone
abbrev pub HasTokens : ℕ → List ℕ → List Token → Type 0
HasTokens at text [] = is_blank_text false text ≡ true
HasTokens at text (t ∷ ts) = (rest : List ℕ) × (BeginsWith at text t rest × HasTokens t.span.to rest ts)
