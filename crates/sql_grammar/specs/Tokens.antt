-- What a token of a text is to the grammar: a keyword, a name, a number, a text, a sign.
use Rattle.std.specs.Prelude.{ℕ, List, [], true, false, map, length, codes, ◌==◌, if◌then◌else◌}
use Rattle.std.specs.Str.{bytes_eq}
use Rattle.sql_lexer.specs.declared.token.TokenKind.{TokenKind}
use Rattle.sql_lexer.specs.declared.token.TokenKind.TheVariants as kind
use Rattle.sql_lexer.specs.declared.token.Token.{Token as TextToken}
use Rattle.sql_lexer.specs.declared.token.Sign.{Sign}
use Rattle.sql_lexer.specs.declared.token.Sign.TheVariants as sign
use Rattle.sql_lexer.specs.Tokens.{tokens_of}
use Rattle.sql_ast.specs.declared.expression.Comparison.TheVariants as compared
use Rattle.sql_grammar.specs.Syntax.{plus, minus, times, over, count, total, least, greatest, Token, or, and, is, null, between, in_, dot, open_, close, comma, huge, bad, compare, sum, product, call, number, text, truth, key as keyword, name}
use Rattle.sql_grammar.specs.Syntax as s
use Rattle.sql_grammar.specs.declared.word.Key.TheVariants as key
use Rattle.sql_grammar.specs.declared.word.Word.TheVariants as word
use Rattle.sql_grammar.specs.declared.symbol.Symbol.{Symbol}
use Rattle.sql_grammar.specs.declared.symbol.Symbol.TheVariants as symbol

abbrev pub word_of_two : List ℕ → Symbol
word_of_two w =
    if bytes_eq w (codes "AS") then (symbol.Key key.As)
    else if bytes_eq w (codes "BY") then (symbol.Key key.By)
    else if bytes_eq w (codes "CS") then (symbol.Name word.Cs)
    else if bytes_eq w (codes "IN") then symbol.In
    else if bytes_eq w (codes "IS") then symbol.Is
    else if bytes_eq w (codes "ON") then (symbol.Key key.On)
    else if bytes_eq w (codes "OR") then symbol.Or
    else if bytes_eq w (codes "RR") then (symbol.Name word.Rr)
    else if bytes_eq w (codes "RS") then (symbol.Name word.Rs)
    else if bytes_eq w (codes "UR") then (symbol.Name word.Ur)
    else symbol.Name word.Plain

abbrev pub word_of_three : List ℕ → Symbol
word_of_three w =
    if bytes_eq w (codes "ALL") then (symbol.Key key.All)
    else if bytes_eq w (codes "AND") then symbol.And
    else if bytes_eq w (codes "ASC") then (symbol.Key key.Asc)
    else if bytes_eq w (codes "INT") then (symbol.Key key.Int)
    else if bytes_eq w (codes "KEY") then (symbol.Name word.Key)
    else if bytes_eq w (codes "MAX") then (symbol.Call greatest)
    else if bytes_eq w (codes "MIN") then (symbol.Call least)
    else if bytes_eq w (codes "NOT") then symbol.Not
    else if bytes_eq w (codes "OFF") then (symbol.Name word.Off)
    else if bytes_eq w (codes "SET") then (symbol.Key key.Set)
    else if bytes_eq w (codes "SUM") then (symbol.Call total)
    else symbol.Name word.Plain

abbrev pub word_of_four : List ℕ → Symbol
word_of_four w =
    if bytes_eq w (codes "DESC") then (symbol.Key key.Desc)
    else if bytes_eq w (codes "DROP") then (symbol.Key key.Drop)
    else if bytes_eq w (codes "FROM") then (symbol.Key key.From)
    else if bytes_eq w (codes "INTO") then (symbol.Key key.Into)
    else if bytes_eq w (codes "JOIN") then (symbol.Key key.Join)
    else if bytes_eq w (codes "LOCK") then (symbol.Name word.Lock)
    else if bytes_eq w (codes "MODE") then (symbol.Name word.Mode)
    else if bytes_eq w (codes "NULL") then symbol.Null
    else if bytes_eq w (codes "TRUE") then (symbol.Truth true)
    else if bytes_eq w (codes "WORK") then (symbol.Name word.Work)
    else symbol.Name word.Plain

abbrev pub word_of_five : List ℕ → Symbol
word_of_five w =
    if bytes_eq w (codes "COUNT") then (symbol.Call count)
    else if bytes_eq w (codes "FALSE") then (symbol.Truth false)
    else if bytes_eq w (codes "GROUP") then (symbol.Key key.Group)
    else if bytes_eq w (codes "INDEX") then (symbol.Name word.Index)
    else if bytes_eq w (codes "INNER") then (symbol.Key key.Inner)
    else if bytes_eq w (codes "ORDER") then (symbol.Key key.Order)
    else if bytes_eq w (codes "SHARE") then (symbol.Name word.Share)
    else if bytes_eq w (codes "TABLE") then (symbol.Key key.Table)
    else if bytes_eq w (codes "WHERE") then (symbol.Key key.Where)
    else symbol.Name word.Plain

abbrev pub word_of_six : List ℕ → Symbol
word_of_six w =
    if bytes_eq w (codes "BIGINT") then (symbol.Key key.Bigint)
    else if bytes_eq w (codes "COMMIT") then (symbol.Key key.Commit)
    else if bytes_eq w (codes "CREATE") then (symbol.Key key.Create)
    else if bytes_eq w (codes "DELETE") then (symbol.Key key.Delete)
    else if bytes_eq w (codes "INSERT") then (symbol.Key key.Insert)
    else if bytes_eq w (codes "SELECT") then (symbol.Key key.Select)
    else if bytes_eq w (codes "UNIQUE") then (symbol.Key key.Unique)
    else if bytes_eq w (codes "UPDATE") then (symbol.Key key.Update)
    else if bytes_eq w (codes "VALUES") then (symbol.Key key.Values)
    else symbol.Name word.Plain

abbrev pub word_of_seven : List ℕ → Symbol
word_of_seven w =
    if bytes_eq w (codes "BETWEEN") then symbol.Between
    else if bytes_eq w (codes "BOOLEAN") then (symbol.Key key.Boolean)
    else if bytes_eq w (codes "CURRENT") then (symbol.Name word.Current)
    else if bytes_eq w (codes "INTEGER") then (symbol.Key key.Integer)
    else if bytes_eq w (codes "PRIMARY") then (symbol.Key key.Primary)
    else if bytes_eq w (codes "VARCHAR") then (symbol.Key key.Varchar)
    else symbol.Name word.Plain

abbrev pub word_of_eight : List ℕ → Symbol
word_of_eight w =
    if bytes_eq w (codes "DISTINCT") then (symbol.Key key.Distinct)
    else if bytes_eq w (codes "ROLLBACK") then (symbol.Key key.Rollback)
    else if bytes_eq w (codes "SMALLINT") then (symbol.Key key.Smallint)
    else symbol.Name word.Plain

abbrev pub word_of_nine : List ℕ → Symbol
word_of_nine w =
    if bytes_eq w (codes "EXCLUSIVE") then (symbol.Name word.Exclusive)
    else if bytes_eq w (codes "ISOLATION") then (symbol.Name word.Isolation)
    else symbol.Name word.Plain

abbrev pub word_of_ten : List ℕ → Symbol
word_of_ten w =
    if bytes_eq w (codes "AUTOCOMMIT") then (symbol.Name word.Autocommit)
    else symbol.Name word.Plain

-- a word in upper case: a keyword, or a plain name
unfoldable pub word_symbol : List ℕ → Symbol
word_symbol w =
    if length w == 2 then word_of_two w
    else if length w == 3 then word_of_three w
    else if length w == 4 then word_of_four w
    else if length w == 5 then word_of_five w
    else if length w == 6 then word_of_six w
    else if length w == 7 then word_of_seven w
    else if length w == 8 then word_of_eight w
    else if length w == 9 then word_of_nine w
    else if length w == 10 then word_of_ten w
    else symbol.Name word.Plain

abbrev pub sign_symbol : Sign → Symbol
sign_symbol sign.Open = symbol.Open
sign_symbol sign.Close = symbol.Close
sign_symbol sign.Comma = symbol.Comma
sign_symbol sign.Dot = symbol.Dot
sign_symbol sign.Star = symbol.Product times
sign_symbol sign.Plus = symbol.Sum plus
sign_symbol sign.Minus = symbol.Sum minus
sign_symbol sign.Slash = symbol.Product over
sign_symbol sign.Equal = symbol.Compare compared.Equal
sign_symbol sign.NotEqual = symbol.Compare compared.NotEqual
sign_symbol sign.Less = symbol.Compare compared.Less
sign_symbol sign.LessEqual = symbol.Compare compared.LessEqual
sign_symbol sign.Greater = symbol.Compare compared.Greater
sign_symbol sign.GreaterEqual = symbol.Compare compared.GreaterEqual

-- a number up to 2^63 - 1, or 2^63
abbrev pub number_symbol : ℕ → Symbol
number_symbol n = if n == 9223372036854775808 then symbol.Huge else symbol.Number n

abbrev pub symbol_of : TokenKind → Symbol
symbol_of (kind.Name n) = word_symbol n
symbol_of (kind.Quoted n) = symbol.Name word.Plain
symbol_of (kind.Number n) = number_symbol n
symbol_of (kind.Text n) = symbol.Text
symbol_of (kind.Sign x) = sign_symbol x
symbol_of kind.Bad = symbol.Bad

-- the text of a token: of a name, or within quotes
abbrev pub text_of : TokenKind → List ℕ
text_of (kind.Name n) = n
text_of (kind.Quoted n) = n
text_of (kind.Text n) = n
text_of _ = []

-- a symbol and its text
abbrev pub token_from : Symbol → List ℕ → Token
token_from symbol.Or n = or
token_from symbol.And n = and
token_from symbol.Not n = s.not
token_from symbol.Is n = is
token_from symbol.Null n = null
token_from symbol.Between n = between
token_from symbol.In n = in_
token_from symbol.Dot n = dot
token_from symbol.Open n = open_
token_from symbol.Close n = close
token_from symbol.Comma n = comma
token_from symbol.Huge n = huge
token_from symbol.Bad n = bad
token_from (symbol.Compare c) n = compare c
token_from (symbol.Sum x) n = sum x
token_from (symbol.Product p) n = product p
token_from (symbol.Call a) n = call a
token_from (symbol.Number k) n = number k
token_from symbol.Text n = text n
token_from (symbol.Truth b) n = truth b
token_from (symbol.Key k) n = keyword k
token_from (symbol.Name w) n = name w n

abbrev pub token_of : TokenKind → Token
token_of k = token_from (symbol_of k) (text_of k)

-- the tokens of a text, as the grammar sees them
abbrev pub seen : List TextToken → List Token
seen ts = map (λ t. token_of t.kind) ts

unfoldable pub tokens_in : List ℕ → List Token
tokens_in bytes = seen (tokens_of bytes)
