-- The classes of tokens, and when two are one.
use Rattle.std.specs.Prelude.{ℕ, List, [], ◌∷◌, Bool, true, false, not, ◌&&◌, ◌||◌, ◌==◌}
pub use Rattle.sql_grammar.specs.declared.word.Key.{Key}
use Rattle.sql_grammar.specs.declared.word.Key.TheVariants as key
pub use Rattle.sql_grammar.specs.declared.word.Word.{Word}
use Rattle.sql_grammar.specs.declared.word.Word.TheVariants as word
pub use Rattle.sql_grammar.specs.declared.word.Class.{Class}
use Rattle.sql_grammar.specs.declared.word.Class.TheVariants as class

abbrev pub key_tag : Key → ℕ
key_tag key.All = 0
key_tag key.As = 1
key_tag key.Asc = 2
key_tag key.Bigint = 3
key_tag key.Boolean = 4
key_tag key.By = 5
key_tag key.Commit = 6
key_tag key.Create = 7
key_tag key.Delete = 8
key_tag key.Desc = 9
key_tag key.Distinct = 10
key_tag key.Drop = 11
key_tag key.From = 12
key_tag key.Group = 13
key_tag key.Inner = 14
key_tag key.Insert = 15
key_tag key.Int = 16
key_tag key.Integer = 17
key_tag key.Into = 18
key_tag key.Join = 19
key_tag key.On = 20
key_tag key.Order = 21
key_tag key.Primary = 22
key_tag key.Rollback = 23
key_tag key.Select = 24
key_tag key.Set = 25
key_tag key.Smallint = 26
key_tag key.Table = 27
key_tag key.Unique = 28
key_tag key.Update = 29
key_tag key.Values = 30
key_tag key.Varchar = 31
key_tag key.Where = 32

abbrev pub word_tag : Word → ℕ
word_tag word.Plain = 0
word_tag word.Autocommit = 1
word_tag word.Cs = 2
word_tag word.Current = 3
word_tag word.Exclusive = 4
word_tag word.Index = 5
word_tag word.Isolation = 6
word_tag word.Key = 7
word_tag word.Lock = 8
word_tag word.Mode = 9
word_tag word.Off = 10
word_tag word.Rr = 11
word_tag word.Rs = 12
word_tag word.Share = 13
word_tag word.Ur = 14
word_tag word.Work = 15

abbrev pub tag : Class → ℕ
tag class.Or = 0
tag class.And = 1
tag class.Not = 2
tag class.Is = 3
tag class.Null = 4
tag class.Between = 5
tag class.In = 6
tag class.Dot = 7
tag class.Open = 8
tag class.Close = 9
tag class.Comma = 10
tag class.Equal = 11
tag class.Compare = 12
tag class.Plus = 13
tag class.Minus = 14
tag class.Star = 15
tag class.Slash = 16
tag class.Call = 17
tag class.Number = 18
tag class.Huge = 19
tag class.Text = 20
tag class.Truth = 21
tag class.Bad = 22
tag (class.Key k) = 23
tag (class.Name w) = 24

abbrev pub inner : Class → ℕ
inner (class.Key k) = key_tag k
inner (class.Name w) = word_tag w
inner _ = 0

-- two classes are one
abbrev pub same : Class → Class → Bool
same a b = (tag a == tag b) && (inner a == inner b)

abbrev pub has : Class → List Class → Bool
has c [] = false
has c (d ∷ ds) = same c d || has c ds

-- no class is in both lists
abbrev pub apart : List Class → List Class → Bool
apart [] ds = true
apart (c ∷ cs) ds = not (has c ds) && apart cs ds

-- each class of the first list is in the second
abbrev pub within : List Class → List Class → Bool
within [] ds = true
within (c ∷ cs) ds = has c ds && within cs ds
