-- The words that can't be unquoted names.
use Rattle.std.specs.Prelude.{ℕ, List, [], ◌∷◌, ◌++◌, Bool, codes}
use Rattle.std.specs.List.{list_any}
use Rattle.std.specs.Str.{bytes_eq}

abbrev pub words_of_two : List (List ℕ)
words_of_two = codes "AS" ∷ codes "BY" ∷ codes "IN" ∷ codes "IS" ∷ codes "ON" ∷ codes "OR" ∷ []

abbrev pub words_of_three : List (List ℕ)
words_of_three =
    codes "ALL" ∷ codes "AND" ∷ codes "ASC" ∷ codes "INT" ∷ codes "MAX" ∷ codes "MIN" ∷ codes "NOT"
    ∷ codes "SET" ∷ codes "SUM" ∷ []

abbrev pub words_of_four : List (List ℕ)
words_of_four =
    codes "DESC" ∷ codes "DROP" ∷ codes "FROM" ∷ codes "INTO" ∷ codes "JOIN" ∷ codes "NULL" ∷ codes "TRUE" ∷ []

abbrev pub words_of_five : List (List ℕ)
words_of_five =
    codes "COUNT" ∷ codes "FALSE" ∷ codes "GROUP" ∷ codes "INNER" ∷ codes "ORDER" ∷ codes "TABLE"
    ∷ codes "WHERE" ∷ []

abbrev pub words_of_six : List (List ℕ)
words_of_six =
    codes "BIGINT" ∷ codes "COMMIT" ∷ codes "CREATE" ∷ codes "DELETE" ∷ codes "INSERT" ∷ codes "SELECT"
    ∷ codes "UNIQUE" ∷ codes "UPDATE" ∷ codes "VALUES" ∷ []

abbrev pub words_of_seven : List (List ℕ)
words_of_seven =
    codes "BETWEEN" ∷ codes "BOOLEAN" ∷ codes "INTEGER" ∷ codes "PRIMARY" ∷ codes "VARCHAR" ∷ []

abbrev pub words_of_eight : List (List ℕ)
words_of_eight = codes "DISTINCT" ∷ codes "ROLLBACK" ∷ codes "SMALLINT" ∷ []

-- all of them, by their lengths
abbrev pub reserved_words : List (List ℕ)
reserved_words =
    words_of_two ++ words_of_three ++ words_of_four ++ words_of_five ++ words_of_six ++ words_of_seven
    ++ words_of_eight

-- a word in upper case is one of them
unfoldable pub is_reserved_word : List ℕ → Bool
is_reserved_word word = list_any (bytes_eq word) reserved_words
