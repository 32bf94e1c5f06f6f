-- The grammar of statements, rule by rule.
use Rattle.sql_grammar.specs.Classes.{Key, Word}
use Rattle.sql_grammar.specs.declared.word.Class.TheVariants as class
use Rattle.sql_grammar.specs.declared.word.Key.TheVariants as key
use Rattle.sql_grammar.specs.declared.word.Word.TheVariants as word
use Rattle.sql_grammar.specs.Rules.{Rule, this, a_name, a_size, a_number, an_expr, order, directed, and_then, skip, keep, silent, either, maybe, many}

-- a reserved word
abbrev pub reserved : Key → Rule
reserved k = this (class.Key k)

-- a word that is a name elsewhere
abbrev pub worded : Word → Rule
worded w = this (class.Name w)

abbrev pub comma : Rule
comma = this class.Comma

-- "(" rule ")"
abbrev pub bracketed : Rule → Rule
bracketed r = skip (this class.Open) (keep r (this class.Close))

-- rule { "," rule }
abbrev pub listed : Rule → Rule
listed r = and_then r (many (skip comma r))

-- "(" name { "," name } ")"
unfoldable pub names : Rule
names = bracketed (listed a_name)

-- [ WHERE expr ]
unfoldable pub condition : Rule
condition = maybe (skip (reserved key.Where) an_expr)

-- type = SMALLINT | INTEGER | INT | BIGINT | BOOLEAN | VARCHAR "(" number ")"
unfoldable pub type_rule : Rule
type_rule =
    either (reserved key.Smallint)
    (either (silent (either (reserved key.Integer) (reserved key.Int)))
    (either (reserved key.Bigint)
    (either (reserved key.Boolean)
    (skip (reserved key.Varchar) (bracketed a_size)))))

-- NOT NULL | PRIMARY KEY | UNIQUE
unfoldable pub mark : Rule
mark =
    either (skip (this class.Not) (this class.Null))
    (either (skip (reserved key.Primary) (worded word.Key))
    (reserved key.Unique))

-- column = name type { NOT NULL | PRIMARY KEY | UNIQUE }
unfoldable pub column : Rule
column = and_then a_name (and_then type_rule (many mark))

-- column | (PRIMARY KEY | UNIQUE) "(" name { "," name } ")"
unfoldable pub table_part : Rule
table_part =
    either column
    (either (skip (reserved key.Primary) (skip (worded word.Key) names))
    (skip (reserved key.Unique) names))

-- CREATE TABLE name "(" column { "," (column | rule) } ")"
unfoldable pub create_table : Rule
create_table =
    skip (reserved key.Table)
    (and_then a_name (bracketed (and_then column (many (skip comma table_part)))))

-- CREATE [UNIQUE] INDEX name ON name "(" name { "," name } ")"
unfoldable pub create_index : Rule
create_index =
    and_then (maybe (reserved key.Unique))
    (skip (worded word.Index)
    (and_then a_name
    (skip (reserved key.On)
    (and_then a_name names))))

unfoldable pub create : Rule
create = skip (reserved key.Create) (either create_table create_index)

-- DROP (TABLE | INDEX) name
unfoldable pub drop_rule : Rule
drop_rule = skip (reserved key.Drop) (and_then (either (reserved key.Table) (worded word.Index)) a_name)

-- item = NULL | expr
unfoldable pub item : Rule
item = either (this class.Null) an_expr

-- tuple = "(" item { "," item } ")"
unfoldable pub tuple : Rule
tuple = bracketed (listed item)

-- INSERT INTO name [ "(" name { "," name } ")" ] VALUES tuple { "," tuple }
unfoldable pub insert : Rule
insert =
    skip (reserved key.Insert)
    (skip (reserved key.Into)
    (and_then a_name
    (and_then (maybe names)
    (skip (reserved key.Values) (listed tuple)))))

-- name "=" item
unfoldable pub set_part : Rule
set_part = and_then a_name (skip (this class.Equal) item)

-- UPDATE name SET name "=" item { "," name "=" item } [ WHERE expr ]
unfoldable pub update : Rule
update = skip (reserved key.Update) (and_then a_name (skip (reserved key.Set) (and_then (listed set_part) condition)))

-- DELETE FROM name [ WHERE expr ]
unfoldable pub delete : Rule
delete = skip (reserved key.Delete) (skip (reserved key.From) (and_then a_name condition))

-- [ [AS] name ]
unfoldable pub alias : Rule
alias = maybe (skip (maybe (reserved key.As)) a_name)

-- out = expr [ [AS] name ]
unfoldable pub out_part : Rule
out_part = and_then an_expr alias

-- tab = name [ [AS] name ]
unfoldable pub tab : Rule
tab = and_then a_name alias

-- [INNER] JOIN tab ON expr
unfoldable pub join : Rule
join = skip (maybe (reserved key.Inner)) (skip (reserved key.Join) (and_then tab (skip (reserved key.On) an_expr)))

-- from = tab { [INNER] JOIN tab ON expr }
unfoldable pub from_part : Rule
from_part = and_then tab (many join)

-- col = name [ "." name ]
unfoldable pub group_part : Rule
group_part = and_then a_name (maybe (skip (this class.Dot) a_name))

-- key = (name | number) [ASC | DESC], of which is kept whether it is DESC
unfoldable pub order_part : Rule
order_part = order directed (either a_name a_number) (maybe (either (reserved key.Asc) (reserved key.Desc)))

-- "*" | out { "," out }
unfoldable pub shown : Rule
shown = either (this class.Star) (listed out_part)

-- [ GROUP BY col { "," col } ]
unfoldable pub grouping : Rule
grouping = maybe (skip (reserved key.Group) (skip (reserved key.By) (listed group_part)))

-- [ ORDER BY key { "," key } ]
unfoldable pub ordering : Rule
ordering = maybe (skip (reserved key.Order) (skip (reserved key.By) (listed order_part)))

-- SELECT [DISTINCT] ( "*" | out { "," out } ) FROM from { "," from } [ WHERE expr ] [ GROUP BY .. ] [ ORDER BY .. ]
unfoldable pub select : Rule
select =
    skip (reserved key.Select)
    (and_then (maybe (reserved key.Distinct))
    (and_then shown
    (skip (reserved key.From)
    (and_then (listed from_part)
    (and_then condition
    (and_then grouping ordering))))))

-- LOCK TABLE name IN (SHARE | EXCLUSIVE) MODE
unfoldable pub lock : Rule
lock =
    skip (worded word.Lock)
    (skip (reserved key.Table)
    (and_then a_name
    (skip (this class.In)
    (keep (either (worded word.Share) (worded word.Exclusive)) (worded word.Mode)))))

-- UR | CS | RS | RR
unfoldable pub level : Rule
level = either (worded word.Ur) (either (worded word.Cs) (either (worded word.Rs) (worded word.Rr)))

-- SET [CURRENT] ISOLATION ["="] (UR | CS | RS | RR)
unfoldable pub isolation : Rule
isolation =
    skip (reserved key.Set)
    (skip (maybe (worded word.Current))
    (skip (worded word.Isolation)
    (skip (maybe (this class.Equal)) level)))

-- AUTOCOMMIT (ON | OFF)
unfoldable pub autocommit : Rule
autocommit = skip (worded word.Autocommit) (either (reserved key.On) (worded word.Off))

-- COMMIT [WORK]
unfoldable pub commit : Rule
commit = silent (skip (reserved key.Commit) (maybe (worded word.Work)))

-- ROLLBACK [WORK]
unfoldable pub rollback : Rule
rollback = silent (skip (reserved key.Rollback) (maybe (worded word.Work)))

-- any statement
unfoldable pub statement : Rule
statement =
    either create
    (either drop_rule
    (either insert
    (either update
    (either delete
    (either select
    (either lock
    (either isolation
    (either autocommit
    (either commit rollback)))))))))
