-- Worked texts, read by the definitions: where a text is a statement already, and where its first fault stands.
use Rattle.std.proofs.Common.{◌≡◌, ℕ, List, [], ◌∷◌, ◌++◌, Bool, true, false, ◌&&◌, ◌==◌, None, refl, length}
use Rattle.std.specs.Prelude.{codes}
use Rattle.sql_ast.specs.declared.expression.Comparison.TheVariants.{Equal, Less}
use Rattle.sql_grammar.specs.Syntax.{plus, minus, times, over, count, total, least, greatest, Token, or, and, is, null, between, in_, dot, open_, close, comma, huge, bad, compare, sum, product, call, number, text, truth, key as keyword, name}
use Rattle.sql_grammar.specs.Syntax as s
use Rattle.sql_grammar.specs.declared.word.Key.TheVariants as key
use Rattle.sql_grammar.specs.declared.word.Word.TheVariants as word
use Rattle.sql_grammar.specs.Grammar.{names, condition, type_rule, mark, column, table_part, create_table, create_index, create, drop_rule, item, tuple, insert, set_part, update, delete, alias, out_part, tab, join, from_part, group_part, order_part, shown, grouping, ordering, select, lock, level, isolation, autocommit, commit, rollback, statement}
use Rattle.sql_grammar.specs.Reading.{Outcome, took, wrong, read}
use Rattle.sql_grammar.specs.Verdict.{whole}

-- 1 where the tokens are a statement, 0 where their end alone is wrong
abbrev mark_of : Outcome → ℕ
mark_of (took v ts) = 1
mark_of (wrong []) = 0
mark_of _ = 2

-- a mark for each token, of the text up to it
abbrev cuts : List Token → List Token → List ℕ
cuts front [] = []
cuts front (t ∷ ts) = mark_of (whole None (front ++ t ∷ [])) ∷ cuts (front ++ t ∷ []) ts

abbrev is_at : Outcome → ℕ → Bool
is_at (wrong (bad ∷ ts)) n = length ts == n
is_at _ n = false

-- a token that is none, put in at any place, is the first fault
abbrev strays : List Token → List Token → Bool
strays front [] = is_at (whole None (front ++ bad ∷ [])) 0
strays front (t ∷ ts) = is_at (whole None (front ++ bad ∷ t ∷ ts)) (length (t ∷ ts)) && strays (front ++ t ∷ []) ts

-- CREATE TABLE T(A INT NOT NULL PRIMARY KEY, B VARCHAR(3) UNIQUE, PRIMARY KEY(A, B), UNIQUE(B))
abbrev create_table-text : List Token
create_table-text =
    keyword key.Create ∷ keyword key.Table ∷ name word.Plain (codes "T") ∷ open_ ∷ name word.Plain (codes "A") ∷ keyword key.Int ∷
    s.not ∷ null ∷ keyword key.Primary ∷ name word.Key (codes "KEY") ∷ comma ∷ name word.Plain (codes "B") ∷ keyword key.Varchar ∷
    open_ ∷ number 3 ∷ close ∷ keyword key.Unique ∷ comma ∷ keyword key.Primary ∷ name word.Key (codes "KEY") ∷ open_ ∷
    name word.Plain (codes "A") ∷ comma ∷ name word.Plain (codes "B") ∷ close ∷ comma ∷ keyword key.Unique ∷ open_ ∷
    name word.Plain (codes "B") ∷ close ∷ close ∷ []

create_table-cuts : cuts [] create_table-text ≡ (
    0 ∷ 0 ∷ 0 ∷ 0 ∷ 0 ∷ 0 ∷ 0 ∷ 0 ∷ 0 ∷ 0 ∷ 0 ∷ 0 ∷ 0 ∷ 0 ∷ 0 ∷ 0 ∷ 0 ∷ 0 ∷ 0 ∷ 0 ∷ 0 ∷ 0 ∷ 0 ∷ 0 ∷ 0 ∷ 0 ∷ 0 ∷ 0 ∷ 0 ∷ 0 ∷ 1 ∷ [])
unfolding names condition type_rule mark column table_part create_table create_index create drop_rule item tuple insert set_part update delete alias out_part tab join from_part group_part order_part shown grouping ordering select lock level isolation autocommit commit rollback statement
create_table-cuts = refl

create_table-strays : strays [] create_table-text ≡ true
unfolding names condition type_rule mark column table_part create_table create_index create drop_rule item tuple insert set_part update delete alias out_part tab join from_part group_part order_part shown grouping ordering select lock level isolation autocommit commit rollback statement
create_table-strays = refl

-- CREATE UNIQUE INDEX I ON T(A, B)
abbrev create_index-text : List Token
create_index-text =
    keyword key.Create ∷ keyword key.Unique ∷ name word.Index (codes "INDEX") ∷ name word.Plain (codes "I") ∷ keyword key.On ∷
    name word.Plain (codes "T") ∷ open_ ∷ name word.Plain (codes "A") ∷ comma ∷ name word.Plain (codes "B") ∷ close ∷ []

create_index-cuts : cuts [] create_index-text ≡ (
    0 ∷ 0 ∷ 0 ∷ 0 ∷ 0 ∷ 0 ∷ 0 ∷ 0 ∷ 0 ∷ 0 ∷ 1 ∷ [])
unfolding names condition type_rule mark column table_part create_table create_index create drop_rule item tuple insert set_part update delete alias out_part tab join from_part group_part order_part shown grouping ordering select lock level isolation autocommit commit rollback statement
create_index-cuts = refl

create_index-strays : strays [] create_index-text ≡ true
unfolding names condition type_rule mark column table_part create_table create_index create drop_rule item tuple insert set_part update delete alias out_part tab join from_part group_part order_part shown grouping ordering select lock level isolation autocommit commit rollback statement
create_index-strays = refl

-- DROP INDEX I
abbrev drop-text : List Token
drop-text =
    keyword key.Drop ∷ name word.Index (codes "INDEX") ∷ name word.Plain (codes "I") ∷ []

drop-cuts : cuts [] drop-text ≡ (
    0 ∷ 0 ∷ 1 ∷ [])
unfolding names condition type_rule mark column table_part create_table create_index create drop_rule item tuple insert set_part update delete alias out_part tab join from_part group_part order_part shown grouping ordering select lock level isolation autocommit commit rollback statement
drop-cuts = refl

drop-strays : strays [] drop-text ≡ true
unfolding names condition type_rule mark column table_part create_table create_index create drop_rule item tuple insert set_part update delete alias out_part tab join from_part group_part order_part shown grouping ordering select lock level isolation autocommit commit rollback statement
drop-strays = refl

-- INSERT INTO T(A, B) VALUES (1, NULL), (-2, 'x')
abbrev insert-text : List Token
insert-text =
    keyword key.Insert ∷ keyword key.Into ∷ name word.Plain (codes "T") ∷ open_ ∷ name word.Plain (codes "A") ∷ comma ∷
    name word.Plain (codes "B") ∷ close ∷ keyword key.Values ∷ open_ ∷ number 1 ∷ comma ∷ null ∷ close ∷ comma ∷ open_ ∷
    sum minus ∷ number 2 ∷ comma ∷ text (codes "x") ∷ close ∷ []

insert-cuts : cuts [] insert-text ≡ (
    0 ∷ 0 ∷ 0 ∷ 0 ∷ 0 ∷ 0 ∷ 0 ∷ 0 ∷ 0 ∷ 0 ∷ 0 ∷ 0 ∷ 0 ∷ 1 ∷ 0 ∷ 0 ∷ 0 ∷ 0 ∷ 0 ∷ 0 ∷ 1 ∷ [])
unfolding names condition type_rule mark column table_part create_table create_index create drop_rule item tuple insert set_part update delete alias out_part tab join from_part group_part order_part shown grouping ordering select lock level isolation autocommit commit rollback statement
insert-cuts = refl

insert-strays : strays [] insert-text ≡ true
unfolding names condition type_rule mark column table_part create_table create_index create drop_rule item tuple insert set_part update delete alias out_part tab join from_part group_part order_part shown grouping ordering select lock level isolation autocommit commit rollback statement
insert-strays = refl

-- UPDATE T SET A = A + 1, B = NULL WHERE NOT A IN (1, 2)
abbrev update-text : List Token
update-text =
    keyword key.Update ∷ name word.Plain (codes "T") ∷ keyword key.Set ∷ name word.Plain (codes "A") ∷ compare Equal ∷
    name word.Plain (codes "A") ∷ sum plus ∷ number 1 ∷ comma ∷ name word.Plain (codes "B") ∷ compare Equal ∷ null ∷
    keyword key.Where ∷ s.not ∷ name word.Plain (codes "A") ∷ in_ ∷ open_ ∷ number 1 ∷ comma ∷ number 2 ∷ close ∷ []

update-cuts : cuts [] update-text ≡ (
    0 ∷ 0 ∷ 0 ∷ 0 ∷ 0 ∷ 1 ∷ 0 ∷ 1 ∷ 0 ∷ 0 ∷ 0 ∷ 1 ∷ 0 ∷ 0 ∷ 1 ∷ 0 ∷ 0 ∷ 0 ∷ 0 ∷ 0 ∷ 1 ∷ [])
unfolding names condition type_rule mark column table_part create_table create_index create drop_rule item tuple insert set_part update delete alias out_part tab join from_part group_part order_part shown grouping ordering select lock level isolation autocommit commit rollback statement
update-cuts = refl

update-strays : strays [] update-text ≡ true
unfolding names condition type_rule mark column table_part create_table create_index create drop_rule item tuple insert set_part update delete alias out_part tab join from_part group_part order_part shown grouping ordering select lock level isolation autocommit commit rollback statement
update-strays = refl

-- DELETE FROM T WHERE A IS NOT NULL OR B = 'x' AND A < 3
abbrev delete-text : List Token
delete-text =
    keyword key.Delete ∷ keyword key.From ∷ name word.Plain (codes "T") ∷ keyword key.Where ∷ name word.Plain (codes "A") ∷ is ∷
    s.not ∷ null ∷ or ∷ name word.Plain (codes "B") ∷ compare Equal ∷ text (codes "x") ∷ and ∷ name word.Plain (codes "A") ∷
    compare Less ∷ number 3 ∷ []

delete-cuts : cuts [] delete-text ≡ (
    0 ∷ 0 ∷ 1 ∷ 0 ∷ 1 ∷ 0 ∷ 0 ∷ 1 ∷ 0 ∷ 1 ∷ 0 ∷ 1 ∷ 0 ∷ 1 ∷ 0 ∷ 1 ∷ [])
unfolding names condition type_rule mark column table_part create_table create_index create drop_rule item tuple insert set_part update delete alias out_part tab join from_part group_part order_part shown grouping ordering select lock level isolation autocommit commit rollback statement
delete-cuts = refl

delete-strays : strays [] delete-text ≡ true
unfolding names condition type_rule mark column table_part create_table create_index create drop_rule item tuple insert set_part update delete alias out_part tab join from_part group_part order_part shown grouping ordering select lock level isolation autocommit commit rollback statement
delete-strays = refl

-- SELECT * FROM T AS X INNER JOIN U Y ON X.A = Y.A, V WHERE A BETWEEN 1 AND 2 * (3 + 4) GROUP BY A, X.B ORDER BY A DESC, 2
abbrev select_all-text : List Token
select_all-text =
    keyword key.Select ∷ product times ∷ keyword key.From ∷ name word.Plain (codes "T") ∷ keyword key.As ∷
    name word.Plain (codes "X") ∷ keyword key.Inner ∷ keyword key.Join ∷ name word.Plain (codes "U") ∷
    name word.Plain (codes "Y") ∷ keyword key.On ∷ name word.Plain (codes "X") ∷ dot ∷ name word.Plain (codes "A") ∷
    compare Equal ∷ name word.Plain (codes "Y") ∷ dot ∷ name word.Plain (codes "A") ∷ comma ∷ name word.Plain (codes "V") ∷
    keyword key.Where ∷ name word.Plain (codes "A") ∷ between ∷ number 1 ∷ and ∷ number 2 ∷ product times ∷ open_ ∷ number 3 ∷
    sum plus ∷ number 4 ∷ close ∷ keyword key.Group ∷ keyword key.By ∷ name word.Plain (codes "A") ∷ comma ∷
    name word.Plain (codes "X") ∷ dot ∷ name word.Plain (codes "B") ∷ keyword key.Order ∷ keyword key.By ∷
    name word.Plain (codes "A") ∷ keyword key.Desc ∷ comma ∷ number 2 ∷ []

select_all-cuts : cuts [] select_all-text ≡ (
    0 ∷ 0 ∷ 0 ∷ 1 ∷ 0 ∷ 1 ∷ 0 ∷ 0 ∷ 0 ∷ 0 ∷ 0 ∷ 1 ∷ 0 ∷ 1 ∷ 0 ∷ 1 ∷ 0 ∷ 1 ∷ 0 ∷ 1 ∷ 0 ∷ 1 ∷ 0 ∷ 0 ∷ 0 ∷ 1 ∷ 0 ∷ 0 ∷ 0 ∷ 0 ∷ 0 ∷
    1 ∷ 0 ∷ 0 ∷ 1 ∷ 0 ∷ 1 ∷ 0 ∷ 1 ∷ 0 ∷ 0 ∷ 1 ∷ 1 ∷ 0 ∷ 1 ∷ [])
unfolding names condition type_rule mark column table_part create_table create_index create drop_rule item tuple insert set_part update delete alias out_part tab join from_part group_part order_part shown grouping ordering select lock level isolation autocommit commit rollback statement
select_all-cuts = refl

select_all-strays : strays [] select_all-text ≡ true
unfolding names condition type_rule mark column table_part create_table create_index create drop_rule item tuple insert set_part update delete alias out_part tab join from_part group_part order_part shown grouping ordering select lock level isolation autocommit commit rollback statement
select_all-strays = refl

-- SELECT DISTINCT A AS B, COUNT(*) C, SUM(A) FROM T
abbrev select_some-text : List Token
select_some-text =
    keyword key.Select ∷ keyword key.Distinct ∷ name word.Plain (codes "A") ∷ keyword key.As ∷ name word.Plain (codes "B") ∷
    comma ∷ call count ∷ open_ ∷ product times ∷ close ∷ name word.Plain (codes "C") ∷ comma ∷ call total ∷ open_ ∷
    name word.Plain (codes "A") ∷ close ∷ keyword key.From ∷ name word.Plain (codes "T") ∷ []

select_some-cuts : cuts [] select_some-text ≡ (
    0 ∷ 0 ∷ 0 ∷ 0 ∷ 0 ∷ 0 ∷ 0 ∷ 0 ∷ 0 ∷ 0 ∷ 0 ∷ 0 ∷ 0 ∷ 0 ∷ 0 ∷ 0 ∷ 0 ∷ 1 ∷ [])
unfolding names condition type_rule mark column table_part create_table create_index create drop_rule item tuple insert set_part update delete alias out_part tab join from_part group_part order_part shown grouping ordering select lock level isolation autocommit commit rollback statement
select_some-cuts = refl

select_some-strays : strays [] select_some-text ≡ true
unfolding names condition type_rule mark column table_part create_table create_index create drop_rule item tuple insert set_part update delete alias out_part tab join from_part group_part order_part shown grouping ordering select lock level isolation autocommit commit rollback statement
select_some-strays = refl

-- LOCK TABLE T IN SHARE MODE
abbrev lock-text : List Token
lock-text =
    name word.Lock (codes "LOCK") ∷ keyword key.Table ∷ name word.Plain (codes "T") ∷ in_ ∷ name word.Share (codes "SHARE") ∷
    name word.Mode (codes "MODE") ∷ []

lock-cuts : cuts [] lock-text ≡ (
    0 ∷ 0 ∷ 0 ∷ 0 ∷ 0 ∷ 1 ∷ [])
unfolding names condition type_rule mark column table_part create_table create_index create drop_rule item tuple insert set_part update delete alias out_part tab join from_part group_part order_part shown grouping ordering select lock level isolation autocommit commit rollback statement
lock-cuts = refl

lock-strays : strays [] lock-text ≡ true
unfolding names condition type_rule mark column table_part create_table create_index create drop_rule item tuple insert set_part update delete alias out_part tab join from_part group_part order_part shown grouping ordering select lock level isolation autocommit commit rollback statement
lock-strays = refl

-- SET CURRENT ISOLATION = RR
abbrev isolation-text : List Token
isolation-text =
    keyword key.Set ∷ name word.Current (codes "CURRENT") ∷ name word.Isolation (codes "ISOLATION") ∷ compare Equal ∷
    name word.Rr (codes "RR") ∷ []

isolation-cuts : cuts [] isolation-text ≡ (
    0 ∷ 0 ∷ 0 ∷ 0 ∷ 1 ∷ [])
unfolding names condition type_rule mark column table_part create_table create_index create drop_rule item tuple insert set_part update delete alias out_part tab join from_part group_part order_part shown grouping ordering select lock level isolation autocommit commit rollback statement
isolation-cuts = refl

isolation-strays : strays [] isolation-text ≡ true
unfolding names condition type_rule mark column table_part create_table create_index create drop_rule item tuple insert set_part update delete alias out_part tab join from_part group_part order_part shown grouping ordering select lock level isolation autocommit commit rollback statement
isolation-strays = refl

-- AUTOCOMMIT OFF
abbrev autocommit-text : List Token
autocommit-text =
    name word.Autocommit (codes "AUTOCOMMIT") ∷ name word.Off (codes "OFF") ∷ []

autocommit-cuts : cuts [] autocommit-text ≡ (
    0 ∷ 1 ∷ [])
unfolding names condition type_rule mark column table_part create_table create_index create drop_rule item tuple insert set_part update delete alias out_part tab join from_part group_part order_part shown grouping ordering select lock level isolation autocommit commit rollback statement
autocommit-cuts = refl

autocommit-strays : strays [] autocommit-text ≡ true
unfolding names condition type_rule mark column table_part create_table create_index create drop_rule item tuple insert set_part update delete alias out_part tab join from_part group_part order_part shown grouping ordering select lock level isolation autocommit commit rollback statement
autocommit-strays = refl

-- COMMIT WORK
abbrev commit-text : List Token
commit-text =
    keyword key.Commit ∷ name word.Work (codes "WORK") ∷ []

commit-cuts : cuts [] commit-text ≡ (
    1 ∷ 1 ∷ [])
unfolding names condition type_rule mark column table_part create_table create_index create drop_rule item tuple insert set_part update delete alias out_part tab join from_part group_part order_part shown grouping ordering select lock level isolation autocommit commit rollback statement
commit-cuts = refl

commit-strays : strays [] commit-text ≡ true
unfolding names condition type_rule mark column table_part create_table create_index create drop_rule item tuple insert set_part update delete alias out_part tab join from_part group_part order_part shown grouping ordering select lock level isolation autocommit commit rollback statement
commit-strays = refl

-- ROLLBACK WORK
abbrev rollback-text : List Token
rollback-text =
    keyword key.Rollback ∷ name word.Work (codes "WORK") ∷ []

rollback-cuts : cuts [] rollback-text ≡ (
    1 ∷ 1 ∷ [])
unfolding names condition type_rule mark column table_part create_table create_index create drop_rule item tuple insert set_part update delete alias out_part tab join from_part group_part order_part shown grouping ordering select lock level isolation autocommit commit rollback statement
rollback-cuts = refl

rollback-strays : strays [] rollback-text ≡ true
unfolding names condition type_rule mark column table_part create_table create_index create drop_rule item tuple insert set_part update delete alias out_part tab join from_part group_part order_part shown grouping ordering select lock level isolation autocommit commit rollback statement
rollback-strays = refl

-- SELECT A FORM T
form-fault : whole None (
    keyword key.Select ∷ name word.Plain (codes "A") ∷ name word.Plain (codes "FORM") ∷ name word.Plain (codes "T") ∷ []) ≡ wrong (
    name word.Plain (codes "T") ∷ [])
unfolding names condition type_rule mark column table_part create_table create_index create drop_rule item tuple insert set_part update delete alias out_part tab join from_part group_part order_part shown grouping ordering select lock level isolation autocommit commit rollback statement
form-fault = refl

-- SELECT 9223372036854775808 FROM T
huge-fault : whole None (
    keyword key.Select ∷ huge ∷ keyword key.From ∷ name word.Plain (codes "T") ∷ []) ≡ wrong (
    huge ∷ keyword key.From ∷ name word.Plain (codes "T") ∷ [])
unfolding names condition type_rule mark column table_part create_table create_index create drop_rule item tuple insert set_part update delete alias out_part tab join from_part group_part order_part shown grouping ordering select lock level isolation autocommit commit rollback statement
huge-fault = refl

-- SELECT FROM T
from-fault : whole None (
    keyword key.Select ∷ keyword key.From ∷ name word.Plain (codes "T") ∷ []) ≡ wrong (
    keyword key.From ∷ name word.Plain (codes "T") ∷ [])
unfolding names condition type_rule mark column table_part create_table create_index create drop_rule item tuple insert set_part update delete alias out_part tab join from_part group_part order_part shown grouping ordering select lock level isolation autocommit commit rollback statement
from-fault = refl

-- CREATE TABLE T(A VARCHAR(1001))
size-fault : whole None (
    keyword key.Create ∷ keyword key.Table ∷ name word.Plain (codes "T") ∷ open_ ∷ name word.Plain (codes "A") ∷
    keyword key.Varchar ∷ open_ ∷ number 1001 ∷ close ∷ close ∷ []) ≡ wrong (
    number 1001 ∷ close ∷ close ∷ [])
unfolding names condition type_rule mark column table_part create_table create_index create drop_rule item tuple insert set_part update delete alias out_part tab join from_part group_part order_part shown grouping ordering select lock level isolation autocommit commit rollback statement
size-fault = refl

-- CREATE TABLE T(A VARCHAR(0))
size_none-fault : whole None (
    keyword key.Create ∷ keyword key.Table ∷ name word.Plain (codes "T") ∷ open_ ∷ name word.Plain (codes "A") ∷
    keyword key.Varchar ∷ open_ ∷ number 0 ∷ close ∷ close ∷ []) ≡ wrong (
    number 0 ∷ close ∷ close ∷ [])
unfolding names condition type_rule mark column table_part create_table create_index create drop_rule item tuple insert set_part update delete alias out_part tab join from_part group_part order_part shown grouping ordering select lock level isolation autocommit commit rollback statement
size_none-fault = refl

-- CREATE TABLE ORDER(A INT)
reserved-fault : whole None (
    keyword key.Create ∷ keyword key.Table ∷ keyword key.Order ∷ open_ ∷ name word.Plain (codes "A") ∷ keyword key.Int ∷ close ∷
    []) ≡ wrong (
    keyword key.Order ∷ open_ ∷ name word.Plain (codes "A") ∷ keyword key.Int ∷ close ∷ [])
unfolding names condition type_rule mark column table_part create_table create_index create drop_rule item tuple insert set_part update delete alias out_part tab join from_part group_part order_part shown grouping ordering select lock level isolation autocommit commit rollback statement
reserved-fault = refl

-- CREATE TABLE T(PRIMARY KEY(A))
rule_first-fault : whole None (
    keyword key.Create ∷ keyword key.Table ∷ name word.Plain (codes "T") ∷ open_ ∷ keyword key.Primary ∷
    name word.Key (codes "KEY") ∷ open_ ∷ name word.Plain (codes "A") ∷ close ∷ close ∷ []) ≡ wrong (
    keyword key.Primary ∷ name word.Key (codes "KEY") ∷ open_ ∷ name word.Plain (codes "A") ∷ close ∷ close ∷ [])
unfolding names condition type_rule mark column table_part create_table create_index create drop_rule item tuple insert set_part update delete alias out_part tab join from_part group_part order_part shown grouping ordering select lock level isolation autocommit commit rollback statement
rule_first-fault = refl

-- INSERT INTO T VALUES (1 + NULL)
null_in_sum-fault : whole None (
    keyword key.Insert ∷ keyword key.Into ∷ name word.Plain (codes "T") ∷ keyword key.Values ∷ open_ ∷ number 1 ∷ sum plus ∷
    null ∷ close ∷ []) ≡ wrong (
    null ∷ close ∷ [])
unfolding names condition type_rule mark column table_part create_table create_index create drop_rule item tuple insert set_part update delete alias out_part tab join from_part group_part order_part shown grouping ordering select lock level isolation autocommit commit rollback statement
null_in_sum-fault = refl

-- SELECT A FROM T WHERE A < 1 < 2
twice-fault : whole None (
    keyword key.Select ∷ name word.Plain (codes "A") ∷ keyword key.From ∷ name word.Plain (codes "T") ∷ keyword key.Where ∷
    name word.Plain (codes "A") ∷ compare Less ∷ number 1 ∷ compare Less ∷ number 2 ∷ []) ≡ wrong (
    compare Less ∷ number 2 ∷ [])
unfolding names condition type_rule mark column table_part create_table create_index create drop_rule item tuple insert set_part update delete alias out_part tab join from_part group_part order_part shown grouping ordering select lock level isolation autocommit commit rollback statement
twice-fault = refl

-- SELECT 1 - 9223372036854775808 FROM T
minus_huge_twice-fault : whole None (
    keyword key.Select ∷ number 1 ∷ sum minus ∷ huge ∷ keyword key.From ∷ name word.Plain (codes "T") ∷ []) ≡ wrong (
    huge ∷ keyword key.From ∷ name word.Plain (codes "T") ∷ [])
unfolding names condition type_rule mark column table_part create_table create_index create drop_rule item tuple insert set_part update delete alias out_part tab join from_part group_part order_part shown grouping ordering select lock level isolation autocommit commit rollback statement
minus_huge_twice-fault = refl

-- ORDER BY A ASC says what ORDER BY A says
asc-says_nothing :
    read None order_part (name word.Plain (codes "A") ∷ keyword key.Asc ∷ []) ≡ read None order_part (name word.Plain (codes "A") ∷ [])
unfolding order_part
asc-says_nothing = refl
