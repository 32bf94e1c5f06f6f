-- At each choice of the grammar one token decides.
use Rattle.std.proofs.Common.{◌≡◌, true, refl, []}
use Rattle.sql_grammar.specs.Grammar.{names, condition, type_rule, mark, column, table_part, create_table, create_index, create, drop_rule, item, tuple, insert, set_part, update, delete, alias, out_part, tab, join, from_part, group_part, order_part, shown, grouping, ordering, select, lock, level, isolation, autocommit, commit, rollback, statement}
use Rattle.sql_grammar.specs.Reading.{is_plain}

pub statement-plain : is_plain [] statement ≡ true
unfolding names condition type_rule mark column table_part create_table create_index create drop_rule item tuple insert set_part update delete alias out_part tab join from_part group_part order_part shown grouping ordering select lock level isolation autocommit commit rollback statement
statement-plain = refl
