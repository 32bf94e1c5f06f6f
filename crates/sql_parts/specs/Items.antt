-- What the parts of INSERT and UPDATE say, in the words of the grammar's rules.
use Rattle.std.specs.Prelude.{List, Option}
use Rattle.sql_ast.specs.declared.expression.Expression.{Expression}
use Rattle.sql_ast.specs.declared.statement.Item.{Item}
use Rattle.sql_ast.specs.declared.statement.Item.TheVariants as item
use Rattle.sql_ast.specs.declared.statement.SetText.{SetText}
use Rattle.sql_grammar.specs.Rules.{Parsed, nothing, named, tree, pair, left, right}
use Rattle.sql_expressions.specs.View.{tree_of}
use Rattle.sql_parts.specs.Lists.{all_said}
use Rattle.sql_parts.specs.Options.{option_said}

abbrev pub expression_said : Expression → Parsed
expression_said e = tree (tree_of e)

abbrev pub item_said : Item → Parsed
item_said item.Null = left nothing
item_said (item.Value e) = right (expression_said e)

abbrev pub tuple_said : List Item → Parsed
tuple_said items = all_said item_said items

abbrev pub set_said : SetText → Parsed
set_said s = pair (named s.column) (item_said s.item)

abbrev pub condition_said : Option Expression → Parsed
condition_said c = option_said expression_said c
