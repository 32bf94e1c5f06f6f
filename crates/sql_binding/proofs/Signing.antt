-- A condition with a sign isn't plain.
use Rattle.std.proofs.Common.{◌≡◌, false, refl}
use Rattle.dby_types.specs.declared.value.Ty.{Ty}
use Rattle.sql_ast.specs.declared.bound.Node.{Node, Column, Literal, Arithmetic', Negated', Compare', IsNull', Between', In', And', Or', Not'}
use Rattle.sql_ast.specs.declared.expression.Sum.{Sum as Sign}
use Rattle.sql_ast.specs.declared.expression.Sum.TheVariants.{Plus, Minus}
use Rattle.sql_binding.specs.Trees.{Tree, node_tree}
use Rattle.sql_binding.specs.Types.{sign_tree}
use Rattle.sql_model.specs.Where.{is_plain_node}

pub sign_not_plain : (op : Sign) (a : Tree) (n : Node) (ty : Ty) → node_tree n ty ≡ sign_tree op a → is_plain_node n ≡ false
sign_not_plain op a (Arithmetic' o p x s q y t) ty h = refl
sign_not_plain op a (Negated' p x s) ty h = refl
sign_not_plain Plus a (Column n) ty h = absurd (cc)
sign_not_plain Plus a (Literal v) ty h = absurd (cc)
sign_not_plain Plus a (Compare' o p x s q y t) ty h = absurd (cc)
sign_not_plain Plus a (IsNull' deny p x s) ty h = absurd (cc)
sign_not_plain Plus a (Between' deny p x s q y t r z u) ty h = absurd (cc)
sign_not_plain Plus a (In' deny p x s shape members) ty h = absurd (cc)
sign_not_plain Plus a (And' p x s q y t) ty h = absurd (cc)
sign_not_plain Plus a (Or' p x s q y t) ty h = absurd (cc)
sign_not_plain Plus a (Not' p x s) ty h = absurd (cc)
sign_not_plain Minus a (Column n) ty h = absurd (cc)
sign_not_plain Minus a (Literal v) ty h = absurd (cc)
sign_not_plain Minus a (Compare' o p x s q y t) ty h = absurd (cc)
sign_not_plain Minus a (IsNull' deny p x s) ty h = absurd (cc)
sign_not_plain Minus a (Between' deny p x s q y t r z u) ty h = absurd (cc)
sign_not_plain Minus a (In' deny p x s shape members) ty h = absurd (cc)
sign_not_plain Minus a (And' p x s q y t) ty h = absurd (cc)
sign_not_plain Minus a (Or' p x s q y t) ty h = absurd (cc)
sign_not_plain Minus a (Not' p x s) ty h = absurd (cc)
