-- The types of expressions.
use Rattle.std.specs.Prelude.{ℕ, ℤ, pos, neg_ℤ, min, List, length, Bool, true, false, ◌==◌, ◌||◌, if◌then◌else◌}
use Rattle.dby_types.specs.declared.value.Ty.{Ty}
use Rattle.dby_types.specs.declared.value.Ty.TheVariants.{Small, Int, Big}
use Rattle.dby_types.specs.declared.value.Ty.TheVariants.{Bool as Truths, Text as Varchar}
use Rattle.dby_types.specs.declared.value.Value.TheVariants.{Num, Text}
use Rattle.dby_types.specs.declared.value.Value.TheVariants.{Bool as Truth}
use Rattle.sql_ast.specs.declared.bound.Arithmetic.{Arithmetic}
use Rattle.sql_ast.specs.declared.bound.Arithmetic.TheVariants.{Add, Subtract, Multiply, Divide}
use Rattle.sql_ast.specs.declared.expression.Aggregate.{Aggregate}
use Rattle.sql_ast.specs.declared.expression.Aggregate.TheVariants.{Count, Sum, Min, Max}
use Rattle.sql_ast.specs.declared.expression.Sum.{Sum as Sign}
use Rattle.sql_ast.specs.declared.expression.Sum.TheVariants.{Plus, Minus}
use Rattle.sql_ast.specs.declared.expression.Product.{Product}
use Rattle.sql_ast.specs.declared.expression.Product.TheVariants.{Times, Over}
use Rattle.sql_binding.specs.Trees.{Tree, typed, literal, arithmetic, negated, ty_of}
use Rattle.value_compare.specs.Storing.{is_number_of}

-- what values of a type are: numbers, truth values or texts
abbrev pub kind_of : Ty → ℕ
kind_of Small = 0
kind_of Int = 0
kind_of Big = 0
kind_of Truths = 1
kind_of (Varchar n) = 2

-- values of both types may be compared with each other, and stored as each other
abbrev pub same_kind : Ty → Ty → Bool
same_kind a b = kind_of a == kind_of b

abbrev pub is_big : Ty → Bool
is_big Big = true
is_big ty = false

-- two numbers are put together in the wider of both types, and at least in INTEGER
abbrev pub wider : Ty → Ty → Ty
wider a b = if is_big a || is_big b then Big else Int

-- the type of an aggregate over values of a type
abbrev pub total_type : Aggregate → Ty → Ty
total_type Count ty = Big
total_type Sum ty = ty
total_type Min ty = ty
total_type Max ty = ty

-- a number with its sign. No text spells one that is outside 64 bits: it stands for the nearest that isn't
abbrev pub signed : Sign → ℕ → ℤ
signed Plus n = pos (min n 9223372036854775807)
signed Minus n = neg_ℤ (pos (min n 9223372036854775808))

-- a number is INTEGER where it fits, and else BIGINT
abbrev pub number_tree : ℤ → Tree
number_tree n = typed (literal (Num n)) (if is_number_of Int n then Int else Big)

-- a text's type is VARCHAR of its length, as far as a type can say it
abbrev pub text_tree : List ℕ → Tree
text_tree t = typed (literal (Text t)) (Varchar (min (length t) 65535))

abbrev pub truth_tree : Bool → Tree
truth_tree b = typed (literal (Truth b)) Truths

abbrev pub arithmetic_tree : Arithmetic → Tree → Tree → Tree
arithmetic_tree op a b = typed (arithmetic op a b) (wider (ty_of a) (ty_of b))

abbrev pub sum_op : Sign → Arithmetic
sum_op Plus = Add
sum_op Minus = Subtract

abbrev pub product_op : Product → Arithmetic
product_op Times = Multiply
product_op Over = Divide

-- a sign that isn't a literal's. A plus is a sum with 0, so that a condition with one isn't plain, and its operand has to be a number
abbrev pub sign_tree : Sign → Tree → Tree
sign_tree Plus a = arithmetic_tree Add (number_tree (pos 0)) a
sign_tree Minus a = typed (negated a) (wider Int (ty_of a))
