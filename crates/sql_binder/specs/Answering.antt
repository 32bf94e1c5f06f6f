-- What is answered where a statement is bound.
use Rattle.std.specs.Prelude.{◌≡◌, Option, Some, None, List, [], Result, Ok, Err, if◌then◌else◌}
use Rattle.dby_types.specs.declared.definition.Dictionary.{Dictionary}
use Rattle.dby_types.specs.declared.state.SqlState.{SqlState}
use Rattle.dby_types.specs.declared.state.SqlState.TheVariants.{NotBuilt}
use Rattle.expr_binder.specs.Walking.{kept}
use Rattle.sql_ast.specs.declared.bound.BoundStatement.{BoundStatement}
use Rattle.sql_ast.specs.declared.statement.Statement.{Statement}
use Rattle.sql_binder.specs.Built.{is_built}
use Rattle.sql_binder.specs.declared.answer.BindAnswer.{BindAnswer}
use Rattle.sql_binder.specs.declared.answer.BindAnswer.TheVariants.{Sql, Memory}
use Rattle.sql_binding.specs.Binding.{all_faults, binding, bound_form}
use Rattle.sql_binding.specs.Bound.{Bound, seen}

-- a form that isn't built is refused as that, whatever else is wrong with the statement
abbrev pub answer : Statement → Dictionary → Result Bound SqlState
answer s d = if is_built s then binding s d else Err NotBuilt

-- THE ANSWER is that, or want of memory
abbrev pub IsAnswer : Statement → Dictionary → Result BoundStatement BindAnswer → Type 0
IsAnswer s d (Ok b) = answer s d ≡ Ok (seen b)
IsAnswer s d (Err (Sql why)) = answer s d ≡ Err why
IsAnswer s d (Err Memory) = Unit {0}

-- A FORM, which counts where nothing is wrong, with the fault that is told behind it
pub record Forms (bound : Bound) (faults : List SqlState) (f g : Option SqlState) (b : BoundStatement) : Type 0 where
  pub form : faults ≡ [] → seen b ≡ bound
  pub fault : g ≡ kept f faults

-- a form, where no fault is told
abbrev pub told_of : Option SqlState → BoundStatement → Result BoundStatement BindAnswer
told_of None b = Ok b
told_of (Some why) b = Err (Sql why)
