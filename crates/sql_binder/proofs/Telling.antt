-- The answer, from the form and the fault.
use Rattle.std.proofs.Common.{◌≡◌, Bool, true, false, List, [], ◌∷◌, Option, Some, None, Result, Ok, Err, refl, sym, ap, ◌∙◌, subst, cond}
use Rattle.sql_binding.proofs.Refusing.{none_is}
use Rattle.dby_types.specs.declared.definition.Dictionary.{Dictionary}
use Rattle.dby_types.specs.declared.state.SqlState.{SqlState}
use Rattle.dby_types.specs.declared.state.SqlState.TheVariants.{NotBuilt}
use Rattle.expr_binder.specs.Walking.{kept}
use Rattle.sql_ast.specs.declared.bound.BoundStatement.{BoundStatement}
use Rattle.sql_ast.specs.declared.statement.Statement.{Statement}
use Rattle.sql_binder.specs.Answering.{Forms, IsAnswer, answer, told_of}
use Rattle.sql_binder.specs.Built.{is_built}
use Rattle.sql_binder.specs.declared.answer.BindAnswer.{BindAnswer}
use Rattle.sql_binder.specs.declared.answer.BindAnswer.TheVariants.{Sql, Memory}
use Rattle.sql_binding.specs.Binding.{all_faults, binding, bound_form}
use Rattle.sql_binding.specs.Bound.{Bound, seen}
use Rattle.sql_binding.specs.Order.{refusal_of, given_unless}

told_is : (s : Statement) (d : Dictionary) (g : Option SqlState) (b : BoundStatement) → is_built s ≡ true → g ≡ refusal_of (all_faults s d) → (all_faults s d ≡ [] → seen b ≡ bound_form s d) → IsAnswer s d (told_of g b)
told_is s d None b built e form =
    ap (λ (c : Bool). cond c (binding s d) (Err NotBuilt)) built
    ∙ ap (λ (o : Option SqlState). given_unless o (bound_form s d)) (sym e) ∙ ap Ok (sym (form (none_is (all_faults s d) (sym e))))
told_is s d (Some why) b built e form =
    ap (λ (c : Bool). cond c (binding s d) (Err NotBuilt)) built
    ∙ ap (λ (o : Option SqlState). given_unless o (bound_form s d)) (sym e)

-- THE ANSWER
pub answers : (s : Statement) (d : Dictionary) (f g : Option SqlState) (b : BoundStatement) (r : Result BoundStatement BindAnswer) → is_built s ≡ true → f ≡ None → Forms (bound_form s d) (all_faults s d) f g b → r ≡ told_of g b
    → IsAnswer s d r
answers s d f g b r built start h is = subst (IsAnswer s d) (sym is) (told_is s d g b built (h.fault ∙ ap (λ (o : Option SqlState). kept o (all_faults s d)) start) h.form)
