use Rattle.std.proofs.Common.{refl, sym, subst, inl}
use Rattle.session_engine.specs.declared.session.Plan.{Plan}
use Rattle.session_engine.specs.Binding.{BindsCreate}
use Rattle.session_engine.proofs.binding.bind_create.Goals as goal

pub returns-in-Some : goal.returns-in-Some
returns-in-Some c = subst (λ (p : Plan). BindsCreate c.args.tables.now.entries c.args.name c.args.columns p) (sym c.refused.ensures) (refl, inl (c.in-Some.field-0.now, c.in-Some.ensures.some))
