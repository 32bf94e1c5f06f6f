use Rattle.std.proofs.Common.{ap, ◌∙◌}
use Rattle.dby_types.specs.declared.state.SqlState.TheVariants.{NotStorable}
use Rattle.expr_binder.specs.Seen.{sources_in}
use Rattle.expr_binder.specs.Walking.{kept}
use Rattle.sql_binding.specs.Faults.{unless}
use Rattle.change_binder.proofs.Chains.{stored}
use Rattle.change_binder.proofs.item.storable.Goals as goal

pub returns : goal.returns
returns c = stored _ _ _ (sources_in c.args.sources.now) _ c.args.item.now _ _ c.in_ok-x.ensures c.ty_of.ensures
    (c.keep_unless.ensures ∙ ap (λ b. kept c.value.new.fault (unless b NotStorable)) c.same_kind.ensures)
