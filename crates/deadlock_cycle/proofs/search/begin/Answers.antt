use Rattle.std.proofs.Common.{◌∙◌, ◌++◌, [], ◌∷◌, ap, sym, subst, List, None}
use Rattle.dby_types.specs.declared.number.TxnNo.{TxnNo}
use Rattle.lock_modes.specs.declared.cycle.Edge.{Edge}
use Rattle.lock_manager.specs.Table.{lock}
use Rattle.deadlock_cycle.specs.Search.{Searching}
use Rattle.deadlock_cycle.specs.Ordered.{Ordered}
use Rattle.deadlock_cycle.proofs.SearchLemmas.{begins}
use Rattle.deadlock_cycle.proofs.FirstLemmas.{begins_ordered}
use Rattle.deadlock_cycle.proofs.search.begin.Goals as goal

pub returns : goal.returns
returns c =
    let l = lock c.args.l.now in
    let seen = c.push.ensures ∙ ap (λ (xs : List TxnNo). xs ++ c.args.t ∷ []) c.new-seen.ensures in
    record {
      begun = subst (λ (p : List Edge). Searching l c.args.t p c.push.new.self c.args.t None × Ordered l c.args.t p c.push.new.self c.args.t None) (sym c.new.ensures)
          (begins l c.args.t c.push.new.self seen c.requires.few c.requires.waits, begins_ordered l c.args.t c.push.new.self seen);
    }
