use Rattle.std.proofs.Common.{rules, ◌≡◌, ℕ, List, length, sym, ◌∙◌, ap, subst, None}
use Rattle.table_model.specs.Tables.{no_tables}
use Rattle.list_store.specs.Lists.{seen as shown}
use Rattle.session_model.specs.Legal.{IsLegal}
use Rattle.session_engine.specs.Opening.{IsEmptyStore}
use Rattle.engine_close.specs.Closing.{AllAtRest}
use Rattle.plan_walk.specs.Walk.{AreFew, IsWalk, Leaves, seen}
use Rattle.derby.proofs.RunLemmas.{closes_well, not_stopped, ran, walk_goes}
use Rattle.derby.proofs.running.run.Goals as goal

pub returns : goal.returns
returns c =
    let e = c.in-Ok.engine in
    let n = c.walk-walked.new.engine in
    let how = c.walk-walked.result in
    let journal = c.close-closed.result.journal in
    let given : e.0 ≡ c.args.inputs.scripts = c.in-Ok.ensures.0 ∙ c.from-scripts.ensures.0 ∙ c.into_vec.ensures in
    let left : n.0 ≡ c.args.inputs.scripts = c.walk-walked.ensures.same ∙ given in
    let whole = not_stopped how n.3 (c.walk-walked.ensures.cause c.in-Ok.ensures.4) in
    let goes : n.4 ≡ None = c.walk-walked.ensures.stops ∙ walk_goes how e.4 whole c.in-Ok.ensures.4 in
    let well = closes_well c.close-closed.result.stop _ (c.close-closed.ensures.cause goes) in
    let empty : IsEmptyStore (shown e.3) = search rules in
    ran c.args.inputs.scripts c.args.inputs.plan.lines how c.ending.result (shown e.3) (shown n.3) e.1 n.1 e.5 n.5 journal c.ending.ensures c.in-Ok.ensures.1 empty
    (subst (λ (ss : List (List ℕ)). (ways : ℕ → ℕ) → AreFew ways e.5 (shown e.3) → Leaves (λ new. IsWalk ss c.args.inputs.plan.lines (seen e.1 e.5 (shown e.3) ways) new how) n.1 n.5 (shown n.3)) given c.walk-walked.ensures.walk)
    (subst (λ (ss : List (List ℕ)). IsLegal no_tables ss journal.entries journal.locks) left c.close-closed.ensures.legal)
    c.close-closed.ensures.ends
    (subst (λ (ss : List (List ℕ)). AllAtRest (length ss) journal.entries) left (c.close-closed.ensures.rest well))
