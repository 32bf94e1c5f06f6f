use Rattle.std.proofs.Common.{◌≡◌, length, ap, arith}
use Rattle.engine_close.proofs.CloseLemmas.{all_rest, on_ok}
use Rattle.engine_close.proofs.close.end_all.Goals as goal

pub returns-clause-ok : goal.returns-clause-ok
returns-clause-ok g c =
    let most = c.loop-c.invariant.most in
    let test = c.loop-c-test.false in
    let count = c.len-c-end.ensures in
    let same : length c.loop-c.parts.sessions.items ≡ length c.args.parts.now.sessions.items = ap (λ ss. length ss.items) c.loop-c.invariant.same in
    on_ok c.force.result _ (all_rest c.loop-c.parts.entries c.loop-c.parts.events c.loop-c.parts.sessions.items (g.S.RowStore.view c.loop-c.parts.store) c.loop-c.c c.loop-c.invariant.closing (omega (arith, most, test, count, same)))
