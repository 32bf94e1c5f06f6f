use Rattle.std.proofs.Common.{◌≡◌, ◌<◌, length, ap, arith}
use Rattle.session_engine.proofs.OpeningLemmas.{opened, opened_room, scripts_length}
use Rattle.session_engine.proofs.SpentLemmas.{spent_new}
use Rattle.session_engine.proofs.engine.Engine.open.Goals as goal

pub invariant_of-result : goal.invariant_of-result
invariant_of-result g c =
    let new = c.in_ok-sessions.ensures in
    let count = scripts_length c.in_ok-sessions.sessions.items in
    let same : length _ ≡ length _ = ap length new.0 in
    let few = c.requires.few in
    let fits : length c.in_ok-sessions.sessions.items < (g.S.RowStore.view c.args.store).limit = omega (arith, count, same, few) in
    record {
      holds = rw (c.new.ensures.items, c.new-2.ensures.items, c.new-3.ensures.none, c.new-4.ensures.empty) (opened c.in_ok-sessions.sessions.items (g.S.RowStore.view c.args.store) new.1 c.requires.empty fits);
      room = rw c.new-3.ensures.none (opened_room c.new.result c.new-2.result c.in_ok-sessions.sessions.items new.1 c.new.ensures.len c.new-2.ensures.len);
      woken = c.new-3.ensures.woken;
      spent = spent_new c.in_ok-sessions.sessions.items new.1;
    }
