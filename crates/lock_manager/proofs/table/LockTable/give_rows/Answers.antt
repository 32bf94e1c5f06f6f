use Rattle.std.proofs.Common.{◌++◌, ◌∙◌, [], ap, refl, sym, subst, arith}
use Rattle.lock_modes.specs.Lock.{Grants}
use Rattle.lock_modes.specs.Serving.{Serves}
use Rattle.lock_manager.specs.Owners.{grants_in, victim_in}
use Rattle.lock_modes.specs.Names.{is_row_name}
use Rattle.lock_manager.proofs.FreedLemmas.{rows_agree, still_settled}
use Rattle.lock_manager.specs.Table.{lock}
use Rattle.lock_manager.proofs.BothLemmas.{only_left, settled_both, state_both}
use Rattle.lock_manager.proofs.TableLemmas.{keep_total, keep_waits, keep_lefts, keep_victims, waiters_same, grants_path}
use Rattle.lock_manager.proofs.TableLemmas.{apart_as}
use Rattle.lock_manager.proofs.BothLemmas.{apart_both, apart_of}
use Rattle.lock_manager.proofs.ProperLemmas.{served_proper}
use Rattle.lock_modes.proofs.EscalationLemmas.{apart_released_rows}
use Rattle.lock_modes.specs.Escalation.{released_rows}
use Rattle.lock_manager.proofs.RoomLemmas.{room_fits}
use Rattle.lock_manager.proofs.table.LockTable.give_rows.Goals as goal

pub serve_both-requires-clause-waiters : goal.serve_both-requires-clause-waiters
serve_both-requires-clause-waiters c =
    let s = c.args.self.now in
    let after = released_rows (grants_in s.ledger.owners.entries) c.args.t c.args.table in
    waiters_same s.ledger.owners.entries c.release_rows.new.self.owners.entries (keep_waits s.ledger.owners.entries c.release_rows.new.self.owners.entries c.args.t after c.release_rows.ensures.changes c.release_rows.ensures.same) (s.conversions.line.items ++ s.requests.line.items) s.waiters

pub serve_both-requires-clause-room : goal.serve_both-requires-clause-room
serve_both-requires-clause-room c = omega (arith, c.args.self.now.room.woken_fit)

pub invariant_of-self : goal.invariant_of-self
invariant_of-self c =
    let s = c.args.self.now in
    let os1 = c.release_rows.new.self.owners.entries in
    let os2 = c.serve_both.new.ledger.owners.entries in
    let after = released_rows (grants_in s.ledger.owners.entries) c.args.t c.args.table in
    let waits = keep_waits s.ledger.owners.entries os1 c.args.t after c.release_rows.ensures.changes c.release_rows.ensures.same in
    let q = s.conversions.line.items ++ s.requests.line.items in
    let w1 = waiters_same s.ledger.owners.entries os1 waits q s.waiters in
    let f = c.serve_both.ensures.room in
    record {
      total = keep_total s.ledger.owners.entries os1 c.args.t after s.left c.release_rows.ensures.changes c.release_rows.ensures.room s.total ∙ sym c.serve_both.ensures.served.wakes.total;
      room = record {
        conversions_fit = room_fits s.left s.conversions c.serve_both.new.conversions f.conversions_fit s.room.conversions_fit;
        requests_fit = room_fits s.left s.requests c.serve_both.new.requests f.requests_fit s.room.requests_fit;
        woken_fit = omega (arith, s.room.woken_fit, f.woken_sum, f.woken_room);
      };
      waiters = c.serve_both.ensures.served.waiters;
      only = only_left os1 os2 s.conversions.line.items s.requests.line.items c.serve_both.new.conversions.line.items c.serve_both.new.requests.line.items s.woken.items c.serve_both.new.woken.items w1 (λ u. waits u ∙ s.only u) c.serve_both.ensures.served;
      settled = settled_both os1 os2 s.conversions.line.items s.requests.line.items c.serve_both.new.conversions.line.items c.serve_both.new.requests.line.items s.woken.items c.serve_both.new.woken.items c.serve_both.ensures.served;
      apart = apart_both os1 os2 s.conversions.line.items s.requests.line.items c.serve_both.new.conversions.line.items c.serve_both.new.requests.line.items s.woken.items c.serve_both.new.woken.items c.serve_both.ensures.served (apart_as os1 after c.release_rows.ensures.changes.grants_are (apart_released_rows (grants_in s.ledger.owners.entries) c.args.t c.args.table s.apart));
    }

pub returns-clause-ok : goal.returns-clause-ok
returns-clause-ok c =
    let s = c.args.self.now in
    let os1 = c.release_rows.new.self.owners.entries in
    let os2 = c.serve_both.new.ledger.owners.entries in
    let after = released_rows (grants_in s.ledger.owners.entries) c.args.t c.args.table in
    let path = grants_path os1 after c.release_rows.ensures.changes.grants_are in
    let b = c.serve_both.ensures.served in
    let q' = c.serve_both.new.conversions.line.items ++ c.serve_both.new.requests.line.items in
    let v = keep_victims s.ledger.owners.entries os1 c.args.t after c.release_rows.ensures.changes c.release_rows.ensures.victim in
    let order = subst (λ (g : Grants). Serves g [] (s.conversions.line.items ++ s.requests.line.items) b.woken q') path b.order in
    record {
      given = b.woken;
      noted = b.noted;
      order = order;
      events = state_both os1 os2 (record (lock s) { grants = after }) c.serve_both.new.conversions.line.items c.serve_both.new.requests.line.items s.woken.items c.serve_both.new.woken.items (victim_in os2) path (λ u. ap (λ f. f u) v) b;
      proper = served_proper (record (lock s) { grants = after }) [] (s.conversions.line.items ++ s.requests.line.items) b.woken q' refl (apart_of s.ledger.owners.entries (s.conversions.line.items ++ s.requests.line.items) s.waiters) order;
    }

pub returns-clause-room : goal.returns-clause-room
returns-clause-room c =
    let s = c.args.self.now in
    let after = released_rows (grants_in s.ledger.owners.entries) c.args.t c.args.table in
    λ u. c.serve_both.ensures.served.wakes.lefts u ∙ keep_lefts s.ledger.owners.entries c.release_rows.new.self.owners.entries c.args.t after c.release_rows.ensures.changes c.release_rows.ensures.room u

pub serve_both-requires-clause-still : goal.serve_both-requires-clause-still
serve_both-requires-clause-still c =
    let s = c.args.self.now in
    let g = grants_in s.ledger.owners.entries in
    let g' = grants_in c.release_rows.new.self.owners.entries in
    still_settled (is_row_name c.args.table) g g' [] (s.conversions.line.items ++ s.requests.line.items) (rows_agree g g' c.args.t c.args.table c.release_rows.ensures.changes.grants_are) s.settled
