use Rattle.std.proofs.Common.{◌++◌, ◌∙◌, [], ap, refl, sym, subst, arith}
use Rattle.lock_modes.specs.Lock.{Grants, released, apply}
use Rattle.lock_modes.specs.Serving.{Serves}
use Rattle.lock_modes.specs.declared.event.LockEvent.TheVariants.{Released}
use Rattle.lock_manager.specs.Owners.{grants_in, victim_in}
use Rattle.lock_modes.specs.Names.{same_name}
use Rattle.lock_manager.proofs.FreedLemmas.{released_agrees, still_settled}
use Rattle.lock_manager.specs.Table.{lock}
use Rattle.lock_manager.proofs.BothLemmas.{only_left, settled_both, state_both}
use Rattle.lock_manager.proofs.TableLemmas.{keep_total, keep_waits, keep_lefts, keep_victims, waiters_same, grants_path}
use Rattle.lock_manager.proofs.TableLemmas.{apart_as}
use Rattle.lock_manager.proofs.BothLemmas.{apart_both, apart_of}
use Rattle.lock_manager.proofs.ProperLemmas.{served_proper}
use Rattle.lock_modes.proofs.ApartLemmas.{apart_released}
use Rattle.lock_manager.proofs.RoomLemmas.{room_fits}
use Rattle.lock_manager.proofs.table.LockTable.release.Goals as goal

pub serve_both-requires-clause-waiters : goal.serve_both-requires-clause-waiters
serve_both-requires-clause-waiters c =
    let s = c.args.self.now in
    let after = released (grants_in s.ledger.owners.entries) c.args.t c.args.name in
    waiters_same s.ledger.owners.entries c.release.new.self.owners.entries (keep_waits s.ledger.owners.entries c.release.new.self.owners.entries c.args.t after c.release.ensures.changes c.release.ensures.same) (s.conversions.line.items ++ s.requests.line.items) s.waiters

pub serve_both-requires-clause-room : goal.serve_both-requires-clause-room
serve_both-requires-clause-room c = omega (arith, c.args.self.now.room.woken_fit)

pub invariant_of-self : goal.invariant_of-self
invariant_of-self c =
    let s = c.args.self.now in
    let os1 = c.release.new.self.owners.entries in
    let os2 = c.serve_both.new.ledger.owners.entries in
    let after = released (grants_in s.ledger.owners.entries) c.args.t c.args.name in
    let waits = keep_waits s.ledger.owners.entries os1 c.args.t after c.release.ensures.changes c.release.ensures.same in
    let q = s.conversions.line.items ++ s.requests.line.items in
    let w1 = waiters_same s.ledger.owners.entries os1 waits q s.waiters in
    let f = c.serve_both.ensures.room in
    record {
      total = keep_total s.ledger.owners.entries os1 c.args.t after s.left c.release.ensures.changes c.release.ensures.room s.total ∙ sym c.serve_both.ensures.served.wakes.total;
      room = record {
        conversions_fit = room_fits s.left s.conversions c.serve_both.new.conversions f.conversions_fit s.room.conversions_fit;
        requests_fit = room_fits s.left s.requests c.serve_both.new.requests f.requests_fit s.room.requests_fit;
        woken_fit = omega (arith, s.room.woken_fit, f.woken_sum, f.woken_room);
      };
      waiters = c.serve_both.ensures.served.waiters;
      only = only_left os1 os2 s.conversions.line.items s.requests.line.items c.serve_both.new.conversions.line.items c.serve_both.new.requests.line.items s.woken.items c.serve_both.new.woken.items w1 (λ u. waits u ∙ s.only u) c.serve_both.ensures.served;
      settled = settled_both os1 os2 s.conversions.line.items s.requests.line.items c.serve_both.new.conversions.line.items c.serve_both.new.requests.line.items s.woken.items c.serve_both.new.woken.items c.serve_both.ensures.served;
      apart = apart_both os1 os2 s.conversions.line.items s.requests.line.items c.serve_both.new.conversions.line.items c.serve_both.new.requests.line.items s.woken.items c.serve_both.new.woken.items c.serve_both.ensures.served (apart_as os1 after c.release.ensures.changes.grants_are (apart_released (grants_in s.ledger.owners.entries) c.args.t c.args.name s.apart));
    }

pub returns-clause-ok : goal.returns-clause-ok
returns-clause-ok c =
    let s = c.args.self.now in
    let os1 = c.release.new.self.owners.entries in
    let os2 = c.serve_both.new.ledger.owners.entries in
    let after = released (grants_in s.ledger.owners.entries) c.args.t c.args.name in
    let path = grants_path os1 after c.release.ensures.changes.grants_are in
    let b = c.serve_both.ensures.served in
    let q' = c.serve_both.new.conversions.line.items ++ c.serve_both.new.requests.line.items in
    let v = keep_victims s.ledger.owners.entries os1 c.args.t after c.release.ensures.changes c.release.ensures.victim in
    let order = subst (λ (g : Grants). Serves g [] (s.conversions.line.items ++ s.requests.line.items) b.woken q') path b.order in
    record {
      given = b.woken;
      noted = b.noted;
      order = order;
      events = state_both os1 os2 (apply (lock s) (Released c.args.t c.args.name)) c.serve_both.new.conversions.line.items c.serve_both.new.requests.line.items s.woken.items c.serve_both.new.woken.items (victim_in os2) path (λ u. ap (λ f. f u) v) b;
      proper = served_proper (apply (lock s) (Released c.args.t c.args.name)) [] (s.conversions.line.items ++ s.requests.line.items) b.woken q' refl (apart_of s.ledger.owners.entries (s.conversions.line.items ++ s.requests.line.items) s.waiters) order;
    }

pub returns-clause-settled : goal.returns-clause-settled
returns-clause-settled c =
    let s = c.args.self.now in
    settled_both c.release.new.self.owners.entries c.serve_both.new.ledger.owners.entries s.conversions.line.items s.requests.line.items c.serve_both.new.conversions.line.items c.serve_both.new.requests.line.items s.woken.items c.serve_both.new.woken.items c.serve_both.ensures.served

pub returns-clause-room : goal.returns-clause-room
returns-clause-room c =
    let s = c.args.self.now in
    let after = released (grants_in s.ledger.owners.entries) c.args.t c.args.name in
    λ u. c.serve_both.ensures.served.wakes.lefts u ∙ keep_lefts s.ledger.owners.entries c.release.new.self.owners.entries c.args.t after c.release.ensures.changes c.release.ensures.room u

pub serve_both-requires-clause-still : goal.serve_both-requires-clause-still
serve_both-requires-clause-still c =
    let s = c.args.self.now in
    let g = grants_in s.ledger.owners.entries in
    let g' = grants_in c.release.new.self.owners.entries in
    still_settled (same_name c.args.name) g g' [] (s.conversions.line.items ++ s.requests.line.items) (released_agrees g g' c.args.t c.args.name c.release.ensures.changes.grants_are) s.settled
