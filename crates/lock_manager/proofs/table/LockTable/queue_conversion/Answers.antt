use Rattle.std.proofs.Common.{◌≡◌, ◌<◌, ◌-◌, ◌++◌, [], ◌∙◌, sym, subst, arith, List, refl}
use Rattle.dby_types.specs.declared.number.TxnNo.{TxnNo}
use Rattle.lock_modes.specs.declared.entry.Request.{Request}
use Rattle.lock_modes.specs.Waits.{AllBlocked}
use Rattle.lock_manager.specs.Owners.{grants_in, waits_in}
use Rattle.lock_manager.specs.Serve.{Waiters, is_among}
use Rattle.lock_manager.specs.Table.{lock}
use Rattle.lock_manager.proofs.BlockedLemmas.{queued_conversion}
use Rattle.lock_manager.proofs.TableLemmas.{keep_victims, settled_as, lock_path, grants_path, not_among, not_among_parts, waiters_insert, only_insert, set_aside, less_left}
use Rattle.lock_manager.proofs.TableLemmas.{apart_as}
use Rattle.lock_manager.proofs.RoomLemmas.{room_less, room_pushed}
use Rattle.lock_manager.proofs.table.LockTable.queue_conversion.Goals as goal

pub invariant_of-self-2 : goal.invariant_of-self-2
invariant_of-self-2 c =
    let s = c.args.self.now in
    let os = s.ledger.owners.entries in
    let os' = c.wait.new.self.owners.entries in
    let g = grants_in os in
    let aside = set_aside os os' c.args.r.txn g s.left c.wait.ensures.changes c.wait.ensures.room s.total in
    let none = not_among (lock s) c.args.r.txn c.requires.idle in
    let items = c.push.ensures.items in
    let positive : 0 < s.left = aside.0 in
    record {
      total = aside.1;
      room = record { conversions_fit = room_pushed s.left s.conversions c.push.new.self positive c.push.ensures.len c.push.ensures.capacity c.push.ensures.spare s.room.conversions_fit; requests_fit = room_less s.left (s.left - 1) s.requests (omega arith) s.room.requests_fit; woken_fit = omega (arith, s.room.woken_fit, positive, c.push.ensures.len) };
      waiters = subst (λ (x : List Request). Waiters os' (x ++ s.requests.line.items)) (sym items) (waiters_insert os os' c.args.r c.wait.ensures.changes.others_wait c.wait.ensures.same s.conversions.line.items s.requests.line.items s.waiters none);
      only = subst (λ (x : List Request). (u : TxnNo) → waits_in os' u ≡ is_among u (x ++ s.requests.line.items)) (sym items) (only_insert os os' c.args.r c.wait.ensures.changes.others_wait c.wait.ensures.same s.conversions.line.items s.requests.line.items s.only);
      settled = subst (λ (x : List Request). AllBlocked (grants_in os') [] (x ++ s.requests.line.items)) (sym items) (settled_as os' g [] _ c.wait.ensures.changes.grants_are (queued_conversion g s.conversions.line.items s.requests.line.items c.args.r s.settled c.requires.blocked));
      apart = apart_as os' g c.wait.ensures.changes.grants_are s.apart;
    }

pub push-requires-clause-line : goal.push-requires-clause-line
push-requires-clause-line c =
    let s = c.args.self.now in
    let os = s.ledger.owners.entries in
    let os' = c.wait.new.self.owners.entries in
    let g = grants_in os in
    let aside = set_aside os os' c.args.r.txn g s.left c.wait.ensures.changes c.wait.ensures.room s.total in
    omega (arith, s.room.conversions_fit.line_fits, aside.0)

pub push-requires-clause-asked : goal.push-requires-clause-asked
push-requires-clause-asked c =
    let s = c.args.self.now in
    let os = s.ledger.owners.entries in
    let os' = c.wait.new.self.owners.entries in
    let g = grants_in os in
    let aside = set_aside os os' c.args.r.txn g s.left c.wait.ensures.changes c.wait.ensures.room s.total in
    omega (arith, s.room.conversions_fit.names_fit, aside.0)

pub overflow_sub-self : goal.overflow_sub-self
overflow_sub-self c =
    let s = c.args.self.now in
    let os = s.ledger.owners.entries in
    let os' = c.wait.new.self.owners.entries in
    let g = grants_in os in
    let aside = set_aside os os' c.args.r.txn g s.left c.wait.ensures.changes c.wait.ensures.room s.total in
    omega (arith, aside.0)

pub returns-clause-ok : goal.returns-clause-ok
returns-clause-ok c =
    let s = c.args.self.now in
    let os = s.ledger.owners.entries in
    let os' = c.wait.new.self.owners.entries in
    let g = grants_in os in
    lock_path _ _ (grants_path os' g c.wait.ensures.changes.grants_are) c.push.ensures.items refl
    (keep_victims os os' c.args.r.txn g c.wait.ensures.changes c.wait.ensures.victim)

pub returns-clause-room : goal.returns-clause-room
returns-clause-room c =
    let s = c.args.self.now in
    let os = s.ledger.owners.entries in
    let os' = c.wait.new.self.owners.entries in
    let g = grants_in os in
    less_left os os' c.args.r.txn g c.wait.ensures.changes c.wait.ensures.room

pub wait-requires-clause-idle : goal.wait-requires-clause-idle
wait-requires-clause-idle c = c.args.self.now.only c.args.r.txn ∙ not_among (lock c.args.self.now) c.args.r.txn c.requires.idle

pub push-requires-clause-apart : goal.push-requires-clause-apart
push-requires-clause-apart c =
    let s = c.args.self.now in
    (not_among_parts c.args.r.txn s.conversions.line.items s.requests.line.items (not_among (lock s) c.args.r.txn c.requires.idle)).0
