use Rattle.std.proofs.Common.{◌≡◌, ◌++◌, [], length, sym, ◌∙◌, ap, subst, arith, append_assoc}
use Rattle.lock_modes.specs.declared.event.LockEvent.TheVariants.{ReleasedAll}
use Rattle.lock_modes.specs.Lock.{Lock, queue, apply}
use Rattle.lock_modes.specs.Serving.{Serves}
use Rattle.lock_manager.specs.Table.{lock, woken_of}
use Rattle.session_engine.specs.Noted.{noted}
use Rattle.session_engine.proofs.ReleaseLemmas.{given_length, given_are}
use Rattle.session_engine.proofs.engine.release.Goals as goal

pub note_grants-requires : goal.note_grants-requires
note_grants-requires c =
    let gives = c.release_all.ensures.ok in
    let are : length (woken_of c.release_all.new.self) ≡ length gives.given = ap length (given_are c.args.locks.now c.release_all.new.self c.args.txn gives c.requires.none) in
    let less = given_length c.args.locks.now c.release_all.new.self c.args.txn gives in
    let len = c.put.ensures.len in
    let cap = c.put.ensures.capacity in
    let room = c.requires.room in
    omega (arith, are, less, len, cap, room)

pub returns-clause-given : goal.returns-clause-given
returns-clause-given c =
    let gives = c.release_all.ensures.ok in
    let same = c.note_grants.ensures.same in
    let is : woken_of c.release_all.new.self ≡ gives.given = given_are c.args.locks.now c.release_all.new.self c.args.txn gives c.requires.none in
    let are : length (woken_of c.release_all.new.self) ≡ length gives.given = ap length is in
    let less = given_length c.args.locks.now c.release_all.new.self c.args.txn gives in
    let len = c.put.ensures.len in
    let len2 = c.note_grants.ensures.len in
    let queued : length (queue (lock c.note_grants.new.locks)) ≡ length (queue (lock c.release_all.new.self)) = ap (λ l. length (queue l)) same in
    record {
      given = gives.given;
      order = subst (λ (x : Lock). Serves (apply (lock c.args.locks.now) (ReleasedAll c.args.txn)).grants [] (queue (apply (lock c.args.locks.now) (ReleasedAll c.args.txn))) gives.given (queue x)) (sym same) gives.order;
      lock_is = same ∙ gives.events;
      events_are = c.note_grants.ensures.events ∙ ap (λ rs. c.put.new.items.items ++ noted c.args.place rs) is ∙ ap (λ es. es ++ noted c.args.place gives.given) c.put.ensures.items
          ∙ append_assoc c.args.events.now.items _ (noted c.args.place gives.given);
      room = omega (arith, are, less, len, len2, queued);
      capacity = (let a = c.put.ensures.capacity in let b = c.note_grants.ensures.capacity in omega (arith, a, b));
    }
