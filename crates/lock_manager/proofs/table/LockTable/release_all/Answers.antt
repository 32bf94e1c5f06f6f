use Rattle.std.proofs.Common.{◌≡◌, Option, ◌++◌, ◌∙◌, [], List, ap, refl, sym, subst, arith}
use Rattle.lock_modes.specs.declared.entry.Request.{Request}
use Rattle.lock_modes.specs.Lock.{Grants, released_all, without, apply}
use Rattle.lock_modes.specs.Serving.{Serves}
use Rattle.lock_modes.specs.declared.event.LockEvent.TheVariants.{ReleasedAll}
use Rattle.lock_manager.specs.Owners.{grants_in, victim_in}
use Rattle.dby_types.specs.declared.number.TxnNo.{TxnNo}
use Rattle.lock_modes.specs.Names.{same_txn}
use Rattle.lock_manager.specs.Serve.{Waiters, ServedBoth, is_among}
use Rattle.std.specs.Prelude.{◌&&◌, not, false}
use Rattle.lock_manager.specs.Owners.{waits_in}
use Rattle.std.specs.List.{find}
use Rattle.lock_modes.specs.Modes.{is_held}
use Rattle.lock_modes.specs.declared.name.LockName.{LockName}
use Rattle.lock_manager.specs.declared.owner.Owner.{Owner}
use Rattle.lock_manager.specs.declared.freed.Freed.TheVariants.{All}
use Rattle.lock_manager.specs.Freed.{frees, name_of, StillBlocked}
use Rattle.lock_manager.specs.Owners.{owner_of, modes_of}
use Rattle.lock_manager.proofs.FreedLemmas.{still_gone, gone_agrees, one_request}
use Rattle.lock_manager.specs.Table.{lock}
use Rattle.lock_manager.proofs.BothLemmas.{waiters_gone, only_gone, only_left, settled_both, state_both}
use Rattle.lock_manager.proofs.TableLemmas.{grants_path}
use Rattle.lock_manager.proofs.TableLemmas.{apart_as}
use Rattle.lock_manager.proofs.BothLemmas.{apart_both, apart_of}
use Rattle.lock_manager.proofs.ProperLemmas.{served_proper}
use Rattle.lock_modes.proofs.ApartLemmas.{apart_released_all}
use Rattle.lock_manager.proofs.RoomLemmas.{room_fits, room_less}
use Rattle.lock_manager.proofs.table.LockTable.release_all.Goals as goal

pub serve_both-requires-clause-waiters : goal.serve_both-requires-clause-waiters
serve_both-requires-clause-waiters c =
    let s = c.args.self.now in
    let os = s.ledger.owners.entries in
    let os1 = c.remove-had.new.self.owners.entries in
    let cs = without c.args.t s.conversions.line.items in
    let rs = without c.args.t s.requests.line.items in
    let gone = c.remove-had.ensures.gone in
    let others : (u : TxnNo) → same_txn c.args.t u ≡ false → waits_in os1 u ≡ waits_in os u = λ u other. gone.waits u ∙ ap (λ z. not z && waits_in os u) other in
    let w1 : Waiters os1 (cs ++ rs) = waiters_gone os os1 c.args.t others s.conversions.line.items s.requests.line.items s.waiters in
    let only1 : (u : TxnNo) → waits_in os1 u ≡ is_among u (cs ++ rs) = only_gone os os1 c.args.t gone.waits s.conversions.line.items s.requests.line.items s.only in
    subst (λ (x : List Request). Waiters os1 (x ++ c.drop_both.new.requests.line.items)) (sym c.drop_both.ensures.conversions) (subst (λ (x : List Request). Waiters os1 (cs ++ x)) (sym c.drop_both.ensures.requests) w1)

pub serve_both-requires-clause-room : goal.serve_both-requires-clause-room
serve_both-requires-clause-room c = omega (arith, c.args.self.now.room.woken_fit, c.drop_both.ensures.conversions_fit.shorter, c.drop_both.ensures.requests_fit.shorter)

pub invariant_of-self : goal.invariant_of-self
invariant_of-self c =
    let s = c.args.self.now in
    let os = s.ledger.owners.entries in
    let os1 = c.remove-had.new.self.owners.entries in
    let os2 = c.serve_both.new.ledger.owners.entries in
    let cs = without c.args.t s.conversions.line.items in
    let rs = without c.args.t s.requests.line.items in
    let gone = c.remove-had.ensures.gone in
    let others : (u : TxnNo) → same_txn c.args.t u ≡ false → waits_in os1 u ≡ waits_in os u = λ u other. gone.waits u ∙ ap (λ z. not z && waits_in os u) other in
    let w1 : Waiters os1 (cs ++ rs) = waiters_gone os os1 c.args.t others s.conversions.line.items s.requests.line.items s.waiters in
    let only1 : (u : TxnNo) → waits_in os1 u ≡ is_among u (cs ++ rs) = only_gone os os1 c.args.t gone.waits s.conversions.line.items s.requests.line.items s.only in
    let served : ServedBoth os1 os2 cs rs c.serve_both.new.conversions.line.items c.serve_both.new.requests.line.items s.woken.items c.serve_both.new.woken.items =
    subst (λ (x : List Request). ServedBoth os1 os2 x rs c.serve_both.new.conversions.line.items c.serve_both.new.requests.line.items s.woken.items c.serve_both.new.woken.items) c.drop_both.ensures.conversions
    (subst (λ (x : List Request). ServedBoth os1 os2 c.drop_both.new.conversions.line.items x c.serve_both.new.conversions.line.items c.serve_both.new.requests.line.items s.woken.items c.serve_both.new.woken.items) c.drop_both.ensures.requests c.serve_both.ensures.served) in
    let f = c.serve_both.ensures.room in
    let total1 = c.remove-had.ensures.total in
    let left = c.left-left.ensures.exact in
    record {
      total = omega (arith, s.total, total1, left, served.wakes.total);
      room = record {
        conversions_fit = room_less s.left _ c.serve_both.new.conversions (omega (arith, left)) (room_fits s.left c.drop_both.new.conversions c.serve_both.new.conversions f.conversions_fit (room_fits s.left s.conversions c.drop_both.new.conversions c.drop_both.ensures.conversions_fit s.room.conversions_fit));
        requests_fit = room_less s.left _ c.serve_both.new.requests (omega (arith, left)) (room_fits s.left c.drop_both.new.requests c.serve_both.new.requests f.requests_fit (room_fits s.left s.requests c.drop_both.new.requests c.drop_both.ensures.requests_fit s.room.requests_fit));
        woken_fit = omega (arith, s.room.woken_fit, f.woken_sum, f.woken_room, c.drop_both.ensures.conversions_fit.shorter, c.drop_both.ensures.requests_fit.shorter);
      };
      waiters = served.waiters;
      only = only_left os1 os2 cs rs c.serve_both.new.conversions.line.items c.serve_both.new.requests.line.items s.woken.items c.serve_both.new.woken.items w1 only1 served;
      settled = settled_both os1 os2 cs rs c.serve_both.new.conversions.line.items c.serve_both.new.requests.line.items s.woken.items c.serve_both.new.woken.items served;
      apart = apart_both os1 os2 cs rs c.serve_both.new.conversions.line.items c.serve_both.new.requests.line.items s.woken.items c.serve_both.new.woken.items served (apart_as os1 (released_all (grants_in os) c.args.t) c.remove-had.ensures.grants (apart_released_all (grants_in os) c.args.t s.apart));
    }

pub returns-clause-ok : goal.returns-clause-ok
returns-clause-ok c =
    let s = c.args.self.now in
    let os = s.ledger.owners.entries in
    let os1 = c.remove-had.new.self.owners.entries in
    let os2 = c.serve_both.new.ledger.owners.entries in
    let cs = without c.args.t s.conversions.line.items in
    let rs = without c.args.t s.requests.line.items in
    let gone = c.remove-had.ensures.gone in
    let others : (u : TxnNo) → same_txn c.args.t u ≡ false → waits_in os1 u ≡ waits_in os u = λ u other. gone.waits u ∙ ap (λ z. not z && waits_in os u) other in
    let w1 : Waiters os1 (cs ++ rs) = waiters_gone os os1 c.args.t others s.conversions.line.items s.requests.line.items s.waiters in
    let only1 : (u : TxnNo) → waits_in os1 u ≡ is_among u (cs ++ rs) = only_gone os os1 c.args.t gone.waits s.conversions.line.items s.requests.line.items s.only in
    let served : ServedBoth os1 os2 cs rs c.serve_both.new.conversions.line.items c.serve_both.new.requests.line.items s.woken.items c.serve_both.new.woken.items =
    subst (λ (x : List Request). ServedBoth os1 os2 x rs c.serve_both.new.conversions.line.items c.serve_both.new.requests.line.items s.woken.items c.serve_both.new.woken.items) c.drop_both.ensures.conversions
    (subst (λ (x : List Request). ServedBoth os1 os2 c.drop_both.new.conversions.line.items x c.serve_both.new.conversions.line.items c.serve_both.new.requests.line.items s.woken.items c.serve_both.new.woken.items) c.drop_both.ensures.requests c.serve_both.ensures.served) in
    let path = grants_path os1 (released_all (grants_in os) c.args.t) c.remove-had.ensures.grants in
    let q' = c.serve_both.new.conversions.line.items ++ c.serve_both.new.requests.line.items in
    let order = subst (λ (g : Grants). Serves g [] (cs ++ rs) served.woken q') path served.order in
    record {
      given = served.woken;
      noted = served.noted;
      order = order;
      events = state_both os1 os2 (apply (lock s) (ReleasedAll c.args.t)) c.serve_both.new.conversions.line.items c.serve_both.new.requests.line.items s.woken.items c.serve_both.new.woken.items (victim_in os2) path gone.victims served;
      proper = served_proper (apply (lock s) (ReleasedAll c.args.t)) [] (cs ++ rs) served.woken q' refl (apart_of os1 (cs ++ rs) w1) order;
    }

pub returns-clause-settled : goal.returns-clause-settled
returns-clause-settled c =
    let s = c.args.self.now in
    let os = s.ledger.owners.entries in
    let os1 = c.remove-had.new.self.owners.entries in
    let os2 = c.serve_both.new.ledger.owners.entries in
    let cs = without c.args.t s.conversions.line.items in
    let rs = without c.args.t s.requests.line.items in
    let gone = c.remove-had.ensures.gone in
    let others : (u : TxnNo) → same_txn c.args.t u ≡ false → waits_in os1 u ≡ waits_in os u = λ u other. gone.waits u ∙ ap (λ z. not z && waits_in os u) other in
    let w1 : Waiters os1 (cs ++ rs) = waiters_gone os os1 c.args.t others s.conversions.line.items s.requests.line.items s.waiters in
    let only1 : (u : TxnNo) → waits_in os1 u ≡ is_among u (cs ++ rs) = only_gone os os1 c.args.t gone.waits s.conversions.line.items s.requests.line.items s.only in
    let served : ServedBoth os1 os2 cs rs c.serve_both.new.conversions.line.items c.serve_both.new.requests.line.items s.woken.items c.serve_both.new.woken.items =
    subst (λ (x : List Request). ServedBoth os1 os2 x rs c.serve_both.new.conversions.line.items c.serve_both.new.requests.line.items s.woken.items c.serve_both.new.woken.items) c.drop_both.ensures.conversions
    (subst (λ (x : List Request). ServedBoth os1 os2 c.drop_both.new.conversions.line.items x c.serve_both.new.conversions.line.items c.serve_both.new.requests.line.items s.woken.items c.serve_both.new.woken.items) c.drop_both.ensures.requests c.serve_both.ensures.served) in
    settled_both os1 os2 cs rs c.serve_both.new.conversions.line.items c.serve_both.new.requests.line.items s.woken.items c.serve_both.new.woken.items served

pub returns-clause-room : goal.returns-clause-room
returns-clause-room c = λ u. c.serve_both.ensures.served.wakes.lefts u ∙ c.remove-had.ensures.gone.lefts u

pub serve_both-requires-clause-still : goal.serve_both-requires-clause-still
serve_both-requires-clause-still c =
    let s = c.args.self.now in
    let os = s.ledger.owners.entries in
    let g' = grants_in c.remove-had.new.self.owners.entries in
    let q = s.conversions.line.items ++ s.requests.line.items in
    let mine = name_of (find (λ r. same_txn r.txn c.args.t) q) in
    let asked : c.asked_by-asked.result ≡ mine = c.asked_by-asked.ensures.exact in
    let w : StillBlocked (frees (All (owner_of os c.args.t) mine)) g' [] (without c.args.t s.conversions.line.items ++ without c.args.t s.requests.line.items) =
    still_gone (frees (All (owner_of os c.args.t) mine)) (grants_in os) g' c.args.t s.conversions.line.items s.requests.line.items
    (gone_agrees os g' c.args.t mine c.remove-had.ensures.grants) (one_request (λ k. is_held (modes_of (owner_of os c.args.t) k)) os c.args.t q s.waiters) s.settled in
    let lists : StillBlocked (frees (All (owner_of os c.args.t) mine)) g' [] (c.drop_both.new.conversions.line.items ++ c.drop_both.new.requests.line.items) =
    subst (λ (x : List Request). StillBlocked (frees (All (owner_of os c.args.t) mine)) g' [] (x ++ c.drop_both.new.requests.line.items)) (sym c.drop_both.ensures.conversions)
    (subst (λ (x : List Request). StillBlocked (frees (All (owner_of os c.args.t) mine)) g' [] (without c.args.t s.conversions.line.items ++ x)) (sym c.drop_both.ensures.requests) w) in
    let had : StillBlocked (frees (All c.remove-had.result mine)) g' [] (c.drop_both.new.conversions.line.items ++ c.drop_both.new.requests.line.items) =
    subst (λ (o : Option Owner). StillBlocked (frees (All o mine)) g' [] (c.drop_both.new.conversions.line.items ++ c.drop_both.new.requests.line.items)) (sym c.remove-had.ensures.owner) lists in
    subst (λ (n : Option LockName). StillBlocked (frees (All c.remove-had.result n)) g' [] (c.drop_both.new.conversions.line.items ++ c.drop_both.new.requests.line.items)) (sym asked) had

pub asked_by-asked-requires : goal.asked_by-asked-requires
asked_by-asked-requires c = c.waits-waits.ensures.exact ∙ c.args.self.now.only c.args.t

pub drop_both-requires : goal.drop_both-requires
drop_both-requires c = c.waits-waits.ensures.exact ∙ c.args.self.now.only c.args.t
