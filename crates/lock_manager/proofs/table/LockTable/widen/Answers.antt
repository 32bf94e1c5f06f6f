use Rattle.std.proofs.Common.{◌≡◌, ◌≤◌, ◌+◌, ◌-◌, ◌∙◌, ap, sym, subst, arith, ℕ}
use Rattle.dby_types.specs.declared.number.TxnNo.{TxnNo}
use Rattle.lock_modes.specs.declared.name.LockName.{LockName}
use Rattle.lock_manager.specs.Owners.{grants_in, waits_in, victim_in, left_in}
use Rattle.lock_manager.proofs.TableLemmas.{keep_total, keep_waits, keep_victims, kept_waiters, kept_only, kept_settled, more_total, lock_path}
use Rattle.lock_manager.proofs.TableLemmas.{apart_as}
use Rattle.lock_manager.proofs.RoomLemmas.{room_grows}
use Rattle.lock_manager.proofs.table.LockTable.widen.Goals as goal

pub invariant_of-self-in-Break-branch-2 : goal.invariant_of-self-in-Break-branch-2
invariant_of-self-in-Break-branch-2 c =
    let s = c.args.self.now in
    let os = s.ledger.owners.entries in
    let os1 = c.open.new.self.owners.entries in
    let grows = c.make_room.ensures.same in
    let same1 = c.open.ensures.same in
    record {
      total = s.total ∙ sym same1.total;
      room = record { conversions_fit = room_grows s.left s.conversions c.make_room.new.conversions grows.conversions_grow s.room.conversions_fit; requests_fit = room_grows s.left s.requests c.make_room.new.requests grows.requests_grow s.room.requests_fit; woken_fit = omega (arith, s.room.woken_fit, grows.woken_len, grows.woken_room, grows.conversions_grow.len, grows.requests_grow.len) };
      waiters = kept_waiters os os1 s.conversions.line.items s.requests.line.items c.make_room.new.conversions.line.items c.make_room.new.requests.line.items same1.waits grows.conversions_grow.items grows.requests_grow.items s.waiters;
      only = kept_only os os1 s.conversions.line.items s.requests.line.items c.make_room.new.conversions.line.items c.make_room.new.requests.line.items same1.waits grows.conversions_grow.items grows.requests_grow.items s.only;
      settled = kept_settled os os1 s.conversions.line.items s.requests.line.items c.make_room.new.conversions.line.items c.make_room.new.requests.line.items same1.grants grows.conversions_grow.items grows.requests_grow.items s.settled;
      apart = apart_as os1 (grants_in os) same1.grants s.apart;
    }

pub invariant_of-self-in-Err-1 : goal.invariant_of-self-in-Err-1
invariant_of-self-in-Err-1 c =
    let s = c.args.self.now in
    let os = s.ledger.owners.entries in
    let os1 = c.open.new.self.owners.entries in
    let grows = c.make_room.ensures.same in
    let same1 = c.open.ensures.same in
    let os2 = c.reserve.new.self.owners.entries in
    let ch = c.reserve.ensures.changes in
    let waits2 : (u : TxnNo) → waits_in os2 u ≡ waits_in os u = λ u. keep_waits os1 os2 c.args.t (grants_in os1) ch c.reserve.ensures.same u ∙ same1.waits u in
    let grants2 : (u : TxnNo) (n : LockName) → grants_in os2 u n ≡ grants_in os u n = λ u n. ch.grants_are u n ∙ same1.grants u n in
    record {
      total = keep_total os1 os2 c.args.t (grants_in os1) s.left ch c.in-Err.ensures.room (s.total ∙ sym same1.total);
      room = record { conversions_fit = room_grows s.left s.conversions c.make_room.new.conversions grows.conversions_grow s.room.conversions_fit; requests_fit = room_grows s.left s.requests c.make_room.new.requests grows.requests_grow s.room.requests_fit; woken_fit = omega (arith, s.room.woken_fit, grows.woken_len, grows.woken_room, grows.conversions_grow.len, grows.requests_grow.len) };
      waiters = kept_waiters os os2 s.conversions.line.items s.requests.line.items c.make_room.new.conversions.line.items c.make_room.new.requests.line.items waits2 grows.conversions_grow.items grows.requests_grow.items s.waiters;
      only = kept_only os os2 s.conversions.line.items s.requests.line.items c.make_room.new.conversions.line.items c.make_room.new.requests.line.items waits2 grows.conversions_grow.items grows.requests_grow.items s.only;
      settled = kept_settled os os2 s.conversions.line.items s.requests.line.items c.make_room.new.conversions.line.items c.make_room.new.requests.line.items grants2 grows.conversions_grow.items grows.requests_grow.items s.settled;
      apart = apart_as os2 (grants_in os) grants2 s.apart;
    }

pub invariant_of-self-in-Ok : goal.invariant_of-self-in-Ok
invariant_of-self-in-Ok c =
    let s = c.args.self.now in
    let os = s.ledger.owners.entries in
    let os1 = c.open.new.self.owners.entries in
    let grows = c.make_room.ensures.same in
    let same1 = c.open.ensures.same in
    let os2 = c.reserve.new.self.owners.entries in
    let ch = c.reserve.ensures.changes in
    let waits2 : (u : TxnNo) → waits_in os2 u ≡ waits_in os u = λ u. keep_waits os1 os2 c.args.t (grants_in os1) ch c.reserve.ensures.same u ∙ same1.waits u in
    let grants2 : (u : TxnNo) (n : LockName) → grants_in os2 u n ≡ grants_in os u n = λ u n. ch.grants_are u n ∙ same1.grants u n in
    let had : left_in os1 c.args.t ≡ left_in os c.args.t = same1.lefts c.args.t in
    let more : left_in os1 c.args.t ≤ c.args.n = subst (λ (x : ℕ). x ≤ c.args.n) (sym had) c.requires.more in
    let sum : c.args.left ≡ s.left + (c.args.n - left_in os1 c.args.t) = c.requires.sum ∙ ap (λ (x : ℕ). s.left + (c.args.n - x)) (sym had) in
    record {
      total = sum ∙ more_total os1 os2 c.args.t (grants_in os1) s.left c.args.n ch c.in-Ok.ensures.room more (s.total ∙ sym same1.total);
      room = c.in_ok-make_room.ensures.ok;
      waiters = kept_waiters os os2 s.conversions.line.items s.requests.line.items c.make_room.new.conversions.line.items c.make_room.new.requests.line.items waits2 grows.conversions_grow.items grows.requests_grow.items s.waiters;
      only = kept_only os os2 s.conversions.line.items s.requests.line.items c.make_room.new.conversions.line.items c.make_room.new.requests.line.items waits2 grows.conversions_grow.items grows.requests_grow.items s.only;
      settled = kept_settled os os2 s.conversions.line.items s.requests.line.items c.make_room.new.conversions.line.items c.make_room.new.requests.line.items grants2 grows.conversions_grow.items grows.requests_grow.items s.settled;
      apart = apart_as os2 (grants_in os) grants2 s.apart;
    }

pub returns-in-Ok-clause-same : goal.returns-in-Ok-clause-same
returns-in-Ok-clause-same c =
    let s = c.args.self.now in
    let os = s.ledger.owners.entries in
    let os1 = c.open.new.self.owners.entries in
    let grows = c.make_room.ensures.same in
    let same1 = c.open.ensures.same in
    let os2 = c.reserve.new.self.owners.entries in
    let ch = c.reserve.ensures.changes in
    let waits2 : (u : TxnNo) → waits_in os2 u ≡ waits_in os u = λ u. keep_waits os1 os2 c.args.t (grants_in os1) ch c.reserve.ensures.same u ∙ same1.waits u in
    let grants2 : (u : TxnNo) (n : LockName) → grants_in os2 u n ≡ grants_in os u n = λ u n. ch.grants_are u n ∙ same1.grants u n in
    let v : (u : TxnNo) → victim_in os2 u ≡ victim_in os u = λ u. ap (λ f. f u) (keep_victims os1 os2 c.args.t (grants_in os1) ch c.reserve.ensures.victim) ∙ same1.victims u in
    lock_path _ _ (λ i u n. grants2 u n i) grows.conversions_grow.items grows.requests_grow.items (λ i u. v u i)

pub returns-in-Err-clause-same : goal.returns-in-Err-clause-same
returns-in-Err-clause-same c =
    let s = c.args.self.now in
    let os = s.ledger.owners.entries in
    let os1 = c.open.new.self.owners.entries in
    let grows = c.make_room.ensures.same in
    let same1 = c.open.ensures.same in
    let os2 = c.reserve.new.self.owners.entries in
    let ch = c.reserve.ensures.changes in
    let waits2 : (u : TxnNo) → waits_in os2 u ≡ waits_in os u = λ u. keep_waits os1 os2 c.args.t (grants_in os1) ch c.reserve.ensures.same u ∙ same1.waits u in
    let grants2 : (u : TxnNo) (n : LockName) → grants_in os2 u n ≡ grants_in os u n = λ u n. ch.grants_are u n ∙ same1.grants u n in
    let v : (u : TxnNo) → victim_in os2 u ≡ victim_in os u = λ u. ap (λ f. f u) (keep_victims os1 os2 c.args.t (grants_in os1) ch c.reserve.ensures.victim) ∙ same1.victims u in
    lock_path _ _ (λ i u n. grants2 u n i) grows.conversions_grow.items grows.requests_grow.items (λ i u. v u i)
