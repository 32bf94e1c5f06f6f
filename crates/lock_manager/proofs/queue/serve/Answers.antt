use Rattle.std.proofs.Common.{arith, ◌+◌, ◌++◌, sym, ◌∙◌, refl, subst, List, [], ◌∷◌}
use Rattle.std.proofs.lemmas.Option.{slice_get_read}
use Rattle.lock_manager.proofs.ServeLemmas.{serving_starts, serving_waits, serving_stays, serving_wakes, serving_ends, serving_blocked, serving_skips, still_ends}
use Rattle.lock_manager.specs.Freed.{frees}
use Rattle.lock_modes.specs.declared.entry.Request.{Request}
use Rattle.lock_manager.specs.Serve.{Serving}
use Rattle.lock_manager.proofs.queue.serve.Goals as goal

pub each-init : goal.each-init
each-init c =
    let os = c.args.ledger.now.owners.entries in
    let line = c.args.line.now.line.items in
    let given = c.args.woken.now.items in
    record {
      serving = serving_skips (frees c.args.freed.now) os os c.args.before.now.line.items line line given given 0 c.next_freed-i.result c.requires.still
          (serving_starts (frees c.args.freed.now) os c.args.before.now.line.items line given c.requires.waiters) c.next_freed-i.ensures.skips;
      sum = refl;
      room = refl;
      fits = record { shorter = omega arith; room = refl; names = omega arith };
      within = (let end = c.next_freed-i.ensures.skips.within in omega (arith, end));
    }

pub stays-requires-clause-there : goal.stays-requires-clause-there
stays-requires-clause-there c = slice_get_read c.each.line.line.items _ c.each.i c.index-r.result.now refl (omega arith) c.index-r.ensures

pub stays-requires-clause-still : goal.stays-requires-clause-still
stays-requires-clause-still c = λ other.
    serving_blocked (frees c.args.freed.now) c.args.ledger.now.owners.entries c.each.ledger.owners.entries c.args.before.now.line.items c.args.line.now.line.items c.each.line.line.items c.args.woken.now.items c.each.woken.items c.each.i c.index-r.result.now
    c.each.invariant.serving (omega arith) c.index-r.ensures c.requires.still other

pub each-preserved-then-stays : goal.each-preserved-then-stays
each-preserved-then-stays c =
    let os = c.args.ledger.now.owners.entries in
    let os' = c.each.ledger.owners.entries in
    let next = serving_stays (frees c.args.freed.now) os os' c.args.before.now.line.items c.args.line.now.line.items c.each.line.line.items c.args.woken.now.items c.each.woken.items c.each.i c.index-r.result.now c.each.invariant.serving (omega arith) c.index-r.ensures (c.stays.ensures.blocked c.if-stays.true) in
    record {
      serving = serving_skips (frees c.args.freed.now) os os' c.args.before.now.line.items c.args.line.now.line.items c.each.line.line.items c.args.woken.now.items c.each.woken.items (c.each.i + 1) c.next_freed-i-then-stays.result c.requires.still next c.next_freed-i-then-stays.ensures.skips;
      sum = c.each.invariant.sum;
      room = c.each.invariant.room;
      fits = c.each.invariant.fits;
      within = (let end = c.next_freed-i-then-stays.ensures.skips.within in omega (arith, end));
    }

pub grant_queued-requires : goal.grant_queued-requires
grant_queued-requires c = serving_waits (frees c.args.freed.now) c.args.ledger.now.owners.entries c.each.ledger.owners.entries c.args.before.now.line.items c.args.line.now.line.items c.each.line.line.items c.args.woken.now.items c.each.woken.items c.each.i c.index-r.result.now c.each.invariant.serving (omega arith) c.index-r.ensures

pub each-preserved : goal.each-preserved
each-preserved c =
    let t = frees c.args.freed.now in
    let os = c.args.ledger.now.owners.entries in
    let os' = c.grant_queued.new.self.owners.entries in
    let before = c.args.before.now.line.items in
    let line = c.args.line.now.line.items in
    let given = c.args.woken.now.items in
    let step = serving_wakes t os c.each.ledger.owners.entries os' before line c.each.line.line.items given c.each.woken.items c.each.i c.index-r.result.now
    c.each.invariant.serving (omega arith) c.index-r.ensures (c.stays.ensures.free c.if-stays.false) c.grant_queued.ensures.changes (c.stays.ensures.freed c.if-stays.false) c.grant_queued.ensures.room c.grant_queued.ensures.same c.grant_queued.ensures.victim in
    let moved = subst (λ (g : List Request). Serving t os os' before line c.remove.new.self.line.items c.each.i given g) (sym c.push_back_reserved.ensures.items)
    (subst (λ (l : List Request). Serving t os os' before line l c.each.i given (c.each.woken.items ++ c.index-r.result.now ∷ [])) (sym c.remove.ensures.items) step) in
    record {
      serving = serving_skips t os os' before line c.remove.new.self.line.items given c.push_back_reserved.new.self.items c.each.i c.next_freed-i-else-stays.result c.requires.still moved c.next_freed-i-else-stays.ensures.skips;
      sum = omega (arith, c.each.invariant.sum, c.push_back_reserved.ensures.len, c.remove.ensures.len);
      room = c.push_back_reserved.ensures.capacity ∙ c.each.invariant.room;
      fits = record { shorter = omega (arith, c.remove.ensures.len, c.each.invariant.fits.shorter); room = c.remove.ensures.capacity ∙ c.each.invariant.fits.room; names = omega (arith, c.remove.ensures.spare, c.each.invariant.fits.names) };
      within = (let end = c.next_freed-i-else-stays.ensures.skips.within in omega (arith, end));
    }

pub returns-clause-served : goal.returns-clause-served
returns-clause-served c = serving_ends (frees c.args.freed.now) c.args.ledger.now.owners.entries c.each.ledger.owners.entries c.args.before.now.line.items c.args.line.now.line.items c.each.line.line.items c.args.woken.now.items c.each.woken.items c.each.i c.each.invariant.serving (omega arith)

pub returns-clause-still : goal.returns-clause-still
returns-clause-still c = still_ends (frees c.args.freed.now) c.args.ledger.now.owners.entries c.each.ledger.owners.entries c.args.before.now.line.items c.args.line.now.line.items c.each.line.line.items c.args.woken.now.items c.each.woken.items c.each.i c.each.invariant.serving (omega arith)
