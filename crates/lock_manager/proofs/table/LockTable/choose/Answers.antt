use Rattle.std.proofs.Common.{◌++◌, ◌∙◌, false, refl, sym, inl, inr}
use Rattle.lock_manager.specs.Table.{lock}
use Rattle.lock_manager.specs.Owners.{grants_in}
use Rattle.lock_manager.proofs.TableLemmas.{keep_total, keep_waits, waiters_same, settled_as, grants_path, lock_path, idle}
use Rattle.lock_manager.proofs.TableLemmas.{apart_as}
use Rattle.lock_manager.proofs.ChosenLemmas.{chosen, nothing_held, nothing_left, not_waiting}
use Rattle.lock_manager.proofs.table.LockTable.choose.Goals as goal

pub invariant_of-self : goal.invariant_of-self
invariant_of-self c =
    let s = c.args.self.now in
    let q = s.conversions.line.items ++ s.requests.line.items in
    let waits = keep_waits s.ledger.owners.entries c.choose.new.self.owners.entries c.args.t (grants_in s.ledger.owners.entries) c.choose.ensures.changes c.choose.ensures.same in
    record {
      total = keep_total s.ledger.owners.entries c.choose.new.self.owners.entries c.args.t (grants_in s.ledger.owners.entries) s.left c.choose.ensures.changes c.choose.ensures.room s.total;
      room = s.room;
      waiters = waiters_same s.ledger.owners.entries c.choose.new.self.owners.entries waits q s.waiters;
      only = λ u. waits u ∙ s.only u;
      settled = settled_as c.choose.new.self.owners.entries (grants_in s.ledger.owners.entries) _ q c.choose.ensures.changes.grants_are s.settled;
      apart = apart_as c.choose.new.self.owners.entries (grants_in s.ledger.owners.entries) c.choose.ensures.changes.grants_are s.apart;
    }

pub returns-clause-events : goal.returns-clause-events
returns-clause-events c =
    let s = c.args.self.now in
    let os = s.ledger.owners.entries in
    let os' = c.choose.new.self.owners.entries in
    let t = c.args.t in
    let grants = grants_path os' (grants_in os) c.choose.ensures.changes.grants_are in
    elim (chosen os os' t c.choose.ensures.changes c.choose.ensures.victim) [
      | inl victims ↦ inl (lock_path _ _ grants refl refl victims)
      | inr stranger ↦ inr (
        lock_path _ _ grants refl refl stranger.0,
        record {
          nothing = nothing_held os t stranger.1;
          idle = (idle (lock s) t false (sym (not_waiting os t stranger.1) ∙ s.only t)).0 refl;
          spare = nothing_left os t stranger.1;
        },
      )
    ]
