-- What the end of a transaction leaves of its connection and of the lock table.
use Rattle.std.specs.Prelude.{◌≡◌, ◌+◌, ◌≤◌, ℕ, List, [], ◌∷◌, ◌++◌, length, false, Vec, vec_len, vec_capacity, None, Bool}
use Rattle.dby_types.specs.declared.number.TxnNo.{TxnNo}
use Rattle.lock_modes.specs.declared.event.LockEvent.TheVariants.{ReleasedAll}
use Rattle.lock_modes.specs.Lock.{queue, apply, apply_all}
use Rattle.lock_modes.specs.declared.entry.Request.{Request}
use Rattle.lock_modes.specs.Serving.{Serves, grants_of}
use Rattle.lock_manager.specs.declared.table.LockTable.{LockTable}
use Rattle.lock_manager.specs.Table.{lock}
use Rattle.session_model.specs.declared.journal.Locked.{Locked}
use Rattle.session_engine.specs.declared.session.Session.{Session}
use Rattle.session_engine.specs.declared.session.Phase.TheVariants.{Idle}
use Rattle.session_engine.specs.declared.session.Plan.TheVariants.{Nothing}
use Rattle.session_engine.specs.Noted.{noted}

-- the connection is idle
pub record Idles (old new : Session) (closed : Bool) : Type 0 where
  pub empty : new.made.items ≡ []
  pub is : new ≡ record old { phase = Idle; txn = record { 0 = 0 }; opened = false; closed = closed; made = new.made; order = None; plan = Nothing }

-- all locks of a transaction went, and what could be granted was granted, all at one place
pub record Released {Z : Type 0} (old new : LockTable) (events events' : Vec Locked Z) (place : ℕ) (txn : TxnNo) : Type 0 where
  pub given : List Request
  pub order : Serves (apply (lock old) (ReleasedAll txn)).grants [] (queue (apply (lock old) (ReleasedAll txn))) given (queue (lock new))
  pub lock_is : lock new ≡ apply_all (apply (lock old) (ReleasedAll txn)) (grants_of given)
  pub events_are : events'.items ≡ events.items ++ record { place = place; event = ReleasedAll txn } ∷ noted place given
  pub room : vec_len events' + length (queue (lock new)) ≤ vec_len events + 1 + length (queue (lock old))
  pub capacity : vec_capacity events ≤ vec_capacity events'
