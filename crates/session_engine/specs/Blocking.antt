-- Why a connection waits.
use Rattle.std.specs.Prelude.{◌≡◌, ℕ, List, Some, true}
use Rattle.dby_types.specs.declared.number.TxnNo.{TxnNo}
use Rattle.lock_modes.specs.Lock.{lock_of}
use Rattle.lock_modes.specs.Waits.{waits_for}
use Rattle.store_api.specs.View.{View}
use Rattle.journal_model.specs.declared.journal.Entry.{Entry}
use Rattle.session_model.specs.declared.journal.Locked.{Locked}
use Rattle.session_engine.specs.Scanning.{IsWithheld}
use Rattle.session_engine.specs.State.{events_of, world_of}
use Rattle.session_engine.specs.declared.step.Step.{Step}
use Rattle.session_engine.specs.declared.step.Step.TheVariants.{Blocked}
use Rattle.session_engine.specs.declared.step.Why.TheVariants.{Latch, Lock}

-- ITS TRANSACTION WAITS for this one, by the lock events so far; or this actor holds a page that it needs
abbrev pub HasWhy : (c : ℕ) → Step → List Entry → List Locked → View → Type 0
HasWhy c (Blocked (Lock h)) es ls v = (w : TxnNo) × (((world_of es).conns c).txn ≡ Some w.0) × (waits_for (lock_of (events_of ls)) w h ≡ true)
HasWhy c (Blocked (Latch b)) es ls v = IsWithheld c b v
HasWhy c _ es ls v = Unit {0}
