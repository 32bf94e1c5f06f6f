-- What a connection waits for, as the printer keeps it.
use Rattle.std.specs.Prelude.{Option, Some, None, ℕ}
use Rattle.dby_types.specs.declared.number.TxnNo.{TxnNo}
use Rattle.journal_model.specs.World.{Told, said, denied}
use Rattle.session_model.specs.World.{Stage, resting, committing, leaving}
use Rattle.session_text.specs.Text.{Waiting, idle, asked, due, Hearing}
use Rattle.session_text.specs.declared.hearing.End.{End}
use Rattle.session_text.specs.declared.hearing.End.TheVariants.{Here, Commit, Rollback}
use Rattle.session_text.specs.declared.hearing.Told.{Told as Kept}
use Rattle.session_text.specs.declared.hearing.Told.TheVariants.{Answer, Refusal}
use Rattle.session_text.specs.declared.hearing.Waiting.{Waiting as Waits}
use Rattle.session_text.specs.declared.hearing.Waiting.TheVariants.{Idle, Asked, Due}
use Rattle.session_text.specs.declared.hearing.Hearing.{Hearing as Hears}

abbrev pub stage_of : End → Stage
stage_of Here = resting
stage_of Commit = committing
stage_of Rollback = leaving

abbrev pub told_of : Kept → Told
told_of (Answer a) = said a.now
told_of (Refusal why) = denied why.now

abbrev pub waiting_of : Waits → Waiting
waiting_of Idle = idle
waiting_of (Asked text first) = asked text.now first
waiting_of (Due end told) = due (stage_of end) (told_of told)

abbrev pub txn_of : Option TxnNo → Option ℕ
txn_of None = None
txn_of (Some t) = Some t.0

abbrev pub hearing_of : Hears → Hearing
hearing_of h = record { automatic = h.automatic; txn = txn_of h.txn; waiting = waiting_of h.waiting }
