-- What a connection waits for, as the printer keeps it.
use Rattle.journal_model.specs.Text.{Waiting, idle, asked, answered, refused}
use Rattle.journal_text.specs.declared.statements.Hearing.{Hearing}
use Rattle.journal_text.specs.declared.statements.Hearing.TheVariants.{Idle, Asked, Answered, Refused}

abbrev pub waiting_of : Hearing → Waiting
waiting_of Idle = idle
waiting_of (Asked t) = asked t.0
waiting_of (Answered t a) = answered t.0 a.now
waiting_of (Refused t why) = refused t.0 why.now
