-- The printed text of a journal of many connections, as a function of its entries.
use Rattle.std.specs.Prelude.{ℕ, List, [], ◌∷◌, ◌++◌, ◌+◌, Bool, true, false, ◌==◌, codes, if◌then◌else◌, Option, Some, None, zero, suc}
use Rattle.dby_types.specs.declared.answer.Answer.{Answer}
use Rattle.journal_model.specs.declared.journal.Entry.{Entry}
use Rattle.journal_model.specs.declared.journal.Entry.TheVariants.{Started, Answered, Refused, Acknowledged, RolledBack}
use Rattle.journal_model.specs.declared.journal.Refusal.{Refusal}
use Rattle.journal_model.specs.Text.{counted, not_answered, told_text}
use Rattle.journal_model.specs.World.{Told, said, denied, text_in}
use Rattle.sql_commands.specs.declared.command.Command.{Command}
use Rattle.sql_commands.specs.declared.command.Command.TheVariants.{Autocommit}
use Rattle.sql_commands.specs.Commands.{command_of}
use Rattle.session_model.specs.Orders.{order_of}
use Rattle.session_model.specs.World.{Stage, resting, committing, leaving, after_answered, after_refused, is_none}

-- What a connection waits for: nothing; that its statement of this text is answered, which began its transaction or didn't; or its
-- transaction's end, upon which it is told: the commit's acknowledgement (`committing`) or the rollback (`leaving`).
pub data Waiting : Type 0 where
  idle : Waiting
  asked : List ℕ → Bool → Waiting
  due : Stage → Told → Waiting

pub record Hearing : Type 0 where
  pub automatic : Bool  -- autocommit
  pub txn : Option ℕ  -- its open transaction
  pub waiting : Waiting

abbrev pub silence : Hearing
silence = record { automatic = true; txn = None; waiting = idle }

-- a statement that is not told when the next one comes, or the end
abbrev pub left_text : Waiting → List ℕ
left_text idle = []
left_text _ = not_answered

-- the transaction is the connection's
abbrev pub is_txn : ℕ → Option ℕ → Bool
is_txn t (Some u) = u == t
is_txn t None = false

-- WHERE A STATEMENT IS TOLD, by the stage that follows its answer or refusal: here, or at the end of its transaction
abbrev pub told_here : Stage → Told → List ℕ
told_here resting told = told_text told
told_here _ told = []

abbrev pub waits_for : Stage → Told → Waiting
waits_for resting told = idle
waits_for stage told = due stage told

-- at an answer
abbrev pub answered_text : Bool → Waiting → Answer → List ℕ
answered_text automatic (asked text first) a = told_here (after_answered (order_of text) automatic first) (said a)
answered_text automatic _ a = []

abbrev pub when_answered : Bool → Waiting → Answer → Waiting
when_answered automatic (asked text first) a = waits_for (after_answered (order_of text) automatic first) (said a)
when_answered automatic w a = w

-- AUTOCOMMIT ON or OFF counts from its answer on
abbrev pub switched_by : Option Command → Bool → Bool
switched_by (Some (Autocommit on)) automatic = on
switched_by _ automatic = automatic

abbrev pub switched : Bool → Waiting → Bool
switched automatic (asked text first) = switched_by (command_of text) automatic
switched automatic _ = automatic

-- at a refusal
abbrev pub refused_text : Bool → Waiting → Refusal → List ℕ
refused_text automatic (asked text first) why = told_here (after_refused why automatic first) (denied why)
refused_text automatic _ why = []

abbrev pub when_refused : Bool → Waiting → Refusal → Waiting
when_refused automatic (asked text first) why = waits_for (after_refused why automatic first) (denied why)
when_refused automatic w why = w

-- at an acknowledgement, and at a rollback
abbrev pub acknowledged_text : Waiting → List ℕ
acknowledged_text (due committing told) = told_text told
acknowledged_text _ = []

abbrev pub when_acknowledged : Waiting → Waiting
when_acknowledged (due committing told) = idle
when_acknowledged w = w

abbrev pub rolled_back_text : Waiting → List ℕ
rolled_back_text (due leaving told) = told_text told
rolled_back_text _ = []

abbrev pub when_rolled_back : Waiting → Waiting
when_rolled_back (due leaving told) = idle
when_rolled_back w = w

-- what is printed at an entry of the connection's open transaction
abbrev pub own_text : Hearing → Entry → List ℕ
own_text h (Answered t a joined from to) = answered_text h.automatic h.waiting a
own_text h (Refused t why) = refused_text h.automatic h.waiting why
own_text h (Acknowledged t) = acknowledged_text h.waiting
own_text h (RolledBack t) = rolled_back_text h.waiting
own_text h _ = []

-- and what is heard behind it
abbrev pub own_after : Hearing → Entry → Hearing
own_after h (Answered t a joined from to) = record { automatic = switched h.automatic h.waiting; txn = h.txn; waiting = when_answered h.automatic h.waiting a }
own_after h (Refused t why) = record { automatic = h.automatic; txn = h.txn; waiting = when_refused h.automatic h.waiting why }
own_after h (Acknowledged t) = record { automatic = h.automatic; txn = None; waiting = when_acknowledged h.waiting }
own_after h (RolledBack t) = record { automatic = h.automatic; txn = None; waiting = when_rolled_back h.waiting }
own_after h _ = h

-- the transaction whose statement, answer or end an entry tells of
abbrev pub txn_at : Entry → Option ℕ
txn_at (Answered t a joined from to) = Some t.0
txn_at (Refused t why) = Some t.0
txn_at (Acknowledged t) = Some t.0
txn_at (RolledBack t) = Some t.0
txn_at _ = None

abbrev pub is_own : Hearing → Option ℕ → Bool
is_own h (Some t) = is_txn t h.txn
is_own h None = false

-- what is printed of connection c at an entry
abbrev pub printed_at : ℕ → Hearing → Entry → List ℕ
printed_at c h (Started t d level statement) = if d.0 == c then left_text h.waiting else []
printed_at c h e = if is_own h (txn_at e) then own_text h e else []

-- and what is heard behind the entry
abbrev pub hearing_after : ℕ → Hearing → Entry → Hearing
hearing_after c h (Started t d level statement) =
    if d.0 == c then record { automatic = h.automatic; txn = Some t.0; waiting = asked (text_in statement) (is_none h.txn) } else h
hearing_after c h e = if is_own h (txn_at e) then own_after h e else h

-- what is printed of a connection's statements
abbrev pub statements_text : ℕ → Hearing → List Entry → List ℕ
statements_text c h [] = left_text h.waiting
statements_text c h (e ∷ es) = printed_at c h e ++ statements_text c (hearing_after c h e) es

abbrev pub connection_text : List Entry → ℕ → List ℕ
connection_text es c = counted (codes "## connection ") c ++ statements_text c silence es

-- the texts of n connections, from c on
abbrev pub connections_text : List Entry → ℕ → ℕ → List ℕ
connections_text es c zero = []
connections_text es c (suc n) = connection_text es c ++ connections_text es (c + 1) n

-- THE TEXT of a journal of n connections
abbrev pub text_of : ℕ → List Entry → List ℕ
text_of n es = connections_text es 1 n
