-- The printed text as a function of the journal.
use Rattle.std.specs.Prelude.{ℕ, List, [], ◌∷◌, ◌++◌, ◌+◌, length, Bool, true, false, ◌==◌, codes, if◌then◌else◌, flat_map, zero, suc}
use Rattle.std.specs.Fmt.{decimal, signed_decimal}
use Rattle.dby_types.specs.declared.answer.Answer.{Answer}
use Rattle.dby_types.specs.declared.answer.Answer.TheVariants as answer
use Rattle.dby_types.specs.declared.state.SqlState.{SqlState}
use Rattle.dby_types.specs.declared.state.SqlState.TheVariants as state
use Rattle.dby_types.specs.declared.value.Value.{Value}
use Rattle.dby_types.specs.declared.value.Value.TheVariants.{Null, Num, Bool as Truth, Text as Chars}
use Rattle.journal_model.specs.declared.journal.Entry.{Entry}
use Rattle.journal_model.specs.declared.journal.Entry.TheVariants.{Started, Answered, Refused, Acknowledged, RolledBack}
use Rattle.journal_model.specs.declared.journal.Refusal.{Refusal}
use Rattle.journal_model.specs.declared.journal.Refusal.TheVariants.{Sql, Memory}
use Rattle.journal_model.specs.World.{Told, said, denied}

abbrev pub line : List ℕ → List ℕ
line text = text ++ 10 ∷ []

abbrev pub value_text : Value → List ℕ
value_text Null = codes "NULL"
value_text (Num n) = signed_decimal n
value_text (Truth true) = codes "true"
value_text (Truth false) = codes "false"
value_text (Chars text) = text

-- texts with bars between them
abbrev pub barred : {X : Type 0} → (X → List ℕ) → List X → List ℕ
barred text [] = []
barred text (x ∷ xs) = text x ++ flat_map (λ y. 124 ∷ text y) xs

abbrev pub row_line : List Value → List ℕ
row_line row = line (barred value_text row)

abbrev pub column_line : List (List ℕ) → List ℕ
column_line columns = line (barred (λ name. name) columns)

-- a word, and a number
abbrev pub counted : List ℕ → ℕ → List ℕ
counted word n = line (word ++ decimal n)

abbrev pub answer_text : Answer → List ℕ
answer_text (answer.Rows columns rows) = column_line columns ++ flat_map row_line rows ++ counted (codes "ROWS ") (length rows)
answer_text (answer.Changed n) = counted (codes "CHANGED ") n
answer_text answer.Done = line (codes "DONE")
answer_text answer.Committed = line (codes "COMMITTED")
answer_text answer.RolledBack = line (codes "ROLLED BACK")

-- the code of a refusal. The place of a 42X01 isn't printed yet
abbrev pub code_of : SqlState → List ℕ
code_of state.Deadlock = codes "40001"
code_of state.DuplicateKey = codes "23505"
code_of state.NullNotAllowed = codes "23502"
code_of state.TextTooLong = codes "22001"
code_of state.OutOfRange = codes "22003"
code_of state.DivisionByZero = codes "22012"
code_of (state.Syntax at) = codes "42X01"
code_of state.NoTable = codes "42X05"
code_of state.NoColumn = codes "42X04"
code_of state.AmbiguousColumn = codes "42X03"
code_of state.NotInTarget = codes "42X14"
code_of state.ValueCount = codes "42802"
code_of state.NotComparable = codes "42818"
code_of state.NotStorable = codes "42821"
code_of state.NameExists = codes "X0Y32"
code_of state.NothingToDrop = codes "42Y55"
code_of state.NoParent = codes "23503"
code_of state.CheckFails = codes "23513"
code_of state.NotBuilt = codes "PRL00"
code_of state.PagesSpent = codes "PRL01"
code_of state.LogSpent = codes "PRL02"
code_of state.TooLarge = codes "PRL03"
code_of state.StatementTooLong = codes "PRL04"
code_of state.NameTwice = codes "PRL05"
code_of state.Grouping = codes "PRL06"
code_of state.WrongOperand = codes "PRL07"
code_of state.SecondPrimaryKey = codes "PRL08"
code_of state.CursorState = codes "PRL09"
code_of state.CursorQuery = codes "PRL10"
code_of state.CursorsSpent = codes "PRL11"
code_of state.CursorOpen = codes "PRL12"
code_of state.NoParentKey = codes "PRL13"
code_of state.IsParent = codes "PRL14"
code_of state.CheckTooLong = codes "PRL15"

abbrev pub refusal_text : Refusal → List ℕ
refusal_text (Sql why rows) = line (codes "ERROR " ++ code_of why)
refusal_text Memory = line (codes "ERROR MEMORY")

abbrev pub told_text : Told → List ℕ
told_text (said answer) = answer_text answer
told_text (denied why) = refusal_text why

-- What a connection waits for: nothing; its statement's answer; or the end of its transaction, upon which it is told.
-- With autocommit an answer is told where its commit is acknowledged, a refusal where its transaction is rolled back.
pub data Waiting : Type 0 where
  idle : Waiting
  asked : ℕ → Waiting
  answered : ℕ → Answer → Waiting
  refused : ℕ → Refusal → Waiting

abbrev pub not_answered : List ℕ
not_answered = line (codes "NOT ANSWERED")

-- what is printed of a statement that is not told when the next one comes, or the end
abbrev pub left_text : Waiting → List ℕ
left_text idle = []
left_text (asked t) = not_answered
left_text (answered t a) = not_answered
left_text (refused t why) = not_answered

-- a connection's statement was asked in this transaction
abbrev pub is_asked : ℕ → Waiting → Bool
is_asked t (asked u) = u == t
is_asked t _ = false

-- behind the acknowledgement of transaction t an answer is told
abbrev pub when_acknowledged : ℕ → Waiting → Waiting
when_acknowledged t (answered u a) = if u == t then idle else answered u a
when_acknowledged t w = w

-- behind the rollback of transaction t a refusal is told
abbrev pub when_rolled_back : ℕ → Waiting → Waiting
when_rolled_back t (refused u why) = if u == t then idle else refused u why
when_rolled_back t w = w

-- what the connection waits for behind an entry
abbrev pub waiting_after : ℕ → Waiting → Entry → Waiting
waiting_after c w (Started t d level statement) = if d.0 == c then asked t.0 else w
waiting_after c w (Answered t a joined from to) = if is_asked t.0 w then answered t.0 a else w
waiting_after c w (Refused t why) = if is_asked t.0 w then refused t.0 why else w
waiting_after c w (Acknowledged t) = when_acknowledged t.0 w
waiting_after c w (RolledBack t) = when_rolled_back t.0 w
waiting_after c w _ = w

abbrev pub acknowledged_text : ℕ → Waiting → List ℕ
acknowledged_text t (answered u a) = if u == t then answer_text a else []
acknowledged_text t w = []

abbrev pub rolled_back_text : ℕ → Waiting → List ℕ
rolled_back_text t (refused u why) = if u == t then refusal_text why else []
rolled_back_text t w = []

-- what is printed at an entry
abbrev pub printed_at : ℕ → Waiting → Entry → List ℕ
printed_at c w (Started t d level statement) = if d.0 == c then left_text w else []
printed_at c w (Acknowledged t) = acknowledged_text t.0 w
printed_at c w (RolledBack t) = rolled_back_text t.0 w
printed_at c w _ = []

-- what is printed of a connection's statements
abbrev pub statements_text : ℕ → Waiting → List Entry → List ℕ
statements_text c w [] = left_text w
statements_text c w (e ∷ es) = printed_at c w e ++ statements_text c (waiting_after c w e) es

abbrev pub connection_text : List Entry → ℕ → List ℕ
connection_text es c = counted (codes "## connection ") c ++ statements_text c idle es

-- the texts of n connections, from c on
abbrev pub connections_text : List Entry → ℕ → ℕ → List ℕ
connections_text es c zero = []
connections_text es c (suc n) = connection_text es c ++ connections_text es (c + 1) n

-- THE TEXT of a journal of n connections
abbrev pub text_of : ℕ → List Entry → List ℕ
text_of n es = connections_text es 1 n
