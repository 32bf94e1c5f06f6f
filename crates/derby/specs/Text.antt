-- What a run prints, and the status that it ends with.
use Rattle.std.specs.Prelude.{◌≡◌, ◌⊎◌, ℕ, List, [], ◌++◌, Option, Some, None, codes, slice_index_or}
use Rattle.std.specs.Fmt.{decimal}
use Rattle.device.specs.Streams.{SinkSeen}
use Rattle.journal_model.specs.Text.{line, counted}
use Rattle.journal_text.specs.Printing.{TookAll, TookFront}
use Rattle.run_sources.specs.declared.files.ReadError.{ReadError}
use Rattle.run_sources.specs.declared.files.ReadError.TheVariants.{Failed, TooLong, NotText, Memory}
use Rattle.session_model.specs.declared.journal.Journal.{Journal}
use Rattle.session_text.specs.Text.{text_of}
use Rattle.derby.specs.declared.ending.Ending.{Ending}
use Rattle.derby.specs.declared.ending.Ending.TheVariants.{Usage, Unready, Cut, Ran}
use Rattle.derby.specs.declared.ending.InputError.{InputError}
use Rattle.derby.specs.declared.ending.InputError.TheVariants.{Plan, Malformed, Script, Crowded, Starved}

-- THE STATUS of each ending
abbrev pub status_of_file : ReadError → ℕ
status_of_file Failed = 2
status_of_file TooLong = 7
status_of_file NotText = 7
status_of_file Memory = 6

abbrev pub status_of_input : InputError → ℕ
status_of_input (Plan why) = status_of_file why
status_of_input (Malformed number) = 7
status_of_input (Script e) = status_of_file e.why
status_of_input (Crowded count) = 8
status_of_input Starved = 6

abbrev pub status_of : Ending → ℕ
status_of Usage = 1
status_of (Unready error) = status_of_input error
status_of Cut = 6
status_of Ran = 0

-- a fault of printing makes 4 of the status 0, and leaves every other
abbrev pub faulted : Ending → ℕ
faulted Usage = 1
faulted (Unready error) = status_of_input error
faulted Cut = 6
faulted Ran = 4

-- THE LAST LINE of each ending, with the names of the plan and of the scripts
abbrev pub file_line : ReadError → List ℕ → List ℕ
file_line Failed name = line (codes "derby: cannot read " ++ name)
file_line TooLong name = line (codes "derby: too long " ++ name)
file_line NotText name = line (codes "derby: not UTF-8 " ++ name)
file_line Memory name = line (codes "derby: out of memory")

abbrev pub input_line : InputError → List ℕ → List (List ℕ) → List ℕ
input_line (Plan why) plan scripts = file_line why plan
input_line (Malformed number) plan scripts = counted (codes "derby: plan line ") number
input_line (Script e) plan scripts = file_line e.why (slice_index_or scripts e.file [])
input_line (Crowded count) plan scripts = line (codes "derby: " ++ decimal count ++ codes " connections, limit 64")
input_line Starved plan scripts = line (codes "derby: out of memory")

abbrev pub last_line : Ending → List ℕ → List (List ℕ) → List ℕ
last_line Usage plan scripts = line (codes "derby: usage")
last_line (Unready error) plan scripts = input_line error plan scripts
last_line Cut plan scripts = line (codes "derby: out of memory")
last_line Ran plan scripts = []

-- the text of a journal, where there is one, of so many connections
abbrev pub journal_text : ℕ → Option Journal → List ℕ
journal_text conns None = []
journal_text conns (Some journal) = text_of conns journal.entries

-- THE TEXT. All of it was printed and no count of the sink rose; or a front of it, and a count rose. The status is that of the ending and of this
abbrev pub Tells : Ending → ℕ → SinkSeen → SinkSeen → List ℕ → Type 0
Tells ending status old new text = (TookAll old new text × (status ≡ status_of ending)) ⊎ (TookFront old new text × (status ≡ faulted ending))
