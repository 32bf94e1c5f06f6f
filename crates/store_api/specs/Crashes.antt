-- What a store over a disk that tells its crashes stands for, and what a call makes of it.
use Rattle.std.specs.Prelude.{◌≡◌, ◌≢◌, Some, None, ◌&&◌, ◌==◌, if◌then◌else◌, ◌≤◌, ◌+◌, ◌⊎◌, ℕ, List, [], ◌∷◌, ◌++◌, length, take, Option}
use Rattle.dby_types.specs.declared.number.RowId.{RowId}
use Rattle.dby_types.specs.declared.value.Value.{Value}
use Rattle.store_api.specs.declared.slot.Slot.{Slot}
use Rattle.store_api.specs.declared.slot.Item.{Item}
use Rattle.store_api.specs.declared.slot.Item.TheVariants.{Changed}
use Rattle.store_api.specs.View.{Heaps, Content, live, changes_in}
use Rattle.table_model.specs.Tables.{Tables, put, is_same_rid}

-- the row of a place as a transaction left it
pub record Net : Type 0 where
  pub table : ℕ
  pub rid : RowId
  pub row : Option (List Value)

-- THE NET CHANGES of a transaction: at each place that it changed, the row that stands there
abbrev pub net_of : Heaps → List Item → List Net
net_of heaps [] = []
net_of heaps (Changed table rid before ∷ items) = record { table = table; rid = rid; row = live (heaps table rid) } ∷ net_of heaps items
net_of heaps (item ∷ items) = net_of heaps items

abbrev pub net_in : Content → ℕ → List Net
net_in d t = net_of d.heaps (changes_in (d.changes t))

abbrev pub laid_over : List Net → Tables → Tables
laid_over [] tables = tables
laid_over (n ∷ ns) tables = put (laid_over ns tables) n.table n.rid n.row

-- the tables after commits, the first of them first
abbrev pub after_commits : Tables → List (List Net) → Tables
after_commits base [] = base
after_commits base (c ∷ cs) = after_commits (laid_over c base) cs

-- the tables after a prefix of the commits that holds every durable one
pub record IsSomeCommits (base : Tables) (commits : List (List Net)) (durable : ℕ) (tables : Tables) : Type 0 where
  pub kept : ℕ
  pub at_least : durable ≤ kept
  pub at_most : kept ≤ length commits
  pub same : (table : ℕ) (rid : RowId) → tables table rid ≡ after_commits base (take kept commits) table rid

-- what stood at a place before the first of these changes, where one of them changed it; the newest is first
abbrev pub older_of : Option (Option Slot) → Option (Option Slot) → Option (Option Slot)
older_of (Some oldest) newer = Some oldest
older_of None newer = newer

abbrev pub stood_before : ℕ → RowId → List Item → Option (Option Slot)
stood_before table rid [] = None
stood_before table rid (Changed t r before ∷ items) = older_of (stood_before table rid items) (if (t == table) && is_same_rid r rid then Some before else None)
stood_before table rid (item ∷ items) = stood_before table rid items

-- the tables with what other open transactions changed taken back
pub record IsWithoutOthers (d : Content) (t : ℕ) (tables : Tables) : Type 0 where
  pub untouched : (table : ℕ) (rid : RowId) → ((u : ℕ) → u ≢ t → stood_before table rid (changes_in (d.changes u)) ≡ None) → tables table rid ≡ live (d.heaps table rid)
  pub touched : (table : ℕ) (rid : RowId) (u : ℕ) (before : Option Slot) → u ≢ t → stood_before table rid (changes_in (d.changes u)) ≡ Some before → tables table rid ≡ live before

-- they keep the rules that a sound image asks for
abbrev pub KeepsRules : (Tables → Type 0) → Content → ℕ → Type 0
KeepsRules rules d t = (tables : Tables) → IsWithoutOthers d t tables → rules tables

-- what a store stands for: its base, the commits on it, and how many of them are durable
abbrev pub Standing : Type 1
Standing = Tables → List (List Net) → ℕ → Type 0

-- A CRASH AT ANY MOMENT of a call. Whatever the store stood for, it stands for it with the commits as they have grown;
-- each image of a moment since the call began is sound and has the tables after some of them; and at most four device calls were made
pub record Survives (old new : Standing) (before now : ℕ) (was may_be : ℕ → Tables → Type 0) (were_sound are_sound : ℕ → Type 0) (grown : List (List Net) → List (List Net)) : Type 0 where
  pub later : before ≤ now
  pub soon : now ≤ before + 4
  pub stands : (base : Tables) (commits : List (List Net)) (durable : ℕ) → old base commits durable → new base (grown commits) durable
  pub some : (base : Tables) (commits : List (List Net)) (durable : ℕ) → old base commits durable
      → (tables : Tables) → may_be before tables → IsSomeCommits base (grown commits) durable tables
  pub sound : (base : Tables) (commits : List (List Net)) (durable : ℕ) → old base commits durable → are_sound before
  -- for a run that began earlier
  pub some_earlier : (base : Tables) (commits : List (List Net)) (durable : ℕ) → old base commits durable
      → (since : ℕ) (tables : Tables) → since ≤ before → may_be since tables → was since tables ⊎ IsSomeCommits base (grown commits) durable tables
  pub sound_earlier : (base : Tables) (commits : List (List Net)) (durable : ℕ) → old base commits durable
      → (since : ℕ) → since ≤ before → were_sound since → are_sound since

-- the commits stay as they are
abbrev pub as_they_are : List (List Net) → List (List Net)
as_they_are commits = commits

-- one more commit
abbrev pub with_commit : List Net → List (List Net) → List (List Net)
with_commit net commits = commits ++ net ∷ []

-- all commits are durable now
abbrev pub MakesDurable : Standing → Standing → Type 0
MakesDurable old new = (base : Tables) (commits : List (List Net)) (durable : ℕ) → old base commits durable → new base commits (length commits)
