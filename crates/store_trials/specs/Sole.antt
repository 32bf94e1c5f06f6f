-- One actor alone with one transaction.
use Rattle.std.specs.Prelude.{⊤, ◌≡◌, ◌≢◌, ◌≤◌, ◌+◌, ◌*◌, ℕ, List, Bool, None, Some}
use Rattle.dby_types.specs.declared.number.RowId.{RowId}
use Rattle.dby_types.specs.declared.value.Value.{Value}
use Rattle.store_api.specs.declared.answers.StoreAnswer.{StoreAnswer}
use Rattle.store_api.specs.declared.answers.StoreAnswer.TheVariants.{Failed, Damaged, Full, Memory}
use Rattle.store_api.specs.Effects.{slot_of}
use Rattle.store_api.specs.Catalog.{columns_of_tables}
use Rattle.store_api.specs.View.{View}

-- no transaction is open, and nobody holds a page
pub record IsIdle (v : View) : Type 0 where
  pub none_open : (u : ℕ) → v.content.changes u ≡ None
  pub none_holds : (b : ℕ) → (v.actors b).pages ≡ 0
  pub described : v.content.columns 1 ≡ Some columns_of_tables

-- this transaction is open, and no other; no other actor than 1 holds a page
pub record IsSole (v : View) (t : ℕ) : Type 0 where
  pub begun : v.content.changes t ≢ None
  pub only : (u : ℕ) → u ≢ t → v.content.changes u ≡ None
  pub others : (b : ℕ) → b ≢ 1 → (v.actors b).pages ≡ 0
  pub described : v.content.columns 1 ≡ Some columns_of_tables

-- this row of table 1 stands, live or marked
abbrev pub Has : View → RowId → List Value → Bool → Type 0
Has v rid row marked = v.content.heaps 1 rid ≡ Some (slot_of row marked)

-- actor 1 was sent onward no more often than the pages allow; each answer Onward adds one
abbrev pub IsWithin : View → ℕ → Type 0
IsWithin v most = v.pages + (v.actors 1).turns ≤ 5 * most + 16

-- AFTER A REFUSAL: want of memory has left it as it was, and no other is said anything of
abbrev pub IsIdleStill : View → ℕ → StoreAnswer → Type 0
IsIdleStill v t Failed = ⊤
IsIdleStill v t (Damaged d) = ⊤
IsIdleStill v t (Full state) = ⊤
IsIdleStill v t Memory = IsIdle v × (v.content.next_txn ≤ t)

abbrev pub IsSoleStill : View → ℕ → StoreAnswer → Type 0
IsSoleStill v t Failed = ⊤
IsSoleStill v t (Damaged d) = ⊤
IsSoleStill v t (Full state) = ⊤
IsSoleStill v t Memory = IsSole v t
