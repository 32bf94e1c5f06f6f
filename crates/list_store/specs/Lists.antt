-- What a store over vectors keeps, and what it is seen with.
use Rattle.std.specs.Prelude.{◌≡◌, ◌≤◌, ◌⊎◌, ◌-◌, ◌^◌, ℕ, List, [], length, None}
use Rattle.dby_types.specs.declared.number.TxnNo.{TxnNo}
use Rattle.dby_types.specs.declared.state.SqlState.{SqlState}
use Rattle.dby_types.specs.declared.state.SqlState.TheVariants.{PagesSpent}
use Rattle.list_store.specs.declared.heap.Heap.{Heap}
use Rattle.list_store.specs.declared.holders.Holder.{Holder}
use Rattle.list_store.specs.declared.begun.Open.{Open}
use Rattle.list_store.specs.Begun.{changes_of}
use Rattle.list_store.specs.Heaps.{rows_in, given_in, heaps_of, columns_of}
use Rattle.list_store.specs.Holders.{holder_in, holding_of, AreHolders}
use Rattle.store_api.specs.View.{View, Content}

pub record Lists : Type 0 where
  pub heaps : List (ℕ × Heap)
  pub begun : List (TxnNo × Open)
  pub holders : List Holder
  pub next_txn : ℕ
  pub next_container : ℕ
  pub no_pages : ℕ
  pub no_log : ℕ

abbrev pub content_of : Lists → Content
content_of l = record {
  heaps = heaps_of l.heaps;
  columns = columns_of l.heaps;
  changes = changes_of l.begun;
  next_txn = l.next_txn;
  next_container = l.next_container;
}

-- WHAT THE STORE IS SEEN WITH
abbrev pub seen : Lists → View
seen l = record {
  content = content_of l;
  actors = λ a. holding_of (holder_in a l.holders);
  meters = record { faults = 0; no_pages = l.no_pages; no_log = l.no_log; keeps = None };
  pages = l.next_container - 13;
  limit = 65;
}

-- WHAT IT KEEPS
pub record IsKept (l : Lists) : Type 0 where
  pub txns : (1 ≤ l.next_txn) × (l.next_txn ≤ 2 ^ 62)
  pub unborn : (t : ℕ) → l.next_txn ≤ t → changes_of l.begun t ≡ None
  pub containers : (16 ≤ l.next_container) × (l.next_container ≤ 2 ^ 31)
  pub heaps_made : (n : ℕ) → l.next_container ≤ n → (rows_in l.heaps n ≡ []) × (given_in l.heaps n ≡ None)
  -- a row id has 24 bits of page, less one, and 16 of slot
  pub heaps_short : (n : ℕ) → length (rows_in l.heaps n) ≤ 2 ^ 40
  pub holders : AreHolders l.holders

-- as many rows as there are row ids for: 24 bits of page, less one, and 16 of slot
abbrev pub most_rows : ℕ
most_rows = 1099511562240

-- no further page: a heap has as many rows as row ids are for, or the container numbers are spent
abbrev pub IsSpent : Lists → SqlState → Type 0
IsSpent l PagesSpent = (l.next_container ≡ 2 ^ 31) ⊎ ((n : ℕ) × (most_rows ≤ length (rows_in l.heaps n)))
IsSpent l _ = ⊥
