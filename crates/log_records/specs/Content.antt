-- A log record as plain data.
use Rattle.std.specs.Prelude.{ℕ, Bool, List}
use Rattle.dby_types.specs.declared.number.Lsn.{Lsn}

-- a row's slot changes: flags and bytes
pub record HeapChange : Type 0 where
  pub container : ℕ
  pub page : ℕ
  pub slot : ℕ
  pub flags_before : ℕ
  pub flags_after : ℕ
  pub before : List ℕ
  pub after : List ℕ

-- a leaf's entry changes: 1 put, 2 mark, 3 unmark, 4 use again
pub record EntryChange : Type 0 where
  pub container : ℕ
  pub page : ℕ
  pub place : ℕ
  pub what : ℕ
  pub before : List ℕ
  pub after : List ℕ

-- what can be taken back
pub data LogBase : Type 0 where
  heap : HeapChange → LogBase
  entry : EntryChange → LogBase
  create : ℕ → Bool → LogBase
  discard : ℕ → LogBase

-- where redo starts, the numbers given next, and the open transactions
pub record Mark : Type 0 where
  pub redo : Lsn
  pub next_container : ℕ
  pub next_txn : ℕ
  pub count : ℕ
  pub txns : List ℕ

-- what a record says
pub data LogBody : Type 0 where
  change : LogBase → LogBody
  compensation : Lsn → LogBase → LogBody
  split : (container count : ℕ) → List ℕ → LogBody
  grow : (container page kind : ℕ) → LogBody
  commit : LogBody
  rolled_back : LogBody
  checkpoint : Mark → LogBody
  next_segment : ℕ → LogBody
  purge : (container page place : ℕ) → LogBody

-- a record: its transaction, 0 for none; the place of the transaction's record before, 0.0 for none; what it says
pub record LogRecord : Type 0 where
  pub txn : ℕ
  pub back : Lsn
  pub body : LogBody
