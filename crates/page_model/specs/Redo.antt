-- Redo of a page, and the write-ahead rule. R is the type of log records, X of what a page holds.
use Rattle.std.specs.Prelude.{◌≡◌, ◌≤◌, ℕ, List, [], ◌∷◌, length, take, drop}
use Rattle.dby_types.specs.declared.number.PageId.{PageId}

-- HOW RECORDS WRITE: what a page holds behind a record, by what it held before
abbrev pub Writing : Type 0 → Type 0 → Type 0
Writing R X = R → PageId → X → X

-- behind some records
abbrev pub written : {R X : Type 0} → Writing R X → List R → PageId → X → X
written write [] p x = x
written write (r ∷ rs) p x = written write rs p (write r p x)

-- A VERSION of a page: what it holds, and how many of the log's records it has, which stand in front
pub record Version (X : Type 0) : Type 0 where
  pub has : ℕ
  pub holds : X

-- REDO: the records that a version lacks are written on it
abbrev pub redone : {R X : Type 0} → Writing R X → List R → PageId → Version X → X
redone write log p v = written write (drop v.has log) p v.holds

-- the version that redo makes
abbrev pub brought_up : {R X : Type 0} → Writing R X → List R → PageId → Version X → Version X
brought_up write log p v = record { has = length log; holds = redone write log p v }

-- it holds what its records make of the page as it was at first
pub record IsCurrent {R X : Type 0} (write : Writing R X) (first : PageId → X) (log : List R) (p : PageId) (v : Version X) : Type 0 where
  pub within : v.has ≤ length log
  pub holds : v.holds ≡ written write (take v.has log) p (first p)

-- THE WRITE-AHEAD RULE, by its purpose: a version may lie on a disk where k records of the log are forced. It has none but these, and redo over any
-- front of the log that has them gives what that front makes of the page
pub record MayLie {R X : Type 0} (write : Writing R X) (first : PageId → X) (log : List R) (k : ℕ) (p : PageId) (v : Version X) : Type 0 where
  pub behind : v.has ≤ k
  pub redo : (n : ℕ) → k ≤ n → n ≤ length log → redone write (take n log) p v ≡ written write (take n log) p (first p)

-- AN IMAGE: the first records of the log, all that were forced among them, and of each page a version that may lie there
pub record IsImage {R X : Type 0} (write : Writing R X) (first : PageId → X) (log : List R) (forced : ℕ) (pages : PageId → Version X) (left : List R) : Type 0 where
  pub kept : ℕ
  pub at_least : forced ≤ kept
  pub at_most : kept ≤ length log
  pub is : left ≡ take kept log
  pub versions : (p : PageId) → MayLie write first log forced p (pages p)
