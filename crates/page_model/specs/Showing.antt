-- What pages show: a database, which each record changes as its step says.
use Rattle.std.specs.Prelude.{◌≤◌, ℕ, List, [], ◌∷◌, length, take}
use Rattle.dby_types.specs.declared.number.PageId.{PageId}
use Rattle.log_model.specs.Places.{Database, Same, taken_back}
use Rattle.log_model.specs.Steps.{Step}
use Rattle.log_model.specs.States.{State, after}
use Rattle.page_model.specs.Redo.{Writing, Version, written, redone}

-- HOW PAGES ARE READ: what a record writes, what it is to transactions, and what all pages show together. V is the type of what may stand at a place
pub record Reading (R X V : Type 0) : Type 0 where
  pub write : Writing R X
  pub step : R → Step V
  pub view : (PageId → X) → Database V

abbrev pub steps_of : {R X V : Type 0} → Reading R X V → List R → List (Step V)
steps_of m [] = []
steps_of m (r ∷ rs) = m.step r ∷ steps_of m rs

-- the pages behind some records
abbrev pub pages_after : {R X V : Type 0} → Reading R X V → (PageId → X) → List R → PageId → X
pages_after m first rs p = written m.write rs p (first p)

-- behind each front of the log the pages show what its steps make of the state in which it begins
abbrev pub AreShown : {R X V : Type 0} → Reading R X V → State V → (PageId → X) → List R → Type 0
AreShown m s first log = (n : ℕ) → n ≤ length log → Same (m.view (pages_after m first (take n log))) (after s (steps_of m (take n log))).shown

-- WHAT AN IMAGE STANDS FOR: each page brought up by redo, and then all taken back that stands
abbrev pub after_image : {R X V : Type 0} → Reading R X V → State V → (PageId → Version X) → List R → Database V
after_image m s pages left = taken_back (after s (steps_of m left)).standing (m.view (λ p. redone m.write left p (pages p)))
