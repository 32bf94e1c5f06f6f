-- The state that a log tells of, and which logs are legal.
use Rattle.std.specs.Prelude.{◌≡◌, ◌≢◌, ℕ, List, [], ◌∷◌, ◌++◌, Some}
use Rattle.table_model.specs.Tables.{Each}
use Rattle.log_model.specs.Places.{Place, Database, Same, Change, put, reversed, taken_back, after_commits}
use Rattle.log_model.specs.Steps.{Step, changes_of, without, newest_of, without_newest}
use Rattle.log_model.specs.Steps.Step.{change, compensation, commit, rolled_back, silent}

pub record State (X : Type 0) : Type 0 where
  -- with each change and each compensation made
  pub shown : Database X
  -- THE CHANGES THAT STAND, the newest first: neither taken back nor of a transaction that ended
  pub standing : List (Change X)
  -- of each commit the changes that it made stand for good, the first commit first
  pub commits : List (List (Change X))
  -- the transactions that ended
  pub ended : List ℕ

abbrev pub start : {X : Type 0} → Database X → State X
start base = record { shown = base; standing = []; commits = []; ended = [] }

-- a step more
abbrev pub stepped : {X : Type 0} → State X → Step X → State X
stepped s (change c) = record s { shown = put s.shown c.place c.after; standing = c ∷ s.standing }
stepped s (compensation c) = record s { shown = put s.shown c.place c.after; standing = without_newest c.txn s.standing }
stepped s (commit t) = record s { standing = without t s.standing; commits = s.commits ++ changes_of t s.standing ∷ []; ended = t ∷ s.ended }
stepped s (rolled_back t) = record s { standing = without t s.standing; ended = t ∷ s.ended }
stepped s silent = s

-- a log more
abbrev pub after : {X : Type 0} → State X → List (Step X) → State X
after s [] = s
after s (r ∷ rs) = after (stepped s r) rs

-- WHAT THE STATE STANDS FOR: all that stands is taken back
abbrev pub recovered : {X : Type 0} → State X → Database X
recovered s = taken_back s.standing s.shown

abbrev pub IsOpen : {X : Type 0} → ℕ → State X → Type 0
IsOpen t s = Each (λ u. u ≢ t) s.ended

-- no other transaction has changed this place with a change that stands: what locks keep
abbrev pub IsMineOrElsewhere : {X : Type 0} → ℕ → Place → Change X → Type 0
IsMineOrElsewhere t p c = c.txn ≢ t → p ≢ c.place

abbrev pub IsFreeFor : {X : Type 0} → ℕ → Place → List (Change X) → Type 0
IsFreeFor t p cs = Each (IsMineOrElsewhere t p) cs

-- WHICH STEP MAY FOLLOW. A compensation, turned round, is the newest change of its transaction that stands; nothing follows a transaction's end
abbrev pub MayFollow : {X : Type 0} → State X → Step X → Type 0
MayFollow s (change c) = IsOpen c.txn s × (c.before ≡ s.shown c.place) × IsFreeFor c.txn c.place s.standing
MayFollow s (compensation c) = IsOpen c.txn s × (newest_of c.txn s.standing ≡ Some (reversed c))
MayFollow s (commit t) = IsOpen t s
MayFollow s (rolled_back t) = IsOpen t s × (changes_of t s.standing ≡ [])
MayFollow s silent = Unit {0}

-- A LEGAL LOG behind a state
abbrev pub IsLegal : {X : Type 0} → State X → List (Step X) → Type 0
IsLegal s [] = Unit {0}
IsLegal s (r ∷ rs) = MayFollow s r × IsLegal (stepped s r) rs

-- changes of two transactions are at different places
abbrev pub AreApart : {X : Type 0} → List (Change X) → Type 0
AreApart [] = Unit {0}
AreApart (c ∷ cs) = IsFreeFor c.txn c.place cs × AreApart cs

-- at each place stands what its newest change put there; with this taken back, what the one below put there
abbrev pub AreStacked : {X : Type 0} → Database X → List (Change X) → Type 0
AreStacked d [] = Unit {0}
AreStacked d (c ∷ cs) = (d c.place ≡ c.after) × AreStacked (put d c.place c.before) cs

-- A SOUND STATE over a base: without what stands, the database is the base after the commits
pub record IsSound {X : Type 0} (base : Database X) (s : State X) : Type 0 where
  pub running : Each (λ (c : Change X). IsOpen c.txn s) s.standing
  pub apart : AreApart s.standing
  pub stacked : AreStacked s.shown s.standing
  pub same : Same (recovered s) (after_commits base s.commits)
