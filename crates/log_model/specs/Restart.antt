-- What an undo takes back, and what restart appends.
use Rattle.std.specs.Prelude.{◌≡◌, ◌≢◌, ℕ, ◌-◌, List, [], ◌∷◌, ◌++◌, length, drop}
use Rattle.table_model.specs.Tables.{Each}
use Rattle.log_model.specs.Places.{Same, Change, put, reversed}
use Rattle.log_model.specs.Steps.{Step, changes_of}
use Rattle.log_model.specs.Steps.Step.{compensation, rolled_back}
use Rattle.log_model.specs.States.{State, IsOpen, MayFollow, IsLegal, after, recovered}

-- AN UNDO of a transaction's newest change may follow, and takes back that change alone: what stood before it stands again
pub record TakesBack {X : Type 0} (s : State X) (t : ℕ) (c : Change X) (now : State X) : Type 0 where
  pub follows : MayFollow s (compensation (reversed c))
  pub stood : s.shown c.place ≡ c.after
  pub shown : Same now.shown (put s.shown c.place c.before)
  pub rest : changes_of t s.standing ≡ c ∷ changes_of t now.standing
  pub others : (u : ℕ) → u ≢ t → changes_of u now.standing ≡ changes_of u s.standing
  pub same : Same (recovered now) (recovered s)

-- changes taken back, the newest, which is first, first
abbrev pub undo_of : {X : Type 0} → List (Change X) → List (Step X)
undo_of [] = []
undo_of (c ∷ cs) = compensation (reversed c) ∷ undo_of cs

-- transactions ended
abbrev pub ends_of : {X : Type 0} → List ℕ → List (Step X)
ends_of [] = []
ends_of (t ∷ ts) = rolled_back t ∷ ends_of ts

-- RESTART behind a state: a compensation for each change that stands, and then an end for each of these transactions
abbrev pub restart_of : {X : Type 0} → State X → List ℕ → List (Step X)
restart_of s ts = undo_of s.standing ++ ends_of ts

-- these transactions are open, and none is named twice
abbrev pub AreOpen : {X : Type 0} → List ℕ → State X → Type 0
AreOpen [] s = Unit {0}
AreOpen (t ∷ ts) s = IsOpen t s × Each (λ u. t ≢ u) ts × AreOpen ts s

-- a log that a state is restarted by: nothing stands, and what is shown is what the state stood for, with the same commits
pub record Restarts {X : Type 0} (s : State X) (log : List (Step X)) : Type 0 where
  pub legal : IsLegal s log
  pub none : (after s log).standing ≡ []
  pub shown : Same (after s log).shown (recovered s)
  pub commits : (after s log).commits ≡ s.commits

-- A RESTART THAT WAS STOPPED behind its first n steps stands for the same. What is left of it is a restart, so no step is made twice
pub record GoesOn {X : Type 0} (s : State X) (ts : List ℕ) (n : ℕ) (now : State X) : Type 0 where
  pub same : Same (recovered now) (recovered s)
  pub commits : now.commits ≡ s.commits
  pub left : restart_of now (drop (n - length s.standing) ts) ≡ drop n (restart_of s ts)
  pub again : Restarts now (drop n (restart_of s ts))
