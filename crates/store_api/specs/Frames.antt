-- What every call leaves, and why one refuses.
use Rattle.std.specs.Prelude.{◌≡◌, ◌≢◌, ◌≤◌, ◌+◌, ◌⊎◌, ℕ, Some, None}
use Rattle.dby_types.specs.declared.number.Damage.{Damage}
use Rattle.dby_types.specs.declared.state.SqlState.{SqlState}
use Rattle.dby_types.specs.declared.state.SqlState.TheVariants.{PagesSpent, LogSpent}
use Rattle.device.specs.Counts.{Rises}
use Rattle.store_api.specs.declared.answers.StoreAnswer.{StoreAnswer}
use Rattle.store_api.specs.declared.answers.StoreAnswer.TheVariants.{Failed, Damaged, Full, Memory}
use Rattle.store_api.specs.View.{View, Content, Meters}

-- THE FRAME of an actor's call, whatever it answers: others hold what they held, and it holds at most one page more
pub record Frame (a : ℕ) (old new : View) : Type 0 where
  pub others : (b : ℕ) → b ≢ a → new.actors b ≡ old.actors b
  pub one_more : (new.actors a).pages ≤ (old.actors a).pages + 1
  pub limit_same : new.limit ≡ old.limit
  pub pages_same : new.pages ≡ old.pages

-- of a call that may make pages
pub record GrowingFrame (a : ℕ) (old new : View) : Type 0 where
  pub others : (b : ℕ) → b ≢ a → new.actors b ≡ old.actors b
  pub one_more : (new.actors a).pages ≤ (old.actors a).pages + 1
  pub limit_same : new.limit ≡ old.limit
  pub more_pages : old.pages ≤ new.pages
  pub few_pages : new.pages ≤ old.pages + 2

-- of a call that no actor makes
pub record StillFrame (old new : View) : Type 0 where
  pub everyone : (b : ℕ) → new.actors b ≡ old.actors b
  pub limit_same : new.limit ≡ old.limit
  pub pages_same : new.pages ≡ old.pages

-- the call answered Ok: the store keeps no answer, and no count rose
pub record IsWell (old new : View) : Type 0 where
  pub keeps_none : old.meters.keeps ≡ None
  pub meters_same : new.meters ≡ old.meters

-- this is stored now
pub record Stores (old new : View) (content : Content) : Type 0 where
  pub well : IsWell old new
  pub stored : new.content ≡ content

-- an answer Full is counted
abbrev pub Spends : SqlState → Meters → Meters → Type 0
Spends PagesSpent old new = Rises old.no_pages new.no_pages × (new ≡ record old { no_pages = new.no_pages })
Spends LogSpent old new = Rises old.no_log new.no_log × (new ≡ record old { no_log = new.no_log })
Spends _ old new = ⊥

-- the store answers what it keeps
pub record AnswersKept (answer : StoreAnswer) (old new : View) : Type 0 where
  pub kept : old.meters.keeps ≡ Some answer
  pub meters_same : new.meters ≡ old.meters

-- the disk failed in this call, which the store keeps from now on
pub record FailsNow (old new : View) : Type 0 where
  pub keeps_none : old.meters.keeps ≡ None
  pub rose : Rises old.meters.faults new.meters.faults
  pub meters_are : new.meters ≡ record old.meters { faults = new.meters.faults; keeps = Some Failed }

-- bytes that were read in this call are damaged, which the store keeps from now on
pub record ShowsDamage (damage : Damage) (old new : View) : Type 0 where
  pub keeps_none : old.meters.keeps ≡ None
  pub meters_are : new.meters ≡ record old.meters { keeps = Some (Damaged damage) }

-- the call did nothing at all
pub record IsUnchanged (old new : View) : Type 0 where
  pub keeps_none : old.meters.keeps ≡ None
  pub content_same : new.content ≡ old.content
  pub everyone : (b : ℕ) → new.actors b ≡ old.actors b
  pub meters_same : new.meters ≡ old.meters

-- the call did nothing but count its answer
pub record OnlyCounts (state : SqlState) (old new : View) : Type 0 where
  pub keeps_none : old.meters.keeps ≡ None
  pub content_same : new.content ≡ old.content
  pub everyone : (b : ℕ) → new.actors b ≡ old.actors b
  pub counted : Spends state old.meters new.meters

-- WHY A CALL REFUSES, and what is left then: `memory` where it may want memory, `full` where it may be full so, `damaged` where it may read such bytes, `left` what is stored
abbrev pub HasCause : (memory : Type 0) (full : SqlState → Type 0) (damaged : Damage → Type 0) (left : Content) → View → View → StoreAnswer → Type 0
HasCause memory full damaged left old new Failed = (AnswersKept Failed old new ⊎ FailsNow old new) × (new.content ≡ left)
HasCause memory full damaged left old new (Damaged d) = (AnswersKept (Damaged d) old new ⊎ (damaged d × ShowsDamage d old new)) × (new.content ≡ left)
HasCause memory full damaged left old new (Full state) = full state × OnlyCounts state old new
HasCause memory full damaged left old new Memory = memory × IsUnchanged old new

-- no answer Full
abbrev pub never_full : SqlState → Type 0
never_full state = ⊥
