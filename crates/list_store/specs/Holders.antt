-- Who holds heaps.
use Rattle.std.specs.Prelude.{◌≡◌, ◌≢◌, ◌<◌, ◌+◌, not, ◌&&◌, ℕ, List, [], ◌∷◌, length, Option, Some, None, Bool, true, false, ◌||◌, ◌==◌, if◌then◌else◌}
use Rattle.list_store.specs.declared.holders.Holder.{Holder}
use Rattle.store_api.specs.declared.places.Place.{Place}
use Rattle.store_api.specs.View.{Holding}
use Rattle.table_model.specs.Tables.{Each}

abbrev pub is_place_in : Option Place → ℕ → Bool
is_place_in None table = false
is_place_in (Some p) table = p.table == table

abbrev pub is_page : Option ℕ → ℕ → Bool
is_page None table = false
is_page (Some n) table = n == table

-- a holder has this heap
abbrev pub touches : Holder → ℕ → Bool
touches h table = is_place_in h.place table || is_page h.page table

-- a holder of nothing
abbrev pub no_holder : ℕ → Holder
no_holder a = record { actor = a; place = None; page = None; room = false }

-- what an actor holds
abbrev pub holder_in : ℕ → List Holder → Holder
holder_in a [] = no_holder a
holder_in a (h ∷ hs) = if h.actor == a then h else holder_in a hs

abbrev pub pages_in : Option Place → Option ℕ → ℕ
pages_in None None = 0
pages_in None (Some n) = 1
pages_in (Some p) None = 1
pages_in (Some p) (Some n) = if p.table == n then 1 else 2

-- how many heaps a holder has
abbrev pub pages_of : Holder → ℕ
pages_of h = pages_in h.place h.page

abbrev pub room_of : Bool → Option ℕ → Option ℕ
room_of true page = page
room_of false page = None

-- what a holder is seen with
abbrev pub holding_of : Holder → Holding
holding_of h = record { place = h.place; holds = λ table rid. touches h table; pages = pages_of h; room = room_of h.room h.page; turns = 0 }

-- the holders with what one of them holds now
abbrev pub with_holder : Holder → List Holder → List Holder
with_holder new [] = new ∷ []
with_holder new (h ∷ hs) = if h.actor == new.actor then new ∷ hs else h ∷ with_holder new hs

abbrev pub without_actor : ℕ → List Holder → List Holder
without_actor a [] = []
without_actor a (h ∷ hs) = if h.actor == a then hs else h ∷ without_actor a hs

-- two holders are different actors, and have no heap together
pub record AreApart (h k : Holder) : Type 0 where
  pub actors : h.actor ≢ k.actor
  pub heaps : (table : ℕ) → touches h table ≡ true → touches k table ≡ false

-- each holder holds something, and no two of them the same
abbrev pub AreHolders : List Holder → Type 0
AreHolders [] = Unit {0}
AreHolders (h ∷ hs) = (pages_of h ≢ 0) × Each (AreApart h) hs × AreHolders hs

-- the first of the other actors that has this heap
abbrev pub other_in : ℕ → ℕ → List Holder → Option ℕ
other_in a table [] = None
other_in a table (h ∷ hs) = if not (h.actor == a) && touches h table then Some h.actor else other_in a table hs

-- the actor's place in the list, where the first is the n-th
abbrev pub place_from : ℕ → ℕ → List Holder → Option ℕ
place_from n a [] = None
place_from n a (h ∷ hs) = if h.actor == a then Some n else place_from (n + 1) a hs

-- the list has room for the actor
abbrev pub MayPut : ℕ → List Holder → Type 0
MayPut a hs = place_from 0 a hs ≡ None → length hs < 65
