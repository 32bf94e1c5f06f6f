-- What a disk holds, what its calls do, and what a crash may leave: page by page, and segment by segment of the log.
use Rattle.std.specs.Prelude.{◌≡◌, ◌⊎◌, ◌≤◌, ℕ, ◌+◌, ◌-◌, Bool, true, false, max, min, List, [], ◌++◌, length, take, drop, replicate, Option, Some, None}

-- pages by container and number; None where the page was never written or its container was dropped since
abbrev pub Pages : Type 0
Pages = ℕ → ℕ → Option (List ℕ)

-- the bytes of each segment of the log; none where it was never written or was dropped since
abbrev pub Segments : Type 0
Segments = ℕ → List ℕ

-- what a crash may leave of each page, and of each segment
abbrev pub MayHold : Type 1
MayHold = ℕ → ℕ → Option (List ℕ) → Type 0

abbrev pub MayLog : Type 1
MayLog = ℕ → List ℕ → Type 0

-- what a disk may hold after a crash
pub record Image : Type 0 where
  pub pages : Pages
  pub log : Segments

-- any choice of what may be left of each page and of each segment is an image
abbrev pub IsImage : MayHold → MayLog → Image → Type 0
IsImage may_hold may_log i = ((c p : ℕ) → may_hold c p (i.pages c p)) × ((s : ℕ) → may_log s (i.log s))

-- what a read of a page gives
abbrev pub GivesPage : Option (List ℕ) → (old new : List ℕ) → Bool → Type 0
GivesPage None old new found = (found ≡ false) × (new ≡ old)
GivesPage (Some bytes) old new found = (found ≡ true) × (new ≡ bytes)

-- as many bytes as the segment has from a place, at most as many as there is room for
pub record GivesLog (bytes : List ℕ) (at : ℕ) (old new : List ℕ) (n : ℕ) : Type 0 where
  pub count : n ≡ min (length old) (length bytes - at)
  pub moved : take n new ≡ take n (drop at bytes)

-- the bytes of a segment after others were written at a place, with bytes 0 where it didn't reach so far
abbrev pub written_at : List ℕ → ℕ → List ℕ → List ℕ
written_at old at bytes = take at (old ++ replicate (at - length old) 0) ++ (bytes ++ drop (at + length bytes) old)

-- reads give the same as before
abbrev pub SamePages : Pages → Pages → Type 0
SamePages old new = (c p : ℕ) → new c p ≡ old c p

abbrev pub SameLog : Segments → Segments → Type 0
SameLog old new = (s : ℕ) → new s ≡ old s

-- one page is another one now
abbrev pub PageIs : (c p : ℕ) → Option (List ℕ) → Pages → Pages → Type 0
PageIs c p x old new = (new c p ≡ x) × ((d q : ℕ) → (d ≡ c → q ≡ p → ⊥) → new d q ≡ old d q)

-- one container has no page any more
abbrev pub ContainerGone : ℕ → Pages → Pages → Type 0
ContainerGone c old new = ((q : ℕ) → new c q ≡ None) × ((d q : ℕ) → (d ≡ c → ⊥) → new d q ≡ old d q)

-- one segment has other bytes now
abbrev pub SegmentIs : ℕ → List ℕ → Segments → Segments → Type 0
SegmentIs s bytes old new = (new s ≡ bytes) × ((t : ℕ) → (t ≡ s → ⊥) → new t ≡ old t)

-- a crash leaves no page but those that it might have left before
abbrev pub NoNewPage : MayHold → MayHold → Type 0
NoNewPage old new = (c p : ℕ) (x : Option (List ℕ)) → new c p x → old c p x

-- or this one
abbrev pub NewPage : (c p : ℕ) → Option (List ℕ) → MayHold → MayHold → Type 0
NewPage c p x old new = (d q : ℕ) (y : Option (List ℕ)) → new d q y → old d q y ⊎ ((d ≡ c) × (q ≡ p) × (y ≡ x))

-- or no page of this container
abbrev pub MaybeGone : ℕ → MayHold → MayHold → Type 0
MaybeGone c old new = (d q : ℕ) (y : Option (List ℕ)) → new d q y → old d q y ⊎ ((d ≡ c) × (y ≡ None))

-- a crash leaves these pages and no others
abbrev pub OnlyPages : Pages → MayHold → Type 0
OnlyPages pages may_hold = (c p : ℕ) (x : Option (List ℕ)) → may_hold c p x → x ≡ pages c p

-- after n bytes were written at a place, before a sync: anything in their place, the same elsewhere
pub record Torn (at n : ℕ) (old new : List ℕ) : Type 0 where
  pub before : take (min at (length old)) new ≡ take at old
  pub after : drop (at + n) new ≡ drop (at + n) old
  pub no_shorter : length old ≤ length new
  pub no_longer : length new ≤ max (length old) (at + n)

-- a crash leaves of each segment nothing but what it might have left before
abbrev pub NoNewLog : MayLog → MayLog → Type 0
NoNewLog old new = (s : ℕ) (l : List ℕ) → new s l → old s l

-- or of this one such bytes with a torn write
abbrev pub NewLog : (s at n : ℕ) → MayLog → MayLog → Type 0
NewLog s at n old new = (t : ℕ) (l : List ℕ) → new t l → old t l ⊎ ((t ≡ s) × ((d : List ℕ) × (old s d × Torn at n d l)))

-- or none of this one
abbrev pub MaybeDropped : ℕ → MayLog → MayLog → Type 0
MaybeDropped s old new = (t : ℕ) (l : List ℕ) → new t l → old t l ⊎ ((t ≡ s) × (l ≡ []))

-- a crash leaves these bytes of each segment and no others
abbrev pub OnlyLog : Segments → MayLog → Type 0
OnlyLog log may_log = (s : ℕ) (l : List ℕ) → may_log s l → l ≡ log s

-- Time goes on, by at most one: a crash since t might have left what it might have left before, or what it may leave now.
pub record Elapses (before now : ℕ) (past since : ℕ → Image → Type 0) (image : Image → Type 0) : Type 0 where
  pub later : before ≤ now
  pub by_one : now ≤ before + 1
  pub nothing_else : (t : ℕ) (i : Image) → t ≤ before → since t i → past t i ⊎ image i
  pub keeps : (t : ℕ) (i : Image) → t ≤ before → past t i → since t i

-- a crash at any moment since old leaves an image that has P
pub record LeavesOnly {D : Type 0} (moment : D → ℕ) (left_since : D → ℕ → Image → Type 0) (old new : D) (P : Image → Type 0) : Type 0 where
  pub later : moment old ≤ moment new
  pub each : (i : Image) → left_since new (moment old) i → P i
  -- for a run that began earlier
  pub before : (t : ℕ) (i : Image) → t ≤ moment old → left_since new t i → left_since old t i ⊎ P i
