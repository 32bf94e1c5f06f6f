-- A pool of page frames: what is in each frame, and which frames are not lent.
use Rattle.std.specs.Prelude.{◌≢◌, ◌<◌, ℕ, List, [], length, slice_index, slice_index_or, slice_set}

-- the bytes of each frame, by its number, and the numbers of those that are not lent
pub record Frames : Type 0 where
  pub contents : List (List ℕ)
  pub free : List ℕ

-- the bytes of a frame
abbrev pub content_of : Frames → ℕ → List ℕ
content_of p f = slice_index_or p.contents f []

-- the pool with other bytes in one frame
abbrev pub with_content : Frames → ℕ → List ℕ → Frames
with_content p f b = record p { contents = slice_set p.contents f b }

-- a frame is one of the pool
abbrev pub IsFrame : Frames → ℕ → Type 0
IsFrame p f = f < length p.contents

-- a frame is one of the pool, and lent
pub record IsLent (p : Frames) (f : ℕ) : Type 0 where
  pub inside : f < length p.contents
  pub taken : (k : ℕ) → k < length p.free → slice_index p.free k ≢ f

-- the numbers that are not lent are numbers of frames, each of them once
pub record AreFree (n : ℕ) (free : List ℕ) : Type 0 where
  pub below : (k : ℕ) → k < length free → slice_index free k < n
  pub distinct : (i j : ℕ) → i < j → j < length free → slice_index free i ≢ slice_index free j
