-- Parts of a page's bytes that are written or change places.
use Rattle.std.specs.Prelude.{◌≡◌, ℕ, ◌+◌, ◌-◌, ◌^◌, ◌<◌, List, ◌++◌, length, take, drop}
use Rattle.slotted_page.specs.Content.{Record, stored_len}
use Rattle.slotted_page.specs.Layout.{directory}

-- the bytes after the part from a place up to another one was put behind the part that follows it
unfoldable pub exchanged : List ℕ → ℕ → ℕ → ℕ → List ℕ
exchanged b from mid to = take from b ++ (take (to - mid) (drop mid b) ++ (take (mid - from) (drop from b) ++ drop to b))

-- the bytes with others over a part of them
unfoldable pub overwritten : List ℕ → ℕ → List ℕ → List ℕ
overwritten b at bytes = take at b ++ (bytes ++ drop (at + length bytes) b)

-- a directory of records that fit a page, whose first record ends elsewhere now, and no other byte changed
abbrev pub IsMoved : List ℕ → List ℕ → ℕ → ℕ → ℕ → Type 0
IsMoved old new from count end =
    (before : List ℕ) (rs : List Record) (e : ℕ) (after : List ℕ) → old ≡ before ++ (directory e rs ++ after) → length before ≡ from → length rs ≡ count → stored_len rs < 256 ^ 2 → new ≡ before ++ (directory end rs ++ after)
