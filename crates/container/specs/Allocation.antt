-- The allocation page of a container: one record of four bytes, the number of pages.
use Rattle.std.specs.Prelude.{◌≡◌, ◌+◌, ℕ, length}
use Rattle.dby_bytes.specs.Numbers.{number_at}
use Rattle.slotted_page.specs.declared.kind.Kind.TheVariants.{Allocation}
use Rattle.slotted_page.specs.Content.{Content, record_at, with_changed}

-- a page of kind allocation with its one record
pub record IsAllocation (c : Content) : Type 0 where
  pub kind : c.kind ≡ Allocation
  pub one : length c.records ≡ 1
  pub four : length (record_at c 0).bytes ≡ 4

-- the number of pages
abbrev pub count_of : Content → ℕ
count_of c = number_at 4 (record_at c 0).bytes 0

-- one page more: its number is the count before, and of the allocation page only the record's bytes changed
pub record HasGrown (old new : Content) (fresh : ℕ) : Type 0 where
  pub next : fresh ≡ count_of old
  pub count : count_of new ≡ fresh + 1
  pub allocation : IsAllocation new
  pub same : new ≡ with_changed old 0 (record (record_at old 0) { bytes = (record_at new 0).bytes })
