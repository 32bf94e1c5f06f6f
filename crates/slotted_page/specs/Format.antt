-- What each field of a page must be, at its place, for the bytes to keep the format.
use Rattle.std.specs.Prelude.{◌≡◌, ◌≢◌, ◌≤◌, ◌<◌, ℕ, zero, suc, ◌+◌, ◌*◌, List, slice_index}
use Rattle.dby_bytes.specs.Numbers.{number_at}
use Rattle.dby_types.specs.declared.number.PageId.{PageId}
use Rattle.slotted_page.specs.Sum.{stored_sum, right_sum}

-- the kind, the number of records, and a record's start and length, as the bytes have them
abbrev pub kind_at : List ℕ → ℕ
kind_at b = slice_index b 16

abbrev pub count_at : List ℕ → ℕ
count_at b = number_at 2 b 18

abbrev pub start_at : List ℕ → ℕ → ℕ
start_at b i = number_at 2 b (32 + 4 * i)

abbrev pub length_at : List ℕ → ℕ → ℕ
length_at b i = number_at 2 b (32 + 4 * i + 2)

-- the page that the bytes say they are
abbrev pub own_id : List ℕ → PageId
own_id b = record { container = number_at 4 b 8; page = number_at 4 b 12 }

-- where the record at a place must end: at the page's end, or where the one before starts
abbrev pub end_at : List ℕ → ℕ → ℕ
end_at b zero = 4096
end_at b (suc i) = start_at b i

-- where the directory begins: a control page has sixteen bytes of its own before it
abbrev pub directory_at : ℕ → ℕ
directory_at zero = 48
directory_at (suc k) = 32

-- where the directory ends
abbrev pub directory_end : List ℕ → ℕ
directory_end b = directory_at (kind_at b) + 4 * count_at b

-- container 0 has the control page alone; page 0 of each other container is its allocation page
pub record IsKindFor (container page kind : ℕ) : Type 0 where
  pub control : container ≡ 0 → (page ≡ 0) × (kind ≡ 0)
  pub allocation : container ≢ 0 → page ≡ 0 → kind ≡ 1
  pub others : container ≢ 0 → page ≢ 0 → (2 ≤ kind) × (kind ≤ 4)

-- a control page has no record and an allocation page has one; others have as many as fit with a byte each
pub record IsCountFor (kind count : ℕ) : Type 0 where
  pub control : kind ≡ 0 → count ≡ 0
  pub allocation : kind ≡ 1 → count ≡ 1
  pub room : 32 + 5 * count ≤ 4096

-- a record starts behind the directory and before its end; that of an allocation page takes five bytes
pub record IsStartAt (b : List ℕ) (i : ℕ) : Type 0 where
  pub behind : directory_end b ≤ start_at b i
  pub before : start_at b i < end_at b i
  pub allocation : kind_at b ≡ 1 → start_at b i ≡ 4091

-- the field that begins at a place, if one does, keeps the format
pub record IsRightAt (id : PageId) (b : List ℕ) (p : ℕ) : Type 0 where
  pub container : p ≡ 8 → number_at 4 b 8 ≡ id.container
  pub page : p ≡ 12 → number_at 4 b 12 ≡ id.page
  pub kind : p ≡ 16 → IsKindFor id.container id.page (kind_at b)
  pub zero_byte : p ≡ 17 → slice_index b 17 ≡ 0
  pub count : p ≡ 18 → IsCountFor (kind_at b) (count_at b)
  pub start : (i : ℕ) → i < count_at b → p ≡ 32 + 4 * i → IsStartAt b i
  pub length : (i : ℕ) → i < count_at b → p ≡ 32 + 4 * i + 2 → start_at b i + length_at b i ≡ end_at b i
  pub segment : kind_at b ≡ 0 → p ≡ 36 → 0 < number_at 4 b 36
  pub gap : directory_end b ≤ p → p < end_at b (count_at b) → slice_index b p ≡ 0
  pub flags : directory_end b ≤ p → (i : ℕ) → i < count_at b → p ≡ start_at b i → slice_index b p < 4

-- every field below a place keeps the format
abbrev pub AreRightBelow : PageId → List ℕ → ℕ → Type 0
AreRightBelow id b n = (p : ℕ) → p < n → IsRightAt id b p

-- the field at a place is the first that breaks the format
pub record IsFirstWrong (id : PageId) (b : List ℕ) (p : ℕ) : Type 0 where
  pub wrong : IsRightAt id b p → ⊥
  pub before : AreRightBelow id b p

-- the sum is right, and every field keeps the format
pub record IsSound (id : PageId) (b : List ℕ) : Type 0 where
  pub sum : stored_sum b ≡ right_sum b
  pub fields : (p : ℕ) → IsRightAt id b p
