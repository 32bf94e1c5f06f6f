-- A page as its fields and its list of records.
use Rattle.std.specs.Prelude.{◌≡◌, ◌≢◌, ◌≤◌, ◌<◌, ℕ, ◌+◌, ◌*◌, ◌%◌, ◌^◌, List, [], ◌∷◌, ◌++◌, length, take, drop, replicate, slice_index_or}
use Rattle.std.specs.List.{All}
use Rattle.dby_types.specs.declared.number.PageId.{PageId}
use Rattle.dby_types.specs.declared.number.Lsn.{Lsn}
use Rattle.slotted_page.specs.declared.kind.Kind.{Kind}
use Rattle.slotted_page.specs.declared.kind.Kind.TheVariants.{Control, Allocation, Heap, Leaf, Branch}

-- a record: its flags and its bytes
pub record Record : Type 0 where
  pub flags : ℕ
  pub bytes : List ℕ

-- a page: its fields, the sixteen bytes of a control page, and its records
pub record Content : Type 0 where
  pub id : PageId
  pub kind : Kind
  pub lsn : Lsn
  pub right : ℕ
  pub control : List ℕ
  pub records : List Record

-- the bytes that a record takes, with its flags
abbrev pub size_of : Record → ℕ
size_of r = 1 + length r.bytes

-- the bytes that records take
abbrev pub stored_len : List Record → ℕ
stored_len [] = 0
stored_len (r ∷ rs) = size_of r + stored_len rs

-- a record of n bytes has room beside the others, with its place in the directory; a control page has room for none
pub record HasRoom (c : Content) (n : ℕ) : Type 0 where
  pub kind : c.kind ≢ Control
  pub room : 32 + 4 * length c.records + stored_len c.records + (n + 5) ≤ 4096

-- the flags that are stored: those that are known
abbrev pub known : ℕ → ℕ
known flags = flags % 4

-- the record at a place
abbrev pub record_at : Content → ℕ → Record
record_at c i = slice_index_or c.records i (record { flags = 0; bytes = [] })

-- the page after a record was put at a place
abbrev pub with_record : Content → ℕ → Record → Content
with_record c at r = record c { records = take at c.records ++ r ∷ drop at c.records }

-- the page without the record at a place
abbrev pub without_record : Content → ℕ → Content
without_record c at = record c { records = take at c.records ++ drop (at + 1) c.records }

-- the page with another record at a place
abbrev pub with_changed : Content → ℕ → Record → Content
with_changed c at r = record c { records = take at c.records ++ r ∷ drop (at + 1) c.records }

-- a control page has sixteen bytes of its own and no records, and no other page has such bytes
pub record IsOfKind (kind : Kind) (own : List ℕ) (records : List Record) : Type 0 where
  pub own_bytes : kind ≡ Control → length own ≡ 16
  pub no_records : kind ≡ Control → length records ≡ 0
  pub no_own_bytes : kind ≢ Control → length own ≡ 0

-- the numbers of a page fit their fields
pub record AreFields (c : Content) : Type 0 where
  pub container : c.id.container < 256 ^ 4
  pub page : c.id.page < 256 ^ 4
  pub segment : c.lsn.segment < 256 ^ 4
  pub offset : c.lsn.offset < 256 ^ 4
  pub right : c.right < 256 ^ 4

-- a page's records fit it, and their flags are known ones
pub record IsContent (c : Content) : Type 0 where
  pub fields : AreFields c
  pub kind : IsOfKind c.kind c.control c.records
  pub room : 32 + length c.control + 4 * length c.records + stored_len c.records ≤ 4096
  pub flags : All (λ r. r.flags < 4) c.records

-- the own bytes of a new page: sixteen of a control page
abbrev pub own_bytes : Kind → List ℕ
own_bytes Control = replicate 16 0
own_bytes Allocation = []
own_bytes Heap = []
own_bytes Leaf = []
own_bytes Branch = []

-- a page without records
abbrev pub empty_page : PageId → Kind → Content
empty_page id kind = record { id = id; kind = kind; lsn = record { segment = 0; offset = 0 }; right = 0; control = own_bytes kind; records = [] }
