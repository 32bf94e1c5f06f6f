-- The bytes of a page: its fields, its directory, zeros, and its records from the end.
use Rattle.std.specs.Prelude.{◌≡◌, ℕ, zero, suc, ◌+◌, ◌-◌, ◌*◌, List, [], ◌∷◌, ◌++◌, length, take, drop, replicate, slice_index}
use Rattle.dby_bytes.specs.Numbers.{bytes_of, number_of, number_at}
use Rattle.slotted_page.specs.declared.kind.Kind.{Kind}
use Rattle.slotted_page.specs.declared.kind.Kind.TheVariants.{Control, Allocation, Heap, Leaf, Branch}
use Rattle.slotted_page.specs.Content.{Content, Record, size_of, stored_len, IsContent}

-- the number of a kind
abbrev pub kind_byte : Kind → ℕ
kind_byte Control = 0
kind_byte Allocation = 1
kind_byte Heap = 2
kind_byte Leaf = 3
kind_byte Branch = 4

-- the kind of a number
abbrev pub kind_of : ℕ → Kind
kind_of zero = Control
kind_of (suc zero) = Allocation
kind_of (suc (suc zero)) = Heap
kind_of (suc (suc (suc zero))) = Leaf
kind_of (suc (suc (suc (suc n)))) = Branch

-- bytes 0, as many as are asked for
unfoldable pub zeros : ℕ → List ℕ
zeros n = replicate n 0

-- the directory of records of which the first ends at a place: for each its start and its length
abbrev pub directory : ℕ → List Record → List ℕ
directory end [] = []
directory end (r ∷ rs) = bytes_of 2 (end - size_of r) ++ (bytes_of 2 (size_of r) ++ directory (end - size_of r) rs)

-- a record as it stands
abbrev pub stored : Record → List ℕ
stored r = r.flags ∷ r.bytes

-- the records, the first one last
abbrev pub body : List Record → List ℕ
body [] = []
body (r ∷ rs) = body rs ++ stored r

-- the first 32 bytes: sum, container, page, kind, 0, number of records, LSN, right neighbour
unfoldable pub front : ℕ → Content → List ℕ
front sum c =
    bytes_of 8 sum ++ (bytes_of 4 c.id.container ++ (bytes_of 4 c.id.page ++ ((kind_byte c.kind ∷ 0 ∷ [])
    ++ (bytes_of 2 (length c.records) ++ (bytes_of 4 c.lsn.segment ++ (bytes_of 4 c.lsn.offset ++ bytes_of 4 c.right))))))

-- the bytes between the directory and the records
abbrev pub gap_len : Content → ℕ
gap_len c = 4096 - (32 + length c.control + 4 * length c.records + stored_len c.records)

-- a page's bytes, with a sum
abbrev pub page_bytes : ℕ → Content → List ℕ
page_bytes sum c = front sum c ++ (c.control ++ (directory 4096 c.records ++ (zeros (gap_len c) ++ body c.records)))

-- the records that a directory names
abbrev pub records_of : ℕ → List ℕ → List ℕ → List Record
records_of zero d b = []
records_of (suc k) d b =
    record { flags = slice_index b (number_of 2 d); bytes = take (number_of 2 (drop 2 d) - 1) (drop (number_of 2 d + 1) b) } ∷ records_of k (drop 4 d) b

-- the own bytes of a control page
abbrev pub control_of : Kind → List ℕ → List ℕ
control_of Control b = take 16 (drop 32 b)
control_of Allocation b = []
control_of Heap b = []
control_of Leaf b = []
control_of Branch b = []

-- what the bytes say
unfoldable pub content_of : List ℕ → Content
content_of b = record {
  id = record { container = number_at 4 b 8; page = number_at 4 b 12 };
  kind = kind_of (slice_index b 16);
  lsn = record { segment = number_at 4 b 20; offset = number_at 4 b 24 };
  right = number_at 4 b 28;
  control = control_of (kind_of (slice_index b 16)) b;
  records = records_of (number_at 2 b 18) (drop 32 b) b;
}

-- the bytes are those of a page
pub record IsPage (b : List ℕ) : Type 0 where
  pub content : IsContent (content_of b)
  pub bytes : b ≡ page_bytes (number_at 8 b 0) (content_of b)

-- the bytes are those of a page with this content
pub record IsPageOf (b : List ℕ) (c : Content) : Type 0 where
  pub page : IsPage b
  pub content : content_of b ≡ c
