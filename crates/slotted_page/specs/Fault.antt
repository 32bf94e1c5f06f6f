-- What is wrong with a page.
use Rattle.std.specs.Prelude.{◌≡◌, ◌≢◌, ℕ, List}
use Rattle.dby_types.specs.declared.number.PageId.{PageId}
use Rattle.slotted_page.specs.declared.read.PageFault.{PageFault}
use Rattle.slotted_page.specs.declared.read.PageFault.TheVariants.{Sum, Field}
use Rattle.slotted_page.specs.Format.{IsFirstWrong}
use Rattle.slotted_page.specs.Sum.{stored_sum, right_sum}

-- the sums of the bytes differ; or they agree, and the field at a place is the first that breaks the format
abbrev pub HasFault : PageId → List ℕ → PageFault → Type 0
HasFault id b (Sum stored computed) = (stored ≡ stored_sum b) × (computed ≡ right_sum b) × (stored ≢ computed)
HasFault id b (Field offset) = (stored_sum b ≡ right_sum b) × IsFirstWrong id b offset
