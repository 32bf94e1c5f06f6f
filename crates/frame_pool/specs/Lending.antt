-- A frame that is lent to be written.
use Rattle.std.specs.Prelude.{ℕ, List}
use Rattle.std.specs.Borrow.{Lends, MutBor, Fml, Array, u8}
use Rattle.frame_pool.specs.Frames.{Frames, with_content}
use Rattle.frame_pool.specs.contracts.pool.Pool.{the_row}

-- the pool ends with the bytes that were left in the one frame
abbrev pub LendsFrame : MutBor Frames → ℕ → MutBor (List ℕ) → Fml
LendsFrame p f r = Lends the_row (Array u8 4096) p r (with_content p.now f)
