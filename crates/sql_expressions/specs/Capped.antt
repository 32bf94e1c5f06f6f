-- Depths in code: in one byte, where 255 stands for all from 255 on.
use Rattle.std.specs.Prelude.{ℕ, min}

abbrev pub capped : ℕ → ℕ
capped n = min n 255
