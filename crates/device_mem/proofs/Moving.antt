-- What a read from the bytes of a script moves.
use Rattle.std.proofs.Common.{◌≡◌, ◌≤◌, ◌+◌, ◌-◌, ℕ, List, ◌++◌, length, take, drop, sym, ap, ◌∙◌, arith, length-take, length-drop}
use Rattle.std.specs.Prelude.{min}
use Rattle.std.proofs.Math.Seq.{take-add}
use Rattle.std.proofs.lemmas.List.{drop-drop, drop_all, take_at}
use Rattle.device.specs.Streams.{Moves}

pub read-moves : (bytes into part : List ℕ) (read n : ℕ) → read ≤ length bytes → n ≡ min (length into) (length bytes - read) → part ≡ take n (drop read bytes)
    → Moves (record { given = take read bytes; left = drop read bytes }) (record { given = take (read + n) bytes; left = drop (read + n) bytes }) n into (part ++ drop n into)
read-moves bytes into part read n within is same =
    let room : n ≤ length (drop read bytes) = omega (arith, length-drop read bytes) in
    let len : length part ≡ n = ap length same ∙ omega (arith, length-take n (drop read bytes), length-drop read bytes) in
    record {
      given = take-add read n bytes;
      left = sym (drop-drop n read bytes);
      bytes = take_at part (drop n into) n len ∙ same;
      within = room;
      end = λ some none. drop_all read bytes (omega arith);
    }
