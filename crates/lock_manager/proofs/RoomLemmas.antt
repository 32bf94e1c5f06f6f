-- Room in the lines of requests.
use Rattle.std.proofs.Common.{◌≡◌, ℕ, ◌+◌, ◌-◌, ◌<◌, ◌≤◌, arith}
use Rattle.std.specs.HashMap.{spare}
use Rattle.std.specs.Vec.{vec_len, vec_capacity}
use Rattle.lock_manager.specs.declared.line.Line.{Line}
use Rattle.lock_manager.specs.Room.{LineFits, LineGrows, LineHasRoom}

pub room_grows : (left : ℕ) (l l' : Line) → LineGrows l l' → LineHasRoom left l → LineHasRoom left l'
room_grows left l l' g h = record { line_fits = omega (arith, g.len, g.room, h.line_fits); names_fit = omega (arith, g.names, h.names_fit) }

pub room_fits : (left : ℕ) (l l' : Line) → LineFits l l' → LineHasRoom left l → LineHasRoom left l'
room_fits left l l' f h = record { line_fits = omega (arith, f.shorter, f.room, h.line_fits); names_fit = omega (arith, f.names, h.names_fit) }

pub room_less : (left left' : ℕ) (l : Line) → left' ≤ left → LineHasRoom left l → LineHasRoom left' l
room_less left left' l less h = record { line_fits = omega (arith, less, h.line_fits); names_fit = omega (arith, less, h.names_fit) }

-- one more stands in the line, and one less may come
pub room_pushed : (left : ℕ) (l l' : Line) → 0 < left → vec_len l'.line ≡ vec_len l.line + 1 → vec_capacity l'.line ≡ vec_capacity l.line → spare l.asked ≤ spare l'.asked + 1
    → LineHasRoom left l → LineHasRoom (left - 1) l'
room_pushed left l l' some len room names h = record { line_fits = omega (arith, some, len, room, h.line_fits); names_fit = omega (arith, some, names, h.names_fit) }
