-- What holds inside each lock table.
use Rattle.std.specs.Prelude.{◌≡◌, ◌≤◌, ◌+◌, ℕ, List, ◌++◌, [], ◌∷◌}
use mathlib.Core.HLevel.{Unit-prop, ⊥_prop}
use mathlib.Core.Bool.{Bool-set}
use Rattle.lock_modes.specs.Lock.{Grants}
use Rattle.std.specs.HashMap.{spare}
use Rattle.std.specs.Vec.{vec_len, vec_capacity}
use Rattle.std.specs.declared.collections.VecDeque.{VecDeque}
use Rattle.std.specs.VecDeque.{deque_len, deque_capacity}
use Rattle.lock_modes.specs.declared.entry.Request.{Request}
use Rattle.lock_modes.specs.Waits.{AllBlocked}
use Rattle.lock_modes.specs.Apart.{IsApart}
use Rattle.lock_manager.specs.declared.line.Line.{Line}
use Rattle.lock_manager.specs.Owners.{Owners}
use Rattle.lock_manager.specs.Serve.{Waiters}

-- a line has room for so many requests more
pub record LineHasRoom (left : ℕ) (l : Line) : Type 0 where
  pub line_fits : vec_len l.line + left ≤ vec_capacity l.line
  pub names_fit : left ≤ spare l.asked

-- a line is as before, in no less room
pub record LineGrows (l l' : Line) : Type 0 where
  pub items : l'.line.items ≡ l.line.items
  pub len : vec_len l'.line ≡ vec_len l.line
  pub room : vec_capacity l.line ≤ vec_capacity l'.line
  pub names : spare l.asked ≤ spare l'.asked

-- a line needs no more room than before, in the same room
pub record LineFits (l l' : Line) : Type 0 where
  pub shorter : vec_len l'.line ≤ vec_len l.line
  pub room : vec_capacity l'.line ≡ vec_capacity l.line
  pub names : spare l.asked ≤ spare l'.asked

-- there is room for every name for which some transaction may ask
pub record HasRoom {Z : Type 0} (left : ℕ) (conversions requests : Line) (woken : VecDeque Request Z) : Type 0 where
  pub conversions_fit : LineHasRoom left conversions
  pub requests_fit : LineHasRoom left requests
  pub woken_fit : (deque_len woken + (vec_len conversions.line + vec_len requests.line)) + left ≤ deque_capacity woken

-- both hold in one way at most
pub Waiters-prop : (os : Owners) (rs : List Request) → IsProp (Waiters os rs)
Waiters-prop os [] = Unit-prop
Waiters-prop os (r ∷ rs) = λ x y. λ i. (Bool-set _ _ x.0 y.0 i, Bool-set _ _ x.1 y.1 i, Waiters-prop os rs x.2 y.2 i)

pub AllBlocked-prop : (g : Grants) (b rs : List Request) → IsProp (AllBlocked g b rs)
AllBlocked-prop g b [] = Unit-prop
AllBlocked-prop g b (r ∷ rs) = λ x y. λ i. ((λ free. ⊥_prop (x.0 free) (y.0 free) i), AllBlocked-prop g (b ++ r ∷ []) rs x.1 y.1 i)

pub IsApart-prop : (g : Grants) → IsProp (IsApart g)
IsApart-prop g = λ x y. λ i t u n a b other h k. Bool-set _ _ (x t u n a b other h k) (y t u n a b other h k) i

-- no list needs more room than before, in the same room
pub record FitsAsBefore {Z : Type 0} (cs rs : Line) (ws : VecDeque Request Z) (cs' rs' : Line) (ws' : VecDeque Request Z) : Type 0 where
  pub conversions_fit : LineFits cs cs'
  pub requests_fit : LineFits rs rs'
  pub woken_sum : deque_len ws' + (vec_len cs'.line + vec_len rs'.line) ≡ deque_len ws + (vec_len cs.line + vec_len rs.line)
  pub woken_room : deque_capacity ws' ≡ deque_capacity ws

-- the lists are as before, in no less room
pub record Grows {Z : Type 0} (cs rs : Line) (ws : VecDeque Request Z) (cs' rs' : Line) (ws' : VecDeque Request Z) : Type 0 where
  pub conversions_grow : LineGrows cs cs'
  pub requests_grow : LineGrows rs rs'
  pub woken_are : ws'.items ≡ ws.items
  pub woken_len : deque_len ws' ≡ deque_len ws
  pub woken_room : deque_capacity ws ≤ deque_capacity ws'
