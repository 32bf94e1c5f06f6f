-- Room for what must not fail, as connections move on.
use Rattle.std.proofs.Common.{◌≡◌, ℕ, zero, suc, ◌+◌, ◌<◌, ◌≤◌, List, [], ◌∷◌, length, set, get_or, ap, arith, Vec, vec_len, vec_capacity}
use Rattle.lock_modes.specs.Lock.{Lock, queue}
use Rattle.journal_model.specs.declared.journal.Entry.{Entry}
use Rattle.session_model.specs.declared.journal.Locked.{Locked}
use Rattle.session_engine.specs.declared.session.Session.{Session}
use Rattle.session_engine.specs.State.{HasRoom, entries_of, releases_of, sum_of}

pub sum_set : (f : Session → ℕ) (ss : List Session) (k : ℕ) (r s' : Session) → k < length ss → r ≡ get_or ss k r → sum_of f (set ss k s') + f r ≡ sum_of f ss + f s'
sum_set f [] k r s' lt at = absurd (omega arith)
sum_set f (s ∷ ss) zero r s' lt at = let same : f r ≡ f s = ap f at in omega (arith, same)
sum_set f (s ∷ ss) (suc k) r s' lt at = let h = sum_set f ss k r s' (omega arith) at in omega (arith, h)

pub sum_at : (f : Session → ℕ) (ss : List Session) (k : ℕ) (r : Session) → k < length ss → r ≡ get_or ss k r → f r ≤ sum_of f ss
sum_at f [] k r lt at = absurd (omega arith)
sum_at f (s ∷ ss) zero r lt at = let same : f r ≡ f s = ap f at in omega (arith, same)
sum_at f (s ∷ ss) (suc k) r lt at = let h = sum_at f ss k r (omega arith) at in omega (arith, h)

-- a connection may put what it is owed
pub room_for : {Z : Type 0} (entries : Vec Entry Z) (events : Vec Locked Z) (ss : List Session) (l : Lock) (owed owed_events k n : ℕ) (r : Session) → HasRoom entries events ss l owed owed_events → k < length ss → r ≡ get_or ss k r
    → n ≤ entries_of r → (n ≤ owed) × (vec_len entries + n ≤ vec_capacity entries)
room_for entries events ss l owed owed_events k n r h lt at le =
    let one = sum_at entries_of ss k r lt at in
    let owed_is = h.owed_is in
    let fit = h.entries_fit in
    (omega (arith, one, owed_is, le), omega (arith, one, owed_is, fit, le))

-- and keeps room for what is left
pub room_after : {Z : Type 0} (entries entries' : Vec Entry Z) (events events' : Vec Locked Z) (ss : List Session) (l l' : Lock) (owed owed_events owed' owed_events' k : ℕ) (r s' : Session)
    → HasRoom entries events ss l owed owed_events → k < length ss → r ≡ get_or ss k r
    → owed' + entries_of r ≡ owed + entries_of s' → owed_events' + releases_of r ≡ owed_events + releases_of s'
    → vec_len entries' + owed' ≤ vec_capacity entries' → vec_len events' + owed_events' + length (queue l') ≤ vec_capacity events'
    → HasRoom entries' events' (set ss k s') l' owed' owed_events'
room_after entries entries' events events' ss l l' owed owed_events owed' owed_events' k r s' h lt at e1 e2 fit fit' =
    let one = sum_set entries_of ss k r s' lt at in
    let two = sum_set releases_of ss k r s' lt at in
    let owed_is = h.owed_is in
    let owed_events_is = h.owed_events_is in
    record {
      owed_is = omega (arith, one, owed_is, e1);
      owed_events_is = omega (arith, two, owed_events_is, e2);
      entries_fit = fit;
      events_fit = fit';
    }

-- and so the lock event of its end
pub releases_for : {Z : Type 0} (entries : Vec Entry Z) (events : Vec Locked Z) (ss : List Session) (l : Lock) (owed owed_events k : ℕ) (r : Session) → HasRoom entries events ss l owed owed_events → k < length ss → r ≡ get_or ss k r
    → (releases_of r ≤ owed_events) × (vec_len events + releases_of r + length (queue l) ≤ vec_capacity events)
releases_for entries events ss l owed owed_events k r h lt at =
    let one = sum_at releases_of ss k r lt at in
    let is = h.owed_events_is in
    let fit = h.events_fit in
    (omega (arith, one, is), omega (arith, one, is, fit))
