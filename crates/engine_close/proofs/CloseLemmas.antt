-- How closing begins, how one transaction ends, and what stands behind the last.
use Rattle.std.proofs.Common.{◌≡◌, ◌≢◌, ℕ, zero, suc, ◌+◌, ◌<◌, ◌≤◌, ◌++◌, List, [], ◌∷◌, length, reverse, take, drop, get_or, Bool, true, false, refl, sym, ◌∙◌, ap, subst, arith, inl, inr, Option, Some, None, Result, Ok, Err, Vec, vec_len, vec_capacity}
use Rattle.std.specs.Prelude.{OnOk}
use Rattle.std.proofs.Math.Seq.{take-length}
use Rattle.std.proofs.lemmas.List.{drop_more}
use Rattle.std.proofs.lemmas.Bool.Decides.{nat_tests}
use Rattle.std.proofs.lemmas.Bool.{both_ways, cases_eq}
use Rattle.dby_types.specs.declared.number.TxnNo.{TxnNo}
use Rattle.lock_modes.specs.Lock.{Lock}
use Rattle.lock_modes.specs.declared.event.LockEvent.TheVariants.{ReleasedAll}
use Rattle.table_model.specs.Tables.{Made, no_tables}
use Rattle.store_api.specs.declared.slot.Item.{Item}
use Rattle.store_api.specs.Effects.{without_txn}
use Rattle.store_api.specs.Frames.{Frame}
use Rattle.store_api.specs.View.{View, Content, MayHold, at_number}
use Rattle.journal_model.specs.declared.journal.Entry.{Entry}
use Rattle.journal_model.specs.declared.journal.Entry.TheVariants as entry
use Rattle.journal_model.proofs.BaseLemmas.{at_same, at_other}
use Rattle.session_model.specs.declared.journal.Locked.{Locked}
use Rattle.session_model.specs.World.{World, Stage, Conn, over, settled, opening, apply, is_returnable, is_untold}
use Rattle.session_model.specs.Legal.{IsLegal, IsOwed}
use Rattle.session_model.proofs.BaseLemmas.{replay_push, world_end}
use Rattle.session_model.proofs.GrowingLemmas.{legal_entry, legal_event}
use Rattle.session_engine.specs.declared.session.Phase.{Phase}
use Rattle.session_engine.specs.declared.session.Phase.TheVariants.{Idle, Resting, Asking, Preparing, Claiming, Working, Refusing, Committing, Forcing, Acknowledging, Leaving}
use Rattle.session_engine.specs.declared.session.Session.{Session}
use Rattle.session_engine.specs.Leaving.{IsLeft}
use Rattle.session_engine.specs.State.{Busy, IsStage, PhaseHolds, Reflects, SessionHolds, ends_in, entries_of, opens, releases_of, scripts_of, sum_of, txn_of, world_of}
use Rattle.session_engine.proofs.EndLemmas.{conn_at, mirrors_nil}
use Rattle.engine_close.specs.Closing.{AllAtRest, Closing, IsAtRest, IsOwn, Open, Part, Undoing, is_open}
use Rattle.engine_close.proofs.EndsLemmas.{owed_kept, part_kept}
use Rattle.engine_close.proofs.UndoLemmas.{list_of}

-- what holds whatever the answer is
pub on_ok : {T E : Type 0} (r : Result T E) (P : Type 0) → P → OnOk r P
on_ok (Ok x) P h = h
on_ok (Err e) P h = tt

-- WHO HOLDS A PAGE: nobody else
pub may_hold : (v : View) (a : ℕ) → 2 ≤ v.limit → ((b : ℕ) → b ≢ a → (v.actors b).pages ≡ 0) → MayHold v a
may_hold v a limit quiet [] d h = omega (arith, limit)
may_hold v a limit quiet (n ∷ ns) d h = absurd (h.0.1 (quiet n h.0.0))

-- WHERE A CONNECTION STANDS as closing begins
returns_in : (p : Phase) (x : Stage) → is_open p ≡ true → IsStage p x → is_returnable x ≡ true
returns_in Idle x o h = absurd (both_ways false refl o)
returns_in Resting x o h = ap is_returnable h
returns_in Asking x o h = ap is_returnable h
returns_in Preparing x o h = ap is_returnable h
returns_in Claiming x o h = ap is_returnable h
returns_in Working x o h = ap is_returnable h
returns_in Refusing x o h = untold x h
  where
    untold : (x : Stage) → is_untold x ≡ true → is_returnable x ≡ true
    untold x h = grind arith
returns_in Committing x o h = ap is_returnable h
returns_in Forcing x o h = absurd (both_ways false refl o)
returns_in Acknowledging x o h = absurd (both_ways false refl o)
returns_in Leaving x o h = h

open_of : (w : World) (l : Lock) (v : View) (last c : ℕ) (s : Session) → is_open s.phase ≡ true → Busy w l v last c s → Open w v c s
open_of w l v last c s o busy = record {
  conn = busy.conn;
  stage = returns_in s.phase (w.txns (txn_of s)).stage o busy.stage;
  numbers = busy.numbers;
  reflects = busy.reflects;
}

settled_of : (w : World) (l : Lock) (v : View) (last c : ℕ) (s : Session) (p : Phase) → s.phase ≡ p → ((x : Stage) → IsStage p x → x ≡ settled) → Busy w l v last c s → IsAtRest w c
settled_of w l v last c s p is then busy = inr (txn_of s, busy.mine, then (w.txns (txn_of s)).stage (subst (λ q. IsStage q (w.txns (txn_of s)).stage) is busy.stage))

-- by its phase
busy_in : (p : Phase) (w : World) (l : Lock) (v : View) (last c : ℕ) (s : Session) → is_open p ≡ true → PhaseHolds p w l v last c s → Busy w l v last c s
busy_in Idle w l v last c s o h = absurd (both_ways false refl o)
busy_in Resting w l v last c s o h = h.0
busy_in Asking w l v last c s o h = h.0
busy_in Preparing w l v last c s o h = h.0
busy_in Claiming w l v last c s o h = h.0
busy_in Working w l v last c s o h = h.0
busy_in Refusing w l v last c s o h = h.0
busy_in Committing w l v last c s o h = h.0
busy_in Forcing w l v last c s o h = absurd (both_ways false refl o)
busy_in Acknowledging w l v last c s o h = absurd (both_ways false refl o)
busy_in Leaving w l v last c s o h = h.0

rest_in : (p : Phase) (w : World) (l : Lock) (v : View) (last c : ℕ) (s : Session) → s.phase ≡ p → is_open p ≡ false → PhaseHolds p w l v last c s → IsAtRest w c
rest_in Idle w l v last c s is o h = inl h.1
rest_in Resting w l v last c s is o h = absurd (both_ways true o refl)
rest_in Asking w l v last c s is o h = absurd (both_ways true o refl)
rest_in Preparing w l v last c s is o h = absurd (both_ways true o refl)
rest_in Claiming w l v last c s is o h = absurd (both_ways true o refl)
rest_in Working w l v last c s is o h = absurd (both_ways true o refl)
rest_in Refusing w l v last c s is o h = absurd (both_ways true o refl)
rest_in Committing w l v last c s is o h = absurd (both_ways true o refl)
rest_in Forcing w l v last c s is o h = settled_of w l v last c s Forcing is (λ x e. e) h.0
rest_in Acknowledging w l v last c s is o h = settled_of w l v last c s Acknowledging is (λ x e. e) h.0
rest_in Leaving w l v last c s is o h = absurd (both_ways true o refl)

part_of : (w : World) (l : Lock) (v v' : View) (last i : ℕ) (s : Session) → v'.content ≡ v.content → SessionHolds w l v last (i + 1) s → Part w v' 0 i s
part_of w l v v' last i s same h = record {
  ended = λ lt. absurd (omega (arith, lt));
  rests = λ shut. rest_in s.phase w l v last (i + 1) s refl shut h.phase;
  open_yet = λ le o.
      let b = open_of w l v last (i + 1) s o (busy_in s.phase w l v last (i + 1) s o h.phase) in
      record { conn = b.conn; stage = b.stage; numbers = b.numbers; reflects = subst (λ d. Reflects s.opened (d.changes (txn_of s)) (w.txns (txn_of s)).changes) (sym same) b.reflects };
}

-- THE START: all have let go
pub begins : {Z : Type 0} (entries : Vec Entry Z) (events : Vec Locked Z) (ss : List Session) (v v' : View) → IsLeft entries events ss v → v'.content ≡ v.content → v'.limit ≡ v.limit
    → ((b : ℕ) → (v'.actors b).pages ≡ 0) → Closing entries events ss v' 0
begins entries events ss v v' h same limit quiet =
    let few = h.holds.few in
    record {
      legal = h.holds.legal;
      quiet = quiet;
      parts = λ i d lt. part_of (world_of entries.items) h.lock v v' h.last i (get_or ss i d) same (h.holds.each i d lt);
      few = omega (arith, few, limit);
      room = h.entries_fit;
      room_events = h.events_fit;
    }

-- ROOM, connection by connection
sum_more : (f : Session → ℕ) (ss : List Session) (c : ℕ) (d : Session) → c < length ss → sum_of f (drop c ss) ≡ f (get_or ss c d) + sum_of f (drop (c + 1) ss)
sum_more f ss c d lt = ap (sum_of f) (drop_more ss c d lt)

ends_open : (p : Phase) → is_open p ≡ true → (1 ≤ ends_in p) × (opens p ≡ 1)
ends_open Idle o = absurd (both_ways false refl o)
ends_open Resting o = (omega arith, refl)
ends_open Asking o = (omega arith, refl)
ends_open Preparing o = (omega arith, refl)
ends_open Claiming o = (omega arith, refl)
ends_open Working o = (omega arith, refl)
ends_open Refusing o = (omega arith, refl)
ends_open Committing o = (omega arith, refl)
ends_open Forcing o = absurd (both_ways false refl o)
ends_open Acknowledging o = absurd (both_ways false refl o)
ends_open Leaving o = (omega arith, refl)

pub room_to_end : {Z : Type 0} (entries : Vec Entry Z) (events : Vec Locked Z) (ss : List Session) (v : View) (c : ℕ) (s : Session) → Closing entries events ss v c → c < length ss → ((d : Session) → get_or ss c d ≡ s) → is_open s.phase ≡ true
    → (vec_len entries + length s.made.items + 1 + sum_of entries_of (drop (c + 1) ss) ≤ vec_capacity entries) × (vec_len events + 1 + sum_of releases_of (drop (c + 1) ss) ≤ vec_capacity events)
room_to_end entries events ss v c s h lt at o =
    let one = ends_open s.phase o in
    let least = one.0 in
    let opened = one.1 in
    let more = sum_more entries_of ss c s lt in
    let more_events = sum_more releases_of ss c s lt in
    let here : entries_of (get_or ss c s) ≡ length s.made.items + ends_in s.phase = ap entries_of (at s) in
    let here_events : releases_of (get_or ss c s) ≡ opens s.phase = ap releases_of (at s) in
    let room = h.room in
    let room_events = h.room_events in
    (omega (arith, least, more, here, room), omega (arith, opened, more_events, here_events, room_events))

later : (w : World) (v : View) (c i : ℕ) (x : Session) → i ≢ c → Part w v c i x → Part w v (c + 1) i x
later w v c i x ne p = record { ended = λ lt. p.ended (omega (arith, lt, ne)); rests = p.rests; open_yet = λ le o. p.open_yet (omega (arith, le)) o }

-- A TRANSACTION TO BE TAKEN BACK, with all its changes
pub starts : {Z : Type 0} (entries : Vec Entry Z) (events : Vec Locked Z) (ss : List Session) (v : View) (c n : ℕ) (s : Session) (t : TxnNo) → Closing entries events ss v c → IsOwn ss c t → ((d : Session) → get_or ss c d ≡ s) → n ≡ length s.made.items
    → Undoing entries events ss v c n
starts entries events ss v c n s t h own at count =
    let open_there : is_open s.phase ≡ true = ap (λ (x : Session). is_open x.phase) (sym (at s)) ∙ own.phase s in
    let opened : s.opened ≡ true = ap (λ (x : Session). x.opened) (sym (at s)) ∙ own.opened s in
    let p : Part (world_of entries.items) v c c s = subst (Part (world_of entries.items) v c c) (at s) (h.parts c s own.within) in
    let mine = p.open_yet (omega arith) open_there in
    let room = room_to_end entries events ss v c s h own.within at open_there in
    let room_entries = room.0 in
    record {
      session = s;
      within = own.within;
      at = at;
      legal = h.legal;
      quiet = λ b ne. h.quiet b;
      parts = λ i d ne lt. later (world_of entries.items) v c i (get_or ss i d) ne (h.parts i d lt);
      few = h.few;
      conn = mine.conn;
      stage = mine.stage;
      numbers = mine.numbers ∙ ap reverse (sym (ap (λ k. take k s.made.items) count ∙ take-length s.made.items));
      most = omega (arith, count);
      reflects = subst (λ o. Reflects o (v.content.changes (txn_of s)) ((world_of entries.items).txns (txn_of s)).changes) opened mine.reflects;
      room = omega (arith, count, room_entries);
      room_events = room.1;
    }

-- ITS END: nothing of it is left, and all its locks go
pub ends : {Z : Type 0} (entries entries' : Vec Entry Z) (events events' : Vec Locked Z) (ss : List Session) (v v' : View) (c : ℕ) (s : Session) → c < length ss → ((d : Session) → get_or ss c d ≡ s)
    → IsLegal no_tables (scripts_of ss) entries.items events.items → ((b : ℕ) → (v'.actors b).pages ≡ 0)
    → ((i : ℕ) (d : Session) → i ≢ c → i < length ss → Part (world_of entries.items) v (c + 1) i (get_or ss i d)) → length ss < v'.limit
    → ((world_of entries.items).txns (txn_of s)).conn ≡ c + 1 → is_returnable ((world_of entries.items).txns (txn_of s)).stage ≡ true → ((world_of entries.items).txns (txn_of s)).changes ≡ []
    → ((u : ℕ) → u ≢ txn_of s → v'.content.changes u ≡ v.content.changes u)
    → entries'.items ≡ entries.items ++ entry.RolledBack s.txn ∷ [] → events'.items ≡ events.items ++ record { place = length entries'.items; event = ReleasedAll s.txn } ∷ []
    → vec_len entries' + sum_of entries_of (drop (c + 1) ss) ≤ vec_capacity entries' → vec_len events' + sum_of releases_of (drop (c + 1) ss) ≤ vec_capacity events'
    → Closing entries' events' ss v' (c + 1)
ends entries entries' events events' ss v v' c s lt at legal quiet parts few own returnable none changes grown noted room room_events =
    let w = world_of entries.items in
    let e = entry.RolledBack s.txn in
    let a = txn_of s in
    let w' = apply w e in
    let others : (t : ℕ) → t ≢ a → w'.txns t ≡ w.txns t = λ t ne. at_other w.txns a _ t ne in
    let conns : (k : ℕ) → k ≢ c + 1 → w'.conns k ≡ w.conns k = λ k ne. at_other w.conns (w.txns a).conn _ k (λ x. ne (x ∙ own)) in
    let push : w' ≡ world_of entries'.items = sym (ap world_of grown ∙ replay_push (opening no_tables) entries.items e) in
    let owed : IsOwed w = subst IsOwed (world_end no_tables entries.items) (legal.owed (length entries.items) (omega arith)) in
    let ended : IsLegal no_tables (scripts_of ss) entries'.items events.items = subst (λ es. IsLegal no_tables (scripts_of ss) es events.items) (sym grown)
    (legal_entry no_tables (scripts_of ss) entries.items events.items e legal (record { session = returnable; undo = none; change = tt; refusal = tt }) tt (owed_kept w w' a returnable others refl refl owed)) in
    let is_over : ((world_of entries'.items).txns a).stage ≡ over = ap (λ x. (x.txns a).stage) (sym push) ∙ ap (λ x. x.stage) (at_same w.txns a _) in
    let idle : ((world_of entries'.items).conns (c + 1)).txn ≡ None = ap (λ x. (x.conns (c + 1)).txn) (sym push) ∙ ap (λ (k : Conn). k.txn) (conn_at w a (c + 1) _ own) in
    record {
      legal = subst (IsLegal no_tables (scripts_of ss) entries'.items) (sym noted)
          (legal_event no_tables (scripts_of ss) entries'.items events.items (record { place = length entries'.items; event = ReleasedAll s.txn }) refl (record { proper = tt; due = is_over }) ended);
      quiet = quiet;
      parts = λ i d i_lt. elim (cases_eq i c) [
        | inl same ↦ subst (λ k. Part (world_of entries'.items) v' (c + 1) k (get_or ss k d)) (sym same)
            (record { ended = λ h. inl idle; rests = λ h. inl idle; open_yet = λ le o. absurd (omega (arith, le)) })
        | inr ne ↦ subst (λ x. Part x v' (c + 1) i (get_or ss i d)) push
            (part_kept w w' v v' a (c + 1) (c + 1) i (get_or ss i d) own returnable others conns changes (λ x. ne (omega (arith, x))) (parts i d ne i_lt))
      ];
      few = few;
      room = room;
      room_events = room_events;
    }

-- the same, behind the store's own end of it, and with its pages let go
pub rolls_back : {Z : Type 0} (entries entries' : Vec Entry Z) (events events' : Vec Locked Z) (ss : List Session) (v v1 v2 : View) (c left : ℕ) (t : TxnNo) → (u : Undoing entries events ss v c left) → u.session.txn ≡ t
    → v.content.changes t.0 ≡ Some [] → v1.content ≡ without_txn v.content t.0 → ((b : ℕ) → v1.actors b ≡ v.actors b) → v1.limit ≡ v.limit
    → v2.content ≡ v1.content → Frame (c + 1) v1 v2 → (v2.actors (c + 1)).pages ≡ 0
    → entries'.items ≡ entries.items ++ entry.RolledBack t ∷ [] → events'.items ≡ events.items ++ record { place = length entries'.items; event = ReleasedAll t } ∷ []
    → vec_len entries' ≡ vec_len entries + 1 → vec_len events' ≡ vec_len events + 1 → vec_capacity entries ≤ vec_capacity entries' → vec_capacity events ≤ vec_capacity events'
    → Closing entries' events' ss v2 (c + 1)
rolls_back entries entries' events events' ss v v1 v2 c left t u own none stored actors limit content frame let_go grown noted len len_events cap cap_events =
    let s = u.session in
    let few = u.few in
    let lim = frame.limit_same in
    let room = u.room in
    let room_events = u.room_events in
    let w = world_of entries.items in
    let mine : v.content.changes (txn_of s) ≡ Some [] = ap (λ (x : TxnNo). v.content.changes x.0) own ∙ none in
    let left_none : (w.txns (txn_of s)).changes ≡ [] = mirrors_nil (w.txns (txn_of s)).changes (list_of entries events ss v c left [] u mine) in
    let others : (x : ℕ) → x ≢ txn_of s → v2.content.changes x ≡ v.content.changes x = λ x ne.
    ap (λ (d : Content). d.changes x) (content ∙ stored) ∙ gone_other v.content.changes t.0 x (λ e. ne (e ∙ ap (λ (y : TxnNo). y.0) (sym own))) in
    ends entries entries' events events' ss v v2 c s u.within u.at u.legal
    (λ b. elim (cases_eq b (c + 1)) [
      | inl same ↦ ap (λ n. (v2.actors n).pages) same ∙ let_go
      | inr ne ↦ ap (λ h. h.pages) (frame.others b ne ∙ actors b) ∙ u.quiet b ne
    ])
    u.parts (omega (arith, few, lim, limit)) u.conn u.stage left_none others
    (grown ∙ ap (λ (x : TxnNo). entries.items ++ entry.RolledBack x ∷ []) (sym own))
    (noted ∙ ap (λ (x : TxnNo). events.items ++ record { place = length entries'.items; event = ReleasedAll x } ∷ []) (sym own))
    (omega (arith, room, len, cap)) (omega (arith, room_events, len_events, cap_events))
  where
    gone_other : (f : ℕ → Option (List Item)) (t x : ℕ) → x ≢ t → at_number f t None x ≡ f x
    gone_other f t x h = grind (arith, nat_tests)

-- and of one that the store never had
never_there : (o : Bool) (items : Option (List Item)) (ms : List Made) → o ≡ false → Reflects o items ms → ms ≡ []
never_there true items ms e h = absurd (both_ways true e refl)
never_there false items ms e h = h.1

pub vanishes : {Z : Type 0} (entries entries' : Vec Entry Z) (events events' : Vec Locked Z) (ss : List Session) (v : View) (c : ℕ) (s : Session) → Closing entries events ss v c → c < length ss → ((d : Session) → get_or ss c d ≡ s)
    → is_open s.phase ≡ true → s.opened ≡ false
    → entries'.items ≡ entries.items ++ entry.RolledBack s.txn ∷ [] → events'.items ≡ events.items ++ record { place = length entries'.items; event = ReleasedAll s.txn } ∷ []
    → vec_len entries' ≡ vec_len entries + 1 → vec_len events' ≡ vec_len events + 1 → vec_capacity entries ≤ vec_capacity entries' → vec_capacity events ≤ vec_capacity events'
    → Closing entries' events' ss v (c + 1)
vanishes entries entries' events events' ss v c s h lt at o shut grown noted len len_events cap cap_events =
    let w = world_of entries.items in
    let p : Part w v c c s = subst (Part w v c c) (at s) (h.parts c s lt) in
    let mine = p.open_yet (omega arith) o in
    let room = room_to_end entries events ss v c s h lt at o in
    let room_entries = room.0 in
    let room_events = room.1 in
    ends entries entries' events events' ss v v c s lt at h.legal h.quiet
    (λ i d ne i_lt. later w v c i (get_or ss i d) ne (h.parts i d i_lt)) h.few mine.conn mine.stage
    (never_there s.opened (v.content.changes (txn_of s)) (w.txns (txn_of s)).changes shut mine.reflects) (λ x ne. refl) grown noted
    (omega (arith, room_entries, len, cap)) (omega (arith, room_events, len_events, cap_events))

-- an item of a list, whatever stands where there is none
pub at_any : (ss : List Session) (c : ℕ) (s : Session) → c < length ss → s ≡ get_or ss c s → (d : Session) → get_or ss c d ≡ s
at_any [] c s lt at d = absurd (omega (arith, lt))
at_any (x ∷ ss) zero s lt at d = sym at
at_any (x ∷ ss) (suc c) s lt at d = at_any ss c s (omega (arith, lt)) at d

-- one whose transaction isn't open is passed over
pub passes : {Z : Type 0} (entries : Vec Entry Z) (events : Vec Locked Z) (ss : List Session) (v : View) (c : ℕ) (s : Session) → Closing entries events ss v c → c < length ss → ((d : Session) → get_or ss c d ≡ s) → is_open s.phase ≡ false
    → Closing entries events ss v (c + 1)
passes entries events ss v c s h lt at shut =
    let more = sum_more entries_of ss c s lt in
    let more_events = sum_more releases_of ss c s lt in
    let room = h.room in
    let room_events = h.room_events in
    record {
      legal = h.legal;
      quiet = h.quiet;
      parts = λ i d i_lt.
          let p = h.parts i d i_lt in
          record {
            ended = λ le. elim (cases_eq i c) [
              | inl same ↦ p.rests (ap (λ k. is_open (get_or ss k d).phase) same ∙ ap (λ (x : Session). is_open x.phase) (at d) ∙ shut)
              | inr ne ↦ p.ended (omega (arith, le, ne))
            ];
            rests = p.rests;
            open_yet = λ le o. p.open_yet (omega (arith, le)) o;
          };
      few = h.few;
      room = omega (arith, room, more);
      room_events = omega (arith, room_events, more_events);
    }

-- BEHIND THE LAST
pub all_rest : {Z : Type 0} (entries : Vec Entry Z) (events : Vec Locked Z) (ss : List Session) (v : View) (n : ℕ) → Closing entries events ss v n → n ≡ length ss → AllAtRest (length ss) entries.items
all_rest entries events ss v n h all zero least most = absurd (omega (arith, least))
all_rest entries events [] v n h all (suc i) least most = absurd (omega (arith, most))
all_rest entries events (s ∷ ss) v n h all (suc i) least most =
    let lt : i < length (s ∷ ss) = omega (arith, most) in
    let same : i + 1 ≡ suc i = omega arith in
    subst (IsAtRest (world_of entries.items)) same ((h.parts i s lt).ended (omega (arith, most, all)))
