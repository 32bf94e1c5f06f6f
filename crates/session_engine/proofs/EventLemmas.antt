-- The whole engine after one lock event, and after all that a release grants.
use Rattle.std.proofs.Common.{◌≡◌, ◌≢◌, ℕ, ◌+◌, ◌<◌, ◌≤◌, List, [], ◌∷◌, ◌++◌, length, map, set, get_or, append_assoc, append-nil, Bool, true, false, refl, sym, ◌∙◌, ap, subst, arith, inl, inr, Some, None}
use Rattle.std.specs.Prelude.{◌&&◌, not, if◌then◌else◌, All, cond}
use Rattle.std.specs.List.{find, filter}
use Rattle.std.proofs.lemmas.List.{get_or-set_same, get_or-set_other}
use Rattle.std.proofs.Math.ListN.{length-set}
use Rattle.std.proofs.lemmas.List.Elements.{All-head, All-tail, All-filter}
use Rattle.std.proofs.lemmas.Bool.{both_ways, cases_Bool, cases_eq, and_left, and_from, eq-eqb, false_from_ne_true}
use Rattle.dby_types.specs.declared.number.TxnNo.{TxnNo}
use Rattle.lock_modes.specs.declared.entry.Request.{Request}
use Rattle.lock_modes.specs.declared.event.LockEvent.{LockEvent}
use Rattle.lock_modes.specs.declared.event.LockEvent.TheVariants.{Granted, Queued, ReleasedAll}
use Rattle.lock_modes.specs.declared.mode.Mode.{Mode}
use Rattle.lock_modes.specs.declared.mode.Mode.TheVariants.{S2, S3, U2, U3, Ip, X2, X3, TIs, TIx, TS, TX}
use Rattle.lock_modes.specs.declared.modes.Modes.{Modes}
use Rattle.lock_modes.specs.declared.name.LockName.{LockName}
use Rattle.lock_modes.specs.Apart.{takes}
use Rattle.lock_modes.specs.Lock.{Lock, queue, request, apply, apply_all, no_locks, has_grant}
use Rattle.lock_modes.specs.Modes.{has_mode, with_mode}
use Rattle.lock_modes.specs.Names.{same_txn, same_name}
use Rattle.lock_modes.specs.Proper.{IsProper, before_of, was_chosen}
use Rattle.lock_modes.specs.Serving.{Serves, grant_of, grants_of}
use Rattle.lock_modes.specs.Waits.{waiting, ahead, IsFree}
use Rattle.lock_modes.proofs.ApartLemmas.{stays, stay_apart}
use Rattle.lock_modes.proofs.NamesLemmas.{txn_refl, txn_eq, name_refl}
use Rattle.table_model.specs.Tables.{Each, no_tables}
use Rattle.store_api.specs.View.{View, Content, live}
use Rattle.session_model.specs.declared.journal.Locked.{Locked}
use Rattle.session_model.specs.World.{over, is_ended}
use Rattle.session_model.specs.Legal.{IsLegal, IsDue}
use Rattle.session_model.specs.Places.{Shared, Others, locks_of}
use Rattle.session_model.proofs.GrowingLemmas.{legal_event}
use Rattle.session_model.proofs.LockLemmas.{event_grew, grew_others, grew_kept, all_left, left_others, left_kept}
use Rattle.session_engine.specs.declared.session.Session.{Session}
use Rattle.session_engine.specs.Dictionary.{Among}
use Rattle.session_engine.specs.Noted.{noted}
use Rattle.session_engine.specs.State.{State, Holds, SessionHolds, Busy, LockKept, Waits, scripts_of, events_of, world_of, txn_of, times_in}
use Rattle.session_engine.proofs.StableLemmas.{session_kept}
use Rattle.session_engine.proofs.QueueLemmas.{asks_of, find_here, find_later, find_kept, find_without_one, times_append, times_fewer, zero_none, queue_granted, queue_released}
use Rattle.session_engine.proofs.ListedLemmas.{still_catalog}
use Rattle.session_engine.proofs.MoveLemmas.{waits_kept, among_set, among_at, scripts_same}

fold_push : (l : Lock) (ls : List Locked) (e : Locked) → apply_all l (events_of (ls ++ e ∷ [])) ≡ apply (apply_all l (events_of ls)) e.event
fold_push l [] e = refl
fold_push l (x ∷ ls) e = fold_push (apply l x.event) ls e

-- AN EVENT, with all that holds behind it given
pub evented : (st : State) (last : ℕ) (e : Locked) (ss' : List Session) (v' : View) → e.place ≡ length st.es → ((ever : TxnNo → Bool) → IsProper st.lock ever e.event) → IsDue (world_of st.es) e.event
    → Shared (world_of st.es) (locks_of (apply st.lock e.event).grants) → ((t : TxnNo) → times_in t (queue (apply st.lock e.event)) ≤ 1)
    → All (Waits (world_of st.es) (apply st.lock e.event)) (queue (apply st.lock e.event)) → scripts_of ss' ≡ scripts_of st.ss
    → ((i : ℕ) (d : Session) → i < length ss' → SessionHolds (world_of st.es) (apply st.lock e.event) v' last (i + 1) (get_or ss' i d))
    → v'.content ≡ st.view.content → ((t : ℕ) → v'.content.changes t ≢ None → Among t (map txn_of ss')) → ((b : ℕ) → (v'.actors b).pages ≢ 0 → (1 ≤ b) × (b ≤ length ss'))
    → length ss' < v'.limit → Holds st last
    → Holds (record { es = st.es; ls = st.ls ++ e ∷ []; lock = apply st.lock e.event; ss = ss'; view = v'; named = st.named }) last
evented st last e ss' v' place proper due shared alone waits scripts each content known holders few ok = record {
  legal = subst (λ x. IsLegal no_tables x st.es (st.ls ++ e ∷ [])) (sym scripts) (legal_event no_tables (scripts_of st.ss) st.es st.ls e place (record {
    proper = subst (λ l. IsProper l (was_chosen (events_of st.ls)) e.event) (sym ok.fold) (proper (was_chosen (events_of st.ls)));
    due = due;
  }) ok.legal);
  shared = shared;
  apart = stay_apart st.lock (λ t. false) e.event ok.apart (proper (λ t. false));
  fold = fold_push no_locks st.ls e ∙ ap (λ l. apply l e.event) ok.fold;
  alone = alone;
  waits = waits;
  each = each;
  last_is = ok.last_is;
  fresh = ok.fresh;
  given = subst (λ (d : Content). Each (λ n. n < d.next_container) (world_of st.es).given) (sym content) ok.given;
  stored = λ table rid. ap (λ (d : Content). live (d.heaps table rid)) content ∙ ok.stored table rid;
  zero = ap (λ (d : Content). d.changes 0) content ∙ ok.zero;
  known = known;
  holders = holders;
  few = few;
  cataloged = still_catalog st.view v' (world_of st.es) st.named content ok.cataloged;
}

-- WHAT AN EVENT LEAVES TO OTHERS
apart_keep : (u t : TxnNo) (n : LockName) (r : Request) → same_txn u t ≡ false → same_txn r.txn t ≡ true → not (same_txn r.txn u && same_name r.name n) ≡ true
apart_keep u t n r ne h =
    let off : same_txn r.txn u ≡ false = false_from_ne_true _ (λ k. both_ways _ ne (ap (λ x. same_txn x t) (sym (txn_eq r.txn u k)) ∙ h)) in
    ap not (and_left _ _ off)

pub granted_beside : (t u : TxnNo) (n : LockName) (m : Mode) (l : Lock) → same_txn u t ≡ false → LockKept t l (apply l (Granted u n m))
granted_beside t u n m l ne =
    let same : waiting (apply l (Granted u n m)) t ≡ waiting l t =
    ap (find (asks_of t)) (queue_granted l u n m) ∙ find_kept t (λ r. not (same_txn r.txn u && same_name r.name n)) (queue l) (λ r h. apart_keep u t n r ne h) in
    record {
      none = λ h. same ∙ h;
      some = λ k a h. inl (same ∙ h);
      has = λ k a h. stays l (Granted u n m) t k a refl h;
    }

own_mode : (ms : Modes) (m : Mode) → has_mode (with_mode ms m) m ≡ true
own_mode ms S2 = refl
own_mode ms S3 = refl
own_mode ms U2 = refl
own_mode ms U3 = refl
own_mode ms Ip = refl
own_mode ms X2 = refl
own_mode ms X3 = refl
own_mode ms TIs = refl
own_mode ms TIx = refl
own_mode ms TS = refl
own_mode ms TX = refl

name_self : (n : LockName) → same_name n n ≡ true
name_self n = name_refl n

pub has_granted : (l : Lock) (t : TxnNo) (n : LockName) (m : Mode) → has_mode ((apply l (Granted t n m)).grants t n) m ≡ true
has_granted l t n m = ap (λ b. has_mode (if b then with_mode (l.grants t n) m else l.grants t n) m) (and_from _ _ (txn_refl t) (name_self n)) ∙ own_mode (l.grants t n) m

pub granted_own : (r : Request) (l : Lock) → waiting l r.txn ≡ Some r → LockKept r.txn l (apply l (Granted r.txn r.name r.mode))
granted_own r l waits = record {
  none = λ h. (let e : None ≡ Some r = sym h ∙ waits in cc);
  some = λ n m h.
      let e : Some r ≡ Some (request r.txn n m) = sym waits ∙ h in
      let same : r ≡ request r.txn n m = cc in
      inr (subst (λ (q : Request). has_mode ((apply l (Granted r.txn r.name r.mode)).grants r.txn q.name) q.mode ≡ true) same (has_granted l r.txn r.name r.mode));
  has = λ n m h. stays l (Granted r.txn r.name r.mode) r.txn n m refl h;
}

waiting_queued : (b : Bool) (t : TxnNo) (l : Lock) (r : Request) → same_txn r.txn t ≡ false
    → find (asks_of t) (queue (if b then record l { conversions = l.conversions ++ r ∷ [] } else record l { requests = l.requests ++ r ∷ [] })) ≡ find (asks_of t) (queue l)
waiting_queued true t l r ne = find_without_one t l.conversions r l.requests ne
waiting_queued false t l r ne = ap (find (asks_of t)) (sym (append_assoc l.conversions l.requests (r ∷ []))) ∙ ap (find (asks_of t)) (sym (append-nil ((l.conversions ++ l.requests) ++ r ∷ [])))
    ∙ find_without_one t (l.conversions ++ l.requests) r [] ne ∙ ap (find (asks_of t)) (append-nil (l.conversions ++ l.requests))

pub queued_beside : (t u : TxnNo) (n : LockName) (m : Mode) (l : Lock) → same_txn u t ≡ false → LockKept t l (apply l (Queued u n m))
queued_beside t u n m l ne =
    let same : waiting (apply l (Queued u n m)) t ≡ waiting l t = waiting_queued (has_grant l.grants u n) t l (request u n m) ne in
    record {
      none = λ h. same ∙ h;
      some = λ k a h. inl (same ∙ h);
      has = λ k a h. stays l (Queued u n m) t k a refl h;
    }

pub released_beside : (t a : TxnNo) (l : Lock) → same_txn a t ≡ false → LockKept t l (apply l (ReleasedAll a))
released_beside t a l ne =
    let same : waiting (apply l (ReleasedAll a)) t ≡ waiting l t =
    ap (find (asks_of t)) (queue_released l a) ∙ find_kept t (λ r. not (same_txn r.txn a)) (queue l) (λ r h. ap not (false_from_ne_true _ (λ k. both_ways _ ne (ap (λ x. same_txn x t) (sym (txn_eq r.txn a k)) ∙ h)))) in
    record {
      none = λ h. same ∙ h;
      some = λ k m h. inl (same ∙ h);
      has = λ k m h. stays l (ReleasedAll a) t k m ne h;
    }

-- AN EVENT OF A CONNECTION'S OWN, that takes nothing away: the connection at place k goes on as s'
pub record Locking (st : State) (last : ℕ) (e : Locked) (t k : ℕ) (s' : Session) (v' : View) : Type 0 where
  pub within : k < length st.ss
  pub place : e.place ≡ length st.es
  pub proper : (ever : TxnNo → Bool) → IsProper st.lock ever e.event
  pub due : IsDue (world_of st.es) e.event
  pub grows : (u : TxnNo) (n : LockName) → takes e.event u n ≡ false
  pub alone : (u : TxnNo) → times_in u (queue (apply st.lock e.event)) ≤ 1
  pub waits : All (Waits (world_of st.es) (apply st.lock e.event)) (queue (apply st.lock e.event))
  pub beside : (i : ℕ) (s : Session) → i ≢ k + 1 → Busy (world_of st.es) st.lock st.view last i s → LockKept s.txn st.lock (apply st.lock e.event)
  pub own : SessionHolds (world_of st.es) (apply st.lock e.event) v' last (k + 1) s'
  pub was : (d : Session) → txn_of (get_or st.ss k d) ≡ t
  pub has : txn_of s' ≡ t
  pub script : (d : Session) → s'.script ≡ (get_or st.ss k d).script
  pub content : v'.content ≡ st.view.content
  pub actors : (b : ℕ) → b ≢ k + 1 → v'.actors b ≡ st.view.actors b
  pub limit_same : v'.limit ≡ st.view.limit

pub locked : (st : State) (last : ℕ) (e : Locked) (t k : ℕ) (s' : Session) (v' : View) → Locking st last e t k s' v' → Holds st last
    → Holds (record { es = st.es; ls = st.ls ++ e ∷ []; lock = apply st.lock e.event; ss = set st.ss k s'; view = v'; named = st.named }) last
locked st last e t k s' v' h ok =
    let w = world_of st.es in
    let l = locks_of st.lock.grants in
    let l' = locks_of (apply st.lock e.event).grants in
    let within : k < length st.ss = h.within in
    let same_length = length-set st.ss k s' in
    let grew = event_grew st.lock e.event h.grows (stay_apart st.lock (λ u. false) e.event ok.apart (h.proper (λ u. false))) in
    evented st last e (set st.ss k s') v' h.place h.proper h.due (grew_kept w l l' grew ok.shared) h.alone h.waits
    (scripts_same st.ss k s' s' (h.script s'))
    (λ i d i_lt. elim (cases_eq i k) [
      | inl same ↦ subst (λ j. SessionHolds w (apply st.lock e.event) v' last (j + 1) (get_or (set st.ss k s') j d)) (sym same)
          (subst (SessionHolds w (apply st.lock e.event) v' last (k + 1)) (sym (get_or-set_same st.ss k s' d within)) h.own)
      | inr ne ↦
          let s = get_or st.ss i d in
          let in_ss : i < length st.ss = subst (λ n. i < n) same_length i_lt in
          let other : i + 1 ≢ k + 1 = λ x. ne (omega (arith, x)) in
          subst (SessionHolds w (apply st.lock e.event) v' last (i + 1)) (sym (get_or-set_other st.ss k i s' d ne))
          (session_kept w st.lock st.view w (apply st.lock e.event) v' last last (i + 1) s ok.shared refl (λ b. record {
            others = grew_others w l l' grew (txn_of s);
            locks = h.beside (i + 1) s other b;
            changes = ap (λ (c : Content). c.changes (txn_of s)) h.content;
            actor = h.actors (i + 1) other;
            heaps = λ r table rid x. ap (λ (c : Content). c.heaps table rid) h.content;
            columns = λ r table. ap (λ (c : Content). c.columns table) h.content;
            next = (let same = ap (λ (c : Content). c.next_container) h.content in omega (arith, same));
          }) (omega arith) (omega arith) (ok.each i d in_ss))
    ])
    h.content
    (λ u open_there. elim (cases_eq u t) [
      | inl same ↦ subst (λ x. Among x (map txn_of (set st.ss k s'))) (h.has ∙ sym same) (among_at st.ss k s' within)
      | inr ne ↦ among_set st.ss k s' s' u (λ x. ne (x ∙ h.was s')) (ok.known u (λ x. open_there (ap (λ (c : Content). c.changes u) h.content ∙ x)))
    ])
    (λ b holds. elim (cases_eq b (k + 1)) [
      | inl same ↦ (omega arith, omega (arith, same_length, within, same))
      | inr ne ↦ (let p = ok.holders b (λ x. holds (ap (λ a. a.pages) (h.actors b ne) ∙ x)) in (p.0, omega (arith, same_length, p.1)))
    ])
    (let few = ok.few in let lim = h.limit_same in omega (arith, same_length, few, lim))
    ok

-- AN EVENT THAT MOVES NO CONNECTION
still : (st : State) (last : ℕ) (e : Locked) → e.place ≡ length st.es → ((ever : TxnNo → Bool) → IsProper st.lock ever e.event) → IsDue (world_of st.es) e.event
    → Shared (world_of st.es) (locks_of (apply st.lock e.event).grants) → ((t : TxnNo) → times_in t (queue (apply st.lock e.event)) ≤ 1)
    → All (Waits (world_of st.es) (apply st.lock e.event)) (queue (apply st.lock e.event))
    → ((i : ℕ) (s : Session) → Busy (world_of st.es) st.lock st.view last i s → Others (txn_of s) (world_of st.es) (locks_of st.lock.grants) (world_of st.es) (locks_of (apply st.lock e.event).grants))
    → ((i : ℕ) (s : Session) → Busy (world_of st.es) st.lock st.view last i s → LockKept s.txn st.lock (apply st.lock e.event))
    → Holds st last → Holds (record { es = st.es; ls = st.ls ++ e ∷ []; lock = apply st.lock e.event; ss = st.ss; view = st.view; named = st.named }) last
still st last e place proper due shared alone waits others beside ok =
    evented st last e st.ss st.view place proper due shared alone waits refl
    (λ i d lt. session_kept (world_of st.es) st.lock st.view (world_of st.es) (apply st.lock e.event) st.view last last (i + 1) (get_or st.ss i d) ok.shared refl
    (λ b. record { others = others (i + 1) (get_or st.ss i d) b; locks = beside (i + 1) (get_or st.ss i d) b; changes = refl; actor = refl; heaps = λ r table rid x. refl; columns = λ r table. refl; next = omega arith }) (omega arith) (omega arith) (ok.each i d lt))
    refl ok.known ok.holders ok.few ok

-- SERVED. One request among the others
find_behind : (t : TxnNo) (front : List Request) (r : Request) (back : List Request) → All (λ (q : Request). same_txn q.txn t ≡ false) front → same_txn r.txn t ≡ true → find (asks_of t) (front ++ r ∷ back) ≡ Some r
find_behind t [] r back h e = find_here (asks_of t) r back e
find_behind t (x ∷ front) r back h e = find_later (asks_of t) x (front ++ r ∷ back) (All-head (λ (q : Request). same_txn q.txn t ≡ false) x front h)
    ∙ find_behind t front r back (All-tail (λ (q : Request). same_txn q.txn t ≡ false) x front h) e

ahead_is : (t : TxnNo) (front : List Request) (r : Request) (back : List Request) → All (λ (q : Request). same_txn q.txn t ≡ false) front → same_txn r.txn t ≡ true → ahead t (front ++ r ∷ back) ≡ front
ahead_is t [] r back h e = ap (λ b. if b then [] else (r ∷ ahead t back)) e
ahead_is t (x ∷ front) r back h e =
    ap (λ b. if b then [] else (x ∷ ahead t (front ++ r ∷ back))) (All-head (λ (q : Request). same_txn q.txn t ≡ false) x front h)
    ∙ ap (λ rs. x ∷ rs) (ahead_is t front r back (All-tail (λ (q : Request). same_txn q.txn t ≡ false) x front h) e)

all_at : (P : Request → Type 0) (front : List Request) (r : Request) (back : List Request) → All P (front ++ r ∷ back) → P r
all_at P [] r back h = All-head P r back h
all_at P (x ∷ front) r back h = all_at P front r back (All-tail P x (front ++ r ∷ back) h)

keep_all : (t : TxnNo) (n : LockName) (rs : List Request) → All (λ (q : Request). same_txn q.txn t ≡ false) rs → filter (λ r. not (same_txn r.txn t && same_name r.name n)) rs ≡ rs
keep_all t n [] h = refl
keep_all t n (r ∷ rs) h =
    ap (λ b. cond b (r ∷ filter (λ q. not (same_txn q.txn t && same_name q.name n)) rs) (filter (λ q. not (same_txn q.txn t && same_name q.name n)) rs))
    (ap not (and_left _ _ (All-head (λ (q : Request). same_txn q.txn t ≡ false) r rs h)))
    ∙ ap (λ xs. r ∷ xs) (keep_all t n rs (All-tail (λ (q : Request). same_txn q.txn t ≡ false) r rs h))

drop_one : (r : Request) (front back : List Request) → All (λ (q : Request). same_txn q.txn r.txn ≡ false) front → All (λ (q : Request). same_txn q.txn r.txn ≡ false) back
    → filter (λ q. not (same_txn q.txn r.txn && same_name q.name r.name)) (front ++ r ∷ back) ≡ front ++ back
drop_one r [] back h k =
    ap (λ b. cond b (r ∷ filter (λ q. not (same_txn q.txn r.txn && same_name q.name r.name)) back) (filter (λ q. not (same_txn q.txn r.txn && same_name q.name r.name)) back))
    (ap not (and_from _ _ (txn_refl r.txn) (name_self r.name))) ∙ keep_all r.txn r.name back k
drop_one r (x ∷ front) back h k =
    ap (λ b. cond b (x ∷ filter (λ q. not (same_txn q.txn r.txn && same_name q.name r.name)) (front ++ r ∷ back)) (filter (λ q. not (same_txn q.txn r.txn && same_name q.name r.name)) (front ++ r ∷ back)))
    (ap not (and_left _ _ (All-head (λ (q : Request). same_txn q.txn r.txn ≡ false) x front h)))
    ∙ ap (λ xs. x ∷ xs) (drop_one r front back (All-tail (λ (q : Request). same_txn q.txn r.txn ≡ false) x front h) k)

-- a transaction that asks once asks nowhere else
once : (r : Request) (front back : List Request) → times_in r.txn (front ++ r ∷ back) ≤ 1
    → All (λ (q : Request). same_txn q.txn r.txn ≡ false) front × All (λ (q : Request). same_txn q.txn r.txn ≡ false) back
once r front back h =
    let sum = times_append r.txn front (r ∷ back) in
    let here : times_in r.txn (r ∷ back) ≡ times_in r.txn back + 1 = ap (λ b. if b then times_in r.txn back + 1 else times_in r.txn back) (txn_refl r.txn) in
    (zero_none r.txn front (omega (arith, sum, here, h)), zero_none r.txn back (omega (arith, sum, here, h)))

-- its grant, while nobody is in its way
grants_one : (st : State) (last place : ℕ) (front : List Request) (r : Request) (back : List Request) → place ≡ length st.es → queue st.lock ≡ front ++ r ∷ back → IsFree st.lock.grants front r → Holds st last
    → Holds (record { es = st.es; ls = st.ls ++ (record { place = place; event = grant_of r }) ∷ []; lock = apply st.lock (grant_of r); ss = st.ss; view = st.view; named = st.named }) last
grants_one st last place front r back at line free ok =
    let w = world_of st.es in
    let event : LockEvent = grant_of r in
    let apart = once r front back (subst (λ rs. times_in r.txn rs ≤ 1) line (ok.alone r.txn)) in
    let waits : waiting st.lock r.txn ≡ Some r = ap (find (asks_of r.txn)) line ∙ find_behind r.txn front r back apart.0 (txn_refl r.txn) in
    let before : ahead r.txn (queue st.lock) ≡ front = ap (ahead r.txn) line ∙ ahead_is r.txn front r back apart.0 (txn_refl r.txn) in
    let proper : (ever : TxnNo → Bool) → IsProper st.lock ever event =
    λ ever. inr (subst (λ q. IsFree st.lock.grants (before_of st.lock r q) r) (sym waits) (subst (λ rs. IsFree st.lock.grants rs r) (sym before) free)) in
    let grew = event_grew st.lock event (λ u n. refl) (stay_apart st.lock (λ u. false) event ok.apart (proper (λ u. false))) in
    let mine : Waits w st.lock r = all_at (Waits w st.lock) front r back (subst (All (Waits w st.lock)) line ok.waits) in
    still st last (record { place = place; event = event }) at proper mine.wants
    (grew_kept w (locks_of st.lock.grants) (locks_of (apply st.lock event).grants) grew ok.shared)
    (λ u. let le = times_fewer u (λ q. not (same_txn q.txn r.txn && same_name q.name r.name)) (queue st.lock) in let one = ok.alone u in
    subst (λ rs. times_in u rs ≤ 1) (sym (queue_granted st.lock r.txn r.name r.mode)) (omega (arith, le, one)))
    (subst (All (Waits w (apply st.lock event))) (sym (queue_granted st.lock r.txn r.name r.mode))
    (All-filter (λ q. not (same_txn q.txn r.txn && same_name q.name r.name)) (Waits w (apply st.lock event)) (queue st.lock)
    (λ i d lt. waits_kept w st.lock w (apply st.lock event) (get_or (queue st.lock) i d) (grew_others w (locks_of st.lock.grants) (locks_of (apply st.lock event).grants) grew (get_or (queue st.lock) i d).txn.0) (ok.waits i d lt))))
    (λ i s b. grew_others w (locks_of st.lock.grants) (locks_of (apply st.lock event).grants) grew (txn_of s))
    (λ i s b. elim (cases_Bool (same_txn r.txn s.txn)) [
      | inl same ↦ subst (λ t. LockKept t st.lock (apply st.lock event)) (txn_eq r.txn s.txn same) (granted_own r st.lock waits)
      | inr ne ↦ granted_beside s.txn r.txn r.name r.mode st.lock ne
    ])
    ok

pub served : (st : State) (last place : ℕ) (front rs woken left : List Request) → place ≡ length st.es → queue st.lock ≡ front ++ rs → Serves st.lock.grants front rs woken left → Holds st last
    → Holds (record { es = st.es; ls = st.ls ++ noted place woken; lock = apply_all st.lock (grants_of woken); ss = st.ss; view = st.view; named = st.named }) last
served st last place front [] woken left at line s ok =
    subst (λ ws. Holds (record { es = st.es; ls = st.ls ++ noted place ws; lock = apply_all st.lock (grants_of ws); ss = st.ss; view = st.view; named = st.named }) last) (sym s.0)
    (subst (λ ls. Holds (record { es = st.es; ls = ls; lock = st.lock; ss = st.ss; view = st.view; named = st.named }) last) (sym (append-nil st.ls)) ok)
served st last place front (r ∷ rs) woken left at line (inl g) ok =
    let one = grants_one st last place front r rs at line g.2 ok in
    let apart = once r front rs (subst (λ xs. times_in r.txn xs ≤ 1) line (ok.alone r.txn)) in
    let next : State = record { es = st.es; ls = st.ls ++ (record { place = place; event = grant_of r }) ∷ []; lock = apply st.lock (grant_of r); ss = st.ss; view = st.view; named = st.named } in
    let line' : queue next.lock ≡ front ++ rs = queue_granted st.lock r.txn r.name r.mode ∙ ap (filter (λ q. not (same_txn q.txn r.txn && same_name q.name r.name))) line ∙ drop_one r front rs apart.0 apart.1 in
    let rest = served next last place front rs g.0 left at line' g.3 one in
    subst (λ ws. Holds (record { es = st.es; ls = st.ls ++ noted place ws; lock = apply_all st.lock (grants_of ws); ss = st.ss; view = st.view; named = st.named }) last) (sym g.1)
    (subst (λ ls. Holds (record { es = st.es; ls = ls; lock = apply_all next.lock (grants_of g.0); ss = st.ss; view = st.view; named = st.named }) last)
    (append_assoc st.ls (record { place = place; event = grant_of r } ∷ []) (noted place g.0)) rest)
served st last place front (r ∷ rs) woken left at line (inr k) ok =
    served st last place (front ++ r ∷ []) rs woken k.0 at (line ∙ sym (append_assoc front (r ∷ []) rs)) k.3 ok

-- ALL OF A TRANSACTION THAT IS OVER GOES
pub gone : (st : State) (last place : ℕ) (a : TxnNo) → place ≡ length st.es → ((world_of st.es).txns a.0).stage ≡ over → ((world_of st.es).txns a.0).changes ≡ [] → ((world_of st.es).txns a.0).standing ≡ []
    → ((i : ℕ) (s : Session) → Busy (world_of st.es) st.lock st.view last i s → same_txn a s.txn ≡ false) → All (λ (r : Request). same_txn a r.txn ≡ false) (queue st.lock) → Holds st last
    → Holds (record { es = st.es; ls = st.ls ++ (record { place = place; event = ReleasedAll a }) ∷ []; lock = apply st.lock (ReleasedAll a); ss = st.ss; view = st.view; named = st.named }) last
gone st last place a at ends none none_standing apart free ok =
    let w = world_of st.es in
    let event : LockEvent = ReleasedAll a in
    let l = locks_of st.lock.grants in
    let l' = locks_of (apply st.lock event).grants in
    let left = all_left a w st.lock (stay_apart st.lock (λ u. false) event ok.apart tt) none none_standing (ap is_ended ends) in
    let differ : (t : TxnNo) → same_txn a t ≡ false → t.0 ≢ a.0 = λ t off same. both_ways _ off (eq-eqb a.0 t.0 (sym same)) in
    still st last (record { place = place; event = event }) at (λ ever. tt) ends (left_kept a.0 w l l' left ok.shared)
    (λ u. let le = times_fewer u (λ q. not (same_txn q.txn a)) (queue st.lock) in let one = ok.alone u in
    subst (λ rs. times_in u rs ≤ 1) (sym (queue_released st.lock a)) (omega (arith, le, one)))
    (subst (All (Waits w (apply st.lock event))) (sym (queue_released st.lock a))
    (All-filter (λ q. not (same_txn q.txn a)) (Waits w (apply st.lock event)) (queue st.lock)
    (λ i d lt. let r = get_or (queue st.lock) i d in waits_kept w st.lock w (apply st.lock event) r (left_others a.0 w l l' left r.txn.0 (differ r.txn (free i d lt))) (ok.waits i d lt))))
    (λ i s b. left_others a.0 w l l' left (txn_of s) (differ s.txn (apart i s b)))
    (λ i s b. released_beside s.txn a st.lock (apart i s b))
    ok
