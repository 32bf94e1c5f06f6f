-- A lock of a connection's own: granted at once, queued, or found granted.
use Rattle.std.proofs.Common.{◌≡◌, ◌≢◌, ℕ, ◌+◌, ◌<◌, ◌≤◌, List, [], ◌∷◌, ◌++◌, length, set, get_or, Bool, true, false, refl, sym, ◌∙◌, ap, subst, arith, inl, inr, Option, Some, None}
use Rattle.std.specs.Prelude.{◌⊎◌, ◌&&◌, All, not, if◌then◌else◌}
use Rattle.std.proofs.lemmas.List.{get_or_default}
use Rattle.std.proofs.lemmas.List.Elements.{All-nil, All-head, All-tail, All-cons, All-append, All-push, All-filter}
use Rattle.std.proofs.lemmas.Bool.{cases_Bool, ne_eqb, or_left, or_right}
use Rattle.dby_types.specs.declared.number.TxnNo.{TxnNo}
use Rattle.lock_modes.specs.declared.entry.Request.{Request}
use Rattle.lock_modes.specs.declared.event.LockEvent.{LockEvent}
use Rattle.lock_modes.specs.declared.event.LockEvent.TheVariants.{Granted, Queued}
use Rattle.lock_modes.specs.declared.mode.Mode.{Mode}
use Rattle.lock_modes.specs.declared.mode.Mode.TheVariants.{TS, TX}
use Rattle.lock_modes.specs.declared.name.LockName.{LockName}
use Rattle.lock_modes.specs.declared.name.LockName.TheVariants.{Dictionary, Table}
use Rattle.lock_modes.specs.Lock.{Lock, queue, request, has_grant, apply}
use Rattle.lock_modes.specs.Modes.{has_mode}
use Rattle.lock_modes.specs.Names.{same_txn, same_name}
use Rattle.lock_modes.specs.Proper.{IsProper, MayHave, IsRefused, before_of}
use Rattle.lock_modes.specs.Waits.{waiting, IsFree}
use Rattle.lock_modes.proofs.ApartLemmas.{stay_apart}
use Rattle.lock_modes.proofs.NamesLemmas.{txn_eq}
use Rattle.store_api.specs.View.{View}
use Rattle.sql_forms.specs.declared.form.Form.TheVariants.{CreateTable, Insert, Select}
use Rattle.session_model.specs.declared.order.Order.{Order}
use Rattle.session_model.specs.declared.order.Order.TheVariants as ordered
use Rattle.session_model.specs.Legal.{Wants, dictionary_mode}
use Rattle.session_model.specs.Orders.{is_create}
use Rattle.session_model.specs.Places.{ReadsCatalog, WritesCatalog, locks_of, guard}
use Rattle.session_model.proofs.LockLemmas.{event_grew, grew_others}
use Rattle.session_engine.specs.declared.session.Session.{Session}
use Rattle.session_engine.specs.State.{State, Holds, SessionHolds, Busy, Waits, times_in, world_of, txn_of}
use Rattle.session_engine.proofs.QueueLemmas.{none_asks, times_append, times_none, times_fewer, queue_granted}
use Rattle.session_engine.proofs.MoveLemmas.{waits_kept}
use Rattle.session_engine.proofs.EventLemmas.{locked, granted_beside, queued_beside}
use Rattle.session_engine.proofs.StepLemmas.{apart_of}

-- transactions of other numbers are others
differs : (a b : TxnNo) → b.0 ≢ a.0 → same_txn a b ≡ false
differs a b ne = ne_eqb a.0 b.0 (λ e. ne (sym e))

proper_at_once : (l : Lock) (t : TxnNo) (n : LockName) (m : Mode) → waiting l t ≡ None → MayHave l (request t n m) → (ever : TxnNo → Bool) → IsProper l ever (Granted t n m)
proper_at_once l t n m idle may ever = elim may [
  | inl covered ↦ inl covered
  | inr free ↦ inr (subst (λ w. IsFree l.grants (before_of l (request t n m) w) (request t n m)) (sym idle) free)
]

-- GRANTED AT ONCE
pub granted : (st : State) (last place k : ℕ) (r s' : Session) (n : LockName) (m : Mode) → k < length st.ss → r ≡ get_or st.ss k r → place ≡ length st.es
    → Busy (world_of st.es) st.lock st.view last (k + 1) r → waiting st.lock r.txn ≡ None → MayHave st.lock (request r.txn n m) → Wants (world_of st.es) (txn_of r) n m
    → s'.txn ≡ r.txn → s'.script ≡ r.script → SessionHolds (world_of st.es) (apply st.lock (Granted r.txn n m)) st.view last (k + 1) s' → Holds st last
    → Holds (record { es = st.es; ls = st.ls ++ record { place = place; event = Granted r.txn n m } ∷ []; lock = apply st.lock (Granted r.txn n m); ss = set st.ss k s'; view = st.view; named = st.named }) last
granted st last place k r s' n m lt at here busy idle may wants txn script own ok =
    let w = world_of st.es in
    let event : LockEvent = Granted r.txn n m in
    let proper = proper_at_once st.lock r.txn n m idle may in
    let grew = event_grew st.lock event (λ u x. refl) (stay_apart st.lock (λ u. false) event ok.apart (proper (λ u. false))) in
    let old : (d : Session) → get_or st.ss k d ≡ r = λ d. get_or_default st.ss k d r lt ∙ sym at in
    locked st last (record { place = place; event = event }) (txn_of r) k s' st.view (record {
      within = lt;
      place = here;
      proper = proper;
      due = wants;
      grows = λ u x. refl;
      alone = λ u. let le = times_fewer u (λ q. not (same_txn q.txn r.txn && same_name q.name n)) (queue st.lock) in let one = ok.alone u in
          subst (λ rs. times_in u rs ≤ 1) (sym (queue_granted st.lock r.txn n m)) (omega (arith, le, one));
      waits = subst (All (Waits w (apply st.lock event))) (sym (queue_granted st.lock r.txn n m))
          (All-filter (λ q. not (same_txn q.txn r.txn && same_name q.name n)) (Waits w (apply st.lock event)) (queue st.lock)
          (λ i d i_lt. waits_kept w st.lock w (apply st.lock event) (get_or (queue st.lock) i d) (grew_others w (locks_of st.lock.grants) (locks_of (apply st.lock event).grants) grew (get_or (queue st.lock) i d).txn.0) (ok.waits i d i_lt)));
      beside = λ i s ne b. granted_beside s.txn r.txn n m st.lock (differs r.txn s.txn (apart_of w st.lock st.view last (k + 1) (txn_of r) busy.conn i s ne b));
      own = own;
      was = λ d. ap txn_of (old d);
      has = ap (λ t. t.0) txn;
      script = λ d. script ∙ ap (λ (s : Session). s.script) (sym (old d));
      content = refl;
      actors = λ b ne. refl;
      limit_same = refl;
    }) ok

-- QUEUED
queue_times : (b : Bool) (u : TxnNo) (l : Lock) (r : Request)
    → times_in u (queue (if b then record l { conversions = l.conversions ++ r ∷ [] } else record l { requests = l.requests ++ r ∷ [] })) ≡ times_in u (queue l) + times_in u (r ∷ [])
queue_times true u l r =
    let one = times_append u (l.conversions ++ r ∷ []) l.requests in
    let two = times_append u l.conversions (r ∷ []) in
    let three = times_append u l.conversions l.requests in
    omega (arith, one, two, three)
queue_times false u l r =
    let one = times_append u l.conversions (l.requests ++ r ∷ []) in
    let two = times_append u l.requests (r ∷ []) in
    let three = times_append u l.conversions l.requests in
    omega (arith, one, two, three)

all_first : (P : Request → Type 0) (xs ys : List Request) → All P (xs ++ ys) → All P xs
all_first P [] ys h = All-nil P
all_first P (x ∷ xs) ys h = All-cons P x xs (All-head P x (xs ++ ys) h) (all_first P xs ys (All-tail P x (xs ++ ys) h))

all_second : (P : Request → Type 0) (xs ys : List Request) → All P (xs ++ ys) → All P ys
all_second P [] ys h = h
all_second P (x ∷ xs) ys h = all_second P xs ys (All-tail P x (xs ++ ys) h)

queue_all : (P : Request → Type 0) (b : Bool) (l : Lock) (r : Request) → All P (queue l) → P r
    → All P (queue (if b then record l { conversions = l.conversions ++ r ∷ [] } else record l { requests = l.requests ++ r ∷ [] }))
queue_all P true l r h p = All-append P (l.conversions ++ r ∷ []) l.requests (All-push P l.conversions r (all_first P l.conversions l.requests h) p) (all_second P l.conversions l.requests h)
queue_all P false l r h p = All-append P l.conversions (l.requests ++ r ∷ []) (all_first P l.conversions l.requests h) (All-push P l.requests r (all_second P l.conversions l.requests h) p)

one_at_most : (u : TxnNo) (r : Request) → times_in u (r ∷ []) ≤ 1
one_at_most u r = elim (cases_Bool (same_txn r.txn u)) [
  | inl hit ↦ subst (λ b. (if b then 0 + 1 else 0) ≤ 1) (sym hit) (omega arith)
  | inr miss ↦ subst (λ b. (if b then 0 + 1 else 0) ≤ 1) (sym miss) (omega arith)
]

none_at_all : (u : TxnNo) (r : Request) → same_txn r.txn u ≡ false → times_in u (r ∷ []) ≡ 0
none_at_all u r h = ap (λ b. if b then 0 + 1 else 0) h

pub queued : (st : State) (last place k : ℕ) (r s' : Session) (n : LockName) (m : Mode) (v' : View) → k < length st.ss → r ≡ get_or st.ss k r → place ≡ length st.es
    → Busy (world_of st.es) st.lock st.view last (k + 1) r → waiting st.lock r.txn ≡ None → IsRefused st.lock (request r.txn n m) → Wants (world_of st.es) (txn_of r) n m
    → ((n ≡ Dictionary) ⊎ ReadsCatalog (locks_of st.lock.grants) (txn_of r))
    → s'.txn ≡ r.txn → s'.script ≡ r.script → SessionHolds (world_of st.es) (apply st.lock (Queued r.txn n m)) v' last (k + 1) s'
    → v'.content ≡ st.view.content → ((b : ℕ) → b ≢ k + 1 → v'.actors b ≡ st.view.actors b) → v'.limit ≡ st.view.limit → Holds st last
    → Holds (record { es = st.es; ls = st.ls ++ record { place = place; event = Queued r.txn n m } ∷ []; lock = apply st.lock (Queued r.txn n m); ss = set st.ss k s'; view = v'; named = st.named }) last
queued st last place k r s' n m v' lt at here busy idle refused wants rooted txn script own content actors limit ok =
    let w = world_of st.es in
    let event : LockEvent = Queued r.txn n m in
    let proper : (ever : TxnNo → Bool) → IsProper st.lock ever event = λ ever. (idle, refused) in
    let grew = event_grew st.lock event (λ u x. refl) (stay_apart st.lock (λ u. false) event ok.apart (proper (λ u. false))) in
    let old : (d : Session) → get_or st.ss k d ≡ r = λ d. get_or_default st.ss k d r lt ∙ sym at in
    let mine : Waits w st.lock (request r.txn n m) = record { wants = wants; rooted = rooted } in
    let kept : (q : Request) → Waits w st.lock q → Waits w (apply st.lock event) q = λ q h. waits_kept w st.lock w (apply st.lock event) q (grew_others w (locks_of st.lock.grants) (locks_of (apply st.lock event).grants) grew q.txn.0) h in
    locked st last (record { place = place; event = event }) (txn_of r) k s' v' (record {
      within = lt;
      place = here;
      proper = proper;
      due = wants;
      grows = λ u x. refl;
      alone = λ u. let sum = queue_times (has_grant st.lock.grants r.txn n) u st.lock (request r.txn n m) in let one = ok.alone u in elim (cases_Bool (same_txn r.txn u)) [
        | inl hit ↦
            let none : times_in u (queue st.lock) ≡ 0 = subst (λ x. times_in x (queue st.lock) ≡ 0) (txn_eq r.txn u hit) (times_none r.txn (queue st.lock) (none_asks r.txn (queue st.lock) idle)) in
            let new = one_at_most u (request r.txn n m) in omega (arith, sum, none, new)
        | inr miss ↦ (let new = none_at_all u (request r.txn n m) miss in omega (arith, sum, new, one))
      ];
      waits = queue_all (Waits w (apply st.lock event)) (has_grant st.lock.grants r.txn n) st.lock (request r.txn n m) (λ i d i_lt. kept (get_or (queue st.lock) i d) (ok.waits i d i_lt)) (kept (request r.txn n m) mine);
      beside = λ i s ne b. queued_beside s.txn r.txn n m st.lock (differs r.txn s.txn (apart_of w st.lock st.view last (k + 1) (txn_of r) busy.conn i s ne b));
      own = own;
      was = λ d. ap txn_of (old d);
      has = ap (λ t. t.0) txn;
      script = λ d. script ∙ ap (λ (s : Session). s.script) (sym (old d));
      content = content;
      actors = actors;
      limit_same = limit;
    }) ok

-- WHO HAS THE DICTIONARY relies on the catalog
dictionary_either : (o : Option Order) → (dictionary_mode o ≡ TS) ⊎ (dictionary_mode o ≡ TX)
dictionary_either None = inl refl
dictionary_either (Some (ordered.Command c)) = inl refl
dictionary_either (Some (ordered.Form (CreateTable name columns))) = inr refl
dictionary_either (Some (ordered.Form (Insert name tuples))) = inl refl
dictionary_either (Some (ordered.Form (Select name))) = inl refl

pub relies_on_catalog : (l : Lock) (t : TxnNo) (o : Option Order) → has_mode (l.grants t Dictionary) (dictionary_mode o) ≡ true → ReadsCatalog (locks_of l.grants) t.0
relies_on_catalog l t o h = λ table rid c.
    let name : guard table ≡ Dictionary = ap (λ b. if b then Dictionary else Table table) c in
    elim (dictionary_either o) [
      | inl s ↦ or_left _ _ (ap (λ n. has_mode (l.grants t n) TS) name ∙ subst (λ m. has_mode (l.grants t Dictionary) m ≡ true) s h)
      | inr x ↦ or_right _ _ (ap (λ n. has_mode (l.grants t n) TX) name ∙ subst (λ m. has_mode (l.grants t Dictionary) m ≡ true) x h)
    ]

-- and who asked for it to make a table has it alone
pub writes_catalog : (l : Lock) (t : TxnNo) (o : Option Order) → is_create o ≡ true → has_mode (l.grants t Dictionary) (dictionary_mode o) ≡ true → WritesCatalog (locks_of l.grants) t.0
writes_catalog l t None c h = cc
writes_catalog l t (Some (ordered.Command d)) c h = cc
writes_catalog l t (Some (ordered.Form (CreateTable name columns))) c h = λ table rid k.
    let is : guard table ≡ Dictionary = ap (λ b. if b then Dictionary else Table table) k in
    ap (λ n. has_mode (l.grants t n) TX) is ∙ h
writes_catalog l t (Some (ordered.Form (Insert name tuples))) c h = cc
writes_catalog l t (Some (ordered.Form (Select name))) c h = cc
