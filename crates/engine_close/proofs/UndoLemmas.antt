-- A change of a transaction is taken back, or another item of it, or the store has sent its actor on.
use Rattle.std.proofs.Common.{◌≡◌, ◌≢◌, ℕ, zero, suc, ◌+◌, ◌-◌, ◌*◌, ◌<◌, ◌≤◌, ◌++◌, List, [], ◌∷◌, length, map, reverse, take, get_or, true, refl, sym, ◌∙◌, ap, subst, arith, inl, inr, Option, Some, Vec, vec_len, vec_capacity}
use Rattle.std.specs.Prelude.{◌⊎◌}
use Rattle.std.proofs.Math.Nat.{suc-mul}
use Rattle.std.proofs.lemmas.List.{reverse-append, take_more, nil_from_length}
use Rattle.std.proofs.lemmas.Bool.Decides.{nat_tests}
use Rattle.dby_types.specs.declared.number.RowId.{RowId}
use Rattle.table_model.specs.Tables.{Made, no_tables, rest_of}
use Rattle.store_api.specs.declared.slot.Item.{Item}
use Rattle.store_api.specs.declared.slot.Item.TheVariants.{Changed, Created, Discarded}
use Rattle.store_api.specs.declared.slot.Slot.{Slot}
use Rattle.store_api.specs.Effects.{TakesBack}
use Rattle.store_api.specs.Frames.{Frame}
use Rattle.store_api.specs.View.{View, Content, at_number, changes_in}
use Rattle.journal_model.specs.declared.journal.Entry.{Entry}
use Rattle.journal_model.specs.declared.journal.Entry.TheVariants as entry
use Rattle.journal_model.proofs.BaseLemmas.{at_same, at_other}
use Rattle.session_model.specs.declared.journal.Locked.{Locked}
use Rattle.session_model.specs.World.{World, Stage, opening, apply, after_undone, is_returnable}
use Rattle.session_model.specs.Legal.{IsLegal, IsOwed}
use Rattle.session_model.proofs.BaseLemmas.{replay_push, world_end}
use Rattle.session_model.proofs.GrowingLemmas.{legal_entry}
use Rattle.session_engine.specs.declared.session.Session.{Session}
use Rattle.session_engine.specs.State.{Mirrors, scripts_of, txn_of, world_of}
use Rattle.session_engine.proofs.EndLemmas.{newest}
use Rattle.engine_close.specs.Closing.{Part, Undoing, to_do}
use Rattle.engine_close.proofs.EndsLemmas.{owed_kept, part_kept}

returnable_after : (x : Stage) → is_returnable x ≡ true → is_returnable (after_undone x) ≡ true
returnable_after x h = grind arith

-- what stands in the store of the transaction
pub list_of : {Z : Type 0} (entries : Vec Entry Z) (events : Vec Locked Z) (ss : List Session) (v : View) (c left : ℕ) (items : List Item) → (u : Undoing entries events ss v c left)
    → v.content.changes (txn_of u.session) ≡ Some items → Mirrors items ((world_of entries.items).txns (txn_of u.session)).changes
list_of entries events ss v c left items u is =
    let same : u.reflects.0 ≡ items = (let e : Some u.reflects.0 ≡ Some items = sym u.reflects.1 ∙ is in cc) in
    subst (λ i. Mirrors i ((world_of entries.items).txns (txn_of u.session)).changes) same u.reflects.2

-- NO ENTRY: an item that the journal says nothing of, or none
pub moves_on : {Z : Type 0} (entries : Vec Entry Z) (events : Vec Locked Z) (ss : List Session) (v v' : View) (c left : ℕ) (items : List Item) → (u : Undoing entries events ss v c left)
    → v'.content.changes (txn_of u.session) ≡ Some items → Mirrors items ((world_of entries.items).txns (txn_of u.session)).changes
    → ((t : ℕ) → t ≢ txn_of u.session → v'.content.changes t ≡ v.content.changes t) → ((b : ℕ) → b ≢ c + 1 → v'.actors b ≡ v.actors b) → v'.limit ≡ v.limit
    → Undoing entries events ss v' c left
moves_on entries events ss v v' c left items u is mirrors changes actors limit =
    let w = world_of entries.items in
    let few = u.few in
    record {
      session = u.session;
      within = u.within;
      at = u.at;
      legal = u.legal;
      quiet = λ b ne. ap (λ a. a.pages) (actors b ne) ∙ u.quiet b ne;
      parts = λ i d ne lt. part_kept w w v v' (txn_of u.session) (c + 1) (c + 1) i (get_or ss i d) u.conn u.stage (λ t x. refl) (λ k x. refl) changes (λ e. ne (omega (arith, e))) (u.parts i d ne lt);
      few = omega (arith, few, limit);
      conn = u.conn;
      stage = u.stage;
      numbers = u.numbers;
      most = u.most;
      reflects = (items, is, mirrors);
      room = u.room;
      room_events = u.room_events;
    }

-- the newest change is the last number that is left
pub record Last (w : World) (t did fewer : ℕ) (made : List ℕ) (rest : List Item) : Type 0 where
  pub newest : Made
  pub older : List Made
  pub are : (w.txns t).changes ≡ newest ∷ older
  pub number : newest.number ≡ did
  pub numbers : map (λ m. m.number) older ≡ reverse (take fewer made)
  pub mirrors : Mirrors rest older

none_numbered : (m : Made) (ms : List Made) → map (λ (x : Made). x.number) (m ∷ ms) ≡ [] → ⊥
none_numbered m ms e = cc

pub last_of : {Z : Type 0} (entries : Vec Entry Z) (events : Vec Locked Z) (ss : List Session) (v : View) (c left table : ℕ) (rid : RowId) (before : Option Slot) (rest : List Item) (d : ℕ) → (u : Undoing entries events ss v c left)
    → v.content.changes (txn_of u.session) ≡ Some (Changed table rid before ∷ rest)
    → (1 ≤ left) × Last (world_of entries.items) (txn_of u.session) (get_or u.session.made.items (left - 1) d) (left - 1) u.session.made.items rest
last_of entries events ss v c zero table rid before rest d u is =
    let n = newest table rid before rest ((world_of entries.items).txns (txn_of u.session)).changes (list_of entries events ss v c zero (Changed table rid before ∷ rest) u is) in
    absurd (none_numbered n.made n.older (ap (map (λ (m : Made). m.number)) (sym n.are) ∙ u.numbers))
last_of entries events ss v c (suc fewer) table rid before rest d u is =
    let n = newest table rid before rest ((world_of entries.items).txns (txn_of u.session)).changes (list_of entries events ss v c (suc fewer) (Changed table rid before ∷ rest) u is) in
    let made = u.session.made.items in
    let most = u.most in
    let lt : fewer < length made = omega (arith, most) in
    let more : take (fewer + 1) made ≡ take fewer made ++ get_or made fewer d ∷ [] = take_more made fewer d lt in
    let same : suc fewer ≡ fewer + 1 = omega arith in
    let back : fewer ≡ suc fewer - 1 = omega arith in
    let both : n.made.number ∷ map (λ (m : Made). m.number) n.older ≡ get_or made fewer d ∷ reverse (take fewer made) =
    ap (map (λ (m : Made). m.number)) (sym n.are) ∙ u.numbers ∙ ap (λ k. reverse (take k made)) same ∙ ap reverse more ∙ reverse-append (take fewer made) (get_or made fewer d ∷ []) in
    let number : n.made.number ≡ get_or made fewer d = cc in
    let numbers : map (λ (m : Made). m.number) n.older ≡ reverse (take fewer made) = cc in
    (omega arith, subst (λ k. Last (world_of entries.items) (txn_of u.session) (get_or made k d) k made rest) back (record { newest = n.made; older = n.older; are = n.are; number = number; numbers = numbers; mirrors = n.mirrors }))

-- ONE CHANGE TAKEN BACK, with its entry
pub takes_one : {Z : Type 0} (entries entries' : Vec Entry Z) (events : Vec Locked Z) (ss : List Session) (v v' : View) (c left fewer did : ℕ) (rest : List Item) → (u : Undoing entries events ss v c left)
    → left ≡ fewer + 1 → Last (world_of entries.items) (txn_of u.session) did fewer u.session.made.items rest
    → v'.content.changes (txn_of u.session) ≡ Some rest
    → ((t : ℕ) → t ≢ txn_of u.session → v'.content.changes t ≡ v.content.changes t) → ((b : ℕ) → b ≢ c + 1 → v'.actors b ≡ v.actors b) → v'.limit ≡ v.limit
    → entries'.items ≡ entries.items ++ entry.Undone u.session.txn did ∷ [] → vec_len entries' ≡ vec_len entries + 1 → vec_capacity entries ≤ vec_capacity entries'
    → Undoing entries' events ss v' c fewer
takes_one entries entries' events ss v v' c left fewer did rest u one last is changes actors limit grown len cap =
    let w = world_of entries.items in
    let e = entry.Undone u.session.txn did in
    let a = txn_of u.session in
    let w' = apply w e in
    let others : (t : ℕ) → t ≢ a → w'.txns t ≡ w.txns t = λ t ne. at_other w.txns a _ t ne in
    let conns : (k : ℕ) → k ≢ c + 1 → w'.conns k ≡ w.conns k = λ k ne. at_other w.conns (w.txns a).conn _ k (λ x. ne (x ∙ u.conn)) in
    let mine : w'.txns a ≡ record (w.txns a) { stage = after_undone (w.txns a).stage; changes = rest_of (w.txns a).changes; standing = rest_of (w.txns a).standing } = at_same w.txns a _ in
    let push : w' ≡ world_of entries'.items = sym (ap world_of grown ∙ replay_push (opening no_tables) entries.items e) in
    let owed : IsOwed w = subst IsOwed (world_end no_tables entries.items) (u.legal.owed (length entries.items) (omega arith)) in
    let few = u.few in
    let most = u.most in
    let room = u.room in
    let older : (w'.txns a).changes ≡ last.older = ap (λ x. x.changes) mine ∙ ap rest_of last.are in
    record {
      session = u.session;
      within = u.within;
      at = u.at;
      legal = subst (λ es. IsLegal no_tables (scripts_of ss) es events.items) (sym grown)
          (legal_entry no_tables (scripts_of ss) entries.items events.items e u.legal (record { session = u.stage; undo = (last.newest, last.older, last.are, last.number); change = tt; refusal = tt }) tt
          (owed_kept w w' a u.stage others refl refl owed));
      quiet = λ b ne. ap (λ x. x.pages) (actors b ne) ∙ u.quiet b ne;
      parts = λ i d ne lt. subst (λ x. Part x v' (c + 1) i (get_or ss i d)) push (part_kept w w' v v' a (c + 1) (c + 1) i (get_or ss i d) u.conn u.stage others conns changes (λ x. ne (omega (arith, x))) (u.parts i d ne lt));
      few = omega (arith, few, limit);
      conn = ap (λ x. (x.txns a).conn) (sym push) ∙ ap (λ x. x.conn) mine ∙ u.conn;
      stage = ap (λ x. is_returnable (x.txns a).stage) (sym push) ∙ ap (λ x. is_returnable x.stage) mine ∙ returnable_after (w.txns a).stage u.stage;
      numbers = ap (λ x. map (λ (m : Made). m.number) (x.txns a).changes) (sym push) ∙ ap (map (λ (m : Made). m.number)) older ∙ last.numbers;
      most = omega (arith, most, one);
      reflects = (rest, is, subst (λ x. Mirrors rest (x.txns a).changes) push (subst (Mirrors rest) (sym older) last.mirrors));
      room = omega (arith, room, one, len, cap);
      room_events = u.room_events;
    }

-- THERE IS LESS TO DO with an item less, and with a turn more
pub less_by_item : (v v' : View) (t a : ℕ) (item : Item) (rest : List Item) → v.content.changes t ≡ Some (item ∷ rest) → v'.content.changes t ≡ Some rest → v'.pages ≡ v.pages → to_do v' t a < to_do v t a
less_by_item v v' t a item rest is is' pages =
    let k = 4 * v.pages + 17 in
    let before : length (changes_in (v.content.changes t)) * k ≡ length rest * k + k = ap (λ o. length (changes_in o) * k) is ∙ suc-mul (length rest) k in
    let after : length (changes_in (v'.content.changes t)) * (4 * v'.pages + 17) ≡ length rest * k = ap (λ o. length (changes_in o) * (4 * v'.pages + 17)) is' ∙ ap (λ p. length rest * (4 * p + 17)) pages in
    less (length (changes_in (v'.content.changes t)) * (4 * v'.pages + 17)) (length rest * k) (length (changes_in (v.content.changes t)) * k) v'.pages v.pages (v'.actors a).turns (v.actors a).turns after before pages
  where
    less : (x y z p' p turns' turns : ℕ) → x ≡ y → z ≡ y + (4 * p + 17) → p' ≡ p → x + (4 * p' + 16 - turns') < z + (4 * p + 16 - turns)
    less x y z p' p turns' turns one two same = omega (arith, one, two, same)

pub less_by_turn : (v v' : View) (t a : ℕ) → v'.content.changes t ≡ v.content.changes t → v'.pages ≡ v.pages → (v'.actors a).turns ≡ (v.actors a).turns + 1 → (v'.actors a).turns ≤ 4 * v'.pages + 16 → to_do v' t a < to_do v t a
less_by_turn v v' t a same pages turn most =
    let items : length (changes_in (v'.content.changes t)) * (4 * v'.pages + 17) ≡ length (changes_in (v.content.changes t)) * (4 * v.pages + 17) = ap (λ o. length (changes_in o) * (4 * v'.pages + 17)) same ∙ ap (λ p. length (changes_in (v.content.changes t)) * (4 * p + 17)) pages in
    less (length (changes_in (v'.content.changes t)) * (4 * v'.pages + 17)) (length (changes_in (v.content.changes t)) * (4 * v.pages + 17)) v'.pages v.pages (v'.actors a).turns (v.actors a).turns items pages turn most
  where
    less : (x y p' p turns' turns : ℕ) → x ≡ y → p' ≡ p → turns' ≡ turns + 1 → turns' ≤ 4 * p' + 16 → x + (4 * p' + 16 - turns') < y + (4 * p + 16 - turns)
    less x y p' p turns' turns one same turn most = omega (arith, one, same, turn, most)

-- WHAT THE STORE ANSWERED, in its own words: t is the transaction, and the actor is c + 1
changes_back : (v v' : View) (t : ℕ) (item : Item) → (b : TakesBack t item v v') → (v'.content.changes t ≡ Some b.rest) × ((u : ℕ) → u ≢ t → v'.content.changes u ≡ v.content.changes u)
changes_back v v' t item b = (
  ap (λ (d : Content). d.changes t) b.stored.stored ∙ at_number-same v.content.changes t (Some b.rest),
  λ u ne. ap (λ (d : Content). d.changes u) b.stored.stored ∙ at_number-other v.content.changes t (Some b.rest) u ne,
)
  where
    at_number-same : (f : ℕ → Option (List Item)) (t : ℕ) (x : Option (List Item)) → at_number f t x t ≡ x
    at_number-same f t x = grind (arith, nat_tests)

    at_number-other : (f : ℕ → Option (List Item)) (t : ℕ) (x : Option (List Item)) (u : ℕ) → u ≢ t → at_number f t x u ≡ f u
    at_number-other f t x u h = grind (arith, nat_tests)

-- a change
pub undid : {Z : Type 0} (entries entries' : Vec Entry Z) (events : Vec Locked Z) (ss : List Session) (v v' : View) (c left table : ℕ) (rid : RowId) (before : Option Slot) (d : ℕ) → (u : Undoing entries events ss v c left)
    → TakesBack (txn_of u.session) (Changed table rid before) v v' → Frame (c + 1) v v'
    → entries'.items ≡ entries.items ++ entry.Undone u.session.txn (get_or u.session.made.items (left - 1) d) ∷ [] → vec_len entries' ≡ vec_len entries + 1 → vec_capacity entries ≤ vec_capacity entries'
    → Undoing entries' events ss v' c (left - 1) × (to_do v' (txn_of u.session) (c + 1) < to_do v (txn_of u.session) (c + 1))
undid entries entries' events ss v v' c left table rid before d u b frame grown len cap =
    let changes = changes_back v v' (txn_of u.session) (Changed table rid before) b in
    let last = last_of entries events ss v c left table rid before b.rest d u b.newest in
    let least = last.0 in (
      takes_one entries entries' events ss v v' c left (left - 1) (get_or u.session.made.items (left - 1) d) b.rest u (omega (arith, least)) last.1 changes.0 changes.1 frame.others frame.limit_same grown len cap,
      less_by_item v v' (txn_of u.session) (c + 1) (Changed table rid before) b.rest b.newest changes.0 frame.pages_same,
    )

-- a container
pub undid_container : {Z : Type 0} (entries : Vec Entry Z) (events : Vec Locked Z) (ss : List Session) (v v' : View) (c left : ℕ) → (u : Undoing entries events ss v c left)
    → ((k : ℕ) × TakesBack (txn_of u.session) (Created k) v v') ⊎ ((k : ℕ) × TakesBack (txn_of u.session) (Discarded k) v v') → Frame (c + 1) v v'
    → Undoing entries events ss v' c left × (to_do v' (txn_of u.session) (c + 1) < to_do v (txn_of u.session) (c + 1))
undid_container entries events ss v v' c left u (inl b) frame =
    let changes = changes_back v v' (txn_of u.session) (Created b.0) b.1 in (
      moves_on entries events ss v v' c left b.1.rest u changes.0 (list_of entries events ss v c left (Created b.0 ∷ b.1.rest) u b.1.newest) changes.1 frame.others frame.limit_same,
      less_by_item v v' (txn_of u.session) (c + 1) (Created b.0) b.1.rest b.1.newest changes.0 frame.pages_same,
    )
undid_container entries events ss v v' c left u (inr b) frame = absurd (list_of entries events ss v c left (Discarded b.0 ∷ b.1.rest) u b.1.newest)

-- nothing: the actor was sent on
pub sent_on : {Z : Type 0} (entries : Vec Entry Z) (events : Vec Locked Z) (ss : List Session) (v v' : View) (c left : ℕ) → (u : Undoing entries events ss v c left)
    → v'.content ≡ v.content → Frame (c + 1) v v' → Undoing entries events ss v' c left
sent_on entries events ss v v' c left u same frame =
    moves_on entries events ss v v' c left u.reflects.0 u (ap (λ (d : Content). d.changes (txn_of u.session)) same ∙ u.reflects.1) u.reflects.2 (λ t ne. ap (λ (d : Content). d.changes t) same) frame.others frame.limit_same

-- nothing, since none is left
pub all_undone : {Z : Type 0} (entries : Vec Entry Z) (events : Vec Locked Z) (ss : List Session) (v : View) (c left : ℕ) → (u : Undoing entries events ss v c left)
    → length (changes_in (v.content.changes (txn_of u.session))) ≡ 0 → v.content.changes (txn_of u.session) ≡ Some []
all_undone entries events ss v c left u none =
    let empty : length u.reflects.0 ≡ 0 = ap (λ i. length (changes_in i)) (sym u.reflects.1) ∙ none in
    u.reflects.1 ∙ ap (λ (i : List Item). Some i) (nil_from_length u.reflects.0 empty)
