-- What the images of a disk in memory hold a crash may have left.
use Rattle.std.proofs.Common.{◌≡◌, ℕ, zero, suc, ◌+◌, ◌-◌, ◌≤◌, Bool, true, false, List, [], ◌∷◌, ◌++◌, length, take, drop, refl, sym, ap, subst, ◌∙◌, arith, inl, inr, reverse, Option, Some, None, length-append, length-drop}
use Rattle.std.specs.Prelude.{◌⊎◌, ◌==◌, if◌then◌else◌, Result, Ok, Err, OnOk, All, Any}
use Rattle.std.proofs.lemmas.Bool.{cases_lt}
use Rattle.std.proofs.lemmas.List.{reverse-append, length-reverse, get_or_append_left, get_or-append-add, append_assoc, append-nil, take-append-drop, drop_at}
use Rattle.std.proofs.lemmas.List.Elements.{All-append, All-nil, All-push, All-weaker}
use Rattle.device.specs.Disk.{Image, Pages, Segments, written_at}
use Rattle.device_mem.specs.declared.call.Call.{Call}
use Rattle.device_mem.specs.declared.call.Call.TheVariants.{WritePage, SyncPages, DropContainer, WriteLog, SyncLog, DropLog}
use Rattle.device_mem.specs.declared.disk.MemDisk.{MemDisk}
use Rattle.device_mem.specs.Calls.{page_of, log_of, may_hold_of, may_log_of, image_of, left_of}
use Rattle.device_mem.specs.CallLaws.{reads_page_of, reads_log_of}
use Rattle.device_mem.specs.declared.log_left.LogLeft.{LogLeft}
use Rattle.device_mem.specs.declared.log_left.LogLeft.TheVariants.{Lost, Kept, Cut}
use Rattle.device_mem.specs.Images.{is_sync, synced, surviving, calls_at, held_by, log_left, Holds, IsDurable, IsWell, IsCrashed, IsBelow, IsNamed, page_after, Adds, AddsMoment, IsLeft, AreLeft}
use Rattle.device_mem.specs.Cuts.{cuts_of}
use Rattle.device_mem.proofs.CutLemmas.{cut_left}
use Rattle.device_mem.specs.Latest.{log_after}

lost_pages : (cs : List Call) (c p : ℕ) → may_hold_of cs c p (page_of (synced true cs) c p)
lost_pages [] c p = refl
lost_pages (WritePage d q b ∷ cs) c p = inl (lost_pages cs c p)
lost_pages (SyncPages ∷ cs) c p = refl
lost_pages (DropContainer d ∷ cs) c p = inl (lost_pages cs c p)
lost_pages (WriteLog t at b ∷ cs) c p = lost_pages cs c p
lost_pages (SyncLog ∷ cs) c p = lost_pages cs c p
lost_pages (DropLog t ∷ cs) c p = lost_pages cs c p

lost_log : (cs : List Call) (s : ℕ) → may_log_of cs s (log_of (synced false cs) s)
lost_log [] s = refl
lost_log (WritePage d q b ∷ cs) s = lost_log cs s
lost_log (SyncPages ∷ cs) s = lost_log cs s
lost_log (DropContainer d ∷ cs) s = lost_log cs s
lost_log (WriteLog t at b ∷ cs) s = inl (lost_log cs s)
lost_log (SyncLog ∷ cs) s = refl
lost_log (DropLog t ∷ cs) s = inl (lost_log cs s)

left_pages : (is_kept : Bool) (cs : List Call) (c p : ℕ) → may_hold_of cs c p (page_of (surviving true is_kept cs) c p)
left_pages true cs c p = reads_page_of cs c p
left_pages false cs c p = lost_pages cs c p

left_log : (left : LogLeft) (cs : List Call) (s : ℕ) → may_log_of cs s (log_left left cs s)
left_log Lost cs s = lost_log cs s
left_log Kept cs s = reads_log_of cs s
left_log (Cut n) cs s = cut_left n cs s

-- what holds the calls that survive is an image
is_image : (keeps_pages : Bool) (left : LogLeft) (cs disk : List Call) → Holds keeps_pages left cs disk → image_of cs (held_by disk)
is_image keeps_pages left cs disk h = (
  λ c p. subst (may_hold_of cs c p) (sym (h.pages_are c p)) (left_pages keeps_pages cs c p),
  λ s. subst (may_log_of cs s) (sym (h.log_is s)) (left_log left cs s),
)

drop_none : (k : ℕ) → drop {A = Call} k [] ≡ []
drop_none zero = refl
drop_none (suc k) = refl

-- an image of a moment is one since an earlier moment
image_since : (cs : List Call) (t m : ℕ) (i : Image) → t ≤ m → m ≤ length cs → image_of (calls_at m cs) i → left_of cs t i
image_since [] t m i early late h = subst (λ (l : List Call). image_of l i) (drop_none (0 - m)) h
image_since (c ∷ cs) t m i early late h = elim (cases_lt (length cs) m) [
  | inl lt ↦
      let none : length (c ∷ cs) - m ≡ 0 = omega (arith, lt) in
      inl (subst (λ (l : List Call). image_of l i) (ap (λ (k : ℕ). drop k (c ∷ cs)) none) h)
  | inr le ↦
      let some : length (c ∷ cs) - m ≡ suc (length cs - m) = omega (arith, le) in
      inr (omega (arith, early, le), image_since cs t m i early le (subst (λ (l : List Call). image_of l i) (ap (λ (k : ℕ). drop k (c ∷ cs)) some) h))
]

-- the calls up to a moment, from the oldest on
pub first-calls : (made : List Call) (m : ℕ) → m ≤ length made → reverse (take m made) ≡ calls_at m (reverse made)
first-calls made m within =
    let len : length (reverse (drop m made)) ≡ length (reverse made) - m = length-reverse (drop m made) ∙ omega (arith, length-drop m made, length-reverse made) in
    sym (ap (drop (length (reverse made) - m)) (ap reverse (sym (take-append-drop m made)) ∙ reverse-append (take m made) (drop m made))
    ∙ drop_at (reverse (drop m made)) (reverse (take m made)) (length (reverse made) - m) len)

newest_first : (before : List Call) (call : Call) → reverse (before ++ call ∷ []) ≡ call ∷ reverse before
newest_first before call = reverse-append before (call ∷ [])

pages_more : (call : Call) (before : List Call) (old : Pages) → ((c p : ℕ) → old c p ≡ page_of (reverse before) c p) → (c p : ℕ) → page_after call old c p ≡ page_of (call ∷ reverse before) c p
pages_more (WritePage d q b) before old h c p = ap (λ (x : Option (List ℕ)). if d == c then (if q == p then Some b.bytes.items else x) else x) (h c p)
pages_more SyncPages before old h c p = h c p
pages_more (DropContainer d) before old h c p = ap (λ (x : Option (List ℕ)). if d == c then None else x) (h c p)
pages_more (WriteLog t at b) before old h c p = h c p
pages_more SyncLog before old h c p = h c p
pages_more (DropLog t) before old h c p = h c p

log_more : (call : Call) (before : List Call) (old : Segments) → ((s : ℕ) → old s ≡ log_of (reverse before) s) → (s : ℕ) → log_after call old s ≡ log_of (call ∷ reverse before) s
log_more (WritePage d q b) before old h s = h s
log_more SyncPages before old h s = h s
log_more (DropContainer d) before old h s = h s
log_more (WriteLog t at b) before old h s = ap (λ (x : List ℕ). if t == s then written_at x at b.items else x) (h s)
log_more SyncLog before old h s = h s
log_more (DropLog t) before old h s = ap (λ (x : List ℕ). if t == s then [] else x) (h s)

-- one turn of a loop over calls that are repeated
pub pages-turn : (call : Call) (before after : List Call) (old new : Pages) → after ≡ before ++ call ∷ [] → ((c p : ℕ) → old c p ≡ page_of (reverse before) c p)
    → ((c p : ℕ) → new c p ≡ page_after call old c p) → (c p : ℕ) → new c p ≡ page_of (reverse after) c p
pages-turn call before after old new more was now c p =
    now c p ∙ pages_more call before old was c p ∙ ap (λ (l : List Call). page_of l c p) (sym (ap reverse more ∙ newest_first before call))

pub log-turn : (call : Call) (before after : List Call) (old new : Segments) → after ≡ before ++ call ∷ [] → ((s : ℕ) → old s ≡ log_of (reverse before) s)
    → ((s : ℕ) → new s ≡ log_after call old s) → (s : ℕ) → new s ≡ log_of (reverse after) s
log-turn call before after old new more was now s =
    now s ∙ log_more call before old was s ∙ ap (λ (l : List Call). log_of l s) (sym (ap reverse more ∙ newest_first before call))

-- one turn of the loop that counts what was synced
pub synced-turn : (of_pages : Bool) (call : Call) (calls after : List Call) (i count new : ℕ) → after ≡ take i calls ++ call ∷ [] → reverse (take count calls) ≡ synced of_pages (reverse (take i calls))
    → new ≡ (if is_sync of_pages call then i else count) → reverse (take new calls) ≡ synced of_pages (reverse after)
synced-turn of_pages call calls after i count new more was now =
    ap (λ (k : ℕ). reverse (take k calls)) now ∙ choose (is_sync of_pages call)
    ∙ sym (ap (synced of_pages) (ap reverse more ∙ newest_first (take i calls) call))
  where
    choose : (b : Bool) → reverse (take (if b then i else count) calls) ≡ (if b then reverse (take i calls) else synced of_pages (reverse (take i calls)))
    choose true = refl
    choose false = was

any_first : {X : Type 0} (P : X → Type 0) (xs ys : List X) → Any P xs → Any P (xs ++ ys)
any_first P xs ys (k, x, lt, is, p) = (k, x, omega (arith, lt, length-append xs ys), get_or_append_left xs ys x k lt ∙ is, p)

any_last : {X : Type 0} (P : X → Type 0) (xs ys : List X) → Any P ys → Any P (xs ++ ys)
any_last P xs ys (k, x, lt, is, p) = (length xs + k, x, omega (arith, lt, length-append xs ys), get_or-append-add xs ys k x ∙ is, p)

any_only : {X : Type 0} (P : X → Type 0) (y : X) → P y → Any P (y ∷ [])
any_only P y p = (0, y, omega arith, refl, p)

all_only : {X : Type 0} (P : X → Type 0) (y : X) → P y → All P (y ∷ [])
all_only P y p = All-push P [] y (All-nil P) p

-- one image
pub adds_one : (keeps_pages : Bool) (left : LogLeft) (calls : List Call) (old new : List MemDisk) (d : MemDisk) → new ≡ old ++ d ∷ [] → Holds keeps_pages left calls d.calls → IsDurable d.calls → IsWell d
    → Adds keeps_pages calls (λ l. l ≡ left) old new
adds_one keeps_pages left calls old new d more holds durable well = record {
  added = d ∷ [];
  more = more;
  each = all_only (IsCrashed calls) d (record { possible = is_image keeps_pages left calls d.calls holds; durable = durable; well = well });
  named = λ l e. any_only (λ (x : MemDisk). Holds keeps_pages l calls x.calls) d (subst (λ (k : LogLeft). Holds keeps_pages k calls d.calls) (sym e) holds);
}

-- some, and then others
adds_both : (keeps_pages : Bool) (calls : List Call) (N M P : LogLeft → Type 0) (old mid new : List MemDisk) → Adds keeps_pages calls N old mid → Adds keeps_pages calls M mid new → ((l : LogLeft) → P l → N l ⊎ M l) → Adds keeps_pages calls P old new
adds_both keeps_pages calls N M P old mid new a b split = record {
  added = a.added ++ b.added;
  more = b.more ∙ ap (λ (l : List MemDisk). l ++ b.added) a.more ∙ append_assoc old a.added b.added;
  each = All-append (IsCrashed calls) a.added b.added a.each b.each;
  named = λ l p. choose l (split l p);
}
  where
    choose : (l : LogLeft) → N l ⊎ M l → Any (λ (d : MemDisk). Holds keeps_pages l calls d.calls) (a.added ++ b.added)
    choose l (inl n) = any_first (λ (d : MemDisk). Holds keeps_pages l calls d.calls) a.added b.added (a.named l n)
    choose l (inr m) = any_last (λ (d : MemDisk). Holds keeps_pages l calls d.calls) a.added b.added (b.named l m)

-- no cut yet
pub no_cuts : (keeps_pages : Bool) (calls : List Call) (old : List MemDisk) → Adds keeps_pages calls (IsBelow 0) old old
no_cuts keeps_pages calls old = record { added = []; more = sym (append-nil old); each = All-nil (IsCrashed calls); named = none }
  where
    none : (l : LogLeft) → IsBelow 0 l → Any (λ (d : MemDisk). Holds keeps_pages l calls d.calls) []
    none Lost h = absurd h
    none Kept h = absurd h
    none (Cut n) h = absurd (omega (arith, h))

-- one turn of the loop over cuts
pub cut-image : (keeps_pages : Bool) (calls : List Call) (n : ℕ) (old mid new : List MemDisk) → Adds keeps_pages calls (IsBelow n) old mid → Adds keeps_pages calls (λ l. l ≡ Cut n) mid new → Adds keeps_pages calls (IsBelow (n + 1)) old new
cut-image keeps_pages calls n old mid new a b = adds_both keeps_pages calls (IsBelow n) (λ l. l ≡ Cut n) (IsBelow (n + 1)) old mid new a b split
  where
    split : (l : LogLeft) → IsBelow (n + 1) l → IsBelow n l ⊎ (l ≡ Cut n)
    split Lost h = absurd h
    split Kept h = absurd h
    split (Cut k) h = elim (cases_lt k n) [
      | inl lt ↦ inl lt
      | inr le ↦ let same : k ≡ n = omega (arith, h, le) in inr (ap Cut same)
    ]

-- all that is named, with the pages kept or lost
all_kinds : (keeps_pages : Bool) (calls : List Call) (old one two new : List MemDisk) → Adds keeps_pages calls (λ l. l ≡ Lost) old one → Adds keeps_pages calls (IsBelow (cuts_of calls)) one two → Adds keeps_pages calls (λ l. l ≡ Kept) two new
    → Adds keeps_pages calls (IsNamed calls) old new
all_kinds keeps_pages calls old one two new a b c =
    adds_both keeps_pages calls (λ l. (l ≡ Lost) ⊎ IsBelow (cuts_of calls) l) (λ l. l ≡ Kept) (IsNamed calls) old two new (adds_both keeps_pages calls (λ l. l ≡ Lost) (IsBelow (cuts_of calls)) (λ l. (l ≡ Lost) ⊎ IsBelow (cuts_of calls) l) old one two a b (λ l h. h)) c split
  where
    split : (l : LogLeft) → IsNamed calls l → ((l ≡ Lost) ⊎ IsBelow (cuts_of calls) l) ⊎ (l ≡ Kept)
    split Lost h = inl (inl refl)
    split Kept h = inr refl
    split (Cut n) h = inl (inr h)

pub kinds_ok : {T E : Type 0} (r : Result T E) (keeps_pages : Bool) (calls : List Call) (old one two new : List MemDisk) → Adds keeps_pages calls (λ l. l ≡ Lost) old one → Adds keeps_pages calls (IsBelow (cuts_of calls)) one two
    → OnOk r (Adds keeps_pages calls (λ l. l ≡ Kept) two new) → OnOk r (Adds keeps_pages calls (IsNamed calls) old new)
kinds_ok (Ok x) keeps_pages calls old one two new a b c = all_kinds keeps_pages calls old one two new a b c
kinds_ok (Err e) keeps_pages calls old one two new a b c = tt

all_more : (calls : List Call) (since m : ℕ) (k : Bool) (N : LogLeft → Type 0) (old new : List MemDisk) → since ≤ m → m ≤ length calls → Adds k (calls_at m calls) N old new → All (IsLeft calls since) old → All (IsLeft calls since) new
all_more calls since m k N old new early late a h =
    subst (All (IsLeft calls since)) (sym a.more)
    (All-append (IsLeft calls since) old a.added h
    (All-weaker (IsCrashed (calls_at m calls)) (IsLeft calls since) (λ d c. record { possible = image_since calls since m (held_by d.calls) early late c.possible; durable = c.durable; well = c.well }) a.added a.each))

any_more : (P : MemDisk → Type 0) (k : Bool) (cs : List Call) (N : LogLeft → Type 0) (old new : List MemDisk) → Adds k cs N old new → Any P old → Any P new
any_more P k cs N old new a h = subst (Any P) (sym a.more) (any_first P old a.added h)

any_new : (k : Bool) (cs : List Call) (N : LogLeft → Type 0) (old new : List MemDisk) (l : LogLeft) → Adds k cs N old new → N l → Any (λ (d : MemDisk). Holds k l cs d.calls) new
any_new k cs N old new l a n = subst (Any (λ (d : MemDisk). Holds k l cs d.calls)) (sym a.more) (any_last (λ (d : MemDisk). Holds k l cs d.calls) old a.added (a.named l n))

of_moment : (k : Bool) (l : LogLeft) (cs : List Call) (old new : List MemDisk) → AddsMoment cs old new → IsNamed cs l → Any (λ (d : MemDisk). Holds k l cs d.calls) new
of_moment true l cs old new f n = any_new true cs (IsNamed cs) f.half new l f.kept n
of_moment false l cs old new f n =
    let P : MemDisk → Type 0 = λ d. Holds false l cs d.calls in
    any_more P true cs (IsNamed cs) f.half new f.kept (any_new false cs (IsNamed cs) old f.half l f.lost n)

-- one turn of the loop over moments
pub moment-turn : (calls : List Call) (since m : ℕ) (old new : List MemDisk) → since ≤ m → m ≤ length calls → AddsMoment (calls_at m calls) old new → AreLeft calls since m old → AreLeft calls since (m + 1) new
moment-turn calls since m old new early late f h = record {
  each = all_more calls since m true (IsNamed (calls_at m calls)) f.half new early late f.kept (all_more calls since m false (IsNamed (calls_at m calls)) old f.half early late f.lost h.each);
  named = λ n from before k l is. elim (cases_lt n m) [
    | inl lt ↦
        let P : MemDisk → Type 0 = λ d. Holds k l (calls_at n calls) d.calls in
        any_more P true (calls_at m calls) (IsNamed (calls_at m calls)) f.half new f.kept (any_more P false (calls_at m calls) (IsNamed (calls_at m calls)) old f.half f.lost (h.named n from lt k l is))
    | inr le ↦
        let same : n ≡ m = omega (arith, before, le) in
        subst (λ (x : ℕ). Any (λ (d : MemDisk). Holds k l (calls_at x calls) d.calls) new) (sym same) (of_moment k l (calls_at m calls) old new f (subst (λ (x : ℕ). IsNamed (calls_at x calls) l) same is))
  ];
}
