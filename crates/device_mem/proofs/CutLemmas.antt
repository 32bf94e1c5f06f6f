-- A log whose last write a crash cut short.
use Rattle.std.proofs.Common.{◌≡◌, ℕ, ◌+◌, ◌-◌, ◌≤◌, ◌<◌, Bool, true, false, List, [], ◌∷◌, ◌++◌, length, take, drop, refl, sym, ap, subst, ◌∙◌, arith, inl, inr, reverse, Option, Some, None}
use Rattle.std.specs.Prelude.{◌==◌, if◌then◌else◌, Result, Ok, Err, OnOk}
use Rattle.std.proofs.lemmas.Bool.{cases_eq}
use Rattle.std.proofs.lemmas.Bool.Decides.{nat_tests}
use Rattle.std.proofs.lemmas.List.{reverse-append, length-reverse, drop-drop, length-take}
use Rattle.device.specs.Disk.{Segments, Torn, written_at}
use Rattle.device_mem.specs.declared.call.Call.{Call}
use Rattle.device_mem.specs.declared.call.Call.TheVariants.{WritePage, SyncPages, DropContainer, WriteLog, SyncLog, DropLog}
use Rattle.device_mem.specs.Calls.{log_of, may_log_of}
use Rattle.device_mem.specs.CallLaws.{reads_log_of, written-torn}
use Rattle.device_mem.specs.Cuts.{cuts_of, cuts_after, log_cut, last_after, last_write, part_after, log_cut_at}
use Rattle.device_mem.specs.Latest.{log_after}

-- a torn write of fewer bytes is one of more
torn_wider : (at m n : ℕ) (old new : List ℕ) → m ≤ n → Torn at m old new → Torn at n old new
torn_wider at m n old new le h =
    let far : (n - m) + (at + m) ≡ at + n = omega (arith, le) in
    let near : (x : List ℕ) → drop (at + n) x ≡ drop (n - m) (drop (at + m) x) = λ x. by_parts x in
    record {
      before = h.before;
      after = near new ∙ ap (drop (n - m)) h.after ∙ sym (near old);
      no_shorter = h.no_shorter;
      no_longer = omega (arith, h.no_longer, le);
    }
  where
    by_parts : (x : List ℕ) → drop (at + n) x ≡ drop (n - m) (drop (at + m) x)
    by_parts x = let far : at + n ≡ (at + m) + (n - m) = omega (arith, le) in ap (λ (k : ℕ). drop k x) far ∙ sym (drop-drop (n - m) (at + m) x)

-- a log with its last write cut is one that a crash may leave
pub cut_left : (n : ℕ) (cs : List Call) (s : ℕ) → may_log_of cs s (log_cut n cs s)
cut_left n [] s = refl
cut_left n (WritePage d q b ∷ cs) s = cut_left n cs s
cut_left n (SyncPages ∷ cs) s = cut_left n cs s
cut_left n (DropContainer d ∷ cs) s = cut_left n cs s
cut_left n (WriteLog t at b ∷ cs) s = elim (cases_eq t s) [
  | inl e ↦
      let here : (if t == s then written_at (log_of cs s) at (take n b.items) else log_of cs s) ≡ written_at (log_of cs t) at (take n b.items) =
      grind (arith, nat_tests, e) in
      let part : length (take n b.items) ≤ length b.items = omega (arith, length-take n b.items) in
      let torn : Torn at (length b.items) (log_of cs t) (written_at (log_of cs t) at (take n b.items)) =
      torn_wider at (length (take n b.items)) (length b.items) (log_of cs t) (written_at (log_of cs t) at (take n b.items)) part (written-torn (log_of cs t) at (take n b.items)) in
      inr (sym e, (log_of cs t, (reads_log_of cs t, subst (Torn at (length b.items) (log_of cs t)) (sym here) torn)))
  | inr ne ↦ inl (subst (may_log_of cs s) (sym (grind (arith, nat_tests, ne))) (reads_log_of cs s))
]
cut_left n (SyncLog ∷ cs) s = refl
cut_left n (DropLog t ∷ cs) s = elim (cases_eq t s) [
  | inl e ↦ inr (sym e, grind (arith, nat_tests, e))
  | inr ne ↦ inl (subst (may_log_of cs s) (sym (grind (arith, nat_tests, ne))) (cut_left n cs s))
]

newest_first : (before : List Call) (call : Call) → reverse (before ++ call ∷ []) ≡ call ∷ reverse before
newest_first before call = reverse-append before (call ∷ [])

-- one turn of the loop that counts the bytes
pub cuts-turn : (call : Call) (before after : List Call) (old new : ℕ) → after ≡ before ++ call ∷ [] → old ≡ cuts_of (reverse before) → new ≡ cuts_after call old → new ≡ cuts_of (reverse after)
cuts-turn call before after old new more was now = now ∙ ap (cuts_after call) was ∙ count call ∙ sym (ap cuts_of (ap reverse more ∙ newest_first before call))
  where
    count : (c : Call) → cuts_after c (cuts_of (reverse before)) ≡ cuts_of (c ∷ reverse before)
    count (WritePage d q b) = refl
    count SyncPages = refl
    count (DropContainer d) = refl
    count (WriteLog t at b) = refl
    count SyncLog = refl
    count (DropLog t) = refl

-- and of the one that looks for the write
pub last-turn : (call : Call) (before after : List Call) (i : ℕ) (old new : Option ℕ) → after ≡ before ++ call ∷ [] → i ≡ length before → old ≡ last_write (reverse before) → new ≡ last_after call i old
    → new ≡ last_write (reverse after)
last-turn call before after i old new more ei was now =
    now ∙ ap (last_after call i) was ∙ ap (λ (k : ℕ). last_after call k (last_write (reverse before))) (ei ∙ sym (length-reverse before))
    ∙ sym (ap last_write (ap reverse more ∙ newest_first before call))

part_same : (is_cut : Bool) (n : ℕ) (call : Call) (old new : Segments) → ((s : ℕ) → old s ≡ new s) → (s : ℕ) → part_after is_cut n call old s ≡ part_after is_cut n call new s
part_same true n (WritePage d q b) old new h s = h s
part_same true n SyncPages old new h s = h s
part_same true n (DropContainer d) old new h s = h s
part_same true n (WriteLog t at b) old new h s = ap (λ (x : List ℕ). if t == s then written_at x at (take n b.items) else x) (h s)
part_same true n SyncLog old new h s = h s
part_same true n (DropLog t) old new h s = ap (λ (x : List ℕ). if t == s then [] else x) (h s)
part_same false n (WritePage d q b) old new h s = h s
part_same false n SyncPages old new h s = h s
part_same false n (DropContainer d) old new h s = h s
part_same false n (WriteLog t at b) old new h s = ap (λ (x : List ℕ). if t == s then written_at x at b.items else x) (h s)
part_same false n SyncLog old new h s = h s
part_same false n (DropLog t) old new h s = ap (λ (x : List ℕ). if t == s then [] else x) (h s)

-- and of the one that repeats the log
pub part-turn : (at n i : ℕ) (call : Call) (before after : List Call) (old new : Segments) → after ≡ before ++ call ∷ [] → i ≡ length before → ((s : ℕ) → old s ≡ log_cut_at at n (reverse before) s)
    → ((s : ℕ) → new s ≡ part_after (i == at) n call old s) → (s : ℕ) → new s ≡ log_cut_at at n (reverse after) s
part-turn at n i call before after old new more ei was now s =
    now s ∙ part_same (i == at) n call old (log_cut_at at n (reverse before)) was s
    ∙ ap (λ (k : ℕ). part_after (k == at) n call (log_cut_at at n (reverse before)) s) (ei ∙ sym (length-reverse before))
    ∙ sym (ap (λ (l : List Call). log_cut_at at n l s) (ap reverse more ∙ newest_first before call))

-- where the write to be cut is none of the calls
no_cut : (at n : ℕ) (cs : List Call) → length cs ≤ at → (s : ℕ) → log_cut_at at n cs s ≡ log_of cs s
no_cut at n [] le s = refl
no_cut at n (call ∷ cs) le s =
    let other : (length cs == at) ≡ false = grind (arith, nat_tests, le) in
    ap (λ (b : Bool). part_after b n call (log_cut_at at n cs) s) other ∙ part_same false n call (log_cut_at at n cs) (log_of cs) (no_cut at n cs (omega (arith, le))) s ∙ whole call
  where
    whole : (c : Call) → log_after c (log_of cs) s ≡ log_of (c ∷ cs) s
    whole (WritePage d q b) = refl
    whole SyncPages = refl
    whole (DropContainer d) = refl
    whole (WriteLog t a b) = refl
    whole SyncLog = refl
    whole (DropLog t) = refl

-- the write is one of the calls
within : (cs : List Call) (at : ℕ) → last_write cs ≡ Some at → at < length cs
within [] at e = absurd (grind (arith, e))
within (WritePage d q b ∷ cs) at e = omega (arith, within cs at e)
within (SyncPages ∷ cs) at e = omega (arith, within cs at e)
within (DropContainer d ∷ cs) at e = omega (arith, within cs at e)
within (WriteLog t a b ∷ cs) at e = let same : length cs ≡ at = grind (arith, e) in omega (arith, same)
within (SyncLog ∷ cs) at e = absurd (grind (arith, e))
within (DropLog t ∷ cs) at e = omega (arith, within cs at e)

-- the log whose write at this place is cut is the one whose last write is
cut-at : (n : ℕ) (cs : List Call) (at : ℕ) → last_write cs ≡ Some at → (s : ℕ) → log_cut_at at n cs s ≡ log_cut n cs s
cut-at n [] at e s = refl
cut-at n (WritePage d q b ∷ cs) at e s =
    let other : (length cs == at) ≡ false = grind (arith, nat_tests, within cs at e) in
    ap (λ (x : Bool). part_after x n (WritePage d q b) (log_cut_at at n cs) s) other ∙ cut-at n cs at e s
cut-at n (SyncPages ∷ cs) at e s =
    let other : (length cs == at) ≡ false = grind (arith, nat_tests, within cs at e) in
    ap (λ (x : Bool). part_after x n SyncPages (log_cut_at at n cs) s) other ∙ cut-at n cs at e s
cut-at n (DropContainer d ∷ cs) at e s =
    let other : (length cs == at) ≡ false = grind (arith, nat_tests, within cs at e) in
    ap (λ (x : Bool). part_after x n (DropContainer d) (log_cut_at at n cs) s) other ∙ cut-at n cs at e s
cut-at n (WriteLog t a b ∷ cs) at e s =
    let same : length cs ≡ at = grind (arith, e) in
    let here : (length cs == at) ≡ true = grind (arith, nat_tests, same) in
    ap (λ (x : Bool). part_after x n (WriteLog t a b) (log_cut_at at n cs) s) here
    ∙ part_same true n (WriteLog t a b) (log_cut_at at n cs) (log_of cs) (no_cut at n cs (omega (arith, same))) s
cut-at n (SyncLog ∷ cs) at e s = absurd (grind (arith, e))
cut-at n (DropLog t ∷ cs) at e s =
    let other : (length cs == at) ≡ false = grind (arith, nat_tests, within cs at e) in
    ap (λ (x : Bool). part_after x n (DropLog t) (log_cut_at at n cs) s) other ∙ ap (λ (x : List ℕ). if t == s then [] else x) (cut-at n cs at e s)

-- where no write is in doubt, none is cut
cut-none : (n : ℕ) (cs : List Call) → last_write cs ≡ None → (s : ℕ) → log_of cs s ≡ log_cut n cs s
cut-none n [] e s = refl
cut-none n (WritePage d q b ∷ cs) e s = cut-none n cs e s
cut-none n (SyncPages ∷ cs) e s = cut-none n cs e s
cut-none n (DropContainer d ∷ cs) e s = cut-none n cs e s
cut-none n (WriteLog t at b ∷ cs) e s = absurd (grind (arith, e))
cut-none n (SyncLog ∷ cs) e s = refl
cut-none n (DropLog t ∷ cs) e s = ap (λ (x : List ℕ). if t == s then [] else x) (cut-none n cs e s)

-- the same of a call that may have failed
pub ok-cut : {T E : Type 0} (r : Result T E) (n : ℕ) (cs : List Call) (at : ℕ) (new : Segments) (P : Type 0) → last_write cs ≡ Some at → OnOk r (P → (s : ℕ) → new s ≡ log_cut_at at n cs s) → OnOk r (P → (s : ℕ) → new s ≡ log_cut n cs s)
ok-cut (Ok x) n cs at new P e h = λ p s. h p s ∙ cut-at n cs at e s
ok-cut (Err x) n cs at new P e h = tt

pub ok-none : {T E : Type 0} (r : Result T E) (n : ℕ) (cs : List Call) (new : Segments) (P : Type 0) → last_write cs ≡ None → OnOk r (P → (s : ℕ) → new s ≡ log_of cs s) → OnOk r (P → (s : ℕ) → new s ≡ log_cut n cs s)
ok-none (Ok x) n cs new P e h = λ p s. h p s ∙ cut-none n cs e s
ok-none (Err x) n cs new P e h = tt
