-- The laws of a disk in memory.
use Rattle.std.proofs.Common.{◌≡◌, inl, inr, ⊎_elim, ℕ, ◌+◌, ◌-◌, ◌≤◌, List, [], ◌∷◌, ◌++◌, length, take, drop, replicate, refl, sym, ap, subst, ◌∙◌, arith, length-append, length-drop}
use Rattle.std.specs.Prelude.{◌==◌, if◌then◌else◌, min}
use Rattle.std.proofs.lemmas.Bool.{cases_eq, cases_lt}
use Rattle.std.proofs.lemmas.Bool.Decides.{nat_tests}
use Rattle.std.proofs.lemmas.List.{take_at, drop_at, take_all, length-replicate, length-take-le, take-append-le, take-take, append_assoc}
use Rattle.device.specs.Disk.{Image, Elapses, Torn, written_at}
use Rattle.device_mem.specs.declared.call.Call.{Call}
use Rattle.device_mem.specs.declared.call.Call.TheVariants.{WritePage, SyncPages, DropContainer, WriteLog, SyncLog, DropLog}
use Rattle.device_mem.specs.Calls.{page_of, log_of, may_hold_of, may_log_of, image_of, left_of}

-- what a write leaves is a torn write that was whole
pub written-torn : (old : List ℕ) (at : ℕ) (bytes : List ℕ) → Torn at (length bytes) old (written_at old at bytes)
written-torn old at bytes =
    let zeros : List ℕ = replicate (at - length old) 0 in
    let long : at ≤ length (old ++ replicate (at - length old) 0) = omega (arith, length-append old (replicate (at - length old) 0), length-replicate {A = ℕ} (at - length old) 0) in
    let front : length (take at (old ++ replicate (at - length old) 0)) ≡ at = length-take-le at (old ++ replicate (at - length old) 0) long in
    let rest : List ℕ = drop (at + length bytes) old in
    let whole : length (written_at old at bytes) ≡ at + (length bytes + (length old - (at + length bytes))) =
    length-append (take at (old ++ replicate (at - length old) 0)) (bytes ++ drop (at + length bytes) old)
    ∙ omega (arith, front, length-append bytes (drop (at + length bytes) old), length-drop (at + length bytes) old) in
    let behind : drop (at + length bytes) (written_at old at bytes) ≡ drop (at + length bytes) old =
    ap (drop (at + length bytes)) (sym (append_assoc (take at (old ++ replicate (at - length old) 0)) bytes (drop (at + length bytes) old)))
    ∙ drop_at (take at (old ++ replicate (at - length old) 0) ++ bytes) (drop (at + length bytes) old) (at + length bytes)
    (length-append (take at (old ++ replicate (at - length old) 0)) bytes ∙ omega (arith, front)) in
    record { before = before_part old at bytes front; after = behind; no_shorter = omega (arith, whole); no_longer = omega (arith, whole) }
  where
    before_part : (old : List ℕ) (at : ℕ) (bytes : List ℕ) → length (take at (old ++ replicate (at - length old) 0)) ≡ at → take (min at (length old)) (written_at old at bytes) ≡ take at old
    before_part old at bytes front = elim (cases_lt (length old) at) [
      | inl lt ↦
          let least : min at (length old) ≡ length old = omega arith in
          let inside : length old ≤ length (take at (old ++ replicate (at - length old) 0)) = omega (arith, front) in
          ap (λ (k : ℕ). take k (written_at old at bytes)) least
          ∙ take-append-le (length old) (take at (old ++ replicate (at - length old) 0)) (bytes ++ drop (at + length bytes) old) inside
          ∙ take-take (length old) at (old ++ replicate (at - length old) 0) (omega arith)
          ∙ take_at old (replicate (at - length old) 0) (length old) refl
          ∙ sym (take_all at old (omega arith))
      | inr le ↦
          let least : min at (length old) ≡ at = omega arith in
          ap (λ (k : ℕ). take k (written_at old at bytes)) least
          ∙ take_at (take at (old ++ replicate (at - length old) 0)) (bytes ++ drop (at + length bytes) old) at front
          ∙ take-append-le at old (replicate (at - length old) 0) le
    ]

pub reads_page_of : (cs : List Call) (c p : ℕ) → may_hold_of cs c p (page_of cs c p)
reads_page_of [] c p = refl
reads_page_of (WritePage d q b ∷ cs) c p = elim (cases_eq d c) [
  | inl e ↦ elim (cases_eq q p) [
    | inl f ↦ inr (sym e, sym f, grind (arith, nat_tests, e, f))
    | inr nf ↦ inl (subst (may_hold_of cs c p) (sym (grind (arith, nat_tests, e, nf))) (reads_page_of cs c p))
  ]
  | inr ne ↦ inl (subst (may_hold_of cs c p) (sym (grind (arith, nat_tests, ne))) (reads_page_of cs c p))
]
reads_page_of (SyncPages ∷ cs) c p = refl
reads_page_of (DropContainer d ∷ cs) c p = elim (cases_eq d c) [
  | inl e ↦ inr (sym e, grind (arith, nat_tests, e))
  | inr ne ↦ inl (subst (may_hold_of cs c p) (sym (grind (arith, nat_tests, ne))) (reads_page_of cs c p))
]
reads_page_of (WriteLog t at b ∷ cs) c p = reads_page_of cs c p
reads_page_of (SyncLog ∷ cs) c p = reads_page_of cs c p
reads_page_of (DropLog t ∷ cs) c p = reads_page_of cs c p

pub reads_log_of : (cs : List Call) (s : ℕ) → may_log_of cs s (log_of cs s)
reads_log_of [] s = refl
reads_log_of (WritePage d q b ∷ cs) s = reads_log_of cs s
reads_log_of (SyncPages ∷ cs) s = reads_log_of cs s
reads_log_of (DropContainer d ∷ cs) s = reads_log_of cs s
reads_log_of (WriteLog t at b ∷ cs) s = elim (cases_eq t s) [
  | inl e ↦
      let here : (if t == s then written_at (log_of cs s) at b.items else log_of cs s) ≡ written_at (log_of cs t) at b.items =
      grind (arith, nat_tests, e) in
      inr (sym e, (log_of cs t, (reads_log_of cs t, subst (Torn at (length b.items) (log_of cs t)) (sym here) (written-torn (log_of cs t) at b.items))))
  | inr ne ↦ inl (subst (may_log_of cs s) (sym (grind (arith, nat_tests, ne))) (reads_log_of cs s))
]
reads_log_of (SyncLog ∷ cs) s = refl
reads_log_of (DropLog t ∷ cs) s = elim (cases_eq t s) [
  | inl e ↦ inr (sym e, grind (arith, nat_tests, e))
  | inr ne ↦ inl (subst (may_log_of cs s) (sym (grind (arith, nat_tests, ne))) (reads_log_of cs s))
]

pub now_of : (cs : List Call) (t : ℕ) (i : Image) → image_of cs i → left_of cs t i
now_of [] t i h = h
now_of (c ∷ cs) t i h = inl h

pub only_of : (cs : List Call) (i : Image) → left_of cs (length cs) i → image_of cs i
only_of [] i h = h
only_of (c ∷ cs) i (inl h) = h
only_of (c ∷ cs) i (inr h) = let le = h.0 in absurd (omega (arith, le))

pub same_elapses : (cs : List Call) → Elapses (length cs) (length cs) (left_of cs) (left_of cs) (image_of cs)
same_elapses cs = record { later = omega arith; by_one = omega arith; nothing_else = λ t i le h. inl h; keeps = λ t i le h. h }

pub call_elapses : (c : Call) (cs : List Call) → Elapses (length cs) (length (c ∷ cs)) (left_of cs) (left_of (c ∷ cs)) (image_of (c ∷ cs))
call_elapses c cs = record {
  later = omega arith;
  by_one = omega arith;
  nothing_else = λ t i le h. ⊎_elim (λ now. inr now) (λ was. inl was.1) h;
  keeps = λ t i le h. inr (le, h);
}
