-- The call that a look-up names is the one that wrote the page last.
use Rattle.std.proofs.Common.{◌≡◌, ℕ, ◌<◌, List, [], ◌∷◌, ◌++◌, length, refl, sym, ap, subst, ◌∙◌, arith, inl, inr, reverse, Option, Some, None}
use Rattle.std.specs.Prelude.{slice_get}
use Rattle.std.proofs.lemmas.Bool.{cases_eq}
use Rattle.std.proofs.lemmas.Bool.Decides.{nat_tests}
use Rattle.std.proofs.lemmas.List.{reverse-append, reverse-reverse, length-reverse, get_or_append_left, length-append}
use Rattle.std.proofs.lemmas.Option.{slice_get-get_or}
use Rattle.std.proofs.Math.Seq.{get_or-append_seam}
use Rattle.device_mem.specs.declared.call.Call.{Call}
use Rattle.device_mem.specs.declared.call.Call.TheVariants.{WritePage, SyncPages, DropContainer, WriteLog, SyncLog, DropLog}
use Rattle.device_mem.specs.declared.page_bytes.PageBytes.{PageBytes}
use Rattle.device_mem.specs.Calls.{page_of}
use Rattle.device_mem.specs.Latest.{latest_of, page_in, page_at}

-- a number names a call that is there and wrote this page; no number, no page
abbrev Names : List Call → Option ℕ → Option (List ℕ) → Type 0
Names cs None x = None ≡ x
Names cs (Some n) x = (n < length cs) × (page_in (slice_get (reverse cs) n) ≡ x)

newest_is_last : (w : Call) (cs : List Call) → reverse (w ∷ cs) ≡ reverse cs ++ w ∷ []
newest_is_last w cs = reverse-append (w ∷ []) cs

more : (w : Call) (cs : List Call) (o : Option ℕ) (x : Option (List ℕ)) → Names cs o x → Names (w ∷ cs) o x
more w cs None x h = h
more w cs (Some n) x h =
    let below : n < length cs = h.0 in
    let inside : n < length (reverse cs) = omega (arith, below, length-reverse cs) in
    let within : n < length (reverse cs ++ w ∷ []) = omega (arith, inside, length-append (reverse cs) (w ∷ [])) in
    let same : slice_get (reverse (w ∷ cs)) n ≡ slice_get (reverse cs) n =
    ap (λ (l : List Call). slice_get l n) (newest_is_last w cs)
    ∙ slice_get-get_or (reverse cs ++ w ∷ []) n w within
    ∙ ap Some (get_or_append_left (reverse cs) (w ∷ []) w n inside)
    ∙ sym (slice_get-get_or (reverse cs) n w inside) in
    (omega (arith, below), ap page_in same ∙ h.1)

newest : (w : Call) (cs : List Call) → slice_get (reverse (w ∷ cs)) (length cs) ≡ Some w
newest w cs =
    let within : length (reverse cs) < length (reverse cs ++ w ∷ []) = omega (arith, length-append (reverse cs) (w ∷ [])) in
    ap (slice_get (reverse (w ∷ cs))) (sym (length-reverse cs))
    ∙ ap (λ (l : List Call). slice_get l (length (reverse cs))) (newest_is_last w cs)
    ∙ slice_get-get_or (reverse cs ++ w ∷ []) (length (reverse cs)) w within
    ∙ ap Some (get_or-append_seam (reverse cs) w [] w)

named : (cs : List Call) (c p : ℕ) → Names cs (latest_of cs c p) (page_of cs c p)
named [] c p = refl
named (WritePage d q b ∷ cs) c p = elim (cases_eq d c) [
  | inl e ↦ elim (cases_eq q p) [
    | inl f ↦
        let number : latest_of (WritePage d q b ∷ cs) c p ≡ Some (length cs) = grind (arith, nat_tests, e, f) in
        let page : page_of (WritePage d q b ∷ cs) c p ≡ Some b.bytes.items = grind (arith, nat_tests, e, f) in
        let here : Names (WritePage d q b ∷ cs) (Some (length cs)) (Some b.bytes.items) = (omega arith, ap page_in (newest (WritePage d q b) cs)) in
        subst (λ (o : Option ℕ). Names (WritePage d q b ∷ cs) o (page_of (WritePage d q b ∷ cs) c p)) (sym number)
        (subst (Names (WritePage d q b ∷ cs) (Some (length cs))) (sym page) here)
    | inr nf ↦ passed d q b cs c p (grind (arith, nat_tests, e, nf)) (grind (arith, nat_tests, e, nf)) (named cs c p)
  ]
  | inr ne ↦ passed d q b cs c p (grind (arith, nat_tests, ne)) (grind (arith, nat_tests, ne)) (named cs c p)
]
  where
    passed : (d q : ℕ) (b : PageBytes) (cs : List Call) (c p : ℕ) → latest_of (WritePage d q b ∷ cs) c p ≡ latest_of cs c p → page_of (WritePage d q b ∷ cs) c p ≡ page_of cs c p
        → Names cs (latest_of cs c p) (page_of cs c p) → Names (WritePage d q b ∷ cs) (latest_of (WritePage d q b ∷ cs) c p) (page_of (WritePage d q b ∷ cs) c p)
    passed d q b cs c p number page was =
        subst (λ (o : Option ℕ). Names (WritePage d q b ∷ cs) o (page_of (WritePage d q b ∷ cs) c p)) (sym number)
        (subst (Names (WritePage d q b ∷ cs) (latest_of cs c p)) (sym page) (more (WritePage d q b) cs (latest_of cs c p) (page_of cs c p) was))
named (SyncPages ∷ cs) c p = more SyncPages cs (latest_of cs c p) (page_of cs c p) (named cs c p)
named (DropContainer d ∷ cs) c p = elim (cases_eq d c) [
  | inl e ↦
      let number : latest_of (DropContainer d ∷ cs) c p ≡ None = grind (arith, nat_tests, e) in
      let page : page_of (DropContainer d ∷ cs) c p ≡ None = grind (arith, nat_tests, e) in
      subst (λ (o : Option ℕ). Names (DropContainer d ∷ cs) o (page_of (DropContainer d ∷ cs) c p)) (sym number) (sym page)
  | inr ne ↦
      let number : latest_of (DropContainer d ∷ cs) c p ≡ latest_of cs c p = grind (arith, nat_tests, ne) in
      let page : page_of (DropContainer d ∷ cs) c p ≡ page_of cs c p = grind (arith, nat_tests, ne) in
      subst (λ (o : Option ℕ). Names (DropContainer d ∷ cs) o (page_of (DropContainer d ∷ cs) c p)) (sym number)
      (subst (Names (DropContainer d ∷ cs) (latest_of cs c p)) (sym page) (more (DropContainer d) cs (latest_of cs c p) (page_of cs c p) (named cs c p)))
]
named (WriteLog t at b ∷ cs) c p = more (WriteLog t at b) cs (latest_of cs c p) (page_of cs c p) (named cs c p)
named (SyncLog ∷ cs) c p = more SyncLog cs (latest_of cs c p) (page_of cs c p) (named cs c p)
named (DropLog t ∷ cs) c p = more (DropLog t) cs (latest_of cs c p) (page_of cs c p) (named cs c p)

read : (cs : List Call) (o : Option ℕ) (x : Option (List ℕ)) → Names cs o x → page_at (reverse cs) o ≡ x
read cs None x h = h
read cs (Some n) x h = h.1

-- the look-up finds the page
pub latest-page : (made : List Call) (c p : ℕ) → page_at made (latest_of (reverse made) c p) ≡ page_of (reverse made) c p
latest-page made c p =
    ap (λ (l : List Call). page_at l (latest_of (reverse made) c p)) (sym (reverse-reverse made))
    ∙ read (reverse made) (latest_of (reverse made) c p) (page_of (reverse made) c p) (named (reverse made) c p)
