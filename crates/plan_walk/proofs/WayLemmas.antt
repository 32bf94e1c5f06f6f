-- No connection spends its steps on nothing: of those on the way each leads nearer, or goes on with a look whose turns the store bounds.
use Rattle.std.proofs.Common.{◌≡◌, ◌≢◌, ℕ, zero, suc, ◌+◌, ◌*◌, ◌<◌, ◌≤◌, List, [], ◌∷◌, length, set, get_or, Bool, true, false, refl, sym, ◌∙◌, ap, subst, arith, inl, inr, Option, Some, None}
use Rattle.std.specs.Prelude.{◌⊎◌, ◌==◌, if◌then◌else◌}
use Rattle.store_api.specs.View.{View, Holding}
use Rattle.journal_model.specs.World.{at_number}
use Rattle.journal_model.proofs.BaseLemmas.{at_same, at_other}
use Rattle.journal_model.specs.declared.journal.Entry.{Entry}
use Rattle.session_engine.specs.Pacing.{Acts, ComesOn, IsDone, Leads, Paces, claims, is_way, next_at, rank, waits}
use Rattle.session_engine.specs.Stepped.{Grows, HasEnded}
use Rattle.session_engine.specs.declared.next.Build.{Build}
use Rattle.session_engine.specs.declared.next.Build.TheVariants as build
use Rattle.session_engine.specs.declared.next.Close.TheVariants as close
use Rattle.session_engine.specs.declared.next.Next.{Next}
use Rattle.session_engine.specs.declared.next.Next.TheVariants as next
use Rattle.session_engine.specs.declared.next.Work.TheVariants as work
use Rattle.session_engine.specs.declared.step.Stop.{Stop}
use Rattle.session_engine.specs.declared.step.Step.{Step}
use Rattle.session_engine.specs.declared.step.Step.TheVariants.{Ended, Stopped}
use Rattle.plan_walk.specs.Walk.{AreFew, IsStep, Leaves, Seen, most, seen, ways_after}

-- the turns of every look are bounded by the pages that there are
abbrev pub AreBounded : View → Type 0
AreBounded v = (a : ℕ) → (v.actors a).turns ≤ 4 * v.pages + 16

rank_few : (n : Next) → rank n ≤ 3
rank_few next.End = omega arith
rank_few next.Begin = omega arith
rank_few next.Resume = omega arith
rank_few next.Ask = omega arith
rank_few next.Prepare = omega arith
rank_few next.Claim = omega arith
rank_few (next.Work (work.Seek after)) = omega arith
rank_few (next.Work (work.Read rid)) = omega arith
rank_few (next.Work work.Answer) = omega arith
rank_few (next.Work work.Widen) = omega arith
rank_few (next.Work work.Fill) = omega arith
rank_few (next.Work work.Count) = omega arith
rank_few (next.Work (work.Build build.Make)) = omega arith
rank_few (next.Work (work.Build build.Spread)) = omega arith
rank_few (next.Work (work.Build build.Lay)) = omega arith
rank_few (next.Work (work.Build build.List)) = omega arith
rank_few (next.Work (work.Build build.Done)) = omega arith
rank_few (next.Work work.Command) = omega arith
rank_few next.Refuse = omega arith
rank_few (next.Close close.Append) = omega arith
rank_few (next.Close close.Force) = omega arith
rank_few (next.Close close.Acknowledge) = omega arith
rank_few (next.Close close.GiveUp) = omega arith
rank_few (next.Close close.Leave) = omega arith
rank_few (next.Close close.Vanish) = omega arith

-- FEW IN ALL
most_few : (r p t : ℕ) → t ≤ 4 * p + 16 → most r p t ≤ 20 * p + 64
most_few zero p t le = omega (arith, le)
most_few (suc zero) p t le = omega (arith, le)
most_few (suc (suc zero)) p t le = omega (arith, le)
most_few (suc (suc (suc r))) p t le = omega (arith, le)

-- more pages allow more
most_grows : (r p p' t : ℕ) → p ≤ p' → most r p t ≤ most r p' t
most_grows zero p p' t le = omega (arith, le)
most_grows (suc zero) p p' t le = omega (arith, le)
most_grows (suc (suc zero)) p p' t le = omega (arith, le)
most_grows (suc (suc (suc r))) p p' t le = omega arith

-- one turn more allows one step more
most_turns : (r p t : ℕ) → 1 ≤ r → most r p t + 1 ≤ most r p (t + 1)
most_turns zero p t le = absurd (omega (arith, le))
most_turns (suc zero) p t le = omega arith
most_turns (suc (suc zero)) p t le = omega arith
most_turns (suc (suc (suc r))) p t le = omega arith

-- and being nearer does, however many turns there were
most_nearer : (r s p t t' : ℕ) → s < r → r ≤ 3 → t ≤ 4 * p + 16 → most r p t + 1 ≤ most s p t'
most_nearer zero s p t t' lt few le = absurd (omega (arith, lt))
most_nearer (suc zero) zero p t t' lt few le = omega (arith, le)
most_nearer (suc zero) (suc s) p t t' lt few le = absurd (omega (arith, lt))
most_nearer (suc (suc zero)) zero p t t' lt few le = omega (arith, le)
most_nearer (suc (suc zero)) (suc zero) p t t' lt few le = omega (arith, le)
most_nearer (suc (suc zero)) (suc (suc s)) p t t' lt few le = absurd (omega (arith, lt))
most_nearer (suc (suc (suc r))) zero p t t' lt few le = omega (arith, le)
most_nearer (suc (suc (suc r))) (suc zero) p t t' lt few le = omega (arith, le)
most_nearer (suc (suc (suc r))) (suc (suc zero)) p t t' lt few le = omega (arith, le)
most_nearer (suc (suc (suc r))) (suc (suc (suc s))) p t t' lt few le = absurd (omega (arith, lt, few))

most_leads : (r s p p' t t' n : ℕ) → Leads r s t t' → r ≤ 3 → t ≤ 4 * p + 16 → p ≤ p' → n ≤ most r p t → n + 1 ≤ most s p' t'
most_leads r s p p' t t' n (inl lt) few le grows own =
    let one = most_nearer r s p t t' lt few le in
    let more = most_grows s p p' t' grows in
    omega (arith, one, more, own)
most_leads r s p p' t t' n (inr h) few le grows own =
    let one = most_turns r p t h.0 in
    let more = most_grows r p p' (t + 1) grows in
    let same : most s p' t' ≡ most r p' (t + 1) = ap (λ x. most x p' t') h.1 ∙ ap (most r p') h.2 in
    omega (arith, one, more, same, own)

-- a connection behind the last one stays so
next_moved : (ns : List Next) (c : ℕ) (to : Next) → (next_at (set ns c to) c ≡ to) ⊎ ((next_at ns c ≡ next.End) × (next_at (set ns c to) c ≡ next.End))
next_moved [] c to = inr (refl, refl)
next_moved (n ∷ ns) zero to = inl refl
next_moved (n ∷ ns) (suc c) to = next_moved ns c to

next_other : (ns : List Next) (c k : ℕ) (to : Next) → k ≢ c → next_at (set ns c to) k ≡ next_at ns k
next_other [] c k to ne = refl
next_other (n ∷ ns) zero zero to ne = absurd (ne refl)
next_other (n ∷ ns) zero (suc k) to ne = refl
next_other (n ∷ ns) (suc c) zero to ne = refl
next_other (n ∷ ns) (suc c) (suc k) to ne = next_other ns c k to (λ e. ne (ap suc e))

next_own : (ns : List Next) (c : ℕ) (to : Next) → c < length ns → next_at (set ns c to) c ≡ to
next_own [] c to lt = absurd (omega (arith, lt))
next_own (n ∷ ns) zero to lt = refl
next_own (n ∷ ns) (suc c) to lt = next_own ns c to (omega (arith, lt))

own_place : (k c : ℕ) → k + 1 ≡ c + 1 → k ≡ c
own_place k c is = omega (arith, is)

-- from its end nothing leads on
never_on : (s t t' : ℕ) → Leads 0 s t t' → ⊥
never_on s t t' (inl lt) = omega (arith, lt)
never_on s t t' (inr h) = (let one = h.0 in omega (arith, one))

own_few : (c : ℕ) (answer : Step) (ns ns' : List Next) (es es' : List Entry) (v v' : View) (n : ℕ) (way : Bool) → is_way answer ≡ way → Paces c answer ns ns' es es' v v' → AreBounded v → n ≤ most (rank (next_at ns c)) v.pages (v.actors (c + 1)).turns
    → (if way then n + 1 else 0) ≤ most (rank (next_at ns' c)) v'.pages (v'.actors (c + 1)).turns
own_few c answer ns ns' es es' v v' n false is h bounded few = omega arith
own_few c answer ns ns' es es' v v' n true is h bounded few =
    subst (λ xs. n + 1 ≤ most (rank (next_at xs c)) v'.pages (v'.actors (c + 1)).turns) (sym h.moved) (elim (next_moved ns c h.to) [
      | inl same ↦ subst (λ x. n + 1 ≤ most (rank x) v'.pages (v'.actors (c + 1)).turns) (sym same)
          (most_leads (rank (next_at ns c)) (rank h.to) v.pages v'.pages (v.actors (c + 1)).turns (v'.actors (c + 1)).turns n (h.leads is) (rank_few (next_at ns c)) (bounded (c + 1)) h.acts.more_pages few)
      | inr past ↦ absurd (never_on (rank h.to) (v.actors (c + 1)).turns (v'.actors (c + 1)).turns (subst (λ x. Leads (rank x) (rank h.to) (v.actors (c + 1)).turns (v'.actors (c + 1)).turns) past.0 (h.leads is)))
    ])

other_few : (c k : ℕ) (answer : Step) (ns ns' : List Next) (es es' : List Entry) (v v' : View) (n : ℕ) → k ≢ c → Paces c answer ns ns' es es' v v' → n ≤ most (rank (next_at ns k)) v.pages (v.actors (k + 1)).turns
    → n ≤ most (rank (next_at ns' k)) v'.pages (v'.actors (k + 1)).turns
other_few c k answer ns ns' es es' v v' n ne h few =
    let next : next_at ns' k ≡ next_at ns k = ap (λ xs. next_at xs k) h.moved ∙ next_other ns c k h.to ne in
    let turns : (v'.actors (k + 1)).turns ≡ (v.actors (k + 1)).turns = ap (λ (x : Holding). x.turns) (h.acts.others (k + 1) (λ e. ne (omega (arith, e)))) in
    let more = most_grows (rank (next_at ns k)) v.pages v'.pages (v.actors (k + 1)).turns h.acts.more_pages in
    let same : most (rank (next_at ns' k)) v'.pages (v'.actors (k + 1)).turns ≡ most (rank (next_at ns k)) v'.pages (v.actors (k + 1)).turns =
    ap (λ x. most (rank x) v'.pages (v'.actors (k + 1)).turns) next ∙ ap (most (rank (next_at ns k)) v'.pages) turns in
    omega (arith, few, more, same)

-- the counts behind a step of a connection
abbrev pub counted : (ℕ → ℕ) → ℕ → Step → ℕ → ℕ
counted ways c answer = at_number ways c (ways_after answer (ways c))

few_behind : (c k : ℕ) (answer : Step) (ns ns' : List Next) (es es' : List Entry) (v v' : View) (ways : ℕ → ℕ) → (k ≡ c) ⊎ (k ≢ c) → Paces c answer ns ns' es es' v v' → AreBounded v → AreFew ways ns v
    → counted ways (c + 1) answer (k + 1) ≤ most (rank (next_at ns' k)) v'.pages (v'.actors (k + 1)).turns
few_behind c k answer ns ns' es es' v v' ways (inl same) h bounded few =
    subst (λ x. counted ways (c + 1) answer (x + 1) ≤ most (rank (next_at ns' x)) v'.pages (v'.actors (x + 1)).turns) (sym same)
    (subst (λ n. n ≤ most (rank (next_at ns' c)) v'.pages (v'.actors (c + 1)).turns) (sym (at_same ways (c + 1) (ways_after answer (ways (c + 1)))))
    (own_few c answer ns ns' es es' v v' (ways (c + 1)) (is_way answer) refl h bounded (few c)))
few_behind c k answer ns ns' es es' v v' ways (inr ne) h bounded few =
    subst (λ n. n ≤ most (rank (next_at ns' k)) v'.pages (v'.actors (k + 1)).turns) (sym (at_other ways (c + 1) (ways_after answer (ways (c + 1))) (k + 1) (λ e. ne (omega (arith, e)))))
    (other_few c k answer ns ns' es es' v v' (ways (k + 1)) ne h (few k))

same_or_not : (k c : ℕ) → (k ≡ c) ⊎ (k ≢ c)
same_or_not zero zero = inl refl
same_or_not zero (suc c) = inr (λ e. omega (arith, e))
same_or_not (suc k) zero = inr (λ e. omega (arith, e))
same_or_not (suc k) (suc c) = elim (same_or_not k c) [ inl e ↦ inl (ap suc e) | inr ne ↦ inr (λ e. ne (omega (arith, e))) ]

-- A STEP OF A CONNECTION, c from 0
pub step_left : (scripts : List (List ℕ)) (c : ℕ) (answer : Step) (es es' : List Entry) (ns ns' : List Next) (v v' : View) (ways : ℕ → ℕ) → c < length ns → Grows (c + 1) answer es es' → (answer ≡ Ended → HasEnded scripts es' (c + 1)) → Paces c answer ns ns' es es' v v'
    → AreBounded v → AreBounded v' → AreFew ways ns v → Leaves (λ new. IsStep scripts (c + 1) (seen es ns v ways) new answer) es' ns' v'
step_left scripts c answer es es' ns ns' v v' ways lt grows ended h bounded bounded' few =
    let ways' : ℕ → ℕ = counted ways (c + 1) answer in
    let left : AreFew ways' ns' v' = λ k. few_behind c k answer ns ns' es es' v v' ways (same_or_not k c) h bounded few in
    let to : next_at ns' c ≡ h.to = ap (λ xs. next_at xs c) h.moved ∙ next_own ns c h.to lt in
    record {
      ways = ways';
      few = left;
      does = record {
        grows = grows;
        ended = λ e one. ended e;
        moves = λ k ne. ap (λ xs. next_at xs k) h.moved ∙ next_other ns c k h.to (λ e. ne (ap (λ n. n + 1) e));
        comes = λ k is way. subst (λ x. ComesOn (next_at ns' x) (next_at ns x)) (sym (own_place k c is)) (subst (λ n. ComesOn n (next_at ns c)) (sym to) (h.comes way));
        does = λ k is told. subst (λ x. IsDone (next_at ns x) (next_at ns' x) es es' v v') (sym (own_place k c is)) (subst (λ n. IsDone (next_at ns c) n es es' v v') (sym to) (h.does told));
        acts = h.acts;
        bare = h.bare;
        counted = at_same ways (c + 1) (ways_after answer (ways (c + 1)));
        others = λ b ne. at_other ways (c + 1) (ways_after answer (ways (c + 1))) b ne;
        few = (let own = left c in let all = most_few (rank (next_at ns' c)) v'.pages (v'.actors (c + 1)).turns (bounded' (c + 1)) in omega (arith, own, all));
      };
    }

-- A STEP THAT DOES NOTHING, of a connection or of the daemon
pub still_left : (scripts : List (List ℕ)) (c : ℕ) (answer : Step) (es es' : List Entry) (ns ns' : List Next) (v v' : View) (ways : ℕ → ℕ) → Grows c answer es es' → (answer ≡ Ended → 1 ≤ c → HasEnded scripts es' c)
    → is_way answer ≡ false → claims answer ≡ false → waits answer ≡ false → ns' ≡ ns → v' ≡ v → AreFew ways ns v → Leaves (λ new. IsStep scripts c (seen es ns v ways) new answer) es' ns' v'
still_left scripts c answer es es' ns ns' v v' ways grows ended still none bare same kept few =
    let ways' : ℕ → ℕ = at_number ways c 0 in
    let own : ways' c ≡ 0 = at_same ways c 0 in
    let left : AreFew ways' ns v = λ k. elim (same_or_not (k + 1) c) [
      | inl e ↦ (let zero : ways' (k + 1) ≡ 0 = ap ways' e ∙ own in omega (arith, zero))
      | inr ne ↦ (let was : ways' (k + 1) ≡ ways (k + 1) = at_other ways c 0 (k + 1) ne in let f = few k in omega (arith, was, f))
    ] in
    subst (λ (x : View). Leaves (λ new. IsStep scripts c (seen es ns v ways) new answer) es' ns' x) (sym kept)
    (subst (λ (x : List Next). Leaves (λ new. IsStep scripts c (seen es ns v ways) new answer) es' x v) (sym same) (record {
      ways = ways';
      few = left;
      does = record {
        grows = grows;
        ended = ended;
        moves = λ k ne. refl;
        comes = λ k is way. absurd (let x : false ≡ true = sym still ∙ way in cc);
        does = λ k is told. absurd (let x : false ≡ true = sym none ∙ told in cc);
        acts = record { others = λ b ne. refl; one_more = omega arith; more_pages = omega arith; few_pages = omega arith };
        bare = λ e. absurd (let x : false ≡ true = sym bare ∙ e in cc);
        counted = own ∙ sym (ap (λ (b : Bool). if b then ways c + 1 else 0) still);
        others = λ b ne. at_other ways c 0 b ne;
        few = omega (arith, own);
      };
    }))

-- A STEP of an engine that may have stopped
pub any_step_left : (scripts : List (List ℕ)) (c : ℕ) (answer : Step) (es es' : List Entry) (ns ns' : List Next) (v v' : View) (ways : ℕ → ℕ) (stop : Option Stop) → 1 ≤ c → c ≤ length ns → Grows c answer es es' → (answer ≡ Ended → HasEnded scripts es' c)
    → (stop ≡ None → (k : ℕ) → k + 1 ≡ c → Paces k answer ns ns' es es' v v') → ((s : Stop) → stop ≡ Some s → (answer ≡ Stopped s) × (ns' ≡ ns) × (v' ≡ v))
    → AreBounded v → AreBounded v' → AreFew ways ns v → Leaves (λ new. IsStep scripts c (seen es ns v ways) new answer) es' ns' v'
any_step_left scripts zero answer es es' ns ns' v v' ways stop one known grows ended paces still bounded bounded' few = absurd (omega (arith, one))
any_step_left scripts (suc k) answer es es' ns ns' v v' ways None one known grows ended paces still bounded bounded' few =
    let same : k + 1 ≡ suc k = omega arith in
    subst (λ x. Leaves (λ new. IsStep scripts x (seen es ns v ways) new answer) es' ns' v') same
    (step_left scripts k answer es es' ns ns' v v' ways (omega (arith, known)) (subst (λ x. Grows x answer es es') (sym same) grows) (λ e. subst (HasEnded scripts es') (sym same) (ended e)) (paces refl k same) bounded bounded' few)
any_step_left scripts (suc k) answer es es' ns ns' v v' ways (Some s) one known grows ended paces still bounded bounded' few =
    let h = still s refl in
    still_left scripts (suc k) answer es es' ns ns' v v' ways grows (λ e less. ended e) (ap is_way h.0) (ap claims h.0) (ap waits h.0) h.1 h.2 few
