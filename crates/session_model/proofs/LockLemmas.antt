-- Locks that grow and locks that go keep what is shared, and their guarantee to the others.
use Rattle.std.proofs.Common.{◌≡◌, ◌≢◌, ℕ, [], true, false, refl, sym, ◌∙◌, ap, subst, inl, inr}
use Rattle.std.specs.Prelude.{◌||◌, if◌then◌else◌}
use Rattle.std.proofs.lemmas.Bool.{both_ways, false_from_ne_true, cases_eq, cases_Bool, or_cases, or_left, or_right, eq-eqb, ne_eqb}
use Rattle.dby_types.specs.declared.number.TxnNo.{TxnNo}
use Rattle.lock_modes.specs.declared.event.LockEvent.{LockEvent}
use Rattle.lock_modes.specs.declared.event.LockEvent.TheVariants.{ReleasedAll}
use Rattle.lock_modes.specs.declared.mode.Mode.{Mode}
use Rattle.lock_modes.specs.declared.mode.Mode.TheVariants.{TS, TX}
use Rattle.lock_modes.specs.declared.name.LockName.{LockName}
use Rattle.lock_modes.specs.Apart.{IsApart, takes}
use Rattle.lock_modes.specs.Lock.{Lock, Grants, apply}
use Rattle.lock_modes.specs.Modes.{compatible, has_mode, no_modes}
use Rattle.lock_modes.proofs.ApartLemmas.{stays}
use Rattle.table_model.proofs.TablesLemmas.{each_map}
use Rattle.session_model.specs.World.{World, is_ended}
use Rattle.session_model.specs.Places.{Locks, Fits, Written, touches, PinRests, Shared, Others, Grew, Left, locks_of, guard, txn_no}
use Rattle.session_model.proofs.PlaceLemmas.{untouched, touched_written, not_touched}
use Rattle.session_model.proofs.StableLemmas.{others_keep, pin_stable, lawful_stable, kept}

-- WHAT A LOCK TABLE KEEPS is the one law
exclusive_alone : (m : Mode) → compatible TX m ≡ true → ⊥
unfolding compatible
exclusive_alone m h = both_ways false refl h

pub grants_fit : (g : Grants) → IsApart g → Fits (locks_of g)
grants_fit g apart = record {
  alone = λ t u table rid x r. elim (cases_eq t u) [
    | inl e ↦ e
    | inr ne ↦ elim (or_cases _ _ r) [
      | inl s ↦ absurd (exclusive_alone TS (apart (txn_no t) (txn_no u) (guard table) TX TS (ne_eqb t u ne) x s))
      | inr s ↦ absurd (exclusive_alone TX (apart (txn_no t) (txn_no u) (guard table) TX TX (ne_eqb t u ne) x s))
    ]
  ];
  writer_reads = λ t table rid x. or_right _ _ x;
}

-- an event that takes nothing away
pub event_grew : (l : Lock) (e : LockEvent) → ((t : TxnNo) (n : LockName) → takes e t n ≡ false) → IsApart (apply l e).grants → Grew (locks_of l.grants) (locks_of (apply l e).grants)
event_grew l e none apart = record {
  reads = λ t table rid h. elim (or_cases _ _ h) [
    | inl s ↦ or_left _ _ (stays l e (txn_no t) (guard table) TS (none (txn_no t) (guard table)) s)
    | inr s ↦ or_right _ _ (stays l e (txn_no t) (guard table) TX (none (txn_no t) (guard table)) s)
  ];
  writes = λ t table rid h. stays l e (txn_no t) (guard table) TX (none (txn_no t) (guard table)) h;
  fits = grants_fit (apply l e).grants apart;
}

-- all of a transaction that is over goes
pub all_left : (a : TxnNo) (w : World) (l : Lock) → IsApart (apply l (ReleasedAll a)).grants
    → (w.txns a.0).changes ≡ [] → (w.txns a.0).standing ≡ [] → is_ended (w.txns a.0).stage ≡ true → Left a.0 w (locks_of l.grants) (locks_of (apply l (ReleasedAll a)).grants)
all_left a w l apart none none_standing ended =
    let off : (t : ℕ) (n : LockName) → t ≢ a.0 → (apply l (ReleasedAll a)).grants (txn_no t) n ≡ l.grants (txn_no t) n =
    λ t n ne. ap (λ b. if b then no_modes else l.grants (txn_no t) n) (ne_eqb a.0 t (λ e. ne (sym e))) in
    let gone : (n : LockName) → (apply l (ReleasedAll a)).grants (txn_no a.0) n ≡ no_modes = λ n. ap (λ b. if b then no_modes else l.grants (txn_no a.0) n) (eq-eqb a.0 a.0 refl) in
    record {
      reads = λ t table rid ne. ap (λ ms. has_mode ms TS || has_mode ms TX) (off t (guard table) ne);
      writes = λ t table rid ne. ap (λ ms. has_mode ms TX) (off t (guard table) ne);
      fewer = λ table rid h. absurd (both_ways _ (ap (λ ms. has_mode ms TS || has_mode ms TX) (gone (guard table))) h);
      none = none;
      none_standing = none_standing;
      ended = ended;
      fits = grants_fit (apply l (ReleasedAll a)).grants apart;
    }

-- LOCKS GROW
pub grew_others : (w : World) (l l' : Locks) → Grew l l' → (t : ℕ) → Others t w l w l'
grew_others w l l' h t = record {
  txn = refl;
  reads = h.reads t;
  writes = h.writes t;
  committed = λ table rid x. refl;
  current = λ table rid x. refl;
  whole = λ x table rid. (refl, refl);
  given = λ x. refl;
}

pub grew_kept : (w : World) (l l' : Locks) → Grew l l' → Shared w l → Shared w l'
grew_kept w l l' h s = record {
  fits = h.fits;
  commits = s.commits;
  clean = s.clean;
  txns = λ t. let own = s.txns t in record {
    owned = each_map (λ m. l.writes t m.change.table m.change.rid ≡ true) (λ m. l'.writes t m.change.table m.change.rid ≡ true) (λ m x. h.writes t m.change.table m.change.rid x) (w.txns t).changes own.owned;
    kept = each_map (λ m. l.writes t m.change.table m.change.rid ≡ true) (λ m. l'.writes t m.change.table m.change.rid ≡ true) (λ m x. h.writes t m.change.table m.change.rid x) (w.txns t).standing own.kept;
    stacked = own.stacked;
    fitting = own.fitting;
    lawful = lawful_stable t (w.txns t).changes l l' (h.reads t) own.lawful;
    seen = λ table rid r. elim (cases_Bool (l.reads t table rid)) [
      | inl had ↦ own.seen table rid had
      | inr new ↦
          let mine : touches (w.txns t).changes table rid ≡ false = not_touched l t (w.txns t).changes table rid own.owned (false_from_ne_true _ (λ x. both_ways _ new (s.fits.writer_reads t table rid x))) in
          s.clean table rid (λ u. elim (cases_eq u t) [
            | inl e ↦ subst (λ v. touches (w.txns v).changes table rid ≡ false) (sym e) mine
            | inr ne ↦ false_from_ne_true _ (λ x. ne (h.fits.alone u t table rid (h.writes u table rid (touched_written l u (w.txns u).changes table rid (s.txns u).owned x)) r))
          ]) ∙ sym (untouched (w.txns t).changes w.committed table rid mine)
    ];
  };
  pins = each_map (PinRests w l) (PinRests w l') (λ p k. pin_stable p w l w l' (others_keep p.txn w l w l' (grew_others w l l' h p.txn)) k) w.pins s.pins;
}

-- LOCKS GO
pub left_others : (a : ℕ) (w : World) (l l' : Locks) → Left a w l l' → (t : ℕ) → t ≢ a → Others t w l w l'
left_others a w l l' h t ne = record {
  txn = refl;
  reads = λ table rid x. h.reads t table rid ne ∙ x;
  writes = λ table rid x. h.writes t table rid ne ∙ x;
  committed = λ table rid x. refl;
  current = λ table rid x. refl;
  whole = λ x table rid. (refl, refl);
  given = λ x. refl;
}

pub left_kept : (a : ℕ) (w : World) (l l' : Locks) → Left a w l l' → Shared w l → Shared w l'
left_kept a w l l' h s =
    let own = s.txns a in
    kept a w l w l' (left_others a w l l' h) (λ t ne table rid x. sym (h.reads t table rid ne) ∙ x) (λ t ne. (s.txns t).fitting)
    (record {
      owned = subst (Written l' a) (sym h.none) tt;
      kept = subst (Written l' a) (sym h.none_standing) tt;
      stacked = own.stacked;
      fitting = own.fitting;
      lawful = inl h.none;
      seen = λ table rid x. own.seen table rid (h.fewer table rid x);
    })
    h.fits s.commits s.clean
    (each_map (PinRests w l) (PinRests w l') (λ p k. elim (cases_eq p.txn a) [
      | inl e ↦ (λ alive owed. absurd (both_ways _ alive (subst (λ v. is_ended (w.txns v).stage ≡ true) (sym e) h.ended)))
      | inr ne ↦ pin_stable p w l w l' (others_keep p.txn w l w l' (left_others a w l l' h p.txn ne)) k
    ]) w.pins s.pins)
    s
