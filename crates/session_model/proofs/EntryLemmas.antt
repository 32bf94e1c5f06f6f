-- Each kind of entry keeps what is shared, and its guarantee to the others.
use Rattle.std.proofs.Common.{◌≡◌, ◌≢◌, ℕ, List, [], ◌∷◌, true, false, refl, sym, ◌∙◌, ap, subst, arith, inl, inr, Option, Bool}
use Rattle.std.specs.Prelude.{◌⊎◌, ◌&&◌, ◌||◌, ◌==◌}
use Rattle.std.proofs.lemmas.Bool.{both_ways, false_from_ne_true, cases_eq, cases_Bool, and_parts, or_parts, or_from, eqb-true}
use Rattle.dby_types.specs.declared.answer.Answer.{Answer}
use Rattle.dby_types.specs.declared.answer.Component.{Component}
use Rattle.dby_types.specs.declared.number.ConnNo.{ConnNo}
use Rattle.dby_types.specs.declared.number.Level.{Level}
use Rattle.dby_types.specs.declared.number.RowId.{RowId}
use Rattle.dby_types.specs.declared.number.TxnNo.{TxnNo}
use Rattle.dby_types.specs.declared.value.Value.{Value}
use Rattle.sql_ast.specs.declared.statement.Statement.{Statement}
use Rattle.journal_model.specs.declared.journal.Entry.TheVariants.{Started, Did, Undone, Answered, Refused, Committed, Acknowledged, RolledBack}
use Rattle.journal_model.specs.declared.journal.Refusal.{Refusal}
use Rattle.journal_model.specs.Legal.{CommitsFit}
use Rattle.journal_model.proofs.BaseLemmas.{at_same, at_other}
use Rattle.table_model.specs.Tables.{Tables, Made, Each, put, laid_over, newest_undone, rest_of, is_same_rid}
use Rattle.session_model.specs.Orders.{order_of}
use Rattle.session_model.specs.World.{World, Txn, Stage, said, denied, pin_of, is_ended, is_returnable, running, apply}
use Rattle.session_model.specs.Legal.{is_owed}
use Rattle.session_model.specs.Places.{Locks, Fits, ReadsCatalog, WritesCatalog, Written, Stacked, Fitting, touches, is_catalog, TxnHolds, Relies, PinRests, Shared, Others}
use Rattle.session_model.proofs.PlaceLemmas.{elsewhere, put_here, put_elsewhere, untouched, touched_written, not_touched, each_rest, rid_is}
use Rattle.session_model.proofs.FitLemmas.{fitting_head, fitting_merge}
use Rattle.session_model.proofs.StableLemmas.{Keeps, pins_stable, kept}

-- AN ENTRY THAT LEAVES THE TABLES ALONE
pub quiet_others : (a : ℕ) (w : World) (l : Locks) (w' : World) → w'.committed ≡ w.committed → w'.current ≡ w.current → w'.given ≡ w.given → ((t : ℕ) → t ≢ a → w'.txns t ≡ w.txns t)
    → (t : ℕ) → t ≢ a → Others t w l w' l
quiet_others a w l w' e1 e2 e3 txns t ne = record {
  txn = txns t ne;
  reads = λ table rid h. h;
  writes = λ table rid h. h;
  committed = λ table rid h. ap (λ f. f table rid) e1;
  current = λ table rid h. ap (λ f. f table rid) e2;
  whole = λ h table rid. (ap (λ f. f table rid) e1, ap (λ f. f table rid) e2);
  given = λ h. e3;
}

quiet_keeps : (a : ℕ) (w : World) (l : Locks) (w' : World) → w'.committed ≡ w.committed → (is_ended (w'.txns a).stage ≡ false → is_ended (w.txns a).stage ≡ false) → Keeps a w l w' l
quiet_keeps a w l w' e alive = record { alive = alive; reads = λ x table rid h. h; committed = λ x table rid h. ap (λ f. f table rid) e }

same_changes : (a : ℕ) (w w' : World) → ((t : ℕ) → t ≢ a → w'.txns t ≡ w.txns t) → (w'.txns a).changes ≡ (w.txns a).changes → (u : ℕ) → (w.txns u).changes ≡ (w'.txns u).changes
same_changes a w w' txns own u = elim (cases_eq u a) [
  | inl e ↦ subst (λ v. (w.txns v).changes ≡ (w'.txns v).changes) (sym e) (sym own)
  | inr ne ↦ ap (λ (x : Txn). x.changes) (sym (txns u ne))
]

quiet : (a : ℕ) (w : World) (l : Locks) (w' : World) → w'.committed ≡ w.committed → w'.current ≡ w.current → w'.given ≡ w.given → ((t : ℕ) → t ≢ a → w'.txns t ≡ w.txns t)
    → (w'.txns a).changes ≡ (w.txns a).changes → Written l a (w'.txns a).standing → Each (PinRests w' l) w'.pins → Shared w l → Shared w' l
quiet a w l w' e1 e2 e3 txns changes standing pins s =
    let own = s.txns a in
    kept a w l w' l (quiet_others a w l w' e1 e2 e3 txns) (λ t ne table rid h. h)
    (λ t ne. subst (λ f. Fitting f (w.txns t).changes) (sym e1) (s.txns t).fitting)
    (record {
      owned = subst (Written l a) (sym changes) own.owned;
      kept = standing;
      stacked = subst (λ f. Stacked f (w'.txns a).changes) (sym e1) (subst (Stacked w.committed) (sym changes) own.stacked);
      fitting = subst (λ f. Fitting f (w'.txns a).changes) (sym e1) (subst (Fitting w.committed) (sym changes) own.fitting);
      lawful = subst (λ ms. (ms ≡ []) ⊎ ReadsCatalog l a) (sym changes) own.lawful;
      seen = λ table rid h. ap (λ f. f table rid) e2 ∙ own.seen table rid h ∙ ap (λ ms. laid_over ms w.committed table rid) (sym changes) ∙ ap (λ f. laid_over (w'.txns a).changes f table rid) (sym e1);
    })
    s.fits (subst CommitsFit (sym e1) s.commits)
    (λ table rid none. ap (λ f. f table rid) e2
    ∙ s.clean table rid (λ u. ap (λ ms. touches ms table rid) (same_changes a w w' txns changes u) ∙ none u) ∙ ap (λ f. f table rid) (sym e1))
    pins s

pub started_kept : (a : TxnNo) (c : ConnNo) (v : Level) (q : Statement) (w : World) (l : Locks) → is_ended (w.txns a.0).stage ≡ false → Shared w l → Shared (apply w (Started a c v q)) l
started_kept a c v q w l open_now s =
    let w' = apply w (Started a c v q) in
    let own : w'.txns a.0 ≡ _ = at_same w.txns a.0 _ in
    let others = λ (t : ℕ) (ne : t ≢ a.0). at_other w.txns a.0 _ t ne in
    quiet a.0 w l w' refl refl refl others (ap (λ (x : Txn). x.changes) own) (subst (λ (x : Txn). Written l a.0 x.standing) (sym own) (s.txns a.0).kept)
    (pins_stable a.0 w l w' l (quiet_others a.0 w l w' refl refl refl others) (quiet_keeps a.0 w l w' refl (λ h. open_now)) w.pins s.pins) s

-- what is told becomes a pin, which rests on what its transaction may read
pub answered_kept : (a : TxnNo) (n : Answer) (joined : List (List Component)) (from to : ℕ) (w : World) (l : Locks) → (w.txns a.0).stage ≡ running
    → (is_owed (w.txns a.0).level (order_of (w.txns a.0).text) (said n) ≡ true → Relies w l (pin_of a.0 (w.txns a.0) (said n)))
    → Shared w l → Shared (apply w (Answered a n joined from to)) l
answered_kept a n joined from to w l is rests s =
    let w' = apply w (Answered a n joined from to) in
    let own : w'.txns a.0 ≡ _ = at_same w.txns a.0 _ in
    let others = λ (t : ℕ) (ne : t ≢ a.0). at_other w.txns a.0 _ t ne in
    quiet a.0 w l w' refl refl refl others (ap (λ (x : Txn). x.changes) own) (subst (λ (x : Txn). Written l a.0 x.standing) (sym own) (s.txns a.0).kept) (
      (λ alive owed. let r = rests owed in record { catalog = r.catalog; number = r.number; rows = r.rows; meant = r.meant }),
      pins_stable a.0 w l w' l (quiet_others a.0 w l w' refl refl refl others) (quiet_keeps a.0 w l w' refl (λ h. ap is_ended is)) w.pins s.pins,
    ) s

pub refused_kept : (a : TxnNo) (why : Refusal) (w : World) (l : Locks) → is_ended (w.txns a.0).stage ≡ false
    → (is_owed (w.txns a.0).level (order_of (w.txns a.0).text) (denied why) ≡ true → Relies w l (pin_of a.0 (w.txns a.0) (denied why)))
    → Shared w l → Shared (apply w (Refused a why)) l
refused_kept a why w l open_now rests s =
    let w' = apply w (Refused a why) in
    let own : w'.txns a.0 ≡ _ = at_same w.txns a.0 _ in
    let others = λ (t : ℕ) (ne : t ≢ a.0). at_other w.txns a.0 _ t ne in
    quiet a.0 w l w' refl refl refl others (ap (λ (x : Txn). x.changes) own) (subst (λ (x : Txn). Written l a.0 x.standing) (sym own) (s.txns a.0).kept) (
      (λ alive owed. let r = rests owed in record { catalog = r.catalog; number = r.number; rows = r.rows; meant = r.meant }),
      pins_stable a.0 w l w' l (quiet_others a.0 w l w' refl refl refl others) (quiet_keeps a.0 w l w' refl (λ h. open_now)) w.pins s.pins,
    ) s

pub acknowledged_kept : (a : TxnNo) (w : World) (l : Locks) → Shared w l → Shared (apply w (Acknowledged a)) l
acknowledged_kept a w l s =
    let w' = apply w (Acknowledged a) in
    let own : w'.txns a.0 ≡ _ = at_same w.txns a.0 _ in
    let others = λ (t : ℕ) (ne : t ≢ a.0). at_other w.txns a.0 _ t ne in
    quiet a.0 w l w' refl refl refl others (ap (λ (x : Txn). x.changes) own) (subst (λ (x : Txn). Written l a.0 x.standing) (sym own) tt)
    (pins_stable a.0 w l w' l (quiet_others a.0 w l w' refl refl refl others) (quiet_keeps a.0 w l w' refl (λ h. absurd (both_ways _ h (ap (λ (x : Txn). is_ended x.stage) own)))) w.pins s.pins) s

pub rolled_back_kept : (a : TxnNo) (w : World) (l : Locks) → (w.txns a.0).changes ≡ [] → Shared w l → Shared (apply w (RolledBack a)) l
rolled_back_kept a w l none s =
    let w' = apply w (RolledBack a) in
    let own : w'.txns a.0 ≡ _ = at_same w.txns a.0 _ in
    let others = λ (t : ℕ) (ne : t ≢ a.0). at_other w.txns a.0 _ t ne in
    quiet a.0 w l w' refl refl refl others (ap (λ (x : Txn). x.changes) own ∙ sym none) (subst (λ (x : Txn). Written l a.0 x.standing) (sym own) tt)
    (pins_stable a.0 w l w' l (quiet_others a.0 w l w' refl refl refl others) (quiet_keeps a.0 w l w' refl (λ h. absurd (both_ways _ h (ap (λ (x : Txn). is_ended x.stage) own)))) w.pins s.pins) s

-- who relies on the catalog keeps everybody else from writing it
catalog_alone : (a t : ℕ) (l : Locks) → Fits l → ReadsCatalog l a → t ≢ a → WritesCatalog l t → (rid : RowId) → ⊥
catalog_alone a t l fits r ne x rid = ne (fits.alone t a 1 rid (x 1 rid refl) (r 1 rid refl))

-- a writer's place is nobody else's
not_there : (a t table : ℕ) (rid : RowId) (l : Locks) → Fits l → l.writes a table rid ≡ true → t ≢ a → (b : ℕ) (r : RowId) → l.reads t b r ≡ true → ((b == table) && is_same_rid r rid) ≡ false
not_there a t table rid l fits x ne b r h = elsewhere table rid b r (λ e k.
    ne (sym (fits.alone a t table rid x (subst (λ y. l.reads t table y ≡ true) k (subst (λ y. l.reads t y r ≡ true) e h)))))

-- A CHANGE
pub did_others : (a : TxnNo) (table : ℕ) (rid : RowId) (old new : Option (List Value)) (w : World) (l : Locks) → Fits l → l.writes a.0 table rid ≡ true → ReadsCatalog l a.0
    → (t : ℕ) → t ≢ a.0 → Others t w l (apply w (Did a table rid old new)) l
did_others a table rid old new w l fits x catalog t ne = record {
  txn = at_other w.txns a.0 _ t ne;
  reads = λ b r h. h;
  writes = λ b r h. h;
  committed = λ b r h. refl;
  current = λ b r h. put_elsewhere w.current table rid new b r (not_there a.0 t table rid l fits x ne b r h);
  whole = λ h b r. absurd (catalog_alone a.0 t l fits catalog ne h rid);
  given = λ h. absurd (catalog_alone a.0 t l fits catalog ne h rid);
}

pub did_kept : (a : TxnNo) (table : ℕ) (rid : RowId) (old new : Option (List Value)) (w : World) (l : Locks) → l.writes a.0 table rid ≡ true → ReadsCatalog l a.0
    → old ≡ w.current table rid → CommitsFit (put (laid_over (w.txns a.0).changes w.committed) table rid new)
    → Shared w l → Shared (apply w (Did a table rid old new)) l
did_kept a table rid old new w l x catalog was fit s =
    let w' = apply w (Did a table rid old new) in
    let own = s.txns a.0 in
    let e : w'.txns a.0 ≡ _ = at_same w.txns a.0 _ in
    let others = did_others a table rid old new w l s.fits x catalog in
    kept a.0 w l w' l others (λ t ne b r h. h) (λ t ne. (s.txns t).fitting)
    (record {
      owned = subst (λ (y : Txn). Written l a.0 y.changes) (sym e) (x, own.owned);
      kept = subst (λ (y : Txn). Written l a.0 y.standing) (sym e) (x, own.kept);
      stacked = subst (λ (y : Txn). Stacked w.committed y.changes) (sym e) (was ∙ own.seen table rid (s.fits.writer_reads a.0 table rid x), own.stacked);
      fitting = subst (λ (y : Txn). Fitting w.committed y.changes) (sym e) (fit, own.fitting);
      lawful = inr catalog;
      seen = λ b r h. ap (λ v. put (λ _ _. v) table rid new b r) (own.seen b r h) ∙ ap (λ (y : Txn). laid_over y.changes w.committed b r) (sym e);
    })
    s.fits s.commits
    (λ b r none.
    let mine : (((b == table) && is_same_rid r rid) || touches (w.txns a.0).changes b r) ≡ false = ap (λ (y : Txn). touches y.changes b r) (sym e) ∙ none a.0 in
    let parts = or_parts _ _ mine in
    put_elsewhere w.current table rid new b r parts.0
    ∙ s.clean b r (λ u. elim (cases_eq u a.0) [
      | inl same ↦ subst (λ v. touches (w.txns v).changes b r ≡ false) (sym same) parts.1
      | inr ne ↦ ap (λ (y : Txn). touches y.changes b r) (sym (at_other w.txns a.0 _ u ne)) ∙ none u
    ]))
    (pins_stable a.0 w l w' l others (quiet_keeps a.0 w l w' refl (λ h. ap (λ (y : Txn). is_ended y.stage) (sym e) ∙ h)) w.pins s.pins)
    s

-- A CHANGE TAKEN BACK
abbrev is_nil : List Made → Bool
is_nil [] = true
is_nil (x ∷ xs) = false

pub lawful_of : (a : ℕ) (m : Made) (older : List Made) (w : World) (l : Locks) → TxnHolds w l a → (w.txns a).changes ≡ m ∷ older → ReadsCatalog l a
lawful_of a m older w l h top = elim h.lawful [
  | inl none ↦ absurd (both_ways false refl (ap is_nil (sym top ∙ none)))
  | inr r ↦ r
]

pub undone_others : (a : TxnNo) (n : ℕ) (m : Made) (older : List Made) (w : World) (l : Locks) → Fits l → (w.txns a.0).changes ≡ m ∷ older → l.writes a.0 m.change.table m.change.rid ≡ true → ReadsCatalog l a.0
    → (t : ℕ) → t ≢ a.0 → Others t w l (apply w (Undone a n)) l
undone_others a n m older w l fits top x catalog t ne = record {
  txn = at_other w.txns a.0 _ t ne;
  reads = λ b r h. h;
  writes = λ b r h. h;
  committed = λ b r h. refl;
  current = λ b r h. ap (λ ms. newest_undone ms w.current b r) top ∙ put_elsewhere w.current m.change.table m.change.rid m.change.old b r (not_there a.0 t m.change.table m.change.rid l fits x ne b r h);
  whole = λ h b r. absurd (catalog_alone a.0 t l fits catalog ne h m.change.rid);
  given = λ h. refl;
}

undone_seen : (m : Made) (ms : List Made) (f g : Tables) (b : ℕ) (r : RowId) → f b r ≡ laid_over (m ∷ ms) g b r → m.change.old ≡ laid_over ms g m.change.table m.change.rid
    → put f m.change.table m.change.rid m.change.old b r ≡ laid_over ms g b r
undone_seen m ms f g b r e was = elim (cases_Bool ((b == m.change.table) && is_same_rid r m.change.rid)) [
  | inl hit ↦
      let p = and_parts _ _ hit in
      put_here f m.change.table m.change.rid m.change.old b r hit ∙ was
      ∙ ap (λ x. laid_over ms g x m.change.rid) (sym (eqb-true b m.change.table p.0)) ∙ ap (λ x. laid_over ms g b x) (sym (rid_is r m.change.rid p.1))
  | inr miss ↦ put_elsewhere f m.change.table m.change.rid m.change.old b r miss ∙ e ∙ put_elsewhere (laid_over ms g) m.change.table m.change.rid m.change.new b r miss
]

pub returnable_open : (x : Stage) → is_returnable x ≡ true → is_ended x ≡ false
returnable_open x h = grind arith

pub undone_kept : (a : TxnNo) (n : ℕ) (m : Made) (older : List Made) (w : World) (l : Locks) → is_returnable (w.txns a.0).stage ≡ true → (w.txns a.0).changes ≡ m ∷ older
    → Shared w l → Shared (apply w (Undone a n)) l
undone_kept a n m older w l open_now top s =
    let w' = apply w (Undone a n) in
    let own = s.txns a.0 in
    let e : w'.txns a.0 ≡ _ = at_same w.txns a.0 _ in
    let now : (w'.txns a.0).changes ≡ older = ap (λ (y : Txn). y.changes) e ∙ ap rest_of top in
    let owned : Written l a.0 (m ∷ older) = subst (Written l a.0) top own.owned in
    let stacked : Stacked w.committed (m ∷ older) = subst (Stacked w.committed) top own.stacked in
    let fitting : Fitting w.committed (m ∷ older) = subst (Fitting w.committed) top own.fitting in
    let catalog = lawful_of a.0 m older w l own top in
    let others = undone_others a n m older w l s.fits top owned.0 catalog in
    kept a.0 w l w' l others (λ t ne b r h. h) (λ t ne. (s.txns t).fitting)
    (record {
      owned = subst (Written l a.0) (sym now) owned.1;
      kept = subst (λ (y : Txn). Written l a.0 y.standing) (sym e) (each_rest _ (w.txns a.0).standing own.kept);
      stacked = subst (Stacked w.committed) (sym now) stacked.1;
      fitting = subst (Fitting w.committed) (sym now) fitting.1;
      lawful = inr catalog;
      seen = λ b r h. ap (λ ms. newest_undone ms w.current b r) top
          ∙ undone_seen m older w.current w.committed b r (own.seen b r h ∙ ap (λ ms. laid_over ms w.committed b r) top) stacked.0 ∙ ap (λ ms. laid_over ms w.committed b r) (sym now);
    })
    s.fits s.commits
    (λ b r none.
    let mine : touches older b r ≡ false = ap (λ ms. touches ms b r) (sym now) ∙ none a.0 in
    ap (λ ms. newest_undone ms w.current b r) top
    ∙ elim (cases_Bool ((b == m.change.table) && is_same_rid r m.change.rid)) [
      | inl hit ↦
          let p = and_parts _ _ hit in
          put_here w.current m.change.table m.change.rid m.change.old b r hit ∙ stacked.0
          ∙ ap (λ x. laid_over older w.committed x m.change.rid) (sym (eqb-true b m.change.table p.0)) ∙ ap (λ x. laid_over older w.committed b x) (sym (rid_is r m.change.rid p.1))
          ∙ untouched older w.committed b r mine
      | inr miss ↦ put_elsewhere w.current m.change.table m.change.rid m.change.old b r miss
          ∙ s.clean b r (λ u. elim (cases_eq u a.0) [
            | inl same ↦ subst (λ v. touches (w.txns v).changes b r ≡ false) (sym same) (ap (λ ms. touches ms b r) top ∙ or_from _ _ miss mine)
            | inr ne ↦ ap (λ (y : Txn). touches y.changes b r) (sym (at_other w.txns a.0 _ u ne)) ∙ none u
          ])
    ])
    (pins_stable a.0 w l w' l others (quiet_keeps a.0 w l w' refl (λ h. returnable_open (w.txns a.0).stage open_now)) w.pins s.pins)
    s

-- A COMMIT: the locks stay
pub committed_others : (a : TxnNo) (w : World) (l : Locks) → Shared w l → (t : ℕ) → t ≢ a.0 → Others t w l (apply w (Committed a)) l
committed_others a w l s t ne = record {
  txn = at_other w.txns a.0 _ t ne;
  reads = λ b r h. h;
  writes = λ b r h. h;
  current = λ b r h. refl;
  committed = λ b r h. untouched (w.txns a.0).changes w.committed b r
      (not_touched l a.0 (w.txns a.0).changes b r (s.txns a.0).owned (false_from_ne_true _ (λ x. ne (sym (s.fits.alone a.0 t b r x h)))));
  whole = λ h b r. (
    elim (s.txns a.0).lawful [
      | inl none ↦ ap (λ ms. laid_over ms w.committed b r) none
      | inr catalog ↦ absurd (catalog_alone a.0 t l s.fits catalog ne h r)
    ],
    refl,
  );
  given = λ h. refl;
}

-- who relies on the catalog beside another who does has not touched it
off_catalog : (a t : ℕ) (w : World) (l : Locks) → Fits l → TxnHolds w l t → ReadsCatalog l a → t ≢ a → (table : ℕ) (rid : RowId) → is_catalog table ≡ true → touches (w.txns t).changes table rid ≡ false
off_catalog a t w l fits h r ne table rid c = not_touched l t (w.txns t).changes table rid h.owned (false_from_ne_true _ (λ x. ne (fits.alone t a table rid x (r table rid c))))

pub committed_kept : (a : TxnNo) (w : World) (l : Locks) → Shared w l → Shared (apply w (Committed a)) l
committed_kept a w l s =
    let w' = apply w (Committed a) in
    let own = s.txns a.0 in
    let e : w'.txns a.0 ≡ _ = at_same w.txns a.0 _ in
    let commits : CommitsFit w'.committed = fitting_head w.committed (w.txns a.0).changes own.fitting in
    kept a.0 w l w' l (committed_others a w l s) (λ t ne b r h. h)
    (λ t ne. elim (s.txns t).lawful [
      | inl none ↦ subst (Fitting w'.committed) (sym none) commits
      | inr catalog ↦ elim own.lawful [
        | inl none ↦ subst (λ ms. Fitting (laid_over ms w.committed) (w.txns t).changes) (sym none) (s.txns t).fitting
        | inr mine ↦ fitting_merge w.committed (w.txns t).changes (w.txns a.0).changes
            (off_catalog a.0 t w l s.fits (s.txns t) mine ne) (off_catalog t a.0 w l s.fits own catalog (λ same. ne (sym same))) (s.txns t).fitting commits
      ]
    ])
    (record {
      owned = subst (λ (y : Txn). Written l a.0 y.changes) (sym e) tt;
      kept = subst (λ (y : Txn). Written l a.0 y.standing) (sym e) own.kept;
      stacked = subst (λ (y : Txn). Stacked w'.committed y.changes) (sym e) tt;
      fitting = subst (λ (y : Txn). Fitting w'.committed y.changes) (sym e) commits;
      lawful = inl (ap (λ (y : Txn). y.changes) e);
      seen = λ b r h. own.seen b r h ∙ ap (λ (y : Txn). laid_over y.changes (laid_over (w.txns a.0).changes w.committed) b r) (sym e);
    })
    s.fits commits
    (λ b r none. elim (cases_Bool (touches (w.txns a.0).changes b r)) [
      | inl hit ↦ own.seen b r (s.fits.writer_reads a.0 b r (touched_written l a.0 (w.txns a.0).changes b r own.owned hit))
      | inr miss ↦ s.clean b r (λ u. elim (cases_eq u a.0) [
        | inl same ↦ subst (λ v. touches (w.txns v).changes b r ≡ false) (sym same) miss
        | inr ne ↦ ap (λ (y : Txn). touches y.changes b r) (sym (at_other w.txns a.0 _ u ne)) ∙ none u
      ]) ∙ sym (untouched (w.txns a.0).changes w.committed b r miss)
    ])
    (pins_stable a.0 w l w' l (committed_others a w l s) (record {
      alive = λ h. absurd (both_ways _ h (ap (λ (x : Txn). is_ended x.stage) e));
      reads = λ h. absurd (both_ways _ h (ap (λ (x : Txn). is_ended x.stage) e));
      committed = λ h. absurd (both_ways _ h (ap (λ (x : Txn). is_ended x.stage) e));
    }) w.pins s.pins)
    s
