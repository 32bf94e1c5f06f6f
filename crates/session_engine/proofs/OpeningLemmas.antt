-- An engine opened over a store without rows.
use Rattle.std.proofs.Common.{◌≡◌, ℕ, zero, suc, ◌+◌, ◌<◌, List, [], ◌∷◌, ◌++◌, length, get_or, append_assoc, true, false, refl, sym, ◌∙◌, ap, subst, arith, None, Some, inl, Vec, vec_len}
use Rattle.std.proofs.lemmas.List.Elements.{All-nil}
use Rattle.std.proofs.lemmas.Bool.{both_ways}
use Rattle.dby_types.specs.declared.definition.TableDef.{TableDef}
use Rattle.table_model.specs.Tables.{Each, no_tables}
use Rattle.table_model.proofs.TablesLemmas.{each_append}
use Rattle.lock_modes.specs.declared.mode.Mode.{Mode}
use Rattle.lock_modes.specs.declared.mode.Mode.TheVariants.{S2, S3, U2, U3, Ip, X2, X3, TIs, TIx, TS, TX}
use Rattle.lock_modes.specs.Lock.{no_locks}
use Rattle.lock_modes.specs.Modes.{has_mode, no_modes}
use Rattle.store_api.specs.View.{View}
use Rattle.journal_model.specs.Catalog.{Defines, table_row}
use Rattle.journal_model.specs.Legal.{CommitsFit}
use Rattle.journal_model.specs.declared.journal.Entry.{Entry}
use Rattle.session_model.specs.declared.journal.Locked.{Locked}
use Rattle.session_model.specs.World.{opening, world_at}
use Rattle.session_model.specs.Legal.{IsLegal, IsOwed}
use Rattle.session_model.specs.Places.{Shared, locks_of}
use Rattle.session_engine.specs.declared.session.Session.{Session}
use Rattle.session_engine.specs.Opening.{IsEmptyStore, IsNew}
use Rattle.session_engine.specs.State.{Holds, SessionHolds, HasRoom, PhaseHolds, scripts_of, sum_of, entries_of, releases_of, ends_in, opens}

-- A CONNECTION MORE
scripts_append : (ss : List Session) (s : Session) → scripts_of (ss ++ s ∷ []) ≡ scripts_of ss ++ s.script ∷ []
scripts_append [] s = refl
scripts_append (x ∷ ss) s = ap (λ xs. x.script ∷ xs) (scripts_append ss s)

pub scripts_more : (ss : List Session) (s : Session) (x : List ℕ) (rest all : List (List ℕ)) → scripts_of ss ++ x ∷ rest ≡ all → s.script ≡ x → scripts_of (ss ++ s ∷ []) ++ rest ≡ all
scripts_more ss s x rest all h e = ap (λ xs. xs ++ rest) (scripts_append ss s) ∙ append_assoc (scripts_of ss) (s.script ∷ []) rest ∙ ap (λ y. scripts_of ss ++ y ∷ rest) e ∙ h

pub new_more : (ss : List Session) (s : Session) → Each IsNew ss → IsNew s → Each IsNew (ss ++ s ∷ [])
new_more ss s h n = each_append IsNew ss (s ∷ []) h (n, tt)

pub scripts_length : (ss : List Session) → length (scripts_of ss) ≡ length ss
scripts_length [] = refl
scripts_length (s ∷ ss) = ap suc (scripts_length ss)

-- NOTHING IS WRITTEN YET
pub none_defined : (d : TableDef) → Defines no_tables d → ⊥
none_defined d h = (let e : None ≡ Some _ = h.table.1 in cc)

none_fit : CommitsFit no_tables
none_fit = λ d rid row defines stands. absurd (none_defined d defines)

legal_none : (scripts : List (List ℕ)) → IsLegal no_tables scripts [] []
legal_none scripts = record {
  entries = λ i d lt. absurd (omega arith);
  answers = λ i d lt. absurd (omega arith);
  owed = λ m le. owed_none m;
  places = record { within = λ k d lt. absurd (omega arith); never_fall = λ k d lt. absurd (omega arith) };
  events = λ k d lt. absurd (omega arith);
}
  where
    owed_none : (m : ℕ) → IsOwed (world_at no_tables [] m)
    owed_none zero = record { pins = tt; commits = none_fit }
    owed_none (suc m) = record { pins = tt; commits = none_fit }

shared_none : Shared (opening no_tables) (locks_of no_locks.grants)
shared_none = record {
  fits = record {
    alone = λ t u table rid w r. absurd (both w);
    writer_reads = λ t table rid w. absurd (both w);
  };
  commits = none_fit;
  clean = λ table rid h. refl;
  txns = λ t. record { owned = tt; kept = tt; stacked = tt; fitting = none_fit; lawful = inl refl; seen = λ table rid h. refl };
  pins = tt;
}
  where
    both : false ≡ true → ⊥
    both e = both_ways _ refl e

no_mode : (m : Mode) → has_mode no_modes m ≡ false
no_mode S2 = refl
no_mode S3 = refl
no_mode U2 = refl
no_mode U3 = refl
no_mode Ip = refl
no_mode X2 = refl
no_mode X3 = refl
no_mode TIs = refl
no_mode TIx = refl
no_mode TS = refl
no_mode TX = refl

new_session : (v : View) (s : Session) (c : ℕ) → IsNew s → SessionHolds (opening no_tables) no_locks v 0 c s
new_session v s c h = record {
  begun = sym h.begun;
  level = sym h.level;
  automatic = sym h.automatic;
  closed = λ on. refl;
  spans = h.spans;
  phase = subst (λ p. PhaseHolds p (opening no_tables) no_locks v 0 c s) (sym h.phase) (h.queued, refl, ap (λ t. t.0) h.txn, h.opened, h.made);
}

each_session : (v : View) (ss : List Session) (c i : ℕ) (d : Session) → Each IsNew ss → i < length ss → SessionHolds (opening no_tables) no_locks v 0 c (get_or ss i d)
each_session v [] c i d h lt = absurd (omega arith)
each_session v (s ∷ ss) c zero d h lt = new_session v s c h.0
each_session v (s ∷ ss) c (suc i) d h lt = each_session v ss c i d h.1 (omega arith)

pub opened : (ss : List Session) (v : View) → Each IsNew ss → IsEmptyStore v → length ss < v.limit
    → Holds (record { es = []; ls = []; lock = no_locks; ss = ss; view = v; named = [] }) 0
opened ss v new empty few = record {
  legal = legal_none (scripts_of ss);
  shared = shared_none;
  apart = λ t u n a b ne x y. absurd (both_ways _ (no_mode a) x);
  fold = refl;
  alone = λ t. omega arith;
  waits = All-nil _;
  each = λ i d lt. each_session v ss (i + 1) i d new lt;
  last_is = refl;
  fresh = λ t lt. refl;
  given = tt;
  stored = λ table rid. empty.rows table rid;
  zero = empty.changes 0;
  known = λ t h. absurd (h (empty.changes t));
  holders = λ b h. absurd (h (empty.held b));
  few = few;
  cataloged = record {
    dictionary = record { there = λ e a. absurd a; only = λ d h. absurd (none_defined d h); user = λ e a. absurd a };
    described = λ e a. absurd a;
    catalogs = empty.catalogs;
    listed = λ rid row at. (let none : None ≡ Some row = at in cc);
    once = λ q r n a b x y. (let none : None ≡ Some (table_row n a) = x in cc);
    numbered = λ rid row n at of. (let none : None ≡ Some row = at in cc);
    lists = λ t. tt;
  };
}

-- and nothing is owed
owes_nothing : (ss : List Session) → Each IsNew ss → (sum_of entries_of ss ≡ 0) × (sum_of releases_of ss ≡ 0)
owes_nothing [] h = (refl, refl)
owes_nothing (s ∷ ss) h =
    let rest = owes_nothing ss h.1 in
    let made : length s.made.items ≡ 0 = ap length h.0.made in
    let ends : ends_in s.phase ≡ 0 = ap ends_in h.0.phase in
    let one : opens s.phase ≡ 0 = ap opens h.0.phase in
    (omega (arith, rest.0, made, ends), omega (arith, rest.1, one))

pub opened_room : {Z : Type 0} (entries : Vec Entry Z) (events : Vec Locked Z) (ss : List Session) → Each IsNew ss → vec_len entries ≡ 0 → vec_len events ≡ 0 → HasRoom entries events ss no_locks 0 0
opened_room entries events ss new one two =
    let none = owes_nothing ss new in
    record {
      owed_is = sym none.0;
      owed_events_is = sym none.1;
      entries_fit = omega (arith, one);
      events_fit = omega (arith, two);
    }
