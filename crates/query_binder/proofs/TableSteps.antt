-- The tables of FROM, one behind the other.
use Rattle.std.proofs.Common.{◌≡◌, ℕ, ◌+◌, ◌<◌, ◌≤◌, List, [], ◌∷◌, ◌++◌, length, drop, drop_of_length-le, get_or, Option, Some, None, refl, sym, ap, ◌∙◌, subst, append_assoc, append-nil}
use Rattle.change_binder.proofs.Chains.{behind, next_item}
use Rattle.dby_types.specs.declared.definition.ColumnDef.{ColumnDef}
use Rattle.dby_types.specs.declared.definition.Dictionary.{Dictionary}
use Rattle.dby_types.specs.declared.definition.TableDef.{TableDef}
use Rattle.dby_types.specs.declared.state.SqlState.{SqlState}
use Rattle.expr_binder.specs.Seen.{sources_in, source_of}
use Rattle.expr_binder.specs.Walking.{kept}
use Rattle.expr_binder.specs.declared.names.Source.{Source as InCode}
use Rattle.query_binder.specs.Finding.{Puts, Adds, Begins}
use Rattle.query_binder.specs.declared.found.Tables.{Tables}
use Rattle.sql_ast.specs.declared.statement.FromText.{FromText}
use Rattle.sql_ast.specs.declared.statement.JoinText.{JoinText}
use Rattle.sql_ast.specs.declared.statement.TableText.{TableText}
use Rattle.sql_binding.specs.From.{columns_of, number_of, table_faults, found_in, exposed_by, tables_of, joined_tables, sources_of, numbers_of, missing_tables}
use Rattle.sql_binding.specs.Names.{Source}

pub sources_snoc : (xs : List InCode) (s : InCode) → sources_in (xs ++ s ∷ []) ≡ sources_in xs ++ source_of s ∷ []
sources_snoc [] s = refl
sources_snoc (x ∷ xs) s = ap (λ (l : List Source). source_of x ∷ l) (sources_snoc xs s)

-- a table was looked for
pub added : (d : Dictionary) (t : TableText) (a w b : Tables) (columns : List ColumnDef) (number : ℕ) (o : Option TableDef) → o ≡ found_in d t.name
    → columns ≡ columns_of o → number ≡ number_of o → sources_in w.sources ≡ sources_in a.sources → w.numbers ≡ a.numbers → w.fault ≡ kept a.fault (table_faults o)
    → (exposed : List ℕ) → exposed ≡ exposed_by t.name t.alias → Puts exposed columns number w b → Adds d (t ∷ []) a b
added d t a w b columns number o is cs n ss ns f exposed e p = record {
  sources = p.sources ∙ ap (λ (l : List Source). l ++ record { exposed = exposed; columns = columns } ∷ []) ss
      ∙ ap (λ (x : List ℕ). sources_in a.sources ++ record { exposed = x; columns = columns } ∷ []) e
      ∙ ap (λ (l : List ColumnDef). sources_in a.sources ++ record { exposed = exposed_by t.name t.alias; columns = l } ∷ []) (cs ∙ ap columns_of is);
  numbers = p.numbers ∙ ap (λ (l : List ℕ). l ++ number ∷ []) ns ∙ ap (λ (m : ℕ). a.numbers ++ m ∷ []) (n ∙ ap number_of is);
  fault = p.fault ∙ f ∙ ap (λ (l : List SqlState). kept a.fault l) (ap table_faults is ∙ sym (append-nil (table_faults (found_in d t.name))));
}

sources_both : (d : Dictionary) (ts us : List TableText) → sources_of d (ts ++ us) ≡ sources_of d ts ++ sources_of d us
sources_both d [] us = refl
sources_both d (t ∷ ts) us = ap (λ (l : List Source). record { exposed = exposed_by t.name t.alias; columns = columns_of (found_in d t.name) } ∷ l) (sources_both d ts us)

numbers_both : (d : Dictionary) (ts us : List TableText) → numbers_of d (ts ++ us) ≡ numbers_of d ts ++ numbers_of d us
numbers_both d [] us = refl
numbers_both d (t ∷ ts) us = ap (λ (l : List ℕ). number_of (found_in d t.name) ∷ l) (numbers_both d ts us)

missing_both : (d : Dictionary) (ts us : List TableText) → missing_tables d (ts ++ us) ≡ missing_tables d ts ++ missing_tables d us
missing_both d [] us = refl
missing_both d (t ∷ ts) us = ap (λ (l : List SqlState). table_faults (found_in d t.name) ++ l) (missing_both d ts us)
    ∙ sym (append_assoc (table_faults (found_in d t.name)) (missing_tables d ts) (missing_tables d us))

-- tables, and then more of them
pub adds_both : (d : Dictionary) (ts us : List TableText) (a b c : Tables) → Adds d ts a b → Adds d us b c → Adds d (ts ++ us) a c
adds_both d ts us a b c h k = record {
  sources = k.sources ∙ ap (λ (l : List Source). l ++ sources_of d us) h.sources ∙ append_assoc (sources_in a.sources) (sources_of d ts) (sources_of d us)
      ∙ ap (λ (l : List Source). sources_in a.sources ++ l) (sym (sources_both d ts us));
  numbers = k.numbers ∙ ap (λ (l : List ℕ). l ++ numbers_of d us) h.numbers ∙ append_assoc a.numbers (numbers_of d ts) (numbers_of d us)
      ∙ ap (λ (l : List ℕ). a.numbers ++ l) (sym (numbers_both d ts us));
  fault = behind a.fault b.fault c.fault (missing_tables d ts) (missing_tables d us) h.fault k.fault ∙ ap (kept a.fault) (sym (missing_both d ts us));
}

kept_none : (o : Option SqlState) → o ≡ kept o []
kept_none None = refl
kept_none (Some why) = refl

pub adds_none : (d : Dictionary) (a : Tables) → Adds d [] a a
adds_none d a = record { sources = sym (append-nil (sources_in a.sources)); numbers = sym (append-nil a.numbers); fault = kept_none a.fault }

-- what is left of a loop: with the rest it is all
pub record Joining (d : Dictionary) (joins : List JoinText) (i : ℕ) (start a : Tables) : Type 0 where
  pub rest : (v : Tables) → Adds d (joined_tables (drop i joins)) a v → Adds d (joined_tables joins) start v

pub record Listing (d : Dictionary) (from : List FromText) (i : ℕ) (start a : Tables) : Type 0 where
  pub rest : (v : Tables) → Adds d (tables_of (drop i from)) a v → Adds d (tables_of from) start v

pub joining_begins : (d : Dictionary) (joins : List JoinText) (a : Tables) → Joining d joins 0 a a
joining_begins d joins a = record { rest = λ v h. h }

pub join_more : (d : Dictionary) (joins : List JoinText) (i : ℕ) (j : JoinText) (start a b : Tables) → i < length joins → j ≡ get_or joins i j → Joining d joins i start a
    → Adds d (j.table ∷ []) a b → Joining d joins (i + 1) start b
join_more d joins i j start a b h is l more = record {
  rest = λ v k. l.rest v (subst (λ (js : List JoinText). Adds d (joined_tables js) a v) (sym (next_item joins i j h is))
      (adds_both d (j.table ∷ []) (joined_tables (drop (i + 1) joins)) a b v more k));
}

pub joins_end : (d : Dictionary) (joins : List JoinText) (i : ℕ) (start a : Tables) → length joins ≤ i → Joining d joins i start a → Adds d (joined_tables joins) start a
joins_end d joins i start a h l = l.rest a (subst (λ (js : List JoinText). Adds d (joined_tables js) a a) (sym (drop_of_length-le joins h)) (adds_none d a))

pub listing_begins : (d : Dictionary) (from : List FromText) (a : Tables) → Listing d from 0 a a
listing_begins d from a = record { rest = λ v h. h }

pub list_more : (d : Dictionary) (from : List FromText) (i : ℕ) (f : FromText) (start a b : Tables) → i < length from → f ≡ get_or from i f → Listing d from i start a
    → Adds d (f.table ∷ joined_tables f.joins) a b → Listing d from (i + 1) start b
list_more d from i f start a b h is l more = record {
  rest = λ v k. l.rest v (subst (λ (fs : List FromText). Adds d (tables_of fs) a v) (sym (next_item from i f h is))
      (adds_both d (f.table ∷ joined_tables f.joins) (tables_of (drop (i + 1) from)) a b v more k));
}

pub list_ends : (d : Dictionary) (from : List FromText) (i : ℕ) (start a : Tables) → length from ≤ i → Listing d from i start a → Adds d (tables_of from) start a
list_ends d from i start a h l = l.rest a (subst (λ (fs : List FromText). Adds d (tables_of fs) a a) (sym (drop_of_length-le from h)) (adds_none d a))

pub begins : (d : Dictionary) (ts : List TableText) (f : Option SqlState) (a b : Tables) → sources_in a.sources ≡ [] → a.numbers ≡ [] → a.fault ≡ f → Adds d ts a b → Begins d ts f b
begins d ts f a b s n g h = record {
  sources = h.sources ∙ ap (λ (l : List Source). l ++ sources_of d ts) s;
  numbers = h.numbers ∙ ap (λ (l : List ℕ). l ++ numbers_of d ts) n;
  fault = h.fault ∙ ap (λ (o : Option SqlState). kept o (missing_tables d ts)) g;
}

pub puts : (number : ℕ) (a : Tables) (ss : List InCode) (ns : List ℕ) (s : InCode) → ss ≡ a.sources ++ s ∷ [] → ns ≡ a.numbers ++ number ∷ []
    → Puts s.exposed.now s.columns.now number a (record { sources = ss; numbers = ns; fault = a.fault })
puts number a ss ns s more one = record { sources = ap sources_in more ∙ sources_snoc a.sources s; numbers = one; fault = refl }

pub item_adds : (d : Dictionary) (f : FromText) {js : List JoinText} (a b c : Tables) → js ≡ f.joins → Adds d (f.table ∷ []) a b → Adds d (joined_tables js) b c → Adds d (f.table ∷ joined_tables f.joins) a c
item_adds d f {js} a b c at h k = adds_both d (f.table ∷ []) (joined_tables f.joins) a b c h (subst (λ (ks : List JoinText). Adds d (joined_tables ks) b c) at k)
