-- A query of its parts.
use Rattle.std.proofs.Common.{◌≡◌, ℕ, suc, ◌+◌, ◌<◌, List, [], ◌∷◌, ◌++◌, length, drop, get_or, Option, None, Result, Ok, Err, refl, sym, ap, ◌∙◌, subst}
use Rattle.std.specs.Prelude.{IfOk}
use Rattle.std.specs.declared.alloc.AllocError.{AllocError}
use Rattle.std.specs.Borrow.{Bor}
use Rattle.change_binder.proofs.Chains.{behind, next_item}
use Rattle.dby_types.specs.declared.definition.Dictionary.{Dictionary}
use Rattle.dby_types.specs.declared.state.SqlState.{SqlState}
use Rattle.expr_binder.specs.Seen.{sources_in}
use Rattle.expr_binder.specs.Walking.{kept}
use Rattle.expr_binder.specs.declared.names.Source.{Source as InCode}
use Rattle.name_binder.specs.Lent.{texts}
use Rattle.query_binder.specs.Asking.{Asks, AsksOver}
use Rattle.query_binder.specs.Finding.{Begins}
use Rattle.query_binder.specs.Showing.{Chooses, Groups, Joins, Orders}
use Rattle.query_binder.specs.declared.chosen.Chosen.{Chosen}
use Rattle.query_binder.specs.declared.found.Tables.{Tables}
use Rattle.sql_ast.specs.declared.bound.BoundSelect.{BoundSelect}
use Rattle.sql_ast.specs.declared.bound.Expr.{Expr}
use Rattle.sql_ast.specs.declared.bound.OrderKey.{OrderKey}
use Rattle.sql_ast.specs.declared.bound.Out.{Out}
use Rattle.sql_ast.specs.declared.statement.FromText.{FromText}
use Rattle.sql_ast.specs.declared.statement.GroupText.{GroupText}
use Rattle.sql_ast.specs.declared.statement.OrderText.{OrderText}
use Rattle.sql_ast.specs.declared.statement.SelectText.{SelectText}
use Rattle.sql_ast.specs.declared.statement.TableText.{TableText}
use Rattle.sql_binding.specs.Bound.{Shown, Groups as InGroups, Query, shown_of}
use Rattle.sql_binding.specs.Expressions.{conjuncts_of}
use Rattle.sql_binding.specs.Faults.{condition_faults}
use Rattle.sql_binding.specs.From.{exposed_names, limit_faults, missing_tables, sources_of, tables_of, twice_faults}
use Rattle.sql_binding.specs.Grouping.{group_faults, is_empty, is_grouped, key_places}
use Rattle.sql_binding.specs.Items.{shown_faults}
use Rattle.sql_binding.specs.Names.{Source}
use Rattle.sql_binding.specs.Order.{kept_with}
use Rattle.sql_binding.specs.Ordering.{order_faults, order_of}
use Rattle.sql_binding.specs.Queries.{later_faults, query_scope, query_sources, keys_of, shown_in, conditions_of}
use Rattle.sql_binding.specs.Trees.{Tree}

-- a query, said with its type
abbrev as_query : Query → Query
as_query q = q

texts_both : (xs : List (Bor (List ℕ))) (t : Bor (List ℕ)) (rest : List (List ℕ)) → texts (xs ++ t ∷ []) ++ rest ≡ texts xs ++ t.now ∷ rest
texts_both [] t rest = refl
texts_both (x ∷ xs) t rest = ap (λ (l : List (List ℕ)). x.now ∷ l) (texts_both xs t rest)

pub exposed_more : (sources : List InCode) (i : ℕ) (s : InCode) (xs ys : List (Bor (List ℕ))) (all : List (List ℕ)) → i < length sources → s ≡ get_or sources i s → ys ≡ xs ++ s.exposed ∷ []
    → texts xs ++ exposed_names (sources_in (drop i sources)) ≡ all → texts ys ++ exposed_names (sources_in (drop (i + 1) sources)) ≡ all
exposed_more sources i s xs ys all k is more h =
    ap (λ (zs : List (Bor (List ℕ))). texts zs ++ exposed_names (sources_in (drop (i + 1) sources))) more
    ∙ texts_both xs s.exposed (exposed_names (sources_in (drop (i + 1) sources)))
    ∙ ap (λ (l : List InCode). texts xs ++ exposed_names (sources_in l)) (sym (next_item sources i s k is)) ∙ h

pub sources_long : (ss : List InCode) → length (sources_in ss) ≡ length ss
sources_long [] = refl
sources_long (s ∷ ss) = ap suc (sources_long ss)

of_tables_long : (d : Dictionary) (ts : List TableText) → length (sources_of d ts) ≡ length ts
of_tables_long d [] = refl
of_tables_long d (t ∷ ts) = ap suc (of_tables_long d ts)

-- a fault that was told of what comes behind
pub later_told : (f g h : Option SqlState) (fs : List SqlState) → g ≡ kept None fs → h ≡ kept_with f g → h ≡ kept f fs
later_told f g h fs e k = k ∙ ap (kept_with f) e

-- what a query shows, where the tables and the keys are those of the dictionary
of_dictionary : (d : Dictionary) (q : SelectText) (ss : List Source) (places : List ℕ) (f g : Option SqlState) (c : Chosen) → ss ≡ query_sources d q → places ≡ key_places ss q.group
    → Chooses ss (is_grouped q) (is_empty q.group) places q.shown f g c → Chooses (query_sources d q) (is_grouped q) (is_empty q.group) (keys_of d q) q.shown f g c
of_dictionary d q ss places f g c e k h =
    subst (λ (ts : List Source). Chooses ts (is_grouped q) (is_empty q.group) (key_places ts q.group) q.shown f g c) e
    (subst (λ (ps : List ℕ). Chooses ss (is_grouped q) (is_empty q.group) ps q.shown f g c) k h)

-- five parts of a query
same_query : (q : SelectText) {s t : List Shown} {m n : List ℕ} {x y : List Tree} {g h : Option InGroups} {o p : List OrderKey} → s ≡ t → m ≡ n → x ≡ y → g ≡ h → o ≡ p
    → record { distinct = q.distinct; shown = s; tables = m; conjuncts = x; groups = g; order = o } ≡ as_query (record { distinct = q.distinct; shown = t; tables = n; conjuncts = y; groups = h; order = p })
same_query q {s} {t} {m} {n} {x} {y} {g} {h} {o} {p} a b c d e =
    ap (λ (z : List Shown). as_query (record { distinct = q.distinct; shown = z; tables = m; conjuncts = x; groups = g; order = o })) a
    ∙ ap (λ (z : List ℕ). as_query (record { distinct = q.distinct; shown = t; tables = z; conjuncts = x; groups = g; order = o })) b
    ∙ ap (λ (z : List Tree). as_query (record { distinct = q.distinct; shown = t; tables = n; conjuncts = z; groups = g; order = o })) c
    ∙ ap (λ (z : Option InGroups). as_query (record { distinct = q.distinct; shown = t; tables = n; conjuncts = y; groups = z; order = o })) d
    ∙ ap (λ (z : List OrderKey). as_query (record { distinct = q.distinct; shown = t; tables = n; conjuncts = y; groups = h; order = z })) e

-- five lists of faults
five : (f0 f1 f2 f3 f4 f5 : Option SqlState) (a b c d e : List SqlState) → f1 ≡ kept f0 a → f2 ≡ kept f1 b → f3 ≡ kept f2 c → f4 ≡ kept f3 d → f5 ≡ kept f4 e → f5 ≡ kept f0 (a ++ (b ++ (c ++ (d ++ e))))
five f0 f1 f2 f3 f4 f5 a b c d e h1 h2 h3 h4 h5 =
    behind f0 f1 f5 a (b ++ (c ++ (d ++ e))) h1 (behind f1 f2 f5 b (c ++ (d ++ e)) h2 (behind f2 f3 f5 c (d ++ e) h3 (behind f3 f4 f5 d e h4 h5)))

as_many : (d : Dictionary) (q : SelectText) (code : List InCode) → sources_in code ≡ query_sources d q → length code ≡ length (tables_of q.from)
as_many d q code e = sym (sources_long code) ∙ ap length e ∙ of_tables_long d (tables_of q.from)

-- THE WHOLE, of tables that were found
pub over_is : (code : List InCode) (numbers : List ℕ) (q : SelectText) (places : List ℕ) (c : Chosen) (xs : List Expr) (order : List OrderKey) (f0 f1 f2 f3 f4 f5 own : Option SqlState)
    → Groups (sources_in code) q.group None own places → Chooses (sources_in code) (is_grouped q) (is_empty q.group) places q.shown f0 f1 c → Joins (sources_in code) q f1 f2 xs → f3 ≡ kept_with f2 own
    → Orders (shown_of c.outs) q.order f3 f4 order → f5 ≡ kept f4 (twice_faults (exposed_names (sources_in code)) ++ limit_faults (length code) 8)
    → AsksOver (sources_in code) numbers q f0 f5 (record { distinct = q.distinct; outs = c.outs; tables = numbers; conjuncts = xs; grouping = c.grouping; order = order })
over_is code numbers q places c xs order f0 f1 f2 f3 f4 f5 own g h j later o last = record {
  query = λ d e n. let k = of_dictionary d q (sources_in code) places f0 f1 c e g.places h in
      same_query q k.shown n (j.parts ∙ ap (λ (ss : List Source). conjuncts_of ss (conditions_of q)) e) k.groups (o.keys ∙ ap (λ (s : List Shown). order_of s q.order) k.shown);
  fault = λ d e. let k = of_dictionary d q (sources_in code) places f0 f1 c e g.places h in
      five f0 f1 f2 f3 f4 f5 (shown_faults (query_scope d q) (length (keys_of d q)) q.shown) (condition_faults (query_sources d q) (conditions_of q)) (group_faults (query_sources d q) q.group)
      (order_faults (shown_in d q) q.order) (twice_faults (exposed_names (query_sources d q)) ++ limit_faults (length (tables_of q.from)) 8)
      k.fault (j.fault ∙ ap (λ (ss : List Source). kept f1 (condition_faults ss (conditions_of q))) e)
      (later_told f2 own f3 (group_faults (sources_in code) q.group) g.fault later ∙ ap (λ (ss : List Source). kept f2 (group_faults ss q.group)) e)
      (o.fault ∙ ap (λ (s : List Shown). kept f3 (order_faults s q.order)) k.shown)
      (last ∙ ap (λ (ss : List Source). kept f4 (twice_faults (exposed_names ss) ++ limit_faults (length code) 8)) e
      ∙ ap (λ (n : ℕ). kept f4 (twice_faults (exposed_names (query_sources d q)) ++ limit_faults n 8)) (as_many d q code e));
}

-- .. and where they were found in the dictionary
asks : (d : Dictionary) (q : SelectText) (f h : Option SqlState) (t : Tables) (b : BoundSelect) → Begins d (tables_of q.from) f t → AsksOver (sources_in t.sources) t.numbers q t.fault h b → Asks d q f h b
asks d q f h t b found over = record {
  query = over.query d found.sources found.numbers;
  fault = behind f t.fault h (missing_tables d (tables_of q.from)) (later_faults d q) found.fault (over.fault d found.sources);
}

if_ok : {X E : Type 0} (P Q : X → Type 0) (r : Result X E) → IfOk r P → ((x : X) → P x → Q x) → IfOk r Q
if_ok P Q (Ok x) h f = f x h
if_ok P Q (Err e) h f = tt

pub asked : (d : Dictionary) (q : SelectText) (f h : Option SqlState) (t : Tables) {from : List FromText} {ss : List InCode} (r : Result BoundSelect AllocError) → from ≡ q.from → Begins d (tables_of from) f t
    → ss ≡ t.sources → IfOk r (AsksOver (sources_in ss) t.numbers q t.fault h) → IfOk r (Asks d q f h)
asked d q f h t {from} {ss} r at found seen over =
    let begun : Begins d (tables_of q.from) f t = subst (λ (fs : List FromText). Begins d (tables_of fs) f t) at found in
    if_ok (AsksOver (sources_in ss) t.numbers q t.fault h) (Asks d q f h) r over
    (λ b o. asks d q f h t b begun (subst (λ (l : List InCode). AsksOver (sources_in l) t.numbers q t.fault h b) seen o))

pub groups_at : {ss : List Source} {a b : List GroupText} {f g : Option SqlState} {places : List ℕ} → a ≡ b → Groups ss a f g places → Groups ss b f g places
groups_at {ss} {a} {b} {f} {g} {places} h k = subst (λ (ts : List GroupText). Groups ss ts f g places) h k

pub orders_at : {outs seen : List Out} {a b : List OrderText} {f g : Option SqlState} {keys : List OrderKey} → a ≡ b → outs ≡ seen → Orders (shown_of outs) a f g keys → Orders (shown_of seen) b f g keys
orders_at {outs} {seen} {a} {b} {f} {g} {keys} h e k = subst (λ (ts : List OrderText). Orders (shown_of seen) ts f g keys) h (subst (λ (os : List Out). Orders (shown_of os) a f g keys) e k)
