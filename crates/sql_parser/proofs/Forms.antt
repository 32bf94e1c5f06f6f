-- The form of a statement, by its first token.
use Rattle.std.proofs.Common.{◌≡◌, List, [], ◌∷◌, Bool, true, false, Some, refl, sym, ap, ◌∙◌, ◌||◌}
use Rattle.std.proofs.lemmas.Bool.{false≢true}
use Rattle.sql_grammar.specs.Syntax.{Token}
use Rattle.sql_grammar.specs.declared.word.Class.{Class}
use Rattle.sql_grammar.specs.declared.word.Class.TheVariants as class
use Rattle.sql_grammar.specs.declared.word.Key.TheVariants as key
use Rattle.sql_grammar.specs.declared.word.Word.TheVariants as word
use Rattle.sql_grammar.specs.Classes.{same}
use Rattle.sql_grammar.proofs.Classes.{same-one}
use Rattle.sql_grammar.specs.Rules.{Rule, either, Parsed, left, right, class_of}
use Rattle.sql_grammar.specs.Grammar.{create, drop_rule, insert, update, delete, select, lock, isolation, autocommit, commit, rollback, statement}
use Rattle.sql_grammar.specs.Reading.{Outcome, took, wrong, deep, bind, starts, begins, read, read_either}
use Rattle.sql_tokens.specs.Reading.{reading, Fails}
use Rattle.sql_tokens.specs.declared.failing.Failing.{Failing}
use Rattle.sql_tokens.specs.declared.failing.Failing.TheVariants as failing
use Rattle.sql_tokens.proofs.Tokens.{this_wrong}
use Rattle.sql_tokens.proofs.Orders.{fails_on, fails_as, right_fails, silent_fails, order_first}
use Rattle.sql_parser.specs.Statements.{behind}

or-false : (b : Bool) → (b || false) ≡ b
or-false true = refl
or-false false = refl

-- a token of one class begins nothing that begins otherwise
other : (c d : Class) (ts : List Token) → same c d ≡ false → starts (c ∷ []) ts ≡ true → starts (d ∷ []) ts ≡ false
other c d [] n s = absurd (false≢true s)
other c d (t ∷ ts) n s =
    or-false (same (class_of t) d) ∙ ap (λ x. same x d) (same-one (class_of t) c (sym (or-false (same (class_of t) c)) ∙ s)) ∙ n

-- the outcome, of which this is said instead
abbrev mapped : (Parsed → Parsed) → Outcome → Outcome
mapped f o = bind o (λ v rest. took (f v) rest)

twice : (f g : Parsed → Parsed) (o : Outcome) → mapped f (mapped g o) ≡ mapped (λ v. f (g v)) o
twice f g (took v rest) = refl
twice f g (wrong rest) = refl
twice f g (deep rest) = refl

-- in front of a token of this class one rule reads what another one does
abbrev Leads : Class → Rule → Rule → (Parsed → Parsed) → Type 0
Leads c a b f = (ts : List Token) → starts (c ∷ []) ts ≡ true → reading a ts ≡ mapped f (reading b ts)

here : (c : Class) (a b : Rule) → begins a ≡ c ∷ [] → Leads c (either a b) a (λ v. left v)
unfolding reading
here c a b q ts s = ap (λ x. read_either x (read (Some 200) a ts) (read (Some 200) b ts)) (ap (λ cs. starts cs ts) q ∙ s)

past : (c d : Class) (a b r : Rule) (f : Parsed → Parsed) → begins a ≡ d ∷ [] → same c d ≡ false → Leads c b r f → Leads c (either a b) r (λ v. right (f v))
unfolding reading
past c d a b r f q n h ts s =
    ap (λ x. read_either x (read (Some 200) a ts) (read (Some 200) b ts)) (ap (λ cs. starts cs ts) q ∙ other c d ts n s)
    ∙ ap (λ o. mapped (λ v. right v) o) (h ts s)
    ∙ twice (λ v. right v) f (read (Some 200) r ts)

-- ---- create

create-leads : Leads (class.Key key.Create) statement create (λ v. left v)
unfolding statement create drop_rule insert update delete select lock isolation autocommit commit rollback
create-leads = here (class.Key key.Create) _ _ refl

pub create_ok : (ts rest : List Token) (v : Parsed) → starts (class.Key key.Create ∷ []) ts ≡ true → reading create ts ≡ took v rest → reading statement ts ≡ took (left v) rest
create_ok ts rest v s h = create-leads ts s ∙ ap (λ o. mapped (λ v. left v) o) h

pub create_fails : (ts rest : List Token) (e : Failing) → starts (class.Key key.Create ∷ []) ts ≡ true → Fails e (reading create ts) rest → Fails e (reading statement ts) rest
create_fails ts rest e s h =
    fails_as e (reading statement ts) (mapped (λ v. left v) (reading create ts)) rest (create-leads ts s) (fails_on e (reading create ts) (λ v rest. took (left v) rest) rest h)

pub ruleset create_form = (create_ok, create_fails)

-- ---- drop

drop-leads : Leads (class.Key key.Drop) statement drop_rule (λ v. behind 1 (left v))
unfolding statement create drop_rule insert update delete select lock isolation autocommit commit rollback
drop-leads = past (class.Key key.Drop) (class.Key key.Create) _ _ _ _ refl refl (here (class.Key key.Drop) _ _ refl)

pub drop_ok : (ts rest : List Token) (v : Parsed) → starts (class.Key key.Drop ∷ []) ts ≡ true → reading drop_rule ts ≡ took v rest → reading statement ts ≡ took (behind 1 (left v)) rest
drop_ok ts rest v s h = drop-leads ts s ∙ ap (λ o. mapped (λ v. behind 1 (left v)) o) h

pub drop_fails : (ts rest : List Token) (e : Failing) → starts (class.Key key.Drop ∷ []) ts ≡ true → Fails e (reading drop_rule ts) rest → Fails e (reading statement ts) rest
drop_fails ts rest e s h =
    fails_as e (reading statement ts) (mapped (λ v. behind 1 (left v)) (reading drop_rule ts)) rest (drop-leads ts s) (fails_on e (reading drop_rule ts) (λ v rest. took (behind 1 (left v)) rest) rest h)

pub ruleset drop_form = (drop_ok, drop_fails)

-- ---- insert

insert-leads : Leads (class.Key key.Insert) statement insert (λ v. behind 2 (left v))
unfolding statement create drop_rule insert update delete select lock isolation autocommit commit rollback
insert-leads = past (class.Key key.Insert) (class.Key key.Create) _ _ _ _ refl refl (past (class.Key key.Insert) (class.Key key.Drop) _ _ _ _ refl refl (here (class.Key key.Insert) _ _ refl))

pub insert_ok : (ts rest : List Token) (v : Parsed) → starts (class.Key key.Insert ∷ []) ts ≡ true → reading insert ts ≡ took v rest → reading statement ts ≡ took (behind 2 (left v)) rest
insert_ok ts rest v s h = insert-leads ts s ∙ ap (λ o. mapped (λ v. behind 2 (left v)) o) h

pub insert_fails : (ts rest : List Token) (e : Failing) → starts (class.Key key.Insert ∷ []) ts ≡ true → Fails e (reading insert ts) rest → Fails e (reading statement ts) rest
insert_fails ts rest e s h =
    fails_as e (reading statement ts) (mapped (λ v. behind 2 (left v)) (reading insert ts)) rest (insert-leads ts s) (fails_on e (reading insert ts) (λ v rest. took (behind 2 (left v)) rest) rest h)

pub ruleset insert_form = (insert_ok, insert_fails)

-- ---- update

update-leads : Leads (class.Key key.Update) statement update (λ v. behind 3 (left v))
unfolding statement create drop_rule insert update delete select lock isolation autocommit commit rollback
update-leads = past (class.Key key.Update) (class.Key key.Create) _ _ _ _ refl refl (past (class.Key key.Update) (class.Key key.Drop) _ _ _ _ refl refl (past (class.Key key.Update) (class.Key key.Insert) _ _ _ _ refl refl (here (class.Key key.Update) _ _ refl)))

pub update_ok : (ts rest : List Token) (v : Parsed) → starts (class.Key key.Update ∷ []) ts ≡ true → reading update ts ≡ took v rest → reading statement ts ≡ took (behind 3 (left v)) rest
update_ok ts rest v s h = update-leads ts s ∙ ap (λ o. mapped (λ v. behind 3 (left v)) o) h

pub update_fails : (ts rest : List Token) (e : Failing) → starts (class.Key key.Update ∷ []) ts ≡ true → Fails e (reading update ts) rest → Fails e (reading statement ts) rest
update_fails ts rest e s h =
    fails_as e (reading statement ts) (mapped (λ v. behind 3 (left v)) (reading update ts)) rest (update-leads ts s) (fails_on e (reading update ts) (λ v rest. took (behind 3 (left v)) rest) rest h)

pub ruleset update_form = (update_ok, update_fails)

-- ---- delete

delete-leads : Leads (class.Key key.Delete) statement delete (λ v. behind 4 (left v))
unfolding statement create drop_rule insert update delete select lock isolation autocommit commit rollback
delete-leads = past (class.Key key.Delete) (class.Key key.Create) _ _ _ _ refl refl (past (class.Key key.Delete) (class.Key key.Drop) _ _ _ _ refl refl (past (class.Key key.Delete) (class.Key key.Insert) _ _ _ _ refl refl (past (class.Key key.Delete) (class.Key key.Update) _ _ _ _ refl refl (here (class.Key key.Delete) _ _ refl))))

pub delete_ok : (ts rest : List Token) (v : Parsed) → starts (class.Key key.Delete ∷ []) ts ≡ true → reading delete ts ≡ took v rest → reading statement ts ≡ took (behind 4 (left v)) rest
delete_ok ts rest v s h = delete-leads ts s ∙ ap (λ o. mapped (λ v. behind 4 (left v)) o) h

pub delete_fails : (ts rest : List Token) (e : Failing) → starts (class.Key key.Delete ∷ []) ts ≡ true → Fails e (reading delete ts) rest → Fails e (reading statement ts) rest
delete_fails ts rest e s h =
    fails_as e (reading statement ts) (mapped (λ v. behind 4 (left v)) (reading delete ts)) rest (delete-leads ts s) (fails_on e (reading delete ts) (λ v rest. took (behind 4 (left v)) rest) rest h)

pub ruleset delete_form = (delete_ok, delete_fails)

-- ---- select

select-leads : Leads (class.Key key.Select) statement select (λ v. behind 5 (left v))
unfolding statement create drop_rule insert update delete select lock isolation autocommit commit rollback
select-leads = past (class.Key key.Select) (class.Key key.Create) _ _ _ _ refl refl (past (class.Key key.Select) (class.Key key.Drop) _ _ _ _ refl refl (past (class.Key key.Select) (class.Key key.Insert) _ _ _ _ refl refl (past (class.Key key.Select) (class.Key key.Update) _ _ _ _ refl refl (past (class.Key key.Select) (class.Key key.Delete) _ _ _ _ refl refl (here (class.Key key.Select) _ _ refl)))))

pub select_ok : (ts rest : List Token) (v : Parsed) → starts (class.Key key.Select ∷ []) ts ≡ true → reading select ts ≡ took v rest → reading statement ts ≡ took (behind 5 (left v)) rest
select_ok ts rest v s h = select-leads ts s ∙ ap (λ o. mapped (λ v. behind 5 (left v)) o) h

pub select_fails : (ts rest : List Token) (e : Failing) → starts (class.Key key.Select ∷ []) ts ≡ true → Fails e (reading select ts) rest → Fails e (reading statement ts) rest
select_fails ts rest e s h =
    fails_as e (reading statement ts) (mapped (λ v. behind 5 (left v)) (reading select ts)) rest (select-leads ts s) (fails_on e (reading select ts) (λ v rest. took (behind 5 (left v)) rest) rest h)

pub ruleset select_form = (select_ok, select_fails)

-- ---- lock

lock-leads : Leads (class.Name word.Lock) statement lock (λ v. behind 6 (left v))
unfolding statement create drop_rule insert update delete select lock isolation autocommit commit rollback
lock-leads = past (class.Name word.Lock) (class.Key key.Create) _ _ _ _ refl refl (past (class.Name word.Lock) (class.Key key.Drop) _ _ _ _ refl refl (past (class.Name word.Lock) (class.Key key.Insert) _ _ _ _ refl refl (past (class.Name word.Lock) (class.Key key.Update) _ _ _ _ refl refl (past (class.Name word.Lock) (class.Key key.Delete) _ _ _ _ refl refl (past (class.Name word.Lock) (class.Key key.Select) _ _ _ _ refl refl (here (class.Name word.Lock) _ _ refl))))))

pub lock_ok : (ts rest : List Token) (v : Parsed) → starts (class.Name word.Lock ∷ []) ts ≡ true → reading lock ts ≡ took v rest → reading statement ts ≡ took (behind 6 (left v)) rest
lock_ok ts rest v s h = lock-leads ts s ∙ ap (λ o. mapped (λ v. behind 6 (left v)) o) h

pub lock_fails : (ts rest : List Token) (e : Failing) → starts (class.Name word.Lock ∷ []) ts ≡ true → Fails e (reading lock ts) rest → Fails e (reading statement ts) rest
lock_fails ts rest e s h =
    fails_as e (reading statement ts) (mapped (λ v. behind 6 (left v)) (reading lock ts)) rest (lock-leads ts s) (fails_on e (reading lock ts) (λ v rest. took (behind 6 (left v)) rest) rest h)

pub ruleset lock_form = (lock_ok, lock_fails)

-- ---- isolation

isolation-leads : Leads (class.Key key.Set) statement isolation (λ v. behind 7 (left v))
unfolding statement create drop_rule insert update delete select lock isolation autocommit commit rollback
isolation-leads = past (class.Key key.Set) (class.Key key.Create) _ _ _ _ refl refl (past (class.Key key.Set) (class.Key key.Drop) _ _ _ _ refl refl (past (class.Key key.Set) (class.Key key.Insert) _ _ _ _ refl refl (past (class.Key key.Set) (class.Key key.Update) _ _ _ _ refl refl (past (class.Key key.Set) (class.Key key.Delete) _ _ _ _ refl refl (past (class.Key key.Set) (class.Key key.Select) _ _ _ _ refl refl (past (class.Key key.Set) (class.Name word.Lock) _ _ _ _ refl refl (here (class.Key key.Set) _ _ refl)))))))

pub isolation_ok : (ts rest : List Token) (v : Parsed) → starts (class.Key key.Set ∷ []) ts ≡ true → reading isolation ts ≡ took v rest → reading statement ts ≡ took (behind 7 (left v)) rest
isolation_ok ts rest v s h = isolation-leads ts s ∙ ap (λ o. mapped (λ v. behind 7 (left v)) o) h

pub isolation_fails : (ts rest : List Token) (e : Failing) → starts (class.Key key.Set ∷ []) ts ≡ true → Fails e (reading isolation ts) rest → Fails e (reading statement ts) rest
isolation_fails ts rest e s h =
    fails_as e (reading statement ts) (mapped (λ v. behind 7 (left v)) (reading isolation ts)) rest (isolation-leads ts s) (fails_on e (reading isolation ts) (λ v rest. took (behind 7 (left v)) rest) rest h)

pub ruleset isolation_form = (isolation_ok, isolation_fails)

-- ---- autocommit

autocommit-leads : Leads (class.Name word.Autocommit) statement autocommit (λ v. behind 8 (left v))
unfolding statement create drop_rule insert update delete select lock isolation autocommit commit rollback
autocommit-leads = past (class.Name word.Autocommit) (class.Key key.Create) _ _ _ _ refl refl (past (class.Name word.Autocommit) (class.Key key.Drop) _ _ _ _ refl refl (past (class.Name word.Autocommit) (class.Key key.Insert) _ _ _ _ refl refl (past (class.Name word.Autocommit) (class.Key key.Update) _ _ _ _ refl refl (past (class.Name word.Autocommit) (class.Key key.Delete) _ _ _ _ refl refl (past (class.Name word.Autocommit) (class.Key key.Select) _ _ _ _ refl refl (past (class.Name word.Autocommit) (class.Name word.Lock) _ _ _ _ refl refl (past (class.Name word.Autocommit) (class.Key key.Set) _ _ _ _ refl refl (here (class.Name word.Autocommit) _ _ refl))))))))

pub autocommit_ok : (ts rest : List Token) (v : Parsed) → starts (class.Name word.Autocommit ∷ []) ts ≡ true → reading autocommit ts ≡ took v rest → reading statement ts ≡ took (behind 8 (left v)) rest
autocommit_ok ts rest v s h = autocommit-leads ts s ∙ ap (λ o. mapped (λ v. behind 8 (left v)) o) h

pub autocommit_fails : (ts rest : List Token) (e : Failing) → starts (class.Name word.Autocommit ∷ []) ts ≡ true → Fails e (reading autocommit ts) rest → Fails e (reading statement ts) rest
autocommit_fails ts rest e s h =
    fails_as e (reading statement ts) (mapped (λ v. behind 8 (left v)) (reading autocommit ts)) rest (autocommit-leads ts s) (fails_on e (reading autocommit ts) (λ v rest. took (behind 8 (left v)) rest) rest h)

pub ruleset autocommit_form = (autocommit_ok, autocommit_fails)

-- ---- commit

commit-leads : Leads (class.Key key.Commit) statement commit (λ v. behind 9 (left v))
unfolding statement create drop_rule insert update delete select lock isolation autocommit commit rollback
commit-leads = past (class.Key key.Commit) (class.Key key.Create) _ _ _ _ refl refl (past (class.Key key.Commit) (class.Key key.Drop) _ _ _ _ refl refl (past (class.Key key.Commit) (class.Key key.Insert) _ _ _ _ refl refl (past (class.Key key.Commit) (class.Key key.Update) _ _ _ _ refl refl (past (class.Key key.Commit) (class.Key key.Delete) _ _ _ _ refl refl (past (class.Key key.Commit) (class.Key key.Select) _ _ _ _ refl refl (past (class.Key key.Commit) (class.Name word.Lock) _ _ _ _ refl refl (past (class.Key key.Commit) (class.Key key.Set) _ _ _ _ refl refl (past (class.Key key.Commit) (class.Name word.Autocommit) _ _ _ _ refl refl (here (class.Key key.Commit) _ _ refl)))))))))

pub commit_ok : (ts rest : List Token) (v : Parsed) → starts (class.Key key.Commit ∷ []) ts ≡ true → reading commit ts ≡ took v rest → reading statement ts ≡ took (behind 9 (left v)) rest
commit_ok ts rest v s h = commit-leads ts s ∙ ap (λ o. mapped (λ v. behind 9 (left v)) o) h

pub commit_fails : (ts rest : List Token) (e : Failing) → starts (class.Key key.Commit ∷ []) ts ≡ true → Fails e (reading commit ts) rest → Fails e (reading statement ts) rest
commit_fails ts rest e s h =
    fails_as e (reading statement ts) (mapped (λ v. behind 9 (left v)) (reading commit ts)) rest (commit-leads ts s) (fails_on e (reading commit ts) (λ v rest. took (behind 9 (left v)) rest) rest h)

pub ruleset commit_form = (commit_ok, commit_fails)

whole : (c : Class) (r : Rule) → Leads c r r (λ v. v)
whole c r ts s = own (reading r ts)
  where
    own : (o : Outcome) → o ≡ mapped (λ v. v) o
    own (took v rest) = refl
    own (wrong rest) = refl
    own (deep rest) = refl

-- ---- rollback

rollback-leads : Leads (class.Key key.Rollback) statement rollback (λ v. behind 10 v)
unfolding statement create drop_rule insert update delete select lock isolation autocommit commit rollback
rollback-leads = past (class.Key key.Rollback) (class.Key key.Create) _ _ _ _ refl refl (past (class.Key key.Rollback) (class.Key key.Drop) _ _ _ _ refl refl (past (class.Key key.Rollback) (class.Key key.Insert) _ _ _ _ refl refl (past (class.Key key.Rollback) (class.Key key.Update) _ _ _ _ refl refl (past (class.Key key.Rollback) (class.Key key.Delete) _ _ _ _ refl refl (past (class.Key key.Rollback) (class.Key key.Select) _ _ _ _ refl refl (past (class.Key key.Rollback) (class.Name word.Lock) _ _ _ _ refl refl (past (class.Key key.Rollback) (class.Key key.Set) _ _ _ _ refl refl (past (class.Key key.Rollback) (class.Name word.Autocommit) _ _ _ _ refl refl (past (class.Key key.Rollback) (class.Key key.Commit) _ _ _ _ refl refl (whole (class.Key key.Rollback) rollback))))))))))

pub rollback_ok : (ts rest : List Token) (v : Parsed) → starts (class.Key key.Rollback ∷ []) ts ≡ true → reading rollback ts ≡ took v rest → reading statement ts ≡ took (behind 10 v) rest
rollback_ok ts rest v s h = rollback-leads ts s ∙ ap (λ o. mapped (λ v. behind 10 v) o) h

pub rollback_fails : (ts rest : List Token) (e : Failing) → starts (class.Key key.Rollback ∷ []) ts ≡ true → Fails e (reading rollback ts) rest → Fails e (reading statement ts) rest
rollback_fails ts rest e s h =
    fails_as e (reading statement ts) (mapped (λ v. behind 10 v) (reading rollback ts)) rest (rollback-leads ts s) (fails_on e (reading rollback ts) (λ v rest. took (behind 10 v) rest) rest h)

pub ruleset rollback_form = (rollback_ok, rollback_fails)

-- ---- no form begins so

pub no_form : (ts : List Token) →
    starts (class.Key key.Create ∷ []) ts ≡ false →
    starts (class.Key key.Drop ∷ []) ts ≡ false →
    starts (class.Key key.Insert ∷ []) ts ≡ false →
    starts (class.Key key.Update ∷ []) ts ≡ false →
    starts (class.Key key.Delete ∷ []) ts ≡ false →
    starts (class.Key key.Select ∷ []) ts ≡ false →
    starts (class.Name word.Lock ∷ []) ts ≡ false →
    starts (class.Key key.Set ∷ []) ts ≡ false →
    starts (class.Name word.Autocommit ∷ []) ts ≡ false →
    starts (class.Key key.Commit ∷ []) ts ≡ false →
    starts (class.Key key.Rollback ∷ []) ts ≡ false →
    reading statement ts ≡ wrong ts
unfolding statement create drop_rule insert update delete select lock isolation autocommit commit rollback
no_form ts h0 h1 h2 h3 h4 h5 h6 h7 h8 h9 h10 =
    right_fails _ _ ts ts failing.Wrong h0
    (right_fails _ _ ts ts failing.Wrong h1
    (right_fails _ _ ts ts failing.Wrong h2
    (right_fails _ _ ts ts failing.Wrong h3
    (right_fails _ _ ts ts failing.Wrong h4
    (right_fails _ _ ts ts failing.Wrong h5
    (right_fails _ _ ts ts failing.Wrong h6
    (right_fails _ _ ts ts failing.Wrong h7
    (right_fails _ _ ts ts failing.Wrong h8
    (right_fails _ _ ts ts failing.Wrong h9
    (silent_fails _ ts ts failing.Wrong (order_first _ _ _ ts ts failing.Wrong (this_wrong ts (class.Key key.Rollback) h10))))))))))))
