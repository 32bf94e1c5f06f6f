-- Steps and lines, put together one at a time.
use Rattle.std.proofs.Common.{◌≡◌, ℕ, zero, suc, ◌+◌, ◌<◌, ◌≤◌, List, [], ◌∷◌, ◌++◌, length, take, drop, get_or, Bool, true, false, refl, sym, ◌∙◌, ap, subst, arith, Option, Some, None}
use Rattle.std.specs.Prelude.{IfSome}
use Rattle.store_api.specs.View.{View}
use Rattle.journal_model.specs.declared.journal.Entry.{Entry}
use Rattle.session_engine.specs.declared.next.Next.{Next}
use Rattle.session_engine.specs.Stepped.{Grows, HasEnded, HasStopped as IsStopped, stop_after}
use Rattle.session_engine.specs.declared.step.Event.{Event}
use Rattle.session_engine.specs.declared.step.Stop.{Stop}
use Rattle.session_engine.specs.declared.step.Step.{Step}
use Rattle.session_engine.specs.declared.step.Step.TheVariants.{Went, Blocked, Answered, Stopped, Ended, Memory as NoMemory}
use Rattle.step_plan.specs.declared.plan.StepLine.{StepLine}
use Rattle.plan_walk.specs.declared.walk.Walked.{Walked}
use Rattle.plan_walk.specs.declared.walk.Walked.TheVariants.{Whole, Stopped as HasStopped, Memory}
use Rattle.plan_walk.specs.Walk.{IsStep, AreFew, Goes, Leaves, Seen, seen, IsLine, EndsLine, Walks, Halts, IsWalk, HasCause, halt_of, pauses, stop_behind, stop_left}

-- a step that doesn't pause went
goes_more : (scripts : List (List ℕ)) (c k : ℕ) (old mid new : Seen) (answer : Step) → Goes scripts c k old mid → IsStep scripts c mid new answer → pauses answer ≡ false → Goes scripts c (suc k) old new
goes_more scripts c k old mid new (Went event) goes step is = (mid, event, goes, step)
goes_more scripts c k old mid new (Blocked why) goes step is = absurd (let x : true ≡ false = is in cc)
goes_more scripts c k old mid new Answered goes step is = absurd (let x : true ≡ false = is in cc)
goes_more scripts c k old mid new Ended goes step is = absurd (let x : true ≡ false = is in cc)
goes_more scripts c k old mid new (Stopped s) goes step is = absurd (let x : true ≡ false = is in cc)
goes_more scripts c k old mid new NoMemory goes step is = absurd (let x : true ≡ false = is in cc)

pub goes_one_more : (scripts : List (List ℕ)) (c k : ℕ) (old mid new : Seen) (answer : Step) → Goes scripts c k old mid → IsStep scripts c mid new answer → pauses answer ≡ false → Goes scripts c (k + 1) old new
goes_one_more scripts c k old mid new answer goes step is = subst (λ (n : ℕ). Goes scripts c n old new) (let e : suc k ≡ k + 1 = omega arith in e) (goes_more scripts c k old mid new answer goes step is)

pub line_done : (scripts : List (List ℕ)) (line : StepLine) (k : ℕ) (old new : Seen) → Goes scripts line.connection k old new → k ≡ line.steps → IsLine scripts line old new None
line_done scripts line k old new goes all = record { went = k; mid = new; goes = goes; ends = (all, refl) }

pub line_paused : (scripts : List (List ℕ)) (line : StepLine) (k : ℕ) (old mid new : Seen) (told : Step) → Goes scripts line.connection k old mid → k < line.steps → pauses told ≡ true
    → IsStep scripts line.connection mid new told → IsLine scripts line old new (Some told)
line_paused scripts line k old mid new told goes less is step = record { went = k; mid = mid; goes = goes; ends = (less, is, step) }

-- one line more
pub walks_more : (scripts : List (List ℕ)) (lines : List StepLine) (line : StepLine) (old mid new : Seen) (last : Option Step) → Walks scripts lines old mid → IsLine scripts line mid new last → halt_of last ≡ None → Walks scripts (lines ++ line ∷ []) old new
walks_more scripts [] line old mid new last walks is goes = (new, last, subst (λ (es : Seen). IsLine scripts line es new last) walks is, goes, refl)
walks_more scripts (l ∷ ls) line old mid new last walks is goes = (walks.0, walks.1, walks.2, walks.3, walks_more scripts ls line walks.0 mid new last walks.4 is goes)

-- a list up to a place, and what stands there
parts : (xs : List StepLine) (i : ℕ) (d : StepLine) → i < length xs → xs ≡ take i xs ++ get_or xs i d ∷ drop (suc i) xs
parts [] i d lt = absurd (omega arith)
parts (y ∷ ys) zero d lt = refl
parts (y ∷ ys) (suc i) d lt = ap (λ zs. y ∷ zs) (parts ys i d (omega arith))

take_suc : (xs : List StepLine) (i : ℕ) (d : StepLine) → i < length xs → take (suc i) xs ≡ take i xs ++ get_or xs i d ∷ []
take_suc [] i d lt = absurd (omega arith)
take_suc (y ∷ ys) zero d lt = refl
take_suc (y ∷ ys) (suc i) d lt = ap (λ zs. y ∷ zs) (take_suc ys i d (omega arith))

take_more : (xs : List StepLine) (i : ℕ) (d : StepLine) → i < length xs → take (i + 1) xs ≡ take i xs ++ get_or xs i d ∷ []
take_more xs i d lt = ap (λ n. take n xs) (let e : i + 1 ≡ suc i = omega arith in e) ∙ take_suc xs i d lt

walks_next : (scripts : List (List ℕ)) (lines : List StepLine) (i : ℕ) (d : StepLine) (old mid new : Seen) (last : Option Step) → i < length lines
    → Walks scripts (take i lines) old mid → IsLine scripts (get_or lines i d) mid new last → halt_of last ≡ None → Walks scripts (take (i + 1) lines) old new
walks_next scripts lines i d old mid new last lt walks is goes =
    subst (λ (ls : List StepLine). Walks scripts ls old new) (sym (take_more lines i d lt)) (walks_more scripts (take i lines) (get_or lines i d) old mid new last walks is goes)

walk_halts : (scripts : List (List ℕ)) (lines : List StepLine) (i : ℕ) (d : StepLine) (old mid new : Seen) (last : Option Step) (how : Walked) → i < length lines
    → Walks scripts (take i lines) old mid → IsLine scripts (get_or lines i d) mid new last → halt_of last ≡ Some how → Halts scripts lines old new how
walk_halts scripts lines i d old mid new last how lt walks is halts = record {
  before = take i lines;
  line = get_or lines i d;
  behind = drop (suc i) lines;
  lines_are = parts lines i d lt;
  mid = mid;
  walks = walks;
  last = last;
  halts = is;
  how_is = halts;
}

-- the walk ends with the line that ended so
never_whole : (last : Option Step) → halt_of last ≡ Some Whole → ⊥
never_whole None e = let x : None ≡ Some Whole = e in cc
never_whole (Some (Went event)) e = let x : None ≡ Some Whole = e in cc
never_whole (Some (Blocked why)) e = let x : None ≡ Some Whole = e in cc
never_whole (Some Answered) e = let x : None ≡ Some Whole = e in cc
never_whole (Some Ended) e = let x : None ≡ Some Whole = e in cc
never_whole (Some (Stopped s)) e = let x : Some (HasStopped s) ≡ Some Whole = e in cc
never_whole (Some NoMemory) e = let x : Some Memory ≡ Some Whole = e in cc

walk_ends : (scripts : List (List ℕ)) (lines : List StepLine) (i : ℕ) (d : StepLine) (old mid new : Seen) (last : Option Step) (how : Walked) → i < length lines
    → Walks scripts (take i lines) old mid → IsLine scripts (get_or lines i d) mid new last → halt_of last ≡ Some how → IsWalk scripts lines old new how
walk_ends scripts lines i d old mid new last Whole lt walks is halts = absurd (never_whole last halts)
walk_ends scripts lines i d old mid new last (HasStopped s) lt walks is halts = walk_halts scripts lines i d old mid new last (HasStopped s) lt walks is halts
walk_ends scripts lines i d old mid new last Memory lt walks is halts = walk_halts scripts lines i d old mid new last Memory lt walks is halts

pub not_some : (last : Option Step) (h : Option Walked) → h ≡ halt_of last → ((how : Walked) → h ≡ Some how → ⊥) → halt_of last ≡ None
not_some last None is ne = sym is
not_some last (Some how) is ne = absurd (ne how refl)

-- with what the call of a line says, of the engine's own scripts
goes_on_with : (scripts own : List (List ℕ)) (lines : List StepLine) (i : ℕ) (d line : StepLine) (old mid new : Seen) (last : Option Step) → IsLine own line mid new last → line ≡ get_or lines i d → own ≡ scripts → i < length lines
    → Walks scripts (take i lines) old mid → halt_of last ≡ None → Walks scripts (take (i + 1) lines) old new
goes_on_with scripts own lines i d line old mid new last is at same lt walks goes =
    walks_next scripts lines i d old mid new last lt walks (subst (λ (l : StepLine). IsLine scripts l mid new last) at (subst (λ (ss : List (List ℕ)). IsLine ss line mid new last) same is)) goes

ends_with : (scripts own : List (List ℕ)) (lines : List StepLine) (i : ℕ) (d line : StepLine) (old mid new : Seen) (last : Option Step) (how : Walked) → IsLine own line mid new last → line ≡ get_or lines i d → own ≡ scripts → i < length lines
    → Walks scripts (take i lines) old mid → halt_of last ≡ Some how → IsWalk scripts lines old new how
ends_with scripts own lines i d line old mid new last how is at same lt walks halts =
    walk_ends scripts lines i d old mid new last how lt walks (subst (λ (l : StepLine). IsLine scripts l mid new last) at (subst (λ (ss : List (List ℕ)). IsLine ss line mid new last) same is)) halts

-- a step that doesn't pause leaves the engine as it was in what it has stopped for
pub goes_unstopped : (answer : Step) (old : Option Stop) → pauses answer ≡ false → stop_after answer old ≡ old
goes_unstopped (Went event) old is = refl
goes_unstopped (Blocked why) old is = refl
goes_unstopped Answered old is = refl
goes_unstopped Ended old is = refl
goes_unstopped (Stopped s) old is = absurd (let x : true ≡ false = is in cc)
goes_unstopped NoMemory old is = refl

-- and so does a line with which the walk goes on
pub line_unstopped : (last : Option Step) (old : Option Stop) → halt_of last ≡ None → stop_behind last old ≡ old
line_unstopped None old is = refl
line_unstopped (Some (Went event)) old is = refl
line_unstopped (Some (Blocked why)) old is = refl
line_unstopped (Some Answered) old is = refl
line_unstopped (Some Ended) old is = refl
line_unstopped (Some (Stopped s)) old is = let x : Some (HasStopped s) ≡ None = is in cc
line_unstopped (Some NoMemory) old is = refl

-- the walk has stopped for what its last line has
pub stops_as : (last : Option Step) (how : Walked) (old : Option Stop) → halt_of last ≡ Some how → stop_behind last old ≡ stop_left how old
stops_as None how old is = let x : None ≡ Some how = is in cc
stops_as (Some (Went event)) how old is = let x : None ≡ Some how = is in cc
stops_as (Some (Blocked why)) how old is = let x : None ≡ Some how = is in cc
stops_as (Some Answered) how old is = let x : None ≡ Some how = is in cc
stops_as (Some Ended) how old is = let x : None ≡ Some how = is in cc
stops_as (Some (Stopped s)) how old is = subst (λ (w : Walked). Some s ≡ stop_left w old) (let x : Some (HasStopped s) ≡ Some how = is in let y : HasStopped s ≡ how = cc in y) refl
stops_as (Some NoMemory) how old is = subst (λ (w : Walked). old ≡ stop_left w old) (let x : Some Memory ≡ Some how = is in let y : Memory ≡ how = cc in y) refl

pub caused_as : (last : Option Step) (how : Walked) (v : View) → halt_of last ≡ Some how → IfSome last (λ answer. IsStopped answer v) → HasCause how v
caused_as None how v is shown = let x : None ≡ Some how = is in cc
caused_as (Some (Went event)) how v is shown = let x : None ≡ Some how = is in cc
caused_as (Some (Blocked why)) how v is shown = let x : None ≡ Some how = is in cc
caused_as (Some Answered) how v is shown = let x : None ≡ Some how = is in cc
caused_as (Some Ended) how v is shown = let x : None ≡ Some how = is in cc
caused_as (Some (Stopped s)) how v is shown = subst (λ (w : Walked). HasCause w v) (let x : Some (HasStopped s) ≡ Some how = is in let y : HasStopped s ≡ how = cc in y) shown
caused_as (Some NoMemory) how v is shown = subst (λ (w : Walked). HasCause w v) (let x : Some Memory ≡ Some how = is in let y : Memory ≡ how = cc in y) tt

-- THE SAME of an engine, whatever was counted before: from one state of it to another
abbrev pub Does : (P : Seen → Seen → Type 0) (es es' : List Entry) (ns ns' : List Next) (v v' : View) → Type 0
Does P es es' ns ns' v v' = (ways : ℕ → ℕ) → AreFew ways ns v → Leaves (λ new. P (seen es ns v ways) new) es' ns' v'

-- one thing behind another
pub then_does : (P Q R : Seen → Seen → Type 0) (es mid es' : List Entry) (ns ms ns' : List Next) (v u v' : View) → ((old new last : Seen) → P old new → Q new last → R old last) → Does P es mid ns ms v u → Does Q mid es' ms ns' u v' → Does R es es' ns ns' v v'
then_does P Q R es mid es' ns ms ns' v u v' join first second = λ ways few.
    let one = first ways few in
    let two = second one.ways one.few in
    record { ways = two.ways; few = two.few; does = join (seen es ns v ways) (seen mid ms u one.ways) (seen es' ns' v' two.ways) one.does two.does }

pub turn_does : (P R : Seen → Seen → Type 0) (es es' : List Entry) (ns ns' : List Next) (v v' : View) → ((old new : Seen) → P old new → R old new) → Does P es es' ns ns' v v' → Does R es es' ns ns' v v'
turn_does P R es es' ns ns' v v' turn h = λ ways few.
    let one = h ways few in
    record { ways = one.ways; few = one.few; does = turn (seen es ns v ways) (seen es' ns' v' one.ways) one.does }

pub starts : (scripts : List (List ℕ)) (c : ℕ) (es : List Entry) (ns : List Next) (v : View) → Does (λ old new. Goes scripts c 0 old new) es es ns ns v v
starts scripts c es ns v = λ ways few. record { ways = ways; few = few; does = refl }

pub starts_walk : (scripts : List (List ℕ)) (es : List Entry) (ns : List Next) (v : View) → Does (λ old new. Walks scripts [] old new) es es ns ns v v
starts_walk scripts es ns v = λ ways few. record { ways = ways; few = few; does = refl }

-- a line with which the walk goes on, and one with which it ends
pub goes_does : (scripts own : List (List ℕ)) (lines : List StepLine) (i : ℕ) (d line : StepLine) (last : Option Step) (es mid es' : List Entry) (ns ms ns' : List Next) (v u v' : View)
    → Does (λ old new. IsLine own line old new last) mid es' ms ns' u v' → line ≡ get_or lines i d → own ≡ scripts → i < length lines → halt_of last ≡ None
    → Does (λ old new. Walks scripts (take i lines) old new) es mid ns ms v u → Does (λ old new. Walks scripts (take (i + 1) lines) old new) es es' ns ns' v v'
goes_does scripts own lines i d line last es mid es' ns ms ns' v u v' goes at same lt on walks =
    then_does (λ old new. Walks scripts (take i lines) old new) (λ old new. IsLine own line old new last) (λ old new. Walks scripts (take (i + 1) lines) old new) es mid es' ns ms ns' v u v'
    (λ old between new w s. goes_on_with scripts own lines i d line old between new last s at same lt w on) walks goes

pub ends_does : (scripts own : List (List ℕ)) (lines : List StepLine) (i : ℕ) (d line : StepLine) (last : Option Step) (how : Walked) (es mid es' : List Entry) (ns ms ns' : List Next) (v u v' : View)
    → Does (λ old new. IsLine own line old new last) mid es' ms ns' u v' → line ≡ get_or lines i d → own ≡ scripts → i < length lines → halt_of last ≡ Some how
    → Does (λ old new. Walks scripts (take i lines) old new) es mid ns ms v u → Does (λ old new. IsWalk scripts lines old new how) es es' ns ns' v v'
ends_does scripts own lines i d line last how es mid es' ns ms ns' v u v' ends at same lt halts walks =
    then_does (λ old new. Walks scripts (take i lines) old new) (λ old new. IsLine own line old new last) (λ old new. IsWalk scripts lines old new how) es mid es' ns ms ns' v u v'
    (λ old between new w s. ends_with scripts own lines i d line old between new last how s at same lt w halts) walks ends
