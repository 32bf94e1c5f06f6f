-- Digits and lines, read one byte after the other.
use Rattle.std.proofs.Common.{◌≡◌, ◌+◌, ◌-◌, ◌<◌, ◌≤◌, ℕ, suc, List, [], ◌∷◌, ◌++◌, length, take, drop, get_or, drop-cons, length-drop, Bool, true, false, refl, sym, ap, subst, ◌∙◌, Option, Some, None, Ok, Err, append-nil, append_assoc, arith}
use Rattle.std.specs.Prelude.{Result, if◌then◌else◌, ◌==◌, ◌&&◌, nat_le, slice_range}
use Rattle.std.specs.Option.{IsSomeAnd}
use Rattle.std.proofs.lemmas.Bool.Decides.{nat_tests}
use Rattle.std.proofs.lemmas.List.{take_more, drop_more, get_or-drop, drop_all}
use Rattle.step_plan.specs.declared.plan.StepLine.{StepLine}
use Rattle.step_plan.specs.declared.plan.PlanError.{PlanError}
use Rattle.step_plan.specs.declared.plan.PlanError.TheVariants.{Malformed, Memory}
use Rattle.step_plan.specs.Plan.{is_digit, with_digit, number_from, number_of, within, before_blank, behind_blank, line_of, lines_from, with_line, plan_from, plan_of, behind_found, ReadsLine, StopsAt}

-- a number past the greatest one stays so
within_if : (least most : ℕ) (goes_on : Bool) (n : Option ℕ) → within least most n ≡ None → within least most (if goes_on then n else None) ≡ None
within_if least most true n h = h
within_if least most false n h = refl

past : (least most n : ℕ) → most < n → within least most (Some n) ≡ None
past least most n h = grind (arith, nat_tests)

pub number_past : (least most n : ℕ) (bs : List ℕ) → most < n → within least most (number_from n bs) ≡ None
number_past least most n [] h = past least most n h
number_past least most n (b ∷ bs) h = within_if least most (is_digit b) (number_from (with_digit n b) bs) (number_past least most (with_digit n b) bs (omega arith))

-- a byte more of a number
next_digit : (n i : ℕ) (bs : List ℕ) → i < length bs → number_from n (drop i bs) ≡ (if is_digit (get_or bs i 0) then number_from (with_digit n (get_or bs i 0)) (drop (suc i) bs) else None)
next_digit n i bs h = ap (number_from n) (drop-cons bs i 0 h)

pub number_stops : (least most n i : ℕ) (bs : List ℕ) → i < length bs → is_digit (get_or bs i 0) ≡ false → within least most (number_from n (drop i bs)) ≡ None
number_stops least most n i bs h no_digit = ap (within least most) (next_digit n i bs h ∙ ap (λ t. if t then number_from (with_digit n (get_or bs i 0)) (drop (suc i) bs) else None) no_digit)

pub number_goes_on : (n i : ℕ) (bs : List ℕ) → i < length bs → is_digit (get_or bs i 0) ≡ true → number_from n (drop i bs) ≡ number_from (with_digit n (get_or bs i 0)) (drop (suc i) bs)
number_goes_on n i bs h digit = next_digit n i bs h ∙ ap (λ t. if t then number_from (with_digit n (get_or bs i 0)) (drop (suc i) bs) else None) digit

pub number_nonempty : (bs : List ℕ) → 0 < length bs → number_from 0 bs ≡ number_of bs
number_nonempty [] h = absurd (omega (arith, h))
number_nonempty (b ∷ bs) h = refl

-- the blank was found
pub blank_found : (i : ℕ) (line : List ℕ) → i < length line → get_or line i 0 ≡ 32 → take i line ++ before_blank (drop i line) ≡ before_blank line → take i line ≡ before_blank line
blank_found i line h e before =
    sym (append-nil (take i line))
    ∙ ap (λ xs. take i line ++ xs) (sym (ap before_blank (drop-cons line i 0 h) ∙ ap (λ b. if b == 32 then [] else b ∷ before_blank (drop (suc i) line)) e)) ∙ before

pub behind_found_blank : (i : ℕ) (line : List ℕ) → i < length line → get_or line i 0 ≡ 32 → behind_blank (drop i line) ≡ behind_blank line → drop (suc i) line ≡ behind_blank line
behind_found_blank i line h e behind =
    sym (ap behind_blank (drop-cons line i 0 h) ∙ ap (λ b. if b == 32 then drop (suc i) line else behind_blank (drop (suc i) line)) e) ∙ behind

-- a line is put behind those found
put_found : (number : ℕ) (step : Option StepLine) (old new : List StepLine) (rest : Result (List StepLine) ℕ) → IsSomeAnd step (λ s. new ≡ old ++ s ∷ []) → behind_found old (with_line number step rest) ≡ behind_found new rest
put_found number None old new rest h = absurd h
put_found number (Some s) old new (Ok ls) h = ap Ok (sym (append_assoc old (s ∷ []) ls) ∙ ap (λ xs. xs ++ ls) (sym h))
put_found number (Some s) old new (Err m) h = refl

pub line_put : (scripts number : ℕ) (line : List ℕ) (old new : List StepLine) (u : Unit {0}) (lines : List (List ℕ)) → ReadsLine scripts number line old new (Ok u)
    → behind_found old (plan_from scripts number (line ∷ lines)) ≡ behind_found new (plan_from scripts (number + 1) lines)
line_put scripts number [] old new u lines h = ap (λ xs. behind_found xs (plan_from scripts (number + 1) lines)) (sym h)
line_put scripts number (b ∷ bs) old new u lines h = put_found number (line_of scripts (b ∷ bs)) old new (plan_from scripts (number + 1) lines) h

-- or it ends the reading
pub line_stops : (scripts number : ℕ) (line : List ℕ) (old new : List StepLine) (e : PlanError) (lines : List (List ℕ)) → ReadsLine scripts number line old new (Err e)
    → StopsAt e (behind_found old (plan_from scripts number (line ∷ lines)))
line_stops scripts number [] old new e lines h = absurd h
line_stops scripts number (b ∷ bs) old new Memory lines h = tt
line_stops scripts number (b ∷ bs) old new (Malformed l) lines h =
    ap (λ s. behind_found old (with_line number s (plan_from scripts (number + 1) lines))) h.1 ∙ ap Err (sym h.0)

-- digits whose front is past the greatest number spell none up to it
pub past_number : (least most n i : ℕ) (bs : List ℕ) → i < length bs → is_digit (get_or bs i 0) ≡ true → number_from n (drop i bs) ≡ number_of bs → most < with_digit n (get_or bs i 0) → None ≡ within least most (number_of bs)
past_number least most n i bs h digit e far =
    sym (ap (within least most) (sym e ∙ number_goes_on n i bs h digit) ∙ number_past least most (with_digit n (get_or bs i 0)) (drop (suc i) bs) far)

-- one byte more of a text
lines_more : (line : List ℕ) (i : ℕ) (text : List ℕ) → i < length text
    → lines_from line (drop i text) ≡ (if get_or text i 0 == 10 then line ∷ lines_from [] (drop (i + 1) text) else lines_from (line ++ get_or text i 0 ∷ []) (drop (i + 1) text))
lines_more line i text h = ap (lines_from line) (drop_more text i 0 h)

slice_none : (text : List ℕ) (i : ℕ) → slice_range text i i ≡ []
slice_none text i = let e : i - i ≡ 0 = omega arith in ap (λ k. take k (drop i text)) e

slice_more : (text : List ℕ) (from i : ℕ) → from ≤ i → i < length text → slice_range text from (i + 1) ≡ slice_range text from i ++ get_or text i 0 ∷ []
slice_more text from i le lt =
    let far : (i + 1) - from ≡ (i - from) + 1 = omega arith in
    let here : from + (i - from) ≡ i = omega arith in
    let short : i - from < length (drop from text) = omega (arith, length-drop from text) in
    ap (λ k. take k (drop from text)) far ∙ take_more (drop from text) (i - from) 0 short
    ∙ ap (λ b. take (i - from) (drop from text) ++ b ∷ []) (get_or-drop from text (i - from) 0 ∙ ap (λ k. get_or text k 0) here)

-- a line feed ends a line
pub line_feed : (scripts number from i : ℕ) (text : List ℕ) (old new : List StepLine) (all : Result (List StepLine) ℕ) (u : Unit {0}) → i < length text → get_or text i 0 ≡ 10
    → ReadsLine scripts number (slice_range text from i) old new (Ok u)
    → behind_found old (plan_from scripts number (lines_from (slice_range text from i) (drop i text))) ≡ all
    → behind_found new (plan_from scripts (number + 1) (lines_from (slice_range text (i + 1) (i + 1)) (drop (i + 1) text))) ≡ all
line_feed scripts number from i text old new all u lt feed reads h =
    let line = slice_range text from i in
    let rest = drop (i + 1) text in
    let ends : lines_from line (drop i text) ≡ line ∷ lines_from [] rest = lines_more line i text lt ∙ ap (λ b. if b == 10 then line ∷ lines_from [] rest else lines_from (line ++ b ∷ []) rest) feed in
    ap (λ l. behind_found new (plan_from scripts (number + 1) (lines_from l rest))) (slice_none text (i + 1))
    ∙ sym (line_put scripts number line old new u (lines_from [] rest) reads)
    ∙ ap (λ ls. behind_found old (plan_from scripts number ls)) (sym ends) ∙ h

-- any other byte stands within one
other_if : (line : List ℕ) (b : ℕ) (rest : List ℕ) (t : Bool) → t ≡ false → (if t then line ∷ lines_from [] rest else lines_from (line ++ b ∷ []) rest) ≡ lines_from (line ++ b ∷ []) rest
other_if line b rest true e = cc
other_if line b rest false e = refl

pub other_byte : (scripts number from i : ℕ) (text : List ℕ) (old : List StepLine) (all : Result (List StepLine) ℕ) → from ≤ i → i < length text → (get_or text i 0 ≡ 10 → ⊥)
    → behind_found old (plan_from scripts number (lines_from (slice_range text from i) (drop i text))) ≡ all
    → behind_found old (plan_from scripts number (lines_from (slice_range text from (i + 1)) (drop (i + 1) text))) ≡ all
other_byte scripts number from i text old all le lt differs h =
    let other : (get_or text i 0 == 10) ≡ false = grind (arith, nat_tests, differs) in
    let line = slice_range text from i in
    let rest = drop (i + 1) text in
    ap (λ l. behind_found old (plan_from scripts number (lines_from l rest))) (slice_more text from i le lt)
    ∙ ap (λ ls. behind_found old (plan_from scripts number ls)) (sym (lines_more line i text lt ∙ other_if line (get_or text i 0) rest (get_or text i 0 == 10) other)) ∙ h

-- the last line
pub last_line : (scripts number from i : ℕ) (text : List ℕ) (old new : List StepLine) (all : Result (List StepLine) ℕ) (u : Unit {0}) → i ≡ length text
    → ReadsLine scripts number (slice_range text from (length text)) old new (Ok u)
    → behind_found old (plan_from scripts number (lines_from (slice_range text from i) (drop i text))) ≡ all
    → all ≡ Ok new
last_line scripts number from i text old new all u end reads h =
    let line = slice_range text from i in
    let past : length text ≤ i = omega arith in
    let put : ReadsLine scripts number line old new (Ok u) = subst (λ (k : ℕ). ReadsLine scripts number (slice_range text from k) old new (Ok u)) (sym end) reads in
    sym h ∙ ap (λ xs. behind_found old (plan_from scripts number (lines_from line xs))) (drop_all i text past)
    ∙ line_put scripts number line old new u [] put ∙ ap Ok (append-nil new)
