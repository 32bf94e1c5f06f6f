-- The command of tokens, read one after the other.
use Rattle.std.proofs.Common.{◌≡◌, ◌+◌, ◌<◌, ◌≤◌, ℕ, List, [], ◌∷◌, ◌++◌, length, drop, get_or, Bool, true, false, refl, sym, ap, subst, ◌∙◌, Option, Some, None, arith}
use Rattle.std.specs.Prelude.{codes, if◌then◌else◌, slice_range, ◌&&◌}
use Rattle.std.proofs.lemmas.List.{drop_more, drop_all}
use Rattle.sql_lexer.specs.declared.reading.Reading.{Reading}
use Rattle.sql_lexer.specs.declared.reading.Reading.TheVariants.{Between}
use Rattle.sql_lexer.specs.declared.token.Token.{Token}
use Rattle.sql_lexer.specs.declared.token.TokenKind.{TokenKind}
use Rattle.sql_lexer.specs.Reading.{reading_after, is_open}
use Rattle.sql_lexer.specs.Tokens.{tokens_from, tokens_of, token_where, token_of, token_begin, ends_token}
use Rattle.sql_forms.specs.Words.{is_word}
use Rattle.sql_commands.specs.declared.command.Command.{Command}
use Rattle.sql_commands.specs.declared.command.Command.TheVariants.{Commit, Rollback, Autocommit}
use Rattle.sql_commands.specs.Commands.{command_of, command_in, ended, switched, leveled, level_set, current_set, level_in, is_equal_sign}
use Rattle.command_reader.specs.declared.state.State.{State}
use Rattle.command_reader.specs.declared.state.State.TheVariants.{Start, Ended, Closed, Switching, Setting, Current, Isolating, Leveled}
use Rattle.command_reader.specs.States.{after, after_all, after_where, told}

-- what is told behind all tokens
abbrev result : State → List Token → Option Command
result s ts = told (after_all s ts)

closed : (ts : List Token) → result (Closed None) ts ≡ None
closed [] = refl
closed (t ∷ ts) = closed ts

-- a choice of a state is a choice of what is told
chosen : (t : Bool) (x y : State) (ts : List Token) (a b : Option Command) → result x ts ≡ a → result y ts ≡ b → result (if t then x else y) ts ≡ (if t then a else b)
chosen true x y ts a b h k = h
chosen false x y ts a b h k = k

ends : (c : Command) (ts : List Token) → result (Ended c) ts ≡ ended c ts
ends c [] = refl
ends c (t ∷ []) = chosen (is_word (codes "WORK") t.kind) (Closed (Some c)) (Closed None) [] (Some c) None refl refl
ends c (t ∷ u ∷ ts) = if_closed (is_word (codes "WORK") t.kind)
  where
    if_closed : (b : Bool) → result (if b then Closed (Some c) else Closed None) (u ∷ ts) ≡ None
    if_closed true = closed ts
    if_closed false = closed ts

switches : (ts : List Token) → result Switching ts ≡ switched ts
switches [] = refl
switches (t ∷ []) = refl
switches (t ∷ u ∷ ts) = closed ts

levels : (ts : List Token) → result Isolating ts ≡ leveled ts
levels [] = refl
levels (t ∷ []) = refl
levels (t ∷ u ∷ []) = refl
levels (t ∷ u ∷ v ∷ ts) = closed ts

currents : (ts : List Token) → result Current ts ≡ current_set ts
currents [] = refl
currents (t ∷ ts) = chosen (is_word (codes "ISOLATION") t.kind) Isolating (Closed None) ts (leveled ts) None (levels ts) (closed ts)

sets : (ts : List Token) → result Setting ts ≡ level_set ts
sets [] = refl
sets (t ∷ ts) =
    chosen (is_word (codes "ISOLATION") t.kind) Isolating _ ts (leveled ts) _ (levels ts)
    (chosen (is_word (codes "CURRENT") t.kind) Current (Closed None) ts (current_set ts) None (currents ts) (closed ts))

-- the states give the command
pub reads_command : (ts : List Token) → result Start ts ≡ command_in ts
reads_command [] = refl
reads_command (t ∷ ts) =
    chosen (is_word (codes "COMMIT") t.kind) (Ended Commit) _ ts (ended Commit ts) _ (ends Commit ts)
    (chosen (is_word (codes "ROLLBACK") t.kind) (Ended Rollback) _ ts (ended Rollback ts) _ (ends Rollback ts)
    (chosen (is_word (codes "AUTOCOMMIT") t.kind) Switching _ ts (switched ts) _ (switches ts)
    (chosen (is_word (codes "SET") t.kind) Setting (Closed None) ts (level_set ts) None (sets ts) (closed ts))))

pub is_command : (text : List ℕ) (o : Option Command) → o ≡ command_in (tokens_of text) → o ≡ command_of text
unfolding command_of
is_command text o h = h

-- one byte more
where_token : (found : Bool) (s : State) (text : List ℕ) (from to : ℕ) (ts : List Token)
    → after_all s (token_where found text from to ++ ts) ≡ after_all (after_where found s (slice_range text from to)) ts
where_token true s text from to ts = refl
where_token false s text from to ts = refl

pub byte_more : (s : State) (text : List ℕ) (reading : Reading) (from i : ℕ) (all : Option Command) → i < length text
    → told (after_all s (tokens_from text reading from i (drop i text))) ≡ all
    → told (after_all (after_where (ends_token reading (get_or text i 0) (drop (i + 1) text)) s (slice_range text (token_begin reading from i) (i + 1)))
    (tokens_from text (reading_after reading (get_or text i 0) (drop (i + 1) text)) (token_begin reading from i) (i + 1) (drop (i + 1) text))) ≡ all
byte_more s text reading from i all lt h =
    let b = get_or text i 0 in
    let rest = drop (i + 1) text in
    ap told (sym (where_token (ends_token reading b rest) s text (token_begin reading from i) (i + 1) (tokens_from text (reading_after reading b rest) (token_begin reading from i) (i + 1) rest)))
    ∙ ap (λ bs. told (after_all s (tokens_from text reading from i bs))) (sym (drop_more text i 0 lt)) ∙ h

-- the last token
pub last_token : (s : State) (text : List ℕ) (reading : Reading) (from i : ℕ) (all : Option Command) → i ≡ length text
    → told (after_all s (tokens_from text reading from i (drop i text))) ≡ all
    → told (after_where (is_open reading) s (slice_range text from (length text))) ≡ all
last_token s text reading from i all end h =
    let none : drop i text ≡ [] = drop_all i text (omega arith) in
    ap told (last_where (is_open reading)) ∙ ap (λ bs. told (after_all s (tokens_from text reading from i bs))) (sym none) ∙ h
  where
    last_where : (found : Bool) → after_where found s (slice_range text from (length text)) ≡ after_all s (token_where found text from i)
    last_where true = ap (λ (k : ℕ). after s (token_of text from k).kind) (sym end)
    last_where false = refl

-- where a token begins
begin_within : (from i : ℕ) (t : Bool) → from ≤ i → (if t then from else i) ≤ i + 1
begin_within from i true h = omega arith
begin_within from i false h = omega arith

pub begun_more : (reading : Reading) (from next i : ℕ) → next ≡ token_begin reading from i → from ≤ i → next ≤ i + 1
begun_more reading from next i e h = subst (λ (n : ℕ). n ≤ i + 1) (sym e) (begin_within from i (is_open reading) h)

-- the same, with the values that a step gives
pub byte_step : (s next : State) (text rest : List ℕ) (reading reading' : Reading) (from begun i b : ℕ) (found : Bool) (all : Option Command) → i < length text
    → b ≡ get_or text i 0 → rest ≡ drop (i + 1) text → begun ≡ token_begin reading from i → found ≡ ends_token reading b rest
    → next ≡ after_where found s (slice_range text begun (i + 1)) → reading' ≡ reading_after reading b rest
    → told (after_all s (tokens_from text reading from i (drop i text))) ≡ all
    → told (after_all next (tokens_from text reading' begun (i + 1) (drop (i + 1) text))) ≡ all
byte_step s next text rest reading reading' from begun i b found all lt b_is rest_is begun_is found_is next_is reading_is h =
    let tail = drop (i + 1) text in
    let found_at : found ≡ ends_token reading (get_or text i 0) tail = found_is ∙ ap (λ x. ends_token reading x rest) b_is ∙ ap (ends_token reading (get_or text i 0)) rest_is in
    let reading_at : reading' ≡ reading_after reading (get_or text i 0) tail = reading_is ∙ ap (λ x. reading_after reading x rest) b_is ∙ ap (reading_after reading (get_or text i 0)) rest_is in
    let next_at : next ≡ after_where (ends_token reading (get_or text i 0) tail) s (slice_range text (token_begin reading from i) (i + 1)) =
    next_is ∙ ap (λ f. after_where f s (slice_range text begun (i + 1))) found_at
    ∙ ap (λ k. after_where (ends_token reading (get_or text i 0) tail) s (slice_range text k (i + 1))) begun_is in
    ap (λ n. told (after_all n (tokens_from text reading' begun (i + 1) tail))) next_at
    ∙ ap (λ r. told (after_all (after_where (ends_token reading (get_or text i 0) tail) s (slice_range text (token_begin reading from i) (i + 1))) (tokens_from text r begun (i + 1) tail))) reading_at
    ∙ ap (λ k. told (after_all (after_where (ends_token reading (get_or text i 0) tail) s (slice_range text (token_begin reading from i) (i + 1)))
    (tokens_from text (reading_after reading (get_or text i 0) tail) k (i + 1) tail))) begun_is
    ∙ byte_more s text reading from i all lt h
