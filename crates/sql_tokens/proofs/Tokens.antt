-- The token in front.
use Rattle.std.proofs.Common.{◌≡◌, ◌<◌, ◌≤◌, ℕ, zero, suc, ◌+◌, List, [], ◌∷◌, Bool, true, false, ◌||◌, refl, sym, ap, add-one, ◌∙◌, arith, length, drop, get_or, cond, Option, Some, None}
use Rattle.std.proofs.Math.Seq.{drop-cons}
use Rattle.std.proofs.lemmas.List.{drop-map, drop_all, length-map}
use Rattle.std.proofs.lemmas.Bool.{false≢true}
use Rattle.sql_lexer.specs.declared.token.Token.{Token as TextToken}
use Rattle.sql_grammar.specs.Syntax.{Token}
use Rattle.sql_grammar.specs.declared.word.Class.{Class}
use Rattle.sql_grammar.specs.Classes.{same, has}
use Rattle.sql_grammar.specs.Rules.{Rule, this, a_name, a_number, a_size, Parsed, nothing, class_of}
use Rattle.sql_grammar.specs.Reading.{took, wrong, starts, read}
use Rattle.sql_grammar.specs.Tokens.{seen, symbol_of, text_of, token_from, token_of}
use Rattle.sql_grammar.specs.declared.symbol.Symbol.{Symbol}
use Rattle.sql_tokens.specs.Reading.{reading, single}

pub seen_at : (ts : List TextToken) (at : ℕ) (t : TextToken) → at < length ts → drop at (seen ts) ≡ token_of (get_or ts at t).kind ∷ drop (at + 1) (seen ts)
seen_at ts at t h =
    drop-map (λ t. token_of t.kind) at ts
    ∙ ap (λ l. seen l) (drop-cons ts at t h)
    ∙ ap (λ l. token_of (get_or ts at t).kind ∷ l) (sym (drop-map (λ t. token_of t.kind) (suc at) ts) ∙ ap (λ n. drop n (seen ts)) (sym (add-one at)))

pub seen_end : (ts : List TextToken) (at : ℕ) → length ts ≤ at → drop at (seen ts) ≡ []
seen_end ts at h = drop-map (λ t. token_of t.kind) at ts ∙ ap (λ l. seen l) (drop_all at ts h)

or-false : (b : Bool) → (b || false) ≡ b
or-false true = refl
or-false false = refl

pub starts_with : (ts us : List Token) (t : Token) (c d : Class) → ts ≡ t ∷ us → class_of t ≡ d → starts (c ∷ []) ts ≡ same d c
starts_with ts us t c d q p = ap (λ l. starts (c ∷ []) l) q ∙ or-false (same (class_of t) c) ∙ ap (λ e. same e c) p

pub starts_none : (ts : List TextToken) (at : ℕ) (cs : List Class) → length ts ≤ at → starts cs (drop at (seen ts)) ≡ false
starts_none ts at cs h = ap (λ l. starts cs l) (seen_end ts at h)

pub starts_some : (ts us : List Token) (t : Token) (cs : List Class) (d : Class) → ts ≡ t ∷ us → class_of t ≡ d → starts cs ts ≡ has d cs
starts_some ts us t cs d q p = ap (λ l. starts cs l) q ∙ ap (λ e. has e cs) p

pub starts_end : (ts : List Token) (c : Class) → ts ≡ [] → starts (c ∷ []) ts ≡ false
starts_end ts c q = ap (λ l. starts (c ∷ []) l) q

drop-tail : (n : ℕ) (ts : List Token) (t : Token) (us : List Token) → drop n ts ≡ t ∷ us → drop (suc n) ts ≡ us
drop-tail zero ts t us q = ap (λ l. drop 1 l) q
drop-tail (suc n) [] t us q = ap (λ l. drop 1 l) q
drop-tail (suc n) (x ∷ ts) t us q = drop-tail n ts t us q

this-read : (ts : List Token) (t : Token) (us : List Token) (c : Class) → ts ≡ t ∷ us → starts (c ∷ []) ts ≡ true → reading (this c) ts ≡ took nothing us
unfolding reading
this-read ts t us c q s =
    ap (λ l. read (Some 200) (this c) l) q
    ∙ ap (λ b. cond b (took nothing us) (wrong (t ∷ us))) (sym (or-false (same (class_of t) c)) ∙ ap (λ l. starts (c ∷ []) l) (sym q) ∙ s)

pub passed : (at : ℕ) (ts : List Token) (c : Class) → starts (c ∷ []) (drop at ts) ≡ true → reading (this c) (drop at ts) ≡ took nothing (drop (at + 1) ts)
passed at ts c s = go (drop at ts) refl
  where
    go : (us : List Token) → drop at ts ≡ us → reading (this c) (drop at ts) ≡ took nothing (drop (at + 1) ts)
    go [] q = absurd (false≢true (ap (λ l. starts (c ∷ []) l) (sym q) ∙ s))
    go (t ∷ us) q = this-read (drop at ts) t us c q s ∙ ap (λ l. took nothing l) (sym (ap (λ n. drop n ts) (add-one at) ∙ drop-tail at ts t us q))

within-any : (n : ℕ) (ts : List Token) (c : Class) → starts (c ∷ []) (drop n ts) ≡ true → n < length ts
within-any zero [] c s = absurd (false≢true s)
within-any zero (t ∷ ts) c s = omega arith
within-any (suc n) [] c s = absurd (false≢true s)
within-any (suc n) (t ∷ ts) c s = omega (arith, within-any n ts c s)

pub within : (at : ℕ) (ts : List TextToken) (c : Class) → starts (c ∷ []) (drop at (seen ts)) ≡ true → at < length ts
within at ts c s = omega (arith, within-any at (seen ts) c s, length-map ts (λ t. token_of t.kind))

pub this_wrong : (ts : List Token) (c : Class) → starts (c ∷ []) ts ≡ false → reading (this c) ts ≡ wrong ts
unfolding reading
this_wrong [] c s = refl
this_wrong (t ∷ ts) c s = ap (λ b. cond b (took nothing ts) (wrong (t ∷ ts))) (sym (or-false (same (class_of t) c)) ∙ s)

-- the token in front, of this symbol
seen-symbol : (ts : List TextToken) (at : ℕ) (d : TextToken) (x : Symbol) → at < length ts → x ≡ symbol_of (get_or ts at d).kind
    → drop at (seen ts) ≡ token_from x (text_of (get_or ts at d).kind) ∷ drop (at + 1) (seen ts)
seen-symbol ts at d x h q = seen_at ts at d h ∙ ap (λ y. token_from y (text_of (get_or ts at d).kind) ∷ drop (at + 1) (seen ts)) (sym q)

-- what a rule of one token reads, by the token's symbol
abbrev pub Alone : {A : Type 0} → Rule → (A → Parsed) → Symbol → (List ℕ → Option A) → Type 0
Alone r says x o = (n : List ℕ) (rest : List Token) → reading r (token_from x n ∷ rest) ≡ single says (o n) (token_from x n) rest

pub alone_read : {A : Type 0} (r : Rule) (says : A → Parsed) (ts : List TextToken) (at : ℕ) (d : TextToken) (x : Symbol) (o : List ℕ → Option A) (v : A) → at < length ts
    → x ≡ symbol_of (get_or ts at d).kind → Alone r says x o → o (text_of (get_or ts at d).kind) ≡ Some v
    → reading r (drop at (seen ts)) ≡ took (says v) (drop (at + 1) (seen ts))
alone_read r says ts at d x o v h q f p =
    ap (λ l. reading r l) (seen-symbol ts at d x h q) ∙ f (text_of (get_or ts at d).kind) (drop (at + 1) (seen ts))
    ∙ ap (λ o. single says o (token_from x (text_of (get_or ts at d).kind)) (drop (at + 1) (seen ts))) p

pub alone_wrong : {A : Type 0} (r : Rule) (says : A → Parsed) (ts : List TextToken) (at : ℕ) (d : TextToken) (x : Symbol) (o : List ℕ → Option A) → at < length ts
    → x ≡ symbol_of (get_or ts at d).kind → Alone r says x o → o (text_of (get_or ts at d).kind) ≡ None
    → reading r (drop at (seen ts)) ≡ wrong (drop at (seen ts))
alone_wrong r says ts at d x o h q f p =
    ap (λ l. reading r l) (seen-symbol ts at d x h q) ∙ f (text_of (get_or ts at d).kind) (drop (at + 1) (seen ts))
    ∙ ap (λ o. single says o (token_from x (text_of (get_or ts at d).kind)) (drop (at + 1) (seen ts))) p
    ∙ ap (λ l. wrong l) (sym (seen-symbol ts at d x h q))

pub name_end : (ts : List TextToken) (at : ℕ) → length ts ≤ at → reading a_name (drop at (seen ts)) ≡ wrong (drop at (seen ts))
unfolding reading
name_end ts at h = ap (λ l. read (Some 200) a_name l) (seen_end ts at h) ∙ ap (λ l. wrong l) (sym (seen_end ts at h))

pub number_end : (ts : List TextToken) (at : ℕ) → length ts ≤ at → reading a_number (drop at (seen ts)) ≡ wrong (drop at (seen ts))
unfolding reading
number_end ts at h = ap (λ l. read (Some 200) a_number l) (seen_end ts at h) ∙ ap (λ l. wrong l) (sym (seen_end ts at h))

pub size_end : (ts : List TextToken) (at : ℕ) → length ts ≤ at → reading a_size (drop at (seen ts)) ≡ wrong (drop at (seen ts))
unfolding reading
size_end ts at h = ap (λ l. read (Some 200) a_size l) (seen_end ts at h) ∙ ap (λ l. wrong l) (sym (seen_end ts at h))
