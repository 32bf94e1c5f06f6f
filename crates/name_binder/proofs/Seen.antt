-- Names that were seen, from the last one on.
use Rattle.std.proofs.Common.{◌≡◌, ℕ, zero, suc, ◌+◌, ◌-◌, ◌<◌, ◌≤◌, Bool, true, false, not, cond, ◌||◌, List, [], ◌∷◌, ◌++◌, length, drop, drop-cons, get_or, refl, sym, ap, ◌∙◌, subst, drop_of_length-le, arith}
use Rattle.std.proofs.lemmas.Bool.{false≢true}
use Rattle.std.specs.Borrow.{Bor}
use Rattle.std.specs.List.{list_any}
use Rattle.std.specs.Str.{bytes_eq}
use Rattle.sql_binding.specs.Names.{is_named, has_twice}
use Rattle.name_binder.specs.Lent.{texts}

abbrev Text : Type 0
Text = Bor (List ℕ)

known_is : (n : Text) (ks : List Text) → list_any (λ k. bytes_eq n.now k.now) ks ≡ is_named n.now (texts ks)
known_is n [] = refl
known_is n (k ∷ ks) = ap (λ (b : Bool). bytes_eq n.now k.now || b) (known_is n ks)

texts_snoc : (ks : List Text) (n : Text) → texts (ks ++ n ∷ []) ≡ texts ks ++ n.now ∷ []
texts_snoc [] n = refl
texts_snoc (k ∷ ks) n = ap (λ (ts : List (List ℕ)). k.now ∷ ts) (texts_snoc ks n)

pub is_added : (n : Text) (ks : List Text) (b : Bool) → b ≡ not (list_any (λ k. bytes_eq n.now k.now) ks) → b ≡ not (is_named n.now (texts ks))
is_added n ks b h = h ∙ ap not (known_is n ks)

one_way : (n : Text) (ks : List Text) (known b : Bool) → b ≡ not known → texts (cond known ks (ks ++ n ∷ [])) ≡ cond b (texts ks ++ n.now ∷ []) (texts ks)
one_way n ks true b h = ap (λ (c : Bool). cond c (texts ks ++ n.now ∷ []) (texts ks)) (sym h)
one_way n ks false b h = texts_snoc ks n ∙ ap (λ (c : Bool). cond c (texts ks ++ n.now ∷ []) (texts ks)) (sym h)

pub added_keys : (n : Text) (ks new : List Text) (b : Bool) → b ≡ not (list_any (λ k. bytes_eq n.now k.now) ks) → new ≡ cond (list_any (λ k. bytes_eq n.now k.now) ks) ks (ks ++ n ∷ [])
    → texts new ≡ cond b (texts ks ++ n.now ∷ []) (texts ks)
added_keys n ks new b h more = ap texts more ∙ one_way n ks (list_any (λ k. bytes_eq n.now k.now) ks) b h

or_swapped : (a b c : Bool) → a || (b || c) ≡ b || (a || c)
or_swapped true true c = refl
or_swapped true false c = refl
or_swapped false b c = refl

or_last : (b : Bool) → b || false ≡ b
or_last true = refl
or_last false = refl

named_snoc : (x n : List ℕ) (ns : List (List ℕ)) → is_named x (ns ++ n ∷ []) ≡ bytes_eq x n || is_named x ns
named_snoc x n [] = refl
named_snoc x n (m ∷ ns) = ap (λ (b : Bool). bytes_eq x m || b) (named_snoc x n ns) ∙ or_swapped (bytes_eq x m) (bytes_eq x n) (is_named x ns)

-- WHAT WAS SEEN are the names from place n on, and none of them stands twice
pub record Saw (names keys : List Text) (n : ℕ) : Type 0 where
  pub within : n ≤ length names
  pub same : (x : List ℕ) → is_named x (texts keys) ≡ is_named x (texts (drop n names))
  pub once : has_twice (texts (drop n names)) ≡ false

pub twice_behind : (names : List Text) (n : ℕ) → has_twice (texts (drop n names)) ≡ true → has_twice (texts names) ≡ true
twice_behind names zero h = h
twice_behind [] (suc n) h = h
twice_behind (t ∷ ts) (suc n) h = or_true (is_named t.now (texts ts)) (twice_behind ts n h)
  where
    or_true : {b : Bool} (a : Bool) → b ≡ true → a || b ≡ true
    or_true {b} true h = refl
    or_true {b} false h = h

here : (names : List Text) (n : ℕ) (d : Text) → n < length names → texts (drop n names) ≡ (get_or names n d).now ∷ texts (drop (n + 1) names)
here names n d h = let next : suc n ≡ n + 1 = omega arith in
    ap texts (drop-cons names n d h) ∙ ap (λ (m : ℕ). (get_or names n d).now ∷ texts (drop m names)) next

not_true : {b c : Bool} → b ≡ not c → b ≡ true → c ≡ false
not_true {b} {c = true} h k = absurd (false≢true (sym h ∙ k))
not_true {b} {c = false} h k = refl

not_false : {b c : Bool} → b ≡ not c → b ≡ false → c ≡ true
not_false {b} {c = true} h k = refl
not_false {b} {c = false} h k = absurd (false≢true (sym k ∙ h))

-- one name more that is new
new_more : (names keys new : List Text) (n : ℕ) (d : Text) (b : Bool) → n < length names → Saw names keys (n + 1)
    → b ≡ not (is_named (get_or names n d).now (texts keys)) → b ≡ true → texts new ≡ cond b (texts keys ++ (get_or names n d).now ∷ []) (texts keys) → Saw names new n
new_more names keys new n d b h saw added so more = record {
  within = (let k : n < length names = h in omega arith);
  same = λ x. ap (is_named x) (more ∙ ap (λ (c : Bool). cond c (texts keys ++ (get_or names n d).now ∷ []) (texts keys)) so) ∙ named_snoc x (get_or names n d).now (texts keys)
      ∙ ap (λ (c : Bool). bytes_eq x (get_or names n d).now || c) (saw.same x) ∙ ap (is_named x) (sym (here names n d h));
  once = ap has_twice (here names n d h) ∙ ap (λ (c : Bool). c || has_twice (texts (drop (n + 1) names))) (sym (saw.same (get_or names n d).now) ∙ not_true added so) ∙ saw.once;
}

-- .. and one that isn't
twice_more : (names keys : List Text) (n : ℕ) (d : Text) (b : Bool) → n < length names → Saw names keys (n + 1)
    → b ≡ not (is_named (get_or names n d).now (texts keys)) → b ≡ false → has_twice (texts names) ≡ true
twice_more names keys n d b h saw added so = twice_behind names n
    (ap has_twice (here names n d h) ∙ ap (λ (c : Bool). c || has_twice (texts (drop (n + 1) names))) (sym (saw.same (get_or names n d).now) ∙ not_false added so))

one_less : (names keys : List Text) (left : ℕ) → 0 < left → Saw names keys left → Saw names keys (left - 1 + 1)
one_less names keys left h saw = let same : left ≡ left - 1 + 1 = omega arith in subst (Saw names keys) same saw

less_within : {names keys : List Text} {left : ℕ} → 0 < left → Saw names keys left → left - 1 < length names
less_within {names} {keys} {left} h saw = let k : left ≤ length names = saw.within in omega arith

pub saw_new : (names keys new : List Text) (left : ℕ) (d : Text) (b : Bool) → 0 < left → Saw names keys left
    → (b ≡ not (is_named (get_or names (left - 1) d).now (texts keys))) × (texts new ≡ cond b (texts keys ++ (get_or names (left - 1) d).now ∷ []) (texts keys)) → b ≡ true → Saw names new (left - 1)
saw_new names keys new left d b h saw was so = new_more names keys new (left - 1) d b (less_within h saw) (one_less names keys left h saw) was.0 so was.1

pub saw_twice : (names keys new : List Text) (left : ℕ) (d : Text) (b : Bool) → 0 < left → Saw names keys left
    → (b ≡ not (is_named (get_or names (left - 1) d).now (texts keys))) × (texts new ≡ cond b (texts keys ++ (get_or names (left - 1) d).now ∷ []) (texts keys)) → b ≡ false → true ≡ has_twice (texts names)
saw_twice names keys new left d b h saw was so = sym (twice_more names keys (left - 1) d b (less_within h saw) (one_less names keys left h saw) was.0 so)

pub saw_none : (names keys : List Text) (n : ℕ) → n ≡ length names → keys ≡ [] → Saw names keys n
saw_none names keys n at none =
    let all : length names ≤ n = (let e : n ≡ length names = at in omega arith) in
    let rest : drop n names ≡ [] = drop_of_length-le names all in
    record {
      within = (let e : n ≡ length names = at in omega arith);
      same = λ x. ap (λ (ks : List Text). is_named x (texts ks)) none ∙ ap (λ (ks : List Text). is_named x (texts ks)) (sym rest);
      once = ap (λ (ks : List Text). has_twice (texts ks)) rest;
    }
