-- Two classes that are the same by their numbers are one.
use Rattle.std.proofs.Common.{◌≡◌, ℕ, zero, suc, true, false, refl, sym, ap, subst, ◌∙◌, not, ◌==◌, List, [], ◌∷◌, ◌++◌, inl, inr}
use Rattle.std.specs.Prelude.{◌⊎◌}
use Rattle.std.proofs.lemmas.Bool.{and_parts, and_from, eqb-true, eq-eqb, or_cases, or_left, or_right, false≢true, not-true}
use Rattle.sql_grammar.specs.Classes.{Key, Word, Class, key_tag, word_tag, tag, inner, same, has, apart, within}
use Rattle.sql_grammar.specs.declared.word.Class.TheVariants as class
use Rattle.sql_grammar.specs.declared.word.Key.TheVariants as key
use Rattle.sql_grammar.specs.declared.word.Word.TheVariants as word

abbrev pick : {A : Type 0} → A → List A → ℕ → A
pick d [] n = d
pick d (x ∷ xs) zero = x
pick d (x ∷ xs) (suc n) = pick d xs n

abbrev key-of : ℕ → Key
key-of = pick key.All (
    key.All ∷ key.As ∷ key.Asc ∷ key.Bigint ∷ key.Boolean ∷ key.By ∷ key.Commit ∷ key.Create ∷ key.Delete ∷
    key.Desc ∷ key.Distinct ∷ key.Drop ∷ key.From ∷ key.Group ∷ key.Inner ∷ key.Insert ∷ key.Int ∷ key.Integer ∷
    key.Into ∷ key.Join ∷ key.On ∷ key.Order ∷ key.Primary ∷ key.Rollback ∷ key.Select ∷ key.Set ∷ key.Smallint ∷
    key.Table ∷ key.Unique ∷ key.Update ∷ key.Values ∷ key.Varchar ∷ key.Where ∷ [])

abbrev word-of : ℕ → Word
word-of = pick word.Plain (
    word.Plain ∷ word.Autocommit ∷ word.Cs ∷ word.Current ∷ word.Exclusive ∷ word.Index ∷ word.Isolation ∷
    word.Key ∷ word.Lock ∷ word.Mode ∷ word.Off ∷ word.Rr ∷ word.Rs ∷ word.Share ∷ word.Ur ∷ word.Work ∷ [])

abbrev class-of : ℕ → ℕ → Class
class-of n i = pick class.Bad (
    class.Or ∷ class.And ∷ class.Not ∷ class.Is ∷ class.Null ∷ class.Between ∷ class.In ∷ class.Dot ∷ class.Open ∷
    class.Close ∷ class.Comma ∷ class.Equal ∷ class.Compare ∷ class.Plus ∷ class.Minus ∷ class.Star ∷ class.Slash ∷
    class.Call ∷ class.Number ∷ class.Huge ∷ class.Text ∷ class.Truth ∷ class.Bad ∷ class.Key (key-of i) ∷
    class.Name (word-of i) ∷ []) n

key-back : (k : Key) → key-of (key_tag k) ≡ k
key-back key.All = refl
key-back key.As = refl
key-back key.Asc = refl
key-back key.Bigint = refl
key-back key.Boolean = refl
key-back key.By = refl
key-back key.Commit = refl
key-back key.Create = refl
key-back key.Delete = refl
key-back key.Desc = refl
key-back key.Distinct = refl
key-back key.Drop = refl
key-back key.From = refl
key-back key.Group = refl
key-back key.Inner = refl
key-back key.Insert = refl
key-back key.Int = refl
key-back key.Integer = refl
key-back key.Into = refl
key-back key.Join = refl
key-back key.On = refl
key-back key.Order = refl
key-back key.Primary = refl
key-back key.Rollback = refl
key-back key.Select = refl
key-back key.Set = refl
key-back key.Smallint = refl
key-back key.Table = refl
key-back key.Unique = refl
key-back key.Update = refl
key-back key.Values = refl
key-back key.Varchar = refl
key-back key.Where = refl

word-back : (k : Word) → word-of (word_tag k) ≡ k
word-back word.Plain = refl
word-back word.Autocommit = refl
word-back word.Cs = refl
word-back word.Current = refl
word-back word.Exclusive = refl
word-back word.Index = refl
word-back word.Isolation = refl
word-back word.Key = refl
word-back word.Lock = refl
word-back word.Mode = refl
word-back word.Off = refl
word-back word.Rr = refl
word-back word.Rs = refl
word-back word.Share = refl
word-back word.Ur = refl
word-back word.Work = refl

class-back : (c : Class) → class-of (tag c) (inner c) ≡ c
class-back class.Or = refl
class-back class.And = refl
class-back class.Not = refl
class-back class.Is = refl
class-back class.Null = refl
class-back class.Between = refl
class-back class.In = refl
class-back class.Dot = refl
class-back class.Open = refl
class-back class.Close = refl
class-back class.Comma = refl
class-back class.Equal = refl
class-back class.Compare = refl
class-back class.Plus = refl
class-back class.Minus = refl
class-back class.Star = refl
class-back class.Slash = refl
class-back class.Call = refl
class-back class.Number = refl
class-back class.Huge = refl
class-back class.Text = refl
class-back class.Truth = refl
class-back class.Bad = refl
class-back (class.Key k) = ap (λ (x : Key). class.Key x) (key-back k)
class-back (class.Name w) = ap (λ (x : Word). class.Name x) (word-back w)

pub same-one : (a b : Class) → same a b ≡ true → a ≡ b
same-one a b h =
    let (t, i) = and_parts (tag a == tag b) (inner a == inner b) h in
    sym (class-back a) ∙ ap (λ (n : ℕ). class-of n (inner a)) (eqb-true (tag a) (tag b) t) ∙ ap (λ (n : ℕ). class-of (tag b) n) (eqb-true (inner a) (inner b) i) ∙ class-back b

pub same-self : (a : Class) → same a a ≡ true
same-self a = and_from (tag a == tag a) (inner a == inner a) (eq-eqb (tag a) (tag a) refl) (eq-eqb (inner a) (inner a) refl)

pub has-here : (c : Class) (ds : List Class) → has c (c ∷ ds) ≡ true
has-here c ds = or_left (same c c) (has c ds) (same-self c)

-- ---- lists of classes

pub has-left : (c : Class) (xs bs : List Class) → has c xs ≡ true → has c (xs ++ bs) ≡ true
has-left c [] bs h = absurd (false≢true h)
has-left c (a ∷ xs) bs h = elim (or_cases (same c a) (has c xs) h) [ inl p ↦ or_left (same c a) (has c (xs ++ bs)) p | inr p ↦ or_right (same c a) (has c (xs ++ bs)) (has-left c xs bs p) ]

pub has-right : (c : Class) (xs bs : List Class) → has c bs ≡ true → has c (xs ++ bs) ≡ true
has-right c [] bs h = h
has-right c (a ∷ xs) bs h = or_right (same c a) (has c (xs ++ bs)) (has-right c xs bs h)

pub has-either : (c : Class) (xs bs : List Class) → has c (xs ++ bs) ≡ true → (has c xs ≡ true) ⊎ (has c bs ≡ true)
has-either c [] bs h = inr h
has-either c (a ∷ xs) bs h = elim (or_cases (same c a) (has c (xs ++ bs)) h) [ inl p ↦ inl (or_left (same c a) (has c xs) p) | inr p ↦ elim (has-either c xs bs p) [ inl q ↦ inl (or_right (same c a) (has c xs) q) | inr q ↦ inr q ] ]

-- apart lists have no class in common
pub apart-not : (c : Class) (xs bs : List Class) → apart xs bs ≡ true → has c xs ≡ true → has c bs ≡ false
apart-not c [] bs h q = absurd (false≢true q)
apart-not c (a ∷ xs) bs h q =
    let (x, y) = and_parts (not (has a bs)) (apart xs bs) h in
    elim (or_cases (same c a) (has c xs) q) [ inl p ↦ (let P : Class → Type 0 = λ d. has d bs ≡ false in subst P (sym (same-one c a p)) (not-true (has a bs) x)) | inr p ↦ apart-not c xs bs y p ]

pub within-has : (c : Class) (xs bs : List Class) → within xs bs ≡ true → has c xs ≡ true → has c bs ≡ true
within-has c [] bs h q = absurd (false≢true q)
within-has c (a ∷ xs) bs h q =
    let (x, y) = and_parts (has a bs) (within xs bs) h in
    elim (or_cases (same c a) (has c xs) q) [ inl p ↦ (let P : Class → Type 0 = λ d. has d bs ≡ true in subst P (sym (same-one c a p)) x) | inr p ↦ within-has c xs bs y p ]
