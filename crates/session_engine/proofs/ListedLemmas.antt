-- The dictionary beside the catalog, where a step leaves the catalog's rows as they are.
use Rattle.std.proofs.Common.{◌≡◌, ◌≢◌, ℕ, ◌≤◌, List, [], refl, sym, ◌∙◌, ap, subst, arith, inl, inr}
use Rattle.std.specs.Prelude.{◌⊎◌}
use Rattle.std.proofs.lemmas.Bool.{cases_eq}
use Rattle.store_api.specs.View.{View, Content}
use Rattle.table_model.specs.Tables.{Tables}
use Rattle.session_model.specs.World.{World, Txn}
use Rattle.session_model.proofs.FitLemmas.{SameCatalog, defines_same, other_way}
use Rattle.session_engine.specs.Dictionary.{Named, IsDictionary, definition_of}
use Rattle.session_engine.specs.Listed.{Cataloged, Lists}

pub dictionary_same : (f g : Tables) (named : List Named) → SameCatalog f g → IsDictionary f named → IsDictionary g named
dictionary_same f g named e h = record {
  there = λ n a. defines_same f g e (definition_of n) (h.there n a);
  only = λ d defines. h.only d (defines_same g f (other_way f g e) d defines);
  user = h.user;
}

pub kept_catalog : (v v' : View) (w w' : World) (named : List Named) → SameCatalog w.current w'.current → ((n : ℕ) → v'.content.columns n ≡ v.content.columns n)
    → v.content.next_container ≤ v'.content.next_container → ((t : ℕ) → Lists named (w'.txns t).changes) → Cataloged v w named → Cataloged v' w' named
kept_catalog v v' w w' named same columns next lists h = record {
  dictionary = dictionary_same w.current w'.current named same h.dictionary;
  described = λ e a. let p = h.described e a in (columns e.1.number ∙ p.0, (let lt = p.1 in omega (arith, lt, next)));
  catalogs = record { of_tables = columns 1 ∙ h.catalogs.of_tables; of_columns = columns 2 ∙ h.catalogs.of_columns };
  listed = λ rid row at. h.listed rid row (same 1 rid refl ∙ at);
  once = λ q r n a b x y. h.once q r n a b (same 1 q refl ∙ x) (same 1 r refl ∙ y);
  numbered = λ rid row n at is. (let lt = h.numbered rid row n (same 2 rid refl ∙ at) is in omega (arith, lt, next));
  lists = lists;
}

-- the store alone moved
pub still_catalog : (v v' : View) (w : World) (named : List Named) → v'.content ≡ v.content → Cataloged v w named → Cataloged v' w named
still_catalog v v' w named content h =
    kept_catalog v v' w w named (λ table rid c. refl) (λ n. ap (λ (d : Content). d.columns n) content) (let same = ap (λ (d : Content). d.next_container) content in omega (arith, same)) h.lists h

-- a transaction's changes stay, or are gone
pub lists_after : (a : ℕ) (w w' : World) (named : List Named) → ((t : ℕ) → t ≢ a → w'.txns t ≡ w.txns t)
    → (((w'.txns a).changes ≡ (w.txns a).changes) ⊎ ((w'.txns a).changes ≡ [])) → ((t : ℕ) → Lists named (w.txns t).changes) → (t : ℕ) → Lists named (w'.txns t).changes
lists_after a w w' named others own h t = elim (cases_eq t a) [
  | inl same ↦ subst (λ n. Lists named (w'.txns n).changes) (sym same) (elim own [
    | inl kept ↦ subst (Lists named) (sym kept) (h a)
    | inr none ↦ subst (Lists named) (sym none) tt
  ])
  | inr ne ↦ subst (λ (x : Txn). Lists named x.changes) (sym (others t ne)) (h t)
]

-- an entry that leaves all rows as they are
pub quiet_catalog : (a : ℕ) (v v' : View) (w w' : World) (named : List Named) → w'.current ≡ w.current → ((n : ℕ) → v'.content.columns n ≡ v.content.columns n)
    → v'.content.next_container ≡ v.content.next_container → ((t : ℕ) → t ≢ a → w'.txns t ≡ w.txns t)
    → (((w'.txns a).changes ≡ (w.txns a).changes) ⊎ ((w'.txns a).changes ≡ [])) → Cataloged v w named → Cataloged v' w' named
quiet_catalog a v v' w w' named current columns next others own h =
    kept_catalog v v' w w' named (λ table rid c. sym (ap (λ (f : Tables). f table rid) current)) columns (omega (arith, next)) (lists_after a w w' named others own h.lists) h
