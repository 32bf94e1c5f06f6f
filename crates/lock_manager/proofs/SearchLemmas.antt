-- Looking through a line for a transaction's request.
use Rattle.std.proofs.Common.{◌≡◌, ℕ, zero, suc, ◌+◌, ◌<◌, ◌≤◌, true, false, refl, ◌∙◌, ap, List, [], ◌∷◌, length, drop, arith}
use Rattle.std.specs.Prelude.{◌||◌}
use Rattle.std.specs.List.{slice_get}
use Rattle.std.proofs.lemmas.List.{drop_all}
use Rattle.std.proofs.lemmas.Bool.{both_ways}
use Rattle.dby_types.specs.declared.number.TxnNo.{TxnNo}
use Rattle.lock_modes.specs.declared.entry.Request.{Request}
use Rattle.lock_manager.specs.Asked.{is_of}
use Rattle.lock_manager.specs.Serve.{is_among}

search_suc : (t : TxnNo) (rs : List Request) (i : ℕ) → is_of t (slice_get rs i) ≡ false → is_among t (drop i rs) ≡ is_among t (drop (suc i) rs)
search_suc t [] zero h = refl
search_suc t [] (suc i) h = refl
search_suc t (r ∷ rs) zero h = ap (λ b. b || is_among t rs) h
search_suc t (r ∷ rs) (suc i) h = search_suc t rs i h

-- a place where it doesn't stand
pub search_on : (t : TxnNo) (rs : List Request) (i : ℕ) → i < length rs → is_of t (slice_get rs i) ≡ false → is_among t rs ≡ is_among t (drop i rs) → is_among t rs ≡ is_among t (drop (i + 1) rs)
search_on t rs i within h so_far = so_far ∙ search_suc t rs i h ∙ ap (λ k. is_among t (drop k rs)) (let same : suc i ≡ i + 1 = omega arith in same)

-- it stands somewhere
pub search_ends : (t : TxnNo) (rs : List Request) (i : ℕ) → length rs ≤ i → is_among t (drop i rs) ≡ true → is_of t (slice_get rs i) ≡ true
search_ends t rs i end h = absurd (both_ways _ (ap (λ xs. is_among t xs) (drop_all i rs end)) h)
