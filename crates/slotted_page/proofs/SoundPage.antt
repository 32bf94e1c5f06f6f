-- A page whose fields all keep the format is laid out as its content.
use Rattle.std.proofs.Common.{◌≡◌, ◌≢◌, ◌+◌, ◌-◌, ◌*◌, ◌^◌, ◌≤◌, ◌<◌, ℕ, zero, suc, List, [], ◌++◌, length, take, drop, refl, sym, ap, subst, ◌∙◌, ⊎_elim, arith, append-nil, zero-add, length-drop}
use Rattle.std.specs.List.{All}
use Rattle.std.proofs.lemmas.Bool.{cases_eq}
use Rattle.std.proofs.lemmas.List.{drop-drop, drop_all, take-append-drop, length-take-le}
use Rattle.std.proofs.lemmas.List.Elements.{All-same}
use Rattle.dby_types.specs.declared.number.PageId.{PageId}
use Rattle.dby_bytes.specs.Numbers.{IsBytes, number_at}
use Rattle.dby_bytes.proofs.NumbersLemmas.{number_of-lt, IsBytes-drop}
use Rattle.slotted_page.specs.declared.kind.Kind.TheVariants.{Control}
use Rattle.slotted_page.specs.Content.{Record, AreFields, IsOfKind, stored_len}
use Rattle.slotted_page.specs.Layout.{kind_of, zeros, directory, body, front, control_of, content_of, IsPage}
use Rattle.slotted_page.specs.Format.{kind_at, count_at, end_at, directory_at, directory_end, IsRightAt}
use Rattle.slotted_page.proofs.FormatLemmas.{directory_of_control, directory_of_other, end_of_none, end_of_some}
use Rattle.slotted_page.proofs.PageLemmas.{behind_front, kind_read, zero_is_control}
use Rattle.slotted_page.proofs.SoundLemmas.{named, AreEntries, entries_of, records_named, length-named, stored_len-named, directory-named, body-named, flags-named, zero_part, front_read}

number_small : (n : ℕ) (b : List ℕ) (at : ℕ) → IsBytes b → number_at n b at < 256 ^ n
unfolding number_at
number_small n b at h = number_of-lt n (drop at b) (IsBytes-drop at b h)

records_are : (b : List ℕ) → (content_of b).records ≡ named b 0 (count_at b)
unfolding content_of
records_are b = records_named (count_at b) 0 b (drop 32 b) refl

own_is : (b : List ℕ) → (content_of b).control ≡ control_of (kind_of (kind_at b)) b
unfolding content_of
own_is b = refl

own_none : (n : ℕ) (b : List ℕ) → n ≢ 0 → control_of (kind_of n) b ≡ []
own_none zero b h = absurd (h refl)
own_none (suc zero) b h = refl
own_none (suc (suc zero)) b h = refl
own_none (suc (suc (suc zero))) b h = refl
own_none (suc (suc (suc (suc n)))) b h = refl

fields_are : (b : List ℕ) → IsBytes b → AreFields (content_of b)
unfolding content_of
fields_are b h = record { container = number_small 4 b 8 h; page = number_small 4 b 12 h; segment = number_small 4 b 20 h; offset = number_small 4 b 24 h; right = number_small 4 b 28 h }

-- the own bytes and the records, and what they leave of the page
record IsBehind (b : List ℕ) (own : List ℕ) (rs : List Record) : Type 0 where
  pub own_is : (content_of b).control ≡ own
  pub records_are : (content_of b).records ≡ rs
  pub kind : IsOfKind (content_of b).kind own rs
  pub room : 32 + length own + 4 * length rs + stored_len rs ≤ 4096
  pub flags : All (λ (r : Record). r.flags < 4) rs
  pub bytes : drop 32 b ≡ own ++ (directory 4096 rs ++ (zeros (4096 - (32 + length own + 4 * length rs + stored_len rs)) ++ body rs))

-- a page from its two parts
page_from : (id : PageId) (b own : List ℕ) (rs : List Record) → IsBytes b → length b ≡ 4096 → ((p : ℕ) → IsRightAt id b p) → IsBehind b own rs → IsPage b
page_from id b own rs bytes len h d =
    let whole : drop 32 b ≡ behind_front (content_of b) =
    d.bytes
    ∙ ap (λ (m : List ℕ). m ++ (directory 4096 rs ++ (zeros (4096 - (32 + length m + 4 * length rs + stored_len rs)) ++ body rs))) (sym d.own_is)
    ∙ ap (λ (s : List Record). (content_of b).control ++ (directory 4096 s ++ (zeros (4096 - (32 + length (content_of b).control + 4 * length s + stored_len s)) ++ body s))) (sym d.records_are) in
    record {
      content = record {
        fields = fields_are b bytes;
        kind = subst (λ (s : List Record). IsOfKind (content_of b).kind (content_of b).control s) (sym d.records_are) (subst (λ (m : List ℕ). IsOfKind (content_of b).kind m rs) (sym d.own_is) d.kind);
        room = omega (arith, ap length d.own_is, ap length d.records_are, ap stored_len d.records_are, d.room);
        flags = All-same (λ (r : Record). r.flags < 4) (content_of b).records rs d.records_are d.flags;
      };
      bytes = front_read id b bytes len h ∙ ap (λ (m : List ℕ). front (number_at 8 b 0) (content_of b) ++ m) whole;
    }

control_behind : (id : PageId) (b : List ℕ) → length b ≡ 4096 → ((p : ℕ) → IsRightAt id b p) → kind_at b ≡ 0 → IsBehind b (take 16 (drop 32 b)) []
control_behind id b len h control =
    let none : count_at b ≡ 0 = ((h 18).count refl).control control in
    let from = directory_of_control (kind_at b) control in
    let top : end_at b (count_at b) ≡ 4096 = end_of_none b (count_at b) none in
    let sixteen : length (take 16 (drop 32 b)) ≡ 16 = length-take-le 16 (drop 32 b) (omega (arith, len, length-drop 32 b)) in
    let rest : drop 48 b ≡ zeros (4096 - 48) ++ drop 4096 b = zero_part b 48 4096 (omega arith) (omega (arith, len)) (λ p l m. (h p).gap (omega (arith, from, none, l)) (omega (arith, top, m))) in
    let gap : 4096 - 48 ≡ 4096 - (32 + length (take 16 (drop 32 b)) + 4 * 0 + 0) = omega (arith, sixteen) in
    record {
      own_is = own_is b ∙ ap (λ (n : ℕ). control_of (kind_of n) b) control;
      records_are = records_are b ∙ ap (named b 0) none;
      kind = record { own_bytes = λ e. sixteen; no_records = λ e. refl; no_own_bytes = λ e. absurd (e (kind_read b ∙ ap kind_of control)) };
      room = omega (arith, sixteen);
      flags = λ k d l. absurd (omega (arith, l));
      bytes =
          sym (take-append-drop 16 (drop 32 b))
          ∙ ap (λ (m : List ℕ). take 16 (drop 32 b) ++ m) (drop-drop 16 32 b ∙ rest
          ∙ ap (λ (m : List ℕ). zeros (4096 - 48) ++ m) (drop_all 4096 b (omega (arith, len)))
          ∙ ap (λ (n : ℕ). zeros n ++ []) gap);
    }

-- the directory ends before the last record starts
directory_below : (b : List ℕ) → AreEntries b → directory_at (kind_at b) ≡ 32 → directory_end b ≤ end_at b (count_at b)
directory_below b all from =
    ⊎_elim
    (λ e. let q = end_of_none b (count_at b) e in omega (arith, q, e, from))
    (λ e. let q = end_of_some b (count_at b) e in let s = (all.each (count_at b - 1) (omega (arith, e))).start.behind in omega (arith, q, s))
    (cases_eq (count_at b) 0)

other_behind : (id : PageId) (b : List ℕ) → IsBytes b → length b ≡ 4096 → ((p : ℕ) → IsRightAt id b p) → kind_at b ≢ 0 → IsBehind b [] (named b 0 (count_at b))
other_behind id b bytes len h other =
    let all = entries_of id b bytes len h in
    let from = directory_of_other (kind_at b) other in
    let n : 0 + count_at b ≡ count_at b = zero-add (count_at b) in
    let count = length-named (count_at b) 0 b in
    let low : stored_len (named b 0 (count_at b)) + end_at b (count_at b) ≡ 4096 =
    ap (λ (k : ℕ). stored_len (named b 0 (count_at b)) + end_at b k) (sym n) ∙ stored_len-named (count_at b) 0 b all (omega arith) in
    let below = directory_below b all from in
    let dir : drop 32 b ≡ directory 4096 (named b 0 (count_at b)) ++ drop (32 + 4 * count_at b) b =
    directory-named (count_at b) 0 b all (omega arith) ∙ ap (λ (k : ℕ). directory 4096 (named b 0 (count_at b)) ++ drop (32 + 4 * k) b) n in
    let gap : drop (32 + 4 * count_at b) b ≡ zeros (end_at b (count_at b) - (32 + 4 * count_at b)) ++ drop (end_at b (count_at b)) b =
    zero_part b (32 + 4 * count_at b) (end_at b (count_at b)) (omega (arith, below, from)) (omega (arith, low, len)) (λ p l m. (h p).gap (omega (arith, from, l)) m) in
    let bodies : drop (end_at b (count_at b)) b ≡ body (named b 0 (count_at b)) =
    ap (λ (k : ℕ). drop (end_at b k) b) (sym n) ∙ body-named (count_at b) 0 b all (omega arith)
    ∙ ap (λ (m : List ℕ). body (named b 0 (count_at b)) ++ m) (drop_all 4096 b (omega (arith, len))) ∙ append-nil (body (named b 0 (count_at b))) in
    let left : end_at b (count_at b) - (32 + 4 * count_at b) ≡ 4096 - (32 + 0 + 4 * length (named b 0 (count_at b)) + stored_len (named b 0 (count_at b))) = omega (arith, low, count, below, from) in
    let isnt : (content_of b).kind ≢ Control = λ e. zero_is_control (kind_at b) other (sym (kind_read b) ∙ e) in
    record {
      own_is = own_is b ∙ own_none (kind_at b) b other;
      records_are = records_are b;
      kind = record { own_bytes = λ e. absurd (isnt e); no_records = λ e. absurd (isnt e); no_own_bytes = λ e. refl };
      room = omega (arith, low, count, below, from);
      flags = flags-named (count_at b) 0 b all (omega arith);
      bytes =
          dir ∙ ap (λ (m : List ℕ). directory 4096 (named b 0 (count_at b)) ++ m) (gap ∙ ap (λ (m : List ℕ). zeros (end_at b (count_at b) - (32 + 4 * count_at b)) ++ m) bodies
          ∙ ap (λ (k : ℕ). zeros k ++ body (named b 0 (count_at b))) left);
    }

pub sound_page : (id : PageId) (b : List ℕ) → IsBytes b → length b ≡ 4096 → ((p : ℕ) → IsRightAt id b p) → IsPage b
sound_page id b bytes len h =
    ⊎_elim
    (λ e. page_from id b (take 16 (drop 32 b)) [] bytes len h (control_behind id b len h e))
    (λ e. page_from id b [] (named b 0 (count_at b)) bytes len h (other_behind id b bytes len h e))
    (cases_eq (kind_at b) 0)
