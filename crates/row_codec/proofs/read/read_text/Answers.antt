use Rattle.std.proofs.Common.{◌≡◌, ◌+◌, ◌-◌, ◌<◌, ℕ, List, take, drop, length, slice_index, refl, sym, ap, subst, ◌∙◌, arith}
use Rattle.std.proofs.lemmas.Bool.{false≢true}
use Rattle.std.proofs.lemmas.List.{take_rest}
use Rattle.std.specs.Str.{IsUtf8}
use Rattle.dby_bytes.proofs.NumbersLemmas.{IsBytes-from_fits}
use Rattle.row_codec.proofs.ReadLemmas.{text_read, no_text_long, no_text_padded, no_text_broken}
use Rattle.row_codec.proofs.read.read_text.Goals as goal

-- the rest of a list, as the code takes it
each_of_rest : (b : List ℕ) (n : ℕ) → ((k : ℕ) → k < length (drop n b) → slice_index (drop n b) k ≡ 0) → (k : ℕ) → k < length (take (length b - n) (drop n b)) → slice_index (take (length b - n) (drop n b)) k ≡ 0
each_of_rest b n h = subst (λ (m : List ℕ). (k : ℕ) → k < length m → slice_index m k ≡ 0) (sym (take_rest b n)) h

rest_of_each : (b : List ℕ) (n : ℕ) → ((k : ℕ) → k < length (take (length b - n) (drop n b)) → slice_index (take (length b - n) (drop n b)) k ≡ 0) → (k : ℕ) → k < length (drop n b) → slice_index (drop n b) k ≡ 0
rest_of_each b n h = subst (λ (m : List ℕ). (k : ℕ) → k < length m → slice_index m k ≡ 0) (take_rest b n) h

pub returns-then-len-n : goal.returns-then-len-n
returns-then-len-n c = record { exact = λ v h. no_text_long c.args.n c.get_u16-len.result c.args.b.now v c.requires.flag c.get_u16-len.ensures.exact c.if-len-n.true h }

pub returns-then-not-is_zero : goal.returns-then-not-is_zero
returns-then-not-is_zero c =
    record {
      exact = λ v h.
          no_text_padded c.args.n c.get_u16-len.result c.args.b.now v c.requires.flag c.get_u16-len.ensures.exact
          (λ each. false≢true (c.if-not-is_zero.ensures.exact.1 (each_of_rest c.args.b.now (3 + c.get_u16-len.result) each))) h;
    }

pub returns-in_ok-copy_text-in-Ok : goal.returns-in_ok-copy_text-in-Ok
returns-in_ok-copy_text-in-Ok c =
    let part : take (3 + c.get_u16-len.result - 3) (drop 3 c.args.b.now) ≡ take c.get_u16-len.result (drop 3 c.args.b.now) =
    ap (λ (k : ℕ). take k (drop 3 c.args.b.now)) (let e : 3 + c.get_u16-len.result - 3 ≡ c.get_u16-len.result = omega arith in e) in
    record {
      exact =
          text_read c.args.n c.get_u16-len.result c.args.b.now c.in_ok-copy_text-in-Ok.field-0 (IsBytes-from_fits c.args.b.now c.type_inv.b) c.requires.room c.requires.flag c.get_u16-len.ensures.exact c.get_u16-len.type_inv c.if-len-n.false
          (subst IsUtf8 (sym c.in_ok-copy_text-in-Ok.ensures) c.in-Ok.ensures.cases.1)
          (c.in_ok-copy_text-in-Ok.ensures ∙ part)
          (rest_of_each c.args.b.now (3 + c.get_u16-len.result) (c.if-not-is_zero.ensures.exact.0 refl));
    }

pub returns-in-Err : goal.returns-in-Err
returns-in-Err c = record { exact = λ v h. no_text_broken c.args.n c.get_u16-len.result c.args.b.now v c.requires.flag c.get_u16-len.ensures.exact c.in-Err.ensures.cases.0 h }
