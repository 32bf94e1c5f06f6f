use Rattle.std.proofs.Common.{◌≡◌, ◌+◌, ◌-◌, ◌∙◌, ℕ, length, take, drop, ap, refl, arith, length-drop}
use Rattle.std.proofs.lemmas.Bool.{false≢true}
use Rattle.std.proofs.lemmas.List.{take_all}
use Rattle.dby_bytes.specs.Numbers.{number_at}
use Rattle.dby_bytes.proofs.NumbersLemmas.{IsBytes-from_fits}
use Rattle.log_records.proofs.ChangeLemmas.{entry_text, entry_is}
use Rattle.log_records.proofs.changes.read_entry.Goals as goal

pub returns-then-not-is_entry : goal.returns-then-not-is_entry
returns-then-not-is_entry c = λ x h. false≢true (c.if-not-is_entry.ensures.1 (entry_text c.args.b.now x h))

pub returns : goal.returns
returns c =
    let n : ℕ = c.get_u16-n.result in
    let back : (13 + n) - 13 ≡ n = omega arith in
    let first : take ((13 + n) - 13) (drop 13 c.args.b.now) ≡ take (number_at 2 c.args.b.now 11) (drop 13 c.args.b.now) =
    ap (λ (m : ℕ). take m (drop 13 c.args.b.now)) (back ∙ c.get_u16-n.ensures.exact) in
    let second : take (length c.args.b.now - (13 + n)) (drop (13 + n) c.args.b.now) ≡ drop (13 + number_at 2 c.args.b.now 11) c.args.b.now =
    take_all (length c.args.b.now - (13 + n)) (drop (13 + n) c.args.b.now) (omega (arith, length-drop (13 + n) c.args.b.now)) ∙ ap (λ (m : ℕ). drop (13 + m) c.args.b.now) c.get_u16-n.ensures.exact in
    entry_is c.args.b.now _ _ _ _ _ _ (IsBytes-from_fits c.args.b.now c.type_inv.b) (c.if-not-is_entry.ensures.0 refl) c.get_u32.ensures.exact c.get_u32-2.ensures.exact c.get_u16.ensures.exact c.get_byte.ensures first second
