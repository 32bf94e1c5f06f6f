use Rattle.std.proofs.Common.{◌≡◌, ◌+◌, ◌-◌, ◌∙◌, ℕ, length, take, drop, ap, refl, arith, length-drop}
use Rattle.std.proofs.lemmas.Bool.{false≢true}
use Rattle.std.proofs.lemmas.List.{take_all}
use Rattle.dby_bytes.specs.Numbers.{number_at}
use Rattle.dby_bytes.proofs.NumbersLemmas.{IsBytes-from_fits}
use Rattle.log_records.proofs.ChangeLemmas.{heap_text, heap_is}
use Rattle.log_records.proofs.changes.read_heap.Goals as goal

pub returns-then-not-is_heap : goal.returns-then-not-is_heap
returns-then-not-is_heap c = λ x h. false≢true (c.if-not-is_heap.ensures.1 (heap_text c.args.b.now x h))

pub returns : goal.returns
returns c =
    let n : ℕ = c.get_u16-n.result in
    let back : (14 + n) - 14 ≡ n = omega arith in
    let first : take ((14 + n) - 14) (drop 14 c.args.b.now) ≡ take (number_at 2 c.args.b.now 12) (drop 14 c.args.b.now) =
    ap (λ (m : ℕ). take m (drop 14 c.args.b.now)) (back ∙ c.get_u16-n.ensures.exact) in
    let second : take (length c.args.b.now - (14 + n)) (drop (14 + n) c.args.b.now) ≡ drop (14 + number_at 2 c.args.b.now 12) c.args.b.now =
    take_all (length c.args.b.now - (14 + n)) (drop (14 + n) c.args.b.now) (omega (arith, length-drop (14 + n) c.args.b.now)) ∙ ap (λ (m : ℕ). drop (14 + m) c.args.b.now) c.get_u16-n.ensures.exact in
    heap_is c.args.b.now _ _ _ _ _ _ _ (IsBytes-from_fits c.args.b.now c.type_inv.b) (c.if-not-is_heap.ensures.0 refl) c.get_u32.ensures.exact c.get_u32-2.ensures.exact c.get_u16.ensures.exact c.get_byte.ensures c.get_byte-2.ensures first second
