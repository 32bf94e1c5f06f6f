use Rattle.std.proofs.Common.{◌≡◌, ◌-◌, ℕ, List, length, take, drop, sym, refl, arith, subst, length-drop}
use Rattle.std.proofs.lemmas.Bool.{false≢true}
use Rattle.std.proofs.lemmas.List.{take_all}
use Rattle.dby_bytes.specs.Numbers.{number_at}
use Rattle.dby_bytes.proofs.NumbersLemmas.{IsBytes-from_fits}
use Rattle.log_records.specs.Reading.{IsBaseOf}
use Rattle.log_records.proofs.BodyLemmas.{compensation_text, compensation_base, compensation_is}
use Rattle.log_records.proofs.bodies.read_compensation.Goals as goal

pub returns-then-not-is_compensation : goal.returns-then-not-is_compensation
returns-then-not-is_compensation c = λ x h. false≢true (c.if-not-is_compensation.ensures.1 (compensation_text c.args.at c.args.b.now x h))

pub returns-in-Some : goal.returns-in-Some
returns-in-Some c =
    compensation_is c.args.at c.args.b.now _ _ _ _ (IsBytes-from_fits c.args.b.now c.type_inv.b) (c.if-not-is_compensation.ensures.0 refl)
    (take_all (length c.args.b.now - 9) (drop 9 c.args.b.now) (omega (arith, length-drop 9 c.args.b.now))) c.get_byte.ensures c.get_lsn.ensures c.in-Some.ensures

pub returns-in-None : goal.returns-in-None
returns-in-None c = λ x h.
    let y = compensation_base c.args.at c.args.b.now x h in
    let all : take (length c.args.b.now - 9) (drop 9 c.args.b.now) ≡ drop 9 c.args.b.now = take_all (length c.args.b.now - 9) (drop 9 c.args.b.now) (omega (arith, length-drop 9 c.args.b.now)) in
    c.in-None.ensures y.0 (subst (λ (k : ℕ). IsBaseOf k (take (length c.args.b.now - 9) (drop 9 c.args.b.now)) y.0) (sym c.get_byte.ensures) (subst (λ (l : List ℕ). IsBaseOf (number_at 1 c.args.b.now 8) l y.0) (sym all) y.1))
