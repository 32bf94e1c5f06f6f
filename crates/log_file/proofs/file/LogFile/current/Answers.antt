use Rattle.std.proofs.Common.{◌≡◌, List, ℕ, [], take, drop, refl, subst, arith}
use Rattle.std.proofs.lemmas.List.{drop_all, length-take}
use Rattle.log_records.specs.Rules.{Begins}
use Rattle.log_records.specs.View.{record_of}
use Rattle.log_file.proofs.Records.{none_read}
use Rattle.log_file.proofs.file.LogFile.current.Goals as goal

pub returns-then-self-eq0 : goal.returns-then-self-eq0
returns-then-self-eq0 c = none_read c.args.self.now c.if-self-eq0.true

pub returns-in-Some : goal.returns-in-Some
returns-in-Some c =
    let found : ℕ = c.args.self.now.found in
    let none : drop found (take found c.deref.result.now) ≡ [] = drop_all found (take found c.deref.result.now) (omega (arith, length-take found c.deref.result.now)) in
    (refl, subst (λ (b : List ℕ). Begins c.args.self.now.from (take found b) (record_of c.in-Some.r) []) c.deref.ensures.value (subst (λ (x : List ℕ). Begins c.args.self.now.from (take found c.deref.result.now) (record_of c.in-Some.r) x) none c.in-Some.ensures.0))
