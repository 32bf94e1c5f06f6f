use Rattle.std.proofs.Common.{arith, ◌≡◌, ℕ, length, subst}
use Rattle.lock_modes.specs.Names.{same_name}
use Rattle.lock_manager.specs.Freed.{Skips}
use Rattle.lock_manager.proofs.SkipLemmas.{skips_to, skips_rest}
use Rattle.lock_manager.proofs.next.next_asked.Goals as goal

pub returns-in-Some : goal.returns-in-Some
returns-in-Some c = record { skips = skips_to c.args.name c.args.line.now.line.items c.args.i c.in-Some.place c.count_before-number.result c.count_before-number.ensures.exact c.in-Some.ensures.place }

pub returns-in-None : goal.returns-in-None
returns-in-None c =
    let same : length c.args.line.now.line.items ≡ c.len.result = omega (arith, c.len.ensures) in
    record {
      skips = subst (λ (k : ℕ). Skips (same_name c.args.name) c.args.line.now.line.items c.args.i k) same
          (skips_rest c.args.name c.args.line.now.line.items c.args.i c.count_before-number.result (omega (arith, c.requires)) c.count_before-number.ensures.exact c.in-None.ensures.place);
    }
