use Rattle.std.proofs.Common.{◌≡◌, ◌∙◌, arith}
use Rattle.lock_manager.proofs.PlacesLemmas.{free_behind, taken_short}
use Rattle.lock_manager.proofs.places.end.Goals as goal

pub returns : goal.returns
returns c =
    let all : c.each.i ≡ c.len-len.result = omega (arith, c.each.invariant.within) in
    record { exact = record { free = free_behind c.args.places.now c.requires.packed c.args.name c.each.i (all ∙ c.len-len.ensures.len); taken = c.each.invariant.taken }; above = c.each.invariant.above }

pub each-init : goal.each-init
each-init c = record {
  within = (let k = taken_short c.args.places.now c.args.name c.args.from c.requires.taken in let l = c.len-len.ensures.len in omega (arith, k, l));
  above = omega arith;
  taken = c.requires.taken;
}
