use Rattle.std.proofs.Common.{◌≤◌, ◌+◌, List, length, subst, arith}
use Rattle.device_mem.specs.declared.call.Call.{Call}
use Rattle.device_mem.specs.Images.{AddsMoment}
use Rattle.device_mem.proofs.ImagesLemmas.{moment-turn}
use Rattle.device_mem.proofs.images.push_moments.Goals as goal

pub loop-m-preserved : goal.loop-m-preserved
loop-m-preserved c =
    let late : c.loop-m.m ≤ length c.args.calls.now = omega (arith, c.loop-m-test.true, c.len-m-end.ensures.exact) in
    let early : c.args.since ≤ c.loop-m.m + 1 = omega (arith, c.loop-m.invariant.0) in (
      early,
      λ none. moment-turn c.args.calls.now c.args.since c.loop-m.m c.loop-m.images.items c.push_moment.new.images.items c.loop-m.invariant.0 late
          (subst (λ (x : List Call). AddsMoment x c.loop-m.images.items c.push_moment.new.images.items) (c.first.ensures late) c.in_ok-push_moment.ensures)
          (c.loop-m.invariant.1 none),
    )
