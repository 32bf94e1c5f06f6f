use Rattle.std.proofs.Common.{◌<◌, ◌+◌, ◌∙◌, ◌++◌, ◌∷◌, [], length, take, ap, sym, arith}
use Rattle.std.proofs.lemmas.List.{take_more, length-take-le}
use Rattle.device_mem.specs.declared.call.Call.{Call}
use Rattle.device_mem.specs.Calls.{log_of}
use Rattle.device_mem.proofs.CutLemmas.{part-turn}
use Rattle.device_mem.proofs.cut.repeat_cut_at.Goals as goal

pub loop-i-preserved : goal.loop-i-preserved
loop-i-preserved c =
    let lt : c.loop-i.i < length c.args.calls.now = omega (arith, c.loop-i-test.true, c.loop-i.auto.i-end) in (
      λ none. part-turn c.args.at c.args.n c.loop-i.i c.index-calls-i.result (take c.loop-i.i c.args.calls.now) (take (c.loop-i.i + 1) c.args.calls.now) (log_of c.loop-i.to) (log_of c.repeat_part.new.to) (take_more c.args.calls.now c.loop-i.i c.index-calls-i.result lt ∙ sym (ap (λ (x : Call). take c.loop-i.i c.args.calls.now ++ x ∷ []) c.index-calls-i.is)) (sym (length-take-le c.loop-i.i c.args.calls.now (omega (arith, lt)))) (c.loop-i.invariant.0 none) c.in_ok-repeat_part.ensures.log,
      λ d p. c.in_ok-repeat_part.ensures.pages d p ∙ c.loop-i.invariant.1 d p,
    )
