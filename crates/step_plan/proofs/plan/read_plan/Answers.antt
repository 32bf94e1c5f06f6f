use Rattle.std.proofs.Common.{◌≡◌, refl, subst, arith}
use Rattle.step_plan.proofs.PlanLemmas.{line_feed, other_byte, last_line}
use Rattle.step_plan.proofs.plan.read_plan.Goals as goal
use Rattle.step_plan.proofs.plan.read_plan.Goals.{then-b-eq10+in_ok-put_line, else-b-eq10}

pub loop-i-preserved : goal.loop-i-preserved
loop-i-preserved c =
    elim c.if-b-eq10.branch [
      | then-b-eq10+in_ok-put_line w ↦ rw (w.found-is, w.number-is, w.from-is) (record {
        lines = line_feed c.args.scripts c.loop-i.number c.loop-i.from c.loop-i.i c.args.text.now c.loop-i.found.items w.put_line.new.found.items _ w.in_ok-put_line.field-0
            c.loop-i-test.true w.if-b-eq10.true w.in_ok-put_line.ensures.reads c.loop-i.invariant.lines;
        begun = omega arith;
        numbered = omega arith;
        bounds = w.put_line.ensures.bounds;
      })
      | else-b-eq10 w ↦ rw (w.found-is, w.number-is, w.from-is) (record {
        lines = other_byte c.args.scripts c.loop-i.number c.loop-i.from c.loop-i.i c.args.text.now c.loop-i.found.items _
            c.loop-i.invariant.begun c.loop-i-test.true w.if-b-eq10.false c.loop-i.invariant.lines;
        begun = omega arith;
        numbered = omega arith;
        bounds = c.loop-i.invariant.bounds;
      })
    ]

pub returns : goal.returns
returns c = (
  refl,
  last_line c.args.scripts c.loop-i.number c.loop-i.from c.loop-i.i c.args.text.now c.loop-i.found.items c.put_line-2.new.found.items _ c.in_ok-put_line-2.field-0
      (omega arith) c.in_ok-put_line-2.ensures.reads c.loop-i.invariant.lines,
)
