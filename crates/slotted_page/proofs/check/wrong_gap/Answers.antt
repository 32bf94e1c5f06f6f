use Rattle.std.proofs.Common.{arith}
use Rattle.slotted_page.specs.Format.{directory_end, kind_at, count_at}
use Rattle.slotted_page.specs.Format.{own_id}
use Rattle.slotted_page.proofs.FormatLemmas.{directory_from, directory_fits, ends_ordered, entry_of, gap_more}
use Rattle.slotted_page.proofs.check.wrong_gap.Goals as goal

pub lowest-low-requires : goal.lowest-low-requires
lowest-low-requires c = let fits = directory_fits (own_id c.args.b.now) c.args.b.now (directory_end c.args.b.now) c.requires (let q = directory_from (kind_at c.args.b.now) in omega (arith, q)) in omega (arith, fits)

pub bounds-b-p : goal.bounds-b-p
bounds-b-p c =
    let top = ends_ordered c.args.b.now 0 (count_at c.args.b.now) (λ n k. entry_of (own_id c.args.b.now) c.args.b.now n c.requires k) (omega arith) (omega arith) in
    omega (arith, top, c.lowest-low.ensures, c.loop-p-test.true)

pub loop-p-preserved : goal.loop-p-preserved
loop-p-preserved c =
    gap_more (own_id c.args.b.now) c.args.b.now c.loop-p.p c.requires (omega (arith, c.loop-p.auto.p, c.get_u16-count.ensures.exact, c.directory_start.ensures)) (omega (arith, c.lowest-low.ensures, c.loop-p-test.true)) c.if-b-p-ne0.false c.loop-p.invariant

pub returns : goal.returns
returns c = record { exact = λ p l. c.loop-p.invariant p (omega (arith, l, c.lowest-low.ensures, c.loop-p-test.false)) }
