use Rattle.std.proofs.Common.{◌∙◌, sym, arith}
use Rattle.slotted_page.specs.Format.{own_id}
use Rattle.slotted_page.proofs.FormatLemmas.{own_right, own_wrong}
use Rattle.slotted_page.proofs.check.wrong_own.Goals as goal
use Rattle.slotted_page.proofs.check.wrong_own.Goals.{else-b-eq0-via-then-b-eq0+else-get_u32-eq0, else-b-eq0-via-else-b-eq0}

pub returns-then-get_u32-eq0 : goal.returns-then-get_u32-eq0
returns-then-get_u32-eq0 c = record { exact = own_wrong (own_id c.args.b.now) c.args.b.now c.requires c.if-b-eq0.true (sym c.get_u32.ensures.exact ∙ c.if-get_u32-eq0.true) }

pub returns : goal.returns
returns c =
    elim c.else-b-eq0.branch [
      | else-b-eq0-via-then-b-eq0+else-get_u32-eq0 w ↦ record { exact = own_right (own_id c.args.b.now) c.args.b.now c.requires (λ k. omega (arith, w.get_u32.ensures.exact, w.if-get_u32-eq0.false)) }
      | else-b-eq0-via-else-b-eq0 w ↦ record { exact = own_right (own_id c.args.b.now) c.args.b.now c.requires (λ k. absurd (w.if-b-eq0.false k)) }
    ]
