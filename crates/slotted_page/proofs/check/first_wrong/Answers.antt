use Rattle.std.proofs.Common.{ℕ, MatchOption, sym, subst}
use Rattle.dby_types.specs.declared.number.PageId.{PageId}
use Rattle.slotted_page.specs.Format.{AreRightBelow, IsFirstWrong, IsRightAt}
use Rattle.slotted_page.proofs.FormatLemmas.{own_id_right}
use Rattle.slotted_page.proofs.check.first_wrong.Goals as goal

pub wrong_behind-requires : goal.wrong_behind-requires
wrong_behind-requires c =
    subst (λ (i : PageId). AreRightBelow i c.args.b.now 32) (sym (own_id_right c.args.id c.args.b.now c.in_default.ensures.exact)) c.in_default.ensures.exact

pub returns : goal.returns
returns c =
    record {
      exact =
          subst (λ (i : PageId). MatchOption c.wrong_behind.result ((p : ℕ) → IsRightAt i c.args.b.now p) (IsFirstWrong i c.args.b.now))
          (own_id_right c.args.id c.args.b.now c.in_default.ensures.exact) c.wrong_behind.ensures.exact;
    }
