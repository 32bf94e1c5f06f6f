use Rattle.std.proofs.Common.{◌+◌, ◌*◌, ◌-◌, ℕ, ap, sym, ◌∙◌}
use Rattle.dby_bytes.specs.Numbers.{number_at}
use Rattle.slotted_page.specs.Format.{count_at}
use Rattle.slotted_page.proofs.FormatLemmas.{end_of_none, end_of_some}
use Rattle.slotted_page.proofs.check.lowest.Goals as goal

pub returns-then-count-eq0 : goal.returns-then-count-eq0
returns-then-count-eq0 c = sym (end_of_none c.args.b.now (count_at c.args.b.now) (sym c.get_u16-count.ensures.exact ∙ c.if-count-eq0.true))

pub returns : goal.returns
returns c =
    c.get_u16.ensures.exact ∙ ap (λ (n : ℕ). number_at 2 c.args.b.now (32 + 4 * (n - 1))) c.get_u16-count.ensures.exact
    ∙ sym (end_of_some c.args.b.now (count_at c.args.b.now) (λ e. c.if-count-eq0.false (c.get_u16-count.ensures.exact ∙ e)))
