use Rattle.std.proofs.Common.{◌≤◌, ◌∙◌, ap, arith, List, ℕ, length, drop, length-drop}
use Rattle.std.proofs.lemmas.List.{take_all}
use Rattle.dby_bytes.specs.Numbers.{number_at}
use Rattle.slotted_page.specs.Sum.{digest_of}
use Rattle.slotted_page.proofs.sum.right_sum.Goals as goal

pub returns : goal.returns
returns c =
    let some : length (drop 8 c.args.page.now) ≤ 4088 = omega (arith, c.told-page, length-drop 8 c.args.page.now) in
    record { exact = c.get_u64.ensures.exact ∙ ap (λ (d : List ℕ). number_at 8 d 0) (c.digest.ensures ∙ ap digest_of (take_all 4088 (drop 8 c.args.page.now) some)) }
