use Rattle.std.proofs.Common.{◌≡◌, ◌∙◌, ap, ℕ, List, drop, take, arith, length-drop}
use Rattle.std.proofs.lemmas.List.{take_all}
use Rattle.dby_bytes.specs.Numbers.{with_number}
use Rattle.log_records.specs.Sum.{sum_of}
use Rattle.log_file.specs.Control.{control_page}
use Rattle.log_file.proofs.control.put_control.Goals as goal

pub returns : goal.returns
unfolding control_page
returns c =
    let all : take 4088 (drop 8 c.put_numbers.new.page) ≡ drop 8 c.put_numbers.new.page = take_all 4088 (drop 8 c.put_numbers.new.page) (omega (arith, length-drop 8 c.put_numbers.new.page, c.put_numbers.array_long)) in
    c.put_u64.ensures.exact ∙ ap (λ (n : ℕ). with_number 8 c.put_numbers.new.page 0 n) (c.record_sum-sum.ensures ∙ ap sum_of all)
    ∙ ap (λ (l : List ℕ). with_number 8 l 0 (sum_of (drop 8 l))) c.put_numbers.ensures
