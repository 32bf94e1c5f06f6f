use Rattle.std.proofs.Common.{◌∙◌, ℕ, ap, sym, subst, arith}
use Rattle.std.proofs.lemmas.Option.{slice_get_within, get_or_from_slice_get}
use Rattle.std.specs.Option.{is_some}
use Rattle.lock_manager.specs.Asked.{asks_for, Closes}
use Rattle.lock_manager.proofs.AskedLemmas.{before_all, within_some, beyond_none, struck_at}
use Rattle.lock_manager.proofs.asked.strike.Goals as goal

pub overflow_sub-end : goal.overflow_sub-end
overflow_sub-end c =
    let less = before_all c.args.line.now c.args.at c.args.r (slice_get_within c.args.line.now c.args.at c.args.r c.requires.there) (sym (get_or_from_slice_get c.args.line.now c.args.at c.args.r c.args.r c.requires.there)) in
    omega (arith, less, c.end-end.ensures.exact)

pub close-requires-clause-within : goal.close-requires-clause-within
close-requires-clause-within c =
    let less = before_all c.args.line.now c.args.at c.args.r (slice_get_within c.args.line.now c.args.at c.args.r c.requires.there) (sym (get_or_from_slice_get c.args.line.now c.args.at c.args.r c.args.r c.requires.there)) in
    omega (arith, less, c.end-end.ensures.exact, c.number_of-first.ensures.exact)

pub close-requires-clause-taken : goal.close-requires-clause-taken
close-requires-clause-taken c = λ i h.
    let less = before_all c.args.line.now c.args.at c.args.r (slice_get_within c.args.line.now c.args.at c.args.r c.requires.there) (sym (get_or_from_slice_get c.args.line.now c.args.at c.args.r c.args.r c.requires.there)) in
    ap is_some (c.requires.by_name c.args.r.name i) ∙ within_some (asks_for c.args.r.name c.args.line.now) i (omega (arith, less, c.end-end.ensures.exact, h))

pub close-requires-clause-free : goal.close-requires-clause-free
close-requires-clause-free c = λ i h.
    let less = before_all c.args.line.now c.args.at c.args.r (slice_get_within c.args.line.now c.args.at c.args.r c.requires.there) (sym (get_or_from_slice_get c.args.line.now c.args.at c.args.r c.args.r c.requires.there)) in
    c.requires.by_name c.args.r.name i ∙ beyond_none (asks_for c.args.r.name c.args.line.now) i (omega (arith, less, c.end-end.ensures.exact, h))

pub returns-clause-by_name : goal.returns-clause-by_name
returns-clause-by_name c =
    let read = sym (get_or_from_slice_get c.args.line.now c.args.at c.args.r c.args.r c.requires.there) in
    struck_at c.args.asked.now c.close.new.asked c.args.line.now c.args.at c.args.r (slice_get_within c.args.line.now c.args.at c.args.r c.requires.there) read c.requires.by_name
    (subst (λ (k : ℕ). Closes c.args.asked.now c.close.new.asked c.args.r.name k) c.number_of-first.ensures.exact c.close.ensures.exact)
