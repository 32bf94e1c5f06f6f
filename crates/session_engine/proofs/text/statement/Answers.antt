use Rattle.std.proofs.Common.{rules, ◌<◌, length, sym, ◌∙◌, ap, subst, Some}
use Rattle.sql_lexer.specs.Order.{AreInOrder}
use Rattle.sql_lexer.specs.Splitting.{bytes_of, spans_of}
use Rattle.session_engine.proofs.TextLemmas.{read-next, read-within}
use Rattle.session_engine.proofs.text.statement.Goals as goal

pub text_of-requires : goal.text_of-requires
text_of-requires c =
    let at = c.in-Some.ensures.lookup.1 in
    let lt : c.args.n < length c.as_slice-2.result.now = (let h = c.in-Some.ensures.lookup.0 in search rules) in
    let is = c.as_slice-2.ensures ∙ c.requires in
    rw (c.as_slice-in-Some.ensures, at) (read-within c.args.script.now c.as_slice-2.result.now c.args.n c.in-Some.span.now is (subst (λ s. AreInOrder 0 (length s) (spans_of s)) c.as_slice.ensures c.spans_in_order.ensures) lt)

pub returns-in_ok-text-in-Some-clause-text : goal.returns-in_ok-text-in-Some-clause-text
returns-in_ok-text-in-Some-clause-text c =
    let at = c.in-Some.ensures.lookup.1 in
    let lt : c.args.n < length c.as_slice-2.result.now = (let h = c.in-Some.ensures.lookup.0 in search rules) in
    let is = c.as_slice-2.ensures ∙ c.requires in
    let read = read-next c.args.script.now c.as_slice-2.result.now c.args.n c.in-Some.span.now is lt in
    ap Some (c.in_ok-text-in-Some.ensures ∙ ap (λ xs. bytes_of xs c.in-Some.span.now) c.as_slice-in-Some.ensures ∙ ap (bytes_of c.args.script.now) at) ∙ sym read
