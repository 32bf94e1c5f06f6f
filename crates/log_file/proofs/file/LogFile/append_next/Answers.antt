use Rattle.std.proofs.Common.{◌∙◌, ◌+◌, ℕ, ap, sym, subst, arith}
use Rattle.dby_types.specs.declared.number.Lsn.{Lsn}
use Rattle.log_records.specs.Rules.{IsLegal}
use Rattle.log_records.specs.View.{record_of}
use Rattle.log_file.specs.Tail.{next_of}
use Rattle.log_file.proofs.Growing.{next_end, put_ends}
use Rattle.log_file.proofs.Steps.{gains_more, puts}
use Rattle.log_file.proofs.file.LogFile.append_next.Goals as goal

pub put-requires-clause-legal : goal.put-requires-clause-legal
put-requires-clause-legal g c = subst (λ (at : Lsn). IsLegal at (record_of c.args.r.now)) (sym (next_end (c.args.self.now.segment + 1) c.args.self.now c.change_to_next.new.self c.in-Ok.ensures.next)) c.requires.legal

pub returns-in-Ok-clause-place : goal.returns-in-Ok-clause-place
returns-in-Ok-clause-place g c = c.put.ensures.place ∙ next_end (c.args.self.now.segment + 1) c.args.self.now c.change_to_next.new.self c.in-Ok.ensures.next

pub returns-in-Ok-clause-ends : goal.returns-in-Ok-clause-ends
returns-in-Ok-clause-ends g c =
    put_ends c.args.self.now c.change_to_next.new.self c.put.new.self c.put.result (record_of c.args.r.now) c.requires.plain c.put.ensures.place (omega (arith, c.in-Ok.ensures.next.forced_is, c.in-Ok.ensures.next.used_is, c.requires.size_is)) c.put.ensures.same.0
    c.put.ensures.same.1 (c.put.ensures.used ∙ ap (λ (n : ℕ). c.change_to_next.new.self.used + n) c.requires.size_is.0) (c.put.ensures.same.2 ∙ c.in-Ok.ensures.next.point_is) (c.put.ensures.same.3 ∙ c.in-Ok.ensures.next.at_is)

pub returns-in-Ok-clause-list : goal.returns-in-Ok-clause-list
returns-in-Ok-clause-list g c told =
    gains_more c.args.self.now c.change_to_next.new.self c.put.new.self _ _ _ _ (next_of (c.args.self.now.segment + 1)) (record_of c.args.r.now) (c.in-Ok.ensures.list told)
    (puts c.change_to_next.new.self c.put.new.self _ _ (record_of c.args.r.now) c.put.ensures.record c.requires.plain (omega (arith, c.in-Ok.ensures.next.forced_is, c.in-Ok.ensures.next.used_is, c.requires.size_is)) c.put.ensures.same.0 c.put.ensures.same.1
    (c.put.ensures.used ∙ ap (λ (n : ℕ). c.change_to_next.new.self.used + n) c.requires.size_is.0) c.put.ensures.pending)
