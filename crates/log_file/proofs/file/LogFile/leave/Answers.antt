use Rattle.std.proofs.Common.{◌≡◌, ◌+◌, ◌++◌, ◌∙◌, ℕ, List, length, take, ap, sym, subst, arith}
use Rattle.std.proofs.lemmas.List.{with_items_is}
use Rattle.dby_types.specs.declared.number.Lsn.{Lsn}
use Rattle.log_records.specs.Format.{stored_record}
use Rattle.log_records.specs.Rules.{IsRecord}
use Rattle.log_records.specs.View.{record_of}
use Rattle.log_file.specs.Tail.{pending}
use Rattle.log_file.proofs.Growing.{leaves}
use Rattle.log_file.proofs.file.LogFile.leave.Goals as goal

pub returns-clause-left : goal.returns-clause-left
returns-clause-left g c = λ told on.
    let len : length c.encode_behind.new.into ≡ c.args.self.now.buffer.len = omega (arith, c.as_mut_slice.ensures.len) in
    leaves c.write_front.result c.args.self.now (record_of c.args.r.now) _ _ _ _ c.requires.size_is on (subst (λ (at : Lsn). IsRecord at (record_of c.args.r.now)) c.end-at.ensures c.encode_behind.ensures.record)
    (ap (take (c.args.self.now.used + 44)) (with_items_is c.args.self.now.buffer c.encode_behind.new.into len)
    ∙ ap (λ (n : ℕ). take (c.args.self.now.used + n) c.encode_behind.new.into) (sym c.requires.size_is)
    ∙ c.encode_behind.ensures.behind
    ∙ ap (λ (l : List ℕ). take c.args.self.now.used l ++ stored_record c.end-at.result (record_of c.args.r.now)) c.as_mut_slice.ensures.value
    ∙ ap (λ (at : Lsn). pending c.args.self.now ++ stored_record at (record_of c.args.r.now)) c.end-at.ensures)
    (c.write_front.ensures.written told)
