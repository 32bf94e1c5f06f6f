use Rattle.std.proofs.Common.{◌≡◌, ◌+◌, ◌++◌, ◌∙◌, ℕ, List, length, take, ap, arith}
use Rattle.std.proofs.lemmas.List.{with_items_is}
use Rattle.dby_types.specs.declared.number.Lsn.{Lsn}
use Rattle.log_records.specs.Format.{stored_record}
use Rattle.log_records.specs.View.{record_of}
use Rattle.log_file.specs.Tail.{pending}
use Rattle.log_file.proofs.file.LogFile.put.Goals as goal

pub returns-clause-pending : goal.returns-clause-pending
returns-clause-pending c =
    let used : ℕ = c.args.self.now.used in
    let len : length c.encode_behind.new.into ≡ c.args.self.now.buffer.len = omega (arith, c.as_mut_slice.ensures.len) in
    ap (take (c.args.self.now.used + c.args.size)) (with_items_is c.args.self.now.buffer c.encode_behind.new.into len)
    ∙ ap (λ (n : ℕ). take (c.args.self.now.used + n) c.encode_behind.new.into) c.requires.size_is.0
    ∙ c.encode_behind.ensures.behind
    ∙ ap (λ (l : List ℕ). take c.args.self.now.used l ++ stored_record c.end-at.result (record_of c.args.r.now)) c.as_mut_slice.ensures.value
    ∙ ap (λ (at : Lsn). pending c.args.self.now ++ stored_record at (record_of c.args.r.now)) c.end-at.ensures
