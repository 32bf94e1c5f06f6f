use Rattle.std.proofs.Common.{subst, List, ℕ, take}
use Rattle.log_file.specs.Reading.{Judges}
use Rattle.log_file.proofs.Records.{judged_small, judged_whole}
use Rattle.log_file.proofs.file.LogFile.judge.Goals as goal

pub invariant_of-self-clause-found_is : goal.invariant_of-self-clause-found_is
invariant_of-self-clause-found_is c = judged_small c.args.at _ _ _ c.judged-size.ensures

pub invariant_of-self-clause-whole_is : goal.invariant_of-self-clause-whole_is
invariant_of-self-clause-whole_is c = judged_whole c.args.at c.args.self.now.window.items c.args.n _ _ (subst (λ (b : List ℕ). Judges c.args.at (take c.args.n b) c.judged-size.result.0 c.judged-size.result.1) c.deref.ensures.value c.judged-size.ensures)
