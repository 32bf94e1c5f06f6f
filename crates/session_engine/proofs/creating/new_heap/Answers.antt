use Rattle.std.proofs.Common.{refl, inl}
use Rattle.session_engine.proofs.StepLemmas.{kept_content}
use Rattle.session_engine.proofs.creating.new_heap.Goals as goal

pub returns-in-Err-clause-err : goal.returns-in-Err-clause-err
returns-in-Err-clause-err g c = ((c.args.make.now.def.number, refl), inl (kept_content _ _ _ _ _ _ c.in-Err.ensures.err))
