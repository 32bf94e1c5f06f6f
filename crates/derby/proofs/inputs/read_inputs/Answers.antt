use Rattle.std.proofs.Common.{None}
use Rattle.run_sources.proofs.FilesLemmas.{opens_more}
use Rattle.derby.specs.Inputs.{failure_in}
use Rattle.derby.proofs.inputs.read_inputs.Goals as goal

pub returns-in-Err-read_scripts-clause-opens : goal.returns-in-Err-read_scripts-clause-opens
returns-in-Err-read_scripts-clause-opens g c = opens_more (failure_in c.in-Err-read_scripts.error) _ _ _ _ _ _ c.in-Ok.ensures.opens c.in-Err-read_scripts.ensures.opens

pub returns-in-Ok-read_scripts-clause-opens : goal.returns-in-Ok-read_scripts-clause-opens
returns-in-Ok-read_scripts-clause-opens g c = opens_more None _ _ _ _ _ _ c.in-Ok.ensures.opens c.in-Ok-read_scripts.ensures.opens
