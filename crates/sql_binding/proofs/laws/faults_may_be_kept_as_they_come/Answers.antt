use Rattle.sql_binding.proofs.Refusing.{kept_as_they_come}
use Rattle.sql_binding.proofs.laws.faults_may_be_kept_as_they_come.Goals as goal

pub returns : goal.returns
returns c = kept_as_they_come
