use Rattle.sql_binding.proofs.Refusing.{quiet_is_given, given_is_quiet, refused_is_first}
use Rattle.sql_binding.proofs.laws.the_first_of_the_earliest_class_is_told.Goals as goal

pub returns : goal.returns
returns c = record { quiet = quiet_is_given; bound = given_is_quiet; refused = refused_is_first }
