use Rattle.std.proofs.Common.{map}
use Rattle.std.specs.Prelude.{string_bytes}
use Rattle.derby.proofs.InputLemmas.{ready}
use Rattle.derby.proofs.step.go.Goals as goal

pub run-requires : goal.run-requires
run-requires g c = ready (g.H.Host.seen c.args.host.now).scripts c.args.words.plan.now (map string_bytes c.args.words.scripts.now) c.in-Ok.inputs c.in-Ok.ensures.reads.0 c.in-Ok.ensures.reads.1
