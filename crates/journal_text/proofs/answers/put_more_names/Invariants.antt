use Rattle.std.proofs.Common.{◌∷◌, take}
use Rattle.std.specs.Prelude.{flat_map}
use Rattle.journal_text.specs.Printing.{Prints}
use Rattle.journal_text.proofs.answers.put_more_names.Given as goal

abbrev pub invariant-loop-name : goal.invariant-loop-name
invariant-loop-name g l = Prints (g.K.Sink.seen l.initial.sink) l.initial.out (g.K.Sink.seen l.sink) l.out (flat_map (λ y. 124 ∷ y) (take l.name-index l.names))
