use Rattle.std.proofs.Common.{◌∷◌, take}
use Rattle.std.specs.Prelude.{flat_map}
use Rattle.journal_model.specs.Text.{value_text}
use Rattle.journal_text.specs.Printing.{Prints}
use Rattle.journal_text.proofs.answers.put_more_values.Given as goal

abbrev pub invariant-loop-value : goal.invariant-loop-value
invariant-loop-value g l = Prints (g.K.Sink.seen l.initial.sink) l.initial.out (g.K.Sink.seen l.sink) l.out (flat_map (λ y. 124 ∷ value_text y) (take l.value-index l.values))
