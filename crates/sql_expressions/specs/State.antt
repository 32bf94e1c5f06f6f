-- The state of the grammar's machine that the machine in code stands for.
use Rattle.std.specs.Prelude.{[]}
use Rattle.sql_grammar.specs.Machine.{State, state}
use Rattle.sql_expressions.specs.Shape.{level_of, mode_of, outer_of}
use Rattle.sql_expressions.specs.declared.machine.Machine.{Machine}

abbrev pub state_of : Machine → State
state_of x = state (mode_of x.mode) (level_of x.level) (outer_of [] x.outer.items)
