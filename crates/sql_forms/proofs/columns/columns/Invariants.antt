use Rattle.std.proofs.Common.{◌≡◌, ◌++◌, [], false, drop}
use Rattle.sql_forms.specs.declared.columns.ColumnsAt.TheVariants.{Open}
use Rattle.sql_forms.specs.Columns.{columns_from, columns_end}
use Rattle.sql_forms.proofs.columns.columns.Given as goal

abbrev pub invariant-loop-token : goal.invariant-loop-token
invariant-loop-token l = record {
  columns : l.found.items ++ columns_from l.at l.kept l.flag (drop l.token-index l.tokens) ≡ columns_from Open [] false l.tokens;
  end : columns_end l.at (drop l.token-index l.tokens) ≡ columns_end Open l.tokens;
}
