use Rattle.sql_parts.proofs.Firsts.{parts_told}
use Rattle.sql_parts.proofs.table.table_parts.Goals as goal

pub returns : goal.returns
returns c = parts_told _ _ _ _ _ _ _ _ c.in_ok-column.ensures c.in_ok-parts.ensures.ok c.more.ensures
