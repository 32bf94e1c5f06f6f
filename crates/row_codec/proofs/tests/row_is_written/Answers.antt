use Rattle.row_codec.proofs.WorkedLemmas.{fits_worked}
use Rattle.row_codec.proofs.tests.row_is_written.Goals as goal

pub write_row-requires-clause-fits : goal.write_row-requires-clause-fits
write_row-requires-clause-fits g c = fits_worked c.in_ok-row.row c.in_ok-columns.columns c.in_ok-row.ensures c.in_ok-columns.ensures
