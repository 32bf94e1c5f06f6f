use Rattle.row_codec.proofs.WorkedLemmas.{fits_worked}
use Rattle.bench_pages.proofs.rows.write_again.Goals as goal

pub write_each-requires-clause-fits : goal.write_each-requires-clause-fits
write_each-requires-clause-fits c = fits_worked c.in_ok-row.row c.in_ok-columns.columns c.in_ok-row.ensures c.in_ok-columns.ensures
