use Rattle.log_file.proofs.Prefix.{log_reads}
use Rattle.log_file.proofs.file.LogFile.is_read.Goals as goal

pub returns : goal.returns
returns c = log_reads c.args.self.now
