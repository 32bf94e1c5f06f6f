use Rattle.device_mem.proofs.Syncs.{log_synced}
use Rattle.device_mem.proofs.disk.MemDiskDisk.log_sync.Goals as goal

pub returns-clause-crash : goal.returns-clause-crash
returns-clause-crash c told = log_synced _ _ _ c.put.ensures.ok c.put.ensures.err
