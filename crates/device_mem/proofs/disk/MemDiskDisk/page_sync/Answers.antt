use Rattle.device_mem.proofs.Syncs.{pages_synced}
use Rattle.device_mem.proofs.disk.MemDiskDisk.page_sync.Goals as goal

pub returns-clause-crash : goal.returns-clause-crash
returns-clause-crash c told = pages_synced _ _ _ c.put.ensures.ok c.put.ensures.err
