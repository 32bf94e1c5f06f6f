-- What a step of a search tells.
use Rattle.std.specs.Prelude.{◌<◌}
use Rattle.dby_types.specs.declared.number.TxnNo.{TxnNo}
use Rattle.lock_modes.specs.Lock.{Lock}
use Rattle.deadlock_cycle.specs.declared.search.Next.{Next}
use Rattle.deadlock_cycle.specs.declared.search.Next.TheVariants.{Goes, Ends, Closes}
use Rattle.deadlock_cycle.specs.declared.search.Search.{Search}
use Rattle.deadlock_cycle.specs.Search.{Searching, NoCycle, IsCycleThrough, rank}
use Rattle.deadlock_cycle.specs.First.{IsFirst}
use Rattle.deadlock_cycle.specs.Ordered.{Ordered}

abbrev pub IsSearching : Lock → TxnNo → Search → Type 0
IsSearching l t s = Searching l t s.path s.seen s.node s.above × Ordered l t s.path s.seen s.node s.above

-- a step goes on with less to do, or ends with no cycle, or with the first one
abbrev pub IsStep : Lock → TxnNo → Search → Search → Next → Type 0
IsStep l t old new Goes = IsSearching l t new × (rank new.path new.seen new.above < rank old.path old.seen old.above)
IsStep l t old new Ends = NoCycle l t
IsStep l t old new Closes = IsCycleThrough l t new.path × IsFirst l t new.path
