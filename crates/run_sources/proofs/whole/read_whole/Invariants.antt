use Rattle.std.proofs.Common.{◌≡◌, ◌≤◌, length}
use Rattle.run_sources.proofs.WholeLemmas.{HasRead}
use Rattle.run_sources.proofs.whole.read_whole.Given as goal

abbrev pub invariant-loop : goal.invariant-loop
invariant-loop g l = record {
  read : HasRead (g.S.Source.seen l.initial.source).content (g.S.Source.seen l.source).content l.bytes.items;
  short : length l.bytes.items ≤ 1048576;
  turns : l.counter ≤ length l.bytes.items;
  same : (g.S.Source.seen l.source).faults ≡ (g.S.Source.seen l.initial.source).faults;
}
