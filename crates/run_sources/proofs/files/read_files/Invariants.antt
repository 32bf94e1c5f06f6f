use Rattle.std.proofs.Common.{take, map, string_bytes, None}
use Rattle.run_sources.specs.Files.{Opens, AreFiles}
use Rattle.run_sources.proofs.files.read_files.Given as goal

abbrev pub invariant-loop-file : goal.invariant-loop-file
invariant-loop-file g l = record {
  opens : Opens None (g.H.Host.seen l.initial.host) (g.H.Host.seen l.host) (map g.H.Script.Source.seen l.initial.sources.items) (map g.H.Script.Source.seen l.sources.items);
  files : AreFiles (g.H.Host.seen l.initial.host).scripts (take l.file (map string_bytes l.names)) l.texts.items;
}
