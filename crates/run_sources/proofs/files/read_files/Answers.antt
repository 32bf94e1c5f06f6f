use Rattle.std.proofs.Common.{◌≡◌, ℕ, List, subst, Some, None, Ok, map}
use Rattle.std.specs.Prelude.{string_bytes, slice_index_or, []}
use Rattle.run_sources.specs.Files.{ReadsNext}
use Rattle.run_sources.proofs.FilesLemmas.{opens_more, files_more, name_at, more_names}
use Rattle.run_sources.proofs.files.read_files.Goals as goal

pub returns-in-Err-clause-cause : goal.returns-in-Err-clause-cause
returns-in-Err-clause-cause g c = opens_more (Some c.in-Err.why) _ _ _ _ _ _ c.loop-file.invariant.opens c.in-Err.ensures.cause

pub loop-file-preserved : goal.loop-file-preserved
loop-file-preserved g c =
    let names = c.args.names.now in
    let i = c.loop-file.file in
    let now = (g.H.Host.seen c.loop-file.host).scripts in
    let at : c.as_str.result.now ≡ slice_index_or (map string_bytes names) i [] = name_at string_bytes names i c.index-names-file.result c.as_str.result.now c.loop-file-test.true c.as_str.ensures.value c.index-names-file.is in
    let reads = subst (λ (n : List ℕ). ReadsNext (now n) c.loop-file.texts.items c.read_next.new.texts.items (Ok c.in_default.field-0)) at c.in_default.ensures.reads in
    record {
      opens = opens_more None _ _ _ _ _ _ c.loop-file.invariant.opens c.in_default.ensures.cause;
      files = files_more (g.H.Host.seen c.args.host.now).scripts now (map string_bytes names) c.loop-file.texts.items c.read_next.new.texts.items i c.in_default.field-0
          (more_names string_bytes names i c.loop-file-test.true) c.loop-file.invariant.opens.same c.loop-file.invariant.files reads;
    }
