use Rattle.std.proofs.Common.{◌∙◌}
use Rattle.indexmap.proofs.CallerLemmas.{insert_entry-new}
use Rattle.session_engine.proofs.LookupLemmas.{absent-lookup, ok-on}
use Rattle.session_engine.proofs.dictionary.enlist.Goals as goal

pub returns : goal.returns
returns c =
    ok-on c.insert.result (c.insert.ensures.succeeds c.requires.room) c.insert.ensures.entries
    ∙ insert_entry-new _ c.args.tables.now c.args.name _ (absent-lookup c.args.tables.now.entries c.args.name c.requires.absent)
