use Rattle.std.proofs.Common.{refl, sym, ◌∙◌, ap, List, Some, arith}
use Rattle.std.specs.Prelude.{slice_get}
use Rattle.dby_types.specs.declared.definition.ColumnDef.{ColumnDef}
use Rattle.std.proofs.lemmas.Option.{slice_get-get_or}
use Rattle.session_engine.proofs.NextLemmas.{laid}
use Rattle.session_engine.proofs.listing.lay_next.Goals as goal

pub returns : goal.returns
returns c = laid c.args.make.now _ c.row_of_column-row.result (record {
  takes = record { made = c.in-true.is; had_room = c.in-true-has_room.is; after = refl };
  column = c.index-columns-make.result;
  there = ap (λ (cs : List ColumnDef). slice_get cs c.args.make.now.done) (sym c.as_slice-columns.ensures)
      ∙ slice_get-get_or c.as_slice-columns.result.now c.args.make.now.done c.index-columns-make.result (let past = c.if-make-columns.false in omega (arith, past)) ∙ ap Some (sym c.index-columns-make.is);
}) c.row_of_column-row.ensures
