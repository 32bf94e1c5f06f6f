use Rattle.std.proofs.Common.{◌≡◌, ◌+◌, ◌≤◌, ◌++◌, ℕ, List, drop, length, sym, ap, subst, ◌∙◌}
use Rattle.dby_types.specs.declared.value.Value.{Value}
use Rattle.dby_types.specs.declared.definition.ColumnDef.{ColumnDef}
use Rattle.row_codec.specs.StoredRow.{row_len, stored_row, column_len, stored_value}
use Rattle.row_codec.proofs.StoredRowLemmas.{same_row}
use Rattle.row_codec.proofs.RowLoops.{IsNext, IsNext-from, HasWritten-all, place_more, written_more}
use Rattle.row_codec.proofs.write.write_row.Goals as goal

pub loop-i-preserved : goal.loop-i-preserved
loop-i-preserved c =
    let v = c.index-values-i.result in
    let d = c.index-columns-i.result in
    let next : IsNext c.as_slice-values.result.now c.as_slice-columns.result.now c.loop-i.i v d =
    IsNext-from c.as_slice-values.result.now c.as_slice-columns.result.now c.loop-i.i v d c.loop-i-test.true c.index-values-i.is c.index-columns-i.is c.loop-i.invariant.fits in
    let width : c.column_len.result ≡ column_len d.ty = c.column_len.ensures.exact ∙ ap (λ (e : ColumnDef). column_len e.ty) (sym c.index-columns-i.is) in
    let wrote : c.write_value.new.into ≡ stored_value v d.ty = c.write_value.ensures.exact ∙ ap (λ (e : ColumnDef). stored_value v e.ty) (sym c.index-columns-i.is) in
    let room : row_len c.as_slice-columns.result.now ≤ length c.args.into.now =
    subst (λ (s : List ColumnDef). row_len s ≤ length c.args.into.now) (sym c.as_slice-columns.ensures) c.requires.room in
    record {
      fits = next.others;
      place =
          ap (λ (n : ℕ). c.loop-i.at + n + row_len (drop (c.loop-i.i + 1) c.as_slice-columns.result.now)) width
          ∙ place_more c.as_slice-values.result.now c.as_slice-columns.result.now c.loop-i.i c.loop-i.at v d next c.loop-i.invariant.place;
      done =
          written_more c.as_slice-values.result.now c.as_slice-columns.result.now c.loop-i.i c.loop-i.at c.column_len.result c.args.into.now c.loop-i.into c.write_value.new.into v d next width c.loop-i.invariant.place room c.loop-i.invariant.done wrote;
    }

-- the bytes at the end
whole : (vs us : List Value) (cs ds : List ColumnDef) (into first : List ℕ) → vs ≡ us → cs ≡ ds → into ≡ stored_row vs cs ++ drop (row_len cs) first → into ≡ stored_row us ds ++ drop (row_len ds) first
whole vs us cs ds into first p q e =
    e ∙ ap (λ (s : List Value). stored_row s cs ++ drop (row_len cs) first) p ∙ ap (λ (s : List ColumnDef). stored_row us s ++ drop (row_len s) first) q

pub returns-clause-exact : goal.returns-clause-exact
returns-clause-exact c =
    whole c.as_slice-values.result.now c.args.r.now c.as_slice-columns.result.now c.args.c.now c.loop-i.into c.args.into.now c.as_slice-values.ensures c.as_slice-columns.ensures
    (HasWritten-all c.as_slice-values.result.now c.as_slice-columns.result.now c.loop-i.i c.loop-i.at c.args.into.now c.loop-i.into c.loop-i-test.false c.loop-i.invariant.fits c.loop-i.invariant.place c.loop-i.invariant.done)

pub returns-clause-others : goal.returns-clause-others
returns-clause-others c s rest fits e =
    sym (same_row c.args.r.now s c.args.c.now (drop (row_len c.args.c.now) c.args.into.now) rest c.requires.fits fits (sym (returns-clause-exact c) ∙ e))
