use Rattle.std.proofs.Common.{◌≡◌, ◌-◌, ◌<◌, ℕ, List, Option, Some, None, length, sym, subst, arith}
use Rattle.std.specs.Option.{MatchOption}
use Rattle.dby_types.specs.declared.value.Value.{Value}
use Rattle.dby_types.specs.declared.definition.ColumnDef.{ColumnDef}
use Rattle.row_codec.specs.StoredRow.{IsRow}
use Rattle.row_codec.proofs.RowLoops.{next_column, read_more, no_row_short, no_row_at, no_row_long, row_read}
use Rattle.row_codec.proofs.read.read_row.Goals as goal

-- no row of the columns that the slice lends is none of the columns
none_of : (cs ds : List ColumnDef) (b : List ℕ) → cs ≡ ds → ((r : List Value) → IsRow cs b r → ⊥) → (r : List Value) → IsRow ds b r → ⊥
none_of cs ds b e h = subst (λ (s : List ColumnDef). (r : List Value) → IsRow s b r → ⊥) e h

found_at : (o : Option Value) (v : Value) (P : Type 0) (Q : Value → Type 0) → o ≡ Some v → MatchOption o P Q → Q v
found_at o v P Q e h = subst (λ (x : Option Value). MatchOption x P Q) e h

none_at : (o : Option Value) (P : Type 0) (Q : Value → Type 0) → o ≡ None → MatchOption o P Q → P
none_at o P Q e h = subst (λ (x : Option Value). MatchOption x P Q) e h

pub returns-then-b-at : goal.returns-then-b-at
returns-then-b-at c =
    let d = c.column-item.result in
    let is = next_column c.as_slice-columns.result.now c.loop-column.column-index d c.loop-column-test.true c.column-item.is in
    record {
      exact =
          none_of c.as_slice-columns.result.now c.args.c.now c.args.b.now c.as_slice-columns.ensures
          (no_row_short c.as_slice-columns.result.now c.args.b.now c.loop-column.column-index c.loop-column.at c.loop-column.values.items d is
          (subst (λ (n : ℕ). length c.args.b.now - c.loop-column.at < n) c.column_len-len.ensures.exact c.if-b-at.true) c.loop-column.invariant.read);
    }

pub returns-in_default : goal.returns-in_default
returns-in_default c =
    let d = c.column-item.result in
    let is = next_column c.as_slice-columns.result.now c.loop-column.column-index d c.loop-column-test.true c.column-item.is in
    record {
      exact =
          none_of c.as_slice-columns.result.now c.args.c.now c.args.b.now c.as_slice-columns.ensures
          (no_row_at c.as_slice-columns.result.now c.args.b.now c.loop-column.column-index c.loop-column.at c.column_len-len.result c.loop-column.values.items d is c.column_len-len.ensures.exact
          (none_at c.in_ok-value.field-0 _ _ c.in_default.is c.in_ok-value.ensures.exact) c.loop-column.invariant.read);
    }

pub loop-column-preserved : goal.loop-column-preserved
loop-column-preserved c =
    let d = c.column-item.result in
    let is = next_column c.as_slice-columns.result.now c.loop-column.column-index d c.loop-column-test.true c.column-item.is in
    record {
      place = omega (arith, c.if-b-at.false, c.loop-column.invariant.place);
      read =
          read_more c.as_slice-columns.result.now c.args.b.now c.loop-column.column-index c.loop-column.at c.column_len-len.result c.loop-column.values.items c.push.new.self.items c.in-Some.value d is c.column_len-len.ensures.exact c.in_ok-push.ensures.items
          (found_at c.in_ok-value.field-0 c.in-Some.value _ _ c.in-Some.is c.in_ok-value.ensures.exact) c.loop-column.invariant.read;
    }

pub returns-then-at-b : goal.returns-then-at-b
returns-then-at-b c =
    record {
      exact =
          none_of c.as_slice-columns.result.now c.args.c.now c.args.b.now c.as_slice-columns.ensures
          (no_row_long c.as_slice-columns.result.now c.args.b.now c.loop-column.column-index c.loop-column.at c.loop-column.values.items c.loop-column-test.false c.if-at-b.true c.loop-column.invariant.read);
    }

pub returns : goal.returns
returns c =
    record {
      exact =
          subst (λ (s : List Value). IsRow c.args.c.now c.args.b.now s) (sym c.from_vec.ensures)
          (subst (λ (s : List ColumnDef). IsRow s c.args.b.now c.loop-column.values.items) c.as_slice-columns.ensures
          (row_read c.as_slice-columns.result.now c.args.b.now c.loop-column.column-index c.loop-column.at c.loop-column.values.items c.loop-column-test.false c.if-at-b.false c.loop-column.invariant.read));
    }
