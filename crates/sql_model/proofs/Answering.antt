-- An answer is a bag in an order.
use Rattle.std.proofs.Common.{List}
use Rattle.std.specs.List.Sorted.{IsSorted, IsPermutation}
use Rattle.std.proofs.lemmas.List.Sorted.{IsPermutation-trans}
use Rattle.sql_ast.specs.declared.bound.BoundSelect.{BoundSelect}
use Rattle.sql_model.specs.Meaning.{Answers, rows_of}
use Rattle.sql_model.specs.Order.{order_cmp}
use Rattle.sql_model.specs.Query.{answer_rows}
use Rattle.sql_model.specs.Tuples.{Row}
use Rattle.table_model.specs.Tables.{Tables}

pub answers_permuted : (q : BoundSelect) (tables : Tables) (rows more : List Row) → Answers q tables rows → IsPermutation rows more → IsSorted (order_cmp q.order) more → Answers q tables more
answers_permuted q tables rows more a moved sorted = record {
  quiet = a.quiet;
  found = a.found;
  joins = a.joins;
  finishes = record {
    quiet = a.finishes.quiet;
    agrees = record { same = IsPermutation-trans (answer_rows q (rows_of a.found)) rows more a.finishes.agrees.same moved; sorted = sorted };
  };
}
