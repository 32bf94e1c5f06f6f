-- A table without keys.
use Rattle.std.proofs.Common.{◌≡◌, ℕ, suc, ◌+◌, ◌≤◌, Bool, true, false, ◌||◌, not, List, [], ◌∷◌, ◌++◌, length, drop, drop_of_length-le, nat_le, Option, refl, sym, ap, ◌∙◌, append-nil}
use Rattle.std.proofs.lemmas.Bool.{false≢true}
use Rattle.std.specs.Borrow.{Bor}
use Rattle.change_binder.proofs.Chains.{behind}
use Rattle.dby_types.specs.declared.definition.ColumnDef.{ColumnDef}
use Rattle.dby_types.specs.declared.definition.Dictionary.{Dictionary}
use Rattle.dby_types.specs.declared.state.SqlState.{SqlState}
use Rattle.dby_types.specs.declared.state.SqlState.TheVariants.{NameTwice, TooLarge, SecondPrimaryKey}
use Rattle.expr_binder.specs.Walking.{kept}
use Rattle.name_binder.specs.Lent.{texts}
use Rattle.row_codec.specs.StoredRow.{row_len}
use Rattle.sql_ast.specs.declared.bound.BoundKey.{BoundKey}
use Rattle.sql_ast.specs.declared.bound.BoundStatement.TheVariants.{CreateTable}
use Rattle.sql_ast.specs.declared.statement.ColumnMark.{ColumnMark}
use Rattle.sql_ast.specs.declared.statement.ColumnMark.TheVariants as mark
use Rattle.sql_ast.specs.declared.statement.TablePart.{TablePart}
use Rattle.sql_ast.specs.declared.statement.TablePart.TheVariants.{Column, PrimaryKey, Unique}
use Rattle.sql_binder.specs.Answering.{Forms}
use Rattle.sql_binder.specs.Built.{marks_key, makes_key, has_key}
use Rattle.sql_binder.specs.Making.{has_not_null, plain_column, plain_columns}
use Rattle.sql_binding.specs.Bound.{Bound, create_table}
use Rattle.sql_binding.specs.Creating.{refuses_null, is_primary_in, new_columns, new_column, new_keys, marked_keys, rule_faults, column_names, created_columns, created_keys, create_faults, exists_faults, keys_limits, primaries}
use Rattle.sql_binding.specs.Faults.{unless}
use Rattle.sql_binding.specs.From.{found_in, limit_faults, twice_faults}
use Rattle.sql_binding.specs.Names.{has_twice}

left_false : (a b : Bool) → a || b ≡ false → a ≡ false
left_false true b h = absurd (false≢true (sym h))
left_false false b h = refl

right_false : (a b : Bool) → a || b ≡ false → b ≡ false
right_false true b h = absurd (false≢true (sym h))
right_false false b h = h

same_marks : (marks : List ColumnMark) → marks_key marks ≡ false → has_not_null marks ≡ refuses_null marks
same_marks [] h = refl
same_marks (mark.NotNull ∷ marks) h = refl
same_marks (mark.PrimaryKey ∷ marks) h = absurd (false≢true (sym h))
same_marks (mark.Unique ∷ marks) h = absurd (false≢true (sym h))

none_primary : (parts : List TablePart) (name : List ℕ) → has_key parts ≡ false → is_primary_in parts name ≡ false
none_primary [] name h = refl
none_primary (Column c ∷ parts) name h = none_primary parts name (right_false (marks_key c.marks) (has_key parts) h)
none_primary (PrimaryKey names ∷ parts) name h = absurd (false≢true (sym h))
none_primary (Unique names ∷ parts) name h = absurd (false≢true (sym h))

or_last : (a b : Bool) → b ≡ false → a ≡ a || b
or_last true b h = refl
or_last false b h = sym h

plain_is : (whole parts : List TablePart) → has_key whole ≡ false → has_key parts ≡ false → plain_columns parts ≡ new_columns whole parts
plain_is whole [] h k = refl
plain_is whole (Column c ∷ parts) h k =
    ap (λ (cs : List ColumnDef). plain_column c ∷ cs) (plain_is whole parts h (right_false (marks_key c.marks) (has_key parts) k))
    ∙ ap (λ (b : Bool). record { name = c.name; ty = c.ty; not_null = b } ∷ new_columns whole parts)
    (same_marks c.marks (left_false (marks_key c.marks) (has_key parts) k) ∙ or_last (refuses_null c.marks) (is_primary_in whole c.name) (none_primary whole c.name h))
plain_is whole (PrimaryKey names ∷ parts) h k = absurd (false≢true (sym k))
plain_is whole (Unique names ∷ parts) h k = absurd (false≢true (sym k))

pub columns_end : (parts : List TablePart) (i : ℕ) (cs : List ColumnDef) → has_key parts ≡ false → length parts ≤ i → cs ++ plain_columns (drop i parts) ≡ plain_columns parts → cs ≡ created_columns parts
columns_end parts i cs none h so = sym (append-nil cs) ∙ ap (λ (ps : List TablePart). cs ++ plain_columns ps) (sym (drop_of_length-le parts h)) ∙ so ∙ plain_is parts parts none none

none_marked : (n : ℕ) (marks : List ColumnMark) → marks_key marks ≡ false → marked_keys n marks ≡ []
none_marked n [] h = refl
none_marked n (mark.NotNull ∷ marks) h = none_marked n marks h
none_marked n (mark.PrimaryKey ∷ marks) h = absurd (false≢true (sym h))
none_marked n (mark.Unique ∷ marks) h = absurd (false≢true (sym h))

no_keys : (columns : List ColumnDef) (n : ℕ) (parts : List TablePart) → has_key parts ≡ false → new_keys columns n parts ≡ []
no_keys columns n [] h = refl
no_keys columns n (Column c ∷ parts) h =
    ap (λ (ks : List BoundKey). ks ++ new_keys columns (suc n) parts) (none_marked n c.marks (left_false (marks_key c.marks) (has_key parts) h))
    ∙ no_keys columns (suc n) parts (right_false (marks_key c.marks) (has_key parts) h)
no_keys columns n (PrimaryKey names ∷ parts) h = absurd (false≢true (sym h))
no_keys columns n (Unique names ∷ parts) h = absurd (false≢true (sym h))

no_rules : (columns : List ColumnDef) (parts : List TablePart) → has_key parts ≡ false → rule_faults columns parts ≡ []
no_rules columns [] h = refl
no_rules columns (Column c ∷ parts) h = no_rules columns parts (right_false (marks_key c.marks) (has_key parts) h)
no_rules columns (PrimaryKey names ∷ parts) h = absurd (false≢true (sym h))
no_rules columns (Unique names ∷ parts) h = absurd (false≢true (sym h))

-- no two columns have one name, and there aren't too many or too long ones
pub judged : (f0 f1 f2 f3 : Option SqlState) (names : List (Bor (List ℕ))) {slice : List (Bor (List ℕ))} (columns : List ColumnDef) (twice short : Bool) → slice ≡ names → texts names ≡ column_names columns
    → twice ≡ has_twice (texts slice) → f1 ≡ kept f0 (unless (not twice) NameTwice) → f2 ≡ kept f1 (unless (nat_le (length columns) 64) TooLarge) → short ≡ nat_le (row_len columns) 1900
    → f3 ≡ kept f2 (unless short TooLarge) → f3 ≡ kept f0 (twice_faults (column_names columns) ++ (limit_faults (length columns) 64 ++ limit_faults (row_len columns) 1900))
judged f0 f1 f2 f3 names {slice} columns twice short at same is one two long three =
    behind f0 f1 f3 (twice_faults (column_names columns)) (limit_faults (length columns) 64 ++ limit_faults (row_len columns) 1900)
    (one ∙ ap (λ (b : Bool). kept f0 (unless (not b) NameTwice)) (is ∙ ap (λ (ns : List (Bor (List ℕ))). has_twice (texts ns)) at ∙ ap has_twice same))
    (behind f1 f2 f3 (limit_faults (length columns) 64) (limit_faults (row_len columns) 1900) two (three ∙ ap (λ (b : Bool). kept f2 (unless b TooLarge)) long))

-- what is wrong with a table where it has no key
pub plain_faults : (d : Dictionary) (name : List ℕ) (parts : List TablePart) → has_key parts ≡ false
    → exists_faults (found_in d name) ++ (twice_faults (column_names (created_columns parts)) ++ (limit_faults (length (created_columns parts)) 64 ++ limit_faults (row_len (created_columns parts)) 1900)) ≡ create_faults d name parts
plain_faults d name parts h =
    let cs = created_columns parts in
    let last = limit_faults (length cs) 64 ++ limit_faults (row_len cs) 1900 in
    ap (λ (l : List SqlState). exists_faults (found_in d name) ++ (twice_faults (column_names cs) ++ (limit_faults (length cs) 64 ++ l))) (sym (append-nil (limit_faults (row_len cs) 1900)))
    ∙ ap (λ (ks : List BoundKey). exists_faults (found_in d name) ++ (twice_faults (column_names cs) ++ (unless (nat_le (primaries ks) 1) SecondPrimaryKey
    ++ (limit_faults (length cs) 64 ++ (limit_faults (row_len cs) 1900 ++ keys_limits cs ks))))) (sym (no_keys cs 0 parts h))
    ∙ ap (λ (l : List SqlState). exists_faults (found_in d name) ++ (l ++ (twice_faults (column_names cs) ++ (unless (nat_le (primaries (created_keys parts)) 1) SecondPrimaryKey
    ++ (limit_faults (length cs) 64 ++ (limit_faults (row_len cs) 1900 ++ keys_limits cs (created_keys parts))))))) (sym (no_rules cs parts h))

-- A TABLE WITHOUT KEYS
pub created : (d : Dictionary) (name : List ℕ) (parts : List TablePart) (f0 f1 f2 : Option SqlState) (copy : List ℕ) (columns : List ColumnDef) {slice : List ColumnDef} (keys : List BoundKey) → has_key parts ≡ false
    → f1 ≡ kept f0 (exists_faults (found_in d name)) → columns ≡ created_columns parts → slice ≡ columns
    → f2 ≡ kept f1 (twice_faults (column_names slice) ++ (limit_faults (length slice) 64 ++ limit_faults (row_len slice) 1900)) → copy ≡ name → keys ≡ []
    → Forms (create_table name (created_columns parts) (created_keys parts)) (create_faults d name parts) f0 f2 (CreateTable copy columns keys)
created d name parts f0 f1 f2 copy columns {slice} keys none new are at judge same empty = record {
  form = λ q. ap (λ (n : List ℕ). create_table n columns keys) same ∙ ap (λ (cs : List ColumnDef). create_table name cs keys) are
      ∙ ap (create_table name (created_columns parts)) (empty ∙ sym (no_keys (created_columns parts) 0 parts none));
  fault = behind f0 f1 f2 (exists_faults (found_in d name)) (twice_faults (column_names (created_columns parts)) ++ (limit_faults (length (created_columns parts)) 64 ++ limit_faults (row_len (created_columns parts)) 1900)) new
      (judge ∙ ap (λ (cs : List ColumnDef). kept f1 (twice_faults (column_names cs) ++ (limit_faults (length cs) 64 ++ limit_faults (row_len cs) 1900))) (at ∙ are))
      ∙ ap (kept f0) (plain_faults d name parts none);
}
