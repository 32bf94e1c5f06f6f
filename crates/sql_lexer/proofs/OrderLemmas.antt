-- The spans of statements are in order.
use Rattle.std.proofs.Common.{◌≡◌, ◌+◌, ◌<◌, ◌≤◌, ℕ, List, [], ◌∷◌, ◌++◌, length, Bool, true, false, Option, Some, None, arith}
use Rattle.std.specs.Prelude.{if◌then◌else◌}
use Rattle.sql_lexer.specs.Order.{AreInOrder}
use Rattle.sql_lexer.specs.Reading.{reading_after, is_in_token}
use Rattle.sql_lexer.specs.Splitting.{ends_statement, statement_begin, span_begun, spans_from, spans_of}
use Rattle.sql_lexer.specs.declared.reading.Reading.{Reading}
use Rattle.sql_lexer.specs.declared.reading.Reading.TheVariants.{Between}
use Rattle.sql_lexer.specs.declared.token.Span.{Span}

-- a statement that began lies behind `low` and before `at`
abbrev Began : ℕ → Option ℕ → ℕ → Type 0
Began low None at = low ≤ at
Began low (Some from) at = (low ≤ from) × (from < at)

wider : (low at end : ℕ) (ss : List Span) → low ≤ at → AreInOrder at end ss → AreInOrder low end ss
wider low at end [] h o = omega arith
wider low at end (s ∷ ss) h o = (omega arith, o.1, o.2)

closed : (low : ℕ) (begun : Option ℕ) (at end : ℕ) (ss : List Span) → Began low begun at → AreInOrder at end ss → AreInOrder low end (span_begun begun at ++ ss)
closed low None at end ss h o = wider low at end ss h o
closed low (Some from) at end ss h o = (h.0, h.1, o)

last : (low : ℕ) (begun : Option ℕ) (at end : ℕ) → Began low begun at → at ≤ end → AreInOrder low end (span_begun begun at)
last low None at end h e = omega arith
last low (Some from) at end h e = (h.0, h.1, e)

moved : (low : ℕ) (begun : Option ℕ) (in_token : Bool) (at : ℕ) → Began low begun at → Began low (statement_begin begun in_token at) (at + 1)
moved low None true at h = (h, omega arith)
moved low None false at h = omega arith
moved low (Some from) in_token at h = (h.0, omega arith)

chosen : (P : List Span → Type 0) (c : Bool) (xs ys : List Span) → P xs → P ys → P (if c then xs else ys)
chosen P true xs ys p q = p
chosen P false xs ys p q = q

ordered : (reading : Reading) (begun : Option ℕ) (low at end : ℕ) (rest : List ℕ) → at + length rest ≡ end → Began low begun at → AreInOrder low end (spans_from reading begun at rest)
ordered reading begun low at end [] e h = last low begun at end h (omega arith)
ordered reading begun low at end (b ∷ rest) e h =
    chosen (AreInOrder low end) (ends_statement reading b) _ _
    (closed low begun at end (spans_from Between None (at + 1) rest) h
    (ordered Between None at (at + 1) end rest (omega arith) (omega arith)))
    (ordered (reading_after reading b rest) (statement_begin begun (is_in_token reading b rest) at) low (at + 1) end rest (omega arith)
    (moved low begun (is_in_token reading b rest) at h))

pub spans_of-in_order : (script : List ℕ) → AreInOrder 0 (length script) (spans_of script)
spans_of-in_order script = ordered Between None 0 0 (length script) script (omega arith) (omega arith)
