use Rattle.std.proofs.Common.{◌≡◌, ◌^◌, ◌≤◌, ◌<◌, ◌++◌, ℕ, List, length}
use Rattle.slotted_page.specs.Content.{Record, stored_len}
use Rattle.slotted_page.specs.Layout.{directory}
use Rattle.slotted_page.proofs.MoveLemmas.{IsMoving}
use Rattle.slotted_page.proofs.edit.move_directory.Given as goal

abbrev pub invariant-loop-i : goal.invariant-loop-i
invariant-loop-i l = record {
  small : l.start ≤ 4096;
  moving : (before : List ℕ) (rs : List Record) (e : ℕ) (after : List ℕ) → l.initial.b ≡ before ++ (directory e rs ++ after) → length before ≡ l.from → length rs ≡ l.count → stored_len rs < 256 ^ 2 → IsMoving before rs e after l.i l.end l.start l.b;
}
