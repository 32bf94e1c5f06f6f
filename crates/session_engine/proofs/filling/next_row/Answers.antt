use Rattle.std.proofs.Common.{refl, sym}
use Rattle.session_engine.proofs.filling.next_row.Goals as goal

pub returns-in-Some : goal.returns-in-Some
returns-in-Some c = record {
  fill = c.in-Insert.fill;
  left = c.pop_row-popped.new.fill;
  planned = sym c.in-Insert.ensures.value;
  number_is = refl;
  pops = c.in-Some.ensures;
  after = refl;
}
