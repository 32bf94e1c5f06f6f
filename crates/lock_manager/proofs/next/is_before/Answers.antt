use Rattle.std.proofs.lemmas.Bool.{ltb-true, ltb-false}
use Rattle.lock_manager.proofs.SkipLemmas.{stands_before, stands_behind, stands_nowhere}
use Rattle.lock_manager.proofs.next.is_before.Goals as goal

pub returns-in-Some : goal.returns-in-Some
returns-in-Some c = record {
  before = λ is. stands_before c.args.name c.args.line.now.line.items c.args.i c.in-Some.place c.args.number c.in-Some.ensures.place (ltb-true c.in-Some.place c.args.i is);
  behind = λ is. stands_behind c.args.name c.args.line.now.line.items c.args.i c.in-Some.place c.args.number c.in-Some.ensures.place (ltb-false c.in-Some.place c.args.i is);
}

pub returns-in-None : goal.returns-in-None
returns-in-None c = record {
  before = λ is. absurd (cc is);
  behind = λ _. stands_nowhere c.args.name c.args.line.now.line.items c.args.i c.args.number c.in-None.ensures.place;
}
