use Rattle.std.proofs.Common.{◌∙◌, ap, sym}
use Rattle.std.specs.Option.{is_some}
use Rattle.lock_modes.proofs.NamesLemmas.{txn_refl}
use Rattle.lock_manager.specs.Asked.{asks_for, is_of}
use Rattle.lock_manager.proofs.AskedLemmas.{none_beyond}
use Rattle.lock_manager.proofs.StandingLemmas.{among_asked, numbered}
use Rattle.lock_manager.proofs.tickets.place_at.Goals as goal

pub place_of-requires : goal.place_of-requires
place_of-requires c = record {
  among = among_asked c.args.name c.in-Some.q.txn c.args.line.now c.args.number
      (ap (is_of c.in-Some.q.txn) (sym (c.in-Some.ensures.exact ∙ c.requires.by_name c.args.name c.args.number)) ∙ txn_refl c.in-Some.q.txn);
}

pub returns-in-Some : goal.returns-in-Some
returns-in-Some c = record {
  place = numbered c.args.name c.in-Some.q.txn c.args.line.now c.place_of.result c.args.number c.requires.apart c.place_of.ensures.there
      (ap (is_of c.in-Some.q.txn) (sym (c.in-Some.ensures.exact ∙ c.requires.by_name c.args.name c.args.number)) ∙ txn_refl c.in-Some.q.txn);
}

pub returns-in-None : goal.returns-in-None
returns-in-None c = record { place = none_beyond (asks_for c.args.name c.args.line.now) c.args.number (ap is_some (sym (c.requires.by_name c.args.name c.args.number) ∙ sym c.in-None.ensures.exact)) }
