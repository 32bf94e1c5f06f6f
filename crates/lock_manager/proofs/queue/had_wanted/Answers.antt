use Rattle.std.proofs.Common.{◌++◌, ◌∙◌, ap, sym, Option}
use Rattle.std.proofs.lemmas.Bool.{both_ways}
use Rattle.lock_modes.specs.Modes.{is_held}
use Rattle.lock_modes.proofs.ModesLemmas.{held_none}
use Rattle.lock_manager.specs.declared.owner.Owner.{Owner}
use Rattle.lock_manager.specs.Owners.{modes_of}
use Rattle.lock_manager.proofs.AskedLemmas.{none_asked}
use Rattle.lock_manager.proofs.queue.had_wanted.Goals as goal

pub returns-else-waiting-len : goal.returns-else-waiting-len
returns-else-waiting-len c = record {
  none = λ none n held. none_asked (c.args.conversions.now.line.items ++ c.args.requests.now.line.items) c.in-Some.owner.holdings.modes.entries (sym c.is_any_wanted.ensures.exact ∙ none) n
      (sym (ap (λ (o : Option Owner). is_held (modes_of o n)) c.in-Some.is) ∙ held);
}

pub returns-in-None : goal.returns-in-None
returns-in-None c = record { none = λ _ n held. absurd (both_ways _ (ap (λ (o : Option Owner). is_held (modes_of o n)) c.in-None.is ∙ held_none) held) }
