use Rattle.std.proofs.Common.{[], subst, sym, refl}
use Rattle.list_store.specs.Lists.{Lists, seen}
use Rattle.store_trials.specs.Sent.{seen_over}
use Rattle.store_trials.specs.Sole.{IsIdle}
use Rattle.store_trials.proofs.SoleLemmas.{idle_over}
use Rattle.store_trials.proofs.tests.behind.Goals as goal

-- a new store over vectors
abbrev empty : Lists
empty = record { heaps = []; begun = []; holders = []; next_txn = 1; next_container = 16; no_pages = 0; no_log = 0 }

idle : IsIdle (seen empty)
idle = record { none_open = λ u. refl; none_holds = λ b. refl; described = refl }

pub returns : goal.returns
returns c =
    idle_over (seen c.new.result) (seen_over (seen c.new-2.result.store) c.new-2.result.sent) c.new-2.ensures
    (subst (λ (l : Lists). IsIdle (seen l)) (sym c.new.ensures) idle)
