use Rattle.std.proofs.Common.{Some, ap, ◌∙◌, reverse}
use Rattle.list_store.specs.Begun.{changes_of}
use Rattle.list_store.proofs.BegunLemmas.{becomes}
use Rattle.store_api.specs.View.{at_number}
use Rattle.list_store.proofs.begun.begin.Goals as goal

pub returns-clause-ok : goal.returns-clause-ok
returns-clause-ok c = λ u.
    becomes c.args.begun.now.entries c.insert.new.self.entries c.args.t (Some (record { items = c.new.result })) c.in_ok-insert.ensures.updates.0 u
    ∙ ap (λ xs. at_number (changes_of c.args.begun.now.entries) c.args.t.0 (Some (reverse xs)) u) c.new.ensures.items
