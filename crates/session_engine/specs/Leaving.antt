-- What an engine leaves: the state that it has kept, and room for every end.
use Rattle.std.specs.Prelude.{◌+◌, ◌≤◌, ℕ, List, Vec, vec_len, vec_capacity}
use Rattle.lock_modes.specs.Lock.{Lock}
use Rattle.store_api.specs.View.{View}
use Rattle.journal_model.specs.declared.journal.Entry.{Entry}
use Rattle.session_model.specs.declared.journal.Locked.{Locked}
use Rattle.session_engine.specs.declared.session.Session.{Session}
use Rattle.session_engine.specs.Dictionary.{Named}
use Rattle.session_engine.specs.State.{Holds, entries_of, releases_of, sum_of}

pub record IsLeft {Z : Type 0} (entries : Vec Entry Z) (events : Vec Locked Z) (ss : List Session) (v : View) : Type 0 where
  pub lock : Lock
  pub named : List Named
  pub last : ℕ
  pub holds : Holds (record { es = entries.items; ls = events.items; lock = lock; ss = ss; view = v; named = named }) last
  pub entries_fit : vec_len entries + sum_of entries_of ss ≤ vec_capacity entries
  pub events_fit : vec_len events + sum_of releases_of ss ≤ vec_capacity events
