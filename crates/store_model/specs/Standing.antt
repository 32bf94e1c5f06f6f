-- What a log stands for, in the words of the store's contract.
use Rattle.std.specs.Prelude.{◌≤◌, ℕ, List, length, take}
use Rattle.table_model.specs.Tables.{Tables}
use Rattle.log_model.specs.Places.{Database}
use Rattle.log_model.specs.Steps.{Step}
use Rattle.log_model.specs.States.{State, IsLegal, IsSound, after}
use Rattle.store_api.specs.Crashes.{Net}
use Rattle.store_model.specs.Nets.{Row, IsRead, AreNets}

-- BASE, COMMITS, DURABLE: behind a sound state over the base a legal log, whose commits have these net changes; of its steps so many are forced, and so
-- many of the commits are among them
pub record StandsFor (s : State Row) (log : List (Step Row)) (forced : ℕ) (base : Tables) (commits : List (List Net)) (durable : ℕ) : Type 0 where
  pub database : Database Row
  pub read : IsRead database base
  pub sound : IsSound database s
  pub legal : IsLegal s log
  pub within : forced ≤ length log
  pub nets : AreNets (after s log).commits commits
  pub below : durable ≤ length (after s (take forced log)).commits
