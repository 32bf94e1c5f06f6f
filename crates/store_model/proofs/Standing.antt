-- What a log stands for as it grows, is forced, and is cut by a crash.
use Rattle.std.proofs.Common.{◌≡◌, ◌≤◌, ℕ, List, [], ◌∷◌, ◌++◌, length, take, sym, ◌∙◌, ap, subst, arith, length-append}
use Rattle.std.proofs.lemmas.List.{take-append-le}
use Rattle.std.proofs.Math.Seq.{take-length}
use Rattle.table_model.specs.Tables.{Tables}
use Rattle.log_model.specs.Places.{Change}
use Rattle.log_model.specs.Steps.{Step, changes_of}
use Rattle.log_model.specs.Steps.Step.{commit}
use Rattle.log_model.specs.States.{State, MayFollow, stepped, after, recovered}
use Rattle.log_model.specs.Crash.{IsLeft}
use Rattle.log_model.proofs.States.{sound_log}
use Rattle.log_model.proofs.Effects.{legal_push, after_push}
use Rattle.log_model.proofs.Crashing.{crash}
use Rattle.store_api.specs.View.{Content}
use Rattle.store_api.specs.Crashes.{Net, IsSomeCommits, net_in}
use Rattle.store_model.specs.Nets.{Row, IsRead, Shows, AreNets}
use Rattle.store_model.specs.Standing.{StandsFor}
use Rattle.store_model.proofs.Nets.{commit_net, nets_push, nets_length, nets_take, commits_read}

-- the forced steps are the same with one step more
same_forced : (s : State Row) (log : List (Step Row)) (r : Step Row) (forced durable : ℕ) → forced ≤ length log
    → durable ≤ length (after s (take forced log)).commits → durable ≤ length (after s (take forced (log ++ r ∷ []))).commits
same_forced s log r forced durable le h = subst (λ (l : List (Step Row)). durable ≤ length (after s l).commits) (sym (take-append-le forced log (r ∷ []) le)) h

-- a step that commits nothing
pub stands_on : (s : State Row) (log : List (Step Row)) (r : Step Row) (forced : ℕ) (base : Tables) (commits : List (List Net)) (durable : ℕ) → StandsFor s log forced base commits durable
    → MayFollow (after s log) r → (stepped (after s log) r).commits ≡ (after s log).commits → StandsFor s (log ++ r ∷ []) forced base commits durable
stands_on s log r forced base commits durable h may same = record {
  database = h.database;
  read = h.read;
  sound = h.sound;
  legal = legal_push s log r h.legal may;
  within = omega (arith, h.within, length-append log (r ∷ []));
  nets = subst (λ (css : List (List (Change Row))). AreNets css commits) (sym (ap (λ (x : State Row). x.commits) (after_push s log r) ∙ same)) h.nets;
  below = same_forced s log r forced durable h.within h.below;
}

-- A COMMIT
pub stands_committed : (s : State Row) (log : List (Step Row)) (d : Content) (t forced : ℕ) (base : Tables) (commits : List (List Net)) (durable : ℕ) → StandsFor s log forced base commits durable
    → MayFollow (after s log) (commit t) → Shows d (after s log) → StandsFor s (log ++ commit t ∷ []) forced base (commits ++ net_in d t ∷ []) durable
stands_committed s log d t forced base commits durable h may shows =
    let now = after s log in
    record {
      database = h.database;
      read = h.read;
      sound = h.sound;
      legal = legal_push s log (commit t) h.legal may;
      within = omega (arith, h.within, length-append log (commit t ∷ []));
      nets = subst (λ (css : List (List (Change Row))). AreNets css (commits ++ net_in d t ∷ [])) (sym (ap (λ (x : State Row). x.commits) (after_push s log (commit t))))
          (nets_push now.commits commits (changes_of t now.standing) (net_in d t) h.nets (commit_net h.database now d t (sound_log h.database s log h.sound h.legal) shows));
      below = same_forced s log (commit t) forced durable h.within h.below;
    }

-- A FORCE
pub stands_forced : (s : State Row) (log : List (Step Row)) (forced : ℕ) (base : Tables) (commits : List (List Net)) (durable : ℕ) → StandsFor s log forced base commits durable
    → StandsFor s log (length log) base commits (length commits)
stands_forced s log forced base commits durable h = record {
  database = h.database;
  read = h.read;
  sound = h.sound;
  legal = h.legal;
  within = omega arith;
  nets = h.nets;
  below = subst (λ (l : List (Step Row)). length commits ≤ length (after s l).commits) (sym (take-length log)) (omega (arith, nets_length (after s log).commits commits h.nets));
}

-- A CRASH
pub stands_crashed : (s : State Row) (log left : List (Step Row)) (forced : ℕ) (base : Tables) (commits : List (List Net)) (durable : ℕ) (tables : Tables) → StandsFor s log forced base commits durable
    → IsLeft log forced left → IsRead (recovered (after s left)) tables → IsSomeCommits base commits durable tables
stands_crashed s log left forced base commits durable tables h is read =
    let some = crash h.database s log left forced durable h.sound h.legal h.below is in
    let front = commits_read (take some.kept (after s log).commits) (take some.kept commits) h.database base (nets_take some.kept (after s log).commits commits h.nets) h.read in
    record {
      kept = some.kept;
      at_least = some.at_least;
      at_most = omega (arith, some.at_most, nets_length (after s log).commits commits h.nets);
      same = λ table rid. read table rid ∙ some.same (record { container = table; key = rid.page ∷ rid.slot ∷ [] }) ∙ sym (front table rid);
    }
