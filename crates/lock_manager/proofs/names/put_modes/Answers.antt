use Rattle.std.proofs.Common.{◌≡◌, ap, sym, subst, Some, ◌<◌, BuildHasherDefault, FoldHasher}
use Rattle.std.specs.Option.{is_some}
use Rattle.std.specs.Result.{OnOk, IfOk, IsOk}
use Rattle.std.specs.HashMap.{HashMap, Updates, PutsEntry, get, spare}
use Rattle.lock_modes.specs.declared.name.LockName.{LockName}
use Rattle.lock_modes.specs.contracts.name.LockNamePartialEq.TheImpl.{eq-value}
use Rattle.lock_modes.specs.declared.modes.Modes.{Modes}
use Rattle.std.proofs.lemmas.Bool.{both_ways}
use Rattle.lock_manager.proofs.HoldingsLemmas.{put_modes, added_modes, none_held}
use Rattle.lock_manager.proofs.TalliesLemmas.{moves_set, moves_added}
use Rattle.lock_manager.proofs.names.put_modes.Goals as goal

pub returns-in-Some-clause-exact : goal.returns-in-Some-clause-exact
returns-in-Some-clause-exact c =
    let through = c.get_mut.follows.holds c.args.modes in
    put_modes c.args.names.now (c.get_mut.follows.lender c.args.modes) c.args.name (Some c.args.modes) (through.3 (ap is_some (sym c.in-Some.ensures.value))).0

pub returns-in-Some-clause-moves : goal.returns-in-Some-clause-moves
returns-in-Some-clause-moves c =
    moves_set c.args.names.now (c.get_mut.follows.lender c.args.modes) c.args.name c.in-Some.noted.now c.args.modes c.in-Some.ensures.value (c.get_mut.follows.holds c.args.modes)

pub returns-clause-exact : goal.returns-clause-exact
returns-clause-exact c =
    added_modes c.args.names.now c.insert.new.self c.insert.result c.args.name c.args.modes c.in_default.ensures.value
    (subst (λ (w : HashMap LockName Modes (BuildHasherDefault FoldHasher)). OnOk c.insert.result (Updates eq-value.it w c.insert.new.self c.args.name (Some c.args.modes))) c.get_mut.follows.holds-at-none c.insert.ensures.updates)
    (subst (λ (w : HashMap LockName Modes (BuildHasherDefault FoldHasher)). 0 < spare w → IsOk c.insert.result) c.get_mut.follows.holds-at-none c.insert.ensures.succeeds) c.requires

pub returns-clause-moves : goal.returns-clause-moves
returns-clause-moves c =
    moves_added c.args.names.now c.insert.new.self c.insert.result c.args.name c.args.modes c.in_default.ensures.value
    (subst (λ (w : HashMap LockName Modes (BuildHasherDefault FoldHasher)). IfOk c.insert.result (λ old. old ≡ get eq-value.it w c.args.name)) c.get_mut.follows.holds-at-none c.insert.ensures.old)
    (subst (λ (w : HashMap LockName Modes (BuildHasherDefault FoldHasher)). IfOk c.insert.result (λ old. PutsEntry eq-value.it w c.insert.new.self c.args.name c.args.modes old)) c.get_mut.follows.holds-at-none c.insert.ensures.entries)
    (subst (λ (w : HashMap LockName Modes (BuildHasherDefault FoldHasher)). 0 < spare w → IsOk c.insert.result) c.get_mut.follows.holds-at-none c.insert.ensures.succeeds) c.requires

pub returns-clause-kept : goal.returns-clause-kept
returns-clause-kept c = λ held. absurd (both_ways _ (none_held c.args.names.now c.args.name c.in_default.ensures.value) held)
