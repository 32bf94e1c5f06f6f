use Rattle.std.proofs.Common.{◌≡◌, length, sym, ap, subst, arith}
use Rattle.session_engine.specs.State.{scripts_of, world_of}
use Rattle.session_engine.proofs.RunLemmas.{scripts_length}
use Rattle.engine_close.specs.Closing.{IsAtRest}
use Rattle.engine_close.proofs.close.close.Goals as goal

pub returns-clause-rest : goal.returns-clause-rest
returns-clause-rest g c = λ none k least most.
    let ended = c.end_what_is_open-stop.ensures in
    let scripts : length (scripts_of c.into_parts-parts.result.sessions.items) ≡ length c.args.engine.0 = ap (λ e. length e.0) c.into_parts-parts.ensures.shows in
    let count = scripts_length c.into_parts-parts.result.sessions.items in
    let same : length c.end_what_is_open-stop.new.parts.sessions.items ≡ length c.into_parts-parts.result.sessions.items = ap (λ ss. length ss.items) ended.same in
    subst (λ es. IsAtRest (world_of es) k) (sym c.from_vec.ensures) (ended.rest none k least (omega (arith, most, scripts, count, same)))
