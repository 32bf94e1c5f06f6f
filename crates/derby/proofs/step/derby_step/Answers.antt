use Rattle.std.proofs.Common.{◌≡◌, ◌++◌, ℕ, List, [], None, length, map, sym, ap, subst}
use Rattle.std.specs.Prelude.{string_bytes}
use Rattle.std.proofs.lemmas.List.{length-map}
use Rattle.device.specs.Streams.{SourceSeen}
use Rattle.run_sources.specs.Files.{Opens}
use Rattle.derby.specs.Step.{Ends, failure_by, plan_in, scripts_in}
use Rattle.derby.specs.Text.{Tells, journal_text, last_line}
use Rattle.derby.proofs.StepLemmas.{caused, opened_if}
use Rattle.derby.proofs.step.derby_step.Goals as goal

pub returns-clause-owes : goal.returns-clause-owes
returns-clause-owes g c =
    let words = map string_bytes c.args.words.now in
    let went = c.go-ending.result in
    let old = g.H.Host.seen c.args.host.now in
    let new = g.H.Host.seen c.go-ending.new.host in
    let names = map string_bytes c.in-Some.named.scripts.now in
    let plan_is : c.in-Some.named.plan.now ≡ plan_in words = sym (ap plan_in c.in-Some.ensures.1) in
    let names_are : names ≡ scripts_in words = sym (ap scripts_in c.in-Some.ensures.1) in
    let ends = subst (λ (ns : List (List ℕ)). Ends went.ending old.scripts (plan_in words) ns went.journal) names_are
    (subst (λ (p : List ℕ). Ends went.ending old.scripts p names went.journal) plan_is c.go-ending.ensures.ends) in
    let from_none = subst (λ (b : List SourceSeen). Opens (failure_by went.ending) old new b (map g.H.Script.Source.seen c.go-ending.new.sources.items)) (ap (map g.H.Script.Source.seen) c.new-sources.ensures.items) c.go-ending.ensures.opens in
    let opens = subst (λ (a : List SourceSeen). Opens (failure_by went.ending) old new [] a) (ap (map g.H.Script.Source.seen) (sym c.from_vec.ensures)) from_none in
    let printed = g.K.Sink.seen c.print_run-status-2.new.sink in
    let counted = subst (λ (n : ℕ). Tells went.ending c.print_run-status-2.result (g.K.Sink.seen c.args.sink.now) printed (journal_text n went.journal ++ last_line went.ending c.in-Some.named.plan.now names))
    (sym (length-map c.in-Some.named.scripts.now string_bytes)) c.print_run-status-2.ensures in
    let named = subst (λ (p : List ℕ). Tells went.ending c.print_run-status-2.result (g.K.Sink.seen c.args.sink.now) printed (journal_text (length names) went.journal ++ last_line went.ending p names)) plan_is counted in
    record {
      ending = went.ending;
      cause = caused went.ending words old new (map g.H.Script.Source.seen c.from_vec.result) went.journal c.in-Some.ensures.0 opens ends;
      text = subst (λ (ns : List (List ℕ)). Tells went.ending c.print_run-status-2.result (g.K.Sink.seen c.args.sink.now) printed (journal_text (length ns) went.journal ++ last_line went.ending (plan_in words) ns)) names_are named;
      opened = opened_if went.ending old.scripts (plan_in words) (scripts_in words) went.journal ends;
    }
