use Rattle.std.proofs.Common.{◌≡◌, ℕ, List, Option, Some, None, subst, ap, ◌∙◌}
use Rattle.std.specs.Prelude.{MatchOption}
use Rattle.device_mem.specs.declared.call.Call.{Call}
use Rattle.device_mem.specs.Calls.{page_of}
use Rattle.device_mem.specs.Latest.{page_at}
use Rattle.device_mem.proofs.LatestLemmas.{latest-page}
use Rattle.device_mem.proofs.calls.Calls.last_page.Goals as goal

pub returns : goal.returns
returns c =
    let made : List Call = c.self.inside.made.items in
    let found : page_at c.as_slice.result.now c.number.result ≡ page_of c.args.self.now c.args.c c.args.p =
    ap (λ (l : List Call). page_at l c.number.result) c.as_slice.ensures.value
    ∙ ap (page_at made) (c.number.ensures ∙ c.self.invariant.0 c.args.c c.args.p)
    ∙ latest-page made c.args.c c.args.p
    ∙ ap (λ (l : List Call). page_of l c.args.c c.args.p) c.self.view_is in
    subst (λ (x : Option (List ℕ)). MatchOption c.page_numbered.result (x ≡ None) (λ b. x ≡ Some b.now.bytes.items)) found c.page_numbered.ensures
