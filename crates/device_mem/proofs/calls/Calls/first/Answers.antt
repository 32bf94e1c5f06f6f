use Rattle.std.proofs.Common.{◌≡◌, ◌≤◌, ℕ, List, length, take, reverse, ap, ◌∙◌, arith}
use Rattle.std.proofs.lemmas.List.{length-reverse}
use Rattle.device_mem.specs.declared.call.Call.{Call}
use Rattle.device_mem.specs.Images.{calls_at}
use Rattle.device_mem.proofs.ImagesLemmas.{first-calls}
use Rattle.device_mem.proofs.calls.Calls.first.Goals as goal

pub returns : goal.returns
returns c = λ within.
    let made : List Call = c.self.inside.made.items in
    let inside : c.args.m ≤ length made = omega (arith, within, ap length c.self.view_is, length-reverse made) in
    let len : c.len.result ≡ length made = omega arith in
    let least : c.min.result ≡ c.args.m = c.min.ensures ∙ omega (arith, len, inside) in
    ap (λ (k : ℕ). reverse (take k c.deref.result.now)) least
    ∙ ap (λ (l : List Call). reverse (take c.args.m l)) c.deref.ensures.value
    ∙ first-calls made c.args.m inside
    ∙ ap (calls_at c.args.m) c.self.view_is
