use Rattle.std.proofs.Common.{◌≡◌, ◌+◌, ◌-◌, ℕ, List, length, take, drop, ap, ◌∙◌, arith}
use Rattle.std.specs.Prelude.{min}
use Rattle.device_mem.proofs.Moving.{read-moves}
use Rattle.device_mem.proofs.source.MemSourceSource.read.Goals as goal

pub returns-clause-reads : goal.returns-clause-reads
returns-clause-reads c =
    let read = c.args.self.now.read in
    let n = c.min-n.result in
    let len : c.len.result ≡ length c.args.self.now.bytes.items = omega arith in
    let back : (read + n) - read ≡ n = omega arith in
    read-moves c.args.self.now.bytes.items c.args.into.now c.copy_from_slice.new.self read n c.args.self.now.within
    (c.min-n.ensures ∙ ap (λ (k : ℕ). min (length c.args.into.now) (k - read)) len)
    (c.copy_from_slice.ensures.after ∙ ap (λ (k : ℕ). take k (drop read c.deref.result.now)) back ∙ ap (λ (xs : List ℕ). take n (drop read xs)) c.deref.ensures.value)
