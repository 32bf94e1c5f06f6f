use Rattle.std.proofs.Common.{◌≡◌, ◌+◌, ℕ, suc, refl, sym, ap, ◌∙◌, arith}
use Rattle.slotted_page.specs.Format.{IsStartAt, start_at, length_at, end_at}
use Rattle.slotted_page.specs.Format.{own_id}
use Rattle.slotted_page.proofs.FormatLemmas.{directory_fits, start_from, entry_more, wrong_length}
use Rattle.slotted_page.proofs.check.wrong_entry.Goals as goal

pub get_u16-start-requires : goal.get_u16-start-requires
get_u16-start-requires c = let fits = directory_fits (own_id c.args.b.now) c.args.b.now 32 c.requires (omega arith) in omega (arith, fits, c.get_u16-count.ensures.exact, c.loop-i-test.true, c.told-b)

pub get_u16-requires : goal.get_u16-requires
get_u16-requires c = let fits = directory_fits (own_id c.args.b.now) c.args.b.now 32 c.requires (omega arith) in omega (arith, fits, c.get_u16-count.ensures.exact, c.loop-i-test.true, c.told-b)

pub returns-then-start-get_u16 : goal.returns-then-start-get_u16
returns-then-start-get_u16 c =
    let start : IsStartAt c.args.b.now c.loop-i.i = start_from c.args.b.now c.loop-i.i c.directory_start.result c.get_u16-count.result c.get_u16-start.result c.loop-i.end c.get_u16-count.ensures.exact c.directory_start.ensures c.get_u16-start.ensures.exact c.loop-i.invariant.place (c.if-not-is_start.ensures.0 refl) in
    record {
      exact =
          wrong_length (own_id c.args.b.now) c.args.b.now c.loop-i.i (omega (arith, c.get_u16-count.ensures.exact, c.loop-i-test.true)) c.loop-i.invariant.right start
          (λ e. c.if-start-get_u16.true (ap (λ (n : ℕ). n + c.get_u16.result) c.get_u16-start.ensures.exact ∙ ap (λ (n : ℕ). start_at c.args.b.now c.loop-i.i + n) c.get_u16.ensures.exact ∙ e ∙ sym c.loop-i.invariant.place));
    }

pub loop-i-preserved : goal.loop-i-preserved
loop-i-preserved c =
    let start : IsStartAt c.args.b.now c.loop-i.i = start_from c.args.b.now c.loop-i.i c.directory_start.result c.get_u16-count.result c.get_u16-start.result c.loop-i.end c.get_u16-count.ensures.exact c.directory_start.ensures c.get_u16-start.ensures.exact c.loop-i.invariant.place (c.if-not-is_start.ensures.0 refl) in
    let next : c.loop-i.i + 1 ≡ suc c.loop-i.i = omega arith in
    record {
      place = c.get_u16-start.ensures.exact ∙ ap (end_at c.args.b.now) (sym next);
      right =
          entry_more (own_id c.args.b.now) c.args.b.now c.loop-i.i (omega (arith, c.get_u16-count.ensures.exact, c.loop-i-test.true)) c.loop-i.invariant.right start
          (ap (λ (n : ℕ). n + length_at c.args.b.now c.loop-i.i) (sym c.get_u16-start.ensures.exact) ∙ ap (λ (n : ℕ). c.get_u16-start.result + n) (sym c.get_u16.ensures.exact) ∙ c.if-start-get_u16.false ∙ c.loop-i.invariant.place);
    }
