use Rattle.std.proofs.Common.{◌≡◌, ◌+◌, ◌-◌, ◌<◌, ℕ, suc, slice_index, sym, subst, arith}
use Rattle.slotted_page.specs.Format.{IsFirstWrong, directory_end, kind_at, count_at}
use Rattle.slotted_page.specs.Format.{own_id}
use Rattle.slotted_page.proofs.FormatLemmas.{directory_from, directory_fits, ends_ordered, entry_of, flags_more, wrong_flags_at, below_at, all_right}
use Rattle.slotted_page.proofs.check.wrong_flags.Goals as goal

pub loop-k-init : goal.loop-k-init
loop-k-init c = below_at (own_id c.args.b.now) c.args.b.now (count_at c.args.b.now) (c.get_u16-count.result - 0) (omega (arith, c.get_u16-count.ensures.exact)) c.requires.gap

pub get_u16-start-requires : goal.get_u16-start-requires
get_u16-start-requires c =
    let fits = directory_fits (own_id c.args.b.now) c.args.b.now (directory_end c.args.b.now) c.requires.directory (let q = directory_from (kind_at c.args.b.now) in omega (arith, q)) in
    omega (arith, fits, c.get_u16-count.ensures.exact, c.loop-k-test.true, c.told-b)

pub bounds-b-start : goal.bounds-b-start
bounds-b-start c =
    let i : ℕ = c.get_u16-count.result - 1 - c.loop-k.k in
    let inside : c.get_u16-count.result - 1 - c.loop-k.k < count_at c.args.b.now = omega (arith, c.get_u16-count.ensures.exact, c.loop-k-test.true) in
    let before = (entry_of (own_id c.args.b.now) c.args.b.now (c.get_u16-count.result - 1 - c.loop-k.k) c.requires.directory inside).start.before in
    let top = ends_ordered c.args.b.now 0 (c.get_u16-count.result - 1 - c.loop-k.k) (λ n k. entry_of (own_id c.args.b.now) c.args.b.now n c.requires.directory k) (omega arith) (omega (arith, inside)) in
    omega (arith, before, top, c.get_u16-start.ensures.exact)

pub returns-then-b-start-gt3 : goal.returns-then-b-start-gt3
returns-then-b-start-gt3 c =
    let inside : c.get_u16-count.result - 1 - c.loop-k.k < count_at c.args.b.now = omega (arith, c.get_u16-count.ensures.exact, c.loop-k-test.true) in
    let next : c.get_u16-count.result - c.loop-k.k ≡ suc (c.get_u16-count.result - 1 - c.loop-k.k) = omega (arith, c.loop-k-test.true) in
    let below = below_at (own_id c.args.b.now) c.args.b.now (c.get_u16-count.result - c.loop-k.k) (suc (c.get_u16-count.result - 1 - c.loop-k.k)) next c.loop-k.invariant in
    record {
      exact =
          subst (λ (n : ℕ). IsFirstWrong (own_id c.args.b.now) c.args.b.now n) (sym c.get_u16-start.ensures.exact)
          (wrong_flags_at (own_id c.args.b.now) c.args.b.now (c.get_u16-count.result - 1 - c.loop-k.k) c.requires.directory inside
          (subst (λ (n : ℕ). 3 < slice_index c.args.b.now n) c.get_u16-start.ensures.exact c.if-b-start-gt3.true) below);
    }

pub loop-k-preserved : goal.loop-k-preserved
loop-k-preserved c =
    let inside : c.get_u16-count.result - 1 - c.loop-k.k < count_at c.args.b.now = omega (arith, c.get_u16-count.ensures.exact, c.loop-k-test.true) in
    let next : c.get_u16-count.result - c.loop-k.k ≡ suc (c.get_u16-count.result - 1 - c.loop-k.k) = omega (arith, c.loop-k-test.true) in
    let below = below_at (own_id c.args.b.now) c.args.b.now (c.get_u16-count.result - c.loop-k.k) (suc (c.get_u16-count.result - 1 - c.loop-k.k)) next c.loop-k.invariant in
    below_at (own_id c.args.b.now) c.args.b.now (c.get_u16-count.result - 1 - c.loop-k.k) (c.get_u16-count.result - (c.loop-k.k + 1)) (omega (arith, c.loop-k-test.true))
    (flags_more (own_id c.args.b.now) c.args.b.now (c.get_u16-count.result - 1 - c.loop-k.k) c.requires.directory inside
    (subst (λ (n : ℕ). slice_index c.args.b.now n < 4) c.get_u16-start.ensures.exact (omega (arith, c.if-b-start-gt3.false))) below)

pub returns : goal.returns
returns c =
    record {
      exact =
          all_right (own_id c.args.b.now) c.args.b.now c.requires.directory
          (below_at (own_id c.args.b.now) c.args.b.now (c.get_u16-count.result - c.loop-k.k) 0 (omega (arith, c.loop-k-test.false)) c.loop-k.invariant);
    }
