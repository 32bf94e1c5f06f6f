use Rattle.std.proofs.Common.{◌≡◌, ◌<◌, ◌∷◌, [], ◌++◌, ℕ, List, length, take, ap, ◌∙◌, arith}
use Rattle.std.proofs.lemmas.List.{length-set}
use Rattle.frame_pool.specs.Frames.{Frames}
use Rattle.frame_pool.specs.declared.pool.Pool.TheInside.{Inside}
use Rattle.frame_pool.specs.contracts.pool.Pool.{the_view, the_invariant}
use Rattle.frame_pool.specs.Frames.{IsLent}
use Rattle.frame_pool.proofs.FreeLemmas.{AreFree-push, put_back, IsLentInside, inside_of, place_to_give}
use Rattle.frame_pool.proofs.pool.Pool.give.Goals as goal

-- the number that comes back, as the fields see it
lent_of : (p : Inside) (v : Frames) (f g : ℕ) → the_view p ≡ v → g ≡ f → IsLent v f → IsLentInside (length p.frames.items) (take p.count p.numbers.items) g
lent_of p v f g e is h = inside_of v p.frames.items (take p.count p.numbers.items) f g e is h

place_of : (p : Inside) (v : Frames) (f g : ℕ) → the_invariant p → the_view p ≡ v → g ≡ f → IsLent v f → p.count < length p.numbers.items
place_of p v f g i e is h = place_to_give p.numbers.items (length p.frames.items) p.count g i.0 i.1 i.2 (lent_of p v f g e is h)

pub index_mut-requires : goal.index_mut-requires
index_mut-requires c =
    let place : c.self.inside.count < length c.self.inside.numbers.items =
    place_of c.self.inside c.args.self.now c.args.f c.f.inside.number c.self.invariant c.self.view_is c.f.view_is c.requires in
    omega (arith, place)

pub invariant_of-self : goal.invariant_of-self
invariant_of-self c =
    let p = c.self.inside in
    let g = c.f.inside.number in
    let lent : IsLentInside (length c.self.inside.frames.items) (take c.self.inside.count c.self.inside.numbers.items) c.f.inside.number =
    lent_of c.self.inside c.args.self.now c.args.f c.f.inside.number c.self.view_is c.f.view_is c.requires in
    let place : c.self.inside.count < length c.self.inside.numbers.items =
    place_of c.self.inside c.args.self.now c.args.f c.f.inside.number c.self.invariant c.self.view_is c.f.view_is c.requires in
    let kept = length-set c.self.inside.numbers.items c.self.inside.count c.f.inside.number in (
      kept ∙ c.self.invariant.0,
      omega (arith, kept, place),
      rw (put_back c.self.inside.numbers.items c.self.inside.count c.f.inside.number place)
          (AreFree-push (length c.self.inside.frames.items) (take c.self.inside.count c.self.inside.numbers.items) c.f.inside.number c.self.invariant.2 lent.small lent.taken),
    )

pub returns-clause-ok : goal.returns-clause-ok
returns-clause-ok c =
    put_back c.self.inside.numbers.items c.self.inside.count c.f.inside.number
    (place_of c.self.inside c.args.self.now c.args.f c.f.inside.number c.self.invariant c.self.view_is c.f.view_is c.requires)
    ∙ ap (λ (s : List ℕ). s ++ c.f.inside.number ∷ []) (ap (λ (p : Frames). p.free) c.self.view_is)
    ∙ ap (λ (f : ℕ). c.args.self.now.free ++ f ∷ []) c.f.view_is
