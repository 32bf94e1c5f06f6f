use Rattle.std.proofs.Common.{◌∙◌, ◌+◌, ◌≡◌, ℕ, ap, arith}
use Rattle.log_records.specs.View.{record_of}
use Rattle.dby_types.specs.declared.number.Lsn.{Lsn}
use Rattle.log_file.proofs.Growing.{put_ends}
use Rattle.log_file.proofs.Steps.{gains_one, puts}
use Rattle.log_file.proofs.file.LogFile.append_here.Goals as goal

pub returns-in-Ok-clause-ends : goal.returns-in-Ok-clause-ends
returns-in-Ok-clause-ends g c =
    let place : c.make_room.new.self.forced + c.make_room.new.self.used ≡ c.args.self.now.forced + c.args.self.now.used = ap (λ (l : Lsn). l.offset) c.in-Ok.ensures.room.1 in
    put_ends c.args.self.now c.make_room.new.self c.put.new.self c.put.result (record_of c.args.r.now) c.requires.plain c.put.ensures.place (omega (arith, place, c.requires.room, c.requires.size_is.0)) c.put.ensures.same.0 c.put.ensures.same.1
    (c.put.ensures.used ∙ ap (λ (n : ℕ). c.make_room.new.self.used + n) c.requires.size_is.0) (c.put.ensures.same.2 ∙ c.in-Ok.ensures.room.2) (c.put.ensures.same.3 ∙ c.in-Ok.ensures.room.3)

pub returns-in-Ok-clause-list : goal.returns-in-Ok-clause-list
returns-in-Ok-clause-list g c told =
    let place : c.make_room.new.self.forced + c.make_room.new.self.used ≡ c.args.self.now.forced + c.args.self.now.used = ap (λ (l : Lsn). l.offset) c.in-Ok.ensures.room.1 in
    gains_one c.args.self.now c.make_room.new.self c.put.new.self _ _ _ _ (record_of c.args.r.now) (c.in-Ok.ensures.list told).0
    (puts c.make_room.new.self c.put.new.self _ _ (record_of c.args.r.now) c.put.ensures.record c.requires.plain (omega (arith, place, c.requires.room, c.requires.size_is.0)) c.put.ensures.same.0 c.put.ensures.same.1
    (c.put.ensures.used ∙ ap (λ (n : ℕ). c.make_room.new.self.used + n) c.requires.size_is.0) c.put.ensures.pending)
