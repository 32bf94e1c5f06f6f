use Rattle.std.proofs.Common.{refl, arith}
use Rattle.std.proofs.lemmas.List.{length-take-le}
use Rattle.log_records.specs.View.{record_of}
use Rattle.log_records.proofs.WholeLemmas.{length-stored}
use Rattle.log_file.proofs.Growing.{put_behind, pending_back}
use Rattle.log_file.proofs.append.encode_behind.Goals as goal

pub returns-clause-behind : goal.returns-clause-behind
returns-clause-behind c = put_behind c.args.into.now c.encode.new.into _ c.args.used 0 _ _ _ c.requires.room (length-stored c.args.at (record_of c.args.r.now)) c.encode.ensures.begins.bytes refl

pub returns-clause-before : goal.returns-clause-before
returns-clause-before c =
    pending_back _ _ _ c.args.used _ (length-take-le c.args.used c.args.into.now (omega (arith, c.requires.room)))
    (put_behind c.args.into.now c.encode.new.into _ c.args.used 0 _ _ _ c.requires.room (length-stored c.args.at (record_of c.args.r.now)) c.encode.ensures.begins.bytes refl)
