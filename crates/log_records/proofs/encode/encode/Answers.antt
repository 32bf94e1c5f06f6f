use Rattle.std.proofs.Common.{◌≡◌, arith}
use Rattle.log_records.specs.Format.{size_of}
use Rattle.log_records.specs.View.{record_of}
use Rattle.log_records.proofs.EncodeLemmas.{encoded, begins}
use Rattle.log_records.proofs.encode.encode.Goals as goal

pub returns-clause-begins : goal.returns-clause-begins
returns-clause-begins c =
    let size : c.size-size.result ≡ size_of (record_of c.args.r.now) = c.size-size.ensures (omega (arith, c.requires.short)) in
    begins c.args.at (record_of c.args.r.now) c.args.into.now c.put_u64.new.b c.size-size.result c.kind_of.result size c.kind_of.ensures c.requires.legal c.put_front.ensures.fits c.put_body.ensures.fits
    (encoded c.args.at (record_of c.args.r.now) c.args.into.now c.put_front.new.into c.put_body.new.into c.put_u64.new.b c.size-size.result c.record_sum-sum.result c.kind_of.result size c.kind_of.ensures c.requires.room c.put_front.ensures.exact
    c.put_body.ensures.exact c.record_sum-sum.ensures c.put_u64.ensures.exact)
