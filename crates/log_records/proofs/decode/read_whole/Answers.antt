use Rattle.std.proofs.Common.{◌-◌, ℕ, take, drop, subst, sym, refl, arith}
use Rattle.std.proofs.lemmas.Bool.{false≢true}
use Rattle.dby_types.specs.declared.number.Lsn.{Lsn}
use Rattle.dby_bytes.proofs.NumbersLemmas.{IsBytes-from_fits}
use Rattle.log_records.specs.Rules.{IsBack}
use Rattle.log_records.specs.Reading.{IsBodyOf}
use Rattle.log_records.proofs.WholeLemmas.{begins_txn, begins_back, begins_body, whole_begins}
use Rattle.log_records.proofs.decode.read_whole.Goals as goal

pub returns-then-txn-ge-TXNS : goal.returns-then-txn-ge-TXNS
returns-then-txn-ge-TXNS c = λ r rest h. omega (arith, begins_txn c.args.at c.args.b.now r rest h, c.get_u64-txn.ensures.exact)

pub returns-then-not-is_back : goal.returns-then-not-is_back
returns-then-not-is_back c = λ r rest h. false≢true (c.if-not-is_back.ensures.1 (subst (λ (l : Lsn). IsBack l c.args.at) (sym c.get_lsn-back.ensures) (begins_back c.args.at c.args.b.now r rest h)))

pub returns-in-Some : goal.returns-in-Some
returns-in-Some c =
    whole_begins c.args.at c.args.b.now _ _ _ _ _ _ (IsBytes-from_fits c.args.b.now c.type_inv.b) c.requires c.get_u64-txn.ensures.exact (omega arith) c.get_lsn-back.ensures (c.if-not-is_back.ensures.0 refl) c.get_byte.ensures refl c.in-Some.ensures

pub returns-in-None : goal.returns-in-None
returns-in-None c = λ r rest h.
    c.in-None.ensures r.body (subst (λ (k : ℕ). IsBodyOf c.args.at k (take (c.args.size - 40) (drop 40 c.args.b.now)) r.body) (sym c.get_byte.ensures) (begins_body c.args.at c.args.b.now r rest c.args.size c.requires.counted h))
