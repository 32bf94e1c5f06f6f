use Rattle.std.proofs.Common.{◌∙◌, ◌++◌, List, [], ap, arith, subst, sym}
use Rattle.lock_modes.specs.declared.entry.Request.{Request}
use Rattle.lock_modes.specs.Waits.{AllBlocked}
use Rattle.lock_manager.specs.Owners.{grants_in, victim_in, waits_in}
use Rattle.lock_manager.specs.Serve.{Waiters, is_among}
use Rattle.lock_manager.proofs.TableLemmas.{lock_path}
use Rattle.lock_manager.proofs.table.LockTable.new.Goals as goal

pub invariant_of-result-clause-room : goal.invariant_of-result-clause-room
invariant_of-result-clause-room c = record {
  conversions_fit = record { line_fits = omega (arith, c.new-2.ensures.len); names_fit = omega arith };
  requests_fit = record { line_fits = omega (arith, c.new-3.ensures.len); names_fit = omega arith };
  woken_fit = omega (arith, c.new-2.ensures.len, c.new-3.ensures.len, c.new-4.ensures.len);
}

pub invariant_of-result-clause-waiters : goal.invariant_of-result-clause-waiters
invariant_of-result-clause-waiters c = subst (λ (x : List Request). Waiters c.new.result.owners.entries x) (sym (λ i. c.new-2.ensures.none i ++ c.new-3.ensures.none i)) tt

pub invariant_of-result-clause-only : goal.invariant_of-result-clause-only
invariant_of-result-clause-only c = λ t. ap (λ es. waits_in es t) c.new.ensures.none ∙ sym (λ i. is_among t (c.new-2.ensures.none i ++ c.new-3.ensures.none i))

pub invariant_of-result-clause-settled : goal.invariant_of-result-clause-settled
invariant_of-result-clause-settled c = subst (λ (x : List Request). AllBlocked (grants_in c.new.result.owners.entries) [] x) (sym (λ i. c.new-2.ensures.none i ++ c.new-3.ensures.none i)) tt

pub returns-clause-none : goal.returns-clause-none
returns-clause-none c = lock_path _ _ (λ i. grants_in (c.new.ensures.none i)) c.new-2.ensures.none c.new-3.ensures.none (λ i. victim_in (c.new.ensures.none i))
