-- A table's mode for all its rows.
use Rattle.std.proofs.Common.{◌≡◌, ℕ, ◌-◌, Bool, true, false, refl, sym, ◌∙◌, ap, cond, List, [], ◌++◌, subst}
use Rattle.std.specs.Prelude.{◌&&◌, not}
use Rattle.dby_types.specs.declared.number.TxnNo.{TxnNo}
use Rattle.lock_modes.specs.declared.entry.Request.{Request}
use Rattle.lock_modes.specs.declared.event.LockEvent.TheVariants.{Granted}
use Rattle.lock_modes.specs.declared.mode.Mode.{Mode}
use Rattle.lock_modes.specs.declared.name.LockName.{LockName}
use Rattle.lock_modes.specs.declared.name.LockName.TheVariants.{Dictionary, Table, Row, First}
use Rattle.lock_modes.specs.Modes.{is_held, with_mode}
use Rattle.lock_modes.specs.Names.{same_txn, is_row_name}
use Rattle.lock_modes.specs.Lock.{Lock, Grants, apply, apply_all, granted, has_grant, queue, request}
use Rattle.lock_modes.specs.Escalation.{released_rows, IsAllRows, escalation}
use Rattle.lock_modes.specs.Serving.{Serves, grants_of}
use Rattle.lock_modes.proofs.EscalationLemmas.{rows_given_back}
use Rattle.lock_manager.specs.declared.table.LockTable.{LockTable}
use Rattle.lock_manager.specs.Table.{lock, woken_of, AreProper, GivesRows, Escalates}

and_no : (a : Bool) → (a && false) ≡ false
and_no true = refl
and_no false = refl

-- a table's grant changes none of its rows
row_stays : (g : Grants) (t : TxnNo) (table : ℕ) (mode : Mode) (n : LockName) → (is_row_name table n && has_grant (granted g (request t (Table table) mode)) t n) ≡ (is_row_name table n && has_grant g t n)
row_stays g t table mode Dictionary = refl
row_stays g t table mode (Table a) = refl
row_stays g t table mode (Row a r) = ap (λ b. is_row_name table (Row a r) && is_held (cond b (with_mode (g t (Row a r)) mode) (g t (Row a r)))) (and_no (same_txn t t))
row_stays g t table mode (First a i) = ap (λ b. is_row_name table (First a i) && is_held (cond b (with_mode (g t (First a i)) mode) (g t (First a i)))) (and_no (same_txn t t))

pub escalated : (old mid new : LockTable) (t : TxnNo) (table : ℕ) (mode : Mode) → lock mid ≡ apply (lock old) (Granted t (Table table) mode) → woken_of mid ≡ woken_of old → GivesRows mid new t table → Escalates old new t table mode
escalated old mid new t table mode is woken gives names all =
    let l : Lock = apply (lock old) (Granted t (Table table) mode) in
    let rows : IsAllRows l t table names = λ n. all n ∙ sym (row_stays (lock old).grants t table mode n) in
    let path : record (lock mid) { grants = released_rows (lock mid).grants t table } ≡ apply_all (lock old) (escalation t table mode names) =
    ap (λ (x : Lock). record x { grants = released_rows x.grants t table }) is ∙ sym (rows_given_back l t table names rows) in
    record {
      given = gives.given;
      noted = gives.noted ∙ ap (λ (x : List Request). x ++ gives.given) woken;
      order = subst (λ (x : Lock). Serves x.grants [] (queue x) gives.given (queue (lock new))) path gives.order;
      events = gives.events ∙ ap (λ (x : Lock). apply_all x (grants_of gives.given)) path;
      proper = λ ever. subst (λ (x : Lock). AreProper x ever (grants_of gives.given)) path (gives.proper ever);
    }

-- nothing of the spare is spent where something is held already
pub none_spent : (old : ℕ) (a held : Bool) (x : ℕ) → held ≡ true → x ≡ cond (a && not held) (old - 1) old → x ≡ old
none_spent old a held x is e = e ∙ ap (λ b. cond (a && not b) (old - 1) old) is ∙ ap (λ b. cond b (old - 1) old) (and_no a)
