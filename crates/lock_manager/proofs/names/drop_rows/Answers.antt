use Rattle.std.proofs.Common.{rules}
use Rattle.std.specs.Prelude.{not}
use Rattle.std.proofs.lemmas.Map.Made.{filter_same_pairs}
use Rattle.lock_modes.specs.Names.{is_row_name}
use Rattle.lock_manager.proofs.names.drop_rows.Goals as goal

pub returns-clause-entries : goal.returns-clause-entries
returns-clause-entries c = filter_same_pairs _ (λ p. not (is_row_name c.args.table p.0)) _ (λ k v b w f' t. search rules) _ _ c.retain.ensures.filtered
