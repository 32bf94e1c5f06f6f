use Rattle.std.proofs.Common.{refl, sym, ◌∙◌}
use Rattle.sql_binder.proofs.Telling.{answers}
use Rattle.sql_binder.proofs.bind.bind.Goals as goal

pub returns-in-Ok : goal.returns-in-Ok
returns-in-Ok g c = answers c.args.s.now (g.D.Catalog.dictionary c.args.d.now) _ _ _ _ (sym c.is_built.ensures ∙ c.if-not-is_built.false) refl c.in-Ok.ensures c.told.ensures
