use Rattle.std.proofs.Common.{ap, ◌∙◌}
use Rattle.lk_ast.specs.Tables.{table_defs}
use Rattle.lk_sem.proofs.PlacesFound.{there_found}
use Rattle.lk_sem.proofs.catalog.Catalog.table.Goals as goal

pub returns-in-Some : goal.returns-in-Some
returns-in-Some c =
    c.get-in-Some.ensures
    ∙ there_found c.self.inside.places c.self.inside.defs _ c.as_str.result.now _ _ c.self.invariant.2 c.in-Some.ensures.value c.as_str.ensures (c.self.invariant.1 ∙ ap table_defs c.self.view_is)

pub returns-in-None : goal.returns-in-None
returns-in-None c =
    there_found c.self.inside.places c.self.inside.defs _ c.as_str.result.now _ _ c.self.invariant.2 c.in-None.ensures.value c.as_str.ensures (c.self.invariant.1 ∙ ap table_defs c.self.view_is)
