use Rattle.std.proofs.Common.{subst, sym, ◌∙◌, ◌≡◌, true}
use Rattle.lk_ast.specs.Tables.{row_fits}
use Rattle.lk_exec.specs.Writings.{updated}
use Rattle.tree_cases.proofs.Swapping.{keeps}
use Rattle.tree_cases.proofs.calls.swap_columns.Goals as goal

pub update_rows-requires-clause-keeps : goal.update_rows-requires-clause-keeps
update_rows-requires-clause-keeps g c row fit =
    subst (λ sets. row_fits c.in_ok-def.def (updated c.params.result.now c.take_scalar-condition.result sets row) ≡ true) (sym (c.as_slice.ensures ∙ c.in_ok-sets.ensures))
    (keeps c.params.result.now c.take_scalar-condition.result c.in_ok-def.def c.in_ok-def.ensures row fit)
