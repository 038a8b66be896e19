use Rattle.lk_types.specs.declared.ty.Ty.TheVariants as ty
use Rattle.lk_equations.proofs.Queries.{query_said}
use Rattle.lk_equations.specs.Forms.{as_told}
use Rattle.lk_equations.proofs.forms.query_told.Goals as goal

pub returns : goal.returns
returns c =
    query_said c.args.keys.now c.args.effects.now (ty.Var c.args.body) c.args.next c.in_ok-moved.field-0 c.in_ok-behind.behind (as_told c.in_ok-ordered.ordered) (as_told c.in_ok-by_client.by_client) c.is_empty.result c.in_ok-elements_are.field-0
    c.in_ok-scan.scan _ _ _ _ c.in_ok-elements_are.ensures c.in_ok-first.ensures c.in_ok-moved.ensures c.in_ok-ordered.ensures c.in_ok-scan.ensures c.in_ok-behind.ensures c.is_empty.ensures c.in_ok-by_client.ensures c.in_ok-equations.ensures
    c.in_ok-push.ensures.ok c.in_ok-joined.ensures
