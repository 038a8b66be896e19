use Rattle.std.proofs.Common.{sym, ◌∙◌}
use Rattle.std.proofs.lemmas.List.{length-map}
use Rattle.lk_unify.proofs.SideTypes.{all_if_ok}
use Rattle.lk_unify.proofs.constrained.solve.Goals as goal
use Rattle.lk_unify.specs.Constraints.{equations_of}

pub returns-clause-sides : goal.returns-clause-sides
returns-clause-sides c =
    all_if_ok (equations_of c.args.constraints) c.len-count.result c.solve_first.result (c.len-count.ensures ∙ sym (length-map c.args.constraints (λ it. it.equation))) c.solve_first.ensures.sides
