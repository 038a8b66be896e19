use Rattle.std.proofs.Common.{◌≡◌, ◌≤◌, length, ap, refl, subst, sym, ◌∙◌}
use Rattle.std.specs.Prelude.{take, drop}
use Rattle.lk_infer.proofs.LackMembers.{generalised_in_order}
use Rattle.lk_infer.proofs.SolvedWalks.{enough, solved_by}
use Rattle.lk_infer.proofs.group.generalise.Goals as goal
use Rattle.lk_infer.specs.Generalised.{AreGeneralised}

pub schemes_of-requires : goal.schemes_of-requires
schemes_of-requires c = subst (λ n. n ≤ length c.in_ok-all.all) (sym c.len-functions.ensures) (enough c.args.walk c.in_ok-all.all c.in_ok-all.ensures.sides)

pub returns-clause-solved : goal.returns-clause-solved
returns-clause-solved c =
    solved_by c.args.walk c.in_ok-all.all c.in_ok-schemes.schemes (drop (length c.args.walk.functions) c.in_ok-all.all) c.in_ok-types.types c.in_ok-all.ensures.sides refl
    (c.in_ok-types.ensures ∙ ap (λ n. take n (drop c.len-functions.result c.in_ok-all.all)) c.len-nodes.ensures ∙ ap (λ n. take (length c.args.walk.nodes) (drop n c.in_ok-all.all)) c.len-functions.ensures)
    (subst (λ n. AreGeneralised c.in_ok-all.all (take n c.in_ok-all.all) c.in_ok-schemes.schemes) c.len-functions.ensures c.in_ok-schemes.ensures.schemes)

pub returns-clause-in_order : goal.returns-clause-in_order
returns-clause-in_order c = generalised_in_order _ _ _ c.in_ok-schemes.ensures.schemes c.in_ok-schemes.ensures.ordered c.in_ok-all.ensures.in_order
