use Rattle.std.proofs.Common.{◌∙◌, ap, arith, get_or, None, Some}
use Rattle.std.proofs.lemmas.List.{get_or-set_other, get_or-set_same}
use Rattle.lk_unify.proofs.NodesFound.{more_of_default}
use Rattle.lk_unify.proofs.named_nodes.put_place.Goals as goal

pub reaching-preserved : goal.reaching-preserved
reaching-preserved c i = ap (λ places. get_or places i None) c.in_ok-push.ensures.items ∙ more_of_default c.reaching.places.items None i ∙ c.reaching.invariant i

pub returns-clause-here : goal.returns-clause-here
returns-clause-here c =
    let out = c.reaching-test.false in
    let len = c.reaching.places.ok.0 in
    get_or-set_same c.reaching.places.items c.args.number (Some c.args.found) None (omega arith)

pub returns-clause-there : goal.returns-clause-there
returns-clause-there c i differ = get_or-set_other c.reaching.places.items c.args.number i (Some c.args.found) None differ ∙ c.reaching.invariant i
