use Rattle.std.proofs.Common.{ap, ◌∙◌, map}
use Rattle.lk_walk.specs.Members.{all_shown, first_type, functions_went, named_type}
use Rattle.lk_walk.proofs.Grouped.{group_is, types_are}
use Rattle.lk_typing.specs.Groups.{type_of, unknowns}
use Rattle.lk_walk.proofs.group.walk_group.Goals as goal

pub returns-clause-functions : goal.returns-clause-functions
returns-clause-functions c =
    c.in_ok-functions.ensures ∙ ap (λ ms. map first_type (all_shown ms)) c.as_slice-all.ensures ∙ ap (map first_type) c.in_ok-group.ensures.all
    ∙ types_are c.functions_in.result.now 0 ∙ ap (λ fs. map type_of (unknowns fs 0)) c.functions_in.ensures

pub returns-clause-nodes : goal.returns-clause-nodes
returns-clause-nodes c = (group_is (record { own = c.in_ok-own.own; earlier = c.args.earlier; tables = c.args.tables }) c.is_mutual.result c.args.decl.now c.functions_in.result.now (all_shown c.in_ok-group.group.all) (record { names = c.new.result; types = c.new-2.result; steps = c.new-3.result; next = c.in_ok-group.group.next }) c.walk_members.new.walker
    c.functions_in.ensures c.in_ok-group.ensures.all (c.in_ok-own.ensures ∙ ap (λ ms. map named_type (all_shown ms)) c.as_slice.ensures) c.is_mutual.ensures
    c.new.ensures c.new-2.ensures c.new-3.ensures c.in_ok-group.ensures.next
    (c.in_ok-walk_members.ensures ∙ ap (λ ms. functions_went (record { own = c.in_ok-own.own; earlier = c.args.earlier; tables = c.args.tables }) c.is_mutual.result (all_shown ms) (record { names = c.new.result; types = c.new-2.result; steps = c.new-3.result; next = c.in_ok-group.group.next })) c.as_slice-all.ensures)).0

pub returns-clause-steps : goal.returns-clause-steps
returns-clause-steps c = (group_is (record { own = c.in_ok-own.own; earlier = c.args.earlier; tables = c.args.tables }) c.is_mutual.result c.args.decl.now c.functions_in.result.now (all_shown c.in_ok-group.group.all) (record { names = c.new.result; types = c.new-2.result; steps = c.new-3.result; next = c.in_ok-group.group.next }) c.walk_members.new.walker
    c.functions_in.ensures c.in_ok-group.ensures.all (c.in_ok-own.ensures ∙ ap (λ ms. map named_type (all_shown ms)) c.as_slice.ensures) c.is_mutual.ensures
    c.new.ensures c.new-2.ensures c.new-3.ensures c.in_ok-group.ensures.next
    (c.in_ok-walk_members.ensures ∙ ap (λ ms. functions_went (record { own = c.in_ok-own.own; earlier = c.args.earlier; tables = c.args.tables }) c.is_mutual.result (all_shown ms) (record { names = c.new.result; types = c.new-2.result; steps = c.new-3.result; next = c.in_ok-group.group.next })) c.as_slice-all.ensures)).1
