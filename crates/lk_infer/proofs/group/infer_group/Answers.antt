use Rattle.std.proofs.Common.{◌≡◌, ap, subst, sym}
use Rattle.lk_infer.proofs.GroupAnswers.{functions_plain, nodes_plain, inferred_of, if_ok_map}
use Rattle.lk_infer.proofs.LateSteps.{fine_without, ill_typed_without, too_large_without}
use Rattle.lk_infer.proofs.group.infer_group.Goals as goal
use Rattle.lk_typing.specs.Groups.{group_walked}
use Rattle.lk_typing.specs.declared.step.Step.{Step}
use Rattle.lk_infer.specs.Refusals.{AllFine, IsIllTyped, IsTooLarge}
use Rattle.lk_infer.specs.Walked.{NoNodes}
use Rattle.std.specs.Prelude.{false, true, List}

pub generalise-requires-clause-functions : goal.generalise-requires-clause-functions
generalise-requires-clause-functions c = functions_plain c.args.decl.now _ c.in_ok-walk.ensures.functions

pub generalise-requires-clause-nodes : goal.generalise-requires-clause-nodes
generalise-requires-clause-nodes c = nodes_plain c.args.earlier.now c.args.tables.now c.args.decl.now _ c.in_ok-walk.ensures.nodes

pub returns-then-not-large-clause-inferred : goal.returns-then-not-large-clause-inferred
returns-then-not-large-clause-inferred c =
    let laws = c.typing_laws.ensures in
    let walk = c.in_ok-walk.ensures in
    if_ok_map c.generalise.result _ _
    (λ group solved. (inferred_of laws.walk laws.effects c.args.earlier.now c.args.tables.now c.args.decl.now c.requires c.in_ok-walk.walk walk.functions walk.nodes walk.steps group.schemes group.types solved).0)
    c.generalise.ensures.solved

pub returns-then-not-large-clause-even : goal.returns-then-not-large-clause-even
returns-then-not-large-clause-even c =
    let laws = c.typing_laws.ensures in
    let walk = c.in_ok-walk.ensures in
    if_ok_map c.generalise.result _ _
    (λ group solved. (inferred_of laws.walk laws.effects c.args.earlier.now c.args.tables.now c.args.decl.now c.requires c.in_ok-walk.walk walk.functions walk.nodes walk.steps group.schemes group.types solved).1)
    c.generalise.ensures.solved

pub returns-then-not-large-clause-fine : goal.returns-then-not-large-clause-fine
returns-then-not-large-clause-fine c =
    let steps : List Step = (group_walked c.args.earlier.now c.args.tables.now c.args.decl.now).steps in
    if_ok_map c.generalise.result _ _
    (λ group fine. subst (λ large. AllFine large steps) (sym c.if-not-large.true) (subst (AllFine false) c.in_ok-walk.ensures.steps fine))
    c.generalise.ensures.fine

pub returns-then-not-large-clause-ill_typed : goal.returns-then-not-large-clause-ill_typed
returns-then-not-large-clause-ill_typed c at is =
    let steps : List Step = (group_walked c.args.earlier.now c.args.tables.now c.args.decl.now).steps in
    subst (λ large. IsIllTyped large steps at) (sym c.if-not-large.true) (subst (λ steps. IsIllTyped false steps at) c.in_ok-walk.ensures.steps (c.generalise.ensures.ill_typed at is))

pub returns-then-not-large-clause-too_large : goal.returns-then-not-large-clause-too_large
returns-then-not-large-clause-too_large c at is =
    let steps : List Step = (group_walked c.args.earlier.now c.args.tables.now c.args.decl.now).steps in
    subst (λ large. IsTooLarge large steps at) (sym c.if-not-large.true) (subst (λ steps. IsTooLarge false steps at) c.in_ok-walk.ensures.steps (c.generalise.ensures.too_large at is))

pub refuse_late-requires-clause-functions : goal.refuse_late-requires-clause-functions
refuse_late-requires-clause-functions c = functions_plain c.args.decl.now _ c.in_ok-walk.ensures.functions

pub refuse_late-requires-clause-nodes : goal.refuse_late-requires-clause-nodes
refuse_late-requires-clause-nodes c = nodes_plain c.args.earlier.now c.args.tables.now c.args.decl.now _ c.in_ok-walk.ensures.nodes

pub generalise-requires-in-None-clause-functions : goal.generalise-requires-in-None-clause-functions
generalise-requires-in-None-clause-functions c = functions_plain c.args.decl.now _ c.in_ok-walk.ensures.functions

pub generalise-requires-in-None-clause-nodes : goal.generalise-requires-in-None-clause-nodes
generalise-requires-in-None-clause-nodes c = nodes_plain c.args.earlier.now c.args.tables.now c.args.decl.now _ c.in_ok-walk.ensures.nodes

pub returns-in-None-clause-inferred : goal.returns-in-None-clause-inferred
returns-in-None-clause-inferred c =
    let laws = c.typing_laws.ensures in
    let walk = c.in_ok-walk.ensures in
    if_ok_map c.generalise-in-None.result _ _
    (λ group solved. (inferred_of laws.walk laws.effects c.args.earlier.now c.args.tables.now c.args.decl.now c.requires c.in_ok-walk.walk walk.functions walk.nodes walk.steps group.schemes group.types solved).0)
    c.generalise-in-None.ensures.solved

pub returns-in-None-clause-even : goal.returns-in-None-clause-even
returns-in-None-clause-even c =
    let laws = c.typing_laws.ensures in
    let walk = c.in_ok-walk.ensures in
    if_ok_map c.generalise-in-None.result _ _
    (λ group solved. (inferred_of laws.walk laws.effects c.args.earlier.now c.args.tables.now c.args.decl.now c.requires c.in_ok-walk.walk walk.functions walk.nodes walk.steps group.schemes group.types solved).1)
    c.generalise-in-None.ensures.solved

pub returns-in-None-clause-fine : goal.returns-in-None-clause-fine
returns-in-None-clause-fine c =
    if_ok_map c.generalise-in-None.result _ _
    (λ group fine. subst (AllFine c.args.large) c.in_ok-walk.ensures.steps (fine_without c.args.large c.in_ok-walk.walk.steps (subst NoNodes c.as_slice.ensures c.in-None.ensures.none) fine))
    c.generalise-in-None.ensures.fine

pub returns-in-None-clause-ill_typed : goal.returns-in-None-clause-ill_typed
returns-in-None-clause-ill_typed c at is =
    subst (λ steps. IsIllTyped c.args.large steps at) c.in_ok-walk.ensures.steps
    (ill_typed_without c.args.large c.in_ok-walk.walk.steps at (subst NoNodes c.as_slice.ensures c.in-None.ensures.none) (c.generalise-in-None.ensures.ill_typed at is))

pub returns-in-None-clause-too_large : goal.returns-in-None-clause-too_large
returns-in-None-clause-too_large c at is =
    subst (λ steps. IsTooLarge c.args.large steps at) c.in_ok-walk.ensures.steps
    (too_large_without c.args.large c.in_ok-walk.walk.steps at (subst NoNodes c.as_slice.ensures c.in-None.ensures.none) (c.generalise-in-None.ensures.too_large at is))
