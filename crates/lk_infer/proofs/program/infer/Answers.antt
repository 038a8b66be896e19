use Rattle.std.proofs.Common.{◌≡◌, ◌∙◌, ◌<◌, ◌≤◌, Err, List, length, get_or, ap, subst, subst₂, sym}
use Rattle.lk_ast.specs.declared.declaration.Decl.{Decl}
use Rattle.lk_infer.proofs.OwnLacks.{all_narrow, inferred_own}
use Rattle.lk_infer.proofs.ProgramAnswers.{nothing_done, one_more, ill_typed_there, not_well_typed_there, too_large_there, has_types, are_principal}
use Rattle.lk_infer.proofs.program.infer.Goals as goal
use Rattle.lk_infer.specs.Inferred.{HasTypes}
use Rattle.lk_infer.specs.LacksInOrder.{IsSchemeInOrder}
use Rattle.lk_infer.specs.declared.error.InferError.TheVariants as errors
use Rattle.lk_ast.specs.Tables.{tables_of}
use Rattle.lk_types.specs.Each.{Each}
use Rattle.lk_typing.specs.EffectRows.{IsEvenScheme}
use Rattle.lk_typing.specs.Programs.{ArePrincipal}

pub loop-decl-init : goal.loop-decl-init
loop-decl-init c = let start = c.new-so_far.ensures in nothing_done _ _ _ _ _ start.large start.earlier start.schemes start.types

pub loop-decl-preserved : goal.loop-decl-preserved
loop-decl-preserved c =
    let decls = c.as_slice-decl-items.ensures ∙ ap (λ program. program.decls) c.program-program.ensures.same in
    let group = c.in-Ok.ensures in
    let more = c.in_ok-add_group.ensures in
    one_more c.args.program.now _ (c.in_ok-tables.ensures ∙ ap tables_of c.program-program.ensures.same) c.loop-decl.decl-index c.decl-item.result
    (subst (λ ds. c.loop-decl.decl-index < length ds) decls c.loop-decl-test.true) (subst (λ (ds : List Decl). c.decl-item.result ≡ get_or ds c.loop-decl.decl-index c.decl-item.result) decls c.decl-item.is)
    _ _ _ _ c.loop-decl.invariant _ _ group.inferred group.even group.in_order group.fine _ _ _ _ more.earlier more.schemes more.types more.large

pub returns-in-Err-clause-ill_typed : goal.returns-in-Err-clause-ill_typed
returns-in-Err-clause-ill_typed c at is =
    let decls = c.as_slice-decl-items.ensures ∙ ap (λ program. program.decls) c.program-program.ensures.same in
    ill_typed_there c.args.program.now _ (c.in_ok-tables.ensures ∙ ap tables_of c.program-program.ensures.same) c.loop-decl.decl-index c.decl-item.result
    (subst (λ ds. c.loop-decl.decl-index < length ds) decls c.loop-decl-test.true) (subst (λ (ds : List Decl). c.decl-item.result ≡ get_or ds c.loop-decl.decl-index c.decl-item.result) decls c.decl-item.is)
    _ _ _ _ c.loop-decl.invariant at (c.infer_group.ensures.ill_typed at (let same : c.in-Err.error ≡ errors.IllTyped at = cc in c.in-Err.is ∙ ap Err same))

pub returns-in-Err-clause-not_well_typed : goal.returns-in-Err-clause-not_well_typed
returns-in-Err-clause-not_well_typed c at is =
    let decls = c.as_slice-decl-items.ensures ∙ ap (λ program. program.decls) c.program-program.ensures.same in
    not_well_typed_there c.args.program.now _ (c.in_ok-tables.ensures ∙ ap tables_of c.program-program.ensures.same) c.loop-decl.decl-index c.decl-item.result
    (subst (λ ds. c.loop-decl.decl-index < length ds) decls c.loop-decl-test.true) (subst (λ (ds : List Decl). c.decl-item.result ≡ get_or ds c.loop-decl.decl-index c.decl-item.result) decls c.decl-item.is)
    _ _ _ _ c.loop-decl.invariant c.typing_laws.ensures.walk at (c.infer_group.ensures.ill_typed at (let same : c.in-Err.error ≡ errors.IllTyped at = cc in c.in-Err.is ∙ ap Err same))

pub returns-in-Err-clause-too_large : goal.returns-in-Err-clause-too_large
returns-in-Err-clause-too_large c at is =
    let decls = c.as_slice-decl-items.ensures ∙ ap (λ program. program.decls) c.program-program.ensures.same in
    too_large_there c.args.program.now _ (c.in_ok-tables.ensures ∙ ap tables_of c.program-program.ensures.same) c.loop-decl.decl-index c.decl-item.result
    (subst (λ ds. c.loop-decl.decl-index < length ds) decls c.loop-decl-test.true) (subst (λ (ds : List Decl). c.decl-item.result ≡ get_or ds c.loop-decl.decl-index c.decl-item.result) decls c.decl-item.is)
    _ _ _ _ c.loop-decl.invariant at (c.infer_group.ensures.too_large at (let same : c.in-Err.error ≡ errors.TypeTooLarge at = cc in c.in-Err.is ∙ ap Err same))

pub returns-clause-types : goal.returns-clause-types
returns-clause-types c =
    let decls = c.as_slice-decl-items.ensures ∙ ap (λ program. program.decls) c.program-program.ensures.same in
    let typed = c.into_typed.ensures in
    subst₂ (HasTypes c.args.program.now) (sym typed.schemes) (sym typed.types)
    (has_types c.args.program.now c.loop-decl.decl-index (subst (λ (ds : List Decl). length ds ≤ c.loop-decl.decl-index) decls c.loop-decl-test.false) _ _ _ _ c.loop-decl.invariant)

pub returns-clause-principal : goal.returns-clause-principal
returns-clause-principal c =
    let decls = c.as_slice-decl-items.ensures ∙ ap (λ program. program.decls) c.program-program.ensures.same in
    subst (ArePrincipal c.args.program.now) (sym c.into_typed.ensures.schemes)
    (are_principal c.args.program.now c.loop-decl.decl-index (subst (λ (ds : List Decl). length ds ≤ c.loop-decl.decl-index) decls c.loop-decl-test.false) _ _ _ _ c.loop-decl.invariant)

pub returns-clause-in_order : goal.returns-clause-in_order
returns-clause-in_order c = subst (Each IsSchemeInOrder) (sym c.into_typed.ensures.schemes) c.loop-decl.invariant.in_order

pub returns-clause-even : goal.returns-clause-even
returns-clause-even c = subst (Each IsEvenScheme) (sym c.into_typed.ensures.schemes) c.loop-decl.invariant.all_even

pub returns-clause-own_lacks : goal.returns-clause-own_lacks
returns-clause-own_lacks c = inferred_own (returns-clause-types c)

pub returns-clause-narrow : goal.returns-clause-narrow
returns-clause-narrow c = all_narrow _ (inferred_own (returns-clause-types c))
