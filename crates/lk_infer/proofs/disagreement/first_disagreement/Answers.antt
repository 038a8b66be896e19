use Rattle.std.proofs.Common.{◌≡◌, ◌∙◌, ◌<◌, ◌≤◌, Err, List, length, get_or, ap, subst}
use Rattle.lk_ast.specs.declared.declaration.Decl.{Decl}
use Rattle.lk_infer.proofs.AtOdds.{refused, odds_found, order_found, none_found}
use Rattle.lk_infer.proofs.ProgramAnswers.{nothing_done, one_more, ends_there, has_types}
use Rattle.lk_infer.proofs.disagreement.first_disagreement.Goals as goal
use Rattle.lk_infer.specs.Disagreements.{NoneAtOdds}
use Rattle.lk_ast.specs.Tables.{tables_of}

pub loop-decl-init : goal.loop-decl-init
loop-decl-init c = let start = c.new-so_far.ensures in nothing_done _ _ _ _ _ start.large start.earlier start.schemes start.types

pub loop-decl-preserved : goal.loop-decl-preserved
loop-decl-preserved c =
    let decls = c.as_slice-decl-items.ensures ∙ ap (λ program. program.decls) c.program-program.ensures.same in
    let group = c.in-Ok.ensures in
    let more = c.in_ok-add_group.ensures in
    one_more c.args.program.now _ (c.in_ok-tables.ensures ∙ ap tables_of c.program-program.ensures.same) c.loop-decl.decl-index c.decl-item.result
    (subst (λ ds. c.loop-decl.decl-index < length ds) decls c.loop-decl-test.true) (subst (λ (ds : List Decl). c.decl-item.result ≡ get_or ds c.loop-decl.decl-index c.decl-item.result) decls c.decl-item.is)
    _ _ _ _ c.loop-decl.invariant _ _ group.inferred group.even group.in_order group.fine _ _ _ _ more.earlier more.schemes more.types more.large

pub returns-in-Err-clause-odds : goal.returns-in-Err-clause-odds
returns-in-Err-clause-odds c =
    let decls = c.as_slice-decl-items.ensures ∙ ap (λ program. program.decls) c.program-program.ensures.same in
    let refusal = refused _ _ c.in-Err.error (λ at is. c.infer_group.ensures.ill_typed at (c.in-Err.is ∙ ap Err is)) (λ at is. c.infer_group.ensures.too_large at (c.in-Err.is ∙ ap Err is)) in
    odds_found c.args.program.now _ _
    (ends_there c.args.program.now _ (c.in_ok-tables.ensures ∙ ap tables_of c.program-program.ensures.same) c.loop-decl.decl-index c.decl-item.result
    (subst (λ ds. c.loop-decl.decl-index < length ds) decls c.loop-decl-test.true) (subst (λ (ds : List Decl). c.decl-item.result ≡ get_or ds c.loop-decl.decl-index c.decl-item.result) decls c.decl-item.is)
    _ _ _ _ c.loop-decl.invariant)
    _ (c.odds_for.ensures _ refusal)

pub returns-in-Err-clause-in_order : goal.returns-in-Err-clause-in_order
returns-in-Err-clause-in_order c =
    let refusal = refused _ _ c.in-Err.error (λ at is. c.infer_group.ensures.ill_typed at (c.in-Err.is ∙ ap Err is)) (λ at is. c.infer_group.ensures.too_large at (c.in-Err.is ∙ ap Err is)) in
    order_found _ _ _ (c.odds_for.ensures _ refusal)

pub returns-in-Err-clause-none : goal.returns-in-Err-clause-none
returns-in-Err-clause-none c =
    let decls = c.as_slice-decl-items.ensures ∙ ap (λ program. program.decls) c.program-program.ensures.same in
    let refusal = refused _ _ c.in-Err.error (λ at is. c.infer_group.ensures.ill_typed at (c.in-Err.is ∙ ap Err is)) (λ at is. c.infer_group.ensures.too_large at (c.in-Err.is ∙ ap Err is)) in
    none_found c.args.program.now _ _
    (ends_there c.args.program.now _ (c.in_ok-tables.ensures ∙ ap tables_of c.program-program.ensures.same) c.loop-decl.decl-index c.decl-item.result
    (subst (λ ds. c.loop-decl.decl-index < length ds) decls c.loop-decl-test.true) (subst (λ (ds : List Decl). c.decl-item.result ≡ get_or ds c.loop-decl.decl-index c.decl-item.result) decls c.decl-item.is)
    _ _ _ _ c.loop-decl.invariant)
    _ (c.odds_for.ensures _ refusal)

pub returns-clause-none : goal.returns-clause-none
returns-clause-none c =
    let decls = c.as_slice-decl-items.ensures ∙ ap (λ program. program.decls) c.program-program.ensures.same in
    NoneAtOdds.typed _ _ (has_types c.args.program.now c.loop-decl.decl-index (subst (λ (ds : List Decl). length ds ≤ c.loop-decl.decl-index) decls c.loop-decl-test.false) _ _ _ _ c.loop-decl.invariant)
