use Rattle.std.proofs.Common.{◌≡◌, length, sym, ap, ◌∙◌}
use Rattle.lk_ast.specs.Functions.{functions_of}
use Rattle.lk_bodies.specs.Captured.{bound_parts, numbered}
use Rattle.lk_bodies.specs.UsesSeen.{seen_uses}
use Rattle.lk_bodies.specs.Walked.{made_of}
use Rattle.lk_ground.specs.declared.program.GroundProgram.{GroundProgram}
use Rattle.lk_index.specs.Free.{texts}
use Rattle.lk_inline.proofs.Inlining.{begun, captured_names, query_inlined, query_ordered, same_walk}
use Rattle.lk_sites.specs.SiteSeen.{shown}
use Rattle.lk_inline.proofs.inline.Inliner.query.Goals as goal

pub new-parts-requires : goal.new-parts-requires
new-parts-requires c =
    let g = c.args.self.now in
    let site = shown c.args.site.now in
    let names = texts c.in_ok-names.names in
    query_ordered g.program.now g.helpers site c.args.body.now names (made_of c.in_ok-root.root c.walk_expr.new.walked)
    (same_walk g.program.now g.helpers c.over-over.result.helpers.now c.function_count-calls.result c.args.body.now c.in_ok-numbers.numbers _ _ _ _
    c.in_ok-root.ensures.made c.over-over.ensures (c.function_count-calls.ensures ∙ ap (λ q. length (functions_of q)) c.self.invariant.0 ∙ ap (λ (q : GroundProgram). length (functions_of q.program.now)) c.self.view_is)
    (c.in_ok-numbers.ensures ∙ ap (λ ns. numbered 0 (texts ns)) c.as_slice-3.ensures)
    (begun g.program.now g.helpers site names c.in_ok-bound_parts.field-0 c.behind_first-2.result.now (c.in_ok-bound_parts.ensures ∙ ap (λ ns. bound_parts (texts ns)) c.as_slice-4.ensures) c.behind_first-2.ensures))

pub returns : goal.returns
returns c =
    let g = c.args.self.now in
    let site = shown c.args.site.now in
    let names = texts c.in_ok-names.names in
    query_inlined g.program.now g.helpers site c.args.keys.now c.args.body.now names (made_of c.in_ok-root.root c.walk_expr.new.walked) c.new-parts.result c.in_ok-captured.captured c.in_ok-columns.columns c.in_ok-keys.keys
    c.in_ok-names.ensures
    (same_walk g.program.now g.helpers c.over-over.result.helpers.now c.function_count-calls.result c.args.body.now c.in_ok-numbers.numbers _ _ _ _
    c.in_ok-root.ensures.made c.over-over.ensures (c.function_count-calls.ensures ∙ ap (λ q. length (functions_of q)) c.self.invariant.0 ∙ ap (λ (q : GroundProgram). length (functions_of q.program.now)) c.self.view_is)
    (c.in_ok-numbers.ensures ∙ ap (λ ns. numbered 0 (texts ns)) c.as_slice-3.ensures)
    (begun g.program.now g.helpers site names c.in_ok-bound_parts.field-0 c.behind_first-2.result.now (c.in_ok-bound_parts.ensures ∙ ap (λ ns. bound_parts (texts ns)) c.as_slice-4.ensures) c.behind_first-2.ensures))
    c.new-parts.ensures
    (captured_names g.program.now g.helpers site c.args.body.now names (texts c.as_slice-2.result.now) c.behind_first.result.now _ _ c.in_ok-captured.ensures (ap seen_uses c.as_slice.ensures ∙ c.in_ok-uses.ensures) c.behind_first.ensures (ap texts c.as_slice-2.ensures))
    c.in_ok-columns.ensures c.in_ok-keys.ensures
