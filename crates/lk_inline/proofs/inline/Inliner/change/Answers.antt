use Rattle.std.proofs.Common.{◌≡◌, ◌∷◌, length, map, sym, ap, ap₂, refl, ◌∙◌}
use Rattle.lk_ast.specs.Functions.{functions_of}
use Rattle.lk_ast.specs.declared.expression.ChangeExpr.{out-ChangeExpr}
use Rattle.lk_ast.specs.declared.expression.PartExpr.{PartExpr}
use Rattle.lk_bodies.specs.Captured.{bound_parts, numbered}
use Rattle.lk_bodies.specs.UsesSeen.{seen_uses}
use Rattle.lk_bodies.specs.Walk.{all, labelled, walk}
use Rattle.lk_bodies.specs.Walked.{calls_in, made_of, several_of, state_of}
use Rattle.lk_ground.specs.declared.program.GroundProgram.{GroundProgram}
use Rattle.lk_index.specs.Free.{texts}
use Rattle.lk_inline.proofs.Inlining.{begun, captured_changes, change_inlined, change_ordered, same_walk, same_walks}
use Rattle.lk_inline.specs.Inlined.{table_labels}
use Rattle.lk_inline.specs.Sets.{in_order}
use Rattle.lk_sites.specs.SiteSeen.{shown}
use Rattle.lk_inline.proofs.inline.Inliner.change.Goals as goal

pub new-parts-requires : goal.new-parts-requires
new-parts-requires c =
    let g = c.args.self.now in
    let site = shown c.args.site.now in
    let change = c.args.change.now in
    let names = texts c.in_ok-names.names in
    let calls_are = c.function_count-calls.ensures ∙ ap (λ q. length (functions_of q)) c.self.invariant.0 ∙ ap (λ (q : GroundProgram). length (functions_of q.program.now)) c.self.view_is in
    let bound_are : texts c.in_ok-bound.bound ≡ (out-ChangeExpr change).name.text ∷ names = c.in_ok-bound.ensures ∙ ap₂ (λ r ns. r ∷ texts ns) c.as_str.ensures c.as_slice-3.ensures in
    let numbers_are = c.in_ok-numbers.ensures ∙ ap (λ ns. numbered 0 (texts ns)) c.as_slice-4.ensures ∙ ap (numbered 0) bound_are in
    let parts_are = c.in_ok-bound_parts.ensures ∙ ap (λ ns. bound_parts (texts ns)) c.as_slice-5.ensures ∙ ap bound_parts bound_are in
    let cond_is =
    same_walk g.program.now g.helpers c.over-over.result.helpers.now c.function_count-calls.result (out-ChangeExpr change).cond c.in_ok-numbers.numbers _ _ _ (made_of c.in_ok-cond.cond c.walk_expr.new.walked)
    c.in_ok-cond.ensures.made c.over-over.ensures calls_are numbers_are
    (begun g.program.now g.helpers site ((out-ChangeExpr change).name.text ∷ names) c.in_ok-bound_parts.field-0 c.behind_first-2.result.now parts_are c.behind_first-2.ensures) in
    let sets_are =
    same_walks g.program.now g.helpers c.over-over.result.helpers.now c.function_count-calls.result (out-ChangeExpr change).sets c.walk_expr.new.names _ (state_of c.walk_expr.new.walked) _ (several_of c.in_ok-set.set c.walk_fields.new.walked)
    (c.in_ok-set.ensures.made ∙ ap (λ sets. all (map (λ (set : PartExpr). walk (calls_in c.over-over.result c.function_count-calls.result) set.expr) sets) c.walk_expr.new.names (state_of c.walk_expr.new.walked)) c.as_slice-sets.ensures)
    c.over-over.ensures calls_are (c.in_ok-cond.ensures.left ∙ numbers_are) refl in
    change_ordered g.program.now g.helpers site change names (made_of c.in_ok-cond.cond c.walk_expr.new.walked) (several_of c.in_ok-set.set c.walk_fields.new.walked) cond_is sets_are

pub returns : goal.returns
returns c =
    let g = c.args.self.now in
    let site = shown c.args.site.now in
    let change = c.args.change.now in
    let names = texts c.in_ok-names.names in
    let calls_are = c.function_count-calls.ensures ∙ ap (λ q. length (functions_of q)) c.self.invariant.0 ∙ ap (λ (q : GroundProgram). length (functions_of q.program.now)) c.self.view_is in
    let bound_are : texts c.in_ok-bound.bound ≡ (out-ChangeExpr change).name.text ∷ names = c.in_ok-bound.ensures ∙ ap₂ (λ r ns. r ∷ texts ns) c.as_str.ensures c.as_slice-3.ensures in
    let numbers_are = c.in_ok-numbers.ensures ∙ ap (λ ns. numbered 0 (texts ns)) c.as_slice-4.ensures ∙ ap (numbered 0) bound_are in
    let parts_are = c.in_ok-bound_parts.ensures ∙ ap (λ ns. bound_parts (texts ns)) c.as_slice-5.ensures ∙ ap bound_parts bound_are in
    let cond_is =
    same_walk g.program.now g.helpers c.over-over.result.helpers.now c.function_count-calls.result (out-ChangeExpr change).cond c.in_ok-numbers.numbers _ _ _ (made_of c.in_ok-cond.cond c.walk_expr.new.walked)
    c.in_ok-cond.ensures.made c.over-over.ensures calls_are numbers_are
    (begun g.program.now g.helpers site ((out-ChangeExpr change).name.text ∷ names) c.in_ok-bound_parts.field-0 c.behind_first-2.result.now parts_are c.behind_first-2.ensures) in
    let sets_are =
    same_walks g.program.now g.helpers c.over-over.result.helpers.now c.function_count-calls.result (out-ChangeExpr change).sets c.walk_expr.new.names _ (state_of c.walk_expr.new.walked) _ (several_of c.in_ok-set.set c.walk_fields.new.walked)
    (c.in_ok-set.ensures.made ∙ ap (λ sets. all (map (λ (set : PartExpr). walk (calls_in c.over-over.result c.function_count-calls.result) set.expr) sets) c.walk_expr.new.names (state_of c.walk_expr.new.walked)) c.as_slice-sets.ensures)
    c.over-over.ensures calls_are (c.in_ok-cond.ensures.left ∙ numbers_are) refl in
    change_inlined g.program.now g.helpers site change names (made_of c.in_ok-cond.cond c.walk_expr.new.walked) (several_of c.in_ok-set.set c.walk_fields.new.walked)
    c.new-parts.result c.in_ok-labels.labels c.in_ok-captured.captured c.in_ok-sets.sets
    c.in_ok-names.ensures cond_is sets_are c.new-parts.ensures (c.in_ok-labels.ensures ∙ ap table_labels c.table.ensures)
    (captured_changes g.program.now g.helpers site change names (texts c.as_slice-2.result.now) c.behind_first.result.now _ _ c.in_ok-captured.ensures (ap seen_uses c.as_slice.ensures ∙ c.in_ok-uses.ensures) c.behind_first.ensures (ap texts c.as_slice-2.ensures))
    (c.in_ok-sets.ensures ∙ ap₂ (λ sets numbers. in_order (labelled (map (λ (set : PartExpr). set.label.text) sets) numbers)) c.as_slice-sets.ensures c.as_slice-6.ensures)
