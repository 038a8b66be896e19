-- The law of kinds, by the form of the expression at the site.
use Rattle.std.proofs.Common.{◌≡◌, refl, subst, true, List, drop, length, None, Some}
use Rattle.lk_ast.specs.Functions.{functions_of}
use Rattle.lk_ast.specs.Layers.{Layer, layer}
use Rattle.lk_ast.specs.declared.declaration.Program.{Program}
use Rattle.lk_ast.specs.declared.expression.ChangeExpr.{ChangeExpr}
use Rattle.lk_ast.specs.declared.expression.Expr.{Expr}
use Rattle.lk_ast.specs.declared.expression.Node.TheOpen.{Node-F}
use Rattle.lk_ast.specs.declared.expression.SortKey.{SortKey}
use Rattle.lk_ast.specs.declared.place.Word.{Word}
use Rattle.lk_bag.specs.Blocks.{blocks_of}
use Rattle.lk_bodies.specs.Uses.{change_uses, query_uses}
use Rattle.lk_ground.specs.declared.program.GroundFun.{GroundFun}
use Rattle.lk_ground.specs.declared.program.GroundProgram.{GroundProgram}
use Rattle.lk_index.specs.Free.{captured_change, captured_query}
use Rattle.lk_inline.proofs.BlockForms.{IsChangeAlone, IsChangeBlock, IsQueryAlone, change_alone, delete_block, query_alone, query_block, table_block, update_block}
use Rattle.lk_inline.proofs.BlockNames.{captured_are}
use Rattle.lk_inline.proofs.ChangeKinds.{change_kinds}
use Rattle.lk_inline.proofs.OwnLabels.{keys_apart}
use Rattle.lk_inline.proofs.QueryKinds.{query_kinds, reading_kinds}
use Rattle.lk_inline.proofs.UsesTyped.{change_typed, uses_typed}
use Rattle.lk_inline.specs.Inlined.{change_at, inlined_by, query_at, reading_at}
use Rattle.lk_inline.specs.KindsOfTypes.{IsInOrder}
use Rattle.lk_inline.specs.Law.{AreProper, HasKinds, IsProperType, KindsLaw}
use Rattle.lk_mono.specs.Instanced.{HasInstances}
use Rattle.lk_names.specs.Programs.{IsBound}
use Rattle.lk_query.specs.declared.query.Inlined.{Inlined}
use Rattle.lk_sites.specs.Blocks.{IsBlock}
use Rattle.lk_sites.specs.Sites.{Site}
use Rattle.lk_sound.proofs.Bags.{all_early}
use Rattle.lk_types.proofs.Members.{each_weaker}
use Rattle.lk_sound.specs.Instances.{Instances}
use Rattle.lk_sound.specs.Nodes.{change_nodes, nodes_of}
use Rattle.lk_types.proofs.Parts.{same_some}
use Rattle.lk_types.specs.Each.{Each, OneOf}
use Rattle.lk_types.specs.declared.ground.Ground.{Ground}

-- types whose records have labels in order
lists_in_order : (types : List Ground) → Each IsProperType types → Each IsInOrder types
lists_in_order types proper = each_weaker IsProperType IsInOrder (λ t proper. proper.elements) types proper

module _ (p : Program) (bound : IsBound p) (g : GroundProgram) (has : HasInstances p g) (helpers : AreProper g.helpers) (site : Site) (block : IsBlock p has.shaped.instances site.block site.types site.calls)
    (of_text : OneOf (λ other. other ≡ site.block) (blocks_of p)) (proper : Each IsProperType site.types) where
  abbrev i : Instances
  i = has.shaped.instances

  ordered : Each (λ (f : GroundFun). Each IsInOrder f.types) g.helpers
  ordered = each_weaker (λ (f : GroundFun). Each IsProperType f.types) (λ (f : GroundFun). Each IsInOrder f.types) (λ f proper. lists_in_order f.types proper) g.helpers helpers

  types_ordered : Each IsInOrder site.types
  types_ordered = lists_in_order site.types proper

  query_kinded : (keys : List SortKey) (body : Expr) → layer site.block ≡ Node-F.Query keys body → HasKinds p (query_at p g.helpers site keys body)
  query_kinded keys body is =
      let alone : IsQueryAlone p i block.functions block.locals keys body site.types site.calls block.after =
      query_alone p i block.functions block.locals keys body site.types site.calls block.after (query_block p i block.functions block.typed keys body is block.fine site.types site.calls block.after block.takes) in
      query_kinds p bound g has ordered block.functions block.locals site types_ordered keys body block.after alone
      (captured_are block.locals (query_uses body (drop 1 site.types)) (captured_query body) alone.names
      (λ x among. (uses_typed p i.helpers (length (functions_of p)) true alone.typed refl refl (all_early p i has.shaped.closed (nodes_of true alone.typed) alone.flat) (drop 1 site.types) site.calls block.after alone.takes x among).1))
      (keys_apart p bound site.block of_text keys body is)

  reading_kinded : (name : Word) → layer site.block ≡ Node-F.Table name → HasKinds p (reading_at p g.helpers site name)
  reading_kinded name is = reading_kinds p i block.functions name site.types types_ordered (table_block p i block.functions block.typed name is site.types site.calls block.after block.takes)

  change_kinded : (change : ChangeExpr) → IsChangeBlock p i block.functions block.locals change site.types site.calls block.after → HasKinds p (change_at p g.helpers site change)
  change_kinded change whole =
      let alone : IsChangeAlone p i block.functions block.locals change site.types site.calls block.after = change_alone p i block.functions block.locals change site.types site.calls block.after whole in
      change_kinds p bound g has ordered block.functions block.locals site types_ordered change block.after alone
      (captured_are block.locals (change_uses change (drop 1 site.types)) (captured_change change) alone.names
      (λ x among. (change_typed p i.helpers (length (functions_of p)) alone.typed (all_early p i has.shaped.closed (change_nodes alone.typed) alone.flat) (drop 1 site.types) site.calls block.after alone.takes x among).1))

  by_form : (l : Layer) → layer site.block ≡ l → (found : Inlined) → inlined_by p g.helpers site l ≡ Some found → HasKinds p found
  by_form (Node-F.Query keys body) is found at = subst (HasKinds p) (same_some at) (query_kinded keys body is)
  by_form (Node-F.Table name) is found at = subst (HasKinds p) (same_some at) (reading_kinded name is)
  by_form (Node-F.Update change) is found at =
      subst (HasKinds p) (same_some at) (change_kinded change (update_block p i block.functions block.typed change is block.fine site.types site.calls block.after block.takes))
  by_form (Node-F.Delete change) is found at =
      subst (HasKinds p) (same_some at) (change_kinded change (delete_block p i block.functions block.typed change is block.fine site.types site.calls block.after block.takes))
  by_form other is found at = let wrong : None ≡ Some found = at in absurd cc

pub kinds-had : KindsLaw
kinds-had p bound g has helpers site block of_text proper found at = by_form p bound g has helpers site block of_text proper (layer site.block) refl found at
