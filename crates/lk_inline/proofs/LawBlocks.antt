-- The law of blocks, by the form of the expression at the site.
use Rattle.std.proofs.Common.{◌≡◌, refl, sym, ap, subst, true, List, drop, length, None, Some}
use Rattle.lk_ast.specs.Functions.{functions_of}
use Rattle.lk_ast.specs.Layers.{Layer, layer}
use Rattle.lk_ast.specs.declared.declaration.Program.{Program}
use Rattle.lk_ast.specs.declared.expression.ChangeExpr.{ChangeExpr}
use Rattle.lk_ast.specs.declared.expression.Expr.{Expr}
use Rattle.lk_ast.specs.declared.expression.Node.TheOpen.{Node-F}
use Rattle.lk_ast.specs.declared.expression.SortKey.{SortKey}
use Rattle.lk_ast.specs.declared.place.Word.{Word}
use Rattle.lk_bag.specs.Legal.{captured_by}
use Rattle.lk_bodies.specs.Uses.{change_uses}
use Rattle.lk_ground.specs.declared.program.GroundProgram.{GroundProgram}
use Rattle.lk_index.specs.Free.{captured_change}
use Rattle.lk_inline.proofs.BlockChanges.{rows_keep, test_keeps}
use Rattle.lk_inline.proofs.BlockForms.{IsChangeAlone, IsChangeBlock, IsQueryAlone, change_alone, delete_block, query_alone, query_block, table_block, update_block}
use Rattle.lk_inline.proofs.BlockQueries.{query_keeps}
use Rattle.lk_inline.proofs.BlockReadings.{reading_keeps}
use Rattle.lk_inline.proofs.LawTypes.{IsProperBlock, block_proper}
use Rattle.lk_inline.proofs.UsesTyped.{change_typed, uses_typed}
use Rattle.lk_inline.specs.Inlined.{change_at, inlined_by, query_at, reading_at}
use Rattle.lk_inline.specs.Law.{BlockLaw, Keeps}
use Rattle.lk_inline.specs.Law as keeps
use Rattle.lk_mono.specs.Instanced.{HasInstances}
use Rattle.lk_names.specs.Programs.{IsBound}
use Rattle.lk_query.specs.declared.query.Inlined.{Inlined}
use Rattle.lk_sites.specs.Blocks.{IsBlock}
use Rattle.lk_sites.specs.Sites.{Site}
use Rattle.lk_sound.proofs.Bags.{all_early}
use Rattle.lk_sound.proofs.Names.{IsAmong}
use Rattle.lk_sound.specs.Instances.{Instances}
use Rattle.lk_sound.specs.Nodes.{change_nodes, nodes_of}
use Rattle.lk_types.proofs.Parts.{same_some}
use Rattle.lk_types.specs.Rows.{Label}
use Rattle.lk_typing.specs.Names.{named}

module _ (p : Program) (bound : IsBound p) (g : GroundProgram) (has : HasInstances p g) (site : Site) (block : IsBlock p has.shaped.instances site.block site.types site.calls) where
  abbrev i : Instances
  i = has.shaped.instances

  query_kept : (keys : List SortKey) (body : Expr) → layer site.block ≡ Node-F.Query keys body → IsProperBlock (query_at p g.helpers site keys body) → Keeps p site.block (Node-F.Query keys body) (query_at p g.helpers site keys body)
  query_kept keys body is proper =
      let alone : IsQueryAlone p i block.functions block.locals keys body site.types site.calls block.after =
      query_alone p i block.functions block.locals keys body site.types site.calls block.after (query_block p i block.functions block.typed keys body is block.fine site.types site.calls block.after block.takes) in
      keeps.query (query_keeps p bound g has block.functions block.locals site keys body block.after alone site.block is
      (λ x among. (uses_typed p i.helpers (length (functions_of p)) true alone.typed refl refl (all_early p i has.shaped.closed (nodes_of true alone.typed) alone.flat) (drop 1 site.types) site.calls block.after alone.takes x among).1) proper)

  reading_kept : (name : Word) → layer site.block ≡ Node-F.Table name → Keeps p site.block (Node-F.Table name) (reading_at p g.helpers site name)
  reading_kept name is = keeps.query (reading_keeps p i block.functions name site.types (table_block p i block.functions block.typed name is site.types site.calls block.after block.takes) site.block is)

  module _ (change : ChangeExpr) (whole : IsChangeBlock p i block.functions block.locals change site.types site.calls block.after) (proper : IsProperBlock (change_at p g.helpers site change)) where
    alone : IsChangeAlone p i block.functions block.locals change site.types site.calls block.after
    alone = change_alone p i block.functions block.locals change site.types site.calls block.after whole

    uses : (x : Label) → IsAmong x (captured_change change) → named x (change_uses change (drop 1 site.types)) ≡ named x alone.names.kept
    uses x among = (change_typed p i.helpers (length (functions_of p)) alone.typed (all_early p i has.shaped.closed (change_nodes alone.typed) alone.flat) (drop 1 site.types) site.calls block.after alone.takes x among).1

    update_kept : layer site.block ≡ Node-F.Update change → Keeps p site.block (Node-F.Update change) (change_at p g.helpers site change)
    update_kept is =
        keeps.update refl (test_keeps p bound g has block.functions block.locals site change block.after alone uses proper site.block (ap captured_by is))
        (rows_keep p bound g has block.functions block.locals site change block.after alone uses proper site.block (ap captured_by is))

    delete_kept : layer site.block ≡ Node-F.Delete change → Keeps p site.block (Node-F.Delete change) (change_at p g.helpers site change)
    delete_kept is = keeps.delete refl (test_keeps p bound g has block.functions block.locals site change block.after alone uses proper site.block (ap captured_by is))

  -- what is found at such a form is what keeps its meaning
  found_kept : (l : Layer) (made found : Inlined) → Some made ≡ Some found → IsProperBlock found → (IsProperBlock made → Keeps p site.block l made) → Keeps p site.block l found
  found_kept l made found is proper kept = let same : made ≡ found = same_some is in subst (Keeps p site.block l) same (kept (subst IsProperBlock (sym same) proper))

  by_form : (l : Layer) → layer site.block ≡ l → (found : Inlined) → inlined_by p g.helpers site l ≡ Some found → IsProperBlock found → Keeps p site.block l found
  by_form (Node-F.Query keys body) is found at proper = found_kept (Node-F.Query keys body) (query_at p g.helpers site keys body) found at proper (query_kept keys body is)
  by_form (Node-F.Table name) is found at proper = found_kept (Node-F.Table name) (reading_at p g.helpers site name) found at proper (λ proper. reading_kept name is)
  by_form (Node-F.Update change) is found at proper =
      found_kept (Node-F.Update change) (change_at p g.helpers site change) found at proper
      (λ proper. update_kept change (update_block p i block.functions block.typed change is block.fine site.types site.calls block.after block.takes) proper is)
  by_form (Node-F.Delete change) is found at proper =
      found_kept (Node-F.Delete change) (change_at p g.helpers site change) found at proper
      (λ proper. delete_kept change (delete_block p i block.functions block.typed change is block.fine site.types site.calls block.after block.takes) proper is)
  by_form other is found at proper = let wrong : None ≡ Some found = at in absurd cc

pub blocks-kept : BlockLaw
blocks-kept p bound g has site block types found at = by_form p bound g has site block (layer site.block) refl found at (block_proper p g has site block types found at)
