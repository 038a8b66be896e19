-- What a block captures has no label twice, where the types of its nodes have their labels in order: each captured name stands in it.
use Rattle.std.proofs.Common.{◌≡◌, refl, sym, ◌∙◌, subst, Bool, true, false, List, [], ◌∷◌, drop, length, map, None, Some, if◌then◌else◌}
use Rattle.lk_ast.specs.Functions.{functions_of}
use Rattle.lk_ast.specs.Layers.{Layer, layer}
use Rattle.lk_ast.specs.declared.declaration.Program.{Program}
use Rattle.lk_ast.specs.declared.expression.ChangeExpr.{ChangeExpr}
use Rattle.lk_ast.specs.declared.expression.Expr.{Expr}
use Rattle.lk_ast.specs.declared.expression.Node.TheOpen.{Node-F}
use Rattle.lk_ast.specs.declared.expression.SortKey.{SortKey}
use Rattle.lk_bodies.specs.Captured.{captured_as}
use Rattle.lk_bodies.specs.Shapes.{columns_of, kind_of, labels}
use Rattle.lk_bodies.specs.Uses.{change_uses, query_uses}
use Rattle.lk_ground.specs.declared.program.GroundProgram.{GroundProgram}
use Rattle.lk_ground_types.specs.Shapes.{is_base}
use Rattle.lk_index.specs.Free.{captured_change, captured_query, free, free_change, in_byte_order}
use Rattle.lk_inline.proofs.BlockForms.{IsChangeAlone, IsChangeBlock, IsQueryAlone, change_alone, delete_block, query_alone, query_block, update_block}
use Rattle.lk_inline.proofs.BlockNames.{AreKept, captured_are, each_entry}
use Rattle.lk_inline.proofs.BlockValues.{IsProper}
use Rattle.lk_inline.proofs.FreeNodes.{AreOfNodes, change_there, each_taken, free_there, of_node}
use Rattle.lk_inline.proofs.LabelOrder.{order_distinct}
use Rattle.lk_sound.proofs.OrderedWords.{ordered_of}
use Rattle.lk_inline.proofs.UsesTyped.{change_typed, uses_typed}
use Rattle.lk_inline.specs.Inlined.{change_at, inlined_at, inlined_by, query_at}
use Rattle.lk_inline.specs.Law.{IsProperType}
use Rattle.lk_mono.specs.Instanced.{HasInstances}
use Rattle.lk_query.specs.declared.query.Captured.TheVariants as captured
use Rattle.lk_query.specs.declared.query.Inlined.{Inlined}
use Rattle.lk_query.specs.declared.query.Inlined.TheVariants as inlined
use Rattle.lk_scope.specs.Names.{no_names}
use Rattle.lk_sites.specs.Blocks.{IsBlock}
use Rattle.lk_sites.specs.Pending.{pending}
use Rattle.lk_sites.specs.Sites.{Site}
use Rattle.lk_sound.proofs.Bags.{all_early}
use Rattle.lk_sound.proofs.Names.{IsAmong}
use Rattle.lk_sound.specs.Instances.{Instances}
use Rattle.lk_sound.specs.Nodes.{TypedNode, change_nodes, nodes_of}
use Rattle.lk_types.proofs.Parts.{same_some}
use Rattle.lk_types.specs.Each.{Each}
use Rattle.lk_types.specs.Rows.{Label}
use Rattle.lk_types.specs.declared.ground.Ground.{Ground}
use Rattle.lk_typing.specs.Names.{Named, named, types_of}

-- bases, and records that have no label twice
abbrev pub IsProperBlock : Inlined → Type 0
IsProperBlock (inlined.Query query) = Each IsProper query.captured
IsProperBlock (inlined.Change change) = Each IsProper change.captured

-- ---- what is captured by its type

one_proper : (t : Ground) → IsProperType t → IsProper (captured_as t)
one_proper t proper = by_base (is_base t)
  where
    by_base : (b : Bool) → IsProper (if b then captured.Base (kind_of t) else captured.Row (columns_of t))
    by_base true = tt
    by_base false = order_distinct (labels (columns_of t)) proper.columns

each_proper : (kept : Named Ground) → Each (λ (e : Label × Ground). IsProperType e.1) kept → Each IsProper (map captured_as (types_of kept))
each_proper [] all = tt
each_proper (e ∷ kept) all = (one_proper e.1 all.0, each_proper kept all.1)

-- names that stand in nodes whose types are proper
names_proper : (locals : Named Ground) (words : List Label) (all : AreKept locals (in_byte_order words)) (nodes : List TypedNode) → AreOfNodes all.kept no_names words nodes → Each (λ (node : TypedNode). IsProperType node.part.type) nodes
    → Each IsProper (map captured_as (types_of all.kept))
names_proper locals words all nodes there proper =
    each_proper all.kept
    (each_entry (λ e. named e.0 locals ≡ Some e.1) (λ e. IsProperType e.1) all.kept
    (λ e among is.
    let here : IsAmong e.0 (in_byte_order words) = subst (IsAmong e.0) all.names among in
    of_node IsProperType nodes (named e.0 all.kept) e.1 (all.same e.0 here ∙ is) (there.of_nodes e.0 (ordered_of words e.0 here)).1 proper) all.entries)

pub behind_first : (P : Ground → Type 0) (types : List Ground) → Each P types → Each P (drop 1 types)
behind_first P [] all = tt
behind_first P (t ∷ types) all = all.1

-- ---- blocks

module _ (p : Program) (g : GroundProgram) (has : HasInstances p g) (site : Site) (block : IsBlock p has.shaped.instances site.block site.types site.calls) (proper : Each IsProperType site.types) where
  abbrev i : Instances
  i = has.shaped.instances

  query_proper : (keys : List SortKey) (body : Expr) → layer site.block ≡ Node-F.Query keys body → IsProperBlock (query_at p g.helpers site keys body)
  query_proper keys body is =
      let alone : IsQueryAlone p i block.functions block.locals keys body site.types site.calls block.after =
      query_alone p i block.functions block.locals keys body site.types site.calls block.after (query_block p i block.functions block.typed keys body is block.fine site.types site.calls block.after block.takes) in
      let all : AreKept block.locals (captured_query body) = alone.names in
      subst (Each IsProper)
      (sym (captured_are block.locals (query_uses body (drop 1 site.types)) (captured_query body) all
      (λ x among. (uses_typed p i.helpers (length (functions_of p)) true alone.typed refl refl (all_early p i has.shaped.closed (nodes_of true alone.typed) alone.flat) (drop 1 site.types) site.calls block.after alone.takes x among).1)))
      (names_proper block.locals (free body no_names) all (nodes_of true alone.typed) (free_there true alone.typed no_names)
      (each_taken IsProperType i.helpers (nodes_of true alone.typed) (pending (drop 1 site.types) site.calls) block.after alone.takes (behind_first IsProperType site.types proper)))

  change_proper : (change : ChangeExpr) → IsChangeBlock p i block.functions block.locals change site.types site.calls block.after → IsProperBlock (change_at p g.helpers site change)
  change_proper change whole =
      let alone : IsChangeAlone p i block.functions block.locals change site.types site.calls block.after = change_alone p i block.functions block.locals change site.types site.calls block.after whole in
      let all : AreKept block.locals (captured_change change) = alone.names in
      subst (Each IsProper)
      (sym (captured_are block.locals (change_uses change (drop 1 site.types)) (captured_change change) all
      (λ x among. (change_typed p i.helpers (length (functions_of p)) alone.typed (all_early p i has.shaped.closed (change_nodes alone.typed) alone.flat) (drop 1 site.types) site.calls block.after alone.takes x among).1)))
      (names_proper block.locals (free_change change no_names) all (change_nodes alone.typed) (change_there alone.typed no_names)
      (each_taken IsProperType i.helpers (change_nodes alone.typed) (pending (drop 1 site.types) site.calls) block.after alone.takes (behind_first IsProperType site.types proper)))

  proper_form : (l : Layer) → layer site.block ≡ l → (found : Inlined) → inlined_by p g.helpers site l ≡ Some found → IsProperBlock found
  proper_form (Node-F.Query keys body) is found at = subst IsProperBlock (same_some at) (query_proper keys body is)
  proper_form (Node-F.Table name) is found at = subst IsProperBlock (same_some at) tt
  proper_form (Node-F.Update change) is found at = subst IsProperBlock (same_some at) (change_proper change (update_block p i block.functions block.typed change is block.fine site.types site.calls block.after block.takes))
  proper_form (Node-F.Delete change) is found at = subst IsProperBlock (same_some at) (change_proper change (delete_block p i block.functions block.typed change is block.fine site.types site.calls block.after block.takes))
  proper_form other is found at = let wrong : None ≡ Some found = at in absurd cc

  pub block_proper : (found : Inlined) → inlined_at p g.helpers site ≡ Some found → IsProperBlock found
  block_proper found at = proper_form (layer site.block) refl found at
