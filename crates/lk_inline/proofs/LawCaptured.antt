-- What a block captures is of the kinds that are told of it, by the form of the expression at the site.
use Rattle.std.proofs.Common.{◌≡◌, refl, sym, ap, ◌∙◌, subst, true, List, [], drop, length, map, Option, None, Some}
use Rattle.lk_ast.specs.Functions.{functions_of}
use Rattle.lk_ast.specs.Layers.{Layer, layer}
use Rattle.lk_ast.specs.declared.declaration.Program.{Program}
use Rattle.lk_ast.specs.declared.expression.ChangeExpr.{ChangeExpr}
use Rattle.lk_ast.specs.declared.expression.Expr.{Expr}
use Rattle.lk_ast.specs.declared.expression.Node.TheOpen.{Node-F}
use Rattle.lk_ast.specs.declared.expression.SortKey.{SortKey}
use Rattle.lk_ast.specs.declared.place.Loc.TheVariants.{Server}
use Rattle.lk_ast.specs.declared.place.Word.{Word}
use Rattle.lk_ast.specs.declared.value.Value.{Value}
use Rattle.lk_bag.specs.Legal.{captured_by, captured_in}
use Rattle.lk_bodies.specs.Captured.{captured_as}
use Rattle.lk_bodies.specs.Uses.{change_uses, query_uses}
use Rattle.lk_evaluation.specs.Evaluation.{Act, Uses}
use Rattle.lk_evaluation.specs.Source.{Point, act, reads, writes}
use Rattle.lk_ground.specs.declared.program.GroundProgram.{GroundProgram}
use Rattle.lk_index.specs.Free.{captured_change, captured_query}
use Rattle.lk_inline.proofs.BlockForms.{IsChangeAlone, IsChangeBlock, IsQueryAlone, change_alone, delete_block, query_alone, query_block, update_block}
use Rattle.lk_inline.proofs.BlockNames.{AreKept, captured_are}
use Rattle.lk_inline.proofs.CapturedValues.{HaveTheirs, HaveValues, values_captured}
use Rattle.lk_inline.proofs.UsesTyped.{change_typed, uses_typed}
use Rattle.lk_inline.specs.Inlined.{change_at, inlined_by, query_at, reading_at}
use Rattle.lk_inline.specs.Law.{CapturedLaw, Captures, captured_of, done_with}
use Rattle.lk_locals.specs.Names.{Names, lookup_all}
use Rattle.lk_mono.specs.Instanced.{HasInstances}
use Rattle.lk_query.specs.Captured.{AreCaptured}
use Rattle.lk_query.specs.declared.query.Inlined.{Inlined}
use Rattle.lk_sites.specs.Blocks.{IsBlock}
use Rattle.lk_sites.specs.Sites.{Site}
use Rattle.lk_sound.proofs.Bags.{all_early}
use Rattle.lk_sound.specs.Instances.{Instances}
use Rattle.lk_sound.specs.Nodes.{change_nodes, nodes_of}
use Rattle.lk_types.proofs.Parts.{same_some}
use Rattle.lk_types.specs.Rows.{Label}
use Rattle.lk_typing.specs.Names.{types_of}

module _ (p : Program) (g : GroundProgram) (has : HasInstances p g) (site : Site) (block : IsBlock p has.shaped.instances site.block site.types site.calls) (names : Names)
    (fit : HaveTheirs p has.shaped.instances block.locals names (captured_in site.block)) where
  abbrev i : Instances
  i = has.shaped.instances

  abbrev Found : Inlined → Type 0
  Found found = Captures p site.block names found

  -- what evaluation does by the form of the node
  abbrev acts : Layer → Act Point
  acts l = act p site.block.span l names []

  -- by the types of the names that it captures, where evaluation does something with their values
  by_types : (found : Inlined) (xs : List Label) (all : AreKept block.locals xs) → captured_of found ≡ map captured_as (types_of all.kept) → captured_by (layer site.block) ≡ xs
      → (does : Option (List Value) → Act Point) → acts (layer site.block) ≡ does (lookup_all names xs) → ((args : List Value) → does (Some args) ≡ Uses Server (done_with found site.block.span.start args)) → Found found
  by_types found xs all kinds_are names_are does act_is done =
      let held : HaveValues p i names all.kept = values_captured p i block.locals names all.kept (subst (HaveTheirs p i block.locals names) (names_are ∙ sym all.names) fit) all.entries all.flat in
      let values : lookup_all names xs ≡ Some held.args = ap (lookup_all names) (sym all.names) ∙ held.found in
      record {
        args = held.args;
        values = ap (lookup_all names) names_are ∙ values;
        are = subst (λ kinds. AreCaptured kinds held.args) (sym kinds_are) held.are;
        does = act_is ∙ ap does values ∙ done held.args;
      }

  query_captures : (keys : List SortKey) (body : Expr) → layer site.block ≡ Node-F.Query keys body → Found (query_at p g.helpers site keys body)
  query_captures keys body is =
      let alone : IsQueryAlone p i block.functions block.locals keys body site.types site.calls block.after =
      query_alone p i block.functions block.locals keys body site.types site.calls block.after (query_block p i block.functions block.typed keys body is block.fine site.types site.calls block.after block.takes) in
      by_types (query_at p g.helpers site keys body) (captured_query body) alone.names
      (captured_are block.locals (query_uses body (drop 1 site.types)) (captured_query body) alone.names
      (λ x among. (uses_typed p i.helpers (length (functions_of p)) true alone.typed refl refl (all_early p i has.shaped.closed (nodes_of true alone.typed) alone.flat) (drop 1 site.types) site.calls block.after alone.takes x among).1))
      (ap captured_by is) (reads site.block.span) (ap acts is) (λ args. refl)

  reading_captures : (name : Word) → layer site.block ≡ Node-F.Table name → Found (reading_at p g.helpers site name)
  reading_captures name is = record { args = []; values = ap (λ l. lookup_all names (captured_by l)) is; are = tt; does = ap acts is }

  -- of an update or a deletion
  change_captures : (change : ChangeExpr) → IsChangeBlock p i block.functions block.locals change site.types site.calls block.after → captured_by (layer site.block) ≡ captured_change change
      → acts (layer site.block) ≡ writes site.block.span (lookup_all names (captured_change change)) → Found (change_at p g.helpers site change)
  change_captures change whole names_are act_is =
      let alone : IsChangeAlone p i block.functions block.locals change site.types site.calls block.after = change_alone p i block.functions block.locals change site.types site.calls block.after whole in
      by_types (change_at p g.helpers site change) (captured_change change) alone.names
      (captured_are block.locals (change_uses change (drop 1 site.types)) (captured_change change) alone.names
      (λ x among. (change_typed p i.helpers (length (functions_of p)) alone.typed (all_early p i has.shaped.closed (change_nodes alone.typed) alone.flat) (drop 1 site.types) site.calls block.after alone.takes x among).1))
      names_are (writes site.block.span) act_is (λ args. refl)

  pub by_form : (l : Layer) → layer site.block ≡ l → (found : Inlined) → inlined_by p g.helpers site l ≡ Some found → Found found
  by_form (Node-F.Query keys body) is found at = subst Found (same_some at) (query_captures keys body is)
  by_form (Node-F.Table name) is found at = subst Found (same_some at) (reading_captures name is)
  by_form (Node-F.Update change) is found at =
      subst Found (same_some at) (change_captures change (update_block p i block.functions block.typed change is block.fine site.types site.calls block.after block.takes) (ap captured_by is) (ap acts is))
  by_form (Node-F.Delete change) is found at =
      subst Found (same_some at) (change_captures change (delete_block p i block.functions block.typed change is block.fine site.types site.calls block.after block.takes) (ap captured_by is) (ap acts is))
  by_form other is found at = let wrong : None ≡ Some found = at in absurd cc

pub blocks-capture : CapturedLaw
blocks-capture p bound g has site block names fit found at = by_form p g has site block names (λ x among. fit x) (layer site.block) refl found at
