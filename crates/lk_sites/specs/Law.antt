-- The laws of sites: each is a typed block of an instance of the program, and has its label; and nothing is left out.
use Rattle.std.specs.Prelude.{◌≡◌, true, false, ℕ, List, [], ◌∷◌, drop, map, Some, slice_get, if◌then◌else◌}
use Rattle.std.specs.List.Sorted.{IsStrictlyIncreasing}
use Rattle.lk_ast.specs.Children.{children}
use Rattle.lk_ast.specs.Layers.{Layer, layer}
use Rattle.lk_ast.specs.declared.declaration.Program.{Program}
use Rattle.lk_ast.specs.declared.expression.Case.{Case}
use Rattle.lk_ast.specs.declared.expression.Expr.{Expr}
use Rattle.lk_ast.specs.declared.expression.LambdaExpr.{LambdaExpr}
use Rattle.lk_ast.specs.declared.expression.LastCase.{LastCase}
use Rattle.lk_ast.specs.declared.expression.PartExpr.{PartExpr}
use Rattle.lk_bag.specs.Blocks.{blocks_of}
use Rattle.lk_ground.specs.Language as language
use Rattle.lk_ground.specs.declared.program.GroundFun.{GroundFun}
use Rattle.lk_ground.specs.declared.program.GroundProgram.{GroundProgram}
use Rattle.lk_mono.specs.Instanced.{HasInstances}
use Rattle.lk_sites.specs.Blocks.{IsBlock}
use Rattle.lk_sites.specs.SiteKinds.{is_site}
use Rattle.lk_sites.specs.Sites.{Site, is_closed, sites_of}
use Rattle.lk_sound.specs.Instances.{Instances}
use Rattle.lk_sound.specs.Nodes.{Block, TypedNode, nodes_of}
use Rattle.lk_types.specs.Each.{Each, OneOf}

-- a typed block of an instance, one of the program's text
pub record IsSiteOf (p : Program) (g : GroundProgram) (has : HasInstances p g) (site : Site) : Type 0 where
  pub block : IsBlock p has.shaped.instances site.block site.types site.calls
  pub of_text : OneOf (λ other. other ≡ site.block) (blocks_of p)
  -- what has the label is what begins where the block does, in that instance
  pub labelled : language.labelled g site.label ≡ Some (language.Site site.fun site.block.span.start)
  pub function : GroundFun
  pub there : slice_get g.funs site.fun ≡ Some function
  -- how many nodes and how many uses stand before it there
  pub nodes : ℕ
  pub uses : ℕ
  pub types : site.types ≡ drop nodes function.types
  pub calls : site.calls ≡ drop uses function.calls

-- where the program's instances are a closed set, all sites are so
abbrev pub SitesLaw : Type 0
SitesLaw = (p : Program) → (g : GroundProgram) → (has : HasInstances p g) → Each (IsSiteOf p g has) (sites_of g)

-- the expressions right inside a node that isn't a query, an update or a deletion
abbrev pub outer_parts : Layer → List Expr
outer_parts l = if is_closed l then [] else children (λ (e : Expr). e ∷ []) (λ (case : Case). case.body ∷ []) (λ change. []) (λ (lambda : LambdaExpr). lambda.body ∷ []) (λ (last : LastCase). last.body ∷ []) (λ (part : PartExpr). part.expr ∷ []) l

-- the block stands in the expression, outside of queries, updates and deletions
pub data StandsOutside (block : Expr) : Expr → Type 0 where
  itself : StandsOutside block block
  within : {e d : Expr} → OneOf (λ other. other ≡ d) (outer_parts (layer e)) → StandsOutside block d → StandsOutside block e

-- each query, reading of a table, update and deletion that stands so in an instance is one of the sites
abbrev pub SitesFoundLaw : Type 0
SitesFoundLaw = (g : GroundProgram) (fun : ℕ) (f : GroundFun) → slice_get g.funs fun ≡ Some f → (block : Expr) → StandsOutside block (language.function_of f).body → is_site (layer block) ≡ true
    → OneOf (λ site. (site.fun ≡ fun) × (site.block ≡ block)) (sites_of g)

-- the node is the first of the site's block
pub record IsFirstOf (p : Program) (i : Instances) (node : TypedNode) (site : Site) : Type 0 where
  pub block : IsBlock p i site.block site.types site.calls
  pub others : List TypedNode
  pub first : nodes_of false block.typed ≡ node ∷ others

-- where the program's instances are a closed set, so it is with each query, update and deletion among the nodes of their bodies, if
-- it stands outside of others
abbrev pub NodesFoundLaw : Type 0
NodesFoundLaw = (p : Program) → (g : GroundProgram) → (has : HasInstances p g) → (node : TypedNode) → OneOf (λ other. other ≡ node) has.shaped.instances.nodes → node.part.inside ≡ false
    → (its : Block) → node.block ≡ Some its → OneOf (IsFirstOf p has.shaped.instances node) (sites_of g)

-- their labels rise, in the order in which they are listed, so that none is listed twice
abbrev pub SitesOrderLaw : Type 0
SitesOrderLaw = (g : GroundProgram) → IsStrictlyIncreasing (map (λ (site : Site). site.label) (sites_of g))
