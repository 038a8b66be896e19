-- What queries, updates and deletions of an expression use is what stands inside of them.
use Rattle.std.proofs.Common.{◌≡◌, Bool, true, List, [], ◌∷◌, ◌++◌, Some, None, subst}
use Rattle.std.proofs.lemmas.Option.{none-some}
use Rattle.lk_ast.specs.declared.declaration.TableDecl.{TableDecl}
use Rattle.lk_ast.specs.declared.expression.Case.{Case}
use Rattle.lk_ast.specs.declared.expression.ChangeExpr.{ChangeExpr}
use Rattle.lk_ast.specs.declared.expression.Expr.{Expr}
use Rattle.lk_sound.proofs.InsideNodes.{inside_nodes, inside_change, IsInside}
use Rattle.lk_sound.specs.Nodes.{Block, Part, TypedNode, Use, parts_of, case_nodes, change_nodes, each_nodes, nodes_of}
use Rattle.lk_types.proofs.Members.{each_front, each_back, each_both}
use Rattle.lk_types.specs.Each.{Each}
use Rattle.lk_types.specs.Rows.{EffectSet}
use Rattle.lk_types.specs.declared.ground.Ground.{Ground}
use Rattle.lk_typing.specs.Names.{Entry, Named}
use Rattle.lk_typing.specs.Typing.{HasType, HaveTypes, HaveCases, IsChange, plain, lambda, var, switch, switch_open, for_list, for_table, query, update, delete, none, more, no_cases, case_of, changed}

module _ (R : Use → Type 0) where
  -- what is used inside has that
  abbrev pub UsesInside : TypedNode → Type 0
  UsesInside node = (u : Use) → node.part.inside ≡ true → node.part.use_of ≡ Some u → R u

  abbrev pub PartUses : Part → Type 0
  PartUses part = (u : Use) → part.use_of ≡ Some u → R u

  -- what the node's block uses has it
  abbrev pub BlockUses : TypedNode → Type 0
  BlockUses node = (block : Block) → node.block ≡ Some block → Each PartUses block.parts

  no_block : (block : Block) → None ≡ Some block → Each PartUses block.parts
  no_block block is = absurd (none-some block is)

  of_parts : (nodes : List TypedNode) → Each IsInside nodes → Each UsesInside nodes → Each PartUses (parts_of nodes)
  of_parts [] inside uses = tt
  of_parts (node ∷ nodes) inside uses = (λ u is. uses.0 u inside.0 is, of_parts nodes inside.1 uses.1)

  its_block : (all one : Block) → Some all ≡ Some one → Each PartUses all.parts → Each PartUses one.parts
  its_block all one is uses = let same : all ≡ one = cc in subst (λ (block : Block). Each PartUses block.parts) same uses

  nothing_used : (u : Use) → None ≡ Some u → R u
  nothing_used u is = absurd (none-some u is)

  both : (xs ys : List TypedNode) → (Each UsesInside xs → Each BlockUses xs) → (Each UsesInside ys → Each BlockUses ys) → Each UsesInside (xs ++ ys) → Each BlockUses (xs ++ ys)
  both xs ys first second uses = each_both BlockUses xs ys (first (each_front UsesInside xs ys uses)) (second (each_back UsesInside xs ys uses))

  module _ {functions : Named (Entry Ground)} {tables : List TableDecl} where
    mutual
      unfolding nodes_of

      pub part_uses : {names : Named Ground} {effects : EffectSet} {e : Expr} {t : Ground} {inside : List Ground} (b : Bool) (d : HasType functions tables names effects e t inside) → Each UsesInside (nodes_of b d) → Each BlockUses (nodes_of b d)
      part_uses b (plain h ts is have by) uses = (no_block, each_part_uses b have uses.1)
      part_uses b (lambda l params own a is named moves body local) uses = (no_block, part_uses b body uses.1)
      part_uses b (var x d rest a first last is one then) uses = (no_block, both (nodes_of b one) (nodes_of b then) (part_uses b one) (part_uses b then) uses.1)
      part_uses b (switch d cases row tags ts first bodies is one have same made local) uses = (no_block, both (nodes_of b one) (case_nodes b have) (part_uses b one) (case_part_uses b have) uses.1)
      part_uses b (switch_open d cases last rest row tags ts first bodies inside is one have same then made local) uses =
          (no_block, both (nodes_of b one) (case_nodes b have ++ nodes_of b then) (part_uses b one) (both (case_nodes b have) (nodes_of b then) (case_part_uses b have) (part_uses b then)) uses.1)
      part_uses b (for_list x d body a c first inside is one then) uses = (no_block, both (nodes_of b one) (nodes_of b then) (part_uses b one) (part_uses b then) uses.1)
      part_uses b (for_table x rows body a c first inside is one then) uses = (no_block, both (nodes_of b one) (nodes_of b then) (part_uses b one) (part_uses b then) uses.1)
      part_uses b (query keys body a inside is one sorted scans own) uses = (λ block same. its_block _ block same (nothing_used, of_parts (nodes_of true one) (inside_nodes one) uses.1), part_uses true one uses.1)
      part_uses b (update change is changes writes) uses = (λ block same. its_block _ block same (of_parts (change_nodes changes) (inside_change changes) uses.1), change_part_uses changes uses.1)
      part_uses b (delete change is changes writes) uses = (λ block same. its_block _ block same (of_parts (change_nodes changes) (inside_change changes) uses.1), change_part_uses changes uses.1)

      each_part_uses : {names : Named Ground} {effects : EffectSet} {es : List Expr} {ts inside : List Ground} (b : Bool) (d : HaveTypes functions tables names effects es ts inside) → Each UsesInside (each_nodes b d) → Each BlockUses (each_nodes b d)
      each_part_uses b none uses = tt
      each_part_uses b (more inside rest first others) uses = both (nodes_of b first) (each_nodes b others) (part_uses b first) (each_part_uses b others) uses

      case_part_uses : {names : Named Ground} {effects : EffectSet} {cases : List Case} {ts : List Ground} {tags : Named Ground} {inside : List Ground} (b : Bool) (d : HaveCases functions tables names effects cases ts tags inside) → Each UsesInside (case_nodes b d) → Each BlockUses (case_nodes b d)
      case_part_uses b no_cases uses = tt
      case_part_uses b (case_of a bound inside rest held body others) uses = both (nodes_of b body) (case_nodes b others) (part_uses b body) (case_part_uses b others) uses

      change_part_uses : {names : Named Ground} {change : ChangeExpr} {inside : List Ground} (d : IsChange functions tables names change inside) → Each UsesInside (change_nodes d) → Each BlockUses (change_nodes d)
      change_part_uses (changed row sets ts cond rest has holds values named fields) uses = both (nodes_of true holds) (each_nodes true values) (part_uses true holds) (each_part_uses true values) uses
