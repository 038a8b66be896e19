-- Where all blocks of an expression may stand in a query, what is used in them are no functions that may call themselves.
use Rattle.std.proofs.Common.{◌≡◌, true, false, List, [], ◌∷◌, ◌++◌, Some, refl}
use Rattle.lk_ast.specs.declared.declaration.TableDecl.{TableDecl}
use Rattle.lk_ast.specs.declared.expression.Case.{Case}
use Rattle.lk_ast.specs.declared.expression.ChangeExpr.{ChangeExpr}
use Rattle.lk_ast.specs.declared.expression.Expr.{Expr}
use Rattle.lk_mono.proofs.FlatUses.{UsesLoopless, change_flat_uses, flat_uses}
use Rattle.lk_mono.proofs.Loopless.{IsLoopless}
use Rattle.lk_mono.specs.Shapes.{is_flat_part}
use Rattle.lk_sound.specs.Nodes.{Block, Part, TypedNode, Use, parts_of, case_nodes, change_nodes, each_nodes, nodes_of}
use Rattle.lk_types.proofs.Members.{each_front, each_back, each_both}
use Rattle.lk_types.specs.Each.{Each}
use Rattle.lk_types.specs.Rows.{EffectSet}
use Rattle.lk_types.specs.declared.ground.Ground.{Ground}
use Rattle.lk_typing.specs.Names.{Entry, Named}
use Rattle.lk_typing.specs.Typing.{HasType, HaveTypes, HaveCases, IsChange, plain, lambda, var, switch, switch_open, for_list, for_table, query, update, delete, none, more, no_cases, case_of}

abbrev pub IsFlatPart : Part → Type 0
IsFlatPart part = is_flat_part part ≡ true

-- what holds of each part of a node holds of the node
pub each_of_parts : (P : Part → Type 0) (nodes : List TypedNode) → Each P (parts_of nodes) → Each (λ (node : TypedNode). P node.part) nodes
each_of_parts P [] all = tt
each_of_parts P (node ∷ nodes) all = (all.0, each_of_parts P nodes all.1)

module _ (R : Use → Type 0) where
  abbrev pub UsesSuch : Part → Type 0
  UsesSuch part = (u : Use) → part.use_of ≡ Some u → R u

  pub record IsGoodBlock (block : Block) : Type 0 where
    pub flat : Each IsFlatPart block.parts
    pub such : Each UsesSuch block.parts

  -- the node is no block, or a good one
  abbrev pub HasGoodBlock : TypedNode → Type 0
  HasGoodBlock node = (block : Block) → node.block ≡ Some block → IsGoodBlock block

  -- if it stands inside, what it uses has that, and a type without recursion
  abbrev pub UsesGood : TypedNode → Type 0
  UsesGood node = (u : Use) → node.part.inside ≡ true → node.part.use_of ≡ Some u → IsLoopless u.type × R u

  outside : {P : Type 0} (u : Use) → false ≡ true → P → IsLoopless u.type × R u
  outside u inside is = cc

  of_parts : (nodes : List TypedNode) → Each UsesLoopless nodes → Each UsesSuch (parts_of nodes) → Each UsesGood nodes
  of_parts [] loopless such = tt
  of_parts (node ∷ nodes) loopless such = (λ u inside is. (loopless.0 u is, such.0 u is), of_parts nodes loopless.1 such.1)

  both : (xs ys : List TypedNode) → (Each HasGoodBlock xs → Each UsesGood xs) → (Each HasGoodBlock ys → Each UsesGood ys) → Each HasGoodBlock (xs ++ ys) → Each UsesGood (xs ++ ys)
  both xs ys first second good = each_both UsesGood xs ys (first (each_front HasGoodBlock xs ys good)) (second (each_back HasGoodBlock xs ys good))

  module _ {functions : Named (Entry Ground)} {tables : List TableDecl} where
    in_change : {names : Named Ground} {change : ChangeExpr} {inside : List Ground} (d : IsChange functions tables names change inside) (captured : List Ground)
        → IsGoodBlock (record { parts = parts_of (change_nodes d); captured = captured }) → Each UsesGood (change_nodes d)
    in_change d captured good = of_parts (change_nodes d) (change_flat_uses d (each_of_parts IsFlatPart (change_nodes d) good.flat)) good.such

    mutual
      unfolding nodes_of

      pub block_uses : {names : Named Ground} {effects : EffectSet} {e : Expr} {t : Ground} {inside : List Ground} (d : HasType functions tables names effects e t inside) → Each HasGoodBlock (nodes_of false d) → Each UsesGood (nodes_of false d)
      block_uses (plain h ts is have by) good = (λ u inside uses. outside u inside uses, each_block_uses have good.1)
      block_uses (lambda l params own a is named moves body local) good = (λ u inside uses. outside u inside uses, block_uses body good.1)
      block_uses (var x d rest a first last is one then) good = (λ u inside uses. outside u inside uses, both (nodes_of false one) (nodes_of false then) (block_uses one) (block_uses then) good.1)
      block_uses (switch d cases row tags ts first bodies is one have same made local) good = (λ u inside uses. outside u inside uses, both (nodes_of false one) (case_nodes false have) (block_uses one) (case_block_uses have) good.1)
      block_uses (switch_open d cases last rest row tags ts first bodies inside is one have same then made local) good =
          (λ u inside uses. outside u inside uses, both (nodes_of false one) (case_nodes false have ++ nodes_of false then) (block_uses one) (both (case_nodes false have) (nodes_of false then) (case_block_uses have) (block_uses then)) good.1)
      block_uses (for_list x d body a c first inside is one then) good = (λ u inside uses. outside u inside uses, both (nodes_of false one) (nodes_of false then) (block_uses one) (block_uses then) good.1)
      block_uses (for_table x rows body a c first inside is one then) good = (λ u inside uses. outside u inside uses, both (nodes_of false one) (nodes_of false then) (block_uses one) (block_uses then) good.1)
      block_uses (query keys body a inside is one sorted scans own) good = (
        λ u inside uses. outside u inside uses,
        (let block = good.0 _ refl in of_parts (nodes_of true one) (flat_uses true one refl (each_of_parts IsFlatPart (nodes_of true one) block.flat.1)) block.such.1),
      )
      block_uses (update change is changes writes) good = (λ u inside uses. outside u inside uses, in_change changes _ (good.0 _ refl))
      block_uses (delete change is changes writes) good = (λ u inside uses. outside u inside uses, in_change changes _ (good.0 _ refl))

      each_block_uses : {names : Named Ground} {effects : EffectSet} {es : List Expr} {ts inside : List Ground} (d : HaveTypes functions tables names effects es ts inside) → Each HasGoodBlock (each_nodes false d) → Each UsesGood (each_nodes false d)
      each_block_uses none good = tt
      each_block_uses (more inside rest first others) good = both (nodes_of false first) (each_nodes false others) (block_uses first) (each_block_uses others) good

      case_block_uses : {names : Named Ground} {effects : EffectSet} {cases : List Case} {ts : List Ground} {tags : Named Ground} {inside : List Ground} (d : HaveCases functions tables names effects cases ts tags inside) → Each HasGoodBlock (case_nodes false d) → Each UsesGood (case_nodes false d)
      case_block_uses no_cases good = tt
      case_block_uses (case_of a bound inside rest held body others) good = both (nodes_of false body) (case_nodes false others) (block_uses body) (case_block_uses others) good
