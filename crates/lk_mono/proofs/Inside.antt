-- What a query, an update or a deletion is made of stands inside of it.
use Rattle.std.proofs.Common.{◌≡◌, ◌⊎◌, inl, inr, Bool, true, List, ◌++◌, Some, None, refl, subst}
use Rattle.lk_ast.specs.declared.declaration.TableDecl.{TableDecl}
use Rattle.lk_ast.specs.declared.expression.Case.{Case}
use Rattle.lk_ast.specs.declared.expression.ChangeExpr.{ChangeExpr}
use Rattle.lk_ast.specs.declared.expression.Expr.{Expr}
use Rattle.lk_mono.proofs.Ones.{each_as}
use Rattle.lk_sound.proofs.InsideNodes.{IsInside, inside_nodes, inside_change}
use Rattle.lk_sound.specs.Nodes.{Block, Part, TypedNode, parts_of, nodes_of, each_nodes, case_nodes, change_nodes}
use Rattle.lk_types.proofs.Members.{each_both, each_to_map}
use Rattle.lk_types.specs.Each.{Each}
use Rattle.lk_types.specs.Rows.{EffectSet}
use Rattle.lk_types.specs.declared.ground.Ground.{Ground}
use Rattle.lk_typing.specs.Names.{Named, Entry}
use Rattle.lk_typing.specs.Typing.{HasType, HaveTypes, HaveCases, IsChange, plain, lambda, var, switch, switch_open, for_list, for_table, query, update, delete, none, more, no_cases, case_of, changed}

-- it uses no function, or stands inside
abbrev pub IsWithin : Part → Type 0
IsWithin part = (part.use_of ≡ None) ⊎ (part.inside ≡ true)

abbrev pub HasWithin : Block → Type 0
HasWithin block = Each IsWithin block.parts

-- what the node is made of, if it is a block, stands inside
pub record IsWhole (node : TypedNode) : Type 0 where
  pub within : (block : Block) → node.block ≡ Some block → HasWithin block

within_parts : (nodes : List TypedNode) → Each IsInside nodes → Each IsWithin (parts_of nodes)
within_parts nodes inside = each_to_map IsWithin (λ node. node.part) nodes (each_as IsInside (λ node. IsWithin node.part) nodes (λ node h. inr h) inside)

-- no block
bare : (part : Part) → IsWhole (record { part = part; block = None })
bare part = record { within = λ block is. let no : None ≡ Some block = is in cc }

of_block : (part : Part) (made : Block) → HasWithin made → IsWhole (record { part = part; block = Some made })
of_block part made within = record { within = λ block is. let same : made ≡ block = cc in subst HasWithin same within }

module _ {functions : Named (Entry Ground)} {tables : List TableDecl} where
  mutual
    unfolding nodes_of

    pub whole_nodes : {names : Named Ground} {effects : EffectSet} {e : Expr} {t : Ground} {inside : List Ground} (b : Bool) (d : HasType functions tables names effects e t inside) → Each IsWhole (nodes_of b d)
    whole_nodes b (plain h ts is have by) = (bare _, whole_each b have)
    whole_nodes b (lambda l params own c is named moves body local) = (bare _, whole_nodes b body)
    whole_nodes b (var x d rest a first last is one then) = (bare _, each_both IsWhole (nodes_of b one) (nodes_of b then) (whole_nodes b one) (whole_nodes b then))
    whole_nodes b (switch d cases row tags ts first bodies is one have same made local) = (bare _, each_both IsWhole (nodes_of b one) (case_nodes b have) (whole_nodes b one) (whole_cases b have))
    whole_nodes b (switch_open d cases last rest row tags ts first bodies inside is one have same then made local) =
        (bare _, each_both IsWhole (nodes_of b one) (case_nodes b have ++ nodes_of b then) (whole_nodes b one) (each_both IsWhole (case_nodes b have) (nodes_of b then) (whole_cases b have) (whole_nodes b then)))
    whole_nodes b (for_list x d body a c first inside is one then) = (bare _, each_both IsWhole (nodes_of b one) (nodes_of b then) (whole_nodes b one) (whole_nodes b then))
    whole_nodes b (for_table x rows body a c first inside is one then) = (bare _, each_both IsWhole (nodes_of b one) (nodes_of b then) (whole_nodes b one) (whole_nodes b then))
    whole_nodes b (query keys body a inside is one sorted scans own) = (of_block _ _ (inl refl, within_parts (nodes_of true one) (inside_nodes one)), whole_nodes true one)
    whole_nodes b (update change is changes writes) = (of_block _ _ (within_parts (change_nodes changes) (inside_change changes)), whole_change changes)
    whole_nodes b (delete change is changes writes) = (of_block _ _ (within_parts (change_nodes changes) (inside_change changes)), whole_change changes)

    whole_each : {names : Named Ground} {effects : EffectSet} {es : List Expr} {ts inside : List Ground} (b : Bool) (d : HaveTypes functions tables names effects es ts inside) → Each IsWhole (each_nodes b d)
    whole_each b none = tt
    whole_each b (more inside rest first others) = each_both IsWhole (nodes_of b first) (each_nodes b others) (whole_nodes b first) (whole_each b others)

    whole_cases : {names : Named Ground} {effects : EffectSet} {cases : List Case} {ts : List Ground} {tags : Named Ground} {inside : List Ground} (b : Bool) (d : HaveCases functions tables names effects cases ts tags inside) → Each IsWhole (case_nodes b d)
    whole_cases b no_cases = tt
    whole_cases b (case_of a bound inside rest held body others) = each_both IsWhole (nodes_of b body) (case_nodes b others) (whole_nodes b body) (whole_cases b others)

    whole_change : {names : Named Ground} {change : ChangeExpr} {inside : List Ground} (d : IsChange functions tables names change inside) → Each IsWhole (change_nodes d)
    whole_change (changed row sets ts cond rest has holds values named fields) = each_both IsWhole (nodes_of true holds) (each_nodes true values) (whole_nodes true holds) (whole_each true values)
