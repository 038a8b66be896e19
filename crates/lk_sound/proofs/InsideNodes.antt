-- The nodes of what stands in a query, an update or a deletion stand inside one.
use Rattle.std.proofs.Common.{◌≡◌, true, List, ◌++◌, refl}
use Rattle.lk_ast.specs.declared.declaration.TableDecl.{TableDecl}
use Rattle.lk_ast.specs.declared.expression.Case.{Case}
use Rattle.lk_ast.specs.declared.expression.ChangeExpr.{ChangeExpr}
use Rattle.lk_ast.specs.declared.expression.Expr.{Expr}
use Rattle.lk_sound.specs.Nodes.{TypedNode, nodes_of, each_nodes, case_nodes, change_nodes}
use Rattle.lk_types.proofs.Members.{each_both}
use Rattle.lk_types.specs.Each.{Each}
use Rattle.lk_types.specs.Rows.{EffectSet}
use Rattle.lk_types.specs.declared.ground.Ground.{Ground}
use Rattle.lk_typing.specs.Names.{Named, Entry}
use Rattle.lk_typing.specs.Typing.{HasType, HaveTypes, HaveCases, IsChange, plain, lambda, var, switch, switch_open, for_list, for_table, query, update, delete, none, more, no_cases, case_of, changed}

-- the node stands inside such a block
abbrev pub IsInside : TypedNode → Type 0
IsInside node = node.part.inside ≡ true

module _ {functions : Named (Entry Ground)} {tables : List TableDecl} where
  mutual
    unfolding nodes_of

    pub inside_nodes : {names : Named Ground} {effects : EffectSet} {e : Expr} {t : Ground} {inside : List Ground} (d : HasType functions tables names effects e t inside) → Each IsInside (nodes_of true d)
    inside_nodes (plain h ts is have by) = (refl, inside_each have)
    inside_nodes (lambda l params own b is named moves body local) = (refl, inside_nodes body)
    inside_nodes (var x d rest a first last is one then) = (refl, each_both IsInside (nodes_of true one) (nodes_of true then) (inside_nodes one) (inside_nodes then))
    inside_nodes (switch d cases row tags ts first bodies is one have same made local) = (refl, each_both IsInside (nodes_of true one) (case_nodes true have) (inside_nodes one) (inside_cases have))
    inside_nodes (switch_open d cases last rest row tags ts first bodies inside is one have same then made local) =
        (refl, each_both IsInside (nodes_of true one) (case_nodes true have ++ nodes_of true then) (inside_nodes one) (each_both IsInside (case_nodes true have) (nodes_of true then) (inside_cases have) (inside_nodes then)))
    inside_nodes (for_list x d body a b first inside is one then) = (refl, each_both IsInside (nodes_of true one) (nodes_of true then) (inside_nodes one) (inside_nodes then))
    inside_nodes (for_table x rows body a b first inside is one then) = (refl, each_both IsInside (nodes_of true one) (nodes_of true then) (inside_nodes one) (inside_nodes then))
    inside_nodes (query keys body a inside is one sorted scans own) = (refl, inside_nodes one)
    inside_nodes (update change is changes writes) = (refl, inside_change changes)
    inside_nodes (delete change is changes writes) = (refl, inside_change changes)

    pub inside_each : {names : Named Ground} {effects : EffectSet} {es : List Expr} {ts inside : List Ground} (d : HaveTypes functions tables names effects es ts inside) → Each IsInside (each_nodes true d)
    inside_each none = tt
    inside_each (more inside rest first others) = each_both IsInside (nodes_of true first) (each_nodes true others) (inside_nodes first) (inside_each others)

    pub inside_cases : {names : Named Ground} {effects : EffectSet} {cases : List Case} {ts : List Ground} {tags : Named Ground} {inside : List Ground} (d : HaveCases functions tables names effects cases ts tags inside) → Each IsInside (case_nodes true d)
    inside_cases no_cases = tt
    inside_cases (case_of a bound inside rest held body others) = each_both IsInside (nodes_of true body) (case_nodes true others) (inside_nodes body) (inside_cases others)

    pub inside_change : {names : Named Ground} {change : ChangeExpr} {inside : List Ground} (d : IsChange functions tables names change inside) → Each IsInside (change_nodes d)
    inside_change (changed row sets ts cond rest has holds values named fields) = each_both IsInside (nodes_of true holds) (each_nodes true values) (inside_nodes holds) (inside_each values)
