-- No node of a typed expression both compares and is a query, an update or a deletion.
use Rattle.std.proofs.Common.{◌≡◌, Bool, true, List, ◌++◌, Some}
use Rattle.std.proofs.lemmas.Option.{none-some}
use Rattle.lk_ast.specs.declared.declaration.TableDecl.{TableDecl}
use Rattle.lk_ast.specs.declared.expression.Case.{Case}
use Rattle.lk_ast.specs.declared.expression.ChangeExpr.{ChangeExpr}
use Rattle.lk_ast.specs.declared.expression.Expr.{Expr}
use Rattle.lk_sound.specs.Nodes.{Block, Comparison, TypedNode, case_nodes, change_nodes, each_nodes, nodes_of}
use Rattle.lk_types.proofs.Members.{each_both}
use Rattle.lk_types.specs.Each.{Each}
use Rattle.lk_types.specs.Rows.{EffectSet}
use Rattle.lk_types.specs.declared.ground.Ground.{Ground}
use Rattle.lk_typing.specs.Names.{Entry, Named}
use Rattle.lk_typing.specs.Typing.{HasType, HaveTypes, HaveCases, IsChange, plain, lambda, var, switch, switch_open, for_list, for_table, query, update, delete, none, more, no_cases, case_of, changed}

abbrev pub IsAlone : TypedNode → Type 0
IsAlone node = (c : Comparison) (block : Block) → node.part.compares ≡ Some c → node.block ≡ Some block → ⊥

both : (ns ms : List TypedNode) → Each IsAlone ns → Each IsAlone ms → Each IsAlone (ns ++ ms)
both ns ms one next = each_both IsAlone ns ms one next

module _ {functions : Named (Entry Ground)} {tables : List TableDecl} where
  mutual
    unfolding nodes_of

    pub all_alone : {names : Named Ground} {effects : EffectSet} {e : Expr} {t : Ground} {inside : List Ground} (flag : Bool) (d : HasType functions tables names effects e t inside) → Each IsAlone (nodes_of flag d)
    all_alone flag (plain h ts is have by) = ((λ c block compares is. none-some block is), each_alone flag have)
    all_alone flag (lambda l params own a is named moves body local) = ((λ c block compares is. none-some c compares), all_alone flag body)
    all_alone flag (var x d rest a first last is one next) = ((λ c block compares is. none-some c compares), both (nodes_of flag one) (nodes_of flag next) (all_alone flag one) (all_alone flag next))
    all_alone flag (switch d cases row tags ts first bodies is one have same made local) = ((λ c block compares is. none-some c compares), both (nodes_of flag one) (case_nodes flag have) (all_alone flag one) (cases_alone flag have))
    all_alone flag (switch_open d cases last rest row tags ts first bodies inside is one have same next made local) =
        ((λ c block compares is. none-some c compares), both (nodes_of flag one) (case_nodes flag have ++ nodes_of flag next) (all_alone flag one) (both (case_nodes flag have) (nodes_of flag next) (cases_alone flag have) (all_alone flag next)))
    all_alone flag (for_list x d body a c first inside is one next) = ((λ c block compares is. none-some c compares), both (nodes_of flag one) (nodes_of flag next) (all_alone flag one) (all_alone flag next))
    all_alone flag (for_table x rows body a c first inside is one next) = ((λ c block compares is. none-some c compares), both (nodes_of flag one) (nodes_of flag next) (all_alone flag one) (all_alone flag next))
    all_alone flag (query keys body a inside is one sorted scans own) = ((λ c block compares is. none-some c compares), all_alone true one)
    all_alone flag (update change is changes writes) = ((λ c block compares is. none-some c compares), change_alone changes)
    all_alone flag (delete change is changes writes) = ((λ c block compares is. none-some c compares), change_alone changes)

    each_alone : {names : Named Ground} {effects : EffectSet} {es : List Expr} {ts inside : List Ground} (flag : Bool) (d : HaveTypes functions tables names effects es ts inside) → Each IsAlone (each_nodes flag d)
    each_alone flag none = tt
    each_alone flag (more inside rest first others) = both (nodes_of flag first) (each_nodes flag others) (all_alone flag first) (each_alone flag others)

    cases_alone : {names : Named Ground} {effects : EffectSet} {cases : List Case} {ts : List Ground} {tags : Named Ground} {inside : List Ground} (flag : Bool) (d : HaveCases functions tables names effects cases ts tags inside) → Each IsAlone (case_nodes flag d)
    cases_alone flag no_cases = tt
    cases_alone flag (case_of a held inside rest is_held body others) = both (nodes_of flag body) (case_nodes flag others) (all_alone flag body) (cases_alone flag others)

    change_alone : {names : Named Ground} {change : ChangeExpr} {inside : List Ground} (d : IsChange functions tables names change inside) → Each IsAlone (change_nodes d)
    change_alone (changed row sets ts cond rest has holds values named fields) = both (nodes_of true holds) (each_nodes true values) (all_alone true holds) (each_alone true values)
