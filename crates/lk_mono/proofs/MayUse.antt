-- What a typed expression uses may be used where it stands.
use Rattle.std.proofs.Common.{◌≡◌, Bool, true, List, Some, subst}
use Rattle.std.proofs.lemmas.Option.{none-some}
use Rattle.lk_ast.specs.declared.declaration.TableDecl.{TableDecl}
use Rattle.lk_ast.specs.declared.expression.Case.{Case}
use Rattle.lk_ast.specs.declared.expression.ChangeExpr.{ChangeExpr}
use Rattle.lk_ast.specs.declared.expression.Expr.{Expr}
use Rattle.lk_sound.specs.Nodes.{TypedNode, Use, case_nodes, change_nodes, each_nodes, nodes_of, used_by}
use Rattle.lk_types.proofs.Members.{each_both}
use Rattle.lk_types.specs.Each.{Each}
use Rattle.lk_types.specs.Rows.{EffectSet}
use Rattle.lk_types.specs.declared.ground.Ground.{Ground}
use Rattle.lk_typing.specs.Heads.{Head}
use Rattle.lk_typing.specs.Names.{Entry, MayBe, Named}
use Rattle.lk_typing.specs.Rules.{Rule}
use Rattle.lk_typing.specs.Rules as rule
use Rattle.lk_typing.specs.Typing.{HasType, HaveTypes, HaveCases, IsChange, plain, lambda, var, switch, switch_open, for_list, for_table, query, update, delete, none, more, no_cases, case_of, changed}

-- one of this name and type is that one
as_used : (functions : Named (Entry Ground)) (u w : Use) → MayBe functions u.name u.type → Some u ≡ Some w → MayBe functions w.name w.type
as_used functions u w may is = let same : u ≡ w = cc in subst (λ (v : Use). MayBe functions v.name v.type) same may

-- what the node uses may be used
abbrev pub MayUse : Named (Entry Ground) → TypedNode → Type 0
MayUse functions node = (u : Use) → node.part.use_of ≡ Some u → MayBe functions u.name u.type

module _ {functions : Named (Entry Ground)} {tables : List TableDecl} where
  by_rule : {names : Named Ground} {effects : EffectSet} {h : Head} {ts : List Ground} {t : Ground} (by : Rule functions tables names effects h ts t) (u : Use)
      → used_by by ≡ Some u → MayBe functions u.name u.type
  by_rule (rule.function {g} may) u is = as_used functions _ u may is
  by_rule (rule.call {g} may) u is = as_used functions _ u may is
  by_rule other u is = absurd (none-some u is)

  mutual
    unfolding nodes_of

    pub may_use : {names : Named Ground} {effects : EffectSet} {e : Expr} {t : Ground} {inside : List Ground} (b : Bool) (d : HasType functions tables names effects e t inside) → Each (MayUse functions) (nodes_of b d)
    may_use b (plain h ts is have by) = (λ u uses. by_rule by u uses, each_may_use b have)
    may_use b (lambda l params own a is named moves body local) = (λ u uses. absurd (none-some u uses), may_use b body)
    may_use b (var x d rest a first last is one then) = (λ u uses. absurd (none-some u uses), each_both (MayUse functions) _ _ (may_use b one) (may_use b then))
    may_use b (switch d cases row tags ts first bodies is one have same made local) = (λ u uses. absurd (none-some u uses), each_both (MayUse functions) _ _ (may_use b one) (cases_may_use b have))
    may_use b (switch_open d cases last rest row tags ts first bodies inside is one have same then made local) = (λ u uses. absurd (none-some u uses), each_both (MayUse functions) _ _ (may_use b one) (each_both (MayUse functions) _ _ (cases_may_use b have) (may_use b then)))
    may_use b (for_list x d body a c first inside is one then) = (λ u uses. absurd (none-some u uses), each_both (MayUse functions) _ _ (may_use b one) (may_use b then))
    may_use b (for_table x rows body a c first inside is one then) = (λ u uses. absurd (none-some u uses), each_both (MayUse functions) _ _ (may_use b one) (may_use b then))
    may_use b (query keys body a inside is one sorted scans own) = (λ u uses. absurd (none-some u uses), may_use true one)
    may_use b (update change is changes writes) = (λ u uses. absurd (none-some u uses), change_may_use changes)
    may_use b (delete change is changes writes) = (λ u uses. absurd (none-some u uses), change_may_use changes)

    pub each_may_use : {names : Named Ground} {effects : EffectSet} {es : List Expr} {ts inside : List Ground} (b : Bool) (d : HaveTypes functions tables names effects es ts inside) → Each (MayUse functions) (each_nodes b d)
    each_may_use b none = tt
    each_may_use b (more inside rest first others) = each_both (MayUse functions) _ _ (may_use b first) (each_may_use b others)

    pub cases_may_use : {names : Named Ground} {effects : EffectSet} {cases : List Case} {ts : List Ground} {tags : Named Ground} {inside : List Ground} (b : Bool) (d : HaveCases functions tables names effects cases ts tags inside) → Each (MayUse functions) (case_nodes b d)
    cases_may_use b no_cases = tt
    cases_may_use b (case_of a bound inside rest held body others) = each_both (MayUse functions) _ _ (may_use b body) (cases_may_use b others)

    pub change_may_use : {names : Named Ground} {change : ChangeExpr} {inside : List Ground} (d : IsChange functions tables names change inside) → Each (MayUse functions) (change_nodes d)
    change_may_use (changed row sets ts cond rest has holds values named fields) = each_both (MayUse functions) _ _ (may_use true holds) (each_may_use true values)
