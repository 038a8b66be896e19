-- The types of the nodes of a typed expression are those that its derivation says.
use Rattle.std.proofs.Common.{◌≡◌, Bool, true, List, ◌∷◌, ◌++◌, refl, ap, ap₂, ◌∙◌}
use Rattle.lk_ast.specs.declared.declaration.TableDecl.{TableDecl}
use Rattle.lk_ast.specs.declared.expression.Case.{Case}
use Rattle.lk_ast.specs.declared.expression.ChangeExpr.{ChangeExpr}
use Rattle.lk_ast.specs.declared.expression.Expr.{Expr}
use Rattle.lk_mono.specs.Held.{types_in}
use Rattle.lk_sound.specs.Nodes.{TypedNode, case_nodes, change_nodes, each_nodes, nodes_of}
use Rattle.lk_types.specs.Rows.{EffectSet}
use Rattle.lk_types.specs.declared.ground.Ground.{Ground}
use Rattle.lk_typing.proofs.Levels.{map_joined}
use Rattle.lk_typing.specs.Names.{Entry, Named}
use Rattle.lk_typing.specs.Typing.{HasType, HaveTypes, HaveCases, IsChange, plain, lambda, var, switch, switch_open, for_list, for_table, query, update, delete, none, more, no_cases, case_of, changed}

types_joined : (ns ms : List TypedNode) (ts us : List Ground) → types_in ns ≡ ts → types_in ms ≡ us → types_in (ns ++ ms) ≡ ts ++ us
types_joined ns ms ts us first rest = map_joined (λ (node : TypedNode). node.part.type) ns ms ∙ ap₂ (λ xs ys. xs ++ ys) first rest

module _ {functions : Named (Entry Ground)} {tables : List TableDecl} where
  mutual
    unfolding nodes_of

    pub types_of : {names : Named Ground} {effects : EffectSet} {e : Expr} {t : Ground} {inside : List Ground} (b : Bool) (d : HasType functions tables names effects e t inside) → types_in (nodes_of b d) ≡ t ∷ inside
    types_of {t = t} b (plain h ts is have by) = ap (λ us. t ∷ us) (types_of_each b have)
    types_of {t = t} b (lambda l params own u is named moves body local) = ap (λ us. t ∷ us) (types_of b body)
    types_of {t = t} b (var x d rest a first last is one then) = ap (λ us. t ∷ us) (types_joined _ _ _ _ (types_of b one) (types_of b then))
    types_of {t = t} b (switch d cases row tags ts first bodies is one have same made local) = ap (λ us. t ∷ us) (types_joined _ _ _ _ (types_of b one) (types_of_cases b have))
    types_of {t = t} b (switch_open d cases last rest row tags ts first bodies inside is one have same then made local) = ap (λ us. t ∷ us) (types_joined _ _ _ _ (types_of b one) (types_joined _ _ _ _ (types_of_cases b have) (types_of b then)))
    types_of {t = t} b (for_list x d body a u first inside is one then) = ap (λ us. t ∷ us) (types_joined _ _ _ _ (types_of b one) (types_of b then))
    types_of {t = t} b (for_table x rows body a u first inside is one then) = ap (λ us. t ∷ us) (types_joined _ _ _ _ (types_of b one) (types_of b then))
    types_of {t = t} b (query keys body a inside is one sorted scans own) = ap (λ us. t ∷ us) (types_of true one)
    types_of {t = t} b (update change is changes writes) = ap (λ us. t ∷ us) (types_of_change changes)
    types_of {t = t} b (delete change is changes writes) = ap (λ us. t ∷ us) (types_of_change changes)

    pub types_of_each : {names : Named Ground} {effects : EffectSet} {es : List Expr} {ts inside : List Ground} (b : Bool) (d : HaveTypes functions tables names effects es ts inside) → types_in (each_nodes b d) ≡ inside
    types_of_each b none = refl
    types_of_each b (more inside rest first others) = types_joined _ _ _ _ (types_of b first) (types_of_each b others)

    pub types_of_cases : {names : Named Ground} {effects : EffectSet} {cases : List Case} {ts : List Ground} {tags : Named Ground} {inside : List Ground} (b : Bool) (d : HaveCases functions tables names effects cases ts tags inside) → types_in (case_nodes b d) ≡ inside
    types_of_cases b no_cases = refl
    types_of_cases b (case_of a bound inside rest held body others) = types_joined _ _ _ _ (types_of b body) (types_of_cases b others)

    pub types_of_change : {names : Named Ground} {change : ChangeExpr} {inside : List Ground} (d : IsChange functions tables names change inside) → types_in (change_nodes d) ≡ inside
    types_of_change (changed row sets ts cond rest has holds values named fields) = types_joined _ _ _ _ (types_of true holds) (types_of_each true values)
