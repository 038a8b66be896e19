-- What may stand in a query, with no recursion among the effects around it, uses no functions that may call themselves.
use Rattle.std.proofs.Common.{◌≡◌, Bool, true, false, List, ◌++◌, Some, None, refl, subst, ◌∙◌}
use Rattle.std.proofs.lemmas.Option.{none-some}
use Rattle.lk_ast.specs.declared.declaration.TableDecl.{TableDecl}
use Rattle.lk_ast.specs.declared.expression.Case.{Case}
use Rattle.lk_ast.specs.declared.expression.ChangeExpr.{ChangeExpr}
use Rattle.lk_ast.specs.declared.expression.Expr.{Expr}
use Rattle.lk_ground_types.specs.Shapes.{is_query_type}
use Rattle.lk_mono.proofs.Loopless.{IsLoopless, flat_type, function_recurs, query_loopless}
use Rattle.lk_mono.specs.Shapes.{is_flat_part}
use Rattle.lk_sound.proofs.FlatTypes.{function_not_flat}
use Rattle.lk_sound.specs.Nodes.{TypedNode, Use, case_nodes, change_nodes, each_nodes, nodes_of, used_by}
use Rattle.lk_types.proofs.Members.{each_front, each_back, each_both}
use Rattle.lk_types.specs.Each.{Each}
use Rattle.lk_types.specs.Rows.{EffectSet}
use Rattle.lk_types.specs.declared.ground.Ground.{Ground}
use Rattle.lk_types.specs.declared.ty.Effect.TheVariants as effect
use Rattle.lk_typing.specs.Heads.{Head}
use Rattle.lk_typing.specs.Names.{Entry, Named, types_of}
use Rattle.lk_typing.specs.Rules.{Rule}
use Rattle.lk_typing.specs.Rules as rule
use Rattle.lk_typing.specs.Types.{function_of}
use Rattle.lk_typing.specs.Typing.{HasType, HaveTypes, HaveCases, IsChange, plain, lambda, var, switch, switch_open, for_list, for_table, query, update, delete, none, more, no_cases, case_of, changed}

-- it may stand in a query, an update or a deletion
abbrev pub IsFlat : TypedNode → Type 0
IsFlat node = is_flat_part node.part ≡ true

-- what it uses isn't of the type of a function that may call itself
abbrev pub UsesLoopless : TypedNode → Type 0
UsesLoopless node = (u : Use) → node.part.use_of ≡ Some u → IsLoopless u.type

as_used : (u w : Use) → IsLoopless u.type → Some u ≡ Some w → IsLoopless w.type
as_used u w loopless is = let same : u ≡ w = cc in subst (λ (v : Use). IsLoopless v.type) same loopless

no_use : (u : Use) → None ≡ Some u → IsLoopless u.type
no_use u is = absurd (none-some u is)

both : (xs ys : List TypedNode) → (Each IsFlat xs → Each UsesLoopless xs) → (Each IsFlat ys → Each UsesLoopless ys) → Each IsFlat (xs ++ ys) → Each UsesLoopless (xs ++ ys)
both xs ys first second flat = each_both UsesLoopless xs ys (first (each_front IsFlat xs ys flat)) (second (each_back IsFlat xs ys flat))

module _ {functions : Named (Entry Ground)} {tables : List TableDecl} where
  by_rule : {names : Named Ground} {effects : EffectSet} {h : Head} {ts : List Ground} {t : Ground} (by : Rule functions tables names effects h ts t) → effects effect.Rec ≡ false → is_query_type t ≡ true
      → (u : Use) → used_by by ≡ Some u → IsLoopless u.type
  by_rule {t = t} (rule.function {g} may) free flat u is = as_used _ u (query_loopless t flat) is
  by_rule {effects = effects} {ts = ts} {t = t} (rule.call {g} may) free flat u is = as_used _ u (function_recurs ts effects t ∙ free) is
  by_rule other free flat u is = absurd (none-some u is)

  mutual
    unfolding nodes_of

    pub flat_uses : {names : Named Ground} {effects : EffectSet} {e : Expr} {t : Ground} {inside : List Ground} (b : Bool) (d : HasType functions tables names effects e t inside) → effects effect.Rec ≡ false → Each IsFlat (nodes_of b d) → Each UsesLoopless (nodes_of b d)
    flat_uses {t = t} b (plain h ts is have by) free flat = (by_rule by free (flat_type t _ flat.0), each_flat_uses b have free flat.1)
    flat_uses b (lambda l params own a is named moves body local) free flat =
        absurd (function_not_flat (types_of params) own a (flat_type (function_of (types_of params) own a) _ flat.0))
    flat_uses b (var x d rest a first last is one then) free flat = (no_use, both (nodes_of b one) (nodes_of b then) (flat_uses b one free) (flat_uses b then free) flat.1)
    flat_uses b (switch d cases row tags ts first bodies is one have same made local) free flat = (no_use, both (nodes_of b one) (case_nodes b have) (flat_uses b one free) (case_flat_uses b have free) flat.1)
    flat_uses b (switch_open d cases last rest row tags ts first bodies inside is one have same then made local) free flat =
        (no_use, both (nodes_of b one) (case_nodes b have ++ nodes_of b then) (flat_uses b one free) (both (case_nodes b have) (nodes_of b then) (case_flat_uses b have free) (flat_uses b then free)) flat.1)
    flat_uses b (for_list x d body a c first inside is one then) free flat = (no_use, both (nodes_of b one) (nodes_of b then) (flat_uses b one free) (flat_uses b then free) flat.1)
    flat_uses b (for_table x rows body a c first inside is one then) free flat = (no_use, both (nodes_of b one) (nodes_of b then) (flat_uses b one free) (flat_uses b then free) flat.1)
    flat_uses b (query keys body a inside is one sorted scans own) free flat = (no_use, flat_uses true one refl flat.1)
    flat_uses b (update change is changes writes) free flat = (no_use, change_flat_uses changes flat.1)
    flat_uses b (delete change is changes writes) free flat = (no_use, change_flat_uses changes flat.1)

    each_flat_uses : {names : Named Ground} {effects : EffectSet} {es : List Expr} {ts inside : List Ground} (b : Bool) (d : HaveTypes functions tables names effects es ts inside) → effects effect.Rec ≡ false → Each IsFlat (each_nodes b d) → Each UsesLoopless (each_nodes b d)
    each_flat_uses b none free flat = tt
    each_flat_uses b (more inside rest first others) free flat = both (nodes_of b first) (each_nodes b others) (flat_uses b first free) (each_flat_uses b others free) flat

    case_flat_uses : {names : Named Ground} {effects : EffectSet} {cases : List Case} {ts : List Ground} {tags : Named Ground} {inside : List Ground} (b : Bool) (d : HaveCases functions tables names effects cases ts tags inside) → effects effect.Rec ≡ false → Each IsFlat (case_nodes b d) → Each UsesLoopless (case_nodes b d)
    case_flat_uses b no_cases free flat = tt
    case_flat_uses b (case_of a bound inside rest held body others) free flat = both (nodes_of b body) (case_nodes b others) (flat_uses b body free) (case_flat_uses b others free) flat

    pub change_flat_uses : {names : Named Ground} {change : ChangeExpr} {inside : List Ground} (d : IsChange functions tables names change inside) → Each IsFlat (change_nodes d) → Each UsesLoopless (change_nodes d)
    change_flat_uses (changed row sets ts cond rest has holds values named fields) flat = both (nodes_of true holds) (each_nodes true values) (flat_uses true holds refl) (each_flat_uses true values refl) flat
