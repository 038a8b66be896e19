-- What the nodes of a typed expression use are functions that the expression names.
use Rattle.std.proofs.Common.{◌≡◌, ◌⊎◌, inl, inr, Bool, true, List, [], ◌∷◌, ◌++◌, map, Some, None, sym, ap, subst}
use Rattle.std.proofs.lemmas.Option.{none-some}
use Rattle.lk_ast.specs.Children.{exprs_of}
use Rattle.lk_ast.specs.declared.declaration.TableDecl.{TableDecl}
use Rattle.lk_ast.specs.declared.expression.Case.{Case}
use Rattle.lk_ast.specs.declared.expression.ChangeExpr.{ChangeExpr, out-ChangeExpr}
use Rattle.lk_ast.specs.declared.expression.Expr.{Expr}
use Rattle.lk_ast.specs.declared.expression.Node.TheOpen.{Node-F}
use Rattle.lk_mono.proofs.UsedLevels.{binder_level, case_level, change_level, lambda_level, last_level, of_case, of_change, of_lambda, of_last, plain_level}
use Rattle.lk_sound.specs.Nodes.{TypedNode, Use, case_nodes, change_nodes, each_nodes, nodes_of, used_by}
use Rattle.lk_types.proofs.Members.{each_both}
use Rattle.lk_types.specs.Each.{Each, OneOf}
use Rattle.lk_types.specs.Rows.{EffectSet, Label}
use Rattle.lk_types.specs.declared.ground.Ground.{Ground}
use Rattle.lk_typing.specs.Heads.{Head}
use Rattle.lk_typing.specs.Names.{Entry, Named}
use Rattle.lk_typing.specs.Rules.{Rule}
use Rattle.lk_typing.specs.Rules as rule
use Rattle.lk_typing.specs.Typing.{HasType, HaveTypes, HaveCases, IsChange, plain, lambda, var, switch, switch_open, for_list, for_table, query, update, delete, none, more, no_cases, case_of, changed}
use Rattle.lk_typing.specs.Uses.{Uses, all, functions_used, own_use}

abbrev Has : Uses → Label → Type 0
Has names g = OneOf (λ name. name ≡ g) names

-- the function that the node uses is one of these
abbrev pub IsNamed : Uses → TypedNode → Type 0
IsNamed names node = (u : Use) → node.part.use_of ≡ Some u → OneOf (λ name. name ≡ u.name) names

-- ---- names among names

has_front : (xs ys : Uses) (g : Label) → Has xs g → Has (xs ++ ys) g
has_front [] ys g has = absurd has
has_front (x ∷ xs) ys g (inl is) = inl is
has_front (x ∷ xs) ys g (inr has) = inr (has_front xs ys g has)

has_back : (xs ys : Uses) (g : Label) → Has ys g → Has (xs ++ ys) g
has_back [] ys g has = has
has_back (x ∷ xs) ys g has = inr (has_back xs ys g has)

has_split : (xs ys : Uses) (g : Label) → Has (xs ++ ys) g → Has xs g ⊎ Has ys g
has_split [] ys g has = inr has
has_split (x ∷ xs) ys g (inl is) = inl (inl is)
has_split (x ∷ xs) ys g (inr has) = further (has_split xs ys g has)
  where
    further : Has xs g ⊎ Has ys g → Has (x ∷ xs) g ⊎ Has ys g
    further (inl first) = inl (inr first)
    further (inr second) = inr second

all_front : (us vs : List Uses) (g : Label) → Has (all us) g → Has (all (us ++ vs)) g
all_front [] vs g has = absurd has
all_front (u ∷ us) vs g has = further (has_split u (all us) g has) (all_front us vs g)
  where
    further : Has u g ⊎ Has (all us) g → (Has (all us) g → Has (all (us ++ vs)) g) → Has (u ++ all (us ++ vs)) g
    further (inl first) rest = has_front u (all (us ++ vs)) g first
    further (inr second) rest = has_back u (all (us ++ vs)) g (rest second)

all_back : (us vs : List Uses) (g : Label) → Has (all vs) g → Has (all (us ++ vs)) g
all_back [] vs g has = has
all_back (u ∷ us) vs g has = has_back u (all (us ++ vs)) g (all_back us vs g has)

-- nodes whose names are among others
among : (xs ys : Uses) → ((g : Label) → Has xs g → Has ys g) → (nodes : List TypedNode) → Each (IsNamed xs) nodes → Each (IsNamed ys) nodes
among xs ys to [] each = tt
among xs ys to (node ∷ nodes) each = (λ u is. to u.name (each.0 u is), among xs ys to nodes each.1)

same_names : (xs ys : Uses) → xs ≡ ys → (nodes : List TypedNode) → Each (IsNamed xs) nodes → Each (IsNamed ys) nodes
same_names xs ys is nodes each = subst (λ names. Each (IsNamed names) nodes) is each

front : (xs ys : Uses) (nodes : List TypedNode) → Each (IsNamed xs) nodes → Each (IsNamed (xs ++ ys)) nodes
front xs ys = among xs (xs ++ ys) (has_front xs ys)

back : (xs ys : Uses) (nodes : List TypedNode) → Each (IsNamed ys) nodes → Each (IsNamed (xs ++ ys)) nodes
back xs ys = among ys (xs ++ ys) (has_back xs ys)

both : (xs ys : Uses) (ns ms : List TypedNode) → Each (IsNamed xs) ns → Each (IsNamed ys) ms → Each (IsNamed (xs ++ ys)) (ns ++ ms)
both xs ys ns ms first second = each_both (IsNamed (xs ++ ys)) ns ms (front xs ys ns first) (back xs ys ms second)

-- a node that uses no function
no_use : (names : Uses) (u : Use) → None ≡ Some u → Has names u.name
no_use names u is = absurd (none-some u is)

-- ---- typed expressions

own_named : (u w : Use) (names : Uses) → Some u ≡ Some w → Has (u.name ∷ names) w.name
own_named u w names is = inl (let same : u ≡ w = cc in ap (λ (v : Use). v.name) same)

module _ {functions : Named (Entry Ground)} {tables : List TableDecl} where
  by_rule : {names : Named Ground} {effects : EffectSet} {h : Head} {ts : List Ground} {t : Ground} (by : Rule functions tables names effects h ts t) (others : Uses) (u : Use)
      → used_by by ≡ Some u → Has (own_use (Some h) ++ others) u.name
  by_rule (rule.function {g} may) others u is = own_named _ u others is
  by_rule (rule.call {g} may) others u is = own_named _ u others is
  by_rule other others u is = absurd (none-some u is)

  mutual
    unfolding nodes_of

    pub uses_named : {names : Named Ground} {effects : EffectSet} {e : Expr} {t : Ground} {inside : List Ground} (b : Bool) (d : HasType functions tables names effects e t inside) → Each (IsNamed (functions_used e)) (nodes_of b d)
    uses_named {e = e} b (plain h ts is have by) =
        same_names _ _ (sym (plain_level e h is)) (nodes_of b (plain {e = e} h ts is have by)) (by_rule by _, back (own_use (Some h)) _ (each_nodes b have) (each_named b have))
    uses_named {effects = effects} {e = e} b (lambda l params own a is named moves body local) =
        same_names _ _ (sym (binder_level e (Node-F.Lambda l) is)) (nodes_of b (lambda {effects = effects} {e = e} l params own a is named moves body local))
        (no_use _, front (of_lambda l) [] (nodes_of b body) (same_names _ _ (sym (lambda_level l)) (nodes_of b body) (uses_named b body)))
    uses_named {e = e} b (var x d rest a first last is one then) =
        same_names _ _ (sym (binder_level e (Node-F.Var x d rest) is)) (nodes_of b (var {e = e} x d rest a first last is one then))
        (no_use _, both (functions_used d) (functions_used rest ++ []) (nodes_of b one) (nodes_of b then) (uses_named b one) (front (functions_used rest) [] (nodes_of b then) (uses_named b then)))
    uses_named {e = e} b (switch d cases row tags ts first bodies is one have same made local) =
        same_names _ _ (sym (binder_level e (Node-F.Switch d cases None) is)) (nodes_of b (switch {e = e} d cases row tags ts first bodies is one have same made local)) (
          no_use _,
          both (functions_used d) (all (map of_case cases ++ [])) (nodes_of b one) (case_nodes b have) (uses_named b one)
              (among (all (map of_case cases)) (all (map of_case cases ++ [])) (all_front (map of_case cases) []) (case_nodes b have) (cases_named b have)),
        )
    uses_named {e = e} b (switch_open d cases last rest row tags ts first bodies inside is one have same then made local) =
        same_names _ _ (sym (binder_level e (Node-F.Switch d cases (Some last)) is)) (nodes_of b (switch_open {e = e} d cases last rest row tags ts first bodies inside is one have same then made local)) (
          no_use _,
          both (functions_used d) (all (map of_case cases ++ of_last last ∷ [])) (nodes_of b one) (case_nodes b have ++ nodes_of b then) (uses_named b one)
              (each_both (IsNamed (all (map of_case cases ++ of_last last ∷ []))) (case_nodes b have) (nodes_of b then)
              (among (all (map of_case cases)) (all (map of_case cases ++ of_last last ∷ [])) (all_front (map of_case cases) (of_last last ∷ [])) (case_nodes b have) (cases_named b have))
              (among (all (of_last last ∷ [])) (all (map of_case cases ++ of_last last ∷ [])) (all_back (map of_case cases) (of_last last ∷ [])) (nodes_of b then)
              (front (of_last last) [] (nodes_of b then) (same_names _ _ (sym (last_level last)) (nodes_of b then) (uses_named b then))))),
        )
    uses_named {e = e} b (for_list x d body a c first inside is one then) =
        same_names _ _ (sym (binder_level e (Node-F.ForList x d body) is)) (nodes_of b (for_list {e = e} x d body a c first inside is one then))
        (no_use _, both (functions_used d) (functions_used body ++ []) (nodes_of b one) (nodes_of b then) (uses_named b one) (front (functions_used body) [] (nodes_of b then) (uses_named b then)))
    uses_named {e = e} b (for_table x rows body a c first inside is one then) =
        same_names _ _ (sym (binder_level e (Node-F.ForTable x rows body) is)) (nodes_of b (for_table {e = e} x rows body a c first inside is one then))
        (no_use _, both (functions_used rows) (functions_used body ++ []) (nodes_of b one) (nodes_of b then) (uses_named b one) (front (functions_used body) [] (nodes_of b then) (uses_named b then)))
    uses_named {e = e} b (query keys body a inside is one sorted scans own) =
        same_names _ _ (sym (binder_level e (Node-F.Query keys body) is)) (nodes_of b (query {e = e} keys body a inside is one sorted scans own))
        (no_use _, front (functions_used body) [] (nodes_of true one) (uses_named true one))
    uses_named {effects = effects} {e = e} b (update change is changes writes) =
        same_names _ _ (sym (binder_level e (Node-F.Update change) is)) (nodes_of b (update {effects = effects} {e = e} change is changes writes))
        (no_use _, front (of_change change) [] (change_nodes changes) (change_named changes))
    uses_named {effects = effects} {e = e} b (delete change is changes writes) =
        same_names _ _ (sym (binder_level e (Node-F.Delete change) is)) (nodes_of b (delete {effects = effects} {e = e} change is changes writes))
        (no_use _, front (of_change change) [] (change_nodes changes) (change_named changes))

    each_named : {names : Named Ground} {effects : EffectSet} {es : List Expr} {ts inside : List Ground} (b : Bool) (d : HaveTypes functions tables names effects es ts inside) → Each (IsNamed (all (map functions_used es))) (each_nodes b d)
    each_named b none = tt
    each_named b (more inside rest first others) = both (functions_used _) _ (nodes_of b first) (each_nodes b others) (uses_named b first) (each_named b others)

    cases_named : {names : Named Ground} {effects : EffectSet} {cases : List Case} {ts : List Ground} {tags : Named Ground} {inside : List Ground} (b : Bool) (d : HaveCases functions tables names effects cases ts tags inside) → Each (IsNamed (all (map of_case cases))) (case_nodes b d)
    cases_named b no_cases = tt
    cases_named {cases = case ∷ cases} b (case_of a bound inside rest held body others) =
        both (of_case case) (all (map of_case cases)) (nodes_of b body) (case_nodes b others) (same_names _ _ (sym (case_level case)) (nodes_of b body) (uses_named b body)) (cases_named b others)

    change_named : {names : Named Ground} {change : ChangeExpr} {inside : List Ground} (d : IsChange functions tables names change inside) → Each (IsNamed (of_change change)) (change_nodes d)
    change_named {change = change} (changed row sets ts cond rest has holds values named fields) =
        same_names _ _ (sym (change_level change)) (nodes_of true holds ++ each_nodes true values)
        (both (functions_used (out-ChangeExpr change).cond) (all (map functions_used (exprs_of (out-ChangeExpr change).sets))) (nodes_of true holds) (each_nodes true values) (uses_named true holds) (each_named true values))
