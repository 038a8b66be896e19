-- The uses among the nodes of a typed expression are those in it, each where it begins; and outside of queries, updates and
-- deletions the same.
use Rattle.std.proofs.Common.{◌≡◌, refl, sym, ap, ap₂, ◌∙◌, ℕ, Bool, true, false, List, [], ◌∷◌, ◌++◌, flat_map, append-nil, Option, Some, None}
use Rattle.std.specs.Prelude.{not}
use Rattle.std.specs.List.{filter}
use Rattle.std.proofs.lemmas.Grind.{flat_map-append}
use Rattle.std.proofs.lemmas.List.Elements.{filter-append}
use Rattle.lk_ast.specs.Children.{exprs_of}
use Rattle.lk_ast.specs.declared.declaration.TableDecl.{TableDecl}
use Rattle.lk_ast.specs.declared.expression.Case.{Case}
use Rattle.lk_ast.specs.declared.expression.ChangeExpr.{ChangeExpr, out-ChangeExpr}
use Rattle.lk_ast.specs.declared.expression.Expr.{Expr}
use Rattle.lk_ground.specs.Sites.{PlacedUse, use_at, uses_in, outer_uses}
use Rattle.lk_ground.proofs.PlacedLevels.{head_use, plain_uses, plain_outer, form_uses, form_outer}
use Rattle.lk_sound.specs.Nodes.{Use, TypedNode, used_by, nodes_of, each_nodes, case_nodes, change_nodes}
use Rattle.lk_sound.proofs.Inside.{bodies_of}
use Rattle.lk_types.specs.Rows.{EffectSet}
use Rattle.lk_types.specs.declared.ground.Ground.{Ground}
use Rattle.lk_typing.specs.Heads.{Head}
use Rattle.lk_typing.specs.Names.{Entry, Named}
use Rattle.lk_typing.specs.Rules.{Rule}
use Rattle.lk_typing.specs.Rules as rule
use Rattle.lk_typing.specs.Typing.{HasType, HaveTypes, HaveCases, IsChange, plain, lambda, var, switch, switch_open, for_list, for_table, query, update, delete, none, more, no_cases, case_of, changed}

-- a use of a function, where it begins
abbrev pub use_placed : ℕ → Option Use → List PlacedUse
use_placed site None = []
use_placed site (Some u) = use_at u.name site ∷ []

abbrev pub node_placed : TypedNode → List PlacedUse
node_placed node = use_placed node.part.span.start node.part.use_of

-- the uses among the nodes, each where it begins
abbrev pub placed : List TypedNode → List PlacedUse
placed nodes = flat_map node_placed nodes

-- the nodes outside of queries, updates and deletions
abbrev pub outer_nodes : List TypedNode → List TypedNode
outer_nodes nodes = filter (λ node. not node.part.inside) nodes

placed_both : (xs ys : List TypedNode) {us vs : List PlacedUse} → placed xs ≡ us → placed ys ≡ vs → placed (xs ++ ys) ≡ us ++ vs
placed_both xs ys first rest = flat_map-append node_placed xs ys ∙ ap₂ (λ us vs. us ++ vs) first rest

outer_both : (xs ys : List TypedNode) {us vs : List PlacedUse} → placed (outer_nodes xs) ≡ us → placed (outer_nodes ys) ≡ vs → placed (outer_nodes (xs ++ ys)) ≡ us ++ vs
outer_both xs ys first rest = ap placed (filter-append (λ (node : TypedNode). not node.part.inside) xs ys) ∙ placed_both (outer_nodes xs) (outer_nodes ys) first rest

none_both : (xs ys : List TypedNode) → outer_nodes xs ≡ [] → outer_nodes ys ≡ [] → outer_nodes (xs ++ ys) ≡ []
none_both xs ys first rest = filter-append (λ (node : TypedNode). not node.part.inside) xs ys ∙ ap₂ (λ us vs. us ++ vs) first rest

-- with nothing behind it
alone : {nodes us : List PlacedUse} → nodes ≡ us → nodes ≡ us ++ []
alone {us = us} same = same ∙ sym (append-nil us)

module _ {functions : Named (Entry Ground)} {tables : List TableDecl} where
  -- what an operator uses, by its rule
  by_rule : {names : Named Ground} {effects : EffectSet} {h : Head} {ts : List Ground} {t : Ground} (site : ℕ) (by : Rule functions tables names effects h ts t) → use_placed site (used_by by) ≡ head_use h site
  by_rule site (rule.function {g} may) = refl
  by_rule site (rule.call {g} may) = refl
  by_rule site other = refl

  -- ---- all uses

  mutual
    unfolding nodes_of

    pub uses_placed : {names : Named Ground} {effects : EffectSet} {e : Expr} {t : Ground} {inside : List Ground} (b : Bool) (d : HasType functions tables names effects e t inside) → placed (nodes_of b d) ≡ uses_in e
    uses_placed {e = e} b (plain h ts is have by) = ap₂ (λ own us. own ++ us) (by_rule e.span.start by) (each_placed b have) ∙ sym (plain_uses e h is)
    uses_placed {e = e} b (lambda l params own a is named moves body local) = alone (uses_placed b body) ∙ sym (form_uses e _ is)
    uses_placed {e = e} b (var x d rest a first last is one then) = placed_both (nodes_of b one) (nodes_of b then) (uses_placed b one) (alone (uses_placed b then)) ∙ sym (form_uses e _ is)
    uses_placed {e = e} b (switch d cases row tags ts first bodies is one have same made local) = placed_both (nodes_of b one) (case_nodes b have) (uses_placed b one) (alone (cases_placed b have) ∙ sym (flat_map-append uses_in (bodies_of cases) [])) ∙ sym (form_uses e _ is)
    uses_placed {e = e} b (switch_open d cases last rest row tags ts first bodies inside is one have same then made local) =
        placed_both (nodes_of b one) (case_nodes b have ++ nodes_of b then) (uses_placed b one) (placed_both (case_nodes b have) (nodes_of b then) (cases_placed b have) (alone (uses_placed b then)) ∙ sym (flat_map-append uses_in (bodies_of cases) (last.body ∷ []))) ∙ sym (form_uses e _ is)
    uses_placed {e = e} b (for_list x d body a c first inside is one then) = placed_both (nodes_of b one) (nodes_of b then) (uses_placed b one) (alone (uses_placed b then)) ∙ sym (form_uses e _ is)
    uses_placed {e = e} b (for_table x rows body a c first inside is one then) = placed_both (nodes_of b one) (nodes_of b then) (uses_placed b one) (alone (uses_placed b then)) ∙ sym (form_uses e _ is)
    uses_placed {e = e} b (query keys body a inside is one sorted scans own) = alone (uses_placed true one) ∙ sym (form_uses e _ is)
    uses_placed {e = e} b (update change is changes writes) = change_placed changes ∙ sym (form_uses e _ is)
    uses_placed {e = e} b (delete change is changes writes) = change_placed changes ∙ sym (form_uses e _ is)

    each_placed : {names : Named Ground} {effects : EffectSet} {es : List Expr} {ts inside : List Ground} (b : Bool) (d : HaveTypes functions tables names effects es ts inside) → placed (each_nodes b d) ≡ flat_map uses_in es
    each_placed b none = refl
    each_placed b (more inside rest first others) = placed_both (nodes_of b first) (each_nodes b others) (uses_placed b first) (each_placed b others)

    cases_placed : {names : Named Ground} {effects : EffectSet} {cases : List Case} {ts : List Ground} {tags : Named Ground} {inside : List Ground} (b : Bool) (d : HaveCases functions tables names effects cases ts tags inside) → placed (case_nodes b d) ≡ flat_map uses_in (bodies_of cases)
    cases_placed b no_cases = refl
    cases_placed b (case_of a bound inside rest held body others) = placed_both (nodes_of b body) (case_nodes b others) (uses_placed b body) (cases_placed b others)

    change_placed : {names : Named Ground} {change : ChangeExpr} {inside : List Ground} (d : IsChange functions tables names change inside) → placed (change_nodes d) ≡ uses_in (out-ChangeExpr change).cond ++ flat_map uses_in (exprs_of (out-ChangeExpr change).sets)
    change_placed (changed row sets ts cond rest has holds values named fields) = placed_both (nodes_of true holds) (each_nodes true values) (uses_placed true holds) (each_placed true values)

  -- ---- those outside of queries, updates and deletions

  mutual
    unfolding nodes_of

    -- nothing in one of these stands outside
    pub none_outer : {names : Named Ground} {effects : EffectSet} {e : Expr} {t : Ground} {inside : List Ground} (d : HasType functions tables names effects e t inside) → outer_nodes (nodes_of true d) ≡ []
    none_outer (plain h ts is have by) = each_none have
    none_outer (lambda l params own a is named moves body local) = none_outer body
    none_outer (var x d rest a first last is one then) = none_both (nodes_of true one) (nodes_of true then) (none_outer one) (none_outer then)
    none_outer (switch d cases row tags ts first bodies is one have same made local) = none_both (nodes_of true one) (case_nodes true have) (none_outer one) (cases_none have)
    none_outer (switch_open d cases last rest row tags ts first bodies inside is one have same then made local) = none_both (nodes_of true one) (case_nodes true have ++ nodes_of true then) (none_outer one) (none_both (case_nodes true have) (nodes_of true then) (cases_none have) (none_outer then))
    none_outer (for_list x d body a c first inside is one then) = none_both (nodes_of true one) (nodes_of true then) (none_outer one) (none_outer then)
    none_outer (for_table x rows body a c first inside is one then) = none_both (nodes_of true one) (nodes_of true then) (none_outer one) (none_outer then)
    none_outer (query keys body a inside is one sorted scans own) = none_outer one
    none_outer (update change is changes writes) = change_none changes
    none_outer (delete change is changes writes) = change_none changes

    each_none : {names : Named Ground} {effects : EffectSet} {es : List Expr} {ts inside : List Ground} (d : HaveTypes functions tables names effects es ts inside) → outer_nodes (each_nodes true d) ≡ []
    each_none none = refl
    each_none (more inside rest first others) = none_both (nodes_of true first) (each_nodes true others) (none_outer first) (each_none others)

    cases_none : {names : Named Ground} {effects : EffectSet} {cases : List Case} {ts : List Ground} {tags : Named Ground} {inside : List Ground} (d : HaveCases functions tables names effects cases ts tags inside) → outer_nodes (case_nodes true d) ≡ []
    cases_none no_cases = refl
    cases_none (case_of a bound inside rest held body others) = none_both (nodes_of true body) (case_nodes true others) (none_outer body) (cases_none others)

    change_none : {names : Named Ground} {change : ChangeExpr} {inside : List Ground} (d : IsChange functions tables names change inside) → outer_nodes (change_nodes d) ≡ []
    change_none (changed row sets ts cond rest has holds values named fields) = none_both (nodes_of true holds) (each_nodes true values) (none_outer holds) (each_none values)

  mutual
    unfolding nodes_of

    pub outer_placed : {names : Named Ground} {effects : EffectSet} {e : Expr} {t : Ground} {inside : List Ground} (d : HasType functions tables names effects e t inside) → placed (outer_nodes (nodes_of false d)) ≡ outer_uses e
    outer_placed {e = e} (plain h ts is have by) = ap₂ (λ own us. own ++ us) (by_rule e.span.start by) (each_outer have) ∙ sym (plain_outer e h is)
    outer_placed {e = e} (lambda l params own a is named moves body local) = alone (outer_placed body) ∙ sym (form_outer e _ is)
    outer_placed {e = e} (var x d rest a first last is one then) = outer_both (nodes_of false one) (nodes_of false then) (outer_placed one) (alone (outer_placed then)) ∙ sym (form_outer e _ is)
    outer_placed {e = e} (switch d cases row tags ts first bodies is one have same made local) = outer_both (nodes_of false one) (case_nodes false have) (outer_placed one) (alone (cases_outer have) ∙ sym (flat_map-append outer_uses (bodies_of cases) [])) ∙ sym (form_outer e _ is)
    outer_placed {e = e} (switch_open d cases last rest row tags ts first bodies inside is one have same then made local) =
        outer_both (nodes_of false one) (case_nodes false have ++ nodes_of false then) (outer_placed one) (outer_both (case_nodes false have) (nodes_of false then) (cases_outer have) (alone (outer_placed then)) ∙ sym (flat_map-append outer_uses (bodies_of cases) (last.body ∷ []))) ∙ sym (form_outer e _ is)
    outer_placed {e = e} (for_list x d body a c first inside is one then) = outer_both (nodes_of false one) (nodes_of false then) (outer_placed one) (alone (outer_placed then)) ∙ sym (form_outer e _ is)
    outer_placed {e = e} (for_table x rows body a c first inside is one then) = outer_both (nodes_of false one) (nodes_of false then) (outer_placed one) (alone (outer_placed then)) ∙ sym (form_outer e _ is)
    outer_placed {e = e} (query keys body a inside is one sorted scans own) = ap placed (none_outer one) ∙ sym (form_outer e _ is)
    outer_placed {e = e} (update change is changes writes) = ap placed (change_none changes) ∙ sym (form_outer e _ is)
    outer_placed {e = e} (delete change is changes writes) = ap placed (change_none changes) ∙ sym (form_outer e _ is)

    each_outer : {names : Named Ground} {effects : EffectSet} {es : List Expr} {ts inside : List Ground} (d : HaveTypes functions tables names effects es ts inside) → placed (outer_nodes (each_nodes false d)) ≡ flat_map outer_uses es
    each_outer none = refl
    each_outer (more inside rest first others) = outer_both (nodes_of false first) (each_nodes false others) (outer_placed first) (each_outer others)

    cases_outer : {names : Named Ground} {effects : EffectSet} {cases : List Case} {ts : List Ground} {tags : Named Ground} {inside : List Ground} (d : HaveCases functions tables names effects cases ts tags inside) → placed (outer_nodes (case_nodes false d)) ≡ flat_map outer_uses (bodies_of cases)
    cases_outer no_cases = refl
    cases_outer (case_of a bound inside rest held body others) = outer_both (nodes_of false body) (case_nodes false others) (outer_placed body) (cases_outer others)
