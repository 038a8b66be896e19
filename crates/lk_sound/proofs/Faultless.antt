-- An expression whose names have no fault has none in the expressions right inside it; and where it is a lambda, none in its
-- parameters. So no lambda in it has a parameter twice.
use Rattle.std.proofs.Common.{◌≡◌, refl, sym, ap, subst, ◌∙◌, ℕ, List, [], ◌∷◌, map, Some, None}
use Rattle.lk_ast.specs.Children.{exprs_of}
use Rattle.lk_ast.specs.Layers.{Layer, layer}
use Rattle.lk_ast.specs.declared.expression.Case.{Case, fold_out-Case}
use Rattle.lk_ast.specs.declared.expression.ChangeExpr.{ChangeExpr, out-ChangeExpr, fold_out-ChangeExpr}
use Rattle.lk_ast.specs.declared.expression.Expr.{Expr, fold_out-Expr}
use Rattle.lk_ast.specs.declared.expression.LambdaExpr.{LambdaExpr, fold_out-LambdaExpr}
use Rattle.lk_ast.specs.declared.expression.LastCase.{LastCase, fold_out-LastCase}
use Rattle.lk_ast.specs.declared.expression.Node.{Node, fold_out-Node}
use Rattle.lk_ast.specs.declared.expression.Node.TheFolds.{map-Node}
use Rattle.lk_ast.specs.declared.expression.Node.TheOpen.{Node-F}
use Rattle.lk_ast.specs.declared.expression.PartExpr.{PartExpr, fold_out-PartExpr}
use Rattle.lk_ast.specs.declared.place.Span.{Span}
use Rattle.lk_index.specs.Places.{PlacedLambda, gather}
use Rattle.lk_names.specs.Expressions.{node_in, case_in, change_in, expr_in, lambda_in, last_in, part_in, global_fault, fault, node_fault, part_item, lambda_fault, case_item, last_fault, change_fault}
use Rattle.lk_names.specs.Faults.{Fault, first_of, first_among}
use Rattle.lk_names.specs.Repeats.{Item, twice_fault, items_fault, words_fault, keys_fault}
use Rattle.lk_names.specs.declared.globals.Globals.{Globals}
use Rattle.lk_scope.specs.Names.{Names, no_names, bind, bind_all, bind_some}
use Rattle.lk_scope.specs.Scoped.{In, all_in}
use Rattle.lk_types.proofs.Members.{each_both}
use Rattle.lk_types.specs.Each.{Each}
use Rattle.lk_sound.proofs.Gathered.{gather_each, entered, first_gathered, all_gathered}
use Rattle.lk_sound.proofs.Inside.{insides, bodies_of, inside_change, by_insides}

-- where there is no first fault there is neither
pub neither : (a b : Fault) → first_of a b ≡ None → (a ≡ None) × (b ≡ None)
neither None b none = (refl, none)
neither (Some why) b none = absurd cc

-- no parameter is there twice
abbrev pub HasParams : PlacedLambda → Type 0
HasParams placed = words_fault placed.lambda.params ≡ None

module _ (globals : Globals) where
  -- it has no fault under some names in scope
  abbrev pub IsFaultless : Expr → Type 0
  IsFaultless e = (names : Names) × (fault globals e names ≡ None)

  -- ---- one level

  abbrev pub mapped : Layer → Node-F (Span → In Fault) (In Item) (In Fault) (In Fault) (In Fault) (In Fault) (In Item)
  mapped = map-Node Node Case ChangeExpr Expr LambdaExpr LastCase PartExpr (Span → In Fault) (In Item) (In Fault) (In Fault) (In Fault) (In Fault) (In Item)
      (node_fault globals) (case_item globals) (change_fault globals) (fault globals) (lambda_fault globals) (last_fault globals) (part_item globals)

  pub fault_level : (e : Expr) (names : Names) → fault globals e names ≡ node_in globals (mapped (layer e)) e.span names
  fault_level e names =
      ap (λ f. f names) (fold_out-Expr (Span → In Fault) (In Item) (In Fault) (In Fault) (In Fault) (In Fault) (In Item) (node_in globals) case_in (change_in globals) expr_in lambda_in last_in part_in e)
      ∙ ap (λ f. f e.span names) (fold_out-Node (Span → In Fault) (In Item) (In Fault) (In Fault) (In Fault) (In Fault) (In Item) (node_in globals) case_in (change_in globals) expr_in lambda_in last_in part_in e.node)

  part_level : (part : PartExpr) (names : Names) → (part_item globals part names).behind ≡ fault globals part.expr names
  part_level part names = ap (λ f. (f names).behind) (fold_out-PartExpr (Span → In Fault) (In Item) (In Fault) (In Fault) (In Fault) (In Fault) (In Item) (node_in globals) case_in (change_in globals) expr_in lambda_in last_in part_in part)

  lambda_level : (l : LambdaExpr) (names : Names) → lambda_fault globals l names ≡ first_of (words_fault l.params) (fault globals l.body (bind_all l.params names))
  lambda_level l names = ap (λ f. f names) (fold_out-LambdaExpr (Span → In Fault) (In Item) (In Fault) (In Fault) (In Fault) (In Fault) (In Item) (node_in globals) case_in (change_in globals) expr_in lambda_in last_in part_in l)

  case_level : (case : Case) (names : Names) → (case_item globals case names).behind ≡ fault globals case.body (bind_some case.name names)
  case_level case names = ap (λ f. (f names).behind) (fold_out-Case (Span → In Fault) (In Item) (In Fault) (In Fault) (In Fault) (In Fault) (In Item) (node_in globals) case_in (change_in globals) expr_in lambda_in last_in part_in case)

  last_level : (last : LastCase) (names : Names) → last_fault globals last names ≡ fault globals last.body (bind last.name names)
  last_level last names = ap (λ f. f names) (fold_out-LastCase (Span → In Fault) (In Item) (In Fault) (In Fault) (In Fault) (In Fault) (In Item) (node_in globals) case_in (change_in globals) expr_in lambda_in last_in part_in last)

  abbrev change_level_of : ChangeExpr → In Fault
  change_level_of change names =
      let open_change = out-ChangeExpr change in
      first_of (global_fault globals.tables names open_change.table.at open_change.table.text)
      (first_of (fault globals open_change.cond (bind open_change.name names)) (items_fault no_names (all_in (bind open_change.name names) (map (part_item globals) open_change.sets))))

  change_level : (change : ChangeExpr) (names : Names) → change_fault globals change names ≡ change_level_of change names
  change_level change names = ap (λ f. f names) (fold_out-ChangeExpr (Span → In Fault) (In Item) (In Fault) (In Fault) (In Fault) (In Fault) (In Item) (node_in globals) case_in (change_in globals) expr_in lambda_in last_in part_in change)

  -- ---- parts one after another

  exprs_faultless : (es : List Expr) (names : Names) → first_among (all_in names (map (fault globals) es)) ≡ None → Each IsFaultless es
  exprs_faultless [] names none = tt
  exprs_faultless (e ∷ es) names none =
      let both = neither (fault globals e names) (first_among (all_in names (map (fault globals) es))) none in
      ((names, both.0), exprs_faultless es names both.1)

  parts_faultless : (parts : List PartExpr) (met names : Names) → items_fault met (all_in names (map (part_item globals) parts)) ≡ None → Each IsFaultless (exprs_of parts)
  parts_faultless [] met names none = tt
  parts_faultless (part ∷ parts) met names none =
      let own : Item = part_item globals part names in
      let rest : Fault = items_fault (bind own.name met) (all_in names (map (part_item globals) parts)) in
      let both = neither own.behind rest (neither (twice_fault met own.name) (first_of own.behind rest) none).1 in
      ((names, sym (part_level part names) ∙ both.0), parts_faultless parts (bind own.name met) names both.1)

  cases_faultless : (cases : List Case) (met names : Names) → items_fault met (all_in names (map (case_item globals) cases)) ≡ None → Each IsFaultless (bodies_of cases)
  cases_faultless [] met names none = tt
  cases_faultless (case ∷ cases) met names none =
      let own : Item = case_item globals case names in
      let rest : Fault = items_fault (bind own.name met) (all_in names (map (case_item globals) cases)) in
      let both = neither own.behind rest (neither (twice_fault met own.name) (first_of own.behind rest) none).1 in
      ((bind_some case.name names, sym (case_level case names) ∙ both.0), cases_faultless cases (bind own.name met) names both.1)

  change_faultless : (change : ChangeExpr) (names : Names) → change_fault globals change names ≡ None → Each IsFaultless (inside_change change)
  change_faultless change names none =
      let inner : Names = bind (out-ChangeExpr change).name names in
      let sets : Fault = items_fault no_names (all_in inner (map (part_item globals) (out-ChangeExpr change).sets)) in
      let cond : Fault = fault globals (out-ChangeExpr change).cond inner in
      let both = neither cond sets (neither _ (first_of cond sets) (sym (change_level change names) ∙ none)).1 in
      ((inner, both.0), parts_faultless (out-ChangeExpr change).sets no_names inner both.1)

  -- ---- what is right inside

  one : (e : Expr) (names : Names) → fault globals e names ≡ None → Each IsFaultless (e ∷ [])
  one e names none = ((names, none), tt)

  two : (a b : Expr) (names others : Names) → first_of (fault globals a names) (fault globals b others) ≡ None → Each IsFaultless (a ∷ b ∷ [])
  two a b names others none = let both = neither (fault globals a names) (fault globals b others) none in ((names, both.0), ((others, both.1), tt))

  pub inside_faultless : (l : Layer) (span : Span) (names : Names) → node_in globals (mapped l) span names ≡ None → Each IsFaultless (insides l)
  inside_faultless (Node-F.Int number) span names none = tt
  inside_faultless (Node-F.Text text) span names none = tt
  inside_faultless (Node-F.Bool truth) span names none = tt
  inside_faultless (Node-F.Name x) span names none = tt
  inside_faultless (Node-F.Function g) span names none = tt
  inside_faultless (Node-F.Lambda l) span names none = one l.body (bind_all l.params names) (neither (words_fault l.params) _ (sym (lambda_level l names) ∙ none)).1
  inside_faultless (Node-F.Call g args) span names none = exprs_faultless args names (neither (global_fault globals.functions names g.at g.text) _ none).1
  inside_faultless (Node-F.Apply f args) span names none =
      let both = neither (fault globals f names) (first_among (all_in names (map (fault globals) args))) none in
      ((names, both.0), exprs_faultless args names both.1)
  inside_faultless (Node-F.Var x d rest) span names none = two d rest names (bind x names) none
  inside_faultless (Node-F.Seq d rest) span names none = two d rest names names none
  inside_faultless (Node-F.If c d e) span names none =
      let both = neither (fault globals c names) (first_of (fault globals d names) (fault globals e names)) none in
      ((names, both.0), two d e names names both.1)
  inside_faultless (Node-F.And a b) span names none = two a b names names none
  inside_faultless (Node-F.Or a b) span names none = two a b names names none
  inside_faultless (Node-F.Concat a b) span names none = two a b names names none
  inside_faultless (Node-F.Append a b) span names none = two a b names names none
  inside_faultless (Node-F.Cons a b) span names none = two a b names names none
  inside_faultless (Node-F.Add a b) span names none = two a b names names none
  inside_faultless (Node-F.Sub a b) span names none = two a b names names none
  inside_faultless (Node-F.Mul a b) span names none = two a b names names none
  inside_faultless (Node-F.Div a b) span names none = two a b names names none
  inside_faultless (Node-F.Mod a b) span names none = two a b names names none
  inside_faultless (Node-F.Eq a b) span names none = two a b names names none
  inside_faultless (Node-F.Ne a b) span names none = two a b names names none
  inside_faultless (Node-F.Lt a b) span names none = two a b names names none
  inside_faultless (Node-F.Le a b) span names none = two a b names names none
  inside_faultless (Node-F.Gt a b) span names none = two a b names names none
  inside_faultless (Node-F.Ge a b) span names none = two a b names names none
  inside_faultless (Node-F.Neg e) span names none = one e names none
  inside_faultless (Node-F.Not e) span names none = one e names none
  inside_faultless (Node-F.Hd e) span names none = one e names none
  inside_faultless (Node-F.Tl e) span names none = one e names none
  inside_faultless (Node-F.Empty e) span names none = one e names none
  inside_faultless (Node-F.IntToString e) span names none = one e names none
  inside_faultless (Node-F.Print e) span names none = one e names none
  inside_faultless (Node-F.Record parts) span names none = parts_faultless parts no_names names none
  inside_faultless (Node-F.Extend parts e) span names none =
      let both = neither (items_fault no_names (all_in names (map (part_item globals) parts))) (fault globals e names) none in
      each_both IsFaultless (exprs_of parts) (e ∷ []) (parts_faultless parts no_names names both.0) (one e names both.1)
  inside_faultless (Node-F.List items) span names none = exprs_faultless items names none
  inside_faultless (Node-F.Project e l) span names none = one e names none
  inside_faultless (Node-F.Tag t e) span names none = one e names none
  inside_faultless (Node-F.Switch d cases None) span names none =
      let rest : Fault = items_fault no_names (all_in names (map (case_item globals) cases)) in
      let both = neither (fault globals d names) (first_of rest None) none in
      ((names, both.0), each_both IsFaultless (bodies_of cases) [] (cases_faultless cases no_names names (neither rest None both.1).0) tt)
  inside_faultless (Node-F.Switch d cases (Some last)) span names none =
      let rest : Fault = items_fault no_names (all_in names (map (case_item globals) cases)) in
      let both = neither (fault globals d names) (first_of rest (last_fault globals last names)) none in
      let back = neither rest (last_fault globals last names) both.1 in
      ((names, both.0), each_both IsFaultless (bodies_of cases) (last.body ∷ []) (cases_faultless cases no_names names back.0) (one last.body (bind last.name names) (sym (last_level last names) ∙ back.1)))
  inside_faultless (Node-F.ForList x d body) span names none = two d body names (bind x names) none
  inside_faultless (Node-F.ForTable x rows body) span names none = two rows body names (bind x names) none
  inside_faultless (Node-F.Table t) span names none = tt
  inside_faultless (Node-F.Where c e) span names none = two c e names names none
  inside_faultless (Node-F.Query keys e) span names none = one e names (neither (keys_fault keys) (fault globals e names) none).1
  inside_faultless (Node-F.Insert t e) span names none = one e names (neither (global_fault globals.tables names t.at t.text) (fault globals e names) none).1
  inside_faultless (Node-F.Update change) span names none = change_faultless change names none
  inside_faultless (Node-F.Delete change) span names none = change_faultless change names none

  own_params : (l : Layer) (span : Span) (names : Names) (site : ℕ) → node_in globals (mapped l) span names ≡ None → Each HasParams (entered l site [])
  own_params (Node-F.Lambda l) span names site none = ((neither (words_fault l.params) _ (sym (lambda_level l names) ∙ none)).0, tt)
  own_params other span names site none = tt

  -- ---- the lambdas in an expression

  abbrev HasAllParams : Expr → Type 0
  HasAllParams e = IsFaultless e → Each HasParams (gather e [])

  all_have_params : (es : List Expr) → Each HasAllParams es → Each IsFaultless es → Each HasParams (gather_each es [])
  all_have_params [] all faultless = tt
  all_have_params (e ∷ es) all faultless =
      subst (Each HasParams) (sym (first_gathered e es)) (each_both HasParams (gather e []) (gather_each es []) (all.0 faultless.0) (all_have_params es all.1 faultless.1))

  params_step : (e : Expr) → Each HasAllParams (insides (layer e)) → HasAllParams e
  params_step e all faultless =
      let none : node_in globals (mapped (layer e)) e.span faultless.0 ≡ None = sym (fault_level e faultless.0) ∙ faultless.1 in
      subst (Each HasParams) (sym (all_gathered e))
      (each_both HasParams (entered (layer e) e.span.start []) (gather_each (insides (layer e)) [])
      (own_params (layer e) e.span faultless.0 e.span.start none)
      (all_have_params (insides (layer e)) all (inside_faultless (layer e) e.span faultless.0 none)))

  -- no lambda in an expression without a fault has a parameter twice
  pub all_params : (e : Expr) → IsFaultless e → Each HasParams (gather e [])
  all_params = by_insides HasAllParams params_step

-- where some tables and functions are seen, and under some local names
abbrev pub HasNoFault : Expr → Type 0
HasNoFault e = (globals : Globals) × IsFaultless globals e
