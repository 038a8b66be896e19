-- The visit to an expression by those to its parts.
use Rattle.std.proofs.Common.{◌≡◌, refl, sym, ap, ap₂, ◌∙◌, ℕ, List, [], ◌∷◌, ◌++◌, map, flat_map, Option, Some, None, Bool, true, false, ◌||◌}
use Rattle.lk_ast.specs.Children.{children, exprs_of}
use Rattle.lk_ast.specs.Layers.{Layer, before, layer, statement_node}
use Rattle.lk_ast.specs.declared.expression.Case.{Case, para-Case, para-roll-Case}
use Rattle.lk_ast.specs.declared.expression.ChangeExpr.{ChangeExpr, out-ChangeExpr, roll-out-ChangeExpr, para-ChangeExpr, para-roll-ChangeExpr}
use Rattle.lk_ast.specs.declared.expression.Expr.{Expr, para-roll-Expr}
use Rattle.lk_ast.specs.declared.expression.LambdaExpr.{LambdaExpr, para-LambdaExpr, para-roll-LambdaExpr}
use Rattle.lk_ast.specs.declared.expression.LastCase.{LastCase, para-LastCase, para-roll-LastCase}
use Rattle.lk_ast.specs.declared.expression.Node.{Node, out-Node, roll-out-Node, para-Node, para-roll-Node}
use Rattle.lk_ast.specs.declared.expression.Node.TheFolds.{map-Node}
use Rattle.lk_ast.specs.declared.expression.Node.TheOpen.{Node-F}
use Rattle.lk_ast.specs.declared.expression.Node.TheVariants as node
use Rattle.lk_ast.specs.declared.expression.PartExpr.{PartExpr, para-PartExpr, para-roll-PartExpr}
use Rattle.lk_ast.specs.declared.place.Word.{Word}
use Rattle.lk_ast.specs.declared.statements.Statement.{Statement}
use Rattle.lk_sites.specs.Sites.{Tour, Visit, all, behind_type, entered, is_closed, visit, own, node_visit, case_visit, change_visit, expr_visit, lambda_visit, last_visit, part_visit}
use Rattle.lk_sites.specs.SitesInside.{both, in_cases, in_change, in_parts, in_some, within}
use Rattle.lk_sound.proofs.Inside.{bodies_of, inside_change, insides}

-- ---- one visit after the other

append_is : (xs ys : List Visit) → all (xs ++ ys) ≡ both (all xs) (all ys)
append_is [] ys = refl
append_is (x ∷ xs) ys = λ i inside t. append_is xs ys i inside (x inside t)

-- ---- expressions

module _ (fun : ℕ) where
  abbrev of_node : Node → Visit
  of_node = para-Node Visit Visit Visit Visit Visit Visit Visit node_visit case_visit change_visit (expr_visit fun) lambda_visit last_visit part_visit

  abbrev of_case : Case → Visit
  of_case = para-Case Visit Visit Visit Visit Visit Visit Visit node_visit case_visit change_visit (expr_visit fun) lambda_visit last_visit part_visit

  abbrev of_change : ChangeExpr → Visit
  of_change = para-ChangeExpr Visit Visit Visit Visit Visit Visit Visit node_visit case_visit change_visit (expr_visit fun) lambda_visit last_visit part_visit

  abbrev of_lambda : LambdaExpr → Visit
  of_lambda = para-LambdaExpr Visit Visit Visit Visit Visit Visit Visit node_visit case_visit change_visit (expr_visit fun) lambda_visit last_visit part_visit

  abbrev of_last : LastCase → Visit
  of_last = para-LastCase Visit Visit Visit Visit Visit Visit Visit node_visit case_visit change_visit (expr_visit fun) lambda_visit last_visit part_visit

  abbrev of_part : PartExpr → Visit
  of_part = para-PartExpr Visit Visit Visit Visit Visit Visit Visit node_visit case_visit change_visit (expr_visit fun) lambda_visit last_visit part_visit

  abbrev beside : Layer → Node-F (Node × Visit) (Case × Visit) (ChangeExpr × Visit) (Expr × Visit) (LambdaExpr × Visit) (LastCase × Visit) (PartExpr × Visit)
  beside l = map-Node _ _ _ _ _ _ _ _ _ _ _ _ _ _ (λ n. (n, of_node n)) (λ n. (n, of_case n)) (λ n. (n, of_change n)) (λ n. (n, visit fun n)) (λ n. (n, of_lambda n)) (λ n. (n, of_last n)) (λ n. (n, of_part n)) l

  expr_level : (e : Expr) (inside : Bool) (t : Tour) → visit fun e inside t ≡ of_node e.node inside (entered fun (layer e) e inside t)
  unfolding visit
  expr_level e inside t = ap (λ go. go inside t) (para-roll-Expr Visit Visit Visit Visit Visit Visit Visit node_visit case_visit change_visit (expr_visit fun) lambda_visit last_visit part_visit (record { span = e.span; node = e.node }))

  node_level : (n : Node) → of_node n ≡ node_visit (beside (out-Node n))
  unfolding visit
  node_level n = ap of_node (sym (roll-out-Node n)) ∙ para-roll-Node Visit Visit Visit Visit Visit Visit Visit node_visit case_visit change_visit (expr_visit fun) lambda_visit last_visit part_visit (out-Node n)

  part_level : (part : PartExpr) → of_part part ≡ visit fun part.expr
  unfolding visit
  part_level part = para-roll-PartExpr Visit Visit Visit Visit Visit Visit Visit node_visit case_visit change_visit (expr_visit fun) lambda_visit last_visit part_visit (record { label = part.label; expr = part.expr })

  lambda_level : (lambda : LambdaExpr) → of_lambda lambda ≡ visit fun lambda.body
  unfolding visit
  lambda_level lambda = para-roll-LambdaExpr Visit Visit Visit Visit Visit Visit Visit node_visit case_visit change_visit (expr_visit fun) lambda_visit last_visit part_visit (record { params = lambda.params; place = lambda.place; body = lambda.body })

  case_level : (case : Case) → of_case case ≡ visit fun case.body
  unfolding visit
  case_level case = para-roll-Case Visit Visit Visit Visit Visit Visit Visit node_visit case_visit change_visit (expr_visit fun) lambda_visit last_visit part_visit (record { tag = case.tag; name = case.name; body = case.body })

  last_level : (last : LastCase) → of_last last ≡ visit fun last.body
  unfolding visit
  last_level last = para-roll-LastCase Visit Visit Visit Visit Visit Visit Visit node_visit case_visit change_visit (expr_visit fun) lambda_visit last_visit part_visit (record { name = last.name; body = last.body })

  -- each part beside its visit, by itself
  exprs_are : (es : List Expr) → flat_map own (map (λ (n : Expr). (n, visit fun n)) es) ≡ map (visit fun) es
  exprs_are [] = refl
  exprs_are (e ∷ es) = ap (λ more. visit fun e ∷ more) (exprs_are es)

  parts_are : (parts : List PartExpr) → flat_map own (map (λ (n : PartExpr). (n, of_part n)) parts) ≡ map (λ (part : PartExpr). visit fun part.expr) parts
  parts_are [] = refl
  parts_are (part ∷ parts) = ap₂ (λ one more. one ∷ more) (part_level part) (parts_are parts)

  cases_are : (cases : List Case) → flat_map own (map (λ (n : Case). (n, of_case n)) cases) ≡ map (λ (case : Case). visit fun case.body) cases
  cases_are [] = refl
  cases_are (case ∷ cases) = ap₂ (λ one more. one ∷ more) (case_level case) (cases_are cases)

  sets_are : (parts : List PartExpr) → map (λ (set : PartExpr × Visit). set.1) (map (λ (n : PartExpr). (n, of_part n)) parts) ≡ map (λ (part : PartExpr). visit fun part.expr) parts
  sets_are [] = refl
  sets_are (part ∷ parts) = ap₂ (λ one more. one ∷ more) (part_level part) (sets_are parts)

  change_level : (change : ChangeExpr) → of_change change ≡ in_change fun change
  unfolding visit
  change_level change =
      ap of_change (sym (roll-out-ChangeExpr change))
      ∙ para-roll-ChangeExpr Visit Visit Visit Visit Visit Visit Visit node_visit case_visit change_visit (expr_visit fun) lambda_visit last_visit part_visit (out-ChangeExpr change)
      ∙ ap (λ sets. all (visit fun (out-ChangeExpr change).cond ∷ sets)) (sets_are (out-ChangeExpr change).sets)

  -- fields, and the record behind them
  in_extended : (parts : List PartExpr) (e : Expr) → all (flat_map own (map (λ (n : PartExpr). (n, of_part n)) parts) ++ visit fun e ∷ []) ≡ both (in_parts fun parts) (visit fun e)
  in_extended parts e = append_is (flat_map own (map (λ (n : PartExpr). (n, of_part n)) parts)) (visit fun e ∷ []) ∙ ap (λ visits. both (all visits) (visit fun e)) (parts_are parts)

  in_switch : (e : Expr) (cases : List Case) (last : List Visit) (final : Visit) → all last ≡ final
      → all (visit fun e ∷ (flat_map own (map (λ (n : Case). (n, of_case n)) cases) ++ last)) ≡ both (visit fun e) (both (in_cases fun cases) final)
  in_switch e cases last final is = ap (both (visit fun e)) (append_is (flat_map own (map (λ (n : Case). (n, of_case n)) cases)) last ∙ ap₂ both (ap all (cases_are cases)) is)

  by_parts : (l : Layer) → all (children own own own own own own (beside l)) ≡ within fun l
  by_parts (Node-F.Lambda lambda) = lambda_level lambda
  by_parts (Node-F.Call g args) = ap all (exprs_are args)
  by_parts (Node-F.Apply f args) = ap (λ visits. all (visit fun f ∷ visits)) (exprs_are args)
  by_parts (Node-F.Record parts) = ap all (parts_are parts)
  by_parts (Node-F.Extend parts e) = in_extended parts e
  by_parts (Node-F.List items) = ap all (exprs_are items)
  by_parts (Node-F.Switch e cases None) = in_switch e cases [] (in_some fun None) refl
  by_parts (Node-F.Switch e cases (Some last)) = in_switch e cases (of_last last ∷ []) (in_some fun (Some last)) (last_level last)
  by_parts (Node-F.Update change) = change_level change
  by_parts (Node-F.Delete change) = change_level change
  by_parts other = refl

  same_closed : (l : Layer) → is_closed (beside l) ≡ is_closed l
  same_closed (Node-F.Query keys body) = refl
  same_closed (Node-F.Update change) = refl
  same_closed (Node-F.Delete change) = refl
  same_closed other = refl

  exprs_of_parts : (parts : List PartExpr) → map (λ (part : PartExpr). visit fun part.expr) parts ≡ map (visit fun) (exprs_of parts)
  exprs_of_parts [] = refl
  exprs_of_parts (part ∷ parts) = ap (λ more. visit fun part.expr ∷ more) (exprs_of_parts parts)

  bodies_of_cases : (cases : List Case) → map (λ (case : Case). visit fun case.body) cases ≡ map (visit fun) (bodies_of cases)
  bodies_of_cases [] = refl
  bodies_of_cases (case ∷ cases) = ap (λ more. visit fun case.body ∷ more) (bodies_of_cases cases)

  pub front_and : (xs ys : List Expr) → all (map (visit fun) (xs ++ ys)) ≡ both (all (map (visit fun) xs)) (all (map (visit fun) ys))
  front_and [] ys = refl
  front_and (x ∷ xs) ys = λ i inside t. front_and xs ys i inside (visit fun x inside t)

  change_insides : (change : ChangeExpr) → in_change fun change ≡ all (map (visit fun) (inside_change change))
  change_insides change = ap (λ sets. both (visit fun (out-ChangeExpr change).cond) (all sets)) (exprs_of_parts (out-ChangeExpr change).sets)

  -- the expressions right inside it, one after the other
  pub insides_level : (l : Layer) → within fun l ≡ all (map (visit fun) (insides l))
  insides_level (Node-F.Record parts) = ap all (exprs_of_parts parts)
  insides_level (Node-F.Extend parts e) = ap (λ visits. both (all visits) (visit fun e)) (exprs_of_parts parts) ∙ sym (front_and (exprs_of parts) (e ∷ []))
  insides_level (Node-F.Switch e cases None) =
      ap (λ visits. both (visit fun e) (both (all visits) (in_some fun None))) (bodies_of_cases cases) ∙ ap (both (visit fun e)) (sym (front_and (bodies_of cases) []))
  insides_level (Node-F.Switch e cases (Some last)) =
      ap (λ visits. both (visit fun e) (both (all visits) (visit fun last.body))) (bodies_of_cases cases) ∙ ap (both (visit fun e)) (sym (front_and (bodies_of cases) (last.body ∷ [])))
  insides_level (Node-F.Update change) = change_insides change
  insides_level (Node-F.Delete change) = change_insides change
  insides_level other = refl

  -- by its form
  abbrev pub by_form : Layer → Expr → Visit
  by_form l e inside t = within fun l (inside || is_closed l) (entered fun l e inside t)

  -- the expression itself, and what stands inside it
  pub visit_level : (e : Expr) (inside : Bool) (t : Tour) → visit fun e inside t ≡ by_form (layer e) e inside t
  visit_level e inside t =
      expr_level e inside t
      ∙ ap (λ go. go inside (entered fun (layer e) e inside t)) (node_level e.node)
      ∙ ap₂ (λ go closed. go (inside || closed) (entered fun (layer e) e inside t)) (by_parts (layer e)) (same_closed (layer e))

  -- ---- a statement, and what follows

  seq_level : (e bound next : Expr) (inside : Bool) (t : Tour) → by_form (Node-F.Seq bound next) e inside t ≡ visit fun next inside (visit fun bound inside (behind_type t))
  seq_level e bound next true t = refl
  seq_level e bound next false t = refl

  var_level : (x : Word) (e bound next : Expr) (inside : Bool) (t : Tour) → by_form (Node-F.Var x bound next) e inside t ≡ visit fun next inside (visit fun bound inside (behind_type t))
  var_level x e bound next true t = refl
  var_level x e bound next false t = refl

  named_level : (name : Option Word) (e bound next : Expr) (inside : Bool) (t : Tour) → by_form (out-Node (statement_node name bound next)) e inside t ≡ visit fun next inside (visit fun bound inside (behind_type t))
  named_level None e bound next inside t = ap (λ (l : Layer). by_form l e inside t) (node.outs-Seq bound next) ∙ seq_level e bound next inside t
  named_level (Some x) e bound next inside t = ap (λ (l : Layer). by_form l e inside t) (node.outs-Var x bound next) ∙ var_level x e bound next inside t

  pub before_level : (s : Statement) (next : Expr) (inside : Bool) (t : Tour) → visit fun (before s next) inside t ≡ visit fun next inside (visit fun s.expr inside (behind_type t))
  before_level s next inside t = visit_level (before s next) inside t ∙ named_level s.name (before s next) s.expr next inside t

  -- ---- in code

  pub statement_visited : (s : Statement) (e next : Expr) (inside : Bool) (t behind after whole : Tour) → e ≡ before s next → visit fun e inside t ≡ whole → behind ≡ behind_type t → after ≡ visit fun s.expr inside behind
      → visit fun next inside after ≡ whole
  statement_visited s e next inside t behind after whole is every taken has =
      ap (visit fun next inside) (has ∙ ap (visit fun s.expr inside) taken) ∙ sym (before_level s next inside t) ∙ ap (λ e. visit fun e inside t) (sym is) ∙ every

  pub last_visited : (e : Expr) (inside closed : Bool) (t behind after whole : Tour) → visit fun e inside t ≡ whole → behind ≡ entered fun (layer e) e inside t → closed ≡ (inside || is_closed (layer e)) → after ≡ within fun (layer e) closed behind
      → after ≡ whole
  last_visited e inside closed t behind after whole every entered_is closed_is has =
      has ∙ ap₂ (within fun (layer e)) closed_is entered_is ∙ sym (visit_level e inside t) ∙ every
