-- The nodes of an expression by those of its parts, and what is left behind several.
use Rattle.std.proofs.Common.{◌≡◌, ◌<◌, ◌≤◌, arith, refl, sym, ap, ap₂, ◌∙◌, ℕ, zero, suc, ◌+◌, ◌-◌, List, [], ◌∷◌, ◌++◌, map, flat_map, drop, get_or, length, Option, Some, None, Bool, true, false, nat_le, if◌then◌else◌}
use Rattle.std.proofs.Math.Seq.{drop-cons}
use Rattle.std.proofs.lemmas.Bool.Decides.{nat_tests}
use Rattle.std.proofs.lemmas.List.{drop_all}
use Rattle.lk_ast.specs.Functions.{function_named}
use Rattle.lk_ast.specs.Layers.{Layer, before, layer, statement_node}
use Rattle.lk_ast.specs.declared.declaration.FunDef.{FunDef}
use Rattle.lk_ast.specs.declared.declaration.Program.{Program}
use Rattle.lk_ast.specs.declared.expression.Case.{Case, fold-Case, fold_out-Case}
use Rattle.lk_ast.specs.declared.expression.ChangeExpr.{ChangeExpr, out-ChangeExpr, fold-ChangeExpr, fold_out-ChangeExpr}
use Rattle.lk_ast.specs.declared.expression.Expr.{Expr, fold_out-Expr}
use Rattle.lk_ast.specs.declared.expression.LambdaExpr.{LambdaExpr, fold-LambdaExpr, fold_out-LambdaExpr}
use Rattle.lk_ast.specs.declared.expression.LastCase.{LastCase, fold-LastCase, fold_out-LastCase}
use Rattle.lk_ast.specs.declared.expression.Node.{Node, out-Node, fold-Node, fold_out-Node}
use Rattle.lk_ast.specs.declared.expression.Node.TheFolds.{map-Node}
use Rattle.lk_ast.specs.declared.expression.Node.TheOpen.{Node-F}
use Rattle.lk_ast.specs.declared.expression.Node.TheVariants as node
use Rattle.lk_ast.specs.declared.expression.PartExpr.{PartExpr, fold-PartExpr, fold_out-PartExpr}
use Rattle.lk_ast.specs.declared.place.Word.{Word}
use Rattle.lk_ast.specs.declared.statements.Statement.{Statement}
use Rattle.lk_bodies.specs.Nodes.{case_nodes, change_nodes, counted, counted_function, expr_nodes, lambda_nodes, last_nodes, node_nodes, nodes, one, part_nodes, spent, total}
use Rattle.lk_bodies.specs.NodesInside.{all_nodes, cases_nodes, changed_nodes, inside, parts_nodes, some_nodes, spent_more}
use Rattle.lk_types.specs.Rows.{Label}

-- ---- what is left

pub spent_sum : (most m n : ℕ) → spent most (m + n) ≡ spent_more (spent most m) n
unfolding spent
spent_sum most m n = grind (arith, nat_tests)

pub more_sum : (left : Option ℕ) (m n : ℕ) → spent_more left (m + n) ≡ spent_more (spent_more left m) n
more_sum None m n = refl
more_sum (Some most) m n = spent_sum most m n

pub spent_none : (most : ℕ) → spent most 0 ≡ Some most
unfolding spent
spent_none most = grind (arith, nat_tests)

-- ---- a loop over a list, of which each element has so many

module _ {A : Type 0} (count : A → ℕ) (xs : List A) where
  -- one of them, and those behind it
  spent_item : (i left : ℕ) (x : A) → i < length xs → x ≡ get_or xs i x
      → spent left (total (map count (drop i xs))) ≡ spent_more (spent left (count x)) (total (map count (drop (i + 1) xs)))
  spent_item i left x below is =
      let next : suc i ≡ i + 1 = omega arith in
      let at : drop i xs ≡ x ∷ drop (i + 1) xs = drop-cons xs i x below ∙ ap₂ (λ y j. y ∷ drop j xs) (sym is) next in
      ap (λ ys. spent left (total (map count ys))) at ∙ spent_sum left (count x) (total (map count (drop (i + 1) xs)))

  pub item_stops : (i left : ℕ) (x : A) (whole : Option ℕ) → i < length xs → x ≡ get_or xs i x
      → spent left (total (map count (drop i xs))) ≡ whole → spent left (count x) ≡ None → None ≡ whole
  item_stops i left x whole below is all none =
      sym (ap (λ more. spent_more more (total (map count (drop (i + 1) xs)))) none) ∙ sym (spent_item i left x below is) ∙ all

  pub item_goes_on : (i left behind : ℕ) (x : A) (whole : Option ℕ) → i < length xs → x ≡ get_or xs i x
      → spent left (total (map count (drop i xs))) ≡ whole → spent left (count x) ≡ Some behind → spent behind (total (map count (drop (i + 1) xs))) ≡ whole
  item_goes_on i left behind x whole below is all some =
      sym (ap (λ more. spent_more more (total (map count (drop (i + 1) xs)))) some) ∙ sym (spent_item i left x below is) ∙ all

  pub items_end : (i left : ℕ) (whole : Option ℕ) → length xs ≤ i → spent left (total (map count (drop i xs))) ≡ whole → Some left ≡ whole
  items_end i left whole past all = sym (spent_none left) ∙ ap (λ ys. spent left (total (map count ys))) (sym (drop_all i xs past)) ∙ all

-- ---- expressions

module _ (calls : Label → ℕ) where
  abbrev of_node : Node → ℕ
  of_node = fold-Node ℕ ℕ ℕ ℕ ℕ ℕ ℕ (node_nodes calls) case_nodes change_nodes expr_nodes lambda_nodes last_nodes part_nodes

  abbrev of_case : Case → ℕ
  of_case = fold-Case ℕ ℕ ℕ ℕ ℕ ℕ ℕ (node_nodes calls) case_nodes change_nodes expr_nodes lambda_nodes last_nodes part_nodes

  abbrev of_change : ChangeExpr → ℕ
  of_change = fold-ChangeExpr ℕ ℕ ℕ ℕ ℕ ℕ ℕ (node_nodes calls) case_nodes change_nodes expr_nodes lambda_nodes last_nodes part_nodes

  abbrev of_lambda : LambdaExpr → ℕ
  of_lambda = fold-LambdaExpr ℕ ℕ ℕ ℕ ℕ ℕ ℕ (node_nodes calls) case_nodes change_nodes expr_nodes lambda_nodes last_nodes part_nodes

  abbrev of_last : LastCase → ℕ
  of_last = fold-LastCase ℕ ℕ ℕ ℕ ℕ ℕ ℕ (node_nodes calls) case_nodes change_nodes expr_nodes lambda_nodes last_nodes part_nodes

  abbrev of_part : PartExpr → ℕ
  of_part = fold-PartExpr ℕ ℕ ℕ ℕ ℕ ℕ ℕ (node_nodes calls) case_nodes change_nodes expr_nodes lambda_nodes last_nodes part_nodes

  abbrev with_nodes : Layer → Node-F ℕ ℕ ℕ ℕ ℕ ℕ ℕ
  with_nodes l = map-Node _ _ _ _ _ _ _ ℕ ℕ ℕ ℕ ℕ ℕ ℕ of_node of_case of_change (nodes calls) of_lambda of_last of_part l

  expr_level : (e : Expr) → nodes calls e ≡ 1 + of_node e.node
  unfolding nodes
  expr_level e = fold_out-Expr ℕ ℕ ℕ ℕ ℕ ℕ ℕ (node_nodes calls) case_nodes change_nodes expr_nodes lambda_nodes last_nodes part_nodes e

  node_level : (n : Node) → of_node n ≡ node_nodes calls (with_nodes (out-Node n))
  unfolding nodes
  node_level n = fold_out-Node ℕ ℕ ℕ ℕ ℕ ℕ ℕ (node_nodes calls) case_nodes change_nodes expr_nodes lambda_nodes last_nodes part_nodes n

  case_level : (case : Case) → of_case case ≡ nodes calls case.body
  unfolding nodes
  case_level case = fold_out-Case ℕ ℕ ℕ ℕ ℕ ℕ ℕ (node_nodes calls) case_nodes change_nodes expr_nodes lambda_nodes last_nodes part_nodes case

  lambda_level : (lambda : LambdaExpr) → of_lambda lambda ≡ nodes calls lambda.body
  unfolding nodes
  lambda_level lambda = fold_out-LambdaExpr ℕ ℕ ℕ ℕ ℕ ℕ ℕ (node_nodes calls) case_nodes change_nodes expr_nodes lambda_nodes last_nodes part_nodes lambda

  last_level : (last : LastCase) → of_last last ≡ nodes calls last.body
  unfolding nodes
  last_level last = fold_out-LastCase ℕ ℕ ℕ ℕ ℕ ℕ ℕ (node_nodes calls) case_nodes change_nodes expr_nodes lambda_nodes last_nodes part_nodes last

  part_level : (part : PartExpr) → of_part part ≡ nodes calls part.expr
  unfolding nodes
  part_level part = fold_out-PartExpr ℕ ℕ ℕ ℕ ℕ ℕ ℕ (node_nodes calls) case_nodes change_nodes expr_nodes lambda_nodes last_nodes part_nodes part

  parts_are : (parts : List PartExpr) → total (map of_part parts) ≡ parts_nodes calls parts
  parts_are [] = refl
  parts_are (part ∷ parts) = ap₂ (λ m n. m + n) (part_level part) (parts_are parts)

  change_level : (change : ChangeExpr) → of_change change ≡ changed_nodes calls change
  unfolding nodes
  change_level change =
      fold_out-ChangeExpr ℕ ℕ ℕ ℕ ℕ ℕ ℕ (node_nodes calls) case_nodes change_nodes expr_nodes lambda_nodes last_nodes part_nodes change
      ∙ ap (λ n. nodes calls (out-ChangeExpr change).cond + n) (parts_are (out-ChangeExpr change).sets)

  -- each by itself, and then those behind
  one_by_one : {A : Type 0} (count : A → ℕ) (xs : List A) (behind : List ℕ) → total (flat_map one (map count xs) ++ behind) ≡ total (map count xs) + total behind
  one_by_one count [] behind = omega arith
  one_by_one count (x ∷ xs) behind = ap (λ n. count x + n) (one_by_one count xs behind) ∙ omega arith

  each_is : {A : Type 0} (count : A → ℕ) (xs : List A) → total (flat_map one (map count xs)) ≡ total (map count xs)
  each_is count [] = refl
  each_is count (x ∷ xs) = ap (λ n. count x + n) (each_is count xs)

  cases_are : (cases : List Case) → total (map of_case cases) ≡ cases_nodes calls cases
  cases_are [] = refl
  cases_are (case ∷ cases) = ap₂ (λ m n. m + n) (case_level case) (cases_are cases)

  -- fields, and the record behind them
  in_extended : (parts : List PartExpr) (e : Expr) → total (flat_map one (map of_part parts) ++ one (nodes calls e)) ≡ parts_nodes calls parts + nodes calls e
  in_extended parts e =
      let first = one_by_one of_part parts (one (nodes calls e)) in
      let fields = parts_are parts in
      omega arith

  in_switch : (e : Expr) (cases : List Case) (last : List ℕ) (final : ℕ) → total last ≡ final
      → nodes calls e + total (flat_map one (map of_case cases) ++ last) ≡ nodes calls e + (cases_nodes calls cases + final)
  in_switch e cases last final is =
      let first = one_by_one of_case cases last in
      let bodies = cases_are cases in
      omega arith

  alone : (m n : ℕ) → m ≡ n → total (one m) ≡ n
  alone m n is = omega arith

  in_three : (a b c : ℕ) → total (a ∷ b ∷ c ∷ []) ≡ a + (b + c)
  in_three a b c = omega arith

  pair : (a b : ℕ) → total (a ∷ b ∷ []) ≡ a + b
  pair a b = omega arith

  by_parts : (l : Layer) → node_nodes calls (with_nodes l) ≡ inside calls l
  by_parts (Node-F.Lambda lambda) = alone _ _ (lambda_level lambda)
  by_parts (Node-F.Call g args) = refl
  by_parts (Node-F.Apply f args) = ap (λ n. nodes calls f + n) (each_is (nodes calls) args)
  by_parts (Node-F.If c d e) = in_three (nodes calls c) (nodes calls d) (nodes calls e)
  by_parts (Node-F.Record parts) = each_is of_part parts ∙ parts_are parts
  by_parts (Node-F.Extend parts e) = in_extended parts e
  by_parts (Node-F.List items) = each_is (nodes calls) items
  by_parts (Node-F.Switch e cases None) = in_switch e cases [] 0 refl
  by_parts (Node-F.Switch e cases (Some last)) = in_switch e cases (one (of_last last)) (nodes calls last.body) (alone _ _ (last_level last))
  by_parts (Node-F.Update change) = alone _ _ (change_level change)
  by_parts (Node-F.Delete change) = alone _ _ (change_level change)
  by_parts other = refl

  pub nodes_level : (e : Expr) → nodes calls e ≡ 1 + inside calls (layer e)
  nodes_level e = expr_level e ∙ ap (λ n. 1 + n) (node_level e.node ∙ by_parts (layer e))

  -- a statement, and what follows
  pub before_level : (s : Statement) (next : Expr) → nodes calls (before s next) ≡ 1 + (nodes calls s.expr + nodes calls next)
  before_level s next = nodes_level _ ∙ by_name s.name s.expr next
    where
      by_name : (name : Option Word) (bound next : Expr) → 1 + inside calls (out-Node (statement_node name bound next)) ≡ 1 + (nodes calls bound + nodes calls next)
      by_name None bound next = ap (λ l. 1 + inside calls l) (node.outs-Seq bound next) ∙ ap (λ n. 1 + n) (pair (nodes calls bound) (nodes calls next))
      by_name (Some x) bound next = ap (λ l. 1 + inside calls l) (node.outs-Var x bound next) ∙ ap (λ n. 1 + n) (pair (nodes calls bound) (nodes calls next))

  spent_level : (most : ℕ) (e : Expr) → spent most (nodes calls e) ≡ spent_more (spent most 1) (inside calls (layer e))
  spent_level most e = ap (spent most) (nodes_level e) ∙ spent_sum most 1 (inside calls (layer e))

  spent_before : (most : ℕ) (s : Statement) (e next : Expr) → e ≡ before s next
      → spent most (nodes calls e) ≡ spent_more (spent_more (spent most 1) (nodes calls s.expr)) (nodes calls next)
  spent_before most s e next is =
      ap (λ e. spent most (nodes calls e)) is
      ∙ ap (spent most) (before_level s next)
      ∙ spent_sum most 1 (nodes calls s.expr + nodes calls next)
      ∙ more_sum (spent most 1) (nodes calls s.expr) (nodes calls next)

  -- nothing is left for the node of a statement, nor for its expression, or there is something left behind it
  pub statement_stops : (left : ℕ) (s : Statement) (e next : Expr) (whole : Option ℕ) → e ≡ before s next
      → spent left (nodes calls e) ≡ whole → spent left 1 ≡ None → None ≡ whole
  statement_stops left s e next whole is all none =
      sym (ap (λ more. spent_more (spent_more more (nodes calls s.expr)) (nodes calls next)) none) ∙ sym (spent_before left s e next is) ∙ all

  pub statement_stops_inside : (left behind : ℕ) (s : Statement) (e next : Expr) (whole : Option ℕ) → e ≡ before s next
      → spent left (nodes calls e) ≡ whole → spent left 1 ≡ Some behind → spent behind (nodes calls s.expr) ≡ None → None ≡ whole
  statement_stops_inside left behind s e next whole is all some none =
      sym (ap (λ more. spent_more (spent_more more (nodes calls s.expr)) (nodes calls next)) some ∙ ap (λ more. spent_more more (nodes calls next)) none)
      ∙ sym (spent_before left s e next is) ∙ all

  pub statement_goes_on : (left behind after : ℕ) (s : Statement) (e next : Expr) (whole : Option ℕ) → e ≡ before s next
      → spent left (nodes calls e) ≡ whole → spent left 1 ≡ Some behind → spent behind (nodes calls s.expr) ≡ Some after → spent after (nodes calls next) ≡ whole
  statement_goes_on left behind after s e next whole is all some more =
      sym (ap (λ more. spent_more (spent_more more (nodes calls s.expr)) (nodes calls next)) some ∙ ap (λ more. spent_more more (nodes calls next)) more)
      ∙ sym (spent_before left s e next is) ∙ all

  -- nothing is left for the last expression's node, or there is something left for what stands inside it
  pub last_stops : (left : ℕ) (e : Expr) (whole : Option ℕ) → spent left (nodes calls e) ≡ whole → spent left 1 ≡ None → None ≡ whole
  last_stops left e whole all none = sym (ap (λ more. spent_more more (inside calls (layer e))) none) ∙ sym (spent_level left e) ∙ all

  pub last_goes_on : (left behind : ℕ) (e : Expr) (whole : Option ℕ) → spent left (nodes calls e) ≡ whole → spent left 1 ≡ Some behind
      → spent behind (inside calls (layer e)) ≡ whole
  last_goes_on left behind e whole all some = sym (ap (λ more. spent_more more (inside calls (layer e))) some) ∙ sym (spent_level left e) ∙ all

-- ---- calls

module _ (p : Program) where
  pub counted_not : (n : ℕ) (g : Label) → n ≡ 0 → counted p n g ≡ 0
  unfolding counted
  counted_not zero g is = refl
  counted_not (suc n) g is = absurd (omega arith)

  pub counted_nobody : (n : ℕ) (g : Label) → function_named p g ≡ None → counted p n g ≡ 0
  unfolding counted
  counted_nobody zero g is = refl
  counted_nobody (suc n) g is = ap (counted_function p (counted p n)) is

  pub counted_body : (n m : ℕ) (g : Label) (f : FunDef) → n ≡ suc m → function_named p g ≡ Some f → counted p n g ≡ nodes (counted p m) f.body
  unfolding counted
  counted_body n m g f more is = ap (λ n. counted p n g) more ∙ ap (counted_function p (counted p m)) is
