-- What an expression gives, by what its parts give: one level of the definition, and a line for each form that a query has.
use Rattle.std.proofs.Common.{◌≡◌, refl, sym, ap, ap₂, ◌∙◌, ℕ, Bool, true, false, List, [], ◌∷◌, ◌++◌, map, flat_map, unwrap_or}
use Rattle.lk_ast.specs.Children.{children}
use Rattle.lk_ast.specs.Layers.{Layer, layer}
use Rattle.lk_ast.specs.Rows.{rows_value}
use Rattle.lk_ast.specs.Tables.{Tables}
use Rattle.lk_ast.specs.declared.expression.Case.{Case, para-Case}
use Rattle.lk_ast.specs.declared.expression.ChangeExpr.{ChangeExpr, para-ChangeExpr}
use Rattle.lk_ast.specs.declared.expression.Expr.{Expr, Expr-F, para-roll-Expr}
use Rattle.lk_ast.specs.declared.expression.LambdaExpr.{LambdaExpr, para-LambdaExpr}
use Rattle.lk_ast.specs.declared.expression.LastCase.{LastCase, para-LastCase}
use Rattle.lk_ast.specs.declared.expression.Node.{Node, out-Node, roll-Node, roll-out-Node, para-Node, para-roll-Node}
use Rattle.lk_ast.specs.declared.expression.Node.TheFolds.{map-Node}
use Rattle.lk_ast.specs.declared.expression.Node.TheOpen.{Node-F, PartExpr-F}
use Rattle.lk_ast.specs.declared.expression.PartExpr.{PartExpr, para-PartExpr, para-roll-PartExpr}
use Rattle.lk_ast.specs.declared.expression.SortKey.{SortKey}
use Rattle.lk_ast.specs.declared.place.Word.{Word}
use Rattle.lk_ast.specs.declared.value.Value.{Value}
use Rattle.lk_ast.specs.declared.value.Value.TheVariants as value
use Rattle.lk_bag.specs.Bag.{Gives, Level, value_of, items, chosen, parts_given, for_each, level, given}
use Rattle.lk_locals.specs.Names.{Names, bind, lookup}
use Rattle.lk_operators.specs.Operators.{operated}
use Rattle.lk_operators.specs.Values.{bool_in, truth, unit}

-- ---- the nodes that are operations on the values of their parts

-- whether what the node gives is what its operation comes to
abbrev pub is_operation : Layer → Bool
is_operation (Node-F.Name x) = false
is_operation (Node-F.Call g args) = false
is_operation (Node-F.Var x e rest) = false
is_operation (Node-F.Seq e rest) = false
is_operation (Node-F.If c d e) = false
is_operation (Node-F.And a b) = false
is_operation (Node-F.Or a b) = false
is_operation (Node-F.Where c e) = false
is_operation (Node-F.ForList x e body) = false
is_operation (Node-F.ForTable x rows body) = false
is_operation (Node-F.Table t) = false
is_operation (Node-F.Query keys e) = false
is_operation (Node-F.Switch e cases last) = false
is_operation other = true

-- the parts of an operation, in text order
abbrev pub operands : Layer → List Expr
operands l = children (λ e. e ∷ []) (λ case. []) (λ change. []) (λ lambda. []) (λ last. []) (λ (part : PartExpr). part.expr ∷ []) l

module _ (tables : Tables) (calls : List ℕ → List Value → Value) where
  -- ---- one level, each part with what it gives, as the definition has it

  abbrev expr_given : Expr-F (Node × (Layer → Gives)) (Case × (Unit {0})) (ChangeExpr × (Unit {0})) (Expr × Gives) (LambdaExpr × (Unit {0})) (LastCase × (Unit {0})) (PartExpr × Gives) → Gives
  expr_given e = e.node.1 (out-Node e.node.0)

  abbrev part_given : PartExpr-F (Node × (Layer → Gives)) (Case × (Unit {0})) (ChangeExpr × (Unit {0})) (Expr × Gives) (LambdaExpr × (Unit {0})) (LastCase × (Unit {0})) (PartExpr × Gives) → Gives
  part_given part = part.expr.1

  abbrev of_node : Node → Layer → Gives
  of_node = para-Node (Layer → Gives) (Unit {0}) (Unit {0}) Gives (Unit {0}) (Unit {0}) Gives (level tables calls) (λ case. tt) (λ change. tt) expr_given (λ lambda. tt) (λ last. tt) part_given

  abbrev of_case : Case → Unit {0}
  of_case = para-Case (Layer → Gives) (Unit {0}) (Unit {0}) Gives (Unit {0}) (Unit {0}) Gives (level tables calls) (λ case. tt) (λ change. tt) expr_given (λ lambda. tt) (λ last. tt) part_given

  abbrev of_change : ChangeExpr → Unit {0}
  of_change = para-ChangeExpr (Layer → Gives) (Unit {0}) (Unit {0}) Gives (Unit {0}) (Unit {0}) Gives (level tables calls) (λ case. tt) (λ change. tt) expr_given (λ lambda. tt) (λ last. tt) part_given

  abbrev of_lambda : LambdaExpr → Unit {0}
  of_lambda = para-LambdaExpr (Layer → Gives) (Unit {0}) (Unit {0}) Gives (Unit {0}) (Unit {0}) Gives (level tables calls) (λ case. tt) (λ change. tt) expr_given (λ lambda. tt) (λ last. tt) part_given

  abbrev of_last : LastCase → Unit {0}
  of_last = para-LastCase (Layer → Gives) (Unit {0}) (Unit {0}) Gives (Unit {0}) (Unit {0}) Gives (level tables calls) (λ case. tt) (λ change. tt) expr_given (λ lambda. tt) (λ last. tt) part_given

  abbrev pub of_part : PartExpr → Gives
  of_part = para-PartExpr (Layer → Gives) (Unit {0}) (Unit {0}) Gives (Unit {0}) (Unit {0}) Gives (level tables calls) (λ case. tt) (λ change. tt) expr_given (λ lambda. tt) (λ last. tt) part_given

  abbrev pub beside : Layer → Level
  beside l = map-Node _ _ _ _ _ _ _ _ _ _ _ _ _ _ (λ n. (n, of_node n)) (λ n. (n, of_case n)) (λ n. (n, of_change n)) (λ n. (n, given tables calls n)) (λ n. (n, of_lambda n)) (λ n. (n, of_last n)) (λ n. (n, of_part n)) l

  roll_level : (l : Layer) → of_node (roll-Node l) ≡ level tables calls (beside l)
  unfolding given
  roll_level l = para-roll-Node (Layer → Gives) (Unit {0}) (Unit {0}) Gives (Unit {0}) (Unit {0}) Gives (level tables calls) (λ case. tt) (λ change. tt) expr_given (λ lambda. tt) (λ last. tt) part_given l

  expr_level : (e : Expr) (names : Names) → given tables calls e names ≡ of_node e.node (layer e) names
  unfolding given
  expr_level e names =
      ap (λ f. f names) (para-roll-Expr (Layer → Gives) (Unit {0}) (Unit {0}) Gives (Unit {0}) (Unit {0}) Gives (level tables calls) (λ case. tt) (λ change. tt) expr_given (λ lambda. tt) (λ last. tt) part_given (record { span = e.span; node = e.node }))

  pub part_level : (part : PartExpr) (names : Names) → of_part part names ≡ given tables calls part.expr names
  unfolding given
  part_level part names =
      ap (λ f. f names) (para-roll-PartExpr (Layer → Gives) (Unit {0}) (Unit {0}) Gives (Unit {0}) (Unit {0}) Gives (level tables calls) (λ case. tt) (λ change. tt) expr_given (λ lambda. tt) (λ last. tt) part_given (record { label = part.label; expr = part.expr }))

  pub given_level : (e : Expr) (names : Names) → given tables calls e names ≡ level tables calls (beside (layer e)) (layer e) names
  given_level e names = expr_level e names ∙ ap (λ n. of_node n (layer e) names) (sym (roll-out-Node e.node)) ∙ ap (λ f. f (layer e) names) (roll_level (layer e))

  given_form : (e : Expr) (l : Layer) (names : Names) → layer e ≡ l → given tables calls e names ≡ level tables calls (beside l) l names
  given_form e l names is = given_level e names ∙ ap (λ m. level tables calls (beside m) m names) is

  -- ---- parts one after another

  abbrev pub all_given : Names → List Expr → List Value
  all_given names es = map (λ part. given tables calls part names) es

  args_given : (es : List Expr) (names : Names) → map (λ (arg : Expr × Gives). arg.1 names) (map (λ n. (n, given tables calls n)) es) ≡ all_given names es
  args_given [] names = refl
  args_given (e ∷ es) names = ap (λ vs. given tables calls e names ∷ vs) (args_given es names)

  abbrev own : Expr × Gives → List Gives
  own part = part.1 ∷ []

  abbrev own_part : PartExpr × Gives → List Gives
  own_part part = part.1 ∷ []

  exprs_given : (es : List Expr) (names : Names) → map (λ gives. gives names) (flat_map own (map (λ n. (n, given tables calls n)) es)) ≡ all_given names (flat_map (λ e. e ∷ []) es)
  exprs_given [] names = refl
  exprs_given (e ∷ es) names = ap (λ vs. given tables calls e names ∷ vs) (exprs_given es names)

  fields_given : (parts : List PartExpr) (names : Names) → map (λ gives. gives names) (flat_map own_part (map (λ n. (n, of_part n)) parts)) ≡ all_given names (flat_map (λ (part : PartExpr). part.expr ∷ []) parts)
  fields_given [] names = refl
  fields_given (part ∷ parts) names = ap₂ (λ v vs. v ∷ vs) (part_level part names) (fields_given parts names)

  -- fields, and the record before which they stand
  extension_given : (parts : List PartExpr) (e : Expr) (names : Names)
      → map (λ gives. gives names) (flat_map own_part (map (λ n. (n, of_part n)) parts) ++ given tables calls e ∷ []) ≡ all_given names (flat_map (λ (part : PartExpr). part.expr ∷ []) parts ++ e ∷ [])
  extension_given [] e names = refl
  extension_given (part ∷ parts) e names = ap₂ (λ v vs. v ∷ vs) (part_level part names) (extension_given parts e names)

  -- ---- operations

  operation_level : (l : Layer) (names : Names) → is_operation l ≡ true → level tables calls (beside l) l names ≡ value_of (operated l (parts_given (beside l) names))
  operation_level (Node-F.Name x) names is = absurd cc
  operation_level (Node-F.Call g args) names is = absurd cc
  operation_level (Node-F.Var x e rest) names is = absurd cc
  operation_level (Node-F.Seq e rest) names is = absurd cc
  operation_level (Node-F.If c d e) names is = absurd cc
  operation_level (Node-F.And a b) names is = absurd cc
  operation_level (Node-F.Or a b) names is = absurd cc
  operation_level (Node-F.Where c e) names is = absurd cc
  operation_level (Node-F.ForList x e body) names is = absurd cc
  operation_level (Node-F.ForTable x rows body) names is = absurd cc
  operation_level (Node-F.Table t) names is = absurd cc
  operation_level (Node-F.Query keys e) names is = absurd cc
  operation_level (Node-F.Switch e cases last) names is = absurd cc
  operation_level other names is = refl

  operands_given : (l : Layer) (names : Names) → is_operation l ≡ true → parts_given (beside l) names ≡ all_given names (operands l)
  operands_given (Node-F.Call g args) names is = exprs_given args names
  operands_given (Node-F.Apply f args) names is = ap (λ vs. given tables calls f names ∷ vs) (exprs_given args names)
  operands_given (Node-F.List es) names is = exprs_given es names
  operands_given (Node-F.Record fields) names is = fields_given fields names
  operands_given (Node-F.Extend fields e) names is = extension_given fields e names
  operands_given (Node-F.Switch e cases last) names is = absurd cc
  operands_given other names is = refl

  -- what an operation gives
  pub given_operation : (e : Expr) (l : Layer) (names : Names) → layer e ≡ l → is_operation l ≡ true → given tables calls e names ≡ value_of (operated l (all_given names (operands l)))
  given_operation e l names is operation = given_form e l names is ∙ operation_level l names operation ∙ ap (λ vs. value_of (operated l vs)) (operands_given l names operation)

  -- ---- each other form

  pub given_name : (e : Expr) (x : List ℕ) (names : Names) → layer e ≡ Node-F.Name x → given tables calls e names ≡ unwrap_or (lookup names x) unit
  given_name e x names is = given_form e _ names is

  pub given_call : (e : Expr) (g : Word) (args : List Expr) (names : Names) → layer e ≡ Node-F.Call g args → given tables calls e names ≡ calls g.text (all_given names args)
  given_call e g args names is = given_form e _ names is ∙ ap (calls g.text) (args_given args names)

  pub given_var : (e : Expr) (x : Word) (d rest : Expr) (names : Names) → layer e ≡ Node-F.Var x d rest → given tables calls e names ≡ given tables calls rest (bind x.text (given tables calls d names) names)
  given_var e x d rest names is = given_form e _ names is

  pub given_seq : (e d rest : Expr) (names : Names) → layer e ≡ Node-F.Seq d rest → given tables calls e names ≡ given tables calls rest names
  given_seq e d rest names is = given_form e _ names is

  pub given_if : (e c a b : Expr) (names : Names) → layer e ≡ Node-F.If c a b → given tables calls e names ≡ chosen (bool_in (given tables calls c names)) (given tables calls a names) (given tables calls b names)
  given_if e c a b names is = given_form e _ names is

  pub given_and : (e a b : Expr) (names : Names) → layer e ≡ Node-F.And a b → given tables calls e names ≡ chosen (bool_in (given tables calls a names)) (given tables calls b names) (truth false)
  given_and e a b names is = given_form e _ names is

  pub given_or : (e a b : Expr) (names : Names) → layer e ≡ Node-F.Or a b → given tables calls e names ≡ chosen (bool_in (given tables calls a names)) (truth true) (given tables calls b names)
  given_or e a b names is = given_form e _ names is

  pub given_where : (e c d : Expr) (names : Names) → layer e ≡ Node-F.Where c d → given tables calls e names ≡ chosen (bool_in (given tables calls c names)) (given tables calls d names) (value.List [])
  given_where e c d names is = given_form e _ names is

  pub given_for_list : (e : Expr) (x : Word) (d body : Expr) (names : Names) → layer e ≡ Node-F.ForList x d body → given tables calls e names ≡ for_each x.text (items (given tables calls d names)) (given tables calls body) names
  given_for_list e x d body names is = given_form e _ names is

  pub given_for_table : (e : Expr) (x : Word) (rows body : Expr) (names : Names) → layer e ≡ Node-F.ForTable x rows body → given tables calls e names ≡ for_each x.text (items (given tables calls rows names)) (given tables calls body) names
  given_for_table e x rows body names is = given_form e _ names is

  pub given_table : (e : Expr) (t : Word) (names : Names) → layer e ≡ Node-F.Table t → given tables calls e names ≡ rows_value (tables t.text)
  given_table e t names is = given_form e _ names is

  pub given_query : (e : Expr) (keys : List SortKey) (body : Expr) (names : Names) → layer e ≡ Node-F.Query keys body → given tables calls e names ≡ given tables calls body names
  given_query e keys body names is = given_form e _ names is
