-- One level of what a query gives, form by form.
use Rattle.std.proofs.Common.{◌≡◌, arith, zero, suc, refl, ap, ap₂, ◌∙◌, ℕ, List, [], ◌∷◌, ◌++◌, map, flat_map, Option, Some, None, Bool, true, false}
use Rattle.std.specs.Prelude.{if◌then◌else◌}
use Rattle.lk_ast.specs.Children.{exprs_of}
use Rattle.lk_ast.specs.Functions.{function_named}
use Rattle.lk_ast.specs.Layers.{Layer, before, layer}
use Rattle.lk_ast.specs.Tables.{Tables}
use Rattle.lk_ast.specs.declared.declaration.FunDef.{FunDef}
use Rattle.lk_ast.specs.declared.declaration.Program.{Program}
use Rattle.lk_ast.specs.declared.expression.Expr.{Expr}
use Rattle.lk_ast.specs.declared.expression.Node.TheOpen.{Node-F}
use Rattle.lk_ast.specs.declared.expression.Node.TheVariants as node
use Rattle.lk_ast.specs.declared.expression.PartExpr.{PartExpr}
use Rattle.lk_ast.specs.declared.place.Span.{Span}
use Rattle.lk_ast.specs.declared.place.Word.{Word}
use Rattle.lk_ast.specs.declared.value.Value.{Value}
use Rattle.lk_ast.specs.declared.value.Value.TheVariants as value
use Rattle.lk_bag.specs.Bag.{Gives, called, called_function, chosen, entered, value_of, given, level, parts_given}
use Rattle.lk_bag.specs.Change.{is_true}
use Rattle.lk_bag.specs.Forms.{all_given, form_given, operands}
use Rattle.lk_bag.proofs.Given.{beside, given_level, of_part, part_level}
use Rattle.lk_locals.specs.Names.{Names, bind, bind_all, no_names}
use Rattle.lk_operators.specs.Operators.{operated}

abbrev own : Expr × Gives → List Gives
own part = part.1 ∷ []

abbrev own_part : PartExpr × Gives → List Gives
own_part part = part.1 ∷ []

-- which of two is chosen
pub chosen_by : (b : Option Bool) (v w : Value) → chosen b v w ≡ if is_true b then v else w
chosen_by (Some true) v w = refl
chosen_by (Some false) v w = refl
chosen_by None v w = refl

module _ (tables : Tables) (calls : List ℕ → List Value → Value) where
  args_given : (es : List Expr) (names : Names) → map (λ (arg : Expr × Gives). arg.1 names) (map (λ n. (n, given tables calls n)) es) ≡ all_given tables calls es names
  args_given [] names = refl
  args_given (e ∷ es) names = ap (λ vs. given tables calls e names ∷ vs) (args_given es names)

  exprs_given : (es : List Expr) (names : Names) → map (λ (gives : Gives). gives names) (flat_map own (map (λ (n : Expr). (n, given tables calls n)) es)) ≡ all_given tables calls es names
  exprs_given [] names = refl
  exprs_given (e ∷ es) names = ap (λ vs. given tables calls e names ∷ vs) (exprs_given es names)

  fields_given : (parts : List PartExpr) (names : Names) → map (λ (gives : Gives). gives names) (flat_map own_part (map (λ n. (n, of_part tables calls n)) parts)) ≡ all_given tables calls (exprs_of parts) names
  fields_given [] names = refl
  fields_given (part ∷ parts) names = ap₂ (λ v vs. v ∷ vs) (part_level tables calls part names) (fields_given parts names)

  -- fields, and the record behind them
  extension_given : (parts : List PartExpr) (e : Expr) (names : Names)
      → map (λ (gives : Gives). gives names) (flat_map own_part (map (λ n. (n, of_part tables calls n)) parts) ++ given tables calls e ∷ []) ≡ all_given tables calls (exprs_of parts ++ e ∷ []) names
  extension_given [] e names = refl
  extension_given (part ∷ parts) e names = ap₂ (λ v vs. v ∷ vs) (part_level tables calls part names) (extension_given parts e names)

  form_level : (l : Layer) (names : Names) → level tables calls (beside tables calls l) l names ≡ form_given tables calls l names
  form_level (Node-F.Call g args) names = ap (calls g.text) (args_given args names)
  form_level (Node-F.List es) names = ap (λ vs. value_of (operated (Node-F.List es) vs)) (exprs_given es names)
  form_level (Node-F.Record parts) names = ap (λ vs. value_of (operated (Node-F.Record parts) vs)) (fields_given parts names)
  form_level (Node-F.Extend parts e) names = ap (λ vs. value_of (operated (Node-F.Extend parts e) vs)) (extension_given parts e names)
  form_level other names = refl

  pub given_by_form : (e : Expr) (names : Names) → given tables calls e names ≡ form_given tables calls (layer e) names
  given_by_form e names = given_level tables calls e names ∙ form_level (layer e) names

  -- a block whose first statement binds a name, and one whose first statement doesn't
  pub given_behind_name : (e : Expr) (span : Span) (x : Word) (first rest : Expr) (names : Names)
      → e ≡ before (record { span = span; name = Some x; expr = first }) rest → given tables calls e names ≡ given tables calls rest (bind x.text (given tables calls first names) names)
  given_behind_name e span x first rest names is =
      ap (λ e. given tables calls e names) is
      ∙ given_by_form (before (record { span = span; name = Some x; expr = first }) rest) names
      ∙ ap (λ l. form_given tables calls l names) (node.outs-Var x first rest)

  pub given_behind_none : (e : Expr) (span : Span) (first rest : Expr) (names : Names)
      → e ≡ before (record { span = span; name = None; expr = first }) rest → given tables calls e names ≡ given tables calls rest names
  given_behind_none e span first rest names is =
      ap (λ e. given tables calls e names) is
      ∙ given_by_form (before (record { span = span; name = None; expr = first }) rest) names
      ∙ ap (λ l. form_given tables calls l names) (node.outs-Seq first rest)

-- ---- calls

module _ (p : Program) (tables : Tables) where
  -- no call may stand in what gives this
  pub called_not : (n : ℕ) (g : List ℕ) (args : List Value) → n ≡ 0 → called p tables n g args ≡ value.List []
  unfolding called
  called_not zero g args is = refl
  called_not (suc n) g args is = absurd (omega arith)

  -- no function has that name
  pub called_nobody : (n : ℕ) (g : List ℕ) (args : List Value) → function_named p g ≡ None → called p tables n g args ≡ value.List []
  unfolding called
  called_nobody zero g args is = refl
  called_nobody (suc n) g args is = ap (λ f. called_function p tables (called p tables n) f args) is

  pub called_body : (n m : ℕ) (g : List ℕ) (args : List Value) (f : FunDef) → n ≡ suc m → function_named p g ≡ Some f
      → called p tables n g args ≡ entered (given tables (called p tables m) f.body) (bind_all no_names f.params args)
  unfolding called
  called_body n m g args f more is = ap (λ n. called p tables n g args) more ∙ ap (λ f. called_function p tables (called p tables m) f args) is
