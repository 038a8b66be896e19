-- What the operators of a query give where their parts give values of their types, and calls values of the answers' types.
use Rattle.std.proofs.Common.{◌≡◌, refl, sym, ap, subst, ◌∙◌, ℕ, Bool, true, false, List, [], ◌∷◌, map, flat_map, Some, unwrap_or}
use Rattle.std.proofs.lemmas.Bool.{both_ways}
use Rattle.lk_ast.specs.Layers.{Layer, layer}
use Rattle.lk_ast.specs.Tables.{Tables, tables_of}
use Rattle.lk_ast.specs.declared.declaration.Program.{Program}
use Rattle.lk_ast.specs.declared.expression.Expr.{Expr}
use Rattle.lk_ast.specs.declared.expression.Node.TheOpen.{Node-F}
use Rattle.lk_ast.specs.declared.place.Word.{Word}
use Rattle.lk_ast.specs.declared.table.BaseKind.TheVariants as kind
use Rattle.lk_ast.specs.declared.value.Value.{Value}
use Rattle.lk_ast.specs.declared.value.Value.TheVariants as value
use Rattle.lk_bag.proofs.Given as given_forms
use Rattle.lk_bag.proofs.Given.{is_operation, operands, all_given, given_operation}
use Rattle.lk_bag.specs.Bag.{value_of, items, chosen, given}
use Rattle.lk_ground_types.specs.Shapes.{is_query_type}
use Rattle.lk_locals.specs.Names.{Names}
use Rattle.lk_operators.specs.Operators.{operated}
use Rattle.lk_operators.specs.Values.{bool_in, truth, unit as unit_value}
use Rattle.lk_operators.specs.declared.outcome.Outcome.{Outcome}
use Rattle.lk_operators.specs.declared.outcome.Outcome.TheVariants as outcome
use Rattle.lk_sound.proofs.FlatTypes.{function_not_flat, unit_not_flat}
use Rattle.lk_sound.proofs.Fitting.{all_fit_both}
use Rattle.lk_types.proofs.Members.{each_in}
use Rattle.lk_sound.proofs.Operators as operators
use Rattle.lk_sound.proofs.QueryParts.{operands_are, IsEarly}
use Rattle.lk_sound.proofs.Results.{IsResult}
use Rattle.lk_sound.proofs.Shapes.{bool_of_fits, list_of_fits, truth_fits, list_fits}
use Rattle.lk_sound.proofs.TableRows.{rows_of_table}
use Rattle.lk_sound.specs.Instances.{Instances, IsHelperNode, HasBody, AreClosed}
use Rattle.lk_sound.specs.Nodes.{Use, used_by}
use Rattle.lk_sound.specs.Points.{AreLocals}
use Rattle.lk_sound.specs.Tables.{AreTables}
use Rattle.lk_sound.specs.Values.{Fits, AllFit, FitEach, none_left, one_more}
use Rattle.lk_sound.specs.Values as fitting
use Rattle.lk_types.specs.Each.{Each}
use Rattle.lk_types.specs.Rows.{Label, EffectSet}
use Rattle.lk_types.specs.declared.ground.Ground.{Ground}
use Rattle.lk_types.specs.declared.ground.Ground.TheVariants as known
use Rattle.lk_types.specs.declared.ty.Effect.TheVariants as effect
use Rattle.lk_typing.specs.Heads as operator
use Rattle.lk_typing.specs.Heads.{Head, head, parts}
use Rattle.lk_typing.specs.Names.{Named, types_of, Entry}
use Rattle.lk_typing.specs.Rules.{Rule}
use Rattle.lk_typing.specs.Rules as rule
use Rattle.lk_typing.specs.Types.{record_of, function_of}
use Rattle.lk_typing.specs.Typing.{label_of, expr_of}

-- helpers among the first so many functions give values of their types
abbrev pub CallsFit : Program → Instances → (List ℕ → List Value → Value) → ℕ → Type 0
CallsFit p i calls n = (u : Use) → IsEarly p i.helpers n u → (ts : List Ground) (effects : EffectSet) (a : Ground) → u.type ≡ function_of ts effects a
    → effects effect.Local ≡ false → effects effect.Trap ≡ false → (args : List Value) → FitEach p i args ts → Fits p i (calls u.name args) a

-- ---- values that are chosen, and lists one behind the other

module _ (p : Program) (i : Instances) where
  chosen_fits : (c v w : Value) (t : Ground) → Fits p i c known.Bool → Fits p i v t → Fits p i w t → Fits p i (chosen (bool_in c) v w) t
  chosen_fits c v w t test one other =
      let found : (b : Bool) × (bool_in c ≡ Some b) = bool_of_fits p i c test in
      subst (λ o. Fits p i (chosen o v w) t) (sym found.1) (by_test found.0)
    where
      by_test : (b : Bool) → Fits p i (chosen (Some b) v w) t
      by_test true = one
      by_test false = other

  pub items_fit : (v : Value) (a : Ground) → Fits p i v (known.List a) → AllFit p i (items v) a
  items_fit v a fits = let found = list_of_fits p i v a fits in subst (λ o. AllFit p i (unwrap_or o []) a) (sym found.1) found.2

  pub each_items : (f : Value → Value) (a b : Ground) → ((v : Value) → Fits p i v a → Fits p i (f v) (known.List b)) → (values : List Value) → AllFit p i values a → AllFit p i (flat_map (λ v. items (f v)) values) b
  each_items f a b fits [] fitting.none = fitting.none
  each_items f a b fits (v ∷ values) (fitting.more fit all) = all_fit_both p i (items (f v)) (flat_map (λ w. items (f w)) values) b (items_fit (f v) b (fits v fit)) (each_items f a b fits values all)

  outcome_fits : (effects : EffectSet) (t : Ground) (o : Outcome) → effects effect.Trap ≡ false → IsResult p i effects t o → Fits p i (value_of o) t
  outcome_fits effects t (outcome.Value v) traps result = result
  outcome_fits effects t (outcome.Trap trap) traps result = absurd (both_ways (effects effect.Trap) traps result)
  outcome_fits effects t outcome.NoRule traps result = absurd result

-- ---- queries

module _ (p : Program) (i : Instances) (closed : AreClosed p i) (tables : Tables) (rows : AreTables p tables) (calls : List ℕ → List Value → Value) (n : ℕ) (calls_fit : CallsFit p i calls n) (functions : Named (Entry Ground)) where
  abbrev pub give : Expr → Names → Value
  give = given tables calls

  abbrev pub give_all : Names → List Expr → List Value
  give_all = all_given tables calls

  module _ (effects : EffectSet) (own : effects effect.Local ≡ false) (traps : effects effect.Trap ≡ false) (locals : Named Ground) (names : Names) (fit : AreLocals p i locals names) where
    abbrev pub By : Head → List Ground → Ground → Type 0
    By = Rule functions (tables_of p) locals effects

    -- the rule of an operator that uses only helpers which stand early enough
    pub record IsBy (h : Head) (ts : List Ground) (t : Ground) : Type 0 where
      pub by : By h ts t
      pub uses : (u : Use) → used_by by ≡ Some u → IsEarly p i.helpers n u

    by_head : (g h : Head) (ts : List Ground) (t : Ground) → Some g ≡ Some h → IsBy h ts t → IsBy g ts t
    by_head g h ts t is by = let same : g ≡ h = cc in subst (λ x. IsBy x ts t) (sym same) by

    -- what its operation comes to
    operation : (e : Expr) (l : Layer) (ts : List Ground) (t : Ground) → layer e ≡ l → is_operation l ≡ true → operands l ≡ parts label_of expr_of l
        → operators.Results p i functions effects locals l ts t → FitEach p i (give_all names (parts label_of expr_of l)) ts → Fits p i (give e names) t
    operation e l ts t is its same results fits =
        subst (λ v. Fits p i v t) (sym (given_operation tables calls e l names is its ∙ ap (λ es. value_of (operated l (give_all names es))) same))
        (outcome_fits p i effects t (operated l (give_all names (parts label_of expr_of l))) traps (results (give_all names (parts label_of expr_of l)) fits))

    local_value : (e : Expr) (x : Label) (ts : List Ground) (t : Ground) → layer e ≡ Node-F.Name x → By (operator.Local x) ts t → Fits p i (give e names) t
    local_value e x _ t is (rule.local there) =
        let found = fit x t there in
        subst (λ v. Fits p i v t) (sym (given_forms.given_name tables calls e x names is ∙ ap (λ o. unwrap_or o unit_value) found.1)) found.2

    -- what a query has isn't a function
    function_value : (e : Expr) (g : Label) (ts : List Ground) (t : Ground) → is_query_type t ≡ true → (by : By (operator.Function g) ts t) → ((u : Use) → used_by by ≡ Some u → IsEarly p i.helpers n u) → Fits p i (give e names) t
    function_value e g _ t flat (rule.function may) uses =
        let early : IsEarly p i.helpers n (record { name = g; type = t }) = uses (record { name = g; type = t }) refl in
        let body : HasBody p (IsHelperNode p i.helpers (record { name = g; type = t })) (record { name = g; type = t }) = each_in (λ u. HasBody p (IsHelperNode p i.helpers u) u) i.helpers (record { name = g; type = t }) early.0 closed.helpers in
        absurd (function_not_flat (types_of body.has.typed.params) body.has.typed.effects body.has.typed.answer (subst (λ u. is_query_type u ≡ true) body.has.typed.is flat))

    call_value : (e : Expr) (g : Word) (args : List Expr) (ts : List Ground) (t : Ground) → layer e ≡ Node-F.Call g args → (by : By (operator.Call g.text) ts t) → ((u : Use) → used_by by ≡ Some u → IsEarly p i.helpers n u)
        → FitEach p i (give_all names args) ts → Fits p i (give e names) t
    call_value e g args ts t is (rule.call may) uses fits =
        subst (λ v. Fits p i v t) (sym (given_forms.given_call tables calls e g args names is))
        (calls_fit (record { name = g.text; type = function_of ts effects t }) (uses (record { name = g.text; type = function_of ts effects t }) refl) ts effects t refl own traps (give_all names args) fits)

    no_apply : (ts : List Ground) (t : Ground) → By operator.Apply ts t → ⊥
    no_apply ts t (rule.apply local) = both_ways (effects effect.Local) own local

    no_seq : (ts : List Ground) (t : Ground) → By operator.Seq ts t → Each (λ u. is_query_type u ≡ true) ts → ⊥
    no_seq _ t rule.seq flat = unit_not_flat flat.0

    no_print : (ts : List Ground) (t : Ground) → By operator.Print ts t → is_query_type t ≡ true → ⊥
    no_print ts _ (rule.print prints) flat = unit_not_flat flat

    no_insert : (x : Label) (ts : List Ground) (t : Ground) → By (operator.Insert x) ts t → is_query_type t ≡ true → ⊥
    no_insert x ts _ (rule.insert row has writes) flat = unit_not_flat flat

    if_value : (e c a b : Expr) (ts : List Ground) (t : Ground) → layer e ≡ Node-F.If c a b → By operator.If ts t → FitEach p i (give_all names (c ∷ a ∷ b ∷ [])) ts → Fits p i (give e names) t
    if_value e c a b _ t is rule.branch (one_more test (one_more one (one_more other none_left))) =
        subst (λ v. Fits p i v t) (sym (given_forms.given_if tables calls e c a b names is)) (chosen_fits p i (give c names) (give a names) (give b names) t test one other)

    and_value : (e a b : Expr) (ts : List Ground) (t : Ground) → layer e ≡ Node-F.And a b → By operator.Logic ts t → FitEach p i (give_all names (a ∷ b ∷ [])) ts → Fits p i (give e names) t
    and_value e a b _ _ is rule.logic (one_more one (one_more other none_left)) =
        subst (λ v. Fits p i v known.Bool) (sym (given_forms.given_and tables calls e a b names is)) (chosen_fits p i (give a names) (give b names) (truth false) known.Bool one other (truth_fits p i false))

    or_value : (e a b : Expr) (ts : List Ground) (t : Ground) → layer e ≡ Node-F.Or a b → By operator.Logic ts t → FitEach p i (give_all names (a ∷ b ∷ [])) ts → Fits p i (give e names) t
    or_value e a b _ _ is rule.logic (one_more one (one_more other none_left)) =
        subst (λ v. Fits p i v known.Bool) (sym (given_forms.given_or tables calls e a b names is)) (chosen_fits p i (give a names) (truth true) (give b names) known.Bool one (truth_fits p i true) other)

    where_value : (e c d : Expr) (ts : List Ground) (t : Ground) → layer e ≡ Node-F.Where c d → By operator.Where ts t → FitEach p i (give_all names (c ∷ d ∷ [])) ts → Fits p i (give e names) t
    where_value e c d _ _ is (rule.filter b) (one_more test (one_more one none_left)) =
        subst (λ v. Fits p i v (known.List b)) (sym (given_forms.given_where tables calls e c d names is)) (chosen_fits p i (give c names) (give d names) (value.List []) (known.List b) test one (list_fits p i [] b fitting.none))

    table_value : (e : Expr) (x : Word) (ts : List Ground) (t : Ground) → layer e ≡ Node-F.Table x → By (operator.Table x.text) ts t → Fits p i (give e names) t
    table_value e x _ _ is (rule.table row has scans) =
        subst (λ v. Fits p i v (known.List (record_of row))) (sym (given_forms.given_table tables calls e x names is)) (list_fits p i _ (record_of row) (rows_of_table p i tables rows x.text row has))

    -- an operator whose parts fit
    pub operator_value : (e : Expr) (l : Layer) (h : Head) (ts : List Ground) (t : Ground) → layer e ≡ l → head label_of expr_of l ≡ Some h → IsBy h ts t → is_query_type t ≡ true → Each (λ u. is_query_type u ≡ true) ts
        → FitEach p i (give_all names (parts label_of expr_of l)) ts → Fits p i (give e names) t
    operator_value e (Node-F.Int m) h ts t is its by flat parts fits = operation e (Node-F.Int m) ts t is refl refl (operators.literal_number p i functions effects locals m ts t (by_head (operator.Literal kind.Int) h ts t its by).by) fits
    operator_value e (Node-F.Text bytes) h ts t is its by flat parts fits = operation e (Node-F.Text bytes) ts t is refl refl (operators.literal_text p i functions effects locals bytes ts t (by_head (operator.Literal kind.Text) h ts t its by).by) fits
    operator_value e (Node-F.Bool b) h ts t is its by flat parts fits = operation e (Node-F.Bool b) ts t is refl refl (operators.literal_truth p i functions effects locals b ts t (by_head (operator.Literal kind.Bool) h ts t its by).by) fits
    operator_value e (Node-F.Name x) h ts t is its by flat parts fits = local_value e x ts t is (by_head (operator.Local x) h ts t its by).by
    operator_value e (Node-F.Function g) h ts t is its by flat parts fits = let own_rule = by_head (operator.Function g) h ts t its by in function_value e g ts t flat own_rule.by own_rule.uses
    operator_value e (Node-F.Call g args) h ts t is its by flat parts fits = let own_rule = by_head (operator.Call g.text) h ts t its by in call_value e g args ts t is own_rule.by own_rule.uses fits
    operator_value e (Node-F.Apply f args) h ts t is its by flat parts fits = absurd (no_apply ts t (by_head operator.Apply h ts t its by).by)
    operator_value e (Node-F.Seq d rest) h ts t is its by flat parts fits = absurd (no_seq ts t (by_head operator.Seq h ts t its by).by parts)
    operator_value e (Node-F.If c a b) h ts t is its by flat parts fits = if_value e c a b ts t is (by_head operator.If h ts t its by).by fits
    operator_value e (Node-F.And a b) h ts t is its by flat parts fits = and_value e a b ts t is (by_head operator.Logic h ts t its by).by fits
    operator_value e (Node-F.Or a b) h ts t is its by flat parts fits = or_value e a b ts t is (by_head operator.Logic h ts t its by).by fits
    operator_value e (Node-F.Concat a b) h ts t is its by flat parts fits = operation e (Node-F.Concat a b) ts t is refl refl (operators.concat_results p i functions effects locals a b ts t (by_head operator.Concat h ts t its by).by) fits
    operator_value e (Node-F.Append a b) h ts t is its by flat parts fits = operation e (Node-F.Append a b) ts t is refl refl (operators.append_results p i functions effects locals a b ts t (by_head operator.Append h ts t its by).by) fits
    operator_value e (Node-F.Cons a b) h ts t is its by flat parts fits = operation e (Node-F.Cons a b) ts t is refl refl (operators.cons_results p i functions effects locals a b ts t (by_head operator.Cons h ts t its by).by) fits
    operator_value e (Node-F.Add a b) h ts t is its by flat parts fits = operation e (Node-F.Add a b) ts t is refl refl (operators.add_results p i functions effects locals a b ts t (by_head operator.Arithmetic h ts t its by).by) fits
    operator_value e (Node-F.Sub a b) h ts t is its by flat parts fits = operation e (Node-F.Sub a b) ts t is refl refl (operators.sub_results p i functions effects locals a b ts t (by_head operator.Arithmetic h ts t its by).by) fits
    operator_value e (Node-F.Mul a b) h ts t is its by flat parts fits = operation e (Node-F.Mul a b) ts t is refl refl (operators.mul_results p i functions effects locals a b ts t (by_head operator.Arithmetic h ts t its by).by) fits
    operator_value e (Node-F.Div a b) h ts t is its by flat parts fits = operation e (Node-F.Div a b) ts t is refl refl (operators.div_results p i functions effects locals a b ts t (by_head operator.Division h ts t its by).by) fits
    operator_value e (Node-F.Mod a b) h ts t is its by flat parts fits = operation e (Node-F.Mod a b) ts t is refl refl (operators.mod_results p i functions effects locals a b ts t (by_head operator.Division h ts t its by).by) fits
    operator_value e (Node-F.Eq a b) h ts t is its by flat parts fits = operation e (Node-F.Eq a b) ts t is refl refl (operators.equal_results p i functions effects locals a b ts t (by_head operator.Comparison h ts t its by).by) fits
    operator_value e (Node-F.Ne a b) h ts t is its by flat parts fits = operation e (Node-F.Ne a b) ts t is refl refl (operators.other_results p i functions effects locals a b ts t (by_head operator.Comparison h ts t its by).by) fits
    operator_value e (Node-F.Lt a b) h ts t is its by flat parts fits = operation e (Node-F.Lt a b) ts t is refl refl (operators.less_results p i functions effects locals a b ts t (by_head operator.Comparison h ts t its by).by) fits
    operator_value e (Node-F.Le a b) h ts t is its by flat parts fits = operation e (Node-F.Le a b) ts t is refl refl (operators.at_most_results p i functions effects locals a b ts t (by_head operator.Comparison h ts t its by).by) fits
    operator_value e (Node-F.Gt a b) h ts t is its by flat parts fits = operation e (Node-F.Gt a b) ts t is refl refl (operators.greater_results p i functions effects locals a b ts t (by_head operator.Comparison h ts t its by).by) fits
    operator_value e (Node-F.Ge a b) h ts t is its by flat parts fits = operation e (Node-F.Ge a b) ts t is refl refl (operators.at_least_results p i functions effects locals a b ts t (by_head operator.Comparison h ts t its by).by) fits
    operator_value e (Node-F.Neg d) h ts t is its by flat parts fits = operation e (Node-F.Neg d) ts t is refl refl (operators.negation_results p i functions effects locals d ts t (by_head operator.Negation h ts t its by).by) fits
    operator_value e (Node-F.Not d) h ts t is its by flat parts fits = operation e (Node-F.Not d) ts t is refl refl (operators.not_results p i functions effects locals d ts t (by_head operator.Not h ts t its by).by) fits
    operator_value e (Node-F.Hd d) h ts t is its by flat parts fits = operation e (Node-F.Hd d) ts t is refl refl (operators.first_results p i functions effects locals d ts t (by_head operator.First h ts t its by).by) fits
    operator_value e (Node-F.Tl d) h ts t is its by flat parts fits = operation e (Node-F.Tl d) ts t is refl refl (operators.rest_results p i functions effects locals d ts t (by_head operator.Rest h ts t its by).by) fits
    operator_value e (Node-F.Empty d) h ts t is its by flat parts fits = operation e (Node-F.Empty d) ts t is refl refl (operators.empty_results p i functions effects locals d ts t (by_head operator.Empty h ts t its by).by) fits
    operator_value e (Node-F.IntToString d) h ts t is its by flat parts fits = operation e (Node-F.IntToString d) ts t is refl refl (operators.int_to_string_results p i functions effects locals d ts t (by_head operator.IntToString h ts t its by).by) fits
    operator_value e (Node-F.Print d) h ts t is its by flat parts fits = absurd (no_print ts t (by_head operator.Print h ts t its by).by flat)
    operator_value e (Node-F.Record fields) h ts t is its by flat parts fits = operation e (Node-F.Record fields) ts t is refl (operands_are (Node-F.Record fields) refl) (operators.record_results p i functions effects locals fields ts t (by_head (operator.Record (map label_of fields)) h ts t its by).by) fits
    operator_value e (Node-F.Extend fields d) h ts t is its by flat parts fits = operation e (Node-F.Extend fields d) ts t is refl (operands_are (Node-F.Extend fields d) refl) (operators.extend_results p i functions effects locals fields d ts t (by_head (operator.Extend (map label_of fields)) h ts t its by).by) fits
    operator_value e (Node-F.List es) h ts t is its by flat parts fits = operation e (Node-F.List es) ts t is refl (operands_are (Node-F.List es) refl) (operators.items_results p i functions effects locals es ts t (by_head operator.Items h ts t its by).by) fits
    operator_value e (Node-F.Project d l) h ts t is its by flat parts fits = operation e (Node-F.Project d l) ts t is refl refl (operators.project_results p i functions effects locals d l ts t (by_head (operator.Project l.text) h ts t its by).by) fits
    operator_value e (Node-F.Tag l d) h ts t is its by flat parts fits = operation e (Node-F.Tag l d) ts t is refl refl (operators.tag_results p i functions effects locals l d ts t (by_head (operator.Tag l.text) h ts t its by).by) fits
    operator_value e (Node-F.Table x) h ts t is its by flat parts fits = table_value e x ts t is (by_head (operator.Table x.text) h ts t its by).by
    operator_value e (Node-F.Where c d) h ts t is its by flat parts fits = where_value e c d ts t is (by_head operator.Where h ts t its by).by fits
    operator_value e (Node-F.Insert x d) h ts t is its by flat parts fits = absurd (no_insert x.text ts t (by_head (operator.Insert x.text) h ts t its by).by flat)
    operator_value e (Node-F.Lambda l) h ts t is its by flat parts fits = absurd cc
    operator_value e (Node-F.Var x d rest) h ts t is its by flat parts fits = absurd cc
    operator_value e (Node-F.Switch d cases last) h ts t is its by flat parts fits = absurd cc
    operator_value e (Node-F.ForList x d body) h ts t is its by flat parts fits = absurd cc
    operator_value e (Node-F.ForTable x d body) h ts t is its by flat parts fits = absurd cc
    operator_value e (Node-F.Query keys d) h ts t is its by flat parts fits = absurd cc
    operator_value e (Node-F.Update change) h ts t is its by flat parts fits = absurd cc
    operator_value e (Node-F.Delete change) h ts t is its by flat parts fits = absurd cc
