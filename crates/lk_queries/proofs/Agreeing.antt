-- What a query gives depends on the calls that stand in it and on its local names alone: other calls that give the same for these
-- helpers, and other names that have the same values, change nothing.
use Rattle.std.proofs.Common.{◌≡◌, arith, refl, sym, ap, ap₂, ◌∙◌, subst, ℕ, zero, suc, ◌≤◌, Bool, true, false, cond, List, [], ◌∷◌, flat_map, Option, Some, None, unwrap_or}
use Rattle.std.specs.Str.{bytes_eq}
use Rattle.lk_ast.specs.Layers.{Layer, layer}
use Rattle.lk_ast.specs.Tables.{Tables, tables_of}
use Rattle.lk_ast.specs.declared.declaration.FunDef.{FunDef}
use Rattle.lk_ast.specs.declared.declaration.Program.{Program}
use Rattle.lk_ast.specs.declared.expression.Expr.{Expr}
use Rattle.lk_ast.specs.declared.expression.Node.TheOpen.{Node-F}
use Rattle.lk_ast.specs.declared.place.Word.{Word}
use Rattle.lk_ast.specs.declared.value.Value.{Value}
use Rattle.lk_ast.specs.declared.value.Value.TheVariants as value
use Rattle.lk_bag.proofs.Given as given_forms
use Rattle.lk_bag.proofs.Given.{is_operation, operands, all_given, given_operation}
use Rattle.lk_bag.specs.Bag.{value_of, items, chosen, for_each, given, entered, called_function, called}
use Rattle.lk_locals.specs.Names.{Names, no_names, bind, bind_all, lookup}
use Rattle.lk_operators.specs.Operators.{operated}
use Rattle.lk_operators.specs.Values.{bool_in, truth, unit}
use Rattle.lk_sound.proofs.SameBag.{no_rule}
use Rattle.lk_sound.proofs.Bags.{before_caller}
use Rattle.lk_sound.proofs.Bindings.{lookup_bound}
use Rattle.lk_sound.proofs.QueryParts.{IsEarly, IsQueryNode, AreQueryNodes, operands_are}
use Rattle.lk_sound.specs.Instances.{Instances, IsHelperNode, HasBody, AreClosed}
use Rattle.lk_sound.specs.Nodes.{Use, used_by, nodes_of, each_nodes}
use Rattle.lk_types.proofs.Members.{each_in, each_front, each_back}
use Rattle.lk_types.specs.Each.{Each}
use Rattle.lk_types.specs.Rows.{Label, EffectSet}
use Rattle.lk_types.specs.declared.ground.Ground.{Ground}
use Rattle.lk_typing.specs.Heads as operator
use Rattle.lk_typing.specs.Heads.{Head, head, parts}
use Rattle.lk_typing.specs.Names.{Named, named, Entry}
use Rattle.lk_typing.specs.Rules.{Rule}
use Rattle.lk_typing.specs.Rules as rule
use Rattle.lk_typing.specs.Types.{function_of}
use Rattle.lk_typing.specs.Typing.{HasType, HaveTypes, label_of, expr_of, plain, lambda, var, switch, switch_open, for_list, for_table, query, update, delete, none, more}

-- helpers among the first so many functions give the same
abbrev pub CallsAgree : Program → Instances → (List ℕ → List Value → Value) → (List ℕ → List Value → Value) → ℕ → Type 0
CallsAgree p i calls others n = (u : Use) → IsEarly p i.helpers n u → (args : List Value) → calls u.name args ≡ others u.name args

-- each name that has a type has one value in both
abbrev pub NamesAgree : Named Ground → Names → Names → Type 0
NamesAgree locals names others = (x : Label) (t : Ground) → named x locals ≡ Some t → lookup names x ≡ lookup others x

by_test : (b : Bool) (v : Value) (a t : Ground) (type : Option Ground) (one other : Option Value) → (type ≡ Some t → one ≡ other) → cond b (Some a) type ≡ Some t → cond b (Some v) one ≡ cond b (Some v) other
by_test true v a t type one other same is = refl
by_test false v a t type one other same is = same is

pub agree_bound : (x : Label) (v w : Value) (a : Ground) (locals : Named Ground) (names others : Names) → v ≡ w → NamesAgree locals names others → NamesAgree ((x, a) ∷ locals) (bind x v names) (bind x w others)
agree_bound x v w a locals names others same agree y t is =
    lookup_bound x v names y
    ∙ by_test (bytes_eq x y) v a t (named y locals) (lookup names y) (lookup others y) (agree y t) is
    ∙ ap (λ u. cond (bytes_eq x y) (Some u) (lookup others y)) same
    ∙ sym (lookup_bound x w others y)

module _ (p : Program) (i : Instances) (tables : Tables) (calls other_calls : List ℕ → List Value → Value) (n : ℕ) (agree : CallsAgree p i calls other_calls n) (functions : Named (Entry Ground)) where
  -- it gives the same
  abbrev Same : Names → Names → Expr → Type 0
  Same names others e = given tables calls e names ≡ given tables other_calls e others

  all_same : (names others : Names) (es : List Expr) → Each (Same names others) es → all_given tables calls names es ≡ all_given tables other_calls others es
  all_same names others [] all = refl
  all_same names others (e ∷ es) all = ap₂ (λ v vs. v ∷ vs) all.0 (all_same names others es all.1)

  module _ (effects : EffectSet) (locals : Named Ground) (names others : Names) (names_agree : NamesAgree locals names others) where
    abbrev By : Head → List Ground → Ground → Type 0
    By = Rule functions (tables_of p) locals effects

    record IsBy (h : Head) (ts : List Ground) (t : Ground) : Type 0 where
      by : By h ts t
      uses : (u : Use) → used_by by ≡ Some u → IsEarly p i.helpers n u

    by_head : (g h : Head) (ts : List Ground) (t : Ground) → Some g ≡ Some h → IsBy h ts t → IsBy g ts t
    by_head g h ts t is by = let same : g ≡ h = cc in subst (λ x. IsBy x ts t) (sym same) by

    local_same : (e : Expr) (x : Label) (ts : List Ground) (t : Ground) → layer e ≡ Node-F.Name x → By (operator.Local x) ts t → Same names others e
    local_same e x _ t is (rule.local there) =
        given_forms.given_name tables calls e x names is ∙ ap (λ o. unwrap_or o unit) (names_agree x t there) ∙ sym (given_forms.given_name tables other_calls e x others is)

    call_same : (e : Expr) (g : Word) (args : List Expr) (ts : List Ground) (t : Ground) → layer e ≡ Node-F.Call g args → (by : By (operator.Call g.text) ts t) → ((u : Use) → used_by by ≡ Some u → IsEarly p i.helpers n u)
        → Each (Same names others) args → Same names others e
    call_same e g args ts t is (rule.call may) uses all =
        given_forms.given_call tables calls e g args names is
        ∙ agree (record { name = g.text; type = function_of ts effects t }) (uses (record { name = g.text; type = function_of ts effects t }) refl) (all_given tables calls names args)
        ∙ ap (other_calls g.text) (all_same names others args all)
        ∙ sym (given_forms.given_call tables other_calls e g args others is)

    operation : (e : Expr) (l : Layer) → layer e ≡ l → is_operation l ≡ true → operands l ≡ parts label_of expr_of l → Each (Same names others) (parts label_of expr_of l) → Same names others e
    operation e l is its same all =
        given_operation tables calls e l names is its
        ∙ ap (λ vs. value_of (operated l vs)) (all_same names others (operands l) (subst (Each (Same names others)) (sym same) all))
        ∙ sym (given_operation tables other_calls e l others is its)

    -- an operator
    operator_same : (e : Expr) (l : Layer) (h : Head) (ts : List Ground) (t : Ground) → layer e ≡ l → head label_of expr_of l ≡ Some h → IsBy h ts t → Each (Same names others) (parts label_of expr_of l) → Same names others e
    operator_same e (Node-F.Name x) h ts t is its by all = local_same e x ts t is (by_head (operator.Local x) h ts t its by).by
    operator_same e (Node-F.Call g args) h ts t is its by all = let own = by_head (operator.Call g.text) h ts t its by in call_same e g args ts t is own.by own.uses all
    operator_same e (Node-F.Seq d rest) h ts t is its by all = given_forms.given_seq tables calls e d rest names is ∙ all.1.0 ∙ sym (given_forms.given_seq tables other_calls e d rest others is)
    operator_same e (Node-F.If c a b) h ts t is its by all =
        given_forms.given_if tables calls e c a b names is
        ∙ ap (λ v. chosen (bool_in v) (given tables calls a names) (given tables calls b names)) all.0
        ∙ ap₂ (λ v w. chosen (bool_in (given tables other_calls c others)) v w) all.1.0 all.1.1.0
        ∙ sym (given_forms.given_if tables other_calls e c a b others is)
    operator_same e (Node-F.And a b) h ts t is its by all =
        given_forms.given_and tables calls e a b names is ∙ ap₂ (λ v w. chosen (bool_in v) w (truth false)) all.0 all.1.0 ∙ sym (given_forms.given_and tables other_calls e a b others is)
    operator_same e (Node-F.Or a b) h ts t is its by all =
        given_forms.given_or tables calls e a b names is ∙ ap₂ (λ v w. chosen (bool_in v) (truth true) w) all.0 all.1.0 ∙ sym (given_forms.given_or tables other_calls e a b others is)
    operator_same e (Node-F.Where c d) h ts t is its by all =
        given_forms.given_where tables calls e c d names is ∙ ap₂ (λ v w. chosen (bool_in v) w (value.List [])) all.0 all.1.0 ∙ sym (given_forms.given_where tables other_calls e c d others is)
    operator_same e (Node-F.Table x) h ts t is its by all = given_forms.given_table tables calls e x names is ∙ sym (given_forms.given_table tables other_calls e x others is)
    operator_same e (Node-F.Lambda l) h ts t is its by all = absurd cc
    operator_same e (Node-F.Var x d rest) h ts t is its by all = absurd cc
    operator_same e (Node-F.Switch d cases last) h ts t is its by all = absurd cc
    operator_same e (Node-F.ForList x d body) h ts t is its by all = absurd cc
    operator_same e (Node-F.ForTable x d body) h ts t is its by all = absurd cc
    operator_same e (Node-F.Query keys d) h ts t is its by all = absurd cc
    operator_same e (Node-F.Update change) h ts t is its by all = absurd cc
    operator_same e (Node-F.Delete change) h ts t is its by all = absurd cc
    operator_same e other h ts t is its by all = operation e other is refl (operands_are other refl) all

  loop_same : (x : Word) (v w : Value) (body : Expr) (names others : Names) → v ≡ w → ((u : Value) → Same (bind x.text u names) (bind x.text u others) body)
      → for_each x.text (items v) (given tables calls body) names ≡ for_each x.text (items w) (given tables other_calls body) others
  loop_same x v w body names others same bodies =
      ap (λ u. for_each x.text (items u) (given tables calls body) names) same ∙ ap (λ (f : Value → Value). value.List (flat_map (λ u. items (f u)) (items w))) (λ k u. bodies u k)

  mutual
    unfolding nodes_of

    -- by the typing of the expression
    pub given_agrees : {effects : EffectSet} {locals : Named Ground} {e : Expr} {t : Ground} {inside : List Ground} (flag : Bool) (d : HasType functions (tables_of p) locals effects e t inside)
        → AreQueryNodes p i.helpers n (nodes_of flag d) → (names others : Names) → NamesAgree locals names others → Same names others e
    given_agrees {effects = effects} {locals = locals} {e = e} {t = t} flag (plain h ts is have by) all names others same =
        operator_same effects locals names others same e (layer e) h ts t refl is (record { by = by; uses = all.0.calls }) (parts_agree flag have all.1 names others same)
    given_agrees {e = e} flag (lambda l params own a is named moves body local) all names others same =
        given_operation tables calls e (Node-F.Lambda l) names is refl ∙ sym (given_operation tables other_calls e (Node-F.Lambda l) others is refl)
    given_agrees {locals = locals} {e = e} flag (var x d rest a first last is one next) all names others same =
        let v : Same names others d = given_agrees flag one (each_front (IsQueryNode p i.helpers n) (nodes_of flag one) (nodes_of flag next) all.1) names others same in
        given_forms.given_var tables calls e x d rest names is
        ∙ given_agrees flag next (each_back (IsQueryNode p i.helpers n) (nodes_of flag one) (nodes_of flag next) all.1) (bind x.text (given tables calls d names) names) (bind x.text (given tables other_calls d others) others)
        (agree_bound x.text (given tables calls d names) (given tables other_calls d others) a locals names others v same)
        ∙ sym (given_forms.given_var tables other_calls e x d rest others is)
    given_agrees {e = e} flag (switch d cases row tags ts first bodies is one have alike made local) all names others same = no_rule tables calls e d cases None names is ∙ sym (no_rule tables other_calls e d cases None others is)
    given_agrees {e = e} flag (switch_open d cases last rest row tags ts first bodies inside is one have alike next made local) all names others same =
        no_rule tables calls e d cases (Some last) names is ∙ sym (no_rule tables other_calls e d cases (Some last) others is)
    given_agrees {locals = locals} {e = e} flag (for_list x d body a b first inside is one next) all names others same =
        given_forms.given_for_list tables calls e x d body names is
        ∙ loop_same x (given tables calls d names) (given tables other_calls d others) body names others
        (given_agrees flag one (each_front (IsQueryNode p i.helpers n) (nodes_of flag one) (nodes_of flag next) all.1) names others same)
        (λ u. given_agrees flag next (each_back (IsQueryNode p i.helpers n) (nodes_of flag one) (nodes_of flag next) all.1) (bind x.text u names) (bind x.text u others) (agree_bound x.text u u a locals names others refl same))
        ∙ sym (given_forms.given_for_list tables other_calls e x d body others is)
    given_agrees {locals = locals} {e = e} flag (for_table x d body a b first inside is one next) all names others same =
        given_forms.given_for_table tables calls e x d body names is
        ∙ loop_same x (given tables calls d names) (given tables other_calls d others) body names others
        (given_agrees flag one (each_front (IsQueryNode p i.helpers n) (nodes_of flag one) (nodes_of flag next) all.1) names others same)
        (λ u. given_agrees flag next (each_back (IsQueryNode p i.helpers n) (nodes_of flag one) (nodes_of flag next) all.1) (bind x.text u names) (bind x.text u others) (agree_bound x.text u u a locals names others refl same))
        ∙ sym (given_forms.given_for_table tables other_calls e x d body others is)
    given_agrees {e = e} flag (query keys body a inside is one sorted scans marked) all names others same =
        given_forms.given_query tables calls e keys body names is ∙ given_agrees true one all.1 names others same ∙ sym (given_forms.given_query tables other_calls e keys body others is)
    given_agrees {e = e} flag (update change is changes writes) all names others same =
        given_operation tables calls e (Node-F.Update change) names is refl ∙ sym (given_operation tables other_calls e (Node-F.Update change) others is refl)
    given_agrees {e = e} flag (delete change is changes writes) all names others same =
        given_operation tables calls e (Node-F.Delete change) names is refl ∙ sym (given_operation tables other_calls e (Node-F.Delete change) others is refl)

    parts_agree : {effects : EffectSet} {locals : Named Ground} {es : List Expr} {ts inside : List Ground} (flag : Bool) (d : HaveTypes functions (tables_of p) locals effects es ts inside)
        → AreQueryNodes p i.helpers n (each_nodes flag d) → (names others : Names) → NamesAgree locals names others → Each (Same names others) es
    parts_agree flag none all names others same = tt
    parts_agree flag (more inside rest first behind) all names others same = (
      given_agrees flag first (each_front (IsQueryNode p i.helpers n) (nodes_of flag first) (each_nodes flag behind) all) names others same,
      parts_agree flag behind (each_back (IsQueryNode p i.helpers n) (nodes_of flag first) (each_nodes flag behind) all) names others same,
    )

-- ---- calls

-- How many calls may stand in one another makes no difference where there are enough.
module _ (p : Program) (i : Instances) (closed : AreClosed p i) (tables : Tables) where
  entered_agrees : (k n m : ℕ) (f : FunDef) → (args : List Value) → ((names : Names) → given tables (called p tables n) f.body names ≡ given tables (called p tables m) f.body names) → (names : Option Names)
      → entered (given tables (called p tables n) f.body) names ≡ entered (given tables (called p tables m) f.body) names
  entered_agrees k n m f args same (Some names) = same names
  entered_agrees k n m f args same None = refl

  pub calls_agree : (k n m : ℕ) → k ≤ n → k ≤ m → CallsAgree p i (called p tables n) (called p tables m) k
  unfolding called
  calls_agree zero n m le enough u (listed, below) args = absurd (omega arith)
  calls_agree (suc k) zero m le enough u early args = absurd (omega arith)
  calls_agree (suc k) (suc n) zero le enough u early args = absurd (omega arith)
  calls_agree (suc k) (suc n) (suc m) le enough u (listed, below) args =
      let body : HasBody p (IsHelperNode p i.helpers u) u = each_in (λ w. HasBody p (IsHelperNode p i.helpers w) w) i.helpers u listed closed.helpers in
      let inner : CallsAgree p i (called p tables n) (called p tables m) k = calls_agree k n m (omega arith) (omega arith) in
      ap (λ o. called_function p tables (called p tables n) o args) body.named
      ∙ entered_agrees k n m body.function args
      (λ names. given_agrees p i tables (called p tables n) (called p tables m) k inner body.has.functions false body.has.typed.body (before_caller p i u k (nodes_of false body.has.typed.body) below body.nodes) names names (λ x t is. refl))
      (bind_all no_names body.function.params args)
      ∙ sym (ap (λ o. called_function p tables (called p tables m) o args) body.named)
