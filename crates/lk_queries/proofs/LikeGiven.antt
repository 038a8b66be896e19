-- What a query gives over tables whose rows are listed in another order, under names and with calls that give the same but for order,
-- is the same but for order.
use Rattle.std.proofs.Common.{◌≡◌, arith, refl, sym, ap, ◌∙◌, subst, ℕ, zero, suc, ◌<◌, ◌≤◌, Bool, true, false, cond, List, [], ◌∷◌, ◌++◌, append-nil, length, map, flat_map, Option, Some, None, unwrap_or}
use Rattle.std.proofs.lemmas.List.Sorted.{IsPermutation-map, IsPermutation-append}
use Rattle.std.proofs.lemmas.Option.{none-some}
use Rattle.std.specs.Str.{bytes_eq}
use Rattle.std.proofs.lemmas.Bool.{both_ways}
use Rattle.lk_ast.specs.Layers.{Layer, layer}
use Rattle.lk_ast.specs.Rows.{row_value, rows_value}
use Rattle.lk_ast.specs.Tables.{Tables, tables_of}
use Rattle.lk_ast.specs.declared.declaration.FunDef.{FunDef}
use Rattle.lk_ast.specs.declared.declaration.Program.{Program}
use Rattle.lk_ast.specs.declared.expression.Expr.{Expr}
use Rattle.lk_ast.specs.declared.expression.Node.TheOpen.{Node-F}
use Rattle.lk_ast.specs.declared.place.Word.{Word}
use Rattle.lk_ast.specs.declared.value.Value.{Value}
use Rattle.lk_ast.specs.declared.value.Value.TheVariants as value
use Rattle.lk_bag.proofs.Given as given_forms
use Rattle.lk_bag.proofs.Given.{is_operation, operands, all_given, given_operation}
use Rattle.lk_bag.specs.Bag.{value_of, items, chosen, for_each, given, entered, called_function, called}
use Rattle.lk_bag.specs.Legal.{AreSame}
use Rattle.lk_evaluation.specs.Laws.{Both}
use Rattle.lk_ground_types.specs.Shapes.{is_flat, is_query_type}
use Rattle.lk_locals.specs.Names.{Names, no_names, bind, bind_each, bind_all, lookup}
use Rattle.lk_names.specs.Programs.{IsBound}
use Rattle.lk_operators.specs.Operators.{operated}
use Rattle.lk_operators.specs.Values.{bool_in, list_in, truth, unit}
use Rattle.lk_sound.proofs.Apart.{params_apart}
use Rattle.lk_sound.proofs.Bags.{value_fits, parts_fit, before_caller, called_fits}
use Rattle.lk_sound.proofs.Bindings.{bound_one, bound_each, lookup_bound, moved}
use Rattle.lk_sound.proofs.Calls.{length_names, length_texts, bound_all, no_locals}
use Rattle.lk_sound.proofs.Fitting.{as_many}
use Rattle.lk_sound.proofs.FlatTypes.{unit_not_flat}
use Rattle.lk_sound.proofs.Names.{AreDistinct}
use Rattle.lk_sound.proofs.QueryParts.{IsEarly, IsQueryNode, AreQueryNodes, part_types, operands_are}
use Rattle.lk_sound.proofs.QueryValues.{CallsFit, items_fit}
use Rattle.lk_sound.proofs.Shapes.{list_of_fits}
use Rattle.lk_sound.specs.Instances.{Instances, number_of, IsHelperNode, HasBody, AreClosed}
use Rattle.lk_sound.specs.Nodes.{Use, used_by, compared_by, comparison, may_compare, nodes_of, each_nodes}
use Rattle.lk_sound.specs.Points.{AreLocals}
use Rattle.lk_sound.specs.Tables.{AreTables}
use Rattle.lk_sound.specs.Values.{Fits, FitEach, none_left, one_more}
use Rattle.lk_types.proofs.Members.{each_in, each_front, each_back}
use Rattle.lk_types.specs.Each.{Each}
use Rattle.lk_types.specs.Rows.{Label, EffectSet}
use Rattle.lk_types.specs.declared.ground.Ground.{Ground}
use Rattle.lk_types.specs.declared.ground.Ground.TheVariants as known
use Rattle.lk_types.specs.declared.ty.Effect.TheVariants as effect
use Rattle.lk_typing.proofs.Samples.Types.{same_params, same_effects}
use Rattle.lk_typing.specs.Heads as operator
use Rattle.lk_typing.specs.Heads.{Head, head, parts}
use Rattle.lk_typing.specs.Names.{Named, named, names_of, types_of, texts, Entry}
use Rattle.lk_typing.specs.Rules.{Rule}
use Rattle.lk_typing.specs.Rules as rule
use Rattle.lk_typing.specs.Types.{function_of}
use Rattle.lk_typing.specs.Typing.{HasType, HaveTypes, label_of, expr_of, plain, lambda, var, switch, switch_open, for_list, for_table, query, update, delete, none, more}
use Rattle.lk_queries.specs.Law.{AtMostScan}
use Rattle.lk_queries.specs.Order.{IsLike, same}
use Rattle.lk_queries.proofs.Barred.{no_function, no_apply, no_seq, no_print, no_insert, no_local, no_trap}
use Rattle.lk_queries.proofs.FlatParts.{AreFlat, is_mixed, mixed_in, flat_parts, compared_flat, equality_flat, order_flat, append_is, empty_is, none_shuffled}
use Rattle.lk_queries.proofs.Giving.{only_reads}
use Rattle.lk_queries.proofs.Liking.{like_itself, like_lists, like_items, like_flat, like_each, flat_like, bool_flat}

-- helpers among the first so many functions give the same but for order, for arguments that are the same but for order
abbrev pub CallsLike : Program → Instances → (List ℕ → List Value → Value) → (List ℕ → List Value → Value) → ℕ → Type 0
CallsLike p i calls others n = (u : Use) → IsEarly p i.helpers n u → (ts : List Ground) (effects : EffectSet) (a : Ground) → u.type ≡ function_of ts effects a → AtMostScan effects
    → (args other_args : List Value) → FitEach p i args ts → FitEach p i other_args ts → Both IsLike args other_args → IsLike (calls u.name args) (others u.name other_args)

-- each name that has a type has values in both that are the same but for order
abbrev pub NamesLike : Named Ground → Names → Names → Type 0
NamesLike locals names others = (x : Label) (t : Ground) → named x locals ≡ Some t → (v : Value) × (w : Value) × (lookup names x ≡ Some v) × (lookup others x ≡ Some w) × IsLike v w

pub names_themselves : (p : Program) (i : Instances) (locals : Named Ground) (names : Names) → AreLocals p i locals names → NamesLike locals names names
names_themselves p i locals names fit x t there = let found = fit x t there in (found.0, found.0, found.1, found.1, like_itself found.0)

by_test : (b : Bool) (v w : Value) (a t : Ground) (type : Option Ground) (one other : Option Value) → IsLike v w → (type ≡ Some t → (x : Value) × (y : Value) × (one ≡ Some x) × (other ≡ Some y) × IsLike x y) → cond b (Some a) type ≡ Some t
    → (x : Value) × (y : Value) × (cond b (Some v) one ≡ Some x) × (cond b (Some w) other ≡ Some y) × IsLike x y
by_test true v w a t type one other like behind is = (v, w, refl, refl, like)
by_test false v w a t type one other like behind is = behind is

pub like_bound : (x : Label) (v w : Value) (a : Ground) (locals : Named Ground) (names others : Names) → IsLike v w → NamesLike locals names others → NamesLike ((x, a) ∷ locals) (bind x v names) (bind x w others)
like_bound x v w a locals names others like likes y t is =
    let found = by_test (bytes_eq x y) v w a t (named y locals) (lookup names y) (lookup others y) like (likes y t) is in
    (found.0, found.1, lookup_bound x v names y ∙ found.2, lookup_bound x w others y ∙ found.3, found.4)

pub likes_bound : (p : Program) (i : Instances) (params : Named Ground) (vs ws : List Value) (locals : Named Ground) (names others : Names) → AreDistinct (names_of params) → FitEach p i vs (types_of params) → Both IsLike vs ws → NamesLike locals names others
    → NamesLike (params ++ locals) (bind_each names (names_of params) vs) (bind_each others (names_of params) ws)
likes_bound p i [] vs ws locals names others distinct fits likes outer y t is = outer y t is
likes_bound p i (entry ∷ params) [] ws locals names others distinct fits likes outer y t is = elim fits [ ]
likes_bound p i (entry ∷ params) (v ∷ vs) [] locals names others distinct fits likes outer y t is = absurd likes
likes_bound p i (entry ∷ params) (v ∷ vs) (w ∷ ws) locals names others (apart, distinct) (one_more fit fits) likes outer y t is =
    likes_bound p i params vs ws ((entry.0, entry.1) ∷ locals) (bind entry.0 v names) (bind entry.0 w others) distinct fits likes.1 (like_bound entry.0 v w entry.1 locals names others likes.0 outer) y t (moved y entry.0 entry.1 params locals apart ∙ is)

pub chosen_like : (o : Option Bool) (v w x y : Value) → IsLike v x → IsLike w y → IsLike (chosen o v w) (chosen o x y)
chosen_like (Some true) v w x y one other = one
chosen_like (Some false) v w x y one other = other
chosen_like None v w x y one other = other

-- the values of a list are its elements
pub shown_items : (p : Program) (i : Instances) (v : Value) (a : Ground) → Fits p i v (known.List a) → list_in v ≡ Some (items v)
shown_items p i v a fits = let found = list_of_fits p i v a fits in found.1 ∙ ap Some (sym (ap (λ o. unwrap_or o []) found.1))

module _ (p : Program) (i : Instances) (closed : AreClosed p i) (tables others : Tables) (shuffle : AreSame tables others) (rows : AreTables p tables) (other_rows : AreTables p others)
    (calls other_calls : List ℕ → List Value → Value) (n : ℕ) (calls_fit : CallsFit p i calls n) (others_fit : CallsFit p i other_calls n) (calls_like : CallsLike p i calls other_calls n) (functions : Named (Entry Ground)) where
  abbrev one : Expr → Names → Value
  one = given tables calls

  abbrev other : Expr → Names → Value
  other = given others other_calls

  abbrev Like : Names → Names → Expr → Type 0
  Like names inner e = IsLike (one e names) (other e inner)

  both_like : (names inner : Names) (es : List Expr) → Each (Like names inner) es → Both IsLike (all_given tables calls names es) (all_given others other_calls inner es)
  both_like names inner [] all = tt
  both_like names inner (e ∷ es) all = (all.0, both_like names inner es all.1)

  module _ (effects : EffectSet) (only : AtMostScan effects) (locals : Named Ground) (names inner : Names) (likes : NamesLike locals names inner) where
    abbrev By : Head → List Ground → Ground → Type 0
    By = Rule functions (tables_of p) locals effects

    record IsBy (e : Expr) (h : Head) (ts : List Ground) (t : Ground) : Type 0 where
      by : By h ts t
      uses : (u : Use) → used_by by ≡ Some u → IsEarly p i.helpers n u
      compares : may_compare (compared_by e by) ≡ true

    by_head : (e : Expr) (g h : Head) (ts : List Ground) (t : Ground) → Some g ≡ Some h → IsBy e h ts t → IsBy e g ts t
    by_head e g h ts t is by = let same : g ≡ h = cc in subst (λ x. IsBy e x ts t) (sym same) by

    -- parts that are the same give the same
    operation : (e : Expr) (l : Layer) → layer e ≡ l → is_operation l ≡ true → operands l ≡ parts label_of expr_of l → (ts : List Ground) → AreFlat ts → FitEach p i (all_given others other_calls inner (parts label_of expr_of l)) ts
        → Each (Like names inner) (parts label_of expr_of l) → Like names inner e
    operation e l is its same_parts ts flat fits all =
        same
        (given_operation tables calls e l names is its
        ∙ ap (λ es. value_of (operated l (all_given tables calls names es))) same_parts
        ∙ ap (λ vs. value_of (operated l vs)) (like_each p i ts _ _ flat fits (both_like names inner (parts label_of expr_of l) all))
        ∙ sym (ap (λ es. value_of (operated l (all_given others other_calls inner es))) same_parts)
        ∙ sym (given_operation others other_calls e l inner is its))

    local_like : (e : Expr) (x : Label) (ts : List Ground) (t : Ground) → layer e ≡ Node-F.Name x → By (operator.Local x) ts t → Like names inner e
    local_like e x _ t is (rule.local there) =
        let found = likes x t there in
        subst (λ v. IsLike v (other e inner)) (sym (given_forms.given_name tables calls e x names is ∙ ap (λ o. unwrap_or o unit) found.2))
        (subst (IsLike found.0) (sym (given_forms.given_name others other_calls e x inner is ∙ ap (λ o. unwrap_or o unit) found.3)) found.4)

    call_like : (e : Expr) (g : Word) (args : List Expr) (ts : List Ground) (t : Ground) → layer e ≡ Node-F.Call g args → (by : By (operator.Call g.text) ts t) → ((u : Use) → used_by by ≡ Some u → IsEarly p i.helpers n u)
        → FitEach p i (all_given tables calls names args) ts → FitEach p i (all_given others other_calls inner args) ts → Each (Like names inner) args → Like names inner e
    call_like e g args ts t is (rule.call may) uses fits other_fits all =
        subst (λ v. IsLike v (other e inner)) (sym (given_forms.given_call tables calls e g args names is))
        (subst (IsLike (calls g.text (all_given tables calls names args))) (sym (given_forms.given_call others other_calls e g args inner is))
        (calls_like (record { name = g.text; type = function_of ts effects t }) (uses (record { name = g.text; type = function_of ts effects t }) refl) ts effects t refl only
        (all_given tables calls names args) (all_given others other_calls inner args) fits other_fits (both_like names inner args all)))

    -- the truth value of a condition is the same
    same_test : (c : Expr) → Fits p i (other c inner) known.Bool → Like names inner c → one c names ≡ other c inner
    same_test c fits like = like_flat p i known.Bool (one c names) (other c inner) bool_flat fits like

    if_like : (e c a b : Expr) (ts : List Ground) (t : Ground) → layer e ≡ Node-F.If c a b → By operator.If ts t → FitEach p i (all_given others other_calls inner (c ∷ a ∷ b ∷ [])) ts → Each (Like names inner) (c ∷ a ∷ b ∷ []) → Like names inner e
    if_like e c a b _ t is rule.branch (one_more test fits) all =
        subst (λ v. IsLike v (other e inner)) (sym (given_forms.given_if tables calls e c a b names is ∙ ap (λ v. chosen (bool_in v) (one a names) (one b names)) (same_test c test all.0)))
        (subst (IsLike (chosen (bool_in (other c inner)) (one a names) (one b names))) (sym (given_forms.given_if others other_calls e c a b inner is))
        (chosen_like (bool_in (other c inner)) (one a names) (one b names) (other a inner) (other b inner) all.1.0 all.1.1.0))

    and_like : (e a b : Expr) (ts : List Ground) (t : Ground) → layer e ≡ Node-F.And a b → By operator.Logic ts t → FitEach p i (all_given others other_calls inner (a ∷ b ∷ [])) ts → Each (Like names inner) (a ∷ b ∷ []) → Like names inner e
    and_like e a b _ _ is rule.logic (one_more test fits) all =
        subst (λ v. IsLike v (other e inner)) (sym (given_forms.given_and tables calls e a b names is ∙ ap (λ v. chosen (bool_in v) (one b names) (truth false)) (same_test a test all.0)))
        (subst (IsLike (chosen (bool_in (other a inner)) (one b names) (truth false))) (sym (given_forms.given_and others other_calls e a b inner is))
        (chosen_like (bool_in (other a inner)) (one b names) (truth false) (other b inner) (truth false) all.1.0 (like_itself (truth false))))

    or_like : (e a b : Expr) (ts : List Ground) (t : Ground) → layer e ≡ Node-F.Or a b → By operator.Logic ts t → FitEach p i (all_given others other_calls inner (a ∷ b ∷ [])) ts → Each (Like names inner) (a ∷ b ∷ []) → Like names inner e
    or_like e a b _ _ is rule.logic (one_more test fits) all =
        subst (λ v. IsLike v (other e inner)) (sym (given_forms.given_or tables calls e a b names is ∙ ap (λ v. chosen (bool_in v) (truth true) (one b names)) (same_test a test all.0)))
        (subst (IsLike (chosen (bool_in (other a inner)) (truth true) (one b names))) (sym (given_forms.given_or others other_calls e a b inner is))
        (chosen_like (bool_in (other a inner)) (truth true) (one b names) (truth true) (other b inner) (like_itself (truth true)) all.1.0))

    where_like : (e c d : Expr) (ts : List Ground) (t : Ground) → layer e ≡ Node-F.Where c d → By operator.Where ts t → FitEach p i (all_given others other_calls inner (c ∷ d ∷ [])) ts → Each (Like names inner) (c ∷ d ∷ []) → Like names inner e
    where_like e c d _ _ is (rule.filter b) (one_more test fits) all =
        subst (λ v. IsLike v (other e inner)) (sym (given_forms.given_where tables calls e c d names is ∙ ap (λ v. chosen (bool_in v) (one d names) (value.List [])) (same_test c test all.0)))
        (subst (IsLike (chosen (bool_in (other c inner)) (one d names) (value.List []))) (sym (given_forms.given_where others other_calls e c d inner is))
        (chosen_like (bool_in (other c inner)) (one d names) (value.List []) (other d inner) (value.List []) all.1.0 (like_itself (value.List []))))

    table_like : (e : Expr) (x : Word) → layer e ≡ Node-F.Table x → Like names inner e
    table_like e x is =
        subst (λ v. IsLike v (other e inner)) (sym (given_forms.given_table tables calls e x names is))
        (subst (IsLike (rows_value (tables x.text))) (sym (given_forms.given_table others other_calls e x inner is))
        (like_lists (map row_value (tables x.text)) (map row_value (others x.text)) (IsPermutation-map row_value (tables x.text) (others x.text) (shuffle x.text))))

    append_like : (e a b : Expr) (ts : List Ground) (t : Ground) → layer e ≡ Node-F.Append a b → By operator.Append ts t → FitEach p i (all_given tables calls names (a ∷ b ∷ [])) ts → FitEach p i (all_given others other_calls inner (a ∷ b ∷ [])) ts
        → Each (Like names inner) (a ∷ b ∷ []) → Like names inner e
    append_like e a b _ _ is (rule.append u) (one_more first (one_more second none_left)) (one_more third (one_more fourth none_left)) all =
        subst (λ v. IsLike v (other e inner))
        (sym (given_operation tables calls e (Node-F.Append a b) names is refl ∙ ap value_of (append_is a b (one a names) (one b names) _ _ (shown_items p i (one a names) u first) (shown_items p i (one b names) u second))))
        (subst (IsLike (value.List (items (one a names) ++ items (one b names))))
        (sym (given_operation others other_calls e (Node-F.Append a b) inner is refl ∙ ap value_of (append_is a b (other a inner) (other b inner) _ _ (shown_items p i (other a inner) u third) (shown_items p i (other b inner) u fourth))))
        (like_lists (items (one a names) ++ items (one b names)) (items (other a inner) ++ items (other b inner))
        (IsPermutation-append (items (one a names)) (items (other a inner)) (items (one b names)) (items (other b inner)) (like_items (one a names) (other a inner) all.0) (like_items (one b names) (other b inner) all.1.0))))

    empty_like : (e d : Expr) (ts : List Ground) (t : Ground) → layer e ≡ Node-F.Empty d → By operator.Empty ts t → FitEach p i (all_given tables calls names (d ∷ [])) ts → FitEach p i (all_given others other_calls inner (d ∷ [])) ts
        → Each (Like names inner) (d ∷ []) → Like names inner e
    empty_like e d _ _ is (rule.empty u) (one_more first none_left) (one_more second none_left) all =
        same
        (given_operation tables calls e (Node-F.Empty d) names is refl ∙ ap value_of (empty_is d (one d names) (items (one d names)) (shown_items p i (one d names) u first))
        ∙ ap truth (none_shuffled (items (one d names)) (items (other d inner)) (like_items (one d names) (other d inner) all.0))
        ∙ sym (given_operation others other_calls e (Node-F.Empty d) inner is refl ∙ ap value_of (empty_is d (other d inner) (items (other d inner)) (shown_items p i (other d inner) u second))))

    comparison_like : (e : Expr) (l : Layer) (ts : List Ground) (t : Ground) → layer e ≡ l → is_operation l ≡ true → operands l ≡ parts label_of expr_of l → IsBy e operator.Comparison ts t → Each (λ u. is_query_type u ≡ true) ts
        → ((u : Ground) → may_compare (comparison (layer e) u) ≡ true → is_query_type u ≡ true → is_flat u ≡ true) → FitEach p i (all_given others other_calls inner (parts label_of expr_of l)) ts → Each (Like names inner) (parts label_of expr_of l) → Like names inner e
    comparison_like e l ts t is its same_parts by flats test fits all =
        operation e l is its same_parts ts (compared_flat functions (tables_of p) locals effects only e ts t by.by by.compares flats test) fits all

    -- an operator
    operator_like : (e : Expr) (l : Layer) (h : Head) (ts : List Ground) (t : Ground) → layer e ≡ l → head label_of expr_of l ≡ Some h → IsBy e h ts t → is_query_type t ≡ true → Each (λ u. is_query_type u ≡ true) ts
        → FitEach p i (all_given tables calls names (parts label_of expr_of l)) ts → FitEach p i (all_given others other_calls inner (parts label_of expr_of l)) ts → Each (Like names inner) (parts label_of expr_of l) → Like names inner e
    operator_like e (Node-F.Name x) h ts t is its by flat flats fits other_fits all = local_like e x ts t is (by_head e (operator.Local x) h ts t its by).by
    operator_like e (Node-F.Function g) h ts t is its by flat flats fits other_fits all = let own = by_head e (operator.Function g) h ts t its by in absurd (no_function closed n g ts t flat own.by own.uses)
    operator_like e (Node-F.Call g args) h ts t is its by flat flats fits other_fits all = let own = by_head e (operator.Call g.text) h ts t its by in call_like e g args ts t is own.by own.uses fits other_fits all
    operator_like e (Node-F.Apply f args) h ts t is its by flat flats fits other_fits all = absurd (no_apply only ts t (by_head e operator.Apply h ts t its by).by)
    operator_like e (Node-F.Seq d rest) h ts t is its by flat flats fits other_fits all = absurd (no_seq ts t (by_head e operator.Seq h ts t its by).by flats)
    operator_like e (Node-F.If c a b) h ts t is its by flat flats fits other_fits all = if_like e c a b ts t is (by_head e operator.If h ts t its by).by other_fits all
    operator_like e (Node-F.And a b) h ts t is its by flat flats fits other_fits all = and_like e a b ts t is (by_head e operator.Logic h ts t its by).by other_fits all
    operator_like e (Node-F.Or a b) h ts t is its by flat flats fits other_fits all = or_like e a b ts t is (by_head e operator.Logic h ts t its by).by other_fits all
    operator_like e (Node-F.Where c d) h ts t is its by flat flats fits other_fits all = where_like e c d ts t is (by_head e operator.Where h ts t its by).by other_fits all
    operator_like e (Node-F.Table x) h ts t is its by flat flats fits other_fits all = table_like e x is
    operator_like e (Node-F.Append a b) h ts t is its by flat flats fits other_fits all = append_like e a b ts t is (by_head e operator.Append h ts t its by).by fits other_fits all
    operator_like e (Node-F.Empty d) h ts t is its by flat flats fits other_fits all = empty_like e d ts t is (by_head e operator.Empty h ts t its by).by fits other_fits all
    operator_like e (Node-F.Eq a b) h ts t is its by flat flats fits other_fits all = comparison_like e (Node-F.Eq a b) ts t is refl refl (by_head e operator.Comparison h ts t its by) flats (λ u may query. equality_flat (layer e) (Node-F.Eq a b) u is may (λ shown. shown) query) other_fits all
    operator_like e (Node-F.Ne a b) h ts t is its by flat flats fits other_fits all = comparison_like e (Node-F.Ne a b) ts t is refl refl (by_head e operator.Comparison h ts t its by) flats (λ u may query. equality_flat (layer e) (Node-F.Ne a b) u is may (λ shown. shown) query) other_fits all
    operator_like e (Node-F.Lt a b) h ts t is its by flat flats fits other_fits all = comparison_like e (Node-F.Lt a b) ts t is refl refl (by_head e operator.Comparison h ts t its by) flats (λ u may query. order_flat (layer e) (Node-F.Lt a b) u is may (λ shown. shown)) other_fits all
    operator_like e (Node-F.Le a b) h ts t is its by flat flats fits other_fits all = comparison_like e (Node-F.Le a b) ts t is refl refl (by_head e operator.Comparison h ts t its by) flats (λ u may query. order_flat (layer e) (Node-F.Le a b) u is may (λ shown. shown)) other_fits all
    operator_like e (Node-F.Gt a b) h ts t is its by flat flats fits other_fits all = comparison_like e (Node-F.Gt a b) ts t is refl refl (by_head e operator.Comparison h ts t its by) flats (λ u may query. order_flat (layer e) (Node-F.Gt a b) u is may (λ shown. shown)) other_fits all
    operator_like e (Node-F.Ge a b) h ts t is its by flat flats fits other_fits all = comparison_like e (Node-F.Ge a b) ts t is refl refl (by_head e operator.Comparison h ts t its by) flats (λ u may query. order_flat (layer e) (Node-F.Ge a b) u is may (λ shown. shown)) other_fits all
    operator_like e (Node-F.Print d) h ts t is its by flat flats fits other_fits all = absurd (no_print ts t (by_head e operator.Print h ts t its by).by flat)
    operator_like e (Node-F.Insert x d) h ts t is its by flat flats fits other_fits all = absurd (no_insert x.text ts t (by_head e (operator.Insert x.text) h ts t its by).by flat)
    operator_like e (Node-F.Lambda l) h ts t is its by flat flats fits other_fits all = absurd cc
    operator_like e (Node-F.Var x d rest) h ts t is its by flat flats fits other_fits all = absurd cc
    operator_like e (Node-F.Switch d cases last) h ts t is its by flat flats fits other_fits all = absurd cc
    operator_like e (Node-F.ForList x d body) h ts t is its by flat flats fits other_fits all = absurd cc
    operator_like e (Node-F.ForTable x d body) h ts t is its by flat flats fits other_fits all = absurd cc
    operator_like e (Node-F.Query keys d) h ts t is its by flat flats fits other_fits all = absurd cc
    operator_like e (Node-F.Update change) h ts t is its by flat flats fits other_fits all = absurd cc
    operator_like e (Node-F.Delete change) h ts t is its by flat flats fits other_fits all = absurd cc
    operator_like e l h ts t is its by flat flats fits other_fits all =
        let mixed : is_mixed h ≡ false = sym (ap mixed_in its) in
        operation e l is refl (operands_are l refl) ts (flat_parts functions (tables_of p) locals effects only by.by mixed flat flats) other_fits all

  -- ---- by typings

  -- what loops over lists that are the same but for order give
  loop_like : (x : Word) (v w : Value) (body : Expr) (a b : Ground) (names inner : Names) → Fits p i v (known.List a) → IsLike v w → ((u : Value) → Fits p i u a → Like (bind x.text u names) (bind x.text u inner) body)
      → IsLike (for_each x.text (items v) (one body) names) (for_each x.text (items w) (other body) inner)
  loop_like x v w body a b names inner fits like bodies =
      like_lists (flat_map (λ u. items (one body (bind x.text u names))) (items v)) (flat_map (λ u. items (other body (bind x.text u inner))) (items w))
      (flat_like p i (λ u. items (one body (bind x.text u names))) (λ u. items (other body (bind x.text u inner))) a (items v) (items w) (items_fit p i v a fits) (like_items v w like)
      (λ u fit. like_items (one body (bind x.text u names)) (other body (bind x.text u inner)) (bodies u fit)))

  -- both ends of what is given
  along : (e : Expr) (names inner : Names) (v w : Value) → one e names ≡ v → other e inner ≡ w → IsLike v w → Like names inner e
  along e names inner v w first second like = subst (λ x. IsLike x (other e inner)) (sym first) (subst (IsLike v) (sym second) like)

  abbrev FitsOne : {effects : EffectSet} {locals : Named Ground} {e : Expr} {t : Ground} {inside : List Ground} (flag : Bool) (d : HasType functions (tables_of p) locals effects e t inside)
      → AtMostScan effects → AreQueryNodes p i.helpers n (nodes_of flag d) → (names : Names) → AreLocals p i locals names → Fits p i (one e names) t
  FitsOne {effects = effects} flag d only all names fit = value_fits p i closed tables rows calls n calls_fit functions flag d (no_local effects only) (no_trap effects only) all names fit

  abbrev FitsOther : {effects : EffectSet} {locals : Named Ground} {e : Expr} {t : Ground} {inside : List Ground} (flag : Bool) (d : HasType functions (tables_of p) locals effects e t inside)
      → AtMostScan effects → AreQueryNodes p i.helpers n (nodes_of flag d) → (names : Names) → AreLocals p i locals names → Fits p i (other e names) t
  FitsOther {effects = effects} flag d only all names fit = value_fits p i closed others other_rows other_calls n others_fit functions flag d (no_local effects only) (no_trap effects only) all names fit

  mutual
    unfolding nodes_of

    pub given_like : {effects : EffectSet} {locals : Named Ground} {e : Expr} {t : Ground} {inside : List Ground} (flag : Bool) (d : HasType functions (tables_of p) locals effects e t inside)
        → AtMostScan effects → AreQueryNodes p i.helpers n (nodes_of flag d) → (names inner : Names) → AreLocals p i locals names → AreLocals p i locals inner → NamesLike locals names inner → Like names inner e
    given_like {effects = effects} {locals = locals} {e = e} {t = t} flag (plain h ts is have by) only all names inner fit other_fit likes =
        operator_like effects only locals names inner likes e (layer e) h ts t refl is (record { by = by; uses = all.0.calls; compares = all.0.compares }) all.0.type
        (part_types p i.helpers n flag have all.1)
        (parts_fit p i closed tables rows calls n calls_fit functions flag have (no_local effects only) (no_trap effects only) all.1 names fit)
        (parts_fit p i closed others other_rows other_calls n others_fit functions flag have (no_local effects only) (no_trap effects only) all.1 inner other_fit)
        (parts_like flag have only all.1 names inner fit other_fit likes)
    given_like {effects = effects} flag (lambda l params own a is named moves body local) only all names inner fit other_fit likes = absurd (both_ways (effects effect.Local) (no_local effects only) local)
    given_like {locals = locals} {e = e} flag (var x d rest a first last is front next) only all names inner fit other_fit likes =
        let first_nodes = each_front (IsQueryNode p i.helpers n) (nodes_of flag front) (nodes_of flag next) all.1 in
        let next_nodes = each_back (IsQueryNode p i.helpers n) (nodes_of flag front) (nodes_of flag next) all.1 in
        along e names inner (one rest (bind x.text (one d names) names)) (other rest (bind x.text (other d inner) inner)) (given_forms.given_var tables calls e x d rest names is) (given_forms.given_var others other_calls e x d rest inner is)
        (given_like flag next only next_nodes (bind x.text (one d names) names) (bind x.text (other d inner) inner)
        (bound_one p i x.text (one d names) a locals names (FitsOne flag front only first_nodes names fit) fit)
        (bound_one p i x.text (other d inner) a locals inner (FitsOther flag front only first_nodes inner other_fit) other_fit)
        (like_bound x.text (one d names) (other d inner) a locals names inner (given_like flag front only first_nodes names inner fit other_fit likes) likes))
    given_like {effects = effects} flag (switch d cases row tags ts first bodies is front have alike made local) only all names inner fit other_fit likes = absurd (both_ways (effects effect.Local) (no_local effects only) local)
    given_like {effects = effects} flag (switch_open d cases last rest row tags ts first bodies inside is front have alike next made local) only all names inner fit other_fit likes = absurd (both_ways (effects effect.Local) (no_local effects only) local)
    given_like {locals = locals} {e = e} flag (for_list x d body a b first inside is front next) only all names inner fit other_fit likes =
        let first_nodes = each_front (IsQueryNode p i.helpers n) (nodes_of flag front) (nodes_of flag next) all.1 in
        let next_nodes = each_back (IsQueryNode p i.helpers n) (nodes_of flag front) (nodes_of flag next) all.1 in
        along e names inner (for_each x.text (items (one d names)) (one body) names) (for_each x.text (items (other d inner)) (other body) inner) (given_forms.given_for_list tables calls e x d body names is) (given_forms.given_for_list others other_calls e x d body inner is)
        (loop_like x (one d names) (other d inner) body a b names inner (FitsOne flag front only first_nodes names fit) (given_like flag front only first_nodes names inner fit other_fit likes)
        (λ u fits. given_like flag next only next_nodes (bind x.text u names) (bind x.text u inner) (bound_one p i x.text u a locals names fits fit) (bound_one p i x.text u a locals inner fits other_fit) (like_bound x.text u u a locals names inner (like_itself u) likes)))
    given_like {locals = locals} {e = e} flag (for_table x d body a b first inside is front next) only all names inner fit other_fit likes =
        let first_nodes = each_front (IsQueryNode p i.helpers n) (nodes_of flag front) (nodes_of flag next) all.1 in
        let next_nodes = each_back (IsQueryNode p i.helpers n) (nodes_of flag front) (nodes_of flag next) all.1 in
        along e names inner (for_each x.text (items (one d names)) (one body) names) (for_each x.text (items (other d inner)) (other body) inner) (given_forms.given_for_table tables calls e x d body names is) (given_forms.given_for_table others other_calls e x d body inner is)
        (loop_like x (one d names) (other d inner) body a b names inner (FitsOne flag front only first_nodes names fit) (given_like flag front only first_nodes names inner fit other_fit likes)
        (λ u fits. given_like flag next only next_nodes (bind x.text u names) (bind x.text u inner) (bound_one p i x.text u a locals names fits fit) (bound_one p i x.text u a locals inner fits other_fit) (like_bound x.text u u a locals names inner (like_itself u) likes)))
    given_like {e = e} flag (query keys body a inside is front sorted scans marked) only all names inner fit other_fit likes =
        along e names inner (one body names) (other body inner) (given_forms.given_query tables calls e keys body names is) (given_forms.given_query others other_calls e keys body inner is) (given_like true front only_reads all.1 names inner fit other_fit likes)
    given_like flag (update change is changes writes) only all names inner fit other_fit likes = absurd (unit_not_flat all.0.type)
    given_like flag (delete change is changes writes) only all names inner fit other_fit likes = absurd (unit_not_flat all.0.type)

    pub parts_like : {effects : EffectSet} {locals : Named Ground} {es : List Expr} {ts inside : List Ground} (flag : Bool) (d : HaveTypes functions (tables_of p) locals effects es ts inside)
        → AtMostScan effects → AreQueryNodes p i.helpers n (each_nodes flag d) → (names inner : Names) → AreLocals p i locals names → AreLocals p i locals inner → NamesLike locals names inner → Each (Like names inner) es
    parts_like flag none only all names inner fit other_fit likes = tt
    parts_like flag (more inside rest first behind) only all names inner fit other_fit likes = (
      given_like flag first only (each_front (IsQueryNode p i.helpers n) (nodes_of flag first) (each_nodes flag behind) all) names inner fit other_fit likes,
      parts_like flag behind only (each_back (IsQueryNode p i.helpers n) (nodes_of flag first) (each_nodes flag behind) all) names inner fit other_fit likes,
    )

-- ---- calls

module _ (p : Program) (i : Instances) (bound : IsBound p) (closed : AreClosed p i) (tables others : Tables) (shuffle : AreSame tables others) (rows : AreTables p tables) (other_rows : AreTables p others) where
  entered_like : (k n m : ℕ) → CallsFit p i (called p tables n) k → CallsFit p i (called p others m) k → CallsLike p i (called p tables n) (called p others m) k → (u : Use) → number_of p u.name < suc k → (body : HasBody p (IsHelperNode p i.helpers u) u)
      → (ts : List Ground) (effects : EffectSet) (a : Ground) → u.type ≡ function_of ts effects a → AtMostScan effects → (args other_args : List Value) → FitEach p i args ts → FitEach p i other_args ts → Both IsLike args other_args
      → IsLike (entered (given tables (called p tables n) body.function.body) (bind_all no_names body.function.params args)) (entered (given others (called p others m) body.function.body) (bind_all no_names body.function.params other_args))
  entered_like k n m calls_fit others_fit calls_like u below body ts effects a is only args other_args fits other_fits likes =
      let typed = body.has.typed in
      let f : FunDef = body.function in
      let same_type : function_of ts effects a ≡ function_of (types_of typed.params) typed.effects typed.answer = sym is ∙ typed.is in
      let like = same_effects ts (types_of typed.params) effects typed.effects a typed.answer same_type in
      let own : AtMostScan typed.effects = subst AtMostScan like only in
      let ts_are = same_params ts (types_of typed.params) effects typed.effects a typed.answer same_type in
      let fit : FitEach p i args (types_of typed.params) = subst (λ us. FitEach p i args us) ts_are fits in
      let other_fit : FitEach p i other_args (types_of typed.params) = subst (λ us. FitEach p i other_args us) ts_are other_fits in
      let distinct : AreDistinct (names_of typed.params) = subst AreDistinct (sym typed.names) (params_apart p f bound body.has.declared) in
      let count : (values : List Value) → FitEach p i values (types_of typed.params) → length f.params ≡ length values = λ values fit. sym (length_texts f.params) ∙ ap length (sym typed.names) ∙ length_names typed.params ∙ sym (as_many p i values (types_of typed.params) fit) in
      let locals : (values : List Value) → FitEach p i values (types_of typed.params) → AreLocals p i typed.params (bind_each no_names (texts f.params) values) = λ values fit.
      subst (λ xs. AreLocals p i typed.params (bind_each no_names xs values)) typed.names
      (subst (λ types. AreLocals p i types (bind_each no_names (names_of typed.params) values)) (append-nil typed.params) (bound_each p i typed.params values [] no_names distinct fit (no_locals p i))) in
      let names_like : NamesLike typed.params (bind_each no_names (texts f.params) args) (bind_each no_names (texts f.params) other_args) =
      subst (λ xs. NamesLike typed.params (bind_each no_names xs args) (bind_each no_names xs other_args)) typed.names
      (subst (λ types. NamesLike types (bind_each no_names (names_of typed.params) args) (bind_each no_names (names_of typed.params) other_args)) (append-nil typed.params)
      (likes_bound p i typed.params args other_args [] no_names no_names distinct fit likes (λ x t there. absurd (none-some t there)))) in
      subst (λ o. IsLike (entered (given tables (called p tables n) f.body) o) (entered (given others (called p others m) f.body) (bind_all no_names f.params other_args))) (sym (bound_all no_names f.params args (count args fit)))
      (subst (λ o. IsLike (given tables (called p tables n) f.body (bind_each no_names (texts f.params) args)) (entered (given others (called p others m) f.body) o)) (sym (bound_all no_names f.params other_args (count other_args other_fit)))
      (given_like p i closed tables others shuffle rows other_rows (called p tables n) (called p others m) k calls_fit others_fit calls_like body.has.functions false typed.body own (before_caller p i u k (nodes_of false typed.body) below body.nodes)
      (bind_each no_names (texts f.params) args) (bind_each no_names (texts f.params) other_args) (locals args fit) (locals other_args other_fit) names_like))

  fewer : (table : Tables) → AreTables p table → (k n : ℕ) → k ≤ n → CallsFit p i (called p table n) k
  fewer table are k n le u (listed, below) ts effects a is own traps args fits = called_fits p i bound closed table are n u (listed, omega arith) ts effects a is own traps args fits

  pub calls_like : (k n m : ℕ) → k ≤ n → k ≤ m → CallsLike p i (called p tables n) (called p others m) k
  unfolding called
  calls_like zero n m le enough u (listed, below) ts effects a is only args other_args fits other_fits likes = absurd (omega arith)
  calls_like (suc k) zero m le enough u early ts effects a is only args other_args fits other_fits likes = absurd (omega arith)
  calls_like (suc k) (suc n) zero le enough u early ts effects a is only args other_args fits other_fits likes = absurd (omega arith)
  calls_like (suc k) (suc n) (suc m) le enough u (listed, below) ts effects a is only args other_args fits other_fits likes =
      let body : HasBody p (IsHelperNode p i.helpers u) u = each_in (λ w. HasBody p (IsHelperNode p i.helpers w) w) i.helpers u listed closed.helpers in
      subst (λ o. IsLike (called_function p tables (called p tables n) o args) (called_function p others (called p others m) o other_args)) (sym body.named)
      (entered_like k n m (fewer tables rows k n (omega arith)) (fewer others other_rows k m (omega arith)) (calls_like k n m (omega arith) (omega arith)) u below body ts effects a is only args other_args fits other_fits likes)
