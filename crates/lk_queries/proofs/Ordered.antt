-- Where readings are answered legally in any order, the expressions of which a query may consist are evaluated to what they give but
-- for order.
use Rattle.std.proofs.Common.{◌≡◌, refl, sym, ap, ◌∙◌, subst, ℕ, Bool, true, false, List, [], ◌∷◌, ◌++◌, length, map, flat_map, Some, unwrap_or, IsPermutation}
use Rattle.std.proofs.lemmas.List.Sorted.{IsPermutation-refl, IsPermutation-sym, IsPermutation-trans, IsPermutation-map, IsPermutation-append}
use Rattle.std.proofs.lemmas.Bool.{both_ways}
use Rattle.lk_ast.specs.Functions.{functions_of}
use Rattle.lk_ast.specs.Layers.{Layer, layer}
use Rattle.lk_ast.specs.Rows.{row_value, rows_value}
use Rattle.lk_ast.specs.Tables.{Tables, tables_of}
use Rattle.lk_ast.specs.declared.declaration.Program.{Program}
use Rattle.lk_ast.specs.declared.expression.Expr.{Expr}
use Rattle.lk_ast.specs.declared.expression.Node.TheOpen.{Node-F}
use Rattle.lk_ast.specs.declared.expression.SortKey.{SortKey}
use Rattle.lk_ast.specs.declared.place.Span.{Span}
use Rattle.lk_ast.specs.declared.place.Word.{Word}
use Rattle.lk_ast.specs.declared.table.Row.{Row}
use Rattle.lk_ast.specs.declared.value.Value.{Value}
use Rattle.lk_ast.specs.declared.value.Value.TheVariants as value
use Rattle.lk_bag.proofs.Given as given_forms
use Rattle.lk_bag.proofs.Given.{is_operation, operands, all_given, given_operation}
use Rattle.lk_bag.specs.Bag.{value_of, items, chosen, for_each, given, called, gives}
use Rattle.lk_bag.specs.Blocks.{acts_on_tables, block_at, AreBlocksApart}
use Rattle.lk_bag.specs.Legal.{AreSame, bag, bag_by, captured_by}
use Rattle.lk_evaluation.specs.Evaluation.{Act, Give, Tail}
use Rattle.lk_evaluation.specs.Run.{Entry}
use Rattle.lk_evaluation.specs.Laws.{Both}
use Rattle.lk_evaluation.specs.Source.{Point, under, act, call, choose, done, over, reads}
use Rattle.lk_evaluation.specs.Source as does
use Rattle.lk_evaluation.specs.Syntax.{parts_of}
use Rattle.lk_ground_types.specs.Shapes.{is_flat, is_query_type}
use Rattle.lk_index.specs.Free.{free, captured_query}
use Rattle.lk_locals.specs.Names.{Names, no_names, bind, bind_each, lookup_all}
use Rattle.lk_operators.specs.Operators.{operated}
use Rattle.lk_operators.specs.Values.{bool_in, list_in, truth, unit as unit_value}
use Rattle.lk_scope.specs.Names as scope
use Rattle.lk_sound.proofs.Bags.{value_fits, parts_fit}
use Rattle.lk_sound.proofs.Bindings.{bound_one}
use Rattle.lk_sound.proofs.FlatTypes.{unit_not_flat}
use Rattle.lk_sound.proofs.Free.{known_in}
use Rattle.lk_sound.proofs.Operators as operators
use Rattle.lk_sound.proofs.QueryParts.{IsEarly, IsQueryNode, AreQueryNodes, node_type, part_types, operands_are}
use Rattle.lk_sound.proofs.QueryValues.{CallsFit, items_fit}
use Rattle.lk_sound.proofs.Retyped.{outermost, retyped, retyped_nodes}
use Rattle.lk_sound.proofs.TextBlocks.{insides_blocks, own_block, block_found}
use Rattle.lk_sound.specs.Instances.{Instances, AreClosed}
use Rattle.lk_sound.specs.Nodes.{Use, used_by, compared_by, comparison, may_compare, nodes_of, each_nodes}
use Rattle.lk_sound.specs.Points.{AreBlocksOf, AreLocals}
use Rattle.lk_sound.specs.Tables.{AreTables}
use Rattle.lk_sound.specs.Values.{Fits, AllFit, FitEach, none_left, one_more}
use Rattle.lk_sound.specs.Values as fitting
use Rattle.lk_types.proofs.Members.{each_front, each_back}
use Rattle.lk_types.proofs.Parts.{same_some}
use Rattle.lk_types.specs.Each.{Each}
use Rattle.lk_types.specs.Rows.{Label, EffectSet}
use Rattle.lk_types.specs.declared.ground.Ground.{Ground}
use Rattle.lk_types.specs.declared.ground.Ground.TheVariants as known
use Rattle.lk_types.specs.declared.ty.Effect.TheVariants as effect
use Rattle.lk_typing.specs.Heads as operator
use Rattle.lk_typing.specs.Heads.{Head, head, parts}
use Rattle.lk_typing.specs.Names.{Named, named}
use Rattle.lk_typing.specs.Names as typed_names
use Rattle.lk_typing.specs.Rules.{Rule}
use Rattle.lk_typing.specs.Rules as rule
use Rattle.lk_typing.specs.Types.{function_of, only_scan}
use Rattle.lk_typing.specs.Typing.{HasType, HaveTypes, label_of, expr_of, plain, lambda, var, switch, switch_open, for_list, for_table, query, update, delete, none, more}
use Rattle.lk_queries.specs.Law.{AtMostScan}
use Rattle.lk_queries.specs.Order.{IsLike, same}
use Rattle.lk_queries.proofs.Barred.{no_function, no_apply, no_seq, no_print, no_insert, no_local, no_trap}
use Rattle.lk_queries.proofs.Coming.{IsFrom, IsCome, IsBodyCome, weaker, read, node_comes, each_come}
use Rattle.lk_queries.proofs.FlatParts.{AreFlat, is_mixed, mixed_in, flat_parts, compared_flat, equality_flat, order_flat, append_is, empty_is, is_none, none_shuffled}
use Rattle.lk_queries.proofs.Giving.{only_reads, operator_insides, both_blocks}
use Rattle.lk_queries.proofs.Kept.{IsTaken, taken_of}
use Rattle.lk_queries.proofs.LikeGiven.{CallsLike, NamesLike, names_themselves, like_bound, shown_items, given_like}
use Rattle.lk_queries.proofs.Liking.{like_itself, like_lists, like_then, like_items, like_flat, like_each, like_fits, likes_fit, bool_flat}
use Rattle.lk_sound.proofs.Shuffles.{flat_shuffled}
use Rattle.lk_queries.proofs.Calculating.{is_calculated, results}
use Rattle.lk_queries.proofs.Doing.{same_tables, as_list, one_of, two_of, DoesLike, CallsCome, gives_it, done_come, choice_come}

-- ---- expressions

module _ (p : Program) (i : Instances) (apart : AreBlocksApart p) (closed : AreClosed p i) (tables : Tables) (rows : AreTables p tables) (calls : List ℕ → List Value → Value) (n : ℕ)
    (calls_fit : CallsFit p i calls n) (own_like : CallsLike p i calls calls n) (calls_come : CallsCome p tables i calls n)
    (listed_fit : (listed : Tables) → AreSame tables listed → CallsFit p i (called p listed (length (functions_of p))) n)
    (listed_like : (listed : Tables) → AreSame tables listed → CallsLike p i calls (called p listed (length (functions_of p))) n)
    (functions : Named (typed_names.Entry Ground)) where
  abbrev give : Expr → Names → Value
  give = given tables calls

  abbrev give_all : Names → List Expr → List Value
  give_all = all_given tables calls

  abbrev Come : Names → Expr → Type 0
  Come = IsCome p tables calls

  same_order : AreSame tables tables
  same_order x = IsPermutation-refl (tables x)

  -- what other names that are the same but for order make of it
  renamed : {effects : EffectSet} {locals : Named Ground} {e : Expr} {t : Ground} {inside : List Ground} (flag : Bool) (d : HasType functions (tables_of p) locals effects e t inside)
      → AtMostScan effects → AreQueryNodes p i.helpers n (nodes_of flag d) → (names inner : Names) → AreLocals p i locals names → AreLocals p i locals inner → NamesLike locals names inner → IsLike (give e names) (give e inner)
  renamed flag d only all names inner fit other_fit likes = given_like p i closed tables tables same_order rows rows calls calls n calls_fit calls_fit own_like functions flag d only all names inner fit other_fit likes

  module _ (effects : EffectSet) (only : AtMostScan effects) (locals : Named Ground) (names : Names) (fit : AreLocals p i locals names) where
    abbrev ByRule : Head → List Ground → Ground → Type 0
    ByRule = Rule functions (tables_of p) locals effects

    record IsBy (e : Expr) (h : Head) (ts : List Ground) (t : Ground) : Type 0 where
      by : ByRule h ts t
      uses : (u : Use) → used_by by ≡ Some u → IsEarly p i.helpers n u
      compares : may_compare (compared_by e by) ≡ true

    by_head : (e : Expr) (g h : Head) (ts : List Ground) (t : Ground) → Some g ≡ Some h → IsBy e h ts t → IsBy e g ts t
    by_head e g h ts t is by = let same : g ≡ h = cc in subst (λ x. IsBy e x ts t) (sym same) by

    -- a node by what it gives and does
    form : (e : Expr) (l : Layer) (v : Value) → layer e ≡ l → Each (Come names) (parts_of l) → give e names ≡ v → ((ws : List Value) → Both IsLike ws (give_all names (parts_of l)) → DoesLike p tables v (act p e.span l names ws)) → Come names e
    form e l v is all gives acts = node_comes p tables calls names e l is all (λ ws likes. subst (λ x. DoesLike p tables x (act p e.span l names ws)) (sym gives) (acts ws likes))

    operation : (e : Expr) (l : Layer) (ts : List Ground) (t : Ground) → layer e ≡ l → is_operation l ≡ true → operands l ≡ parts label_of expr_of l → parts_of l ≡ parts label_of expr_of l
        → ((values : List Value) → act p e.span l names values ≡ done e.span (operated l values))
        → operators.Results p i functions effects locals l ts t → AreFlat ts → FitEach p i (give_all names (parts label_of expr_of l)) ts → Each (Come names) (parts label_of expr_of l) → Come names e
    operation e l ts t is its same_parts first acts result flat fits all =
        let values : List Value = give_all names (parts label_of expr_of l) in
        form e l (value_of (operated l values)) is (subst (Each (Come names)) (sym first) all)
        (given_operation tables calls e l names is its ∙ ap (λ es. value_of (operated l (give_all names es))) same_parts)
        (λ ws likes.
        let equal : ws ≡ values = like_each p i ts ws values flat fits (subst (λ es. Both IsLike ws (give_all names es)) first likes) in
        subst (λ vs. DoesLike p tables (value_of (operated l values)) (act p e.span l names vs)) (sym equal)
        (subst (DoesLike p tables (value_of (operated l values))) (sym (acts values)) (done_come p tables i effects t (operated l values) e.span (no_trap effects only) (result values fits))))

    local_come : (e : Expr) (x : Label) (ts : List Ground) (t : Ground) → layer e ≡ Node-F.Name x → ByRule (operator.Local x) ts t → Come names e
    local_come e x _ t is (rule.local there) =
        let found = fit x t there in
        form e (Node-F.Name x) found.0 is tt (given_forms.given_name tables calls e x names is ∙ ap (λ o. unwrap_or o unit_value) found.1)
        (λ ws likes. subst (λ o. DoesLike p tables found.0 (does.given e.span o)) (sym found.1) (gives_it p tables found.0 found.0 (like_itself found.0)))

    call_come : (e : Expr) (g : Word) (args : List Expr) (ts : List Ground) (t : Ground) → layer e ≡ Node-F.Call g args → (by : ByRule (operator.Call g.text) ts t) → ((u : Use) → used_by by ≡ Some u → IsEarly p i.helpers n u)
        → Each (λ u. is_query_type u ≡ true) ts → FitEach p i (give_all names args) ts → Each (Come names) args → Come names e
    call_come e g args ts t is (rule.call may) uses flats fits all =
        let u : Use = record { name = g.text; type = function_of ts effects t } in
        let early : IsEarly p i.helpers n u = uses u refl in
        form e (Node-F.Call g args) (calls g.text (give_all names args)) is all (given_forms.given_call tables calls e g args names is)
        (λ ws likes.
        let ws_fit : FitEach p i ws ts = likes_fit p i ts ws (give_all names args) flats fits likes in
        weaker p tables Value (λ w. IsLike w (calls g.text ws)) (λ w. IsLike w (calls g.text (give_all names args))) _
        (λ w like. like_then w (calls g.text ws) (calls g.text (give_all names args)) like (own_like u early ts effects t refl only ws (give_all names args) ws_fit fits likes))
        (calls_come u early ts effects t refl only ws ws_fit e.span))

    -- a choice by the value of the first part
    chosen_come : (e c : Expr) (l : Layer) (v w : Value) (one other : Act Point) → layer e ≡ l → parts_of l ≡ c ∷ [] → ((x : Value) → act p e.span l names (x ∷ []) ≡ choose e.span (bool_in x) one other)
        → give e names ≡ chosen (bool_in (give c names)) v w → Fits p i (give c names) known.Bool → Come names c → DoesLike p tables v one → DoesLike p tables w other → Come names e
    chosen_come e c l v w one other is parts acts gives test first yes_come no_come =
        form e l (chosen (bool_in (give c names)) v w) is (subst (Each (Come names)) (sym parts) (first, tt)) gives
        (λ ws likes.
        let found = one_of (give c names) ws (subst (λ es. Both IsLike ws (give_all names es)) parts likes) in
        let equal : found.0 ≡ give c names = like_flat p i known.Bool found.0 (give c names) bool_flat test found.2 in
        subst (λ vs. DoesLike p tables (chosen (bool_in (give c names)) v w) (act p e.span l names vs)) (sym (found.1 ∙ ap (λ x. x ∷ []) equal))
        (subst (DoesLike p tables (chosen (bool_in (give c names)) v w)) (sym (acts (give c names)))
        (choice_come p tables i e.span (give c names) v w one other test yes_come no_come)))

    if_come : (e c a b : Expr) (ts : List Ground) (t : Ground) → layer e ≡ Node-F.If c a b → ByRule operator.If ts t → FitEach p i (give_all names (c ∷ a ∷ b ∷ [])) ts → Each (Come names) (c ∷ a ∷ b ∷ []) → Come names e
    if_come e c a b _ t is rule.branch (one_more test fits) all =
        chosen_come e c (Node-F.If c a b) (give a names) (give b names) (Tail (under names a)) (Tail (under names b)) is refl (λ x. refl) (given_forms.given_if tables calls e c a b names is) test all.0 all.1.0 all.1.1.0

    and_come : (e a b : Expr) (ts : List Ground) (t : Ground) → layer e ≡ Node-F.And a b → ByRule operator.Logic ts t → FitEach p i (give_all names (a ∷ b ∷ [])) ts → Each (Come names) (a ∷ b ∷ []) → Come names e
    and_come e a b _ _ is rule.logic (one_more test fits) all =
        chosen_come e a (Node-F.And a b) (give b names) (truth false) (Tail (under names b)) (Give (truth false)) is refl (λ x. refl) (given_forms.given_and tables calls e a b names is) test all.0 all.1.0 (gives_it p tables (truth false) (truth false) (like_itself (truth false)))

    or_come : (e a b : Expr) (ts : List Ground) (t : Ground) → layer e ≡ Node-F.Or a b → ByRule operator.Logic ts t → FitEach p i (give_all names (a ∷ b ∷ [])) ts → Each (Come names) (a ∷ b ∷ []) → Come names e
    or_come e a b _ _ is rule.logic (one_more test fits) all =
        chosen_come e a (Node-F.Or a b) (truth true) (give b names) (Give (truth true)) (Tail (under names b)) is refl (λ x. refl) (given_forms.given_or tables calls e a b names is) test all.0 (gives_it p tables (truth true) (truth true) (like_itself (truth true))) all.1.0

    where_come : (e c d : Expr) (ts : List Ground) (t : Ground) → layer e ≡ Node-F.Where c d → ByRule operator.Where ts t → FitEach p i (give_all names (c ∷ d ∷ [])) ts → Each (Come names) (c ∷ d ∷ []) → Come names e
    where_come e c d _ _ is (rule.filter b) (one_more test fits) all =
        chosen_come e c (Node-F.Where c d) (give d names) (value.List []) (Tail (under names d)) (Give (value.List [])) is refl (λ x. refl) (given_forms.given_where tables calls e c d names is) test all.0 all.1.0 (gives_it p tables (value.List []) (value.List []) (like_itself (value.List [])))

    table_come : (e : Expr) (x : Word) → layer e ≡ Node-F.Table x → AreBlocksOf p e → Come names e
    table_come e x is blocks =
        let there : block_at p e.span.start ≡ Some e = block_found p e apart (own_block p e blocks (ap acts_on_tables is)) in
        form e (Node-F.Table x) (rows_value (tables x.text)) is tt (given_forms.given_table tables calls e x names is)
        (λ ws likes. read p tables (λ w. IsLike w (rows_value (tables x.text))) e.span.start []
        (λ answer (block, found, (listed, shuffle, permuted, sorted)).
        let equal : block ≡ e = same_some (sym found ∙ there) in
        let bags : bag p listed block [] ≡ map row_value (listed x.text) = ap (λ b. bag p listed b []) equal ∙ ap (λ k. bag_by p listed e k []) is in
        like_lists (map row_value answer) (map row_value (tables x.text))
        (IsPermutation-sym (map row_value (tables x.text)) (map row_value answer)
        (IsPermutation-trans (map row_value (tables x.text)) (map row_value (listed x.text)) (map row_value answer) (IsPermutation-map row_value (tables x.text) (listed x.text) (shuffle x.text))
        (subst (λ l. IsPermutation l (map row_value answer)) bags permuted)))))

    append_come : (e a b : Expr) (ts : List Ground) (t : Ground) → layer e ≡ Node-F.Append a b → ByRule operator.Append ts t → Each (λ u. is_query_type u ≡ true) ts → FitEach p i (give_all names (a ∷ b ∷ [])) ts → Each (Come names) (a ∷ b ∷ []) → Come names e
    append_come e a b _ _ is (rule.append u) flats (one_more first (one_more second none_left)) all =
        let v : Value = give a names in
        let w : Value = give b names in
        form e (Node-F.Append a b) (value.List (items v ++ items w)) is all
        (given_operation tables calls e (Node-F.Append a b) names is refl ∙ ap value_of (append_is a b v w _ _ (shown_items p i v u first) (shown_items p i w u second)))
        (λ ws likes.
        let found = two_of v w ws likes in
        let v_shown = shown_items p i found.0 u (like_fits p i (known.List u) found.0 v flats.0 first found.3) in
        let w_shown = shown_items p i found.1 u (like_fits p i (known.List u) found.1 w flats.1.0 second found.4) in
        subst (λ vs. DoesLike p tables (value.List (items v ++ items w)) (done e.span (operated (Node-F.Append a b) vs))) (sym found.2)
        (subst (λ o. DoesLike p tables (value.List (items v ++ items w)) (done e.span o)) (sym (append_is a b found.0 found.1 _ _ v_shown w_shown))
        (gives_it p tables (value.List (items v ++ items w)) (value.List (items found.0 ++ items found.1))
        (like_lists (items found.0 ++ items found.1) (items v ++ items w) (IsPermutation-append (items found.0) (items v) (items found.1) (items w) (like_items found.0 v found.3) (like_items found.1 w found.4))))))

    empty_come : (e d : Expr) (ts : List Ground) (t : Ground) → layer e ≡ Node-F.Empty d → ByRule operator.Empty ts t → Each (λ u. is_query_type u ≡ true) ts → FitEach p i (give_all names (d ∷ [])) ts → Each (Come names) (d ∷ []) → Come names e
    empty_come e d _ _ is (rule.empty u) flats (one_more first none_left) all =
        let v : Value = give d names in
        form e (Node-F.Empty d) (truth (is_none (items v))) is all (given_operation tables calls e (Node-F.Empty d) names is refl ∙ ap value_of (empty_is d v (items v) (shown_items p i v u first)))
        (λ ws likes.
        let found = one_of v ws likes in
        let shown = shown_items p i found.0 u (like_fits p i (known.List u) found.0 v flats.0 first found.2) in
        subst (λ vs. DoesLike p tables (truth (is_none (items v))) (done e.span (operated (Node-F.Empty d) vs))) (sym found.1)
        (subst (λ o. DoesLike p tables (truth (is_none (items v))) (done e.span o)) (sym (empty_is d found.0 (items found.0) shown))
        (gives_it p tables (truth (is_none (items v))) (truth (is_none (items found.0))) (same (ap truth (none_shuffled (items found.0) (items v) (like_items found.0 v found.2)))))))

    comparison_come : (e : Expr) (l : Layer) (ts : List Ground) (t : Ground) → layer e ≡ l → is_operation l ≡ true → operands l ≡ parts label_of expr_of l → parts_of l ≡ parts label_of expr_of l
        → ((values : List Value) → act p e.span l names values ≡ done e.span (operated l values)) → operators.Results p i functions effects locals l ts t → IsBy e operator.Comparison ts t → Each (λ u. is_query_type u ≡ true) ts
        → ((u : Ground) → may_compare (comparison (layer e) u) ≡ true → is_query_type u ≡ true → is_flat u ≡ true) → FitEach p i (give_all names (parts label_of expr_of l)) ts → Each (Come names) (parts label_of expr_of l) → Come names e
    comparison_come e l ts t is its same_parts first acts result by flats test fits all =
        operation e l ts t is its same_parts first acts result (compared_flat functions (tables_of p) locals effects only e ts t by.by by.compares flats test) fits all

    result_by : (l : Layer) (h : Head) (ts : List Ground) (t : Ground) → head label_of expr_of l ≡ Some h → is_calculated l ≡ true → ByRule h ts t → operators.Results p i functions effects locals l ts t
    result_by l h ts t its calculated by = results p i functions effects locals l h ts t its calculated by

    -- an operator
    operator_come : (e : Expr) (l : Layer) (h : Head) (ts : List Ground) (t : Ground) → layer e ≡ l → head label_of expr_of l ≡ Some h → AreBlocksOf p e → IsBy e h ts t → is_query_type t ≡ true → Each (λ u. is_query_type u ≡ true) ts
        → FitEach p i (give_all names (parts label_of expr_of l)) ts → Each (Come names) (parts label_of expr_of l) → Come names e
    operator_come e (Node-F.Name x) h ts t is its blocks by flat flats fits all = local_come e x ts t is (by_head e (operator.Local x) h ts t its by).by
    operator_come e (Node-F.Function g) h ts t is its blocks by flat flats fits all = let own = by_head e (operator.Function g) h ts t its by in absurd (no_function closed n g ts t flat own.by own.uses)
    operator_come e (Node-F.Call g args) h ts t is its blocks by flat flats fits all = let own = by_head e (operator.Call g.text) h ts t its by in call_come e g args ts t is own.by own.uses flats fits all
    operator_come e (Node-F.Apply f args) h ts t is its blocks by flat flats fits all = absurd (no_apply only ts t (by_head e operator.Apply h ts t its by).by)
    operator_come e (Node-F.Seq d rest) h ts t is its blocks by flat flats fits all = absurd (no_seq ts t (by_head e operator.Seq h ts t its by).by flats)
    operator_come e (Node-F.If c a b) h ts t is its blocks by flat flats fits all = if_come e c a b ts t is (by_head e operator.If h ts t its by).by fits all
    operator_come e (Node-F.And a b) h ts t is its blocks by flat flats fits all = and_come e a b ts t is (by_head e operator.Logic h ts t its by).by fits all
    operator_come e (Node-F.Or a b) h ts t is its blocks by flat flats fits all = or_come e a b ts t is (by_head e operator.Logic h ts t its by).by fits all
    operator_come e (Node-F.Where c d) h ts t is its blocks by flat flats fits all = where_come e c d ts t is (by_head e operator.Where h ts t its by).by fits all
    operator_come e (Node-F.Table x) h ts t is its blocks by flat flats fits all = table_come e x is blocks
    operator_come e (Node-F.Append a b) h ts t is its blocks by flat flats fits all = append_come e a b ts t is (by_head e operator.Append h ts t its by).by flats fits all
    operator_come e (Node-F.Empty d) h ts t is its blocks by flat flats fits all = empty_come e d ts t is (by_head e operator.Empty h ts t its by).by flats fits all
    operator_come e (Node-F.Eq a b) h ts t is its blocks by flat flats fits all = comparison_come e (Node-F.Eq a b) ts t is refl refl refl (λ values. refl) (result_by (Node-F.Eq a b) h ts t its refl by.by) (by_head e operator.Comparison h ts t its by) flats (λ u may query. equality_flat (layer e) (Node-F.Eq a b) u is may (λ shown. shown) query) fits all
    operator_come e (Node-F.Ne a b) h ts t is its blocks by flat flats fits all = comparison_come e (Node-F.Ne a b) ts t is refl refl refl (λ values. refl) (result_by (Node-F.Ne a b) h ts t its refl by.by) (by_head e operator.Comparison h ts t its by) flats (λ u may query. equality_flat (layer e) (Node-F.Ne a b) u is may (λ shown. shown) query) fits all
    operator_come e (Node-F.Lt a b) h ts t is its blocks by flat flats fits all = comparison_come e (Node-F.Lt a b) ts t is refl refl refl (λ values. refl) (result_by (Node-F.Lt a b) h ts t its refl by.by) (by_head e operator.Comparison h ts t its by) flats (λ u may query. order_flat (layer e) (Node-F.Lt a b) u is may (λ shown. shown)) fits all
    operator_come e (Node-F.Le a b) h ts t is its blocks by flat flats fits all = comparison_come e (Node-F.Le a b) ts t is refl refl refl (λ values. refl) (result_by (Node-F.Le a b) h ts t its refl by.by) (by_head e operator.Comparison h ts t its by) flats (λ u may query. order_flat (layer e) (Node-F.Le a b) u is may (λ shown. shown)) fits all
    operator_come e (Node-F.Gt a b) h ts t is its blocks by flat flats fits all = comparison_come e (Node-F.Gt a b) ts t is refl refl refl (λ values. refl) (result_by (Node-F.Gt a b) h ts t its refl by.by) (by_head e operator.Comparison h ts t its by) flats (λ u may query. order_flat (layer e) (Node-F.Gt a b) u is may (λ shown. shown)) fits all
    operator_come e (Node-F.Ge a b) h ts t is its blocks by flat flats fits all = comparison_come e (Node-F.Ge a b) ts t is refl refl refl (λ values. refl) (result_by (Node-F.Ge a b) h ts t its refl by.by) (by_head e operator.Comparison h ts t its by) flats (λ u may query. order_flat (layer e) (Node-F.Ge a b) u is may (λ shown. shown)) fits all
    operator_come e (Node-F.Print d) h ts t is its blocks by flat flats fits all = absurd (no_print ts t (by_head e operator.Print h ts t its by).by flat)
    operator_come e (Node-F.Insert x d) h ts t is its blocks by flat flats fits all = absurd (no_insert x.text ts t (by_head e (operator.Insert x.text) h ts t its by).by flat)
    operator_come e (Node-F.Lambda l) h ts t is its blocks by flat flats fits all = absurd cc
    operator_come e (Node-F.Var x d rest) h ts t is its blocks by flat flats fits all = absurd cc
    operator_come e (Node-F.Switch d cases last) h ts t is its blocks by flat flats fits all = absurd cc
    operator_come e (Node-F.ForList x d body) h ts t is its blocks by flat flats fits all = absurd cc
    operator_come e (Node-F.ForTable x d body) h ts t is its blocks by flat flats fits all = absurd cc
    operator_come e (Node-F.Query keys d) h ts t is its blocks by flat flats fits all = absurd cc
    operator_come e (Node-F.Update change) h ts t is its blocks by flat flats fits all = absurd cc
    operator_come e (Node-F.Delete change) h ts t is its blocks by flat flats fits all = absurd cc
    operator_come e l h ts t is its blocks by flat flats fits all =
        let mixed : is_mixed h ≡ false = sym (ap mixed_in its) in
        operation e l ts t is refl (operands_are l refl) refl (λ values. refl) (result_by l h ts t its refl by.by) (flat_parts functions (tables_of p) locals effects only by.by mixed flat flats) fits all

  -- ---- blocks and loops

  -- what is evaluated where the name has another value that is the same but for order
  var_come : (e : Expr) (x : Word) (d rest : Expr) (names : Names) → layer e ≡ Node-F.Var x d rest → Come names d
      → ((w : Value) → IsLike w (give d names) → Come (bind x.text w names) rest × IsLike (give rest (bind x.text w names)) (give rest (bind x.text (give d names) names))) → Come names e
  var_come e x d rest names is first next =
      let v : Value = give rest (bind x.text (give d names) names) in
      node_comes p tables calls names e (Node-F.Var x d rest) is (first, tt)
      (λ ws likes.
      let found = one_of (give d names) ws likes in
      let behind = next found.0 found.2 in
      subst (λ vs. DoesLike p tables (give e names) (act p e.span (Node-F.Var x d rest) names vs)) (sym found.1)
      (weaker p tables Value (λ w. IsLike w (give rest (bind x.text found.0 names))) (λ w. IsLike w (give e names)) _
      (λ w like. subst (IsLike w) (sym (given_forms.given_var tables calls e x d rest names is)) (like_then w (give rest (bind x.text found.0 names)) v like behind.1)) behind.0))

  bodies_come : (x : Word) (a b : Ground) (body : Expr) (names : Names) → is_query_type (known.List b) ≡ true → ((v : Value) → Fits p i v a → Come (bind x.text v names) body) → ((v : Value) → Fits p i v a → Fits p i (give body (bind x.text v names)) (known.List b))
      → (elements : List Value) → AllFit p i elements a → Each (λ v. IsBodyCome p tables calls (bind x.text v names) body) elements
  bodies_come x a b body names flat come fits [] fitting.none = tt
  bodies_come x a b body names flat come fits (v ∷ elements) (fitting.more fit all) = (
    record {
      come = come v fit;
      list = λ w like. (shown_items p i w b (like_fits p i (known.List b) w (give body (bind x.text v names)) flat (fits v fit) like), like_items w (give body (bind x.text v names)) like);
    },
    bodies_come x a b body names flat come fits elements all,
  )

  over_come : (at : Span) (x : Word) (a b : Ground) (d body : Expr) (names : Names) → is_query_type (known.List a) ≡ true → is_query_type (known.List b) ≡ true → Fits p i (give d names) (known.List a)
      → ((v : Value) → Fits p i v a → Come (bind x.text v names) body) → ((v : Value) → Fits p i v a → Fits p i (give body (bind x.text v names)) (known.List b))
      → (w : Value) → IsLike w (give d names) → DoesLike p tables (for_each x.text (items (give d names)) (give body) names) (over at x.text (list_in w) body names)
  over_come at x a b d body names flat body_flat fits come bodies_fit w like =
      let w_fits : Fits p i w (known.List a) = like_fits p i (known.List a) w (give d names) flat fits like in
      let f : Value → List Value = λ v. items (give body (bind x.text v names)) in
      subst (λ o. DoesLike p tables (for_each x.text (items (give d names)) (give body) names) (over at x.text o body names)) (sym (shown_items p i w a w_fits))
      (weaker p tables Value (λ u. IsLike u (value.List (flat_map f (items w)))) (λ u. IsLike u (value.List (flat_map f (items (give d names))))) _
      (λ u one. like_then u (value.List (flat_map f (items w))) (value.List (flat_map f (items (give d names)))) one (like_lists (flat_map f (items w)) (flat_map f (items (give d names))) (flat_shuffled f (items w) (items (give d names)) (like_items w (give d names) like))))
      (each_come p tables calls at x.text body names (items w) (bodies_come x a b body names body_flat come bodies_fit (items w) (items_fit p i w a w_fits)) [] [] (IsPermutation-refl [])))

  loop_come : (e : Expr) (l : Layer) (x : Word) (a b : Ground) (d body : Expr) (names : Names) → layer e ≡ l → parts_of l ≡ d ∷ [] → ((v : Value) → act p e.span l names (v ∷ []) ≡ over e.span x.text (list_in v) body names)
      → give e names ≡ for_each x.text (items (give d names)) (give body) names → is_query_type (known.List a) ≡ true → is_query_type (known.List b) ≡ true → Fits p i (give d names) (known.List a) → Come names d
      → ((v : Value) → Fits p i v a → Come (bind x.text v names) body) → ((v : Value) → Fits p i v a → Fits p i (give body (bind x.text v names)) (known.List b)) → Come names e
  loop_come e l x a b d body names is parts acts gives flat body_flat fits first come bodies_fit =
      node_comes p tables calls names e l is (subst (Each (Come names)) (sym parts) (first, tt))
      (λ ws likes.
      let found = one_of (give d names) ws (subst (λ es. Both IsLike ws (give_all names es)) parts likes) in
      subst (λ vs. DoesLike p tables (give e names) (act p e.span l names vs)) (sym found.1)
      (subst (DoesLike p tables (give e names)) (sym (acts found.0))
      (subst (λ v. DoesLike p tables v (over e.span x.text (list_in found.0) body names)) (sym gives)
      (over_come e.span x a b d body names flat body_flat fits come bodies_fit found.0 found.2))))

  -- ---- queries inside

  pub query_like : (e : Expr) (keys : List SortKey) (body : Expr) (a : Ground) (inside : List Ground) (locals : Named Ground) (names : Names) → layer e ≡ Node-F.Query keys body → AreBlocksOf p e
      → AreLocals p i locals names → (one : HasType functions (tables_of p) locals only_scan body (known.List a) inside) → AreQueryNodes p i.helpers n (nodes_of true one)
      → (args : List Value) × (lookup_all names (captured_query body) ≡ Some args) × ((answer : List Row) → IsFrom p tables (record { site = e.span.start; args = args; answer = answer }) → IsLike (rows_value answer) (give body names))
  query_like e keys body a inside locals names is blocks fit one all =
      let taken : IsTaken p i locals names (free body scope.no_names) = taken_of p i locals names (free body scope.no_names) fit (known_in one scope.no_names) in
      let inner = outermost {xs = free body scope.no_names} taken.same in
      let typed : HasType functions (tables_of p) taken.kept only_scan body (known.List a) inside = retyped one scope.no_names taken.kept inner.used inner.round in
      let query_nodes : AreQueryNodes p i.helpers n (nodes_of true typed) =
      subst (AreQueryNodes p i.helpers n) (sym (retyped_nodes true one scope.no_names taken.kept inner.used inner.round)) all in
      let others : Names = bind_each no_names (captured_query body) taken.values in
      let likes : NamesLike taken.kept names others = λ x t there.
      let held = taken.fit x t there in
      (held.0, held.0, held.1, taken.again x t there ∙ held.1, like_itself held.0) in
      let found_block : block_at p e.span.start ≡ Some e = block_found p e apart (own_block p e blocks (ap acts_on_tables is)) in (
        taken.values,
        taken.found,
        λ answer (block, found, (listed, shuffle, permuted, sorted)).
            let equal : block ≡ e = same_some (sym found ∙ found_block) in
            let there : Tables = listed in
            let like : IsLike (give body names) (gives p there body others) =
            given_like p i closed tables there shuffle rows (same_tables p tables there shuffle rows) calls (called p there (length (functions_of p))) n calls_fit (listed_fit there shuffle) (listed_like there shuffle) functions
            true typed only_reads query_nodes names others taken.fit taken.fit_again likes in
            let bags : bag p there block taken.values ≡ items (gives p there body others) =
            ap (λ b. bag p there b taken.values) equal ∙ ap (λ k. bag_by p there e k taken.values) is ∙ ap (λ k. items (gives p there body (bind_each no_names (captured_by k) taken.values))) is in
            let fits : Fits p i (give body names) (known.List a) = value_fits p i closed tables rows calls n calls_fit functions true one refl refl all names fit in
            let whole : give body names ≡ value.List (items (give body names)) = as_list p i (give body names) a fits in
            subst (IsLike (rows_value answer)) (sym whole)
            (like_lists (map row_value answer) (items (give body names))
            (IsPermutation-sym (items (give body names)) (map row_value answer)
            (IsPermutation-trans (items (give body names)) (items (gives p there body others)) (map row_value answer) (like_items (give body names) (gives p there body others) like)
            (subst (λ l. IsPermutation l (map row_value answer)) bags permuted)))),
      )

  query_come : (e : Expr) (keys : List SortKey) (body : Expr) (a : Ground) (inside : List Ground) (locals : Named Ground) (names : Names) → layer e ≡ Node-F.Query keys body → AreBlocksOf p e
      → AreLocals p i locals names → (one : HasType functions (tables_of p) locals only_scan body (known.List a) inside) → AreQueryNodes p i.helpers n (nodes_of true one) → Come names e
  query_come e keys body a inside locals names is blocks fit one all =
      let found = query_like e keys body a inside locals names is blocks fit one all in
      node_comes p tables calls names e (Node-F.Query keys body) is tt
      (λ ws likes. subst (λ o. DoesLike p tables (give e names) (reads e.span o)) (sym found.1)
      (read p tables (λ w. IsLike w (give e names)) e.span.start found.0 (λ answer from. subst (IsLike (rows_value answer)) (sym (given_forms.given_query tables calls e keys body names is)) (found.2 answer from))))

  mutual
    unfolding nodes_of

    pub value_come : {effects : EffectSet} {locals : Named Ground} {e : Expr} {t : Ground} {inside : List Ground} (flag : Bool) (d : HasType functions (tables_of p) locals effects e t inside)
        → AtMostScan effects → AreQueryNodes p i.helpers n (nodes_of flag d) → AreBlocksOf p e → (names : Names) → AreLocals p i locals names → Come names e
    value_come {effects = effects} {locals = locals} {e = e} {t = t} flag (plain h ts is have by) only all blocks names fit =
        operator_come effects only locals names fit e (layer e) h ts t refl is blocks (record { by = by; uses = all.0.calls; compares = all.0.compares }) all.0.type
        (part_types p i.helpers n flag have all.1)
        (parts_fit p i closed tables rows calls n calls_fit functions flag have (no_local effects only) (no_trap effects only) all.1 names fit)
        (parts_come flag have only all.1 (operator_insides (AreBlocksOf p) (layer e) h is (insides_blocks p e blocks)) names fit)
    value_come {effects = effects} flag (lambda l params own a is named moves body local) only all blocks names fit = absurd (both_ways (effects effect.Local) (no_local effects only) local)
    value_come {effects = effects} {locals = locals} {e = e} flag (var x d rest a first last is one next) only all blocks names fit =
        let first_nodes = each_front (IsQueryNode p i.helpers n) (nodes_of flag one) (nodes_of flag next) all.1 in
        let next_nodes = each_back (IsQueryNode p i.helpers n) (nodes_of flag one) (nodes_of flag next) all.1 in
        let there = both_blocks p e d rest (Node-F.Var x d rest) is refl blocks in
        let v : Fits p i (give d names) a = value_fits p i closed tables rows calls n calls_fit functions flag one (no_local effects only) (no_trap effects only) first_nodes names fit in
        var_come e x d rest names is (value_come flag one only first_nodes there.0 names fit)
        (λ w like.
        let w_fits : Fits p i w a = like_fits p i a w (give d names) (node_type p i.helpers n flag one first_nodes) v like in
        let w_locals : AreLocals p i ((x.text, a) ∷ locals) (bind x.text w names) = bound_one p i x.text w a locals names w_fits fit in (
          value_come flag next only next_nodes there.1 (bind x.text w names) w_locals,
          renamed flag next only next_nodes (bind x.text w names) (bind x.text (give d names) names) w_locals (bound_one p i x.text (give d names) a locals names v fit)
              (like_bound x.text w (give d names) a locals names names like (names_themselves p i locals names fit)),
        ))
    value_come {effects = effects} flag (switch d cases row tags ts first bodies is one have alike made local) only all blocks names fit = absurd (both_ways (effects effect.Local) (no_local effects only) local)
    value_come {effects = effects} flag (switch_open d cases last rest row tags ts first bodies inside is one have alike next made local) only all blocks names fit = absurd (both_ways (effects effect.Local) (no_local effects only) local)
    value_come {effects = effects} {locals = locals} {e = e} flag (for_list x d body a b first inside is one next) only all blocks names fit =
        let first_nodes = each_front (IsQueryNode p i.helpers n) (nodes_of flag one) (nodes_of flag next) all.1 in
        let next_nodes = each_back (IsQueryNode p i.helpers n) (nodes_of flag one) (nodes_of flag next) all.1 in
        let there = both_blocks p e d body (Node-F.ForList x d body) is refl blocks in
        loop_come e (Node-F.ForList x d body) x a b d body names is refl (λ v. refl) (given_forms.given_for_list tables calls e x d body names is) (node_type p i.helpers n flag one first_nodes) all.0.type
        (value_fits p i closed tables rows calls n calls_fit functions flag one (no_local effects only) (no_trap effects only) first_nodes names fit) (value_come flag one only first_nodes there.0 names fit)
        (λ v fits. value_come flag next only next_nodes there.1 (bind x.text v names) (bound_one p i x.text v a locals names fits fit))
        (λ v fits. value_fits p i closed tables rows calls n calls_fit functions flag next (no_local effects only) (no_trap effects only) next_nodes (bind x.text v names) (bound_one p i x.text v a locals names fits fit))
    value_come {effects = effects} {locals = locals} {e = e} flag (for_table x d body a b first inside is one next) only all blocks names fit =
        let first_nodes = each_front (IsQueryNode p i.helpers n) (nodes_of flag one) (nodes_of flag next) all.1 in
        let next_nodes = each_back (IsQueryNode p i.helpers n) (nodes_of flag one) (nodes_of flag next) all.1 in
        let there = both_blocks p e d body (Node-F.ForTable x d body) is refl blocks in
        loop_come e (Node-F.ForTable x d body) x a b d body names is refl (λ v. refl) (given_forms.given_for_table tables calls e x d body names is) (node_type p i.helpers n flag one first_nodes) all.0.type
        (value_fits p i closed tables rows calls n calls_fit functions flag one (no_local effects only) (no_trap effects only) first_nodes names fit) (value_come flag one only first_nodes there.0 names fit)
        (λ v fits. value_come flag next only next_nodes there.1 (bind x.text v names) (bound_one p i x.text v a locals names fits fit))
        (λ v fits. value_fits p i closed tables rows calls n calls_fit functions flag next (no_local effects only) (no_trap effects only) next_nodes (bind x.text v names) (bound_one p i x.text v a locals names fits fit))
    value_come {locals = locals} {e = e} flag (query keys body a inside is one sorted scans marked) only all blocks names fit = query_come e keys body a inside locals names is blocks fit one all.1
    value_come flag (update change is changes writes) only all blocks names fit = absurd (unit_not_flat all.0.type)
    value_come flag (delete change is changes writes) only all blocks names fit = absurd (unit_not_flat all.0.type)

    pub parts_come : {effects : EffectSet} {locals : Named Ground} {es : List Expr} {ts inside : List Ground} (flag : Bool) (d : HaveTypes functions (tables_of p) locals effects es ts inside)
        → AtMostScan effects → AreQueryNodes p i.helpers n (each_nodes flag d) → Each (AreBlocksOf p) es → (names : Names) → AreLocals p i locals names → Each (Come names) es
    parts_come flag none only all blocks names fit = tt
    parts_come flag (more inside rest first behind) only all blocks names fit = (
      value_come flag first only (each_front (IsQueryNode p i.helpers n) (nodes_of flag first) (each_nodes flag behind) all) blocks.0 names fit,
      parts_come flag behind only (each_back (IsQueryNode p i.helpers n) (nodes_of flag first) (each_nodes flag behind) all) blocks.1 names fit,
    )
