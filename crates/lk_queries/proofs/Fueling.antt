-- Some fuel is enough for the expressions of which a query may consist, in whatever order readings are answered and whatever names
-- that are the same but for order stand for.
use Rattle.std.proofs.Common.{◌≡◌, arith, refl, sym, ap, ◌∙◌, subst, ℕ, zero, suc, ◌≤◌, Bool, true, false, List, [], ◌∷◌, append-nil, length, Some, IsPermutation, ◌+◌, Option, None}
use Rattle.std.proofs.lemmas.List.Sorted.{IsPermutation-refl, IsPermutation-sym}
use Rattle.std.proofs.lemmas.Option.{none-some}
use Rattle.std.proofs.lemmas.Bool.{both_ways}
use Rattle.lk_ast.specs.Functions.{functions_of, function_named}
use Rattle.lk_ast.specs.Layers.{Layer, layer}
use Rattle.lk_ast.specs.Tables.{Tables, tables_of}
use Rattle.lk_ast.specs.declared.declaration.FunDef.{FunDef}
use Rattle.lk_ast.specs.declared.declaration.Program.{Program}
use Rattle.lk_ast.specs.declared.expression.Expr.{Expr}
use Rattle.lk_ast.specs.declared.expression.Node.TheOpen.{Node-F}
use Rattle.lk_ast.specs.declared.expression.SortKey.{SortKey}
use Rattle.lk_ast.specs.declared.place.Loc.{Loc}
use Rattle.lk_ast.specs.declared.place.Loc.TheVariants.{Client, Server, Any}
use Rattle.lk_ast.specs.declared.place.Span.{Span}
use Rattle.lk_ast.specs.declared.place.Word.{Word}
use Rattle.lk_ast.specs.declared.value.FunValue.{FunValue}
use Rattle.lk_ast.specs.declared.value.Value.{Value}
use Rattle.lk_ast.specs.declared.value.Value.TheVariants as value
use Rattle.lk_bag.proofs.Given.{all_given}
use Rattle.lk_bag.specs.Bag.{items, given, called}
use Rattle.lk_bag.specs.Blocks.{AreBlocksApart}
use Rattle.lk_bag.specs.Legal.{AreSame}
use Rattle.lk_evaluation.specs.Evaluation.{Act, Give, Tail, Goto, eval}
use Rattle.lk_evaluation.specs.Run.{events_of}
use Rattle.lk_evaluation.specs.Laws.{Both}
use Rattle.lk_evaluation.specs.Source.{Point, source, under, act, call, goto, choose, over, reads}
use Rattle.lk_evaluation.specs.Source as does
use Rattle.lk_evaluation.specs.Syntax.{parts_of}
use Rattle.lk_ground_types.specs.Shapes.{is_query_type}
use Rattle.lk_index.specs.Free.{captured_query}
use Rattle.lk_locals.specs.Names.{Names, no_names, bind, bind_each, lookup_all, lookup}
use Rattle.lk_names.specs.Programs.{IsBound}
use Rattle.lk_operators.specs.Operators.{operated}
use Rattle.lk_operators.specs.Values.{bool_in, list_in, truth}
use Rattle.lk_sound.proofs.Apart.{params_apart}
use Rattle.lk_sound.proofs.Bags.{value_fits, parts_fit, before_caller, called_fits, all_early}
use Rattle.lk_sound.proofs.Bindings.{bound_one, bound_each}
use Rattle.lk_sound.proofs.Calls.{length_names, length_texts, bound_all, no_locals}
use Rattle.lk_sound.proofs.Fitting.{as_many}
use Rattle.lk_sound.proofs.FlatTypes.{unit_not_flat}
use Rattle.lk_sound.proofs.Names.{AreDistinct}
use Rattle.lk_sound.proofs.QueryParts.{IsEarly, IsQueryNode, AreQueryNodes, node_type, part_types}
use Rattle.lk_sound.proofs.QueryValues.{CallsFit, items_fit}
use Rattle.lk_sound.proofs.TextBlocks.{insides_blocks, function_blocks}
use Rattle.lk_sound.specs.Instances.{Instances, IsHelperNode, HasBody, AreClosed}
use Rattle.lk_sound.specs.Nodes.{Use, used_by, nodes_of, each_nodes}
use Rattle.lk_sound.specs.Points.{AreBlocksOf, AreLocals}
use Rattle.lk_sound.specs.Tables.{AreTables}
use Rattle.lk_sound.specs.Values.{Fits, AllFit, FitEach}
use Rattle.lk_sound.specs.Values as fitting
use Rattle.lk_types.proofs.Members.{each_in, each_front, each_back}
use Rattle.lk_types.specs.Each.{Each}
use Rattle.lk_types.specs.Rows.{Label, EffectSet}
use Rattle.lk_types.specs.declared.ground.Ground.{Ground}
use Rattle.lk_types.specs.declared.ground.Ground.TheVariants as known
use Rattle.lk_types.specs.declared.ty.Effect.TheVariants as effect
use Rattle.lk_typing.proofs.Samples.Types.{same_params, same_effects}
use Rattle.lk_typing.specs.Heads as operator
use Rattle.lk_typing.specs.Heads.{Head, head, parts}
use Rattle.lk_typing.specs.Names.{Named, named, names_of, types_of, texts}
use Rattle.lk_typing.specs.Names as typed_names
use Rattle.lk_typing.specs.Rules.{Rule}
use Rattle.lk_typing.specs.Rules as rule
use Rattle.lk_typing.specs.Types.{function_of}
use Rattle.lk_typing.specs.Typing.{HasType, HaveTypes, HasIf, is_marked, label_of, expr_of, plain, lambda, var, switch, switch_open, for_list, for_table, query, update, delete, none, more}
use Rattle.lk_queries.specs.Law.{AtMostScan}
use Rattle.lk_queries.specs.Order.{IsLike}
use Rattle.lk_queries.proofs.Barred.{no_apply, no_seq, no_print, no_insert, no_local, no_trap, no_move}
use Rattle.lk_queries.proofs.Coming.{AreFrom, legal_from, IsCome}
use Rattle.lk_queries.proofs.Giving.{operator_insides, both_blocks}
use Rattle.lk_queries.proofs.LikeGiven.{CallsLike, NamesLike, names_themselves, like_bound, shown_items, given_like}
use Rattle.lk_queries.proofs.Liking.{like_itself, like_then, like_items, like_fits, likes_fit}
use Rattle.lk_sound.proofs.Shuffles.{along}
use Rattle.lk_queries.specs.Order.{EnoughLaw}
use Rattle.lk_queries.proofs.Fuel.{Uses, DoesUse, IsFueled, total, times, uses_more, gone_uses, reading_uses, done_uses, given_uses, choose_uses, node_uses, each_uses}
use Rattle.lk_queries.proofs.LikeGiven.{likes_bound, parts_like}
use Rattle.lk_typing.specs.Typing.{parts_of as typing_parts}
use Rattle.lk_types.proofs.Members.{each_weaker}
use Rattle.lk_queries.proofs.AnyOrder.{own_calls, listed_fits, listed_calls, called_come, same_behind}
use Rattle.lk_queries.proofs.Doing.{CallsCome, one_of}
use Rattle.lk_queries.proofs.Ordered.{value_come, parts_come}

-- one after another
both_then : (vs ws us : List Value) → Both IsLike vs ws → Both IsLike ws us → Both IsLike vs us
both_then [] [] [] one other = tt
both_then [] [] (u ∷ us) one other = absurd other
both_then [] (w ∷ ws) us one other = absurd one
both_then (v ∷ vs) [] us one other = absurd one
both_then (v ∷ vs) (w ∷ ws) [] one other = absurd other
both_then (v ∷ vs) (w ∷ ws) (u ∷ us) one other = (like_then v w u one.0 other.0, both_then vs ws us one.1 other.1)

-- what holds of each element holds of each in another order
each_kept : (P : Value → Type 0) (vs ws : List Value) → IsPermutation vs ws → Each P vs → Each P ws
each_kept P = along (λ vs ws. Each P vs → Each P ws) (λ vs all. all) (λ v vs ws later all. (all.0, later all.1)) (λ v w vs all. (all.1.0, (all.0, all.1.1))) (λ vs ws us first second all. second (first all))

-- as many elements
abbrev so_often : ℕ → List Value → ℕ
so_often B [] = 0
so_often B (v ∷ vs) = B + so_often B vs

as_often : (B : ℕ) (vs ws : List Value) → IsPermutation vs ws → so_often B vs ≡ so_often B ws
as_often B = along (λ vs ws. so_often B vs ≡ so_often B ws) (λ vs. refl) (λ v vs ws later. ap (λ n. B + n) later) (λ v w vs. refl) (λ vs ws us first second. first ∙ second)

module _ (p : Program) (tables : Tables) where
  -- calls with arguments that are the same but for order
  abbrev pub CallsFueled : Instances → ℕ → Type 0
  CallsFueled i n = (u : Use) → IsEarly p i.helpers n u → (ts : List Ground) (effects : EffectSet) (a : Ground) → u.type ≡ function_of ts effects a → AtMostScan effects
      → (args : List Value) → FitEach p i args ts → (F : ℕ) × ((ws : List Value) → FitEach p i ws ts → Both IsLike ws args → (at : Span) → DoesUse p tables F (call at ws (function_named p u.name)))

module _ (p : Program) (i : Instances) (apart : AreBlocksApart p) (closed : AreClosed p i) (tables : Tables) (rows : AreTables p tables) (calls : List ℕ → List Value → Value) (n : ℕ)
    (calls_fit : CallsFit p i calls n) (own_like : CallsLike p i calls calls n) (calls_come : CallsCome p tables i calls n)
    (listed_fit : (listed : Tables) → AreSame tables listed → CallsFit p i (called p listed (length (functions_of p))) n)
    (listed_like : (listed : Tables) → AreSame tables listed → CallsLike p i calls (called p listed (length (functions_of p))) n)
    (fueled : CallsFueled p tables i n) (functions : Named (typed_names.Entry Ground)) where
  abbrev give : Expr → Names → Value
  give = given tables calls

  abbrev give_all : Names → List Expr → List Value
  give_all = all_given tables calls

  abbrev Come : Names → Expr → Type 0
  Come = IsCome p tables calls

  same_order : AreSame tables tables
  same_order x = IsPermutation-refl (tables x)

  come : {effects : EffectSet} {locals : Named Ground} {e : Expr} {t : Ground} {inside : List Ground} (flag : Bool) (d : HasType functions (tables_of p) locals effects e t inside)
      → AtMostScan effects → AreQueryNodes p i.helpers n (nodes_of flag d) → AreBlocksOf p e → (names : Names) → AreLocals p i locals names → Come names e
  come flag d only all blocks names fit = value_come p i apart closed tables rows calls n calls_fit own_like calls_come listed_fit listed_like functions flag d only all blocks names fit

  comes : {effects : EffectSet} {locals : Named Ground} {es : List Expr} {ts inside : List Ground} (flag : Bool) (d : HaveTypes functions (tables_of p) locals effects es ts inside)
      → AtMostScan effects → AreQueryNodes p i.helpers n (each_nodes flag d) → Each (AreBlocksOf p) es → (names : Names) → AreLocals p i locals names → Each (Come names) es
  comes flag d only all blocks names fit = parts_come p i apart closed tables rows calls n calls_fit own_like calls_come listed_fit listed_like functions flag d only all blocks names fit

  renamed : {effects : EffectSet} {locals : Named Ground} {e : Expr} {t : Ground} {inside : List Ground} (flag : Bool) (d : HasType functions (tables_of p) locals effects e t inside)
      → AtMostScan effects → AreQueryNodes p i.helpers n (nodes_of flag d) → (names inner : Names) → AreLocals p i locals names → AreLocals p i locals inner → NamesLike locals names inner → IsLike (give e names) (give e inner)
  renamed flag d only all names inner fit other_fit likes = given_like p i closed tables tables same_order rows rows calls calls n calls_fit calls_fit own_like functions flag d only all names inner fit other_fit likes

  -- so much fuel is enough under all names that are alike
  abbrev pub IsEnough : Named Ground → Names → Expr → ℕ → Type 0
  IsEnough locals names e F = (inner : Names) → AreLocals p i locals inner → NamesLike locals inner names → Uses p tables Value F (eval (source p) (under inner e) Server)

  abbrev pub HasEnough : Named Ground → Names → Expr → Type 0
  HasEnough locals names e = (F : ℕ) × IsEnough locals names e F

  abbrev sum : (locals : Named Ground) (names : Names) (es : List Expr) → Each (HasEnough locals names) es → ℕ
  sum locals names [] fuels = 0
  sum locals names (e ∷ es) fuels = fuels.0.0 + sum locals names es fuels.1

  abbrev instant : (locals : Named Ground) (names inner : Names) → AreLocals p i locals inner → NamesLike locals inner names → (es : List Expr) → Each (HasEnough locals names) es → Each (IsFueled p tables calls inner) es
  instant locals names inner fit likes [] fuels = tt
  instant locals names inner fit likes (e ∷ es) fuels = ((fuels.0.0, fuels.0.1 inner fit likes), instant locals names inner fit likes es fuels.1)

  total_is : (locals : Named Ground) (names inner : Names) (fit : AreLocals p i locals inner) (likes : NamesLike locals inner names) (es : List Expr) (fuels : Each (HasEnough locals names) es) → total p tables calls inner es (instant locals names inner fit likes es fuels) ≡ sum locals names es fuels
  total_is locals names inner fit likes [] fuels = refl
  total_is locals names inner fit likes (e ∷ es) fuels = ap (λ m. fuels.0.0 + m) (total_is locals names inner fit likes es fuels.1)

  -- a node by its parts and what it does
  node_enough : (locals : Named Ground) (names : Names) (e : Expr) (l : Layer) → layer e ≡ l → (fuels : Each (HasEnough locals names) (parts_of l)) → ((inner : Names) → AreLocals p i locals inner → Each (Come inner) (parts_of l)) → (G : ℕ)
      → ((inner : Names) → AreLocals p i locals inner → NamesLike locals inner names → (ws : List Value) → Both IsLike ws (give_all inner (parts_of l)) → DoesUse p tables G (act p e.span l inner ws)) → HasEnough locals names e
  node_enough locals names e l is fuels comes G acts = (
    1 + (sum locals names (parts_of l) fuels + G),
    λ inner fit likes. uses_more p tables Value (1 + (total p tables calls inner (parts_of l) (instant locals names inner fit likes (parts_of l) fuels) + G)) (1 + (sum locals names (parts_of l) fuels + G)) _
        (omega (arith, total_is locals names inner fit likes (parts_of l) fuels))
        (node_uses p tables calls inner e l is (instant locals names inner fit likes (parts_of l) fuels) (comes inner fit) G (acts inner fit likes)),
  )

  module _ (effects : EffectSet) (only : AtMostScan effects) (locals : Named Ground) (names : Names) (fit : AreLocals p i locals names) where
    abbrev ByRule : Head → List Ground → Ground → Type 0
    ByRule = Rule functions (tables_of p) locals effects

    abbrev Enough : Expr → Type 0
    Enough = HasEnough locals names

    abbrev AllCome : List Expr → Type 0
    AllCome es = (inner : Names) → AreLocals p i locals inner → Each (Come inner) es

    -- a choice, by the value of the first part
    choice_enough : (e c : Expr) (l : Layer) (F G : ℕ) (one other : Names → Act Point) → layer e ≡ l → parts_of l ≡ c ∷ [] → ((inner : Names) (x : Value) → act p e.span l inner (x ∷ []) ≡ choose e.span (bool_in x) (one inner) (other inner))
        → Enough c → AllCome (c ∷ []) → ((inner : Names) → AreLocals p i locals inner → NamesLike locals inner names → DoesUse p tables F (one inner)) → ((inner : Names) → AreLocals p i locals inner → NamesLike locals inner names → DoesUse p tables G (other inner)) → Enough e
    choice_enough e c l F G one other is parts acts first first_comes yes_uses no_uses =
        node_enough locals names e l is (subst (Each Enough) (sym parts) (first, tt)) (λ inner fit. subst (Each (Come inner)) (sym parts) (first_comes inner fit)) (F + G)
        (λ inner fit likes ws both.
        let found = one_of (give c inner) ws (subst (λ es. Both IsLike ws (give_all inner es)) parts both) in
        subst (λ vs. DoesUse p tables (F + G) (act p e.span l inner vs)) (sym found.1)
        (subst (DoesUse p tables (F + G)) (sym (acts inner found.0)) (choose_uses p tables e.span (bool_in found.0) F G (one inner) (other inner) (yes_uses inner fit likes) (no_uses inner fit likes))))

    call_enough : (e : Expr) (g : Word) (args : List Expr) (ts : List Ground) (t : Ground) → layer e ≡ Node-F.Call g args → (by : ByRule (operator.Call g.text) ts t) → ((u : Use) → used_by by ≡ Some u → IsEarly p i.helpers n u)
        → Each (λ u. is_query_type u ≡ true) ts → ((inner : Names) → AreLocals p i locals inner → FitEach p i (give_all inner args) ts) → ((inner : Names) → AreLocals p i locals inner → NamesLike locals inner names → Both IsLike (give_all inner args) (give_all names args))
        → Each Enough args → AllCome args → Enough e
    call_enough e g args ts t is (rule.call may) uses flats fits alike fuels comes =
        let u : Use = record { name = g.text; type = function_of ts effects t } in
        let found = fueled u (uses u refl) ts effects t refl only (give_all names args) (fits names fit) in
        node_enough locals names e (Node-F.Call g args) is fuels comes found.0
        (λ inner inner_fit likes ws both. found.1 ws (likes_fit p i ts ws (give_all inner args) flats (fits inner inner_fit) both) (both_then ws (give_all inner args) (give_all names args) both (alike inner inner_fit likes)) e.span)

    record IsUsed (h : Head) (ts : List Ground) (t : Ground) : Type 0 where
      by : ByRule h ts t
      uses : (u : Use) → used_by by ≡ Some u → IsEarly p i.helpers n u

    by_head : (g h : Head) (ts : List Ground) (t : Ground) → Some g ≡ Some h → IsUsed h ts t → IsUsed g ts t
    by_head g h ts t is by = let same : g ≡ h = cc in subst (λ x. IsUsed x ts t) (sym same) by

    first_only : (c : Expr) (es : List Expr) → AllCome (c ∷ es) → AllCome (c ∷ [])
    first_only c es all inner fit = ((all inner fit).0, tt)

    operator_enough : (e : Expr) (l : Layer) (h : Head) (ts : List Ground) (t : Ground) → layer e ≡ l → head label_of expr_of l ≡ Some h → IsUsed h ts t → is_query_type t ≡ true → Each (λ u. is_query_type u ≡ true) ts
        → ((inner : Names) → AreLocals p i locals inner → FitEach p i (give_all inner (parts label_of expr_of l)) ts) → ((inner : Names) → AreLocals p i locals inner → NamesLike locals inner names → Both IsLike (give_all inner (parts label_of expr_of l)) (give_all names (parts label_of expr_of l)))
        → Each Enough (parts label_of expr_of l) → AllCome (parts label_of expr_of l) → Enough e
    operator_enough e (Node-F.Name x) h ts t is its by flat flats fits alike fuels comes = node_enough locals names e (Node-F.Name x) is tt (λ inner fit. tt) 0 (λ inner fit likes ws both. given_uses p tables e.span (lookup inner x))
    operator_enough e (Node-F.Function g) h ts t is its by flat flats fits alike fuels comes = node_enough locals names e (Node-F.Function g) is tt (λ inner fit. tt) 0 (λ inner fit likes ws both. by_function (function_named p g))
      where
        by_function : (o : Option FunDef) → DoesUse p tables 0 (does.function_value e.span o)
        by_function None = λ r behind. tt
        by_function (Some f) = gone_uses p tables Value (value.Fun (record { site = f.name.at.start; env = [] }))
    operator_enough e (Node-F.Call g args) h ts t is its by flat flats fits alike fuels comes = let own = by_head (operator.Call g.text) h ts t its by in call_enough e g args ts t is own.by own.uses flats fits alike fuels comes
    operator_enough e (Node-F.Apply f args) h ts t is its by flat flats fits alike fuels comes = absurd (no_apply only ts t (by_head operator.Apply h ts t its by).by)
    operator_enough e (Node-F.Seq d rest) h ts t is its by flat flats fits alike fuels comes = absurd (no_seq ts t (by_head operator.Seq h ts t its by).by flats)
    operator_enough e (Node-F.If c a b) h ts t is its by flat flats fits alike fuels comes =
        choice_enough e c (Node-F.If c a b) fuels.1.0.0 fuels.1.1.0.0 (λ inner. Tail (under inner a)) (λ inner. Tail (under inner b)) is refl (λ inner x. refl) fuels.0 (first_only c (a ∷ b ∷ []) comes) fuels.1.0.1 fuels.1.1.0.1
    operator_enough e (Node-F.And a b) h ts t is its by flat flats fits alike fuels comes =
        choice_enough e a (Node-F.And a b) fuels.1.0.0 0 (λ inner. Tail (under inner b)) (λ inner. Give (truth false)) is refl (λ inner x. refl) fuels.0 (first_only a (b ∷ []) comes) fuels.1.0.1 (λ inner fit likes. gone_uses p tables Value (truth false))
    operator_enough e (Node-F.Or a b) h ts t is its by flat flats fits alike fuels comes =
        choice_enough e a (Node-F.Or a b) 0 fuels.1.0.0 (λ inner. Give (truth true)) (λ inner. Tail (under inner b)) is refl (λ inner x. refl) fuels.0 (first_only a (b ∷ []) comes) (λ inner fit likes. gone_uses p tables Value (truth true)) fuels.1.0.1
    operator_enough e (Node-F.Where c d) h ts t is its by flat flats fits alike fuels comes =
        choice_enough e c (Node-F.Where c d) fuels.1.0.0 0 (λ inner. Tail (under inner d)) (λ inner. Give (value.List [])) is refl (λ inner x. refl) fuels.0 (first_only c (d ∷ []) comes) fuels.1.0.1 (λ inner fit likes. gone_uses p tables Value (value.List []))
    operator_enough e (Node-F.Table x) h ts t is its by flat flats fits alike fuels comes = node_enough locals names e (Node-F.Table x) is tt (λ inner fit. tt) 0 (λ inner fit likes ws both. reading_uses p tables e.span.start [])
    operator_enough e (Node-F.Print d) h ts t is its by flat flats fits alike fuels comes = absurd (no_print ts t (by_head operator.Print h ts t its by).by flat)
    operator_enough e (Node-F.Insert x d) h ts t is its by flat flats fits alike fuels comes = absurd (no_insert x.text ts t (by_head (operator.Insert x.text) h ts t its by).by flat)
    operator_enough e (Node-F.Lambda l) h ts t is its by flat flats fits alike fuels comes = absurd cc
    operator_enough e (Node-F.Var x d rest) h ts t is its by flat flats fits alike fuels comes = absurd cc
    operator_enough e (Node-F.Switch d cases last) h ts t is its by flat flats fits alike fuels comes = absurd cc
    operator_enough e (Node-F.ForList x d body) h ts t is its by flat flats fits alike fuels comes = absurd cc
    operator_enough e (Node-F.ForTable x d body) h ts t is its by flat flats fits alike fuels comes = absurd cc
    operator_enough e (Node-F.Query keys d) h ts t is its by flat flats fits alike fuels comes = absurd cc
    operator_enough e (Node-F.Update change) h ts t is its by flat flats fits alike fuels comes = absurd cc
    operator_enough e (Node-F.Delete change) h ts t is its by flat flats fits alike fuels comes = absurd cc
    operator_enough e l h ts t is its by flat flats fits alike fuels comes = node_enough locals names e l is fuels comes 0 (λ inner fit likes ws both. done_uses p tables e.span (operated l ws))

  -- ---- blocks, loops and queries inside

  var_enough : (locals : Named Ground) (names : Names) (e : Expr) (x : Word) (d rest : Expr) (a : Ground) → layer e ≡ Node-F.Var x d rest → HasEnough locals names d → ((inner : Names) → AreLocals p i locals inner → Come inner d)
      → HasEnough ((x.text, a) ∷ locals) (bind x.text (give d names) names) rest
      → ((inner : Names) → AreLocals p i locals inner → NamesLike locals inner names → (w : Value) → IsLike w (give d inner) → AreLocals p i ((x.text, a) ∷ locals) (bind x.text w inner) × NamesLike ((x.text, a) ∷ locals) (bind x.text w inner) (bind x.text (give d names) names))
      → HasEnough locals names e
  var_enough locals names e x d rest a is first first_come next further =
      node_enough locals names e (Node-F.Var x d rest) is (first, tt) (λ inner fit. (first_come inner fit, tt)) next.0
      (λ inner fit likes ws both.
      let found = one_of (give d inner) ws both in
      let behind = further inner fit likes found.0 found.2 in
      subst (λ vs. DoesUse p tables next.0 (act p e.span (Node-F.Var x d rest) inner vs)) (sym found.1) (next.1 (bind x.text found.0 inner) behind.0 behind.1))

  -- enough for a body with each of these elements
  abbrev pub IsEnoughAt : Label → Ground → Expr → Named Ground → Names → ℕ → Value → Type 0
  IsEnoughAt x a body locals names B v = IsEnough ((x, a) ∷ locals) (bind x v names) body B

  bodies_enough : (x : Label) (a : Ground) (body : Expr) (locals : Named Ground) (names : Names) → ((v : Value) → Fits p i v a → HasEnough ((x, a) ∷ locals) (bind x v names) body) → (elements : List Value) → AllFit p i elements a
      → (B : ℕ) × Each (IsEnoughAt x a body locals names B) elements
  bodies_enough x a body locals names enough [] fitting.none = (0, tt)
  bodies_enough x a body locals names enough (v ∷ elements) (fitting.more fit all) =
      let one = enough v fit in
      let rest = bodies_enough x a body locals names enough elements all in (
        one.0 + rest.0,
        (
          λ inner inner_fit likes. uses_more p tables Value one.0 (one.0 + rest.0) _ (omega arith) (one.1 inner inner_fit likes),
          each_weaker (IsEnoughAt x a body locals names rest.0) (IsEnoughAt x a body locals names (one.0 + rest.0)) (λ u enough inner inner_fit likes. uses_more p tables Value rest.0 (one.0 + rest.0) _ (omega arith) (enough inner inner_fit likes)) elements rest.1,
        ),
      )

  elements_use : (x : Label) (a : Ground) (body : Expr) (locals : Named Ground) (names inner : Names) → AreLocals p i locals inner → NamesLike locals inner names → ((v : Value) → Fits p i v a → Come (bind x v inner) body) → (B : ℕ) (elements : List Value) → AllFit p i elements a
      → Each (IsEnoughAt x a body locals names B) elements → Each (λ v. IsCome p tables calls (bind x v inner) body × Uses p tables Value B (eval (source p) (under (bind x v inner) body) Server)) elements
  elements_use x a body locals names inner fit likes come B [] fitting.none all = tt
  elements_use x a body locals names inner fit likes come B (v ∷ elements) (fitting.more one rest) all = (
    (come v one, all.0 (bind x v inner) (bound_one p i x v a locals inner one fit) (like_bound x v v a locals inner names (like_itself v) likes)),
    elements_use x a body locals names inner fit likes come B elements rest all.1,
  )

  times_is : (inner : Names) (B : ℕ) (elements : List Value) → times p tables calls inner B elements ≡ so_often B elements
  times_is inner B [] = refl
  times_is inner B (v ∷ elements) = ap (λ m. B + m) (times_is inner B elements)

  loop_enough : (locals : Named Ground) (names : Names) (e : Expr) (l : Layer) (x : Word) (a b : Ground) (d body : Expr) → layer e ≡ l → parts_of l ≡ d ∷ [] → ((inner : Names) (v : Value) → act p e.span l inner (v ∷ []) ≡ over e.span x.text (list_in v) body inner)
      → AreLocals p i locals names → is_query_type (known.List a) ≡ true → ((inner : Names) → AreLocals p i locals inner → Fits p i (give d inner) (known.List a)) → ((inner : Names) → AreLocals p i locals inner → NamesLike locals inner names → IsLike (give d inner) (give d names))
      → HasEnough locals names d → ((inner : Names) → AreLocals p i locals inner → Come inner d)
      → ((v : Value) → Fits p i v a → HasEnough ((x.text, a) ∷ locals) (bind x.text v names) body) → ((inner : Names) → AreLocals p i locals inner → (v : Value) → Fits p i v a → Come (bind x.text v inner) body) → HasEnough locals names e
  loop_enough locals names e l x a b d body is parts acts fit flat fits alike first first_come enough body_come =
      let vs : List Value = items (give d names) in
      let bodies = bodies_enough x.text a body locals names enough vs (items_fit p i (give d names) a (fits names fit)) in
      node_enough locals names e l is (subst (Each (HasEnough locals names)) (sym parts) (first, tt)) (λ inner fit. subst (Each (Come inner)) (sym parts) (first_come inner fit, tt)) (so_often bodies.0 vs)
      (λ inner inner_fit likes ws both.
      let found = one_of (give d inner) ws (subst (λ es. Both IsLike ws (give_all inner es)) parts both) in
      let w : Value = found.0 in
      let like : IsLike w (give d names) = like_then w (give d inner) (give d names) found.2 (alike inner inner_fit likes) in
      let w_fits : Fits p i w (known.List a) = like_fits p i (known.List a) w (give d inner) flat (fits inner inner_fit) found.2 in
      let order : IsPermutation vs (items w) = IsPermutation-sym (items w) vs (like_items w (give d names) like) in
      let all : Each (IsEnoughAt x.text a body locals names bodies.0) (items w) = each_kept (IsEnoughAt x.text a body locals names bodies.0) vs (items w) order bodies.1 in
      let each_one = elements_use x.text a body locals names inner inner_fit likes (body_come inner inner_fit) bodies.0 (items w) (items_fit p i w a w_fits) all in
      subst (λ us. DoesUse p tables (so_often bodies.0 vs) (act p e.span l inner us)) (sym found.1)
      (subst (DoesUse p tables (so_often bodies.0 vs)) (sym (acts inner w))
      (subst (λ o. DoesUse p tables (so_often bodies.0 vs) (over e.span x.text o body inner)) (sym (shown_items p i w a w_fits))
      (subst (λ m. DoesUse p tables m (over e.span x.text (Some (items w)) body inner)) (times_is inner bodies.0 (items w) ∙ sym (as_often bodies.0 vs (items w) order))
      (each_uses p tables calls inner e.span x.text body bodies.0 (items w) each_one [])))))

  query_enough : (locals : Named Ground) (names : Names) (e : Expr) (keys : List SortKey) (body : Expr) → layer e ≡ Node-F.Query keys body → HasEnough locals names e
  query_enough locals names e keys body is = node_enough locals names e (Node-F.Query keys body) is tt (λ inner fit. tt) 0 (λ inner fit likes ws both. by_captured (lookup_all inner (captured_query body)))
    where
      by_captured : (o : Option (List Value)) → DoesUse p tables 0 (reads e.span o)
      by_captured None = λ r behind. tt
      by_captured (Some args) = reading_uses p tables e.span.start args

  -- ---- by typings

  all_alike : (names inner : Names) (es : List Expr) → Each (λ e. IsLike (give e inner) (give e names)) es → Both IsLike (give_all inner es) (give_all names es)
  all_alike names inner [] all = tt
  all_alike names inner (e ∷ es) all = (all.0, all_alike names inner es all.1)

  mutual
    unfolding nodes_of

    pub value_enough : {effects : EffectSet} {locals : Named Ground} {e : Expr} {t : Ground} {inside : List Ground} (flag : Bool) (d : HasType functions (tables_of p) locals effects e t inside)
        → AtMostScan effects → AreQueryNodes p i.helpers n (nodes_of flag d) → AreBlocksOf p e → (names : Names) → AreLocals p i locals names → HasEnough locals names e
    value_enough {effects = effects} {locals = locals} {e = e} {t = t} flag (plain h ts is have by) only all blocks names fit =
        let inside_blocks = operator_insides (AreBlocksOf p) (layer e) h is (insides_blocks p e blocks) in
        operator_enough effects only locals names fit e (layer e) h ts t refl is (record { by = by; uses = all.0.calls }) all.0.type
        (part_types p i.helpers n flag have all.1)
        (λ inner inner_fit. parts_fit p i closed tables rows calls n calls_fit functions flag have (no_local effects only) (no_trap effects only) all.1 inner inner_fit)
        (λ inner inner_fit likes. all_alike names inner (typing_parts e) (parts_like p i closed tables tables same_order rows rows calls calls n calls_fit calls_fit own_like functions flag have only all.1 inner names inner_fit fit likes))
        (parts_enough flag have only all.1 inside_blocks names fit)
        (λ inner inner_fit. comes flag have only all.1 inside_blocks inner inner_fit)
    value_enough {effects = effects} flag (lambda l params own a is named moves body local) only all blocks names fit = absurd (both_ways (effects effect.Local) (no_local effects only) local)
    value_enough {effects = effects} {locals = locals} {e = e} flag (var x d rest a first last is one next) only all blocks names fit =
        let first_nodes = each_front (IsQueryNode p i.helpers n) (nodes_of flag one) (nodes_of flag next) all.1 in
        let next_nodes = each_back (IsQueryNode p i.helpers n) (nodes_of flag one) (nodes_of flag next) all.1 in
        let there = both_blocks p e d rest (Node-F.Var x d rest) is refl blocks in
        let fits : (inner : Names) → AreLocals p i locals inner → Fits p i (give d inner) a = λ inner inner_fit. value_fits p i closed tables rows calls n calls_fit functions flag one (no_local effects only) (no_trap effects only) first_nodes inner inner_fit in
        var_enough locals names e x d rest a is (value_enough flag one only first_nodes there.0 names fit) (λ inner inner_fit. come flag one only first_nodes there.0 inner inner_fit)
        (value_enough flag next only next_nodes there.1 (bind x.text (give d names) names) (bound_one p i x.text (give d names) a locals names (fits names fit) fit))
        (λ inner inner_fit likes w like.
        let w_fits : Fits p i w a = like_fits p i a w (give d inner) (node_type p i.helpers n flag one first_nodes) (fits inner inner_fit) like in (
          bound_one p i x.text w a locals inner w_fits inner_fit,
          like_bound x.text w (give d names) a locals inner names (like_then w (give d inner) (give d names) like (renamed flag one only first_nodes inner names inner_fit fit likes)) likes,
        ))
    value_enough {effects = effects} flag (switch d cases row tags ts first bodies is one have alike made local) only all blocks names fit = absurd (both_ways (effects effect.Local) (no_local effects only) local)
    value_enough {effects = effects} flag (switch_open d cases last rest row tags ts first bodies inside is one have alike next made local) only all blocks names fit = absurd (both_ways (effects effect.Local) (no_local effects only) local)
    value_enough {effects = effects} {locals = locals} {e = e} flag (for_list x d body a b first inside is one next) only all blocks names fit =
        let first_nodes = each_front (IsQueryNode p i.helpers n) (nodes_of flag one) (nodes_of flag next) all.1 in
        let next_nodes = each_back (IsQueryNode p i.helpers n) (nodes_of flag one) (nodes_of flag next) all.1 in
        let there = both_blocks p e d body (Node-F.ForList x d body) is refl blocks in
        loop_enough locals names e (Node-F.ForList x d body) x a b d body is refl (λ inner v. refl) fit (node_type p i.helpers n flag one first_nodes)
        (λ inner inner_fit. value_fits p i closed tables rows calls n calls_fit functions flag one (no_local effects only) (no_trap effects only) first_nodes inner inner_fit)
        (λ inner inner_fit likes. renamed flag one only first_nodes inner names inner_fit fit likes)
        (value_enough flag one only first_nodes there.0 names fit) (λ inner inner_fit. come flag one only first_nodes there.0 inner inner_fit)
        (λ v fits. value_enough flag next only next_nodes there.1 (bind x.text v names) (bound_one p i x.text v a locals names fits fit))
        (λ inner inner_fit v fits. come flag next only next_nodes there.1 (bind x.text v inner) (bound_one p i x.text v a locals inner fits inner_fit))
    value_enough {effects = effects} {locals = locals} {e = e} flag (for_table x d body a b first inside is one next) only all blocks names fit =
        let first_nodes = each_front (IsQueryNode p i.helpers n) (nodes_of flag one) (nodes_of flag next) all.1 in
        let next_nodes = each_back (IsQueryNode p i.helpers n) (nodes_of flag one) (nodes_of flag next) all.1 in
        let there = both_blocks p e d body (Node-F.ForTable x d body) is refl blocks in
        loop_enough locals names e (Node-F.ForTable x d body) x a b d body is refl (λ inner v. refl) fit (node_type p i.helpers n flag one first_nodes)
        (λ inner inner_fit. value_fits p i closed tables rows calls n calls_fit functions flag one (no_local effects only) (no_trap effects only) first_nodes inner inner_fit)
        (λ inner inner_fit likes. renamed flag one only first_nodes inner names inner_fit fit likes)
        (value_enough flag one only first_nodes there.0 names fit) (λ inner inner_fit. come flag one only first_nodes there.0 inner inner_fit)
        (λ v fits. value_enough flag next only next_nodes there.1 (bind x.text v names) (bound_one p i x.text v a locals names fits fit))
        (λ inner inner_fit v fits. come flag next only next_nodes there.1 (bind x.text v inner) (bound_one p i x.text v a locals inner fits inner_fit))
    value_enough {locals = locals} {e = e} flag (query keys body a inside is one sorted scans marked) only all blocks names fit = query_enough locals names e keys body is
    value_enough flag (update change is changes writes) only all blocks names fit = absurd (unit_not_flat all.0.type)
    value_enough flag (delete change is changes writes) only all blocks names fit = absurd (unit_not_flat all.0.type)

    parts_enough : {effects : EffectSet} {locals : Named Ground} {es : List Expr} {ts inside : List Ground} (flag : Bool) (d : HaveTypes functions (tables_of p) locals effects es ts inside)
        → AtMostScan effects → AreQueryNodes p i.helpers n (each_nodes flag d) → Each (AreBlocksOf p) es → (names : Names) → AreLocals p i locals names → Each (HasEnough locals names) es
    parts_enough flag none only all blocks names fit = tt
    parts_enough flag (more inside rest first behind) only all blocks names fit = (
      value_enough flag first only (each_front (IsQueryNode p i.helpers n) (nodes_of flag first) (each_nodes flag behind) all) blocks.0 names fit,
      parts_enough flag behind only (each_back (IsQueryNode p i.helpers n) (nodes_of flag first) (each_nodes flag behind) all) blocks.1 names fit,
    )

-- ---- calls

stays : (p : Program) (tables : Tables) (F : ℕ) (effects : EffectSet) (mark : Loc) (f : FunValue) (args : List Value) (body : Point) → effects effect.Move ≡ false → HasIf (is_marked mark) effects effect.Move
    → Uses p tables Value F (eval (source p) body Server) → DoesUse p tables F (Goto mark f args body)
stays p tables F effects Any f args body off moves uses = uses
stays p tables F effects Client f args body off moves uses = absurd (both_ways (effects effect.Move) off moves)
stays p tables F effects Server f args body off moves uses = uses

module _ (p : Program) (i : Instances) (bound : IsBound p) (apart : AreBlocksApart p) (closed : AreClosed p i) (tables : Tables) (rows : AreTables p tables) where
  abbrev many : ℕ
  many = length (functions_of p)

  called_fueled : (n : ℕ) → n ≤ many → CallsFueled p tables i n
  called_fueled zero few u (listed, below) ts effects a is only args fits = absurd (omega arith)
  called_fueled (suc n) few u (listed, below) ts effects a is only args fits =
      let body : HasBody p (IsHelperNode p i.helpers u) u = each_in (λ w. HasBody p (IsHelperNode p i.helpers w) w) i.helpers u listed closed.helpers in
      let typed = body.has.typed in
      let f : FunDef = body.function in
      let same_type : function_of ts effects a ≡ function_of (types_of typed.params) typed.effects typed.answer = sym is ∙ typed.is in
      let own : AtMostScan typed.effects = subst AtMostScan (same_effects ts (types_of typed.params) effects typed.effects a typed.answer same_type) only in
      let to_params : (values : List Value) → FitEach p i values ts → FitEach p i values (types_of typed.params) = λ values fits. subst (λ us. FitEach p i values us) (same_params ts (types_of typed.params) effects typed.effects a typed.answer same_type) fits in
      let count : (values : List Value) → FitEach p i values ts → length f.params ≡ length values = λ values fits. sym (length_texts f.params) ∙ ap length (sym typed.names) ∙ length_names typed.params ∙ sym (as_many p i values (types_of typed.params) (to_params values fits)) in
      let distinct : AreDistinct (names_of typed.params) = subst AreDistinct (sym typed.names) (params_apart p f bound body.has.declared) in
      let locals : (values : List Value) → FitEach p i values ts → AreLocals p i typed.params (bind_each no_names (texts f.params) values) = λ values fits.
      subst (λ xs. AreLocals p i typed.params (bind_each no_names xs values)) typed.names
      (subst (λ types. AreLocals p i types (bind_each no_names (names_of typed.params) values)) (append-nil typed.params) (bound_each p i typed.params values [] no_names distinct (to_params values fits) (no_locals p i))) in
      let alike : (values : List Value) → FitEach p i values ts → Both IsLike values args → NamesLike typed.params (bind_each no_names (texts f.params) values) (bind_each no_names (texts f.params) args) = λ values value_fits likes.
      subst (λ xs. NamesLike typed.params (bind_each no_names xs values) (bind_each no_names xs args)) typed.names
      (subst (λ types. NamesLike types (bind_each no_names (names_of typed.params) values) (bind_each no_names (names_of typed.params) args)) (append-nil typed.params)
      (likes_bound p i typed.params values args [] no_names no_names distinct (to_params values value_fits) likes (λ x t there. absurd (none-some t there)))) in
      let enough = value_enough p i apart closed tables rows (called p tables n) n (called_fits p i bound closed tables rows n) (own_calls p i bound apart closed tables rows n) (called_come p i bound apart closed tables rows n (omega arith))
      (listed_fits p i bound apart closed tables rows n (omega arith)) (listed_calls p i bound apart closed tables rows n (omega arith)) (called_fueled n (omega arith)) body.has.functions false typed.body own
      (before_caller p i u n (nodes_of false typed.body) below body.nodes) (function_blocks p f body.has.declared) (bind_each no_names (texts f.params) args) (locals args fits) in (
        enough.0,
        λ ws ws_fit likes at.
            subst (λ o. DoesUse p tables enough.0 (call at ws o)) (sym body.named)
            (subst (λ o. DoesUse p tables enough.0 (goto at f.place (record { site = f.name.at.start; env = [] }) ws f.body o)) (sym (bound_all no_names f.params ws (count ws ws_fit)))
            (stays p tables enough.0 typed.effects f.place (record { site = f.name.at.start; env = [] }) ws (under (bind_each no_names (texts f.params) ws) f.body) (no_move typed.effects own) typed.moves
            (enough.1 (bind_each no_names (texts f.params) ws) (locals ws ws_fit) (alike ws ws_fit likes)))),
      )

pub enough_law : EnoughLaw
enough_law p apart i closed tables rows functions locals effects e t inside typed only flat blocks names fit =
    let many : ℕ = length (functions_of p) in
    let enough = value_enough p i apart.blocks closed tables rows (called p tables many) many (called_fits p i apart.bound closed tables rows many) (own_calls p i apart.bound apart.blocks closed tables rows many)
    (called_come p i apart.bound apart.blocks closed tables rows many (omega arith)) (listed_fits p i apart.bound apart.blocks closed tables rows many (omega arith)) (listed_calls p i apart.bound apart.blocks closed tables rows many (omega arith))
    (called_fueled p i apart.bound apart.blocks closed tables rows many (omega arith)) functions true typed only (all_early p i closed (nodes_of true typed) flat) blocks names fit in
    (enough.0, λ r logged others is legal. enough.1 names fit (names_themselves p i locals names fit) r (λ later there. subst (AreFrom p tables) (same_behind r.log logged later (sym is ∙ there)) (legal_from p tables (events_of logged) legal)))
