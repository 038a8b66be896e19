-- What operators of a query are evaluated to, where their parts are evaluated to what they give.
use Rattle.std.proofs.Common.{◌≡◌, refl, sym, ap, subst, ◌∙◌, ℕ, Bool, true, false, List, [], ◌∷◌, Some, unwrap_or}
use Rattle.std.proofs.lemmas.Bool.{both_ways}
use Rattle.lk_ast.specs.Functions.{function_named}
use Rattle.lk_ast.specs.Layers.{Layer, layer}
use Rattle.lk_ast.specs.Rows.{rows_value}
use Rattle.lk_ast.specs.Tables.{Tables, tables_of}
use Rattle.lk_ast.specs.declared.declaration.Program.{Program}
use Rattle.lk_ast.specs.declared.expression.Expr.{Expr}
use Rattle.lk_ast.specs.declared.expression.Node.TheOpen.{Node-F}
use Rattle.lk_ast.specs.declared.place.Loc.TheVariants.{Server}
use Rattle.lk_ast.specs.declared.place.Span.{Span}
use Rattle.lk_ast.specs.declared.place.Word.{Word}
use Rattle.lk_ast.specs.declared.value.Value.{Value}
use Rattle.lk_ast.specs.declared.value.Value.TheVariants as value
use Rattle.lk_bag.proofs.Given as given_forms
use Rattle.lk_bag.proofs.Given.{is_operation, operands, all_given, given_operation}
use Rattle.lk_bag.specs.Bag.{value_of, chosen, given}
use Rattle.lk_bag.specs.Blocks.{acts_on_tables, AreBlocksApart}
use Rattle.lk_bag.specs.Legal.{bag_by}
use Rattle.lk_evaluation.specs.Evaluation.{Act, perform, eval}
use Rattle.lk_evaluation.specs.Source.{Point, source, act, call, choose, done}
use Rattle.lk_evaluation.specs.Source as does
use Rattle.lk_evaluation.specs.Syntax.{parts_of}
use Rattle.lk_ground_types.specs.Shapes.{is_query_type}
use Rattle.lk_locals.specs.Names.{Names}
use Rattle.lk_operators.specs.Operators.{operated}
use Rattle.lk_operators.specs.Values.{bool_in, truth, unit as unit_value}
use Rattle.lk_operators.specs.declared.outcome.Outcome.{Outcome}
use Rattle.lk_operators.specs.declared.outcome.Outcome.TheVariants as outcome
use Rattle.lk_sound.proofs.Operators as operators
use Rattle.lk_sound.proofs.QueryParts.{operands_are, IsEarly}
use Rattle.lk_sound.proofs.Results.{IsResult}
use Rattle.lk_sound.proofs.Shapes.{bool_of_fits}
use Rattle.lk_sound.proofs.TextBlocks.{own_block, block_found}
use Rattle.lk_sound.specs.Instances.{Instances, AreClosed}
use Rattle.lk_sound.specs.Nodes.{Use, used_by}
use Rattle.lk_sound.specs.Points.{AreBlocksOf, AreLocals}
use Rattle.lk_sound.specs.Values.{Fits, FitEach, none_left, one_more}
use Rattle.lk_types.specs.Each.{Each}
use Rattle.lk_types.specs.Rows.{Label, EffectSet}
use Rattle.lk_types.specs.declared.ground.Ground.{Ground}
use Rattle.lk_types.specs.declared.ground.Ground.TheVariants as known
use Rattle.lk_types.specs.declared.ty.Effect.TheVariants as effect
use Rattle.lk_typing.specs.Heads as operator
use Rattle.lk_typing.specs.Heads.{Head, head, parts}
use Rattle.lk_typing.specs.Names.{Named, Entry}
use Rattle.lk_typing.specs.Rules.{Rule}
use Rattle.lk_typing.specs.Rules as rule
use Rattle.lk_typing.specs.Types.{function_of}
use Rattle.lk_typing.specs.Typing.{label_of, expr_of}
use Rattle.lk_queries.specs.Law.{AtMostScan, Ends}
use Rattle.lk_queries.proofs.Barred.{no_function, no_apply, no_seq, no_print, no_insert, no_trap}
use Rattle.lk_queries.proofs.Calculating.{results}
use Rattle.lk_queries.proofs.Reading.{gone, read, same_value}
use Rattle.lk_queries.proofs.Entering.{IsRight, node_right}

-- ---- calls

module _ (p : Program) (tables : Tables) where
  -- what a point does comes to this value
  abbrev pub Does : Bool → Value → Act Point → Type 0
  Does scans v a = Ends p tables scans Value v (perform (source p) (eval (source p)) Server a)

  -- helpers among the first so many functions are evaluated to what their calls give
  abbrev pub CallsRight : Instances → (List ℕ → List Value → Value) → ℕ → Type 0
  CallsRight i calls n = (u : Use) → IsEarly p i.helpers n u → (ts : List Ground) (effects : EffectSet) (a : Ground) → u.type ≡ function_of ts effects a → AtMostScan effects
      → (args : List Value) → FitEach p i args ts → (at : Span) → Does (effects effect.Scan) (calls u.name args) (call at args (function_named p u.name))

  module _ (scans : Bool) where
    -- what an operation comes to
    done_right : (i : Instances) (effects : EffectSet) (t : Ground) (o : Outcome) (at : Span) → effects effect.Trap ≡ false → IsResult p i effects t o → Does scans (value_of o) (done at o)
    done_right i effects t (outcome.Value v) at traps result = gone p tables scans Value v
    done_right i effects t (outcome.Trap trap) at traps result = absurd (both_ways (effects effect.Trap) traps result)
    done_right i effects t outcome.NoRule at traps result = absurd result

    -- a choice by a truth value
    choice_right : (i : Instances) (at : Span) (c v w : Value) (one other : Act Point) → Fits p i c known.Bool → Does scans v one → Does scans w other → Does scans (chosen (bool_in c) v w) (choose at (bool_in c) one other)
    choice_right i at c v w one other test first second =
        let found : (b : Bool) × (bool_in c ≡ Some b) = bool_of_fits p i c test in
        subst (λ o. Does scans (chosen o v w) (choose at o one other)) (sym found.1) (by_test found.0)
      where
        by_test : (b : Bool) → Does scans (chosen (Some b) v w) (choose at (Some b) one other)
        by_test true = first
        by_test false = second

-- ---- operators

module _ (p : Program) (i : Instances) (apart : AreBlocksApart p) (closed : AreClosed p i) (tables : Tables) (calls : List ℕ → List Value → Value) (n : ℕ) (calls_right : CallsRight p tables i calls n) (functions : Named (Entry Ground)) where
  abbrev give : Expr → Names → Value
  give = given tables calls

  abbrev give_all : Names → List Expr → List Value
  give_all = all_given tables calls

  module _ (effects : EffectSet) (only : AtMostScan effects) (locals : Named Ground) (names : Names) (fit : AreLocals p i locals names) where
    abbrev By : Head → List Ground → Ground → Type 0
    By = Rule functions (tables_of p) locals effects

    abbrev scans : Bool
    scans = effects effect.Scan

    abbrev Right : Expr → Type 0
    Right = IsRight p tables scans calls names

    -- the rule of an operator that uses only helpers which stand early enough
    pub record IsBy (h : Head) (ts : List Ground) (t : Ground) : Type 0 where
      pub by : By h ts t
      pub uses : (u : Use) → used_by by ≡ Some u → IsEarly p i.helpers n u

    by_head : (g h : Head) (ts : List Ground) (t : Ground) → Some g ≡ Some h → IsBy h ts t → IsBy g ts t
    by_head g h ts t is by = let same : g ≡ h = cc in subst (λ x. IsBy x ts t) (sym same) by

    -- a node by what it gives and does
    form : (e : Expr) (l : Layer) (v : Value) → layer e ≡ l → Each Right (parts_of l) → give e names ≡ v → Does p tables scans v (act p e.span l names (give_all names (parts_of l))) → Right e
    form e l v is rights gives acts = node_right p tables scans calls names e l is rights (same_value p tables scans Value v (give e names) _ (sym gives) acts)

    operation : (e : Expr) (l : Layer) (ts : List Ground) (t : Ground) → layer e ≡ l → is_operation l ≡ true → operands l ≡ parts label_of expr_of l → parts_of l ≡ parts label_of expr_of l
        → ((values : List Value) → act p e.span l names values ≡ done e.span (operated l values))
        → operators.Results p i functions effects locals l ts t → FitEach p i (give_all names (parts label_of expr_of l)) ts → Each Right (parts label_of expr_of l) → Right e
    operation e l ts t is its same first acts results fits rights =
        let values : List Value = give_all names (parts label_of expr_of l) in
        form e l (value_of (operated l values)) is (subst (Each Right) (sym first) rights)
        (given_operation tables calls e l names is its ∙ ap (λ es. value_of (operated l (give_all names es))) same)
        (subst (λ es. Does p tables scans (value_of (operated l values)) (act p e.span l names (give_all names es))) (sym first)
        (subst (Does p tables scans (value_of (operated l values))) (sym (acts values)) (done_right p tables scans i effects t (operated l values) e.span (no_trap effects only) (results values fits))))

    local_right : (e : Expr) (x : Label) (ts : List Ground) (t : Ground) → layer e ≡ Node-F.Name x → By (operator.Local x) ts t → Right e
    local_right e x _ t is (rule.local there) =
        let found = fit x t there in
        form e (Node-F.Name x) found.0 is tt (given_forms.given_name tables calls e x names is ∙ ap (λ o. unwrap_or o unit_value) found.1)
        (subst (λ o. Does p tables scans found.0 (does.given e.span o)) (sym found.1) (gone p tables scans Value found.0))

    call_right : (e : Expr) (g : Word) (args : List Expr) (ts : List Ground) (t : Ground) → layer e ≡ Node-F.Call g args → (by : By (operator.Call g.text) ts t) → ((u : Use) → used_by by ≡ Some u → IsEarly p i.helpers n u)
        → FitEach p i (give_all names args) ts → Each Right args → Right e
    call_right e g args ts t is (rule.call may) uses fits rights =
        form e (Node-F.Call g args) (calls g.text (give_all names args)) is rights (given_forms.given_call tables calls e g args names is)
        (calls_right (record { name = g.text; type = function_of ts effects t }) (uses (record { name = g.text; type = function_of ts effects t }) refl) ts effects t refl only (give_all names args) fits e.span)

    if_right : (e c a b : Expr) (ts : List Ground) (t : Ground) → layer e ≡ Node-F.If c a b → By operator.If ts t → FitEach p i (give_all names (c ∷ a ∷ b ∷ [])) ts → Each Right (c ∷ a ∷ b ∷ []) → Right e
    if_right e c a b _ t is rule.branch (one_more test (one_more one (one_more other none_left))) (right, rights) =
        form e (Node-F.If c a b) (chosen (bool_in (give c names)) (give a names) (give b names)) is (right, tt) (given_forms.given_if tables calls e c a b names is)
        (choice_right p tables scans i e.span (give c names) (give a names) (give b names) _ _ test rights.0 rights.1.0)

    and_right : (e a b : Expr) (ts : List Ground) (t : Ground) → layer e ≡ Node-F.And a b → By operator.Logic ts t → FitEach p i (give_all names (a ∷ b ∷ [])) ts → Each Right (a ∷ b ∷ []) → Right e
    and_right e a b _ _ is rule.logic (one_more one (one_more other none_left)) (right, rights) =
        form e (Node-F.And a b) (chosen (bool_in (give a names)) (give b names) (truth false)) is (right, tt) (given_forms.given_and tables calls e a b names is)
        (choice_right p tables scans i e.span (give a names) (give b names) (truth false) _ _ one rights.0 (gone p tables scans Value (truth false)))

    or_right : (e a b : Expr) (ts : List Ground) (t : Ground) → layer e ≡ Node-F.Or a b → By operator.Logic ts t → FitEach p i (give_all names (a ∷ b ∷ [])) ts → Each Right (a ∷ b ∷ []) → Right e
    or_right e a b _ _ is rule.logic (one_more one (one_more other none_left)) (right, rights) =
        form e (Node-F.Or a b) (chosen (bool_in (give a names)) (truth true) (give b names)) is (right, tt) (given_forms.given_or tables calls e a b names is)
        (choice_right p tables scans i e.span (give a names) (truth true) (give b names) _ _ one (gone p tables scans Value (truth true)) rights.0)

    where_right : (e c d : Expr) (ts : List Ground) (t : Ground) → layer e ≡ Node-F.Where c d → By operator.Where ts t → FitEach p i (give_all names (c ∷ d ∷ [])) ts → Each Right (c ∷ d ∷ []) → Right e
    where_right e c d _ _ is (rule.filter b) (one_more test (one_more one none_left)) (right, rights) =
        form e (Node-F.Where c d) (chosen (bool_in (give c names)) (give d names) (value.List [])) is (right, tt) (given_forms.given_where tables calls e c d names is)
        (choice_right p tables scans i e.span (give c names) (give d names) (value.List []) _ _ test rights.0 (gone p tables scans Value (value.List [])))

    table_right : (e : Expr) (x : Word) (ts : List Ground) (t : Ground) → layer e ≡ Node-F.Table x → By (operator.Table x.text) ts t → AreBlocksOf p e → Right e
    table_right e x _ _ is (rule.table row rows on) blocks =
        form e (Node-F.Table x) (rows_value (tables x.text)) is tt (given_forms.given_table tables calls e x names is)
        (read p tables scans on e.span.start [] (tables x.text) e (block_found p e apart (own_block p e blocks (ap acts_on_tables is))) (ap (λ k. bag_by p tables e k []) is))

    -- an operator whose parts are evaluated to what they give, which fits
    pub operator_right : (e : Expr) (l : Layer) (h : Head) (ts : List Ground) (t : Ground) → layer e ≡ l → head label_of expr_of l ≡ Some h → AreBlocksOf p e → IsBy h ts t → is_query_type t ≡ true → Each (λ u. is_query_type u ≡ true) ts
        → FitEach p i (give_all names (parts label_of expr_of l)) ts → Each Right (parts label_of expr_of l) → Right e
    operator_right e (Node-F.Name x) h ts t is its blocks by flat flats fits rights = local_right e x ts t is (by_head (operator.Local x) h ts t its by).by
    operator_right e (Node-F.Function g) h ts t is its blocks by flat flats fits rights = let own_rule = by_head (operator.Function g) h ts t its by in absurd (no_function closed n g ts t flat own_rule.by own_rule.uses)
    operator_right e (Node-F.Call g args) h ts t is its blocks by flat flats fits rights = let own_rule = by_head (operator.Call g.text) h ts t its by in call_right e g args ts t is own_rule.by own_rule.uses fits rights
    operator_right e (Node-F.Apply f args) h ts t is its blocks by flat flats fits rights = absurd (no_apply only ts t (by_head operator.Apply h ts t its by).by)
    operator_right e (Node-F.Seq d rest) h ts t is its blocks by flat flats fits rights = absurd (no_seq ts t (by_head operator.Seq h ts t its by).by flats)
    operator_right e (Node-F.If c a b) h ts t is its blocks by flat flats fits rights = if_right e c a b ts t is (by_head operator.If h ts t its by).by fits rights
    operator_right e (Node-F.And a b) h ts t is its blocks by flat flats fits rights = and_right e a b ts t is (by_head operator.Logic h ts t its by).by fits rights
    operator_right e (Node-F.Or a b) h ts t is its blocks by flat flats fits rights = or_right e a b ts t is (by_head operator.Logic h ts t its by).by fits rights
    operator_right e (Node-F.Print d) h ts t is its blocks by flat flats fits rights = absurd (no_print ts t (by_head operator.Print h ts t its by).by flat)
    operator_right e (Node-F.Table x) h ts t is its blocks by flat flats fits rights = table_right e x ts t is (by_head (operator.Table x.text) h ts t its by).by blocks
    operator_right e (Node-F.Where c d) h ts t is its blocks by flat flats fits rights = where_right e c d ts t is (by_head operator.Where h ts t its by).by fits rights
    operator_right e (Node-F.Insert x d) h ts t is its blocks by flat flats fits rights = absurd (no_insert x.text ts t (by_head (operator.Insert x.text) h ts t its by).by flat)
    operator_right e (Node-F.Lambda l) h ts t is its blocks by flat flats fits rights = absurd cc
    operator_right e (Node-F.Var x d rest) h ts t is its blocks by flat flats fits rights = absurd cc
    operator_right e (Node-F.Switch d cases last) h ts t is its blocks by flat flats fits rights = absurd cc
    operator_right e (Node-F.ForList x d body) h ts t is its blocks by flat flats fits rights = absurd cc
    operator_right e (Node-F.ForTable x d body) h ts t is its blocks by flat flats fits rights = absurd cc
    operator_right e (Node-F.Query keys d) h ts t is its blocks by flat flats fits rights = absurd cc
    operator_right e (Node-F.Update change) h ts t is its blocks by flat flats fits rights = absurd cc
    operator_right e (Node-F.Delete change) h ts t is its blocks by flat flats fits rights = absurd cc
    operator_right e l h ts t is its blocks by flat flats fits rights = operation e l ts t is refl (operands_are l refl) refl (λ values. refl) (results p i functions effects locals l h ts t its refl by.by) fits rights
