-- What a walk makes of an expression of a query, by its typing.
use Rattle.std.proofs.Common.{◌≡◌, ℕ, Bool, true, false, List, [], ◌∷◌, map, Some, refl, subst}
use Rattle.lk_ast.specs.Layers.{Layer, layer}
use Rattle.lk_ast.specs.Tables.{Tables, tables_of}
use Rattle.lk_ast.specs.declared.declaration.Program.{Program}
use Rattle.lk_ast.specs.declared.expression.Expr.{Expr}
use Rattle.lk_ast.specs.declared.expression.Node.TheOpen.{Node-F}
use Rattle.lk_ast.specs.declared.table.BaseKind.TheVariants as kind
use Rattle.lk_ast.specs.declared.value.Value.{Value}
use Rattle.lk_bag.specs.Bag.{given}
use Rattle.lk_bodies.specs.Walk.{Calls, State, behind_type, walk}
use Rattle.lk_ground_types.specs.Shapes.{is_base, is_list, is_query_type}
use Rattle.lk_inline.proofs.Arms.{Fitting, Makes, Parts, add_arm, and_arm, append_arm, bool_arm, concat_arm, empty_arm, if_arm, int_arm, mul_arm, neg_arm, not_arm, or_arm, project_arm, sub_arm, table_arm, text_arm, where_arm}
use Rattle.lk_inline.proofs.Comparing.{eq_made, ge_made, gt_made, le_made, lt_made, ne_made}
use Rattle.lk_inline.proofs.Inducing.{name_made}
use Rattle.lk_inline.proofs.Making.{HaveNumbers, IsMade, left}
use Rattle.lk_inline.proofs.QueryOperators.{IsBy, IsOfQuery, by_head, equality_by, of_query, order_by}
use Rattle.lk_inline.proofs.RecordArms.{extend_arm, items_arm, record_arm}
use Rattle.lk_locals.specs.Names.{Names}
use Rattle.lk_sites.specs.Pending.{Pending}
use Rattle.lk_sound.proofs.QueryValues.{CallsFit}
use Rattle.lk_sound.specs.Instances.{AreClosed, Instances}
use Rattle.lk_sound.specs.Nodes.{Comparison, Equality, Order, comparison}
use Rattle.lk_sound.specs.Tables.{AreTables}
use Rattle.lk_types.specs.Each.{Each}
use Rattle.lk_types.specs.Rows.{Label, EffectSet}
use Rattle.lk_types.specs.declared.ground.Ground.{Ground}
use Rattle.lk_types.specs.declared.ground.Ground.TheVariants as known
use Rattle.lk_types.specs.declared.ty.Effect.TheVariants as effect
use Rattle.lk_typing.specs.Heads as operator
use Rattle.lk_typing.specs.Heads.{Head, head, parts}
use Rattle.lk_typing.specs.Names.{Entry, Named}
use Rattle.lk_typing.specs.Rules.{Rule}
use Rattle.lk_typing.specs.Rules as rule
use Rattle.lk_typing.specs.Typing.{label_of, expr_of, query}

module _ (p : Program) (i : Instances) (closed : AreClosed p i) (tables : Tables) (rows : AreTables p tables) (calls : List ℕ → List Value → Value) (makes : Calls) (n : ℕ) (calls_fit : CallsFit p i calls n) (functions : Named (Entry Ground)) where
  abbrev give : Expr → Names → Value
  give = given tables calls

  module _ (effects : EffectSet) (own : effects effect.Local ≡ false) (traps : effects effect.Trap ≡ false) (locals : Named Ground) (e : Expr) (numbers : Named ℕ) (s : State) (q : Pending) (have : HaveNumbers locals numbers s.parts) where
    abbrev pub By : Head → List Ground → Ground → Type 0
    By = Rule functions (tables_of p) locals effects

    abbrev Here : Ground → Type 0
    Here t = Makes p i tables calls makes functions effects locals e numbers s q have t

    abbrev Own : List Ground → List Expr → Type 0
    Own ts es = Parts p i tables calls makes functions effects locals e numbers s q have ts es

    abbrev Fit : List Ground → List Expr → Type 0
    Fit ts es = Fitting p i tables calls makes functions effects locals e numbers s q have ts es

    abbrev Uses : Head → List Ground → Ground → Type 0
    Uses = IsBy functions (tables_of p) locals effects e

    rule_of : (g h : Head) (ts : List Ground) (t : Ground) → Some g ≡ Some h → Uses h ts t → By g ts t
    rule_of g h ts t is r = (by_head functions (tables_of p) locals effects e g h ts t is r).by

    -- the type of the first part is the next one
    abbrev Next : List Ground → Type 0
    Next ts = (u : Ground) (us : List Ground) → ts ≡ u ∷ us → (others : List Ground) × ((behind_type s).types ≡ u ∷ others)

    equal_by : (l : Layer) (h : Head) (ts : List Ground) (t : Ground) → layer e ≡ l → Some operator.Comparison ≡ Some h → Uses h ts t → ((u : Ground) → comparison l u ≡ Some (Equality u)) → Each (λ u. is_query_type u ≡ true) ts → Next ts
        → ((u : Ground) (others : List Ground) → (behind_type s).types ≡ u ∷ others → is_query_type u ≡ true → is_list u ≡ false → Own (u ∷ u ∷ []) (parts label_of expr_of l) → Fit (u ∷ u ∷ []) (parts label_of expr_of l) → Here known.Bool)
        → Own ts (parts label_of expr_of l) → Fit ts (parts label_of expr_of l) → Here t
    equal_by l h ts t is its r equal flats next arm = equality_by functions (tables_of p) locals effects e (λ ts t. Next ts → Own ts (parts label_of expr_of l) → Fit ts (parts label_of expr_of l) → Here t) l ts t is (by_head functions (tables_of p) locals effects e operator.Comparison h ts t its r) equal flats
        (λ u flat lists next. (let behind = next u (u ∷ []) refl in arm u behind.0 behind.1 flat lists)) next

    ordered_by : (l : Layer) (h : Head) (ts : List Ground) (t : Ground) → layer e ≡ l → Some operator.Comparison ≡ Some h → Uses h ts t → ((u : Ground) → comparison l u ≡ Some (Order u))
        → ((u : Ground) → is_base u ≡ true → Own (u ∷ u ∷ []) (parts label_of expr_of l) → Fit (u ∷ u ∷ []) (parts label_of expr_of l) → Here known.Bool) → Own ts (parts label_of expr_of l) → Fit ts (parts label_of expr_of l) → Here t
    ordered_by l h ts t is its r order arm = order_by functions (tables_of p) locals effects e (λ ts t. Own ts (parts label_of expr_of l) → Fit ts (parts label_of expr_of l) → Here t) l ts t is (by_head functions (tables_of p) locals effects e operator.Comparison h ts t its r) order arm

    never : (l : Layer) (h : Head) (ts : List Ground) (t : Ground) → head label_of expr_of l ≡ Some h → Uses h ts t → is_query_type t ≡ true → Each (λ u. is_query_type u ≡ true) ts → IsOfQuery l
    never = of_query functions (tables_of p) locals effects e own traps

    empty_by : (d : Expr) (ts : List Ground) (t : Ground) → layer e ≡ Node-F.Empty d → By operator.Empty ts t → Next ts → Each (λ u. is_query_type u ≡ true) ts → Own ts (d ∷ []) → Fit ts (d ∷ []) → Here t
    empty_by d _ _ is (rule.empty a) next flats are fits =
        let behind = next (known.List a) [] refl in
        empty_arm p i tables calls makes functions effects locals e numbers s q have d (known.List a ∷ []) known.Bool (known.List a) behind.0 is (rule.empty a) behind.1 flats are fits

    local_by : (x : Label) (ts : List Ground) (t : Ground) → layer e ≡ Node-F.Name x → By (operator.Local x) ts t → Own ts [] → Here t
    local_by x _ t is (rule.local there) are =
        subst (λ r. IsMade p i tables calls makes locals numbers t (give e) s r (walk makes e numbers s)) are.left (name_made p i tables calls makes e x t locals numbers s is there are.ordered have)

    pub operator_made : (l : Layer) (h : Head) (ts : List Ground) (t : Ground) (others : List Ground) → layer e ≡ l → head label_of expr_of l ≡ Some h → Uses h ts t → s.types ≡ t ∷ others → is_query_type t ≡ true → Each (λ u. is_query_type u ≡ true) ts → Next ts
        → Own ts (parts label_of expr_of l) → Fit ts (parts label_of expr_of l) → Here t
    operator_made (Node-F.Int m) h ts t others is its by own_type flat flats next are fits = int_arm p i tables calls makes functions effects locals e numbers s q have m ts t is (rule_of (operator.Literal kind.Int) h ts t its by) are
    operator_made (Node-F.Text bytes) h ts t others is its by own_type flat flats next are fits = text_arm p i tables calls makes functions effects locals e numbers s q have bytes ts t is (rule_of (operator.Literal kind.Text) h ts t its by) are
    operator_made (Node-F.Bool b) h ts t others is its by own_type flat flats next are fits = bool_arm p i tables calls makes functions effects locals e numbers s q have b ts t is (rule_of (operator.Literal kind.Bool) h ts t its by) are
    operator_made (Node-F.Name x) h ts t others is its by own_type flat flats next are fits = local_by x ts t is (rule_of (operator.Local x) h ts t its by) are
    operator_made (Node-F.Function g) h ts t others is its by own_type flat flats next are fits = absurd (never (Node-F.Function g) h ts t its by flat flats)
    operator_made (Node-F.Call g args) h ts t others is its by own_type flat flats next are fits = absurd (never (Node-F.Call g args) h ts t its by flat flats)
    operator_made (Node-F.Apply f args) h ts t others is its by own_type flat flats next are fits = absurd (never (Node-F.Apply f args) h ts t its by flat flats)
    operator_made (Node-F.Seq d rest) h ts t others is its by own_type flat flats next are fits = absurd (never (Node-F.Seq d rest) h ts t its by flat flats)
    operator_made (Node-F.If c a b) h ts t others is its by own_type flat flats next are fits = if_arm p i tables calls makes functions effects locals e numbers s q have c a b ts t others is (rule_of operator.If h ts t its by) own_type flat are fits
    operator_made (Node-F.And a b) h ts t others is its by own_type flat flats next are fits = and_arm p i tables calls makes functions effects locals e numbers s q have a b ts t is (rule_of operator.Logic h ts t its by) are fits
    operator_made (Node-F.Or a b) h ts t others is its by own_type flat flats next are fits = or_arm p i tables calls makes functions effects locals e numbers s q have a b ts t is (rule_of operator.Logic h ts t its by) are fits
    operator_made (Node-F.Concat a b) h ts t others is its by own_type flat flats next are fits = concat_arm p i tables calls makes functions effects locals e numbers s q have a b ts t is (rule_of operator.Concat h ts t its by) are fits
    operator_made (Node-F.Append a b) h ts t others is its by own_type flat flats next are fits = append_arm p i tables calls makes functions effects locals e numbers s q have a b ts t is (rule_of operator.Append h ts t its by) flat are fits
    operator_made (Node-F.Cons a b) h ts t others is its by own_type flat flats next are fits = absurd (never (Node-F.Cons a b) h ts t its by flat flats)
    operator_made (Node-F.Add a b) h ts t others is its by own_type flat flats next are fits = add_arm p i tables calls makes functions effects locals e numbers s q have a b ts t is (rule_of operator.Arithmetic h ts t its by) are fits
    operator_made (Node-F.Sub a b) h ts t others is its by own_type flat flats next are fits = sub_arm p i tables calls makes functions effects locals e numbers s q have a b ts t is (rule_of operator.Arithmetic h ts t its by) are fits
    operator_made (Node-F.Mul a b) h ts t others is its by own_type flat flats next are fits = mul_arm p i tables calls makes functions effects locals e numbers s q have a b ts t is (rule_of operator.Arithmetic h ts t its by) are fits
    operator_made (Node-F.Div a b) h ts t others is its by own_type flat flats next are fits = absurd (never (Node-F.Div a b) h ts t its by flat flats)
    operator_made (Node-F.Mod a b) h ts t others is its by own_type flat flats next are fits = absurd (never (Node-F.Mod a b) h ts t its by flat flats)
    operator_made (Node-F.Eq a b) h ts t others is its by own_type flat flats next are fits =
        equal_by (Node-F.Eq a b) h ts t is its by (λ u. refl) flats next (λ u us type query_is lists_not. eq_made p i tables calls makes functions effects locals e numbers s q have a b u us is type query_is lists_not) are fits
    operator_made (Node-F.Ne a b) h ts t others is its by own_type flat flats next are fits =
        equal_by (Node-F.Ne a b) h ts t is its by (λ u. refl) flats next (λ u us type query_is lists_not. ne_made p i tables calls makes functions effects locals e numbers s q have a b u us is type query_is lists_not) are fits
    operator_made (Node-F.Lt a b) h ts t others is its by own_type flat flats next are fits =
        ordered_by (Node-F.Lt a b) h ts t is its by (λ u. refl) (λ u base. lt_made p i tables calls makes functions effects locals e numbers s q have a b u is base) are fits
    operator_made (Node-F.Le a b) h ts t others is its by own_type flat flats next are fits =
        ordered_by (Node-F.Le a b) h ts t is its by (λ u. refl) (λ u base. le_made p i tables calls makes functions effects locals e numbers s q have a b u is base) are fits
    operator_made (Node-F.Gt a b) h ts t others is its by own_type flat flats next are fits =
        ordered_by (Node-F.Gt a b) h ts t is its by (λ u. refl) (λ u base. gt_made p i tables calls makes functions effects locals e numbers s q have a b u is base) are fits
    operator_made (Node-F.Ge a b) h ts t others is its by own_type flat flats next are fits =
        ordered_by (Node-F.Ge a b) h ts t is its by (λ u. refl) (λ u base. ge_made p i tables calls makes functions effects locals e numbers s q have a b u is base) are fits
    operator_made (Node-F.Neg d) h ts t others is its by own_type flat flats next are fits = neg_arm p i tables calls makes functions effects locals e numbers s q have d ts t is (rule_of operator.Negation h ts t its by) are fits
    operator_made (Node-F.Not d) h ts t others is its by own_type flat flats next are fits = not_arm p i tables calls makes functions effects locals e numbers s q have d ts t is (rule_of operator.Not h ts t its by) are fits
    operator_made (Node-F.Hd d) h ts t others is its by own_type flat flats next are fits = absurd (never (Node-F.Hd d) h ts t its by flat flats)
    operator_made (Node-F.Tl d) h ts t others is its by own_type flat flats next are fits = absurd (never (Node-F.Tl d) h ts t its by flat flats)
    operator_made (Node-F.Empty d) h ts t others is its by own_type flat flats next are fits = empty_by d ts t is (rule_of operator.Empty h ts t its by) next flats are fits
    operator_made (Node-F.IntToString d) h ts t others is its by own_type flat flats next are fits = absurd (never (Node-F.IntToString d) h ts t its by flat flats)
    operator_made (Node-F.Print d) h ts t others is its by own_type flat flats next are fits = absurd (never (Node-F.Print d) h ts t its by flat flats)
    operator_made (Node-F.Record fields) h ts t others is its by own_type flat flats next are fits = record_arm p i tables calls makes functions effects locals e numbers s q have fields ts t others is (rule_of (operator.Record (map label_of fields)) h ts t its by) own_type flat are fits
    operator_made (Node-F.Extend fields d) h ts t others is its by own_type flat flats next are fits = extend_arm p i tables calls makes functions effects locals e numbers s q have fields d ts t others is (rule_of (operator.Extend (map label_of fields)) h ts t its by) own_type flat flats are fits
    operator_made (Node-F.List es) h ts t others is its by own_type flat flats next are fits = items_arm p i tables calls makes functions effects locals e numbers s q have es ts t is (rule_of operator.Items h ts t its by) flat are
    operator_made (Node-F.Project d l) h ts t others is its by own_type flat flats next are fits = project_arm p i tables calls makes functions effects locals e numbers s q have d l ts t is (rule_of (operator.Project l.text) h ts t its by) flats are fits
    operator_made (Node-F.Tag l d) h ts t others is its by own_type flat flats next are fits = absurd (never (Node-F.Tag l d) h ts t its by flat flats)
    operator_made (Node-F.Table x) h ts t others is its by own_type flat flats next are fits = table_arm p i tables calls makes functions effects locals e numbers s q have x ts t others rows is (rule_of (operator.Table x.text) h ts t its by) own_type flat are
    operator_made (Node-F.Where c d) h ts t others is its by own_type flat flats next are fits = where_arm p i tables calls makes functions effects locals e numbers s q have c d ts t is (rule_of operator.Where h ts t its by) flat are fits
    operator_made (Node-F.Insert x d) h ts t others is its by own_type flat flats next are fits = absurd (never (Node-F.Insert x d) h ts t its by flat flats)
    operator_made (Node-F.Lambda l) h ts t others is its by own_type flat flats next are fits = absurd cc
    operator_made (Node-F.Var x d rest) h ts t others is its by own_type flat flats next are fits = absurd cc
    operator_made (Node-F.Switch d cases last) h ts t others is its by own_type flat flats next are fits = absurd cc
    operator_made (Node-F.ForList x d body) h ts t others is its by own_type flat flats next are fits = absurd cc
    operator_made (Node-F.ForTable x d body) h ts t others is its by own_type flat flats next are fits = absurd cc
    operator_made (Node-F.Query keys d) h ts t others is its by own_type flat flats next are fits = absurd cc
    operator_made (Node-F.Update change) h ts t others is its by own_type flat flats next are fits = absurd cc
    operator_made (Node-F.Delete change) h ts t others is its by own_type flat flats next are fits = absurd cc
