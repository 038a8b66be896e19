-- The kinds of what a walk makes of an operator of a query, by its rule.
use Rattle.std.proofs.Common.{◌≡◌, ℕ, Bool, true, false, List, [], ◌∷◌, map, Some, refl, sym, ◌∙◌, ap, subst}
use Rattle.lk_ast.specs.Layers.{Layer, layer}
use Rattle.lk_ast.specs.declared.declaration.TableDecl.{TableDecl}
use Rattle.lk_ast.specs.declared.expression.Expr.{Expr}
use Rattle.lk_ast.specs.declared.expression.Node.TheOpen.{Node-F}
use Rattle.lk_ast.specs.declared.table.Base.TheVariants as base
use Rattle.lk_ast.specs.declared.table.BaseKind.TheVariants as kind
use Rattle.lk_bodies.specs.Walk.{Calls, State, behind_type, local, walk}
use Rattle.lk_ground_types.specs.Shapes.{is_base, is_list, is_query_type}
use Rattle.lk_inline.proofs.Inducing.{walk_form}
use Rattle.lk_inline.proofs.KindArms.{Makes, Parts, append_arm, arithmetic_arm, binary, concat_arm, empty_arm, if_arm, literal_arm, logic_arm, neg_arm, not_arm, project_arm, table_arm, where_arm}
use Rattle.lk_inline.proofs.KindComparing.{eq_arm, ne_arm}
use Rattle.lk_inline.proofs.KindRecords.{extend_arm, items_arm, record_arm}
use Rattle.lk_inline.proofs.KindSteps.{adds_none}
use Rattle.lk_inline.proofs.KindsMade.{AreDescribed, AreKnown, Descriptions, IsKinded, Scope}
use Rattle.lk_inline.proofs.Making.{left}
use Rattle.lk_inline.proofs.QueryOperators.{IsBy, IsOfQuery, by_head, equality_by, of_query, order_by}
use Rattle.lk_inline.proofs.QueryTypes.{list_rows}
use Rattle.lk_inline.proofs.Standing.{bool_is}
use Rattle.lk_inline.specs.KindsOfTypes.{IsInOrder}
use Rattle.lk_query.specs.Order.{AreOrdered}
use Rattle.lk_sites.specs.Pending.{Pending}
use Rattle.lk_sound.specs.Nodes.{Equality, Order, comparison}
use Rattle.lk_sql.specs.declared.tree.SqlOp.TheVariants as op
use Rattle.lk_types.specs.Each.{Each}
use Rattle.lk_types.specs.Rows.{EffectSet, Label}
use Rattle.lk_types.specs.declared.ground.Ground.{Ground}
use Rattle.lk_types.specs.declared.ground.Ground.TheVariants as known_type
use Rattle.lk_types.specs.declared.ty.Effect.TheVariants as effect
use Rattle.lk_typing.specs.Heads as operator
use Rattle.lk_typing.specs.Heads.{Head, head, parts}
use Rattle.lk_typing.specs.Names.{Entry, Named, named}
use Rattle.lk_typing.specs.Rules.{Rule}
use Rattle.lk_typing.specs.Rules as rule
use Rattle.lk_typing.specs.Typing.{expr_of, label_of}

-- a local name, whose part is there
pub name_kinded : (scope : Scope) (scans : Bool) (makes : Calls) (e : Expr) (numbers : Named ℕ) (known : Descriptions) (s : State) (x : Label) (t : Ground) (locals : Named Ground) → layer e ≡ Node-F.Name x → named x locals ≡ Some t → AreOrdered s.parts
    → AreDescribed known s.parts → AreKnown scope known locals numbers s.parts → IsKinded scope scans t known s (left (behind_type s)) (walk makes e numbers s)
name_kinded scope scans makes e numbers known s x t locals is there ordered typed have =
    let found = have x t there in
    subst (λ m. IsKinded scope scans t known s (left (behind_type s)) m) (sym (walk_form makes e (Node-F.Name x) is numbers s ∙ ap (λ o. local o (behind_type s)) found.1))
    (record { left = refl; has = record { later = known; adds = adds_none scans known s.parts ordered typed; within = found.2; is = found.3 } })

module _ (functions : Named (Entry Ground)) (tables : List TableDecl) (locals : Named Ground) (effects : EffectSet) (scope : Scope) (makes : Calls) (e : Expr) (numbers : Named ℕ) (known : Descriptions) (s : State) (q : Pending)
    (own : effects effect.Local ≡ false) (traps : effects effect.Trap ≡ false) (ordered : AreOrdered s.parts) (typed : AreDescribed known s.parts) (have : AreKnown scope known locals numbers s.parts) where
  abbrev pub By : Head → List Ground → Ground → Type 0
  By = Rule functions tables locals effects

  abbrev Here : Ground → Type 0
  Here t = Makes functions tables locals effects scope makes e numbers known s q t

  abbrev Own : List Ground → List Expr → Type 0
  Own ts es = Parts functions tables locals effects scope makes e numbers known s q ts es

  abbrev Uses : Head → List Ground → Ground → Type 0
  Uses = IsBy functions tables locals effects e

  rule_of : (g h : Head) (ts : List Ground) (t : Ground) → Some g ≡ Some h → Uses h ts t → By g ts t
  rule_of g h ts t is r = (by_head functions tables locals effects e g h ts t is r).by

  -- the type of the first part is the next one
  abbrev Next : List Ground → Type 0
  Next ts = (u : Ground) (us : List Ground) → ts ≡ u ∷ us → (others : List Ground) × ((behind_type s).types ≡ u ∷ others)

  equal_by : (l : Layer) (h : Head) (ts : List Ground) (t : Ground) → layer e ≡ l → Some operator.Comparison ≡ Some h → Uses h ts t → ((u : Ground) → comparison l u ≡ Some (Equality u)) → Each (λ u. is_query_type u ≡ true) ts → Next ts
      → ((u : Ground) (others : List Ground) → (behind_type s).types ≡ u ∷ others → is_query_type u ≡ true → is_list u ≡ false → Own (u ∷ u ∷ []) (parts label_of expr_of l) → Here known_type.Bool) → Own ts (parts label_of expr_of l) → Here t
  equal_by l h ts t is its r equal flats next arm = equality_by functions tables locals effects e (λ ts t. Next ts → Own ts (parts label_of expr_of l) → Here t) l ts t is (by_head functions tables locals effects e operator.Comparison h ts t its r) equal flats
      (λ u flat lists next. (let behind = next u (u ∷ []) refl in arm u behind.0 behind.1 flat lists)) next

  ordered_by : (l : Layer) (h : Head) (ts : List Ground) (t : Ground) → layer e ≡ l → Some operator.Comparison ≡ Some h → Uses h ts t → ((u : Ground) → comparison l u ≡ Some (Order u))
      → ((u : Ground) → is_base u ≡ true → Own (u ∷ u ∷ []) (parts label_of expr_of l) → Here known_type.Bool) → Own ts (parts label_of expr_of l) → Here t
  ordered_by l h ts t is its r order arm = order_by functions tables locals effects e (λ ts t. Own ts (parts label_of expr_of l) → Here t) l ts t is (by_head functions tables locals effects e operator.Comparison h ts t its r) order arm

  never : (l : Layer) (h : Head) (ts : List Ground) (t : Ground) → head label_of expr_of l ≡ Some h → Uses h ts t → is_query_type t ≡ true → Each (λ u. is_query_type u ≡ true) ts → IsOfQuery l
  never = of_query functions tables locals effects e own traps

  empty_by : (d : Expr) (ts : List Ground) (t : Ground) → layer e ≡ Node-F.Empty d → By operator.Empty ts t → Next ts → Each (λ u. is_query_type u ≡ true) ts → Own ts (d ∷ []) → Here t
  empty_by d _ _ is (rule.empty a) next flats are =
      let behind = next (known_type.List a) [] refl in
      empty_arm functions tables locals effects scope makes e numbers known s q d (known_type.List a) behind.0 is behind.1 (list_rows a flats.0) are

  local_by : (x : Label) (ts : List Ground) (t : Ground) → layer e ≡ Node-F.Name x → By (operator.Local x) ts t → Own ts [] → Here t
  local_by x _ t is (rule.local there) are =
      subst (λ r. IsKinded scope (effects effect.Scan) t known s r (walk makes e numbers s)) are.left (name_kinded scope (effects effect.Scan) makes e numbers known s x t locals is there ordered typed have)

  pub operator_kinded : (l : Layer) (h : Head) (ts : List Ground) (t : Ground) (others : List Ground) → layer e ≡ l → head label_of expr_of l ≡ Some h → Uses h ts t → s.types ≡ t ∷ others → is_query_type t ≡ true → IsInOrder t
      → Each (λ u. is_query_type u ≡ true) ts → Next ts → Own ts (parts label_of expr_of l) → Here t
  operator_kinded (Node-F.Int m) h ts t others is its by own_type flat order flats next are = literal_arm functions tables locals effects scope makes e numbers known s q kind.Int (base.Int m) ts t (walk_form makes e (Node-F.Int m) is numbers s) (rule_of (operator.Literal kind.Int) h ts t its by) are
  operator_kinded (Node-F.Text bytes) h ts t others is its by own_type flat order flats next are = literal_arm functions tables locals effects scope makes e numbers known s q kind.Text (base.Text bytes) ts t (walk_form makes e (Node-F.Text bytes) is numbers s) (rule_of (operator.Literal kind.Text) h ts t its by) are
  operator_kinded (Node-F.Bool b) h ts t others is its by own_type flat order flats next are = literal_arm functions tables locals effects scope makes e numbers known s q kind.Bool (base.Bool b) ts t (walk_form makes e (Node-F.Bool b) is numbers s) (rule_of (operator.Literal kind.Bool) h ts t its by) are
  operator_kinded (Node-F.Name x) h ts t others is its by own_type flat order flats next are = local_by x ts t is (rule_of (operator.Local x) h ts t its by) are
  operator_kinded (Node-F.Function g) h ts t others is its by own_type flat order flats next are = absurd (never (Node-F.Function g) h ts t its by flat flats)
  operator_kinded (Node-F.Call g args) h ts t others is its by own_type flat order flats next are = absurd (never (Node-F.Call g args) h ts t its by flat flats)
  operator_kinded (Node-F.Apply f args) h ts t others is its by own_type flat order flats next are = absurd (never (Node-F.Apply f args) h ts t its by flat flats)
  operator_kinded (Node-F.Seq d rest) h ts t others is its by own_type flat order flats next are = absurd (never (Node-F.Seq d rest) h ts t its by flat flats)
  operator_kinded (Node-F.If c a b) h ts t others is its by own_type flat order flats next are = if_arm functions tables locals effects scope makes e numbers known s q c a b ts t others is (rule_of operator.If h ts t its by) own_type flat order are
  operator_kinded (Node-F.And a b) h ts t others is its by own_type flat order flats next are = logic_arm functions tables locals effects scope makes e numbers known s q op.And a b ts t (walk_form makes e (Node-F.And a b) is numbers s) refl (rule_of operator.Logic h ts t its by) are
  operator_kinded (Node-F.Or a b) h ts t others is its by own_type flat order flats next are = logic_arm functions tables locals effects scope makes e numbers known s q op.Or a b ts t (walk_form makes e (Node-F.Or a b) is numbers s) refl (rule_of operator.Logic h ts t its by) are
  operator_kinded (Node-F.Concat a b) h ts t others is its by own_type flat order flats next are = concat_arm functions tables locals effects scope makes e numbers known s q a b ts t is (rule_of operator.Concat h ts t its by) are
  operator_kinded (Node-F.Append a b) h ts t others is its by own_type flat order flats next are = append_arm functions tables locals effects scope makes e numbers known s q a b ts t is (rule_of operator.Append h ts t its by) flat order are
  operator_kinded (Node-F.Cons a b) h ts t others is its by own_type flat order flats next are = absurd (never (Node-F.Cons a b) h ts t its by flat flats)
  operator_kinded (Node-F.Add a b) h ts t others is its by own_type flat order flats next are = arithmetic_arm functions tables locals effects scope makes e numbers known s q op.Add a b ts t (walk_form makes e (Node-F.Add a b) is numbers s) refl (rule_of operator.Arithmetic h ts t its by) are
  operator_kinded (Node-F.Sub a b) h ts t others is its by own_type flat order flats next are = arithmetic_arm functions tables locals effects scope makes e numbers known s q op.Sub a b ts t (walk_form makes e (Node-F.Sub a b) is numbers s) refl (rule_of operator.Arithmetic h ts t its by) are
  operator_kinded (Node-F.Mul a b) h ts t others is its by own_type flat order flats next are = arithmetic_arm functions tables locals effects scope makes e numbers known s q op.Mul a b ts t (walk_form makes e (Node-F.Mul a b) is numbers s) refl (rule_of operator.Arithmetic h ts t its by) are
  operator_kinded (Node-F.Div a b) h ts t others is its by own_type flat order flats next are = absurd (never (Node-F.Div a b) h ts t its by flat flats)
  operator_kinded (Node-F.Mod a b) h ts t others is its by own_type flat order flats next are = absurd (never (Node-F.Mod a b) h ts t its by flat flats)
  operator_kinded (Node-F.Eq a b) h ts t others is its by own_type flat order flats next are =
      equal_by (Node-F.Eq a b) h ts t is its by (λ u. refl) flats next (λ u us type query_is lists_not. eq_arm functions tables locals effects scope makes e numbers known s q a b u us is type query_is lists_not) are
  operator_kinded (Node-F.Ne a b) h ts t others is its by own_type flat order flats next are =
      equal_by (Node-F.Ne a b) h ts t is its by (λ u. refl) flats next (λ u us type query_is lists_not. ne_arm functions tables locals effects scope makes e numbers known s q a b u us is type query_is lists_not) are
  operator_kinded (Node-F.Lt a b) h ts t others is its by own_type flat order flats next are =
      ordered_by (Node-F.Lt a b) h ts t is its by (λ u. refl) (λ u base. binary functions tables locals effects scope makes e numbers known s q op.Lt u known_type.Bool a b (walk_form makes e (Node-F.Lt a b) is numbers s) refl base bool_is) are
  operator_kinded (Node-F.Le a b) h ts t others is its by own_type flat order flats next are =
      ordered_by (Node-F.Le a b) h ts t is its by (λ u. refl) (λ u base. binary functions tables locals effects scope makes e numbers known s q op.Le u known_type.Bool a b (walk_form makes e (Node-F.Le a b) is numbers s) refl base bool_is) are
  operator_kinded (Node-F.Gt a b) h ts t others is its by own_type flat order flats next are =
      ordered_by (Node-F.Gt a b) h ts t is its by (λ u. refl) (λ u base. binary functions tables locals effects scope makes e numbers known s q op.Gt u known_type.Bool a b (walk_form makes e (Node-F.Gt a b) is numbers s) refl base bool_is) are
  operator_kinded (Node-F.Ge a b) h ts t others is its by own_type flat order flats next are =
      ordered_by (Node-F.Ge a b) h ts t is its by (λ u. refl) (λ u base. binary functions tables locals effects scope makes e numbers known s q op.Ge u known_type.Bool a b (walk_form makes e (Node-F.Ge a b) is numbers s) refl base bool_is) are
  operator_kinded (Node-F.Neg d) h ts t others is its by own_type flat order flats next are = neg_arm functions tables locals effects scope makes e numbers known s q d ts t is (rule_of operator.Negation h ts t its by) are
  operator_kinded (Node-F.Not d) h ts t others is its by own_type flat order flats next are = not_arm functions tables locals effects scope makes e numbers known s q d ts t is (rule_of operator.Not h ts t its by) are
  operator_kinded (Node-F.Hd d) h ts t others is its by own_type flat order flats next are = absurd (never (Node-F.Hd d) h ts t its by flat flats)
  operator_kinded (Node-F.Tl d) h ts t others is its by own_type flat order flats next are = absurd (never (Node-F.Tl d) h ts t its by flat flats)
  operator_kinded (Node-F.Empty d) h ts t others is its by own_type flat order flats next are = empty_by d ts t is (rule_of operator.Empty h ts t its by) next flats are
  operator_kinded (Node-F.IntToString d) h ts t others is its by own_type flat order flats next are = absurd (never (Node-F.IntToString d) h ts t its by flat flats)
  operator_kinded (Node-F.Print d) h ts t others is its by own_type flat order flats next are = absurd (never (Node-F.Print d) h ts t its by flat flats)
  operator_kinded (Node-F.Record fields) h ts t others is its by own_type flat order flats next are = record_arm functions tables locals effects scope makes e numbers known s q fields ts t others is (rule_of (operator.Record (map label_of fields)) h ts t its by) own_type flat are
  operator_kinded (Node-F.Extend fields d) h ts t others is its by own_type flat order flats next are = extend_arm functions tables locals effects scope makes e numbers known s q fields d ts t others is (rule_of (operator.Extend (map label_of fields)) h ts t its by) own_type flat flats are
  operator_kinded (Node-F.List es) h ts t others is its by own_type flat order flats next are = items_arm functions tables locals effects scope makes e numbers known s q es ts t is (rule_of operator.Items h ts t its by) flat order are
  operator_kinded (Node-F.Project d l) h ts t others is its by own_type flat order flats next are = project_arm functions tables locals effects scope makes e numbers known s q d l ts t is (rule_of (operator.Project l.text) h ts t its by) flats are
  operator_kinded (Node-F.Tag l d) h ts t others is its by own_type flat order flats next are = absurd (never (Node-F.Tag l d) h ts t its by flat flats)
  operator_kinded (Node-F.Table x) h ts t others is its by own_type flat order flats next are = table_arm functions tables locals effects scope makes e numbers known s q x ts t others is (rule_of (operator.Table x.text) h ts t its by) own_type flat order are
  operator_kinded (Node-F.Where c d) h ts t others is its by own_type flat order flats next are = where_arm functions tables locals effects scope makes e numbers known s q c d ts t is (rule_of operator.Where h ts t its by) flat order are
  operator_kinded (Node-F.Insert x d) h ts t others is its by own_type flat order flats next are = absurd (never (Node-F.Insert x d) h ts t its by flat flats)
  operator_kinded (Node-F.Lambda l) h ts t others is its by own_type flat order flats next are = absurd cc
  operator_kinded (Node-F.Var x d rest) h ts t others is its by own_type flat order flats next are = absurd cc
  operator_kinded (Node-F.Switch d cases last) h ts t others is its by own_type flat order flats next are = absurd cc
  operator_kinded (Node-F.ForList x d body) h ts t others is its by own_type flat order flats next are = absurd cc
  operator_kinded (Node-F.ForTable x d body) h ts t others is its by own_type flat order flats next are = absurd cc
  operator_kinded (Node-F.Query keys d) h ts t others is its by own_type flat order flats next are = absurd cc
  operator_kinded (Node-F.Update change) h ts t others is its by own_type flat order flats next are = absurd cc
  operator_kinded (Node-F.Delete change) h ts t others is its by own_type flat order flats next are = absurd cc
