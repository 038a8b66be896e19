-- What operations on bases give stands for what their operators come to.
use Rattle.std.proofs.Common.{◌≡◌, refl, sym, ap, ap₂, subst, ◌∙◌, ℤ, ℕ, Bool, true, not, ◌&&◌, ◌++◌, List, [], ◌∷◌, Option, Some}
use Rattle.std.specs.Bool.{⊤}
use Rattle.std.specs.Int.{w64, int_wrapping_add, int_wrapping_sub, int_wrapping_mul, int_wrapping_neg}
use Rattle.std.specs.Ordering.{is_eq, is_lt, is_le, is_gt, is_ge}
use Rattle.std.specs.declared.cmp.Ordering.{Ordering}
use Rattle.lk_ast.specs.BaseOrder.{base_cmp}
use Rattle.lk_ast.specs.Tables.{is_of_kind}
use Rattle.lk_ast.specs.declared.declaration.Program.{Program}
use Rattle.lk_ast.specs.declared.expression.Expr.{Expr}
use Rattle.lk_ast.specs.declared.expression.Node.TheOpen.{Node-F}
use Rattle.lk_ast.specs.declared.table.Base.TheVariants as base
use Rattle.lk_ast.specs.declared.table.Base.{Base}
use Rattle.lk_ast.specs.declared.table.BaseKind.TheVariants as kind
use Rattle.lk_ast.specs.declared.table.BaseKind.{BaseKind}
use Rattle.lk_ast.specs.declared.value.Field.{Field}
use Rattle.lk_ast.specs.declared.value.Value.TheFolds.{fold-roll-Value}
use Rattle.lk_ast.specs.declared.value.Value.TheOpen.{Value-F}
use Rattle.lk_ast.specs.declared.value.Value.TheVariants as value
use Rattle.lk_ast.specs.declared.value.Value.{Value}
use Rattle.lk_bag.specs.Bag.{value_of}
use Rattle.lk_ground_types.specs.Shapes.{is_base}
use Rattle.lk_inline.proofs.Standing.{base_stands, bool_given, bool_is, int_given, int_is, kind_given, text_given, text_is}
use Rattle.lk_inline.specs.Stands.{Stands}
use Rattle.lk_operators.specs.Numbers.{calculation}
use Rattle.lk_operators.specs.Operators.{operated}
use Rattle.lk_operators.specs.Order.{compared, holds, in_order, is_one_kind, same}
use Rattle.lk_operators.specs.Outcomes.{both, given}
use Rattle.lk_operators.specs.Values as held
use Rattle.lk_operators.specs.Values.{bool_in, int_in, text_in}
use Rattle.lk_operators.specs.declared.outcome.Outcome.TheVariants as outcome
use Rattle.lk_operators.specs.declared.outcome.Outcome.{Outcome}
use Rattle.lk_query.specs.Given.{Given, of_base}
use Rattle.lk_sound.proofs.FlatTypes.{base_is}
use Rattle.lk_sound.specs.Instances.{Instances}
use Rattle.lk_sound.specs.Values.{Fits}
use Rattle.lk_sql.specs.Operations.{number, operation, text, truth}
use Rattle.lk_sql.specs.declared.tree.SqlOp.TheVariants as op
use Rattle.lk_types.specs.declared.ground.Ground.TheVariants as known
use Rattle.lk_types.specs.declared.ground.Ground.{Ground}
use Rattle.lk_typing.specs.Types as types

-- ---- literals

pub literal_number : (n : ℤ) → Stands known.Int (value.Base (base.Int n)) (of_base (base.Int n))
literal_number n = base_stands known.Int (value.Base (base.Int n)) (base.Int n) int_is refl

pub literal_truth : (b : Bool) → Stands known.Bool (value.Base (base.Bool b)) (of_base (base.Bool b))
literal_truth b = base_stands known.Bool (value.Base (base.Bool b)) (base.Bool b) bool_is refl

pub literal_text : (bytes : List ℕ) → Stands known.Text (value.Base (base.Text bytes)) (of_base (base.Text bytes))
literal_text bytes = base_stands known.Text (value.Base (base.Text bytes)) (base.Text bytes) text_is refl

-- operands of one kind
pub both_are : {A : Type 0} (kind : Value → Option A) (f : A → A → Outcome) (v w : Value) (x y : A) → kind v ≡ Some x → kind w ≡ Some y → both kind f v w ≡ f x y
both_are kind f v w x y is also = ap₂ (λ o q. given (λ a. given (f a) q) o) is also

module _ (p : Program) (i : Instances) where
  -- ---- numbers and texts

  int_shown : (v : Value) (b : Base) (n : ℤ) → v ≡ value.Base b → b ≡ base.Int n → int_in v ≡ Some n
  int_shown v b n is same = ap int_in (is ∙ ap value.Base same) ∙ simp (value.outs-Base)

  bool_shown : (v : Value) (b : Base) (c : Bool) → v ≡ value.Base b → b ≡ base.Bool c → bool_in v ≡ Some c
  bool_shown v b c is same = ap bool_in (is ∙ ap value.Base same) ∙ simp (value.outs-Base)

  text_shown : (v : Value) (b : Base) (bytes : List ℕ) → v ≡ value.Base b → b ≡ base.Text bytes → text_in v ≡ Some bytes
  text_shown v b bytes is same = ap text_in (is ∙ ap value.Base same) ∙ simp (value.outs-Base)

  -- the number that stands
  pub int_in_given : (v : Value) (g : Given) → Fits p i v known.Int → Stands known.Int v g → int_in v ≡ Some (number g.base)
  int_in_given v g fits stands =
      let found : (n : ℤ) × (g.base ≡ base.Int n) = int_given p i v g fits stands in
      int_shown v g.base found.0 (stands.base int_is) found.1 ∙ ap (λ b. Some (number b)) (sym found.1)

  pub bool_in_given : (v : Value) (g : Given) → Fits p i v known.Bool → Stands known.Bool v g → bool_in v ≡ Some (truth g.base)
  bool_in_given v g fits stands =
      let found : (b : Bool) × (g.base ≡ base.Bool b) = bool_given p i v g fits stands in
      bool_shown v g.base found.0 (stands.base bool_is) found.1 ∙ ap (λ b. Some (truth b)) (sym found.1)

  pub text_in_given : (v : Value) (g : Given) → Fits p i v known.Text → Stands known.Text v g → text_in v ≡ Some (text g.base)
  text_in_given v g fits stands =
      let found : (bytes : List ℕ) × (g.base ≡ base.Text bytes) = text_given p i v g fits stands in
      text_shown v g.base found.0 (stands.base text_is) found.1 ∙ ap (λ b. Some (text b)) (sym found.1)

  calculated : (f : ℤ → ℤ → ℤ) (v w : Value) (g h : Given) → Fits p i v known.Int → Fits p i w known.Int → Stands known.Int v g → Stands known.Int w h
      → Stands known.Int (value_of (both int_in (calculation f) v w)) (of_base (base.Int (f (number g.base) (number h.base))))
  calculated f v w g h one other first second =
      base_stands known.Int _ (base.Int (f (number g.base) (number h.base))) int_is
      (ap value_of (both_are int_in (calculation f) v w (number g.base) (number h.base) (int_in_given v g one first) (int_in_given w h other second)))

  pub add_stands : (a b : Expr) (v w : Value) (g h : Given) → Fits p i v known.Int → Fits p i w known.Int → Stands known.Int v g → Stands known.Int w h
      → Stands known.Int (value_of (operated (Node-F.Add a b) (v ∷ w ∷ []))) (of_base (operation op.Add (g.base ∷ h.base ∷ [])))
  add_stands a b v w g h one other first second = calculated (int_wrapping_add w64) v w g h one other first second

  pub sub_stands : (a b : Expr) (v w : Value) (g h : Given) → Fits p i v known.Int → Fits p i w known.Int → Stands known.Int v g → Stands known.Int w h
      → Stands known.Int (value_of (operated (Node-F.Sub a b) (v ∷ w ∷ []))) (of_base (operation op.Sub (g.base ∷ h.base ∷ [])))
  sub_stands a b v w g h one other first second = calculated (int_wrapping_sub w64) v w g h one other first second

  pub mul_stands : (a b : Expr) (v w : Value) (g h : Given) → Fits p i v known.Int → Fits p i w known.Int → Stands known.Int v g → Stands known.Int w h
      → Stands known.Int (value_of (operated (Node-F.Mul a b) (v ∷ w ∷ []))) (of_base (operation op.Mul (g.base ∷ h.base ∷ [])))
  mul_stands a b v w g h one other first second = calculated (int_wrapping_mul w64) v w g h one other first second

  pub concat_stands : (a b : Expr) (v w : Value) (g h : Given) → Fits p i v known.Text → Fits p i w known.Text → Stands known.Text v g → Stands known.Text w h
      → Stands known.Text (value_of (operated (Node-F.Concat a b) (v ∷ w ∷ []))) (of_base (operation op.Concat (g.base ∷ h.base ∷ [])))
  concat_stands a b v w g h one other first second =
      base_stands known.Text _ (base.Text (text g.base ++ text h.base)) text_is
      (ap value_of (both_are text_in (λ s t. outcome.Value (held.text (s ++ t))) v w (text g.base) (text h.base) (text_in_given v g one first) (text_in_given w h other second)))

  pub neg_stands : (e : Expr) (v : Value) (g : Given) → Fits p i v known.Int → Stands known.Int v g
      → Stands known.Int (value_of (operated (Node-F.Neg e) (v ∷ []))) (of_base (operation op.Neg (g.base ∷ [])))
  neg_stands e v g one first =
      base_stands known.Int _ (base.Int (int_wrapping_neg w64 (number g.base))) int_is
      (ap (λ o. value_of (given (λ n. outcome.Value (held.int (int_wrapping_neg w64 n))) o)) (int_in_given v g one first))

  pub not_stands : (e : Expr) (v : Value) (g : Given) → Fits p i v known.Bool → Stands known.Bool v g
      → Stands known.Bool (value_of (operated (Node-F.Not e) (v ∷ []))) (of_base (operation op.Not (g.base ∷ [])))
  not_stands e v g one first =
      base_stands known.Bool _ (base.Bool (not (truth g.base))) bool_is
      (ap (λ o. value_of (given (λ b. outcome.Value (held.truth (not b))) o)) (bool_in_given v g one first))

  -- ---- comparisons

  one_kind : (k : BaseKind) (b c : Base) → is_of_kind k b ≡ true → is_of_kind k c ≡ true → is_one_kind b c ≡ true
  one_kind k (base.Int m) (base.Int n) is also = refl
  one_kind k (base.Bool m) (base.Bool n) is also = refl
  one_kind k (base.Text m) (base.Text n) is also = refl
  one_kind kind.Int (base.Int m) (base.Bool n) is also = absurd cc
  one_kind kind.Bool (base.Int m) (base.Bool n) is also = absurd cc
  one_kind kind.Text (base.Int m) (base.Bool n) is also = absurd cc
  one_kind kind.Int (base.Int m) (base.Text n) is also = absurd cc
  one_kind kind.Bool (base.Int m) (base.Text n) is also = absurd cc
  one_kind kind.Text (base.Int m) (base.Text n) is also = absurd cc
  one_kind kind.Int (base.Bool m) (base.Int n) is also = absurd cc
  one_kind kind.Bool (base.Bool m) (base.Int n) is also = absurd cc
  one_kind kind.Text (base.Bool m) (base.Int n) is also = absurd cc
  one_kind kind.Int (base.Bool m) (base.Text n) is also = absurd cc
  one_kind kind.Bool (base.Bool m) (base.Text n) is also = absurd cc
  one_kind kind.Text (base.Bool m) (base.Text n) is also = absurd cc
  one_kind kind.Int (base.Text m) (base.Int n) is also = absurd cc
  one_kind kind.Bool (base.Text m) (base.Int n) is also = absurd cc
  one_kind kind.Text (base.Text m) (base.Int n) is also = absurd cc
  one_kind kind.Int (base.Text m) (base.Bool n) is also = absurd cc
  one_kind kind.Bool (base.Text m) (base.Bool n) is also = absurd cc
  one_kind kind.Text (base.Text m) (base.Bool n) is also = absurd cc

  -- bases of a base type are of one kind
  pub alike : (t : Ground) → is_base t ≡ true → (v w : Value) (b c : Base) → Fits p i v t → Fits p i w t → v ≡ value.Base b → w ≡ value.Base c → is_one_kind b c ≡ true
  alike t is v w b c one other first second =
      let k : (k : BaseKind) × (t ≡ types.base k) = base_is t is in
      one_kind k.0 b c (kind_given p i k.0 v b (subst (Fits p i v) k.1 one) first) (kind_given p i k.0 w c (subst (Fits p i w) k.1 other) second)

  pub in_order_is : (test : Ordering → Bool) (b c : Base) → is_one_kind b c ≡ true → in_order test b c ≡ test (base_cmp b c)
  in_order_is test b c one = ap (λ x. x && test (base_cmp b c)) one

  compared_shown : (test : Ordering → Bool) (b c : Base) → compared test (value.Base b) (value.Base c) ≡ in_order test b c
  compared_shown test b c = simp (value.outs-Base)

  ordered : (test : Ordering → Bool) (t : Ground) → is_base t ≡ true → (v w : Value) (g h : Given) → Fits p i v t → Fits p i w t → Stands t v g → Stands t w h
      → Stands known.Bool (value_of (holds (compared test) v w)) (of_base (base.Bool (test (base_cmp g.base h.base))))
  ordered test t is v w g h one other first second =
      base_stands known.Bool _ (base.Bool (test (base_cmp g.base h.base))) bool_is
      (ap held.truth (ap₂ (compared test) (first.base is) (second.base is) ∙ compared_shown test g.base h.base ∙ in_order_is test g.base h.base (alike t is v w g.base h.base one other (first.base is) (second.base is))))

  pub lt_stands : (a b : Expr) (t : Ground) → is_base t ≡ true → (v w : Value) (g h : Given) → Fits p i v t → Fits p i w t → Stands t v g → Stands t w h
      → Stands known.Bool (value_of (operated (Node-F.Lt a b) (v ∷ w ∷ []))) (of_base (operation op.Lt (g.base ∷ h.base ∷ [])))
  lt_stands a b t is v w g h one other first second = ordered is_lt t is v w g h one other first second

  pub le_stands : (a b : Expr) (t : Ground) → is_base t ≡ true → (v w : Value) (g h : Given) → Fits p i v t → Fits p i w t → Stands t v g → Stands t w h
      → Stands known.Bool (value_of (operated (Node-F.Le a b) (v ∷ w ∷ []))) (of_base (operation op.Le (g.base ∷ h.base ∷ [])))
  le_stands a b t is v w g h one other first second = ordered is_le t is v w g h one other first second

  pub gt_stands : (a b : Expr) (t : Ground) → is_base t ≡ true → (v w : Value) (g h : Given) → Fits p i v t → Fits p i w t → Stands t v g → Stands t w h
      → Stands known.Bool (value_of (operated (Node-F.Gt a b) (v ∷ w ∷ []))) (of_base (operation op.Gt (g.base ∷ h.base ∷ [])))
  gt_stands a b t is v w g h one other first second = ordered is_gt t is v w g h one other first second

  pub ge_stands : (a b : Expr) (t : Ground) → is_base t ≡ true → (v w : Value) (g h : Given) → Fits p i v t → Fits p i w t → Stands t v g → Stands t w h
      → Stands known.Bool (value_of (operated (Node-F.Ge a b) (v ∷ w ∷ []))) (of_base (operation op.Ge (g.base ∷ h.base ∷ [])))
  ge_stands a b t is v w g h one other first second = ordered is_ge t is v w g h one other first second

  same_shown : (b c : Base) → same (value.Base b) (value.Base c) ≡ in_order is_eq b c
  same_shown b c =
      sym (ap (λ v. same v (value.Base c)) (value.rolls-Base b))
      ∙ ap (λ f. f (value.Base c)) (fold-roll-Value (Value → Bool) (Field → Bool) ⊤ _ _ _ (Value-F.Base b))
      ∙ simp (value.outs-Base)

  -- two bases of a base type are the same where they are equal
  pub same_bases : (t : Ground) → is_base t ≡ true → (v w : Value) (b c : Base) → Fits p i v t → Fits p i w t → v ≡ value.Base b → w ≡ value.Base c → same v w ≡ is_eq (base_cmp b c)
  same_bases t is v w b c one other first second = ap₂ same first second ∙ same_shown b c ∙ in_order_is is_eq b c (alike t is v w b c one other first second)

  pub eq_stands : (a b : Expr) (t : Ground) → is_base t ≡ true → (v w : Value) (g h : Given) → Fits p i v t → Fits p i w t → Stands t v g → Stands t w h
      → Stands known.Bool (value_of (operated (Node-F.Eq a b) (v ∷ w ∷ []))) (of_base (operation op.Eq (g.base ∷ h.base ∷ [])))
  eq_stands a b t is v w g h one other first second =
      base_stands known.Bool _ (base.Bool (is_eq (base_cmp g.base h.base))) bool_is
      (ap held.truth (same_bases t is v w g.base h.base one other (first.base is) (second.base is)))

  pub ne_stands : (a b : Expr) (t : Ground) → is_base t ≡ true → (v w : Value) (g h : Given) → Fits p i v t → Fits p i w t → Stands t v g → Stands t w h
      → Stands known.Bool (value_of (operated (Node-F.Ne a b) (v ∷ w ∷ []))) (of_base (operation op.Ne (g.base ∷ h.base ∷ [])))
  ne_stands a b t is v w g h one other first second =
      base_stands known.Bool _ (base.Bool (not (is_eq (base_cmp g.base h.base)))) bool_is
      (ap (λ b. held.truth (not b)) (same_bases t is v w g.base h.base one other (first.base is) (second.base is)))
