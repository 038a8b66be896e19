-- Operations on values that fit come to values of the type of the whole, or trap.
use Rattle.std.proofs.Common.{◌≡◌, sym, subst, ℤ, Bool, true, false, List, [], ◌∷◌, ◌++◌, Option, Some, if◌then◌else◌}
use Rattle.lk_ast.specs.declared.declaration.Program.{Program}
use Rattle.lk_ast.specs.declared.event.Trap.TheVariants.{Divide, Head, Tail}
use Rattle.lk_ast.specs.declared.value.Value.{Value}
use Rattle.lk_ast.specs.declared.value.Value.TheVariants as value
use Rattle.lk_operators.specs.Lists.{concat, append, cons, head, tail, empty}
use Rattle.lk_operators.specs.Numbers.{calculation, division, is_zero, negate, int_to_string}
use Rattle.lk_operators.specs.Operators.{negation}
use Rattle.lk_operators.specs.Outcomes.{given, both, on_one, on_two}
use Rattle.lk_operators.specs.Values.{int, list as items, int_in, bool_in, text_in, list_in}
use Rattle.lk_operators.specs.declared.outcome.Outcome.{Outcome}
use Rattle.lk_operators.specs.declared.outcome.Outcome.TheVariants as outcome
use Rattle.lk_types.specs.Rows.{EffectSet}
use Rattle.lk_types.specs.declared.ground.Ground.{Ground}
use Rattle.lk_types.specs.declared.ground.Ground.TheVariants as known
use Rattle.lk_types.specs.declared.ty.Effect.TheVariants as effect
use Rattle.lk_sound.specs.Instances.{Instances}
use Rattle.lk_sound.specs.Values.{Fits, AllFit, FitEach, none, more}
use Rattle.lk_sound.proofs.Fitting.{all_fit_both}
use Rattle.lk_sound.proofs.Fitting as fitting
use Rattle.lk_sound.proofs.Results.{IsResult}
use Rattle.lk_sound.proofs.Shapes.{int_of_fits, bool_of_fits, text_of_fits, fits_list, list_of_fits, int_fits, truth_fits, text_fits, list_fits}

module _ (p : Program) (i : Instances) (effects : EffectSet) where
  -- ---- operands

  pub by_one : (f : Value → Outcome) (a t : Ground) → ((v : Value) → Fits p i v a → IsResult p i effects t (f v)) → (values : List Value) → FitEach p i values (a ∷ []) → IsResult p i effects t (on_one f values)
  by_one f a t sound values fit = fitting.on_one p i (λ vs. IsResult p i effects t (on_one f vs)) a sound values fit

  pub by_two : (f : Value → Value → Outcome) (a b t : Ground) → ((v w : Value) → Fits p i v a → Fits p i w b → IsResult p i effects t (f v w)) → (values : List Value) → FitEach p i values (a ∷ b ∷ []) → IsResult p i effects t (on_two f values)
  by_two f a b t sound values fit =
      fitting.on_first p i (λ vs. IsResult p i effects t (on_two f vs)) a (b ∷ []) (λ v rest fits left. fitting.on_one p i (λ vs. IsResult p i effects t (on_two f (v ∷ vs))) b (λ w other. sound v w fits other) rest left) values fit

  -- an operand of the right kind
  by_kind : {A : Type 0} (t : Ground) (found : Option A) (x : A) → found ≡ Some x → (f : A → Outcome) → IsResult p i effects t (f x) → IsResult p i effects t (given f found)
  by_kind t found x is f sound = subst (λ o. IsResult p i effects t (given f o)) (sym is) sound

  by_both : {A : Type 0} (t : Ground) (kind : Value → Option A) (v w : Value) (x y : A) → kind v ≡ Some x → kind w ≡ Some y → (f : A → A → Outcome) → IsResult p i effects t (f x y) → IsResult p i effects t (both kind f v w)
  by_both t kind v w x y is also f sound = by_kind t (kind v) x is (λ a. given (f a) (kind w)) (by_kind t (kind w) y also (f x) sound)

  -- ---- numbers

  numbers : (t : Ground) (f : ℤ → ℤ → Outcome) → ((m n : ℤ) → IsResult p i effects t (f m n)) → (v w : Value) → Fits p i v known.Int → Fits p i w known.Int → IsResult p i effects t (both int_in f v w)
  numbers t f sound v w one other =
      let m = int_of_fits p i v one in let n = int_of_fits p i w other in
      by_both t int_in v w m.0 n.0 m.1 n.1 f (sound m.0 n.0)

  pub calculation_sound : (f : ℤ → ℤ → ℤ) (v w : Value) → Fits p i v known.Int → Fits p i w known.Int → IsResult p i effects known.Int (both int_in (calculation f) v w)
  calculation_sound f v w one other = numbers known.Int (calculation f) (λ m n. int_fits p i (f m n)) v w one other

  divided : effects effect.Trap ≡ true → (b : Bool) (n : ℤ) → IsResult p i effects known.Int (if b then outcome.Trap Divide else outcome.Value (int n))
  divided traps true n = traps
  divided traps false n = int_fits p i n

  pub division_sound : effects effect.Trap ≡ true → (f : ℤ → ℤ → ℤ) (v w : Value) → Fits p i v known.Int → Fits p i w known.Int → IsResult p i effects known.Int (both int_in (division f) v w)
  division_sound traps f v w one other = numbers known.Int (division f) (λ m n. divided traps (is_zero n) (f m n)) v w one other

  pub negate_sound : (v : Value) → Fits p i v known.Int → IsResult p i effects known.Int (negate v)
  negate_sound v fits = let n = int_of_fits p i v fits in by_kind known.Int (int_in v) n.0 n.1 _ (int_fits p i _)

  pub int_to_string_sound : (v : Value) → Fits p i v known.Int → IsResult p i effects known.Text (int_to_string v)
  int_to_string_sound v fits = let n = int_of_fits p i v fits in by_kind known.Text (int_in v) n.0 n.1 _ (text_fits p i _)

  pub negation_sound : (v : Value) → Fits p i v known.Bool → IsResult p i effects known.Bool (negation v)
  negation_sound v fits = let b = bool_of_fits p i v fits in by_kind known.Bool (bool_in v) b.0 b.1 _ (truth_fits p i _)

  -- ---- texts and lists

  pub concat_sound : (v w : Value) → Fits p i v known.Text → Fits p i w known.Text → IsResult p i effects known.Text (concat v w)
  concat_sound v w one other =
      let s = text_of_fits p i v one in let t = text_of_fits p i w other in
      by_both known.Text text_in v w s.0 t.0 s.1 t.1 _ (text_fits p i _)

  pub append_sound : (a : Ground) (v w : Value) → Fits p i v (known.List a) → Fits p i w (known.List a) → IsResult p i effects (known.List a) (append v w)
  append_sound a v w one other =
      let xs = list_of_fits p i v a one in let ys = list_of_fits p i w a other in
      by_both (known.List a) list_in v w xs.0 ys.0 xs.1 ys.1 _ (list_fits p i (xs.0 ++ ys.0) a (all_fit_both p i xs.0 ys.0 a xs.2 ys.2))

  pub cons_sound : (a : Ground) (v w : Value) → Fits p i v a → Fits p i w (known.List a) → IsResult p i effects (known.List a) (cons v w)
  cons_sound a v w one other = let ys = list_of_fits p i w a other in by_kind (known.List a) (list_in w) ys.0 ys.1 _ (list_fits p i (v ∷ ys.0) a (more one ys.2))

  head_of : effects effect.Trap ≡ true → (a : Ground) (values : List Value) → AllFit p i values a → IsResult p i effects a (head (items values))
  head_of traps a [] none = let is : head (items []) ≡ outcome.Trap Head = simp (value.outs-List) in subst (λ o. IsResult p i effects a o) (sym is) traps
  head_of traps a (v ∷ values) (more fits all) = let is : head (items (v ∷ values)) ≡ outcome.Value v = simp (value.outs-List) in subst (λ o. IsResult p i effects a o) (sym is) fits

  tail_of : effects effect.Trap ≡ true → (a : Ground) (values : List Value) → AllFit p i values a → IsResult p i effects (known.List a) (tail (items values))
  tail_of traps a [] none = let is : tail (items []) ≡ outcome.Trap Tail = simp (value.outs-List) in subst (λ o. IsResult p i effects (known.List a) o) (sym is) traps
  tail_of traps a (v ∷ values) (more fits all) = let is : tail (items (v ∷ values)) ≡ outcome.Value (items values) = simp (value.outs-List) in subst (λ o. IsResult p i effects (known.List a) o) (sym is) (list_fits p i values a all)

  pub head_sound : effects effect.Trap ≡ true → (a : Ground) (v : Value) → Fits p i v (known.List a) → IsResult p i effects a (head v)
  head_sound traps a v fits = let xs = fits_list p i v a fits in subst (λ x. IsResult p i effects a (head x)) (sym xs.1) (head_of traps a xs.0 xs.2)

  pub tail_sound : effects effect.Trap ≡ true → (a : Ground) (v : Value) → Fits p i v (known.List a) → IsResult p i effects (known.List a) (tail v)
  tail_sound traps a v fits = let xs = fits_list p i v a fits in subst (λ x. IsResult p i effects (known.List a) (tail x)) (sym xs.1) (tail_of traps a xs.0 xs.2)

  pub empty_sound : (a : Ground) (v : Value) → Fits p i v (known.List a) → IsResult p i effects known.Bool (empty v)
  empty_sound a v fits = let xs = list_of_fits p i v a fits in by_kind known.Bool (list_in v) xs.0 xs.1 _ (truth_fits p i _)
