-- Operations on values that fit come to values of the type of the whole, or trap.
use Rattle.std.proofs.Common.{◌≡◌, sym, subst, ℕ, ℤ, Bool, true, false, List, [], ◌∷◌, ◌++◌, Option, Some, if◌then◌else◌}
use Rattle.lk_ast.specs.declared.event.Trap.TheVariants.{Divide, Head, Tail}
use Rattle.lk_ast.specs.declared.value.Value.{Value}
use Rattle.lk_ast.specs.declared.value.Value.TheVariants as value
use Rattle.lk_operators.specs.Lists.{concat, append, cons, head, tail, empty}
use Rattle.lk_operators.specs.Numbers.{calculation, division, is_zero, negate, int_to_string}
use Rattle.lk_operators.specs.Operators.{negation}
use Rattle.lk_operators.specs.Outcomes.{given, both, on_one, on_two}
use Rattle.lk_operators.specs.Values.{int, list as items, int_in, bool_in, text_in, list_in}
use Rattle.lk_operators.specs.declared.outcome.Outcome.{Outcome}
use Rattle.lk_operators.specs.declared.outcome.Outcome.TheVariants as outcome
use Rattle.lk_types.specs.declared.ground.Ground.{Ground}
use Rattle.lk_types.specs.declared.ground.Ground.TheVariants as known
use Rattle.lk_fits.specs.Values.{Fits, AllFit, FitEach, none, more}
use Rattle.lk_fits.proofs.Lists.{all_fit_both}
use Rattle.lk_fits.proofs.Lists as fitting
use Rattle.lk_fits.proofs.Results.{IsResult}
use Rattle.lk_fits.proofs.Shapes.{int_of_fits, bool_of_fits, text_of_fits, fits_list, list_of_fits, int_fits, truth_fits, text_fits, list_fits}

module _ (IsFun : ℕ → Ground → List Ground → Type 0) where
  -- ---- operands

  pub by_one : (f : Value → Outcome) (a t : Ground) → ((v : Value) → Fits IsFun v a → IsResult IsFun t (f v)) → (values : List Value) → FitEach IsFun values (a ∷ []) → IsResult IsFun t (on_one f values)
  by_one f a t sound values fit = fitting.on_one IsFun (λ vs. IsResult IsFun t (on_one f vs)) a sound values fit

  pub by_two : (f : Value → Value → Outcome) (a b t : Ground) → ((v w : Value) → Fits IsFun v a → Fits IsFun w b → IsResult IsFun t (f v w)) → (values : List Value) → FitEach IsFun values (a ∷ b ∷ []) → IsResult IsFun t (on_two f values)
  by_two f a b t sound values fit =
      fitting.on_first IsFun (λ vs. IsResult IsFun t (on_two f vs)) a (b ∷ []) (λ v rest fits left. fitting.on_one IsFun (λ vs. IsResult IsFun t (on_two f (v ∷ vs))) b (λ w other. sound v w fits other) rest left) values fit

  -- an operand of the right kind
  by_kind : {A : Type 0} (t : Ground) (found : Option A) (x : A) → found ≡ Some x → (f : A → Outcome) → IsResult IsFun t (f x) → IsResult IsFun t (given f found)
  by_kind t found x is f sound = subst (λ o. IsResult IsFun t (given f o)) (sym is) sound

  by_both : {A : Type 0} (t : Ground) (kind : Value → Option A) (v w : Value) (x y : A) → kind v ≡ Some x → kind w ≡ Some y → (f : A → A → Outcome) → IsResult IsFun t (f x y) → IsResult IsFun t (both kind f v w)
  by_both t kind v w x y is also f sound = by_kind t (kind v) x is (λ a. given (f a) (kind w)) (by_kind t (kind w) y also (f x) sound)

  -- ---- numbers

  numbers : (t : Ground) (f : ℤ → ℤ → Outcome) → ((m n : ℤ) → IsResult IsFun t (f m n)) → (v w : Value) → Fits IsFun v known.Int → Fits IsFun w known.Int → IsResult IsFun t (both int_in f v w)
  numbers t f sound v w one other =
      let m = int_of_fits IsFun v one in let n = int_of_fits IsFun w other in
      by_both t int_in v w m.0 n.0 m.1 n.1 f (sound m.0 n.0)

  pub calculation_sound : (f : ℤ → ℤ → ℤ) (v w : Value) → Fits IsFun v known.Int → Fits IsFun w known.Int → IsResult IsFun known.Int (both int_in (calculation f) v w)
  calculation_sound f v w one other = numbers known.Int (calculation f) (λ m n. int_fits IsFun (f m n)) v w one other

  divided : (b : Bool) (n : ℤ) → IsResult IsFun known.Int (if b then outcome.Trap Divide else outcome.Value (int n))
  divided true n = tt
  divided false n = int_fits IsFun n

  pub division_sound : (f : ℤ → ℤ → ℤ) (v w : Value) → Fits IsFun v known.Int → Fits IsFun w known.Int → IsResult IsFun known.Int (both int_in (division f) v w)
  division_sound f v w one other = numbers known.Int (division f) (λ m n. divided (is_zero n) (f m n)) v w one other

  pub negate_sound : (v : Value) → Fits IsFun v known.Int → IsResult IsFun known.Int (negate v)
  negate_sound v fits = let n = int_of_fits IsFun v fits in by_kind known.Int (int_in v) n.0 n.1 _ (int_fits IsFun _)

  pub int_to_string_sound : (v : Value) → Fits IsFun v known.Int → IsResult IsFun known.Text (int_to_string v)
  int_to_string_sound v fits = let n = int_of_fits IsFun v fits in by_kind known.Text (int_in v) n.0 n.1 _ (text_fits IsFun _)

  pub negation_sound : (v : Value) → Fits IsFun v known.Bool → IsResult IsFun known.Bool (negation v)
  negation_sound v fits = let b = bool_of_fits IsFun v fits in by_kind known.Bool (bool_in v) b.0 b.1 _ (truth_fits IsFun _)

  -- ---- texts and lists

  pub concat_sound : (v w : Value) → Fits IsFun v known.Text → Fits IsFun w known.Text → IsResult IsFun known.Text (concat v w)
  concat_sound v w one other =
      let s = text_of_fits IsFun v one in let t = text_of_fits IsFun w other in
      by_both known.Text text_in v w s.0 t.0 s.1 t.1 _ (text_fits IsFun _)

  pub append_sound : (a : Ground) (v w : Value) → Fits IsFun v (known.List a) → Fits IsFun w (known.List a) → IsResult IsFun (known.List a) (append v w)
  append_sound a v w one other =
      let xs = list_of_fits IsFun v a one in let ys = list_of_fits IsFun w a other in
      by_both (known.List a) list_in v w xs.0 ys.0 xs.1 ys.1 _ (list_fits IsFun (xs.0 ++ ys.0) a (all_fit_both IsFun xs.0 ys.0 a xs.2 ys.2))

  pub cons_sound : (a : Ground) (v w : Value) → Fits IsFun v a → Fits IsFun w (known.List a) → IsResult IsFun (known.List a) (cons v w)
  cons_sound a v w one other = let ys = list_of_fits IsFun w a other in by_kind (known.List a) (list_in w) ys.0 ys.1 _ (list_fits IsFun (v ∷ ys.0) a (more one ys.2))

  head_of : (a : Ground) (values : List Value) → AllFit IsFun values a → IsResult IsFun a (head (items values))
  head_of a [] none = let is : head (items []) ≡ outcome.Trap Head = simp (value.outs-List) in subst (λ o. IsResult IsFun a o) (sym is) tt
  head_of a (v ∷ values) (more fits all) = let is : head (items (v ∷ values)) ≡ outcome.Value v = simp (value.outs-List) in subst (λ o. IsResult IsFun a o) (sym is) fits

  tail_of : (a : Ground) (values : List Value) → AllFit IsFun values a → IsResult IsFun (known.List a) (tail (items values))
  tail_of a [] none = let is : tail (items []) ≡ outcome.Trap Tail = simp (value.outs-List) in subst (λ o. IsResult IsFun (known.List a) o) (sym is) tt
  tail_of a (v ∷ values) (more fits all) = let is : tail (items (v ∷ values)) ≡ outcome.Value (items values) = simp (value.outs-List) in subst (λ o. IsResult IsFun (known.List a) o) (sym is) (list_fits IsFun values a all)

  pub head_sound : (a : Ground) (v : Value) → Fits IsFun v (known.List a) → IsResult IsFun a (head v)
  head_sound a v fits = let xs = fits_list IsFun v a fits in subst (λ x. IsResult IsFun a (head x)) (sym xs.1) (head_of a xs.0 xs.2)

  pub tail_sound : (a : Ground) (v : Value) → Fits IsFun v (known.List a) → IsResult IsFun (known.List a) (tail v)
  tail_sound a v fits = let xs = fits_list IsFun v a fits in subst (λ x. IsResult IsFun (known.List a) (tail x)) (sym xs.1) (tail_of a xs.0 xs.2)

  pub empty_sound : (a : Ground) (v : Value) → Fits IsFun v (known.List a) → IsResult IsFun known.Bool (empty v)
  empty_sound a v fits = let xs = list_of_fits IsFun v a fits in by_kind known.Bool (list_in v) xs.0 xs.1 _ (truth_fits IsFun _)
