-- Operations on values that stand for others come to outcomes that do.
use Rattle.std.proofs.Common.{◌≡◌, refl, sym, ap, subst, ◌∙◌, ℕ, ℤ, Bool, true, false, if◌then◌else◌, List, [], ◌∷◌, ◌++◌, Option, Some, None}
use Rattle.lk_ast.specs.declared.event.Trap.{Trap}
use Rattle.lk_ast.specs.declared.event.Trap.TheVariants.{Divide, Head, Tail}
use Rattle.lk_ast.specs.declared.value.FunValue.{FunValue}
use Rattle.lk_ast.specs.declared.value.Value.{Value}
use Rattle.lk_ast.specs.declared.value.Value.TheVariants as value
use Rattle.lk_evaluation.specs.Laws.{Maybe}
use Rattle.lk_operators.specs.Lists.{concat, append, cons, head, tail, empty}
use Rattle.lk_operators.specs.Numbers.{calculation, division, is_zero, negate, int_to_string}
use Rattle.lk_operators.specs.Operators.{negation}
use Rattle.lk_operators.specs.Outcomes.{given, both, on_none, on_one, on_two}
use Rattle.lk_operators.specs.Values.{int, truth, text, list as items, int_in, bool_in, text_in, list_in}
use Rattle.lk_operators.specs.declared.outcome.Outcome.{Outcome}
use Rattle.lk_operators.specs.declared.outcome.Outcome.TheVariants as outcome
use Rattle.lk_ground.specs.Alike.{Alike, AllAlike, base, list, fields, tag, function, lambda, none, more}
use Rattle.lk_ground.specs.declared.program.GroundProgram.{GroundProgram}
use Rattle.lk_ground.proofs.AlikeShapes.{same_int, same_bool, same_text, lists_alike}

fun_no_list : (f : FunValue) → list_in (value.Fun f) ≡ None
fun_no_list f = simp (value.outs-Fun)

module _ (p : GroundProgram) where
  -- the same trap, or values that stand for one another, or no rule
  pub data OutcomesAlike : Outcome → Outcome → Type 0 where
    values : {v w : Value} → Alike p v w → OutcomesAlike (outcome.Value v) (outcome.Value w)
    trap : (trap : Trap) → OutcomesAlike (outcome.Trap trap) (outcome.Trap trap)
    no_rule : OutcomesAlike outcome.NoRule outcome.NoRule

  -- ---- values that stand for themselves

  pub int_itself : (n : ℤ) → Alike p (int n) (int n)
  int_itself n = base _ refl refl

  pub truth_itself : (b : Bool) → Alike p (truth b) (truth b)
  truth_itself b = base _ refl refl

  pub text_itself : (bytes : List ℕ) → Alike p (text bytes) (text bytes)
  text_itself bytes = base _ refl refl

  pub lists_made : (vs ws : List Value) → AllAlike p vs ws → Alike p (items vs) (items ws)
  lists_made vs ws all = list vs ws refl refl all

  pub appended : (vs ws xs ys : List Value) → AllAlike p vs ws → AllAlike p xs ys → AllAlike p (vs ++ xs) (ws ++ ys)
  appended _ _ xs ys none all = all
  appended _ _ xs ys (more alike rest) all = more alike (appended _ _ xs ys rest all)

  -- ---- operands

  -- what follows from a thing of the same kind
  pub by_same : {A : Type 0} (f : A → Outcome) (o q : Option A) → o ≡ q → ((a : A) → OutcomesAlike (f a) (f a)) → OutcomesAlike (given f o) (given f q)
  by_same f o q is each = subst (λ x. OutcomesAlike (given f o) (given f x)) is (itself o)
    where
      itself : (o : Option _) → OutcomesAlike (given f o) (given f o)
      itself None = no_rule
      itself (Some a) = each a

  pub by_parts : {A : Type 0} (R : A → A → Type 0) (f g : A → Outcome) (o q : Option A) → Maybe R o q → ((a b : A) → R a b → OutcomesAlike (f a) (g b)) → OutcomesAlike (given f o) (given g q)
  by_parts R f g None None related each = no_rule
  by_parts R f g None (Some b) related each = absurd related
  by_parts R f g (Some a) None related each = absurd related
  by_parts R f g (Some a) (Some b) related each = each a b related

  pub nothing_given : (o : Outcome) → OutcomesAlike o o → (vs ws : List Value) → AllAlike p vs ws → OutcomesAlike (on_none o vs) (on_none o ws)
  nothing_given o alike _ _ none = alike
  nothing_given o alike _ _ (more one all) = no_rule

  pub one_given : (f : Value → Outcome) → ((v w : Value) → Alike p v w → OutcomesAlike (f v) (f w)) → (vs ws : List Value) → AllAlike p vs ws → OutcomesAlike (on_one f vs) (on_one f ws)
  one_given f each _ _ none = no_rule
  one_given f each _ _ (more one none) = each _ _ one
  one_given f each _ _ (more one (more two all)) = no_rule

  pub two_given : (f : Value → Value → Outcome) → ((v w x y : Value) → Alike p v w → Alike p x y → OutcomesAlike (f v x) (f w y)) → (vs ws : List Value) → AllAlike p vs ws → OutcomesAlike (on_two f vs) (on_two f ws)
  two_given f each _ _ none = no_rule
  two_given f each _ _ (more one none) = no_rule
  two_given f each _ _ (more one (more two none)) = each _ _ _ _ one two
  two_given f each _ _ (more one (more two (more three all))) = no_rule

  -- both of a kind of which the same is shown
  by_both : {A : Type 0} (kind : Value → Option A) → ((v w : Value) → Alike p v w → kind v ≡ kind w) → (f : A → A → Outcome) → ((a b : A) → OutcomesAlike (f a b) (f a b))
      → (v w x y : Value) → Alike p v w → Alike p x y → OutcomesAlike (both kind f v x) (both kind f w y)
  by_both kind shown f each v w x y one two = by_kind (kind v) (kind w) (shown v w one)
    where
      by_kind : (o q : Option _) → o ≡ q → OutcomesAlike (given (λ a. given (f a) (kind x)) o) (given (λ a. given (f a) (kind y)) q)
      by_kind o q is = subst (λ z. OutcomesAlike (given (λ a. given (f a) (kind x)) o) (given (λ a. given (f a) (kind y)) z)) is (same_first o)
        where
          same_first : (o : Option _) → OutcomesAlike (given (λ a. given (f a) (kind x)) o) (given (λ a. given (f a) (kind y)) o)
          same_first None = no_rule
          same_first (Some a) = by_same (f a) (kind x) (kind y) (shown x y two) (each a)

  -- ---- numbers and texts

  pub calculation_alike : (f : ℤ → ℤ → ℤ) (v w x y : Value) → Alike p v w → Alike p x y → OutcomesAlike (both int_in (calculation f) v x) (both int_in (calculation f) w y)
  calculation_alike f = by_both int_in (same_int p) (calculation f) (λ m n. values (int_itself (f m n)))

  divided : (f : ℤ → ℤ → ℤ) (m n : ℤ) → OutcomesAlike (division f m n) (division f m n)
  divided f m n = by_test (is_zero n)
    where
      by_test : (b : Bool) → OutcomesAlike (if b then outcome.Trap Divide else outcome.Value (int (f m n))) (if b then outcome.Trap Divide else outcome.Value (int (f m n)))
      by_test true = trap Divide
      by_test false = values (int_itself (f m n))

  pub division_alike : (f : ℤ → ℤ → ℤ) (v w x y : Value) → Alike p v w → Alike p x y → OutcomesAlike (both int_in (division f) v x) (both int_in (division f) w y)
  division_alike f = by_both int_in (same_int p) (division f) (divided f)

  pub negate_alike : (v w : Value) → Alike p v w → OutcomesAlike (negate v) (negate w)
  negate_alike v w alike = by_same _ (int_in v) (int_in w) (same_int p v w alike) (λ n. values (int_itself _))

  pub int_to_string_alike : (v w : Value) → Alike p v w → OutcomesAlike (int_to_string v) (int_to_string w)
  int_to_string_alike v w alike = by_same _ (int_in v) (int_in w) (same_int p v w alike) (λ n. values (text_itself _))

  pub negation_alike : (v w : Value) → Alike p v w → OutcomesAlike (negation v) (negation w)
  negation_alike v w alike = by_same _ (bool_in v) (bool_in w) (same_bool p v w alike) (λ b. values (truth_itself _))

  pub concat_alike : (v w x y : Value) → Alike p v w → Alike p x y → OutcomesAlike (concat v x) (concat w y)
  concat_alike = by_both text_in (same_text p) _ (λ s t. values (text_itself (s ++ t)))

  -- ---- lists

  pub append_alike : (v w x y : Value) → Alike p v w → Alike p x y → OutcomesAlike (append v x) (append w y)
  append_alike v w x y one two =
      by_parts (AllAlike p) _ _ (list_in v) (list_in w) (lists_alike p v w one)
      (λ vs ws all. by_parts (AllAlike p) _ _ (list_in x) (list_in y) (lists_alike p x y two) (λ xs ys rest. values (lists_made (vs ++ xs) (ws ++ ys) (appended vs ws xs ys all rest))))

  pub cons_alike : (v w x y : Value) → Alike p v w → Alike p x y → OutcomesAlike (cons v x) (cons w y)
  cons_alike v w x y one two = by_parts (AllAlike p) _ _ (list_in x) (list_in y) (lists_alike p x y two) (λ xs ys rest. values (lists_made (v ∷ xs) (w ∷ ys) (more one rest)))

  -- what a list with a first value comes to, and an empty one
  by_first : (f g : List Value → Outcome) → OutcomesAlike (f []) (g []) → ((v w : Value) (vs ws : List Value) → Alike p v w → AllAlike p vs ws → OutcomesAlike (f (v ∷ vs)) (g (w ∷ ws)))
      → (vs ws : List Value) → AllAlike p vs ws → OutcomesAlike (f vs) (g ws)
  by_first f g start each _ _ none = start
  by_first f g start each _ _ (more one all) = each _ _ _ _ one all

  head_of : (vs ws : List Value) → AllAlike p vs ws → OutcomesAlike (head (items vs)) (head (items ws))
  head_of = by_first (λ vs. head (items vs)) (λ ws. head (items ws))
      (let is : head (items []) ≡ outcome.Trap Head = simp (value.outs-List) in subst (λ o. OutcomesAlike o o) (sym is) (trap Head))
      (λ v w vs ws one all.
      let left : head (items (v ∷ vs)) ≡ outcome.Value v = simp (value.outs-List) in
      let right : head (items (w ∷ ws)) ≡ outcome.Value w = simp (value.outs-List) in
      subst (λ o. OutcomesAlike o (head (items (w ∷ ws)))) (sym left) (subst (λ o. OutcomesAlike (outcome.Value v) o) (sym right) (values one)))

  tail_of : (vs ws : List Value) → AllAlike p vs ws → OutcomesAlike (tail (items vs)) (tail (items ws))
  tail_of = by_first (λ vs. tail (items vs)) (λ ws. tail (items ws))
      (let is : tail (items []) ≡ outcome.Trap Tail = simp (value.outs-List) in subst (λ o. OutcomesAlike o o) (sym is) (trap Tail))
      (λ v w vs ws one all.
      let left : tail (items (v ∷ vs)) ≡ outcome.Value (items vs) = simp (value.outs-List) in
      let right : tail (items (w ∷ ws)) ≡ outcome.Value (items ws) = simp (value.outs-List) in
      subst (λ o. OutcomesAlike o (tail (items (w ∷ ws)))) (sym left) (subst (λ o. OutcomesAlike (outcome.Value (items vs)) o) (sym right) (values (lists_made vs ws all))))

  empty_of : (vs ws : List Value) → AllAlike p vs ws → OutcomesAlike (empty (items vs)) (empty (items ws))
  empty_of = by_first (λ vs. empty (items vs)) (λ ws. empty (items ws))
      (let is : empty (items []) ≡ outcome.Value (truth true) = simp (value.outs-List) in subst (λ o. OutcomesAlike o o) (sym is) (values (truth_itself true)))
      (λ v w vs ws one all.
      let left : empty (items (v ∷ vs)) ≡ outcome.Value (truth false) = simp (value.outs-List) in
      let right : empty (items (w ∷ ws)) ≡ outcome.Value (truth false) = simp (value.outs-List) in
      subst (λ o. OutcomesAlike o (empty (items (w ∷ ws)))) (sym left) (subst (λ o. OutcomesAlike (outcome.Value (truth false)) o) (sym right) (values (truth_itself false))))

  no_list : (f : Value → Outcome) → ((v : Value) → list_in v ≡ None → f v ≡ outcome.NoRule) → (v w : Value) → list_in v ≡ None → list_in w ≡ None → OutcomesAlike (f v) (f w)
  no_list f lacks v w is also = subst (λ o. OutcomesAlike o (f w)) (sym (lacks v is)) (subst (λ o. OutcomesAlike outcome.NoRule o) (sym (lacks w also)) no_rule)

  -- an operation of lists: on other values there is no rule
  of_list : (f : Value → Outcome) → ((vs ws : List Value) → AllAlike p vs ws → OutcomesAlike (f (items vs)) (f (items ws))) → ((v : Value) → list_in v ≡ None → f v ≡ outcome.NoRule)
      → (v w : Value) → Alike p v w → OutcomesAlike (f v) (f w)
  of_list f each lacks v w (list vs ws is also all) = subst (λ x. OutcomesAlike (f x) (f w)) (sym is) (subst (λ x. OutcomesAlike (f (items vs)) (f x)) (sym also) (each vs ws all))
  of_list f each lacks v w (base b is also) = no_list f lacks v w (ap list_in is ∙ simp (value.outs-Base)) (ap list_in also ∙ simp (value.outs-Base))
  of_list f each lacks v w (fields fs gs is also all) = no_list f lacks v w (ap list_in is ∙ simp (value.outs-Fields)) (ap list_in also ∙ simp (value.outs-Fields))
  of_list f each lacks v w (tag t held other is also alike) = no_list f lacks v w (ap list_in is ∙ simp (value.outs-Tag)) (ap list_in also ∙ simp (value.outs-Tag))
  of_list f each lacks v w (function i label g is has there made_by named_by) = no_list f lacks v w (ap list_in made_by ∙ fun_no_list _) (ap list_in named_by ∙ fun_no_list _)
  of_list f each lacks v w (lambda i label site g l env others is has no_name found stands alike made_by named_by) = no_list f lacks v w (ap list_in made_by ∙ fun_no_list _) (ap list_in named_by ∙ fun_no_list _)

  pub head_alike : (v w : Value) → Alike p v w → OutcomesAlike (head v) (head w)
  head_alike = of_list head head_of (λ v is. ap (given _) is)

  pub tail_alike : (v w : Value) → Alike p v w → OutcomesAlike (tail v) (tail w)
  tail_alike = of_list tail tail_of (λ v is. ap (given _) is)

  pub empty_alike : (v w : Value) → Alike p v w → OutcomesAlike (empty v) (empty w)
  empty_alike = of_list empty empty_of (λ v is. ap (given _) is)
