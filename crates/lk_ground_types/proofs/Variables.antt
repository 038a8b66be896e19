-- Which variables are among some, and groundings in which the least stands for all others.
use Rattle.std.proofs.Common.{arith, ◌≡◌, ◌⊎◌, inl, inr, ℕ, ◌==◌, ◌||◌, Bool, true, false, List, [], ◌∷◌, refl, ap, sym, subst, ◌∙◌, if◌then◌else◌}
use Rattle.std.proofs.lemmas.Bool.Decides.{nat_tests}
use Rattle.std.specs.List.{list_any}
use Rattle.lk_types.proofs.Agreement.{AgreeAt, agrees}
use Rattle.lk_types.proofs.SameVariable.{same_self, same_sym}
use Rattle.lk_types.specs.Each.{Each}
use Rattle.lk_types.specs.Grounding.{Grounding}
use Rattle.lk_types.specs.Rows.{no_fields, no_effects}
use Rattle.lk_types.specs.Variables.{same_variable, variables_of}
use Rattle.lk_types.specs.declared.ty.Variable.{Variable}
use Rattle.lk_types.specs.declared.ty.Variable.TheVariants as variable
use Rattle.lk_ground_types.specs.Law.{AgreeLaw, ExistsLaw}
use Rattle.lk_ground_types.specs.Least.{unit, IsAmong, AreSameAt}

pub number_self : (n : ℕ) → (n == n) ≡ true
number_self n = grind (arith, nat_tests)

pub true_false : true ≡ false → ⊥
true_false e = cc

abbrev pub is_among : List Variable → Variable → Bool
is_among xs x = list_any (same_variable x) xs

-- ---- the test says whether it is among them

pub among_test : (xs : List Variable) (x : Variable) → IsAmong xs x → is_among xs x ≡ true
among_test [] x among = absurd among
among_test (y ∷ ys) x (inl is) = ap (λ b. b || is_among ys x) (ap (same_variable x) is ∙ same_self x)
among_test (y ∷ ys) x (inr among) = by_test (same_variable x y) (among_test ys x among)
  where
    by_test : (b : Bool) → is_among ys x ≡ true → (b || is_among ys x) ≡ true
    by_test true is = refl
    by_test false is = is

pub test_among : (xs : List Variable) (x : Variable) → is_among xs x ≡ true → IsAmong xs x
test_among [] x is = cc
test_among (y ∷ ys) x is = by_test (test_among ys x) (same_variable x y) refl is
  where
    by_test : (is_among ys x ≡ true → IsAmong ys x) → (b : Bool) → same_variable x y ≡ b → (b || is_among ys x) ≡ true → IsAmong (y ∷ ys) x
    by_test more true same is = inl (same_sym x y same)
    by_test more false same is = inr (more is)

pub among_or : (xs : List Variable) (x : Variable) → IsAmong xs x ⊎ (IsAmong xs x → ⊥)
among_or xs x = by_test (is_among xs x) refl
  where
    by_test : (b : Bool) → is_among xs x ≡ b → IsAmong xs x ⊎ (IsAmong xs x → ⊥)
    by_test true is = inl (test_among xs x is)
    by_test false is = inr (λ among. true_false (sym (among_test xs x among) ∙ is))

-- ---- what holds of all of them

pub each_among : (P : Variable → Type 0) (xs : List Variable) → ((x : Variable) → IsAmong xs x → P x) → Each P xs
each_among P [] all = tt
each_among P (x ∷ xs) all = (all x (inl refl), each_among P xs (λ y among. all y (inr among)))

pub among_each : (P : Variable → Type 0) (xs : List Variable) → Each P xs → (x : Variable) → IsAmong xs x → P x
among_each P [] each x among = absurd among
among_each P (y ∷ ys) each x (inl is) = subst P is each.0
among_each P (y ∷ ys) each x (inr among) = among_each P ys each.1 x among

agree_at : (xs : List Variable) (τ σ : Grounding) → AreSameAt xs τ σ → (x : Variable) → IsAmong xs x → AgreeAt τ σ x
agree_at xs τ σ same (variable.Plain n) among = same.plain n among
agree_at xs τ σ same (variable.Row n) among = same.rows n among
agree_at xs τ σ same (variable.Effects n) among = same.effects n among

pub agree_law : AgreeLaw
agree_law t τ σ same = agrees τ σ t (each_among (AgreeAt τ σ) (variables_of t) (agree_at (variables_of t) τ σ same))

-- ---- the least for all others

abbrev pub least_but : List Variable → Grounding → Grounding
least_but xs σ = record {
  plain = λ n. if is_among xs (variable.Plain n) then σ.plain n else unit;
  rows = λ n. if is_among xs (variable.Row n) then σ.rows n else no_fields;
  effects = λ n. if is_among xs (variable.Effects n) then σ.effects n else no_effects;
}

module _ {A : Type 0} (xs : List Variable) (x : Variable) (a b : A) where
  not_among : (IsAmong xs x → ⊥) → (if is_among xs x then a else b) ≡ b
  not_among missing = by_test (is_among xs x) refl
    where
      by_test : (c : Bool) → is_among xs x ≡ c → (if c then a else b) ≡ b
      by_test true is = absurd (missing (test_among xs x is))
      by_test false is = refl

  is_there : IsAmong xs x → (if is_among xs x then a else b) ≡ a
  is_there among = ap (λ c. if c then a else b) (among_test xs x among)

pub exists_law : ExistsLaw
exists_law xs σ = (
  least_but xs σ,
  record {
    plain = λ n missing. not_among xs (variable.Plain n) (σ.plain n) unit missing;
    rows = λ n missing. not_among xs (variable.Row n) (σ.rows n) no_fields missing;
    effects = λ n missing. not_among xs (variable.Effects n) (σ.effects n) no_effects missing;
  },
  record {
    plain = λ n among. is_there xs (variable.Plain n) (σ.plain n) unit among;
    rows = λ n among. is_there xs (variable.Row n) (σ.rows n) no_fields among;
    effects = λ n among. is_there xs (variable.Effects n) (σ.effects n) no_effects among;
  },
)
