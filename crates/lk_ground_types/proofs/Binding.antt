-- Steps that bind variables, one after another.
use Rattle.std.proofs.Common.{◌≡◌, ◌⊎◌, inl, inr, ℕ, ◌==◌, Bool, true, false, List, [], ◌∷◌, ◌++◌, refl, ap, sym, subst, ◌∙◌, if◌then◌else◌}
use Rattle.std.proofs.lemmas.Bool.{eqb-true}
use Rattle.lk_types.proofs.Members.{each_both}
use Rattle.lk_types.specs.Each.{Each}
use Rattle.lk_types.specs.Grounding.{Grounding}
use Rattle.lk_types.specs.Rows.{EffectSet, Row}
use Rattle.lk_types.specs.declared.ground.Ground.{Ground}
use Rattle.lk_types.specs.declared.ty.Variable.{Variable}
use Rattle.lk_types.specs.declared.ty.Variable.TheVariants as variable
use Rattle.lk_ground_types.proofs.Variables.{among_each, among_or, each_among, number_self}
use Rattle.lk_ground_types.specs.Bound.{with_effects, with_plain, with_row}
use Rattle.lk_ground_types.specs.Least.{AreSameAt, IsAmong, IsLeastBut, least}
use Rattle.lk_ground_types.specs.Matching.{Binds, IsSameAt}

-- ---- the same at a variable

same_itself : (a : Grounding) (x : Variable) → IsSameAt a a x
same_itself a (variable.Plain n) = refl
same_itself a (variable.Row n) = refl
same_itself a (variable.Effects n) = refl

same_then : (a b c : Grounding) (x : Variable) → IsSameAt a b x → IsSameAt b c x → IsSameAt a c x
same_then a b c (variable.Plain n) p q = p ∙ q
same_then a b c (variable.Row n) p q = p ∙ q
same_then a b c (variable.Effects n) p q = p ∙ q

among_front : (xs ys : List Variable) (x : Variable) → IsAmong xs x → IsAmong (xs ++ ys) x
among_front [] ys x among = absurd among
among_front (y ∷ xs) ys x (inl is) = inl is
among_front (y ∷ xs) ys x (inr among) = inr (among_front xs ys x among)

among_back : (xs ys : List Variable) (x : Variable) → IsAmong ys x → IsAmong (xs ++ ys) x
among_back [] ys x among = among
among_back (y ∷ xs) ys x among = inr (among_back xs ys x among)

-- ---- steps

-- nothing is bound, where nothing can hold
pub binds_nothing : (xs : List Variable) (H : Grounding → Type 0) (a : Grounding) → ((σ : Grounding) → H σ → ⊥) → Binds xs H a a
binds_nothing xs H a never = record { kept = λ x missing. same_itself a x; bound = λ σ holds. absurd (never σ holds) }

-- no variable is bound
pub binds_none : (xs : List Variable) (H : Grounding → Type 0) (a : Grounding) → xs ≡ [] → Binds xs H a a
binds_none xs H a none = subst (λ xs. Binds xs H a a) (sym none) (record { kept = λ x missing. same_itself a x; bound = λ σ holds. tt })

pub binds_as : {xs zs : List Variable} {P S : Grounding → Type 0} {a b : Grounding} → zs ≡ xs → Binds xs P a b → ((σ : Grounding) → S σ → P σ) → Binds zs S a b
binds_as {xs} {zs} {P} {S} {a} {b} are binds holds = subst (λ xs. Binds xs S a b) (sym are) (record { kept = binds.kept; bound = λ σ s. binds.bound σ (holds σ s) })

module _ {xs ys : List Variable} {P Q : Grounding → Type 0} {a b c : Grounding} (first : Binds xs P a b) (second : Binds ys Q b c) where
  kept_both : (x : Variable) → (IsAmong (xs ++ ys) x → ⊥) → IsSameAt c a x
  kept_both x missing = same_then c b a x (second.kept x (λ among. missing (among_back xs ys x among))) (first.kept x (λ among. missing (among_front xs ys x among)))

  -- what the first one bound stays, unless the second one binds it again
  still : (σ : Grounding) → P σ → Q σ → (x : Variable) → IsAmong xs x → IsSameAt c σ x
  still σ p q x among = by_case (among_or ys x)
    where
      by_case : IsAmong ys x ⊎ (IsAmong ys x → ⊥) → IsSameAt c σ x
      by_case (inl again) = among_each (IsSameAt c σ) ys (second.bound σ q) x again
      by_case (inr missing) = same_then c b σ x (second.kept x missing) (among_each (IsSameAt b σ) xs (first.bound σ p) x among)

  bound_both : (σ : Grounding) → P σ → Q σ → Each (IsSameAt c σ) (xs ++ ys)
  bound_both σ p q = each_both (IsSameAt c σ) xs ys (each_among (IsSameAt c σ) xs (still σ p q)) (second.bound σ q)

pub binds_both : {xs ys zs : List Variable} {P Q S : Grounding → Type 0} {a b c : Grounding} → zs ≡ xs ++ ys → Binds xs P a b → Binds ys Q b c
    → ((σ : Grounding) → S σ → P σ × Q σ) → Binds zs S a c
binds_both {xs} {ys} {zs} {P} {Q} {S} {a} {b} {c} are first second split =
    subst (λ zs. Binds zs S a c) (sym are) (record { kept = kept_both first second; bound = λ σ s. bound_both first second σ (split σ s).0 (split σ s).1 })

-- ---- one variable

pub number_cases : {A : Type 0} (m n : ℕ) (x y : A) → ((m ≡ n) → ⊥) → (if m == n then x else y) ≡ y
number_cases m n x y apart = by_test (m == n) refl
  where
    by_test : (b : Bool) → (m == n) ≡ b → (if b then x else y) ≡ y
    by_test true is = absurd (apart (eqb-true m n is))
    by_test false is = refl

number_here : {A : Type 0} (n : ℕ) (x y : A) → (if n == n then x else y) ≡ x
number_here n x y = ap (λ b. if b then x else y) (number_self n)

module _ (S : Grounding → Type 0) (a : Grounding) (n : ℕ) where
  pub binds_plain : (t : Ground) (b : Grounding) → b ≡ with_plain n t a → ((σ : Grounding) → S σ → t ≡ σ.plain n) → Binds (variable.Plain n ∷ []) S a b
  binds_plain t b is holds = subst (λ b. Binds (variable.Plain n ∷ []) S a b) (sym is) (record { kept = kept; bound = λ σ s. (number_here n t (a.plain n) ∙ holds σ s, tt) })
    where
      kept : (x : Variable) → (IsAmong (variable.Plain n ∷ []) x → ⊥) → IsSameAt (with_plain n t a) a x
      kept (variable.Plain m) missing = number_cases m n t (a.plain m) (λ same. missing (inl (ap (λ n. variable.Plain n) (sym same))))
      kept (variable.Row m) missing = refl
      kept (variable.Effects m) missing = refl

  pub binds_row : (row : Row) (b : Grounding) → b ≡ with_row n row a → ((σ : Grounding) → S σ → row ≡ σ.rows n) → Binds (variable.Row n ∷ []) S a b
  binds_row row b is holds = subst (λ b. Binds (variable.Row n ∷ []) S a b) (sym is) (record { kept = kept; bound = λ σ s. (number_here n row (a.rows n) ∙ holds σ s, tt) })
    where
      kept : (x : Variable) → (IsAmong (variable.Row n ∷ []) x → ⊥) → IsSameAt (with_row n row a) a x
      kept (variable.Plain m) missing = refl
      kept (variable.Row m) missing = number_cases m n row (a.rows m) (λ same. missing (inl (ap (λ n. variable.Row n) (sym same))))
      kept (variable.Effects m) missing = refl

  pub binds_effects : (s : EffectSet) (b : Grounding) → b ≡ with_effects n s a → ((σ : Grounding) → S σ → s ≡ σ.effects n) → Binds (variable.Effects n ∷ []) S a b
  binds_effects s b is holds = subst (λ b. Binds (variable.Effects n ∷ []) S a b) (sym is) (record { kept = kept; bound = λ σ s. (number_here n _ (a.effects n) ∙ holds σ s, tt) })
    where
      kept : (x : Variable) → (IsAmong (variable.Effects n ∷ []) x → ⊥) → IsSameAt (with_effects n s a) a x
      kept (variable.Plain m) missing = refl
      kept (variable.Row m) missing = refl
      kept (variable.Effects m) missing = number_cases m n s (a.effects m) (λ same. missing (inl (ap (λ n. variable.Effects n) (sym same))))

-- ---- from the least on

module _ (xs : List Variable) (H : Grounding → Type 0) (a b : Grounding) (none : a ≡ least) (binds : Binds xs H a b) where
  kept_least : (x : Variable) → (IsAmong xs x → ⊥) → IsSameAt b least x
  kept_least x missing = subst (λ a. IsSameAt b a x) none (binds.kept x missing)

  pub least_kept : IsLeastBut xs b
  least_kept = record {
    plain = λ n. kept_least (variable.Plain n);
    rows = λ n. kept_least (variable.Row n);
    effects = λ n. kept_least (variable.Effects n);
  }

  pub bound_same : (σ : Grounding) → H σ → AreSameAt xs b σ
  bound_same σ holds = record {
    plain = λ n. among_each (IsSameAt b σ) xs (binds.bound σ holds) (variable.Plain n);
    rows = λ n. among_each (IsSameAt b σ) xs (binds.bound σ holds) (variable.Row n);
    effects = λ n. among_each (IsSameAt b σ) xs (binds.bound σ holds) (variable.Effects n);
  }
