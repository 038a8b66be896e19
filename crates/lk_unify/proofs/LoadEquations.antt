-- The two sides of an equation.
use Rattle.std.proofs.Common.{◌≡◌, ℕ, sym, ◌∙◌, ap, arith, Option, Some, None}
use Rattle.std.specs.Option.{option_map}
use Rattle.lk_types.proofs.Parts.{mapped}
use Rattle.lk_types.specs.declared.equation.Equation.{Equation}
use Rattle.lk_unify.proofs.LoadKinds.{kinds_both}
use Rattle.lk_unify.proofs.LoadSteps.{both, both_some, loads_both}
use Rattle.lk_arena.proofs.Heads.{plain_injective}
use Rattle.lk_arena.specs.Kinds.{OfTypes}
use Rattle.lk_unify.specs.Loading.{LoadsTo, Loads, LoadsEquation, NeverMeans, type_meaning}
use Rattle.lk_arena.specs.Openings.{Opening, IsOpenMet, opened}
use Rattle.lk_arena.specs.Values.{Value, Plain}
use Rattle.lk_unify.specs.declared.loader.Loader.{Loader}

never_some : {A : Type 0} (o : Option A) (a : A) → o ≡ None → o ≡ Some a → ⊥
never_some o a n s = (let h : None ≡ Some a = sym n ∙ s in cc)

module _ (e : Equation) where
  pub never_left : NeverMeans (type_meaning e.left) → (ρ : Opening) → IsOpenMet ρ e → ⊥
  never_left never ρ met = never_some (type_meaning e.left ρ) (Plain met.0) (never ρ) (ap (option_map Plain) met.1)

  pub never_right : NeverMeans (type_meaning e.right) → (ρ : Opening) → IsOpenMet ρ e → ⊥
  never_right never ρ met = never_some (type_meaning e.right ρ) (Plain met.0) (never ρ) (ap (option_map Plain) met.2)

  module _ (a b c : Loader) (left right : ℕ) (l : Loads a b OfTypes (type_meaning e.left) left) (r : Loads b c OfTypes (type_meaning e.right) right) where
    two : LoadsTo a c (λ ρ. both (type_meaning e.left ρ) (type_meaning e.right ρ)) (λ v. (v left, v right))
    two = loads_both a b c (type_meaning e.left) (λ v. v left) (type_meaning e.right) (λ v. v right) l.to r.to

    pub loads_equation : LoadsEquation a c e (record { left = left; right = right })
    loads_equation = record {
      whole = two.whole;
      longer = two.longer;
      kept = two.kept;
      left_below = (let h = l.below in let g = r.to.longer in omega arith);
      right_below = r.below;
      kinds = kinds_both a b c (λ j. j left ≡ OfTypes) (λ j. j right ≡ OfTypes) l.to.longer r.to.longer l.kinds r.kinds;
      back = two.back;
      covers = two.covers;
      sides = λ v ρ fits agrees. both_some (type_meaning e.left ρ) (type_meaning e.right ρ) (v left, v right) (two.is v ρ fits agrees);
      is = λ v ρ fits agrees same.
          let s = both_some (type_meaning e.left ρ) (type_meaning e.right ρ) (v left, v right) (two.is v ρ fits agrees) in
          let f = mapped Plain (opened ρ e.left) (v left) s.0 in
          let g = mapped Plain (opened ρ e.right) (v right) s.1 in
          (f.0, f.1, g.1 ∙ ap Some (plain_injective g.0 f.0 (sym g.2 ∙ sym same ∙ f.2)));
      forth = λ v ρ fits agrees met.
          let h = two.forth v ρ (Plain met.0, Plain met.0) fits agrees (λ i. both (option_map Plain (met.1 i)) (option_map Plain (met.2 i))) in
          (h.0, h.1, h.2, h.3, ap (λ (p : Value × Value). p.0) h.4 ∙ sym (ap (λ (p : Value × Value). p.1) h.4));
    }
