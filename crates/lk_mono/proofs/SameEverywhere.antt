-- Groundings that say the same of some variables and the least of all others say the same of all.
use Rattle.std.proofs.Common.{◌≡◌, ◌⊎◌, inl, inr, List, [], ◌∷◌, refl, ap₂, map, sym, ◌∙◌}
use Rattle.lk_ground_types.proofs.Variables.{among_or}
use Rattle.lk_ground_types.specs.Law.{AgreeLaw}
use Rattle.lk_ground_types.specs.Least.{AreSameAt, IsLeastBut}
use Rattle.lk_types.specs.Grounding.{Grounding, under}
use Rattle.lk_types.specs.Variables.{variables_of}
use Rattle.lk_types.specs.declared.ground.Ground.{Ground}
use Rattle.lk_types.specs.declared.ty.Ty.{Ty}
use Rattle.lk_types.specs.declared.ty.Variable.{Variable}
use Rattle.lk_types.specs.declared.ty.Variable.TheVariants as variable
use Rattle.lk_typing.specs.Law.{Become}

module _ {xs : List Variable} {τ σ : Grounding} (least : IsLeastBut xs τ) (others : IsLeastBut xs σ) (same : AreSameAt xs τ σ) where
  -- a variable is among them or not
  one_or_other : {A : Type 0} {a b c : A} {P : Type 0} → P ⊎ (P → ⊥) → (P → a ≡ b) → ((P → ⊥) → a ≡ c) → ((P → ⊥) → b ≡ c) → a ≡ b
  one_or_other (inl among) there left right = there among
  one_or_other (inr missing) there left right = left missing ∙ sym (right missing)

  same_for_all : (ys : List Variable) → AreSameAt ys τ σ
  same_for_all ys = record {
    plain = λ n among. one_or_other (among_or xs (variable.Plain n)) (same.plain n) (least.plain n) (others.plain n);
    rows = λ n among. one_or_other (among_or xs (variable.Row n)) (same.rows n) (least.rows n) (others.rows n);
    effects = λ n among. one_or_other (among_or xs (variable.Effects n)) (same.effects n) (least.effects n) (others.effects n);
  }

  -- so each type becomes the same
  same_under : AgreeLaw → (t : Ty) → under τ t ≡ under σ t
  same_under agree t = agree t τ σ (same_for_all (variables_of t))

  -- and so do these types
  pub become_same : AgreeLaw → (types : List Ty) (ts : List Ground) → Become σ types ts → Become τ types ts
  become_same agree types ts become = same_maps types ∙ become
    where
      same_maps : (us : List Ty) → map (under τ) us ≡ map (under σ) us
      same_maps [] = refl
      same_maps (u ∷ us) = ap₂ (λ t rest. t ∷ rest) (same_under agree u) (same_maps us)
