-- The laws of what types become: that it rests on their own variables alone, and that a type still becomes something where
-- the least stands for some variables.
use Rattle.std.specs.Prelude.{◌≡◌, List, Some}
use Rattle.lk_types.specs.Grounding.{Grounding, under}
use Rattle.lk_types.specs.Variables.{variables_of}
use Rattle.lk_types.specs.declared.ground.Ground.{Ground}
use Rattle.lk_types.specs.declared.ty.Ty.{Ty}
use Rattle.lk_types.specs.declared.ty.Variable.{Variable}
use Rattle.lk_ground_types.specs.Least.{AreSameAt, IsLeastBut}

-- where the same stands for its variables, a type becomes the same
abbrev pub AgreeLaw : Type 0
AgreeLaw = (t : Ty) (τ σ : Grounding) → AreSameAt (variables_of t) τ σ → under τ t ≡ under σ t

-- where the least stands for all but some variables, each type becomes something that became something before
abbrev pub EmptiedLaw : Type 0
EmptiedLaw = (xs : List Variable) (τ σ : Grounding) → IsLeastBut xs τ → AreSameAt xs τ σ
    → (t : Ty) (u : Ground) → under σ t ≡ Some u → (w : Ground) × (under τ t ≡ Some w)

-- the least can stand for all but some variables
abbrev pub ExistsLaw : Type 0
ExistsLaw = (xs : List Variable) (σ : Grounding) → (τ : Grounding) × IsLeastBut xs τ × AreSameAt xs τ σ
