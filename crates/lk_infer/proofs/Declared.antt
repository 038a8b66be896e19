-- Functions with their schemes, from the last to the first.
use Rattle.std.proofs.Common.{◌≡◌, ℕ, zero, suc, ◌-◌, ◌≤◌, min, List, [], ◌∷◌, ◌++◌, length, drop, refl, ap}
use native.Mathlib.Omega.{arith}
use Rattle.lk_ast.specs.declared.declaration.FunDef.{FunDef}
use Rattle.lk_types.specs.declared.scheme.Scheme.{Scheme}
use Rattle.lk_typing.specs.Programs.{entries}

-- behind all of one list there is nothing
pub none_behind : (fs : List FunDef) (ss : List Scheme) (n : ℕ) → n ≡ min (length fs) (length ss) → entries (drop n fs) (drop n ss) ≡ []
none_behind [] ss n is = let zero_is : n ≡ 0 = omega arith in ap (λ k. entries (drop k []) (drop k ss)) zero_is
none_behind (f ∷ fs) [] n is = let zero_is : n ≡ 0 = omega arith in ap (λ k. entries (drop k (f ∷ fs)) (drop k [])) zero_is
none_behind (f ∷ fs) (s ∷ ss) zero is = absurd (omega arith)
none_behind (f ∷ fs) (s ∷ ss) (suc n) is = none_behind fs ss n (omega arith)
