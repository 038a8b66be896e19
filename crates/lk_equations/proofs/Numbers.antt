-- A new instance of a scheme, by the numbers that its variables have.
use Rattle.std.proofs.Common.{◌≡◌, ◌∙◌, ℕ, ◌+◌, ap, map, Some, arith}
use Rattle.lk_types.specs.Names.{count, place_in}
use Rattle.lk_types.specs.declared.names.Names.{Names}
use Rattle.lk_types.specs.declared.scheme.Scheme.{Scheme}
use Rattle.lk_types.specs.declared.ty.Variable.{Variable}
use Rattle.lk_typing.specs.Equations.{lacks, own, used}
use Rattle.lk_typing.specs.Names.{Many}
use Rattle.lk_types.specs.Renamed.{place_from, renamed}
use Rattle.lk_equations.specs.Numbered.{HasNumbers}

module _ (n : ℕ) (scheme : Scheme) (names : Names) (has : HasNumbers names scheme) where
  place_is : (x : Variable) → place_in n names x ≡ place_from n scheme x
  place_is x = let is = has.numbers x in omega arith

  numbered_is : own (renamed (place_in n names) scheme.body) (map (lacks (place_in n names)) scheme.lacks) (count names + n) ≡ used (Some (Many scheme)) n
  numbered_is i = own (renamed (λ x. place_is x i) scheme.body) (map (lacks (λ x. place_is x i)) scheme.lacks) (has.count_is i + n)

  -- of a scheme that is the same
  pub instance_is : (other : Scheme) → other ≡ scheme
      → own (renamed (place_in n names) other.body) (map (lacks (place_in n names)) other.lacks) (count names + n) ≡ used (Some (Many scheme)) n
  instance_is other same = ap (λ (s : Scheme). own (renamed (place_in n names) s.body) (map (lacks (place_in n names)) s.lacks) (count names + n)) same ∙ numbered_is
