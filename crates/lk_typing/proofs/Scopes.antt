-- Names with the types that stand for them, one after another.
use Rattle.std.proofs.Common.{◌≡◌, ℕ, ◌+◌, List, [], ◌∷◌, ◌++◌, map, refl, sym, ap, ap₂, ◌∙◌, Some}
use Rattle.lk_ast.specs.declared.place.Word.{Word}
use Rattle.lk_types.proofs.Unfold.{under_variable}
use Rattle.lk_types.specs.Grounding.{Grounding, under}
use Rattle.lk_types.specs.declared.ground.Ground.{Ground}
use Rattle.lk_types.specs.declared.ty.Ty.{Ty}
use Rattle.lk_typing.proofs.Levels.{map_joined}
use Rattle.lk_typing.proofs.Meaning.{Names, seen}
use Rattle.lk_typing.specs.Law.{Become}
use Rattle.lk_typing.specs.Names.{Named, names_of, types_of, texts}
use Rattle.lk_typing.specs.Walk.{params_from}

module _ (σ : Grounding) where
  pub names_both : (a c : Named Ty) (b d : Named Ground) → Names σ a b → Names σ c d → Names σ (a ++ c) (b ++ d)
  names_both a c b d front back = record { same = map_joined _ a c ∙ ap₂ (λ x y. x ++ y) front.same back.same ∙ sym (map_joined _ b d) }

  types_seen : {A B : Type 0} (f : A → B) (entries : Named A) → types_of (seen f entries) ≡ map f (types_of entries)
  types_seen f [] = refl
  types_seen f (e ∷ es) = ap (λ more. f e.1 ∷ more) (types_seen f es)

  pub same_types : (a : Named Ty) (b : Named Ground) → Names σ a b → Become σ (types_of a) (types_of b)
  same_types a b is = sym (types_seen (under σ) a) ∙ ap types_of is.same ∙ types_seen (λ t. Some t) b

  -- what stands for parameters
  pub params_known : ℕ → List Word → Named Ground
  params_known n [] = []
  params_known n (x ∷ xs) = (x.text, σ.plain n) ∷ params_known (1 + n) xs

  pub params_seen : (n : ℕ) (xs : List Word) → Names σ (params_from n xs) (params_known n xs)
  unfolding params_known
  params_seen n [] = record { same = refl }
  params_seen n (x ∷ xs) = record { same = ap₂ (λ o more. (x.text, o) ∷ more) (under_variable σ n) (params_seen (1 + n) xs).same }

  pub params_named : (n : ℕ) (xs : List Word) → names_of (params_known n xs) ≡ texts xs
  unfolding params_known
  params_named n [] = refl
  params_named n (x ∷ xs) = ap (λ more. x.text ∷ more) (params_named (1 + n) xs)
