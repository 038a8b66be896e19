-- The type that a constructor makes of what is read of its parts.
use Rattle.std.proofs.Common.{◌≡◌, ℕ, suc, ◌-◌, List, [], ◌∷◌, length, map, take, refl, sym, ◌∙◌, ap, subst, get_or, drop, arith}
use Rattle.std.proofs.lemmas.List.{take_all}
use Rattle.lk_types.specs.declared.ty.Effects.{Effects}
use Rattle.lk_types.specs.declared.ty.Ty.{Ty}
use Rattle.lk_types.specs.declared.ty.Ty.TheVariants as ty
use Rattle.lk_types.specs.declared.ty.TyRow.{TyRow}
use Rattle.lk_unify.proofs.ReadParts.{made_list, made_fields, made_tags}
use Rattle.lk_unify.proofs.ReadRows.{made_function}
use Rattle.lk_arena.specs.Openings.{row_type, effects_type}
use Rattle.lk_unify.specs.Reading.{CanReadParts, type_in, row_in, effects_in}
use Rattle.lk_arena.specs.Values.{Value, IsMadeOf}
use Rattle.lk_arena.specs.declared.arena.Arena.{Arena}
use Rattle.lk_arena.specs.declared.node.Head.{Head}
use Rattle.lk_arena.specs.declared.node.Head.TheVariants as head

module _ (nodes : Arena) (numbers : List ℕ) (fuel : ℕ) (u : ℕ → Value) (x : Value) where
  list_of : (ps : List ℕ) → CanReadParts nodes numbers fuel head.List ps → IsMadeOf head.List (map u ps) x → type_in x ≡ ty.List (type_in (u (get_or ps 0 0)))
  list_of [] can made = absurd can
  list_of (p ∷ q ∷ ps) can made = absurd can
  list_of (p ∷ []) can made = made_list (u p) x made

  fields_of : (ps : List ℕ) → CanReadParts nodes numbers fuel head.Fields ps → IsMadeOf head.Fields (map u ps) x → type_in x ≡ ty.Fields (row_type (row_in (u (get_or ps 0 0))))
  fields_of [] can made = absurd can
  fields_of (p ∷ q ∷ ps) can made = absurd can
  fields_of (p ∷ []) can made = made_fields (u p) x made

  tags_of : (ps : List ℕ) → CanReadParts nodes numbers fuel head.Tags ps → IsMadeOf head.Tags (map u ps) x → type_in x ≡ ty.Tags (row_type (row_in (u (get_or ps 0 0))))
  tags_of [] can made = absurd can
  tags_of (p ∷ q ∷ ps) can made = absurd can
  tags_of (p ∷ []) can made = made_tags (u p) x made

  map_map : (ps : List ℕ) → map type_in (map u ps) ≡ map (λ p. type_in (u p)) ps
  map_map [] = refl
  map_map (p ∷ ps) = ap (λ ts. type_in (u p) ∷ ts) (map_map ps)

  function_of : (ps : List ℕ) → CanReadParts nodes numbers fuel head.Fun ps → IsMadeOf head.Fun (map u ps) x →
      type_in x ≡ ty.Fun (map (λ p. type_in (u p)) (drop 2 ps)) (effects_type (effects_in (row_in (u (get_or ps 0 0))))) (type_in (u (get_or ps 1 0)))
  function_of [] can made = absurd can
  function_of (p ∷ []) can made = absurd can
  function_of (p ∷ r ∷ ps) can made =
      made_function (u p) (u r) (map u ps) x made ∙ ap (λ ts. ty.Fun ts (effects_type (effects_in (row_in (u p)))) (type_in (u r))) (map_map ps)

  abbrev others : List ℕ → List ℕ
  others ps = take (length ps - 2) (drop 2 ps)

  all_others : (ps : List ℕ) → others ps ≡ drop 2 ps
  all_others [] = refl
  all_others (p ∷ []) = refl
  all_others (p ∷ r ∷ ps) = take_all (suc (suc (length ps)) - 2) ps (omega arith)

  -- with the constructor as it was matched
  module _ (h : Head) (ps : List ℕ) (can : CanReadParts nodes numbers fuel h ps) (made : IsMadeOf h (map u ps) x) where
    pub list_read : h ≡ head.List → (t : Ty) → t ≡ type_in (u (get_or ps 0 0)) → ty.List t ≡ type_in x
    list_read is t e = ap ty.List e ∙ sym (list_of ps (subst (λ h. CanReadParts nodes numbers fuel h ps) is can) (subst (λ h. IsMadeOf h (map u ps) x) is made))

    pub fields_read : h ≡ head.Fields → (row : TyRow) → row ≡ row_type (row_in (u (get_or ps 0 0))) → ty.Fields row ≡ type_in x
    fields_read is row e = ap ty.Fields e ∙ sym (fields_of ps (subst (λ h. CanReadParts nodes numbers fuel h ps) is can) (subst (λ h. IsMadeOf h (map u ps) x) is made))

    pub tags_read : h ≡ head.Tags → (row : TyRow) → row ≡ row_type (row_in (u (get_or ps 0 0))) → ty.Tags row ≡ type_in x
    tags_read is row e = ap ty.Tags e ∙ sym (tags_of ps (subst (λ h. CanReadParts nodes numbers fuel h ps) is can) (subst (λ h. IsMadeOf h (map u ps) x) is made))

    pub function_read : h ≡ head.Fun → (params : List Ty) (effects : Effects) (answer : Ty) → params ≡ map (λ p. type_in (u p)) (others ps) →
        effects ≡ effects_type (effects_in (row_in (u (get_or ps 0 0)))) → answer ≡ type_in (u (get_or ps 1 0)) → ty.Fun params effects answer ≡ type_in x
    function_read is params effects answer p e a =
        let whole = p ∙ ap (map (λ q. type_in (u q))) (all_others ps) in
        (λ i. ty.Fun (whole i) (e i) (a i))
        ∙ sym (function_of ps (subst (λ h. CanReadParts nodes numbers fuel h ps) is can) (subst (λ h. IsMadeOf h (map u ps) x) is made))
