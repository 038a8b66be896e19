-- Schemes that are more general than others of the same functions stay so behind one declaration more: an instance of one scheme
-- is part of an instance of all of them, so of a typing of the group, which is an instance of ours.
use Rattle.std.proofs.Common.{◌≡◌, ℕ, zero, suc, Bool, true, false, List, [], ◌∷◌, ◌++◌, length, refl, subst, Some, slice_get, if◌then◌else◌, bytes_eq}
use native.Mathlib.Omega.{arith}
use Rattle.lk_ast.specs.Functions.{functions_in}
use Rattle.lk_ast.specs.declared.declaration.Decl.{Decl}
use Rattle.lk_ast.specs.declared.declaration.FunDef.{FunDef}
use Rattle.lk_ast.specs.declared.declaration.TableDecl.{TableDecl}
use Rattle.lk_infer.proofs.More.{HasInstance, IsMore, group_more}
use Rattle.lk_infer.specs.Inferred.{IsInferred}
use Rattle.lk_types.proofs.Parts.{same_some}
use Rattle.lk_types.specs.Grounding.{Grounding}
use Rattle.lk_types.specs.Schemes.{IsInstance}
use Rattle.lk_types.specs.declared.ground.Ground.{Ground}
use Rattle.lk_types.specs.declared.scheme.Scheme.{Scheme}
use Rattle.lk_types.specs.declared.ty.Ty.{Ty}
use Rattle.lk_typing.proofs.SchemeCounts.{as_many_schemes}
use Rattle.lk_typing.specs.Groups.{IsGroup}
use Rattle.lk_typing.specs.Names.{Named, named}
use Rattle.lk_typing.specs.Programs.{AreAt, AreInstances, Hold, entries}

-- ---- one of several

-- each instance of one of the others is one of ours at the same place
abbrev EachMore : List Scheme → List Scheme → Type 0
EachMore ours others = (i : ℕ) (scheme : Scheme) (σ : Grounding) (t : Ground) → slice_get others i ≡ Some scheme → IsInstance σ scheme t
    → (our : Scheme) × (slice_get ours i ≡ Some our) × ((τ : Grounding) × IsInstance τ our t)

one_at : (σ : Grounding) (schemes : List Scheme) (ts : List Ground) (i : ℕ) (t : Ground) → AreAt σ schemes ts → slice_get ts i ≡ Some t
    → (our : Scheme) × (slice_get schemes i ≡ Some our) × ((τ : Grounding) × IsInstance τ our t)
one_at σ [] [] i t are is = cc
one_at σ [] (u ∷ us) i t are is = absurd are
one_at σ (scheme ∷ schemes) [] i t are is = absurd are
one_at σ (scheme ∷ schemes) (u ∷ us) zero t are is = (scheme, refl, (σ, subst (λ g. IsInstance σ scheme g) (same_some is) are.0))
one_at σ (scheme ∷ schemes) (u ∷ us) (suc i) t are is = one_at σ schemes us i t are.1 is

entries_more : (fs : List FunDef) (ours others : List Scheme) (our_earlier earlier : Named Scheme) → length ours ≡ length fs → length others ≡ length fs → EachMore ours others
    → IsMore our_earlier earlier → IsMore (entries fs ours ++ our_earlier) (entries fs others ++ earlier)
entries_more [] ours others our_earlier earlier n m each is_more g t has = is_more g t has
entries_more (f ∷ fs) [] others our_earlier earlier n m each is_more g t has = absurd (let wrong : 0 ≡ suc (length fs) = n in omega arith)
entries_more (f ∷ fs) (our ∷ ours) [] our_earlier earlier n m each is_more g t has = absurd (let wrong : 0 ≡ suc (length fs) = m in omega arith)
entries_more (f ∷ fs) (our ∷ ours) (other ∷ others) our_earlier earlier n m each is_more g t has =
    by_test (bytes_eq f.name.text g)
    (entries_more fs ours others our_earlier earlier (omega arith) (omega arith) (λ i scheme σ u at its. each (suc i) scheme σ u at its) is_more g t) has
  where
    by_test : (b : Bool) → (HasInstance (entries fs others ++ earlier) g t → HasInstance (entries fs ours ++ our_earlier) g t)
        → ((scheme : Scheme) × ((if b then Some other else named g (entries fs others ++ earlier)) ≡ Some scheme) × ((τ : Grounding) × IsInstance τ scheme t))
        → (scheme : Scheme) × ((if b then Some our else named g (entries fs ours ++ our_earlier)) ≡ Some scheme) × ((τ : Grounding) × IsInstance τ scheme t)
    by_test true later (scheme, is, (τ, its)) = let found = each zero scheme τ t is its in (found.0, found.1, found.2)
    by_test false later its = later its

-- ---- a declaration

-- all typings of the group are instances of these schemes
abbrev pub AreGeneral : Named Scheme → List TableDecl → Decl → List Scheme → Type 0
AreGeneral earlier tables decl schemes = (ts inside : List Ground) → IsGroup earlier tables decl ts inside → AreInstances schemes ts

pub inferred_general : (earlier : Named Scheme) (tables : List TableDecl) (decl : Decl) (schemes : List Scheme) (types : List Ty) → IsInferred earlier tables decl schemes types
    → AreGeneral earlier tables decl schemes
inferred_general earlier tables decl schemes types inferred ts inside typed = let found = inferred.general ts inside typed in (found.0, found.1)

module _ (tables : List TableDecl) (decl : Decl) (our_earlier earlier : Named Scheme) (ours others : List Scheme) (is_more : IsMore our_earlier earlier)
    (general : AreGeneral our_earlier tables decl ours) (hold : Hold earlier tables decl others) where
  -- instances of the others, taken together, are instances of ours
  pub instances_more : (ts : List Ground) → AreInstances others ts → AreInstances ours ts
  instances_more ts are =
      let typed : (nodes : List Ground) × IsGroup earlier tables decl ts nodes = hold.each ts are in
      general ts typed.0 (group_more our_earlier earlier tables decl ts typed.0 is_more typed.1)

  each_more : EachMore ours others
  each_more i scheme σ t at its =
      let alone : (ts : List Ground) × AreInstances others ts × (slice_get ts i ≡ Some t) = hold.alone i scheme σ t at its in
      let together : AreInstances ours alone.0 = instances_more alone.0 alone.1 in
      one_at together.0 ours alone.0 i t together.1 alone.2

  pub further : length ours ≡ length (functions_in decl) → IsMore (entries (functions_in decl) ours ++ our_earlier) (entries (functions_in decl) others ++ earlier)
  further as_many = entries_more (functions_in decl) ours others our_earlier earlier as_many (as_many_schemes earlier tables decl others hold) each_more is_more
