-- What types were, from what they became: lists of types, rows and functions.
use Rattle.std.proofs.Common.{◌≡◌, List, [], ◌∷◌, map, refl, sym, ap, ap₂, ◌∙◌, Option, Some, None}
use Rattle.std.specs.Option.{option_map}
use Rattle.lk_types.proofs.Parts.{same_some, mapped as mapped_was}
use Rattle.lk_types.proofs.Unfold.{under_function, under_fields, under_tags}
use Rattle.lk_types.specs.Grounding as grounding
use Rattle.lk_types.specs.Grounding.{Grounding, Known, under, row_under, effects_under, before_row, all_of, row_tail}
use Rattle.lk_types.specs.Rows.{Label, Row, EffectSet, with_field}
use Rattle.lk_types.specs.declared.ground.Ground.{Ground}
use Rattle.lk_types.specs.declared.ty.Effects.{Effects}
use Rattle.lk_types.specs.declared.ty.RowTail.{RowTail}
use Rattle.lk_types.specs.declared.ty.Ty.{Ty}
use Rattle.lk_types.specs.declared.ty.Ty.TheVariants as ty
use Rattle.lk_typing.proofs.Meaning.{seen, HasEffects}
use Rattle.lk_typing.proofs.Values.{row_seen}
use Rattle.lk_typing.specs.Law.{Become}
use Rattle.lk_typing.specs.Names.{Named}
use Rattle.lk_typing.specs.Types.{record_of, variant_of, function_of, with_fields}
use Rattle.lk_typing.specs.Unknowns as unknown

-- ---- lists

abbrev first_or : {A : Type 0} → A → List A → A
first_or a [] = a
first_or a (x ∷ xs) = x

abbrev rest_of : {A : Type 0} → List A → List A
rest_of [] = []
rest_of (x ∷ xs) = xs

pub first_same : {A : Type 0} {x y : A} {xs ys : List A} → x ∷ xs ≡ y ∷ ys → x ≡ y
first_same {A} {x} is = ap (first_or x) is

pub rest_same : {A : Type 0} {x y : A} {xs ys : List A} → x ∷ xs ≡ y ∷ ys → xs ≡ ys
rest_same is = ap rest_of is

pub none_more : {A B : Type 0} {x : A} {xs : List A} → [] ≡ x ∷ xs → B
none_more is = cc

pub more_none : {A B : Type 0} {x : A} {xs : List A} → x ∷ xs ≡ [] → B
more_none is = cc

-- types become one list only
pub same_there : {A : Type 0} (xs ys : List A) → map (λ x. Some x) xs ≡ map (λ x. Some x) ys → xs ≡ ys
same_there [] [] is = refl
same_there [] (y ∷ ys) is = none_more is
same_there (x ∷ xs) [] is = more_none is
same_there (x ∷ xs) (y ∷ ys) is = ap₂ (λ a as'. a ∷ as') (same_some (first_same is)) (same_there xs ys (rest_same is))

mapped : {A : Type 0} (a : A) (o : Option (List A)) (ts : List A) → option_map (λ more. a ∷ more) o ≡ Some ts → (rest : List A) × (o ≡ Some rest) × (ts ≡ a ∷ rest)
mapped a None ts is = let wrong : None ≡ Some ts = is in cc
mapped a (Some rest) ts is = (rest, refl, same_some (sym is))

pub all_there : {A : Type 0} (os : List (Option A)) (ts : List A) → all_of os ≡ Some ts → os ≡ map (λ t. Some t) ts
all_there [] ts is = ap (map (λ t. Some t)) (same_some is)
all_there (None ∷ os) ts is = let wrong : None ≡ Some ts = is in cc
all_there {A} (Some a ∷ os) ts is =
    let found : (rest : List A) × (all_of os ≡ Some rest) × (ts ≡ a ∷ rest) = mapped a (all_of os) ts is in
    ap (λ r. Some a ∷ r) (all_there os found.0 found.1) ∙ sym (ap (map (λ t. Some t)) found.2)

-- ---- rows

one_before : (l : Label) (o : Option Ground) (m : Option Row) (row : Row) → with_field l o m ≡ Some row → (a : Ground) × (rest : Row) × (o ≡ Some a) × (m ≡ Some rest)
one_before l None m row is = let wrong : None ≡ Some row = is in cc
one_before l (Some a) None row is = let wrong : None ≡ Some row = is in cc
one_before l (Some a) (Some rest) row is = (a, rest, refl, refl)

-- where there is a row with these fields before it, each of them is there
pub before_was : (fields : List Known) (tail row : Row) → before_row fields tail ≡ Some row → (known_fields : Named Ground) × (fields ≡ seen (λ t. Some t) known_fields)
before_was [] tail row is = ([], refl)
before_was (f ∷ fs) tail row is =
    let one : (a : Ground) × (rest : Row) × (f.1 ≡ Some a) × (before_row fs tail ≡ Some rest) = one_before f.0 f.1 (before_row fs tail) row is in
    let more : (known_fields : Named Ground) × (fs ≡ seen (λ t. Some t) known_fields) = before_was fs tail one.1 one.3 in
    ((f.0, one.0) ∷ more.0, ap₂ (λ o r. (f.0, o) ∷ r) one.2 more.1)

-- fields that become these, before a row
pub record WereFields (σ : Grounding) (fields : Named Ty) (tail : RowTail) (row : Row) : Type 0 where
  pub known_fields : Named Ground
  pub same : seen (under σ) fields ≡ seen (λ t. Some t) known_fields
  pub with_them : with_fields known_fields (row_tail σ tail) ≡ Some row

module _ (σ : Grounding) where
  pub fields_were : (fields : Named Ty) (tail : RowTail) (row : Row) → row_under σ (unknown.row fields tail) ≡ Some row → WereFields σ fields tail row
  fields_were fields tail row is =
      let seen_so : before_row (seen (under σ) fields) (row_tail σ tail) ≡ Some row = sym (row_seen σ fields tail) ∙ is in
      let found : (known_fields : Named Ground) × (seen (under σ) fields ≡ seen (λ t. Some t) known_fields) = before_was (seen (under σ) fields) (row_tail σ tail) row seen_so in
      record { known_fields = found.0; same = found.1; with_them = sym (ap (λ fs. before_row fs (row_tail σ tail)) found.1) ∙ seen_so }

  pub record_was : (fields : Named Ty) (tail : RowTail) (t : Ground) → under σ (unknown.record_of fields tail) ≡ Some t → (row : Row) × WereFields σ fields tail row × (t ≡ record_of row)
  record_was fields tail t is =
      let found : (row : Row) × (row_under σ (unknown.row fields tail) ≡ Some row) × (t ≡ record_of row) = mapped_was record_of (row_under σ (unknown.row fields tail)) t (sym (under_fields σ _) ∙ is) in
      (found.0, fields_were fields tail found.0 found.1, found.2)

  pub variant_was : (fields : Named Ty) (tail : RowTail) (t : Ground) → under σ (unknown.variant_of fields tail) ≡ Some t → (row : Row) × WereFields σ fields tail row × (t ≡ variant_of row)
  variant_was fields tail t is =
      let found : (row : Row) × (row_under σ (unknown.row fields tail) ≡ Some row) × (t ≡ variant_of row) = mapped_was variant_of (row_under σ (unknown.row fields tail)) t (sym (under_tags σ _) ∙ is) in
      (found.0, fields_were fields tail found.0 found.1, found.2)

-- ---- functions

-- a function of these parts is there, and each of them
pub record WasFunction (params : Option (List Ground)) (effects : Option EffectSet) (answer : Option Ground) (g : Ground) : Type 0 where
  pub ts : List Ground
  pub s : EffectSet
  pub a : Ground
  pub params_there : params ≡ Some ts
  pub effects_there : effects ≡ Some s
  pub answer_there : answer ≡ Some a
  pub is : g ≡ function_of ts s a

was_function : (params : Option (List Ground)) (effects : Option EffectSet) (answer : Option Ground) (g : Ground) → grounding.function_of params effects answer ≡ Some g → WasFunction params effects answer g
was_function None effects answer g is = let wrong : None ≡ Some g = is in cc
was_function (Some ts) None answer g is = let wrong : None ≡ Some g = is in cc
was_function (Some ts) (Some s) None g is = let wrong : None ≡ Some g = is in cc
was_function (Some ts) (Some s) (Some a) g is = record { ts = ts; s = s; a = a; params_there = refl; effects_there = refl; answer_there = refl; is = same_some (sym is) }

pub record FunctionParts (σ : Grounding) (types : List Ty) (effects : Effects) (t : Ty) (g : Ground) : Type 0 where
  pub ts : List Ground
  pub s : EffectSet
  pub a : Ground
  pub params : Become σ types ts
  pub same : HasEffects σ effects s
  pub answer : under σ t ≡ Some a
  pub is : g ≡ function_of ts s a

pub function_was : (σ : Grounding) (types : List Ty) (effects : Effects) (t : Ty) (g : Ground) → under σ (ty.Fun types effects t) ≡ Some g → FunctionParts σ types effects t g
function_was σ types effects t g is =
    let parts : WasFunction (all_of (map (under σ) types)) (effects_under σ effects) (under σ t) g = was_function _ _ _ g (sym (under_function σ types effects t) ∙ is) in
    record { ts = parts.ts; s = parts.s; a = parts.a; params = all_there (map (under σ) types) parts.ts parts.params_there; same = record { same = parts.effects_there }; answer = parts.answer_there; is = parts.is }
