-- Of what parts a type or a row is made that means something.
use Rattle.std.proofs.Common.{◌≡◌, List, [], ◌∷◌, map, refl, sym, ap, ◌∙◌, Option, Some, None}
use Rattle.std.specs.FinMap as fin
use Rattle.std.specs.Option.{option_map}
use Rattle.std.specs.Prelude.{is_some, if◌then◌else◌}
use Rattle.lk_types.proofs.Unfold.{under_field}
use Rattle.lk_types.specs.Grounding.{Grounding, all_of, before_row, field_under, function_of, row_tail, row_under, under}
use Rattle.lk_types.specs.Rows.{EffectSet, Label, Row, effects_of, with_field}
use Rattle.lk_types.specs.declared.ground.Ground.{Ground}
use Rattle.lk_types.specs.declared.ground.Ground.TheVariants as known
use Rattle.lk_types.specs.declared.ty.RowTail.{RowTail}
use Rattle.lk_types.specs.declared.ty.Ty.TheFolds.{the_lemmas}
use Rattle.lk_types.specs.declared.ty.TyField.{TyField}
use Rattle.lk_types.specs.declared.ty.TyRow.{roll-TyRow}

pub same_some : {A : Type 0} {x y : A} → Some x ≡ Some y → x ≡ y
same_some e = cc

pub mapped : {A B : Type 0} (f : A → B) (o : Option A) (b : B) → option_map f o ≡ Some b → (a : A) × (o ≡ Some a) × (b ≡ f a)
mapped f None b e = cc
mapped f (Some a) b e = (a, refl, sym (same_some e))

pub all_some : {A : Type 0} (o : Option A) (os : List (Option A)) (found : List A) → all_of (o ∷ os) ≡ Some found
    → (a : A) × (rest : List A) × (o ≡ Some a) × (all_of os ≡ Some rest) × (found ≡ a ∷ rest)
all_some None os found e = cc
all_some (Some a) os found e = let m = mapped (λ more. a ∷ more) (all_of os) found e in (a, m.0, refl, m.1, m.2)

pub function_some : (o : Option (List Ground)) (p : Option EffectSet) (q : Option Ground) (g : Ground) → function_of o p q ≡ Some g
    → (ts : List Ground) × (s : EffectSet) × (t : Ground) × (o ≡ Some ts) × (p ≡ Some s) × (q ≡ Some t) × (g ≡ known.Fun ts (effects_of s) t)
function_some None p q g e = cc
function_some (Some ts) None q g e = cc
function_some (Some ts) (Some s) None g e = cc
function_some (Some ts) (Some s) (Some t) g e = (ts, s, t, refl, refl, refl, sym (same_some e))

-- what a row with one field more is
pub with_one : (l : Label) (o : Option Ground) (p : Option Row) (x : Row) → with_field l o p ≡ Some x
    → (t : Ground) × (m : Row) × (o ≡ Some t) × (p ≡ Some m) × (fin.get m l ≡ None) × (x ≡ fin.insert m l t)
with_one l None p x e = cc
with_one l (Some t) None x e = cc
with_one l (Some t) (Some m) x e = by_test (fin.get m l) refl e
  where
    by_test : (o : Option Ground) → fin.get m l ≡ o → (if is_some o then None else Some (fin.insert m l t)) ≡ Some x
        → (u : Ground) × (n : Row) × (Some t ≡ Some u) × (Some m ≡ Some n) × (fin.get n l ≡ None) × (x ≡ fin.insert n l u)
    by_test (Some g) is e = cc
    by_test None is e = (t, m, refl, refl, is, sym (same_some e))

module _ (τ : Grounding) where
  pub row_as_fields : (fields : List TyField) (tail : RowTail) → row_under τ (roll-TyRow (record { fields = fields; tail = tail })) ≡ before_row (map (field_under τ) fields) (row_tail τ tail)
  unfolding row_under field_under
  row_as_fields fields tail = search the_lemmas

  each_under : (fs : List TyField) → map (field_under τ) fs ≡ map (λ f. (f.label, under τ f.ty)) fs
  each_under [] = refl
  each_under (f ∷ fs) = λ i. under_field τ f i ∷ each_under fs i

  pub row_rolled : (fields : List TyField) (tail : RowTail)
      → row_under τ (roll-TyRow (record { fields = fields; tail = tail })) ≡ before_row (map (λ f. (f.label, under τ f.ty)) fields) (row_tail τ tail)
  row_rolled fields tail = row_as_fields fields tail ∙ ap (λ fs. before_row fs (row_tail τ tail)) (each_under fields)
