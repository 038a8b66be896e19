-- Induction over types: what holds of a type where it holds of its parts, and of a row where it holds of the types of its fields,
-- holds of every type and every row.
use Rattle.std.proofs.Common.{ℕ, List, [], ◌∷◌, map, sym, subst}
use Rattle.lk_types.specs.Each.{Each}
use Rattle.lk_types.specs.declared.ty.Effects.{Effects}
use Rattle.lk_types.specs.declared.ty.RowTail.{RowTail}
use Rattle.lk_types.specs.declared.ty.Ty.{Ty, roll-Ty}
use Rattle.lk_types.specs.declared.ty.Ty.TheFolds.{ind-Ty, ind-TyRow, map-Ty}
use Rattle.lk_types.specs.declared.ty.Ty.TheOpen.{Ty-F, TyField-F, TyRow-F}
use Rattle.lk_types.specs.declared.ty.Ty.TheVariants as ty
use Rattle.lk_types.specs.declared.ty.TyField.{TyField, roll-TyField}
use Rattle.lk_types.specs.declared.ty.TyRow.{TyRow, roll-TyRow}

pub record Hereditary (P : Ty → Type 0) (R : TyRow → Type 0) : Type 0 where
  pub at_int : P ty.Int
  pub at_bool : P ty.Bool
  pub at_text : P ty.Text
  pub at_list : (t : Ty) → P t → P (ty.List t)
  pub at_fields : (r : TyRow) → R r → P (ty.Fields r)
  pub at_tags : (r : TyRow) → R r → P (ty.Tags r)
  pub at_function : (params : List Ty) (es : Effects) (answer : Ty) → Each P params → P answer → P (ty.Fun params es answer)
  pub at_variable : (n : ℕ) → P (ty.Var n)
  pub at_row : (fs : List TyField) (tail : RowTail) → Each (λ f. P f.ty) fs → R (roll-TyRow (record { fields = fs; tail = tail }))

module _ (P : Ty → Type 0) (R : TyRow → Type 0) (steps : Hereditary P R) where
  abbrev OfField : TyField → Type 0
  OfField f = P f.ty

  abbrev Such : Type 0
  Such = (t : Ty) × P t

  abbrev SuchRow : Type 0
  SuchRow = (r : TyRow) × R r

  abbrev SuchField : Type 0
  SuchField = (f : TyField) × OfField f

  each_such : (ts : List Such) → Each P (map (λ t. t.0) ts)
  each_such [] = tt
  each_such (t ∷ ts) = (t.1, each_such ts)

  each_field : (fs : List SuchField) → Each (λ f. P f.ty) (map (λ f. f.0) fs)
  each_field [] = tt
  each_field (f ∷ fs) = (f.1, each_field fs)

  abbrev plain_level : Ty-F Such SuchField SuchRow → Ty-F Ty TyField TyRow
  plain_level = map-Ty Such SuchField SuchRow Ty TyField TyRow (λ t. t.0) (λ f. f.0) (λ r. r.0)

  at_level : (y : Ty-F Such SuchField SuchRow) → P (roll-Ty (plain_level y))
  at_level Ty-F.Int = subst P (sym ty.rolls-Int) steps.at_int
  at_level Ty-F.Bool = subst P (sym ty.rolls-Bool) steps.at_bool
  at_level Ty-F.Text = subst P (sym ty.rolls-Text) steps.at_text
  at_level (Ty-F.List t) = subst P (sym (ty.rolls-List t.0)) (steps.at_list t.0 t.1)
  at_level (Ty-F.Fields r) = subst P (sym (ty.rolls-Fields r.0)) (steps.at_fields r.0 r.1)
  at_level (Ty-F.Tags r) = subst P (sym (ty.rolls-Tags r.0)) (steps.at_tags r.0 r.1)
  at_level (Ty-F.Fun ps es t) = subst P (sym (ty.rolls-Fun (map (λ p. p.0) ps) es t.0)) (steps.at_function (map (λ p. p.0) ps) es t.0 (each_such ps) t.1)
  at_level (Ty-F.Var n) = subst P (sym (ty.rolls-Var n)) (steps.at_variable n)

  at_row_level : (y : TyRow-F Such SuchField SuchRow) → R (roll-TyRow (record { fields = map (λ f. f.0) y.fields; tail = y.tail }))
  at_row_level y = steps.at_row (map (λ f. f.0) y.fields) y.tail (each_field y.fields)

  at_field_level : (y : TyField-F Such SuchField SuchRow) → OfField (roll-TyField (record { label = y.label; ty = y.ty.0 }))
  at_field_level y = y.ty.1

  pub every_type : (t : Ty) → P t
  every_type = ind-Ty P OfField R
      (λ x y is. subst (λ z. P (roll-Ty z)) is (at_level y))
      (λ x y is. subst (λ z. OfField (roll-TyField z)) is (at_field_level y))
      (λ x y is. subst (λ z. R (roll-TyRow z)) is (at_row_level y))

  pub every_row : (r : TyRow) → R r
  every_row = ind-TyRow P OfField R
      (λ x y is. subst (λ z. P (roll-Ty z)) is (at_level y))
      (λ x y is. subst (λ z. OfField (roll-TyField z)) is (at_field_level y))
      (λ x y is. subst (λ z. R (roll-TyRow z)) is (at_row_level y))
