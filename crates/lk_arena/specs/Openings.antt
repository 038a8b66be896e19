-- Types put for variables. A row of types with an end is a finite map from labels to types and a tail, and a set of effects with an
-- end is a set and a tail, so that the order of fields says nothing and no label is there twice. What a type becomes has its fields
-- and its effects in byte order. Ground types are those without variables.
use Rattle.std.specs.FinMap as fin
use Rattle.std.specs.Option.{option_map}
use Rattle.std.specs.Prelude.{◌≡◌, ℕ, List, [], ◌∷◌, map, Option, Some, None, if◌then◌else◌}
use Rattle.lk_types.specs.Each.{Each}
use Rattle.lk_types.specs.Grounding.{Grounding, under, row_under, effects_under, all_of, before_effects}
use Rattle.lk_types.specs.Rows.{Label, Row, EffectSet, label_order, no_effects, effects_of}
use Rattle.lk_types.specs.declared.equation.Equation.{Equation}
use Rattle.lk_types.specs.declared.ground.Ground.{Ground, fold-Ground}
use Rattle.lk_types.specs.declared.ground.Ground.TheOpen.{Ground-F, GroundField-F}
use Rattle.lk_types.specs.declared.ty.Effect.{Effect}
use Rattle.lk_types.specs.declared.ty.Effects.{Effects}
use Rattle.lk_types.specs.declared.ty.RowTail.{RowTail}
use Rattle.lk_types.specs.declared.ty.RowTail.TheVariants.{Closed, Var}
use Rattle.lk_types.specs.declared.ty.Ty.{Ty, fold-Ty}
use Rattle.lk_types.specs.declared.ty.Ty.TheOpen.{Ty-F, TyField-F, TyRow-F}
use Rattle.lk_types.specs.declared.ty.Ty.TheVariants as ty
use Rattle.lk_types.specs.declared.ty.TyField.{TyField}
use Rattle.lk_types.specs.declared.ty.TyRow.{TyRow, fold-TyRow, roll-TyRow}
use Rattle.lk_types.specs.declared.ty.Variable.{Variable}
use Rattle.lk_types.specs.declared.ty.Variable.TheVariants as variable

pub record OpenRow : Type 0 where
  pub fields : fin.FinMap label_order Ty
  pub tail : RowTail

pub record OpenEffects : Type 0 where
  pub labels : EffectSet
  pub tail : RowTail

-- the row that is nothing but this end, and the effects that are
abbrev pub only_tail : RowTail → OpenRow
only_tail tail = record { fields = fin.empty; tail = tail }

abbrev pub only_effects_tail : RowTail → OpenEffects
only_effects_tail tail = record { labels = no_effects; tail = tail }

abbrev pub field_type : Label × Ty → TyField
field_type e = record { label = e.0; ty = e.1 }

-- the row with its fields in byte order of their labels, and the effects in byte order
abbrev pub row_type : OpenRow → TyRow
row_type row = roll-TyRow (record { fields = map field_type (fin.entries row.fields); tail = row.tail })

abbrev pub effects_type : OpenEffects → Effects
effects_type s = record { labels = effects_of s.labels; tail = s.tail }

-- the type of the record without fields
abbrev pub unit_type : Ty
unit_type = ty.Fields (roll-TyRow (record { fields = []; tail = Closed }))

-- ---- what is put for variables

pub record Opening : Type 0 where
  pub plain : ℕ → Ty
  pub rows : ℕ → OpenRow
  pub effects : ℕ → OpenEffects

-- a field with what its type becomes, if anything
abbrev pub Opened : Type 0
Opened = Label × Option Ty

-- the row with one field more, where there are both and the row lacks the label
abbrev pub with_opened : Label → Option Ty → Option OpenRow → Option OpenRow
with_opened l (Some t) (Some row) = if fin.contains_key row.fields l then None else Some (record { fields = fin.insert row.fields l t; tail = row.tail })
with_opened l _ _ = None

-- the row with these fields before it, where no label is there twice
abbrev pub before_open : List Opened → OpenRow → Option OpenRow
before_open [] row = Some row
before_open (f ∷ fs) row = with_opened f.0 f.1 (before_open fs row)

-- the effects with these before them, where none is there twice
abbrev pub before_open_effects : List Effect → OpenEffects → Option OpenEffects
before_open_effects es s = option_map (λ labels. record { labels = labels; tail = s.tail }) (before_effects es s.labels)

abbrev pub open_function : Option (List Ty) → Option OpenEffects → Option Ty → Option Ty
open_function (Some params) (Some s) (Some answer) = Some (ty.Fun params (effects_type s) answer)
open_function _ _ _ = None

module _ (ρ : Opening) where
  abbrev pub tail_opened : RowTail → OpenRow
  tail_opened Closed = only_tail Closed
  tail_opened (Var n) = ρ.rows n

  abbrev pub effects_tail_opened : RowTail → OpenEffects
  effects_tail_opened Closed = only_effects_tail Closed
  effects_tail_opened (Var n) = ρ.effects n

  abbrev pub effects_opened : Effects → Option OpenEffects
  effects_opened es = before_open_effects es.labels (effects_tail_opened es.tail)

  -- one level of a type, what stands inside being known already
  abbrev pub opened_level : Ty-F (Option Ty) Opened (Option OpenRow) → Option Ty
  opened_level Ty-F.Int = Some ty.Int
  opened_level Ty-F.Bool = Some ty.Bool
  opened_level Ty-F.Text = Some ty.Text
  opened_level (Ty-F.List t) = option_map ty.List t
  opened_level (Ty-F.Fields row) = option_map (λ m. ty.Fields (row_type m)) row
  opened_level (Ty-F.Tags row) = option_map (λ m. ty.Tags (row_type m)) row
  opened_level (Ty-F.Fun params es answer) = open_function (all_of params) (effects_opened es) answer
  opened_level (Ty-F.Var n) = Some (ρ.plain n)

  abbrev pub opened_row_level : TyRow-F (Option Ty) Opened (Option OpenRow) → Option OpenRow
  opened_row_level row = before_open row.fields (tail_opened row.tail)

  abbrev pub opened_field_level : TyField-F (Option Ty) Opened (Option OpenRow) → Opened
  opened_field_level f = (f.label, f.ty)

-- the type that it becomes, where no row in it gets a label twice
unfoldable pub opened : Opening → Ty → Option Ty
opened ρ = fold-Ty (Option Ty) Opened (Option OpenRow) (opened_level ρ) (opened_field_level ρ) (opened_row_level ρ)

unfoldable pub row_opened : Opening → TyRow → Option OpenRow
row_opened ρ = fold-TyRow (Option Ty) Opened (Option OpenRow) (opened_level ρ) (opened_field_level ρ) (opened_row_level ρ)

-- both sides become one type
abbrev pub IsOpenMet : Opening → Equation → Type 0
IsOpenMet ρ e = (t : Ty) × (opened ρ e.left ≡ Some t) × (opened ρ e.right ≡ Some t)

abbrev pub OpenSolves : Opening → List Equation → Type 0
OpenSolves ρ equations = Each (IsOpenMet ρ) equations

-- ---- ground types as types

abbrev pub ground_level : Ground-F Ty TyField → Ty
ground_level Ground-F.Int = ty.Int
ground_level Ground-F.Bool = ty.Bool
ground_level Ground-F.Text = ty.Text
ground_level (Ground-F.List t) = ty.List t
ground_level (Ground-F.Fields fs) = ty.Fields (roll-TyRow (record { fields = fs; tail = Closed }))
ground_level (Ground-F.Tags fs) = ty.Tags (roll-TyRow (record { fields = fs; tail = Closed }))
ground_level (Ground-F.Fun params es answer) = ty.Fun params (record { labels = es; tail = Closed }) answer

abbrev pub ground_field_level : GroundField-F Ty TyField → TyField
ground_field_level f = record { label = f.label; ty = f.ty }

unfoldable pub as_type : Ground → Ty
as_type = fold-Ground Ty TyField ground_level ground_field_level

abbrev pub as_entry : Label × Ground → Label × Ty
as_entry e = (e.0, as_type e.1)

abbrev pub as_row : Row → OpenRow
as_row m = record { fields = fin.from_entries (map as_entry (fin.entries m)); tail = Closed }

abbrev pub as_effects : EffectSet → OpenEffects
as_effects s = record { labels = s; tail = Closed }

abbrev pub as_opening : Grounding → Opening
as_opening σ = record { plain = λ n. as_type (σ.plain n); rows = λ n. as_row (σ.rows n); effects = λ n. as_effects (σ.effects n) }

-- at this variable σ is ρ and then τ
abbrev pub OpensTo : Grounding → Opening → Grounding → Variable → Type 0
OpensTo τ ρ σ (variable.Plain n) = under τ (ρ.plain n) ≡ Some (σ.plain n)
OpensTo τ ρ σ (variable.Row n) = row_under τ (row_type (ρ.rows n)) ≡ Some (σ.rows n)
OpensTo τ ρ σ (variable.Effects n) = effects_under τ (effects_type (ρ.effects n)) ≡ Some (σ.effects n)
