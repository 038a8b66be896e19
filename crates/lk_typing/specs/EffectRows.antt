-- Why no scheme names an effect that one of its variables lacks. In a walk all rows of effects with one tail have the same
-- effects before it, if it is so in each scheme that it uses. Then it rules nothing out that a row has no effect twice: who
-- reads such a row as the union of its effects and what stands for its tail finds the same types.
use Rattle.std.specs.Prelude.{◌≡◌, ℕ, false, ◌||◌, List, [], ◌∷◌, ◌++◌, Option, Some, IsSome, flat_map, if◌then◌else◌}
use Rattle.std.specs.List.{list_any}
use Rattle.lk_ast.specs.declared.declaration.Decl.{Decl}
use Rattle.lk_ast.specs.declared.declaration.TableDecl.{TableDecl}
use Rattle.lk_types.specs.Each.{Each}
use Rattle.lk_types.specs.Grounding.{Grounding, Known, all_of, before_effects, effect_tail, function_of, under, ty_level, field_level, row_level}
use Rattle.lk_types.specs.Rows.{Row, EffectSet, no_effects, same_effect}
use Rattle.lk_types.specs.declared.equation.Equation.{Equation}
use Rattle.lk_types.specs.declared.ground.Ground.{Ground}
use Rattle.lk_types.specs.declared.scheme.Scheme.{Scheme}
use Rattle.lk_types.specs.declared.ty.Effect.{Effect}
use Rattle.lk_types.specs.declared.ty.Effects.{Effects}
use Rattle.lk_types.specs.declared.ty.RowTail.{RowTail}
use Rattle.lk_types.specs.declared.ty.RowTail.TheVariants.{Closed, Var}
use Rattle.lk_types.specs.declared.ty.Ty.{Ty, fold-Ty}
use Rattle.lk_types.specs.declared.ty.Ty.TheOpen.{Ty-F, TyField-F, TyRow-F}
use Rattle.lk_typing.specs.Groups.{group_types, group_walked}
use Rattle.lk_typing.specs.Names.{Named}
use Rattle.lk_typing.specs.Steps.{equation_of, Meets}
use Rattle.lk_typing.specs.declared.step.Said.{Said}
use Rattle.lk_typing.specs.declared.step.Said.TheVariants.{Same, Typed}
use Rattle.lk_typing.specs.declared.step.Step.{Step}

-- ---- rows of effects in types

abbrev pub ty_rows : Ty-F (List Effects) (List Effects) (List Effects) → List Effects
ty_rows (Ty-F.List t) = t
ty_rows (Ty-F.Fields row) = row
ty_rows (Ty-F.Tags row) = row
ty_rows (Ty-F.Fun params es answer) = flat_map (λ rows. rows) params ++ (es ∷ answer)
ty_rows _ = []

abbrev pub row_rows : TyRow-F (List Effects) (List Effects) (List Effects) → List Effects
row_rows row = flat_map (λ rows. rows) row.fields

abbrev pub field_rows : TyField-F (List Effects) (List Effects) (List Effects) → List Effects
field_rows f = f.ty

-- all rows of effects in a type
unfoldable pub rows_of : Ty → List Effects
rows_of = fold-Ty (List Effects) (List Effects) (List Effects) ty_rows field_rows row_rows

-- the effects before a tail, none of them there twice, are those
abbrev pub HasBefore : (ℕ → EffectSet) → List Effect → RowTail → Type 0
HasBefore before labels Closed = IsSome (before_effects labels no_effects)
HasBefore before labels (Var n) = before_effects labels no_effects ≡ Some (before n)

abbrev pub IsEven : (ℕ → EffectSet) → Ty → Type 0
IsEven before t = Each (λ es. HasBefore before es.labels es.tail) (rows_of t)

abbrev pub IsEvenSaid : (ℕ → EffectSet) → Said → Type 0
IsEvenSaid before (Same equation) = IsEven before equation.left × IsEven before equation.right
IsEvenSaid before (Typed n t) = IsEven before t

abbrev pub AreEven : (ℕ → EffectSet) → List Step → Type 0
AreEven before steps = Each (λ step. IsEvenSaid before step.said) steps

abbrev pub IsEvenScheme : Scheme → Type 0
IsEvenScheme scheme = (before : ℕ → EffectSet) × IsEven before scheme.body

-- ---- rows of effects as unions

abbrev pub union : List Effect → EffectSet → EffectSet
union labels s e = list_any (same_effect e) labels || s e

abbrev pub loose_level : Grounding → Ty-F (Option Ground) Known (Option Row) → Option Ground
loose_level σ (Ty-F.Fun params es answer) = function_of (all_of params) (Some (union es.labels (effect_tail σ es.tail))) answer
loose_level σ other = ty_level σ other

-- what a type becomes where an effect may stand before a tail that has it too
unfoldable pub loosely : Grounding → Ty → Option Ground
loosely σ = fold-Ty (Option Ground) Known (Option Row) (loose_level σ) (field_level σ) (row_level σ)

abbrev pub IsMetLoosely : Grounding → Equation → Type 0
IsMetLoosely σ equation = (t : Ground) × (loosely σ equation.left ≡ Some t) × (loosely σ equation.right ≡ Some t)

abbrev pub HoldsLoosely : Grounding → Said → Type 0
HoldsLoosely σ said = IsMetLoosely σ (equation_of said)

abbrev pub MeetsLoosely : Grounding → List Step → Type 0
MeetsLoosely σ steps = Each (λ step. HoldsLoosely σ step.said) steps

-- what stands for tails, without the effects that stand before them
abbrev pub apart : (ℕ → EffectSet) → Grounding → Grounding
apart before σ = record { plain = σ.plain; rows = σ.rows; effects = λ n e. if before n e then false else σ.effects n e }

-- ---- the law

pub record EffectsLaw : Type 0 where
  -- in a walk all rows of effects with one tail have the same effects before it
  pub even : (earlier : Named Scheme) (tables : List TableDecl) (decl : Decl) → Each (λ entry. IsEvenScheme entry.1) earlier
      → (before : ℕ → EffectSet) × AreEven before (group_walked earlier tables decl).steps × Each (IsEven before) (group_types decl)
  -- where it is so, what holds of unions holds of rows, and the types are the same
  pub same : (before : ℕ → EffectSet) (σ : Grounding) (t : Ty) → IsEven before t → under (apart before σ) t ≡ loosely σ t
  pub holds : (before : ℕ → EffectSet) (σ : Grounding) (steps : List Step) → AreEven before steps → MeetsLoosely σ steps → Meets (apart before σ) steps
