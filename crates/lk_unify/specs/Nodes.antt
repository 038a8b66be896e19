-- How many nodes types, rows and effects have, where the end of a closed row counts `closed`. With 0 it is how large they are.
use Rattle.std.specs.Prelude.{ℕ, ◌+◌, length}
use Rattle.lk_types.specs.declared.ty.Effects.{Effects}
use Rattle.lk_types.specs.declared.ty.RowTail.{RowTail}
use Rattle.lk_types.specs.declared.ty.RowTail.TheVariants.{Closed, Var}
use Rattle.lk_types.specs.declared.ty.Ty.{Ty, fold-Ty}
use Rattle.lk_types.specs.declared.ty.Ty.TheOpen.{Ty-F, TyField-F, TyRow-F}
use Rattle.lk_types.specs.declared.ty.TyRow.{TyRow, fold-TyRow}
use Rattle.lk_arena.specs.Counting.{sum_of}
use Rattle.lk_arena.specs.Kinds.{Kind, OfTypes, OfFields, OfEffects}
use Rattle.lk_arena.specs.Openings.{row_type}
use Rattle.lk_arena.specs.Values.{Value, Plain, OfRow}
use Rattle.std.specs.FinMap as fin

module _ (closed : ℕ) where
  abbrev pub end_count : RowTail → ℕ
  end_count Closed = closed
  end_count (Var n) = 1

  abbrev pub effects_count : Effects → ℕ
  effects_count es = length es.labels + end_count es.tail

  abbrev pub count_level : Ty-F ℕ ℕ ℕ → ℕ
  count_level (Ty-F.List t) = 1 + t
  count_level (Ty-F.Fields row) = 1 + row
  count_level (Ty-F.Tags row) = 1 + row
  count_level (Ty-F.Fun params es answer) = 1 + (sum_of params + (effects_count es + answer))
  count_level _ = 1

  abbrev pub row_count_level : TyRow-F ℕ ℕ ℕ → ℕ
  row_count_level row = sum_of row.fields + end_count row.tail

  abbrev pub field_count_level : TyField-F ℕ ℕ ℕ → ℕ
  field_count_level f = 1 + f.ty

unfoldable pub count : ℕ → Ty → ℕ
count closed = fold-Ty ℕ ℕ ℕ (count_level closed) (field_count_level closed) (row_count_level closed)

unfoldable pub row_count : ℕ → TyRow → ℕ
row_count closed = fold-TyRow ℕ ℕ ℕ (count_level closed) (field_count_level closed) (row_count_level closed)

-- what the value of a node of this kind counts; of effects each counts one
abbrev pub value_count : ℕ → Kind → Value → ℕ
value_count closed OfTypes (Plain t) = count closed t
value_count closed OfFields (OfRow m) = row_count closed (row_type m)
value_count closed OfEffects (OfRow m) = length (fin.entries m.fields) + end_count closed m.tail
value_count closed _ x = 0
