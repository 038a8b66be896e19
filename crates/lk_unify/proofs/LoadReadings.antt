-- What stands for the variables, read from the values of their nodes.
use Rattle.std.proofs.Common.{ℕ, Option, Some, None}
use Rattle.lk_types.specs.declared.ty.RowTail.TheVariants.{Closed}
use Rattle.lk_types.specs.declared.ty.Ty.{Ty}
use Rattle.lk_types.specs.declared.ty.Ty.TheVariants as ty
use Rattle.lk_types.specs.declared.ty.Variable.TheVariants as variable
use Rattle.lk_unify.specs.Reading.{effects_in}
use Rattle.lk_unify.specs.Loading.{node_for}
use Rattle.lk_arena.specs.Openings.{OpenRow, Opening, only_tail}
use Rattle.lk_arena.specs.Values.{Value, Plain, OfRow}
use Rattle.lk_unify.specs.declared.loader.Loader.{Loader}

type_in : Value → Ty
type_in (Plain t) = t
type_in (OfRow row) = ty.Int

row_in : Value → OpenRow
row_in (Plain t) = only_tail Closed
row_in (OfRow row) = row

at : (ℕ → Value) → Option ℕ → Value
at v None = OfRow (only_tail Closed)
at v (Some n) = v n

-- what stands for each variable
pub reading : Loader → (ℕ → Value) → Opening
reading l v = record {
  plain = λ n. type_in (at v (node_for l (variable.Plain n)));
  rows = λ n. row_in (at v (node_for l (variable.Row n)));
  effects = λ n. effects_in (row_in (at v (node_for l (variable.Effects n))));
}
