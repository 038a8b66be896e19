use Rattle.std.proofs.Common.{◌≡◌, ℕ, [], ◌∷◌, ◌++◌, drop}
use Rattle.std.specs.List.{filter}
use Rattle.lk_types.specs.Rows.{effects_of}
use Rattle.lk_types.specs.declared.ty.Effect.TheVariants.{Local, Move, Print, Rec, Scan, Trap, Write}
use Rattle.lk_unify.proofs.chain.labels_of.Given as goal
use Rattle.lk_unify.specs.Models.{IsOwn}
use Rattle.lk_unify.specs.Reading.{effects_in, name_in, row_in}
use Rattle.lk_arena.specs.Values.{Value}

abbrev pub invariant-loop-effect : goal.invariant-loop-effect
invariant-loop-effect l =
    (u : ℕ → Value) → IsOwn l.arena.shapes l.arena.classes (name_in l.numbers) u →
    l.labels ++ filter (effects_in (row_in (u l.node))).labels (drop l.effect-index (Local ∷ Move ∷ Print ∷ Rec ∷ Scan ∷ Trap ∷ Write ∷ [])) ≡ effects_of (effects_in (row_in (u l.node))).labels
