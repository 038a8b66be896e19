use Rattle.std.proofs.Common.{◌≡◌, ℕ, take}
use Rattle.lk_unify.proofs.reading.read_all.Given as goal
use Rattle.lk_unify.specs.Models.{IsOwn}
use Rattle.lk_unify.specs.Reading.{name_in, subst_of}
use Rattle.lk_arena.specs.Values.{Value}

abbrev pub invariant-loop-variable : goal.invariant-loop-variable
invariant-loop-variable l =
    (u : ℕ → Value) → IsOwn l.loader.arena.shapes l.loader.arena.classes (name_in l.numbers) u → l.binds ≡ (subst_of (take l.variable-index l.variables) l.loader u).binds
