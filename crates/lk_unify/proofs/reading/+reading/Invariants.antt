use Rattle.std.proofs.Common.{◌≡◌, ℕ, ◌+◌, ◌*◌, ◌++◌, drop, map}
use Rattle.lk_unify.proofs.reading.+reading.Given as goal
use Rattle.lk_unify.specs.Models.{IsOwn}
use Rattle.lk_unify.specs.Reading.{as_open, name_in, type_in, with_fields}
use Rattle.lk_arena.specs.Values.{Value}

-- A part is read with less fuel than the whole.
abbrev pub decreases-read_type : goal.decreases-read_type
decreases-read_type l = l.fuel * 4

abbrev pub decreases-read_made : goal.decreases-read_made
decreases-read_made l = l.fuel * 4 + 2

abbrev pub decreases-read_types : goal.decreases-read_types
decreases-read_types l = l.fuel * 4 + 1

abbrev pub decreases-make_row : goal.decreases-make_row
decreases-make_row l = l.fuel * 4

abbrev pub decreases-read_row : goal.decreases-read_row
decreases-read_row l = l.fuel * 4 + 1

abbrev pub decreases-read_fields : goal.decreases-read_fields
decreases-read_fields l = l.fuel * 4 + 1

abbrev pub invariant-read_types-loop-node : goal.invariant-read_types-loop-node
invariant-read_types-loop-node l =
    (u : ℕ → Value) → IsOwn l.arena.shapes l.arena.classes (name_in l.numbers) u →
    l.types ++ map (λ p. type_in (u p)) (drop l.node-index l.nodes) ≡ map (λ p. type_in (u p)) l.nodes

abbrev pub invariant-read_fields-loop-i : goal.invariant-read_fields-loop-i
invariant-read_fields-loop-i l =
    (u : ℕ → Value) → IsOwn l.arena.shapes l.arena.classes (name_in l.numbers) u → as_open l.row ≡ with_fields (drop l.i l.own) u (as_open l.initial.row)
