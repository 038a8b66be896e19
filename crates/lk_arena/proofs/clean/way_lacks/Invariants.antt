use Rattle.std.proofs.Common.{◌<◌, length}
use Rattle.lk_arena.proofs.clean.way_lacks.Given as goal
use Rattle.lk_arena.specs.Ways.{LacksAlong}

abbrev pub invariant-loop-row : goal.invariant-loop-row
invariant-loop-row l = record {
  below : l.at < length l.arena.shapes;
  lacks : LacksAlong l.arena.shapes l.arena.classes l.labels l.at → LacksAlong l.arena.shapes l.arena.classes l.labels l.from;
}
