use Rattle.std.proofs.Common.{◌≡◌, drop, map}
use Rattle.lk_types.specs.declared.levels.LevelField.{LevelField}
use Rattle.lk_types.specs.declared.ty.RowTail.TheVariants as tail
use Rattle.lk_infer.specs.Lacks.{tail_lacks}
use Rattle.lk_infer.specs.LacksInOrder.{with_lacks}
use Rattle.lk_infer.proofs.lacks.insert_level_labels.Given as goal

abbrev pub invariant-loop-field : goal.invariant-loop-field
invariant-loop-field l =
    with_lacks l.found (tail_lacks (map (λ (f : LevelField). f.label) (drop l.field-index l.fields)) (tail.Var l.fn.var))
    ≡ with_lacks l.fn.found (tail_lacks (map (λ (f : LevelField). f.label) l.fields) (tail.Var l.fn.var))
