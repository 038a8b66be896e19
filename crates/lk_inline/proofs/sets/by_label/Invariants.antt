use Rattle.std.proofs.Common.{◌≡◌}
use Rattle.std.specs.Iterator.Adapters.{rev_source}
use Rattle.std.specs.Slice.Iter.{iter_rest}
use Rattle.lk_inline.proofs.SetMaps.{put_all}
use Rattle.lk_inline.specs.Sets.{parts_by_label}
use Rattle.lk_inline.proofs.sets.by_label.Given as goal

abbrev pub invariant-loop-item : goal.invariant-loop-item
invariant-loop-item l = put_all (iter_rest (rev_source l.item-iterator)) l.parts ≡ parts_by_label l.items
