use Rattle.std.proofs.Common.{◌<◌, length, true, sym, ◌∙◌, arith}
use Rattle.std.proofs.lemmas.List.{get_or_read}
use Rattle.lk_arena.proofs.Ways.{unmarked-set}
use Rattle.lk_arena.proofs.clean.way_down.Goals as goal

pub down-smaller : goal.down-smaller
down-smaller c =
    let n = c.down.invariant.count in
    let b = c.down.invariant.name.0 in
    let l : c.down.at < length c.down.seen.items = omega arith in
    unmarked-set c.down.seen.items c.down.at l (sym (get_or_read c.down.seen.items c.down.at c.index.result.now l c.index.ensures true) ∙ c.if-index.false)
