use Rattle.std.proofs.Common.{[], arith, drop, length, refl, subst, sym, ◌≡◌, ◌+◌, ◌-◌, ◌<◌}
use Rattle.std.proofs.lemmas.Option.{slice_get-get_or}
use Rattle.lk_cps.proofs.Living.{captured_none, captured_step, drop_whole}
use Rattle.lk_cps.proofs.needs.captured.Goals as goal
use Rattle.lk_cps.specs.Live.{LiveCaptured}

pub loop-i-init : goal.loop-i-init
loop-i-init c =
    subst (LiveCaptured c.args.table.now c.args.label _) (sym c.new-live.ensures)
    (subst (λ names. LiveCaptured c.args.table.now c.args.label names []) (sym (drop_whole c.args.names.now (length c.args.names.now) refl)) (captured_none c.args.table.now c.args.label))

pub loop-i-preserved : goal.loop-i-preserved
loop-i-preserved c =
    let next : c.loop-i.i - 1 + 1 ≡ c.loop-i.i = omega arith in
    let less : c.loop-i.i - 1 < length c.args.names.now = omega arith in
    captured_step c.args.table.now c.args.label c.args.names.now (c.loop-i.i - 1) c.loop-i.i _ c.in_ok-ty.ty c.loop-i.live c.put.new.self next
    (slice_get-get_or c.args.names.now (c.loop-i.i - 1) _ less) c.in_ok-put.ensures c.in_ok-ty.ensures c.loop-i.invariant

pub returns : goal.returns
returns c =
    let done : c.loop-i.i ≡ 0 = omega arith in
    subst (λ n. LiveCaptured c.args.table.now c.args.label (drop n c.args.names.now) c.loop-i.live) done c.loop-i.invariant
