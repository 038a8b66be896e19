use Rattle.std.proofs.Common.{[], arith, drop, length, refl, subst, sym, ◌≡◌, ◌+◌, ◌-◌, ◌<◌}
use Rattle.std.proofs.lemmas.Option.{slice_get-get_or}
use Rattle.lk_cps.proofs.Living.{drop_whole, kept_none, kept_step}
use Rattle.lk_cps.proofs.needs.kept_names.Goals as goal
use Rattle.lk_cps.specs.Live.{LiveKept}

pub loop-i-init : goal.loop-i-init
loop-i-init c = λ f. subst (LiveKept f _) (sym c.new-live.ensures) (subst (λ kept. LiveKept f kept []) (sym (drop_whole c.args.kept.now (length c.args.kept.now) refl)) (kept_none f))

pub loop-i-preserved : goal.loop-i-preserved
loop-i-preserved c = λ f.
    let next : c.loop-i.i - 1 + 1 ≡ c.loop-i.i = omega arith in
    let less : c.loop-i.i - 1 < length c.args.kept.now = omega arith in
    kept_step f c.args.kept.now (c.loop-i.i - 1) c.loop-i.i _ c.loop-i.live c.put.new.self next (slice_get-get_or c.args.kept.now (c.loop-i.i - 1) _ less) c.in_ok-put.ensures
    (c.loop-i.invariant f)

pub returns : goal.returns
returns c = λ f.
    let done : c.loop-i.i ≡ 0 = omega arith in
    subst (λ n. LiveKept f (drop n c.args.kept.now) c.loop-i.live) done (c.loop-i.invariant f)
