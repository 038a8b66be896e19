use Rattle.std.proofs.Common.{ap, sym, ◌∙◌}
use Rattle.lk_mono.specs.declared.member.Member.{Member}
use Rattle.lk_mono.proofs.Lookups.{place_put}
use Rattle.lk_mono.proofs.member.places_by_name.Goals as goal

pub loop-place-preserved : goal.loop-place-preserved
loop-place-preserved c = λ name.
    place_put c.args.members.now c.loop-place.place c.index-members-place.result _ c.loop-place.places c.insert.new.self c.loop-place-test.true c.loop-place.auto.place c.index-members-place.is
    (c.as_str.ensures ∙ sym (ap (λ (m : Member). m.function.now.name.text) c.index-members-place.is)) c.in_ok-insert.ensures.updates name
    ∙ c.loop-place.invariant name
