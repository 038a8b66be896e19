use Rattle.std.proofs.Common.{sym, ◌∙◌}
use Rattle.std.proofs.lemmas.List.{take_rest}
use Rattle.lk_parse.proofs.Content.{so_far_more, closes_here}
use Rattle.lk_parse.proofs.literals.content.Goals as goal

pub loop-byte-preserved : goal.loop-byte-preserved
loop-byte-preserved c = so_far_more _ _ _ _ _ _ _ c.loop-byte.invariant (take_rest c.args.bytes.now c.loop-byte.len) c.in-Some.ensures c.in_ok-push.ensures.items

pub returns-in-Some-eq34 : goal.returns-in-Some-eq34
returns-in-Some-eq34 c =
    let inside = c.in-Some-eq34.ensures.lookup.3 in
    closes_here _ _ _ c.loop-byte.invariant inside.0 (sym (inside.1 0) ∙ c.in-Some-eq34.field-0-test)
