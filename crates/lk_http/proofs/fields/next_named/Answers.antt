use Rattle.lk_http.proofs.Named.{named_behind, named_here}
use Rattle.lk_http.proofs.fields.next_named.Goals as goal

pub returns-then-eq_ignore_ascii_case-clause-some : goal.returns-then-eq_ignore_ascii_case-clause-some
returns-then-eq_ignore_ascii_case-clause-some c =
    named_here c.args.head.now c.args.name.now c.args.fields.now c.loop-i.i (record { name = record { start = 0; end = 0 }; value = record { start = 0; end = 0 } }) c.loop-i-test.true _ _ _ c.loop-i.invariant c.of.ensures c.of-then-eq_ignore_ascii_case.ensures c.as_bytes.ensures.value
    (c.eq_ignore_ascii_case.ensures.test.0 c.if-eq_ignore_ascii_case.true)

pub loop-i-preserved : goal.loop-i-preserved
loop-i-preserved c =
    named_behind c.args.head.now c.args.name.now c.args.fields.now c.loop-i.i (record { name = record { start = 0; end = 0 }; value = record { start = 0; end = 0 } }) c.loop-i-test.true _ _ c.loop-i.invariant c.of.ensures c.as_bytes.ensures.value
    (λ same. let yes = c.eq_ignore_ascii_case.ensures.test.1 same in let no_ = c.if-eq_ignore_ascii_case.false in cc)
