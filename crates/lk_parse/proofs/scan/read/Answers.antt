use Rattle.lk_parse.proofs.Passes.{at_start, at_piece, at_end, at_bad}
use Rattle.lk_parse.proofs.scan.read.Goals as goal

pub loop-at-init : goal.loop-at-init
loop-at-init c = rw c.new-tokens.ensures (at_start c.args.text.now c.utf8.text)

pub returns-in_default-clause-refused : goal.returns-in_default-clause-refused
returns-in_default-clause-refused c = (
  c.requires,
  c.utf8.text,
  at_bad c.args.text.now c.range_from-rest.result.now c.loop-at.tokens c.loop-at.at c.first_len.result c.loop-at.invariant c.range_from-rest.ensures.value (rw c.in_default.is at c.in_ok-piece.ensures) c.first_len.ensures,
)

pub loop-at-preserved : goal.loop-at-preserved
loop-at-preserved c = at_piece c.args.text.now c.range_from-rest.result.now c.loop-at.tokens c.add.new.tokens c.loop-at.at c.in-Some.piece c.loop-at.invariant c.range_from-rest.ensures.value (rw c.in-Some.is at c.in_ok-piece.ensures) c.in_ok-add.ensures

pub returns-clause-found : goal.returns-clause-found
returns-clause-found c = at_end c.args.text.now c.loop-at.tokens c.loop-at.at c.loop-at-test.false c.loop-at.invariant
