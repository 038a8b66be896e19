use Rattle.lk_print.proofs.Quoted.{quoted_utf8}
use Rattle.lk_print.proofs.text_literal.write_text.Goals as goal

pub unreachable-requires : goal.unreachable-requires
unreachable-requires c = c.in-Err.ensures.cases.0 (rw c.as_slice.ensures.value (rw c.in_ok-bytes.ensures (rw c.as_bytes.ensures.value (quoted_utf8 c.args.text.now c.utf8.text))))
