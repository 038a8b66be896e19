use Rattle.std.proofs.Common.{◌≤◌, ◌∙◌, arith}
use Rattle.std.proofs.lemmas.Str.{IsUtf8-string_bytes}
use Rattle.serde_json.specs.Data.{depth}
use Rattle.serde_json.specs.View.{view}
use Rattle.lk_tables.proofs.Exact.{printed-flat}
use Rattle.lk_tables.proofs.ReadsBack.{printed_back}
use Rattle.lk_tables.proofs.printing.print_tables.Goals as goal

pub returns : goal.returns
returns c =
    let printed = c.in_ok-file.ensures.printed in
    let flat = printed-flat _ _ printed in
    let low : depth (view c.in_ok-file.file) ≤ 3 = flat.low in
    let written = c.in_ok-to_string.ensures in
    record {
      text = (view c.in_ok-file.file, printed, c.from_string.ensures ∙ written.text flat.exact);
      reads_back = printed_back _ _ _ _ printed c.in_ok-file.ensures.words (IsUtf8-string_bytes c.in_ok-to_string.field-0) (written.reads_back (omega (arith, low))) c.from_string.ensures;
    }
