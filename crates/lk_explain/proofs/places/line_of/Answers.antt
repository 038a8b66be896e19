use Rattle.std.proofs.Common.{◌∙◌}
use Rattle.lk_explain.proofs.Lines.{within_line, starts_char, ends_char, line_cut_out}
use Rattle.lk_explain.proofs.places.line_of.Goals as goal

pub range-requires-clause-start_boundary : goal.range-requires-clause-start_boundary
range-requires-clause-start_boundary c =
    starts_char _ _ _ _ c.utf8.text
    (within_line _ _ _ _ _ _ _ _ c.as_bytes-bytes.ensures.value c.min-place.ensures c.bytes_before.ensures c.bytes_from.ensures c.len_behind_feed.ensures.len c.len_before_end.ensures.len)

pub range-requires-clause-end_boundary : goal.range-requires-clause-end_boundary
range-requires-clause-end_boundary c =
    ends_char _ _ _ _
    (within_line _ _ _ _ _ _ _ _ c.as_bytes-bytes.ensures.value c.min-place.ensures c.bytes_before.ensures c.bytes_from.ensures c.len_behind_feed.ensures.len c.len_before_end.ensures.len)

pub returns : goal.returns
returns c =
    c.range.ensures.value
    ∙ line_cut_out _ _ _ _ _ _ c.as_bytes-bytes.ensures.value c.min-place.ensures
    (within_line _ _ _ _ _ _ _ _ c.as_bytes-bytes.ensures.value c.min-place.ensures c.bytes_before.ensures c.bytes_from.ensures c.len_behind_feed.ensures.len c.len_before_end.ensures.len)
