use Rattle.std.proofs.Common.{◌≡◌, drop, map}
use Rattle.httparse.specs.Spans.{header_bytes}
use Rattle.lk_http.specs.Fields.{values_in}
use Rattle.lk_http.proofs.fields.next_named.Given as goal

-- what is left of the fields has the values of all
abbrev pub invariant-loop-i : goal.invariant-loop-i
invariant-loop-i l = values_in l.name (map (header_bytes l.head) (drop l.i l.fields)) ≡ values_in l.name (map (header_bytes l.head) l.fields)
