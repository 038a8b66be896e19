use Rattle.std.proofs.Common.{◌+◌, ◌*◌}
use Rattle.type_cases.proofs.reader.Reader.+types.Given as goal

-- what stands in brackets has less depth; at one depth parentheses stand above their parts, these above a type, and a type above
-- one that is no list
abbrev pub decreases-item : goal.decreases-item
decreases-item l = l.depth * 6

abbrev pub decreases-ty : goal.decreases-ty
decreases-ty l = l.depth * 6 + 1

abbrev pub decreases-fields : goal.decreases-fields
decreases-fields l = l.depth * 6 + 2

abbrev pub decreases-types : goal.decreases-types
decreases-types l = l.depth * 6 + 2

abbrev pub decreases-function : goal.decreases-function
decreases-function l = l.depth * 6 + 2

abbrev pub decreases-row : goal.decreases-row
decreases-row l = l.depth * 6 + 3

abbrev pub decreases-variant : goal.decreases-variant
decreases-variant l = l.depth * 6 + 4

abbrev pub decreases-record : goal.decreases-record
decreases-record l = l.depth * 6 + 4

abbrev pub decreases-in_parentheses : goal.decreases-in_parentheses
decreases-in_parentheses l = l.depth * 6 + 5
