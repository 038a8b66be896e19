use Rattle.std.proofs.Common.{◌≡◌, ℕ, ◌+◌, ◌*◌, ◌-◌}
use Rattle.lk_read.specs.Reader.{many}
use Rattle.lk_rows.specs.Reading.{comma, is_label, fields_turn, types_turn, type_at}
use Rattle.lk_rows.proofs.types.+types.Given as goal

-- a reader of what stands in a type has less room than the type, and stands above those that it calls
abbrev level : ℕ → ℕ
level room = room * 8

abbrev pub decreases-read_any : goal.decreases-read_any
decreases-read_any l = level l.room

abbrev pub decreases-read_field : goal.decreases-read_field
decreases-read_field l = level l.room + 1

abbrev pub decreases-next_field : goal.decreases-next_field
decreases-next_field l = level l.room + 2

abbrev pub decreases-more_fields : goal.decreases-more_fields
decreases-more_fields l = level l.room + 3

abbrev pub decreases-read_fields : goal.decreases-read_fields
decreases-read_fields l = level l.room + 4

abbrev pub decreases-next_type : goal.decreases-next_type
decreases-next_type l = level l.room + 1

abbrev pub decreases-more_types : goal.decreases-more_types
decreases-more_types l = level l.room + 2

abbrev pub decreases-read_types : goal.decreases-read_types
decreases-read_types l = level l.room + 3

abbrev pub decreases-read_unit : goal.decreases-read_unit
decreases-read_unit l = level l.room + 1

abbrev pub decreases-read_record : goal.decreases-read_record
decreases-read_record l = level l.room + 5

abbrev pub decreases-read_function : goal.decreases-read_function
decreases-read_function l = level l.room + 4

abbrev pub decreases-read_round : goal.decreases-read_round
decreases-read_round l = level l.room + 6

abbrev pub decreases-read_list : goal.decreases-read_list
decreases-read_list l = level l.room + 1

abbrev pub decreases-read_some_tags : goal.decreases-read_some_tags
decreases-read_some_tags l = level l.room + 5

abbrev pub decreases-read_tags : goal.decreases-read_tags
decreases-read_tags l = level l.room + 6

abbrev pub invariant-more_fields-loop-turn : goal.invariant-more_fields-loop-turn
invariant-more_fields-loop-turn l = many comma (fields_turn (is_label l.label) (type_at l.room)) (l.room - l._turn) l.parts l.rest ≡ many comma (fields_turn (is_label l.label) (type_at l.room)) l.room l.fn.first l.tokens

abbrev pub invariant-more_types-loop-turn : goal.invariant-more_types-loop-turn
invariant-more_types-loop-turn l = many comma (types_turn (type_at l.room)) (l.room - l._turn) l.types l.rest ≡ many comma (types_turn (type_at l.room)) l.room l.fn.first l.tokens
