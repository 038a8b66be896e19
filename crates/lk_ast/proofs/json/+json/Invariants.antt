use Rattle.std.proofs.Common.{◌≡◌, take, map}
use Rattle.serde_json.specs.View.{view, members_view}
use Rattle.lk_ast.specs.JsonText.{entry_of, members_of, value_data}
use Rattle.lk_ast.proofs.json.+json.Given as goal

abbrev pub invariant-array_json-loop-value : goal.invariant-array_json-loop-value
invariant-array_json-loop-value l = map view l.elements.items ≡ map value_data (take l.value-index l.values)

abbrev pub invariant-object_json-loop-field : goal.invariant-object_json-loop-field
invariant-object_json-loop-field l = members_view l.members.entries ≡ members_of (map entry_of (take l.field-index l.fields))
