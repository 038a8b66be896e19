-- The text that a value is written as: JSON (RFC 8259) with nothing between its tokens.
use Rattle.std.specs.Prelude.{ℕ, List, [], ◌∷◌, codes, fold, ⊤}
use Rattle.serde_json.specs.Data.{Data, null, boolean, number, string, array, object, Members, no_members, member, put}
use Rattle.serde_json.specs.Find.{of_integer}
use Rattle.serde_json.specs.View.{items_of}
use Rattle.serde_json.specs.Written.{compact_text}
use Rattle.lk_ast.specs.declared.table.Base.{Base}
use Rattle.lk_ast.specs.declared.table.Base.TheVariants.{Int, Bool, Text}
use Rattle.lk_ast.specs.declared.value.Field.{Field}
use Rattle.lk_ast.specs.declared.value.Value.{Value, fold-Value}
use Rattle.lk_ast.specs.declared.value.Value.TheOpen.{Value-F}

-- a label with what stands there
abbrev pub Entry : Type 0
Entry = List ℕ × Data

-- an integer as its digits, a truth value as it is, a text as a string
abbrev pub base_data : Base → Data
base_data (Int n) = number (of_integer n)
base_data (Bool b) = boolean b
base_data (Text t) = string t

-- the entries put in one after the other, in byte order of their labels; of two with one label the later counts
abbrev pub members_of : List Entry → Members
members_of = fold (λ members entry. put entry.0 entry.1 members) no_members

-- a record as an object; the record without fields as null
abbrev pub record_data : List Entry → Data
record_data [] = null
record_data (entry ∷ entries) = object (members_of (entry ∷ entries))

-- {"tag":"T","value":v}
abbrev pub tagged_data : List ℕ → Data → Data
tagged_data tag inner = object (member (codes "tag") (string tag) (member (codes "value") inner no_members))

-- one level of a value, what stands inside being data already; a function, which is never written, stands for null
abbrev pub level_data : Value-F Data Entry ⊤ → Data
level_data (Value-F.Base base) = base_data base
level_data (Value-F.List elements) = array (items_of elements)
level_data (Value-F.Fields entries) = record_data entries
level_data (Value-F.Tag tag inner) = tagged_data tag inner
level_data (Value-F.Fun fun) = null

-- the JSON that a value stands for
abbrev pub value_data : Value → Data
value_data = fold-Value Data Entry ⊤ level_data (λ field. (field.label, field.value)) (λ fun. tt)

-- a field as an entry
abbrev pub entry_of : Field → Entry
entry_of field = (field.label, value_data field.value)

-- the text of a value
abbrev pub value_text_of : Value → List ℕ
value_text_of value = compact_text (value_data value)
