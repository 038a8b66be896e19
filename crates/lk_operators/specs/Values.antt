-- Values by their kinds.
use Rattle.std.specs.Prelude.{ℕ, Bool, true, false, List, [], ℤ, Option, Some, None}
use Rattle.lk_ast.specs.declared.table.Base.{Base}
use Rattle.lk_ast.specs.declared.table.Base.TheVariants as base
use Rattle.lk_ast.specs.declared.value.Field.{Field}
use Rattle.lk_ast.specs.declared.value.FunValue.{FunValue}
use Rattle.lk_ast.specs.declared.value.Value.{Value, out-Value}
use Rattle.lk_ast.specs.declared.value.Value.TheOpen.{Value-F}
use Rattle.lk_ast.specs.declared.value.Value.TheVariants as value

-- ---- making values

abbrev pub int : ℤ → Value
int n = value.Base (base.Int n)

abbrev pub truth : Bool → Value
truth b = value.Base (base.Bool b)

abbrev pub text : List ℕ → Value
text bytes = value.Base (base.Text bytes)

abbrev pub list : List Value → Value
list values = value.List values

-- a record with these fields, which stand in byte order of their labels
abbrev pub fields : List Field → Value
fields fs = value.Fields fs

abbrev pub field : List ℕ → Value → Field
field label v = record { label = label; value = v }

abbrev pub tagged : List ℕ → Value → Value
tagged tag v = value.Tag tag v

-- the unit value, which is the record without fields
abbrev pub unit : Value
unit = value.Fields []

-- ---- what a value is

abbrev base_at : Value-F Value Field FunValue → Option Base
base_at (Value-F.Base b) = Some b
base_at _ = None

abbrev list_at : Value-F Value Field FunValue → Option (List Value)
list_at (Value-F.List values) = Some values
list_at _ = None

abbrev fields_at : Value-F Value Field FunValue → Option (List Field)
fields_at (Value-F.Fields fs) = Some fs
fields_at _ = None

abbrev tag_at : Value-F Value Field FunValue → Option (List ℕ × Value)
tag_at (Value-F.Tag tag v) = Some (tag, v)
tag_at _ = None

abbrev fun_at : Value-F Value Field FunValue → Option FunValue
fun_at (Value-F.Fun f) = Some f
fun_at _ = None

abbrev int_of : Option Base → Option ℤ
int_of (Some (base.Int n)) = Some n
int_of _ = None

abbrev bool_of : Option Base → Option Bool
bool_of (Some (base.Bool b)) = Some b
bool_of _ = None

abbrev text_of : Option Base → Option (List ℕ)
text_of (Some (base.Text bytes)) = Some bytes
text_of _ = None

-- the integer, truth value or text that a value is, if it is one; so for the others
abbrev pub base_in : Value → Option Base
base_in v = base_at (out-Value v)

abbrev pub int_in : Value → Option ℤ
int_in v = int_of (base_in v)

abbrev pub bool_in : Value → Option Bool
bool_in v = bool_of (base_in v)

abbrev pub text_in : Value → Option (List ℕ)
text_in v = text_of (base_in v)

abbrev pub list_in : Value → Option (List Value)
list_in v = list_at (out-Value v)

abbrev pub fields_in : Value → Option (List Field)
fields_in v = fields_at (out-Value v)

-- a tag and the value with it
abbrev pub tag_in : Value → Option (List ℕ × Value)
tag_in v = tag_at (out-Value v)

abbrev pub fun_in : Value → Option FunValue
fun_in v = fun_at (out-Value v)

abbrev is_empty_record : Option (List Field) → Bool
is_empty_record (Some []) = true
is_empty_record _ = false

-- whether it is the unit value
abbrev pub is_unit : Value → Bool
is_unit v = is_empty_record (fields_in v)
