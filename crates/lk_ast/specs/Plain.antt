-- Values in which functions stand. They are never shown.
use Rattle.std.specs.Prelude.{Bool, true, false, ⊤}
use Rattle.std.specs.List.{list_any}
use Rattle.lk_ast.specs.declared.value.Value.{Value, fold-Value}
use Rattle.lk_ast.specs.declared.value.Value.TheOpen.{Value-F, Field-F}

-- one level of a value, of what stands inside only whether it holds a function
abbrev pub function_level : Value-F Bool Bool ⊤ → Bool
function_level (Value-F.Base base) = false
function_level (Value-F.List elements) = list_any (λ holds. holds) elements
function_level (Value-F.Fields fields) = list_any (λ holds. holds) fields
function_level (Value-F.Tag tag inner) = inner
function_level (Value-F.Fun fun) = true

abbrev pub function_field : Field-F Bool Bool ⊤ → Bool
function_field field = field.value

-- whether the value is a function, or one stands in it
unfoldable pub holds_function : Value → Bool
holds_function = fold-Value Bool Bool ⊤ function_level function_field (λ fun. tt)
