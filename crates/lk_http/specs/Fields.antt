-- What the fields of a head say.
use Rattle.std.specs.Prelude.{ℕ, Bool, true, false, ◌&&◌, nat_lt, nat_le, List, [], ◌∷◌, length, map, codes, Result, Ok, Err, if◌then◌else◌}
use Rattle.std.specs.Char.{is_ascii_digit}
use Rattle.std.specs.List.{list_all}
use Rattle.std.specs.Str.{str_eq_ignore_ascii_case}
use Rattle.std.specs.Str.Parse.{digits_value}
use Rattle.httparse.specs.Grammar.{Field}
use Rattle.httparse.specs.Spans.{name_and_value}
use Rattle.lk_ast.specs.Limits.{message_limit}
use Rattle.lk_http.specs.declared.fault.LengthFault.{LengthFault}
use Rattle.lk_http.specs.declared.fault.LengthFault.TheVariants.{Missing, Malformed, Large}

-- of names with their values, the values of those of this name, in their order; letters count alike in either case (RFC 9110,
-- section 5.1)
abbrev pub values_in : List ℕ → List (List ℕ × List ℕ) → List (List ℕ)
values_in name [] = []
values_in name (f ∷ fields) = if str_eq_ignore_ascii_case f.0 name then f.1 ∷ values_in name fields else values_in name fields

-- there is one
abbrev pub has_some : List (List ℕ) → Bool
has_some [] = false
has_some (value ∷ more) = true

-- one digit or more, and nothing else
abbrev pub is_digits : List ℕ → Bool
is_digits bytes = nat_lt 0 (length bytes) && list_all is_ascii_digit bytes

-- the length of a body that a value writes (RFC 9110, section 8.6)
abbrev pub length_in : List ℕ → Result ℕ LengthFault
length_in value =
    if is_digits value then (if nat_le (digits_value 10 value) message_limit then Ok (digits_value 10 value) else Err Large)
    else Err Malformed

-- the length of a body by the values of all fields Content-Length of its head; there has to be one
abbrev pub length_by : List (List ℕ) → Result ℕ LengthFault
length_by [] = Err Missing
length_by (value ∷ []) = length_in value
length_by (value ∷ other ∷ more) = Err Malformed

-- the length of the body behind a head of these fields, whose values are without the white space around them (RFC 9110, section 5.5)
abbrev pub body_length : List Field → Result ℕ LengthFault
body_length fields = length_by (values_in (codes "content-length") (map name_and_value fields))
