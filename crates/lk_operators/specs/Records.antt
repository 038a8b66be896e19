-- Records: finite maps from labels to values (E. Cooper, S. Lindley, P. Wadler and J. Yallop, Links: Web Programming Without
-- Tiers, FMCO 2006; D. Rémy, Type Inference for Records in a Natural Extension of ML, 1993).
use Rattle.std.specs.Prelude.{ℕ, List, [], ◌∷◌, ◌++◌, map, fold, find, drop, length, ◌==◌, Option, bytes_eq, option_map, if◌then◌else◌}
use Rattle.std.specs.Cmp.Lexicographic.{slice_cmp}
use Rattle.std.specs.FinMap as finite
use Rattle.std.specs.Ordering.{nat_cmp}
use Rattle.lk_ast.specs.declared.expression.PartExpr.{PartExpr}
use Rattle.lk_ast.specs.declared.value.Field.{Field}
use Rattle.lk_ast.specs.declared.value.Value.{Value}
use Rattle.lk_operators.specs.Outcomes.{given, on_one}
use Rattle.lk_operators.specs.Values.{field, fields, fields_in, tagged}
use Rattle.lk_operators.specs.declared.outcome.Outcome.{Outcome}
use Rattle.lk_operators.specs.declared.outcome.Outcome.TheVariants as outcome

-- values under labels
abbrev pub Entries : Type 0
Entries = finite.FinMap (slice_cmp nat_cmp) Value

-- the fields put in one after the other
abbrev pub with_fields : Entries → List Field → Entries
with_fields = fold (λ entries f. finite.insert entries f.label f.value)

abbrev pub entries_of : List Field → Entries
entries_of = with_fields finite.empty

-- the entries in byte order of their labels
abbrev pub fields_in_order : Entries → List Field
fields_in_order entries = map (λ e. field e.0 e.1) (finite.entries entries)

-- The record with these fields. There is none where a label comes twice: the map then has fewer entries than there are fields.
abbrev pub record_of : List Field → Outcome
record_of fs = if finite.len (entries_of fs) == length fs then outcome.Value (fields (fields_in_order (entries_of fs))) else outcome.NoRule

-- the first value under the first part's label, and so on
abbrev pub labelled : List PartExpr → List Value → List Field
labelled parts [] = []
labelled [] values = []
labelled (part ∷ parts) (v ∷ values) = field part.label.text v ∷ labelled parts values

-- `(l = e, ..)`, with a value for each part
abbrev pub new_record : List PartExpr → List Value → Outcome
new_record parts values = if length parts == length values then record_of (labelled parts values) else outcome.NoRule

-- `(l = e, .. | r)`, with a value for each part and then that of r
abbrev pub extended : List PartExpr → List Value → Outcome
extended parts values = on_one (λ r. given (λ fs. record_of (fs ++ labelled parts values)) (fields_in r)) (drop (length parts) values)

-- the value of the field with that label
abbrev pub value_under : List ℕ → List Field → Option Value
value_under label fs = option_map (λ f. f.value) (find (λ f. bytes_eq f.label label) fs)

-- `e.l`
abbrev pub project : List ℕ → Value → Outcome
project label v = given (λ fs. given outcome.Value (value_under label fs)) (fields_in v)

-- `T(e)`
abbrev pub tag : List ℕ → Value → Outcome
tag t v = outcome.Value (tagged t v)
