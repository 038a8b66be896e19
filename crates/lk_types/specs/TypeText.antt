-- Types as text.
use Rattle.std.specs.Prelude.{ℕ, ◌+◌, List, [], ◌++◌, Option, Some, None, codes}
use Rattle.std.specs.Fmt.{decimal}
use Rattle.std.specs.List.{join_by, position_or_len}
use Rattle.std.specs.Option.{option_map}
use Rattle.lk_types.specs.Variables.{same_variable, tail_variable, variables_of, firsts}
use Rattle.lk_types.specs.declared.ground.Ground.{Ground, fold-Ground}
use Rattle.lk_types.specs.declared.ground.Ground.TheOpen.{Ground-F, GroundField-F}
use Rattle.lk_types.specs.declared.ground.GroundField.{GroundField, fold-GroundField}
use Rattle.lk_types.specs.declared.ty.Effect.{Effect}
use Rattle.lk_types.specs.declared.ty.Effect.TheVariants as effect
use Rattle.lk_types.specs.declared.ty.Ty.{Ty, fold-Ty}
use Rattle.lk_types.specs.declared.ty.Ty.TheOpen.{Ty-F, TyField-F, TyRow-F}
use Rattle.lk_types.specs.declared.ty.TyField.{TyField, fold-TyField}
use Rattle.lk_types.specs.declared.ty.TyRow.{TyRow, fold-TyRow}
use Rattle.lk_types.specs.declared.ty.Variable.{Variable}
use Rattle.lk_types.specs.declared.ty.Variable.TheVariants as variable

-- ---- the forms, around what stands inside as text already

-- one thing behind the other, with commas between
abbrev pub separated : List (List ℕ) → List ℕ
separated = join_by (λ text. text) (codes ",")

-- the name of a row's variable behind a bar, where the row has one
abbrev pub tail_text : Option (List ℕ) → List ℕ
tail_text None = []
tail_text (Some name) = codes "|" ++ name

-- fields or effects, and the tail
abbrev pub row_text : List ℕ → Option (List ℕ) → List ℕ
row_text parts tail = parts ++ tail_text tail

-- l:T
abbrev pub field_text : List ℕ → List ℕ → List ℕ
field_text label ty = label ++ (codes ":" ++ ty)

abbrev pub list_text : List ℕ → List ℕ
list_text ty = codes "[" ++ (ty ++ codes "]")

abbrev pub record_text : List ℕ → List ℕ
record_text row = codes "(" ++ (row ++ codes ")")

abbrev pub variant_text : List ℕ → List ℕ
variant_text row = codes "[|" ++ (row ++ codes "|]")

abbrev pub effect_word : Effect → List ℕ
effect_word effect.Local = codes "local"
effect_word effect.Move = codes "move"
effect_word effect.Print = codes "print"
effect_word effect.Rec = codes "rec"
effect_word effect.Scan = codes "scan"
effect_word effect.Trap = codes "trap"
effect_word effect.Write = codes "write"

-- in braces; nothing where the row is closed and empty
abbrev pub effects_text : List Effect → Option (List ℕ) → List ℕ
effects_text [] None = []
effects_text labels tail = codes "{" ++ (row_text (join_by effect_word (codes ",") labels) tail ++ codes "}")

-- (T,T) {e,e|t1}-> T
abbrev pub function_text : List ℕ → List ℕ → List ℕ → List ℕ
function_text params effects answer = codes "(" ++ (params ++ (codes ") " ++ (effects ++ (codes "-> " ++ answer))))

-- ---- types whose variables have these names

module _ (name : Variable → List ℕ) where
  abbrev pub ty_text : Ty-F (List ℕ) (List ℕ) (List ℕ) → List ℕ
  ty_text Ty-F.Int = codes "Int"
  ty_text Ty-F.Bool = codes "Bool"
  ty_text Ty-F.Text = codes "String"
  ty_text (Ty-F.List t) = list_text t
  ty_text (Ty-F.Fields row) = record_text row
  ty_text (Ty-F.Tags row) = variant_text row
  ty_text (Ty-F.Fun params es answer) = function_text (separated params) (effects_text es.labels (option_map name (tail_variable variable.Effects es.tail))) answer
  ty_text (Ty-F.Var n) = name (variable.Plain n)

  abbrev pub ty_row_text : TyRow-F (List ℕ) (List ℕ) (List ℕ) → List ℕ
  ty_row_text row = row_text (separated row.fields) (option_map name (tail_variable variable.Row row.tail))

  abbrev pub ty_field_text : TyField-F (List ℕ) (List ℕ) (List ℕ) → List ℕ
  ty_field_text f = field_text f.label f.ty

unfoldable pub written : (Variable → List ℕ) → Ty → List ℕ
written name = fold-Ty (List ℕ) (List ℕ) (List ℕ) (ty_text name) (ty_field_text name) (ty_row_text name)

unfoldable pub written_row : (Variable → List ℕ) → TyRow → List ℕ
written_row name = fold-TyRow (List ℕ) (List ℕ) (List ℕ) (ty_text name) (ty_field_text name) (ty_row_text name)

unfoldable pub written_field : (Variable → List ℕ) → TyField → List ℕ
written_field name = fold-TyField (List ℕ) (List ℕ) (List ℕ) (ty_text name) (ty_field_text name) (ty_row_text name)

-- ---- types

-- t1 is the first of these variables, t2 the next one
abbrev pub number_in : List Variable → Variable → ℕ
number_in seen x = 1 + position_or_len (same_variable x) seen

abbrev pub name_of : ℕ → List ℕ
name_of n = codes "t" ++ decimal n

-- the text of a type, its variables named in the order in which they come first
abbrev pub type_text : Ty → List ℕ
type_text t = written (λ x. name_of (number_in (firsts (variables_of t)) x)) t

-- ---- ground types

abbrev pub known_text : Ground-F (List ℕ) (List ℕ) → List ℕ
known_text Ground-F.Int = codes "Int"
known_text Ground-F.Bool = codes "Bool"
known_text Ground-F.Text = codes "String"
known_text (Ground-F.List t) = list_text t
known_text (Ground-F.Fields fields) = record_text (separated fields)
known_text (Ground-F.Tags tags) = variant_text (separated tags)
known_text (Ground-F.Fun params labels answer) = function_text (separated params) (effects_text labels None) answer

abbrev pub known_field_text : GroundField-F (List ℕ) (List ℕ) → List ℕ
known_field_text f = field_text f.label f.ty

unfoldable pub ground_text : Ground → List ℕ
ground_text = fold-Ground (List ℕ) (List ℕ) known_text known_field_text

unfoldable pub ground_field_text : GroundField → List ℕ
ground_field_text = fold-GroundField (List ℕ) (List ℕ) known_text known_field_text
