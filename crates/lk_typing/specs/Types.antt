-- Ground types in the words of the rules.
use Rattle.std.specs.Prelude.{List, [], ◌∷◌, Option, Some, None, map}
use Rattle.std.specs.Option.{option_map}
use Rattle.lk_ast.specs.declared.table.BaseKind.{BaseKind}
use Rattle.lk_ast.specs.declared.table.BaseKind.TheVariants as kind
use Rattle.lk_types.specs.Grounding.{before_row}
use Rattle.lk_types.specs.Rows.{Label, Row, EffectSet, no_fields, same_effect, fields_of, effects_of}
use Rattle.lk_types.specs.declared.ground.Ground.{Ground}
use Rattle.lk_types.specs.declared.ground.Ground.TheVariants as known
use Rattle.lk_types.specs.declared.ty.Effect.TheVariants as effect

abbrev pub base : BaseKind → Ground
base kind.Int = known.Int
base kind.Bool = known.Bool
base kind.Text = known.Text

abbrev pub record_of : Row → Ground
record_of row = known.Fields (fields_of row)

abbrev pub variant_of : Row → Ground
variant_of row = known.Tags (fields_of row)

-- the type of `()`
abbrev pub unit : Ground
unit = record_of no_fields

-- (params) {effects}-> answer
abbrev pub function_of : List Ground → EffectSet → Ground → Ground
function_of params effects answer = known.Fun params (effects_of effects) answer

-- a row with these fields before another one, where no label is there twice
abbrev pub with_fields : List (Label × Ground) → Row → Option Row
with_fields fields row = before_row (map (λ f. (f.0, Some f.1)) fields) row

-- the effects of a query
abbrev pub only_scan : EffectSet
only_scan = same_effect effect.Scan

-- labels with as many of the first types, and the types behind them
abbrev pub labelled : {A : Type 0} → List Label → List A → Option (List (Label × A) × List A)
labelled [] types = Some ([], types)
labelled (l ∷ ls) [] = None
labelled (l ∷ ls) (t ∷ ts) = option_map (λ found. ((l, t) ∷ found.0, found.1)) (labelled ls ts)
