-- The type of the unit value.
use Rattle.std.proofs.Common.{◌≡◌, sym, ap, ◌∙◌, [], map}
use Rattle.std.specs.FinMap as fin
use Rattle.std.proofs.lemmas.List.{nil_from_length}
use Rattle.lk_types.specs.Rows.{label_order, no_fields}
use Rattle.lk_types.specs.declared.ground.Ground.{Ground}
use Rattle.lk_types.specs.declared.ground.Ground.TheVariants as known
use Rattle.lk_typing.specs.Types.{unit}

pub unit_is : unit ≡ known.Fields []
unit_is = ap (λ es. known.Fields (map (λ e. record { label = e.0; ty = e.1 }) es)) (nil_from_length (fin.entries no_fields) (sym (fin.len-entries no_fields) ∙ fin.len-empty label_order Ground))
