-- Records by the labels of their parts.
use Rattle.std.proofs.Common.{◌≡◌, ℕ, suc, List, [], ◌∷◌, ◌++◌, length, Some, refl, ap, ◌∙◌}
use Rattle.lk_ast.specs.declared.value.Field.{Field}
use Rattle.lk_ast.specs.declared.value.Value.{Value}
use Rattle.lk_operators.proofs.LastValue.{extended_record}
use Rattle.lk_operators.specs.Records.{extended, labelled, record_of}
use Rattle.lk_operators.specs.Values.{fields_in}
use Rattle.lk_ir.specs.Operations.{holes}

-- there is a part for each label
pub long_holes : (labels : List (List ℕ)) → length (holes labels) ≡ length labels
long_holes [] = refl
long_holes (label ∷ labels) = ap suc (long_holes labels)

-- a value for each label, and a record
pub extended_by_labels : (labels : List (List ℕ)) (values init : List Value) (r : Value) (fs : List Field)
    → values ≡ init ++ r ∷ [] → length labels ≡ length init → fields_in r ≡ Some fs → record_of (fs ++ labelled (holes labels) init) ≡ extended (holes labels) values
extended_by_labels labels values init r fs are fits is = extended_record (holes labels) values init r fs are (long_holes labels ∙ fits) is
