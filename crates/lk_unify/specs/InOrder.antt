-- Types that are written in order: in each row the labels of fields or tags stand in byte order, each once, and in each function
-- the effects do, by their words. What a type means doesn't rest on it, but what is printed of it does.
use Rattle.std.specs.Prelude.{List, [], ◌∷◌, ◌++◌, map, flat_map}
use Rattle.std.specs.List.Sorted.{IsStrictlySortedBy}
use Rattle.lk_types.specs.Each.{Each}
use Rattle.lk_types.specs.Rows.{Label, label_order}
use Rattle.lk_types.specs.TypeText.{effect_word}
use Rattle.lk_types.specs.Variables.{joined}
use Rattle.lk_types.specs.declared.ty.Ty.{Ty, fold-Ty}
use Rattle.lk_types.specs.declared.ty.Ty.TheOpen.{Ty-F, TyField-F, TyRow-F}
use Rattle.lk_types.specs.declared.ty.TyField.{TyField, fold-TyField}
use Rattle.lk_types.specs.declared.ty.TyRow.{TyRow, fold-TyRow}

abbrev pub Labels : Type 0
Labels = List Label

-- a field's label, and the lists of labels in its type
pub record LabelledField : Type 0 where
  pub label : Label
  pub inside : List Labels

abbrev pub ty_labels : Ty-F (List Labels) LabelledField (List Labels) → List Labels
ty_labels (Ty-F.List t) = t
ty_labels (Ty-F.Fields row) = row
ty_labels (Ty-F.Tags row) = row
ty_labels (Ty-F.Fun params es answer) = joined params ++ (map effect_word es.labels ∷ answer)
ty_labels _ = []

abbrev pub row_labels : TyRow-F (List Labels) LabelledField (List Labels) → List Labels
row_labels row = map (λ f. f.label) row.fields ∷ flat_map (λ f. f.inside) row.fields

abbrev pub field_labels : TyField-F (List Labels) LabelledField (List Labels) → LabelledField
field_labels f = record { label = f.label; inside = f.ty }

-- the labels of each row in the type, and the words of the effects of each function
unfoldable pub labels_in : Ty → List Labels
labels_in = fold-Ty (List Labels) LabelledField (List Labels) ty_labels field_labels row_labels

unfoldable pub labels_in_row : TyRow → List Labels
labels_in_row = fold-TyRow (List Labels) LabelledField (List Labels) ty_labels field_labels row_labels

unfoldable pub labels_in_field : TyField → LabelledField
labels_in_field = fold-TyField (List Labels) LabelledField (List Labels) ty_labels field_labels row_labels

abbrev pub AreSorted : Labels → Type 0
AreSorted = IsStrictlySortedBy label_order

abbrev pub IsInOrder : Ty → Type 0
IsInOrder t = Each AreSorted (labels_in t)
