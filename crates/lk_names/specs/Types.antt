-- The types of signatures: no label stands twice in a record type, and no tag twice in a variant type (Pierce, Types and
-- Programming Languages, 2002, sections 11.8 and 11.10).
use Rattle.std.specs.Prelude.{None}
use Rattle.lk_ast.specs.declared.signature.SigField.{SigField, fold-SigField}
use Rattle.lk_ast.specs.declared.signature.SigType.{SigType, fold-SigType}
use Rattle.lk_ast.specs.declared.signature.SigType.TheOpen.{SigType-F, SigField-F}
use Rattle.lk_scope.specs.Names.{no_names}
use Rattle.lk_names.specs.Faults.{Fault, first_of, first_among}
use Rattle.lk_names.specs.Repeats.{Item, items_fault}

abbrev pub type_in : SigType-F Fault Item → Fault
type_in SigType-F.Int = None
type_in SigType-F.Bool = None
type_in SigType-F.Text = None
type_in (SigType-F.List item) = item
type_in (SigType-F.Fields fields) = items_fault no_names fields
type_in (SigType-F.Tags tags) = items_fault no_names tags
type_in (SigType-F.Fun params result) = first_of (first_among params) result

abbrev pub field_in : SigField-F Fault Item → Item
field_in field = record { name = field.label; behind = field.ty }

-- the first fault of a type
abbrev pub type_fault : SigType → Fault
type_fault = fold-SigType Fault Item type_in field_in

abbrev pub field_item : SigField → Item
field_item = fold-SigField Fault Item type_in field_in
