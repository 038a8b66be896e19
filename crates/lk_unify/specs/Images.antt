-- What is put for variables: which variable a binding is of, and images that are written in order.
use Rattle.std.specs.Prelude.{ℕ, map}
use Rattle.std.specs.declared.cmp.Ordering.{Ordering}
use Rattle.lk_types.specs.Each.{Each}
use Rattle.lk_types.specs.TypeText.{effect_word}
use Rattle.lk_types.specs.contracts.ty.VariableOrd.TheImpl.{cmp-value}
use Rattle.lk_types.specs.declared.equation.Binding.{Binding}
use Rattle.lk_types.specs.declared.equation.Image.{Image}
use Rattle.lk_types.specs.declared.equation.Image.TheVariants as image
use Rattle.lk_types.specs.declared.ty.Variable.{Variable}
use Rattle.lk_types.specs.declared.ty.Variable.TheVariants as variable
use Rattle.lk_unify.specs.InOrder.{labels_in_row, AreSorted, IsInOrder}

-- the order in which a set has variables
abbrev pub variable_order : Variable → Variable → Ordering
variable_order = cmp-value.it

-- the variable with this number for which there is such an image
abbrev pub variable_with : ℕ → Image → Variable
variable_with n (image.Plain t) = variable.Plain n
variable_with n (image.Row row) = variable.Row n
variable_with n (image.Effects es) = variable.Effects n

abbrev pub variable_of : Binding → Variable
variable_of b = variable_with b.var b.is

-- labels of fields and tags and words of effects stand in byte order, each once
abbrev pub IsImageInOrder : Image → Type 0
IsImageInOrder (image.Plain t) = IsInOrder t
IsImageInOrder (image.Row row) = Each AreSorted (labels_in_row row)
IsImageInOrder (image.Effects es) = AreSorted (map effect_word es.labels)
