-- Which node stands for each variable: what has the place of its number, where that is of this variable, or what a map has.
use Rattle.std.specs.Map.{lookup}
use Rattle.std.specs.Prelude.{ℕ, cond, Option, Some, None, slice_index_or as get_or}
use Rattle.lk_types.specs.Variables.{same_variable}
use Rattle.lk_types.specs.declared.ty.Variable.{Variable}
use Rattle.lk_types.specs.declared.ty.Variable.TheVariants as variable
use Rattle.lk_unify.specs.declared.named_nodes.NamedNode.{NamedNode}
use Rattle.lk_unify.specs.declared.named_nodes.NamedNodes.{NamedNodes}

abbrev pub number_of : Variable → ℕ
number_of (variable.Plain n) = n
number_of (variable.Row n) = n
number_of (variable.Effects n) = n

-- the node of what is found at a place, if that is of this variable, else another one
abbrev pub node_at : Option NamedNode → Variable → Option ℕ → Option ℕ
node_at None x other = other
node_at (Some found) x other = cond (same_variable x found.variable) (Some found.node) other

abbrev pub node_in : NamedNodes → Variable → Option ℕ
node_in names x = node_at (get_or names.places.items (number_of x) None) x (lookup (same_variable x) names.others.entries)
