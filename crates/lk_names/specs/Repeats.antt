-- Lists in which no name may stand twice: parameters, the labels of a record or of a table, the tags of a switch. So each
-- label of a record means one field, and each tag of a switch one case (Pierce, Types and Programming Languages, 2002,
-- sections 11.8 and 11.10).
use Rattle.std.specs.Prelude.{List, [], ◌∷◌, Some, None, map, if◌then◌else◌}
use Rattle.lk_ast.specs.declared.declaration.ColumnDecl.{ColumnDecl}
use Rattle.lk_ast.specs.declared.expression.SortKey.{SortKey}
use Rattle.lk_ast.specs.declared.place.Word.{Word}
use Rattle.lk_scope.specs.Names.{Names, no_names, is_local, bind}
use Rattle.lk_names.specs.Faults.{Fault, first_of}
use Rattle.lk_names.specs.declared.error.NameError.TheVariants.{Twice}

-- a name that stands among these already stands twice
abbrev pub twice_fault : Names → Word → Fault
twice_fault met x = if is_local met x.text then Some (Twice x.at) else None

-- what stands in such a list: a name, and behind it what has faults of its own
pub record Item : Type 0 where
  pub name : Word
  pub behind : Fault

-- the first fault of a list behind these names
abbrev pub items_fault : Names → List Item → Fault
items_fault met [] = None
items_fault met (item ∷ items) = first_of (twice_fault met item.name) (first_of item.behind (items_fault (bind item.name met) items))

-- names with nothing behind them
abbrev pub alone : Word → Item
alone x = record { name = x; behind = None }

abbrev pub column_item : ColumnDecl → Item
column_item column = alone column.label

abbrev pub key_item : SortKey → Item
key_item key = alone key.label

abbrev pub words_fault : List Word → Fault
words_fault words = items_fault no_names (map alone words)

abbrev pub columns_fault : List ColumnDecl → Fault
columns_fault columns = items_fault no_names (map column_item columns)

abbrev pub keys_fault : List SortKey → Fault
keys_fault keys = items_fault no_names (map key_item keys)
