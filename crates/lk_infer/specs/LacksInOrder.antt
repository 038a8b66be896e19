-- Lacks in the order of their variables, then in byte order of their labels, each once; the scheme that is made of them, and
-- schemes that are written in order.
use Rattle.std.specs.Prelude.{ℕ, Bool, ◌&&◌, not, cond, List, [], ◌∷◌, ◌++◌, map, Option, Some, None, String, string_bytes}
use Rattle.std.specs.BTreeSet.{insert_key}
use Rattle.std.specs.Cmp.Lexicographic.{slice_cmp}
use Rattle.std.specs.List.{filter, list_any}
use Rattle.std.specs.List.Sorted.{IsStrictlySortedBy}
use Rattle.std.specs.Ordering.{eq_by_cmp, nat_cmp, ordering_then}
use Rattle.std.specs.declared.cmp.Ordering.{Ordering}
use Rattle.lk_types.specs.Variables.{same_variable, variables_of}
use Rattle.lk_types.specs.declared.levels.Level.{Level}
use Rattle.lk_types.specs.declared.levels.Level.TheVariants as level
use Rattle.lk_types.specs.declared.levels.LevelRow.{LevelRow}
use Rattle.lk_types.specs.declared.scheme.Lack.{Lack}
use Rattle.lk_types.specs.declared.scheme.Scheme.{Scheme}
use Rattle.lk_types.specs.declared.ty.Ty.{Ty}
use Rattle.lk_types.specs.declared.ty.Variable.{Variable}
use Rattle.lk_types.specs.declared.ty.Variable.TheVariants as variable
use Rattle.lk_infer.specs.Lacks.{shown, tail_lacks}
use Rattle.lk_unify.specs.InOrder.{IsInOrder}

-- by their variables, then by the bytes of their labels
abbrev pub lack_cmp : Lack → Lack → Ordering
lack_cmp x y = ordering_then (nat_cmp x.var y.var) (slice_cmp nat_cmp x.label y.label)

-- each before those behind it, so each once
abbrev pub AreInOrder : List Lack → Type 0
AreInOrder = IsStrictlySortedBy lack_cmp

-- one more, at its place, unless it is there
abbrev pub with_lack : List Lack → Lack → List Lack
with_lack = insert_key lack_cmp

-- lacks that stand in order, and others, each put at its place unless it is there
abbrev pub with_lacks : List Lack → List Lack → List Lack
with_lacks there [] = there
with_lacks there (lack ∷ lacks) = with_lacks (with_lack there lack) lacks

-- the same lacks, in order and each once
abbrev pub in_order : List Lack → List Lack
in_order = with_lacks []

-- a variable and a label as a lack
abbrev pub lack_of : {Z : Type 0} → ℕ × String Z → Lack
lack_of pair = record { var = pair.0; label = string_bytes pair.1 }

abbrev pub has_lack : List Lack → Lack → Bool
has_lack lacks lack = list_any (eq_by_cmp lack_cmp lack) lacks

-- the number of a variable, if it is one of rows
abbrev pub row_number : Variable → Option ℕ
row_number (variable.Plain n) = None
row_number (variable.Row n) = Some n
row_number (variable.Effects n) = None

-- whether a variable of rows of this number stands in the type
abbrev pub has_row : ℕ → Ty → Bool
has_row n t = list_any (same_variable (variable.Row n)) (variables_of t)

-- of these lacks those whose variable stands in the type, and that the type doesn't show
abbrev pub lacks_for : List Lack → Ty → List Lack
lacks_for all body = filter (λ lack. has_row lack.var body && not (has_lack (in_order (shown body)) lack)) all

-- a type with what its variables of rows lack because of these lacks
abbrev pub scheme_for : List Lack → Ty → Scheme
scheme_for all body = record { body = body; lacks = lacks_for all body }

-- the labels and effects of the body stand in byte order, and the lacks in theirs
abbrev pub IsSchemeInOrder : Scheme → Type 0
IsSchemeInOrder scheme = IsInOrder scheme.body × AreInOrder scheme.lacks

-- ---- types in a table

-- the labels before the tail of a row
abbrev pub row_lacks : LevelRow → List Lack
row_lacks row = tail_lacks (map (λ f. f.label) row.fields) row.tail

-- those of a level, without its parts
abbrev pub level_lacks : Level → List Lack
level_lacks (level.Fields row) = row_lacks row
level_lacks (level.Tags row) = row_lacks row
level_lacks other = []

-- those of the levels that are marked
abbrev pub marked_lacks : List Level → List Bool → List Lack
marked_lacks (l ∷ levels) (m ∷ marks) = cond m (level_lacks l) [] ++ marked_lacks levels marks
marked_lacks _ _ = []
