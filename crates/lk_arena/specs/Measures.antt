-- What falls with each step, so that merging and the way down a row end.
use Rattle.std.specs.Prelude.{ℕ, zero, suc, ◌+◌, ◌==◌, Bool, true, false, not, is_some, List, [], ◌∷◌, length, if◌then◌else◌}
use Rattle.lk_classes.specs.Classes.{class_at}
use Rattle.lk_arena.specs.Shapes.{shape_at, found_at}
use Rattle.lk_arena.specs.declared.node.Field.{Field}
use Rattle.lk_arena.specs.declared.node.Shape.{Shape}
use Rattle.lk_arena.specs.declared.node.Shape.TheVariants.{Open}
use Rattle.lk_arena.specs.declared.node.Shape.TheVariants as shape

-- ---- merging: the classes, and once more those of rows of which nothing is known. Each union takes a class away; where two rows
-- with two tails are joined by a new row, which counts two, each of the tails becomes fields before it and counts one less.

abbrev pub worth : Bool → Shape → ℕ
worth false s = 0
worth true Open = 2
worth true s = 1

abbrev pub worth_at : List Shape → List ℕ → ℕ → ℕ
worth_at shapes classes i = worth (class_at classes i == i) (shape_at shapes i)

abbrev pub total_below : (ℕ → ℕ) → ℕ → ℕ
total_below f zero = 0
total_below f (suc n) = f n + total_below f n

unfoldable pub weight : List Shape → List ℕ → ℕ
weight shapes classes = total_below (worth_at shapes classes) (length shapes)

-- ---- down a row: the nodes whose first label isn't among the fields so far

abbrev pub is_unmet : List Field → Shape → Bool
is_unmet fields (shape.Row (f ∷ fs) t) = not (is_some (found_at fields f.label))
is_unmet fields _ = false

abbrev pub unmet : List Field → List Shape → ℕ
unmet fields [] = 0
unmet fields (s ∷ shapes) = (if is_unmet fields s then 1 else 0) + unmet fields shapes
