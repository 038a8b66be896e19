-- What a query or a change captures, by the uses of its names; and the parts that stand for what is captured.
use Rattle.std.specs.Prelude.{ℕ, ◌+◌, List, [], ◌∷◌, Option, Some, None, map, if◌then◌else◌}
use Rattle.lk_ast.specs.declared.table.BaseKind.TheVariants as kind
use Rattle.lk_bodies.specs.Shapes.{columns_of, kind_of}
use Rattle.lk_ground_types.specs.Shapes.{is_base}
use Rattle.lk_query.specs.declared.part.Part.{Part}
use Rattle.lk_query.specs.declared.part.Part.TheVariants as part
use Rattle.lk_query.specs.declared.query.Captured.{Captured}
use Rattle.lk_query.specs.declared.query.Captured.TheVariants as captured
use Rattle.lk_types.specs.Rows.{Label}
use Rattle.lk_types.specs.declared.ground.Ground.{Ground}
use Rattle.lk_typing.specs.Names.{Named, named}

-- by its type, which is that of a base or of a record of bases
abbrev pub captured_as : Ground → Captured
captured_as t = if is_base t then captured.Base (kind_of t) else captured.Row (columns_of t)

-- by the type of its first use
abbrev pub captured_by : Option Ground → Captured
captured_by None = captured.Base kind.Int
captured_by (Some t) = captured_as t

abbrev pub captured_at : Named Ground → List Label → List Captured
captured_at uses names = map (λ name. captured_by (named name uses)) names

-- the names with the numbers from this one on
abbrev pub numbered : ℕ → List Label → Named ℕ
numbered n [] = []
numbered n (name ∷ names) = (name, n) ∷ numbered (n + 1) names

-- a part for each name
abbrev pub bound_parts : List Label → List Part
bound_parts names = map (λ name. part.Bound) names
