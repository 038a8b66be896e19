-- What comes of looking at the shapes of instances.
use Rattle.std.specs.Prelude.{List, Option, Some, None}
use Rattle.lk_ast.specs.declared.place.Span.{Span}
use Rattle.lk_mono.specs.Instances.{Body}
use Rattle.lk_mono.specs.Shapes.{AreShaped, IsMisshapen}
use Rattle.lk_mono.specs.declared.error.ShapeKind.{ShapeKind}

-- they have the shapes, or this is what they are refused for
abbrev pub Judged : Span → List Body → List Body → Option (ShapeKind × Span) → Type 0
Judged main_at mains helpers None = AreShaped mains helpers
Judged main_at mains helpers (Some fault) = IsMisshapen main_at mains helpers fault.0 fault.1
