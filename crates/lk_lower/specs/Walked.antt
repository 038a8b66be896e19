-- What a walk in code has come to, in the words of its definition.
use Rattle.std.specs.Prelude.{List, length, map}
use Rattle.std.specs.Borrow.{Bor}
use Rattle.lk_ast.specs.declared.expression.Expr.{Expr}
use Rattle.lk_lower.specs.Growing.{State}
use Rattle.lk_lower.specs.declared.walk.Walk.{Walk}

abbrev pub shown : List (Bor Expr) → List Expr
shown es = map (λ (e : Bor Expr). e.now) es

-- the next label and the next number are those behind the labels and the nodes that there are
abbrev pub state_of : Walk → State
state_of w = record {
  nodes = w.nodes.items;
  labels = w.labels.0;
  locals = w.locals.now;
  types = w.types;
  tables = w.labels.1;
  pending = record { types = w.types_left.now; calls = w.calls_left.now; label = length w.labels.0; next = length w.nodes.items };
}
