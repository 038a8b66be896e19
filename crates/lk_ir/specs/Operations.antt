-- What operations come to, and which kinds of nodes are plain.
use Rattle.std.specs.Prelude.{ℕ, Bool, true, false, List, [], map}
use Rattle.lk_ast.specs.Layers.{Layer}
use Rattle.lk_ast.specs.declared.expression.Expr.{Expr}
use Rattle.lk_ast.specs.declared.expression.Node.TheOpen.{Node-F}
use Rattle.lk_ast.specs.declared.expression.Node.TheVariants as node
use Rattle.lk_ast.specs.declared.expression.PartExpr.{PartExpr}
use Rattle.lk_ast.specs.declared.place.Word.{Word}
use Rattle.lk_ast.specs.declared.value.Value.{Value}
use Rattle.lk_operators.specs.Operators.{operated}
use Rattle.lk_operators.specs.declared.outcome.Outcome.{Outcome}
use Rattle.lk_ir.specs.declared.nodes.Kind.{Kind}
use Rattle.lk_ir.specs.declared.nodes.Kind.TheVariants as kind
use Rattle.lk_ir.specs.declared.nodes.Op.{Op}
use Rattle.lk_ir.specs.declared.nodes.Op.TheVariants as op

-- An operation as a level of the syntax tree, whose operands are left open: what it comes to asks for none of them.
abbrev pub hole : Expr
hole = record { span = record { start = 0; end = 0 }; node = node.Text [] }

abbrev pub word : List ℕ → Word
word text = record { at = record { start = 0; end = 0 }; text = text }

abbrev pub holes : List (List ℕ) → List PartExpr
holes labels = map (λ label. record { label = word label; expr = hole }) labels

abbrev pub layer_of : Op → Layer
layer_of (op.Int n) = Node-F.Int n
layer_of (op.Text bytes) = Node-F.Text bytes
layer_of (op.Bool b) = Node-F.Bool b
layer_of op.List = Node-F.List []
layer_of op.Concat = Node-F.Concat hole hole
layer_of op.Append = Node-F.Append hole hole
layer_of op.Cons = Node-F.Cons hole hole
layer_of op.Add = Node-F.Add hole hole
layer_of op.Sub = Node-F.Sub hole hole
layer_of op.Mul = Node-F.Mul hole hole
layer_of op.Div = Node-F.Div hole hole
layer_of op.Mod = Node-F.Mod hole hole
layer_of op.Eq = Node-F.Eq hole hole
layer_of op.Ne = Node-F.Ne hole hole
layer_of op.Lt = Node-F.Lt hole hole
layer_of op.Le = Node-F.Le hole hole
layer_of op.Gt = Node-F.Gt hole hole
layer_of op.Ge = Node-F.Ge hole hole
layer_of op.Neg = Node-F.Neg hole
layer_of op.Not = Node-F.Not hole
layer_of op.Hd = Node-F.Hd hole
layer_of op.Tl = Node-F.Tl hole
layer_of op.Empty = Node-F.Empty hole
layer_of op.IntToString = Node-F.IntToString hole
layer_of (op.Record labels) = Node-F.Record (holes labels)
layer_of (op.Extend labels) = Node-F.Extend (holes labels) hole
layer_of (op.Project label) = Node-F.Project hole (word label)
layer_of (op.Tag tag) = Node-F.Tag (word tag) hole

-- what an operation comes to on the values of its operands
abbrev pub applied : Op → List Value → Outcome
applied o values = operated (layer_of o) values

-- whether the value is there without a step of its own
abbrev pub is_literal : Op → Bool
is_literal (op.Int n) = true
is_literal (op.Text bytes) = true
is_literal (op.Bool b) = true
is_literal other = false

abbrev pub is_plain : Kind → Bool
is_plain (kind.Op o) = is_literal o
is_plain (kind.Name x) = true
is_plain (kind.Function i) = true
is_plain (kind.Lambda label xs) = true
is_plain other = false
