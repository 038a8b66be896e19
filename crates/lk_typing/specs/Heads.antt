-- Expressions that bind no name and leave the effects as they are, as an operator over its parts: what it is, and the parts
-- in text order.
use Rattle.std.specs.Prelude.{List, [], ◌∷◌, ◌++◌, Option, Some, None, map}
use Rattle.lk_ast.specs.declared.expression.Node.TheOpen.{Node-F}
use Rattle.lk_ast.specs.declared.table.BaseKind.{BaseKind}
use Rattle.lk_ast.specs.declared.table.BaseKind.TheVariants as kind
use Rattle.lk_types.specs.Rows.{Label}

pub data Head : Type 0 where
  Literal : BaseKind → Head
  -- a local name
  Local : Label → Head
  -- a function of the program, and a call of one
  Function : Label → Head
  Call : Label → Head
  Apply : Head
  Seq : Head
  If : Head
  -- && ||
  Logic : Head
  Concat : Head
  Append : Head
  Cons : Head
  -- + - *
  Arithmetic : Head
  -- / mod
  Division : Head
  -- == <> < <= > >=
  Comparison : Head
  Negation : Head
  Not : Head
  First : Head
  Rest : Head
  Empty : Head
  IntToString : Head
  Print : Head
  Record : List Label → Head
  Extend : List Label → Head
  Items : Head
  Project : Label → Head
  Tag : Label → Head
  Table : Label → Head
  Where : Head
  Insert : Label → Head

-- with any kinds of parts, of which those of records and the like have labels
module _ {N C H E L S P : Type 0} (label_of : P → Label) (expr_of : P → E) where
  abbrev pub head : Node-F N C H E L S P → Option Head
  head (Node-F.Int number) = Some (Literal kind.Int)
  head (Node-F.Text text) = Some (Literal kind.Text)
  head (Node-F.Bool truth) = Some (Literal kind.Bool)
  head (Node-F.Name x) = Some (Local x)
  head (Node-F.Function g) = Some (Function g)
  head (Node-F.Call g args) = Some (Call g.text)
  head (Node-F.Apply f args) = Some Apply
  head (Node-F.Seq e rest) = Some Seq
  head (Node-F.If c d e) = Some If
  head (Node-F.And a b) = Some Logic
  head (Node-F.Or a b) = Some Logic
  head (Node-F.Concat a b) = Some Concat
  head (Node-F.Append a b) = Some Append
  head (Node-F.Cons a b) = Some Cons
  head (Node-F.Add a b) = Some Arithmetic
  head (Node-F.Sub a b) = Some Arithmetic
  head (Node-F.Mul a b) = Some Arithmetic
  head (Node-F.Div a b) = Some Division
  head (Node-F.Mod a b) = Some Division
  head (Node-F.Eq a b) = Some Comparison
  head (Node-F.Ne a b) = Some Comparison
  head (Node-F.Lt a b) = Some Comparison
  head (Node-F.Le a b) = Some Comparison
  head (Node-F.Gt a b) = Some Comparison
  head (Node-F.Ge a b) = Some Comparison
  head (Node-F.Neg e) = Some Negation
  head (Node-F.Not e) = Some Not
  head (Node-F.Hd e) = Some First
  head (Node-F.Tl e) = Some Rest
  head (Node-F.Empty e) = Some Empty
  head (Node-F.IntToString e) = Some IntToString
  head (Node-F.Print e) = Some Print
  head (Node-F.Record parts) = Some (Record (map label_of parts))
  head (Node-F.Extend parts e) = Some (Extend (map label_of parts))
  head (Node-F.List items) = Some Items
  head (Node-F.Project e l) = Some (Project l.text)
  head (Node-F.Tag t e) = Some (Tag t.text)
  head (Node-F.Table t) = Some (Table t.text)
  head (Node-F.Where c e) = Some Where
  head (Node-F.Insert t e) = Some (Insert t.text)
  head (Node-F.Lambda lambda) = None
  head (Node-F.Var x e rest) = None
  head (Node-F.Switch e cases last) = None
  head (Node-F.ForList x e body) = None
  head (Node-F.ForTable x rows body) = None
  head (Node-F.Query keys e) = None
  head (Node-F.Update change) = None
  head (Node-F.Delete change) = None

  abbrev pub parts : Node-F N C H E L S P → List E
  parts (Node-F.Call g args) = args
  parts (Node-F.Apply f args) = f ∷ args
  parts (Node-F.Seq e rest) = e ∷ rest ∷ []
  parts (Node-F.If c d e) = c ∷ d ∷ e ∷ []
  parts (Node-F.And a b) = a ∷ b ∷ []
  parts (Node-F.Or a b) = a ∷ b ∷ []
  parts (Node-F.Concat a b) = a ∷ b ∷ []
  parts (Node-F.Append a b) = a ∷ b ∷ []
  parts (Node-F.Cons a b) = a ∷ b ∷ []
  parts (Node-F.Add a b) = a ∷ b ∷ []
  parts (Node-F.Sub a b) = a ∷ b ∷ []
  parts (Node-F.Mul a b) = a ∷ b ∷ []
  parts (Node-F.Div a b) = a ∷ b ∷ []
  parts (Node-F.Mod a b) = a ∷ b ∷ []
  parts (Node-F.Eq a b) = a ∷ b ∷ []
  parts (Node-F.Ne a b) = a ∷ b ∷ []
  parts (Node-F.Lt a b) = a ∷ b ∷ []
  parts (Node-F.Le a b) = a ∷ b ∷ []
  parts (Node-F.Gt a b) = a ∷ b ∷ []
  parts (Node-F.Ge a b) = a ∷ b ∷ []
  parts (Node-F.Neg e) = e ∷ []
  parts (Node-F.Not e) = e ∷ []
  parts (Node-F.Hd e) = e ∷ []
  parts (Node-F.Tl e) = e ∷ []
  parts (Node-F.Empty e) = e ∷ []
  parts (Node-F.IntToString e) = e ∷ []
  parts (Node-F.Print e) = e ∷ []
  parts (Node-F.Record fields) = map expr_of fields
  parts (Node-F.Extend fields e) = map expr_of fields ++ e ∷ []
  parts (Node-F.List items) = items
  parts (Node-F.Project e l) = e ∷ []
  parts (Node-F.Tag t e) = e ∷ []
  parts (Node-F.Where c e) = c ∷ e ∷ []
  parts (Node-F.Insert t e) = e ∷ []
  parts other = []
