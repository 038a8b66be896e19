-- The rules of operators over ground types, as those of the nodes that they are lowered to.
use Rattle.std.proofs.Common.{◌≡◌, refl, ap, Bool, true, false, List, [], ◌∷◌, ◌++◌, append-nil, Some, None}
use Rattle.std.specs.Option.{option_map}
use Rattle.std.proofs.lemmas.Option.{none-some}
use Rattle.lk_ast.specs.Children.{exprs_of}
use Rattle.lk_ast.specs.Layers.{Layer}
use Rattle.lk_ast.specs.declared.declaration.TableDecl.{TableDecl}
use Rattle.lk_ast.specs.declared.expression.Node.TheOpen.{Node-F}
use Rattle.lk_sound.specs.Nodes.{used_by}
use Rattle.lk_types.specs.Rows.{EffectSet}
use Rattle.lk_types.specs.declared.ground.Ground.{Ground}
use Rattle.lk_typing.specs.Heads as operator
use Rattle.lk_typing.specs.Heads.{Head, head, parts}
use Rattle.lk_typing.specs.Names.{Named, Entry}
use Rattle.lk_typing.specs.Rules as rule
use Rattle.lk_typing.specs.Rules.{Rule}
use Rattle.lk_typing.specs.Typing.{label_of, expr_of}
use Rattle.lk_code.specs.Parts.{head_of, every}
use Rattle.lk_ir.specs.declared.nodes.Op.{Op}
use Rattle.lk_ir.specs.declared.nodes.Op.TheVariants as op
use Rattle.lk_lower.specs.Lowering.{op_of, tails_of}
use Rattle.lk_lower.proofs.Counted.{children_of}

-- an operation has the head of its expression
pub op_head : (l : Layer) (o : Op) → op_of l ≡ Some o → head label_of expr_of l ≡ Some (head_of o)
op_head (Node-F.Int n) o is = ap (option_map head_of) is
op_head (Node-F.Text n) o is = ap (option_map head_of) is
op_head (Node-F.Bool n) o is = ap (option_map head_of) is
op_head (Node-F.List es) o is = ap (option_map head_of) is
op_head (Node-F.Concat a b) o is = ap (option_map head_of) is
op_head (Node-F.Append a b) o is = ap (option_map head_of) is
op_head (Node-F.Cons a b) o is = ap (option_map head_of) is
op_head (Node-F.Add a b) o is = ap (option_map head_of) is
op_head (Node-F.Sub a b) o is = ap (option_map head_of) is
op_head (Node-F.Mul a b) o is = ap (option_map head_of) is
op_head (Node-F.Div a b) o is = ap (option_map head_of) is
op_head (Node-F.Mod a b) o is = ap (option_map head_of) is
op_head (Node-F.Eq a b) o is = ap (option_map head_of) is
op_head (Node-F.Ne a b) o is = ap (option_map head_of) is
op_head (Node-F.Lt a b) o is = ap (option_map head_of) is
op_head (Node-F.Le a b) o is = ap (option_map head_of) is
op_head (Node-F.Gt a b) o is = ap (option_map head_of) is
op_head (Node-F.Ge a b) o is = ap (option_map head_of) is
op_head (Node-F.Neg e) o is = ap (option_map head_of) is
op_head (Node-F.Not e) o is = ap (option_map head_of) is
op_head (Node-F.Hd e) o is = ap (option_map head_of) is
op_head (Node-F.Tl e) o is = ap (option_map head_of) is
op_head (Node-F.Empty e) o is = ap (option_map head_of) is
op_head (Node-F.IntToString e) o is = ap (option_map head_of) is
op_head (Node-F.Record fields) o is = ap (option_map head_of) is
op_head (Node-F.Extend fields e) o is = ap (option_map head_of) is
op_head (Node-F.Project e l) o is = ap (option_map head_of) is
op_head (Node-F.Tag t e) o is = ap (option_map head_of) is
op_head (Node-F.Name x) o is = absurd (none-some o is)
op_head (Node-F.Function g) o is = absurd (none-some o is)
op_head (Node-F.Lambda l) o is = absurd (none-some o is)
op_head (Node-F.Call g args) o is = absurd (none-some o is)
op_head (Node-F.Apply f args) o is = absurd (none-some o is)
op_head (Node-F.Var x e rest) o is = absurd (none-some o is)
op_head (Node-F.Seq e rest) o is = absurd (none-some o is)
op_head (Node-F.If c d e) o is = absurd (none-some o is)
op_head (Node-F.And a b) o is = absurd (none-some o is)
op_head (Node-F.Or a b) o is = absurd (none-some o is)
op_head (Node-F.Print e) o is = absurd (none-some o is)
op_head (Node-F.Switch e cases last) o is = absurd (none-some o is)
op_head (Node-F.ForList x e body) o is = absurd (none-some o is)
op_head (Node-F.ForTable x rows body) o is = absurd (none-some o is)
op_head (Node-F.Table t) o is = absurd (none-some o is)
op_head (Node-F.Where c e) o is = absurd (none-some o is)
op_head (Node-F.Query keys e) o is = absurd (none-some o is)
op_head (Node-F.Insert t e) o is = absurd (none-some o is)
op_head (Node-F.Update change) o is = absurd (none-some o is)
op_head (Node-F.Delete change) o is = absurd (none-some o is)

-- and no tails
pub op_tails : (l : Layer) (o : Op) → op_of l ≡ Some o → tails_of l ≡ []
op_tails (Node-F.Name x) o is = absurd (none-some o is)
op_tails (Node-F.Function g) o is = absurd (none-some o is)
op_tails (Node-F.Lambda l) o is = absurd (none-some o is)
op_tails (Node-F.Call g args) o is = absurd (none-some o is)
op_tails (Node-F.Apply f args) o is = absurd (none-some o is)
op_tails (Node-F.Var x e rest) o is = absurd (none-some o is)
op_tails (Node-F.Seq e rest) o is = absurd (none-some o is)
op_tails (Node-F.If c d e) o is = absurd (none-some o is)
op_tails (Node-F.And a b) o is = absurd (none-some o is)
op_tails (Node-F.Or a b) o is = absurd (none-some o is)
op_tails (Node-F.Print e) o is = absurd (none-some o is)
op_tails (Node-F.Switch e cases last) o is = absurd (none-some o is)
op_tails (Node-F.ForList x e body) o is = absurd (none-some o is)
op_tails (Node-F.ForTable x rows body) o is = absurd (none-some o is)
op_tails (Node-F.Table t) o is = absurd (none-some o is)
op_tails (Node-F.Where c e) o is = absurd (none-some o is)
op_tails (Node-F.Query keys e) o is = absurd (none-some o is)
op_tails (Node-F.Insert t e) o is = absurd (none-some o is)
op_tails (Node-F.Update change) o is = absurd (none-some o is)
op_tails (Node-F.Delete change) o is = absurd (none-some o is)
op_tails other o is = refl

abbrev pub is_op : Head → Bool
is_op (operator.Local x) = false
is_op (operator.Function g) = false
is_op (operator.Call g) = false
is_op operator.Apply = false
is_op operator.Seq = false
is_op operator.If = false
is_op operator.Logic = false
is_op operator.Print = false
is_op (operator.Table t) = false
is_op operator.Where = false
is_op (operator.Insert t) = false
is_op other = true

pub op_is : (o : Op) → is_op (head_of o) ≡ true
op_is (op.Int n) = refl
op_is (op.Text n) = refl
op_is (op.Bool n) = refl
op_is op.List = refl
op_is op.Concat = refl
op_is op.Append = refl
op_is op.Cons = refl
op_is op.Add = refl
op_is op.Sub = refl
op_is op.Mul = refl
op_is op.Div = refl
op_is op.Mod = refl
op_is op.Eq = refl
op_is op.Ne = refl
op_is op.Lt = refl
op_is op.Le = refl
op_is op.Gt = refl
op_is op.Ge = refl
op_is op.Neg = refl
op_is op.Not = refl
op_is op.Hd = refl
op_is op.Tl = refl
op_is op.Empty = refl
op_is op.IntToString = refl
op_is (op.Record ls) = refl
op_is (op.Extend ls) = refl
op_is (op.Project l) = refl
op_is (op.Tag l) = refl

module _ {functions : Named (Entry Ground)} {tables : List TableDecl} {names : Named Ground} {effects : EffectSet} where
  -- it has its type whatever the effects, and uses no function
  pub record IsOpRule (h : Head) (ts : List Ground) (t : Ground) (by : Rule functions tables names effects h ts t) : Type 0 where
    pub rule : Rule [] [] [] every h ts t
    pub unused : used_by by ≡ None

  pub as_op : {h : Head} {ts : List Ground} {t : Ground} (by : Rule functions tables names effects h ts t) → is_op h ≡ true → IsOpRule h ts t by
  as_op rule.literal is = record { rule = rule.literal; unused = refl }
  as_op rule.concat is = record { rule = rule.concat; unused = refl }
  as_op (rule.append a) is = record { rule = rule.append a; unused = refl }
  as_op (rule.cons l) is = record { rule = rule.cons refl; unused = refl }
  as_op rule.arithmetic is = record { rule = rule.arithmetic; unused = refl }
  as_op (rule.division l) is = record { rule = rule.division refl; unused = refl }
  as_op rule.comparison is = record { rule = rule.comparison; unused = refl }
  as_op rule.negation is = record { rule = rule.negation; unused = refl }
  as_op rule.not is = record { rule = rule.not; unused = refl }
  as_op (rule.first l m) is = record { rule = rule.first refl refl; unused = refl }
  as_op (rule.rest a l m) is = record { rule = rule.rest a refl refl; unused = refl }
  as_op (rule.empty a) is = record { rule = rule.empty a; unused = refl }
  as_op (rule.int_to_string l) is = record { rule = rule.int_to_string refl; unused = refl }
  as_op (rule.closed_record fields row are made) is = record { rule = rule.closed_record fields row are made; unused = refl }
  as_op (rule.extend fields other row are made) is = record { rule = rule.extend fields other row are made; unused = refl }
  as_op (rule.items a all) is = record { rule = rule.items a all; unused = refl }
  as_op (rule.project other row made) is = record { rule = rule.project other row made; unused = refl }
  as_op (rule.tag other row made) is = record { rule = rule.tag other row made; unused = refl }
  as_op (rule.local a) is = absurd cc
  as_op (rule.function a) is = absurd cc
  as_op (rule.call a) is = absurd cc
  as_op (rule.apply a) is = absurd cc
  as_op rule.seq is = absurd cc
  as_op rule.branch is = absurd cc
  as_op rule.logic is = absurd cc
  as_op (rule.print a) is = absurd cc
  as_op (rule.table row a b) is = absurd cc
  as_op (rule.filter b) is = absurd cc
  as_op (rule.insert row a b) is = absurd cc

-- the positions and tails of an operator are its parts, in this order
pub plain_children : (l : Layer) (h : Head) → head label_of expr_of l ≡ Some h → children_of l ≡ parts label_of expr_of l
plain_children (Node-F.List es) h is = append-nil es
plain_children (Node-F.Record fields) h is = append-nil (exprs_of fields)
plain_children (Node-F.Extend fields e) h is = append-nil (exprs_of fields ++ e ∷ [])
plain_children (Node-F.Call g args) h is = append-nil args
plain_children (Node-F.Apply f args) h is = ap (λ es. f ∷ es) (append-nil args)
plain_children (Node-F.Lambda l) h is = absurd (none-some h is)
plain_children (Node-F.Var x e rest) h is = absurd (none-some h is)
plain_children (Node-F.Switch e cases last) h is = absurd (none-some h is)
plain_children (Node-F.ForList x e body) h is = absurd (none-some h is)
plain_children (Node-F.ForTable x rows body) h is = absurd (none-some h is)
plain_children (Node-F.Query keys e) h is = absurd (none-some h is)
plain_children (Node-F.Update change) h is = absurd (none-some h is)
plain_children (Node-F.Delete change) h is = absurd (none-some h is)
plain_children other h is = refl
