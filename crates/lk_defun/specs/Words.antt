-- Words of nodes, as listings of frames print them, and of what has a label inside an instance.
use Rattle.std.specs.Prelude.{ℕ, List, [], codes}
use Rattle.lk_code.specs.declared.infos.FunKind.{FunKind}
use Rattle.lk_code.specs.declared.infos.FunKind.TheVariants as fun
use Rattle.lk_ir.specs.declared.nodes.Block.{Block}
use Rattle.lk_ir.specs.declared.nodes.Block.TheVariants as block
use Rattle.lk_ir.specs.declared.nodes.Choice.{Choice}
use Rattle.lk_ir.specs.declared.nodes.Choice.TheVariants as choice
use Rattle.lk_ir.specs.declared.nodes.Kind.{Kind}
use Rattle.lk_ir.specs.declared.nodes.Kind.TheVariants as kind
use Rattle.lk_ir.specs.declared.nodes.Op.{Op}
use Rattle.lk_ir.specs.declared.nodes.Op.TheVariants as op

abbrev pub Word : Type 0
Word = List ℕ

abbrev pub op_word : Op → Word
op_word (op.Int n) = codes "int"
op_word (op.Text bytes) = codes "text"
op_word (op.Bool b) = codes "bool"
op_word op.List = codes "list"
op_word op.Concat = codes "concat"
op_word op.Append = codes "append"
op_word op.Cons = codes "cons"
op_word op.Add = codes "add"
op_word op.Sub = codes "sub"
op_word op.Mul = codes "mul"
op_word op.Div = codes "div"
op_word op.Mod = codes "mod"
op_word op.Eq = codes "eq"
op_word op.Ne = codes "ne"
op_word op.Lt = codes "lt"
op_word op.Le = codes "le"
op_word op.Gt = codes "gt"
op_word op.Ge = codes "ge"
op_word op.Neg = codes "neg"
op_word op.Not = codes "not"
op_word op.Hd = codes "hd"
op_word op.Tl = codes "tl"
op_word op.Empty = codes "empty"
op_word op.IntToString = codes "intToString"
op_word (op.Record labels) = codes "record"
op_word (op.Extend labels) = codes "extend"
op_word (op.Project label) = codes "project"
op_word (op.Tag tag) = codes "tag"

abbrev pub choice_word : Choice → Word
choice_word choice.If = codes "if"
choice_word choice.And = codes "and"
choice_word choice.Or = codes "or"
choice_word choice.Where = codes "where"

abbrev pub block_word : Block → Word
block_word block.Query = codes "query"
block_word block.TableRead = codes "table"
block_word block.Insert = codes "insert"
block_word block.Update = codes "update"
block_word block.Delete = codes "delete"

abbrev pub node_word : Kind → Word
node_word (kind.Op o) = op_word o
node_word (kind.Name x) = codes "name"
node_word (kind.Function i) = codes "function"
node_word (kind.Lambda label xs) = codes "lambda"
node_word (kind.Call i) = codes "call"
node_word kind.Apply = codes "apply"
node_word (kind.Bind x) = codes "var"
node_word kind.Then = codes "seq"
node_word (kind.Choose c) = choice_word c
node_word kind.Print = codes "print"
node_word (kind.Switch cases last) = codes "switch"
node_word (kind.For x) = codes "for"
node_word (kind.Reach b label kept) = block_word b

-- what follows the name of an instance in the names of what stands inside it
abbrev pub suffix : FunKind → Word
suffix fun.Print = []
suffix fun.Top = []
suffix fun.Lambda = codes "/lambda"
suffix fun.Query = codes "/query"
suffix fun.TableRead = codes "/table"
suffix fun.Insert = codes "/insert"
suffix fun.Update = codes "/update"
suffix fun.Delete = codes "/delete"
