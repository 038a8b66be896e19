-- A program as text: the tokens of each of its declarations. It is a pretty printing without layout (Hughes, The design of
-- a pretty-printing library, 1995): parentheses stand where the grammar's precedence asks for them, by one rule.
use Rattle.std.specs.Prelude.{ℕ, if◌then◌else◌, List, [], ◌∷◌, ◌++◌, Option, Some, None, map, codes}
use Rattle.lk_ast.specs.declared.declaration.ColumnDecl.{ColumnDecl}
use Rattle.lk_ast.specs.declared.declaration.Decl.{Decl}
use Rattle.lk_ast.specs.declared.declaration.Decl.TheVariants as decl
use Rattle.lk_ast.specs.declared.declaration.FunDef.{FunDef}
use Rattle.lk_ast.specs.declared.declaration.Program.{Program}
use Rattle.lk_ast.specs.declared.declaration.TableDecl.{TableDecl}
use Rattle.lk_ast.specs.declared.expression.Case.{Case, fold-Case}
use Rattle.lk_ast.specs.declared.expression.ChangeExpr.{ChangeExpr, fold-ChangeExpr}
use Rattle.lk_ast.specs.declared.expression.Expr.{Expr, Expr-F, fold-Expr}
use Rattle.lk_ast.specs.declared.expression.LambdaExpr.{LambdaExpr, fold-LambdaExpr}
use Rattle.lk_ast.specs.declared.expression.LastCase.{LastCase, fold-LastCase}
use Rattle.lk_ast.specs.declared.expression.Node.{Node, fold-Node}
use Rattle.lk_ast.specs.declared.expression.Node.TheOpen.{Node-F, Case-F, ChangeExpr-F, LambdaExpr-F, LastCase-F, PartExpr-F}
use Rattle.lk_ast.specs.declared.expression.PartExpr.{PartExpr, fold-PartExpr}
use Rattle.lk_ast.specs.declared.expression.SortKey.{SortKey}
use Rattle.lk_ast.specs.declared.place.Loc.{Loc}
use Rattle.lk_ast.specs.declared.place.Loc.TheVariants as loc
use Rattle.lk_ast.specs.declared.place.Word.{Word as Named}
use Rattle.lk_ast.specs.declared.signature.Sig.{Sig}
use Rattle.lk_ast.specs.declared.signature.SigField.{SigField, fold-SigField}
use Rattle.lk_ast.specs.declared.signature.SigType.{SigType, fold-SigType}
use Rattle.lk_ast.specs.declared.signature.SigType.TheOpen.{SigType-F, SigField-F}
use Rattle.lk_ast.specs.declared.table.BaseKind.{BaseKind}
use Rattle.lk_ast.specs.declared.table.BaseKind.TheVariants as base
use Rattle.lk_ast.specs.declared.token.TokenKind.{TokenKind}
use Rattle.lk_ast.specs.declared.token.TokenKind.TheVariants.{Word, Tag, Int, Text, Sign}

-- what tokens are, without their places
abbrev pub Kinds : Type 0
Kinds = List TokenKind

-- one thing behind the other, with commas between
abbrev pub behind_commas : List Kinds → Kinds
behind_commas [] = []
behind_commas (w ∷ ws) = Sign (codes ",") ∷ (w ++ behind_commas ws)

abbrev pub separated : List Kinds → Kinds
separated [] = []
separated (w ∷ ws) = w ++ behind_commas ws

-- one thing behind the other
abbrev pub joined : List Kinds → Kinds
joined [] = []
joined (w ∷ ws) = w ++ joined ws

-- in parentheses, in brackets, in braces
abbrev pub in_round : Kinds → Kinds
in_round w = Sign (codes "(") ∷ (w ++ Sign (codes ")") ∷ [])

abbrev pub in_square : Kinds → Kinds
in_square w = Sign (codes "[") ∷ (w ++ Sign (codes "]") ∷ [])

abbrev pub in_braces : Kinds → Kinds
in_braces w = Sign (codes "{") ∷ (w ++ Sign (codes "}") ∷ [])

abbrev pub name_kind : Named → TokenKind
name_kind x = Word x.text

abbrev pub names : List Named → Kinds
names xs = separated (map (λ x. name_kind x ∷ []) xs)

-- the mark of a function, where it has one
abbrev pub place : Loc → Kinds
place loc.Any = []
place loc.Client = Word (codes "client") ∷ []
place loc.Server = Word (codes "server") ∷ []

-- l, or l desc
abbrev pub key : SortKey → Kinds
key k = name_kind k.label ∷ (if k.desc then Word (codes "desc") ∷ [] else [])

-- nothing, or orderby (keys)
abbrev pub order : List SortKey → Kinds
order [] = []
order (k ∷ keys) = Word (codes "orderby") ∷ in_round (separated (map key (k ∷ keys)))

-- ---- expressions

-- An expression where it stands alone between brackets, commas and the like; as a part of another one; and between the
-- braces of a block.
pub record Form : Type 0 where
  pub alone : Kinds
  pub part : Kinds
  pub inside : Kinds

-- a primary of the grammar is a part as it is
abbrev pub primary : Kinds → Form
primary w = record { alone = w; part = w; inside = w }

-- every other expression is one in parentheses
abbrev pub compound : Kinds → Form
compound w = record { alone = w; part = in_round w; inside = w }

-- a block with statements has braces, but not where it is what is left of another one or the body of a form
abbrev pub block : Kinds → Form
block w = record { alone = in_braces w; part = in_braces w; inside = w }

-- `(x <-- t) where (cond)` of a change, and what is set
pub record ChangeForm : Type 0 where
  pub rows : Kinds
  pub sets : Kinds

abbrev pub infixed : List ℕ → Form → Form → Form
infixed sign a b = compound (a.part ++ Sign sign ∷ b.part)

abbrev pub prefixed : List ℕ → Form → Form
prefixed word e = primary (Word word ∷ in_round e.alone)

abbrev pub truth : List ℕ → Form
truth word = primary (Word word ∷ [])

abbrev pub call : Kinds → List Form → Form
call f args = compound (f ++ in_round (separated (map (λ arg. arg.alone) args)))

abbrev pub node_form : Node-F Form Kinds ChangeForm Form Kinds Kinds Kinds → Form
node_form (Node-F.Int number) = primary (Int number ∷ [])
node_form (Node-F.Text text) = primary (Text text ∷ [])
node_form (Node-F.Bool b) = truth (if b then codes "true" else codes "false")
node_form (Node-F.Name x) = primary (Word x ∷ [])
node_form (Node-F.Function g) = primary (Word g ∷ [])
node_form (Node-F.Lambda lambda) = compound (Word (codes "fun") ∷ lambda)
node_form (Node-F.Call g args) = call (name_kind g ∷ []) args
node_form (Node-F.Apply f args) = call f.part args
node_form (Node-F.Var x e rest) = block (Word (codes "var") ∷ name_kind x ∷ Sign (codes "=") ∷ (e.alone ++ Sign (codes ";") ∷ rest.inside))
node_form (Node-F.Seq e rest) = block (e.alone ++ Sign (codes ";") ∷ rest.inside)
node_form (Node-F.If c d e) = compound (Word (codes "if") ∷ (in_round c.alone ++ (d.part ++ Word (codes "else") ∷ e.part)))
node_form (Node-F.And a b) = infixed (codes "&&") a b
node_form (Node-F.Or a b) = infixed (codes "||") a b
node_form (Node-F.Concat a b) = infixed (codes "^^") a b
node_form (Node-F.Append a b) = infixed (codes "++") a b
node_form (Node-F.Cons a b) = infixed (codes "::") a b
node_form (Node-F.Add a b) = infixed (codes "+") a b
node_form (Node-F.Sub a b) = infixed (codes "-") a b
node_form (Node-F.Mul a b) = infixed (codes "*") a b
node_form (Node-F.Div a b) = infixed (codes "/") a b
node_form (Node-F.Mod a b) = compound (a.part ++ Word (codes "mod") ∷ b.part)
node_form (Node-F.Eq a b) = infixed (codes "==") a b
node_form (Node-F.Ne a b) = infixed (codes "<>") a b
node_form (Node-F.Lt a b) = infixed (codes "<") a b
node_form (Node-F.Le a b) = infixed (codes "<=") a b
node_form (Node-F.Gt a b) = infixed (codes ">") a b
node_form (Node-F.Ge a b) = infixed (codes ">=") a b
node_form (Node-F.Neg e) = compound (Sign (codes "-") ∷ e.part)
node_form (Node-F.Not e) = prefixed (codes "not") e
node_form (Node-F.Hd e) = prefixed (codes "hd") e
node_form (Node-F.Tl e) = prefixed (codes "tl") e
node_form (Node-F.Empty e) = prefixed (codes "empty") e
node_form (Node-F.IntToString e) = prefixed (codes "intToString") e
node_form (Node-F.Print e) = prefixed (codes "print") e
node_form (Node-F.Record parts) = primary (in_round (separated parts))
node_form (Node-F.Extend parts e) = primary (in_round (separated parts ++ Sign (codes "|") ∷ e.alone))
node_form (Node-F.List items) = primary (in_square (separated (map (λ item. item.alone) items)))
node_form (Node-F.Project e l) = compound (e.part ++ Sign (codes ".") ∷ name_kind l ∷ [])
node_form (Node-F.Tag t e) = primary (Tag t.text ∷ in_round e.alone)
node_form (Node-F.Switch e cases None) = compound (Word (codes "switch") ∷ (in_round e.alone ++ in_braces (joined cases)))
node_form (Node-F.Switch e cases (Some last)) = compound (Word (codes "switch") ∷ (in_round e.alone ++ in_braces (joined cases ++ last)))
node_form (Node-F.ForList x e body) = compound (Word (codes "for") ∷ (in_round (name_kind x ∷ Sign (codes "<-") ∷ e.part) ++ body.part))
node_form (Node-F.ForTable x rows body) = compound (Word (codes "for") ∷ (in_round (name_kind x ∷ Sign (codes "<--") ∷ rows.alone) ++ body.part))
node_form (Node-F.Table t) = primary (name_kind t ∷ [])
node_form (Node-F.Where c e) = compound (Word (codes "where") ∷ (in_round c.alone ++ e.part))
node_form (Node-F.Query keys e) = compound (Word (codes "query") ∷ (order keys ++ in_braces e.inside))
node_form (Node-F.Insert t e) = compound (Word (codes "insert") ∷ name_kind t ∷ Word (codes "values") ∷ e.part)
node_form (Node-F.Update change) = compound (Word (codes "update") ∷ (change.rows ++ Word (codes "set") ∷ in_round change.sets))
node_form (Node-F.Delete change) = compound (Word (codes "delete") ∷ change.rows)

-- l = e
abbrev pub part_form : PartExpr-F Form Kinds ChangeForm Form Kinds Kinds Kinds → Kinds
part_form part = name_kind part.label ∷ Sign (codes "=") ∷ part.expr.alone

-- (x), where a case has a name
abbrev pub case_name : Option Named → Kinds
case_name None = []
case_name (Some x) = in_round (name_kind x ∷ [])

-- case T(x) -> e, or case T -> e
abbrev pub case_form : Case-F Form Kinds ChangeForm Form Kinds Kinds Kinds → Kinds
case_form case = Word (codes "case") ∷ Tag case.tag.text ∷ (case_name case.name ++ Sign (codes "->") ∷ case.body.alone)

-- case x -> e
abbrev pub last_form : LastCase-F Form Kinds ChangeForm Form Kinds Kinds Kinds → Kinds
last_form last = Word (codes "case") ∷ name_kind last.name ∷ Sign (codes "->") ∷ last.body.alone

-- (x, y) client { e }
abbrev pub lambda_form : LambdaExpr-F Form Kinds ChangeForm Form Kinds Kinds Kinds → Kinds
lambda_form lambda = in_round (names lambda.params) ++ (place lambda.place ++ in_braces lambda.body.inside)

-- (x <-- t) where (c), and l = e, m = d
abbrev pub change_form : ChangeExpr-F Form Kinds ChangeForm Form Kinds Kinds Kinds → ChangeForm
change_form change = record {
  rows = in_round (name_kind change.name ∷ Sign (codes "<--") ∷ name_kind change.table ∷ []) ++ Word (codes "where") ∷ in_round change.cond.alone;
  sets = separated change.sets;
}

abbrev pub expr_form : Expr-F Form Kinds ChangeForm Form Kinds Kinds Kinds → Form
expr_form e = e.node

-- an expression
abbrev pub form_of : Expr → Form
form_of = fold-Expr Form Kinds ChangeForm Form Kinds Kinds Kinds node_form case_form change_form expr_form lambda_form last_form part_form

-- what stands in an expression
abbrev pub print_node : Node → Form
print_node = fold-Node Form Kinds ChangeForm Form Kinds Kinds Kinds node_form case_form change_form expr_form lambda_form last_form part_form

abbrev pub print_case : Case → Kinds
print_case = fold-Case Form Kinds ChangeForm Form Kinds Kinds Kinds node_form case_form change_form expr_form lambda_form last_form part_form

abbrev pub print_change : ChangeExpr → ChangeForm
print_change = fold-ChangeExpr Form Kinds ChangeForm Form Kinds Kinds Kinds node_form case_form change_form expr_form lambda_form last_form part_form

abbrev pub print_lambda : LambdaExpr → Kinds
print_lambda = fold-LambdaExpr Form Kinds ChangeForm Form Kinds Kinds Kinds node_form case_form change_form expr_form lambda_form last_form part_form

abbrev pub print_last : LastCase → Kinds
print_last = fold-LastCase Form Kinds ChangeForm Form Kinds Kinds Kinds node_form case_form change_form expr_form lambda_form last_form part_form

abbrev pub print_part : PartExpr → Kinds
print_part = fold-PartExpr Form Kinds ChangeForm Form Kinds Kinds Kinds node_form case_form change_form expr_form lambda_form last_form part_form

-- ---- declarations

abbrev pub type_form : SigType-F Kinds (Named × Kinds) → Kinds
type_form SigType-F.Int = Tag (codes "Int") ∷ []
type_form SigType-F.Bool = Tag (codes "Bool") ∷ []
type_form SigType-F.Text = Tag (codes "String") ∷ []
type_form (SigType-F.List item) = in_square item
type_form (SigType-F.Fields fields) = in_round (separated (map (λ field. Word field.0.text ∷ Sign (codes ":") ∷ field.1) fields))
type_form (SigType-F.Tags tags) = Sign (codes "[|") ∷ (separated (map (λ tag. Tag tag.0.text ∷ Sign (codes ":") ∷ tag.1) tags) ++ Sign (codes "|]") ∷ [])
type_form (SigType-F.Fun params answer) = in_round (separated params) ++ Sign (codes "->") ∷ answer

abbrev pub field_form : SigField-F Kinds (Named × Kinds) → Named × Kinds
field_form field = (field.label, field.ty)

abbrev pub print_field : SigField → Named × Kinds
print_field = fold-SigField Kinds (Named × Kinds) type_form field_form

-- the type of a signature
abbrev pub type_of : SigType → Kinds
type_of = fold-SigType Kinds (Named × Kinds) type_form field_form

-- l : T, and T : U
abbrev pub named_field : SigField → Kinds
named_field field = Word field.label.text ∷ Sign (codes ":") ∷ type_of field.ty

abbrev pub tagged_field : SigField → Kinds
tagged_field field = Tag field.label.text ∷ Sign (codes ":") ∷ type_of field.ty

abbrev pub base_kind : BaseKind → Kinds
base_kind base.Int = Tag (codes "Int") ∷ []
base_kind base.Bool = Tag (codes "Bool") ∷ []
base_kind base.Text = Tag (codes "String") ∷ []

-- l : Int
abbrev pub column : ColumnDecl → Kinds
column c = name_kind c.label ∷ Sign (codes ":") ∷ base_kind c.kind

-- table t with (l : Int, m : String);
abbrev pub table : TableDecl → Kinds
table t = Word (codes "table") ∷ name_kind t.name ∷ Word (codes "with") ∷ (in_round (separated (map column t.columns)) ++ Sign (codes ";") ∷ [])

-- sig f : T;
abbrev pub signature : Option Sig → Kinds
signature None = []
signature (Some sig) = Word (codes "sig") ∷ name_kind sig.name ∷ Sign (codes ":") ∷ (type_of sig.ty ++ Sign (codes ";") ∷ [])

-- a signature, where there is one, and fun f(x, y) client { e }
abbrev pub function : FunDef → Kinds
function f = signature f.sig ++ Word (codes "fun") ∷ name_kind f.name ∷ (in_round (names f.params) ++ (place f.place ++ in_braces (form_of f.body).inside))

abbrev pub declaration : Decl → Kinds
declaration (decl.Table t) = table t
declaration (decl.Fun f) = function f
declaration (decl.Mutual fs) = Word (codes "mutual") ∷ in_braces (joined (map function fs))

-- a program, declaration by declaration
abbrev pub declarations : Program → List Kinds
declarations program = map declaration program.decls
