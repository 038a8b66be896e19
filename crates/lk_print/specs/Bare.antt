-- Programs without their places in the text: two are the same up to spans where these are equal.
use Rattle.std.specs.Prelude.{map}
use Rattle.std.specs.Option.{option_map}
use Rattle.lk_ast.specs.declared.declaration.ColumnDecl.{ColumnDecl}
use Rattle.lk_ast.specs.declared.declaration.Decl.{Decl}
use Rattle.lk_ast.specs.declared.declaration.Decl.TheVariants as decl
use Rattle.lk_ast.specs.declared.declaration.FunDef.{FunDef}
use Rattle.lk_ast.specs.declared.declaration.Program.{Program}
use Rattle.lk_ast.specs.declared.declaration.TableDecl.{TableDecl}
use Rattle.lk_ast.specs.declared.expression.Case.{Case}
use Rattle.lk_ast.specs.declared.expression.ChangeExpr.{ChangeExpr, roll-ChangeExpr}
use Rattle.lk_ast.specs.declared.expression.Expr.{Expr, Expr-F, fold-Expr}
use Rattle.lk_ast.specs.declared.expression.LambdaExpr.{LambdaExpr}
use Rattle.lk_ast.specs.declared.expression.LastCase.{LastCase}
use Rattle.lk_ast.specs.declared.expression.Node.{Node, roll-Node}
use Rattle.lk_ast.specs.declared.expression.Node.TheOpen.{Node-F, Case-F, ChangeExpr-F, LambdaExpr-F, LastCase-F, PartExpr-F}
use Rattle.lk_ast.specs.declared.expression.PartExpr.{PartExpr}
use Rattle.lk_ast.specs.declared.expression.SortKey.{SortKey}
use Rattle.lk_ast.specs.declared.place.Span.{Span}
use Rattle.lk_ast.specs.declared.place.Word.{Word}
use Rattle.lk_ast.specs.declared.signature.Sig.{Sig}
use Rattle.lk_ast.specs.declared.signature.SigField.{SigField, roll-SigField}
use Rattle.lk_ast.specs.declared.signature.SigType.{SigType, roll-SigType, fold-SigType}
use Rattle.lk_ast.specs.declared.signature.SigType.TheOpen.{SigType-F, SigField-F}
use Rattle.lk_ast.specs.Layers.{Layer}

abbrev pub nowhere : Span
nowhere = record { start = 0; end = 0 }

abbrev pub bare_word : Word → Word
bare_word x = record { at = nowhere; text = x.text }

abbrev pub bare_key : SortKey → SortKey
bare_key k = record { label = bare_word k.label; desc = k.desc }

-- ---- one level of an expression, its parts bare

abbrev pub bare_layer : Layer → Layer
bare_layer (Node-F.Call g args) = Node-F.Call (bare_word g) args
bare_layer (Node-F.Var x e rest) = Node-F.Var (bare_word x) e rest
bare_layer (Node-F.Project e l) = Node-F.Project e (bare_word l)
bare_layer (Node-F.Tag t e) = Node-F.Tag (bare_word t) e
bare_layer (Node-F.ForList x e body) = Node-F.ForList (bare_word x) e body
bare_layer (Node-F.ForTable x rows body) = Node-F.ForTable (bare_word x) rows body
bare_layer (Node-F.Table t) = Node-F.Table (bare_word t)
bare_layer (Node-F.Query keys e) = Node-F.Query (map bare_key keys) e
bare_layer (Node-F.Insert t e) = Node-F.Insert (bare_word t) e
bare_layer other = other

abbrev pub bare_node_of : Layer → Node
bare_node_of l = roll-Node (bare_layer l)

abbrev pub bare_part_of : PartExpr-F Node Case ChangeExpr Expr LambdaExpr LastCase PartExpr → PartExpr
bare_part_of part = record { label = bare_word part.label; expr = part.expr }

abbrev pub bare_lambda_of : LambdaExpr-F Node Case ChangeExpr Expr LambdaExpr LastCase PartExpr → LambdaExpr
bare_lambda_of lambda = record { params = map bare_word lambda.params; place = lambda.place; body = lambda.body }

abbrev pub bare_case_of : Case-F Node Case ChangeExpr Expr LambdaExpr LastCase PartExpr → Case
bare_case_of case = record { tag = bare_word case.tag; name = option_map bare_word case.name; body = case.body }

abbrev pub bare_last_of : LastCase-F Node Case ChangeExpr Expr LambdaExpr LastCase PartExpr → LastCase
bare_last_of last = record { name = bare_word last.name; body = last.body }

abbrev pub bare_change_of : ChangeExpr-F Node Case ChangeExpr Expr LambdaExpr LastCase PartExpr → ChangeExpr
bare_change_of change = roll-ChangeExpr (record { name = bare_word change.name; table = bare_word change.table; cond = change.cond; sets = change.sets })

abbrev pub bare_expr_of : Expr-F Node Case ChangeExpr Expr LambdaExpr LastCase PartExpr → Expr
bare_expr_of e = record { span = nowhere; node = e.node }

-- ---- whole expressions, types and programs

abbrev pub bare : Expr → Expr
bare = fold-Expr Node Case ChangeExpr Expr LambdaExpr LastCase PartExpr bare_node_of bare_case_of bare_change_of bare_expr_of bare_lambda_of bare_last_of bare_part_of

abbrev pub bare_type_of : SigType-F SigType SigField → SigType
bare_type_of ty = roll-SigType ty

abbrev pub bare_field_of : SigField-F SigType SigField → SigField
bare_field_of field = roll-SigField (record { label = bare_word field.label; ty = field.ty })

abbrev pub bare_type : SigType → SigType
bare_type = fold-SigType SigType SigField bare_type_of bare_field_of

abbrev pub bare_sig : Sig → Sig
bare_sig sig = record { name = bare_word sig.name; ty = bare_type sig.ty }

abbrev pub bare_function : FunDef → FunDef
bare_function f = record { name = bare_word f.name; sig = option_map bare_sig f.sig; params = map bare_word f.params; place = f.place; body = bare f.body }

abbrev pub bare_column : ColumnDecl → ColumnDecl
bare_column c = record { label = bare_word c.label; kind = c.kind }

abbrev pub bare_table : TableDecl → TableDecl
bare_table t = record { name = bare_word t.name; columns = map bare_column t.columns }

abbrev pub bare_decl : Decl → Decl
bare_decl (decl.Table t) = decl.Table (bare_table t)
bare_decl (decl.Fun f) = decl.Fun (bare_function f)
bare_decl (decl.Mutual fs) = decl.Mutual (map bare_function fs)

abbrev pub bare_program : Program → Program
bare_program program = record { decls = map bare_decl program.decls }
