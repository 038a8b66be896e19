-- Parts of an expression: where it begins and ends, with the parentheses or braces round it, what it is, and what it would
-- take of the tokens behind it. What each production makes of its parts is a synthesized attribute (Aho, Lam, Sethi and
-- Ullman, Compilers, 2006, section 5.1).
use Rattle.std.specs.Prelude.{ℕ, Bool, true, false, not, ◌||◌, List, [], ◌∷◌, Option, Some, None, codes, if◌then◌else◌}
use Rattle.std.specs.Option.{is_none}
use Rattle.std.specs.Str.{bytes_eq}
use Rattle.lk_ast.specs.Layers.{statement_node}
use Rattle.lk_ast.specs.declared.expression.Case.{Case}
use Rattle.lk_ast.specs.declared.expression.ChangeExpr.{roll-ChangeExpr}
use Rattle.lk_ast.specs.declared.expression.Expr.{Expr}
use Rattle.lk_ast.specs.declared.expression.LastCase.{LastCase}
use Rattle.lk_ast.specs.declared.expression.Node.{Node}
use Rattle.lk_ast.specs.declared.expression.Node.TheVariants as node
use Rattle.lk_ast.specs.declared.expression.PartExpr.{PartExpr}
use Rattle.lk_ast.specs.declared.expression.SortKey.{SortKey}
use Rattle.lk_ast.specs.declared.place.Loc.{Loc}
use Rattle.lk_ast.specs.declared.place.Span.{Span}
use Rattle.lk_ast.specs.declared.place.Word.{Word as Named}
use Rattle.lk_ast.specs.declared.token.Token.{Token}
use Rattle.lk_ast.specs.declared.token.TokenKind.{TokenKind}
use Rattle.lk_ast.specs.declared.token.TokenKind.TheVariants.{Word, Tag, Int, Text, Sign}
use Rattle.lk_read.specs.Kinds.{text_of_kind, word_of}
use Rattle.lk_parts.specs.Operators.{operator_node, prefix_node}
use Rattle.lk_parts.specs.declared.operators.Level.{Level}
use Rattle.lk_parts.specs.declared.operators.Level.TheVariants as level
use Rattle.lk_parts.specs.declared.part.Cases.{Cases}
use Rattle.lk_parts.specs.declared.part.Change.{Change}
use Rattle.lk_parts.specs.declared.part.Ends.{Ends}
use Rattle.lk_parts.specs.declared.part.Ends.TheVariants as ends
use Rattle.lk_parts.specs.declared.part.Part.{Part}
use Rattle.lk_parts.specs.declared.part.Statement.{Statement}

abbrev pub text_of : Token → List ℕ
text_of token = text_of_kind token.kind

-- from one place to another
abbrev pub between : ℕ → ℕ → Span
between from to = record { start = from; end = to }

abbrev pub expr_of : ℕ → ℕ → Node → Expr
expr_of from to made = record { span = between from to; node = made }

-- ---- ends

-- a part that takes nothing of what stands behind it
abbrev pub closed : ℕ → ℕ → Node → Part
closed from to made = record { from = from; to = to; expr = expr_of from to made; ends = ends.Closed; compared = false }

-- the end of a part whose last part this is
abbrev pub behind : Ends → Ends
behind ends.Form = ends.Form
behind ends.Compared = ends.Compared
behind other = ends.Closed

abbrev pub is_form_end : Ends → Bool
is_form_end ends.Form = true
is_form_end other = false

abbrev pub is_open_end : Ends → Bool
is_open_end ends.Form = true
is_open_end ends.Compared = true
is_open_end other = false

abbrev pub is_tag_end : Ends → Bool
is_tag_end ends.Tag = true
is_tag_end other = false

abbrev pub is_name_end : Ends → Bool
is_name_end ends.Name = true
is_name_end other = false

-- An expression at the end of a form takes as much as it can: any operator, but a comparison where it is one already.
abbrev pub form_end : Part → Ends
form_end e = if is_form_end e.ends || not e.compared then ends.Form else ends.Compared

-- whether an operator, a comparison, a call can stand behind a part
abbrev pub takes_operator : Part → Bool
takes_operator a = not (is_open_end a.ends)

abbrev pub takes_comparison : Part → Bool
takes_comparison a = not (is_form_end a.ends)

abbrev pub takes_call : Part → Bool
takes_call f = not (is_tag_end f.ends)

-- whether a part is one word that names something
abbrev pub is_bare_name : Part → Bool
is_bare_name e = is_name_end e.ends

-- ---- one token

abbrev pub literal_node : TokenKind → Node
literal_node (Int number) = node.Int number
literal_node (Text text) = node.Text text
literal_node (Word word) = node.Bool (bytes_eq word (codes "true"))
literal_node (Tag tag) = node.Bool false
literal_node (Sign sign) = node.Bool false

abbrev pub literal : Token → Part
literal t = closed t.span.start t.span.end (literal_node t.kind)

abbrev pub named : Token → Part
named t = record { from = t.span.start; to = t.span.end; expr = expr_of t.span.start t.span.end (node.Name (text_of t)); ends = ends.Name; compared = false }

-- the name that a part is
abbrev pub name_text : Node → List ℕ
name_text (node.Name text) = text
name_text other = []

abbrev pub label_of : Part → Named
label_of e = record { at = e.expr.span; text = name_text e.expr.node }

-- ---- between brackets

abbrev pub wrapped : Token → Part → Token → Part
wrapped o e c = record { from = o.span.start; to = c.span.end; expr = e.expr; ends = ends.Closed; compared = false }

abbrev pub part_of : Named → Part → PartExpr
part_of label e = record { label = label; expr = e.expr }

abbrev pub record_of : Token → List PartExpr → Token → Part
record_of o parts c = closed o.span.start c.span.end (node.Record parts)

abbrev pub extended : Token → List PartExpr → Part → Token → Part
extended o parts r c = closed o.span.start c.span.end (node.Extend parts r.expr)

abbrev pub list_of : Token → List Expr → Token → Part
list_of o items c = closed o.span.start c.span.end (node.List items)

-- the unit value that the text leaves out
abbrev pub hidden_unit : ℕ → ℕ → Expr
hidden_unit from to = expr_of from to (node.Record [])

abbrev pub bare_tag : Token → Part
bare_tag t = record { from = t.span.start; to = t.span.end; expr = expr_of t.span.start t.span.end (node.Tag (word_of t) (hidden_unit t.span.start t.span.end)); ends = ends.Tag; compared = false }

abbrev pub unit_tag : Token → Token → Part
unit_tag t c = closed t.span.start c.span.end (node.Tag (word_of t) (hidden_unit t.span.start c.span.end))

abbrev pub tagged : Token → Part → Token → Part
tagged t e c = closed t.span.start c.span.end (node.Tag (word_of t) e.expr)

abbrev pub prefixed : Token → Part → Token → Part
prefixed k e c = closed k.span.start c.span.end (prefix_node (text_of k) e.expr)

abbrev pub called : Part → List Expr → Token → Part
called f args c = closed f.from c.span.end (node.Apply f.expr args)

abbrev pub projected : Part → Token → Part
projected e l = closed e.from l.span.end (node.Project e.expr (word_of l))

-- ---- blocks

abbrev pub var_statement : Token → Token → Part → Statement
var_statement k x e = record { from = k.span.start; name = Some (word_of x); expr = e.expr }

abbrev pub plain_statement : Part → Statement
plain_statement e = record { from = e.from; name = None; expr = e.expr }

-- statements, and the expression behind them, which ends here
abbrev pub chain : List Statement → ℕ → Expr → Expr
chain [] to last = last
chain (s ∷ ss) to last = expr_of s.from to (statement_node s.name s.expr (chain ss to last))

abbrev pub braced : Token → List Statement → Part → Token → Part
braced o ss e c = record { from = o.span.start; to = c.span.end; expr = chain ss e.to e.expr; ends = ends.Closed; compared = false }

-- ---- operators

abbrev pub negated : Token → Part → Part
negated s e = record { from = s.span.start; to = e.to; expr = expr_of s.span.start e.to (node.Neg e.expr); ends = behind e.ends; compared = false }

-- whether the comparison at the right end is made, so that no other one goes on with it
abbrev pub compared_by : Level → Part → Bool
compared_by level.Or b = b.compared
compared_by level.And b = b.compared
compared_by level.Comparison b = true
compared_by other b = false

abbrev pub binary : Level → Part → Token → Part → Part
binary at a s b = record { from = a.from; to = b.to; expr = expr_of a.from b.to (operator_node at (text_of s) a.expr b.expr); ends = behind b.ends; compared = compared_by at b }

-- ---- forms

-- a form that begins here and ends with the expression e
abbrev pub opened : Token → Part → Node → Part
opened k e made = record { from = k.span.start; to = e.to; expr = expr_of k.span.start e.to made; ends = form_end e; compared = false }

abbrev pub if_form : Token → Part → Part → Part → Part
if_form k c d e = opened k e (node.If c.expr d.expr e.expr)

abbrev pub list_loop : Token → Token → Part → Part → Part
list_loop k x e d = opened k d (node.ForList (word_of x) e.expr d.expr)

abbrev pub table_loop : Token → Token → Token → Part → Part
table_loop k x t d = opened k d (node.ForTable (word_of x) (expr_of k.span.start d.to (node.Table (word_of t))) d.expr)

abbrev pub where_form : Token → Part → Part → Part
where_form k c e = opened k e (node.Where c.expr e.expr)

abbrev pub insert_form : Token → Token → Part → Part
insert_form k t e = opened k e (node.Insert (word_of t) e.expr)

abbrev pub change_of : Token → Token → Part → Token → Change
change_of x t cond c = record { name = word_of x; table = word_of t; cond = cond.expr; to = c.span.end }

abbrev pub update_form : Token → Change → List PartExpr → Token → Part
update_form k change sets c = closed k.span.start c.span.end (node.Update (roll-ChangeExpr (record { name = change.name; table = change.table; cond = change.cond; sets = sets })))

abbrev pub delete_form : Token → Change → Part
delete_form k change = closed k.span.start change.to (node.Delete (roll-ChangeExpr (record { name = change.name; table = change.table; cond = change.cond; sets = [] })))

abbrev pub switch_form : Token → Part → Cases → Token → Part
switch_form k e cases c = closed k.span.start c.span.end (node.Switch e.expr cases.list cases.last)

abbrev pub query_form : Token → List SortKey → Part → Part
query_form k keys b = closed k.span.start b.to (node.Query keys b.expr)

abbrev pub lambda_form : Token → List Named → Loc → Part → Part
lambda_form k params place b = closed k.span.start b.to (node.Lambda (record { params = params; place = place; body = b.expr }))

-- ---- cases

abbrev pub no_cases : Cases
no_cases = record { list = []; last = None }

abbrev pub case_of : Token → Option Named → Part → Case
case_of t x e = record { tag = word_of t; name = x; body = e.expr }

abbrev pub last_case : Token → Part → LastCase
last_case x e = record { name = word_of x; body = e.expr }

-- whether no last case has come yet
abbrev pub goes_on : Cases → Bool
goes_on cases = is_none cases.last

abbrev pub is_nil : {X : Type 0} → List X → Bool
is_nil [] = true
is_nil (x ∷ xs) = false

abbrev pub some_case : Cases → Bool
some_case cases = not (is_nil cases.list) || not (is_none cases.last)
