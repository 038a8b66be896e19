-- The outline of an expression by those of its parts: of an operator they stand one after another behind its own node, and a
-- form that binds names has those of its parts where these names are bound by it.
use Rattle.std.proofs.Common.{◌≡◌, refl, sym, ap, ap₂, ◌∙◌, ℕ, ◌+◌, List, [], ◌∷◌, ◌++◌, map, length, append-nil, append_assoc, add_assoc, length-append, Option, Some, None, is_some, IsSome, true, arith}
use Rattle.std.proofs.lemmas.List.{map-append}
use Rattle.lk_ast.specs.Children.{exprs_of}
use Rattle.lk_ast.specs.Layers.{Layer, layer}
use Rattle.lk_ast.specs.declared.expression.Case.{Case, fold_out-Case}
use Rattle.lk_ast.specs.declared.expression.ChangeExpr.{ChangeExpr, out-ChangeExpr, fold_out-ChangeExpr}
use Rattle.lk_ast.specs.declared.expression.Expr.{Expr}
use Rattle.lk_ast.specs.declared.expression.LambdaExpr.{LambdaExpr, fold_out-LambdaExpr}
use Rattle.lk_ast.specs.declared.expression.LastCase.{LastCase, fold_out-LastCase}
use Rattle.lk_ast.specs.declared.expression.Node.{Node, out-Node, fold_out-Node}
use Rattle.lk_ast.specs.declared.expression.Node.TheFolds.{map-Node}
use Rattle.lk_ast.specs.declared.expression.Node.TheOpen.{Node-F}
use Rattle.lk_ast.specs.declared.expression.PartExpr.{PartExpr}
use Rattle.lk_ast.specs.declared.expression.SortKey.{SortKey}
use Rattle.lk_ast.specs.declared.place.Span.{Span}
use Rattle.lk_ast.specs.declared.place.Word.{Word}
use Rattle.lk_typing.specs.Heads as operator
use Rattle.lk_typing.specs.Heads.{Head, head, parts}
use Rattle.lk_typing.specs.Names.{Named, named}
use Rattle.lk_typing.specs.Typing.{label_of, expr_of, head_of, parts_of}
use Rattle.lk_outline.proofs.Levels.{expr_level, part_level}
use Rattle.lk_outline.specs.Outline.{Around, Kind, Site, Context, In, Bound, before, all, starts, with_names, with_some, where_bound, in_lambda, binder_of, site, all_bound, binding, node_in, case_in, change_in, expr_in, lambda_in, last_in, part_in, outline, outline_node, outline_part, outline_lambda, outline_case, outline_last, outline_change}

-- a level with the outlines of its parts
abbrev mapped : Layer → Node-F (Span → In) Bound Bound In Bound Bound In
mapped = map-Node Node Case ChangeExpr Expr LambdaExpr LastCase PartExpr (Span → In) Bound Bound In Bound Bound In outline_node outline_case outline_change outline outline_lambda outline_last outline_part

node_level : (n : Node) (span : Span) → outline_node n span ≡ node_in (mapped (out-Node n)) span
unfolding outline outline_node outline_part outline_lambda outline_case outline_last outline_change
node_level n span = ap (λ f. f span) (fold_out-Node (Span → In) Bound Bound In Bound Bound In node_in case_in change_in expr_in lambda_in last_in part_in n)

lambda_level : (l : LambdaExpr) (number : ℕ) → outline_lambda l number ≡ in_lambda (with_names l.params (1 + number)) number (outline l.body)
unfolding outline outline_lambda
lambda_level l number = ap (λ f. f number) (fold_out-LambdaExpr (Span → In) Bound Bound In Bound Bound In node_in case_in change_in expr_in lambda_in last_in part_in l)

pub case_level : (case : Case) (binder : ℕ) → outline_case case binder ≡ where_bound (with_some case.name binder) (outline case.body)
unfolding outline outline_case
case_level case binder = ap (λ f. f binder) (fold_out-Case (Span → In) Bound Bound In Bound Bound In node_in case_in change_in expr_in lambda_in last_in part_in case)

last_level : (last : LastCase) (binder : ℕ) → outline_last last binder ≡ where_bound (with_names (last.name ∷ []) binder) (outline last.body)
unfolding outline outline_last
last_level last binder = ap (λ f. f binder) (fold_out-LastCase (Span → In) Bound Bound In Bound Bound In node_in case_in change_in expr_in lambda_in last_in part_in last)

-- ---- parts one after another

-- the outlines of some expressions one after another
abbrev pub outlines : List Expr → In
outlines es = all (map outline es)

abbrev pub case_outlines : List Case → ℕ → In
case_outlines cases = all_bound (map outline_case cases)

parts_level : (parts : List PartExpr) → map outline_part parts ≡ map outline (exprs_of parts)
parts_level [] = refl
parts_level (part ∷ parts) = ap₂ (λ p ps. p ∷ ps) (part_level part) (parts_level parts)

-- a change of a table: its condition and what is set
pub change_level : (change : ChangeExpr) (binder : ℕ)
    → outline_change change binder ≡ where_bound (with_names ((out-ChangeExpr change).name ∷ []) binder) (before (outline (out-ChangeExpr change).cond) (outlines (exprs_of (out-ChangeExpr change).sets)))
unfolding outline outline_part outline_change
change_level change binder =
    ap (λ f. f binder) (fold_out-ChangeExpr (Span → In) Bound Bound In Bound Bound In node_in case_in change_in expr_in lambda_in last_in part_in change)
    ∙ ap (λ ps. where_bound (with_names ((out-ChangeExpr change).name ∷ []) binder) (before (outline (out-ChangeExpr change).cond) (all ps))) (parts_level (out-ChangeExpr change).sets)

one_part : (a : In) (c : Context) (n : ℕ) → a c n ≡ all (a ∷ []) c n
one_part a c n = sym (append-nil (a c n))

two_parts : (a b : In) (c : Context) (n : ℕ) → before a b c n ≡ all (a ∷ b ∷ []) c n
two_parts a b c n = ap (λ r. a c n ++ r) (one_part b c (n + length (a c n)))

three_parts : (a b d : In) (c : Context) (n : ℕ) → before a (before b d) c n ≡ all (a ∷ b ∷ d ∷ []) c n
three_parts a b d c n = ap (λ r. a c n ++ r) (two_parts b d c (n + length (a c n)))

further_on : (n : ℕ) (xs ys : List Site) → n + length (xs ++ ys) ≡ (n + length xs) + length ys
further_on n xs ys = ap (λ k. n + k) (length-append xs ys) ∙ sym (add_assoc n (length xs) (length ys))

parts_and_one : (parts : List In) (e : In) (c : Context) (n : ℕ) → before (all parts) e c n ≡ all (parts ++ e ∷ []) c n
parts_and_one [] e c n = let none_more : n + 0 ≡ n = omega arith in ap (e c) none_more ∙ one_part e c n
parts_and_one (part ∷ parts) e c n =
    let m : ℕ = n + length (part c n) in
    append_assoc (part c n) (all parts c m) _
    ∙ ap (λ r. part c n ++ r) (ap (λ k. all parts c m ++ e c k) (further_on n (part c n) (all parts c m)) ∙ parts_and_one parts e c m)

-- ---- operators

-- a comparison whose left operand is the node of that number
abbrev pub operand_kind : Layer → ℕ → Kind
operand_kind (Node-F.Eq a b) n = Kind.Equality n
operand_kind (Node-F.Ne a b) n = Kind.Equality n
operand_kind (Node-F.Lt a b) n = Kind.Order n
operand_kind (Node-F.Le a b) n = Kind.Order n
operand_kind (Node-F.Gt a b) n = Kind.Order n
operand_kind (Node-F.Ge a b) n = Kind.Order n
operand_kind other n = Kind.Other

-- what the node of an operator is
abbrev pub kind_of : Option Head → Layer → Context → ℕ → Kind
kind_of (Some (operator.Local x)) l c n = Kind.Name (binder_of (named x c.scope))
kind_of (Some (operator.Function g)) l c n = Kind.Function g
kind_of (Some (operator.Call g)) l c n = Kind.Call g (starts (map outline (parts label_of expr_of l)) c (1 + n))
kind_of (Some operator.Comparison) l c n = operand_kind l (1 + n)
kind_of other l c n = Kind.Other

behind : {s : Site} {a b : List Site} → a ≡ b → s ∷ a ≡ s ∷ b
behind {s} same = ap (λ r. s ∷ r) same

-- an operator and then its parts, one after the other
plain_level : (l : Layer) (span : Span) (c : Context) (n : ℕ) → IsSome (head label_of expr_of l)
    → node_in (mapped l) span c n ≡ site span (kind_of (head label_of expr_of l) l c n) c n (outlines (parts label_of expr_of l) c (1 + n))
plain_level (Node-F.Int number) span c n some = refl
plain_level (Node-F.Text text) span c n some = refl
plain_level (Node-F.Bool truth) span c n some = refl
plain_level (Node-F.Name x) span c n some = refl
plain_level (Node-F.Function g) span c n some = refl
plain_level (Node-F.Call g args) span c n some = refl
plain_level (Node-F.Apply f args) span c n some = refl
plain_level (Node-F.Seq a b) span c n some = behind (two_parts (outline a) (outline b) c (1 + n))
plain_level (Node-F.If a b d) span c n some = behind (three_parts (outline a) (outline b) (outline d) c (1 + n))
plain_level (Node-F.And a b) span c n some = behind (two_parts (outline a) (outline b) c (1 + n))
plain_level (Node-F.Or a b) span c n some = behind (two_parts (outline a) (outline b) c (1 + n))
plain_level (Node-F.Concat a b) span c n some = behind (two_parts (outline a) (outline b) c (1 + n))
plain_level (Node-F.Append a b) span c n some = behind (two_parts (outline a) (outline b) c (1 + n))
plain_level (Node-F.Cons a b) span c n some = behind (two_parts (outline a) (outline b) c (1 + n))
plain_level (Node-F.Add a b) span c n some = behind (two_parts (outline a) (outline b) c (1 + n))
plain_level (Node-F.Sub a b) span c n some = behind (two_parts (outline a) (outline b) c (1 + n))
plain_level (Node-F.Mul a b) span c n some = behind (two_parts (outline a) (outline b) c (1 + n))
plain_level (Node-F.Div a b) span c n some = behind (two_parts (outline a) (outline b) c (1 + n))
plain_level (Node-F.Mod a b) span c n some = behind (two_parts (outline a) (outline b) c (1 + n))
plain_level (Node-F.Eq a b) span c n some = behind (two_parts (outline a) (outline b) c (1 + n))
plain_level (Node-F.Ne a b) span c n some = behind (two_parts (outline a) (outline b) c (1 + n))
plain_level (Node-F.Lt a b) span c n some = behind (two_parts (outline a) (outline b) c (1 + n))
plain_level (Node-F.Le a b) span c n some = behind (two_parts (outline a) (outline b) c (1 + n))
plain_level (Node-F.Gt a b) span c n some = behind (two_parts (outline a) (outline b) c (1 + n))
plain_level (Node-F.Ge a b) span c n some = behind (two_parts (outline a) (outline b) c (1 + n))
plain_level (Node-F.Neg e) span c n some = behind (one_part (outline e) c (1 + n))
plain_level (Node-F.Not e) span c n some = behind (one_part (outline e) c (1 + n))
plain_level (Node-F.Hd e) span c n some = behind (one_part (outline e) c (1 + n))
plain_level (Node-F.Tl e) span c n some = behind (one_part (outline e) c (1 + n))
plain_level (Node-F.Empty e) span c n some = behind (one_part (outline e) c (1 + n))
plain_level (Node-F.IntToString e) span c n some = behind (one_part (outline e) c (1 + n))
plain_level (Node-F.Print e) span c n some = behind (one_part (outline e) c (1 + n))
plain_level (Node-F.Record fields) span c n some = behind (ap (λ ps. all ps c (1 + n)) (parts_level fields))
plain_level (Node-F.Extend fields e) span c n some =
    behind (ap (λ ps. before (all ps) (outline e) c (1 + n)) (parts_level fields) ∙ parts_and_one (map outline (exprs_of fields)) (outline e) c (1 + n)
    ∙ ap (λ ps. all ps c (1 + n)) (sym (map-append outline (exprs_of fields) (e ∷ []))))
plain_level (Node-F.List items) span c n some = refl
plain_level (Node-F.Project e l) span c n some = behind (one_part (outline e) c (1 + n))
plain_level (Node-F.Tag t e) span c n some = behind (one_part (outline e) c (1 + n))
plain_level (Node-F.Table t) span c n some = refl
plain_level (Node-F.Where a b) span c n some = behind (two_parts (outline a) (outline b) c (1 + n))
plain_level (Node-F.Insert t e) span c n some = behind (one_part (outline e) c (1 + n))
plain_level binder span c n some = absurd cc

-- ---- whole expressions

outline_level : (e : Expr) (c : Context) (n : ℕ) → outline e c n ≡ node_in (mapped (layer e)) e.span c n
outline_level e c n = ap (λ f. f c n) (expr_level e ∙ node_level e.node e.span)

pub outline_plain : (e : Expr) (h : Head) (c : Context) (n : ℕ) → head_of e ≡ Some h → outline e c n ≡ site e.span (kind_of (Some h) (layer e) c n) c n (outlines (parts_of e) c (1 + n))
outline_plain e h c n is =
    let some : IsSome (head_of e) = ap is_some is in
    outline_level e c n ∙ plain_level (layer e) e.span c n some ∙ ap (λ o. site e.span (kind_of o (layer e) c n) c n (outlines (parts_of e) c (1 + n))) is

outline_form : (e : Expr) (l : Layer) (c : Context) (n : ℕ) → layer e ≡ l → outline e c n ≡ node_in (mapped l) e.span c n
outline_form e l c n is = outline_level e c n ∙ ap (λ m. node_in (mapped m) e.span c n) is

-- a node of which nothing more is to be said
abbrev pub other_site : Expr → Context → ℕ → List Site → List Site
other_site e = site e.span Kind.Other

pub outline_lambda_form : (e : Expr) (l : LambdaExpr) (c : Context) (n : ℕ) → layer e ≡ Node-F.Lambda l → outline e c n ≡ other_site e c n (in_lambda (with_names l.params (1 + n)) n (outline l.body) c (1 + n))
outline_lambda_form e l c n is = outline_form e _ c n is ∙ behind (ap (λ f. f c (1 + n)) (lambda_level l n))

pub outline_var : (e : Expr) (x : Word) (d rest : Expr) (c : Context) (n : ℕ) → layer e ≡ Node-F.Var x d rest → outline e c n ≡ other_site e c n (binding x (outline d) (outline rest) n c (1 + n))
outline_var e x d rest c n is = outline_form e _ c n is

pub outline_for_list : (e : Expr) (x : Word) (d body : Expr) (c : Context) (n : ℕ) → layer e ≡ Node-F.ForList x d body → outline e c n ≡ other_site e c n (binding x (outline d) (outline body) n c (1 + n))
outline_for_list e x d body c n is = outline_form e _ c n is

pub outline_for_table : (e : Expr) (x : Word) (rows body : Expr) (c : Context) (n : ℕ) → layer e ≡ Node-F.ForTable x rows body → outline e c n ≡ other_site e c n (binding x (outline rows) (outline body) n c (1 + n))
outline_for_table e x rows body c n is = outline_form e _ c n is

pub outline_switch : (e d : Expr) (cases : List Case) (c : Context) (n : ℕ) → layer e ≡ Node-F.Switch d cases None
    → outline e c n ≡ other_site e c n (before (outline d) (case_outlines cases (1 + n)) c (1 + n))
outline_switch e d cases c n is =
    outline_form e _ c n is ∙ behind (ap (λ r. outline d c (1 + n) ++ r) (append-nil (case_outlines cases (1 + n) c (1 + n + length (outline d c (1 + n))))))

pub outline_switch_open : (e d : Expr) (cases : List Case) (last : LastCase) (c : Context) (n : ℕ) → layer e ≡ Node-F.Switch d cases (Some last)
    → outline e c n ≡ other_site e c n (before (outline d) (before (case_outlines cases (1 + n)) (where_bound (with_names (last.name ∷ []) (1 + n)) (outline last.body))) c (1 + n))
outline_switch_open e d cases last c n is =
    outline_form e _ c n is ∙ behind (ap (λ r. before (outline d) (before (case_outlines cases (1 + n)) r) c (1 + n)) (last_level last (1 + n)))

-- a query or a change in which these nodes stand
abbrev pub block_site : Expr → (ℕ → Kind) → Context → ℕ → List Site → List Site
block_site e kind c n found = site e.span (kind (length found)) c n found

-- what stands round the body of a lambda which is the node of that number
abbrev pub lambda_context : (Named ℕ → Named ℕ) → ℕ → Context → Context
lambda_context bind number c = record { around = Around.Lambda number; inside = c.inside; scope = bind c.scope }

-- what stands round a part in which names are bound
abbrev pub bound_context : (Named ℕ → Named ℕ) → Context → Context
bound_context bind c = record { around = c.around; inside = c.inside; scope = bind c.scope }

-- what stands round the nodes of a query or a change
abbrev pub block_context : Around → Context → Context
block_context around c = record { around = around; inside = true; scope = c.scope }

pub outline_query : (e : Expr) (keys : List SortKey) (body : Expr) (c : Context) (n : ℕ) → layer e ≡ Node-F.Query keys body
    → outline e c n ≡ block_site e Kind.Query c n (outline body (block_context Around.Query c) (1 + n))
outline_query e keys body c n is = outline_form e _ c n is

pub outline_update : (e : Expr) (change : ChangeExpr) (c : Context) (n : ℕ) → layer e ≡ Node-F.Update change
    → outline e c n ≡ block_site e Kind.Change c n (outline_change change (1 + n) (block_context Around.Change c) (1 + n))
outline_update e change c n is = outline_form e _ c n is

pub outline_delete : (e : Expr) (change : ChangeExpr) (c : Context) (n : ℕ) → layer e ≡ Node-F.Delete change
    → outline e c n ≡ block_site e Kind.Change c n (outline_change change (1 + n) (block_context Around.Change c) (1 + n))
outline_delete e change c n is = outline_form e _ c n is
