-- The free names of an expression by those of its parts: of an operator they are those of its parts one after another, and a
-- form that binds names has those of its parts where these names are bound too.
use Rattle.std.proofs.Common.{◌≡◌, refl, sym, ap, ◌∙◌, List, [], ◌∷◌, ◌++◌, map, flat_map, append-nil, append_assoc, Option, Some, None, is_some, IsSome}
use Rattle.std.proofs.lemmas.Grind.{flat_map-append}
use Rattle.std.proofs.lemmas.List.Folds.{flat_map-map}
use Rattle.lk_ast.specs.Children.{exprs_of}
use Rattle.lk_ast.specs.Layers.{Layer, layer}
use Rattle.lk_ast.specs.declared.expression.Case.{Case, fold_out-Case}
use Rattle.lk_ast.specs.declared.expression.ChangeExpr.{ChangeExpr, out-ChangeExpr, fold_out-ChangeExpr}
use Rattle.lk_ast.specs.declared.expression.Expr.{Expr, fold_out-Expr}
use Rattle.lk_ast.specs.declared.expression.LambdaExpr.{LambdaExpr, fold_out-LambdaExpr}
use Rattle.lk_ast.specs.declared.expression.LastCase.{LastCase, fold_out-LastCase}
use Rattle.lk_ast.specs.declared.expression.Node.{Node, fold_out-Node}
use Rattle.lk_ast.specs.declared.expression.Node.TheFolds.{map-Node}
use Rattle.lk_ast.specs.declared.expression.Node.TheOpen.{Node-F}
use Rattle.lk_ast.specs.declared.expression.PartExpr.{PartExpr, fold_out-PartExpr}
use Rattle.lk_ast.specs.declared.expression.SortKey.{SortKey}
use Rattle.lk_ast.specs.declared.place.Word.{Word}
use Rattle.lk_index.specs.Free.{Uses, use_of, all_uses, node_in, case_in, change_in, expr_in, lambda_in, last_in, part_in, free, free_node, free_part, free_lambda, free_case, free_last, free_change}
use Rattle.lk_scope.specs.Names.{Names, bind, bind_all, bind_some}
use Rattle.lk_types.specs.Rows.{Label}
use Rattle.lk_typing.specs.Heads as operator
use Rattle.lk_typing.specs.Heads.{Head, head, parts}
use Rattle.lk_typing.specs.Typing.{label_of, expr_of, head_of, parts_of}

-- a level with the uses in its parts
abbrev mapped : Layer → Node-F Uses Uses Uses Uses Uses Uses Uses
mapped = map-Node Node Case ChangeExpr Expr LambdaExpr LastCase PartExpr Uses Uses Uses Uses Uses Uses Uses free_node free_case free_change free free_lambda free_last free_part

free_level : (e : Expr) (bound : Names) → free e bound ≡ node_in (mapped (layer e)) bound
free_level e bound =
    ap (λ f. f bound) (fold_out-Expr Uses Uses Uses Uses Uses Uses Uses node_in case_in change_in expr_in lambda_in last_in part_in e)
    ∙ ap (λ f. f bound) (fold_out-Node Uses Uses Uses Uses Uses Uses Uses node_in case_in change_in expr_in lambda_in last_in part_in e.node)

part_level : (part : PartExpr) (bound : Names) → free_part part bound ≡ free part.expr bound
part_level part bound = ap (λ f. f bound) (fold_out-PartExpr Uses Uses Uses Uses Uses Uses Uses node_in case_in change_in expr_in lambda_in last_in part_in part)

-- the parameters of a lambda are bound in its body
pub lambda_level : (l : LambdaExpr) (bound : Names) → free_lambda l bound ≡ free l.body (bind_all l.params bound)
lambda_level l bound = ap (λ f. f bound) (fold_out-LambdaExpr Uses Uses Uses Uses Uses Uses Uses node_in case_in change_in expr_in lambda_in last_in part_in l)

-- what a tag holds is bound in the body of its case
pub case_level : (case : Case) (bound : Names) → free_case case bound ≡ free case.body (bind_some case.name bound)
case_level case bound = ap (λ f. f bound) (fold_out-Case Uses Uses Uses Uses Uses Uses Uses node_in case_in change_in expr_in lambda_in last_in part_in case)

pub last_level : (last : LastCase) (bound : Names) → free_last last bound ≡ free last.body (bind last.name bound)
last_level last bound = ap (λ f. f bound) (fold_out-LastCase Uses Uses Uses Uses Uses Uses Uses node_in case_in change_in expr_in lambda_in last_in part_in last)

-- ---- parts one after another

-- the uses in some expressions
abbrev pub free_all : List Expr → Uses
free_all es bound = flat_map (λ e. free e bound) es

all_free : (es : List Expr) (bound : Names) → all_uses (map free es) bound ≡ free_all es bound
all_free es bound = flat_map-map (λ uses. uses bound) free es

parts_free : (parts : List PartExpr) (bound : Names) → all_uses (map free_part parts) bound ≡ free_all (exprs_of parts) bound
parts_free [] bound = refl
parts_free (part ∷ parts) bound = (λ i. part_level part bound i ++ parts_free parts bound i)

pub change_level : (change : ChangeExpr) (bound : Names)
    → free_change change bound ≡ free (out-ChangeExpr change).cond (bind (out-ChangeExpr change).name bound) ++ free_all (exprs_of (out-ChangeExpr change).sets) (bind (out-ChangeExpr change).name bound)
change_level change bound =
    ap (λ f. f bound) (fold_out-ChangeExpr Uses Uses Uses Uses Uses Uses Uses node_in case_in change_in expr_in lambda_in last_in part_in change)
    ∙ ap (λ r. free (out-ChangeExpr change).cond (bind (out-ChangeExpr change).name bound) ++ r) (parts_free (out-ChangeExpr change).sets (bind (out-ChangeExpr change).name bound))

-- ---- operators

-- the name that an operator itself uses
abbrev pub own_uses : Option Head → Uses
own_uses (Some (operator.Local x)) = use_of x
own_uses other = λ bound. []

one_part : (a : List Label) → a ≡ a ++ []
one_part a = sym (append-nil a)

two_parts : (a b : List Label) → a ++ b ≡ a ++ (b ++ [])
two_parts a b = ap (λ r. a ++ r) (one_part b)

three_parts : (a b c : List Label) → (a ++ b) ++ c ≡ a ++ (b ++ (c ++ []))
three_parts a b c = append_assoc a b c ∙ ap (λ r. a ++ r) (two_parts b c)

parts_and_one : (es : List Expr) (e : Expr) (bound : Names) → free_all es bound ++ free e bound ≡ free_all (es ++ e ∷ []) bound
parts_and_one es e bound = ap (λ r. free_all es bound ++ r) (one_part (free e bound)) ∙ sym (flat_map-append (λ d. free d bound) es (e ∷ []))

-- what its name and its parts use, one after the other
plain_level : (l : Layer) (bound : Names) → IsSome (head label_of expr_of l) → node_in (mapped l) bound ≡ own_uses (head label_of expr_of l) bound ++ free_all (parts label_of expr_of l) bound
plain_level (Node-F.Int number) bound some = refl
plain_level (Node-F.Text text) bound some = refl
plain_level (Node-F.Bool truth) bound some = refl
plain_level (Node-F.Name x) bound some = one_part (use_of x bound)
plain_level (Node-F.Function g) bound some = refl
plain_level (Node-F.Call g args) bound some = all_free args bound
plain_level (Node-F.Apply f args) bound some = ap (λ r. free f bound ++ r) (all_free args bound)
plain_level (Node-F.Seq a b) bound some = two_parts _ _
plain_level (Node-F.If c d e) bound some = three_parts (free c bound) (free d bound) (free e bound)
plain_level (Node-F.And a b) bound some = two_parts _ _
plain_level (Node-F.Or a b) bound some = two_parts _ _
plain_level (Node-F.Concat a b) bound some = two_parts _ _
plain_level (Node-F.Append a b) bound some = two_parts _ _
plain_level (Node-F.Cons a b) bound some = two_parts _ _
plain_level (Node-F.Add a b) bound some = two_parts _ _
plain_level (Node-F.Sub a b) bound some = two_parts _ _
plain_level (Node-F.Mul a b) bound some = two_parts _ _
plain_level (Node-F.Div a b) bound some = two_parts _ _
plain_level (Node-F.Mod a b) bound some = two_parts _ _
plain_level (Node-F.Eq a b) bound some = two_parts _ _
plain_level (Node-F.Ne a b) bound some = two_parts _ _
plain_level (Node-F.Lt a b) bound some = two_parts _ _
plain_level (Node-F.Le a b) bound some = two_parts _ _
plain_level (Node-F.Gt a b) bound some = two_parts _ _
plain_level (Node-F.Ge a b) bound some = two_parts _ _
plain_level (Node-F.Neg e) bound some = one_part _
plain_level (Node-F.Not e) bound some = one_part _
plain_level (Node-F.Hd e) bound some = one_part _
plain_level (Node-F.Tl e) bound some = one_part _
plain_level (Node-F.Empty e) bound some = one_part _
plain_level (Node-F.IntToString e) bound some = one_part _
plain_level (Node-F.Print e) bound some = one_part _
plain_level (Node-F.Record fields) bound some = parts_free fields bound
plain_level (Node-F.Extend fields e) bound some = ap (λ r. r ++ free e bound) (parts_free fields bound) ∙ parts_and_one (exprs_of fields) e bound
plain_level (Node-F.List items) bound some = all_free items bound
plain_level (Node-F.Project e l) bound some = one_part _
plain_level (Node-F.Tag t e) bound some = one_part _
plain_level (Node-F.Table t) bound some = refl
plain_level (Node-F.Where c e) bound some = two_parts _ _
plain_level (Node-F.Insert t e) bound some = one_part _
plain_level (Node-F.Lambda lambda) bound some = absurd cc
plain_level (Node-F.Var x e rest) bound some = absurd cc
plain_level (Node-F.Switch e cases last) bound some = absurd cc
plain_level (Node-F.ForList x e body) bound some = absurd cc
plain_level (Node-F.ForTable x rows body) bound some = absurd cc
plain_level (Node-F.Query keys e) bound some = absurd cc
plain_level (Node-F.Update change) bound some = absurd cc
plain_level (Node-F.Delete change) bound some = absurd cc

pub free_plain : (e : Expr) (h : Head) (bound : Names) → head_of e ≡ Some h → free e bound ≡ own_uses (Some h) bound ++ free_all (parts_of e) bound
free_plain e h bound is =
    let some : IsSome (head_of e) = ap is_some is in
    free_level e bound ∙ plain_level (layer e) bound some ∙ ap (λ o. own_uses o bound ++ free_all (parts_of e) bound) is

-- ---- each form that binds names

free_form : (e : Expr) (l : Layer) (bound : Names) → layer e ≡ l → free e bound ≡ node_in (mapped l) bound
free_form e l bound is = free_level e bound ∙ ap (λ m. node_in (mapped m) bound) is

pub free_lambda_form : (e : Expr) (l : LambdaExpr) (bound : Names) → layer e ≡ Node-F.Lambda l → free e bound ≡ free l.body (bind_all l.params bound)
free_lambda_form e l bound is = free_form e _ bound is ∙ lambda_level l bound

pub free_var : (e : Expr) (x : Word) (d rest : Expr) (bound : Names) → layer e ≡ Node-F.Var x d rest → free e bound ≡ free d bound ++ free rest (bind x bound)
free_var e x d rest bound is = free_form e _ bound is

-- the uses in the cases of a `switch`
abbrev pub free_cases : List Case → Uses
free_cases cases bound = flat_map (λ case. free_case case bound) cases

pub free_switch : (e d : Expr) (cases : List Case) (bound : Names) → layer e ≡ Node-F.Switch d cases None → free e bound ≡ free d bound ++ free_cases cases bound
free_switch e d cases bound is = free_form e _ bound is ∙ append-nil _ ∙ ap (λ r. free d bound ++ r) (flat_map-map (λ uses. uses bound) free_case cases)

pub free_switch_open : (e d : Expr) (cases : List Case) (last : LastCase) (bound : Names) → layer e ≡ Node-F.Switch d cases (Some last)
    → free e bound ≡ (free d bound ++ free_cases cases bound) ++ free last.body (bind last.name bound)
free_switch_open e d cases last bound is = free_form e _ bound is ∙ (λ i. (free d bound ++ flat_map-map (λ uses. uses bound) free_case cases i) ++ last_level last bound i)

pub free_for_list : (e : Expr) (x : Word) (d body : Expr) (bound : Names) → layer e ≡ Node-F.ForList x d body → free e bound ≡ free d bound ++ free body (bind x bound)
free_for_list e x d body bound is = free_form e _ bound is

pub free_for_table : (e : Expr) (x : Word) (rows body : Expr) (bound : Names) → layer e ≡ Node-F.ForTable x rows body → free e bound ≡ free rows bound ++ free body (bind x bound)
free_for_table e x rows body bound is = free_form e _ bound is

pub free_query : (e : Expr) (keys : List SortKey) (body : Expr) (bound : Names) → layer e ≡ Node-F.Query keys body → free e bound ≡ free body bound
free_query e keys body bound is = free_form e _ bound is

pub free_update : (e : Expr) (change : ChangeExpr) (bound : Names) → layer e ≡ Node-F.Update change → free e bound ≡ free_change change bound
free_update e change bound is = free_form e _ bound is

pub free_delete : (e : Expr) (change : ChangeExpr) (bound : Names) → layer e ≡ Node-F.Delete change → free e bound ≡ free_change change bound
free_delete e change bound is = free_form e _ bound is
