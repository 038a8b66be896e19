-- Whether functions are used, by the parts of an expression.
use Rattle.std.proofs.Common.{◌≡◌, Bool, true, false, List, [], ◌∷◌, ◌++◌, Option, Some, None, map, refl, ap, sym, ◌∙◌, append-nil}
use Rattle.std.specs.Prelude.{◌||◌}
use Rattle.std.specs.List.{cons_option, list_any}
use Rattle.std.specs.Option.{option_map}
use Rattle.lk_ast.specs.Layers.{Layer, layer, before}
use Rattle.lk_ast.specs.declared.expression.Case.{Case, fold-Case, fold_out-Case}
use Rattle.lk_ast.specs.declared.expression.ChangeExpr.{ChangeExpr, out-ChangeExpr, fold-ChangeExpr, fold_out-ChangeExpr}
use Rattle.lk_ast.specs.declared.expression.Expr.{Expr, fold_out-Expr}
use Rattle.lk_ast.specs.declared.expression.LambdaExpr.{LambdaExpr, fold-LambdaExpr, fold_out-LambdaExpr}
use Rattle.lk_ast.specs.declared.expression.LastCase.{LastCase, fold-LastCase, fold_out-LastCase}
use Rattle.lk_ast.specs.declared.expression.Node.{Node, fold-Node, fold_out-Node, out-Node}
use Rattle.lk_ast.specs.declared.expression.Node.TheFolds.{map-Node}
use Rattle.lk_ast.specs.declared.expression.Node.TheVariants as node
use Rattle.lk_ast.specs.declared.expression.PartExpr.{PartExpr, fold-PartExpr, fold_out-PartExpr}
use Rattle.lk_ast.specs.declared.place.Span.{Span}
use Rattle.lk_ast.specs.declared.place.Word.{Word}
use Rattle.lk_types.specs.Rows.{Label}
use Rattle.lk_typing.specs.Heads.{head}
use Rattle.lk_typing.specs.Uses.{Uses, all, case_uses, change_uses, expr_uses, functions_used, inner, lambda_uses, last_uses, node_uses, own_use, part_uses}
use Rattle.lk_walk.specs.Using.{found_after, found_in, found_own, is_use, uses_case, uses_change, uses_lambda, uses_last, uses_part, with_uses}

-- ---- the fold, level by level

part_is : (p : PartExpr) → fold-PartExpr Uses Uses Uses Uses Uses Uses Uses node_uses case_uses change_uses expr_uses lambda_uses last_uses part_uses p ≡ uses_part p
unfolding functions_used
part_is p = fold_out-PartExpr Uses Uses Uses Uses Uses Uses Uses node_uses case_uses change_uses expr_uses lambda_uses last_uses part_uses p

case_is : (c : Case) → fold-Case Uses Uses Uses Uses Uses Uses Uses node_uses case_uses change_uses expr_uses lambda_uses last_uses part_uses c ≡ uses_case c
unfolding functions_used
case_is c = fold_out-Case Uses Uses Uses Uses Uses Uses Uses node_uses case_uses change_uses expr_uses lambda_uses last_uses part_uses c

last_is : (last : LastCase) → fold-LastCase Uses Uses Uses Uses Uses Uses Uses node_uses case_uses change_uses expr_uses lambda_uses last_uses part_uses last ≡ uses_last last
unfolding functions_used
last_is last = fold_out-LastCase Uses Uses Uses Uses Uses Uses Uses node_uses case_uses change_uses expr_uses lambda_uses last_uses part_uses last

lambda_is : (l : LambdaExpr) → fold-LambdaExpr Uses Uses Uses Uses Uses Uses Uses node_uses case_uses change_uses expr_uses lambda_uses last_uses part_uses l ≡ uses_lambda l
unfolding functions_used
lambda_is l = fold_out-LambdaExpr Uses Uses Uses Uses Uses Uses Uses node_uses case_uses change_uses expr_uses lambda_uses last_uses part_uses l

change_is : (c : ChangeExpr) → fold-ChangeExpr Uses Uses Uses Uses Uses Uses Uses node_uses case_uses change_uses expr_uses lambda_uses last_uses part_uses c ≡ uses_change c
unfolding functions_used
change_is c = fold_out-ChangeExpr Uses Uses Uses Uses Uses Uses Uses node_uses case_uses change_uses expr_uses lambda_uses last_uses part_uses c
    ∙ (λ i. functions_used (out-ChangeExpr c).cond ++ all (map (λ p. part_is p i) (out-ChangeExpr c).sets))

node_is : (n : Node) → fold-Node Uses Uses Uses Uses Uses Uses Uses node_uses case_uses change_uses expr_uses lambda_uses last_uses part_uses n ≡ node_uses (with_uses (out-Node n))
unfolding functions_used
node_is n = fold_out-Node Uses Uses Uses Uses Uses Uses Uses node_uses case_uses change_uses expr_uses lambda_uses last_uses part_uses n
    ∙ (λ i. node_uses (map-Node Node Case ChangeExpr Expr LambdaExpr LastCase PartExpr Uses Uses Uses Uses Uses Uses Uses (fold-Node Uses Uses Uses Uses Uses Uses Uses node_uses case_uses change_uses expr_uses lambda_uses last_uses part_uses)
    (λ c. case_is c i) (λ c. change_is c i) functions_used (λ l. lambda_is l i) (λ l. last_is l i) (λ p. part_is p i) (out-Node n)))
    ∙ by_layer (out-Node n)
  where
    by_layer : (l : Layer) → node_uses (map-Node Node Case ChangeExpr Expr LambdaExpr LastCase PartExpr Uses Uses Uses Uses Uses Uses Uses (fold-Node Uses Uses Uses Uses Uses Uses Uses node_uses case_uses change_uses expr_uses lambda_uses last_uses part_uses) uses_case uses_change functions_used uses_lambda uses_last uses_part l) ≡ node_uses (with_uses l)
    by_layer l = refl

pub uses_level : (e : Expr) → functions_used e ≡ node_uses (with_uses (layer e))
unfolding functions_used
uses_level e = fold_out-Expr Uses Uses Uses Uses Uses Uses Uses node_uses case_uses change_uses expr_uses lambda_uses last_uses part_uses e ∙ node_is e.node

-- ---- finding

or_assoc : (a b c : Bool) → (a || b) || c ≡ a || (b || c)
or_assoc true b c = refl
or_assoc false b c = refl

or_none : (a : Bool) → a || false ≡ a
or_none true = refl
or_none false = refl

any_joined : {A : Type 0} (p : A → Bool) (xs ys : List A) → list_any p (xs ++ ys) ≡ list_any p xs || list_any p ys
any_joined p [] ys = refl
any_joined p (x ∷ xs) ys = ap (λ b. p x || b) (any_joined p xs ys) ∙ sym (or_assoc (p x) (list_any p xs) (list_any p ys))

after_is : (name : Label) (us : List Uses) (found : Bool) → found_after name us found ≡ found || list_any (is_use name) (all us)
after_is name [] found = sym (or_none found)
after_is name (u ∷ us) found = after_is name us (found || list_any (is_use name) u) ∙ or_assoc found (list_any (is_use name) u) (list_any (is_use name) (all us)) ∙ ap (λ b. found || b) (sym (any_joined (is_use name) u (all us)))

own_is : (name : Label) (us : Uses) (found : Bool) → found_own name us found ≡ found || list_any (is_use name) us
own_is name [] found = sym (or_none found)
own_is name (g ∷ gs) found = own_is name gs (found || is_use name g) ∙ or_assoc found (is_use name g) (list_any (is_use name) gs)

in_is : (name : Label) (l : Layer) (found : Bool) → found_in name l found ≡ found || list_any (is_use name) (node_uses (with_uses l))
in_is name l found =
    let own : Uses = own_use (head (λ uses. []) (λ uses. uses) (with_uses l)) in
    let rest : Uses = all (inner (with_uses l)) in
    ap (found_after name (inner (with_uses l))) (own_is name own found)
    ∙ after_is name (inner (with_uses l)) (found || list_any (is_use name) own)
    ∙ or_assoc found (list_any (is_use name) own) (list_any (is_use name) rest)
    ∙ ap (λ b. found || b) (sym (any_joined (is_use name) own rest))

-- what is found in an expression that is this node
pub expr_found : (name : Label) (e : Expr) (n : Node) (found : Bool) → n ≡ e.node → found_in name (out-Node n) found ≡ found || list_any (is_use name) (functions_used e)
expr_found name e n found is = ap (λ m. found_in name (out-Node m) found) is ∙ in_is name (layer e) found ∙ ap (λ us. found || list_any (is_use name) us) (sym (uses_level e))

-- a statement, and what follows
before_used : (span : Span) (x : Option Word) (bound next : Expr) → functions_used (before (record { span = span; name = x; expr = bound }) next) ≡ functions_used bound ++ functions_used next
before_used span None bound next = uses_level (before (record { span = span; name = None; expr = bound }) next) ∙ ap (λ l. node_uses (with_uses l)) (node.outs-Seq bound next) ∙ ap (λ us. functions_used bound ++ us) (append-nil (functions_used next))
before_used span (Some x) bound next = uses_level (before (record { span = span; name = Some x; expr = bound }) next) ∙ ap (λ l. node_uses (with_uses l)) (node.outs-Var x bound next) ∙ ap (λ us. functions_used bound ++ us) (append-nil (functions_used next))

pub statement_found : (name : Label) (e bound next : Expr) (x : Option Word) (span : Span) (found more : Bool) → e ≡ before (record { span = span; name = x; expr = bound }) next
    → more ≡ found || list_any (is_use name) (functions_used bound) → more || list_any (is_use name) (functions_used next) ≡ found || list_any (is_use name) (functions_used e)
statement_found name e bound next x span found more is found_is =
    ap (λ b. b || list_any (is_use name) (functions_used next)) found_is
    ∙ or_assoc found (list_any (is_use name) (functions_used bound)) (list_any (is_use name) (functions_used next))
    ∙ ap (λ b. found || b) (sym (any_joined (is_use name) (functions_used bound) (functions_used next)))
    ∙ ap (λ us. found || list_any (is_use name) us) (sym (before_used span x bound next))
    ∙ ap (λ (d : Expr). found || list_any (is_use name) (functions_used d)) (sym is)

-- uses before others
pub after_joined : (name : Label) (us vs : List Uses) (found : Bool) → found_after name (us ++ vs) found ≡ found_after name vs (found_after name us found)
after_joined name [] vs found = refl
after_joined name (u ∷ us) vs found = after_joined name us vs (found || list_any (is_use name) u)

-- ---- nodes with several kinds of parts

map_same_as : {A : Type 0} (xs : List A) → map (λ x. x) xs ≡ xs
map_same_as [] = refl
map_same_as (x ∷ xs) = ap (λ ys. x ∷ ys) (map_same_as xs)

pub extend_found : (name : Label) (n : Node) (fields : List PartExpr) (e : Expr) (found : Bool) → n ≡ node.Extend fields e
    → found_after name (map uses_part fields) found || list_any (is_use name) (functions_used e) ≡ found_in name (out-Node n) found
extend_found name n fields e found is =
    sym (after_joined name (map uses_part fields) (functions_used e ∷ []) found)
    ∙ ap (λ us. found_after name (us ++ functions_used e ∷ []) found) (sym (map_same_as (map uses_part fields)))
    ∙ sym (ap (λ l. found_in name l found) (ap out-Node is ∙ node.outs-Extend fields e))

pub switch_found : (name : Label) (n : Node) (e : Expr) (cases : List Case) (last : Option LastCase) (found : Bool) → n ≡ node.Switch e cases last
    → found_after name (cons_option (option_map uses_last last) []) (found_after name (map uses_case cases) (found || list_any (is_use name) (functions_used e))) ≡ found_in name (out-Node n) found
switch_found name n e cases None found is =
    sym (after_joined name (map uses_case cases) [] (found || list_any (is_use name) (functions_used e)))
    ∙ sym (ap (λ l. found_in name l found) (ap out-Node is ∙ node.outs-Switch e cases None))
switch_found name n e cases (Some last) found is =
    sym (after_joined name (map uses_case cases) (uses_last last ∷ []) (found || list_any (is_use name) (functions_used e)))
    ∙ sym (ap (λ l. found_in name l found) (ap out-Node is ∙ node.outs-Switch e cases (Some last)))

pub change_found : (name : Label) (c : ChangeExpr) (found : Bool)
    → found_after name (map uses_part (out-ChangeExpr c).sets) (found || list_any (is_use name) (functions_used (out-ChangeExpr c).cond)) ≡ found || list_any (is_use name) (uses_change c)
change_found name c found = after_is name (functions_used (out-ChangeExpr c).cond ∷ map uses_part (out-ChangeExpr c).sets) found
