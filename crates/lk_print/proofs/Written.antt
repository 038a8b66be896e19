-- What is on a line when a list or a change is written.
use Rattle.std.proofs.Common.{◌≡◌, ℕ, ◌≤◌, List, [], ◌∷◌, ◌++◌, length, map, take, sym, ap, ◌∙◌, append_assoc}
use Rattle.std.proofs.lemmas.List.{take_all}
use Rattle.std.specs.Prelude.{codes, flat_map}
use Rattle.lk_ast.specs.declared.expression.Case.{Case}
use Rattle.lk_ast.specs.declared.expression.ChangeExpr.{ChangeExpr, out-ChangeExpr, fold_out-ChangeExpr}
use Rattle.lk_ast.specs.declared.expression.Expr.{Expr}
use Rattle.lk_ast.specs.declared.expression.Node.{Node}
use Rattle.lk_ast.specs.declared.expression.Node.TheFolds.{fold-roll-Node}
use Rattle.lk_ast.specs.declared.expression.Node.TheOpen.{Node-F}
use Rattle.lk_ast.specs.declared.expression.Node.TheVariants as node
use Rattle.lk_ast.specs.declared.token.TokenKind.TheVariants.{Word, Sign}
use Rattle.lk_print.specs.Printed.{Kinds, Form, ChangeForm, behind_commas, separated, joined, in_round, name_kind, form_of, print_node, print_case, print_change, node_form, case_form, change_form, expr_form, lambda_form, last_form, part_form}
use Rattle.lk_print.specs.Written.{spaced, after_comma}
use Rattle.lk_print.proofs.Appends.{front, behind_both, spaced_both, spaced_behind, spaced_joined}
use Rattle.lk_print.proofs.Lists.{map_map}

whole_taken : {X : Type 0} (xs : List X) (i : ℕ) → length xs ≤ i → take i xs ≡ xs
whole_taken xs i h = take_all i xs h

-- the first one, and the others behind commas
pub listed : {X : Type 0} (f : X → Kinds) (old line : List ℕ) (xs rest : List X) (x : X) (i : ℕ) → xs ≡ x ∷ rest → length rest ≤ i
    → line ≡ (old ++ flat_map spaced (front (map f xs))) ++ flat_map (λ y. after_comma (f y)) (take i rest) → line ≡ old ++ flat_map spaced (separated (map f xs))
listed f old line xs rest x i is end was =
    was
    ∙ ap (λ z. (old ++ flat_map spaced (front (map f z))) ++ flat_map (λ y. after_comma (f y)) (take i rest)) is
    ∙ ap (λ z. (old ++ flat_map spaced (f x)) ++ flat_map (λ y. after_comma (f y)) z) (whole_taken rest i end)
    ∙ ap (λ z. (old ++ flat_map spaced (f x)) ++ z) (sym (spaced_behind f rest))
    ∙ append_assoc old (flat_map spaced (f x)) (flat_map spaced (behind_commas (map f rest)))
    ∙ ap (λ z. old ++ z) (sym (spaced_both (f x) (behind_commas (map f rest))))
    ∙ ap (λ z. old ++ flat_map spaced (separated (map f z))) (sym is)

pub listed_alone : (old line : List ℕ) (es rest : List Expr) (e : Expr) (i : ℕ) → es ≡ e ∷ rest → length rest ≤ i
    → line ≡ (old ++ flat_map spaced (front (map (λ d. (form_of d).alone) es))) ++ flat_map (λ d. after_comma (form_of d).alone) (take i rest) → line ≡ old ++ flat_map spaced (separated (map (λ f. f.alone) (map form_of es)))
listed_alone old line es rest e i is end was =
    listed (λ (d : Expr). (form_of d).alone) old line es rest e i is end was
    ∙ ap (λ z. old ++ flat_map spaced (separated z)) (sym (map_map (λ (f : Form). f.alone) form_of es))

pub cases_line : (old line : List ℕ) (cases : List Case) (i : ℕ) → length cases ≤ i → line ≡ old ++ flat_map (λ case. flat_map spaced (print_case case)) (take i cases) → line ≡ old ++ flat_map spaced (joined (map print_case cases))
cases_line old line cases i end was = was ∙ ap (λ z. old ++ flat_map (λ case. flat_map spaced (print_case case)) z) (whole_taken cases i end) ∙ ap (λ z. old ++ z) (sym (spaced_joined print_case cases))

-- (x <-- t) where (c)
rows_of : ChangeExpr → Kinds
rows_of change = in_round (name_kind (out-ChangeExpr change).name ∷ Sign (codes "<--") ∷ name_kind (out-ChangeExpr change).table ∷ []) ++ Word (codes "where") ∷ in_round (form_of (out-ChangeExpr change).cond).alone

rows_are : (change : ChangeExpr) → (print_change change).rows ≡ rows_of change
unfolding rows_of
rows_are change = ap (λ (f : ChangeForm). f.rows) (fold_out-ChangeExpr Form Kinds ChangeForm Form Kinds Kinds Kinds node_form case_form change_form expr_form lambda_form last_form part_form change)

three : (old : List ℕ) (a b : Kinds) → ((old ++ flat_map spaced a) ++ spaced (Word (codes "where"))) ++ flat_map spaced b ≡ old ++ flat_map spaced (a ++ Word (codes "where") ∷ b)
three old a b = search (behind_both, spaced_both)

pub rows_line : (old l1 l2 new : List ℕ) (change : ChangeExpr) → l1 ≡ old ++ flat_map spaced (in_round (name_kind (out-ChangeExpr change).name ∷ Sign (codes "<--") ∷ name_kind (out-ChangeExpr change).table ∷ []))
    → l2 ≡ l1 ++ spaced (Word (codes "where")) → new ≡ l2 ++ flat_map spaced (in_round (form_of (out-ChangeExpr change).cond).alone) → new ≡ old ++ flat_map spaced (print_change change).rows
unfolding rows_of
rows_line old l1 l2 new change a b c =
    c ∙ ap (λ z. z ++ flat_map spaced (in_round (form_of (out-ChangeExpr change).cond).alone)) (b ∙ ap (λ z. z ++ spaced (Word (codes "where"))) a)
    ∙ three old (in_round (name_kind (out-ChangeExpr change).name ∷ Sign (codes "<--") ∷ name_kind (out-ChangeExpr change).table ∷ [])) (in_round (form_of (out-ChangeExpr change).cond).alone)
    ∙ ap (λ z. old ++ flat_map spaced z) (sym (rows_are change))

-- update (x <-- t) where (c) set (l = e)
update_form : (n : Node) (change : ChangeExpr) → n ≡ node.Update change → (print_node n).inside ≡ Word (codes "update") ∷ ((print_change change).rows ++ Word (codes "set") ∷ in_round (print_change change).sets)
update_form n change is = ap (λ (f : Form). f.inside) (ap print_node (is ∙ sym (node.rolls-Update change)) ∙ fold-roll-Node Form Kinds ChangeForm Form Kinds Kinds Kinds node_form case_form change_form expr_form lambda_form last_form part_form (Node-F.Update change))

updated : (old : List ℕ) (a b : Kinds) → (((old ++ spaced (Word (codes "update"))) ++ flat_map spaced a) ++ spaced (Word (codes "set"))) ++ flat_map spaced b ≡ old ++ flat_map spaced (Word (codes "update") ∷ (a ++ Word (codes "set") ∷ b))
updated old a b = search (behind_both, spaced_both)

pub update_line : (old l1 l2 l3 new : List ℕ) (n : Node) (change : ChangeExpr) → n ≡ node.Update change → l1 ≡ old ++ spaced (Word (codes "update")) → l2 ≡ l1 ++ flat_map spaced (print_change change).rows → l3 ≡ l2 ++ spaced (Word (codes "set"))
    → new ≡ l3 ++ flat_map spaced (in_round (print_change change).sets) → new ≡ old ++ flat_map spaced (print_node n).inside
update_line old l1 l2 l3 new n change is a b c d =
    d ∙ ap (λ z. z ++ flat_map spaced (in_round (print_change change).sets)) (c ∙ ap (λ z. z ++ spaced (Word (codes "set"))) (b ∙ ap (λ z. z ++ flat_map spaced (print_change change).rows) a))
    ∙ updated old (print_change change).rows (in_round (print_change change).sets) ∙ ap (λ z. old ++ flat_map spaced z) (sym (update_form n change is))

-- delete (x <-- t) where (c)
delete_form : (n : Node) (change : ChangeExpr) → n ≡ node.Delete change → (print_node n).inside ≡ Word (codes "delete") ∷ (print_change change).rows
delete_form n change is = ap (λ (f : Form). f.inside) (ap print_node (is ∙ sym (node.rolls-Delete change)) ∙ fold-roll-Node Form Kinds ChangeForm Form Kinds Kinds Kinds node_form case_form change_form expr_form lambda_form last_form part_form (Node-F.Delete change))

pub delete_line : (old l1 new : List ℕ) (n : Node) (change : ChangeExpr) → n ≡ node.Delete change → l1 ≡ old ++ spaced (Word (codes "delete")) → new ≡ l1 ++ flat_map spaced (print_change change).rows → new ≡ old ++ flat_map spaced (print_node n).inside
delete_line old l1 new n change is a b =
    b ∙ ap (λ z. z ++ flat_map spaced (print_change change).rows) a
    ∙ append_assoc old (spaced (Word (codes "delete"))) (flat_map spaced (print_change change).rows)
    ∙ ap (λ z. old ++ flat_map spaced z) (sym (delete_form n change is))
