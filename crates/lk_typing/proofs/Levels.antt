-- What an expression is and its parts, where other things stand for the parts, and the walk of an expression by its level.
use Rattle.std.proofs.Common.{◌≡◌, List, [], ◌∷◌, ◌++◌, map, Option, Some, None, refl, ap, ap₂, sym, ◌∙◌}
use Rattle.std.specs.Option.{option_map}
use Rattle.lk_ast.specs.Children.{exprs_of}
use Rattle.lk_ast.specs.Layers.{Layer, layer}
use Rattle.lk_ast.specs.declared.declaration.TableDecl.{TableDecl}
use Rattle.lk_ast.specs.declared.expression.Case.{Case, fold_out-Case}
use Rattle.lk_ast.specs.declared.expression.ChangeExpr.{ChangeExpr, out-ChangeExpr, fold_out-ChangeExpr}
use Rattle.lk_ast.specs.declared.expression.Expr.{Expr, fold_out-Expr}
use Rattle.lk_ast.specs.declared.expression.LambdaExpr.{LambdaExpr, fold_out-LambdaExpr}
use Rattle.lk_ast.specs.declared.expression.LastCase.{LastCase, fold_out-LastCase}
use Rattle.lk_ast.specs.declared.expression.Node.{Node, out-Node, fold_out-Node}
use Rattle.lk_ast.specs.declared.expression.Node.TheFolds.{map-Node}
use Rattle.lk_ast.specs.declared.expression.Node.TheOpen.{Node-F}
use Rattle.lk_ast.specs.declared.expression.PartExpr.{PartExpr, fold_out-PartExpr}
use Rattle.lk_ast.specs.declared.expression.SortKey.{SortKey}
use Rattle.lk_ast.specs.declared.place.Span.{Span}
use Rattle.lk_ast.specs.declared.place.Word.{Word}
use Rattle.lk_types.specs.Rows.{Label}
use Rattle.lk_types.specs.declared.ty.Ty.{Ty}
use Rattle.lk_typing.specs.Heads as operator
use Rattle.lk_typing.specs.Heads.{Head, head, parts}
use Rattle.lk_typing.specs.Names.{Named, Entry, table_named}
use Rattle.lk_typing.specs.Typing.{label_of, expr_of, head_of, parts_of, labels_of}
use Rattle.lk_typing.specs.Walk.{Walking, Level, CaseWalk, ChangeWalk, LambdaWalk, PartWalk, lambda_walked, var_walked, switch_walked, for_list_walked, for_table_walked, query_walked, change_in, plain_walked, binder_walked, walked_by, node_walked, case_walked, changed, expr_walked, lambda_of, last_case_walked, part_walked, walk, walk_node, walk_case, walk_change, walk_lambda, walk_last, walk_part}

-- a list of what functions make that agree
pub map_same : {A B C : Type 0} (f : B → C) (g : A → B) (h : A → C) → ((a : A) → f (g a) ≡ h a) → (as' : List A) → map f (map g as') ≡ map h as'
map_same f g h same [] = refl
map_same f g h same (a ∷ as') = ap₂ (λ c cs. c ∷ cs) (same a) (map_same f g h same as')

pub map_after : {A B C : Type 0} (f : B → C) (g : A → B) (as' : List A) → map (λ a. f (g a)) as' ≡ map f (map g as')
map_after f g [] = refl
map_after f g (a ∷ as') = ap (λ cs. f (g a) ∷ cs) (map_after f g as')

pub map_joined : {A B : Type 0} (f : A → B) (as' more : List A) → map f (as' ++ more) ≡ map f as' ++ map f more
map_joined f [] more = refl
map_joined f (a ∷ as') more = ap (λ bs. f a ∷ bs) (map_joined f as' more)

-- what stands for parts: their labels and expressions
module _ {N C H E L S P N' C' H' E' L' S' P' : Type 0} (label_of : P → Label) (expr_of : P → E) (label_of' : P' → Label) (expr_of' : P' → E')
    (fN : N → N') (fC : C → C') (fH : H → H') (fE : E → E') (fL : L → L') (fS : S → S') (fP : P → P') where
  -- a node is the same operator whatever stands for its parts
  pub head_mapped : ((p : P) → label_of' (fP p) ≡ label_of p) → (l : Node-F N C H E L S P)
      → head label_of' expr_of' (map-Node N C H E L S P N' C' H' E' L' S' P' fN fC fH fE fL fS fP l) ≡ head label_of expr_of l
  head_mapped same (Node-F.Record parts) = ap (λ labels. Some (operator.Record labels)) (map_same label_of' fP label_of same parts)
  head_mapped same (Node-F.Extend parts e) = ap (λ labels. Some (operator.Extend labels)) (map_same label_of' fP label_of same parts)
  head_mapped same other = refl

  fields_mapped : ((p : P) → expr_of' (fP p) ≡ fE (expr_of p)) → (fields : List P) → map expr_of' (map fP fields) ≡ map fE (map expr_of fields)
  fields_mapped same fields = map_same expr_of' fP (λ p. fE (expr_of p)) same fields ∙ map_after fE expr_of fields

  -- its parts are what stands for them
  pub parts_mapped : ((p : P) → expr_of' (fP p) ≡ fE (expr_of p)) → (l : Node-F N C H E L S P)
      → parts label_of' expr_of' (map-Node N C H E L S P N' C' H' E' L' S' P' fN fC fH fE fL fS fP l) ≡ map fE (parts label_of expr_of l)
  parts_mapped same (Node-F.Record fields) = fields_mapped same fields
  parts_mapped same (Node-F.Extend fields e) = ap (λ es. es ++ fE e ∷ []) (fields_mapped same fields) ∙ sym (map_joined fE (map expr_of fields) (e ∷ []))
  parts_mapped same other = refl

-- ---- the walk, level by level

module _ (functions : Named (Entry Ty)) (tables : List TableDecl) where
  -- a level with the walks of its parts
  abbrev pub mapped : Layer → Level
  mapped = map-Node Node Case ChangeExpr Expr LambdaExpr LastCase PartExpr (Span → Walking) CaseWalk ChangeWalk Walking LambdaWalk PartWalk PartWalk
      (walk_node functions tables) (walk_case functions tables) (walk_change functions tables) (walk functions tables) (walk_lambda functions tables) (walk_last functions tables) (walk_part functions tables)

  pub walk_part_is : (p : PartExpr) → walk_part functions tables p ≡ (p.label.text, walk functions tables p.expr)
  unfolding walk_part walk
  walk_part_is p = fold_out-PartExpr (Span → Walking) CaseWalk ChangeWalk Walking LambdaWalk PartWalk PartWalk (node_walked functions tables) (case_walked functions tables) (changed functions tables) (expr_walked functions tables) (lambda_of functions tables) (last_case_walked functions tables) (part_walked functions tables) p

  pub walk_case_is : (c : Case) → walk_case functions tables c ≡ record { tag = c.tag.text; name = option_map (λ x. x.text) c.name; body = walk functions tables c.body }
  unfolding walk_case walk
  walk_case_is c = fold_out-Case (Span → Walking) CaseWalk ChangeWalk Walking LambdaWalk PartWalk PartWalk (node_walked functions tables) (case_walked functions tables) (changed functions tables) (expr_walked functions tables) (lambda_of functions tables) (last_case_walked functions tables) (part_walked functions tables) c

  pub walk_last_is : (last : LastCase) → walk_last functions tables last ≡ (last.name.text, walk functions tables last.body)
  unfolding walk_last walk
  walk_last_is last = fold_out-LastCase (Span → Walking) CaseWalk ChangeWalk Walking LambdaWalk PartWalk PartWalk (node_walked functions tables) (case_walked functions tables) (changed functions tables) (expr_walked functions tables) (lambda_of functions tables) (last_case_walked functions tables) (part_walked functions tables) last

  pub walk_lambda_is : (l : LambdaExpr) → walk_lambda functions tables l ≡ record { params = l.params; place = l.place; body = walk functions tables l.body }
  unfolding walk_lambda walk
  walk_lambda_is l = fold_out-LambdaExpr (Span → Walking) CaseWalk ChangeWalk Walking LambdaWalk PartWalk PartWalk (node_walked functions tables) (case_walked functions tables) (changed functions tables) (expr_walked functions tables) (lambda_of functions tables) (last_case_walked functions tables) (part_walked functions tables) l

  pub walk_change_is : (c : ChangeExpr) → walk_change functions tables c
      ≡ record { name = (out-ChangeExpr c).name.text; table = (out-ChangeExpr c).table.text; cond = walk functions tables (out-ChangeExpr c).cond; sets = map (walk_part functions tables) (out-ChangeExpr c).sets }
  unfolding walk_change walk walk_part
  walk_change_is c = fold_out-ChangeExpr (Span → Walking) CaseWalk ChangeWalk Walking LambdaWalk PartWalk PartWalk (node_walked functions tables) (case_walked functions tables) (changed functions tables) (expr_walked functions tables) (lambda_of functions tables) (last_case_walked functions tables) (part_walked functions tables) c

  -- the labels and the walks of what is set
  pub set_labels : (sets : List PartExpr) → map (λ set. set.0) (map (walk_part functions tables) sets) ≡ labels_of sets
  set_labels sets = map_same (λ set. set.0) (walk_part functions tables) label_of (λ p. ap (λ part. part.0) (walk_part_is p)) sets

  pub set_walks : (sets : List PartExpr) → map (λ set. set.1) (map (walk_part functions tables) sets) ≡ map (walk functions tables) (exprs_of sets)
  set_walks sets = map_same (λ set. set.1) (walk_part functions tables) (λ p. walk functions tables (expr_of p)) (λ p. ap (λ part. part.1) (walk_part_is p)) sets ∙ map_after (walk functions tables) expr_of sets

  expr_is : (e : Expr) → walk functions tables e ≡ walk_node functions tables e.node e.span
  unfolding walk walk_node
  expr_is e = fold_out-Expr (Span → Walking) CaseWalk ChangeWalk Walking LambdaWalk PartWalk PartWalk (node_walked functions tables) (case_walked functions tables) (changed functions tables) (expr_walked functions tables) (lambda_of functions tables) (last_case_walked functions tables) (part_walked functions tables) e

  node_is : (n : Node) → walk_node functions tables n ≡ node_walked functions tables (mapped (out-Node n))
  unfolding walk_node walk_case walk_change walk walk_lambda walk_last walk_part
  node_is n = fold_out-Node (Span → Walking) CaseWalk ChangeWalk Walking LambdaWalk PartWalk PartWalk (node_walked functions tables) (case_walked functions tables) (changed functions tables) (expr_walked functions tables) (lambda_of functions tables) (last_case_walked functions tables) (part_walked functions tables) n

  head_walked : (l : Layer) → head (λ part. part.0) (λ part. part.1) (mapped l) ≡ head label_of expr_of l
  head_walked l = head_mapped label_of expr_of (λ part. part.0) (λ part. part.1)
      (walk_node functions tables) (walk_case functions tables) (walk_change functions tables) (walk functions tables) (walk_lambda functions tables) (walk_last functions tables) (walk_part functions tables)
      (λ p. ap (λ part. part.0) (walk_part_is p)) l

  parts_walked : (l : Layer) → parts (λ part. part.0) (λ part. part.1) (mapped l) ≡ map (walk functions tables) (parts label_of expr_of l)
  parts_walked l = parts_mapped label_of expr_of (λ part. part.0) (λ part. part.1)
      (walk_node functions tables) (walk_case functions tables) (walk_change functions tables) (walk functions tables) (walk_lambda functions tables) (walk_last functions tables) (walk_part functions tables)
      (λ p. ap (λ part. part.1) (walk_part_is p)) l

  -- the walk of an expression, by its level
  pub walk_level : (e : Expr) → walk functions tables e ≡ walked_by functions tables (head_of e) (map (walk functions tables) (parts_of e)) (mapped (layer e)) e.span
  walk_level e = expr_is e ∙ ap (λ w. w e.span) (node_is e.node) ∙ (λ i. walked_by functions tables (head_walked (layer e) i) (parts_walked (layer e) i) (mapped (layer e)) e.span)

  -- an operator over its parts
  pub walk_plain : (e : Expr) (h : Head) → head_of e ≡ Some h → walk functions tables e ≡ plain_walked functions tables e.span h (map (walk functions tables) (parts_of e))
  walk_plain e h is = walk_level e ∙ ap (λ found. walked_by functions tables found (map (walk functions tables) (parts_of e)) (mapped (layer e)) e.span) is

  -- a form that binds names
  pub walk_binder : (e : Expr) (l : Layer) → layer e ≡ l → head label_of expr_of l ≡ None → walk functions tables e ≡ binder_walked functions tables e.span (mapped l)
  walk_binder e l is none = walk_level e ∙ (λ i. walked_by functions tables (head label_of expr_of (is i)) (map (walk functions tables) (parts label_of expr_of (is i))) (mapped (is i)) e.span)
      ∙ ap (λ found. walked_by functions tables found (map (walk functions tables) (parts label_of expr_of l)) (mapped l) e.span) none

  -- ---- each form that binds names

  pub walk_lambda_form : (e : Expr) (l : LambdaExpr) → layer e ≡ Node-F.Lambda l → walk functions tables e ≡ lambda_walked e.span l.params l.place (walk functions tables l.body)
  walk_lambda_form e l is = walk_binder e _ is refl ∙ ap (λ w. lambda_walked e.span w.params w.place w.body) (walk_lambda_is l)

  pub walk_var : (e : Expr) (x : Word) (d rest : Expr) → layer e ≡ Node-F.Var x d rest → walk functions tables e ≡ var_walked e.span x.text (walk functions tables d) (walk functions tables rest)
  walk_var e x d rest is = walk_binder e _ is refl

  pub walk_switch : (e d : Expr) (cases : List Case) (last : Option LastCase) → layer e ≡ Node-F.Switch d cases last
      → walk functions tables e ≡ switch_walked e.span (walk functions tables d) (map (walk_case functions tables) cases) (option_map (walk_last functions tables) last)
  walk_switch e d cases None is = walk_binder e _ is refl
  walk_switch e d cases (Some last) is = walk_binder e _ is refl

  pub walk_for_list : (e : Expr) (x : Word) (d body : Expr) → layer e ≡ Node-F.ForList x d body → walk functions tables e ≡ for_list_walked e.span x.text (walk functions tables d) (walk functions tables body)
  walk_for_list e x d body is = walk_binder e _ is refl

  pub walk_for_table : (e : Expr) (x : Word) (rows body : Expr) → layer e ≡ Node-F.ForTable x rows body → walk functions tables e ≡ for_table_walked e.span x.text (walk functions tables rows) (walk functions tables body)
  walk_for_table e x rows body is = walk_binder e _ is refl

  pub walk_query : (e : Expr) (keys : List SortKey) (body : Expr) → layer e ≡ Node-F.Query keys body → walk functions tables e ≡ query_walked e.span keys (walk functions tables body)
  walk_query e keys body is = walk_binder e _ is refl

  pub walk_update : (e : Expr) (c : ChangeExpr) → layer e ≡ Node-F.Update c
      → walk functions tables e ≡ change_in e.span (walk_change functions tables c) (table_named tables (walk_change functions tables c).table)
  walk_update e c is = walk_binder e _ is refl

  pub walk_delete : (e : Expr) (c : ChangeExpr) → layer e ≡ Node-F.Delete c
      → walk functions tables e ≡ change_in e.span (walk_change functions tables c) (table_named tables (walk_change functions tables c).table)
  walk_delete e c is = walk_binder e _ is refl
