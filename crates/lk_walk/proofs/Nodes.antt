-- The walk through a node that binds names, by what it is.
use Rattle.std.proofs.Common.{◌≡◌, List, [], ◌∷◌, Option, Some, None, map, refl, ap, sym, ◌∙◌, subst, ◌⊎◌, inl, inr}
use Rattle.std.specs.Option.{option_map}
use Rattle.std.specs.Prelude.{IfOk, Result}
use Rattle.lk_ast.specs.Layers.{Layer, layer}
use Rattle.lk_ast.specs.declared.expression.Case.{Case}
use Rattle.lk_ast.specs.declared.expression.ChangeExpr.{ChangeExpr, out-ChangeExpr}
use Rattle.lk_ast.specs.declared.expression.Expr.{Expr}
use Rattle.lk_ast.specs.declared.expression.LambdaExpr.{LambdaExpr}
use Rattle.lk_ast.specs.declared.expression.LastCase.{LastCase}
use Rattle.lk_ast.specs.declared.expression.Node.{Node, out-Node}
use Rattle.lk_ast.specs.declared.expression.Node.TheVariants as node
use Rattle.lk_ast.specs.declared.expression.SortKey.{SortKey}
use Rattle.lk_ast.specs.declared.place.Word.{Word}
use Rattle.lk_types.specs.declared.ty.Effects.{Effects}
use Rattle.lk_typing.specs.Equations.{Own}
use Rattle.lk_typing.specs.Names.{table_named}
use Rattle.lk_typing.specs.Typing.{label_of, expr_of}
use Rattle.lk_typing.specs.Walk.{Walking, ChangeWalk, PartWalk, change_in, for_list_walked, for_table_walked, lambda_walked, query_walked, switch_walked, var_walked, walk_case, walk_change, walk_last, walk_part}
use Rattle.lk_typing.proofs.Levels.{walk_case_is, walk_change_is, walk_delete, walk_for_list, walk_for_table, walk_lambda_form, walk_last_is, walk_part_is, walk_query, walk_switch, walk_update, walk_var}
use Rattle.lk_equations.specs.Seen.{functions_seen}
use Rattle.lk_walk.specs.Went.{case_in, change_walk, change_walked, last_in, walk_in, Inner}
use Rattle.lk_equations.specs.declared.own.Globals.{Globals}
use Rattle.lk_walk.specs.declared.walker.Walker.{Walker}

map_equal : {A B : Type 0} (f g : A → B) → ((a : A) → f a ≡ g a) → (xs : List A) → map f xs ≡ map g xs
map_equal f g same [] = refl
map_equal f g same (x ∷ xs) = λ i. same x i ∷ map_equal f g same xs i

-- a node that is walked through as such a form
pub as_form : {X E : Type 0} (seen : Globals) (e : Expr) (form : Walking) (effects : Effects) (old new : Walker) (r : Result X E) (o : X → Own) → walk_in seen e ≡ form
    → IfOk r (λ x. Inner e.span (form old.names effects old.next) old new (o x)) → IfOk r (λ x. Inner e.span (walk_in seen e old.names effects old.next) old new (o x))
as_form seen e form effects old new r o is inner = subst (λ w. IfOk r (λ x. Inner e.span (w old.names effects old.next) old new (o x))) (sym is) inner

-- ---- which form it is

layer_is : (e : Expr) (n m : Node) (l : Layer) → n ≡ e.node → n ≡ m → out-Node m ≡ l → layer e ≡ l
layer_is e n m l at is out = sym (ap out-Node at) ∙ ap out-Node is ∙ out

pub as_var : (seen : Globals) (e : Expr) (n : Node) (x : Word) (d rest : Expr) → n ≡ e.node → n ≡ node.Var x d rest
    → walk_in seen e ≡ var_walked e.span x.text (walk_in seen d) (walk_in seen rest)
as_var seen e n x d rest at is = walk_var (functions_seen seen.own seen.earlier.now) seen.tables.now e x d rest (layer_is e n _ _ at is (node.outs-Var x d rest))

pub as_lambda : (seen : Globals) (e : Expr) (n : Node) (f : LambdaExpr) → n ≡ e.node → n ≡ node.Lambda f
    → walk_in seen e ≡ lambda_walked e.span f.params f.place (walk_in seen f.body)
as_lambda seen e n f at is = walk_lambda_form (functions_seen seen.own seen.earlier.now) seen.tables.now e f (layer_is e n _ _ at is (node.outs-Lambda f))

pub as_for_list : (seen : Globals) (e : Expr) (n : Node) (x : Word) (d body : Expr) → n ≡ e.node → n ≡ node.ForList x d body
    → walk_in seen e ≡ for_list_walked e.span x.text (walk_in seen d) (walk_in seen body)
as_for_list seen e n x d body at is = walk_for_list (functions_seen seen.own seen.earlier.now) seen.tables.now e x d body (layer_is e n _ _ at is (node.outs-ForList x d body))

pub as_for_table : (seen : Globals) (e : Expr) (n : Node) (x : Word) (d body : Expr) → n ≡ e.node → n ≡ node.ForTable x d body
    → walk_in seen e ≡ for_table_walked e.span x.text (walk_in seen d) (walk_in seen body)
as_for_table seen e n x d body at is = walk_for_table (functions_seen seen.own seen.earlier.now) seen.tables.now e x d body (layer_is e n _ _ at is (node.outs-ForTable x d body))

pub as_query : (seen : Globals) (e : Expr) (n : Node) (keys : List SortKey) (body : Expr) → n ≡ e.node → n ≡ node.Query keys body
    → walk_in seen e ≡ query_walked e.span keys (walk_in seen body)
as_query seen e n keys body at is = walk_query (functions_seen seen.own seen.earlier.now) seen.tables.now e keys body (layer_is e n _ _ at is (node.outs-Query keys body))

last_is : (seen : Globals) (last : Option LastCase) → option_map (walk_last (functions_seen seen.own seen.earlier.now) seen.tables.now) last ≡ option_map (last_in seen) last
last_is seen None = refl
last_is seen (Some last) = ap (λ (w : PartWalk). Some w) (walk_last_is (functions_seen seen.own seen.earlier.now) seen.tables.now last)

pub as_switch : (seen : Globals) (e : Expr) (n : Node) (d : Expr) (cases : List Case) (last : Option LastCase) → n ≡ e.node → n ≡ node.Switch d cases last
    → walk_in seen e ≡ switch_walked e.span (walk_in seen d) (map (case_in seen) cases) (option_map (last_in seen) last)
as_switch seen e n d cases last at is =
    walk_switch (functions_seen seen.own seen.earlier.now) seen.tables.now e d cases last (layer_is e n _ _ at is (node.outs-Switch d cases last))
    ∙ (λ i. switch_walked e.span (walk_in seen d) (map_equal (walk_case (functions_seen seen.own seen.earlier.now) seen.tables.now) (case_in seen) (walk_case_is (functions_seen seen.own seen.earlier.now) seen.tables.now) cases i) (last_is seen last i))

change_is : (seen : Globals) (c : ChangeExpr) → walk_change (functions_seen seen.own seen.earlier.now) seen.tables.now c ≡ change_walk seen c
change_is seen c = walk_change_is (functions_seen seen.own seen.earlier.now) seen.tables.now c
    ∙ (λ i. record {
      name = (out-ChangeExpr c).name.text;
      table = (out-ChangeExpr c).table.text;
      cond = walk_in seen (out-ChangeExpr c).cond;
      sets = map_equal (walk_part (functions_seen seen.own seen.earlier.now) seen.tables.now) (λ part. (label_of part, walk_in seen (expr_of part))) (walk_part_is (functions_seen seen.own seen.earlier.now) seen.tables.now) (out-ChangeExpr c).sets i;
    })

pub as_change : (seen : Globals) (e : Expr) (n : Node) (c : ChangeExpr) → n ≡ e.node → (n ≡ node.Update c) ⊎ (n ≡ node.Delete c)
    → walk_in seen e ≡ change_walked e.span seen c
as_change seen e n c at (inl is) = walk_update (functions_seen seen.own seen.earlier.now) seen.tables.now e c (layer_is e n _ _ at is (node.outs-Update c))
    ∙ ap (λ (w : ChangeWalk). change_in e.span w (table_named seen.tables.now w.table)) (change_is seen c)
as_change seen e n c at (inr is) = walk_delete (functions_seen seen.own seen.earlier.now) seen.tables.now e c (layer_is e n _ _ at is (node.outs-Delete c))
    ∙ ap (λ (w : ChangeWalk). change_in e.span w (table_named seen.tables.now w.table)) (change_is seen c)
