-- The walk through an expression is even wherever what it is given is.
use Rattle.std.proofs.Common.{◌≡◌, List, map, sym, subst, ap, ◌∙◌, Some, None}
use Rattle.lk_ast.specs.Children.{exprs_of}
use Rattle.lk_ast.specs.declared.declaration.TableDecl.{TableDecl}
use Rattle.lk_ast.specs.declared.expression.Case.{Case}
use Rattle.lk_ast.specs.declared.expression.ChangeExpr.{ChangeExpr, out-ChangeExpr}
use Rattle.lk_ast.specs.declared.expression.Expr.{Expr}
use Rattle.lk_ast.specs.declared.place.Span.{Span}
use Rattle.lk_types.specs.declared.ty.Ty.{Ty}
use Rattle.lk_typing.proofs.Even.Found.{mapped, one_further, weaker, onward, beside}
use Rattle.lk_typing.proofs.Even.Forms.{var_even, lambda_even, for_list_even, for_table_even}
use Rattle.lk_typing.proofs.Even.Lists.{EvenThrough, none_even, more_even, EvenThroughCases, no_cases_even, case_even, switch_even, switch_open_even}
use Rattle.lk_typing.proofs.Even.Nodes.{Even, ended_even}
use Rattle.lk_typing.proofs.Even.Operators.{operator_found}
use Rattle.lk_typing.proofs.Even.Queries.{query_even, change_even}
use Rattle.lk_typing.proofs.Levels.{walk_plain, walk_lambda_form, walk_var, walk_switch, walk_for_list, walk_for_table, walk_query, walk_update, walk_delete, walk_case_is, walk_last_is, walk_change_is, set_walks}
use Rattle.lk_typing.proofs.Trees.{Tree, Trees, CaseTrees, ChangeTree, plain, lambda, var, switch, for_list, for_table, query, update, delete, none, more, no_cases, case_of, no_last, last_of, changed, every_tree}
use Rattle.lk_typing.specs.Equations.{Own, equations_of}
use Rattle.lk_typing.specs.Heads.{Head}
use Rattle.lk_typing.specs.Names.{Named, Entry, table_named}
use Rattle.lk_typing.specs.Typing.{parts_of}
use Rattle.lk_typing.specs.Walk.{Walking, WalkedAll, walk_all, plain_walked, walk, walk_case, walk_change, walk_part, switch_walked, change_in, CaseWalk, ChangeWalk}

module _ (functions : Named (Entry Ty)) (tables : List TableDecl) where
  abbrev by_walk : Expr → Walking
  by_walk = walk functions tables

  at_walk : (e : Expr) (w : Walking) → by_walk e ≡ w → Even functions w → Even functions (by_walk e)
  at_walk e w is even = subst (Even functions) (sym is) even

  plain_even : (at : Span) (h : Head) (ws : List Walking) → EvenThrough functions ws → Even functions (plain_walked functions tables at h ws)
  plain_even at h ws even names effects n b known =
      let all_parts : WalkedAll = walk_all ws names effects n in
      let o : Own = equations_of functions tables names effects h all_parts.types all_parts.next in
      one_further (onward known (even names effects n b known) (λ c two.
      mapped (beside two (operator_found functions tables names effects all_parts.next c h all_parts.types (weaker two (λ d all. record { context = all.0; parts = all.1.are })))) (λ d all.
      ended_even at all_parts.inside all_parts.steps o d all.0.1.nodes all.0.1.said all.1)))

  abbrev case_walks : List Case → List CaseWalk
  case_walks cases = map (walk_case functions tables) cases

  mutual
    each_even : (e : Expr) → Tree e → Even functions (by_walk e)
    each_even e (plain h is parts) = at_walk e _ (walk_plain functions tables e h is) (plain_even e.span h (map by_walk (parts_of e)) (all_even (parts_of e) parts))
    each_even e (lambda l is body) = at_walk e _ (walk_lambda_form functions tables e l is) (lambda_even functions e.span l.params l.place (by_walk l.body) (each_even l.body body))
    each_even e (var x d rest is first last) = at_walk e _ (walk_var functions tables e x d rest is) (var_even functions e.span x.text (by_walk d) (by_walk rest) (each_even d first) (each_even rest last))
    each_even e (switch d cases _ is value all no_last) =
        at_walk e _ (walk_switch functions tables e d cases None is) (switch_even functions e.span (by_walk d) (case_walks cases) (each_even d value) (cases_even cases all))
    each_even e (switch d cases _ is value all (last_of {last} body)) =
        at_walk e _ (walk_switch functions tables e d cases (Some last) is ∙ ap (λ l. switch_walked e.span (by_walk d) (case_walks cases) (Some l)) (walk_last_is functions tables last))
        (switch_open_even functions e.span (by_walk d) (case_walks cases) last.name.text (by_walk last.body) (each_even d value) (cases_even cases all) (each_even last.body body))
    each_even e (for_list x d body is list inner) = at_walk e _ (walk_for_list functions tables e x d body is) (for_list_even functions e.span x.text (by_walk d) (by_walk body) (each_even d list) (each_even body inner))
    each_even e (for_table x rows body is table inner) = at_walk e _ (walk_for_table functions tables e x rows body is) (for_table_even functions e.span x.text (by_walk rows) (by_walk body) (each_even rows table) (each_even body inner))
    each_even e (query keys body is inner) = at_walk e _ (walk_query functions tables e keys body is) (query_even functions e.span keys (by_walk body) (each_even body inner))
    each_even e (update change is inner) = at_walk e _ (walk_update functions tables e change is) (changes_even e.span change inner)
    each_even e (delete change is inner) = at_walk e _ (walk_delete functions tables e change is) (changes_even e.span change inner)

    all_even : (es : List Expr) → Trees es → EvenThrough functions (map by_walk es)
    all_even _ none = none_even functions
    all_even _ (more {e} {es} first others) = more_even functions (by_walk e) (map by_walk es) (each_even e first) (all_even es others)

    cases_even : (cases : List Case) → CaseTrees cases → EvenThroughCases functions (case_walks cases)
    cases_even _ no_cases = no_cases_even functions
    cases_even _ (case_of {case} {cases} body others) =
        case_even functions (walk_case functions tables case) (case_walks cases) (subst (Even functions) (sym (ap (λ k. k.body) (walk_case_is functions tables case))) (each_even case.body body)) (cases_even cases others)

    changes_even : (at : Span) (change : ChangeExpr) → ChangeTree change → Even functions (change_in at (walk_change functions tables change) (table_named tables (walk_change functions tables change).table))
    changes_even at change (changed cond sets) =
        let k : ChangeWalk = record { name = (out-ChangeExpr change).name.text; table = (out-ChangeExpr change).table.text; cond = by_walk (out-ChangeExpr change).cond; sets = map (walk_part functions tables) (out-ChangeExpr change).sets } in
        let by_change : Even functions (change_in at k (table_named tables k.table)) =
        change_even functions at k (table_named tables k.table) (each_even (out-ChangeExpr change).cond cond)
        (subst (EvenThrough functions) (sym (set_walks functions tables (out-ChangeExpr change).sets)) (all_even (exprs_of (out-ChangeExpr change).sets) sets)) in
        subst (λ v. Even functions (change_in at v (table_named tables v.table))) (sym (walk_change_is functions tables change)) by_change

  -- the walk through an expression is even
  pub expression_even : (e : Expr) → Even functions (by_walk e)
  expression_even e = each_even e (every_tree e)
