-- The types of the nodes in a walk are variables.
use Rattle.std.proofs.Common.{◌≡◌, ℕ, ◌+◌, Bool, List, [], ◌∷◌, ◌++◌, map, length, refl, sym, subst, ap, ◌∙◌, Option, Some, None}
use Rattle.lk_ast.specs.Children.{exprs_of}
use Rattle.lk_ast.specs.Functions.{functions_in}
use Rattle.lk_ast.specs.declared.declaration.Decl.{Decl}
use Rattle.lk_ast.specs.declared.declaration.FunDef.{FunDef}
use Rattle.lk_ast.specs.declared.declaration.TableDecl.{TableDecl}
use Rattle.lk_ast.specs.declared.expression.Case.{Case}
use Rattle.lk_ast.specs.declared.expression.ChangeExpr.{ChangeExpr, out-ChangeExpr}
use Rattle.lk_ast.specs.declared.expression.Expr.{Expr}
use Rattle.lk_ast.specs.declared.expression.SortKey.{SortKey}
use Rattle.lk_ast.specs.declared.place.Loc.{Loc}
use Rattle.lk_ast.specs.declared.place.Span.{Span}
use Rattle.lk_ast.specs.declared.place.Word.{Word}
use Rattle.lk_typing.proofs.Levels.{walk_plain, walk_lambda_form, walk_var, walk_switch, walk_for_list, walk_for_table, walk_query, walk_update, walk_delete, walk_case_is, walk_last_is}
use Rattle.lk_typing.proofs.Levels.{walk_change_is, set_walks}
use Rattle.lk_typing.proofs.Trees.{Tree, Trees, CaseTrees, ChangeTree, plain, lambda, var, switch, for_list, for_table, query, update, delete, none, more, no_cases, case_of, no_last}
use Rattle.lk_typing.proofs.Trees.{last_of, changed, every_tree}
use Rattle.lk_types.proofs.Members.{each_both}
use Rattle.lk_types.specs.Each.{Each}
use Rattle.lk_types.specs.Rows.{Label, EffectSet}
use Rattle.lk_types.specs.declared.equation.Equation.{Equation}
use Rattle.lk_types.specs.declared.scheme.Scheme.{Scheme}
use Rattle.lk_types.specs.declared.ty.Effect.TheVariants as effect
use Rattle.lk_types.specs.declared.ty.Effects.{Effects}
use Rattle.lk_types.specs.declared.ty.RowTail.TheVariants.{Closed, Var}
use Rattle.lk_types.specs.declared.ty.Ty.{Ty}
use Rattle.lk_types.specs.declared.ty.Ty.TheVariants as ty
use Rattle.lk_typing.specs.EffectRows.{IsEven, HasBefore, rows_of}
use Rattle.lk_typing.specs.Groups.{Unknown, unknowns, type_of, own_entries, scheme_entries, functions_walked, function_walked, after_unknowns, group_walked, is_mutual}
use Rattle.lk_typing.specs.Equations.{Own, never}
use Rattle.lk_typing.specs.Heads.{Head}
use Rattle.lk_typing.specs.Names.{Named, Entry, table_named}
use Rattle.lk_typing.specs.Steps.{same_at}
use Rattle.lk_typing.specs.Types.{labelled}
use Rattle.lk_typing.specs.Typing.{is_marked, is_there, parts_of}
use Rattle.lk_typing.specs.Unknowns.{effects_of, row_of, same, variant_of}
use Rattle.lk_typing.specs.Walk.{Walking, WalkedAll, Walked, Told, has_if, params_from, keys_told, for_ended, query_ended, all_types, WalkedCases, walk_all, walk_cases, held_by, one_type}
use Rattle.lk_typing.specs.Walk.{switch_ended, set_own, change_ended, plain_walked, walk, walk_case, walk_change, walk_part, lambda_walked, var_walked, switch_walked, for_list_walked}
use Rattle.lk_typing.specs.Walk.{for_table_walked, query_walked, change_in, CaseWalk, ChangeWalk}
use Rattle.lk_typing.specs.declared.step.Step.{Step}
use Rattle.lk_typing.proofs.Even.Loose.{rows_variable}

abbrev pub IsVariable : Ty → Type 0
IsVariable t = (n : ℕ) × (t ≡ ty.Var n)

-- the types of all nodes in what is walked
abbrev AreNamed : Walking → Type 0
AreNamed w = (names : Named Ty) (effects : Effects) (n : ℕ) → Each IsVariable (all_types (w names effects n))

abbrev AllNamed : List Walking → Type 0
AllNamed ws = (names : Named Ty) (effects : Effects) (n : ℕ) → Each IsVariable (walk_all ws names effects n).inside

abbrev CasesNamed : List CaseWalk → Type 0
CasesNamed cs = (names : Named Ty) (effects : Effects) (n : ℕ) → Each IsVariable (walk_cases cs names effects n).bodies.inside

-- ---- what is walked one after another

none_named : AllNamed []
none_named names effects n = tt

more_named : (w : Walking) (ws : List Walking) → AreNamed w → AllNamed ws → AllNamed (w ∷ ws)
more_named w ws one all names effects n = each_both IsVariable (all_types (w names effects n)) _ (one names effects n) (all names effects (w names effects n).next)

no_cases_named : CasesNamed []
no_cases_named names effects n = tt

case_named : (c : CaseWalk) (cs : List CaseWalk) → AreNamed c.body → CasesNamed cs → CasesNamed (c ∷ cs)
case_named c cs one all names effects n =
    let held = held_by c.name n in
    each_both IsVariable (all_types (c.body (held.bound ++ names) effects held.next)) _ (one (held.bound ++ names) effects held.next) (all names effects (c.body (held.bound ++ names) effects held.next).next)

-- a node with its variable, over others
over : (n : ℕ) (inside : List Ty) → Each IsVariable inside → Each IsVariable (ty.Var n ∷ inside)
over n inside all = ((n, refl), all)

-- ---- each form

module _ (functions : Named (Entry Ty)) (tables : List TableDecl) where
  abbrev by_walk : Expr → Walking
  by_walk = walk functions tables

  at_walk : (e : Expr) (w : Walking) → by_walk e ≡ w → AreNamed w → AreNamed (by_walk e)
  at_walk e w is named = subst AreNamed (sym is) named

  plain_named : (at : Span) (h : Head) (ws : List Walking) → AllNamed ws → AreNamed (plain_walked functions tables at h ws)
  plain_named at h ws all names effects n = over _ _ (all names effects n)

  lambda_named : (at : Span) (params : List Word) (place : Loc) (body : Walking) → AreNamed body → AreNamed (lambda_walked at params place body)
  lambda_named at params place body inner names effects n =
      let own_effects : Effects = effects_of [] (Var n) in
      let named_params : Named Ty = params_from (1 + n) params in
      let marked : Told = has_if (is_marked place) own_effects effect.Move (length params + (1 + n)) in
      let w : Walked = body (named_params ++ names) own_effects marked.next in
      over (1 + w.next) (all_types w) (inner (named_params ++ names) own_effects marked.next)

  var_named : (at : Span) (x : Label) (first last : Walking) → AreNamed first → AreNamed last → AreNamed (var_walked at x first last)
  var_named at x first last named then names effects n =
      let v : Walked = first names effects n in
      let w : Walked = last ((x, v.ty) ∷ names) effects v.next in
      over w.next (all_types v ++ all_types w) (each_both IsVariable (all_types v) (all_types w) (named names effects n) (then ((x, v.ty) ∷ names) effects v.next))

  for_ended_named : (at : Span) (first body : Walked) (steps : List Step) (equations : List Equation)
      → Each IsVariable (all_types first) → Each IsVariable (all_types body) → Each IsVariable (all_types (for_ended at first body steps equations))
  for_ended_named at first body steps equations named then = over (1 + body.next) (all_types first ++ all_types body) (each_both IsVariable (all_types first) (all_types body) named then)

  for_list_named : (at : Span) (x : Label) (list body : Walking) → AreNamed list → AreNamed body → AreNamed (for_list_walked at x list body)
  for_list_named at x list body named then names effects n =
      let element : Ty = ty.Var n in
      let v : Walked = list names effects (1 + n) in
      let w : Walked = body ((x, element) ∷ names) effects v.next in
      for_ended_named at v w (v.steps ++ w.steps) (same v.ty (ty.List element) ∷ []) (named names effects (1 + n)) (then ((x, element) ∷ names) effects v.next)

  for_table_named : (at : Span) (x : Label) (table body : Walking) → AreNamed table → AreNamed body → AreNamed (for_table_walked at x table body)
  for_table_named at x table body named then names effects n =
      let element : Ty = ty.Var n in
      let v : Walked = table names effects (1 + n) in
      let w : Walked = body ((x, element) ∷ names) effects v.next in
      for_ended_named at v w (v.steps ++ (same_at at (same v.ty (ty.List element) ∷ []) ++ w.steps)) [] (named names effects (1 + n)) (then ((x, element) ∷ names) effects v.next)

  query_ended_named : (at : Span) (keys : List SortKey) (effects : Effects) (body : Walked) → Each IsVariable (all_types body) → Each IsVariable (all_types (query_ended at keys effects body))
  query_ended_named at keys effects body named =
      let n : ℕ = body.next in
      let ordered : Told = keys_told body.ty keys (1 + n) in
      let by_client : Told = has_if (is_there keys) effects effect.Local (1 + ordered.next) in
      over by_client.next (all_types body) named

  query_named : (at : Span) (keys : List SortKey) (body : Walking) → AreNamed body → AreNamed (query_walked at keys body)
  query_named at keys body named names effects n =
      let reads : Effects = effects_of (effect.Scan ∷ []) Closed in
      query_ended_named at keys effects (body names reads n) (named names reads n)

  switch_ended_named : (at : Span) (effects : Effects) (value : Walked) (variant : Ty) (inside : List Ty) (steps : List Step) (bodies : Own)
      → Each IsVariable (all_types value) → Each IsVariable inside → Each IsVariable (all_types (switch_ended at effects value variant inside steps bodies))
  switch_ended_named at effects value variant inside steps bodies first all = over (1 + bodies.next) (all_types value ++ inside) (each_both IsVariable (all_types value) inside first all)

  switch_named : (at : Span) (value : Walking) (cs : List CaseWalk) → AreNamed value → CasesNamed cs → AreNamed (switch_walked at value cs None)
  switch_named at value cs first all names effects n =
      let v : Walked = value names effects n in
      let cases : WalkedCases = walk_cases cs names effects v.next in
      switch_ended_named at effects v (variant_of cases.tags Closed) cases.bodies.inside cases.bodies.steps (one_type cases.bodies.types cases.bodies.next)
      (first names effects n) (all names effects v.next)

  switch_open_named : (at : Span) (value : Walking) (cs : List CaseWalk) (x : Label) (body : Walking) → AreNamed value → CasesNamed cs → AreNamed body
      → AreNamed (switch_walked at value cs (Some (x, body)))
  switch_open_named at value cs x body first all last names effects n =
      let v : Walked = value names effects n in
      let cases : WalkedCases = walk_cases cs names effects v.next in
      let m : ℕ = cases.bodies.next in
      let inner : Named Ty = (x, variant_of [] (Var m)) ∷ names in
      let w : Walked = body inner effects (1 + m) in
      switch_ended_named at effects v (variant_of cases.tags (Var m)) (cases.bodies.inside ++ all_types w) (cases.bodies.steps ++ w.steps) (one_type (cases.bodies.types ++ w.ty ∷ []) w.next)
      (first names effects n) (each_both IsVariable cases.bodies.inside (all_types w) (all names effects v.next) (last inner effects (1 + m)))

  change_ended_named : (at : Span) (effects : Effects) (t : Ty) (labels : List Label) (cond : Walked) (sets : WalkedAll)
      → Each IsVariable (all_types cond) → Each IsVariable sets.inside → Each IsVariable (all_types (change_ended at effects t labels cond sets))
  change_ended_named at effects t labels cond sets first all =
      over (set_own effects t cond.ty (labelled labels sets.types) sets.next).next (all_types cond ++ sets.inside) (each_both IsVariable (all_types cond) sets.inside first all)

  change_named : (at : Span) (k : ChangeWalk) (table : Option TableDecl) → AreNamed k.cond → AllNamed (map (λ set. set.1) k.sets) → AreNamed (change_in at k table)
  change_named at k None cond sets names effects n = over (never n).next [] tt
  change_named at k (Some table) cond sets names effects n =
      let inner : Named Ty = (k.name, row_of table) ∷ names in
      let no_more : Effects = effects_of [] Closed in
      let w : Walked = k.cond inner no_more n in
      change_ended_named at effects (row_of table) (map (λ set. set.0) k.sets) w (walk_all (map (λ set. set.1) k.sets) inner no_more w.next) (cond inner no_more n) (sets inner no_more w.next)

  abbrev case_walks : List Case → List CaseWalk
  case_walks cases = map (walk_case functions tables) cases

  mutual
    each_named : (e : Expr) → Tree e → AreNamed (by_walk e)
    each_named e (plain h is parts) = at_walk e _ (walk_plain functions tables e h is) (plain_named e.span h (map by_walk (parts_of e)) (all_named (parts_of e) parts))
    each_named e (lambda l is body) = at_walk e _ (walk_lambda_form functions tables e l is) (lambda_named e.span l.params l.place (by_walk l.body) (each_named l.body body))
    each_named e (var x d rest is first last) = at_walk e _ (walk_var functions tables e x d rest is) (var_named e.span x.text (by_walk d) (by_walk rest) (each_named d first) (each_named rest last))
    each_named e (switch d cases _ is value all no_last) =
        at_walk e _ (walk_switch functions tables e d cases None is) (switch_named e.span (by_walk d) (case_walks cases) (each_named d value) (cases_named cases all))
    each_named e (switch d cases _ is value all (last_of {last} body)) =
        at_walk e _ (walk_switch functions tables e d cases (Some last) is ∙ ap (λ l. switch_walked e.span (by_walk d) (case_walks cases) (Some l)) (walk_last_is functions tables last))
        (switch_open_named e.span (by_walk d) (case_walks cases) last.name.text (by_walk last.body) (each_named d value) (cases_named cases all) (each_named last.body body))
    each_named e (for_list x d body is list inner) =
        at_walk e _ (walk_for_list functions tables e x d body is) (for_list_named e.span x.text (by_walk d) (by_walk body) (each_named d list) (each_named body inner))
    each_named e (for_table x rows body is table inner) =
        at_walk e _ (walk_for_table functions tables e x rows body is) (for_table_named e.span x.text (by_walk rows) (by_walk body) (each_named rows table) (each_named body inner))
    each_named e (query keys body is inner) = at_walk e _ (walk_query functions tables e keys body is) (query_named e.span keys (by_walk body) (each_named body inner))
    each_named e (update change is inner) = at_walk e _ (walk_update functions tables e change is) (changes_named e.span change inner)
    each_named e (delete change is inner) = at_walk e _ (walk_delete functions tables e change is) (changes_named e.span change inner)

    all_named : (es : List Expr) → Trees es → AllNamed (map by_walk es)
    all_named _ none = none_named
    all_named _ (more {e} {es} first others) = more_named (by_walk e) (map by_walk es) (each_named e first) (all_named es others)

    cases_named : (cases : List Case) → CaseTrees cases → CasesNamed (case_walks cases)
    cases_named _ no_cases = no_cases_named
    cases_named _ (case_of {case} {cases} body others) =
        case_named (walk_case functions tables case) (case_walks cases) (subst AreNamed (sym (ap (λ k. k.body) (walk_case_is functions tables case))) (each_named case.body body)) (cases_named cases others)

    changes_named : (at : Span) (change : ChangeExpr) → ChangeTree change
        → AreNamed (change_in at (walk_change functions tables change) (table_named tables (walk_change functions tables change).table))
    changes_named at change (changed cond sets) =
        let k : ChangeWalk = record {
          name = (out-ChangeExpr change).name.text;
          table = (out-ChangeExpr change).table.text;
          cond = by_walk (out-ChangeExpr change).cond;
          sets = map (walk_part functions tables) (out-ChangeExpr change).sets;
        } in
        let by_change : AreNamed (change_in at k (table_named tables k.table)) =
        change_named at k (table_named tables k.table) (each_named (out-ChangeExpr change).cond cond)
        (subst AllNamed (sym (set_walks functions tables (out-ChangeExpr change).sets)) (all_named (exprs_of (out-ChangeExpr change).sets) sets)) in
        subst (λ v. AreNamed (change_in at v (table_named tables v.table))) (sym (walk_change_is functions tables change)) by_change

  pub functions_named : (in_mutual : Bool) (fs : List FunDef) (us : List Unknown) (n : ℕ) → Each IsVariable (functions_walked functions tables in_mutual fs us n).nodes
  functions_named in_mutual [] us n = tt
  functions_named in_mutual (f ∷ fs) [] n = tt
  functions_named in_mutual (f ∷ fs) (u ∷ us) n =
      each_both IsVariable (function_walked functions tables in_mutual f u n).nodes _ (each_named f.body (every_tree f.body) _ _ _) (functions_named in_mutual fs us _)

-- ---- groups

pub nodes_named : (earlier : Named Scheme) (tables : List TableDecl) (decl : Decl) → Each IsVariable (group_walked earlier tables decl).nodes
nodes_named earlier tables decl =
    let us : List Unknown = unknowns (functions_in decl) 0 in
    functions_named (own_entries (functions_in decl) (map type_of us) ++ scheme_entries earlier) tables (is_mutual decl) (functions_in decl) us (after_unknowns (functions_in decl) 0)

pub variable_even : (before : ℕ → EffectSet) (t : Ty) → IsVariable t → IsEven before t
variable_even before t is = subst (λ rows. Each (λ es. HasBefore before es.labels es.tail) rows) (sym (ap rows_of is.1 ∙ rows_variable is.0)) tt
