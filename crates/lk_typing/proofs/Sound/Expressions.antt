-- Where all that the walk through an expression says holds, it has types by the rules.
use Rattle.std.proofs.Common.{◌≡◌, List, map, refl, sym, subst, ap, ◌∙◌, Option, Some, None}
use Rattle.lk_ast.specs.Children.{exprs_of}
use Rattle.lk_ast.specs.Layers.{layer}
use Rattle.lk_ast.specs.declared.declaration.TableDecl.{TableDecl}
use Rattle.lk_ast.specs.declared.expression.Case.{Case}
use Rattle.lk_ast.specs.declared.expression.ChangeExpr.{ChangeExpr, out-ChangeExpr}
use Rattle.lk_ast.specs.declared.expression.Expr.{Expr}
use Rattle.lk_ast.specs.declared.expression.LastCase.{LastCase}
use Rattle.lk_ast.specs.declared.expression.Node.TheOpen.{Node-F}
use Rattle.lk_types.specs.Grounding.{under}
use Rattle.lk_types.specs.declared.ground.Ground.{Ground}
use Rattle.lk_types.specs.declared.ty.Ty.{Ty}
use Rattle.lk_typing.proofs.Sound.Forms.{var_sound, lambda_sound, for_list_sound, for_table_sound}
use Rattle.lk_typing.proofs.Levels.{walk_plain, walk_lambda_form, walk_var, walk_switch, walk_for_list, walk_for_table, walk_query, walk_update, walk_delete, walk_case_is, walk_last_is, walk_change_is, set_labels, set_walks}
use Rattle.lk_typing.proofs.Sound.Sequences.{AreSound, AreSoundCases, IsSoundCase, FoundAll, all_sound}
use Rattle.lk_typing.proofs.Meaning.{Sound}
use Rattle.lk_typing.proofs.Nodes.{EndedMet, ended_met}
use Rattle.lk_typing.proofs.Sound.Operators.{operator_sound}
use Rattle.lk_typing.proofs.Sound.Queries.{IsSoundChange, query_sound, update_sound, delete_sound}
use Rattle.lk_typing.proofs.Sound.Switches.{switch_sound, switch_open_sound}
use Rattle.lk_typing.proofs.Trees as tree
use Rattle.lk_typing.proofs.Trees.{Tree, Trees, CaseTrees, LastTree, ChangeTree, every_tree}
use Rattle.lk_typing.specs.Equations.{Own, equations_of}
use Rattle.lk_typing.specs.Heads.{Head}
use Rattle.lk_typing.specs.Names.{Named, Entry}
use Rattle.lk_typing.specs.Rules.{Rule}
use Rattle.lk_typing.specs.Typing.{head_of, parts_of, plain}
use Rattle.lk_typing.specs.Walk.{Walking, WalkedAll, walk_all, plain_walked, walk, walk_case, walk_change, switch_walked, CaseWalk}

module _ (functions : Named (Entry Ty)) (known_functions : Named (Entry Ground)) (tables : List TableDecl) where
  abbrev IsSound : Walking → Expr → Type 0
  IsSound = Sound functions known_functions tables

  abbrev by_walk : Expr → Walking
  by_walk = walk functions tables

  plain_sound : (e : Expr) (h : Head) (ws : List Walking) → head_of e ≡ Some h → AreSound functions known_functions tables ws (parts_of e)
      → IsSound (plain_walked functions tables e.span h ws) e
  plain_sound e h ws is sound σ names known_names effects s n fs ns es meets =
      let all : WalkedAll = walk_all ws names effects n in
      let o : Own = equations_of functions tables names effects h all.types all.next in
      let parts : EndedMet σ all.steps o = ended_met σ e.span all.inside all.steps o meets in
      let found : FoundAll functions known_functions tables σ all (parts_of e) known_names s = all_sound functions known_functions tables ws (parts_of e) sound σ names known_names effects s n fs ns es parts.before in
      let own_found : (t : Ground) × (under σ o.ty ≡ Some t) × Rule known_functions tables known_names s h found.ts t =
      operator_sound σ functions known_functions tables names known_names effects s h all.types found.ts all.next fs ns es found.types parts.equations parts.ty in
      record { t = own_found.0; inside = found.inside; ty = parts.node ∙ own_found.1; nodes = found.nodes; typed = plain h found.ts is found.typed own_found.2 }

  at_walk : (e : Expr) (w : Walking) → by_walk e ≡ w → IsSound w e → IsSound (by_walk e) e
  at_walk e w is sound = subst (λ v. IsSound v e) (sym is) sound

  case_sound : (case : Case) → IsSound (by_walk case.body) case.body → IsSoundCase functions known_functions tables (walk_case functions tables case) case
  case_sound case sound = subst (λ c. IsSoundCase functions known_functions tables c case) (sym (walk_case_is functions tables case)) (record { tag = refl; name = refl; body = sound })

  abbrev all_walks : List Expr → List Walking
  all_walks es = map by_walk es

  abbrev case_walks : List Case → List CaseWalk
  case_walks cases = map (walk_case functions tables) cases

  IsSoundLast : Option LastCase → Type 0
  IsSoundLast None = Unit {0}
  IsSoundLast (Some last) = IsSound (by_walk last.body) last.body

  switch_any : (e d : Expr) (cases : List Case) (last : Option LastCase) → layer e ≡ Node-F.Switch d cases last → IsSound (by_walk d) d
      → AreSoundCases functions known_functions tables (case_walks cases) cases → IsSoundLast last → IsSound (by_walk e) e
  unfolding IsSoundLast
  switch_any e d cases None is sound_d sound_cases sound_last =
      at_walk e _ (walk_switch functions tables e d cases None is) (switch_sound functions known_functions tables e d cases (by_walk d) (case_walks cases) is sound_d sound_cases)
  switch_any e d cases (Some last) is sound_d sound_cases sound_last =
      at_walk e _ (walk_switch functions tables e d cases (Some last) is ∙ ap (λ l. switch_walked e.span (by_walk d) (case_walks cases) (Some l)) (walk_last_is functions tables last))
      (switch_open_sound functions known_functions tables e d cases last (by_walk d) (by_walk last.body) (case_walks cases) is sound_d sound_cases sound_last)

  change_sound : (change : ChangeExpr) → IsSound (by_walk (out-ChangeExpr change).cond) (out-ChangeExpr change).cond
      → AreSound functions known_functions tables (all_walks (exprs_of (out-ChangeExpr change).sets)) (exprs_of (out-ChangeExpr change).sets)
      → IsSoundChange functions known_functions tables (walk_change functions tables change) change
  change_sound change sound_cond sound_sets =
      subst (λ c. IsSoundChange functions known_functions tables c change) (sym (walk_change_is functions tables change)) (record {
        name = refl;
        table = refl;
        cond = sound_cond;
        labels = set_labels functions tables (out-ChangeExpr change).sets;
        sets = subst (λ ws. AreSound functions known_functions tables ws (exprs_of (out-ChangeExpr change).sets)) (sym (set_walks functions tables (out-ChangeExpr change).sets)) sound_sets;
      })

  mutual
    unfolding AreSound AreSoundCases IsSoundLast

    each_sound : (e : Expr) → Tree e → IsSound (by_walk e) e
    each_sound e (tree.plain h is parts) = at_walk e _ (walk_plain functions tables e h is) (plain_sound e h (all_walks (parts_of e)) is (lists_sound _ parts))
    each_sound e (tree.lambda l is body) = at_walk e _ (walk_lambda_form functions tables e l is) (lambda_sound functions known_functions tables e l (by_walk l.body) is (each_sound l.body body))
    each_sound e (tree.var x d rest is first last) = at_walk e _ (walk_var functions tables e x d rest is) (var_sound functions known_functions tables e d rest x (by_walk d) (by_walk rest) is (each_sound d first) (each_sound rest last))
    each_sound e (tree.switch d cases last is value bodies other) = switch_any e d cases last is (each_sound d value) (cases_are_sound cases bodies) (last_sound last other)
    each_sound e (tree.for_list x d body is list inner) = at_walk e _ (walk_for_list functions tables e x d body is) (for_list_sound functions known_functions tables e d body x (by_walk d) (by_walk body) is (each_sound d list) (each_sound body inner))
    each_sound e (tree.for_table x d body is rows inner) = at_walk e _ (walk_for_table functions tables e x d body is) (for_table_sound functions known_functions tables e d body x (by_walk d) (by_walk body) is (each_sound d rows) (each_sound body inner))
    each_sound e (tree.query keys body is inner) = at_walk e _ (walk_query functions tables e keys body is) (query_sound functions known_functions tables e body keys (by_walk body) is (each_sound body inner))
    each_sound e (tree.update change is inner) = at_walk e _ (walk_update functions tables e change is) (update_sound functions known_functions tables e change (walk_change functions tables change) is (change_sounds change inner))
    each_sound e (tree.delete change is inner) = at_walk e _ (walk_delete functions tables e change is) (delete_sound functions known_functions tables e change (walk_change functions tables change) is (change_sounds change inner))

    lists_sound : (es : List Expr) → Trees es → AreSound functions known_functions tables (all_walks es) es
    lists_sound _ tree.none = tt
    lists_sound _ (tree.more {e} {es} t ts) = (each_sound e t, lists_sound es ts)

    cases_are_sound : (cases : List Case) → CaseTrees cases → AreSoundCases functions known_functions tables (case_walks cases) cases
    cases_are_sound _ tree.no_cases = tt
    cases_are_sound _ (tree.case_of {case} {cases} t ts) = (case_sound case (each_sound case.body t), cases_are_sound cases ts)

    last_sound : (last : Option LastCase) → LastTree last → IsSoundLast last
    last_sound _ tree.no_last = tt
    last_sound _ (tree.last_of {last} t) = each_sound last.body t

    change_sounds : (change : ChangeExpr) → ChangeTree change → IsSoundChange functions known_functions tables (walk_change functions tables change) change
    change_sounds change (tree.changed cond sets) = change_sound change (each_sound (out-ChangeExpr change).cond cond) (lists_sound (exprs_of (out-ChangeExpr change).sets) sets)

  pub expression_sound : (e : Expr) → IsSound (by_walk e) e
  expression_sound e = each_sound e (every_tree e)
