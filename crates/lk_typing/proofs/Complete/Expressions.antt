-- Where an expression has types by the rules, something can stand for the variables of its walk so that all that it says holds.
use Rattle.std.proofs.Common.{◌≡◌, ℕ, ◌+◌, true, List, ◌∷◌, ◌++◌, map, length, refl, sym, subst, ap, ◌∙◌, Some, None}
use Rattle.lk_ast.specs.Children.{exprs_of}
use Rattle.lk_ast.specs.declared.declaration.TableDecl.{TableDecl}
use Rattle.lk_ast.specs.declared.expression.Case.{Case}
use Rattle.lk_ast.specs.declared.expression.ChangeExpr.{ChangeExpr, out-ChangeExpr}
use Rattle.lk_ast.specs.declared.expression.Expr.{Expr}
use Rattle.lk_ast.specs.declared.place.Span.{Span}
use Rattle.lk_types.specs.Grounding.{Grounding, under}
use Rattle.lk_types.specs.Rows.{Label, EffectSet, no_effects}
use Rattle.lk_types.specs.declared.ground.Ground.{Ground}
use Rattle.lk_types.specs.declared.ground.Ground.TheVariants as known
use Rattle.lk_types.specs.declared.ty.Effect.TheVariants as effect
use Rattle.lk_types.specs.declared.ty.Effects.{Effects}
use Rattle.lk_types.specs.declared.ty.Ty.{Ty}
use Rattle.lk_typing.proofs.Complete.Forms.{var_complete, lambda_complete, for_list_complete, for_table_complete}
use Rattle.lk_typing.proofs.Groups.Functions.{stand_next}
use Rattle.lk_typing.proofs.Levels.{walk_plain, walk_lambda_form, walk_var, walk_switch, walk_for_list, walk_for_table, walk_query, walk_update, walk_delete, walk_case_is, walk_last_is, walk_change_is, set_labels, set_walks}
use Rattle.lk_typing.proofs.Lists.{length_both, stand_front}
use Rattle.lk_typing.proofs.Complete.Sequences.{CompleteAll, MetAll, none_complete, more_complete, CompleteCases, no_cases_complete, case_complete}
use Rattle.lk_typing.proofs.Meaning.{Letter, Stand, Names, Functions, HasEffects, Complete, OwnMet}
use Rattle.lk_typing.proofs.Nodes.{with_node, stand_before, ended_holds}
use Rattle.lk_typing.proofs.Complete.Operators.{operator_complete}
use Rattle.lk_typing.proofs.Complete.Queries.{query_complete, change_complete}
use Rattle.lk_typing.proofs.Complete.Switches.{switch_complete, switch_open_complete}
use Rattle.lk_typing.specs.Equations.{Own, equations_of}
use Rattle.lk_typing.specs.Heads.{Head}
use Rattle.lk_typing.specs.Names.{Named, Entry, table_named}
use Rattle.lk_typing.specs.Rules.{Rule}
use Rattle.lk_typing.specs.Types.{unit, variant_of, record_of, only_scan}
use Rattle.lk_typing.specs.Typing.{HasType, HaveTypes, HaveCases, IsChange, plain, lambda, var, switch, switch_open, for_list, for_table, query, update, delete, none, more, no_cases, case_of, changed, parts_of, labels_of}
use Rattle.lk_typing.specs.Walk.{Walking, WalkedAll, walk_all, plain_walked, walk, walk_case, walk_change, walk_part, switch_walked, change_in, CaseWalk, ChangeWalk}

module _ (functions : Named (Entry Ty)) (known_functions : Named (Entry Ground)) (tables : List TableDecl) where
  abbrev IsComplete : Walking → Named Ground → EffectSet → Ground → List Ground → Type 0
  IsComplete = Complete functions known_functions tables

  abbrev AllComplete : List Walking → Named Ground → EffectSet → List Ground → List Ground → Type 0
  AllComplete = CompleteAll functions known_functions tables

  abbrev CasesComplete : List CaseWalk → Named Ground → EffectSet → List Ground → Named Ground → List Ground → Type 0
  CasesComplete = CompleteCases functions known_functions tables

  abbrev by_walk : Expr → Walking
  by_walk = walk functions tables

  at_walk : (e : Expr) (w : Walking) (names : Named Ground) (s : EffectSet) (t : Ground) (inside : List Ground) → by_walk e ≡ w → IsComplete w names s t inside → IsComplete (by_walk e) names s t inside
  at_walk e w names s t inside is complete = subst (λ v. IsComplete v names s t inside) (sym is) complete

  plain_complete : (at : Span) (h : Head) (ws : List Walking) (names : Named Ground) (s : EffectSet) (ts inside : List Ground) (t : Ground)
      → AllComplete ws names s ts inside → Rule known_functions tables names s h ts t → IsComplete (plain_walked functions tables at h ws) names s t inside
  plain_complete at h ws names s ts inside t (la, met_all) rule =
      let own_part : (ls : List Letter) × ((σ : Grounding) (functions : Named (Entry Ty)) (open_names : Named Ty) (f : Effects) (types : List Ty) (n : ℕ) → Functions σ functions known_functions → Names σ open_names names → HasEffects σ f s
      → map (under σ) types ≡ map (λ u. Some u) ts → Stand σ n ls → OwnMet σ (equations_of functions tables open_names f h types n) (length ls + n) t) = operator_complete known_functions tables names s h ts t rule in (
        with_node (la ++ own_part.0) t,
        λ σ open_names f n fs ns es all_stand.
            let stands : Stand σ n (la ++ own_part.0) = stand_before σ (la ++ own_part.0) t n all_stand in
            let all : WalkedAll = walk_all ws open_names f n in
            let a : MetAll σ all (length la + n) ts inside = met_all σ open_names f n fs ns es (stand_front σ la own_part.0 n stands) in
            let then : Stand σ all.next own_part.0 = stand_next σ la own_part.0 n all.next a.next stands in
            let o : Own = equations_of functions tables open_names f h all.types all.next in
            let b : OwnMet σ o (length own_part.0 + all.next) t = own_part.1 σ functions open_names f all.types all.next fs ns es a.types then in
            ended_holds σ at all.inside all.steps o (la ++ own_part.0) n t inside all_stand a.met
            (record { next = b.next ∙ ap (λ k. length own_part.0 + k) a.next ∙ length_both la own_part.0 n; equations = b.equations; ty = b.ty }) a.nodes,
      )

  abbrev all_walks : List Expr → List Walking
  all_walks es = map by_walk es

  abbrev case_walks : List Case → List CaseWalk
  case_walks cases = map (walk_case functions tables) cases

  mutual
    each_complete : (names : Named Ground) (s : EffectSet) (e : Expr) (t : Ground) (inside : List Ground) → HasType known_functions tables names s e t inside → IsComplete (by_walk e) names s t inside
    each_complete names s e t inside (plain h ts is parts rule) =
        at_walk e _ names s t inside (walk_plain functions tables e h is) (plain_complete e.span h (all_walks (parts_of e)) names s ts inside t (all_complete names s (parts_of e) ts inside parts) rule)
    each_complete names s e _ _ (lambda {inside = inside} l params own_set b is named moves body local) =
        at_walk e _ names s _ _ (walk_lambda_form functions tables e l is) (lambda_complete functions known_functions tables e.span l.params l.place (by_walk l.body) params names own_set s b inside named moves (each_complete (params ++ names) own_set l.body b inside body) local)
    each_complete names s e t _ (var x d rest a inside later is first last) =
        at_walk e _ names s t _ (walk_var functions tables e x d rest is) (var_complete functions known_functions tables e.span x.text (by_walk d) (by_walk rest) names s a t inside later (each_complete names s d a inside first) (each_complete ((x.text, a) ∷ names) s rest t later last))
    each_complete names s e t _ (switch d cases row tags ts inside bodies is value all each tagged local) =
        at_walk e _ names s t _ (walk_switch functions tables e d cases None is) (switch_complete functions known_functions tables e.span (by_walk d) (case_walks cases) names s t row tags ts inside bodies (each_complete names s d (variant_of row) inside value) (cases_complete names s cases ts tags bodies all) each tagged local)
    each_complete names s e t _ (switch_open d cases last other row tags ts inside bodies later is value all each body tagged local) =
        at_walk e _ names s t _ (walk_switch functions tables e d cases (Some last) is ∙ ap (λ l. switch_walked e.span (by_walk d) (case_walks cases) (Some l)) (walk_last_is functions tables last))
        (switch_open_complete functions known_functions tables e.span (by_walk d) (case_walks cases) last.name.text (by_walk last.body) names s t other row tags ts inside bodies later (each_complete names s d (variant_of row) inside value) (cases_complete names s cases ts tags bodies all) each
        (each_complete ((last.name.text, variant_of other) ∷ names) s last.body t later body) tagged local)
    each_complete names s e _ _ (for_list x d body a b inside later is list inner) =
        at_walk e _ names s _ _ (walk_for_list functions tables e x d body is) (for_list_complete functions known_functions tables e.span x.text (by_walk d) (by_walk body) names s a b inside later (each_complete names s d (known.List a) inside list) (each_complete ((x.text, a) ∷ names) s body (known.List b) later inner))
    each_complete names s e _ _ (for_table x d body a b inside later is rows inner) =
        at_walk e _ names s _ _ (walk_for_table functions tables e x d body is) (for_table_complete functions known_functions tables e.span x.text (by_walk d) (by_walk body) names s a b inside later (each_complete names s d (known.List a) inside rows) (each_complete ((x.text, a) ∷ names) s body (known.List b) later inner))
    each_complete names s e _ _ (query keys body a inside is inner each scans by_client) =
        at_walk e _ names s _ _ (walk_query functions tables e keys body is) (query_complete functions known_functions tables e.span keys (by_walk body) names s a inside (each_complete names only_scan body (known.List a) inside inner) each scans by_client)
    each_complete names s e _ inside (update change is inner writes) =
        at_walk e _ names s unit inside (walk_update functions tables e change is) (changes_complete names s e.span change inside inner writes)
    each_complete names s e _ inside (delete change is inner writes) =
        at_walk e _ names s unit inside (walk_delete functions tables e change is) (changes_complete names s e.span change inside inner writes)

    all_complete : (names : Named Ground) (s : EffectSet) (es : List Expr) (ts inside : List Ground) → HaveTypes known_functions tables names s es ts inside → AllComplete (all_walks es) names s ts inside
    all_complete names s _ _ _ none = none_complete functions known_functions tables names s
    all_complete names s _ _ _ (more {e} {es} {t} {ts} inside rest first others) =
        more_complete functions known_functions tables (by_walk e) (all_walks es) names s t ts inside rest (each_complete names s e t inside first) (all_complete names s es ts rest others)

    cases_complete : (names : Named Ground) (s : EffectSet) (cases : List Case) (ts : List Ground) (tags : Named Ground) (inside : List Ground) → HaveCases known_functions tables names s cases ts tags inside → CasesComplete (case_walks cases) names s ts tags inside
    cases_complete names s _ _ _ _ no_cases = no_cases_complete functions known_functions tables names s
    cases_complete names s _ _ _ _ (case_of {case} {cases} {t} {ts} {tags} a bound inside rest held body others) =
        case_complete functions known_functions tables (walk_case functions tables case) (case_walks cases) case names s a t bound tags ts inside rest (ap (λ c. c.tag) (walk_case_is functions tables case)) (ap (λ c. c.name) (walk_case_is functions tables case)) held
        (subst (λ w. IsComplete w (bound ++ names) s t inside) (sym (ap (λ c. c.body) (walk_case_is functions tables case))) (each_complete (bound ++ names) s case.body t inside body)) (cases_complete names s cases ts tags rest others)

    changes_complete : (names : Named Ground) (s : EffectSet) (at : Span) (change : ChangeExpr) (inside : List Ground) → IsChange known_functions tables names change inside → s effect.Write ≡ true
        → IsComplete (λ open_names. change_in at (walk_change functions tables change) (table_named tables (walk_change functions tables change).table) open_names) names s unit inside
    changes_complete names s at change _ (changed row sets ts cond rest rows cond_typed sets_typed labelled_are each) writes =
        let c : ChangeWalk = record { name = (out-ChangeExpr change).name.text; table = (out-ChangeExpr change).table.text; cond = by_walk (out-ChangeExpr change).cond; sets = map (walk_part functions tables) (out-ChangeExpr change).sets } in
        let x : Label = (out-ChangeExpr change).name.text in
        let g : Ground = record_of row in
        let inner : Named Ground = (x, g) ∷ names in
        let set_exprs : List Expr = exprs_of (out-ChangeExpr change).sets in
        let by_change : IsComplete (λ open_names. change_in at c (table_named tables c.table) open_names) names s unit ((known.Bool ∷ cond) ++ rest) =
        change_complete functions known_functions tables at c x (labels_of (out-ChangeExpr change).sets) names s row sets ts cond rest refl (set_labels functions tables (out-ChangeExpr change).sets)
        (each_complete inner no_effects (out-ChangeExpr change).cond known.Bool cond cond_typed)
        (subst (λ ws. AllComplete ws inner no_effects ts rest) (sym (set_walks functions tables (out-ChangeExpr change).sets)) (all_complete inner no_effects set_exprs ts rest sets_typed))
        labelled_are each writes (table_named tables c.table) rows in
        subst (λ v. IsComplete (λ open_names. change_in at v (table_named tables v.table) open_names) names s unit ((known.Bool ∷ cond) ++ rest)) (sym (walk_change_is functions tables change)) by_change

  pub expression_complete : (names : Named Ground) (s : EffectSet) (e : Expr) (t : Ground) (inside : List Ground) → HasType known_functions tables names s e t inside → IsComplete (by_walk e) names s t inside
  expression_complete = each_complete
