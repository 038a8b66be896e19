-- The nodes of a typed expression are those of its outline with the types of the nodes.
use Rattle.std.proofs.Common.{◌≡◌, refl, sym, ap, ap₂, ◌∙◌, subst, ℕ, ◌+◌, ◌≤◌, true, List, [], ◌∷◌, ◌++◌, map, length, Some, None, le_trans, arith}
use Rattle.std.proofs.lemmas.List.{map-append}
use Rattle.lk_ast.specs.Children.{exprs_of}
use Rattle.lk_ast.specs.Layers.{layer}
use Rattle.lk_ast.specs.declared.declaration.TableDecl.{TableDecl}
use Rattle.lk_ast.specs.declared.expression.Case.{Case}
use Rattle.lk_ast.specs.declared.expression.ChangeExpr.{ChangeExpr, out-ChangeExpr}
use Rattle.lk_ast.specs.declared.expression.Expr.{Expr}
use Rattle.lk_index.specs.Free.{free, free_change}
use Rattle.lk_scope.specs.Names.{no_names}
use Rattle.lk_types.specs.Rows.{EffectSet, effects_of}
use Rattle.lk_types.specs.declared.ground.Ground.{Ground, out-Ground}
use Rattle.lk_types.specs.declared.ground.Ground.TheVariants as known
use Rattle.lk_types.specs.declared.ty.Effect.{Effect}
use Rattle.lk_typing.specs.Heads.{Head}
use Rattle.lk_typing.specs.Names.{Named, types_of, Entry}
use Rattle.lk_typing.specs.Rules.{Rule}
use Rattle.lk_typing.specs.Types.{function_of, variant_of}
use Rattle.lk_typing.specs.Typing.{HasType, HaveTypes, HaveCases, IsChange, plain, lambda, var, switch, switch_open, for_list, for_table, query, update, delete, none, more, no_cases, case_of, changed, parts_of as exprs_in}
use Rattle.lk_sound.specs.Nodes.{TypedNode, parts_of, other_part, other_node, block_node, known_in, used_by, compared_by, nodes_of, each_nodes, case_nodes, change_nodes}
use Rattle.lk_outline.specs.Outline.{Around, Context, In, Site, Kind, site, before, starts, with_names, with_some, where_bound, outline, outline_case, outline_change}
use Rattle.lk_outline.specs.Typed.{type_at, effects_in, effects_around, part_at, captured_in, behind, node_at}
use Rattle.lk_outline.proofs.Binders.{AreBelow, below_later, below_names, below_some, divides_first}
use Rattle.lk_outline.proofs.Captured.{type_is, captures, change_captures}
use Rattle.lk_outline.proofs.Lengths.{length_of, case_lengths}
use Rattle.lk_outline.proofs.Forms.{outlines, case_outlines, case_level, change_level, kind_of, other_site, block_site, lambda_context, bound_context, block_context, outline_plain, outline_lambda_form, outline_var, outline_for_list, outline_for_table, outline_switch, outline_switch_open, outline_query, outline_update, outline_delete}
use Rattle.lk_outline.proofs.OperatorNodes.{types_start, kind_block, rule_uses, rule_compares}
use Rattle.lk_outline.proofs.Stretches.{StandsAt, front, back, further, behind_it}

-- the effects of a lambda are those of its type
lambda_effects : (own : List Effect) (types : List Ground) (n : ℕ) (params : List Ground) (effects : EffectSet) (answer : Ground)
    → type_at types n ≡ function_of params effects answer → effects_around own types (Around.Lambda n) ≡ effects_of effects
lambda_effects own types n params effects answer is = ap (λ t. effects_in (out-Ground t)) is ∙ ap effects_in (known.outs-Fun params (effects_of effects) answer)

module _ (own : List Effect) (types : List Ground) (sites : List Site) where
  abbrev node : Site → TypedNode
  node = node_at own types sites

  -- ---- one node

  plain_are : {functions : Named (Entry Ground)} {tables : List TableDecl} {names : Named Ground} {effects : EffectSet} {h : Head} {ts : List Ground} {t : Ground} (e : Expr) (c : Context) (n : ℕ) (by : Rule functions tables names effects h ts t) (nodes : List TypedNode) (found : List Site)
      → type_at types n ≡ t → effects_around own types c.around ≡ effects_of effects → map (type_at types) (starts (map outline (exprs_in e)) c (1 + n)) ≡ ts → nodes ≡ map node found
      → record { part = record { span = e.span; type = t; use_of = used_by by; compares = compared_by e by; inside = c.inside }; block = None } ∷ nodes ≡ map node (site e.span (kind_of (Some h) (layer e) c n) c n found)
  plain_are {h = h} e c n by nodes found typed own_same starts_same same =
      let s : Site = record { number = n; span = e.span; kind = kind_of (Some h) (layer e) c n; around = c.around; inside = c.inside } in
      (λ i. record {
        part = record { span = e.span; type = sym typed i; use_of = rule_uses own types e c n s by typed own_same starts_same i; compares = rule_compares own types e c n by starts_same i; inside = c.inside };
        block = sym (kind_block own types sites h (layer e) c n s) i;
      } ∷ same i)

  other_are : (e : Expr) (t : Ground) (c : Context) (n : ℕ) (nodes : List TypedNode) (found : List Site) → type_at types n ≡ t → nodes ≡ map node found → other_node c.inside e t ∷ nodes ≡ map node (other_site e c n found)
  other_are e t c n nodes found typed same = (λ i. other_node c.inside e (sym typed i) ∷ same i)

  parts_found : (found : List Site) → parts_of (map node found) ≡ map (part_at own types) found
  parts_found [] = refl
  parts_found (s ∷ found) = ap (λ ps. part_at own types s ∷ ps) (parts_found found)

  -- the parts and the captured names of a block are found behind its node
  block_parts : (n : ℕ) (s : Site) (nodes : List TypedNode) (found : List Site) → StandsAt sites n (s ∷ found) → nodes ≡ map node found → parts_of nodes ≡ map (part_at own types) (behind own types sites n (length found))
  block_parts n s nodes found stands same = ap parts_of same ∙ parts_found found ∙ sym (ap (map (part_at own types)) (behind_it found stands))

  block_captured : (n : ℕ) (s : Site) (found : List Site) (captured : List Ground) → StandsAt sites n (s ∷ found) → captured_in own types n found ≡ captured → captured ≡ captured_in own types n (behind own types sites n (length found))
  block_captured n s found captured stands are = sym are ∙ sym (ap (captured_in own types n) (behind_it found stands))

  query_are : (e : Expr) (t : Ground) (c : Context) (n : ℕ) (nodes : List TypedNode) (found : List Site) (captured : List Ground)
      → type_at types n ≡ t → StandsAt sites n (block_site e Kind.Query c n found) → nodes ≡ map node found → captured_in own types n found ≡ captured
      → block_node (other_part c.inside e t) (other_part c.inside e t ∷ parts_of nodes) captured ∷ nodes ≡ map node (block_site e Kind.Query c n found)
  query_are e t c n nodes found captured typed stands same are =
      (λ i. block_node (other_part c.inside e (sym typed i)) (other_part c.inside e (sym typed i) ∷ block_parts n _ nodes found stands same i) (block_captured n _ found captured stands are i) ∷ same i)

  change_are : (e : Expr) (t : Ground) (c : Context) (n : ℕ) (nodes : List TypedNode) (found : List Site) (captured : List Ground)
      → type_at types n ≡ t → StandsAt sites n (block_site e Kind.Change c n found) → nodes ≡ map node found → captured_in own types n found ≡ captured
      → block_node (other_part c.inside e t) (parts_of nodes) captured ∷ nodes ≡ map node (block_site e Kind.Change c n found)
  change_are e t c n nodes found captured typed stands same are =
      (λ i. block_node (other_part c.inside e (sym typed i)) (block_parts n _ nodes found stands same i) (block_captured n _ found captured stands are i) ∷ same i)

  -- ---- parts

  -- two parts, one after the other
  pair : (a b : In) (c : Context) (n : ℕ) (ts us : List Ground) (nodes more_nodes : List TypedNode) → StandsAt types n (ts ++ us) → StandsAt sites n (before a b c n) → length ts ≡ length (a c n)
      → (StandsAt types n ts → StandsAt sites n (a c n) → nodes ≡ map node (a c n))
      → ((m : ℕ) → n ≤ m → StandsAt types m us → StandsAt sites m (b c m) → more_nodes ≡ map node (b c m))
      → nodes ++ more_nodes ≡ map node (before a b c n)
  pair a b c n ts us nodes more_nodes at stands long first rest =
      let m : ℕ = n + length (a c n) in
      let le : n ≤ n + length (a c n) = omega arith in
      ap₂ (λ xs ys. xs ++ ys) (first (front ts us at) (front (a c n) (b c m) stands))
      (rest m le (back ts us (length (a c n)) long at) (back (a c n) (b c m) (length (a c n)) refl stands))
      ∙ sym (map-append node (a c n) (b c m))

  -- what is found by the form of an expression
  by_form : {outlined found : List Site} {nodes : List TypedNode} (n : ℕ) → outlined ≡ found → StandsAt sites n outlined → (StandsAt sites n found → nodes ≡ map node found) → nodes ≡ map node outlined
  by_form n same stands of_found = of_found (subst (StandsAt sites n) same stands) ∙ sym (ap (map node) same)

  -- ---- expressions

  module _ {functions : Named (Entry Ground)} {tables : List TableDecl} where
    mutual
      unfolding nodes_of

      pub nodes_are : {names : Named Ground} {effects : EffectSet} {e : Expr} {t : Ground} {inside : List Ground} (d : HasType functions tables names effects e t inside)
          (c : Context) (n : ℕ) → StandsAt types n (t ∷ inside) → StandsAt sites n (outline e c n) → effects_around own types c.around ≡ effects_of effects → AreBelow n c.scope
          → nodes_of c.inside d ≡ map node (outline e c n)
      nodes_are {e = e} (plain h ts is have by) c n at stands own_same below =
          by_form n (outline_plain e h c n is) stands (λ found.
          plain_are e c n by (each_nodes c.inside have) (outlines (exprs_in e) c (1 + n)) (type_is at) own_same (types_start have c (1 + n) (further at))
          (each_are have c (1 + n) (further at) (further found) own_same (below_later n (1 + n) c.scope (omega arith) below)))
      nodes_are {e = e} {t = t} (lambda l params own_effects b is named_same moves body local) c n at stands own_same below =
          let binds : Named ℕ → Named ℕ = with_names l.params (1 + n) in
          by_form n (outline_lambda_form e l c n is) stands (λ found.
          other_are e t c n (nodes_of c.inside body) (outline l.body (lambda_context binds n c) (1 + n)) (type_is at)
          (nodes_are body (lambda_context binds n c) (1 + n) (further at) (further found) (lambda_effects own types n (types_of params) own_effects b (type_is at))
          (below_names l.params (1 + n) (1 + n) c.scope (omega arith) (below_later n (1 + n) c.scope (omega arith) below))))
      nodes_are {e = e} {t = t} (var x d rest a first last is one then) c n at stands own_same below =
          let binds : Named ℕ → Named ℕ = with_names (x ∷ []) (1 + n) in
          by_form n (outline_var e x d rest c n is) stands (λ found.
          other_are e t c n (nodes_of c.inside one ++ nodes_of c.inside then) _ (type_is at)
          (pair (outline d) (where_bound binds (outline rest)) c (1 + n) (a ∷ first) (t ∷ last) (nodes_of c.inside one) (nodes_of c.inside then) (further at) (further found) (length_of one c (1 + n))
          (λ here found_here. nodes_are one c (1 + n) here found_here own_same (below_later n (1 + n) c.scope (omega arith) below))
          (λ m later here found_here. nodes_are then (bound_context binds c) m here found_here own_same (below_names (x ∷ []) (1 + n) m c.scope later (below_later n m c.scope (omega arith) below)))))
      nodes_are {e = e} {t = t} (switch d cases row tags ts first bodies is one have same made local) c n at stands own_same below =
          by_form n (outline_switch e d cases c n is) stands (λ found.
          other_are e t c n (nodes_of c.inside one ++ case_nodes c.inside have) _ (type_is at)
          (pair (outline d) (case_outlines cases (1 + n)) c (1 + n) (variant_of row ∷ first) bodies (nodes_of c.inside one) (case_nodes c.inside have) (further at) (further found) (length_of one c (1 + n))
          (λ here found_here. nodes_are one c (1 + n) here found_here own_same (below_later n (1 + n) c.scope (omega arith) below))
          (λ m later here found_here. cases_are have (1 + n) c m later here found_here own_same (below_later n m c.scope (omega arith) below))))
      nodes_are {e = e} {t = t} (switch_open d cases last rest row tags ts first bodies inside is one have same then made local) c n at stands own_same below =
          let binds : Named ℕ → Named ℕ = with_names (last.name ∷ []) (1 + n) in
          by_form n (outline_switch_open e d cases last c n is) stands (λ found.
          other_are e t c n (nodes_of c.inside one ++ (case_nodes c.inside have ++ nodes_of c.inside then)) _ (type_is at)
          (pair (outline d) (before (case_outlines cases (1 + n)) (where_bound binds (outline last.body))) c (1 + n) (variant_of row ∷ first) (bodies ++ (t ∷ inside))
          (nodes_of c.inside one) (case_nodes c.inside have ++ nodes_of c.inside then) (further at) (further found) (length_of one c (1 + n))
          (λ here found_here. nodes_are one c (1 + n) here found_here own_same (below_later n (1 + n) c.scope (omega arith) below))
          (λ m later here found_here.
          pair (case_outlines cases (1 + n)) (where_bound binds (outline last.body)) c m bodies (t ∷ inside) (case_nodes c.inside have) (nodes_of c.inside then) here found_here (case_lengths have (1 + n) c m)
          (λ there found_there. cases_are have (1 + n) c m later there found_there own_same (below_later n m c.scope (omega arith) below))
          (λ k even_later there found_there. nodes_are then (bound_context binds c) k there found_there own_same
          (below_names (last.name ∷ []) (1 + n) k c.scope (omega arith) (below_later n k c.scope (omega arith) below))))))
      nodes_are {e = e} {t = t} (for_list x d body a b first inside is one then) c n at stands own_same below =
          let binds : Named ℕ → Named ℕ = with_names (x ∷ []) (1 + n) in
          by_form n (outline_for_list e x d body c n is) stands (λ found.
          other_are e t c n (nodes_of c.inside one ++ nodes_of c.inside then) _ (type_is at)
          (pair (outline d) (where_bound binds (outline body)) c (1 + n) (known.List a ∷ first) (known.List b ∷ inside) (nodes_of c.inside one) (nodes_of c.inside then) (further at) (further found) (length_of one c (1 + n))
          (λ here found_here. nodes_are one c (1 + n) here found_here own_same (below_later n (1 + n) c.scope (omega arith) below))
          (λ m later here found_here. nodes_are then (bound_context binds c) m here found_here own_same (below_names (x ∷ []) (1 + n) m c.scope later (below_later n m c.scope (omega arith) below)))))
      nodes_are {e = e} {t = t} (for_table x rows body a b first inside is one then) c n at stands own_same below =
          let binds : Named ℕ → Named ℕ = with_names (x ∷ []) (1 + n) in
          by_form n (outline_for_table e x rows body c n is) stands (λ found.
          other_are e t c n (nodes_of c.inside one ++ nodes_of c.inside then) _ (type_is at)
          (pair (outline rows) (where_bound binds (outline body)) c (1 + n) (known.List a ∷ first) (known.List b ∷ inside) (nodes_of c.inside one) (nodes_of c.inside then) (further at) (further found) (length_of one c (1 + n))
          (λ here found_here. nodes_are one c (1 + n) here found_here own_same (below_later n (1 + n) c.scope (omega arith) below))
          (λ m later here found_here. nodes_are then (bound_context binds c) m here found_here own_same (below_names (x ∷ []) (1 + n) m c.scope later (below_later n m c.scope (omega arith) below)))))
      nodes_are {names = names} {e = e} {t = t} (query keys body a inside is one sorted scans own_effects) c n at stands own_same below =
          let round : Context = block_context Around.Query c in
          by_form n (outline_query e keys body c n is) stands (λ found.
          query_are e t c n (nodes_of true one) (outline body round (1 + n)) (known_in names (free body no_names)) (type_is at) found
          (nodes_are one round (1 + n) (further at) (further found) refl (below_later n (1 + n) c.scope (omega arith) below))
          (captures own types n names one round (1 + n) no_names (further at) (omega arith) (divides_first n names c.scope below)))
      nodes_are {names = names} {e = e} {t = t} (update change is changes writes) c n at stands own_same below =
          let round : Context = block_context Around.Change c in
          by_form n (outline_update e change c n is) stands (λ found.
          change_are e t c n (change_nodes changes) (outline_change change (1 + n) round (1 + n)) (known_in names (free_change change no_names)) (type_is at) found
          (changes_are changes (1 + n) c (1 + n) (omega arith) (further at) (further found) (below_later n (1 + n) c.scope (omega arith) below))
          (change_captures own types n names changes (1 + n) round (1 + n) no_names (further at) (omega arith) (omega arith) (divides_first n names c.scope below)))
      nodes_are {names = names} {e = e} {t = t} (delete change is changes writes) c n at stands own_same below =
          let round : Context = block_context Around.Change c in
          by_form n (outline_delete e change c n is) stands (λ found.
          change_are e t c n (change_nodes changes) (outline_change change (1 + n) round (1 + n)) (known_in names (free_change change no_names)) (type_is at) found
          (changes_are changes (1 + n) c (1 + n) (omega arith) (further at) (further found) (below_later n (1 + n) c.scope (omega arith) below))
          (change_captures own types n names changes (1 + n) round (1 + n) no_names (further at) (omega arith) (omega arith) (divides_first n names c.scope below)))

      each_are : {names : Named Ground} {effects : EffectSet} {es : List Expr} {ts inside : List Ground} (have : HaveTypes functions tables names effects es ts inside)
          (c : Context) (n : ℕ) → StandsAt types n inside → StandsAt sites n (outlines es c n) → effects_around own types c.around ≡ effects_of effects → AreBelow n c.scope
          → each_nodes c.inside have ≡ map node (outlines es c n)
      each_are none c n at stands own_same below = refl
      each_are (more {e} {es} {t} inside rest first others) c n at stands own_same below =
          pair (outline e) (outlines es) c n (t ∷ inside) rest (nodes_of c.inside first) (each_nodes c.inside others) at stands (length_of first c n)
          (λ here found. nodes_are first c n here found own_same below)
          (λ m later here found. each_are others c m here found own_same (below_later n m c.scope later below))

      cases_are : {names : Named Ground} {effects : EffectSet} {cases : List Case} {ts : List Ground} {tags : Named Ground} {inside : List Ground} (have : HaveCases functions tables names effects cases ts tags inside)
          (b : ℕ) (c : Context) (n : ℕ) → b ≤ n → StandsAt types n inside → StandsAt sites n (case_outlines cases b c n) → effects_around own types c.around ≡ effects_of effects → AreBelow n c.scope
          → case_nodes c.inside have ≡ map node (case_outlines cases b c n)
      cases_are no_cases b c n low at stands own_same below = refl
      cases_are (case_of {case} {cases} {t} a bound inside rest held body others) b c n low at stands own_same below =
          pair (outline_case case b) (case_outlines cases b) c n (t ∷ inside) rest (nodes_of c.inside body) (case_nodes c.inside others) at stands
          (length_of body (bound_context (with_some case.name b) c) n ∙ sym (ap (λ f. length (f c n)) (case_level case b)))
          (λ here found. by_form n (ap (λ f. f c n) (case_level case b)) found (λ found_body.
          nodes_are body (bound_context (with_some case.name b) c) n here found_body own_same (below_some case.name b n c.scope low below)))
          (λ m later here found. cases_are others b c m (le_trans low later) here found own_same (below_later n m c.scope later below))

      changes_are : {names : Named Ground} {change : ChangeExpr} {inside : List Ground} (changes : IsChange functions tables names change inside)
          (b : ℕ) (c : Context) (n : ℕ) → b ≤ n → StandsAt types n inside → StandsAt sites n (outline_change change b (block_context Around.Change c) n) → AreBelow n c.scope
          → change_nodes changes ≡ map node (outline_change change b (block_context Around.Change c) n)
      changes_are {change = change} (changed row sets ts cond rest has holds values named_same fields) b c n low at stands below =
          let binds : Named ℕ → Named ℕ = with_names ((out-ChangeExpr change).name ∷ []) b in
          let round : Context = bound_context binds (block_context Around.Change c) in
          let within : AreBelow n round.scope = below_names ((out-ChangeExpr change).name ∷ []) b n c.scope low below in
          by_form n (ap (λ f. f (block_context Around.Change c) n) (change_level change b)) stands (λ found.
          pair (outline (out-ChangeExpr change).cond) (outlines (exprs_of (out-ChangeExpr change).sets)) round n (known.Bool ∷ cond) rest (nodes_of true holds) (each_nodes true values) at found (length_of holds round n)
          (λ here found_here. nodes_are holds round n here found_here refl within)
          (λ m later here found_here. each_are values round m here found_here refl (below_later n m round.scope later within)))
