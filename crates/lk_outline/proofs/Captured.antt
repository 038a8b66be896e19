-- The names that a block captures, the free ones of what stands in it, are those in its outline whose binders stand before it.
use Rattle.std.proofs.Common.{◌≡◌, refl, sym, ap, ap₂, ◌∙◌, ℕ, ◌+◌, ◌≤◌, ◌<◌, Bool, true, false, cond, List, [], ◌∷◌, ◌++◌, length, append_assoc, Option, Some, None, nat_le, arith}
use Rattle.std.proofs.lemmas.Grind.{flat_map-append}
use Rattle.lk_ast.specs.Children.{exprs_of}
use Rattle.lk_ast.specs.Layers.{Layer, layer}
use Rattle.lk_ast.specs.declared.declaration.TableDecl.{TableDecl}
use Rattle.lk_ast.specs.declared.expression.Case.{Case}
use Rattle.lk_ast.specs.declared.expression.ChangeExpr.{ChangeExpr, out-ChangeExpr}
use Rattle.lk_ast.specs.declared.expression.Expr.{Expr}
use Rattle.lk_ast.specs.declared.expression.Node.TheOpen.{Node-F}
use Rattle.lk_ast.specs.declared.place.Word.{Word}
use Rattle.lk_index.specs.Free.{free, free_case, free_change}
use Rattle.lk_scope.specs.Names.{Names, is_local, bind, bind_all, bind_some}
use Rattle.lk_types.specs.Rows.{Label, EffectSet}
use Rattle.lk_types.specs.declared.ground.Ground.{Ground}
use Rattle.lk_types.specs.declared.ground.Ground.TheVariants as known
use Rattle.lk_types.specs.declared.ty.Effect.{Effect}
use Rattle.lk_typing.specs.Heads.{Head}
use Rattle.lk_typing.specs.Names.{Named, named, Entry}
use Rattle.lk_typing.specs.Rules.{Rule}
use Rattle.lk_typing.specs.Types.{record_of, variant_of}
use Rattle.lk_typing.specs.Typing.{HasType, HaveTypes, HaveCases, IsChange, plain, lambda, var, switch, switch_open, for_list, for_table, query, update, delete, none, more, no_cases, case_of, changed, parts_of}
use Rattle.lk_sound.specs.Nodes.{type_before, known_in}
use Rattle.lk_outline.specs.Outline.{Around, Context, In, Site, before, binder_of, with_names, with_some, where_bound, outline, outline_case, outline_change}
use Rattle.lk_outline.specs.Typed.{type_at, or_unit, captured_at, captured_in}
use Rattle.lk_outline.proofs.Binders.{Divides, divides_inside, name_at, names_at, held_at}
use Rattle.lk_sound.proofs.FreeLevels.{case_level as free_case_level, change_level as free_change_level, free_all, free_cases, own_uses, free_plain, free_lambda_form, free_var, free_switch, free_switch_open, free_for_list, free_for_table, free_query, free_update, free_delete}
use Rattle.lk_outline.proofs.Lengths.{length_of, case_lengths}
use Rattle.lk_outline.proofs.Forms.{outlines, case_outlines, case_level, change_level, operand_kind, kind_of, lambda_context, bound_context, block_context, outline_plain, outline_lambda_form, outline_var, outline_for_list, outline_for_table, outline_switch, outline_switch_open, outline_query, outline_update, outline_delete}
use Rattle.lk_sound.proofs.Standing.{binds_one, binds_held, binds_all}
use Rattle.lk_outline.proofs.Stretches.{StandsAt, front, back, further, element}

known_both : (outer : Named Ground) (xs ys : List Label) → known_in outer (xs ++ ys) ≡ known_in outer xs ++ known_in outer ys
known_both outer [] ys = refl
known_both outer (x ∷ xs) ys = ap (type_before (named x outer)) (known_both outer xs ys) ∙ before_both (named x outer) (known_in outer xs) (known_in outer ys)
  where
    before_both : (o : Option Ground) (ts us : List Ground) → type_before o (ts ++ us) ≡ type_before o ts ++ us
    before_both None ts us = refl
    before_both (Some t) ts us = refl

-- the type of a node
pub type_is : {types : List Ground} {n : ℕ} {t : Ground} {inside : List Ground} → StandsAt types n (t ∷ inside) → type_at types n ≡ t
type_is at = ap or_unit (element at)

module _ (own : List Effect) (types : List Ground) (q : ℕ) (outer : Named Ground) where
  -- what is captured in these nodes is what is known of these names
  abbrev AreCaptured : List Site → List Label → Type 0
  AreCaptured sites xs = captured_in own types q sites ≡ known_in outer xs

  -- two parts, one after the other, at the types of their nodes
  pair : (a b : In) (c : Context) (n : ℕ) (ts us : List Ground) (xs ys : List Label) → StandsAt types n (ts ++ us) → length ts ≡ length (a c n)
      → (StandsAt types n ts → AreCaptured (a c n) xs) → ((m : ℕ) → n ≤ m → StandsAt types m us → AreCaptured (b c m) ys) → AreCaptured (before a b c n) (xs ++ ys)
  pair a b c n ts us xs ys at long first rest =
      flat_map-append (λ (s : Site). captured_at own types q s s.kind) (a c n) (b c (n + length (a c n)))
      ∙ ap₂ (λ vs ws. vs ++ ws) (first (front ts us at)) (rest (n + length (a c n)) (omega arith) (back ts us (length (a c n)) long at))
      ∙ sym (known_both outer xs ys)

  by_forms : {sites found : List Site} {xs ys : List Label} → sites ≡ found → xs ≡ ys → AreCaptured found ys → AreCaptured sites xs
  by_forms same_sites same_names are = ap (captured_in own types q) same_sites ∙ are ∙ sym (ap (known_in outer) same_names)

  -- ---- what an operator itself captures

  operand_captures : (l : Layer) (n : ℕ) (s : Site) → captured_at own types q s (operand_kind l n) ≡ []
  operand_captures (Node-F.Eq a b) n s = refl
  operand_captures other n s = refl

  module _ {functions : Named (Entry Ground)} {tables : List TableDecl} where
    own_captures : {names : Named Ground} {effects : EffectSet} {h : Head} {ts : List Ground} {t : Ground} (bound : Names) (c : Context) (n : ℕ) (l : Layer) (s : Site)
        → Rule functions tables names effects h ts t → type_at types s.number ≡ t → Divides q outer names bound c.scope
        → captured_at own types q s (kind_of (Some h) l c n) ≡ known_in outer (own_uses (Some h) bound)
    own_captures {names} bound c n l s (Rule.local {x} {t} is) typed divides = by_test (is_local bound x) refl
      where
        by_test : (b : Bool) → is_local bound x ≡ b → cond (nat_le (binder_of (named x c.scope)) q) (type_at types s.number ∷ []) [] ≡ known_in outer (cond b [] (x ∷ []))
        by_test true is_bound = ap (λ b. cond b (type_at types s.number ∷ []) []) (divides.bound_inside x is_bound)
        by_test false is_bound =
            let outside : (nat_le (binder_of (named x c.scope)) q ≡ true) × (named x outer ≡ named x names) = divides.bound_outside x is_bound in
            ap (λ b. cond b (type_at types s.number ∷ []) []) outside.0 ∙ ap (λ u. u ∷ []) typed ∙ sym (ap (λ o. type_before o []) (outside.1 ∙ is))
    own_captures bound c n l s Rule.comparison typed divides = operand_captures l (1 + n) s
    own_captures bound c n l s other typed divides = refl

    -- ---- expressions

    mutual
      pub captures : {names : Named Ground} {effects : EffectSet} {e : Expr} {t : Ground} {inside : List Ground} → HasType functions tables names effects e t inside
          → (c : Context) (n : ℕ) (bound : Names) → StandsAt types n (t ∷ inside) → q ≤ n → Divides q outer names bound c.scope → AreCaptured (outline e c n) (free e bound)
      captures {e = e} {t = t} (plain h ts is have by) c n bound at low divides =
          let s : Site = record { number = n; span = e.span; kind = kind_of (Some h) (layer e) c n; around = c.around; inside = c.inside } in
          by_forms (outline_plain e h c n is) (free_plain e h bound is)
          (ap₂ (λ vs ws. vs ++ ws) (own_captures bound c n (layer e) s by (type_is at) divides) (all_capture have c (1 + n) bound (further at) (omega arith) divides)
          ∙ sym (known_both outer (own_uses (Some h) bound) (free_all (parts_of e) bound)))
      captures {e = e} (lambda l params own_effects b is named_same moves body local) c n bound at low divides =
          by_forms (outline_lambda_form e l c n is) (free_lambda_form e l bound is)
          (captures body (lambda_context (with_names l.params (1 + n)) n c) (1 + n) (bind_all l.params bound) (further at) (omega arith)
          (divides_inside params (binds_all l.params params bound named_same) (names_at l.params params (1 + n) c.scope named_same) (omega arith) divides))
      captures {e = e} {t = t} (var x d rest a first last is one then) c n bound at low divides =
          let binds : Named ℕ → Named ℕ = with_names (x ∷ []) (1 + n) in
          by_forms (outline_var e x d rest c n is) (free_var e x d rest bound is)
          (pair (outline d) (where_bound binds (outline rest)) c (1 + n) (a ∷ first) (t ∷ last) (free d bound) (free rest (bind x bound)) (further at) (length_of one c (1 + n))
          (λ here. captures one c (1 + n) bound here (omega arith) divides)
          (λ m later here. captures then (bound_context binds c) m (bind x bound) here (omega arith)
          (divides_inside ((x.text, a) ∷ []) (binds_one x a bound) (name_at x a (1 + n) c.scope) (omega arith) divides)))
      captures {e = e} (switch d cases row tags ts first bodies is one have same made local) c n bound at low divides =
          by_forms (outline_switch e d cases c n is) (free_switch e d cases bound is)
          (pair (outline d) (case_outlines cases (1 + n)) c (1 + n) (variant_of row ∷ first) bodies (free d bound) (free_cases cases bound) (further at) (length_of one c (1 + n))
          (λ here. captures one c (1 + n) bound here (omega arith) divides)
          (λ m later here. cases_capture have (1 + n) c m bound here (omega arith) (omega arith) divides))
      captures {e = e} {t = t} (switch_open d cases last rest row tags ts first bodies inside is one have same then made local) c n bound at low divides =
          let binds : Named ℕ → Named ℕ = with_names (last.name ∷ []) (1 + n) in
          let in_last : List Label = free last.body (bind last.name bound) in
          by_forms (outline_switch_open e d cases last c n is) (free_switch_open e d cases last bound is ∙ append_assoc (free d bound) (free_cases cases bound) in_last)
          (pair (outline d) (before (case_outlines cases (1 + n)) (where_bound binds (outline last.body))) c (1 + n) (variant_of row ∷ first) (bodies ++ (t ∷ inside))
          (free d bound) (free_cases cases bound ++ in_last) (further at) (length_of one c (1 + n))
          (λ here. captures one c (1 + n) bound here (omega arith) divides)
          (λ m later here. pair (case_outlines cases (1 + n)) (where_bound binds (outline last.body)) c m bodies (t ∷ inside) (free_cases cases bound) in_last here (case_lengths have (1 + n) c m)
          (λ there. cases_capture have (1 + n) c m bound there (omega arith) (omega arith) divides)
          (λ k even_later there. captures then (bound_context binds c) k (bind last.name bound) there (omega arith)
          (divides_inside ((last.name.text, variant_of rest) ∷ []) (binds_one last.name (variant_of rest) bound) (name_at last.name (variant_of rest) (1 + n) c.scope) (omega arith) divides))))
      captures {e = e} (for_list x d body a b first inside is one then) c n bound at low divides =
          let binds : Named ℕ → Named ℕ = with_names (x ∷ []) (1 + n) in
          by_forms (outline_for_list e x d body c n is) (free_for_list e x d body bound is)
          (pair (outline d) (where_bound binds (outline body)) c (1 + n) (known.List a ∷ first) (known.List b ∷ inside) (free d bound) (free body (bind x bound)) (further at) (length_of one c (1 + n))
          (λ here. captures one c (1 + n) bound here (omega arith) divides)
          (λ m later here. captures then (bound_context binds c) m (bind x bound) here (omega arith)
          (divides_inside ((x.text, a) ∷ []) (binds_one x a bound) (name_at x a (1 + n) c.scope) (omega arith) divides)))
      captures {e = e} (for_table x rows body a b first inside is one then) c n bound at low divides =
          let binds : Named ℕ → Named ℕ = with_names (x ∷ []) (1 + n) in
          by_forms (outline_for_table e x rows body c n is) (free_for_table e x rows body bound is)
          (pair (outline rows) (where_bound binds (outline body)) c (1 + n) (known.List a ∷ first) (known.List b ∷ inside) (free rows bound) (free body (bind x bound)) (further at) (length_of one c (1 + n))
          (λ here. captures one c (1 + n) bound here (omega arith) divides)
          (λ m later here. captures then (bound_context binds c) m (bind x bound) here (omega arith)
          (divides_inside ((x.text, a) ∷ []) (binds_one x a bound) (name_at x a (1 + n) c.scope) (omega arith) divides)))
      captures {e = e} (query keys body a inside is one sorted scans own_effects) c n bound at low divides =
          by_forms (outline_query e keys body c n is) (free_query e keys body bound is) (captures one (block_context Around.Query c) (1 + n) bound (further at) (omega arith) divides)
      captures {e = e} (update change is changes writes) c n bound at low divides =
          by_forms (outline_update e change c n is) (free_update e change bound is) (change_captures changes (1 + n) (block_context Around.Change c) (1 + n) bound (further at) (omega arith) (omega arith) divides)
      captures {e = e} (delete change is changes writes) c n bound at low divides =
          by_forms (outline_delete e change c n is) (free_delete e change bound is) (change_captures changes (1 + n) (block_context Around.Change c) (1 + n) bound (further at) (omega arith) (omega arith) divides)

      all_capture : {names : Named Ground} {effects : EffectSet} {es : List Expr} {ts inside : List Ground} → HaveTypes functions tables names effects es ts inside
          → (c : Context) (n : ℕ) (bound : Names) → StandsAt types n inside → q ≤ n → Divides q outer names bound c.scope → AreCaptured (outlines es c n) (free_all es bound)
      all_capture none c n bound at low divides = refl
      all_capture (more {e} {es} {t} inside rest first others) c n bound at low divides =
          pair (outline e) (outlines es) c n (t ∷ inside) rest (free e bound) (free_all es bound) at (length_of first c n)
          (λ here. captures first c n bound here low divides)
          (λ m later here. all_capture others c m bound here (omega arith) divides)

      cases_capture : {names : Named Ground} {effects : EffectSet} {cases : List Case} {ts : List Ground} {tags : Named Ground} {inside : List Ground} → HaveCases functions tables names effects cases ts tags inside
          → (b : ℕ) (c : Context) (n : ℕ) (bound : Names) → StandsAt types n inside → q ≤ n → q < b → Divides q outer names bound c.scope → AreCaptured (case_outlines cases b c n) (free_cases cases bound)
      cases_capture no_cases b c n bound at low behind divides = refl
      cases_capture (case_of {case} {cases} {t} a held inside rest is_held body others) b c n bound at low behind divides =
          pair (outline_case case b) (case_outlines cases b) c n (t ∷ inside) rest (free_case case bound) (free_cases cases bound) at
          (length_of body (bound_context (with_some case.name b) c) n ∙ sym (ap (λ f. length (f c n)) (case_level case b)))
          (λ here. by_forms (ap (λ f. f c n) (case_level case b)) (free_case_level case bound)
          (captures body (bound_context (with_some case.name b) c) n (bind_some case.name bound) here low
          (divides_inside held (binds_held case.name a held bound is_held) (held_at case.name a held b c.scope is_held) behind divides)))
          (λ m later here. cases_capture others b c m bound here (omega arith) behind divides)

      pub change_captures : {names : Named Ground} {change : ChangeExpr} {inside : List Ground} → IsChange functions tables names change inside
          → (b : ℕ) (c : Context) (n : ℕ) (bound : Names) → StandsAt types n inside → q ≤ n → q < b → Divides q outer names bound c.scope → AreCaptured (outline_change change b c n) (free_change change bound)
      change_captures {change = change} (changed row sets ts cond rest has holds values named_same fields) b c n bound at low behind divides =
          let x : Word = (out-ChangeExpr change).name in
          let binds : Named ℕ → Named ℕ = with_names (x ∷ []) b in
          let condition : Expr = (out-ChangeExpr change).cond in
          let es : List Expr = exprs_of (out-ChangeExpr change).sets in
          let within = divides_inside ((x.text, record_of row) ∷ []) (binds_one x (record_of row) bound) (name_at x (record_of row) b c.scope) behind divides in
          by_forms (ap (λ f. f c n) (change_level change b)) (free_change_level change bound)
          (pair (where_bound binds (outline condition)) (where_bound binds (outlines es)) c n (known.Bool ∷ cond) rest (free condition (bind x bound)) (free_all es (bind x bound)) at (length_of holds (bound_context binds c) n)
          (λ here. captures holds (bound_context binds c) n (bind x bound) here low within)
          (λ m later here. all_capture values (bound_context binds c) m (bind x bound) here (omega arith) within))
