-- Forms on values that stand for others: an instance goes on as its program does.
use Rattle.std.proofs.Common.{◌≡◌, refl, sym, ap, subst, ℕ, Bool, true, false, List, [], ◌∷◌, map, bytes_eq, inl, inr, Option, Some, None}
use Rattle.lk_ast.specs.Layers.{Layer, layer}
use Rattle.lk_ast.specs.declared.expression.Case.{Case}
use Rattle.lk_ast.specs.declared.expression.Expr.{Expr}
use Rattle.lk_ast.specs.declared.expression.LastCase.{LastCase}
use Rattle.lk_ast.specs.declared.expression.Node.TheOpen.{Node-F}
use Rattle.lk_ast.specs.declared.place.Word.{Word}
use Rattle.lk_ast.specs.declared.value.Value.{Value}
use Rattle.lk_evaluation.specs.Evaluation.{Act, Tail}
use Rattle.lk_evaluation.specs.Laws.{Both, Maybe, MatchingActs}
use Rattle.lk_evaluation.specs.Source as source
use Rattle.lk_evaluation.specs.Source.{under, done, choose, after_unit, print, over, case_of, in_case, in_last, in_cases, switch, choice, form}
use Rattle.lk_locals.specs.Names.{Names, bind}
use Rattle.lk_operators.specs.Operators.{operated}
use Rattle.lk_operators.specs.Values.{bool_in, text_in, list_in, tag_in, is_unit}
use Rattle.lk_operators.specs.declared.outcome.Outcome.{Outcome}
use Rattle.lk_sound.proofs.Inside.{bodies_of, last_body}
use Rattle.lk_types.proofs.Members.{one_in_front, one_in_back, found_in}
use Rattle.lk_types.specs.Each.{OneOf}
use Rattle.lk_ground.specs.Alike.{Alike, AllAlike, none, more}
use Rattle.lk_ground.specs.Language.{Point, within, act_within}
use Rattle.lk_ground.specs.Law.{NamesAlike, IsPointOf}
use Rattle.lk_ground.specs.declared.program.GroundProgram.{GroundProgram}
use Rattle.lk_ground.proofs.AlikeNames.{bound_alike}
use Rattle.lk_ground.proofs.AlikeOperated.{operated_alike}
use Rattle.lk_ground.proofs.AlikeOperations.{OutcomesAlike, values, trap, no_rule, truth_itself, text_itself, lists_made}
use Rattle.lk_ground.proofs.AlikeShapes.{same_bool, same_text, same_unit, lists_alike, TagsAlike, tags_alike}
use Rattle.lk_ground.proofs.Levels.{outer}
use Rattle.lk_ground.proofs.Points.{inside}

module _ (p : GroundProgram) (at : Point) (point : source.Point) (is : IsPointOf p at point) where
  abbrev Acts : Act Point → Act source.Point → Type 0
  Acts a b = MatchingActs (IsPointOf p) (Alike p) a b

  -- a part that is evaluated in the stead of the node
  tail : (d : Expr) (names others : Names) → OneOf (λ other. other ≡ d) (outer (layer point.expr)) → NamesAlike p names others → Acts (act_within at.owner (Tail (under names d))) (Tail (under others d))
  tail d names others one are = inside p at point is d names others one are

  member : (l : Layer) → layer point.expr ≡ l → (d : Expr) → OneOf (λ other. other ≡ d) (outer l) → OneOf (λ other. other ≡ d) (outer (layer point.expr))
  member l here d one = subst (λ x. OneOf (λ other. other ≡ d) (outer x)) (sym here) one

  -- ---- operations

  done_alike : (o q : Outcome) → OutcomesAlike p o q → Acts (act_within at.owner (done point.expr.span o)) (done point.expr.span q)
  done_alike _ _ (values alike) = alike
  done_alike _ _ (trap t) = refl
  done_alike _ _ no_rule = refl

  operation : (l : Layer) (vs ws : List Value) → AllAlike p vs ws → Acts (act_within at.owner (done point.expr.span (operated l vs))) (done point.expr.span (operated l ws))
  operation l vs ws all = done_alike (operated l vs) (operated l ws) (operated_alike p l vs ws all)

  -- ---- choices

  chosen : (o q : Option Bool) → o ≡ q → (a b : Act source.Point) (c d : Act source.Point) → Acts (act_within at.owner a) c → Acts (act_within at.owner b) d → Acts (act_within at.owner (choose point.expr.span o a b)) (choose point.expr.span q c d)
  chosen o q same a b c d one two = subst (λ z. Acts (act_within at.owner (choose point.expr.span o a b)) (choose point.expr.span z c d)) same (by_truth o)
    where
      by_truth : (o : Option Bool) → Acts (act_within at.owner (choose point.expr.span o a b)) (choose point.expr.span o c d)
      by_truth None = refl
      by_truth (Some true) = one
      by_truth (Some false) = two

  unit_behind : (a b : Bool) → a ≡ b → (e f : Act source.Point) → Acts (act_within at.owner e) f → Acts (act_within at.owner (after_unit point.expr.span a e)) (after_unit point.expr.span b f)
  unit_behind a b same e f one = subst (λ z. Acts (act_within at.owner (after_unit point.expr.span a e)) (after_unit point.expr.span z f)) same (by_test a)
    where
      by_test : (a : Bool) → Acts (act_within at.owner (after_unit point.expr.span a e)) (after_unit point.expr.span a f)
      by_test true = one
      by_test false = refl

  choices : (l : Layer) → layer point.expr ≡ l → (vs ws : List Value) → AllAlike p vs ws → Acts (act_within at.owner (choice point.expr.span l at.point.names vs)) (choice point.expr.span l point.names ws)
  choices (Node-F.If c d e) here _ _ (more {v} {w} one none) = chosen (bool_in v) (bool_in w) (same_bool p v w one) _ _ _ _ (tail d _ _ (member _ here d (inr (inl refl))) is.names) (tail e _ _ (member _ here e (inr (inr (inl refl)))) is.names)
  choices (Node-F.And a b) here _ _ (more {v} {w} one none) = chosen (bool_in v) (bool_in w) (same_bool p v w one) _ _ _ _ (tail b _ _ (member _ here b (inr (inl refl))) is.names) (truth_itself p false)
  choices (Node-F.Or a b) here _ _ (more {v} {w} one none) = chosen (bool_in v) (bool_in w) (same_bool p v w one) _ _ _ _ (truth_itself p true) (tail b _ _ (member _ here b (inr (inl refl))) is.names)
  choices (Node-F.Where c e) here _ _ (more {v} {w} one none) = chosen (bool_in v) (bool_in w) (same_bool p v w one) _ _ _ _ (tail e _ _ (member _ here e (inr (inl refl))) is.names) (lists_made p [] [] none)
  choices (Node-F.If c d e) here _ _ none = refl
  choices (Node-F.And a b) here _ _ none = refl
  choices (Node-F.Or a b) here _ _ none = refl
  choices (Node-F.Where c e) here _ _ none = refl
  choices (Node-F.If c d e) here _ _ (more one (more two rest)) = refl
  choices (Node-F.And a b) here _ _ (more one (more two rest)) = refl
  choices (Node-F.Or a b) here _ _ (more one (more two rest)) = refl
  choices (Node-F.Where c e) here _ _ (more one (more two rest)) = refl
  choices other here vs ws all = operation other vs ws all

  -- ---- loops

  bodies : (x : Word) (body : Expr) → OneOf (λ other. other ≡ body) (outer (layer point.expr)) → (vs ws : List Value) → AllAlike p vs ws
      → Both (IsPointOf p) (map (within at.owner) (map (λ v. under (bind x.text v at.point.names) body) vs)) (map (λ w. under (bind x.text w point.names) body) ws)
  bodies x body one _ _ none = tt
  bodies x body one _ _ (more {v} {w} alike all) = (inside p at point is body _ _ one (bound_alike p x.text v w at.point.names point.names alike is.names), bodies x body one _ _ all)

  loop : (x : Word) (body : Expr) → OneOf (λ other. other ≡ body) (outer (layer point.expr)) → (o q : Option (List Value)) → Maybe (AllAlike p) o q
      → Acts (act_within at.owner (over point.expr.span x.text o body at.point.names)) (over point.expr.span x.text q body point.names)
  loop x body one None None all = refl
  loop x body one None (Some ws) all = absurd all
  loop x body one (Some vs) None all = absurd all
  loop x body one (Some vs) (Some ws) all = (refl, bodies x body one vs ws all)

  -- ---- `switch`

  among_bodies : (cases : List Case) (case : Case) → OneOf (λ c. c ≡ case) cases → OneOf (λ other. other ≡ case.body) (bodies_of cases)
  among_bodies [] case one = absurd one
  among_bodies (c ∷ cases) case (inl same) = inl (ap (λ (c : Case). c.body) same)
  among_bodies (c ∷ cases) case (inr later) = inr (among_bodies cases case later)

  case_taken : (name : Option Word) (body : Expr) (held other : Value) → OneOf (λ d. d ≡ body) (outer (layer point.expr)) → Alike p held other
      → Acts (act_within at.owner (in_case point.expr.span name body held at.point.names)) (in_case point.expr.span name body other point.names)
  case_taken None body held other one alike = unit_behind (is_unit held) (is_unit other) (same_unit p held other alike) _ _ (tail body _ _ one is.names)
  case_taken (Some x) body held other one alike = tail body _ _ one (bound_alike p x.text held other at.point.names point.names alike is.names)

  last_taken : (last : Option LastCase) (v w : Value) → ((final : LastCase) → last ≡ Some final → OneOf (λ d. d ≡ final.body) (outer (layer point.expr))) → Alike p v w
      → Acts (act_within at.owner (in_last point.expr.span last v at.point.names)) (in_last point.expr.span last w point.names)
  last_taken None v w one alike = refl
  last_taken (Some final) v w one alike = tail final.body _ _ (one final refl) (bound_alike p final.name.text v w at.point.names point.names alike is.names)

  cases_taken : (found : Option Case) (last : Option LastCase) (v w held other : Value) → ((case : Case) → found ≡ Some case → OneOf (λ d. d ≡ case.body) (outer (layer point.expr)))
      → ((final : LastCase) → last ≡ Some final → OneOf (λ d. d ≡ final.body) (outer (layer point.expr))) → Alike p v w → Alike p held other
      → Acts (act_within at.owner (in_cases point.expr.span found last v held at.point.names)) (in_cases point.expr.span found last w other point.names)
  cases_taken None last v w held other one final alike inner = last_taken last v w final alike
  cases_taken (Some case) last v w held other one final alike inner = case_taken case.name case.body held other (one case refl) inner

  switched : (d : Expr) (cases : List Case) (last : Option LastCase) → layer point.expr ≡ Node-F.Switch d cases last → (v w : Value) → Alike p v w → (o q : Option (List ℕ × Value)) → Maybe (TagsAlike p) o q
      → Acts (act_within at.owner (switch point.expr.span v o cases last at.point.names)) (switch point.expr.span w q cases last point.names)
  switched d cases last here v w alike None None tags = refl
  switched d cases last here v w alike None (Some b) tags = absurd tags
  switched d cases last here v w alike (Some a) None tags = absurd tags
  switched d cases last here v w alike (Some a) (Some b) (same, inner) =
      subst (λ t. Acts (act_within at.owner (switch point.expr.span v (Some a) cases last at.point.names)) (in_cases point.expr.span (case_of t cases) last w b.1 point.names)) same
      (cases_taken (case_of a.0 cases) last v w a.1 b.1
      (λ case found. member _ here case.body (inr (one_in_front (λ o. o ≡ case.body) (bodies_of cases) (last_body last) (among_bodies cases case (found_in (λ c. bytes_eq c.tag.text a.0) cases case found).0))))
      (λ final found. member _ here final.body (inr (one_in_back (λ o. o ≡ final.body) (bodies_of cases) (last_body last) (subst (λ o. OneOf (λ d. d ≡ final.body) (last_body o)) (sym found) (inl refl)))))
      alike inner)

  -- ---- forms

  printed : (o q : Option (List ℕ)) → o ≡ q → Acts (act_within at.owner (print point.expr.span o)) (print point.expr.span q)
  printed o q same = subst (λ z. Acts (act_within at.owner (print point.expr.span o)) (print point.expr.span z)) same (by_text o)
    where
      by_text : (o : Option (List ℕ)) → Acts (act_within at.owner (print point.expr.span o)) (print point.expr.span o)
      by_text None = refl
      by_text (Some bytes) = (refl, (refl, text_itself p bytes))

  pub forms : (l : Layer) → layer point.expr ≡ l → (vs ws : List Value) → AllAlike p vs ws → Acts (act_within at.owner (form point.expr.span l at.point.names vs)) (form point.expr.span l point.names ws)
  forms (Node-F.Var x d rest) here _ _ (more {v} {w} one none) = tail rest _ _ (member _ here rest (inr (inl refl))) (bound_alike p x.text v w at.point.names point.names one is.names)
  forms (Node-F.Seq d rest) here _ _ (more {v} {w} one none) = unit_behind (is_unit v) (is_unit w) (same_unit p v w one) _ _ (tail rest _ _ (member _ here rest (inr (inl refl))) is.names)
  forms (Node-F.Print e) here _ _ (more {v} {w} one none) = printed (text_in v) (text_in w) (same_text p v w one)
  forms (Node-F.Switch d cases last) here _ _ (more {v} {w} one none) = switched d cases last here v w one (tag_in v) (tag_in w) (tags_alike p v w one)
  forms (Node-F.ForList x d body) here _ _ (more {v} {w} one none) = loop x body (member _ here body (inr (inl refl))) (list_in v) (list_in w) (lists_alike p v w one)
  forms (Node-F.ForTable x d body) here _ _ (more {v} {w} one none) = loop x body (member _ here body (inr (inl refl))) (list_in v) (list_in w) (lists_alike p v w one)
  forms (Node-F.Var x d rest) here _ _ none = refl
  forms (Node-F.Seq d rest) here _ _ none = refl
  forms (Node-F.Print e) here _ _ none = refl
  forms (Node-F.Switch d cases last) here _ _ none = refl
  forms (Node-F.ForList x d body) here _ _ none = refl
  forms (Node-F.ForTable x d body) here _ _ none = refl
  forms (Node-F.Var x d rest) here _ _ (more one (more two all)) = refl
  forms (Node-F.Seq d rest) here _ _ (more one (more two all)) = refl
  forms (Node-F.Print e) here _ _ (more one (more two all)) = refl
  forms (Node-F.Switch d cases last) here _ _ (more one (more two all)) = refl
  forms (Node-F.ForList x d body) here _ _ (more one (more two all)) = refl
  forms (Node-F.ForTable x d body) here _ _ (more one (more two all)) = refl
  forms other here vs ws all = choices other here vs ws all
