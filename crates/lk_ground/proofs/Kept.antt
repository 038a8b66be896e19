-- A ground program keeps the evaluation of its program: the two languages match.
use Rattle.std.proofs.Common.{◌≡◌, refl, sym, ap, subst, ◌∙◌, List, [], ◌∷◌, ◌++◌, map, flat_map, inl, inr, Option, Some, None}
use Rattle.lk_ast.specs.Layers.{Layer, layer}
use Rattle.lk_ast.specs.Rows.{row_value}
use Rattle.lk_ast.specs.declared.expression.Expr.{Expr}
use Rattle.lk_ast.specs.declared.expression.Node.TheOpen.{Node-F}
use Rattle.lk_ast.specs.declared.place.Loc.TheVariants.{Client}
use Rattle.lk_ast.specs.declared.table.Cell.{Cell}
use Rattle.lk_ast.specs.declared.table.Row.{Row}
use Rattle.lk_ast.specs.declared.value.Value.{Value}
use Rattle.lk_ast.specs.declared.value.Value.TheVariants as value
use Rattle.lk_evaluation.proofs.Same.{same}
use Rattle.lk_evaluation.specs.Evaluation.{Act}
use Rattle.lk_evaluation.specs.Laws.{Both, Maybe, MatchingActs, Match}
use Rattle.lk_evaluation.specs.Run.{start}
use Rattle.lk_evaluation.specs.Source as source
use Rattle.lk_evaluation.specs.Source.{under}
use Rattle.lk_evaluation.specs.Syntax.{parts_of, is_plain}
use Rattle.lk_index.specs.Places.{ArePlaced}
use Rattle.lk_locals.specs.Names.{no_names, lookup}
use Rattle.lk_operators.specs.Values.{text, list_in}
use Rattle.lk_sound.proofs.Found.{lambda_found}
use Rattle.lk_sound.proofs.Within.{function_within, lambda_inside}
use Rattle.lk_types.specs.Each.{Each, OneOf}
use Rattle.lk_ground.specs.Alike.{Alike, AllAlike, base, list, fields, none, more, FieldsAlike, no_field, field}
use Rattle.lk_ground.specs.Language.{Point, within, act_within, function_of, act, ground}
use Rattle.lk_ground.specs.Law.{AreInstances, IsPointOf, InstancesLaw}
use Rattle.lk_ground.specs.Sites.{outer_uses, labelled_in}
use Rattle.lk_ground.specs.Standing.{IsCalled}
use Rattle.lk_ground.specs.declared.program.GroundProgram.{GroundProgram}
use Rattle.lk_ground.proofs.AlikeCalls.{function_acts, call_acts, closure_acts, apply_acts}
use Rattle.lk_ground.proofs.AlikeForms.{forms}
use Rattle.lk_ground.proofs.AlikeNames.{all_of_both, both_of_all, all_looked_up, each_alike, no_names_alike}
use Rattle.lk_ground.proofs.AlikeOperations.{lists_made, text_itself}
use Rattle.lk_ground.proofs.AlikeShapes.{lists_alike}
use Rattle.lk_ground.proofs.Levels.{outer, own_use, own_label, uses_level, labelled_level}
use Rattle.lk_ground.proofs.Points.{stands_inside, insides_match}
use Rattle.lk_index.specs.Free.{captured, captured_change, captured_query}

-- ---- parts

among_front : (front es : List Expr) → Each (λ e. OneOf (λ other. other ≡ e) (front ++ es)) es
among_front front [] = tt
among_front front (e ∷ es) = (here front, subst (λ xs. Each (λ d. OneOf (λ other. other ≡ d) xs) es) (append_one front) (among_front (front ++ e ∷ []) es))
  where
    here : (front : List Expr) → OneOf (λ other. other ≡ e) (front ++ e ∷ es)
    here [] = inl refl
    here (d ∷ front) = inr (here front)

    append_one : (front : List Expr) → (front ++ e ∷ []) ++ es ≡ front ++ e ∷ es
    append_one [] = refl
    append_one (d ∷ front) = ap (λ rest. d ∷ rest) (append_one front)

each_among : (es : List Expr) → Each (λ e. OneOf (λ other. other ≡ e) es) es
each_among es = among_front [] es

-- the parts that are evaluated first stand right inside
parts_outer : (l : Layer) → Each (λ e. OneOf (λ other. other ≡ e) (outer l)) (parts_of l)
parts_outer (Node-F.Call g args) = each_among args
parts_outer (Node-F.Apply f args) = each_among (f ∷ args)
parts_outer (Node-F.Record parts) = each_among (parts_of (Node-F.Record parts))
parts_outer (Node-F.Extend parts e) = each_among (parts_of (Node-F.Extend parts e))
parts_outer (Node-F.List es) = each_among es
parts_outer (Node-F.Concat a b) = (inl refl, (inr (inl refl), tt))
parts_outer (Node-F.Append a b) = (inl refl, (inr (inl refl), tt))
parts_outer (Node-F.Cons a b) = (inl refl, (inr (inl refl), tt))
parts_outer (Node-F.Add a b) = (inl refl, (inr (inl refl), tt))
parts_outer (Node-F.Sub a b) = (inl refl, (inr (inl refl), tt))
parts_outer (Node-F.Mul a b) = (inl refl, (inr (inl refl), tt))
parts_outer (Node-F.Div a b) = (inl refl, (inr (inl refl), tt))
parts_outer (Node-F.Mod a b) = (inl refl, (inr (inl refl), tt))
parts_outer (Node-F.Eq a b) = (inl refl, (inr (inl refl), tt))
parts_outer (Node-F.Ne a b) = (inl refl, (inr (inl refl), tt))
parts_outer (Node-F.Lt a b) = (inl refl, (inr (inl refl), tt))
parts_outer (Node-F.Le a b) = (inl refl, (inr (inl refl), tt))
parts_outer (Node-F.Gt a b) = (inl refl, (inr (inl refl), tt))
parts_outer (Node-F.Ge a b) = (inl refl, (inr (inl refl), tt))
parts_outer (Node-F.Int n) = tt
parts_outer (Node-F.Text bytes) = tt
parts_outer (Node-F.Bool b) = tt
parts_outer (Node-F.Name x) = tt
parts_outer (Node-F.Function g) = tt
parts_outer (Node-F.Lambda l) = tt
parts_outer (Node-F.Table t) = tt
parts_outer (Node-F.Query keys e) = tt
parts_outer (Node-F.Update change) = tt
parts_outer (Node-F.Delete change) = tt
parts_outer other = (inl refl, tt)

module _ (p : GroundProgram) (placed : ArePlaced p.program.now) (are : AreInstances p) where
  -- ---- acts

  abbrev Acts : Act Point → Act source.Point → Type 0
  Acts a b = MatchingActs (IsPointOf p) (Alike p) a b

  module _ (at : Point) (point : source.Point) (is : IsPointOf p at point) where
    looked_up : (o q : Option Value) → Maybe (Alike p) o q → Acts (act_within at.owner (source.given point.expr.span o)) (source.given point.expr.span q)
    looked_up None None alike = refl
    looked_up None (Some w) alike = absurd alike
    looked_up (Some v) None alike = absurd alike
    looked_up (Some v) (Some w) alike = alike

    read : (o q : Option (List Value)) → Maybe (AllAlike p) o q → Acts (act_within at.owner (source.reads point.expr.span o)) (source.reads point.expr.span q)
    read None None all = refl
    read None (Some ws) all = absurd all
    read (Some vs) None all = absurd all
    read (Some vs) (Some ws) all = (refl, (refl, both_of_all p vs ws all))

    written : (o q : Option (List Value)) → Maybe (AllAlike p) o q → Acts (act_within at.owner (source.writes point.expr.span o)) (source.writes point.expr.span q)
    written None None all = refl
    written None (Some ws) all = absurd all
    written (Some vs) None all = absurd all
    written (Some vs) (Some ws) all = (refl, (refl, both_of_all p vs ws all))

    acts_at : (l : Layer) → layer point.expr ≡ l → (vs ws : List Value) → AllAlike p vs ws → Acts (act p at.owner point.expr.span l at.point.names vs) (source.act p.program.now point.expr.span l point.names ws)
    acts_at (Node-F.Name x) here vs ws all = looked_up (lookup at.point.names x) (lookup point.names x) (is.names x)
    acts_at (Node-F.Function g) here vs ws all = function_acts p placed are at.owner is.owner is.is point.expr.span g (subst (Each (IsCalled p is.owner)) (uses_level point.expr ∙ ap (λ l. own_use l point.expr.span.start ++ flat_map outer_uses (outer l)) here) is.stands.calls).0
    acts_at (Node-F.Call g args) here vs ws all = call_acts p placed are at.owner is.owner is.is point.expr.span g.text (subst (Each (IsCalled p is.owner)) (uses_level point.expr ∙ ap (λ l. own_use l point.expr.span.start ++ flat_map outer_uses (outer l)) here) is.stands.calls).0 vs ws all
    acts_at (Node-F.Lambda lambda) here vs ws all =
        closure_acts p placed are at.owner is.owner is.is point.expr.span lambda
        (subst (Each (λ site. OneOf (λ other. other ≡ site) (labelled_in (function_of is.owner).body))) (labelled_level point.expr ∙ ap (λ l. own_label l point.expr.span.start ++ flat_map labelled_in (outer l)) here) is.stands.labels).0
        (stands_inside p at point is lambda.body (subst (λ l. OneOf (λ other. other ≡ lambda.body) (outer l)) (sym here) (inl refl)))
        (lambda_found p.program.now (record { site = point.expr.span.start; lambda = lambda }) placed (lambda_inside p.program.now point.expr here is.within).0)
        _ _ (all_looked_up p (captured lambda) at.point.names point.names is.names)
    acts_at (Node-F.Apply f args) here _ _ none = refl
    acts_at (Node-F.Apply f args) here _ _ (more {v} {w} {values = vs} {others = ws} one all) = apply_acts p placed are point.expr.span v w vs ws one all
    acts_at (Node-F.Table t) here vs ws all = (refl, (refl, tt))
    acts_at (Node-F.Query keys e) here vs ws all = read _ _ (all_looked_up p (captured_query e) at.point.names point.names is.names)
    acts_at (Node-F.Insert t e) here vs ws all = (refl, (refl, both_of_all p vs ws all))
    acts_at (Node-F.Update change) here vs ws all = written _ _ (all_looked_up p (captured_change change) at.point.names point.names is.names)
    acts_at (Node-F.Delete change) here vs ws all = written _ _ (all_looked_up p (captured_change change) at.point.names point.names is.names)
    acts_at other here vs ws all = forms p at point is other here vs ws all

  -- ---- values of tables

  cells_alike : (cells : List Cell) → FieldsAlike p (map {A = Cell} (λ cell. record { label = cell.label; value = value.Base cell.value }) cells) (map {A = Cell} (λ cell. record { label = cell.label; value = value.Base cell.value }) cells)
  cells_alike [] = no_field
  cells_alike (cell ∷ cells) = field refl (base cell.value refl refl) (cells_alike cells)

  rows_alike : (rows : List Row) → AllAlike p (map row_value rows) (map row_value rows)
  rows_alike [] = none
  rows_alike (row ∷ rows) = more (fields _ _ refl refl (cells_alike row.cells)) (rows_alike rows)

  -- ---- the languages

  listed : (o q : Option (List Value)) → Maybe (AllAlike p) o q → Maybe (Both (Alike p)) o q
  listed None None all = tt
  listed None (Some ws) all = absurd all
  listed (Some vs) None all = absurd all
  listed (Some vs) (Some ws) all = both_of_all p vs ws all

  pub matching : Match (ground p) (source.source p.program.now) (IsPointOf p) (Alike p)
  matching = record {
    plain = λ at point is. ap (λ e. is_plain (layer e)) is.expr;
    parts = λ at point is. subst (λ e. Both (IsPointOf p) (map (λ d. within at.owner (under at.point.names d)) (parts_of (layer e))) (map (under point.names) (parts_of (layer point.expr)))) (sym is.expr)
        (insides_match p at point is (parts_of (layer point.expr)) (parts_outer (layer point.expr)));
    acts = λ at point vs ws is all. subst (λ e. Acts (act p at.owner e.span (layer e) at.point.names vs) (source.act p.program.now point.expr.span (layer point.expr) point.names ws)) (sym is.expr)
        (acts_at at point is (layer point.expr) refl vs ws (all_of_both p vs ws all));
    lists = λ vs ws all. lists_made p vs ws (all_of_both p vs ws all);
    listed = λ v w alike. listed (list_in v) (list_in w) (lists_alike p v w alike);
    rows = λ rows. list _ _ refl refl (rows_alike rows);
    units = fields [] [] refl refl no_field;
  }

pub instances_law : InstancesLaw
instances_law p placed are main is arg fuel answers =
    same (ground p) (source.source p.program.now) (IsPointOf p) (Alike p) (matching p placed are) _ _ Client (start fuel answers) (start fuel answers)
    (record {
      owner = main;
      is = is;
      expr = refl;
      names = each_alike p (map (λ x. x.text) (function_of main).params) (text arg ∷ []) (text arg ∷ []) no_names no_names (more (text_itself p arg) none) (no_names_alike p);
      stands = are.stand 0 main is;
      within = function_within p.program.now (function_of main) (are.declared 0 main is);
    })
    (record { fuel = refl; steps = refl; log = tt; answers = refl; returns = tt })
