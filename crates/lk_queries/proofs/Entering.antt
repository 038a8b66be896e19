-- Points that are entered, their parts and what they do, where all of it only reads.
use Rattle.std.proofs.Common.{◌≡◌, sym, ap, subst, ℕ, Bool, List, [], ◌∷◌, ◌++◌, append_assoc, append-nil, map, flat_map, Some}
use Rattle.lk_ast.specs.Layers.{Layer, layer}
use Rattle.lk_ast.specs.Tables.{Tables}
use Rattle.lk_ast.specs.declared.declaration.Program.{Program}
use Rattle.lk_ast.specs.declared.expression.Expr.{Expr}
use Rattle.lk_ast.specs.declared.place.Loc.TheVariants.{Server}
use Rattle.lk_ast.specs.declared.place.Span.{Span}
use Rattle.lk_ast.specs.declared.value.Value.{Value}
use Rattle.lk_ast.specs.declared.value.Value.TheVariants as value
use Rattle.lk_bag.specs.Bag.{given, items}
use Rattle.lk_evaluation.proofs.Fixpoint.{eval_is}
use Rattle.lk_evaluation.specs.Evaluation.{joined, all_parts, each, part, perform, node, eval}
use Rattle.lk_evaluation.specs.Run.{and_then}
use Rattle.lk_evaluation.specs.Source.{source, under, act}
use Rattle.lk_evaluation.specs.Syntax.{parts_of, is_plain}
use Rattle.lk_locals.specs.Names.{Names, bind}
use Rattle.lk_operators.specs.Values.{list_in}
use Rattle.lk_types.specs.Each.{Each}
use Rattle.lk_queries.specs.Law.{Ends}
use Rattle.lk_queries.proofs.Reading.{then, gone, handed_on, entered, same_run, same_value}

module _ (p : Program) (tables : Tables) (scans : Bool) (calls : List ℕ → List Value → Value) where
  abbrev give : Expr → Names → Value
  give = given tables calls

  -- evaluation of the expression comes to what it gives
  abbrev pub IsRight : Names → Expr → Type 0
  IsRight names e = Ends p tables scans Value (give e names) (eval (source p) (under names e) Server)

  -- a part whose value is handed on
  part_right : (names : Names) (e : Expr) → IsRight names e → Ends p tables scans Value (give e names) (part (source p) (eval (source p)) (under names e) Server)
  part_right names e right =
      then p tables scans (give e names) (give e names) (eval (source p) (under names e) Server) _ right (handed_on p tables scans (give e names) (is_plain (layer e)))

  -- the parts in order, after values that are there
  parts_right : (names : Names) (es : List Expr) → Each (IsRight names) es → (done : List Value)
      → Ends p tables scans (List Value) (done ++ map (λ e. give e names) es) (all_parts (source p) (eval (source p)) (map (under names) es) Server done)
  parts_right names [] rights done = same_value p tables scans (List Value) done (done ++ []) _ (sym (append-nil done)) (gone p tables scans (List Value) done)
  parts_right names (e ∷ es) (right, rights) done =
      then p tables scans (give e names) (done ++ map (λ e. give e names) (e ∷ es)) (part (source p) (eval (source p)) (under names e) Server) _ (part_right names e right)
      (same_value p tables scans (List Value) ((done ++ give e names ∷ []) ++ map (λ e. give e names) es) (done ++ map (λ e. give e names) (e ∷ es)) _ (append_assoc done (give e names ∷ []) (map (λ e. give e names) es))
      (parts_right names es rights (done ++ give e names ∷ [])))

  -- a node: its parts, and what it does with what they give
  pub node_right : (names : Names) (e : Expr) (l : Layer) → layer e ≡ l → Each (IsRight names) (parts_of l)
      → Ends p tables scans Value (give e names) (perform (source p) (eval (source p)) Server (act p e.span l names (map (λ d. give d names) (parts_of l)))) → IsRight names e
  node_right names e l is rights acts =
      same_run p tables scans (give e names) _ _ (eval_is (source p) (under names e) Server)
      (entered p tables scans (give e names) (node (source p) (eval (source p)) (under names e) Server) (by_layer (layer e) is))
    where
      by_layer : (k : Layer) → k ≡ l
          → Ends p tables scans Value (give e names) (λ r. and_then (all_parts (source p) (eval (source p)) (map (under names) (parts_of k)) Server [] r) (λ values s. perform (source p) (eval (source p)) Server (act p e.span k names values) s))
      by_layer k same =
          subst (λ x. Ends p tables scans Value (give e names) (λ r. and_then (all_parts (source p) (eval (source p)) (map (under names) (parts_of x)) Server [] r) (λ values s. perform (source p) (eval (source p)) Server (act p e.span x names values) s))) (sym same)
          (then p tables scans (map (λ d. give d names) (parts_of l)) (give e names) (all_parts (source p) (eval (source p)) (map (under names) (parts_of l)) Server []) _ (parts_right names (parts_of l) rights []) acts)

  -- what a body gives is a list, and its evaluation comes to it
  pub record IsBody (names : Names) (body : Expr) : Type 0 where
    pub right : IsRight names body
    pub list : list_in (give body names) ≡ Some (items (give body names))

  -- a body for each of these elements, after the list made so far
  pub each_right : (at : Span) (x : List ℕ) (body : Expr) (names : Names) (elements : List Value) → Each (λ v. IsBody (bind x v names) body) elements → (made : List Value)
      → Ends p tables scans Value (value.List (made ++ flat_map (λ v. items (give body (bind x v names))) elements)) (each (source p) (eval (source p)) at (map (λ v. under (bind x v names) body) elements) Server made)
  each_right at x body names [] bodies made = same_value p tables scans Value (value.List made) (value.List (made ++ [])) _ (ap value.List (sym (append-nil made))) (gone p tables scans Value (value.List made))
  each_right at x body names (v ∷ elements) (one, bodies) made =
      let inner : Names = bind x v names in
      let first : List Value = items (give body inner) in
      let rest : List Value = flat_map (λ v. items (give body (bind x v names))) elements in
      then p tables scans (give body inner) (value.List (made ++ (first ++ rest))) (part (source p) (eval (source p)) (under inner body) Server) _ (part_right inner body one.right)
      (subst (λ o. Ends p tables scans Value (value.List (made ++ (first ++ rest))) (joined at made o (each (source p) (eval (source p)) at (map (λ v. under (bind x v names) body) elements) Server))) (sym one.list)
      (same_value p tables scans Value (value.List ((made ++ first) ++ rest)) (value.List (made ++ (first ++ rest))) _ (ap value.List (append_assoc made first rest))
      (each_right at x body names elements bodies (made ++ first))))
