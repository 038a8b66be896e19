-- The lambdas in an expression are those in the expressions right inside it, behind the lambda that it may be itself.
use Rattle.std.proofs.Common.{◌≡◌, ◌⊎◌, inl, inr, ℕ, List, [], ◌∷◌, ◌++◌, Some, None, refl, sym, ap, subst, ◌∙◌}
use Rattle.std.proofs.lemmas.List.{append_assoc, append-nil}
use Rattle.lk_ast.specs.Children.{exprs_of}
use Rattle.lk_ast.specs.Layers.{Layer, layer}
use Rattle.lk_ast.specs.declared.expression.Case.{Case}
use Rattle.lk_ast.specs.declared.expression.ChangeExpr.{ChangeExpr, out-ChangeExpr}
use Rattle.lk_ast.specs.declared.expression.Expr.{Expr}
use Rattle.lk_ast.specs.declared.expression.LambdaExpr.{LambdaExpr}
use Rattle.lk_ast.specs.declared.expression.LastCase.{LastCase}
use Rattle.lk_ast.specs.declared.expression.Node.{Node}
use Rattle.lk_ast.specs.declared.expression.Node.TheFolds.{map-Node}
use Rattle.lk_ast.specs.declared.expression.Node.TheOpen.{Node-F}
use Rattle.lk_ast.specs.declared.expression.PartExpr.{PartExpr}
use Rattle.lk_index.specs.Places.{PlacedLambda, Lambdas, Gather, gather_all, each_with, node_in, gather, gather_node, gather_part, gather_lambda, gather_case, gather_last, gather_change}
use Rattle.lk_index.proofs.Paras.{expr_level, part_level, lambda_level, case_level, last_level, change_level, node_level}
use Rattle.lk_types.specs.Each.{Each, OneOf}
use Rattle.lk_sound.proofs.Inside.{insides, bodies_of, by_insides}
use Rattle.lk_types.proofs.Members.{one_of_both, one_in_front, one_in_back, each_front, each_back}

-- expressions one after another
abbrev pub gather_each : List Expr → Gather
gather_each [] found = found
gather_each (e ∷ es) found = gather_each es (gather e found)

-- the lambda that it may be itself
abbrev pub entered : Layer → ℕ → Gather
entered (Node-F.Lambda l) site found = found ++ record { site = site; lambda = l } ∷ []
entered other site found = found

-- ---- one level

each_append : (es ds : List Expr) (found : Lambdas) → gather_each (es ++ ds) found ≡ gather_each ds (gather_each es found)
each_append [] ds found = refl
each_append (e ∷ es) ds found = each_append es ds (gather e found)

exprs_level : (es : List Expr) (found : Lambdas) → gather_all (each_with gather es) found ≡ gather_each es found
exprs_level [] found = refl
exprs_level (e ∷ es) found = exprs_level es (gather e found)

parts_level : (parts : List PartExpr) (found : Lambdas) → gather_all (each_with gather_part parts) found ≡ gather_each (exprs_of parts) found
parts_level [] found = refl
parts_level (part ∷ parts) found = ap (gather_all (each_with gather_part parts)) (part_level part found) ∙ parts_level parts (gather part.expr found)

cases_level : (cases : List Case) (found : Lambdas) → gather_all (each_with gather_case cases) found ≡ gather_each (bodies_of cases) found
cases_level [] found = refl
cases_level (case ∷ cases) found = ap (gather_all (each_with gather_case cases)) (case_level case found) ∙ cases_level cases (gather case.body found)

in_change_level : (change : ChangeExpr) (found : Lambdas) → gather_change change found ≡ gather_each ((out-ChangeExpr change).cond ∷ exprs_of (out-ChangeExpr change).sets) found
in_change_level change found = change_level change found ∙ parts_level (out-ChangeExpr change).sets (gather (out-ChangeExpr change).cond found)

-- a node with the lambdas in each of its parts
abbrev with_gathered : Layer → Node-F (Node × (ℕ → Gather)) (Case × Gather) (ChangeExpr × Gather) (Expr × Gather) (LambdaExpr × Gather) (LastCase × Gather) (PartExpr × Gather)
with_gathered l = map-Node _ _ _ _ _ _ _ _ _ _ _ _ _ _ (λ n. (n, gather_node n)) (λ n. (n, gather_case n)) (λ n. (n, gather_change n)) (λ n. (n, gather n)) (λ n. (n, gather_lambda n)) (λ n. (n, gather_last n)) (λ n. (n, gather_part n)) l

inside_level : (l : Layer) (site : ℕ) (found : Lambdas) → node_in (with_gathered l) site found ≡ gather_each (insides l) (entered l site found)
inside_level (Node-F.Lambda l) site found = lambda_level l _
inside_level (Node-F.Call g args) site found = exprs_level args found
inside_level (Node-F.Apply f args) site found = exprs_level args (gather f found)
inside_level (Node-F.Record parts) site found = parts_level parts found
inside_level (Node-F.Extend parts e) site found = ap (gather e) (parts_level parts found) ∙ sym (each_append (exprs_of parts) (e ∷ []) found)
inside_level (Node-F.List items) site found = exprs_level items found
inside_level (Node-F.Switch d cases None) site found = cases_level cases (gather d found) ∙ sym (each_append (bodies_of cases) [] (gather d found))
inside_level (Node-F.Switch d cases (Some last)) site found =
    last_level last _ ∙ ap (gather last.body) (cases_level cases (gather d found)) ∙ sym (each_append (bodies_of cases) (last.body ∷ []) (gather d found))
inside_level (Node-F.Update change) site found = in_change_level change found
inside_level (Node-F.Delete change) site found = in_change_level change found
inside_level other site found = refl

pub gather_level : (e : Expr) (found : Lambdas) → gather e found ≡ gather_each (insides (layer e)) (entered (layer e) e.span.start found)
gather_level e found = expr_level e found ∙ node_level e.node e.span.start found ∙ inside_level (layer e) e.span.start found

-- ---- what is in an expression comes behind what was found before

abbrev ComesBehind : Expr → Type 0
ComesBehind e = (found : Lambdas) → gather e found ≡ found ++ gather e []

entered_behind : (l : Layer) (site : ℕ) (found : Lambdas) → entered l site found ≡ found ++ entered l site []
entered_behind (Node-F.Lambda l) site found = refl
entered_behind other site found = sym (append-nil found)

each_comes_behind : (es : List Expr) → Each ComesBehind es → (found : Lambdas) → gather_each es found ≡ found ++ gather_each es []
each_comes_behind [] all found = sym (append-nil found)
each_comes_behind (e ∷ es) all found =
    each_comes_behind es all.1 (gather e found)
    ∙ ap (λ front. front ++ gather_each es []) (all.0 found)
    ∙ append_assoc found (gather e []) (gather_each es [])
    ∙ ap (λ back. found ++ back) (sym (each_comes_behind es all.1 (gather e [])))

behind_step : (e : Expr) → Each ComesBehind (insides (layer e)) → ComesBehind e
behind_step e all found =
    let own : Lambdas = entered (layer e) e.span.start [] in
    gather_level e found
    ∙ each_comes_behind (insides (layer e)) all (entered (layer e) e.span.start found)
    ∙ ap (λ front. front ++ gather_each (insides (layer e)) []) (entered_behind (layer e) e.span.start found)
    ∙ append_assoc found own (gather_each (insides (layer e)) [])
    ∙ ap (λ back. found ++ back) (sym (each_comes_behind (insides (layer e)) all own))
    ∙ ap (λ back. found ++ back) (sym (gather_level e []))

pub gathered : (e : Expr) (found : Lambdas) → gather e found ≡ found ++ gather e []
gathered = by_insides ComesBehind behind_step

pub each_gathered : (es : List Expr) (found : Lambdas) → gather_each es found ≡ found ++ gather_each es []
each_gathered [] found = sym (append-nil found)
each_gathered (e ∷ es) found =
    each_gathered es (gather e found)
    ∙ ap (λ front. front ++ gather_each es []) (gathered e found)
    ∙ append_assoc found (gather e []) (gather_each es [])
    ∙ ap (λ back. found ++ back) (sym (each_gathered es (gather e [])))

pub first_gathered : (e : Expr) (es : List Expr) → gather_each (e ∷ es) [] ≡ gather e [] ++ gather_each es []
first_gathered e es = each_gathered es (gather e [])

-- the one that it may be itself, and those right inside it
pub all_gathered : (e : Expr) → gather e [] ≡ entered (layer e) e.span.start [] ++ gather_each (insides (layer e)) []
all_gathered e = gather_level e [] ∙ each_gathered (insides (layer e)) (entered (layer e) e.span.start [])

-- ---- what holds of each of these lambdas, or of one of them

module _ (P : PlacedLambda → Type 0) where
  pub each_of_each : (es : List Expr) → Each P (gather_each es []) → Each (λ e. Each P (gather e [])) es
  each_of_each [] all = tt
  each_of_each (e ∷ es) all =
      let both : Each P (gather e [] ++ gather_each es []) = subst (Each P) (first_gathered e es) all in
      (each_front P (gather e []) (gather_each es []) both, each_of_each es (each_back P (gather e []) (gather_each es []) both))

  pub one_of_each : (es : List Expr) → OneOf P (gather_each es []) → OneOf (λ e. OneOf P (gather e [])) es
  one_of_each [] one = one
  one_of_each (e ∷ es) one = by_side (one_of_both P (gather e []) (gather_each es []) (subst (OneOf P) (first_gathered e es) one)) (one_of_each es)
    where
      by_side : OneOf P (gather e []) ⊎ OneOf P (gather_each es []) → (OneOf P (gather_each es []) → OneOf (λ e. OneOf P (gather e [])) es) → OneOf (λ e. OneOf P (gather e [])) (e ∷ es)
      by_side (inl here) later = inl here
      by_side (inr there) later = inr (later there)

  pub each_of_one : (es : List Expr) → OneOf (λ e. OneOf P (gather e [])) es → OneOf P (gather_each es [])
  each_of_one [] one = one
  each_of_one (e ∷ es) (inl here) = subst (OneOf P) (sym (first_gathered e es)) (one_in_front P (gather e []) (gather_each es []) here)
  each_of_one (e ∷ es) (inr later) = subst (OneOf P) (sym (first_gathered e es)) (one_in_back P (gather e []) (gather_each es []) (each_of_one es later))
