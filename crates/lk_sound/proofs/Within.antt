-- Where all lambdas of an expression are lambdas of the program, so are those of the expressions in it; and the bodies of its
-- functions and of its lambdas are such expressions.
use Rattle.std.proofs.Common.{◌≡◌, ◌⊎◌, inl, inr, ℕ, List, [], ◌∷◌, map, refl, sym, subst}
use Rattle.lk_ast.specs.Functions.{functions_of}
use Rattle.lk_ast.specs.Layers.{Layer, layer}
use Rattle.lk_ast.specs.declared.declaration.FunDef.{FunDef}
use Rattle.lk_ast.specs.declared.declaration.Program.{Program}
use Rattle.lk_ast.specs.declared.expression.Expr.{Expr}
use Rattle.lk_ast.specs.declared.expression.LambdaExpr.{LambdaExpr}
use Rattle.lk_ast.specs.declared.expression.Node.TheOpen.{Node-F}
use Rattle.lk_index.specs.Places.{PlacedLambda, Lambdas, gather, gather_all, each_with}
use Rattle.lk_types.specs.Each.{Each, OneOf}
use Rattle.lk_sound.proofs.Gathered.{gather_each, entered, all_gathered, each_of_each, one_of_each, each_of_one}
use Rattle.lk_sound.proofs.Inside.{insides, by_insides}
use Rattle.lk_types.proofs.Members.{each_of_in, one_of_both, one_in_back, each_front, each_back}
use Rattle.lk_sound.specs.Within.{IsFunctionOf, IsLambdaOf, IsWithin}

-- ---- what is right inside

pub insides_within : (p : Program) (e : Expr) → IsWithin p e → Each (IsWithin p) (insides (layer e))
insides_within p e within =
    each_of_each (IsLambdaOf p) (insides (layer e))
    (each_back (IsLambdaOf p) (entered (layer e) e.span.start []) (gather_each (insides (layer e)) []) (subst (Each (IsLambdaOf p)) (all_gathered e) within))

-- a lambda in such an expression is one of the program
pub lambda_inside : (p : Program) (e : Expr) {l : LambdaExpr} → layer e ≡ Node-F.Lambda l → IsWithin p e → IsLambdaOf p (record { site = e.span.start; lambda = l }) × IsWithin p l.body
lambda_inside p e {l} is within =
    let own : Each (IsLambdaOf p) (entered (Node-F.Lambda l) e.span.start []) =
    subst (λ k. Each (IsLambdaOf p) (entered k e.span.start [])) is
    (each_front (IsLambdaOf p) (entered (layer e) e.span.start []) (gather_each (insides (layer e)) []) (subst (Each (IsLambdaOf p)) (all_gathered e) within)) in
    let inner : Each (IsWithin p) (insides (Node-F.Lambda l)) = subst (λ k. Each (IsWithin p) (insides k)) is (insides_within p e within) in
    (own.0, inner.0)

-- ---- the bodies of functions

abbrev pub fun_bodies : List FunDef → List Expr
fun_bodies functions = map (λ (f : FunDef). f.body) functions

functions_level : (functions : List FunDef) (found : Lambdas) → gather_all (each_with (λ (f : FunDef). gather f.body) functions) found ≡ gather_each (fun_bodies functions) found
functions_level [] found = refl
functions_level (f ∷ functions) found = functions_level functions (gather f.body found)

in_functions : (Q : Expr → Type 0) (functions : List FunDef) (f : FunDef) → OneOf (λ other. other ≡ f) functions → Q f.body → OneOf Q (fun_bodies functions)
in_functions Q [] f one q = absurd one
in_functions Q (g ∷ functions) f (inl is) q = inl (subst (λ (h : FunDef). Q h.body) (sym is) q)
in_functions Q (g ∷ functions) f (inr later) q = inr (in_functions Q functions f later q)

-- it is one of the lambdas in an expression
abbrev pub IsIn : PlacedLambda → Expr → Type 0
IsIn placed e = OneOf (λ other. other ≡ placed) (gather e [])

of_bodies : (p : Program) (placed : PlacedLambda) → OneOf (IsIn placed) (fun_bodies (functions_of p)) → IsLambdaOf p placed
of_bodies p placed one =
    subst (OneOf (λ other. other ≡ placed)) (sym (functions_level (functions_of p) [])) (each_of_one (λ other. other ≡ placed) (fun_bodies (functions_of p)) one)

pub function_within : (p : Program) (f : FunDef) → IsFunctionOf p f → IsWithin p f.body
function_within p f declared =
    each_of_in (IsLambdaOf p) (gather f.body []) (λ placed there. of_bodies p placed (in_functions (IsIn placed) (functions_of p) f declared there))

-- ---- the bodies of lambdas

-- the lambdas in the body of one of its lambdas are its own
abbrev IsClosed : Expr → Type 0
IsClosed e = (placed inner : PlacedLambda) → IsIn placed e → IsIn inner placed.lambda.body → IsIn inner e

pub own_inside : (Q : Expr → Type 0) (l : Layer) (site : ℕ) (placed : PlacedLambda) → OneOf (λ other. other ≡ placed) (entered l site []) → Q placed.lambda.body → OneOf Q (insides l)
own_inside Q (Node-F.Lambda l) site placed (inl is) q = inl (subst (λ (z : PlacedLambda). Q z.lambda.body) (sym is) q)
own_inside Q (Node-F.Lambda l) site placed (inr none) q = absurd none
own_inside Q other site placed none q = absurd none

closed_one : (es : List Expr) → Each IsClosed es → (placed inner : PlacedLambda) → OneOf (IsIn placed) es → IsIn inner placed.lambda.body → OneOf (IsIn inner) es
closed_one [] all placed inner one there = one
closed_one (e ∷ es) all placed inner (inl here) there = inl (all.0 placed inner here there)
closed_one (e ∷ es) all placed inner (inr later) there = inr (closed_one es all.1 placed inner later there)

closed_step : (e : Expr) → Each IsClosed (insides (layer e)) → IsClosed e
closed_step e all placed inner one there =
    in_e (by_side (one_of_both (λ other. other ≡ placed) own (gather_each (insides (layer e)) []) (subst (OneOf (λ other. other ≡ placed)) (all_gathered e) one)))
  where
    own : Lambdas
    own = entered (layer e) e.span.start []

    by_side : OneOf (λ other. other ≡ placed) own ⊎ OneOf (λ other. other ≡ placed) (gather_each (insides (layer e)) []) → OneOf (IsIn inner) (insides (layer e))
    by_side (inl itself) = own_inside (IsIn inner) (layer e) e.span.start placed itself there
    by_side (inr below) = closed_one (insides (layer e)) all placed inner (one_of_each (λ other. other ≡ placed) (insides (layer e)) below) there

    in_e : OneOf (IsIn inner) (insides (layer e)) → IsIn inner e
    in_e found =
        subst (OneOf (λ other. other ≡ inner)) (sym (all_gathered e))
        (one_in_back (λ other. other ≡ inner) own (gather_each (insides (layer e)) []) (each_of_one (λ other. other ≡ inner) (insides (layer e)) found))

closed : (e : Expr) → IsClosed e
closed = by_insides IsClosed closed_step

-- one of the program is in the body of one of its functions
pub lambda_there : (p : Program) (placed : PlacedLambda) → IsLambdaOf p placed → OneOf (IsIn placed) (fun_bodies (functions_of p))
lambda_there p placed declared = one_of_each (λ other. other ≡ placed) (fun_bodies (functions_of p)) (subst (OneOf (λ other. other ≡ placed)) (functions_level (functions_of p) []) declared)

pub lambda_within : (p : Program) (placed : PlacedLambda) → IsLambdaOf p placed → IsWithin p placed.lambda.body
lambda_within p placed declared =
    let bodies : List Expr = fun_bodies (functions_of p) in
    each_of_in (IsLambdaOf p) (gather placed.lambda.body [])
    (λ inner there. of_bodies p inner (closed_one bodies (each_of_in IsClosed bodies (λ e one. closed e)) placed inner (lambda_there p placed declared) there))
