-- The place of a function or of a lambda finds it, where all of them begin at places of their own; and what a place finds is there.
use Rattle.std.proofs.Common.{◌≡◌, inl, inr, refl, sym, ap, ◌∙◌, ℕ, true, false, ◌==◌, cond, List, [], ◌∷◌, ◌++◌, map, Option, Some, None, arith}
use Rattle.std.proofs.lemmas.Bool.{eqb-true}
use Rattle.std.specs.Prelude.{find}
use Rattle.std.specs.Option.{option_map}
use Rattle.std.proofs.lemmas.Bool.Decides.{nat_tests}
use Rattle.std.proofs.lemmas.Option.{none-some}
use Rattle.lk_ast.specs.Functions.{functions_of}
use Rattle.lk_ast.specs.declared.declaration.FunDef.{FunDef}
use Rattle.lk_ast.specs.declared.declaration.Program.{Program}
use Rattle.lk_ast.specs.declared.expression.LambdaExpr.{LambdaExpr}
use Rattle.lk_index.specs.Places.{PlacedLambda, lambdas_of, lambda_begins, lambda_at, function_at, IsNone, AreApart, ArePlaced}
use Rattle.lk_types.specs.Each.{OneOf}
use Rattle.lk_types.proofs.Members.{found_in}
use Rattle.lk_sound.specs.Within.{IsFunctionOf, IsLambdaOf}

-- ---- numbers

number_same : (m n : ℕ) → m ≡ n → (m == n) ≡ true
number_same m n e = grind (arith, nat_tests)

other_number : (m n : ℕ) → (m ≡ n → ⊥) → (m == n) ≡ false
other_number m n e = grind (arith, nat_tests)

none_back : (n : ℕ) (ms ns : List ℕ) → IsNone n (ms ++ ns) → IsNone n ns
none_back n [] ns none = none
none_back n (m ∷ ms) ns none = none_back n ms ns none.1

none_front : (n : ℕ) (ms ns : List ℕ) → IsNone n (ms ++ ns) → IsNone n ms
none_front n [] ns none = tt
none_front n (m ∷ ms) ns none = (none.0, none_front n ms ns none.1)

apart_front : (ms ns : List ℕ) → AreApart (ms ++ ns) → AreApart ms
apart_front [] ns apart = tt
apart_front (m ∷ ms) ns apart = (none_front m ms ns apart.0, apart_front ms ns apart.1)

apart_back : (ms ns : List ℕ) → AreApart (ms ++ ns) → AreApart ns
apart_back [] ns apart = apart
apart_back (m ∷ ms) ns apart = apart_back ms ns apart.1

-- ---- look-ups by numbers

module _ {A : Type 0} (key : A → ℕ) where
  none_has : (n : ℕ) (xs : List A) (x : A) → IsNone n (map key xs) → OneOf (λ y. y ≡ x) xs → n ≡ key x → ⊥
  none_has n [] x none one e = one
  none_has n (y ∷ ys) x none (inl is) e = none.0 (e ∙ ap key (sym is))
  none_has n (y ∷ ys) x none (inr later) e = none_has n ys x none.1 later e

  -- where no two have the same number, that of one of them finds it
  pub apart_found : (xs : List A) (x : A) → AreApart (map key xs) → OneOf (λ y. y ≡ x) xs → find (λ y. key y == key x) xs ≡ Some x
  apart_found [] x apart one = absurd one
  apart_found (y ∷ ys) x apart (inl is) = ap (λ b. cond b (Some y) (find (λ y. key y == key x) ys)) (number_same (key y) (key x) (ap key is)) ∙ ap Some is
  apart_found (y ∷ ys) x apart (inr later) =
      ap (λ b. cond b (Some y) (find (λ y. key y == key x) ys)) (other_number (key y) (key x) (none_has (key y) ys x apart.0 later))
      ∙ apart_found ys x apart.1 later

  -- what a number finds is there, and has it
  found_there : (n : ℕ) (xs : List A) (x : A) → find (λ y. key y == n) xs ≡ Some x → OneOf (λ y. y ≡ x) xs × (key x ≡ n)
  found_there n xs x e = let there : OneOf (λ y. y ≡ x) xs × ((key x == n) ≡ true) = found_in (λ y. key y == n) xs x e in (there.0, eqb-true (key x) n there.1)

-- the number of one behind others finds none of these
none_found : {A B : Type 0} (key : A → ℕ) (other : B → ℕ) (xs : List A) (ys : List B) (y : B)
    → AreApart (map key xs ++ map other ys) → OneOf (λ z. z ≡ y) ys → find (λ x. key x == other y) xs ≡ None
none_found key other [] ys y apart one = refl
none_found key other (x ∷ xs) ys y apart one =
    ap (λ b. cond b (Some x) (find (λ x. key x == other y) xs)) (other_number (key x) (other y) (none_has other (key x) ys y (none_back (key x) (map key xs) (map other ys) apart.0) one))
    ∙ none_found key other xs ys y apart.1 one

-- ---- functions and lambdas of a program

abbrev begin_of : FunDef → ℕ
begin_of f = f.name.at.start

abbrev site_of : PlacedLambda → ℕ
site_of placed = placed.site

abbrev begins : Program → List ℕ
begins p = map begin_of (functions_of p)

abbrev sites : Program → List ℕ
sites p = map site_of (lambdas_of (functions_of p))

pub function_found : (p : Program) (f : FunDef) → ArePlaced p → IsFunctionOf p f → function_at p f.name.at.start ≡ Some f
function_found p f placed declared = apart_found begin_of (functions_of p) f (apart_front (begins p) (sites p) placed) declared

pub lambda_found : (p : Program) (l : PlacedLambda) → ArePlaced p → IsLambdaOf p l → (function_at p l.site ≡ None) × (lambda_at p l.site ≡ Some l.lambda)
lambda_found p l placed there = (
  none_found begin_of site_of (functions_of p) (lambdas_of (functions_of p)) l placed there,
  ap (option_map (λ placed. placed.lambda)) (apart_found site_of (lambdas_of (functions_of p)) l (apart_back (begins p) (sites p) placed) there),
)

pub function_is_there : (p : Program) (site : ℕ) (f : FunDef) → function_at p site ≡ Some f → IsFunctionOf p f
function_is_there p site f e = (found_there begin_of site (functions_of p) f e).0

lambda_shown : (p : Program) (site : ℕ) (l : LambdaExpr) (found : Option PlacedLambda) → find (lambda_begins site) (lambdas_of (functions_of p)) ≡ found
    → option_map (λ placed. placed.lambda) found ≡ Some l → IsLambdaOf p (record { site = site; lambda = l })
lambda_shown p site l None is e = absurd (none-some l e)
lambda_shown p site l (Some placed) is e =
    let there : IsLambdaOf p placed × (placed.site ≡ site) = found_there site_of site (lambdas_of (functions_of p)) placed is in
    let same : placed.lambda ≡ l = cc in
    renamed p placed (record { site = site; lambda = l }) (λ i. record { site = there.1 i; lambda = same i }) there.0
  where
    renamed : (p : Program) (a b : PlacedLambda) → a ≡ b → IsLambdaOf p a → IsLambdaOf p b
    renamed p a b same there = rw same at there

pub lambda_is_there : (p : Program) (site : ℕ) (l : LambdaExpr) → lambda_at p site ≡ Some l → IsLambdaOf p (record { site = site; lambda = l })
lambda_is_there p site l e = lambda_shown p site l (find (lambda_begins site) (lambdas_of (functions_of p))) refl e
