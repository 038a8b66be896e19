-- The `main` of a program.
use Rattle.std.proofs.Common.{◌≡◌, List, [], ◌∷◌, refl, ◌∙◌, ap}
use Rattle.std.specs.Prelude.{Bool, true, false, ◌&&◌, ◌==◌, Option, Some, if◌then◌else◌, length, find}
use Rattle.std.proofs.lemmas.Bool.{eqb-true}
use Rattle.lk_ast.specs.Functions.{functions_of, is_main, main_of}
use Rattle.lk_ast.specs.declared.declaration.FunDef.{FunDef}
use Rattle.lk_ast.specs.declared.declaration.Program.{Program}

find-passes : {A : Type 0} (p : A → Bool) (xs : List A) (x : A) → Some x ≡ find p xs → p x ≡ true
find-passes p [] x e = cc
find-passes p (y ∷ ys) x e = go (p y) refl (find-passes p ys x) e
  where
    go : (b : Bool) → p y ≡ b → (Some x ≡ find p ys → p x ≡ true) → Some x ≡ (if b then Some y else find p ys) → p x ≡ true
    go true py later e = let same : x ≡ y = cc in ap p same ∙ py
    go false py later e = later e

both_true : (a b c : Bool) → a && b && c ≡ true → b ≡ true
both_true true true true e = refl
both_true true true false e = refl
both_true true false c e = cc
both_true false b c e = cc

-- the `main` of a program has one parameter
pub main_params : (p : Program) (main : FunDef) → Some main ≡ main_of p → length main.params ≡ 1
main_params p main e = eqb-true (length main.params) 1 (both_true _ (length main.params == 1) _ (find-passes is_main (functions_of p) main e))
