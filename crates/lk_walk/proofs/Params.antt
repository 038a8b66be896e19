-- Parameters from the last one to the first one.
use Rattle.std.proofs.Common.{arith, ◌≡◌, ℕ, suc, zero, ◌+◌, ◌-◌, append_assoc, length-append, List, [], ◌∷◌, ◌++◌, length, drop, refl, ap, sym, ◌∙◌}
use Rattle.lk_ast.specs.declared.place.Word.{Word}
use Rattle.lk_types.specs.Rows.{Label}
use Rattle.lk_types.specs.declared.ty.Ty.{Ty}
use Rattle.lk_types.specs.declared.ty.Ty.TheVariants as ty
use Rattle.lk_typing.specs.Names.{Named}
use Rattle.lk_typing.specs.Walk.{params_from}

pub params_last : (n k : ℕ) (front : List Word) (x : Word) → k ≡ length front + n → params_from n (front ++ x ∷ []) ≡ params_from n front ++ (x.text, ty.Var k) ∷ []
params_last n k [] x is = let same : n ≡ k = omega (arith, is) in ap (λ m. (x.text, ty.Var m) ∷ []) same
params_last n k (y ∷ ys) x is = ap (λ rest. (y.text, ty.Var n) ∷ rest) (params_last (1 + n) k ys x (omega (arith, is)))

-- names that came are taken away again
pub params_gone : (n : ℕ) (params : List Word) (names : Named Ty) → drop (length params) (params_from n params ++ names) ≡ names
params_gone n [] names = refl
params_gone n (x ∷ xs) names = params_gone (1 + n) xs names

pub push_step : (first number : ℕ) (rest front : List Word) (param : Word) (name : Label) (names inner all : Named Ty)
    → rest ≡ front ++ param ∷ [] → name ≡ param.text → number ≡ length rest + first → inner ≡ (name, ty.Var (number - 1)) ∷ names → params_from first rest ++ names ≡ all
    → (params_from first front ++ inner ≡ all) × (number - 1 ≡ length front + first)
push_step first number rest front param name names inner all is named count pushed was =
    let longer : length rest ≡ length front + 1 = ap length is ∙ length-append front (param ∷ []) in
    let less : number - 1 ≡ length front + first = omega (arith, longer, count) in (
      ap (λ ns. params_from first front ++ ns) (pushed ∙ ap (λ x. (x, ty.Var (number - 1)) ∷ names) named)
          ∙ sym (append_assoc (params_from first front) ((param.text, ty.Var (number - 1)) ∷ []) names)
          ∙ ap (λ ns. ns ++ names) (sym (params_last first (number - 1) front param less))
          ∙ ap (λ ps. params_from first ps ++ names) (sym is)
          ∙ was,
      less,
    )

-- one name less
pub drop_one : {A : Type 0} (i : ℕ) (xs : List A) → drop 1 (drop i xs) ≡ drop (i + 1) xs
drop_one zero xs = refl
drop_one (suc i) [] = let e : suc i + 1 ≡ suc (i + 1) = omega arith in ap (λ k. drop k []) (sym e)
drop_one (suc i) (x ∷ xs) = let e : suc i + 1 ≡ suc (i + 1) = omega arith in drop_one i xs ∙ ap (λ k. drop k (x ∷ xs)) (sym e)
