-- The lines of functions with their schemes end where one of the two lists does.
use Rattle.std.proofs.Common.{◌≡◌, ◌⊎◌, ℕ, List, [], ◌∷◌, ◌++◌, ◌∙◌, Bor, inl, inr, map, refl, sym, ap}
use Rattle.std.proofs.lemmas.List.{append-nil}
use Rattle.lk_ast.specs.declared.declaration.FunDef.{FunDef}
use Rattle.lk_types.specs.declared.scheme.Scheme.{Scheme}
use Rattle.lk_cli.specs.Report.{lines_of}

no_schemes : (fs : List FunDef) → lines_of fs [] ≡ []
no_schemes [] = refl
no_schemes (f ∷ fs) = refl

no_lines : (fs : List (Bor FunDef)) (schemes : List Scheme) → (fs ≡ []) ⊎ (schemes ≡ []) → lines_of (map (λ f. f.now) fs) schemes ≡ []
no_lines fs schemes (inl none) = ap (λ (fs : List (Bor FunDef)). lines_of (map (λ f. f.now) fs) schemes) none
no_lines fs schemes (inr none) = ap (lines_of (map (λ f. f.now) fs)) none ∙ no_schemes (map (λ f. f.now) fs)

pub lines_end : (text : List ℕ) (fs : List (Bor FunDef)) (schemes : List Scheme) → (fs ≡ []) ⊎ (schemes ≡ []) → text ≡ text ++ lines_of (map (λ f. f.now) fs) schemes
lines_end text fs schemes none = sym (ap (λ lines. text ++ lines) (no_lines fs schemes none) ∙ append-nil text)
