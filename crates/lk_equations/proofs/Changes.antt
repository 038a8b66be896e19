-- What is said of an update, by the fields that the code makes.
use Rattle.std.proofs.Common.{arith, ◌≡◌, ℕ, ◌+◌, ◌<◌, length, List, [], ◌∷◌, ◌++◌, Option, Some, None, map, refl, ap, sym, ◌∙◌}
use Rattle.lk_types.specs.declared.ty.Effect.TheVariants as effect
use Rattle.lk_types.specs.declared.ty.Effects.{Effects}
use Rattle.lk_types.specs.declared.ty.RowTail.TheVariants.{Var}
use Rattle.lk_types.specs.declared.ty.Ty.{Ty}
use Rattle.lk_types.specs.declared.ty.Ty.TheVariants as ty
use Rattle.lk_types.specs.declared.ty.TyField.{TyField}
use Rattle.lk_typing.specs.Equations.{own}
use Rattle.lk_typing.specs.Names.{Named}
use Rattle.lk_typing.specs.Unknowns.{field, has, same, unit, record_of}
use Rattle.lk_typing.specs.Walk.{Told, told, sets_told, set_own}
use Rattle.lk_equations.specs.Forms.{sets_own, sets_said}
use Rattle.lk_equations.specs.Labelled.{laid}

said_told : (t : Ty) (sets : Named Ty) (n : ℕ) → sets_said t (map field sets) n ≡ sets_told t sets n
said_told t [] n = refl
said_told t (set ∷ sets) n = ap (λ (rest : Told). told (same t (record_of (set ∷ []) (Var n)) ∷ rest.equations) rest.next) (said_told t sets (1 + n))

abbrev fields_or : Option (List TyField × List Ty) → List TyField
fields_or None = []
fields_or (Some found) = found.0

abbrev rest_or : Option (List TyField × List Ty) → List Ty
rest_or None = []
rest_or (Some found) = found.1

short : {A : Type 0} (xs : List A) → length xs < 1 → xs ≡ []
short [] below = refl
short (x ∷ xs) below = absurd (omega (arith, below))

sets_own_all : (effects : Effects) (t cond : Ty) (found : Option (Named Ty × List Ty)) (fields : List TyField) (n : ℕ)
    → Some (fields, []) ≡ laid [] found → sets_own effects t cond fields n ≡ set_own effects t cond found n
sets_own_all effects t cond None fields n is = cc
sets_own_all effects t cond (Some (sets, [])) fields n is =
    ap (λ (told_sets : Told). own unit (same cond ty.Bool ∷ told_sets.equations ++ has effects effect.Write told_sets.next ∷ []) (1 + told_sets.next))
    (ap (λ fs. sets_said t fs n) (ap fields_or is) ∙ said_told t sets n)
sets_own_all effects t cond (Some (sets, more ∷ rest)) fields n is = let none : [] ≡ more ∷ rest = ap rest_or is in cc

pub sets_own_is : (effects : Effects) (t cond : Ty) (found : Option (Named Ty × List Ty)) (fields : List TyField) (rest : List Ty) (n : ℕ)
    → length rest < 1 → Some (fields, rest) ≡ laid [] found → sets_own effects t cond fields n ≡ set_own effects t cond found n
sets_own_is effects t cond found fields rest n below is = sets_own_all effects t cond found fields n (ap (λ ts. Some (fields, ts)) (sym (short rest below)) ∙ is)
