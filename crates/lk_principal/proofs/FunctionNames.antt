-- Functions that have names of their own: a name finds its function, and what stands beside it.
use Rattle.std.proofs.Common.{◌≡◌, inl, inr, ℕ, zero, suc, Bool, true, false, cond, List, [], ◌∷◌, map, Some, find, slice_get, bytes_eq, refl, sym, ap, subst, ◌∙◌}
use Rattle.std.proofs.lemmas.Option.{none-some}
use Rattle.std.proofs.lemmas.Slice.Eq.{bytes_eq-Decides}
use Rattle.lk_ast.specs.Functions.{is_named}
use Rattle.lk_ast.specs.declared.declaration.FunDef.{FunDef}
use Rattle.lk_sound.proofs.Names.{IsAmong, AreDistinct}
use Rattle.lk_types.proofs.Members.{one_at}
use Rattle.lk_types.proofs.Parts.{same_some}
use Rattle.lk_types.specs.Each.{OneOf}
use Rattle.lk_types.specs.Rows.{Label}

-- ---- functions with names of their own

abbrev pub names : List FunDef → List Label
names fs = map (λ (f : FunDef). f.name.text) fs

named_there : (fs : List FunDef) (f : FunDef) → OneOf (λ other. other ≡ f) fs → IsAmong f.name.text (names fs)
named_there [] f there = there
named_there (other ∷ fs) f (inl is) = inl (ap (λ (f : FunDef). f.name.text) is)
named_there (other ∷ fs) f (inr later) = inr (named_there fs f later)

-- where no two have the same name, that of one of them finds it
pub found_named : (fs : List FunDef) (f : FunDef) → AreDistinct (names fs) → OneOf (λ other. other ≡ f) fs → find (is_named f.name.text) fs ≡ Some f
found_named [] f distinct there = absurd there
found_named (other ∷ fs) f distinct (inl is) =
    ap (λ b. cond b (Some other) (find (is_named f.name.text) fs)) ((bytes_eq-Decides other.name.text f.name.text).1 (ap (λ (f : FunDef). f.name.text) is)) ∙ ap (λ g. Some g) is
found_named (other ∷ fs) f distinct (inr later) = by_test (bytes_eq other.name.text f.name.text) refl (found_named fs f distinct.1 later)
  where
    by_test : (b : Bool) → bytes_eq other.name.text f.name.text ≡ b → find (is_named f.name.text) fs ≡ Some f → cond b (Some other) (find (is_named f.name.text) fs) ≡ Some f
    by_test true same found =
        let is : other.name.text ≡ f.name.text = (bytes_eq-Decides other.name.text f.name.text).0 same in
        absurd (distinct.0 (subst (λ x. IsAmong x (names fs)) (sym is) (named_there fs f later)))
    by_test false differs found = found

-- and it stands at one place
pub one_place : (fs : List FunDef) → AreDistinct (names fs) → (i k : ℕ) (f : FunDef) → slice_get fs i ≡ Some f → slice_get fs k ≡ Some f → i ≡ k
one_place [] distinct i k f is at = absurd (none-some f is)
one_place (g ∷ fs) distinct zero zero f is at = refl
one_place (g ∷ fs) distinct zero (suc k) f is at =
    absurd (distinct.0 (subst (λ x. IsAmong x (names fs)) (ap (λ (f : FunDef). f.name.text) (sym (same_some is))) (named_there fs f (one_at fs k f at))))
one_place (g ∷ fs) distinct (suc i) zero f is at =
    absurd (distinct.0 (subst (λ x. IsAmong x (names fs)) (ap (λ (f : FunDef). f.name.text) (sym (same_some at))) (named_there fs f (one_at fs i f is))))
one_place (g ∷ fs) distinct (suc i) (suc k) f is at = ap (λ n. suc n) (one_place fs distinct.1 i k f is at)
