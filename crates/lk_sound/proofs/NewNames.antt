-- Names that were not met before are names of their own.
use Rattle.std.proofs.Common.{◌≡◌, refl, sym, ap, subst, ◌∙◌, Bool, true, false, ◌||◌, List, [], ◌∷◌, Some, None, if◌then◌else◌, inl, inr}
use Rattle.std.proofs.lemmas.Bool.{both_ways, or_right}
use Rattle.std.proofs.lemmas.Cmp.{nat_list_cmp_total}
use Rattle.std.specs.Cmp.{tied_itself}
use Rattle.std.specs.Cmp.Lexicographic.{slice_cmp}
use Rattle.std.specs.FinSet as set
use Rattle.std.specs.Ordering.{nat_cmp, eq_by_cmp, is_eq}
use Rattle.lk_ast.specs.declared.place.Word.{Word}
use Rattle.lk_names.specs.Repeats.{twice_fault}
use Rattle.lk_names.specs.declared.error.NameError.TheVariants.{Twice}
use Rattle.lk_scope.specs.Names.{Names, is_local, bind, bind_all}
use Rattle.lk_sound.proofs.Names.{IsAmong, AreDistinct}
use Rattle.lk_types.specs.Rows.{Label}

-- none of them is one of those met, or stands twice
abbrev pub AreNew : Names → List Label → Type 0
AreNew met [] = Unit {0}
AreNew met (x ∷ xs) = (is_local met x ≡ false) × AreNew (set.insert met x) xs

pub kept : (met : Names) (x y : Label) → is_local met y ≡ true → is_local (set.insert met x) y ≡ true
kept met x y is = set.contains-insert nat_list_cmp_total met x y ∙ or_right (eq_by_cmp (slice_cmp nat_cmp) y x) (is_local met y) is

pub put_in : (met : Names) (x : Label) → is_local (set.insert met x) x ≡ true
put_in met x = set.contains-insert nat_list_cmp_total met x x ∙ ap (λ o. is_eq o || is_local met x) (tied_itself nat_list_cmp_total x)

-- one that was met is not among them
not_among : (met : Names) (xs : List Label) (x : Label) → is_local met x ≡ true → AreNew met xs → IsAmong x xs → ⊥
not_among met [] x is new among = among
not_among met (y ∷ xs) x is new (inl same) = both_ways (is_local met x) (subst (λ z. is_local met z ≡ false) same new.0) is
not_among met (y ∷ xs) x is new (inr later) = not_among (set.insert met y) xs x (kept met y x is) new.1 later

pub new_distinct : (met : Names) (xs : List Label) → AreNew met xs → AreDistinct xs
new_distinct met [] new = tt
new_distinct met (x ∷ xs) new = (not_among (set.insert met x) xs x (put_in met x) new.1, new_distinct (set.insert met x) xs new.1)

-- these names are all met
abbrev pub IsFewer : Names → Names → Type 0
IsFewer fewer met = (y : Label) → is_local fewer y ≡ true → is_local met y ≡ true

false_before : (a b : Bool) → (a ≡ true → b ≡ true) → b ≡ false → a ≡ false
false_before true b so is = absurd (both_ways b is (so refl))
false_before false b so is = refl

or_more : (a b c : Bool) → (b ≡ true → c ≡ true) → (a || b) ≡ true → (a || c) ≡ true
or_more true b c so is = refl
or_more false b c so is = so is

pub fewer_met : (fewer met : Names) (xs : List Label) → IsFewer fewer met → AreNew met xs → AreNew fewer xs
fewer_met fewer met [] are new = tt
fewer_met fewer met (x ∷ xs) are new = (
  false_before (is_local fewer x) (is_local met x) (are x) new.0,
  fewer_met (set.insert fewer x) (set.insert met x) xs
      (λ y is. set.contains-insert nat_list_cmp_total met x y ∙ or_more (eq_by_cmp (slice_cmp nat_cmp) y x) (is_local fewer y) (is_local met y) (are y) (sym (set.contains-insert nat_list_cmp_total fewer x y) ∙ is))
      new.1,
)

-- names that are bound are all met
pub bound_kept : (words : List Word) (met : Names) → IsFewer met (bind_all words met)
bound_kept [] met y is = is
bound_kept (x ∷ words) met y is = bound_kept words (bind x met) y (kept met x.text y is)

-- a word that is no fault by what was met was not met
pub once : (met : Names) (x : Word) → twice_fault met x ≡ None → is_local met x.text ≡ false
once met x none = by_test (is_local met x.text) none
  where
    by_test : (b : Bool) → (if b then Some (Twice x.at) else None) ≡ None → b ≡ false
    by_test true wrong = absurd cc
    by_test false none = refl
