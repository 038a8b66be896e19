-- A grounding that is another one at some variables, and the least there is at all others.
use Rattle.std.proofs.Common.{◌≡◌, Bool, true, false, ◌||◌, inl, inr, List, [], ◌∷◌, refl, sym, ap, ◌∙◌, is_some, if◌then◌else◌}
use Rattle.std.proofs.lemmas.Bool.{or_right}
use Rattle.std.specs.FinMap as fin
use Rattle.std.specs.List.{list_any}
use Rattle.lk_types.proofs.Members.{each_weaker}
use Rattle.lk_types.proofs.Agreement.{AgreeAt}
use Rattle.lk_types.proofs.SameVariable.{same_self, same_sym}
use Rattle.lk_types.specs.Each.{Each, OneOf}
use Rattle.lk_types.specs.Grounding.{Grounding}
use Rattle.lk_types.specs.Rows.{Label, label_order, has_label, no_fields, no_effects}
use Rattle.lk_types.specs.Schemes.{IsLacking}
use Rattle.lk_types.specs.Variables.{same_variable}
use Rattle.lk_types.specs.declared.ground.Ground.TheVariants as known
use Rattle.lk_types.specs.declared.scheme.Lack.{Lack}
use Rattle.lk_types.specs.declared.ty.Variable.{Variable}
use Rattle.lk_types.specs.declared.ty.Variable.TheVariants as variable

abbrev pub has_variable : List Variable → Variable → Bool
has_variable xs x = list_any (same_variable x) xs

abbrev pub restricted : List Variable → Grounding → Grounding
restricted xs τ = record {
  plain = λ n. if has_variable xs (variable.Plain n) then τ.plain n else known.Int;
  rows = λ n. if has_variable xs (variable.Row n) then τ.rows n else no_fields;
  effects = λ n. if has_variable xs (variable.Effects n) then τ.effects n else no_effects;
}

-- ---- variables in a list

-- each variable of a list is there
pub all_there : (xs : List Variable) → Each (λ y. has_variable xs y ≡ true) xs
all_there [] = tt
all_there (x ∷ xs) = (
  ap (λ b. b || has_variable xs x) (same_self x),
  each_weaker (λ y. has_variable xs y ≡ true) (λ y. has_variable (x ∷ xs) y ≡ true) (λ y. or_right (same_variable y x) (has_variable xs y)) xs (all_there xs),
)

pub one_there : (xs : List Variable) (x : Variable) → has_variable xs x ≡ true → OneOf (λ y. y ≡ x) xs
one_there [] x there = cc
one_there (y ∷ xs) x there = by_test (same_variable x y) refl (one_there xs x)
  where
    by_test : (b : Bool) → same_variable x y ≡ b → (has_variable xs x ≡ true → OneOf (λ z. z ≡ x) xs) → OneOf (λ z. z ≡ x) (y ∷ xs)
    by_test true is later = inl (same_sym x y is)
    by_test false is later = inr (later (sym (ap (λ b. b || has_variable xs x) is) ∙ there))

-- ---- what stands for them

pub agrees_at : (xs : List Variable) (τ : Grounding) (x : Variable) → has_variable xs x ≡ true → AgreeAt τ (restricted xs τ) x
agrees_at xs τ (variable.Plain n) there = ap (λ (b : Bool). if b then τ.plain n else known.Int) (sym there)
agrees_at xs τ (variable.Row n) there = ap (λ (b : Bool). if b then τ.rows n else no_fields) (sym there)
agrees_at xs τ (variable.Effects n) there = ap (λ (b : Bool). if b then τ.effects n else no_effects) (sym there)

pub restricted_agrees : (xs : List Variable) (τ : Grounding) (ys : List Variable) → Each (λ y. has_variable xs y ≡ true) ys → Each (AgreeAt τ (restricted xs τ)) ys
restricted_agrees xs τ ys there = each_weaker (λ y. has_variable xs y ≡ true) (AgreeAt τ (restricted xs τ)) (agrees_at xs τ) ys there

empty_lacks : (l : Label) → has_label no_fields l ≡ false
empty_lacks l = ap is_some (fin.get-empty label_order l)

-- a row variable that isn't among them lacks every label
pub restricted_lacking : (xs : List Variable) (τ : Grounding) (lack : Lack) → (has_variable xs (variable.Row lack.var) ≡ true → IsLacking τ lack) → IsLacking (restricted xs τ) lack
restricted_lacking xs τ lack at = by_test (has_variable xs (variable.Row lack.var)) at
  where
    by_test : (b : Bool) → (b ≡ true → IsLacking τ lack) → has_label (if b then τ.rows lack.var else no_fields) lack.label ≡ false
    by_test true at = at refl
    by_test false at = empty_lacks lack.label
