-- The places of variables in a list: each that is there has one, and what stands there is it.
use Rattle.std.proofs.Common.{◌≡◌, ℕ, zero, suc, ◌+◌, ◌<◌, ◌≤◌, Bool, true, false, not, cond, ◌||◌, List, [], ◌∷◌, ◌++◌, length, refl, sym, ap, subst, ◌∙◌, if◌then◌else◌}
use native.Mathlib.Omega.{arith}
use Rattle.std.specs.List.{list_any, position_or_len}
use Rattle.std.specs.Prelude.{fold}
use Rattle.lk_types.proofs.SameVariable.{same_is, same_self}
use Rattle.lk_typing.proofs.Lists.{length_append}
use Rattle.lk_types.specs.Each.{Each}
use Rattle.lk_types.specs.Variables.{firsts, same_variable, with_variable}
use Rattle.lk_types.specs.declared.ty.Variable.{Variable}
use Rattle.lk_types.specs.declared.ty.Variable.TheVariants as variable

-- the variable is in the list
abbrev pub IsThere : List Variable → Variable → Type 0
IsThere xs x = list_any (same_variable x) xs ≡ true

-- ---- in a list of variables in which each stands once

any_front : (p : Variable → Bool) (xs ys : List Variable) → list_any p xs ≡ true → list_any p (xs ++ ys) ≡ true
any_front p [] ys there = cc
any_front p (x ∷ xs) ys there = by_test (p x) there (any_front p xs ys)
  where
    by_test : (b : Bool) → (b || list_any p xs) ≡ true → (list_any p xs ≡ true → list_any p (xs ++ ys) ≡ true) → (b || list_any p (xs ++ ys)) ≡ true
    by_test true there later = refl
    by_test false there later = later there

any_last : (p : Variable → Bool) (xs : List Variable) (y : Variable) → p y ≡ true → list_any p (xs ++ y ∷ []) ≡ true
any_last p [] y passes = ap (λ b. b || false) passes
any_last p (x ∷ xs) y passes = by_test (p x) (any_last p xs y passes)
  where
    by_test : (b : Bool) → list_any p (xs ++ y ∷ []) ≡ true → (b || list_any p (xs ++ y ∷ [])) ≡ true
    by_test true later = refl
    by_test false later = later

-- one more leaves there what was there, and is there itself
kept_one : (x y : Variable) (xs : List Variable) (b : Bool) → IsThere xs x → IsThere (if b then xs else xs ++ y ∷ []) x
kept_one x y xs true there = there
kept_one x y xs false there = any_front (same_variable x) xs (y ∷ []) there

there_now : (y : Variable) (xs : List Variable) (b : Bool) → list_any (same_variable y) xs ≡ b → IsThere (if b then xs else xs ++ y ∷ []) y
there_now y xs true is = is
there_now y xs false is = any_last (same_variable y) xs y (same_self y)

kept_all : (seen xs : List Variable) (x : Variable) → IsThere seen x → IsThere (fold with_variable seen xs) x
kept_all seen [] x there = there
kept_all seen (y ∷ ys) x there = kept_all (with_variable seen y) ys x (kept_one x y seen (list_any (same_variable y) seen) there)

all_there : (seen xs : List Variable) → Each (IsThere (fold with_variable seen xs)) xs
all_there seen [] = tt
all_there seen (x ∷ xs) = (kept_all (with_variable seen x) xs x (there_now x seen (list_any (same_variable x) seen) refl), all_there (with_variable seen x) xs)

-- each variable is among those that come first
pub firsts_have : (xs : List Variable) → Each (IsThere (firsts xs)) xs
firsts_have xs = all_there [] xs

-- others that are there already add none
all_same : (seen xs : List Variable) → Each (IsThere seen) xs → fold with_variable seen xs ≡ seen
all_same seen [] there = refl
all_same seen (x ∷ xs) there = ap (λ b. fold with_variable (if b then seen else seen ++ x ∷ []) xs) there.0 ∙ all_same seen xs there.1

fold_both : (seen xs ys : List Variable) → fold with_variable seen (xs ++ ys) ≡ fold with_variable (fold with_variable seen xs) ys
fold_both seen [] ys = refl
fold_both seen (x ∷ xs) ys = fold_both (with_variable seen x) xs ys

pub firsts_same : (xs ys : List Variable) → Each (IsThere (firsts xs)) ys → firsts (xs ++ ys) ≡ firsts xs
firsts_same xs ys there = fold_both [] xs ys ∙ all_same (firsts xs) ys there

one_longer : (xs : List Variable) (y : Variable) (b : Bool) → length (if b then xs else xs ++ y ∷ []) ≤ 1 + length xs
one_longer xs y true = omega arith
one_longer xs y false = let all : length (xs ++ y ∷ []) ≡ length xs + 1 = length_append xs (y ∷ []) in omega arith

not_longer : (seen xs : List Variable) → length (fold with_variable seen xs) ≤ length seen + length xs
not_longer seen [] = omega arith
not_longer seen (x ∷ xs) =
    let one : length (with_variable seen x) ≤ 1 + length seen = one_longer seen x (list_any (same_variable x) seen) in
    let more : length (fold with_variable (with_variable seen x) xs) ≤ length (with_variable seen x) + length xs = not_longer (with_variable seen x) xs in
    omega arith

pub firsts_shorter : (xs : List Variable) → length (firsts xs) ≤ length xs
firsts_shorter xs = let less : length (firsts xs) ≤ 0 + length xs = not_longer [] xs in omega arith

-- ---- what stands at a place

abbrev pub number_of : Variable → ℕ
number_of (variable.Plain v) = v
number_of (variable.Row v) = v
number_of (variable.Effects v) = v

-- the number of the variable at that place
abbrev pub number_at : List Variable → ℕ → ℕ
number_at [] place = 0
number_at (x ∷ xs) zero = number_of x
number_at (x ∷ xs) (suc place) = number_at xs place

pub place_below : (x : Variable) (xs : List Variable) → IsThere xs x → position_or_len (same_variable x) xs < length xs
place_below x [] there = cc
place_below x (y ∷ ys) there = by_test (same_variable x y) there (place_below x ys)
  where
    by_test : (b : Bool) → (b || list_any (same_variable x) ys) ≡ true → (IsThere ys x → position_or_len (same_variable x) ys < length ys)
        → cond (not b) (1 + position_or_len (same_variable x) ys) 0 < suc (length ys)
    by_test true there later = omega arith
    by_test false there later = let less = later there in omega arith

pub number_there : (x : Variable) (xs : List Variable) → IsThere xs x → number_at xs (position_or_len (same_variable x) xs) ≡ number_of x
number_there x [] there = cc
number_there x (y ∷ ys) there = by_test (same_variable x y) refl there (number_there x ys)
  where
    by_test : (b : Bool) → same_variable x y ≡ b → (b || list_any (same_variable x) ys) ≡ true → (IsThere ys x → number_at ys (position_or_len (same_variable x) ys) ≡ number_of x)
        → number_at (y ∷ ys) (cond (not b) (1 + position_or_len (same_variable x) ys) 0) ≡ number_of x
    by_test true same there later = ap number_of (sym (same_is x y same))
    by_test false same there later =
        let next : 1 + position_or_len (same_variable x) ys ≡ suc (position_or_len (same_variable x) ys) = omega arith in
        subst (λ place. number_at (y ∷ ys) place ≡ number_of x) (sym next) (later there)
