-- What a count of nodes says of their number.
use Rattle.std.proofs.Common.{◌≡◌, ◌<◌, ◌≤◌, arith, sym, ap, ◌∙◌, ℕ, ◌-◌, Option, Some, None, Bool, true, false, is_some, nat_le, if◌then◌else◌}
use Rattle.std.proofs.lemmas.Bool.Decides.{nat_tests}
use Rattle.lk_bodies.specs.Nodes.{spent}

found_or : (b : Bool) (n : ℕ) → is_some (if b then Some n else None) ≡ b
found_or true n = λ i. true
found_or false n = λ i. false

spent_some : (most n : ℕ) → is_some (spent most n) ≡ nat_le n most
unfolding spent
spent_some most n = found_or (nat_le n most) (most - n)

-- nothing is left, so there are more
pub too_many : (most n m : ℕ) (left : Option ℕ) → left ≡ spent most n → n ≡ m → is_some left ≡ false → most < m
too_many most n m left is same none =
    let test : nat_le n most ≡ false = sym (spent_some most n) ∙ ap is_some (sym is) ∙ none in
    let more : most < n = grind (arith, nat_tests, test) in
    omega (arith, more, same)

-- something is left, if only nothing
pub enough : (most n m : ℕ) (left : Option ℕ) → left ≡ spent most n → n ≡ m → is_some left ≡ true → m ≤ most
enough most n m left is same some =
    let test : nat_le n most ≡ true = sym (spent_some most n) ∙ ap is_some (sym is) ∙ some in
    let le : n ≤ most = grind (arith, nat_tests, test) in
    omega (arith, le, same)
