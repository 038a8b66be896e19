-- Integers of 64 signed bits.
use Rattle.std.proofs.Common.{◌≡◌, ◌<◌, ◌≤◌, ◌+◌, ℕ, ℤ, List, take, length, get_or, ◌&&◌, sym, ap, ap₂, ◌∙◌, pos, negsuc, Bool, true, w64, arith}
use Rattle.std.specs.Prelude.{FitsSigned}
use Rattle.std.specs.List.{list_all}
use Rattle.std.proofs.lemmas.List.{take_all}
use Rattle.std.proofs.lemmas.List.Folds.{list_all_more}
use Rattle.std.proofs.lemmas.Bool.Decides.{nat_tests}
use Rattle.lk_ast.specs.declared.table.Base.TheVariants.{Int}
use Rattle.lk_tables.specs.Words.{fits_word}

pub word_fits : (n : ℤ) → FitsSigned w64 n → fits_word (Int n) ≡ true
word_fits (pos n) fits = grind (arith, nat_tests)
word_fits (negsuc n) fits = grind (arith, nat_tests)

-- one element more
pub all_further : {X : Type 0} (p : X → Bool) (xs : List X) (i : ℕ) (x : X) → i < length xs → list_all p (take i xs) ≡ true → p x ≡ true → x ≡ get_or xs i x → list_all p (take (i + 1) xs) ≡ true
all_further p xs i x low was here at = list_all_more p xs i x low ∙ ap₂ (λ a b. a && b) was (ap p (sym at) ∙ here)

pub all_at_end : {X : Type 0} (p : X → Bool) (xs : List X) (i : ℕ) → length xs ≤ i → list_all p (take i xs) ≡ true → list_all p xs ≡ true
all_at_end p xs i high was = ap (list_all p) (sym (take_all i xs high)) ∙ was
