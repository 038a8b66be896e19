-- The bytes of the texts of a change's scalars.
use Rattle.std.proofs.Common.{◌≡◌, ℕ, zero, suc, ◌<◌, ◌≤◌, List, [], ◌∷◌, length, Some, None, refl, sym, ◌∙◌, subst, arith}
use Rattle.lk_sql.specs.Text.{scalar_text}
use Rattle.lk_sql.specs.declared.tree.Change.{Change}
use Rattle.lk_sql.specs.declared.tree.Out.{Out}
use Rattle.lk_norm.specs.Changes.{change_bytes, change_paid, sets_bytes, sets_paid}
use Rattle.lk_norm.specs.Limits.{most_bytes}
use Rattle.lk_norm.specs.Made.{behind, paid, taken}
use Rattle.lk_norm.proofs.Budget.{taken_both}

some-none : {X : Type 0} {x : X} → Some x ≡ None → ⊥
some-none e = subst (λ o. elim o as (λ _. Type 0) [ None ↦ ⊥ | Some _ ↦ Unit {0} ]) e tt

taken-fits : (n left after : ℕ) → taken n left ≡ Some after → n ≤ left
unfolding taken
taken-fits zero left after e = omega arith
taken-fits (suc n) zero after e = absurd (some-none (sym e))
taken-fits (suc n) (suc left) after e = let l = taken-fits n left after e in omega (arith, l)

taken-refused : (n left : ℕ) → taken n left ≡ None → left < n
unfolding taken
taken-refused zero left e = absurd (some-none e)
taken-refused (suc n) zero e = omega arith
taken-refused (suc n) (suc left) e = let l = taken-refused n left e in omega (arith, l)

sets-taken : (sets : List Out) (left : ℕ) → sets_paid sets left ≡ taken (sets_bytes sets) left
unfolding taken paid
sets-taken [] left = refl
sets-taken (set ∷ sets) left = (λ i. behind (paid set.scalar left) (λ l. sets-taken sets l i)) ∙ sym (taken_both (length (scalar_text set.scalar)) (sets_bytes sets) left)

change-taken : (change : Change) (left : ℕ) → change_paid change left ≡ taken (change_bytes change) left
unfolding paid
change-taken change left = (λ i. behind (paid change.cond left) (λ l. sets-taken change.sets l i)) ∙ sym (taken_both (length (scalar_text change.cond)) (sets_bytes change.sets) left)

-- what is made has no more bytes than there were
pub change-fits : (change : Change) (after : ℕ) → change_paid change most_bytes ≡ Some after → change_bytes change ≤ most_bytes
change-fits change after e = taken-fits (change_bytes change) most_bytes after (sym (change-taken change most_bytes) ∙ e)

-- where no bytes are left, there are more
pub change-refused : (change : Change) → change_paid change most_bytes ≡ None → most_bytes < change_bytes change
change-refused change e = taken-refused (change_bytes change) most_bytes (sym (change-taken change most_bytes) ∙ e)
