-- The row in scope of a number, and one row more.
use Rattle.std.proofs.Common.{arith, cond, eq-eqb, ne_eqb, ◌≢◌, ◌≡◌, refl, sym, ap, ◌∙◌, ℕ, suc, ◌-◌, ◌<◌, ◌≤◌, List, [], ◌∷◌, ◌++◌, get_or, length, take}
use Rattle.std.proofs.Math.Seq.{take-suc}
use Rattle.lk_exec.specs.Scopes.{entered, scope_of}
use Rattle.lk_exec.specs.declared.scope.Bound.{Bound}
use Rattle.lk_sql.specs.Meaning.{Scope, no_rows, with_row}

-- one row more in scope
pub entered_more : (bounds : List Bound) (bound : Bound) (scope : Scope) → entered (bounds ++ bound ∷ []) scope ≡ with_row bound.number bound.row.now (entered bounds scope)
entered_more [] bound scope = refl
entered_more (first ∷ bounds) bound scope = entered_more bounds bound (with_row first.number first.row.now scope)

-- the last of some rows in scope hides those before it
pub last_entered : (bounds : List Bound) (count : ℕ) (bound : Bound) → 0 < count → count ≤ length bounds → bound ≡ get_or bounds (count - 1) bound
    → scope_of (take count bounds) ≡ with_row bound.number bound.row.now (scope_of (take (count - 1) bounds))
last_entered bounds count bound some within is =
    let one_more : count ≡ suc (count - 1) = omega (arith, some) in
    let below : count - 1 < length bounds = omega (arith, some, within) in
    let whole : take count bounds ≡ take (count - 1) bounds ++ bound ∷ [] = ap (λ n. take n bounds) one_more ∙ take-suc bounds (count - 1) bound below ∙ ap (λ b. take (count - 1) bounds ++ b ∷ []) (sym is) in
    ap scope_of whole ∙ entered_more (take (count - 1) bounds) bound no_rows

-- the row of that number: that of the last one, if it has the number, and else that of those before it
pub row_there : (bounds : List Bound) (count : ℕ) (bound : Bound) (number : ℕ) → 0 < count → count ≤ length bounds → bound ≡ get_or bounds (count - 1) bound → bound.number ≡ number
    → scope_of (take count bounds) number ≡ scope_of bounds number → bound.row.now ≡ scope_of bounds number
row_there bounds count bound number some within is same left =
    sym (ap (λ b. cond b bound.row.now (scope_of (take (count - 1) bounds) number)) (eq-eqb number bound.number (sym same))) ∙ sym (ap (λ s. s number) (last_entered bounds count bound some within is)) ∙ left

pub row_before : (bounds : List Bound) (count : ℕ) (bound : Bound) (number : ℕ) → 0 < count → count ≤ length bounds → bound ≡ get_or bounds (count - 1) bound → bound.number ≢ number
    → scope_of (take count bounds) number ≡ scope_of bounds number → scope_of (take (count - 1) bounds) number ≡ scope_of bounds number
row_before bounds count bound number some within is other left =
    sym (ap (λ b. cond b bound.row.now (scope_of (take (count - 1) bounds) number)) (ne_eqb number bound.number (λ same. other (sym same)))) ∙ sym (ap (λ s. s number) (last_entered bounds count bound some within is)) ∙ left
