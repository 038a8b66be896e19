-- Counts of branches, no further than to one more than are allowed.
use Rattle.std.proofs.Common.{◌≡◌, ℕ, zero, suc, ◌+◌, ◌*◌, ◌-◌, ◌<◌, ◌≤◌, ◌==◌, Bool, true, false, if◌then◌else◌, ◌⊎◌, inl, inr, List, [], ◌∷◌, ◌++◌, length, get_or, drop, refl, sym, ◌∙◌, ap, ap₂, subst, arith, length-append, suc-mul, zero-mul}
use Rattle.std.proofs.Math.Nat.{mul-suc, mul-zero}
use Rattle.std.proofs.lemmas.Bool.{cases_lt}
use Rattle.std.proofs.lemmas.Bool.Decides.{Decides-eqb}
use Rattle.std.specs.Bool.{Decides}
use Rattle.std.proofs.lemmas.List.{drop_more, get_or_append_left, get_or-append-add, get_or_past}
use Rattle.lk_query.specs.Branches.{count_level, counts}
use Rattle.lk_query.specs.Order.{bind, filled, filled_from}
use Rattle.lk_query.specs.declared.part.Part.{Part}
use Rattle.lk_query.specs.declared.part.Part.TheVariants as part
use Rattle.lk_query.proofs.Parts.{filled-related}
use Rattle.lk_norm.specs.Capped.{capped, capped_level, count_at}

-- ---- numbers

capped_sum : (a b : ℕ) → capped (capped a + capped b) ≡ capped (a + b)
capped_sum a b = omega arith

large : (a b : ℕ) → 1025 ≤ a → 1025 ≤ a * suc b
large a b l = let e = mul-suc a b in omega (arith, l, e)

large_first : (a b : ℕ) → 1025 ≤ a → 1025 ≤ suc b * a
large_first a b l = let e = suc-mul b a in omega (arith, l, e)

capped_large : (n : ℕ) → 1025 ≤ n → capped n ≡ 1025
capped_large n l = omega (arith, l)

capped_small : (n : ℕ) → n ≤ 1025 → capped n ≡ n
capped_small n l = omega (arith, l)

capped_more : (a : ℕ) → 1 ≤ a → 1 ≤ capped a
capped_more a l = omega (arith, l)

capped_product : (a b : ℕ) → capped (capped a * capped b) ≡ capped (a * b)
capped_product zero b = ap capped (zero-mul (capped b) ∙ sym (zero-mul b))
capped_product (suc a) zero = ap capped (mul-zero (capped (suc a)) ∙ sym (mul-zero (suc a)))
capped_product (suc a) (suc b) = cases (cases_lt (suc a) 1025) (cases_lt (suc b) 1025)
  where
    pred : (n : ℕ) → 1 ≤ n → n ≡ suc (n - 1)
    pred n l = omega (arith, l)

    cases : (suc a < 1025) ⊎ (1025 ≤ suc a) → (suc b < 1025) ⊎ (1025 ≤ suc b) → capped (capped (suc a) * capped (suc b)) ≡ capped (suc a * suc b)
    cases (inl l) (inl m) = ap₂ (λ x y. capped (x * y)) (capped_small (suc a) (omega (arith, l))) (capped_small (suc b) (omega (arith, m)))
    cases (inr l) m =
        ap₂ (λ x y. capped (x * y)) (capped_large (suc a) l) (pred (capped (suc b)) (capped_more (suc b) (omega arith)))
        ∙ capped_large (1025 * suc (capped (suc b) - 1)) (large 1025 (capped (suc b) - 1) (omega arith))
        ∙ sym (capped_large (suc a * suc b) (large (suc a) b l))
    cases (inl l) (inr m) =
        ap₂ (λ x y. capped (x * y)) (pred (capped (suc a)) (capped_more (suc a) (omega arith))) (capped_large (suc b) m)
        ∙ capped_large (suc (capped (suc a) - 1) * 1025) (large_first 1025 (capped (suc a) - 1) (omega arith))
        ∙ sym (capped_large (suc a * suc b) (large_first (suc b) a m))

-- ---- parts

level_capped : (f g : ℕ → ℕ) → ((k : ℕ) → f k ≡ capped (g k)) → (n : ℕ) (x : Part) → capped_level f n x ≡ capped (count_level g n x)
level_capped f g h n (part.Lit b) = refl
level_capped f g h n part.Bound = refl
level_capped f g h n (part.Case c a b) = refl
level_capped f g h n (part.If c a b) = ap₂ (λ x y. capped (x + y)) (h a) (h b) ∙ capped_sum (g a) (g b)
level_capped f g h n (part.IfRow labels c a b) = refl
level_capped f g h n (part.One o a) = refl
level_capped f g h n (part.Two o a b) = refl
level_capped f g h n (part.EqRows labels a b) = refl
level_capped f g h n (part.Empty columns list) = refl
level_capped f g h n (part.Record items) = refl
level_capped f g h n (part.Extend labels items rest) = refl
level_capped f g h n (part.Project a label) = refl
level_capped f g h n (part.Items items) = refl
level_capped f g h n (part.Append a b) = ap₂ (λ x y. capped (x + y)) (h a) (h b) ∙ capped_sum (g a) (g b)
level_capped f g h n (part.ForList list x body) = ap₂ (λ x y. capped (x * y)) (h list) (h body) ∙ capped_product (g list) (g body)
level_capped f g h n (part.Table table labels) = refl
level_capped f g h n (part.Where c list) = h list

-- the number of a part doesn't count
any_level : (own : ℕ → ℕ) (k n : ℕ) (x : Part) → capped_level own k x ≡ capped_level own n x
any_level own k n (part.Lit b) = refl
any_level own k n part.Bound = refl
any_level own k n (part.Case c a b) = refl
any_level own k n (part.If c a b) = refl
any_level own k n (part.IfRow labels c a b) = refl
any_level own k n (part.One o a) = refl
any_level own k n (part.Two o a b) = refl
any_level own k n (part.EqRows labels a b) = refl
any_level own k n (part.Empty columns list) = refl
any_level own k n (part.Record items) = refl
any_level own k n (part.Extend labels items rest) = refl
any_level own k n (part.Project a label) = refl
any_level own k n (part.Items items) = refl
any_level own k n (part.Append a b) = refl
any_level own k n (part.ForList list x body) = refl
any_level own k n (part.Table table labels) = refl
any_level own k n (part.Where c list) = refl

-- the counts of all parts, no further than that
capped_counts : (parts : List Part) (n : ℕ) → filled capped_level 0 parts n ≡ capped (counts parts n)
unfolding counts
capped_counts parts n = filled-related (λ a b. a ≡ capped b) capped_level count_level level_capped 0 0 refl parts n

-- ---- the code's list of them

wrong : false ≡ true → ⊥
wrong e = subst (λ b. elim b as (λ _. Type 0) [ true ↦ ⊥ | false ↦ Unit {0} ]) e tt

apart_from : (n k : ℕ) → (n ≡ k → ⊥) → (n < k) ⊎ (k < n)
apart_from n k e = pick (cases_lt n k) (cases_lt k n)
  where
    pick : (n < k) ⊎ (k ≤ n) → (k < n) ⊎ (n ≤ k) → (n < k) ⊎ (k < n)
    pick (inl l) m = inl l
    pick (inr l) (inl m) = inr m
    pick (inr l) (inr m) = absurd (e (omega (arith, l, m)))

one_more : (found : List ℕ) (v n : ℕ) → bind (length found) v (count_at found) n ≡ count_at (found ++ v ∷ []) n
one_more found v n = step (n == length found) (Decides-eqb n (length found))
  where
    behind : (k : ℕ) → n ≡ length found + k → 1 ≤ k → get_or found n 0 ≡ get_or (found ++ v ∷ []) n 0
    behind k is l = get_or_past found n 0 (omega (arith, is)) ∙ sym (get_or_past (found ++ v ∷ []) n 0 (let e = length-append found (v ∷ []) in omega (arith, e, is, l)))

    apart : (n < length found) ⊎ (length found < n) → get_or found n 0 ≡ get_or (found ++ v ∷ []) n 0
    apart (inl l) = sym (get_or_append_left found (v ∷ []) 0 n l)
    apart (inr l) = behind (n - length found) (omega (arith, l)) (omega (arith, l))

    step : (b : Bool) → Decides b (n ≡ length found) → (if b then v else get_or found n 0) ≡ get_or (found ++ v ∷ []) n 0
    step true e = sym (ap (λ k. get_or (found ++ v ∷ []) k 0) (e.0 refl ∙ omega arith) ∙ get_or-append-add found (v ∷ []) 0 0)
    step false e = apart (apart_from n (length found) (λ is. wrong (e.1 is)))

more_of : (found : List ℕ) (v : ℕ) → bind (length found) v (count_at found) ≡ count_at (found ++ v ∷ [])
more_of found v = λ i n. one_more found v n i

abbrev pub IsCounted : List Part → List Part → List ℕ → Type 0
IsCounted parts rest found = filled_from capped_level (length found) (count_at found) rest ≡ filled capped_level 0 parts

pub counted_more : (parts rest : List Part) (found new : List ℕ) (x : Part) (v k : ℕ) → v ≡ capped_level (count_at found) k x → new ≡ found ++ v ∷ [] → IsCounted parts (x ∷ rest) found → IsCounted parts rest new
counted_more parts rest found new x v k is now was = ap (λ new. filled_from capped_level (length new) (count_at new) rest) now
    ∙ ap₂ (λ k f. filled_from capped_level k f rest) (length-append found (v ∷ [])) (sym (more_of found v))
    ∙ ap (λ v. filled_from capped_level (length found + 1) (bind (length found) v (count_at found)) rest) is
    ∙ ap (λ v. filled_from capped_level (length found + 1) (bind (length found) v (count_at found)) rest) (any_level (count_at found) k (length found) x)
    ∙ was

pub counted_step : (parts : List Part) (i : ℕ) (found slice new : List ℕ) (x d : Part) (v : ℕ) → i < length parts → x ≡ get_or parts i d → v ≡ capped_level (count_at slice) 0 x → slice ≡ found → new ≡ found ++ v ∷ []
    → IsCounted parts (drop i parts) found → IsCounted parts (drop (i + 1) parts) new
counted_step parts i found slice new x d v within at is same now was =
    counted_more parts (drop (i + 1) parts) found new x v 0 (is ∙ ap (λ found. capped_level (count_at found) 0 x) same) now
    (subst (λ rest. IsCounted parts rest found) (drop_more parts i d within ∙ ap (λ x. x ∷ drop (i + 1) parts) (sym at)) was)

pub counted_all : (parts : List Part) (found : List ℕ) → IsCounted parts [] found → (n : ℕ) → count_at found n ≡ capped (counts parts n)
counted_all parts found is n = (λ i. is i n) ∙ capped_counts parts n
