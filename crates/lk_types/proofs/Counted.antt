-- Counts of nodes that stop where a type is too large.
use Rattle.std.proofs.Common.{arith, get_or, ◌≡◌, ◌⊎◌, inl, inr, ℕ, zero, suc, ◌+◌, ◌<◌, ◌≤◌, true, List, [], ◌∷◌, ◌++◌, length, map, nat_lt, refl, sym, ap, subst, take, ◌∙◌, ◌||◌}
use Rattle.std.proofs.lemmas.List.{get_or_append_left, get_or-append-add, length-append, map_more, take_all}
use Rattle.std.proofs.lemmas.List.Sums.{fold_push}
use Rattle.std.specs.List.{list_any}
use Rattle.std.specs.Prelude.{sum}
use Rattle.lk_types.proofs.Unfold.{nodes_bool, nodes_field, nodes_fields, nodes_function, nodes_int, nodes_list, nodes_row, nodes_tags, nodes_text, nodes_variable}
use Rattle.lk_types.specs.Counts.{is_over, part_nodes, AreCounts, IsCount}
use Rattle.lk_types.specs.Each.{Each}
use Rattle.lk_types.specs.Levels.{at, built, field_made, made, row_made, types_at, IsTable}
use Rattle.lk_types.specs.Sizes.{effects_nodes, field_nodes_with, most_nodes, nodes, one, row_nodes_with, tail_nodes}
use Rattle.lk_types.specs.declared.levels.Level.{Level}
use Rattle.lk_types.specs.declared.levels.Level.TheVariants as level
use Rattle.lk_types.specs.declared.levels.LevelField.{LevelField}
use Rattle.lk_types.specs.declared.levels.LevelRow.{LevelRow}
use Rattle.lk_types.specs.declared.ty.Effects.{Effects}
use Rattle.lk_types.specs.declared.ty.Ty.{Ty}
use Rattle.lk_types.specs.declared.ty.Ty.TheOpen.{TyRow-F}
use Rattle.lk_types.specs.declared.ty.Ty.TheVariants as ty
use Rattle.lk_types.specs.declared.ty.TyField.{TyField}
use Rattle.lk_types.specs.declared.ty.TyRow.{TyRow, out-roll-TyRow}
use Rattle.lk_types.specs.declared.ty.Variable.TheVariants as variable
use Rattle.std.proofs.lemmas.Bool.Decides.{nat_tests}

-- ---- one count

pub count_one : IsCount 1 1
count_one = inl (refl, omega arith)

count_is : (c n m : ℕ) → n ≡ m → IsCount c n → IsCount c m
count_is c n m is = subst (IsCount c) is

-- the larger side of the test is the same for the count
pub same_test : (c n : ℕ) → IsCount c n → nat_lt most_nodes c ≡ nat_lt most_nodes n
same_test c n (inl (is, small)) = ap (nat_lt most_nodes) is
same_test c n (inr (is, large)) = over c is ∙ sym (above n large)
  where
    over : (c : ℕ) → c ≡ 4097 → nat_lt most_nodes c ≡ true
    over c is = grind (arith, nat_tests)

    above : (n : ℕ) → 4096 < n → nat_lt most_nodes n ≡ true
    above n large = grind (arith, nat_tests)

-- ---- sums

sum_last : (xs : List ℕ) (x : ℕ) → sum (xs ++ x ∷ []) ≡ sum xs + x
sum_last xs x = fold_push (λ a b. a + b) 0 xs x

pub one_more : {X : Type 0} (f : X → ℕ) (xs : List X) (i : ℕ) (d : X) → i < length xs → sum (map f (take (i + 1) xs)) ≡ sum (map f (take i xs)) + f (get_or xs i d)
one_more f xs i d less = ap sum (map_more f xs i d less) ∙ sum_last (map f (take i xs)) (f (get_or xs i d))

-- the step of a loop that counts, and its end
module _ {X : Type 0} (f : X → ℕ) (xs : List X) (i : ℕ) (total : ℕ) (so_far : IsCount total (sum (map f (take i xs)))) where
  pub count_more : (d : X) (part new : ℕ) → i < length xs → ((n m : ℕ) → IsCount total n → IsCount part m → IsCount new (n + m)) → IsCount part (f (get_or xs i d)) → IsCount new (sum (map f (take (i + 1) xs)))
  count_more d part new less both count = count_is new _ _ (sym (one_more f xs i d less)) (both _ _ so_far count)

  pub count_whole : length xs ≤ i → IsCount total (sum (map f xs))
  count_whole all = count_is total _ _ (ap (λ ys. sum (map f ys)) (take_all i xs all)) so_far

-- what is counted at a place that was read of a list
pub count_at : (ts : List Ty) (counts places : List ℕ) (i : ℕ) → AreCounts counts ts → Each (λ n. n < length counts) places → i < length places → IsCount (get_or counts (get_or places i 0) 0) (nodes (at ts (get_or places i 0)))
count_at ts counts places i are all less = are (get_or places i 0) (within places i all less)
  where
    within : (ns : List ℕ) (i : ℕ) → Each (λ n. n < length counts) ns → i < length ns → get_or ns i 0 < length counts
    within [] i all less = absurd (none i less)
      where
        none : (n : ℕ) → n < 0 → ⊥
        none n less = omega arith
    within (n ∷ ns) zero all less = all.0
    within (n ∷ ns) (suc i) all less = within ns i all.1 (omega arith)

-- ---- a level

map_twice : {X Y Z : Type 0} (f : Y → Z) (g : X → Y) (xs : List X) → map f (map g xs) ≡ map (λ x. f (g x)) xs
map_twice f g [] = refl
map_twice f g (x ∷ xs) = ap (λ ys. f (g x) ∷ ys) (map_twice f g xs)

fields_counted : (ts : List Ty) (fs : List LevelField) → map (field_nodes_with one) (map (field_made ts) fs) ≡ map (part_nodes ts) fs
fields_counted ts [] = refl
fields_counted ts (f ∷ fs) = ap (λ n. n ∷ map (field_nodes_with one) (map (field_made ts) fs)) (nodes_field one (field_made ts f)) ∙ ap (λ ns. part_nodes ts f ∷ ns) (fields_counted ts fs)

pub row_counted : (ts : List Ty) (row : LevelRow) → row_nodes_with one (row_made ts row) ≡ sum (map (part_nodes ts) row.fields) + tail_nodes one variable.Row row.tail
row_counted ts row =
    nodes_row one (row_made ts row)
    ∙ ap (λ (x : TyRow-F Ty TyField TyRow). sum (map (field_nodes_with one) x.fields) + tail_nodes one variable.Row x.tail) (out-roll-TyRow (record { fields = map (field_made ts) row.fields; tail = row.tail }))
    ∙ ap (λ ns. sum ns + tail_nodes one variable.Row row.tail) (fields_counted ts row.fields)

pub fun_counted : (ts : List Ty) (params : List ℕ) (es : Effects) (n : ℕ) → nodes (ty.Fun (map (at ts) params) es (at ts n)) ≡ 1 + (sum (map (λ p. nodes (at ts p)) params) + (effects_nodes one es + nodes (at ts n)))
fun_counted ts params es n = nodes_function one (map (at ts) params) es (at ts n) ∙ ap (λ ns. 1 + (sum ns + (effects_nodes one es + nodes (at ts n)))) (map_twice nodes (at ts) params)

-- the level, and what is counted of its type
module _ (ts : List Ty) (l : Level) (c : ℕ) where
  of_level : (m : Level) (n : ℕ) → l ≡ m → nodes (made ts m) ≡ n → IsCount c n → IsCount c (nodes (made ts l))
  of_level m n is nodes_are count = subst (λ x. IsCount c (nodes (made ts x))) (sym is) (subst (IsCount c) (sym nodes_are) count)

  pub level_int : l ≡ level.Int → IsCount c 1 → IsCount c (nodes (made ts l))
  level_int is = of_level level.Int 1 is (nodes_int one)

  pub level_bool : l ≡ level.Bool → IsCount c 1 → IsCount c (nodes (made ts l))
  level_bool is = of_level level.Bool 1 is (nodes_bool one)

  pub level_text : l ≡ level.Text → IsCount c 1 → IsCount c (nodes (made ts l))
  level_text is = of_level level.Text 1 is (nodes_text one)

  pub level_list : (n : ℕ) → l ≡ level.List n → IsCount c (1 + nodes (at ts n)) → IsCount c (nodes (made ts l))
  level_list n is = of_level (level.List n) _ is (nodes_list one (at ts n))

  pub level_fields : (row : LevelRow) → l ≡ level.Fields row → IsCount c (1 + row_nodes_with one (row_made ts row)) → IsCount c (nodes (made ts l))
  level_fields row is = of_level (level.Fields row) _ is (nodes_fields one (row_made ts row))

  pub level_tags : (row : LevelRow) → l ≡ level.Tags row → IsCount c (1 + row_nodes_with one (row_made ts row)) → IsCount c (nodes (made ts l))
  level_tags row is = of_level (level.Tags row) _ is (nodes_tags one (row_made ts row))

  pub level_fun : (params : List ℕ) (es : Effects) (n : ℕ) → l ≡ level.Fun params es n → IsCount c (1 + (sum (map (λ p. nodes (at ts p)) params) + (effects_nodes one es + nodes (at ts n)))) → IsCount c (nodes (made ts l))
  level_fun params es n is = of_level (level.Fun params es n) _ is (fun_counted ts params es n)

  pub level_var : (n : ℕ) → l ≡ level.Var n → IsCount c 1 → IsCount c (nodes (made ts l))
  level_var n is = of_level (level.Var n) 1 is (nodes_variable one n)

-- ---- all levels

pub counts_more : (ts : List Ty) (counts : List ℕ) (c : ℕ) → AreCounts counts ts → IsCount c (nodes (at ts (length counts))) → AreCounts (counts ++ c ∷ []) ts
counts_more ts counts c are is k less = by_place counts k (subst (λ n. k < n) (length-append counts (c ∷ [])) less)
  where
    by_place : (xs : List ℕ) (k : ℕ) → k < length counts + 1 → IsCount (get_or (counts ++ c ∷ []) k 0) (nodes (at ts k))
    by_place xs k less = split (last_or_before (length counts) k less)
      where
        last_or_before : (n k : ℕ) → k < n + 1 → (k < n) ⊎ (k ≡ n + 0)
        last_or_before zero zero less = inr refl
        last_or_before zero (suc k) less = absurd (omega arith)
        last_or_before (suc n) zero less = inl (omega arith)
        last_or_before (suc n) (suc k) less = next (last_or_before n k (omega arith))
          where
            next : (k < n) ⊎ (k ≡ n + 0) → (suc k < suc n) ⊎ (suc k ≡ suc n + 0)
            next (inl below) = inl (omega arith)
            next (inr same) = inr (omega arith)

        split : (k < length counts) ⊎ (k ≡ length counts + 0) → IsCount (get_or (counts ++ c ∷ []) k 0) (nodes (at ts k))
        split (inl below) = subst (λ x. IsCount x (nodes (at ts k))) (sym (get_or_append_left counts (c ∷ []) 0 k below)) (are k below)
        split (inr last) =
            subst (λ j. IsCount (get_or (counts ++ c ∷ []) j 0) (nodes (at ts j))) (sym last)
            (subst (λ x. IsCount x (nodes (at ts (length counts + 0)))) (sym (get_or-append-add counts (c ∷ []) 0 0)) (subst (λ j. IsCount c (nodes (at ts j))) (no_more (length counts)) is))
          where
            no_more : (n : ℕ) → n ≡ n + 0
            no_more n = omega arith

-- whether one is over, by the counts or by the types
pub any_same : (levels : List Level) (counts : List ℕ) (roots : List ℕ) → AreCounts counts (built levels) → Each (λ n. n < length counts) roots → list_any (is_over counts) roots ≡ list_any (λ t. nat_lt most_nodes (nodes t)) (types_at levels roots)
any_same levels counts [] are all = refl
any_same levels counts (r ∷ roots) are all =
    ap (λ b. b || list_any (is_over counts) roots) (same_test (get_or counts r 0) (nodes (at (built levels) r)) (are r all.0))
    ∙ ap (λ b. nat_lt most_nodes (nodes (at (built levels) r)) || b) (any_same levels counts roots are all.1)

pub counts_push : (ts : List Ty) (counts new : List ℕ) (c i : ℕ) → new ≡ counts ++ c ∷ [] → length counts ≡ i → AreCounts counts ts → IsCount c (nodes (at ts i)) → (length new ≡ i + 1) × AreCounts new ts
counts_push ts counts new c i is long are count = (
  ap length is ∙ length-append counts (c ∷ []) ∙ ap (λ n. n + 1) long,
  subst (λ xs. AreCounts xs ts) (sym is) (counts_more ts counts c are (subst (λ n. IsCount c (nodes (at ts n))) (sym long) count)),
)

-- what is answered of a table
pub answer_same : (levels : List Level) (roots counts read places : List ℕ) → IsTable levels roots → (length counts ≡ length levels) × AreCounts counts (built levels) → read ≡ counts → places ≡ roots → list_any (is_over read) places ≡ list_any (λ t. nat_lt most_nodes (nodes t)) (types_at levels roots)
answer_same levels roots counts read places table counted same there =
    ap (λ xs. list_any (is_over xs) places) same
    ∙ ap (list_any (is_over counts)) there
    ∙ any_same levels counts roots counted.1 (subst (λ n. Each (λ r. r < n) roots) (sym counted.0) table.roots_below)
