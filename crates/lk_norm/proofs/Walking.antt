-- Walks of lists.
use Rattle.std.proofs.Common.{◌≡◌, ℕ, ◌+◌, ◌<◌, List, [], ◌∷◌, ◌++◌, length, map, Option, Some, None, Result, Err, drop, get_or, refl, sym, ◌∙◌, ap, subst, arith}
use Rattle.std.specs.List.{flat_map}
use Rattle.std.proofs.lemmas.Grind.{flat_map-append}
use Rattle.std.proofs.lemmas.List.Concat.{flat_map_single}
use Rattle.std.proofs.lemmas.List.{append_assoc, append-nil, drop_more}
use Rattle.lk_ast.specs.declared.table.Column.{Column}
use Rattle.lk_sql.specs.declared.tree.FromItem.{FromItem}
use Rattle.lk_sql.specs.declared.tree.Scalar.{Scalar}
use Rattle.lk_sql.specs.declared.tree.Select.{Select}
use Rattle.lk_query.specs.Branches.{counts}
use Rattle.lk_query.specs.Captured.{bindings_from}
use Rattle.lk_query.specs.declared.part.Part.{Part}
use Rattle.lk_norm.specs.Capped.{capped}
use Rattle.lk_norm.specs.Law.{NoLists}
use Rattle.lk_norm.specs.Made.{StopsFor, behind, taken}
use Rattle.lk_norm.specs.Normal.{Branch, as_row, columns_of, norms, select, selects}
use Rattle.lk_norm.specs.Scopes.{names_in}
use Rattle.lk_norm.specs.Walks.{Adds, all_paid, or_none, or_none_paid, select_paid}
use Rattle.lk_norm.specs.declared.names.Scope.{Scope}
use Rattle.lk_norm.specs.declared.names.Scope.TheVariants as variant
use Rattle.lk_norm.specs.declared.stop.Stop.{Stop}
use Rattle.lk_norm.specs.declared.stop.Stop.TheVariants as stop
use Rattle.lk_norm.proofs.Counts.{captured-no_lists, counted, no-lists}
use Rattle.lk_norm.proofs.Making.{behind_both, nothing_more}

-- ---- lists that have no branch

pub names_no_lists : (parts : List Part) (scope : Scope) → NoLists (names_in parts scope)
unfolding names_in
names_no_lists parts (variant.Captured first list) = captured-no_lists 1 (bindings_from first list.now)
names_no_lists parts (variant.Row' x item count p inner q outer) = no-lists x (as_row (λ n. (norms parts item (names_in parts inner)).row count)) (names_in parts outer) (λ m g c. refl) (names_no_lists parts outer)
names_no_lists parts (variant.Columns' x generator labels q outer) = no-lists x (as_row (λ n. columns_of generator labels.now)) (names_in parts outer) (λ m g c. refl) (names_no_lists parts outer)

pub nothing_bound : (parts : List Part) (scope : Scope) (n outer : ℕ) (froms : List FromItem) (cond : Scalar) → (names_in parts scope n).list outer froms cond ≡ []
nothing_bound parts scope n outer froms cond = names_no_lists parts scope n outer froms cond

empty_of : {X : Type 0} (xs : List X) → length xs ≡ 0 → xs ≡ []
empty_of [] e = refl
empty_of (x ∷ xs) e = absurd (omega (arith, e))

pub none_there : (parts : List Part) (at : ℕ) (scope : Scope) (outer : ℕ) (froms : List FromItem) (cond : Scalar)
    → capped (counts parts at) ≡ 0 → (norms parts at (names_in parts scope)).list outer froms cond ≡ []
none_there parts at scope outer froms cond e =
    let h = counted parts at (names_in parts scope) (names_no_lists parts scope) outer froms cond in
    empty_of ((norms parts at (names_in parts scope)).list outer froms cond) (h ∙ omega (arith, e))

-- ---- selects, one behind the other

pub all_both : (ss others : List Select) (left : ℕ) → all_paid (ss ++ others) left ≡ behind (all_paid ss left) (all_paid others)
all_both [] others left = refl
all_both (s ∷ ss) others left =
    (λ i. behind (taken 11 left) (λ l. behind (select_paid s l) (λ l. all_both ss others l i)))
    ∙ (λ i. behind (taken 11 left) (λ l. sym (behind_both (select_paid s l) (all_paid ss) (all_paid others)) i))
    ∙ sym (behind_both (taken 11 left) (λ l. behind (select_paid s l) (all_paid ss)) (all_paid others))

-- where a list has no branch, nothing is added
pub adds_nothing : {X : Type 0} (f : X → List Select) (xs : List X) (ss : List Select) (left : ℕ) → xs ≡ [] → (ss ≡ ss ++ flat_map f xs) × (all_paid (flat_map f xs) left ≡ Some left)
adds_nothing f xs ss left e = (sym (append-nil ss) ∙ ap (λ xs. ss ++ flat_map f xs) (sym e), ap (λ xs. all_paid (flat_map f xs) left) e)

pub each_one : (branches : List Branch) → flat_map (λ b. select b ∷ []) branches ≡ map select branches
each_one branches = flat_map_single select branches

pub some_selects : (columns : List Column) (branches : List Branch) → selects columns branches ≡ or_none columns (map select branches)
some_selects columns [] = refl
some_selects columns (b ∷ branches) = refl

pub some_paid : (columns : List Column) (branches : List Branch) (left : ℕ) → all_paid (selects columns branches) left ≡ behind (all_paid (map select branches) left) (or_none_paid columns (map select branches))
some_paid columns [] left = refl
some_paid columns (b ∷ branches) left = nothing_more (all_paid (select b ∷ map select branches) left)

pub flat_both : {X Y : Type 0} (f : X → List Y) (xs ys : List X) → flat_map f (xs ++ ys) ≡ flat_map f xs ++ flat_map f ys
flat_both f xs ys = flat_map-append f xs ys

pub onto_both : {X : Type 0} (xs ys zs : List X) → (xs ++ ys) ++ zs ≡ xs ++ (ys ++ zs)
onto_both xs ys zs = append_assoc xs ys zs

pub onto_nothing : {X : Type 0} (xs : List X) → xs ++ [] ≡ xs
onto_nothing xs = append-nil xs

pub flat_flat : {X Y Z : Type 0} (f : Y → List Z) (g : X → List Y) (xs : List X) → flat_map f (flat_map g xs) ≡ flat_map (λ x. flat_map f (g x)) xs
flat_flat f g [] = refl
flat_flat f g (x ∷ xs) = flat_map-append f (g x) (flat_map g xs) ∙ ap (λ z. flat_map f (g x) ++ z) (flat_flat f g xs)

-- ---- the loop over items

stops_of : (why : Stop) (o p : Option ℕ) → (o ≡ None → p ≡ None) → StopsFor why o → StopsFor why p
stops_of stop.TooLong o p f e = f e
stops_of stop.NoMemory o p f e = tt

module _ (g : Branch → List Select) (h : ℕ → ℕ → Branch) (k m : ℕ) (items : List ℕ) (i : ℕ) (within : i < length items) (same : k ≡ m) where
  abbrev added : List ℕ → List Select
  added items = flat_map g (map (h m) items)

  abbrev first : List Select
  first = g (h k (get_or items i 0))

  split : added (drop i items) ≡ first ++ added (drop (i + 1) items)
  split = ap added (drop_more items i 0 within) ∙ ap (λ n. g (h n (get_or items i 0)) ++ added (drop (i + 1) items)) (sym same)

  paid_split : (left : ℕ) → all_paid (added (drop i items)) left ≡ behind (all_paid first left) (all_paid (added (drop (i + 1) items)))
  paid_split left = ap (λ ss. all_paid ss left) split ∙ all_both first (added (drop (i + 1) items)) left

  pub items_kept : (old now new : List Select) (was left after : ℕ)
      → now ++ added (drop i items) ≡ old ++ added items → all_paid (added (drop i items)) left ≡ all_paid (added items) was
      → new ≡ now ++ first → all_paid first left ≡ Some after
      → (new ++ added (drop (i + 1) items) ≡ old ++ added items) × (all_paid (added (drop (i + 1) items)) after ≡ all_paid (added items) was)
  items_kept old now new was left after lists bytes is paid = (
    ap (λ z. z ++ added (drop (i + 1) items)) is ∙ append_assoc now first (added (drop (i + 1) items)) ∙ sym (ap (λ z. now ++ z) split) ∙ lists,
    sym (ap (λ o. behind o (all_paid (added (drop (i + 1) items)))) paid) ∙ sym (paid_split left) ∙ bytes,
  )

  pub items_stop : (why : Stop) (was left : ℕ) → all_paid (added (drop i items)) left ≡ all_paid (added items) was → StopsFor why (all_paid first left) → StopsFor why (all_paid (added items) was)
  items_stop why was left bytes = stops_of why (all_paid first left) (all_paid (added items) was) (λ e. sym bytes ∙ paid_split left ∙ ap (λ o. behind o (all_paid (added (drop (i + 1) items)))) e)

pub adds_stopped : {X : Type 0} (result : Result X Stop) (why : Stop) (old new more : List Select) (after before : ℕ)
    → (y : Stop) × (result ≡ Err y) × (y ≡ why) → StopsFor why (all_paid more before) → Adds result old new after more before
adds_stopped result why old new more after before error stops = subst (λ r. Adds r old new after more before) (sym (error.1 ∙ ap Err error.2)) stops
