-- Choices of rows, one generator after the other.
use Rattle.std.proofs.Common.{arith, ◌≡◌, ℕ, ◌+◌, ◌-◌, ◌<◌, ◌≤◌, add-one, subst, take, Bool, true, false, cond, ◌||◌, List, [], ◌∷◌, ◌++◌, Option, Some, None, drop, drop-cons, get_or, length, map, refl, ap, ap₂, sym, ◌∙◌, append_assoc}
use Rattle.std.specs.Prelude.{IsPermutation, MatchOption}
use Rattle.std.proofs.lemmas.List.{same_from_push, take_all}
use Rattle.std.proofs.lemmas.List.Sorted.{IsPermutation-refl}
use Rattle.std.specs.List.{filter, flat_map, list_any}
use Rattle.std.proofs.lemmas.List.Folds.{list_any-append}
use Rattle.std.proofs.lemmas.List.Elements.{filter-append}
use Rattle.lk_ast.specs.Tables.{Tables}
use Rattle.lk_ast.specs.declared.table.Base.{Base}
use Rattle.lk_ast.specs.declared.table.Row.{Row}
use Rattle.lk_sql.specs.Meaning.{Scope, has_row, no_rows, product, rows, with_row}
use Rattle.lk_sql.specs.declared.tree.FromItem.{FromItem}
use Rattle.lk_sql.specs.declared.tree.Out.{Out}
use Rattle.lk_sql.specs.declared.tree.Scalar.{Scalar}
use Rattle.lk_sql.specs.declared.tree.Select.{Select, out-Select}
use Rattle.lk_sql.proofs.MeaningForms.{rows_is}
use Rattle.lk_exec.specs.Scopes.{scope_of}
use Rattle.lk_exec.specs.Selected.{meets, row_for, rows_for}
use Rattle.lk_exec.specs.declared.scope.Bound.{Bound}
use Rattle.lk_exec.proofs.Scopes.{entered_more}

-- the choices that begin with a row of a generator, by the others
abbrev pub choices : Tables → List FromItem → ℕ → Scope → Row → List Scope
choices tables others n scope row = product tables others (with_row n row scope)

-- what is met by one row of a generator, or by those behind it
pub met_more : {X : Type 0} (test : Scope → Bool) (choices : X → List Scope) (x : X) (xs : List X)
    → list_any test (flat_map choices (x ∷ xs)) ≡ (list_any test (choices x) || list_any test (flat_map choices xs))
met_more test choices x xs = list_any-append test (choices x) (flat_map choices xs)

-- the rows for those of one row, and then for those behind it
map-append : {X Y : Type 0} (f : X → Y) (xs ys : List X) → map f (xs ++ ys) ≡ map f xs ++ map f ys
map-append f [] ys = refl
map-append f (x ∷ xs) ys = ap (λ zs. f x ∷ zs) (map-append f xs ys)

pub rows_more : (tables : Tables) (params : List Base) (condition : Scalar) (outs : List Out) (scopes others : List Scope)
    → rows_for tables params condition outs (scopes ++ others) ≡ rows_for tables params condition outs scopes ++ rows_for tables params condition outs others
rows_more tables params condition outs scopes others =
    ap (map (row_for tables params outs)) (filter-append (meets tables params condition) scopes others)
    ∙ map-append (row_for tables params outs) (filter (meets tables params condition) scopes) (filter (meets tables params condition) others)

-- there is a row where a choice meets the condition
any_row : (test : Scope → Bool) (row : Scope → Row) (scopes : List Scope) → list_any test scopes ≡ has_row (map row (filter test scopes) ∷ [])
any_row test row [] = refl
any_row test row (scope ∷ scopes) = go (test scope) (any_row test row scopes)
  where
    go : (b : Bool) → list_any test scopes ≡ has_row (map row (filter test scopes) ∷ []) → (b || list_any test scopes) ≡ has_row (map row (cond b (scope ∷ filter test scopes) (filter test scopes)) ∷ [])
    go true is = refl
    go false is = is

pub row_where_met : (tables : Tables) (params : List Base) (select : Select) (scope : Scope)
    → list_any (meets tables params (out-Select select).cond) (product tables (out-Select select).froms scope) ≡ has_row (rows tables params select scope ∷ [])
row_where_met tables params select scope =
    any_row (meets tables params (out-Select select).cond) (row_for tables params (out-Select select).outs) (product tables (out-Select select).froms scope)
    ∙ ap (λ found. has_row (found ∷ [])) (sym (rows_is tables params select scope))

-- ---- a loop over the rows of a generator

-- a list without its last element
ends : {X : Type 0} (xs : List X) (x : X) → xs ++ x ∷ [] ≡ [] → ⊥
ends [] x is = absurd cc
ends (y ∷ xs) x is = absurd cc

pub popped : {X : Type 0} (old new inner scope : List X) (x : X) (last : Option X) → MatchOption last ((old ≡ []) × (new ≡ [])) (λ l. old ≡ new ++ l ∷ []) → old ≡ inner ++ x ∷ [] → inner ≡ scope → new ≡ scope
popped old new inner scope x None is pushed same = absurd (ends inner x (sym pushed ∙ is.0))
popped old new inner scope x (Some l) is pushed same = (same_from_push new inner l x (sym is ∙ pushed)).0 ∙ same

module _ (those : Row → List Scope) (rows : List Row) (i : ℕ) (row : Row) (within : i < length rows) (is : row ≡ get_or rows i row) where
  left : drop i rows ≡ row ∷ drop (i + 1) rows
  left = drop-cons rows i row within ∙ ap₂ (λ r n. r ∷ drop n rows) (sym is) (sym (add-one i))

  module _ (test : Scope → Bool) where
    pub met_there : list_any test (those row) ≡ true → list_any test (flat_map those (drop i rows)) ≡ true
    met_there met = ap (λ rs. list_any test (flat_map those rs)) left ∙ met_more test those row (drop (i + 1) rows) ∙ ap (λ b. b || list_any test (flat_map those (drop (i + 1) rows))) met

    pub not_met : list_any test (those row) ≡ false → list_any test (flat_map those (drop (i + 1) rows)) ≡ list_any test (flat_map those (drop i rows))
    not_met met = sym (ap (λ rs. list_any test (flat_map those rs)) left ∙ met_more test those row (drop (i + 1) rows) ∙ ap (λ b. b || list_any test (flat_map those (drop (i + 1) rows))) met)

  pub more_found : (tables : Tables) (params : List Base) (condition : Scalar) (outs : List Out) (found more : List Row)
      → more ≡ found ++ rows_for tables params condition outs (those row)
      → more ++ rows_for tables params condition outs (flat_map those (drop (i + 1) rows)) ≡ found ++ rows_for tables params condition outs (flat_map those (drop i rows))
  more_found tables params condition outs found more added =
      let behind : List Scope = flat_map those (drop (i + 1) rows) in
      ap (λ rs. rs ++ rows_for tables params condition outs behind) added
      ∙ append_assoc found (rows_for tables params condition outs (those row)) (rows_for tables params condition outs behind)
      ∙ ap (λ rs. found ++ rs) (sym (rows_more tables params condition outs (those row) behind))
      ∙ ap (λ rs. found ++ rows_for tables params condition outs (flat_map those rs)) (sym left)

-- ---- one row more in scope

-- what stands first, and what stands behind it
parted : {X : Type 0} (xs : List X) (x : X) → 1 ≤ length xs → x ≡ get_or xs 0 x → xs ≡ x ∷ take (length xs - 1) (drop 1 xs)
parted [] x some is = absurd (omega (arith, some))
parted (y ∷ ys) x some is = ap₂ (λ z zs. z ∷ zs) (sym is) (sym (take_all (length (y ∷ ys) - 1) ys (omega arith)))

module _ (tables : Tables) (params : List Base) (condition : Scalar) (froms : List FromItem) (from : FromItem) (scope : List Bound) (rows : List Row) (i : ℕ) (row : Row)
    (some : 1 ≤ length froms) (first : from ≡ get_or froms 0 from) (are : rows ≡ tables from.table) (within : i < length rows) (at : row ≡ get_or rows i row) where
  abbrev those : Row → List Scope
  those = choices tables (take (length froms - 1) (drop 1 froms)) from.var (scope_of scope)

  whole : product tables froms (scope_of scope) ≡ flat_map those rows
  whole = ap (λ fs. product tables fs (scope_of scope)) (parted froms from some first) ∙ ap (flat_map those) (sym are)

  module _ (inner pushed lent : List Bound) (bound : Bound) (same : inner ≡ scope) (grown : pushed ≡ inner ++ bound ∷ []) (is_lent : lent ≡ pushed) (number : bound.number ≡ from.var) (is_row : bound.row.now ≡ row) where
    -- the choices that begin with that row
    here : product tables (take (length froms - 1) (drop 1 froms)) (scope_of lent) ≡ those row
    here =
        ap (product tables (take (length froms - 1) (drop 1 froms)))
        (ap scope_of (is_lent ∙ grown ∙ ap (λ l. l ++ bound ∷ []) same) ∙ entered_more scope bound no_rows ∙ ap₂ (λ n r. with_row n r (scope_of scope)) number is_row)

    module _ (met : Bool) (is : met ≡ list_any (meets tables params condition) (product tables (take (length froms - 1) (drop 1 froms)) (scope_of lent)))
        (left : list_any (meets tables params condition) (flat_map those (drop i rows)) ≡ list_any (meets tables params condition) (flat_map those rows)) where
      pub met_now : met ≡ true → true ≡ list_any (meets tables params condition) (product tables froms (scope_of scope))
      met_now holds =
          sym (met_there those rows i row within at (meets tables params condition) (ap (list_any (meets tables params condition)) (sym here) ∙ sym is ∙ holds))
          ∙ left ∙ ap (list_any (meets tables params condition)) (sym whole)

      pub met_later : met ≡ false → list_any (meets tables params condition) (flat_map those (drop (i + 1) rows)) ≡ list_any (meets tables params condition) (flat_map those rows)
      met_later none = not_met those rows i row within at (meets tables params condition) (ap (list_any (meets tables params condition)) (sym here) ∙ sym is ∙ none) ∙ left

    pub found_more : (outs : List Out) (found more old : List Row)
        → more ≡ found ++ rows_for tables params condition outs (product tables (take (length froms - 1) (drop 1 froms)) (scope_of lent))
        → found ++ rows_for tables params condition outs (flat_map those (drop i rows)) ≡ old ++ rows_for tables params condition outs (flat_map those rows)
        → more ++ rows_for tables params condition outs (flat_map those (drop (i + 1) rows)) ≡ old ++ rows_for tables params condition outs (flat_map those rows)
    found_more outs found more old added left =
        more_found those rows i row within at tables params condition outs found more (added ∙ ap (λ s. found ++ rows_for tables params condition outs s) here) ∙ left

-- the rows of a select behind those that were found, in any order
pub rows_added : (tables : Tables) (params : List Base) (select : Select) (froms : List FromItem) (found more : List Row) → froms ≡ (out-Select select).froms
    → more ≡ found ++ rows_for tables params (out-Select select).cond (out-Select select).outs (product tables froms no_rows) → IsPermutation (found ++ rows tables params select no_rows) more
rows_added tables params select froms found more are is =
    subst (IsPermutation (found ++ rows tables params select no_rows))
    (ap (λ rs. found ++ rs) (rows_is tables params select no_rows ∙ ap (λ fs. rows_for tables params (out-Select select).cond (out-Select select).outs (product tables fs no_rows)) (sym are)) ∙ sym is)
    (IsPermutation-refl _)
