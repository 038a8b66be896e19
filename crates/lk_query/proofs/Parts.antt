-- Parts in order: what is found for each by what is found for its own parts.
use Rattle.std.proofs.Common.{◌≡◌, ℕ, zero, suc, ◌+◌, ◌<◌, ◌==◌, if◌then◌else◌, Bool, true, false, List, [], ◌∷◌, ◌++◌, map, Some, None, slice_get, unwrap_or, refl, sym, ◌∙◌, ap, ap₂, subst, arith, lt_irrefl}
use Rattle.std.specs.List.{flat_map}
use Rattle.std.proofs.lemmas.Bool.{eq-eqb, ne_eqb}
use Rattle.lk_ast.specs.Tables.{Tables}
use Rattle.lk_ast.specs.declared.table.Base.TheVariants as base
use Rattle.lk_sql.specs.Meaning.{cell_in}
use Rattle.lk_sql.specs.Operations.{operation, truth}
use Rattle.lk_query.specs.Branches.{counts}
use Rattle.lk_query.specs.Given.{at_labels, cell_with, cells_given, equal_rows, extended, given_level, gives, is_empty, of_base, of_list, of_row, row_with}
use Rattle.lk_query.specs.Order.{AllBelow, AreOrdered, Below, LabelledBelow, bind, filled, filled_from}
use Rattle.lk_query.specs.declared.part.Labelled.{Labelled}
use Rattle.lk_query.specs.declared.part.Part.{Part}
use Rattle.lk_query.specs.declared.part.Part.TheVariants as part

pub bind-here : {X : Type 0} (n : ℕ) (x : X) (f : ℕ → X) → bind n x f n ≡ x
bind-here n x f = ap (λ b. if b then x else f n) (eq-eqb n n refl)

pub bind-other : {X : Type 0} (n k : ℕ) (x : X) (f : ℕ → X) → (k ≡ n → ⊥) → bind n x f k ≡ f k
bind-other n k x f e = ap (λ b. if b then x else f k) (ne_eqb k n e)

-- ---- what is the same at lower numbers

module _ {X : Type 0} (f g : ℕ → X) (n : ℕ) (same : (k : ℕ) → k < n → f k ≡ g k) where
  pub each-same : {Y : Type 0} (h : X → Y) (items : List ℕ) → AllBelow n items → map (λ e. h (f e)) items ≡ map (λ e. h (g e)) items
  each-same h [] below = refl
  each-same h (e ∷ items) below = ap₂ (λ x xs. x ∷ xs) (ap h (same e below.0)) (each-same h items below.1)

  pub labelled-same : {Y : Type 0} (h : List ℕ → X → Y) (items : List Labelled) → LabelledBelow n items → map (λ e. h e.label (f e.part)) items ≡ map (λ e. h e.label (g e.part)) items
  labelled-same h [] below = refl
  labelled-same h (e ∷ items) below = ap₂ (λ x xs. x ∷ xs) (ap (h e.label) (same e.part below.0)) (labelled-same h items below.1)

  pub three-same : {Y : Type 0} (h : X → X → X → Y) (c a b : ℕ) → c < n → a < n → b < n → h (f c) (f a) (f b) ≡ h (g c) (g a) (g b)
  three-same h c a b k l m = ap₂ (λ x y. h x y (f b)) (same c k) (same a l) ∙ ap (h (g c) (g a)) (same b m)

-- ---- one part after the other

module _ {X : Type 0} (level : (ℕ → X) → ℕ → Part → X) where
  -- it looks at a part's own parts alone
  abbrev pub IsLocal : Type 0
  IsLocal = (f g : ℕ → X) (n : ℕ) → ((k : ℕ) → k < n → f k ≡ g k) → (x : Part) → Below n x → level f n x ≡ level g n x

  -- later parts leave the earlier ones
  pub kept : (n : ℕ) (found : ℕ → X) (parts : List Part) (k : ℕ) → k < n → filled_from level n found parts k ≡ found k
  kept n found [] k l = refl
  kept n found (x ∷ parts) k l = kept (n + 1) (bind n (level found n x) found) parts k (omega (arith, l)) ∙ bind-other n k (level found n x) found (λ e. lt_irrefl n (omega (arith, l, e)))

  made : IsLocal → (n : ℕ) (found : ℕ → X) (parts : List Part) (j i : ℕ) (x : Part) → i ≡ n + j → slice_get parts j ≡ Some x → Below i x → filled_from level n found parts i ≡ level (filled_from level n found parts) i x
  made local n found [] j i x at e below = absurd (none e)
    where
      none : {Y : Type 0} {y : Y} → None ≡ Some y → ⊥
      none e = subst (λ o. elim o as (λ _. Type 0) [ None ↦ Unit {0} | Some _ ↦ ⊥ ]) e tt
  made local n found (y ∷ parts) zero i x at e below =
      let next : ℕ → X = bind n (level found n y) found in
      let all : ℕ → X = filled_from level (n + 1) next parts in
      let here : i ≡ n = omega (arith, at) in
      let is : y ≡ x = ap (λ o. unwrap_or o y) e in
      kept (n + 1) next parts i (omega (arith, at))
      ∙ ap next here
      ∙ bind-here n (level found n y) found
      ∙ ap₂ (λ i y. level found i y) (sym here) is
      ∙ local found all i (λ k b. sym (kept (n + 1) next parts k (omega (arith, b, at)) ∙ bind-other n k (level found n y) found (λ e. lt_irrefl n (omega (arith, b, e, at))))) x below
  made local n found (y ∷ parts) (suc j) i x at e below = made local (n + 1) (bind n (level found n y) found) parts j i x (omega (arith, at)) e below

  pub filled-at : IsLocal → (nothing : X) (parts : List Part) (i : ℕ) (x : Part) → AreOrdered parts → Some x ≡ slice_get parts i → filled level nothing parts i ≡ level (filled level nothing parts) i x
  filled-at local nothing parts i x ordered e = made local 0 (λ n. nothing) parts i i x (omega arith) (sym e) (ordered i x (sym e))

-- what holds of two levels, holds of what is found for each part
module _ {X Y : Type 0} (R : X → Y → Type 0) (level : (ℕ → X) → ℕ → Part → X) (other : (ℕ → Y) → ℕ → Part → Y)
    (step : (f : ℕ → X) (g : ℕ → Y) → ((k : ℕ) → R (f k) (g k)) → (n : ℕ) (x : Part) → R (level f n x) (other g n x)) where
  related_from : (n : ℕ) (f : ℕ → X) (g : ℕ → Y) → ((k : ℕ) → R (f k) (g k)) → (parts : List Part) (k : ℕ) → R (filled_from level n f parts k) (filled_from other n g parts k)
  related_from n f g h [] k = h k
  related_from n f g h (x ∷ parts) k = related_from (n + 1) (bind n (level f n x) f) (bind n (other g n x) g) (λ k. put k (k == n)) parts k
    where
      put : (k : ℕ) (b : Bool) → R (if b then level f n x else f k) (if b then other g n x else g k)
      put k true = step f g h n x
      put k false = h k

  pub filled-related : (x : X) (y : Y) → R x y → (parts : List Part) (k : ℕ) → R (filled level x parts k) (filled other y parts k)
  filled-related x y h parts k = related_from 0 (λ n. x) (λ n. y) (λ n. h) parts k

-- ---- what parts give

given_local : (tables : Tables) → IsLocal (given_level tables)
given_local tables f g n same (part.Lit b) l = refl
given_local tables f g n same part.Bound l = refl
given_local tables f g n same (part.Case c a b) l = three-same f g n same (λ c a b. λ values. of_base (if truth (c values).base then (a values).base else (b values).base)) c a b l.0 l.1 l.2
given_local tables f g n same (part.If c a b) l = three-same f g n same (λ c a b. λ values. of_list (if truth (c values).base then (a values).list else (b values).list)) c a b l.0 l.1 l.2
given_local tables f g n same (part.IfRow labels c a b) l = three-same f g n same (λ c a b. λ values. of_row (at_labels labels (if truth (c values).base then (a values).row else (b values).row))) c a b l.0 l.1 l.2
given_local tables f g n same (part.One o a) l = ap (λ a. λ values. of_base (operation o ((a values).base ∷ []))) (same a l)
given_local tables f g n same (part.Two o a b) l = ap₂ (λ a b. λ values. of_base (operation o ((a values).base ∷ (b values).base ∷ []))) (same a l.0) (same b l.1)
given_local tables f g n same (part.EqRows labels a b) l = ap₂ (λ a b. λ values. of_base (equal_rows labels (a values).row (b values).row)) (same a l.0) (same b l.1)
given_local tables f g n same (part.Empty columns list) l = ap (λ list. λ values. of_base (base.Bool (is_empty (list values).list))) (same list l)
given_local tables f g n same (part.Record items) l = λ t values. of_row (row_with (labelled-same f g n same (λ label a. cell_with label (a values).base) items l t))
given_local tables f g n same (part.Extend labels items rest) l =
    (λ t values. of_row (extended labels (labelled-same f g n same (λ label a. cell_with label (a values).base) items l.0 t) (f rest values).row))
    ∙ ap (λ rest. λ values. of_row (extended labels (cells_given tables g items values) (rest values).row)) (same rest l.1)
given_local tables f g n same (part.Project a label) l = ap (λ a. λ values. of_base (cell_in (a values).row.cells label)) (same a l)
given_local tables f g n same (part.Items items) l = λ t values. of_list (each-same f g n same (λ a. (a values).row) items l t)
given_local tables f g n same (part.Append a b) l = ap₂ (λ a b. λ values. of_list ((a values).list ++ (b values).list)) (same a l.0) (same b l.1)
given_local tables f g n same (part.ForList list x body) l = ap₂ (λ list body. λ values. of_list (flat_map (λ row. (body (bind x (of_row row) values)).list) (list values).list)) (same list l.0) (same body l.2)
given_local tables f g n same (part.Table table labels) l = refl
given_local tables f g n same (part.Where c list) l = ap₂ (λ c list. λ values. of_list (if truth (c values).base then (list values).list else [])) (same c l.0) (same list l.1)

-- what a part gives, by what its own parts give
pub gives-at : (tables : Tables) (parts : List Part) (i : ℕ) (x : Part) → AreOrdered parts → Some x ≡ slice_get parts i → gives tables parts i ≡ given_level tables (gives tables parts) i x
unfolding gives
gives-at tables parts i x ordered e = filled-at (given_level tables) (given_local tables) _ parts i x ordered e
