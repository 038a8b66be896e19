-- What stands in a type becomes something where the type does, so that a table of one type is loaded as that type.
use Rattle.std.proofs.Common.{◌≡◌, inl, inr, ℕ, zero, suc, ◌+◌, ◌<◌, ◌≤◌, List, [], ◌∷◌, ◌++◌, drop, get_or, length, map, take, refl, sym, ◌∙◌, ap, subst, arith, Option, Some, None}
use Rattle.std.proofs.lemmas.List.{length-append, take_all, take_more}
use Rattle.std.proofs.lemmas.List.Sums.{fold-append}
use Rattle.std.proofs.lemmas.Option.{slice_get_read}
use Rattle.std.specs.Option.{option_map}
use Rattle.std.specs.Prelude.{slice_get}
use Rattle.lk_types.proofs.Built.{at_seam, built_at, built_front, built_long}
use Rattle.lk_types.proofs.Parts.{all_some, mapped}
use Rattle.lk_types.specs.Each.{OneOf}
use Rattle.lk_types.specs.Grounding.{all_of}
use Rattle.lk_types.specs.Levels.{at, built, field_made, made, parts_of, row_made, row_parts, with_level, AreBelow, IsBelow, Stands, part, root}
use Rattle.lk_types.specs.OneTypes.{IsThin}
use Rattle.lk_types.specs.declared.levels.Level.{Level}
use Rattle.lk_types.specs.declared.levels.Level.TheVariants as level
use Rattle.lk_types.specs.declared.levels.LevelField.{LevelField}
use Rattle.lk_types.specs.declared.levels.LevelRow.{LevelRow}
use Rattle.lk_types.specs.declared.ty.Ty.{Ty}
use Rattle.lk_types.specs.declared.ty.Ty.TheOpen.{TyRow-F}
use Rattle.lk_types.specs.declared.ty.Ty.TheVariants as ty
use Rattle.lk_types.specs.declared.ty.TyField.{TyField}
use Rattle.lk_types.specs.declared.ty.TyRow.{TyRow, out-TyRow, out-roll-TyRow}
use Rattle.lk_arena.specs.Kinds.{OfTypes}
use Rattle.lk_arena.specs.Openings.{OpenRow, Opening, opened, row_opened, row_type}
use Rattle.lk_arena.specs.Values.{Value, Plain, OfRow}
use Rattle.lk_unify.proofs.LoadOn.{all_loads_more, one_loads}
use Rattle.lk_unify.proofs.LoadRows.{end, fields_there, row_is}
use Rattle.lk_unify.proofs.LoadSteps.{both, both_some, none_of}
use Rattle.lk_unify.proofs.LoadTypes.{function_builds}
use Rattle.lk_unify.proofs.OpenUnfold.{opened_fields, opened_list, opened_tags}
use Rattle.lk_unify.specs.LevelLoading.{node_at, LoadedOn}
use Rattle.lk_unify.specs.Loading.{effects_meaning, fields_meaning, type_meaning, types_meaning, Loads, LoadsAll, NeverMeans}
use Rattle.lk_unify.specs.declared.loader.Loader.{Loader}

-- it becomes something
abbrev Means : (Opening → Option Value) → Opening → Type 0
Means meaning ρ = (x : Value) × (meaning ρ ≡ Some x)

-- ---- parts

fields_mean : (ρ : Opening) (ts : List Ty) (fs : List LevelField) (xs : List Value) (n : ℕ) → fields_meaning (map (field_made ts) fs) ρ ≡ Some xs → OneOf (λ p. p ≡ n) (map (λ f. f.part) fs) → Means (type_meaning (at ts n)) ρ
fields_mean ρ ts [] xs n e one = absurd one
fields_mean ρ ts (f ∷ fs) xs n e (inl is) =
    let s = all_some (type_meaning (at ts f.part) ρ) (map (λ f. type_meaning f.ty ρ) (map (field_made ts) fs)) xs e in
    subst (λ m. Means (type_meaning (at ts m)) ρ) is (s.0, s.2)
fields_mean ρ ts (f ∷ fs) xs n e (inr later) =
    let s = all_some (type_meaning (at ts f.part) ρ) (map (λ f. type_meaning f.ty ρ) (map (field_made ts) fs)) xs e in
    fields_mean ρ ts fs s.1 n s.3 later

places_mean : (ρ : Opening) (ts : List Ty) (ps : List ℕ) (xs : List Value) (n : ℕ) → types_meaning (map (at ts) ps) ρ ≡ Some xs → OneOf (λ p. p ≡ n) ps → Means (type_meaning (at ts n)) ρ
places_mean ρ ts [] xs n e one = absurd one
places_mean ρ ts (p ∷ ps) xs n e (inl is) =
    let s = all_some (type_meaning (at ts p) ρ) (map (λ t. type_meaning t ρ) (map (at ts) ps)) xs e in
    subst (λ m. Means (type_meaning (at ts m)) ρ) is (s.0, s.2)
places_mean ρ ts (p ∷ ps) xs n e (inr later) =
    let s = all_some (type_meaning (at ts p) ρ) (map (λ t. type_meaning t ρ) (map (at ts) ps)) xs e in
    places_mean ρ ts ps s.1 n s.3 later

row_means : (ρ : Opening) (ts : List Ty) (row : LevelRow) (m : OpenRow) (n : ℕ) → row_opened ρ (row_made ts row) ≡ Some m → OneOf (λ p. p ≡ n) (row_parts row) → Means (type_meaning (at ts n)) ρ
row_means ρ ts row m n e one =
    let r = row_made ts row in
    let s = mapped OfRow _ (OfRow m) (sym (row_is r ρ) ∙ ap (option_map OfRow) e) in
    let all = fields_there ρ (out-TyRow r).fields (end r ρ) s.0 s.1 in
    fields_mean ρ ts row.fields all.0 n (ap (λ (x : TyRow-F Ty TyField TyRow). fields_meaning x.fields ρ) (sym (out-roll-TyRow (record { fields = map (field_made ts) row.fields; tail = row.tail }))) ∙ all.1) one

-- a constructor on a row
on_row : (ρ : Opening) (r : TyRow) (make : OpenRow → Ty) (n : Opening → Option Value) (x : Value) → n ρ ≡ option_map Plain (option_map make (row_opened ρ r)) → n ρ ≡ Some x → (m : OpenRow) × (row_opened ρ r ≡ Some m)
on_row ρ r make n x is e =
    let s = mapped Plain (option_map make (row_opened ρ r)) x (sym is ∙ e) in
    let q = mapped make (row_opened ρ r) s.0 s.1 in
    (q.0, q.1)

function_means : (ρ : Opening) (ts : List Ty) (p : ℕ) (params : List ℕ) (n : ℕ) → Means (type_meaning (at ts p)) ρ → (xs : List Value) → types_meaning (map (at ts) params) ρ ≡ Some xs → OneOf (λ q. q ≡ n) (p ∷ params)
    → Means (type_meaning (at ts n)) ρ
function_means ρ ts p params n answer xs e (inl is) = subst (λ m. Means (type_meaning (at ts m)) ρ) is answer
function_means ρ ts p params n answer xs e (inr later) = places_mean ρ ts params xs n e later

part_means : (ρ : Opening) (ts : List Ty) (l : Level) (n : ℕ) → Means (type_meaning (made ts l)) ρ → OneOf (λ p. p ≡ n) (parts_of l) → Means (type_meaning (at ts n)) ρ
part_means ρ ts level.Int n means one = absurd one
part_means ρ ts level.Bool n means one = absurd one
part_means ρ ts level.Text n means one = absurd one
part_means ρ ts (level.List p) n means (inl is) =
    let s = mapped Plain (option_map ty.List (opened ρ (at ts p))) means.0 (sym (ap (option_map Plain) (opened_list ρ (at ts p))) ∙ means.1) in
    let q = mapped ty.List (opened ρ (at ts p)) s.0 s.1 in
    subst (λ m. Means (type_meaning (at ts m)) ρ) is (Plain q.0, ap (option_map Plain) q.1)
part_means ρ ts (level.List p) n means (inr later) = absurd later
part_means ρ ts (level.Fields row) n means one =
    let m = on_row ρ (row_made ts row) (λ m. ty.Fields (row_type m)) (type_meaning (ty.Fields (row_made ts row))) means.0 (ap (option_map Plain) (opened_fields ρ (row_made ts row))) means.1 in
    row_means ρ ts row m.0 n m.1 one
part_means ρ ts (level.Tags row) n means one =
    let m = on_row ρ (row_made ts row) (λ m. ty.Tags (row_type m)) (type_meaning (ty.Tags (row_made ts row))) means.0 (ap (option_map Plain) (opened_tags ρ (row_made ts row))) means.1 in
    row_means ρ ts row m.0 n m.1 one
part_means ρ ts (level.Fun params es p) n means one =
    let y = function_builds (map (at ts) params) es (at ts p) means.0 ρ means.1 in
    let u = both_some (both (type_meaning (at ts p) ρ) (types_meaning (map (at ts) params) ρ)) (effects_meaning es ρ) y.0 y.1 in
    let w = both_some (type_meaning (at ts p) ρ) (types_meaning (map (at ts) params) ρ) y.0.0 u.0 in
    function_means ρ ts p params n (y.0.0.0, w.0) y.0.0.1 w.1 one
part_means ρ ts (level.Var v) n means one = absurd one

-- ---- what stands in a type

module _ (levels : List Level) (below : AreBelow levels) (r : ℕ) (ρ : Opening) (means : Means (type_meaning (at (built levels) r)) ρ) where
  stands_mean : (n : ℕ) → Stands levels (r ∷ []) n → Means (type_meaning (at (built levels) n)) ρ
  stands_mean n (root (inl is)) = subst (λ m. Means (type_meaning (at (built levels) m)) ρ) is means
  stands_mean n (root (inr later)) = absurd later
  stands_mean n (part {k = k} {l = l} stands is one) =
      part_means ρ (built levels) l n (subst (λ t. Means (type_meaning t) ρ) (built_at levels below k l is) (stands_mean k stands)) one

-- all become something where each does
all_mean : (ρ : Opening) (ts : List Ty) → ((n : ℕ) → n < length ts → Means (type_meaning (at ts n)) ρ) → (xs : List Value) × (types_meaning ts ρ ≡ Some xs)
all_mean ρ [] each = ([], refl)
all_mean ρ (t ∷ ts) each =
    let first = each 0 (some (length ts)) in
    let rest = all_mean ρ ts (λ n less. each (suc n) (omega arith)) in
    (first.0 ∷ rest.0, ap (λ o. all_of (o ∷ map (λ t. type_meaning t ρ) ts)) first.1 ∙ ap (option_map (λ more. first.0 ∷ more)) rest.1)
  where
    some : (n : ℕ) → 0 < suc n
    some n = omega arith

-- ---- one level after another

module _ (levels : List Level) (i : ℕ) (l : Level) (less : i < length levels) (is : l ≡ get_or levels i l) where
  abbrev before : List Ty
  before = built (take i levels)

  next_types : built (take (i + 1) levels) ≡ before ++ made before l ∷ []
  next_types = ap built (take_more levels i l less ∙ ap (λ x. take i levels ++ x ∷ []) (sym is)) ∙ fold-append with_level [] (take i levels) (l ∷ [])

  before_long : length before ≡ i
  before_long = built_long (take i levels) ∙ taken_long levels i less
    where
      taken_long : (xs : List Level) (n : ℕ) → n < length xs → length (take n xs) ≡ n
      taken_long [] n h = absurd (omega arith)
      taken_long (x ∷ xs) zero h = refl
      taken_long (x ∷ xs) (suc n) h = ap suc (taken_long xs n (omega arith))

  -- the type at this place
  here : at (built levels) i ≡ made before l
  here =
      ap (λ ls. at (built ls) i) (sym (split levels (i + 1)))
      ∙ built_front (take (i + 1) levels) (drop (i + 1) levels) i (within (built_long (take (i + 1) levels)) (ap length next_types ∙ length-append before (made before l ∷ [])))
      ∙ ap (λ ts. at ts i) next_types
      ∙ ap (λ n. at (before ++ made before l ∷ []) n) (sym before_long)
      ∙ at_seam before (made before l) []
    where
      split : (xs : List Level) (n : ℕ) → take n xs ++ drop n xs ≡ xs
      split xs zero = refl
      split [] (suc n) = refl
      split (x ∷ xs) (suc n) = ap (λ ys. x ∷ ys) (split xs n)

      within : {a b : ℕ} → b ≡ a → b ≡ length before + 1 → i < a
      within same sum = let h = before_long in omega arith

  pub level_below : (r : ℕ) (nodes : List ℕ) → IsThin levels r → length nodes ≡ length before → IsBelow (length nodes) l
  level_below r nodes thin same = subst (λ n. IsBelow n l) (sym (same ∙ before_long)) (thin.table.below i l (slice_get_read levels (length levels) i l refl less is))

  -- and so on
  pub level_more : (a b c : Loader) (nodes : List ℕ) (node : ℕ) → (length nodes ≡ length before) × LoadsAll a b (types_meaning before) nodes → LoadedOn b c before nodes OfTypes (type_meaning (made before l)) (Some node)
      → (length (nodes ++ node ∷ []) ≡ length (built (take (i + 1) levels))) × LoadsAll a c (types_meaning (built (take (i + 1) levels))) (nodes ++ node ∷ [])
  level_more a b c nodes node all on = (
    one_longer all.0 (length-append nodes (node ∷ [])) (length-append before (made before l ∷ [])) ∙ sym (ap length next_types),
    subst (λ ts. LoadsAll a c (types_meaning ts) (nodes ++ node ∷ [])) (sym next_types) (all_loads_more a b c before nodes (made before l) node all.1 on),
  )
    where
      one_longer : {m n o p : ℕ} → m ≡ n → o ≡ m + 1 → p ≡ n + 1 → o ≡ p
      one_longer same first second = omega arith

  pub level_never : (r : ℕ) → IsThin levels r → NeverMeans (type_meaning (made before l)) → NeverMeans (type_meaning (at (built levels) r))
  level_never r thin never ρ = none_of (type_meaning (at (built levels) r) ρ) (λ x e.
      let m = stands_mean levels thin.table.below r ρ (x, e) i (thin.stands i less) in
      let h : None ≡ Some m.0 = sym (ap (λ t. type_meaning t ρ) here ∙ never ρ) ∙ m.1 in cc)

-- ---- the type of the table

pub found_node : (ns : List ℕ) (r x : ℕ) → slice_get ns r ≡ Some x → node_at ns r ≡ x
found_node [] r x is = cc
found_node (n ∷ ns) zero x is = cc
found_node (n ∷ ns) (suc r) x is = found_node ns r x is

module _ (levels : List Level) (r i : ℕ) (nodes : List ℕ) (thin : IsThin levels r) (end : length levels ≤ i) (long : length nodes ≡ length (built (take i levels))) where
  all_long : length nodes ≡ length (built levels)
  all_long = long ∙ ap (λ ls. length (built ls)) (take_all i levels end)

  root_in : r < length (built levels)
  root_in = subst (λ n. r < n) (sym (built_long levels)) thin.table.roots_below.0

  pub root_there : r < length nodes
  root_there = subst (λ n. r < n) (sym all_long) root_in

  pub levels_loaded : (a c : Loader) → LoadsAll a c (types_meaning (built (take i levels))) nodes → Loads a c OfTypes (type_meaning (at (built levels) r)) (node_at nodes r)
  levels_loaded a c all =
      one_loads a c (built levels) nodes r (subst (λ ls. LoadsAll a c (types_meaning (built ls)) nodes) (take_all i levels end) all) root_in all_long
      (λ ρ x e. all_mean ρ (built levels) (λ n less. stands_mean levels thin.table.below r ρ (x, e) n (thin.stands n (subst (λ m. n < m) (built_long levels) less))))
