-- What types show is what stands before the tails of the rows of the levels that stand in them.
use Rattle.std.proofs.Common.{arith, get_or, ◌≡◌, ◌⊎◌, ◌↔◌, inl, inr, ℕ, zero, suc, ◌+◌, ◌<◌, Bool, true, false, true≢false, cond, drop, List, [], ◌∷◌, ◌++◌, length, map, refl, sym, subst, take, ap, ◌∙◌, Some}
use Rattle.std.specs.Prelude.{flat_map, slice_get, slice_index_or}
use Rattle.lk_types.proofs.Built.{built_at}
use Rattle.std.proofs.lemmas.Option.{none-some}
use Rattle.lk_types.proofs.Parts.{same_some}
use Rattle.lk_types.proofs.Members.{one_in_back, one_in_flat, one_in_front, one_of_both}
use Rattle.lk_types.specs.Each.{Each, OneOf}
use Rattle.lk_types.specs.Levels.{at, built, field_made, made, parts_of, row_made, row_parts, types_at, AreMarked, IsTable, Stands, part, root}
use Rattle.lk_types.specs.declared.levels.Level.{Level}
use Rattle.lk_types.specs.declared.levels.Level.TheVariants as level
use Rattle.lk_types.specs.declared.levels.LevelField.{LevelField}
use Rattle.lk_types.specs.declared.levels.LevelRow.{LevelRow}
use Rattle.lk_types.specs.declared.scheme.Lack.{Lack}
use Rattle.lk_types.specs.declared.scheme.Scheme.{Scheme}
use Rattle.lk_types.specs.declared.ty.Effects.{Effects}
use Rattle.lk_types.specs.declared.ty.Ty.{Ty}
use Rattle.lk_types.specs.declared.ty.TyField.{TyField}
use Rattle.lk_infer.proofs.LackSets.{with_both}
use Rattle.lk_infer.proofs.ShownUnfold.{shown_bool, shown_fields, shown_function, shown_int, shown_list, shown_rolled, shown_tags, shown_text, shown_variable}
use Rattle.lk_infer.specs.Generalised.{IsIn}
use Rattle.lk_infer.specs.Lacks.{shown, shown_in_row, tail_lacks}
use Rattle.lk_infer.specs.LacksInOrder.{level_lacks, marked_lacks, row_lacks, scheme_for, with_lacks}

-- ---- one level

-- what the types at places show
abbrev AtOne : List Ty → Lack → List ℕ → Type 0
AtOne ts q ns = OneOf (λ n. IsIn q (shown (at ts n))) ns

in_flat : {X : Type 0} (f : X → List Lack) (q : Lack) (xs : List X) → OneOf (λ x. IsIn q (f x)) xs → IsIn q (flat_map f xs)
in_flat f q [] none = elim none [ ]
in_flat f q (x ∷ xs) (inl here) = one_in_front (λ other. other ≡ q) (f x) (flat_map f xs) here
in_flat f q (x ∷ xs) (inr there) = one_in_back (λ other. other ≡ q) (f x) (flat_map f xs) (in_flat f q xs there)

at_place : (ts : List Ty) (q : Lack) (n : ℕ) (ps : List ℕ) → OneOf (λ p. p ≡ n) ps → IsIn q (shown (at ts n)) → AtOne ts q ps
at_place ts q n [] none is = none
at_place ts q n (p ∷ ps) (inl here) is = inl (subst (λ m. IsIn q (shown (at ts m))) (sym here) is)
at_place ts q n (p ∷ ps) (inr behind) is = inr (at_place ts q n ps behind is)

-- what a row shows, its fields' types and the labels before its tail
module _ (ts : List Ty) (q : Lack) where
  fields_at : (fs : List LevelField) → OneOf (λ (f : TyField). IsIn q (shown f.ty)) (map (field_made ts) fs) → AtOne ts q (map (λ (f : LevelField). f.part) fs)
  fields_at [] none = none
  fields_at (f ∷ fs) (inl here) = inl here
  fields_at (f ∷ fs) (inr there) = inr (fields_at fs there)

  at_fields : (fs : List LevelField) → AtOne ts q (map (λ (f : LevelField). f.part) fs) → OneOf (λ (f : TyField). IsIn q (shown f.ty)) (map (field_made ts) fs)
  at_fields [] none = none
  at_fields (f ∷ fs) (inl here) = inl here
  at_fields (f ∷ fs) (inr there) = inr (at_fields fs there)

  labels_made : (fs : List LevelField) → map (λ (f : TyField). f.label) (map (field_made ts) fs) ≡ map (λ (f : LevelField). f.label) fs
  labels_made [] = refl
  labels_made (f ∷ fs) = ap (λ ls. f.label ∷ ls) (labels_made fs)

  row_is : (row : LevelRow) → shown_in_row (row_made ts row) ≡ flat_map (λ (f : TyField). shown f.ty) (map (field_made ts) row.fields) ++ row_lacks row
  row_is row = shown_rolled (map (field_made ts) row.fields) row.tail ∙ ap (λ ls. flat_map (λ (f : TyField). shown f.ty) (map (field_made ts) row.fields) ++ tail_lacks ls row.tail) (labels_made row.fields)

  of_row : (row : LevelRow) → IsIn q (shown_in_row (row_made ts row)) → IsIn q (row_lacks row) ⊎ AtOne ts q (row_parts row)
  of_row row is = elim (one_of_both (λ other. other ≡ q) (flat_map (λ (f : TyField). shown f.ty) (map (field_made ts) row.fields)) (row_lacks row) (subst (IsIn q) (row_is row) is)) [
    | inl inside ↦ inr (fields_at row.fields (one_in_flat (λ other. other ≡ q) (λ (f : TyField). shown f.ty) (map (field_made ts) row.fields) inside))
    | inr own ↦ inl own
  ]

  in_row : (row : LevelRow) → IsIn q (row_lacks row) ⊎ AtOne ts q (row_parts row) → IsIn q (shown_in_row (row_made ts row))
  in_row row (inl own) = subst (IsIn q) (sym (row_is row)) (one_in_back (λ other. other ≡ q) (flat_map (λ (f : TyField). shown f.ty) (map (field_made ts) row.fields)) (row_lacks row) own)
  in_row row (inr inside) =
      subst (IsIn q) (sym (row_is row))
      (one_in_front (λ other. other ≡ q) (flat_map (λ (f : TyField). shown f.ty) (map (field_made ts) row.fields)) (row_lacks row) (in_flat (λ (f : TyField). shown f.ty) q (map (field_made ts) row.fields) (at_fields row.fields inside)))

  params_at : (ns : List ℕ) → OneOf (λ t. IsIn q (shown t)) (map (at ts) ns) → AtOne ts q ns
  params_at [] none = none
  params_at (n ∷ ns) (inl here) = inl here
  params_at (n ∷ ns) (inr there) = inr (params_at ns there)

  at_params : (ns : List ℕ) → AtOne ts q ns → OneOf (λ t. IsIn q (shown t)) (map (at ts) ns)
  at_params [] none = none
  at_params (n ∷ ns) (inl here) = inl here
  at_params (n ∷ ns) (inr there) = inr (at_params ns there)

  neither : ⊥ ⊎ ⊥ → ⊥
  neither (inl none) = none
  neither (inr none) = none

  nothing : (t : Ty) → shown t ≡ [] → IsIn q (shown t) → ⊥
  nothing t is there = elim (subst (IsIn q) is there) [ ]

  -- what the type of a level shows stands before the tail of its row, or a part shows it
  of_level : (l : Level) → IsIn q (shown (made ts l)) → IsIn q (level_lacks l) ⊎ AtOne ts q (parts_of l)
  of_level level.Int is = absurd (nothing _ shown_int is)
  of_level level.Bool is = absurd (nothing _ shown_bool is)
  of_level level.Text is = absurd (nothing _ shown_text is)
  of_level (level.List n) is = inr (inl (subst (IsIn q) (shown_list (at ts n)) is))
  of_level (level.Fields row) is = of_row row (subst (IsIn q) (shown_fields (row_made ts row)) is)
  of_level (level.Tags row) is = of_row row (subst (IsIn q) (shown_tags (row_made ts row)) is)
  of_level (level.Fun params es n) is = elim (one_of_both (λ other. other ≡ q) (flat_map shown (map (at ts) params)) (shown (at ts n)) (subst (IsIn q) (shown_function (map (at ts) params) es (at ts n)) is)) [
    | inl among ↦ inr (inr (params_at params (one_in_flat (λ other. other ≡ q) shown (map (at ts) params) among)))
    | inr answer ↦ inr (inl answer)
  ]
  of_level (level.Var n) is = absurd (nothing _ (shown_variable n) is)

  in_level : (l : Level) → IsIn q (level_lacks l) ⊎ AtOne ts q (parts_of l) → IsIn q (shown (made ts l))
  in_level level.Int is = absurd (neither is)
  in_level level.Bool is = absurd (neither is)
  in_level level.Text is = absurd (neither is)
  in_level (level.List n) (inl none) = absurd none
  in_level (level.List n) (inr (inl item)) = subst (IsIn q) (sym (shown_list (at ts n))) item
  in_level (level.List n) (inr (inr none)) = absurd none
  in_level (level.Fields row) is = subst (IsIn q) (sym (shown_fields (row_made ts row))) (in_row row is)
  in_level (level.Tags row) is = subst (IsIn q) (sym (shown_tags (row_made ts row))) (in_row row is)
  in_level (level.Fun params es n) (inl none) = absurd none
  in_level (level.Fun params es n) (inr (inl answer)) =
      subst (IsIn q) (sym (shown_function (map (at ts) params) es (at ts n))) (one_in_back (λ other. other ≡ q) (flat_map shown (map (at ts) params)) (shown (at ts n)) answer)
  in_level (level.Fun params es n) (inr (inr among)) =
      subst (IsIn q) (sym (shown_function (map (at ts) params) es (at ts n)))
      (one_in_front (λ other. other ≡ q) (flat_map shown (map (at ts) params)) (shown (at ts n)) (in_flat shown q (map (at ts) params) (at_params params among)))
  in_level (level.Var n) is = absurd (neither is)

-- ---- all levels

-- a level that stands in the types has this before the tail of its row
abbrev HasOwn : List Level → List ℕ → Lack → Type 0
HasOwn levels roots q = (k : ℕ) × (l : Level) × (slice_get levels k ≡ Some l) × Stands levels roots k × IsIn q (level_lacks l)

module _ (levels : List Level) (roots : List ℕ) (table : IsTable levels roots) (q : Lack) where
  -- what stands in the types shows no more than they do
  no_more : (n : ℕ) → Stands levels roots n → IsIn q (shown (at (built levels) n)) → IsIn q (flat_map shown (types_at levels roots))
  no_more n (root there) is = in_flat shown q (types_at levels roots) (at_params (built levels) q roots (at_place (built levels) q n roots there is))
  no_more n (part {k = k} {l = l} stands level there) is =
      no_more k stands (subst (λ t. IsIn q (shown t)) (sym (built_at levels table.below k l level)) (in_level (built levels) q l (inr (at_place (built levels) q n (parts_of l) there is))))

  -- the level at a place
  level_at : (ls : List Level) (n : ℕ) → n < length ls → (l : Level) × (slice_get ls n ≡ Some l)
  level_at [] n less = absurd (none_below n less)
    where
      none_below : (n : ℕ) → n < 0 → ⊥
      none_below n less = omega arith
  level_at (l ∷ ls) zero less = (l, refl)
  level_at (l ∷ ls) (suc n) less = level_at ls n (omega arith)

  -- what a part of a level shows stands in a level, where that is known of all below a bound
  among : (bound n : ℕ) → n < suc bound → n < length levels
      → ((p : ℕ) → p < bound → p < length levels → Stands levels roots p → IsIn q (shown (at (built levels) p)) → HasOwn levels roots q)
      → (ps : List ℕ) → Each (λ p. p < n) ps → ((p : ℕ) → OneOf (λ m. m ≡ p) ps → Stands levels roots p) → AtOne (built levels) q ps → HasOwn levels roots q
  among bound n less within below_bound [] below stand none = absurd none
  among bound n less within below_bound (p ∷ ps) below stand (inl there) = below_bound p (lower p below.0) (within_too p below.0) (stand p (inl refl)) there
    where
      lower : (p : ℕ) → p < n → p < bound
      lower p below = omega arith

      within_too : (p : ℕ) → p < n → p < length levels
      within_too p below = omega arith
  among bound n less within below_bound (p ∷ ps) below stand (inr behind) = among bound n less within below_bound ps below.1 (λ m there. stand m (inr there)) behind

  -- what a type shows stands in one of its levels
  owned : (bound n : ℕ) → n < bound → n < length levels → Stands levels roots n → IsIn q (shown (at (built levels) n)) → HasOwn levels roots q
  owned zero n less within stands is = absurd (none_below n less)
    where
      none_below : (n : ℕ) → n < 0 → ⊥
      none_below n less = omega arith
  owned (suc bound) n less within stands is =
      let here = level_at levels n within in
      elim (of_level (built levels) q here.0 (subst (λ t. IsIn q (shown t)) (built_at levels table.below n here.0 here.1) is)) [
        | inl own ↦ (n, here.0, here.1, stands, own)
        | inr inside ↦ among bound n less within (λ p below there stand shows. owned bound p below there stand shows) (parts_of here.0) (table.below n here.0 here.1) (λ p there. part stands here.1 there) inside
      ]

  owned_of : IsIn q (flat_map shown (types_at levels roots)) → HasOwn levels roots q
  owned_of is = of_roots roots table.roots_below (λ r there. root there) (one_in_flat (λ other. other ≡ q) shown (types_at levels roots) is)
    where
      of_roots : (rs : List ℕ) → Each (λ n. n < length levels) rs → ((r : ℕ) → OneOf (λ m. m ≡ r) rs → Stands levels roots r)
          → OneOf (λ t. IsIn q (shown t)) (map (at (built levels)) rs) → HasOwn levels roots q
      of_roots [] below stand none = absurd none
      of_roots (r ∷ rs) below stand (inl there) = owned (r + 1) r (one_behind r) below.0 (stand r (inl refl)) there
        where
          one_behind : (r : ℕ) → r < r + 1
          one_behind r = omega arith
      of_roots (r ∷ rs) below stand (inr behind) = of_roots rs below.1 (λ m there. stand m (inr there)) behind

  of_owned : HasOwn levels roots q → IsIn q (flat_map shown (types_at levels roots))
  of_owned (k, l, read, stands, own) = no_more k stands (subst (λ t. IsIn q (shown t)) (sym (built_at levels table.below k l read)) (in_level (built levels) q l (inl own)))

-- ---- marked levels

module _ (q : Lack) where
  -- a marked level has it
  abbrev HasMarked : List Level → List Bool → Type 0
  HasMarked levels marks = (k : ℕ) × (l : Level) × (slice_get levels k ≡ Some l) × (slice_index_or marks k false ≡ true) × IsIn q (level_lacks l)

  in_marked : (levels : List Level) (marks : List Bool) → IsIn q (marked_lacks levels marks) → HasMarked levels marks
  in_marked [] marks none = absurd none
  in_marked (l ∷ levels) [] none = absurd none
  in_marked (l ∷ levels) (true ∷ marks) is = elim (one_of_both (λ other. other ≡ q) (level_lacks l) (marked_lacks levels marks) is) [
    | inl own ↦ (0, l, refl, refl, own)
    | inr later ↦ (let found = in_marked levels marks later in (suc found.0, found.1, found.2, found.3, found.4))
  ]
  in_marked (l ∷ levels) (false ∷ marks) is = let found = in_marked levels marks is in (suc found.0, found.1, found.2, found.3, found.4)

  marked_in : (levels : List Level) (marks : List Bool) (k : ℕ) (l : Level) → slice_get levels k ≡ Some l → slice_index_or marks k false ≡ true → IsIn q (level_lacks l) → IsIn q (marked_lacks levels marks)
  marked_in [] marks k l read mark own = absurd (none-some l read)
  marked_in (x ∷ levels) [] k l read mark own = absurd (true≢false (sym mark))
  marked_in (x ∷ levels) (m ∷ marks) zero l read mark own =
      one_in_front (λ other. other ≡ q) (cond m (level_lacks x) []) (marked_lacks levels marks)
      (subst (λ b. IsIn q (cond b (level_lacks x) [])) (sym mark) (subst (λ y. IsIn q (level_lacks y)) (sym (same_some read)) own))
  marked_in (x ∷ levels) (m ∷ marks) (suc k) l read mark own = one_in_back (λ other. other ≡ q) (cond m (level_lacks x) []) (marked_lacks levels marks) (marked_in levels marks k l read mark own)

-- what is found at the marked levels is what the types show
pub marked_shown : (levels : List Level) (roots : List ℕ) (marks : List Bool) (table : IsTable levels roots) (are : AreMarked levels roots marks) (q : Lack)
    → IsIn q (marked_lacks levels marks) ↔ IsIn q (flat_map shown (types_at levels roots))
marked_shown levels roots marks table are q = (
  (λ is. let found = in_marked q levels marks is in of_owned levels roots table q (found.0, found.1, found.2, are.sound found.0 found.3, found.4)),
  (λ is. let found = owned_of levels roots table q is in marked_in q levels marks found.0 found.1 found.2 (are.whole found.0 found.3) found.4),
)

-- one level more
pub level_more : (levels : List Level) (marks : List Bool) (i : ℕ) (l : Level) (m : Bool) → length marks ≡ length levels → i < length levels → l ≡ get_or levels i l → m ≡ get_or marks i false
    → marked_lacks (drop i levels) (drop i marks) ≡ cond m (level_lacks l) [] ++ marked_lacks (drop (i + 1) levels) (drop (i + 1) marks)
level_more [] marks i l m long less is mark = absurd (none_below i less)
  where
    none_below : (n : ℕ) → n < 0 → ⊥
    none_below n less = omega arith
level_more (x ∷ levels) [] i l m long less is mark = absurd (too_short long)
  where
    too_short : {n : ℕ} → 0 ≡ suc n → ⊥
    too_short e = omega arith
level_more (x ∷ levels) (b ∷ marks) zero l m long less is mark = ap (λ y. cond b (level_lacks y) [] ++ marked_lacks levels marks) (sym is) ∙ ap (λ c. cond c (level_lacks l) [] ++ marked_lacks levels marks) (sym mark)
level_more (x ∷ levels) (b ∷ marks) (suc i) l m long less is mark =
    level_more levels marks i l m (omega arith) (omega arith) is mark
    ∙ ap (λ n. cond m (level_lacks l) [] ++ marked_lacks (drop n (x ∷ levels)) (drop n (b ∷ marks))) (one_more i)
  where
    one_more : (i : ℕ) → suc (i + 1) ≡ suc i + 1
    one_more i = omega arith

-- a step of the loop over the levels
pub marked_step : (levels : List Level) (marks : List Bool) (i : ℕ) (l : Level) (m : Bool) (there new start : List Lack) → length marks ≡ length levels → i < length levels
    → l ≡ get_or levels i l → m ≡ get_or marks i false → new ≡ with_lacks there (cond m (level_lacks l) []) → with_lacks there (marked_lacks (drop i levels) (drop i marks)) ≡ start
    → with_lacks new (marked_lacks (drop (i + 1) levels) (drop (i + 1) marks)) ≡ start
marked_step levels marks i l m there new start long less is mark added was =
    ap (λ z. with_lacks z (marked_lacks (drop (i + 1) levels) (drop (i + 1) marks))) added
    ∙ with_both there (cond m (level_lacks l) []) (marked_lacks (drop (i + 1) levels) (drop (i + 1) marks))
    ∙ ap (with_lacks there) (sym (level_more levels marks i l m long less is mark))
    ∙ was

-- a step of the loop over the types that schemes are made of
pub scheme_more : (all : List Lack) (types : List Ty) (i : ℕ) (body : Ty) (done more : List Scheme) (scheme : Scheme) → slice_get types i ≡ Some body → done ≡ map (scheme_for all) (take i types)
    → scheme ≡ scheme_for all body → more ≡ done ++ scheme ∷ [] → more ≡ map (scheme_for all) (take (i + 1) types)
scheme_more all types i body done more scheme is was made pushed =
    pushed ∙ ap (λ ss. ss ++ scheme ∷ []) was ∙ ap (λ s. map (scheme_for all) (take i types) ++ s ∷ []) made ∙ sym (taken types i is)
  where
    taken : (types : List Ty) (i : ℕ) → slice_get types i ≡ Some body → map (scheme_for all) (take (i + 1) types) ≡ map (scheme_for all) (take i types) ++ scheme_for all body ∷ []
    taken [] i is = absurd (none-some body is)
    taken (t ∷ types) zero is = ap (λ s. s ∷ []) (ap (scheme_for all) (same_some is))
    taken (t ∷ types) (suc i) is = ap (λ n. map (scheme_for all) (take n (t ∷ types))) (one_more i) ∙ ap (λ ss. scheme_for all t ∷ ss) (taken types i is)
      where
        one_more : (i : ℕ) → suc i + 1 ≡ suc (i + 1)
        one_more i = omega arith
