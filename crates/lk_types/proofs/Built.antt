-- Tables of levels: each place has the type that its level makes of the types at its parts, and this determines them all.
use Rattle.std.proofs.Common.{arith, get_or, ◌≡◌, ℕ, zero, suc, ◌+◌, ◌<◌, List, [], ◌∷◌, ◌++◌, length, map, refl, sym, ap, subst, ◌∙◌, Some}
use Rattle.std.proofs.lemmas.List.{append_assoc, append-nil, get_or_append_left, length-append}
use Rattle.std.proofs.lemmas.List.Sums.{fold-append}
use Rattle.std.proofs.lemmas.Option.{slice_get_read}
use Rattle.std.specs.Prelude.{fold, slice_get}
use Rattle.lk_types.specs.Each.{Each}
use Rattle.lk_types.specs.Levels.{at, built, field_made, made, parts_of, row_made, row_parts, with_level, AreBelow, IsBelow}
use Rattle.lk_types.specs.declared.levels.Level.{Level}
use Rattle.lk_types.specs.declared.levels.Level.TheVariants as level
use Rattle.lk_types.specs.declared.levels.LevelField.{LevelField}
use Rattle.lk_types.specs.declared.levels.LevelRow.{LevelRow}
use Rattle.lk_types.specs.declared.ty.Ty.{Ty}
use Rattle.lk_types.specs.declared.ty.Ty.TheVariants as ty
use Rattle.lk_types.specs.declared.ty.TyRow.{roll-TyRow}

-- ---- a level makes the same type of the same parts

-- what stands at these places is the same
abbrev pub AreSame : List Ty → List Ty → List ℕ → Type 0
AreSame ts us = Each (λ n. at ts n ≡ at us n)

pub same_places : (ts us : List Ty) (ns : List ℕ) → AreSame ts us ns → map (at ts) ns ≡ map (at us) ns
same_places ts us [] same = refl
same_places ts us (n ∷ ns) same = ap (λ t. t ∷ map (at ts) ns) same.0 ∙ ap (λ xs. at us n ∷ xs) (same_places ts us ns same.1)

pub same_fields : (ts us : List Ty) (fs : List LevelField) → AreSame ts us (map (λ f. f.part) fs) → map (field_made ts) fs ≡ map (field_made us) fs
same_fields ts us [] same = refl
same_fields ts us (f ∷ fs) same = ap (λ t. record { label = f.label; ty = t } ∷ map (field_made ts) fs) same.0 ∙ ap (λ xs. field_made us f ∷ xs) (same_fields ts us fs same.1)

pub same_row : (ts us : List Ty) (row : LevelRow) → AreSame ts us (map (λ f. f.part) row.fields) → row_made ts row ≡ row_made us row
same_row ts us row same = ap (λ fs. roll-TyRow (record { fields = fs; tail = row.tail })) (same_fields ts us row.fields same)

same_made : (ts us : List Ty) (l : Level) → AreSame ts us (parts_of l) → made ts l ≡ made us l
same_made ts us level.Int same = refl
same_made ts us level.Bool same = refl
same_made ts us level.Text same = refl
same_made ts us (level.List n) same = ap ty.List same.0
same_made ts us (level.Fields row) same = ap ty.Fields (same_row ts us row same)
same_made ts us (level.Tags row) same = ap ty.Tags (same_row ts us row same)
same_made ts us (level.Fun params es n) same = ap (λ t. ty.Fun (map (at ts) params) es t) same.0 ∙ ap (λ xs. ty.Fun xs es (at us n)) (same_places ts us params same.1)
same_made ts us (level.Var n) same = refl

pub each_map : {A : Type 0} {P Q : A → Type 0} → ((x : A) → P x → Q x) → (xs : List A) → Each P xs → Each Q xs
each_map f [] all = all
each_map f (x ∷ xs) all = (f x all.0, each_map f xs all.1)

-- ---- each place has the type that its level makes

-- these are the types of the levels
pub record IsBuilt (levels : List Level) (ts : List Ty) : Type 0 where
  pub long : length ts ≡ length levels
  pub each : (k : ℕ) (l : Level) → slice_get levels k ≡ Some l → at ts k ≡ made ts l

-- behind others, levels make those and more
grown : (ts : List Ty) (levels : List Level) → (us : List Ty) × (fold with_level ts levels ≡ ts ++ us) × (length us ≡ length levels)
grown ts [] = ([], sym (append-nil ts), refl)
grown ts (l ∷ levels) =
    let more = grown (with_level ts l) levels in
    (made ts l ∷ more.0, more.1 ∙ append_assoc ts (made ts l ∷ []) more.0, ap suc more.2)

at_front : (ts us : List Ty) (n : ℕ) → n < length ts → at (ts ++ us) n ≡ at ts n
at_front ts us n less = get_or_append_left ts us ty.Int n less

pub at_seam : (ts : List Ty) (t : Ty) (us : List Ty) → at (ts ++ t ∷ us) (length ts) ≡ t
at_seam [] t us = refl
at_seam (u ∷ ts) t us = at_seam ts t us

-- a level behind these types makes what it makes of all
found : (ts : List Ty) (levels : List Level) (n k : ℕ) (l : Level) → length ts + k ≡ n → slice_get levels k ≡ Some l → IsBelow n l → at (fold with_level ts levels) n ≡ made (fold with_level ts levels) l
found ts [] n k l sum is below = absurd cc
found ts (x ∷ levels) n zero l sum is below =
    let more = grown (with_level ts x) levels in
    let all : fold with_level ts (x ∷ levels) ≡ ts ++ (made ts x ∷ more.0) = more.1 ∙ append_assoc ts (made ts x ∷ []) more.0 in
    let here : length ts ≡ n = omega arith in
    let same : x ≡ l = cc in
    ap (λ us. at us n) all
    ∙ ap (λ m. at (ts ++ (made ts x ∷ more.0)) m) (sym here)
    ∙ at_seam ts (made ts x) more.0
    ∙ ap (made ts) same
    ∙ same_made ts (ts ++ (made ts x ∷ more.0)) l (each_map (λ m less. sym (at_front ts (made ts x ∷ more.0) m (subst (λ z. m < z) (sym here) less))) (parts_of l) below)
    ∙ ap (λ us. made us l) (sym all)
found ts (x ∷ levels) n (suc k) l sum is below = found (with_level ts x) levels n k l (longer _ (length-append ts (made ts x ∷ []))) is below
  where
    longer : (m : ℕ) → m ≡ length ts + 1 → m + k ≡ n
    longer m is = omega arith

pub built_long : (levels : List Level) → length (built levels) ≡ length levels
built_long levels = let more = grown [] levels in ap length more.1 ∙ more.2

-- the types of the first levels stay
pub built_front : (xs zs : List Level) (n : ℕ) → n < length xs → at (built (xs ++ zs)) n ≡ at (built xs) n
built_front xs zs n less =
    let more = grown (built xs) zs in
    ap (λ ts. at ts n) (fold-append with_level [] xs zs ∙ more.1) ∙ at_front (built xs) more.0 n (subst (λ m. n < m) (sym (built_long xs)) less)

pub built_is : (levels : List Level) → AreBelow levels → IsBuilt levels (built levels)
built_is levels below = record {
  long = built_long levels;
  each = λ k l is. found [] levels k k l (none_more k) is (below k l is);
}
  where
    none_more : (k : ℕ) → 0 + k ≡ k
    none_more k = omega arith

pub built_at : (levels : List Level) → AreBelow levels → (k : ℕ) (l : Level) → slice_get levels k ≡ Some l → at (built levels) k ≡ made (built levels) l
built_at levels below = (built_is levels below).each

-- ---- what code reads

-- the level that was read at a place
module _ (levels : List Level) (place : ℕ) (l m : Level) (below : AreBelow levels) (less : place < length levels) (read : l ≡ get_or levels place l) (is : l ≡ m) where
  found_there : slice_get levels place ≡ Some m
  found_there = slice_get_read levels (length levels) place l refl less read ∙ ap Some is

  pub parts_below : IsBelow place m
  parts_below = below place m found_there

  pub made_there : made (built levels) m ≡ at (built levels) place
  made_there = sym (built_at levels below place m found_there)

pub part_below : (fs : List LevelField) (below i : ℕ) (f : LevelField) → Each (λ n. n < below) (map (λ g. g.part) fs) → i < length fs → f ≡ get_or fs i f → f.part < below
part_below fs below i f all less is = subst (λ x. x.part < below) (sym is) (from_each fs i f all less)
  where
    from_each : (fs : List LevelField) (i : ℕ) (d : LevelField) → Each (λ n. n < below) (map (λ f. f.part) fs) → i < length fs → (get_or fs i d).part < below
    from_each [] i d all less = absurd (none_below i less)
      where
        none_below : (n : ℕ) → n < 0 → ⊥
        none_below n less = omega arith
    from_each (g ∷ fs) zero d all less = all.0
    from_each (g ∷ fs) (suc i) d all less = from_each fs i d all.1 (omega arith)

pub field_below : (row : LevelRow) (fs : List LevelField) (below i : ℕ) (f : LevelField) → fs ≡ row.fields → Each (λ n. n < below) (row_parts row) → i < length fs → f ≡ get_or fs i f → f.part < below
field_below row fs below i f same all less is = part_below fs below i f (subst (λ gs. Each (λ n. n < below) (map (λ g. g.part) gs)) (sym same) all) less is
