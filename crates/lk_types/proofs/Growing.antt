-- Levels of a type behind others make this type.
use Rattle.std.proofs.Common.{arith, get_or, take, ◌≡◌, ◌⊎◌, inl, inr, ℕ, zero, suc, ◌+◌, ◌<◌, List, [], ◌∷◌, ◌++◌, length, map, refl, sym, ap, subst, ◌∙◌, Some}
use Rattle.std.proofs.lemmas.List.{append_assoc, append-nil, length-append, map-append, take_more}
use Rattle.std.proofs.lemmas.List.Sums.{fold_push}
use Rattle.std.specs.Prelude.{slice_get, IfOk}
use Rattle.std.specs.declared.result.Result.{Result}
use Rattle.std.specs.declared.result.Result.TheVariants.{Err, Ok}
use Rattle.lk_types.proofs.Built.{at_seam, built_front, built_long, each_map, same_fields, same_places}
use Rattle.lk_types.proofs.Members.{each_both}
use Rattle.lk_types.proofs.Shifted.{front_or_behind, slice_behind, slice_front}
use Rattle.lk_types.specs.Each.{Each}
use Rattle.lk_types.specs.Levels.{at, built, field_made, made, parts_of, row_made, row_parts, types_at, with_level, AreBelow, IsBelow}
use Rattle.lk_types.specs.Planted.{Grown, IsPlanted}
use Rattle.lk_types.specs.declared.levels.Level.{Level}
use Rattle.lk_types.specs.declared.levels.Level.TheVariants as level
use Rattle.lk_types.specs.declared.levels.LevelField.{LevelField}
use Rattle.lk_types.specs.declared.levels.LevelRow.{LevelRow}
use Rattle.lk_types.specs.declared.ty.Effects.{Effects}
use Rattle.lk_types.specs.declared.ty.Ty.{Ty}
use Rattle.lk_types.specs.declared.ty.Ty.TheVariants as ty
use Rattle.lk_types.specs.declared.ty.TyField.{TyField}
use Rattle.lk_types.specs.declared.ty.TyRow.{TyRow}

-- ---- more levels

pub grown_none : (levels : List Level) → Grown levels levels []
grown_none levels = record { more = ([], sym (append-nil levels)); within = tt; below = λ below. below }

module _ (old new : List Level) (qs : List ℕ) (grown : Grown old new qs) where
  long : length new ≡ length old + length grown.more.0
  long = ap length grown.more.1 ∙ length-append old grown.more.0

  pub wider : (ps : List ℕ) → Each (λ p. p < length old) ps → Each (λ p. p < length new) ps
  wider ps within = each_map (λ p less. further (length grown.more.0) p long less) ps within
    where
      further : {n : ℕ} (m p : ℕ) → n ≡ length old + m → p < length old → p < n
      further m p sum less = omega arith

  -- what stood there stands there still
  pub stays : (ps : List ℕ) → Each (λ p. p < length old) ps → Each (λ p. at (built new) p ≡ at (built old) p) ps
  stays ps within = each_map (λ p less. ap (λ ls. at (built ls) p) grown.more.1 ∙ built_front old grown.more.0 p less) ps within

grown_then : (first mid new : List Level) (ps qs rs : List ℕ) → Grown first mid ps → Grown mid new qs → Each (λ p. p < length new) rs → Grown first new rs
grown_then first mid new ps qs rs one two within = record {
  more = (one.more.0 ++ two.more.0, two.more.1 ∙ ap (λ ls. ls ++ two.more.0) one.more.1 ∙ append_assoc first one.more.0 two.more.0);
  within = within;
  below = λ below. two.below (one.below below);
}

-- ---- one level more

module _ (first old new : List Level) (l : Level) (place : ℕ) (grown : Grown first old (parts_of l)) (last : place ≡ length old) (is : new ≡ old ++ l ∷ []) where
  level_last : at (built new) place ≡ made (built old) l
  level_last =
      ap (λ ls. at (built ls) place) is
      ∙ ap (λ ts. at ts place) (fold_push with_level [] old l)
      ∙ ap (at (built old ++ made (built old) l ∷ [])) (last ∙ sym (built_long old))
      ∙ at_seam (built old) (made (built old) l) []

  below_last : AreBelow old → AreBelow new
  below_last below k m there = by (front_or_behind (length old) k)
    where
      found : slice_get (old ++ l ∷ []) k ≡ Some m
      found = sym (ap (λ ls. slice_get ls k) is) ∙ there

      only : (n : ℕ) → slice_get (l ∷ []) n ≡ Some m → n ≡ 0
      only zero one = refl
      only (suc n) one = absurd cc

      by : (k < length old) ⊎ ((n : ℕ) × (k ≡ length old + n)) → IsBelow k m
      by (inl less) = below k m (sym (slice_front old (l ∷ []) k less) ∙ found)
      by (inr (n, behind)) =
          let one : slice_get (l ∷ []) n ≡ Some m = sym (slice_behind old (l ∷ []) n) ∙ ap (slice_get (old ++ l ∷ [])) (sym behind) ∙ found in
          let none = only n one in
          let same : l ≡ m = some_is (sym (ap (slice_get (l ∷ [])) none) ∙ one) in
          subst (λ o. IsBelow k o) same (subst (λ j. IsBelow j l) (none_more behind none) grown.within)
        where
          some_is : slice_get (l ∷ []) 0 ≡ Some m → l ≡ m
          some_is same = cc

          none_more : {j : ℕ} → k ≡ length old + j → j ≡ 0 → length old ≡ k
          none_more sum none = omega arith

  one_level : Grown old new (place ∷ [])
  one_level = record {
    more = (l ∷ [], is);
    within = (within (ap length is ∙ length-append old (l ∷ [])) last, tt);
    below = below_last;
  }
    where
      within : {n : ℕ} → n ≡ length old + 1 → place ≡ length old → place < n
      within sum same = omega arith

  planted_level : (t : Ty) → made (built old) l ≡ t → IsPlanted first new place t
  planted_level t same = record {
    grown = grown_then first old new (parts_of l) (place ∷ []) (place ∷ []) grown one_level one_level.within;
    is = level_last ∙ same;
  }

-- the level was pushed, if memory was there
module _ {E : Type 0} (result : Result ℕ E) (first old new : List Level) (l : Level) (pushed : IfOk result (λ place. (place ≡ length old) × (new ≡ old ++ l ∷ []))) where
  planted : (t : Ty) → Grown first old (parts_of l) → made (built old) l ≡ t → IfOk result (λ place. IsPlanted first new place t)
  planted t grown same = by result pushed
    where
      by : (r : Result ℕ E) → IfOk r (λ place. (place ≡ length old) × (new ≡ old ++ l ∷ [])) → IfOk r (λ place. IsPlanted first new place t)
      by (Ok place) one = planted_level first old new l place grown one.0 one.1 t same
      by (Err error) one = one

-- ---- each level

module _ {E : Type 0} (result : Result ℕ E) (old new : List Level) (t : Ty) where
  pub planted_base : (l : Level) → parts_of l ≡ [] → made (built old) l ≡ t → IfOk result (λ place. (place ≡ length old) × (new ≡ old ++ l ∷ [])) → IfOk result (λ place. IsPlanted old new place t)
  planted_base l none same pushed = planted result old old new l pushed t (subst (Grown old old) (sym none) (grown_none old)) same

  pub planted_list : (mid : List Level) (n : ℕ) (u : Ty) → IsPlanted old mid n u → ty.List u ≡ t → IfOk result (λ place. (place ≡ length mid) × (new ≡ mid ++ level.List n ∷ [])) → IfOk result (λ place. IsPlanted old new place t)
  planted_list mid n u part is pushed = planted result old mid new (level.List n) pushed t part.grown (ap ty.List part.is ∙ is)

  pub planted_fields : (mid : List Level) (row : LevelRow) (r : TyRow) → Grown old mid (row_parts row) × (row_made (built mid) row ≡ r) → ty.Fields r ≡ t → IfOk result (λ place. (place ≡ length mid) × (new ≡ mid ++ level.Fields row ∷ [])) → IfOk result (λ place. IsPlanted old new place t)
  planted_fields mid row r parts is pushed = planted result old mid new (level.Fields row) pushed t parts.0 (ap ty.Fields parts.1 ∙ is)

  pub planted_tags : (mid : List Level) (row : LevelRow) (r : TyRow) → Grown old mid (row_parts row) × (row_made (built mid) row ≡ r) → ty.Tags r ≡ t → IfOk result (λ place. (place ≡ length mid) × (new ≡ mid ++ level.Tags row ∷ [])) → IfOk result (λ place. IsPlanted old new place t)
  planted_tags mid row r parts is pushed = planted result old mid new (level.Tags row) pushed t parts.0 (ap ty.Tags parts.1 ∙ is)

  pub planted_function : (mid next : List Level) (params : List ℕ) (es fs : Effects) (n : ℕ) (ts : List Ty) (u : Ty)
      → Grown old mid params × (types_at mid params ≡ ts) → IsPlanted mid next n u → es ≡ fs → ty.Fun ts fs u ≡ t
      → IfOk result (λ place. (place ≡ length next) × (new ≡ next ++ level.Fun params es n ∷ [])) → IfOk result (λ place. IsPlanted old new place t)
  planted_function mid next params es fs n ts u parts part same is pushed =
      planted result old next new (level.Fun params es n) pushed t
      (grown_then old mid next params (n ∷ []) (n ∷ params) parts.0 part.grown (part.grown.within.0, wider mid next (n ∷ []) part.grown params parts.0.within))
      (ap (λ xs. ty.Fun xs es (at (built next) n)) (same_places (built next) (built mid) params (stays mid next (n ∷ []) part.grown params parts.0.within) ∙ parts.1) ∙ ap (λ x. ty.Fun ts es x) part.is ∙ ap (λ e. ty.Fun ts e u) same ∙ is)

-- ---- loops

pub trees_more : (first old new : List Level) (places all : List ℕ) (types : List Ty) (i place : ℕ) (t : Ty) → Grown first old places × (types_at old places ≡ take i types) → IsPlanted old new place t → all ≡ places ++ place ∷ [] → i < length types → t ≡ get_or types i t → Grown first new all × (types_at new all ≡ take (i + 1) types)
trees_more first old new places all types i place t so_far part is less read = (
  subst (Grown first new) (sym is) (grown_then first old new places (place ∷ []) (places ++ place ∷ []) so_far.0 part.grown (each_both (λ p. p < length new) places (place ∷ []) (wider old new (place ∷ []) part.grown places so_far.0.within) part.grown.within)),
  ap (types_at new) is ∙ map-append (at (built new)) places (place ∷ [])
      ∙ ap (λ ts. ts ++ at (built new) place ∷ []) (same_places (built new) (built old) places (stays old new (place ∷ []) part.grown places so_far.0.within) ∙ so_far.1)
      ∙ ap (λ u. take i types ++ u ∷ []) (part.is ∙ read)
      ∙ sym (take_more types i t less),
)

pub fields_more : (first old new : List Level) (done all : List LevelField) (fields : List TyField) (i : ℕ) (f : LevelField) (g : TyField) → Grown first old (map (λ x. x.part) done) × (map (field_made (built old)) done ≡ take i fields) → IsPlanted old new f.part g.ty → f.label ≡ g.label → all ≡ done ++ f ∷ [] → i < length fields → g ≡ get_or fields i g → Grown first new (map (λ x. x.part) all) × (map (field_made (built new)) all ≡ take (i + 1) fields)
fields_more first old new done all fields i f g so_far part same is less read = (
  subst (Grown first new) (sym (ap (map (λ x. x.part)) is ∙ map-append (λ x. x.part) done (f ∷ [])))
      (grown_then first old new (map (λ x. x.part) done) (f.part ∷ []) (map (λ x. x.part) done ++ f.part ∷ []) so_far.0 part.grown (each_both (λ p. p < length new) (map (λ x. x.part) done) (f.part ∷ []) (wider old new (f.part ∷ []) part.grown (map (λ x. x.part) done) so_far.0.within) part.grown.within)),
  ap (map (field_made (built new))) is ∙ map-append (field_made (built new)) done (f ∷ [])
      ∙ ap (λ gs. gs ++ field_made (built new) f ∷ []) (same_fields (built new) (built old) done (stays old new (f.part ∷ []) part.grown (map (λ x. x.part) done) so_far.0.within) ∙ so_far.1)
      ∙ ap (λ h. take i fields ++ h ∷ []) (field_is ∙ read)
      ∙ sym (take_more fields i g less),
)
  where
    field_is : field_made (built new) f ≡ g
    field_is = ap (λ u. record { label = f.label; ty = u }) part.is ∙ ap (λ l. record { label = l; ty = g.ty }) same
