-- Levels whose parts have other numbers make the same types where the same stands there.
use Rattle.std.proofs.Common.{◌≡◌, ℕ, List, [], ◌∷◌, map, refl, ap, ◌∙◌}
use Rattle.lk_types.specs.Each.{Each}
use Rattle.lk_types.specs.Levels.{at, field_made, field_renumbered, level_renumbered, made, parts_of, row_made, row_parts, row_renumbered}
use Rattle.lk_types.specs.declared.levels.Level.{Level}
use Rattle.lk_types.specs.declared.levels.Level.TheVariants as level
use Rattle.lk_types.specs.declared.levels.LevelField.{LevelField}
use Rattle.lk_types.specs.declared.levels.LevelRow.{LevelRow}
use Rattle.lk_types.specs.declared.ty.Ty.{Ty}
use Rattle.lk_types.specs.declared.ty.Ty.TheVariants as ty
use Rattle.lk_types.specs.declared.ty.TyRow.{roll-TyRow}

module _ (number : ℕ → ℕ) where
  fields_renumbered : (fs : List LevelField) → map (λ f. f.part) (map (field_renumbered number) fs) ≡ map number (map (λ f. f.part) fs)
  fields_renumbered [] = refl
  fields_renumbered (f ∷ fs) = ap (λ ps. number f.part ∷ ps) (fields_renumbered fs)

  pub parts_renumbered : (l : Level) → parts_of (level_renumbered number l) ≡ map number (parts_of l)
  parts_renumbered level.Int = refl
  parts_renumbered level.Bool = refl
  parts_renumbered level.Text = refl
  parts_renumbered (level.List n) = refl
  parts_renumbered (level.Fields row) = fields_renumbered row.fields
  parts_renumbered (level.Tags row) = fields_renumbered row.fields
  parts_renumbered (level.Fun params es n) = refl
  parts_renumbered (level.Var n) = refl

  -- what stands at these places and, in the first list, at their numbers is the same
  abbrev pub AreAlike : List Ty → List Ty → List ℕ → Type 0
  AreAlike ws os ps = Each (λ p. at ws (number p) ≡ at os p) ps

  module _ (ws os : List Ty) where
    pub places_alike : (ps : List ℕ) → AreAlike ws os ps → map (at ws) (map number ps) ≡ map (at os) ps
    places_alike [] same = refl
    places_alike (p ∷ ps) same = ap (λ t. t ∷ map (at ws) (map number ps)) same.0 ∙ ap (λ ts. at os p ∷ ts) (places_alike ps same.1)

    fields_alike : (fs : List LevelField) → AreAlike ws os (map (λ f. f.part) fs) → map (field_made ws) (map (field_renumbered number) fs) ≡ map (field_made os) fs
    fields_alike [] same = refl
    fields_alike (f ∷ fs) same =
        ap (λ t. record { label = f.label; ty = t } ∷ map (field_made ws) (map (field_renumbered number) fs)) same.0 ∙ ap (λ ts. field_made os f ∷ ts) (fields_alike fs same.1)

    row_alike : (row : LevelRow) → AreAlike ws os (row_parts row) → row_made ws (row_renumbered number row) ≡ row_made os row
    row_alike row same = ap (λ fs. roll-TyRow (record { fields = fs; tail = row.tail })) (fields_alike row.fields same)

    pub made_alike : (l : Level) → AreAlike ws os (parts_of l) → made ws (level_renumbered number l) ≡ made os l
    made_alike level.Int same = refl
    made_alike level.Bool same = refl
    made_alike level.Text same = refl
    made_alike (level.List n) same = ap ty.List same.0
    made_alike (level.Fields row) same = ap ty.Fields (row_alike row same)
    made_alike (level.Tags row) same = ap ty.Tags (row_alike row same)
    made_alike (level.Fun params es n) same = ap (λ t. ty.Fun (map (at ws) (map number params)) es t) same.0 ∙ ap (λ ts. ty.Fun ts es (at os n)) (places_alike params same.1)
    made_alike (level.Var n) same = refl
