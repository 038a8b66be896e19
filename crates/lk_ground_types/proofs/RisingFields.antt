-- Fields whose labels rise are the parts of their row as they stand.
use Rattle.std.proofs.Common.{◌≡◌, ℕ, true, T, ◌&&◌, List, [], ◌∷◌, Some, None, cond, map, Less, is_lt, refl, sym, ap, subst, ◌∙◌}
use Rattle.std.specs.Cmp.Lexicographic.{nat_list_cmp_total}
use Rattle.std.specs.FinMap as fin
use Rattle.std.specs.FinMap.Entries.{below_all}
use Rattle.std.specs.Ordering.{eq_by_cmp}
use Rattle.std.proofs.Math.Facts.{yes_and}
use Rattle.lk_types.proofs.LabelMaps.{entries_back, same_maps}
use Rattle.lk_types.specs.Rows.{Label, label_order}
use Rattle.lk_types.specs.declared.levels.LevelField.{LevelField}
use Rattle.lk_ground_types.specs.Becoming.{fields_put, number_at, part_at, AreRising}
use Rattle.lk_ground_types.specs.Grounds.{parts_in}
use Rattle.lk_ground_types.specs.declared.ground_level.GroundPart.{GroundPart}

-- ---- their row

module _ (ns : List ℕ) where
  abbrev entry : LevelField → Label × ℕ
  entry f = (f.label, number_at ns f.part)

  below_rest : (l : Label) (f : LevelField) (fs : List LevelField) → label_order l f.label ≡ Less → AreRising (f ∷ fs) → T (below_all label_order l (map entry (f ∷ fs)))
  below_rest l f [] lower rising = subst (λ o. T (is_lt o && true)) (sym lower) tt
  below_rest l f (g ∷ gs) lower rising =
      yes_and _ _ (subst (λ o. T (is_lt o)) (sym lower) tt) (below_rest l g gs (nat_list_cmp_total.trans l f.label g.label lower rising.0) rising.1)

  sorted_rising : (fs : List LevelField) → AreRising fs → T (fin.is_sorted label_order (map entry fs))
  sorted_rising [] rising = tt
  sorted_rising (f ∷ []) rising = tt
  sorted_rising (f ∷ g ∷ gs) rising = yes_and _ _ (below_rest f.label g gs rising.0 rising.1) (sorted_rising (g ∷ gs) rising.1)

  get_put : (fs : List LevelField) (q : Label) → fin.get (fields_put ns fs fin.empty) q ≡ fin.find label_order q (map entry fs)
  get_put [] q = fin.get-empty label_order q
  get_put (f ∷ fs) q =
      fin.get-insert nat_list_cmp_total (fields_put ns fs fin.empty) f.label (number_at ns f.part) q
      ∙ ap (cond (eq_by_cmp label_order q f.label) (Some (number_at ns f.part))) (get_put fs q)

  as_parts : (fs : List LevelField) → map (part_at ns) fs ≡ map {A = Label × ℕ} {B = GroundPart} (λ e. record { label = e.0; part = e.1 }) (map entry fs)
  as_parts [] = refl
  as_parts (f ∷ fs) = ap (λ ps. part_at ns f ∷ ps) (as_parts fs)

  pub rising_parts : (fs : List LevelField) → AreRising fs → map (part_at ns) fs ≡ parts_in (fields_put ns fs fin.empty)
  rising_parts fs rising =
      as_parts fs
      ∙ ap (map (λ e. record { label = e.0; part = e.1 }))
      (sym (ap fin.entries (same_maps (fields_put ns fs fin.empty) (fin.from_entries (map entry fs)) (λ q. get_put fs q ∙ sym (fin.get-from_entries nat_list_cmp_total (map entry fs) q)))
      ∙ entries_back (map entry fs) (sorted_rising fs rising)))
