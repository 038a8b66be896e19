-- Rows of types by their numbers.
use Rattle.std.proofs.Common.{◌≡◌, ◌⊎◌, inl, inr, ℕ, ◌<◌, ◌++◌, List, [], ◌∷◌, length, map, refl, sym, ap, ◌∙◌, Option, Some, None, cond, subst, T}
use Rattle.std.specs.Cmp.Lexicographic.{nat_list_cmp_total}
use Rattle.std.proofs.lemmas.Option.{none-some}
use Rattle.std.specs.FinMap as fin
use Rattle.std.specs.Option.{option_map}
use Rattle.lk_types.proofs.LabelMaps.{Differ, Tied, entries_back, find_here, find_mapped, find_rest, find_there, get_here, get_there, removed_here, removed_there, same_maps, sorted_mapped, sorted_rest, tie_cases, with_value}
use Rattle.lk_types.proofs.Parts.{same_some}
use Rattle.lk_types.specs.Rows.{Label, Row, fields_of, label_order, no_fields}
use Rattle.lk_types.specs.declared.ground.Ground.{Ground}
use Rattle.lk_types.specs.declared.ground.GroundField.{GroundField}
use Rattle.lk_ground_types.proofs.Entering.{at_front}
use Rattle.lk_ground_types.specs.Bound.{IsRowWithin}
use Rattle.lk_ground_types.specs.Grounds.{ArePartsBelow, Parts, at, part_made, parts_in, row_in, row_of_parts}
use Rattle.lk_ground_types.specs.declared.ground_level.GroundPart.{GroundPart}

-- the row of these fields, the first one where a label comes twice
abbrev pub row_of : List GroundField → Row
row_of fields = fin.from_entries (map (λ f. (f.label, f.ty)) fields)

module _ (ts : List Ground) where
  pub get_row : (m : Parts) (l : Label) → fin.get (row_in ts m) l ≡ option_map (at ts) (fin.get m l)
  get_row m l =
      fin.get-from_entries nat_list_cmp_total (map (with_value (at ts)) (fin.entries m)) l
      ∙ find_mapped (at ts) l (fin.entries m)
      ∙ ap (option_map (at ts)) (sym (fin.get-entries m l))

  pub put_row : (m : Parts) (l : Label) (n : ℕ) → row_in ts (fin.insert m l n) ≡ fin.insert (row_in ts m) l (at ts n)
  put_row m l n = same_maps (row_in ts (fin.insert m l n)) (fin.insert (row_in ts m) l (at ts n)) each
    where
      by_case : (q : Label) → Tied q l ⊎ Differ q l → option_map (at ts) (fin.get (fin.insert m l n) q) ≡ fin.get (fin.insert (row_in ts m) l (at ts n)) q
      by_case q (inl tied) = ap (option_map (at ts)) (get_here m l n q tied.1) ∙ sym (get_here (row_in ts m) l (at ts n) q tied.1)
      by_case q (inr differ) = ap (option_map (at ts)) (get_there m l n q differ.1) ∙ sym (get_row m q) ∙ sym (get_there (row_in ts m) l (at ts n) q differ.1)

      each : (q : Label) → fin.get (row_in ts (fin.insert m l n)) q ≡ fin.get (fin.insert (row_in ts m) l (at ts n)) q
      each q = get_row (fin.insert m l n) q ∙ by_case q (tie_cases q l)

  pub removed_row : (m : Parts) (l : Label) → row_in ts (fin.remove m l) ≡ fin.remove (row_in ts m) l
  removed_row m l = same_maps (row_in ts (fin.remove m l)) (fin.remove (row_in ts m) l) each
    where
      by_case : (q : Label) → Tied q l ⊎ Differ q l → option_map (at ts) (fin.get (fin.remove m l) q) ≡ fin.get (fin.remove (row_in ts m) l) q
      by_case q (inl tied) = ap (option_map (at ts)) (removed_here m l q tied.1) ∙ sym (removed_here (row_in ts m) l q tied.1)
      by_case q (inr differ) = ap (option_map (at ts)) (removed_there m l q differ.1) ∙ sym (get_row m q) ∙ sym (removed_there (row_in ts m) l q differ.1)

      each : (q : Label) → fin.get (row_in ts (fin.remove m l)) q ≡ fin.get (fin.remove (row_in ts m) l) q
      each q = get_row (fin.remove m l) q ∙ by_case q (tie_cases q l)

  pub empty_row : row_in ts fin.empty ≡ no_fields
  empty_row = same_maps (row_in ts fin.empty) no_fields (λ q. get_row fin.empty q ∙ ap (option_map (at ts)) (fin.get-empty label_order q) ∙ sym (fin.get-empty label_order q))

  as_fields : (es : List (Label × ℕ)) → map {A = Label × Ground} (λ e. record { label = e.0; ty = e.1 }) (map (with_value (at ts)) es) ≡ map (part_made ts) (map (λ e. record { label = e.0; part = e.1 }) es)
  as_fields [] = refl
  as_fields (e ∷ es) = ap (λ fs. record { label = e.0; ty = at ts e.1 } ∷ fs) (as_fields es)

  pub fields_row : (m : Parts) → fields_of (row_in ts m) ≡ map (part_made ts) (parts_in m)
  fields_row m =
      ap (map (λ e. record { label = e.0; ty = e.1 })) (entries_back (map (with_value (at ts)) (fin.entries m)) (sorted_mapped (at ts) (fin.entries m) (fin.entries_sorted m)))
      ∙ as_fields (fin.entries m)

  as_entries : (ps : List GroundPart) → map (with_value (at ts)) (map (λ p. (p.label, p.part)) ps) ≡ map (λ f. (f.label, f.ty)) (map (part_made ts) ps)
  as_entries [] = refl
  as_entries (p ∷ ps) = ap (λ es. (p.label, at ts p.part) ∷ es) (as_entries ps)

  pub row_back : (ps : List GroundPart) → row_in ts (row_of_parts ps) ≡ row_of (map (part_made ts) ps)
  row_back ps = same_maps (row_in ts (row_of_parts ps)) (row_of (map (part_made ts) ps)) (λ q.
      get_row (row_of_parts ps) q
      ∙ ap (option_map (at ts)) (fin.get-from_entries nat_list_cmp_total (map (λ p. (p.label, p.part)) ps) q)
      ∙ sym (find_mapped (at ts) q (map (λ p. (p.label, p.part)) ps))
      ∙ ap (fin.find label_order q) (as_entries ps)
      ∙ sym (fin.get-from_entries nat_list_cmp_total (map (λ f. (f.label, f.ty)) (map (part_made ts) ps)) q))

-- ---- numbers within a table

module _ (k : ℕ) where
  pub within_empty : IsRowWithin k fin.empty
  within_empty l m is = absurd (none-some m (sym (fin.get-empty label_order l) ∙ is))

  pub within_put : (row : Parts) (l : Label) (n : ℕ) → n < k → IsRowWithin k row → IsRowWithin k (fin.insert row l n)
  within_put row l n less within q m is = by_case (tie_cases q l)
    where
      by_case : Tied q l ⊎ Differ q l → m < k
      by_case (inl tied) = subst (λ m. m < k) (same_some (sym (get_here row l n q tied.1) ∙ is)) less
      by_case (inr differ) = within q m (sym (get_there row l n q differ.1) ∙ is)

  pub within_removed : (row : Parts) (l : Label) → IsRowWithin k row → IsRowWithin k (fin.remove row l)
  within_removed row l within q m is = by_case (tie_cases q l)
    where
      by_case : Tied q l ⊎ Differ q l → m < k
      by_case (inl tied) = absurd (none-some m (sym (removed_here row l q tied.1) ∙ is))
      by_case (inr differ) = within q m (sym (removed_there row l q differ.1) ∙ is)

  found_within : (ps : List GroundPart) → ArePartsBelow k ps → (q : Label) (m : ℕ) → fin.find label_order q (map (λ p. (p.label, p.part)) ps) ≡ Some m → m < k
  found_within [] below q m is = cc
  found_within (p ∷ ps) below q m is = by_case (found_within ps below.1 q m) (tie_cases q p.label)
    where
      by_case : (fin.find label_order q (map (λ p. (p.label, p.part)) ps) ≡ Some m → m < k) → Tied q p.label ⊎ Differ q p.label → m < k
      by_case more (inl tied) = let same : p.part ≡ m = same_some (sym (ap (λ b. cond b (Some p.part) (fin.find label_order q (map (λ p. (p.label, p.part)) ps))) tied.0) ∙ is) in subst (λ m. m < k) same below.0
      by_case more (inr differ) = more (sym (ap (λ b. cond b (Some p.part) (fin.find label_order q (map (λ p. (p.label, p.part)) ps))) differ.0) ∙ is)

  pub within_parts : (ps : List GroundPart) → ArePartsBelow k ps → IsRowWithin k (row_of_parts ps)
  within_parts ps below q m is = found_within ps below q m (sym (fin.get-from_entries nat_list_cmp_total (map (λ p. (p.label, p.part)) ps) q) ∙ is)

  each_within : (es : List (Label × ℕ)) → ((l : Label) (m : ℕ) → fin.find label_order l es ≡ Some m → m < k) → T (fin.is_sorted label_order es) → ArePartsBelow k (map (λ e. record { label = e.0; part = e.1 }) es)
  each_within [] all sorted = tt
  each_within (e ∷ es) all sorted = (all e.0 e.1 (find_here e.0 e es refl), each_within es (λ l m is. by_case l m is (tie_cases l e.0)) (sorted_rest e es sorted))
    where
      by_case : (l : Label) (m : ℕ) → fin.find label_order l es ≡ Some m → Tied l e.0 ⊎ Differ l e.0 → m < k
      by_case l m is (inl tied) = absurd (none-some m (sym (ap (λ l. fin.find label_order l es) tied.1 ∙ find_rest e.0 e.1 es sorted) ∙ is))
      by_case l m is (inr differ) = all l m (find_there l e es differ.1 ∙ is)

  -- the parts of a row
  pub parts_within : (row : Parts) → IsRowWithin k row → ArePartsBelow k (parts_in row)
  parts_within row within = each_within (fin.entries row) (λ l m is. within l m (fin.get-entries row l ∙ is)) (fin.entries_sorted row)

-- a table that grows leaves the row as it is
pub row_grown : (ts us : List Ground) (row : Parts) → IsRowWithin (length ts) row → row_in (ts ++ us) row ≡ row_in ts row
row_grown ts us row within = same_maps (row_in (ts ++ us) row) (row_in ts row) (λ q. get_row (ts ++ us) row q ∙ by_value q (fin.get row q) refl ∙ sym (get_row ts row q))
  where
    by_value : (q : Label) (o : Option ℕ) → fin.get row q ≡ o → option_map (at (ts ++ us)) (fin.get row q) ≡ option_map (at ts) (fin.get row q)
    by_value q None is = ap (option_map (at (ts ++ us))) is ∙ sym (ap (option_map (at ts)) is)
    by_value q (Some m) is = ap (option_map (at (ts ++ us))) is ∙ ap Some (at_front ts us m (within q m is)) ∙ sym (ap (option_map (at ts)) is)
