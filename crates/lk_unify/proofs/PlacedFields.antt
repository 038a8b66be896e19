-- The places under the labels of fields, and the types that stand there.
use Rattle.std.proofs.Common.{◌≡◌, ℕ, ⊎_elim, List, [], ◌∷◌, map, refl, sym, ◌∙◌, ap, subst, Option, Some, None}
use Rattle.std.specs.Cmp.Lexicographic.{nat_list_cmp_total}
use Rattle.std.specs.FinMap as fin
use Rattle.std.specs.FinMap.Entries.{by_order}
use Rattle.std.specs.Option.{option_map}
use Rattle.std.specs.declared.cmp.Ordering.{Ordering}
use Rattle.std.specs.declared.cmp.Ordering.TheVariants.{Less, Equal, Greater}
use Rattle.lk_arena.proofs.RowAlgebra.{found_other, found_prop, found_same}
use Rattle.lk_arena.specs.Shapes.{found_at, plain_of, value_at, IsDistinct, IsPlain}
use Rattle.lk_arena.specs.Values.{Value, Plain, OfRow}
use Rattle.lk_arena.specs.declared.arena.Arena.{Arena}
use Rattle.lk_arena.specs.declared.node.Field.{Field}
use Rattle.lk_types.proofs.LabelMaps.{find_mapped, get_here, get_there, no_entries, same_maps, sorted_mapped, tie_cases, with_value, Differ, Tied}
use Rattle.lk_types.specs.Each.{Each}
use Rattle.lk_types.specs.Levels.{at, field_made}
use Rattle.lk_types.specs.Rows.{Label, label_order}
use Rattle.lk_types.specs.declared.ty.Ty.{Ty}
use Rattle.lk_arena.specs.Openings.{field_type}
use Rattle.lk_unify.specs.Levels.{no_places, place_field, place_of, with_places, Places}
use Rattle.lk_unify.specs.Reading.{type_in, RowTypes}

module _ (nodes : Arena) (places : List ℕ) where
  -- the place of the field that was found, or what stood there before
  abbrev or_place : Option ℕ → Option ℕ → Option ℕ
  or_place None old = old
  or_place (Some n) old = Some (place_of nodes places n)

  place_found : (fs : List Field) (row : Places) → IsDistinct fs → (l : Label) → fin.get (with_places nodes places fs row) l ≡ or_place (found_at fs l) (fin.get row l)
  place_found [] row distinct l = refl
  place_found (f ∷ fs) row distinct l =
      let p : ℕ = place_of nodes places f.node in
      let rest = place_found fs (fin.insert row f.label p) distinct.1 l in
      ⊎_elim
      (λ (e : Tied l f.label).
      rest
      ∙ ap (λ o. or_place o (fin.get (fin.insert row f.label p) l)) (ap (found_at fs) e.1 ∙ distinct.0)
      ∙ get_here row f.label p l e.1
      ∙ ap (λ o. or_place o (fin.get row l)) (sym (found_same f fs l e.1)))
      (λ (d : Differ l f.label).
      rest
      ∙ ap (or_place (found_at fs l)) (get_there row f.label p l d.1)
      ∙ ap (λ o. or_place o (fin.get row l)) (sym (found_other f fs l d.1)))
      (tie_cases l f.label)

-- ---- what holds of all places

module _ (P : ℕ → Type 0) where
  put_each : (l : Label) (x : ℕ) (es : List (Label × ℕ)) → P x → Each (λ e. P e.1) es → Each (λ e. P e.1) (fin.put label_order l x es)
  put_each l x [] p each = (p, tt)
  put_each l x (e ∷ es) p each = by_case (label_order l e.0) (put_each l x es p each.1)
    where
      by_case : (o : Ordering) → Each (λ e. P e.1) (fin.put label_order l x es) →
          Each (λ e. P e.1) (by_order o ((l, x) ∷ e ∷ es) ((e.0, x) ∷ es) (e ∷ fin.put label_order l x es))
      by_case Less rest = (p, each)
      by_case Equal rest = (p, each.1)
      by_case Greater rest = (each.0, rest)

  module _ (nodes : Arena) (places : List ℕ) where
    with_each : (fs : List Field) (row : Places) → Each (λ f. P (place_of nodes places f.node)) fs → Each (λ e. P e.1) (fin.entries row) → Each (λ e. P e.1) (fin.entries (with_places nodes places fs row))
    with_each [] row all old = old
    with_each (f ∷ fs) row all old =
        with_each fs (fin.insert row f.label (place_of nodes places f.node)) all.1
        (subst (Each (λ e. P e.1)) (sym (fin.entries-insert nat_list_cmp_total row f.label (place_of nodes places f.node))) (put_each f.label (place_of nodes places f.node) (fin.entries row) all.0 old))

    pub places_each : (fs : List Field) → Each (λ f. P (place_of nodes places f.node)) fs → Each (λ e. P e.1) (fin.entries (with_places nodes places fs no_places))
    places_each fs all = with_each fs no_places all (subst (Each (λ e. P e.1)) (sym no_entries) tt)

pub parts_placed : (P : ℕ → Type 0) (es : List (Label × ℕ)) → Each (λ e. P e.1) es → Each P (map (λ f. f.part) (map place_field es))
parts_placed P [] each = tt
parts_placed P (e ∷ es) each = (each.0, parts_placed P es each.1)

-- ---- the types at the places

entries_mapped : (h : ℕ → Ty) (row : Places) (types : RowTypes) → ((l : Label) → option_map h (fin.get row l) ≡ fin.get types l) → map (with_value h) (fin.entries row) ≡ fin.entries types
entries_mapped h row types same =
    let es : List (Label × Ty) = map (with_value h) (fin.entries row) in
    let sorted = sorted_mapped h (fin.entries row) (fin.entries_sorted row) in
    sym (fin.entries-from_sorted label_order es sorted)
    ∙ ap fin.entries (same_maps (fin.from_sorted es) types
    (λ l. fin.get-from_sorted label_order es l sorted ∙ find_mapped h l (fin.entries row) ∙ ap (option_map h) (sym (fin.get-entries row l)) ∙ same l))

made_fields : (ts : List Ty) (es : List (Label × ℕ)) → map (field_made ts) (map place_field es) ≡ map field_type (map (with_value (at ts)) es)
made_fields ts [] = refl
made_fields ts (e ∷ es) = ap (λ fs. field_type (e.0, at ts e.1) ∷ fs) (made_fields ts es)

-- of fields at whose places their types stand
module _ (nodes : Arena) (places : List ℕ) (ts : List Ty) (u : ℕ → Value) (fs : List Field) (distinct : IsDistinct fs) (plain : Each (λ f. IsPlain (u f.node)) fs)
    (stands : Each (λ f. at ts (place_of nodes places f.node) ≡ type_in (u f.node)) fs) where
  plain_type : (x : Value) → IsPlain x → plain_of x ≡ Some (type_in x)
  plain_type (Plain t) p = refl
  plain_type (OfRow m) p = let f : OfRow m ≡ Plain p.0 = p.1 in cc

  type_found : (l : Label) → option_map (at ts) (fin.get (with_places nodes places fs no_places) l) ≡ value_at u (found_at fs l) None
  type_found l =
      ap (option_map (at ts)) (place_found nodes places fs no_places distinct l ∙ ap (or_place nodes places (found_at fs l)) (fin.get-empty label_order l))
      ∙ by_found (found_at fs l) refl
    where
      by_found : (o : Option ℕ) → found_at fs l ≡ o → option_map (at ts) (or_place nodes places o None) ≡ value_at u o None
      by_found None is = refl
      by_found (Some n) is =
          ap Some (found_prop (λ n. at ts (place_of nodes places n) ≡ type_in (u n)) fs l n stands is)
          ∙ sym (plain_type (u n) (found_prop (λ n. IsPlain (u n)) fs l n plain is))

  pub fields_placed : (types : RowTypes) → ((l : Label) → fin.get types l ≡ value_at u (found_at fs l) None) →
      map (field_made ts) (map place_field (fin.entries (with_places nodes places fs no_places))) ≡ map field_type (fin.entries types)
  fields_placed types same =
      made_fields ts (fin.entries (with_places nodes places fs no_places))
      ∙ ap (map field_type) (entries_mapped (at ts) (with_places nodes places fs no_places) types (λ l. type_found l ∙ sym (same l)))
