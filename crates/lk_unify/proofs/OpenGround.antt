-- Ground types as types: what they are made of is read back from them, and what stands for variables as ground types is put for them.
use Rattle.std.proofs.Common.{◌≡◌, Bool, true, false, List, [], ◌∷◌, map, refl, sym, ◌∙◌, ap, Option, Some, None, cond}
use Rattle.std.specs.Cmp.Lexicographic.{nat_list_cmp_total}
use Rattle.std.specs.FinMap as fin
use Rattle.std.specs.Option.{option_map}
use Rattle.std.specs.Ordering.{eq_by_cmp}
use Rattle.lk_types.specs.Each.{Each}
use Rattle.lk_types.specs.Rows.{Label, Row, EffectSet, label_order, no_fields, fields_of, effects_of}
use Rattle.lk_types.specs.declared.ground.Ground.{Ground}
use Rattle.lk_types.specs.declared.ground.Ground.TheVariants as known
use Rattle.lk_types.specs.declared.ground.GroundField.{GroundField}
use Rattle.lk_types.specs.declared.ty.Effects.{Effects}
use Rattle.lk_types.specs.declared.ty.RowTail.{RowTail}
use Rattle.lk_types.specs.declared.ty.RowTail.TheVariants.{Closed}
use Rattle.lk_types.specs.declared.ty.Ty.{Ty, fold-Ty}
use Rattle.lk_types.specs.declared.ty.Ty.TheFolds.{the_lemmas}
use Rattle.lk_types.specs.declared.ty.Ty.TheOpen.{Ty-F, TyField-F, TyRow-F}
use Rattle.lk_types.specs.declared.ty.Ty.TheVariants as ty
use Rattle.lk_types.specs.declared.ty.TyField.{TyField, fold-TyField}
use Rattle.lk_types.specs.declared.ty.TyRow.{TyRow, roll-TyRow, fold-TyRow}
use Rattle.lk_unify.proofs.GroundInduction.{every_ground}
use Rattle.lk_types.proofs.LabelMaps.{same_maps, entries_back, map_back, no_entries, with_value, find_mapped, sorted_mapped}
use Rattle.lk_unify.proofs.OpenUnfold.{as_field, as_int, as_bool, as_text, as_list, as_fields, as_tags, as_function}
use Rattle.lk_arena.specs.Openings.{OpenRow, only_tail, field_type, row_type, effects_type, as_type, as_entry, as_row, as_effects}

-- ---- the ground type that a type without variables is

abbrev level_ground : Ty-F Ground GroundField (List GroundField) → Ground
level_ground Ty-F.Int = known.Int
level_ground Ty-F.Bool = known.Bool
level_ground Ty-F.Text = known.Text
level_ground (Ty-F.List t) = known.List t
level_ground (Ty-F.Fields fs) = known.Fields fs
level_ground (Ty-F.Tags fs) = known.Tags fs
level_ground (Ty-F.Fun params es answer) = known.Fun params es.labels answer
level_ground (Ty-F.Var n) = known.Int

abbrev level_ground_field : TyField-F Ground GroundField (List GroundField) → GroundField
level_ground_field f = record { label = f.label; ty = f.ty }

abbrev level_ground_row : TyRow-F Ground GroundField (List GroundField) → List GroundField
level_ground_row row = row.fields

unfoldable pub ground_of : Ty → Ground
ground_of = fold-Ty Ground GroundField (List GroundField) level_ground level_ground_field level_ground_row

unfoldable pub field_ground : TyField → GroundField
field_ground = fold-TyField Ground GroundField (List GroundField) level_ground level_ground_field level_ground_row

unfoldable pub row_ground : TyRow → List GroundField
row_ground = fold-TyRow Ground GroundField (List GroundField) level_ground level_ground_field level_ground_row

pub of_int : ground_of ty.Int ≡ known.Int
unfolding ground_of
of_int = search the_lemmas

pub of_bool : ground_of ty.Bool ≡ known.Bool
unfolding ground_of
of_bool = search the_lemmas

pub of_text : ground_of ty.Text ≡ known.Text
unfolding ground_of
of_text = search the_lemmas

pub of_list : (t : Ty) → ground_of (ty.List t) ≡ known.List (ground_of t)
unfolding ground_of
of_list t = search the_lemmas

pub of_fields : (r : TyRow) → ground_of (ty.Fields r) ≡ known.Fields (row_ground r)
unfolding ground_of row_ground
of_fields r = search the_lemmas

pub of_tags : (r : TyRow) → ground_of (ty.Tags r) ≡ known.Tags (row_ground r)
unfolding ground_of row_ground
of_tags r = search the_lemmas

pub of_function : (params : List Ty) (es : Effects) (answer : Ty) → ground_of (ty.Fun params es answer) ≡ known.Fun (map ground_of params) es.labels (ground_of answer)
unfolding ground_of
of_function params es answer = search the_lemmas

of_row : (fs : List TyField) (tail : RowTail) → row_ground (roll-TyRow (record { fields = fs; tail = tail })) ≡ map field_ground fs
unfolding row_ground field_ground
of_row fs tail = search the_lemmas

of_field : (f : TyField) → field_ground f ≡ record { label = f.label; ty = ground_of f.ty }
unfolding ground_of field_ground
of_field f = search the_lemmas

abbrev Back : Ground → Type 0
Back g = ground_of (as_type g) ≡ g

fields_back : (fs : List GroundField) → Each (λ f. Back f.ty) fs → map field_ground (map as_field fs) ≡ fs
fields_back [] e = refl
fields_back (f ∷ fs) e = λ i. (of_field (as_field f) ∙ ap (λ t. record { label = f.label; ty = t }) e.0) i ∷ fields_back fs e.1 i

types_back : (ts : List Ground) → Each Back ts → map ground_of (map as_type ts) ≡ ts
types_back [] e = refl
types_back (t ∷ ts) e = λ i. e.0 i ∷ types_back ts e.1 i

row_back : (fs : List GroundField) → Each (λ f. Back f.ty) fs → row_ground (roll-TyRow (record { fields = map as_field fs; tail = Closed })) ≡ fs
row_back fs e = of_row (map as_field fs) Closed ∙ fields_back fs e

-- the ground type is read back from it
pub back : (g : Ground) → ground_of (as_type g) ≡ g
back = every_ground Back (record {
  at_int = ap ground_of as_int ∙ of_int;
  at_bool = ap ground_of as_bool ∙ of_bool;
  at_text = ap ground_of as_text ∙ of_text;
  at_list = λ t e. ap ground_of (as_list t) ∙ of_list (as_type t) ∙ ap known.List e;
  at_fields = λ fs e. ap ground_of (as_fields fs) ∙ of_fields (roll-TyRow (record { fields = map as_field fs; tail = Closed })) ∙ ap known.Fields (row_back fs e);
  at_tags = λ fs e. ap ground_of (as_tags fs) ∙ of_tags (roll-TyRow (record { fields = map as_field fs; tail = Closed })) ∙ ap known.Tags (row_back fs e);
  at_function = λ params es answer e f.
      ap ground_of (as_function params es answer) ∙ of_function (map as_type params) (record { labels = es; tail = Closed }) (as_type answer)
      ∙ (λ i. known.Fun (types_back params e i) es (f i));
})

pub as_type-once : (g h : Ground) → as_type g ≡ as_type h → g ≡ h
as_type-once g h e = sym (back g) ∙ ap ground_of e ∙ back h

-- ---- rows of ground types

-- the fields of a row, each as a type
pub entries_as : (m : Row) → fin.entries (as_row m).fields ≡ map as_entry (fin.entries m)
entries_as m = entries_back (map as_entry (fin.entries m)) (sorted_mapped as_type (fin.entries m) (fin.entries_sorted m))

pub get-as_row : (m : Row) (l : Label) → fin.get (as_row m).fields l ≡ option_map as_type (fin.get m l)
get-as_row m l =
    fin.get-from_entries nat_list_cmp_total (map as_entry (fin.entries m)) l
    ∙ find_mapped as_type l (fin.entries m) ∙ ap (option_map as_type) (sym (fin.get-entries m l))

once : (o p : Option Ground) → option_map as_type o ≡ option_map as_type p → o ≡ p
once None None e = refl
once None (Some h) e = (let f : None ≡ Some (as_type h) = e in cc)
once (Some g) None e = (let f : Some (as_type g) ≡ None = e in cc)
once (Some g) (Some h) e = (let f : Some (as_type g) ≡ Some (as_type h) = e in ap Some (as_type-once g h (let k : as_type g ≡ as_type h = cc in k)))

pub as_row-once : (m n : Row) → as_row m ≡ as_row n → m ≡ n
as_row-once m n e = same_maps m n (λ l. once (fin.get m l) (fin.get n l) (sym (get-as_row m l) ∙ ap (λ r. fin.get r.fields l) e ∙ get-as_row n l))

-- the row of ground types that a row of types without variables is
pub ground_row : OpenRow → Row
ground_row r = fin.from_entries (map (with_value ground_of) (fin.entries r.fields))

entries_back_again : (es : List (Label × Ground)) → map (with_value ground_of) (map as_entry es) ≡ es
entries_back_again [] = refl
entries_back_again (e ∷ es) = λ i. (e.0, back e.1 i) ∷ entries_back_again es i

-- is read back from it
pub back_row : (m : Row) → ground_row (as_row m) ≡ m
unfolding ground_row
back_row m = ap (λ es. fin.from_entries (map (with_value ground_of) es)) (entries_as m) ∙ ap fin.from_entries (entries_back_again (fin.entries m)) ∙ map_back m

pub as_effects-once : (s t : EffectSet) → as_effects s ≡ as_effects t → s ≡ t
as_effects-once s t e = ap (λ r. r.labels) e

-- a row with a field more
pub as_row-insert : (m : Row) (l : Label) (g : Ground) → as_row (fin.insert m l g) ≡ record { fields = fin.insert (as_row m).fields l (as_type g); tail = Closed }
as_row-insert m l g =
    ap (λ fs. record { fields = fs; tail = Closed }) (same_maps (as_row (fin.insert m l g)).fields (fin.insert (as_row m).fields l (as_type g)) at)
  where
    by_test : (b : Bool) (o : Option Ground) → option_map as_type (cond b (Some g) o) ≡ cond b (Some (as_type g)) (option_map as_type o)
    by_test true o = refl
    by_test false o = refl

    at : (q : Label) → fin.get (as_row (fin.insert m l g)).fields q ≡ fin.get (fin.insert (as_row m).fields l (as_type g)) q
    at q =
        get-as_row (fin.insert m l g) q ∙ ap (option_map as_type) (fin.get-insert nat_list_cmp_total m l g q)
        ∙ by_test (eq_by_cmp label_order q l) (fin.get m q)
        ∙ ap (cond (eq_by_cmp label_order q l) (Some (as_type g))) (sym (get-as_row m q))
        ∙ sym (fin.get-insert nat_list_cmp_total (as_row m).fields l (as_type g) q)

pub as_row-empty : as_row no_fields ≡ only_tail Closed
as_row-empty = ap (λ es. record { fields = fin.from_entries (map as_entry es); tail = Closed }) no_entries

-- ---- constructors of ground types

to_fields : (es : List (Label × Ground)) → map as_field (map (λ (e : Label × Ground). record { label = e.0; ty = e.1 }) es) ≡ map field_type (map as_entry es)
to_fields [] = refl
to_fields (e ∷ es) = ap (λ r. field_type (as_entry e) ∷ r) (to_fields es)

row_is : (m : Row) → roll-TyRow (record { fields = map as_field (fields_of m); tail = Closed }) ≡ row_type (as_row m)
row_is m = ap (λ fs. roll-TyRow (record { fields = fs; tail = Closed })) (to_fields (fin.entries m) ∙ ap (map field_type) (sym (entries_as m)))

pub as_type-fields : (m : Row) → as_type (known.Fields (fields_of m)) ≡ ty.Fields (row_type (as_row m))
as_type-fields m = as_fields (fields_of m) ∙ ap ty.Fields (row_is m)

pub as_type-tags : (m : Row) → as_type (known.Tags (fields_of m)) ≡ ty.Tags (row_type (as_row m))
as_type-tags m = as_tags (fields_of m) ∙ ap ty.Tags (row_is m)

pub as_type-function : (params : List Ground) (s : EffectSet) (answer : Ground)
    → as_type (known.Fun params (effects_of s) answer) ≡ ty.Fun (map as_type params) (effects_type (as_effects s)) (as_type answer)
as_type-function params s answer = as_function params (effects_of s) answer
