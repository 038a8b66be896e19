-- A row that means something has no label twice: what stands for its tail lacks the labels before it.
use Rattle.std.proofs.Common.{◌≡◌, Bool, false, List, [], ◌∷◌, ◌++◌, map, sym, subst, ◌∙◌, ap, Some, None, is_some}
use Rattle.std.proofs.lemmas.Bool.{or_parts}
use Rattle.std.specs.FinMap as fin
use Rattle.std.specs.Prelude.{flat_map}
use Rattle.lk_types.proofs.Members.{each_both}
use Rattle.lk_types.proofs.Parts.{same_some, mapped, all_some, function_some, row_rolled, with_one}
use Rattle.lk_types.proofs.Rows.{found, same_label}
use Rattle.lk_types.proofs.Unfold.{under_fields, under_function, under_list, under_tags}
use Rattle.lk_types.specs.Each.{Each}
use Rattle.lk_types.specs.Grounding.{Grounding, Known, all_of, before_row, effects_under, row_tail, row_under, under}
use Rattle.lk_types.specs.Rows.{Label, Row, fields_of, has_label}
use Rattle.lk_types.specs.Schemes.{IsLacking}
use Rattle.lk_types.specs.declared.ground.Ground.{Ground}
use Rattle.lk_types.specs.declared.ground.Ground.TheVariants as known
use Rattle.lk_types.specs.declared.scheme.Lack.{Lack}
use Rattle.lk_types.specs.declared.ty.Effects.{Effects}
use Rattle.lk_types.specs.declared.ty.RowTail.{RowTail}
use Rattle.lk_types.specs.declared.ty.RowTail.TheVariants.{Closed, Var}
use Rattle.lk_types.specs.declared.ty.Ty.{Ty}
use Rattle.lk_types.specs.declared.ty.Ty.TheVariants as ty
use Rattle.lk_types.specs.declared.ty.TyField.{TyField}
use Rattle.lk_types.specs.declared.ty.TyRow.{TyRow, roll-TyRow}
use Rattle.lk_types.proofs.TypeInduction.{Hereditary, every_type}
use Rattle.lk_infer.proofs.ShownUnfold.{shown_bool, shown_fields, shown_function, shown_int, shown_list, shown_rolled, shown_tags, shown_text, shown_variable}
use Rattle.lk_infer.specs.Lacks.{shown, shown_in_row, tail_lacks}

-- ---- rows

-- what a longer row lacks
pub longer_lacks : (row : Row) (k : Label) (g : Ground) (m : Row) → fin.get row k ≡ None → m ≡ fin.insert row k g → (l : Label) → has_label m l ≡ false
    → (same_label l k ≡ false) × (has_label row l ≡ false)
longer_lacks row k g m none is l lacks = or_parts (same_label l k) (has_label row l) (sym (found row k g l) ∙ ap (λ m. has_label m l) (sym is) ∙ lacks)

below_lacks : (fs : List Known) (row m : Row) → before_row fs row ≡ Some m → (l : Label) → has_label m l ≡ false → has_label row l ≡ false
below_lacks [] row m e l lacks = ap (λ m. has_label m l) (same_some e) ∙ lacks
below_lacks (f ∷ fs) row m e l lacks =
    let x = with_one f.0 f.1 (before_row fs row) m e in
    below_lacks fs row x.1 x.3 l (longer_lacks x.1 f.0 x.0 m x.4 x.5 l lacks).1

labels_lack : (fs : List Known) (row m : Row) → before_row fs row ≡ Some m → Each (λ l. has_label row l ≡ false) (map (λ (k : Known). k.0) fs)
labels_lack [] row m e = tt
labels_lack (f ∷ fs) row m e =
    let x = with_one f.0 f.1 (before_row fs row) m e in
    (below_lacks fs row x.1 x.3 f.0 (ap is_some x.4), labels_lack fs row x.1 x.3)

module _ (τ : Grounding) where
  abbrev Lacking : Ty → Type 0
  Lacking t = (g : Ground) → under τ t ≡ Some g → Each (IsLacking τ) (shown t)

  abbrev RowLacking : TyRow → Type 0
  RowLacking r = (m : Row) → row_under τ r ≡ Some m → Each (IsLacking τ) (shown_in_row r)

  by_shown : (t : Ty) (lacks : List Lack) → shown t ≡ lacks → Each (IsLacking τ) lacks → Each (IsLacking τ) (shown t)
  by_shown t lacks is each = subst (λ lacks. Each (IsLacking τ) lacks) (sym is) each

  types_lacking : (ts : List Ty) → Each Lacking ts → (gs : List Ground) → all_of (map (under τ) ts) ≡ Some gs → Each (IsLacking τ) (flat_map shown ts)
  types_lacking [] each gs e = tt
  types_lacking (t ∷ ts) each gs e =
      let x = all_some (under τ t) (map (under τ) ts) gs e in
      each_both (IsLacking τ) (shown t) (flat_map shown ts) (each.0 x.0 x.2) (types_lacking ts each.1 x.1 x.3)

  fields_lacking : (row : Row) (fs : List TyField) → Each (λ f. Lacking f.ty) fs → (m : Row)
      → before_row (map (λ f. (f.label, under τ f.ty)) fs) row ≡ Some m → Each (IsLacking τ) (flat_map (λ f. shown f.ty) fs)
  fields_lacking row [] each m e = tt
  fields_lacking row (f ∷ fs) each m e =
      let x = with_one f.label (under τ f.ty) (before_row (map (λ f. (f.label, under τ f.ty)) fs) row) m e in
      each_both (IsLacking τ) (shown f.ty) (flat_map (λ f. shown f.ty) fs) (each.0 x.0 x.2) (fields_lacking row fs each.1 x.1 x.3)

  tail_lacking : (tail : RowTail) (fs : List TyField) → Each (λ l. has_label (row_tail τ tail) l ≡ false) (map (λ (k : Known). k.0) (map (λ (f : TyField). (f.label, under τ f.ty)) fs))
      → Each (IsLacking τ) (tail_lacks (map (λ f. f.label) fs) tail)
  tail_lacking Closed fs each = tt
  tail_lacking (Var n) [] each = tt
  tail_lacking (Var n) (f ∷ fs) each = (each.0, tail_lacking (Var n) fs each.1)

  at_row : (fs : List TyField) (tail : RowTail) → Each (λ f. Lacking f.ty) fs → RowLacking (roll-TyRow (record { fields = fs; tail = tail }))
  at_row fs tail each m e =
      let is = sym (row_rolled τ fs tail) ∙ e in
      subst (λ lacks. Each (IsLacking τ) lacks) (sym (shown_rolled fs tail))
      (each_both (IsLacking τ) (flat_map (λ f. shown f.ty) fs) (tail_lacks (map (λ f. f.label) fs) tail) (fields_lacking (row_tail τ tail) fs each m is)
      (tail_lacking tail fs (labels_lack (map (λ f. (f.label, under τ f.ty)) fs) (row_tail τ tail) m is)))

  at_list : (t : Ty) → Lacking t → Lacking (ty.List t)
  at_list t lacking g e = let x = mapped known.List (under τ t) g (sym (under_list τ t) ∙ e) in by_shown (ty.List t) (shown t) (shown_list t) (lacking x.0 x.1)

  at_fields : (r : TyRow) → RowLacking r → Lacking (ty.Fields r)
  at_fields r lacking g e =
      let x = mapped (λ (m : Row). known.Fields (fields_of m)) (row_under τ r) g (sym (under_fields τ r) ∙ e) in
      by_shown (ty.Fields r) (shown_in_row r) (shown_fields r) (lacking x.0 x.1)

  at_tags : (r : TyRow) → RowLacking r → Lacking (ty.Tags r)
  at_tags r lacking g e =
      let x = mapped (λ (m : Row). known.Tags (fields_of m)) (row_under τ r) g (sym (under_tags τ r) ∙ e) in
      by_shown (ty.Tags r) (shown_in_row r) (shown_tags r) (lacking x.0 x.1)

  at_function : (params : List Ty) (es : Effects) (answer : Ty) → Each Lacking params → Lacking answer → Lacking (ty.Fun params es answer)
  at_function params es answer each last g e =
      let x = function_some (all_of (map (under τ) params)) (effects_under τ es) (under τ answer) g (sym (under_function τ params es answer) ∙ e) in
      by_shown (ty.Fun params es answer) (flat_map shown params ++ shown answer) (shown_function params es answer)
      (each_both (IsLacking τ) (flat_map shown params) (shown answer) (types_lacking params each x.0 x.3) (last x.2 x.5))

  steps : Hereditary Lacking RowLacking
  steps = record {
    at_int = λ g e. by_shown ty.Int [] shown_int tt;
    at_bool = λ g e. by_shown ty.Bool [] shown_bool tt;
    at_text = λ g e. by_shown ty.Text [] shown_text tt;
    at_list = at_list;
    at_fields = at_fields;
    at_tags = at_tags;
    at_function = at_function;
    at_variable = λ n g e. by_shown (ty.Var n) [] (shown_variable n) tt;
    at_row = at_row;
  }

pub lacks_shown : (τ : Grounding) (t : Ty) (g : Ground) → under τ t ≡ Some g → Each (IsLacking τ) (shown t)
lacks_shown τ t = every_type (Lacking τ) (RowLacking τ) (steps τ) t
