-- Ground types whose records and variants are rows, so that their labels stand in order: what a type becomes is such a type where all
-- that stands for its variables is, and the other way round.
use Rattle.std.proofs.Common.{◌≡◌, refl, sym, ap, ◌∙◌, subst, inl, inr, ◌⊎◌, List, [], ◌∷◌, ◌++◌, map, flat_map, Bool, true, false, bytes_eq, cond, Some, None}
use Rattle.std.specs.Cmp.Lexicographic.{slice_cmp}
use Rattle.std.specs.FinMap as fin
use Rattle.std.specs.List.{cons_option}
use Rattle.std.specs.Ordering.{nat_cmp}
use Rattle.lk_bodies.specs.Shapes.{columns_level, columns_of, element_columns, element_level, labels}
use Rattle.lk_types.proofs.Agreement.{variables_rolled_row}
use Rattle.lk_types.proofs.Parts.{all_some, function_some, mapped, row_rolled, same_some, with_one}
use Rattle.lk_types.proofs.TypeInduction.{Hereditary, every_type}
use Rattle.lk_ground_types.proofs.Variables.{among_each, among_or}
use Rattle.lk_ground_types.specs.Least.{IsAmong, IsLeastBut, least, unit}
use Rattle.lk_inline.proofs.RecordRules.{got}
use Rattle.lk_inline.proofs.RecordValues.{row_in_order}
use Rattle.lk_inline.proofs.RowLabels.{labels_are}
use Rattle.lk_inline.specs.Law.{IsProperType}
use Rattle.lk_sound.proofs.Bindings.{same_bytes}
use Rattle.lk_sound.proofs.FieldRows.{among_get, as_fields, get_among, no_entries}
use Rattle.lk_sound.proofs.TableRows.{bytes_itself}
use Rattle.lk_types.proofs.Members.{each_in, each_of_in, each_both}
use Rattle.lk_sql.specs.Good.{are_in_order}
use Rattle.lk_types.proofs.Unfold.{under_bool, under_fields, under_function, under_int, under_list, under_tags, under_text, under_variable, variables_bool, variables_field, variables_fields, variables_function, variables_int, variables_list, variables_tags, variables_text, variables_variable}
use Rattle.lk_types.specs.Each.{Each}
use Rattle.lk_types.specs.Grounding.{Grounding, all_of, before_row, effects_under, row_tail, row_under, under}
use Rattle.lk_types.specs.Rows.{Label, Row, effects_of, fields_of, no_fields}
use Rattle.lk_types.specs.Variables.{joined, tail_variable, variables_of, variables_of_field, variables_of_row}
use Rattle.lk_types.specs.declared.ground.Ground.{Ground, out-Ground}
use Rattle.lk_types.specs.declared.ground.Ground.TheOpen.{Ground-F}
use Rattle.lk_types.specs.declared.ground.Ground.TheVariants as known
use Rattle.lk_types.specs.declared.ground.GroundField.{GroundField}
use Rattle.lk_types.specs.declared.ty.Effect.{Effect}
use Rattle.lk_types.specs.declared.ty.Effects.{Effects}
use Rattle.lk_types.specs.declared.ty.RowTail.{RowTail}
use Rattle.lk_types.specs.declared.ty.RowTail.TheVariants.{Closed, Var}
use Rattle.lk_types.specs.declared.ty.Ty.{Ty}
use Rattle.lk_types.specs.declared.ty.TyField.{TyField}
use Rattle.lk_types.specs.declared.ty.TyRow.{TyRow}
use Rattle.lk_types.specs.declared.ty.Variable.{Variable}
use Rattle.lk_types.specs.declared.ty.Variable.TheVariants as variable

-- such a type: each in it is one, too
mutual
  pub data OfRows : Ground → Type 0 where
    int : {t : Ground} → t ≡ known.Int → OfRows t
    bool : {t : Ground} → t ≡ known.Bool → OfRows t
    text : {t : Ground} → t ≡ known.Text → OfRows t
    list : {t : Ground} (a : Ground) → t ≡ known.List a → OfRows a → OfRows t
    fields : {t : Ground} (m : Row) → t ≡ known.Fields (fields_of m) → ((l : Label) (u : Ground) → fin.get m l ≡ Some u → OfRows u) → OfRows t
    tags : {t : Ground} (m : Row) → t ≡ known.Tags (fields_of m) → ((l : Label) (u : Ground) → fin.get m l ≡ Some u → OfRows u) → OfRows t
    fun : {t : Ground} (ts : List Ground) (es : List Effect) (a : Ground) → t ≡ known.Fun ts es a → AllOfRows ts → OfRows a → OfRows t

  pub data AllOfRows : List Ground → Type 0 where
    none : AllOfRows []
    more : {t : Ground} {ts : List Ground} → OfRows t → AllOfRows ts → AllOfRows (t ∷ ts)

-- each type in the row
abbrev pub OfRow : Row → Type 0
OfRow m = (l : Label) (u : Ground) → fin.get m l ≡ Some u → OfRows u

-- ---- such a type by its form

abbrev Shape : Ground-F Ground GroundField → Type 0
Shape (Ground-F.List a) = OfRows a
Shape (Ground-F.Fields gs) = (m : Row) × (gs ≡ fields_of m) × OfRow m
Shape (Ground-F.Tags gs) = (m : Row) × (gs ≡ fields_of m) × OfRow m
Shape (Ground-F.Fun ts es a) = AllOfRows ts × OfRows a
Shape other = Unit {0}

shaped : (t u : Ground) (x : Ground-F Ground GroundField) → t ≡ u → out-Ground u ≡ x → Shape x → Shape (out-Ground t)
shaped t u x is out shape = subst Shape (sym (ap out-Ground is ∙ out)) shape

shape : (t : Ground) → OfRows t → Shape (out-Ground t)
shape t (OfRows.int same) = shaped t known.Int Ground-F.Int same known.outs-Int tt
shape t (OfRows.bool same) = shaped t known.Bool Ground-F.Bool same known.outs-Bool tt
shape t (OfRows.text same) = shaped t known.Text Ground-F.Text same known.outs-Text tt
shape t (OfRows.list a same inner) = shaped t (known.List a) (Ground-F.List a) same (known.outs-List a) inner
shape t (OfRows.fields m same inner) = shaped t (known.Fields (fields_of m)) (Ground-F.Fields (fields_of m)) same (known.outs-Fields (fields_of m)) (m, refl, inner)
shape t (OfRows.tags m same inner) = shaped t (known.Tags (fields_of m)) (Ground-F.Tags (fields_of m)) same (known.outs-Tags (fields_of m)) (m, refl, inner)
shape t (OfRows.fun ts es a same inner answer) = shaped t (known.Fun ts es a) (Ground-F.Fun ts es a) same (known.outs-Fun ts es a) (inner, answer)

-- the labels of a record stand in order
record_in_order : (t : Ground) → OfRows t → are_in_order (labels (columns_of t)) ≡ true
record_in_order t of_rows = by_form (out-Ground t) (shape t of_rows)
  where
    by_form : (l : Ground-F Ground GroundField) → Shape l → are_in_order (labels (columns_level l)) ≡ true
    by_form (Ground-F.Fields gs) (m, same, inner) =
        ap are_in_order (ap (λ hs. labels (columns_level (Ground-F.Fields hs))) same ∙ ap (λ l. labels (columns_level l)) (sym (known.outs-Fields (fields_of m))) ∙ labels_are (fields_of m)) ∙ row_in_order m
    by_form other shape = refl

-- and those of the records in a list
elements_in_order : (t : Ground) → OfRows t → are_in_order (labels (element_columns t)) ≡ true
elements_in_order t of_rows = by_form (out-Ground t) (shape t of_rows)
  where
    by_form : (l : Ground-F Ground GroundField) → Shape l → are_in_order (labels (element_level l)) ≡ true
    by_form (Ground-F.List a) inner = record_in_order a inner
    by_form other shape = refl

pub proper_type : (t : Ground) → OfRows t → IsProperType t
proper_type t of_rows = record { columns = record_in_order t of_rows; elements = elements_in_order t of_rows }

-- ---- rows

-- a row is told by its fields
same_fields : (a b : Row) → fields_of a ≡ fields_of b → OfRow a → OfRow b
same_fields a b same of_row l u is = each_in OfField (fields_of b) (record { label = l; ty = u }) (get_among b l u is) (subst (Each OfField) same (each_of_in OfField (fields_of a) (λ f there. of_row f.label f.ty (among_get a f there))))
  where
    OfField : GroundField → Type 0
    OfField f = OfRows f.ty

own_row : (m : Row) → (other : Row) × (fields_of m ≡ fields_of other) × OfRow other → OfRow m
own_row m (other, same, of_row) = same_fields other m (sym same) of_row

of_insert : (rest : Row) (l : Label) (t : Ground) → OfRows t → OfRow rest → OfRow (fin.insert rest l t)
of_insert rest l t one all q u is = by_test (bytes_eq l q) (sym (got rest l t q) ∙ is)
  where
    by_test : (b : Bool) → cond b (Some t) (fin.get rest q) ≡ Some u → OfRows u
    by_test true here = subst OfRows (same_some here) one
    by_test false there = all q u there

-- the type of the first field, and those behind it
of_first : (rest : Row) (l : Label) (t : Ground) → OfRow (fin.insert rest l t) → OfRows t
of_first rest l t all = all l t (got rest l t l ∙ ap (λ b. cond b (Some t) (fin.get rest l)) (bytes_itself l))

of_rest : (rest : Row) (l : Label) (t : Ground) → fin.get rest l ≡ None → OfRow (fin.insert rest l t) → OfRow rest
of_rest rest l t lacks all q u is = by_test (bytes_eq l q) refl
  where
    by_test : (b : Bool) → bytes_eq l q ≡ b → OfRows u
    by_test true same = let wrong : None ≡ Some u = sym lacks ∙ ap (fin.get rest) (same_bytes l q same) ∙ is in absurd cc
    by_test false other = all q u (got rest l t q ∙ ap (λ b. cond b (Some t) (fin.get rest q)) other ∙ is)

of_none : OfRow no_fields
of_none l u is = let wrong : None ≡ Some u = sym (fin.get-empty (slice_cmp nat_cmp) l) ∙ is in absurd cc

of_unit : OfRows unit
of_unit = OfRows.fields no_fields (ap (λ es. known.Fields (as_fields es)) (sym (no_entries Ground))) of_none

-- ---- what a type becomes

abbrev IsOf : Grounding → Variable → Type 0
IsOf σ (variable.Plain n) = OfRows (σ.plain n)
IsOf σ (variable.Row n) = OfRow (σ.rows n)
IsOf σ (variable.Effects n) = Unit {0}

module _ (σ : Grounding) (all : (x : Variable) → IsOf σ x) where
  abbrev Forth : Ty → Type 0
  Forth t = (g : Ground) → under σ t ≡ Some g → OfRows g

  abbrev ForthRow : TyRow → Type 0
  ForthRow r = (m : Row) → row_under σ r ≡ Some m → OfRow m

  all_forth : (ts : List Ty) → Each Forth ts → (gs : List Ground) → all_of (map (under σ) ts) ≡ Some gs → AllOfRows gs
  all_forth [] each gs e = subst AllOfRows (same_some e) AllOfRows.none
  all_forth (t ∷ ts) each gs e =
      let x = all_some (under σ t) (map (under σ) ts) gs e in
      subst AllOfRows (sym x.4) (AllOfRows.more (each.0 x.0 x.2) (all_forth ts each.1 x.1 x.3))

  rows_forth : (below : Row) → OfRow below → (fs : List TyField) → Each (λ (f : TyField). Forth f.ty) fs → (m : Row) → before_row (map (λ (f : TyField). (f.label, under σ f.ty)) fs) below ≡ Some m → OfRow m
  rows_forth below of_below [] each m e = subst OfRow (same_some e) of_below
  rows_forth below of_below (f ∷ fs) each m e =
      let x = with_one f.label (under σ f.ty) (before_row (map (λ (f : TyField). (f.label, under σ f.ty)) fs) below) m e in
      subst OfRow (sym x.5) (of_insert x.1 f.label x.0 (each.0 x.0 x.2) (rows_forth below of_below fs each.1 x.1 x.3))

  tail_forth : (tail : RowTail) → OfRow (row_tail σ tail)
  tail_forth Closed = of_none
  tail_forth (Var n) = all (variable.Row n)

  forth_steps : Hereditary Forth ForthRow
  forth_steps = record {
    at_int = λ g e. OfRows.int (sym (same_some (sym (under_int σ) ∙ e)));
    at_bool = λ g e. OfRows.bool (sym (same_some (sym (under_bool σ) ∙ e)));
    at_text = λ g e. OfRows.text (sym (same_some (sym (under_text σ) ∙ e)));
    at_list = λ t forth g e. let x = mapped known.List (under σ t) g (sym (under_list σ t) ∙ e) in OfRows.list x.0 x.2 (forth x.0 x.1);
    at_fields = λ r forth g e. let x = mapped (λ (m : Row). known.Fields (fields_of m)) (row_under σ r) g (sym (under_fields σ r) ∙ e) in OfRows.fields x.0 x.2 (forth x.0 x.1);
    at_tags = λ r forth g e. let x = mapped (λ (m : Row). known.Tags (fields_of m)) (row_under σ r) g (sym (under_tags σ r) ∙ e) in OfRows.tags x.0 x.2 (forth x.0 x.1);
    at_function = λ params es answer each last g e.
        let x = function_some (all_of (map (under σ) params)) (effects_under σ es) (under σ answer) g (sym (under_function σ params es answer) ∙ e) in
        OfRows.fun x.0 (effects_of x.1) x.2 x.6 (all_forth params each x.0 x.3) (last x.2 x.5);
    at_variable = λ n g e. subst OfRows (same_some (sym (under_variable σ n) ∙ e)) (all (variable.Plain n));
    at_row = λ fs tail each m e. rows_forth (row_tail σ tail) (tail_forth tail) fs each m (sym (row_rolled σ fs tail) ∙ e);
  }

  pub becomes_of_rows : (t : Ty) (g : Ground) → under σ t ≡ Some g → OfRows g
  becomes_of_rows t g e = every_type Forth ForthRow forth_steps t g e

-- ---- what stands for its variables

module _ (σ : Grounding) where
  abbrev Are : List Variable → Type 0
  Are xs = Each (IsOf σ) xs

  abbrev Back : Ty → Type 0
  Back t = (g : Ground) → under σ t ≡ Some g → OfRows g → Are (variables_of t)

  abbrev BackRow : TyRow → Type 0
  BackRow r = (m : Row) → row_under σ r ≡ Some m → OfRow m → Are (variables_of_row r)

  all_back : (ts : List Ty) → Each Back ts → (gs : List Ground) → all_of (map (under σ) ts) ≡ Some gs → AllOfRows gs → Are (flat_map variables_of ts)
  all_back [] each gs e of_rows = tt
  all_back (t ∷ ts) each gs e of_rows =
      let x = all_some (under σ t) (map (under σ) ts) gs e in
      by_first x.0 x.1 x.2 x.3 (subst AllOfRows x.4 of_rows) (all_back ts each.1 x.1 x.3)
    where
      by_first : (g : Ground) (rest : List Ground) → under σ t ≡ Some g → all_of (map (under σ) ts) ≡ Some rest → AllOfRows (g ∷ rest) → (AllOfRows rest → Are (flat_map variables_of ts)) → Are (variables_of t ++ flat_map variables_of ts)
      by_first g rest e f (AllOfRows.more one others) later = each_both (IsOf σ) (variables_of t) (flat_map variables_of ts) (each.0 g e one) (later others)

  effects_back : (tail : RowTail) → Are (cons_option (tail_variable variable.Effects tail) [])
  effects_back Closed = tt
  effects_back (Var n) = (tt, tt)

  tail_back : (tail : RowTail) → OfRow (row_tail σ tail) → Are (cons_option (tail_variable variable.Row tail) [])
  tail_back Closed of_row = tt
  tail_back (Var n) of_row = (of_row, tt)

  rows_back : (below : Row) (fs : List TyField) → Each (λ (f : TyField). Back f.ty) fs → (m : Row) → before_row (map (λ (f : TyField). (f.label, under σ f.ty)) fs) below ≡ Some m → OfRow m → OfRow below × Are (joined (map variables_of_field fs))
  rows_back below [] each m e of_row = (subst OfRow (sym (same_some e)) of_row, tt)
  rows_back below (f ∷ fs) each m e of_row =
      let x = with_one f.label (under σ f.ty) (before_row (map (λ (f : TyField). (f.label, under σ f.ty)) fs) below) m e in
      let whole : OfRow (fin.insert x.1 f.label x.0) = subst OfRow x.5 of_row in
      let rest = rows_back below fs each.1 x.1 x.3 (of_rest x.1 f.label x.0 x.4 whole) in
      (rest.0, each_both (IsOf σ) (variables_of_field f) (joined (map variables_of_field fs)) (subst Are (sym (variables_field f)) (each.0 x.0 x.2 (of_first x.1 f.label x.0 whole))) rest.1)

  back_steps : Hereditary Back BackRow
  back_steps = record {
    at_int = λ g e of_rows. subst Are (sym variables_int) tt;
    at_bool = λ g e of_rows. subst Are (sym variables_bool) tt;
    at_text = λ g e of_rows. subst Are (sym variables_text) tt;
    at_list = λ t back g e of_rows.
        let x = mapped known.List (under σ t) g (sym (under_list σ t) ∙ e) in
        subst Are (sym (variables_list t)) (back x.0 x.1 (subst Shape (ap out-Ground x.2 ∙ known.outs-List x.0) (shape g of_rows)));
    at_fields = λ r back g e of_rows.
        let x = mapped (λ (m : Row). known.Fields (fields_of m)) (row_under σ r) g (sym (under_fields σ r) ∙ e) in
        subst Are (sym (variables_fields r)) (back x.0 x.1 (own_row x.0 (subst Shape (ap out-Ground x.2 ∙ known.outs-Fields (fields_of x.0)) (shape g of_rows))));
    at_tags = λ r back g e of_rows.
        let x = mapped (λ (m : Row). known.Tags (fields_of m)) (row_under σ r) g (sym (under_tags σ r) ∙ e) in
        subst Are (sym (variables_tags r)) (back x.0 x.1 (own_row x.0 (subst Shape (ap out-Ground x.2 ∙ known.outs-Tags (fields_of x.0)) (shape g of_rows))));
    at_function = λ params es answer each last g e of_rows.
        let x = function_some (all_of (map (under σ) params)) (effects_under σ es) (under σ answer) g (sym (under_function σ params es answer) ∙ e) in
        let inner : AllOfRows x.0 × OfRows x.2 = subst Shape (ap out-Ground x.6 ∙ known.outs-Fun x.0 (effects_of x.1) x.2) (shape g of_rows) in
        subst Are (sym (variables_function params es answer))
        (each_both (IsOf σ) (flat_map variables_of params ++ cons_option (tail_variable variable.Effects es.tail) []) (variables_of answer)
        (each_both (IsOf σ) (flat_map variables_of params) (cons_option (tail_variable variable.Effects es.tail) []) (all_back params each x.0 x.3 inner.0) (effects_back es.tail))
        (last x.2 x.5 inner.1));
    at_variable = λ n g e of_rows. subst Are (sym (variables_variable n)) (subst OfRows (sym (same_some (sym (under_variable σ n) ∙ e))) of_rows, tt);
    at_row = λ fs tail each m e of_row.
        let all = rows_back (row_tail σ tail) fs each m (sym (row_rolled σ fs tail) ∙ e) of_row in
        subst Are (sym (variables_rolled_row (record { fields = fs; tail = tail })))
        (each_both (IsOf σ) (joined (map variables_of_field fs)) (cons_option (tail_variable variable.Row tail) []) all.1 (tail_back tail all.0));
  }

  -- ---- groundings

  -- what a type becomes says it of its variables, and where the least stands for all others, of these
  pub all_of_rows : (t : Ty) (g : Ground) → under σ t ≡ Some g → OfRows g → IsLeastBut (variables_of t) σ → (x : Variable) → IsOf σ x
  all_of_rows t g e of_rows others x = by_among (among_or (variables_of t) x) (others_of x)
    where
      others_of : (x : Variable) → (IsAmong (variables_of t) x → ⊥) → IsOf σ x
      others_of (variable.Plain n) not_there = subst OfRows (sym (others.plain n not_there)) of_unit
      others_of (variable.Row n) not_there = subst OfRow (sym (others.rows n not_there)) of_none
      others_of (variable.Effects n) not_there = tt

      by_among : IsAmong (variables_of t) x ⊎ (IsAmong (variables_of t) x → ⊥) → ((IsAmong (variables_of t) x → ⊥) → IsOf σ x) → IsOf σ x
      by_among (inl there) other = among_each (IsOf σ) (variables_of t) (every_type Back BackRow back_steps t g e of_rows) x there
      by_among (inr not_there) other = other not_there

pub least_of_rows : (x : Variable) → IsOf least x
least_of_rows (variable.Plain n) = of_unit
least_of_rows (variable.Row n) = of_none
least_of_rows (variable.Effects n) = tt
