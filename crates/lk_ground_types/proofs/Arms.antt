-- What each form of type says of its variables, once it is known what it becomes.
use Rattle.std.proofs.Common.{◌≡◌, ◌⊎◌, inl, inr, ℕ, zero, suc, ◌+◌, ◌<◌, List, [], ◌∷◌, ◌++◌, append-nil, length, take, drop, get_or, map, refl, ap, sym, ◌∙◌, Option, Some, None, arith}
use Rattle.std.proofs.lemmas.Grind.{flat_map-append}
use Rattle.std.proofs.lemmas.List.{drop_more, take_more}
use Rattle.std.proofs.lemmas.Option.{none-some}
use Rattle.std.specs.FinMap as fin
use Rattle.std.specs.List.{cons_option}
use Rattle.std.specs.Prelude.{flat_map}
use Rattle.lk_types.proofs.Unfold.{under_field, under_fields, under_function, under_list, under_row, under_tags, under_variable}
use Rattle.lk_types.proofs.Unfold.{variables_base, variables_field, variables_fields, variables_function, variables_list, variables_row, variables_tags, variables_variable}
use Rattle.lk_types.specs.Grounding.{Grounding, all_of, before_row, effect_tail, effects_under, field_under, row_tail, row_under, under}
use Rattle.lk_types.specs.Rows.{EffectSet, Label, Row, effects_of, fields_of}
use Rattle.lk_types.specs.Variables.{before_tail, effects_variables, tail_variable, variables_of, variables_of_field, variables_of_row}
use Rattle.lk_types.specs.declared.ground.Ground.{Ground}
use Rattle.lk_types.specs.declared.ground.Ground.TheVariants as known
use Rattle.lk_types.specs.declared.ground.GroundField.{GroundField}
use Rattle.lk_types.specs.declared.ty.Effect.{Effect}
use Rattle.lk_types.specs.declared.ty.Effects.{Effects}
use Rattle.lk_types.specs.declared.ty.RowTail.{RowTail}
use Rattle.lk_types.specs.declared.ty.RowTail.TheVariants.{Closed, Var}
use Rattle.lk_types.specs.declared.ty.Ty.{Ty}
use Rattle.lk_types.specs.declared.ty.Ty.TheVariants as ty
use Rattle.lk_types.specs.declared.ty.TyField.{TyField}
use Rattle.lk_types.specs.declared.ty.TyRow.{TyRow, out-TyRow}
use Rattle.lk_types.specs.declared.ty.Variable.{Variable}
use Rattle.lk_types.specs.declared.ty.Variable.TheVariants as variable
use Rattle.lk_ground_types.proofs.Binding.{binds_as, binds_both, binds_effects, binds_none, binds_nothing, binds_plain, binds_row}
use Rattle.lk_ground_types.proofs.EffectLists.{left_of}
use Rattle.lk_types.proofs.LabelMaps.{get_here, get_there, map_back, removed_here, removed_there, same_maps, tie_cases, Tied, Differ}
use Rattle.lk_types.proofs.Parts.{all_some, function_some, mapped, same_some, with_one}
use Rattle.lk_ground_types.proofs.RowNumbers.{row_of}
use Rattle.lk_ground_types.specs.Bound.{is_listed, with_effects, with_plain, with_row, without}
use Rattle.lk_ground_types.specs.Forms.{fields_in, fields_level, function_in, function_level, item_in, item_level, tags_in, tags_level}
use Rattle.lk_ground_types.specs.Matching.{Binds}

abbrev pub Becomes : Ty → Ground → Grounding → Type 0
Becomes t g σ = under σ t ≡ Some g

module _ (body : Ty) (g : Ground) (a : Grounding) where
  -- ---- a type without variables

  pub at_base : (body ≡ ty.Int) ⊎ ((body ≡ ty.Bool) ⊎ (body ≡ ty.Text)) → Binds (variables_of body) (Becomes body g) a a
  at_base is = binds_none (variables_of body) (Becomes body g) a (variables_base body is)

  -- ---- lists

  module _ (t : Ty) (is : body ≡ ty.List t) where
    items : (σ : Grounding) → Becomes body g σ → (k : Ground) × (under σ t ≡ Some k) × (item_in g ≡ Some k)
    items σ e =
        let x = mapped known.List (under σ t) g (sym (under_list σ t) ∙ ap (under σ) (sym is) ∙ e) in
        (x.0, x.1, ap item_in x.2 ∙ ap item_level (known.outs-List x.0))

    pub no_list : item_in g ≡ None → Binds (variables_of body) (Becomes body g) a a
    no_list none = binds_nothing (variables_of body) (Becomes body g) a (λ σ e. (let x = items σ e in none-some x.0 (sym none ∙ x.2)))

    pub at_list : (k : Ground) (b : Grounding) → item_in g ≡ Some k → Binds (variables_of t) (Becomes t k) a b → Binds (variables_of body) (Becomes body g) a b
    at_list k b some binds =
        binds_as (ap variables_of is ∙ variables_list t) binds (λ σ e. (let x = items σ e in x.1 ∙ sym x.2 ∙ some))

  -- ---- records and variants

  abbrev pub IsRow : TyRow → List GroundField → Grounding → Type 0
  IsRow r fields σ = (m : Row) × (row_under σ r ≡ Some m) × (fields_of m ≡ fields)

  module _ (r : TyRow) (is : body ≡ ty.Fields r) where
    fields_become : (σ : Grounding) → Becomes body g σ → (m : Row) × (row_under σ r ≡ Some m) × (fields_in g ≡ Some (fields_of m))
    fields_become σ e =
        let x = mapped (λ (m : Row). known.Fields (fields_of m)) (row_under σ r) g (sym (under_fields σ r) ∙ ap (under σ) (sym is) ∙ e) in
        (x.0, x.1, ap fields_in x.2 ∙ ap fields_level (known.outs-Fields (fields_of x.0)))

    pub no_record : fields_in g ≡ None → Binds (variables_of body) (Becomes body g) a a
    no_record none = binds_nothing (variables_of body) (Becomes body g) a (λ σ e. (let x = fields_become σ e in none-some (fields_of x.0) (sym none ∙ x.2)))

    pub at_record : (fields : List GroundField) (b : Grounding) → fields_in g ≡ Some fields → Binds (variables_of_row r) (IsRow r fields) a b → Binds (variables_of body) (Becomes body g) a b
    at_record fields b some binds =
        binds_as (ap variables_of is ∙ variables_fields r) binds (λ σ e. (let x = fields_become σ e in (x.0, x.1, same_some (sym x.2 ∙ some))))

  module _ (r : TyRow) (is : body ≡ ty.Tags r) where
    tags_become : (σ : Grounding) → Becomes body g σ → (m : Row) × (row_under σ r ≡ Some m) × (tags_in g ≡ Some (fields_of m))
    tags_become σ e =
        let x = mapped (λ (m : Row). known.Tags (fields_of m)) (row_under σ r) g (sym (under_tags σ r) ∙ ap (under σ) (sym is) ∙ e) in
        (x.0, x.1, ap tags_in x.2 ∙ ap tags_level (known.outs-Tags (fields_of x.0)))

    pub no_variant : tags_in g ≡ None → Binds (variables_of body) (Becomes body g) a a
    no_variant none = binds_nothing (variables_of body) (Becomes body g) a (λ σ e. (let x = tags_become σ e in none-some (fields_of x.0) (sym none ∙ x.2)))

    pub at_variant : (tags : List GroundField) (b : Grounding) → tags_in g ≡ Some tags → Binds (variables_of_row r) (IsRow r tags) a b → Binds (variables_of body) (Becomes body g) a b
    at_variant tags b some binds =
        binds_as (ap variables_of is ∙ variables_tags r) binds (λ σ e. (let x = tags_become σ e in (x.0, x.1, same_some (sym x.2 ∙ some))))

  -- ---- functions

  abbrev pub AllBecome : List Ty → List Ground → Grounding → Type 0
  AllBecome ts ks σ = all_of (map (under σ) ts) ≡ Some ks

  abbrev pub HaveEffects : Effects → List Effect → Grounding → Type 0
  HaveEffects es labels σ = (s : EffectSet) × (effects_under σ es ≡ Some s) × (effects_of s ≡ labels)

  module _ (params : List Ty) (es : Effects) (answer : Ty) (is : body ≡ ty.Fun params es answer) where
    record Parts (σ : Grounding) : Type 0 where
      knowns : List Ground
      s : EffectSet
      known : Ground
      all : all_of (map (under σ) params) ≡ Some knowns
      set : effects_under σ es ≡ Some s
      last : under σ answer ≡ Some known
      whole : function_in g ≡ Some (knowns, effects_of s, known)

    parts : (σ : Grounding) → Becomes body g σ → Parts σ
    parts σ e =
        let x = function_some (all_of (map (under σ) params)) (effects_under σ es) (under σ answer) g (sym (under_function σ params es answer) ∙ ap (under σ) (sym is) ∙ e) in
        record { knowns = x.0; s = x.1; known = x.2; all = x.3; set = x.4; last = x.5; whole = ap function_in x.6 ∙ ap function_level (known.outs-Fun x.0 (effects_of x.1) x.2) }

    pub no_function : function_in g ≡ None → Binds (variables_of body) (Becomes body g) a a
    no_function none = binds_nothing (variables_of body) (Becomes body g) a (λ σ e. (let x = parts σ e in none-some _ (sym none ∙ x.whole)))

    abbrev Three : Type 0
    Three = List Ground × List Effect × Ground

    pub at_function : (ks : List Ground) (labels : List Effect) (k : Ground) (b c d : Grounding) → ◌≡◌ {A = Option Three} (function_in g) (Some (ks, labels, k))
        → Binds (flat_map variables_of params) (AllBecome params ks) a b → Binds (effects_variables es) (HaveEffects es labels) b c → Binds (variables_of answer) (Becomes answer k) c d
        → Binds (variables_of body) (Becomes body g) a d
    at_function ks labels k b c d some first second third =
        binds_both (ap variables_of is ∙ variables_function params es answer)
        (binds_both {S = λ σ. AllBecome params ks σ × HaveEffects es labels σ} refl first second (λ σ both. both)) third
        (λ σ e.
        (let x = parts σ e in
        let same : ◌≡◌ {A = Three} (x.knowns, effects_of x.s, x.known) (ks, labels, k) = same_some (sym x.whole ∙ some) in
        ((x.all ∙ ap (λ p. Some p.0) same, (x.s, x.set, ap (λ p. p.1) same)), x.last ∙ ap (λ p. Some p.2) same)))

  -- ---- variables

  pub at_variable : (n : ℕ) (b : Grounding) → body ≡ ty.Var n → b ≡ with_plain n g a → Binds (variables_of body) (Becomes body g) a b
  at_variable n b is new =
      binds_as (ap variables_of is ∙ variables_variable n) (binds_plain (Becomes body g) a n g b new (λ σ e. same_some (sym e ∙ ap (under σ) is ∙ under_variable σ n))) (λ σ e. e)

-- ---- one after another

pub all_length : (σ : Grounding) (ts : List Ty) (ks : List Ground) → all_of (map (under σ) ts) ≡ Some ks → length ts ≡ length ks
all_length σ [] ks e = ap length (same_some e)
all_length σ (t ∷ ts) ks e = let x = all_some (under σ t) (map (under σ) ts) ks e in ap suc (all_length σ ts x.1 x.3) ∙ ap length (sym x.4)

pub all_at : (σ : Grounding) (ts : List Ty) (ks : List Ground) → all_of (map (under σ) ts) ≡ Some ks → (i : ℕ) (t : Ty) (k : Ground) → i < length ts → under σ (get_or ts i t) ≡ Some (get_or ks i k)
all_at σ [] ks e i t k below = absurd (omega arith)
all_at σ (x ∷ ts) ks e zero t k below = let m = all_some (under σ x) (map (under σ) ts) ks e in m.2 ∙ ap (λ ks. Some (get_or ks 0 k)) (sym m.4)
all_at σ (x ∷ ts) ks e (suc i) t k below =
    let m = all_some (under σ x) (map (under σ) ts) ks e in all_at σ ts m.1 m.3 i t k (omega arith) ∙ ap (λ ks. Some (get_or ks (suc i) k)) (sym m.4)

pub more_variables : {X : Type 0} (f : X → List Variable) (xs : List X) (i : ℕ) (x : X) → i < length xs → flat_map f (take (i + 1) xs) ≡ flat_map f (take i xs) ++ f (get_or xs i x)
more_variables f xs i x below =
    ap (flat_map f) (take_more xs i x below) ∙ flat_map-append f (take i xs) (get_or xs i x ∷ []) ∙ ap (λ ys. flat_map f (take i xs) ++ ys) (append-nil (f (get_or xs i x)))

abbrev pub AreBound : List Ty → List Ground → ℕ → Grounding → Grounding → Type 0
AreBound ts ks i a b = Binds (flat_map variables_of (take i ts)) (λ σ. all_of (map (under σ) ts) ≡ Some ks) a b

pub one_more_bound : (ts : List Ty) (ks : List Ground) (i : ℕ) (t d : Ty) (k h : Ground) (a b c : Grounding) → i < length ts → t ≡ get_or ts i d → k ≡ get_or ks i h
    → AreBound ts ks i a b → Binds (variables_of t) (Becomes t k) b c → AreBound ts ks (i + 1) a c
one_more_bound ts ks i t d k h a b c below t_is k_is before binds =
    binds_both (more_variables variables_of ts i d below ∙ ap (λ t. flat_map variables_of (take i ts) ++ variables_of t) (sym t_is)) before binds
    (λ σ e. (e, ap (under σ) t_is ∙ all_at σ ts ks e i d h below ∙ ap Some (sym k_is)))

pub none_fit : (ts : List Ty) (ks : List Ground) (a : Grounding) → (length ts ≡ length ks → ⊥) → Binds (flat_map variables_of ts) (λ σ. all_of (map (under σ) ts) ≡ Some ks) a a
none_fit ts ks a apart = binds_nothing _ _ a (λ σ e. apart (all_length σ ts ks e))

-- ---- fields

-- the row without its first field
pub rest_is : (row m : Row) (l : Label) (g : Ground) → fin.get m l ≡ None → row ≡ fin.insert m l g → (fin.get row l ≡ Some g) × (fin.remove row l ≡ m)
rest_is row m l g none is = (
  ap (λ r. fin.get r l) is ∙ get_here m l g l refl,
  same_maps (fin.remove row l) m at,
)
  where
    at : (q : Label) → fin.get (fin.remove row l) q ≡ fin.get m q
    at q = by_case (tie_cases q l)
      where
        by_case : Tied q l ⊎ Differ q l → fin.get (fin.remove row l) q ≡ fin.get m q
        by_case (inl tied) = removed_here row l q tied.1 ∙ sym (ap (fin.get m) tied.1 ∙ none)
        by_case (inr differ) = removed_there row l q differ.1 ∙ ap (λ r. fin.get r q) is ∙ get_there m l g q differ.1

abbrev pub FieldBecomes : TyField → Row → Grounding → Type 0
FieldBecomes f row σ = (g : Ground) × (under σ f.ty ≡ Some g) × (fin.get row f.label ≡ Some g)

abbrev pub FieldsBecome : List TyField → Row → Grounding → Type 0
FieldsBecome fs row σ = (below : Row) × (before_row (map (field_under σ) fs) below ≡ Some row)

-- the first field and the rest
pub first_becomes : (σ : Grounding) (f : TyField) (fs : List TyField) (below row : Row) → before_row (map (field_under σ) (f ∷ fs)) below ≡ Some row
    → FieldBecomes f row σ × (before_row (map (field_under σ) fs) below ≡ Some (fin.remove row f.label))
first_becomes σ f fs below row e =
    let w = with_one f.label (under σ f.ty) (before_row (map (field_under σ) fs) below) row (ap (λ k. before_row (k ∷ map (field_under σ) fs) below) (sym (under_field σ f)) ∙ e) in
    let rest = rest_is row w.1 f.label w.0 w.4 w.5 in
    ((w.0, w.2, rest.0), w.3 ∙ ap Some (sym rest.1))

pub record Taken (fs : List TyField) (row : Row) (i : ℕ) (rest : Row) (a b : Grounding) : Type 0 where
  pub left : (σ : Grounding) (below : Row) → before_row (map (field_under σ) fs) below ≡ Some row → before_row (map (field_under σ) (drop i fs)) below ≡ Some rest
  pub bound : Binds (flat_map variables_of_field (take i fs)) (FieldsBecome fs row) a b

pub one_more_taken : (fs : List TyField) (row : Row) (i : ℕ) (f d : TyField) (rest less : Row) (a b c : Grounding) → i < length fs → f ≡ get_or fs i d
    → Taken fs row i rest a b → less ≡ fin.remove rest f.label → Binds (variables_of_field f) (FieldBecomes f rest) b c → Taken fs row (i + 1) less a c
one_more_taken fs row i f d rest less a b c below f_is taken less_is binds = record {
  left = λ σ under_it e. (split σ under_it e).1 ∙ ap Some (sym less_is);
  bound = binds_both (more_variables variables_of_field fs i d below ∙ ap (λ f. flat_map variables_of_field (take i fs) ++ variables_of_field f) (sym f_is)) taken.bound binds
      (λ σ e. (e, (split σ e.0 e.1).0));
}
  where
    split : (σ : Grounding) (under_it : Row) → before_row (map (field_under σ) fs) under_it ≡ Some row
        → FieldBecomes f rest σ × (before_row (map (field_under σ) (drop (i + 1) fs)) under_it ≡ Some (fin.remove rest f.label))
    split σ under_it e =
        first_becomes σ f (drop (i + 1) fs) under_it rest
        (ap (λ fs. before_row (map (field_under σ) fs) under_it) (sym (drop_more fs i d below ∙ ap (λ f. f ∷ drop (i + 1) fs) (sym f_is))) ∙ taken.left σ under_it e)

pub at_field : (f : TyField) (row : Row) (k : Ground) (a b : Grounding) → fin.get row f.label ≡ Some k → Binds (variables_of f.ty) (Becomes f.ty k) a b → Binds (variables_of_field f) (FieldBecomes f row) a b
at_field f row k a b some binds = binds_as (variables_field f) binds (λ σ e. e.1 ∙ sym e.2 ∙ some)

pub no_field : (f : TyField) (row : Row) (a : Grounding) → fin.get row f.label ≡ None → Binds (variables_of_field f) (FieldBecomes f row) a a
no_field f row a none = binds_nothing (variables_of_field f) (FieldBecomes f row) a (λ σ e. none-some e.0 (sym none ∙ e.2))

-- ---- a row

-- the entries of a row, from its fields
entries_back : (m : Row) → row_of (fields_of m) ≡ m
entries_back m = ap fin.from_entries (each_entry (fin.entries m)) ∙ map_back m
  where
    each_entry : (es : List (Label × Ground)) → map (λ (f : GroundField). (f.label, f.ty)) (map (λ e. record { label = e.0; ty = e.1 }) es) ≡ es
    each_entry [] = refl
    each_entry (e ∷ es) = ap (λ more. e ∷ more) (each_entry es)

module _ (r : TyRow) (fs : List TyField) (fs_are : fs ≡ (out-TyRow r).fields) (fields : List GroundField) (row rest : Row) (a b : Grounding) (row_is : row ≡ row_of fields)
    (left : (σ : Grounding) (below : Row) → before_row (map (field_under σ) fs) below ≡ Some row → rest ≡ below)
    (bound : Binds (flat_map variables_of_field fs) (FieldsBecome fs row) a b) where
  abbrev RowBecomes : Grounding → Type 0
  RowBecomes σ = (m : Row) × (row_under σ r ≡ Some m) × (fields_of m ≡ fields)

  whole : (σ : Grounding) → RowBecomes σ → before_row (map (field_under σ) fs) (row_tail σ (out-TyRow r).tail) ≡ Some row
  whole σ e =
      ap (λ fs. before_row (map (field_under σ) fs) (row_tail σ (out-TyRow r).tail)) fs_are
      ∙ sym (under_row σ r) ∙ e.1 ∙ ap Some (sym (row_is ∙ ap row_of (sym e.2) ∙ entries_back e.0))

  variables_are : (tail : RowTail) → (out-TyRow r).tail ≡ tail → variables_of_row r ≡ flat_map variables_of_field fs ++ cons_option (tail_variable variable.Row tail) []
  variables_are tail is = variables_row r ∙ (λ i. before_tail (flat_map variables_of_field (sym fs_are i)) variable.Row (is i))

  pub at_closed : (out-TyRow r).tail ≡ Closed → Binds (variables_of_row r) RowBecomes a b
  at_closed is = binds_as (variables_are Closed is ∙ append-nil _) bound (λ σ e. (row_tail σ (out-TyRow r).tail, whole σ e))

  pub at_tail : (n : ℕ) (c : Grounding) → (out-TyRow r).tail ≡ Var n → c ≡ with_row n rest b → Binds (variables_of_row r) RowBecomes a c
  at_tail n c is new =
      binds_both (variables_are (Var n) is) bound
      (binds_row RowBecomes b n rest c new (λ σ e. left σ (row_tail σ (out-TyRow r).tail) (whole σ e) ∙ ap (row_tail σ) is))
      (λ σ e. ((row_tail σ (out-TyRow r).tail, whole σ e), e))

-- ---- effects

module _ (es : Effects) (labels : List Effect) (a : Grounding) where
  abbrev EffectsBecome : Grounding → Type 0
  EffectsBecome σ = (s : EffectSet) × (effects_under σ es ≡ Some s) × (effects_of s ≡ labels)

  pub at_effects : (n : ℕ) (left : List Effect) (b : Grounding) → es.tail ≡ Var n → left ≡ without labels es.labels → b ≡ with_effects n (is_listed left) a → Binds (effects_variables es) EffectsBecome a b
  at_effects n left b is left_is new =
      binds_as (ap (before_tail [] variable.Effects) is)
      (binds_effects EffectsBecome a n (is_listed left) b new
      (λ σ e. ap is_listed left_is ∙ left_of es.labels labels (effect_tail σ es.tail) e.0 e.1 e.2 ∙ ap (effect_tail σ) is))
      (λ σ e. e)

  pub no_effects_bound : es.tail ≡ Closed → Binds (effects_variables es) EffectsBecome a a
  no_effects_bound is = binds_none (effects_variables es) EffectsBecome a (ap (before_tail [] variable.Effects) is)
