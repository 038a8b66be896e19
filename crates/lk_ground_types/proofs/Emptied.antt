-- A type that becomes something still does where fewer fields and effects stand for the tails of its rows.
use Rattle.std.proofs.Common.{◌≡◌, ◌⊎◌, inl, inr, ℕ, Bool, true, false, ◌||◌, List, [], ◌∷◌, map, refl, sym, ◌∙◌, ap, Option, Some, None, is_some}
use Rattle.std.proofs.lemmas.Bool.{or_parts, or_from}
use Rattle.std.specs.FinMap as fin
use Rattle.std.specs.Option.{option_map}
use Rattle.std.specs.Prelude.{if◌then◌else◌}
use Rattle.lk_types.proofs.Rows.{found, same_label}
use Rattle.lk_types.proofs.Unfold.{under_int, under_bool, under_text, under_list, under_fields, under_tags, under_function, under_variable}
use Rattle.lk_types.specs.Each.{Each}
use Rattle.lk_types.specs.Grounding.{Grounding, all_of, before_effects, before_row, effect_tail, effects_under, function_of, row_tail, row_under, under}
use Rattle.lk_types.specs.Rows.{EffectSet, Label, Row, effects_of, fields_of, has_label, no_effects, no_fields, same_effect, with_effect, with_field}
use Rattle.lk_types.specs.declared.ground.Ground.{Ground}
use Rattle.lk_types.specs.declared.ground.Ground.TheVariants as known
use Rattle.lk_types.specs.declared.ty.Effect.{Effect}
use Rattle.lk_types.specs.declared.ty.Effects.{Effects}
use Rattle.lk_types.specs.declared.ty.RowTail.{RowTail}
use Rattle.lk_types.specs.declared.ty.RowTail.TheVariants.{Closed, Var}
use Rattle.lk_types.specs.declared.ty.Ty.{Ty}
use Rattle.lk_types.specs.declared.ty.Ty.TheVariants as ty
use Rattle.lk_types.specs.declared.ty.TyField.{TyField}
use Rattle.lk_types.specs.declared.ty.TyRow.{TyRow, roll-TyRow}
use Rattle.lk_types.specs.declared.ty.Variable.TheVariants as variable
use Rattle.lk_types.proofs.Parts.{all_some, function_some, mapped, row_rolled, same_some, with_one}
use Rattle.lk_types.proofs.TypeInduction.{Hereditary, every_type}
use Rattle.lk_ground_types.proofs.Variables.{among_or}
use Rattle.lk_ground_types.specs.Law.{EmptiedLaw}

-- a row with no label that the other lacks
abbrev IsLess : Row → Row → Type 0
IsLess a b = (l : Label) → has_label b l ≡ false → has_label a l ≡ false

abbrev IsLessSet : EffectSet → EffectSet → Type 0
IsLessSet a b = (e : Effect) → b e ≡ false → a e ≡ false

-- ---- rows

fresh_field : (l : Label) (g : Ground) (x : Row) (o : Option Ground) (p : Option Row) → o ≡ Some g → p ≡ Some x → has_label x l ≡ false → with_field l o p ≡ Some (fin.insert x l g)
fresh_field l g x o p a b lacks = (λ i. with_field l (a i) (b i)) ∙ ap (λ b. if b then None else Some (fin.insert x l g)) lacks

longer_lacks : (row : Row) (k : Label) (g : Ground) (l : Label) → has_label (fin.insert row k g) l ≡ false → (same_label l k ≡ false) × (has_label row l ≡ false)
longer_lacks row k g l lacks = or_parts (same_label l k) (has_label row l) (sym (found row k g l) ∙ lacks)

-- one field more before both
longer_less : (l : Label) (s t : Ground) (x m : Row) → IsLess x m → IsLess (fin.insert x l s) (fin.insert m l t)
longer_less l s t x m less k lacks =
    let both = longer_lacks m l t k lacks in
    found x l s k ∙ or_from (same_label k l) (has_label x k) both.0 (less k both.1)

-- ---- effects

none_with : (e : Effect) (s : EffectSet) (x : EffectSet) → with_effect e (Some s) ≡ Some x → (s e ≡ false) × (x ≡ λ y. same_effect e y || s y)
none_with e s x is = by_test (s e) refl is
  where
    by_test : (b : Bool) → s e ≡ b → (if b then None else Some (λ y. same_effect e y || s y)) ≡ Some x → (s e ≡ false) × (x ≡ λ y. same_effect e y || s y)
    by_test true there is = cc
    by_test false there is = (there, sym (same_some is))

pub with_one_effect : (e : Effect) (o : Option EffectSet) (x : EffectSet) → with_effect e o ≡ Some x → (s : EffectSet) × (o ≡ Some s) × (s e ≡ false) × (x ≡ λ y. same_effect e y || s y)
with_one_effect e None x is = cc
with_one_effect e (Some s) x is = let w = none_with e s x is in (s, refl, w.0, w.1)

pub fresh_effect : (e : Effect) (o : Option EffectSet) (s : EffectSet) → o ≡ Some s → s e ≡ false → with_effect e o ≡ Some (λ y. same_effect e y || s y)
fresh_effect e o s is lacks = ap (with_effect e) is ∙ ap (λ b. if b then None else Some (λ y. same_effect e y || s y)) lacks

effects_less : (es : List Effect) (a b m : EffectSet) → IsLessSet a b → before_effects es b ≡ Some m → (x : EffectSet) × (before_effects es a ≡ Some x) × IsLessSet x m
effects_less [] a b m less is = (a, refl, λ e lacks. less e (ap (λ s. s e) (same_some is) ∙ lacks))
effects_less (e ∷ es) a b m less is =
    let w = with_one_effect e (before_effects es b) m is in
    let rest = effects_less es a b w.0 less w.1 in (
      (λ y. same_effect e y || rest.0 y),
      fresh_effect e (before_effects es a) rest.0 rest.1 (rest.2 e w.2),
      λ y lacks.
          (let both = or_parts (same_effect e y) (w.0 y) (sym (ap (λ s. s y) w.3) ∙ lacks) in
          or_from (same_effect e y) (rest.0 y) both.0 (rest.2 y both.1)),
    )

-- ---- types

-- fewer fields and effects stand for each variable
record IsFewer (τ σ : Grounding) : Type 0 where
  rows : (n : ℕ) → IsLess (τ.rows n) (σ.rows n)
  effects : (n : ℕ) → IsLessSet (τ.effects n) (σ.effects n)

module _ (τ σ : Grounding) (fewer : IsFewer τ σ) where
  abbrev Means : Ty → Type 0
  Means t = (g : Ground) → under σ t ≡ Some g → (w : Ground) × (under τ t ≡ Some w)

  abbrev RowMeans : TyRow → Type 0
  RowMeans r = (m : Row) → row_under σ r ≡ Some m → (x : Row) × (row_under τ r ≡ Some x)

  types_mean : (ts : List Ty) → Each Means ts → (gs : List Ground) → all_of (map (under σ) ts) ≡ Some gs → (ws : List Ground) × (all_of (map (under τ) ts) ≡ Some ws)
  types_mean [] each gs e = ([], refl)
  types_mean (t ∷ ts) each gs e =
      let x = all_some (under σ t) (map (under σ) ts) gs e in
      let first = each.0 x.0 x.2 in
      let rest = types_mean ts each.1 x.1 x.3 in
      (first.0 ∷ rest.0, ap (λ o. all_of (o ∷ map (under τ) ts)) first.1 ∙ ap (option_map (λ more. first.0 ∷ more)) rest.1)

  fields_mean : (a b : Row) → IsLess a b → (fs : List TyField) → Each (λ f. Means f.ty) fs → (m : Row) → before_row (map (λ f. (f.label, under σ f.ty)) fs) b ≡ Some m
      → (x : Row) × (before_row (map (λ f. (f.label, under τ f.ty)) fs) a ≡ Some x) × IsLess x m
  fields_mean a b less [] each m e = (a, refl, λ l lacks. less l (ap (λ m. has_label m l) (same_some e) ∙ lacks))
  fields_mean a b less (f ∷ fs) each m e =
      let w = with_one f.label (under σ f.ty) (before_row (map (λ f. (f.label, under σ f.ty)) fs) b) m e in
      let rest = fields_mean a b less fs each.1 w.1 w.3 in
      let first = each.0 w.0 w.2 in (
        fin.insert rest.0 f.label first.0,
        fresh_field f.label first.0 rest.0 (under τ f.ty) (before_row (map (λ f. (f.label, under τ f.ty)) fs) a) first.1 rest.1 (rest.2 f.label (ap is_some w.4)),
        λ l lacks. longer_less f.label first.0 w.0 rest.0 w.1 rest.2 l (ap (λ m. has_label m l) (sym w.5) ∙ lacks),
      )

  tail_less : (tail : RowTail) → IsLess (row_tail τ tail) (row_tail σ tail)
  tail_less Closed l lacks = lacks
  tail_less (Var n) l lacks = fewer.rows n l lacks

  tail_less_set : (tail : RowTail) → IsLessSet (effect_tail τ tail) (effect_tail σ tail)
  tail_less_set Closed e lacks = lacks
  tail_less_set (Var n) e lacks = fewer.effects n e lacks

  at_row : (fs : List TyField) (tail : RowTail) → Each (λ f. Means f.ty) fs → RowMeans (roll-TyRow (record { fields = fs; tail = tail }))
  at_row fs tail each m e =
      let made = fields_mean (row_tail τ tail) (row_tail σ tail) (tail_less tail) fs each m (sym (row_rolled σ fs tail) ∙ e) in
      (made.0, row_rolled τ fs tail ∙ made.1)

  at_list : (t : Ty) → Means t → Means (ty.List t)
  at_list t means g e =
      let x = mapped known.List (under σ t) g (sym (under_list σ t) ∙ e) in
      let w = means x.0 x.1 in
      (known.List w.0, under_list τ t ∙ ap (option_map known.List) w.1)

  at_fields : (r : TyRow) → RowMeans r → Means (ty.Fields r)
  at_fields r means g e =
      let x = mapped (λ (m : Row). known.Fields (fields_of m)) (row_under σ r) g (sym (under_fields σ r) ∙ e) in
      let w = means x.0 x.1 in
      (known.Fields (fields_of w.0), under_fields τ r ∙ ap (option_map (λ m. known.Fields (fields_of m))) w.1)

  at_tags : (r : TyRow) → RowMeans r → Means (ty.Tags r)
  at_tags r means g e =
      let x = mapped (λ (m : Row). known.Tags (fields_of m)) (row_under σ r) g (sym (under_tags σ r) ∙ e) in
      let w = means x.0 x.1 in
      (known.Tags (fields_of w.0), under_tags τ r ∙ ap (option_map (λ m. known.Tags (fields_of m))) w.1)

  at_function : (params : List Ty) (es : Effects) (answer : Ty) → Each Means params → Means answer → Means (ty.Fun params es answer)
  at_function params es answer each last g e =
      let x = function_some (all_of (map (under σ) params)) (effects_under σ es) (under σ answer) g (sym (under_function σ params es answer) ∙ e) in
      let ps = types_mean params each x.0 x.3 in
      let set = effects_less es.labels (effect_tail τ es.tail) (effect_tail σ es.tail) x.1 (tail_less_set es.tail) x.4 in
      let w = last x.2 x.5 in
      (known.Fun ps.0 (effects_of set.0) w.0, under_function τ params es answer ∙ (λ i. function_of (ps.1 i) (set.1 i) (w.1 i)))

  steps : Hereditary Means RowMeans
  steps = record {
    at_int = λ g e. (known.Int, under_int τ);
    at_bool = λ g e. (known.Bool, under_bool τ);
    at_text = λ g e. (known.Text, under_text τ);
    at_list = at_list;
    at_fields = at_fields;
    at_tags = at_tags;
    at_function = at_function;
    at_variable = λ n g e. (τ.plain n, under_variable τ n);
    at_row = at_row;
  }

  means : (t : Ty) → Means t
  means = every_type Means RowMeans steps

-- where nothing stands for some, and for the others what stood for them
fewer_fields : (τ σ : Grounding) (n : ℕ) → (τ.rows n ≡ σ.rows n) ⊎ (τ.rows n ≡ no_fields) → IsLess (τ.rows n) (σ.rows n)
fewer_fields τ σ n (inl same) l lacks = ap (λ m. has_label m l) same ∙ lacks
fewer_fields τ σ n (inr none) l lacks = ap (λ m. has_label m l) none ∙ ap is_some (fin.get-empty _ l)

fewer_effects : (τ σ : Grounding) (n : ℕ) → (τ.effects n ≡ σ.effects n) ⊎ (τ.effects n ≡ no_effects) → IsLessSet (τ.effects n) (σ.effects n)
fewer_effects τ σ n (inl same) e lacks = ap (λ s. s e) same ∙ lacks
fewer_effects τ σ n (inr none) e lacks = ap (λ s. s e) none

either : {A B C D : Type 0} → (A → C) → (B → D) → A ⊎ B → C ⊎ D
either f g (inl a) = inl (f a)
either f g (inr b) = inr (g b)

pub emptied_law : EmptiedLaw
emptied_law xs τ σ least same t u is =
    means τ σ (record {
      rows = λ n. fewer_fields τ σ n (either (same.rows n) (least.rows n) (among_or xs (variable.Row n)));
      effects = λ n. fewer_effects τ σ n (either (same.effects n) (least.effects n) (among_or xs (variable.Effects n)));
    }) t u is
