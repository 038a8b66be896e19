-- Where what stands for the tails of rows lacks the labels before them, a type means something loosely if it means something elsewhere.
use Rattle.std.proofs.Common.{◌≡◌, false, ◌||◌, List, [], ◌∷◌, map, refl, sym, subst, ◌∙◌, ap, Option, Some, None, IsSome, is_some}
use Rattle.std.specs.FinMap as fin
use Rattle.std.specs.Option.{option_map}
use Rattle.std.specs.Prelude.{flat_map, if◌then◌else◌}
use Rattle.lk_types.proofs.Members.{each_front, each_back}
use Rattle.lk_types.proofs.Parts.{mapped, all_some, function_some, row_rolled, with_one}
use Rattle.lk_types.proofs.Rows.{found, same_label}
use Rattle.lk_types.proofs.Unfold.{under_fields, under_function, under_list, under_tags}
use Rattle.lk_types.specs.Each.{Each}
use Rattle.lk_types.specs.Grounding.{Grounding, all_of, before_row, effect_tail, effects_under, function_of, row_tail, row_under, under}
use Rattle.lk_types.specs.Rows.{EffectSet, Label, Row, fields_of, has_label, with_field}
use Rattle.lk_types.specs.Schemes.{IsLacking}
use Rattle.lk_types.specs.declared.ground.Ground.{Ground}
use Rattle.lk_types.specs.declared.ground.Ground.TheVariants as known
use Rattle.lk_types.specs.declared.ty.Effects.{Effects}
use Rattle.lk_types.specs.declared.ty.RowTail.{RowTail}
use Rattle.lk_types.specs.declared.ty.RowTail.TheVariants.{Closed, Var}
use Rattle.lk_types.specs.declared.ty.Ty.{Ty}
use Rattle.lk_types.specs.declared.ty.Ty.TheVariants as ty
use Rattle.lk_types.specs.declared.ty.TyField.{TyField}
use Rattle.lk_types.specs.declared.ty.TyRow.{TyRow, roll-TyRow}
use Rattle.lk_typing.proofs.Nodes.{there_is}
use Rattle.lk_typing.specs.EffectRows.{loosely, union}
use Rattle.lk_types.proofs.TypeInduction.{Hereditary, every_type}
use Rattle.lk_infer.proofs.LacksShown.{longer_lacks}
use Rattle.lk_infer.proofs.LooseUnfold.{field_loosely, loosely_bool, loosely_fields, loosely_function, loosely_int}
use Rattle.lk_infer.proofs.LooseUnfold.{loosely_list, loosely_row, loosely_tags, loosely_text, loosely_variable, row_loosely}
use Rattle.lk_infer.proofs.ShownUnfold.{shown_fields, shown_function, shown_list, shown_rolled, shown_tags}
use Rattle.lk_infer.specs.Lacks.{shown, shown_in_row, tail_lacks}

-- ---- what is there

is_there : {A : Type 0} (o : Option A) (a : A) → o ≡ Some a → IsSome o
is_there o a is = ap is_some is

mapped_there : {A B : Type 0} (f : A → B) (o : Option A) → IsSome o → IsSome (option_map f o)
mapped_there f None some = some
mapped_there f (Some a) some = refl

first_there : {A : Type 0} (o : Option A) (os : List (Option A)) → IsSome o → IsSome (all_of os) → IsSome (all_of (o ∷ os))
first_there None os one more = one
first_there (Some a) os one more = mapped_there (λ rest. a ∷ rest) (all_of os) more

function_there : (o : Option (List Ground)) (s : EffectSet) (q : Option Ground) → IsSome o → IsSome q → IsSome (function_of o (Some s) q)
function_there None s q some more = some
function_there (Some ts) s None some more = more
function_there (Some ts) s (Some t) some more = refl

-- ---- rows

-- the row below lacks the label, so the field may come before it
fresh_field : (l : Label) (o : Option Ground) (g : Ground) (p : Option Row) (x : Row) → o ≡ Some g → p ≡ Some x → has_label x l ≡ false → with_field l o p ≡ Some (fin.insert x l g)
fresh_field l o g p x a b lacks = (λ i. with_field l (a i) (b i)) ∙ ap (λ b. if b then None else Some (fin.insert x l g)) lacks

still_lacks : (l k : Label) (g : Ground) (x : Row) → same_label l k ≡ false → has_label x l ≡ false → has_label (fin.insert x k g) l ≡ false
still_lacks l k g x other lacks = found x k g l ∙ ap (λ b. b || has_label x l) other ∙ lacks

-- the row is there, and lacks what the row elsewhere and its own tail lack
abbrev IsMade : Option Row → Row → Row → Type 0
IsMade o m row = (x : Row) × (o ≡ Some x) × ((l : Label) → has_label m l ≡ false → has_label row l ≡ false → has_label x l ≡ false)

module _ (τ τ' : Grounding) where
  abbrev Means : Ty → Type 0
  Means t = (g : Ground) → under τ' t ≡ Some g → Each (IsLacking τ) (shown t) → IsSome (loosely τ t)

  abbrev RowMeans : TyRow → Type 0
  RowMeans r = (m : Row) → row_under τ' r ≡ Some m → Each (IsLacking τ) (shown_in_row r) → IsSome (row_loosely τ r)

  types_mean : (ts : List Ty) → Each Means ts → (gs : List Ground) → all_of (map (under τ') ts) ≡ Some gs → Each (IsLacking τ) (flat_map shown ts) → IsSome (all_of (map (loosely τ) ts))
  types_mean [] each gs e lacks = refl
  types_mean (t ∷ ts) each gs e lacks =
      let x = all_some (under τ' t) (map (under τ') ts) gs e in
      first_there (loosely τ t) (map (loosely τ) ts)
      (each.0 x.0 x.2 (each_front (IsLacking τ) (shown t) (flat_map shown ts) lacks))
      (types_mean ts each.1 x.1 x.3 (each_back (IsLacking τ) (shown t) (flat_map shown ts) lacks))

  fields_mean : (row row' : Row) (fs : List TyField) → Each (λ f. Means f.ty) fs → (m : Row) → before_row (map (λ f. (f.label, under τ' f.ty)) fs) row' ≡ Some m
      → Each (IsLacking τ) (flat_map (λ f. shown f.ty) fs) → Each (λ l. has_label row l ≡ false) (map (λ (f : TyField). f.label) fs)
      → IsMade (before_row (map (field_loosely τ) fs) row) m row
  fields_mean row row' [] each m e lacks apart = (row, refl, λ l there_is here. here)
  fields_mean row row' (f ∷ fs) each m e lacks apart =
      let w = with_one f.label (under τ' f.ty) (before_row (map (λ f. (f.label, under τ' f.ty)) fs) row') m e in
      let rest = fields_mean row row' fs each.1 w.1 w.3 (each_back (IsLacking τ) (shown f.ty) (flat_map (λ f. shown f.ty) fs) lacks) apart.1 in
      let first = there_is (loosely τ f.ty) (each.0 w.0 w.2 (each_front (IsLacking τ) (shown f.ty) (flat_map (λ f. shown f.ty) fs) lacks)) in
      let fresh : has_label rest.0 f.label ≡ false = rest.2 f.label (ap is_some w.4) apart.0 in (
        fin.insert rest.0 f.label first.0,
        fresh_field f.label (loosely τ f.ty) first.0 (before_row (map (field_loosely τ) fs) row) rest.0 first.1 rest.1 fresh,
        λ l there_is here.
            (let both = longer_lacks w.1 f.label w.0 m w.4 w.5 l there_is in
            still_lacks l f.label first.0 rest.0 both.0 (rest.2 l both.1 here)),
      )

  tail_apart : (tail : RowTail) (ls : List Label) → Each (IsLacking τ) (tail_lacks ls tail) → Each (λ l. has_label (row_tail τ tail) l ≡ false) ls
  tail_apart tail [] lacks = tt
  tail_apart Closed (l ∷ ls) lacks = (ap is_some (fin.get-empty _ l), tail_apart Closed ls lacks)
  tail_apart (Var n) (l ∷ ls) lacks = (lacks.0, tail_apart (Var n) ls lacks.1)

  at_row : (fs : List TyField) (tail : RowTail) → Each (λ f. Means f.ty) fs → RowMeans (roll-TyRow (record { fields = fs; tail = tail }))
  at_row fs tail each m e lacks =
      let both = subst (λ lacks. Each (IsLacking τ) lacks) (shown_rolled fs tail) lacks in
      let own = tail_lacks (map (λ f. f.label) fs) tail in
      let made = fields_mean (row_tail τ tail) (row_tail τ' tail) fs each m (sym (row_rolled τ' fs tail) ∙ e) (each_front (IsLacking τ) (flat_map (λ f. shown f.ty) fs) own both)
      (tail_apart tail (map (λ f. f.label) fs) (each_back (IsLacking τ) (flat_map (λ f. shown f.ty) fs) own both)) in
      is_there (row_loosely τ (roll-TyRow (record { fields = fs; tail = tail }))) made.0 (loosely_row τ fs tail ∙ made.1)

  at_list : (t : Ty) → Means t → Means (ty.List t)
  at_list t means g e lacks =
      let x = mapped known.List (under τ' t) g (sym (under_list τ' t) ∙ e) in
      subst (λ o. IsSome o) (sym (loosely_list τ t)) (mapped_there known.List (loosely τ t) (means x.0 x.1 (subst (λ lacks. Each (IsLacking τ) lacks) (shown_list t) lacks)))

  at_fields : (r : TyRow) → RowMeans r → Means (ty.Fields r)
  at_fields r means g e lacks =
      let x = mapped (λ (m : Row). known.Fields (fields_of m)) (row_under τ' r) g (sym (under_fields τ' r) ∙ e) in
      subst (λ o. IsSome o) (sym (loosely_fields τ r))
      (mapped_there (λ m. known.Fields (fields_of m)) (row_loosely τ r) (means x.0 x.1 (subst (λ lacks. Each (IsLacking τ) lacks) (shown_fields r) lacks)))

  at_tags : (r : TyRow) → RowMeans r → Means (ty.Tags r)
  at_tags r means g e lacks =
      let x = mapped (λ (m : Row). known.Tags (fields_of m)) (row_under τ' r) g (sym (under_tags τ' r) ∙ e) in
      subst (λ o. IsSome o) (sym (loosely_tags τ r))
      (mapped_there (λ m. known.Tags (fields_of m)) (row_loosely τ r) (means x.0 x.1 (subst (λ lacks. Each (IsLacking τ) lacks) (shown_tags r) lacks)))

  at_function : (params : List Ty) (es : Effects) (answer : Ty) → Each Means params → Means answer → Means (ty.Fun params es answer)
  at_function params es answer each last g e lacks =
      let x = function_some (all_of (map (under τ') params)) (effects_under τ' es) (under τ' answer) g (sym (under_function τ' params es answer) ∙ e) in
      let both = subst (λ lacks. Each (IsLacking τ) lacks) (shown_function params es answer) lacks in
      subst (λ o. IsSome o) (sym (loosely_function τ params es answer))
      (function_there (all_of (map (loosely τ) params)) (union es.labels (effect_tail τ es.tail)) (loosely τ answer)
      (types_mean params each x.0 x.3 (each_front (IsLacking τ) (flat_map shown params) (shown answer) both))
      (last x.2 x.5 (each_back (IsLacking τ) (flat_map shown params) (shown answer) both)))

  steps : Hereditary Means RowMeans
  steps = record {
    at_int = λ g e lacks. is_there (loosely τ ty.Int) known.Int (loosely_int τ);
    at_bool = λ g e lacks. is_there (loosely τ ty.Bool) known.Bool (loosely_bool τ);
    at_text = λ g e lacks. is_there (loosely τ ty.Text) known.Text (loosely_text τ);
    at_list = at_list;
    at_fields = at_fields;
    at_tags = at_tags;
    at_function = at_function;
    at_variable = λ n g e lacks. is_there (loosely τ (ty.Var n)) (τ.plain n) (loosely_variable τ n);
    at_row = at_row;
  }

pub loosely_there : (τ τ' : Grounding) (t : Ty) (g : Ground) → under τ' t ≡ Some g → Each (IsLacking τ) (shown t) → IsSome (loosely τ t)
loosely_there τ τ' t = every_type (Means τ τ') (RowMeans τ τ') (steps τ τ') t
