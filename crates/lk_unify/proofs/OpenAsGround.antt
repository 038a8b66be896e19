-- With ground types put for its variables a type becomes what it becomes under a grounding, as a type.
use Rattle.std.proofs.Common.{◌≡◌, List, [], ◌∷◌, map, refl, sym, ◌∙◌, ap, Option, Some, None}
use Rattle.std.specs.FinMap as fin
use Rattle.std.specs.Option.{option_map}
use Rattle.std.specs.Prelude.{is_some, if◌then◌else◌}
use Rattle.lk_types.proofs.Parts.{row_rolled}
use Rattle.lk_types.proofs.Unfold.{under_int, under_bool, under_text, under_list, under_fields, under_tags, under_function, under_variable}
use Rattle.lk_types.specs.Each.{Each}
use Rattle.lk_types.specs.Grounding.{Grounding, under, row_under, before_row, row_tail, effect_tail, effects_under, before_effects, all_of, function_of}
use Rattle.lk_types.specs.Rows.{Label, Row, EffectSet, with_field, fields_of}
use Rattle.lk_types.specs.declared.ground.Ground.{Ground}
use Rattle.lk_types.specs.declared.ground.Ground.TheVariants as known
use Rattle.lk_types.specs.declared.ty.Effects.{Effects}
use Rattle.lk_types.specs.declared.ty.RowTail.{RowTail}
use Rattle.lk_types.specs.declared.ty.RowTail.TheVariants.{Closed, Var}
use Rattle.lk_types.specs.declared.ty.Ty.{Ty}
use Rattle.lk_types.specs.declared.ty.Ty.TheVariants as ty
use Rattle.lk_types.specs.declared.ty.TyField.{TyField}
use Rattle.lk_types.specs.declared.ty.TyRow.{TyRow}
use Rattle.lk_unify.proofs.OpenGround.{get-as_row, as_row-insert, as_row-empty, as_type-fields, as_type-tags, as_type-function}
use Rattle.lk_unify.proofs.OpenUnfold.{opened_int, opened_bool, opened_text, opened_list, opened_fields, opened_tags}
use Rattle.lk_unify.proofs.OpenUnfold.{opened_function, opened_variable, opened_rolled, as_int, as_bool, as_text, as_list}
use Rattle.lk_types.proofs.TypeInduction.{Hereditary, every_type}
use Rattle.lk_arena.specs.Openings.{Opening, row_type, opened, row_opened, effects_opened, effects_tail_opened, tail_opened}
use Rattle.lk_arena.specs.Openings.{with_opened, before_open, open_function, as_type, as_row, as_effects, as_opening}

mapped_twice : {A B C D : Type 0} (f : A → B) (g : B → D) (h : A → C) (k : C → D) → ((a : A) → g (f a) ≡ k (h a)) → (o : Option A) → option_map g (option_map f o) ≡ option_map k (option_map h o)
mapped_twice f g h k is None = refl
mapped_twice f g h k is (Some a) = ap Some (is a)

-- a row with a field more
with_as : (l : Label) (o : Option Ground) (p : Option Row) → with_opened l (option_map as_type o) (option_map as_row p) ≡ option_map as_row (with_field l o p)
with_as l None None = refl
with_as l None (Some m) = refl
with_as l (Some g) None = refl
with_as l (Some g) (Some m) =
    ap (λ o. if is_some o then None else Some (record { fields = fin.insert (as_row m).fields l (as_type g); tail = Closed })) (get-as_row m l)
    ∙ by_test (fin.get m l)
  where
    by_test : (o : Option Ground) → (if is_some (option_map as_type o) then None else Some (record { fields = fin.insert (as_row m).fields l (as_type g); tail = Closed }))
        ≡ option_map as_row (if is_some o then None else Some (fin.insert m l g))
    by_test None = ap Some (sym (as_row-insert m l g))
    by_test (Some h) = refl

all_front : (o : Option Ground) (xs : List (Option Ty)) (ys : List (Option Ground)) → all_of xs ≡ option_map (map as_type) (all_of ys)
    → all_of (option_map as_type o ∷ xs) ≡ option_map (map as_type) (all_of (o ∷ ys))
all_front None xs ys e = refl
all_front (Some g) xs ys e =
    ap (option_map (λ more. as_type g ∷ more)) e
    ∙ mapped_twice (map as_type) (λ more. as_type g ∷ more) (λ more. g ∷ more) (map as_type) (λ more. refl) (all_of ys)

function_as : (o : Option (List Ground)) (p : Option EffectSet) (q : Option Ground)
    → open_function (option_map (map as_type) o) (option_map as_effects p) (option_map as_type q) ≡ option_map as_type (function_of o p q)
function_as None p q = refl
function_as (Some params) None q = refl
function_as (Some params) (Some s) None = refl
function_as (Some params) (Some s) (Some g) = ap Some (sym (as_type-function params s g))

module _ (σ : Grounding) where
  abbrev ρ : Opening
  ρ = as_opening σ

  pub effects_as : (es : Effects) → effects_opened (as_opening σ) es ≡ option_map as_effects (effects_under σ es)
  effects_as es = by_tail es.tail
    where
      by_tail : (tail : RowTail) → option_map (λ labels. record { labels = labels; tail = (effects_tail_opened ρ tail).tail }) (before_effects es.labels (effects_tail_opened ρ tail).labels)
          ≡ option_map as_effects (before_effects es.labels (effect_tail σ tail))
      by_tail Closed = refl
      by_tail (Var n) = refl

  abbrev IsAs : Ty → Type 0
  IsAs t = opened ρ t ≡ option_map as_type (under σ t)

  abbrev IsAsRow : TyRow → Type 0
  IsAsRow r = row_opened ρ r ≡ option_map as_row (row_under σ r)

  tail_as : (tail : RowTail) → tail_opened ρ tail ≡ as_row (row_tail σ tail)
  tail_as Closed = sym as_row-empty
  tail_as (Var n) = refl

  before_as : (fs : List TyField) (tail : RowTail) → Each (λ f. IsAs f.ty) fs
      → before_open (map (λ f. (f.label, opened ρ f.ty)) fs) (tail_opened ρ tail) ≡ option_map as_row (before_row (map (λ f. (f.label, under σ f.ty)) fs) (row_tail σ tail))
  before_as [] tail e = ap Some (tail_as tail)
  before_as (f ∷ fs) tail e =
      (λ i. with_opened f.label (e.0 i) (before_as fs tail e.1 i)) ∙ with_as f.label (under σ f.ty) (before_row (map (λ f. (f.label, under σ f.ty)) fs) (row_tail σ tail))

  all_as : (ts : List Ty) → Each IsAs ts → all_of (map (opened ρ) ts) ≡ option_map (map as_type) (all_of (map (under σ) ts))
  all_as [] e = refl
  all_as (t ∷ ts) e = ap (λ o. all_of (o ∷ map (opened ρ) ts)) e.0 ∙ all_front (under σ t) (map (opened ρ) ts) (map (under σ) ts) (all_as ts e.1)

  steps : Hereditary IsAs IsAsRow
  steps = record {
    at_int = opened_int ρ ∙ ap Some (sym as_int) ∙ ap (option_map as_type) (sym (under_int σ));
    at_bool = opened_bool ρ ∙ ap Some (sym as_bool) ∙ ap (option_map as_type) (sym (under_bool σ));
    at_text = opened_text ρ ∙ ap Some (sym as_text) ∙ ap (option_map as_type) (sym (under_text σ));
    at_list = λ t e.
        opened_list ρ t ∙ ap (option_map ty.List) e
        ∙ mapped_twice as_type ty.List known.List as_type (λ g. sym (as_list g)) (under σ t)
        ∙ ap (option_map as_type) (sym (under_list σ t));
    at_fields = λ r e.
        opened_fields ρ r ∙ ap (option_map (λ m. ty.Fields (row_type m))) e
        ∙ mapped_twice as_row (λ m. ty.Fields (row_type m)) (λ m. known.Fields (fields_of m)) as_type (λ m. sym (as_type-fields m)) (row_under σ r)
        ∙ ap (option_map as_type) (sym (under_fields σ r));
    at_tags = λ r e.
        opened_tags ρ r ∙ ap (option_map (λ m. ty.Tags (row_type m))) e
        ∙ mapped_twice as_row (λ m. ty.Tags (row_type m)) (λ m. known.Tags (fields_of m)) as_type (λ m. sym (as_type-tags m)) (row_under σ r)
        ∙ ap (option_map as_type) (sym (under_tags σ r));
    at_function = λ params es answer e f.
        opened_function ρ params es answer
        ∙ (λ i. open_function (all_as params e i) (effects_as es i) (f i))
        ∙ function_as (all_of (map (under σ) params)) (effects_under σ es) (under σ answer)
        ∙ ap (option_map as_type) (sym (under_function σ params es answer));
    at_variable = λ n. opened_variable ρ n ∙ ap (option_map as_type) (sym (under_variable σ n));
    at_row = λ fs tail e.
        opened_rolled ρ fs tail ∙ before_as fs tail e
        ∙ ap (option_map as_row) (sym (row_rolled σ fs tail));
  }

  pub type_as : (t : Ty) → opened (as_opening σ) t ≡ option_map as_type (under σ t)
  type_as = every_type IsAs IsAsRow steps
