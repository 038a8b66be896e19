-- Equality and order don't tell values from those that stand for them.
use Rattle.std.proofs.Common.{◌≡◌, refl, sym, ap, ap₂, ◌∙◌, ℕ, Bool, false, ◌&&◌, List, [], ◌∷◌, map, Option, Some, None, bytes_eq}
use Rattle.std.specs.Bool.{⊤}
use Rattle.std.specs.Ordering.{is_eq}
use Rattle.std.specs.declared.cmp.Ordering.{Ordering}
use Rattle.lk_ast.specs.declared.table.Base.{Base}
use Rattle.lk_ast.specs.declared.value.Field.{Field}
use Rattle.lk_ast.specs.declared.value.FunValue.{FunValue}
use Rattle.lk_ast.specs.declared.value.Value.{Value, roll-Value}
use Rattle.lk_ast.specs.declared.value.Value.TheFolds.{fold-roll-Value}
use Rattle.lk_ast.specs.declared.value.Field.{fold-Field, fold_out-Field}
use Rattle.lk_ast.specs.declared.value.Value.TheOpen.{Value-F, Field-F}
use Rattle.lk_ast.specs.declared.value.Value.TheVariants as value
use Rattle.lk_operators.specs.Order.{all_pass, compared, in_order, same, same_fields}
use Rattle.lk_operators.specs.Values.{base_in, list_in, fields_in, tag_in}
use Rattle.lk_ground.specs.Alike.{Alike, AllAlike, FieldsAlike, base, list, fields, tag, function, lambda, none, more, no_field, field}
use Rattle.lk_ground.proofs.AlikeShapes.{same_base, lists_alike, fields_alike, TagsAlike, tags_alike}
use Rattle.lk_evaluation.specs.Laws.{Maybe}
use Rattle.lk_ground.specs.declared.program.GroundProgram.{GroundProgram}

-- ---- order

abbrev ordered : (Ordering → Bool) → Option Base → Option Base → Bool
ordered test (Some b) (Some c) = in_order test b c
ordered test _ _ = false

-- ---- equality, one level

abbrev passes : {A : Type 0} → (A → Bool) → Option A → Bool
passes test None = false
passes test (Some x) = test x

same_base_at : (b : Base) (w : Value) → same (value.Base b) w ≡ passes (in_order is_eq b) (base_in w)
same_base_at b w =
    let first : same (value.Base b) w ≡ same (roll-Value (Value-F.Base b)) w = sym (ap (λ v. same v w) (value.rolls-Base b)) in
    let second : same (roll-Value (Value-F.Base b)) w ≡ passes (in_order is_eq b) (base_in w) = ap (λ f. f w) (fold-roll-Value (Value → Bool) (Field → Bool) ⊤ _ _ _ (Value-F.Base b)) in
    first ∙ second

same_list_at : (vs : List Value) (w : Value) → same (value.List vs) w ≡ passes (all_pass (map same vs)) (list_in w)
same_list_at vs w =
    let first : same (value.List vs) w ≡ same (roll-Value (Value-F.List vs)) w = sym (ap (λ v. same v w) (value.rolls-List vs)) in
    let second : same (roll-Value (Value-F.List vs)) w ≡ passes (all_pass (map same vs)) (list_in w) = ap (λ f. f w) (fold-roll-Value (Value → Bool) (Field → Bool) ⊤ _ _ _ (Value-F.List vs)) in
    first ∙ second

same_fun_at : (g : FunValue) (w : Value) → same (value.Fun g) w ≡ false
same_fun_at g w =
    let first : same (value.Fun g) w ≡ same (roll-Value (Value-F.Fun g)) w = sym (ap (λ v. same v w) (value.rolls-Fun g)) in
    let second : same (roll-Value (Value-F.Fun g)) w ≡ false = ap (λ f. f w) (fold-roll-Value (Value → Bool) (Field → Bool) ⊤ _ _ _ (Value-F.Fun g)) in
    first ∙ second

same_tag_at : (t : List ℕ) (v w : Value) → same (value.Tag t v) w ≡ passes (λ (x : List ℕ × Value). bytes_eq t x.0 && same v x.1) (tag_in w)
same_tag_at t v w =
    let first : same (value.Tag t v) w ≡ same (roll-Value (Value-F.Tag t v)) w = sym (ap (λ v. same v w) (value.rolls-Tag t v)) in
    let second : same (roll-Value (Value-F.Tag t v)) w ≡ passes (λ (x : List ℕ × Value). bytes_eq t x.0 && same v x.1) (tag_in w) = ap (λ f. f w) (fold-roll-Value (Value → Bool) (Field → Bool) ⊤ _ _ _ (Value-F.Tag t v)) in
    first ∙ second

abbrev level : Value-F (Value → Bool) (Field → Bool) ⊤ → Value → Bool
level (Value-F.Base b) v = passes (in_order is_eq b) (base_in v)
level (Value-F.List parts) v = passes (all_pass parts) (list_in v)
level (Value-F.Fields parts) v = passes (all_pass parts) (fields_in v)
level (Value-F.Tag t part) v = passes (λ (x : List ℕ × Value). bytes_eq t x.0 && part x.1) (tag_in v)
level (Value-F.Fun fun) v = false

abbrev field_level : Field-F (Value → Bool) (Field → Bool) ⊤ → Field → Bool
field_level f g = bytes_eq f.label g.label && f.value g.value

abbrev of_field : Field → Field → Bool
of_field = fold-Field (Value → Bool) (Field → Bool) ⊤ level field_level (λ fun. tt)

all_fields : (fs : List Field) → map of_field fs ≡ map same_fields fs
all_fields [] = refl
all_fields (f ∷ fs) = ap₂ (λ a b. a ∷ b) (fold_out-Field (Value → Bool) (Field → Bool) ⊤ level field_level (λ fun. tt) f) (all_fields fs)

same_fields_at : (fs : List Field) (w : Value) → same (value.Fields fs) w ≡ passes (all_pass (map same_fields fs)) (fields_in w)
same_fields_at fs w =
    let first : same (value.Fields fs) w ≡ same (roll-Value (Value-F.Fields fs)) w = sym (ap (λ v. same v w) (value.rolls-Fields fs)) in
    let second : same (roll-Value (Value-F.Fields fs)) w ≡ passes (all_pass (map of_field fs)) (fields_in w) = ap (λ f. f w) (fold-roll-Value (Value → Bool) (Field → Bool) ⊤ level field_level (λ fun. tt) (Value-F.Fields fs)) in
    first ∙ second ∙ ap (λ tests. passes (all_pass tests) (fields_in w)) (all_fields fs)

-- ---- of values that stand for others

module _ (p : GroundProgram) where
  by_passes : {B : Type 0} (R : B → B → Type 0) (f g : B → Bool) (o q : Option B) → Maybe R o q → ((a b : B) → R a b → f a ≡ g b) → passes f o ≡ passes g q
  by_passes R f g None None related each = refl
  by_passes R f g None (Some b) related each = absurd related
  by_passes R f g (Some a) None related each = absurd related
  by_passes R f g (Some a) (Some b) related each = each a b related

  abbrev Same : Value → Value → Type 0
  Same v w = (x y : Value) → Alike p x y → same v x ≡ same w y

  mutual
    pub same_alike : {v w : Value} → Alike p v w → Same v w
    same_alike (base b is also) x y alike =
        ap (λ v. same v x) is ∙ same_base_at b x ∙ ap (passes (in_order is_eq b)) (same_base p x y alike) ∙ sym (ap (λ v. same v y) also ∙ same_base_at b y)
    same_alike (list vs ws is also all) x y alike =
        ap (λ v. same v x) is ∙ same_list_at vs x ∙ by_passes (AllAlike p) (all_pass (map same vs)) (all_pass (map same ws)) (list_in x) (list_in y) (lists_alike p x y alike) (all_same all) ∙ sym (ap (λ v. same v y) also ∙ same_list_at ws y)
    same_alike (fields fs gs is also all) x y alike =
        ap (λ v. same v x) is ∙ same_fields_at fs x ∙ by_passes (FieldsAlike p) (all_pass (map same_fields fs)) (all_pass (map same_fields gs)) (fields_in x) (fields_in y) (fields_alike p x y alike) (fields_same all) ∙ sym (ap (λ v. same v y) also ∙ same_fields_at gs y)
    same_alike (tag t held other is also inner) x y alike =
        ap (λ v. same v x) is ∙ same_tag_at t held x
        ∙ by_passes (TagsAlike p) (λ a. bytes_eq t a.0 && same held a.1) (λ b. bytes_eq t b.0 && same other b.1) (tag_in x) (tag_in y) (tags_alike p x y alike) (λ a b both. ap₂ (λ m n. m && n) (ap (bytes_eq t) both.0) (same_alike inner a.1 b.1 both.1))
        ∙ sym (ap (λ v. same v y) also ∙ same_tag_at t other y)
    same_alike (function i label g is has there made_by named_by) x y alike = ap (λ v. same v x) made_by ∙ same_fun_at _ x ∙ sym (ap (λ v. same v y) named_by ∙ same_fun_at _ y)
    same_alike (lambda i label site g l env others is has no_name found stands inner made_by named_by) x y alike = ap (λ v. same v x) made_by ∙ same_fun_at _ x ∙ sym (ap (λ v. same v y) named_by ∙ same_fun_at _ y)

    all_same : {vs ws : List Value} → AllAlike p vs ws → (xs ys : List Value) → AllAlike p xs ys → all_pass (map same vs) xs ≡ all_pass (map same ws) ys
    all_same none _ _ none = refl
    all_same none _ _ (more one all) = refl
    all_same (more one all) _ _ none = refl
    all_same (more one all) _ _ (more two rest) = ap₂ (λ m n. m && n) (same_alike one _ _ two) (all_same all _ _ rest)

    fields_same : {fs gs : List Field} → FieldsAlike p fs gs → (xs ys : List Field) → FieldsAlike p xs ys → all_pass (map same_fields fs) xs ≡ all_pass (map same_fields gs) ys
    fields_same no_field _ _ no_field = refl
    fields_same no_field _ _ (field label one all) = refl
    fields_same (field label one all) _ _ no_field = refl
    fields_same (field label one all) _ _ (field other two rest) = ap₂ (λ m n. m && n) (ap₂ (λ m n. m && n) (ap₂ bytes_eq label other) (same_alike one _ _ two)) (fields_same all _ _ rest)

  -- in one order, or in none
  pub compared_alike : (test : Ordering → Bool) (v w x y : Value) → Alike p v w → Alike p x y → compared test v x ≡ compared test w y
  compared_alike test v w x y one two = ap₂ (λ a b. ordered test a b) (same_base p v w one) (same_base p x y two)
