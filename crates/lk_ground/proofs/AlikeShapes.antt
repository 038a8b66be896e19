-- What values show of themselves, where one stands for the other: the same kind, the same bases, and parts that stand for parts.
use Rattle.std.proofs.Common.{◌≡◌, refl, sym, ap, subst, ◌∙◌, ℕ, ℤ, Bool, false, List, ◌∷◌, Option, Some, None}
use Rattle.lk_ast.specs.declared.table.Base.{Base}
use Rattle.lk_ast.specs.declared.value.Field.{Field}
use Rattle.lk_ast.specs.declared.value.FunValue.{FunValue}
use Rattle.lk_ast.specs.declared.value.Value.{Value}
use Rattle.lk_ast.specs.declared.value.Value.TheVariants as value
use Rattle.lk_evaluation.specs.Laws.{Maybe}
use Rattle.lk_operators.specs.Values.{base_in, int_in, bool_in, text_in, list_in, fields_in, tag_in, is_unit}
use Rattle.lk_ground.specs.Alike.{Alike, AllAlike, FieldsAlike, base, list, fields, tag, function, lambda, no_field, field}
use Rattle.lk_ground.specs.declared.program.GroundProgram.{GroundProgram}

-- ---- what the kinds of values show

base_in_of_list : (vs : List Value) → ◌≡◌ {A = Option Base} (base_in (value.List vs)) (None)
base_in_of_list vs = simp (value.outs-List)

base_in_of_fields : (fs : List Field) → ◌≡◌ {A = Option Base} (base_in (value.Fields fs)) (None)
base_in_of_fields fs = simp (value.outs-Fields)

base_in_of_tag : (t : List ℕ) (v : Value) → ◌≡◌ {A = Option Base} (base_in (value.Tag t v)) (None)
base_in_of_tag t v = simp (value.outs-Tag)

base_in_of_fun : (f : FunValue) → ◌≡◌ {A = Option Base} (base_in (value.Fun f)) (None)
base_in_of_fun f = simp (value.outs-Fun)

list_in_of_base : (b : Base) → ◌≡◌ {A = Option (List Value)} (list_in (value.Base b)) (None)
list_in_of_base b = simp (value.outs-Base)

list_in_of_list : (vs : List Value) → ◌≡◌ {A = Option (List Value)} (list_in (value.List vs)) (Some vs)
list_in_of_list vs = simp (value.outs-List)

list_in_of_fields : (fs : List Field) → ◌≡◌ {A = Option (List Value)} (list_in (value.Fields fs)) (None)
list_in_of_fields fs = simp (value.outs-Fields)

list_in_of_tag : (t : List ℕ) (v : Value) → ◌≡◌ {A = Option (List Value)} (list_in (value.Tag t v)) (None)
list_in_of_tag t v = simp (value.outs-Tag)

list_in_of_fun : (f : FunValue) → ◌≡◌ {A = Option (List Value)} (list_in (value.Fun f)) (None)
list_in_of_fun f = simp (value.outs-Fun)

fields_in_of_base : (b : Base) → ◌≡◌ {A = Option (List Field)} (fields_in (value.Base b)) (None)
fields_in_of_base b = simp (value.outs-Base)

fields_in_of_list : (vs : List Value) → ◌≡◌ {A = Option (List Field)} (fields_in (value.List vs)) (None)
fields_in_of_list vs = simp (value.outs-List)

fields_in_of_fields : (fs : List Field) → ◌≡◌ {A = Option (List Field)} (fields_in (value.Fields fs)) (Some fs)
fields_in_of_fields fs = simp (value.outs-Fields)

fields_in_of_tag : (t : List ℕ) (v : Value) → ◌≡◌ {A = Option (List Field)} (fields_in (value.Tag t v)) (None)
fields_in_of_tag t v = simp (value.outs-Tag)

fields_in_of_fun : (f : FunValue) → ◌≡◌ {A = Option (List Field)} (fields_in (value.Fun f)) (None)
fields_in_of_fun f = simp (value.outs-Fun)

tag_in_of_base : (b : Base) → ◌≡◌ {A = Option (List ℕ × Value)} (tag_in (value.Base b)) (None)
tag_in_of_base b = simp (value.outs-Base)

tag_in_of_list : (vs : List Value) → ◌≡◌ {A = Option (List ℕ × Value)} (tag_in (value.List vs)) (None)
tag_in_of_list vs = simp (value.outs-List)

tag_in_of_fields : (fs : List Field) → ◌≡◌ {A = Option (List ℕ × Value)} (tag_in (value.Fields fs)) (None)
tag_in_of_fields fs = simp (value.outs-Fields)

tag_in_of_tag : (t : List ℕ) (v : Value) → ◌≡◌ {A = Option (List ℕ × Value)} (tag_in (value.Tag t v)) (Some (t, v))
tag_in_of_tag t v = simp (value.outs-Tag)

tag_in_of_fun : (f : FunValue) → ◌≡◌ {A = Option (List ℕ × Value)} (tag_in (value.Fun f)) (None)
tag_in_of_fun f = simp (value.outs-Fun)

int_in_of_list : (vs : List Value) → ◌≡◌ {A = Option ℤ} (int_in (value.List vs)) (None)
int_in_of_list vs = simp (value.outs-List)

int_in_of_fields : (fs : List Field) → ◌≡◌ {A = Option ℤ} (int_in (value.Fields fs)) (None)
int_in_of_fields fs = simp (value.outs-Fields)

int_in_of_tag : (t : List ℕ) (v : Value) → ◌≡◌ {A = Option ℤ} (int_in (value.Tag t v)) (None)
int_in_of_tag t v = simp (value.outs-Tag)

int_in_of_fun : (f : FunValue) → ◌≡◌ {A = Option ℤ} (int_in (value.Fun f)) (None)
int_in_of_fun f = simp (value.outs-Fun)

bool_in_of_list : (vs : List Value) → ◌≡◌ {A = Option Bool} (bool_in (value.List vs)) (None)
bool_in_of_list vs = simp (value.outs-List)

bool_in_of_fields : (fs : List Field) → ◌≡◌ {A = Option Bool} (bool_in (value.Fields fs)) (None)
bool_in_of_fields fs = simp (value.outs-Fields)

bool_in_of_tag : (t : List ℕ) (v : Value) → ◌≡◌ {A = Option Bool} (bool_in (value.Tag t v)) (None)
bool_in_of_tag t v = simp (value.outs-Tag)

bool_in_of_fun : (f : FunValue) → ◌≡◌ {A = Option Bool} (bool_in (value.Fun f)) (None)
bool_in_of_fun f = simp (value.outs-Fun)

text_in_of_list : (vs : List Value) → ◌≡◌ {A = Option (List ℕ)} (text_in (value.List vs)) (None)
text_in_of_list vs = simp (value.outs-List)

text_in_of_fields : (fs : List Field) → ◌≡◌ {A = Option (List ℕ)} (text_in (value.Fields fs)) (None)
text_in_of_fields fs = simp (value.outs-Fields)

text_in_of_tag : (t : List ℕ) (v : Value) → ◌≡◌ {A = Option (List ℕ)} (text_in (value.Tag t v)) (None)
text_in_of_tag t v = simp (value.outs-Tag)

text_in_of_fun : (f : FunValue) → ◌≡◌ {A = Option (List ℕ)} (text_in (value.Fun f)) (None)
text_in_of_fun f = simp (value.outs-Fun)

fun_no_unit : (f : FunValue) → is_unit (value.Fun f) ≡ false
fun_no_unit f = simp (value.outs-Fun)

-- ---- bases

module _ (p : GroundProgram) where
  -- what shows nothing of other values than bases is the same
  same_kind : {A : Type 0} (none_shown : A) (f : Value → A) → ((vs : List Value) → f (value.List vs) ≡ none_shown) → ((fs : List Field) → f (value.Fields fs) ≡ none_shown) → ((t : List ℕ) (v : Value) → f (value.Tag t v) ≡ none_shown) → ((g : FunValue) → f (value.Fun g) ≡ none_shown)
      → (v w : Value) → Alike p v w → f v ≡ f w
  same_kind shown f of_list of_fields of_tag of_fun v w (base b is also) = ap f (is ∙ sym also)
  same_kind shown f of_list of_fields of_tag of_fun v w (list vs ws is also alike) = ap f is ∙ of_list vs ∙ sym (ap f also ∙ of_list ws)
  same_kind shown f of_list of_fields of_tag of_fun v w (fields fs gs is also alike) = ap f is ∙ of_fields fs ∙ sym (ap f also ∙ of_fields gs)
  same_kind shown f of_list of_fields of_tag of_fun v w (tag t held other is also alike) = ap f is ∙ of_tag t held ∙ sym (ap f also ∙ of_tag t other)
  same_kind shown f of_list of_fields of_tag of_fun v w (function i label g is has there made_by named_by) = ap f made_by ∙ of_fun _ ∙ sym (ap f named_by ∙ of_fun _)
  same_kind shown f of_list of_fields of_tag of_fun v w (lambda i label site g l env others is has no_name found stands alike made_by named_by) = ap f made_by ∙ of_fun _ ∙ sym (ap f named_by ∙ of_fun _)

  pub same_base : (v w : Value) → Alike p v w → base_in v ≡ base_in w
  same_base = same_kind None base_in base_in_of_list base_in_of_fields base_in_of_tag base_in_of_fun

  pub same_int : (v w : Value) → Alike p v w → int_in v ≡ int_in w
  same_int = same_kind None int_in int_in_of_list int_in_of_fields int_in_of_tag int_in_of_fun

  pub same_bool : (v w : Value) → Alike p v w → bool_in v ≡ bool_in w
  same_bool = same_kind None bool_in bool_in_of_list bool_in_of_fields bool_in_of_tag bool_in_of_fun

  pub same_text : (v w : Value) → Alike p v w → text_in v ≡ text_in w
  same_text = same_kind None text_in text_in_of_list text_in_of_fields text_in_of_tag text_in_of_fun

  -- ---- parts

  shown_both : {A : Type 0} (R : A → A → Type 0) (f : Value → Option A) (v w : Value) (o q : Option A) → f v ≡ o → f w ≡ q → Maybe R o q → Maybe R (f v) (f w)
  shown_both R f v w o q is also rest = subst (λ x. Maybe R x (f w)) (sym is) (subst (λ x. Maybe R o x) (sym also) rest)

  pub lists_alike : (v w : Value) → Alike p v w → Maybe (AllAlike p) (list_in v) (list_in w)
  lists_alike v w (base b is also) = shown_both (AllAlike p) list_in v w None None (ap list_in is ∙ list_in_of_base b) (ap list_in also ∙ list_in_of_base b) tt
  lists_alike v w (list vs ws is also alike) = shown_both (AllAlike p) list_in v w (Some vs) (Some ws) (ap list_in is ∙ list_in_of_list vs) (ap list_in also ∙ list_in_of_list ws) alike
  lists_alike v w (fields fs gs is also alike) = shown_both (AllAlike p) list_in v w None None (ap list_in is ∙ list_in_of_fields fs) (ap list_in also ∙ list_in_of_fields gs) tt
  lists_alike v w (tag t held other is also alike) = shown_both (AllAlike p) list_in v w None None (ap list_in is ∙ list_in_of_tag t held) (ap list_in also ∙ list_in_of_tag t other) tt
  lists_alike v w (function i label g is has there made_by named_by) = shown_both (AllAlike p) list_in v w None None (ap list_in made_by ∙ list_in_of_fun _) (ap list_in named_by ∙ list_in_of_fun _) tt
  lists_alike v w (lambda i label site g l env others is has no_name found stands alike made_by named_by) = shown_both (AllAlike p) list_in v w None None (ap list_in made_by ∙ list_in_of_fun _) (ap list_in named_by ∙ list_in_of_fun _) tt

  pub fields_alike : (v w : Value) → Alike p v w → Maybe (FieldsAlike p) (fields_in v) (fields_in w)
  fields_alike v w (base b is also) = shown_both (FieldsAlike p) fields_in v w None None (ap fields_in is ∙ fields_in_of_base b) (ap fields_in also ∙ fields_in_of_base b) tt
  fields_alike v w (list vs ws is also alike) = shown_both (FieldsAlike p) fields_in v w None None (ap fields_in is ∙ fields_in_of_list vs) (ap fields_in also ∙ fields_in_of_list ws) tt
  fields_alike v w (fields fs gs is also alike) = shown_both (FieldsAlike p) fields_in v w (Some fs) (Some gs) (ap fields_in is ∙ fields_in_of_fields fs) (ap fields_in also ∙ fields_in_of_fields gs) alike
  fields_alike v w (tag t held other is also alike) = shown_both (FieldsAlike p) fields_in v w None None (ap fields_in is ∙ fields_in_of_tag t held) (ap fields_in also ∙ fields_in_of_tag t other) tt
  fields_alike v w (function i label g is has there made_by named_by) = shown_both (FieldsAlike p) fields_in v w None None (ap fields_in made_by ∙ fields_in_of_fun _) (ap fields_in named_by ∙ fields_in_of_fun _) tt
  fields_alike v w (lambda i label site g l env others is has no_name found stands alike made_by named_by) = shown_both (FieldsAlike p) fields_in v w None None (ap fields_in made_by ∙ fields_in_of_fun _) (ap fields_in named_by ∙ fields_in_of_fun _) tt

  -- a tag and what it holds
  abbrev pub TagsAlike : List ℕ × Value → List ℕ × Value → Type 0
  TagsAlike a b = (a.0 ≡ b.0) × Alike p a.1 b.1

  pub tags_alike : (v w : Value) → Alike p v w → Maybe TagsAlike (tag_in v) (tag_in w)
  tags_alike v w (base b is also) = shown_both TagsAlike tag_in v w None None (ap tag_in is ∙ tag_in_of_base b) (ap tag_in also ∙ tag_in_of_base b) tt
  tags_alike v w (list vs ws is also alike) = shown_both TagsAlike tag_in v w None None (ap tag_in is ∙ tag_in_of_list vs) (ap tag_in also ∙ tag_in_of_list ws) tt
  tags_alike v w (fields fs gs is also alike) = shown_both TagsAlike tag_in v w None None (ap tag_in is ∙ tag_in_of_fields fs) (ap tag_in also ∙ tag_in_of_fields gs) tt
  tags_alike v w (tag t held other is also alike) = shown_both TagsAlike tag_in v w (Some (t, held)) (Some (t, other)) (ap tag_in is ∙ tag_in_of_tag t held) (ap tag_in also ∙ tag_in_of_tag t other) (refl, alike)
  tags_alike v w (function i label g is has there made_by named_by) = shown_both TagsAlike tag_in v w None None (ap tag_in made_by ∙ tag_in_of_fun _) (ap tag_in named_by ∙ tag_in_of_fun _) tt
  tags_alike v w (lambda i label site g l env others is has no_name found stands alike made_by named_by) = shown_both TagsAlike tag_in v w None None (ap tag_in made_by ∙ tag_in_of_fun _) (ap tag_in named_by ∙ tag_in_of_fun _) tt

  -- ---- the unit value

  unit_fields : (fs gs : List Field) → FieldsAlike p fs gs → is_unit (value.Fields fs) ≡ is_unit (value.Fields gs)
  unit_fields _ _ no_field = refl
  unit_fields _ _ (field {f} {g} {fs} {gs} label alike all) =
      let left : is_unit (value.Fields (f ∷ fs)) ≡ false = simp (value.outs-Fields) in
      let right : is_unit (value.Fields (g ∷ gs)) ≡ false = simp (value.outs-Fields) in
      left ∙ sym right

  other_unit : (v w : Value) → is_unit v ≡ false → is_unit w ≡ false → is_unit v ≡ is_unit w
  other_unit v w is also = is ∙ sym also

  pub same_unit : (v w : Value) → Alike p v w → is_unit v ≡ is_unit w
  same_unit v w (base b is also) = ap is_unit (is ∙ sym also)
  same_unit v w (list vs ws is also alike) = other_unit v w (ap is_unit is ∙ simp (value.outs-List)) (ap is_unit also ∙ simp (value.outs-List))
  same_unit v w (fields fs gs is also alike) = ap is_unit is ∙ unit_fields fs gs alike ∙ sym (ap is_unit also)
  same_unit v w (tag t held other is also alike) = other_unit v w (ap is_unit is ∙ simp (value.outs-Tag)) (ap is_unit also ∙ simp (value.outs-Tag))
  same_unit v w (function i label g is has there made_by named_by) = other_unit v w (ap is_unit made_by ∙ fun_no_unit _) (ap is_unit named_by ∙ fun_no_unit _)
  same_unit v w (lambda i label site g l env others is has no_name found stands alike made_by named_by) = other_unit v w (ap is_unit made_by ∙ fun_no_unit _) (ap is_unit named_by ∙ fun_no_unit _)
