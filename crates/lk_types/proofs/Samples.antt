-- The definitions on small types.
use Rattle.std.proofs.Common.{◌≡◌, false, List, [], ◌∷◌, ◌++◌, map, length, refl, sym, subst, ap, ap₂, ◌∙◌, Some, None, is_some, if◌then◌else◌}
use Rattle.std.proofs.lemmas.Cmp.{nat_list_cmp_total}
use Rattle.std.specs.FinMap as fin
use Rattle.std.specs.Option.{option_map, unwrap_or}
use Rattle.std.specs.Prelude.{codes}
use Rattle.lk_types.specs.Each.{Each}
use Rattle.lk_types.specs.Grounding.{Grounding, before_row, under, row_under, field_under, row_tail}
use Rattle.lk_types.specs.Rows.{Label, Row, label_order, has_label, no_fields, no_effects, with_field, fields_of}
use Rattle.lk_types.specs.Sizes.{nodes, nodes_with}
use Rattle.lk_types.specs.Solutions.{IsInstanceAt, IsMostGeneral, Solves}
use Rattle.lk_types.specs.Variables.{equation_variables}
use Rattle.lk_types.specs.declared.equation.Equation.{Equation}
use Rattle.lk_types.specs.declared.equation.Image.TheVariants as image
use Rattle.lk_types.specs.declared.equation.Subst.{Subst}
use Rattle.lk_types.specs.declared.ground.Ground.{Ground}
use Rattle.lk_types.specs.declared.ground.Ground.TheVariants as known
use Rattle.lk_types.specs.declared.ty.RowTail.{RowTail}
use Rattle.lk_types.specs.declared.ty.RowTail.TheVariants.{Closed}
use Rattle.lk_types.specs.declared.ty.Ty.{Ty}
use Rattle.lk_types.specs.declared.ty.Ty.TheFolds.{the_lemmas}
use Rattle.lk_types.specs.declared.ty.Ty.TheVariants as ty
use Rattle.lk_types.specs.declared.ty.TyField.{TyField}
use Rattle.lk_types.specs.declared.ty.TyRow.{TyRow, roll-TyRow}
use Rattle.lk_types.specs.declared.ty.Variable.TheVariants as variable
use Rattle.lk_types.proofs.Rows.{found, field_twice, fields_swap}
use Rattle.lk_types.proofs.Unfold.{under_int, under_text, under_fields, under_variable, under_field, variables_int, variables_variable}

abbrev row : List TyField → RowTail → TyRow
row fields tail = roll-TyRow (record { fields = fields; tail = tail })

abbrev field : Label → Ty → TyField
field l t = record { label = l; ty = t }

rolled : (σ : Grounding) (fields : List TyField) (tail : RowTail) → row_under σ (row fields tail) ≡ before_row (map (field_under σ) fields) (row_tail σ tail)
unfolding row_under field_under
rolled σ fields tail = search the_lemmas

-- what a row with two fields before others becomes
two_fields : (σ : Grounding) (f g : TyField) (rest : List TyField) (tail : RowTail)
    → row_under σ (row (f ∷ g ∷ rest) tail) ≡ with_field f.label (under σ f.ty) (with_field g.label (under σ g.ty) (before_row (map (field_under σ) rest) (row_tail σ tail)))
two_fields σ f g rest tail =
    rolled σ (f ∷ g ∷ rest) tail
    ∙ ap₂ (λ a b. with_field a.0 a.1 (with_field b.0 b.1 (before_row (map (field_under σ) rest) (row_tail σ tail)))) (under_field σ f) (under_field σ g)

-- a row with a label twice is none
pub label_twice : (σ : Grounding) (l : Label) (t u : Ty) (rest : List TyField) (tail : RowTail) → row_under σ (row (field l t ∷ field l u ∷ rest) tail) ≡ None
label_twice σ l t u rest tail = two_fields σ (field l t) (field l u) rest tail ∙ field_twice l (under σ t) (under σ u) _

-- two fields in another order make the same row
pub other_order : (σ : Grounding) (f g : TyField) (rest : List TyField) (tail : RowTail) → row_under σ (row (f ∷ g ∷ rest) tail) ≡ row_under σ (row (g ∷ f ∷ rest) tail)
other_order σ f g rest tail = two_fields σ f g rest tail ∙ fields_swap f.label g.label (under σ f.ty) (under σ g.ty) _ ∙ sym (two_fields σ g f rest tail)

-- ---- (name:String,age:Int)

abbrev name : TyField
name = field (codes "name") ty.Text

abbrev age : TyField
age = field (codes "age") ty.Int

abbrev person : Ty
person = ty.Fields (row (name ∷ age ∷ []) Closed)

abbrev turned : Ty
turned = ty.Fields (row (age ∷ name ∷ []) Closed)

-- (age:Int,name:String)
abbrev known_person : Ground
known_person = known.Fields (record { label = codes "age"; ty = known.Int } ∷ record { label = codes "name"; ty = known.Text } ∷ [])

empty_list : {A : Type 0} (xs : List A) → length xs ≡ 0 → xs ≡ []
empty_list [] e = refl
empty_list (x ∷ xs) e = cc

no_entries : fin.entries no_fields ≡ []
no_entries = empty_list _ (sym (fin.len-entries no_fields) ∙ fin.len-empty label_order Ground)

lacking : (l : Label) → has_label no_fields l ≡ false
lacking l = ap is_some (fin.get-empty label_order l)

abbrev of_age : Row
of_age = fin.insert no_fields (codes "age") known.Int

both : with_field (codes "name") (Some known.Text) (with_field (codes "age") (Some known.Int) (Some no_fields)) ≡ Some (fin.insert of_age (codes "name") known.Text)
both =
    ap (λ b. with_field (codes "name") (Some known.Text) (if b then None else Some of_age)) (lacking (codes "age"))
    ∙ ap (λ b. if b then None else Some (fin.insert of_age (codes "name") known.Text)) (found no_fields (codes "age") known.Int (codes "name") ∙ lacking (codes "name"))

entries_are : fin.entries (fin.insert of_age (codes "name") known.Text) ≡ (codes "age", known.Int) ∷ (codes "name", known.Text) ∷ []
entries_are =
    fin.entries-insert nat_list_cmp_total of_age (codes "name") known.Text
    ∙ ap (fin.put label_order (codes "name") known.Text) (fin.entries-insert nat_list_cmp_total no_fields (codes "age") known.Int ∙ ap (fin.put label_order (codes "age") known.Int) no_entries)

pub person_is : (σ : Grounding) → under σ person ≡ Some known_person
person_is σ = under_fields σ _ ∙ ap (option_map (λ m. known.Fields (fields_of m))) (two_fields σ name age [] Closed ∙ ap₂ (λ t u. with_field (codes "name") t (with_field (codes "age") u (Some no_fields))) (under_text σ) (under_int σ) ∙ both)
    ∙ ap (λ es. Some (known.Fields (map (λ e. record { label = e.0; ty = e.1 }) es))) entries_are

pub turned_is : (σ : Grounding) → under σ turned ≡ Some known_person
turned_is σ = under_fields σ _ ∙ ap (option_map (λ m. known.Fields (fields_of m))) (other_order σ age name [] Closed) ∙ sym (under_fields σ _) ∙ person_is σ

-- fields in another order are no other type
abbrev person_twice : Equation
person_twice = record { left = person; right = turned }

pub solved : (σ : Grounding) → Solves σ (person_twice ∷ [])
solved σ = ((known_person, person_is σ, turned_is σ), tt)

-- record, two labels, two bases
pub person_nodes : nodes person ≡ 5
unfolding nodes_with
person_nodes = search the_lemmas

-- ---- t1 = Int

abbrev is_int : Equation
is_int = record { left = ty.Var 1; right = ty.Int }

abbrev int_for_it : Subst
int_for_it = record { binds = record { var = 1; is = image.Plain ty.Int } ∷ [] }

abbrev nothing_for_it : Subst
nothing_for_it = record { binds = [] }

its_variables : equation_variables (is_int ∷ []) ≡ variable.Plain 1 ∷ []
its_variables = ap₂ (λ xs ys. xs ++ (ys ++ [])) (variables_variable 1) variables_int

same_value : {A : Type 0} (a b : A) → Some a ≡ Some b → a ≡ b
same_value a b is = ap (λ o. unwrap_or o a) is

met : (σ : Grounding) → under σ ty.Int ≡ Some (σ.plain 1) → Solves σ (is_int ∷ [])
met σ is = ((σ.plain 1, under_variable σ 1, is), tt)

unmet : (σ : Grounding) → Solves σ (is_int ∷ []) → σ.plain 1 ≡ known.Int
unmet σ solves = let t : Ground = solves.0.0 in
    same_value (σ.plain 1) known.Int (sym (under_variable σ 1) ∙ solves.0.1 ∙ sym solves.0.2 ∙ under_int σ)

-- Int for t1 is most general
pub most_general : IsMostGeneral int_for_it (is_int ∷ [])
most_general = record {
  sound = λ σ τ instance sides. met σ (under_int σ ∙ sym (under_int τ) ∙ (subst (Each (IsInstanceAt σ int_for_it τ)) its_variables instance).0);
  general = λ σ solves. (σ, subst (Each (IsInstanceAt σ int_for_it σ)) (sym its_variables) (under_int σ ∙ ap Some (sym (unmet σ solves)), tt));
}

abbrev all_bool : Grounding
all_bool = record { plain = λ n. known.Bool; rows = λ n. no_fields; effects = λ n. no_effects }

not_int : known.Bool ≡ known.Int → ⊥
not_int is = cc

-- no substitution at all isn't
pub not_most_general : IsMostGeneral nothing_for_it (is_int ∷ []) → ⊥
not_most_general general = not_int (unmet all_bool (general.sound all_bool all_bool (subst (Each (IsInstanceAt all_bool nothing_for_it all_bool)) (sym its_variables) (refl, tt)) ((ap is_some (under_variable all_bool 1), ap is_some (under_int all_bool)), tt)))
