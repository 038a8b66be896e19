-- A type has no more variables than nodes.
use Rattle.std.proofs.Common.{◌≡◌, ◌≤◌, ℕ, ◌+◌, List, [], ◌∷◌, ◌++◌, length, map, flat_map, refl, sym, ap, subst}
use native.Mathlib.Omega.{arith}
use Rattle.std.proofs.lemmas.List.{length-append}
use Rattle.std.proofs.lemmas.List.Sums.{sum_by-cons}
use Rattle.std.specs.List.{cons_option}
use Rattle.std.specs.Prelude.{sum}
use Rattle.lk_types.proofs.TypeInduction.{Hereditary, every_type}
use Rattle.lk_types.proofs.Unfold.{variables_int, variables_bool, variables_text, variables_list, variables_fields, variables_tags, variables_function, variables_variable, variables_row, variables_field, nodes_list, nodes_fields, nodes_tags, nodes_function, nodes_variable, nodes_row, nodes_field}
use Rattle.lk_types.specs.Each.{Each}
use Rattle.lk_types.specs.Sizes.{effects_nodes, field_nodes_with, nodes_with, one, row_nodes_with, tail_nodes}
use Rattle.lk_types.specs.Variables.{tail_variable, variables_of, variables_of_field, variables_of_row}
use Rattle.lk_types.specs.declared.ty.Effects.{Effects}
use Rattle.lk_types.specs.declared.ty.RowTail.{RowTail}
use Rattle.lk_types.specs.declared.ty.RowTail.TheVariants.{Closed, Var}
use Rattle.lk_types.specs.declared.ty.Ty.{Ty}
use Rattle.lk_types.specs.declared.ty.Ty.TheVariants as ty
use Rattle.lk_types.specs.declared.ty.TyField.{TyField}
use Rattle.lk_types.specs.declared.ty.TyRow.{TyRow, out-TyRow, out-roll-TyRow, roll-TyRow}
use Rattle.lk_types.specs.declared.ty.Variable.{Variable}
use Rattle.lk_types.specs.declared.ty.Variable.TheVariants as variable

abbrev AreWithin : Ty → Type 0
AreWithin t = length (variables_of t) ≤ nodes_with one t

abbrev RowWithin : TyRow → Type 0
RowWithin r = length (variables_of_row r) ≤ row_nodes_with one r

tail_long : (kind : ℕ → Variable) (tail : RowTail) → length (cons_option (tail_variable kind tail) []) ≡ tail_nodes one kind tail
tail_long kind Closed = refl
tail_long kind (Var n) = refl

types_long : (ts : List Ty) → Each AreWithin ts → length (flat_map variables_of ts) ≤ sum (map (nodes_with one) ts)
types_long [] each = omega arith
types_long (t ∷ ts) each =
    let all : length (variables_of t ++ flat_map variables_of ts) ≡ length (variables_of t) + length (flat_map variables_of ts) = length-append (variables_of t) (flat_map variables_of ts) in
    let counted : sum (map (nodes_with one) (t ∷ ts)) ≡ nodes_with one t + sum (map (nodes_with one) ts) = sum_by-cons (λ n. n) (nodes_with one t) (map (nodes_with one) ts) in
    let first : length (variables_of t) ≤ nodes_with one t = each.0 in
    let rest : length (flat_map variables_of ts) ≤ sum (map (nodes_with one) ts) = types_long ts each.1 in
    omega arith

fields_long : (fs : List TyField) → Each (λ f. AreWithin f.ty) fs → length (flat_map variables_of_field fs) ≤ sum (map (field_nodes_with one) fs)
fields_long [] each = omega arith
fields_long (f ∷ fs) each =
    let all : length (variables_of_field f ++ flat_map variables_of_field fs) ≡ length (variables_of_field f) + length (flat_map variables_of_field fs) = length-append (variables_of_field f) (flat_map variables_of_field fs) in
    let counted : sum (map (field_nodes_with one) (f ∷ fs)) ≡ field_nodes_with one f + sum (map (field_nodes_with one) fs) = sum_by-cons (λ n. n) (field_nodes_with one f) (map (field_nodes_with one) fs) in
    let here : length (variables_of_field f) ≡ length (variables_of f.ty) = ap length (variables_field f) in
    let nodes : field_nodes_with one f ≡ 1 + nodes_with one f.ty = nodes_field one f in
    let first : length (variables_of f.ty) ≤ nodes_with one f.ty = each.0 in
    let rest : length (flat_map variables_of_field fs) ≤ sum (map (field_nodes_with one) fs) = fields_long fs each.1 in
    omega arith

none_long : (t : Ty) → variables_of t ≡ [] → AreWithin t
none_long t none = let nothing : length (variables_of t) ≡ 0 = ap length none in omega arith

at_function : (params : List Ty) (es : Effects) (answer : Ty) → Each AreWithin params → AreWithin answer → AreWithin (ty.Fun params es answer)
at_function params es answer each last =
    let tail : List Variable = cons_option (tail_variable variable.Effects es.tail) [] in
    let has : length (variables_of (ty.Fun params es answer)) ≡ length ((flat_map variables_of params ++ tail) ++ variables_of answer) = ap length (variables_function params es answer) in
    let outer : length ((flat_map variables_of params ++ tail) ++ variables_of answer) ≡ length (flat_map variables_of params ++ tail) + length (variables_of answer) = length-append (flat_map variables_of params ++ tail) (variables_of answer) in
    let inner : length (flat_map variables_of params ++ tail) ≡ length (flat_map variables_of params) + length tail = length-append (flat_map variables_of params) tail in
    let end : length tail ≡ tail_nodes one variable.Effects es.tail = tail_long variable.Effects es.tail in
    let counted : nodes_with one (ty.Fun params es answer) ≡ 1 + (sum (map (nodes_with one) params) + (effects_nodes one es + nodes_with one answer)) = nodes_function one params es answer in
    let first : length (flat_map variables_of params) ≤ sum (map (nodes_with one) params) = types_long params each in
    let said : length (variables_of answer) ≤ nodes_with one answer = last in
    omega arith

row_within : (r : TyRow) → Each (λ f. AreWithin f.ty) (out-TyRow r).fields → RowWithin r
row_within r each =
    let fs : List TyField = (out-TyRow r).fields in
    let end : List Variable = cons_option (tail_variable variable.Row (out-TyRow r).tail) [] in
    let has : length (variables_of_row r) ≡ length (flat_map variables_of_field fs ++ end) = ap length (variables_row r) in
    let both : length (flat_map variables_of_field fs ++ end) ≡ length (flat_map variables_of_field fs) + length end = length-append (flat_map variables_of_field fs) end in
    let last : length end ≡ tail_nodes one variable.Row (out-TyRow r).tail = tail_long variable.Row (out-TyRow r).tail in
    let counted : row_nodes_with one r ≡ sum (map (field_nodes_with one) fs) + tail_nodes one variable.Row (out-TyRow r).tail = nodes_row one r in
    let first : length (flat_map variables_of_field fs) ≤ sum (map (field_nodes_with one) fs) = fields_long fs each in
    omega arith

at_row : (fs : List TyField) (tail : RowTail) → Each (λ f. AreWithin f.ty) fs → RowWithin (roll-TyRow (record { fields = fs; tail = tail }))
at_row fs tail each =
    row_within (roll-TyRow (record { fields = fs; tail = tail }))
    (subst (λ x. Each (λ f. AreWithin f.ty) x.fields) (sym (out-roll-TyRow (record { fields = fs; tail = tail }))) each)

wrapped : (n m : ℕ) (t : Ty) → length (variables_of t) ≡ n → nodes_with one t ≡ 1 + m → n ≤ m → AreWithin t
wrapped n m t has counted less = omega arith

steps : Hereditary AreWithin RowWithin
steps = record {
  at_int = none_long ty.Int variables_int;
  at_bool = none_long ty.Bool variables_bool;
  at_text = none_long ty.Text variables_text;
  at_list = λ t is. wrapped (length (variables_of t)) (nodes_with one t) (ty.List t) (ap length (variables_list t)) (nodes_list one t) is;
  at_fields = λ r is. wrapped (length (variables_of_row r)) (row_nodes_with one r) (ty.Fields r) (ap length (variables_fields r)) (nodes_fields one r) is;
  at_tags = λ r is. wrapped (length (variables_of_row r)) (row_nodes_with one r) (ty.Tags r) (ap length (variables_tags r)) (nodes_tags one r) is;
  at_function = at_function;
  at_variable = λ n. (let has : length (variables_of (ty.Var n)) ≡ 1 = ap length (variables_variable n) in let counted : nodes_with one (ty.Var n) ≡ 1 = nodes_variable one n in omega arith);
  at_row = at_row;
}

pub variables_within : (t : Ty) → length (variables_of t) ≤ nodes_with one t
variables_within = every_type AreWithin RowWithin steps
