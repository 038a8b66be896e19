-- Flat types by their forms: bases, records of bases and lists of such records. What has another form doesn't stand in a query.
use Rattle.std.proofs.Common.{◌≡◌, refl, sym, ap, ◌∙◌, Bool, true, false, ◌||◌, List, [], ◌∷◌}
use Rattle.std.specs.List.{list_all, list_any}
use Rattle.std.specs.Cmp.{first_so, second_so}
use Rattle.lk_ast.specs.declared.table.BaseKind.{BaseKind}
use Rattle.lk_ast.specs.declared.table.BaseKind.TheVariants as kind
use Rattle.lk_ground_types.proofs.ShapesUnfold.{function_int, function_bool, function_text, function_fields}
use Rattle.lk_ground_types.specs.Shapes.{has_function, base_level, row_level, rows_level, is_there, is_base, is_flat_row, is_flat, is_query_type}
use Rattle.lk_types.specs.Rows.{EffectSet, effects_of}
use Rattle.lk_types.specs.declared.ground.Ground.{Ground, out-Ground, roll-Ground, roll-out-Ground}
use Rattle.lk_types.specs.declared.ground.Ground.TheOpen.{Ground-F}
use Rattle.lk_types.specs.declared.ground.Ground.TheVariants as known
use Rattle.lk_types.specs.declared.ground.GroundField.{GroundField}
use Rattle.lk_typing.specs.Types.{base, unit, function_of}
use Rattle.lk_sound.proofs.FieldRows.{as_fields, no_entries}

-- a type of that level
rolled : (t : Ground) (l : Ground-F Ground GroundField) (u : Ground) → out-Ground t ≡ l → roll-Ground l ≡ u → t ≡ u
rolled t l u is same = sym (roll-out-Ground t) ∙ ap roll-Ground is ∙ same

-- ---- bases

base_by : (t : Ground) (l : Ground-F Ground GroundField) → out-Ground t ≡ l → base_level l ≡ true → (k : BaseKind) × (t ≡ base k)
base_by t Ground-F.Int out is = (kind.Int, rolled t Ground-F.Int known.Int out known.rolls-Int)
base_by t Ground-F.Bool out is = (kind.Bool, rolled t Ground-F.Bool known.Bool out known.rolls-Bool)
base_by t Ground-F.Text out is = (kind.Text, rolled t Ground-F.Text known.Text out known.rolls-Text)
base_by t (Ground-F.List a) out is = absurd cc
base_by t (Ground-F.Fields gs) out is = absurd cc
base_by t (Ground-F.Tags gs) out is = absurd cc
base_by t (Ground-F.Fun ts es a) out is = absurd cc

-- a base type is that of a kind
pub base_is : (t : Ground) → is_base t ≡ true → (k : BaseKind) × (t ≡ base k)
base_is t is = base_by t (out-Ground t) refl is

base_plain : (k : BaseKind) → has_function (base k) ≡ false
base_plain kind.Int = function_int
base_plain kind.Bool = function_bool
base_plain kind.Text = function_text

-- ---- flat records

pub record IsFlatRow (t : Ground) : Type 0 where
  pub fields : List GroundField
  pub is : t ≡ known.Fields fields
  pub flat : list_all (λ (f : GroundField). is_base f.ty) fields ≡ true

row_by : (t : Ground) (l : Ground-F Ground GroundField) → out-Ground t ≡ l → row_level l ≡ true → IsFlatRow t
row_by t (Ground-F.Fields gs) out is = record { fields = gs; is = rolled t (Ground-F.Fields gs) (known.Fields gs) out (known.rolls-Fields gs); flat = second_so (is_there gs) _ is }
row_by t Ground-F.Int out is = absurd cc
row_by t Ground-F.Bool out is = absurd cc
row_by t Ground-F.Text out is = absurd cc
row_by t (Ground-F.List a) out is = absurd cc
row_by t (Ground-F.Tags gs) out is = absurd cc
row_by t (Ground-F.Fun ts es a) out is = absurd cc

-- a flat record is one whose fields are bases
pub flat_row_is : (t : Ground) → is_flat_row t ≡ true → IsFlatRow t
flat_row_is t is = row_by t (out-Ground t) refl is

fields_plain : (gs : List GroundField) → list_all (λ (f : GroundField). is_base f.ty) gs ≡ true → list_any (λ (f : GroundField). has_function f.ty) gs ≡ false
fields_plain [] flat = refl
fields_plain (g ∷ gs) flat =
    let one : (k : BaseKind) × (g.ty ≡ base k) = base_is g.ty (first_so (is_base g.ty) _ flat) in
    ap (λ b. b || list_any (λ (f : GroundField). has_function f.ty) gs) (ap has_function one.1 ∙ base_plain one.0) ∙ fields_plain gs (second_so (is_base g.ty) _ flat)

-- in a flat type stands no function
pub flat_plain : (t : Ground) → is_flat t ≡ true → has_function t ≡ false
flat_plain t flat = by_test (is_base t) refl flat
  where
    by_test : (b : Bool) → is_base t ≡ b → (b || is_flat_row t) ≡ true → has_function t ≡ false
    by_test true is flat = let one : (k : BaseKind) × (t ≡ base k) = base_is t is in ap has_function one.1 ∙ base_plain one.0
    by_test false is flat =
        let row : IsFlatRow t = flat_row_is t flat in
        ap has_function row.is ∙ function_fields row.fields ∙ fields_plain row.fields row.flat

-- ---- what doesn't stand in a query

abbrev query_level : Ground-F Ground GroundField → Bool
query_level level = (base_level level || row_level level) || rows_level level

pub function_not_flat : (ts : List Ground) (effects : EffectSet) (a : Ground) → is_query_type (function_of ts effects a) ≡ true → ⊥
function_not_flat ts effects a is = let wrong : false ≡ true = sym (ap query_level (known.outs-Fun ts (effects_of effects) a)) ∙ is in cc

-- the type of records without fields
unit_is : unit ≡ known.Fields []
unit_is = ap (λ entries. known.Fields (as_fields entries)) (no_entries Ground)

-- the unit value isn't a row
pub unit_not_flat : is_query_type unit ≡ true → ⊥
unit_not_flat is = let wrong : false ≡ true = sym (ap query_level (ap out-Ground unit_is ∙ known.outs-Fields [])) ∙ is in cc
