-- What stands at a type: a base at a base type alone, a record at a flat record type, and rows at a list of these.
use Rattle.std.proofs.Common.{◌≡◌, refl, sym, ap, subst, ◌∙◌, ℤ, ℕ, Bool, true, List, Some}
use Rattle.lk_ast.specs.Rows.{row_value, rows_value}
use Rattle.lk_ast.specs.Tables.{is_of_kind}
use Rattle.lk_ast.specs.declared.declaration.Program.{Program}
use Rattle.lk_ast.specs.declared.table.Base.TheVariants as base
use Rattle.lk_ast.specs.declared.table.Base.{Base}
use Rattle.lk_ast.specs.declared.table.BaseKind.TheVariants as kind
use Rattle.lk_ast.specs.declared.table.BaseKind.{BaseKind}
use Rattle.lk_ast.specs.declared.table.Row.{Row}
use Rattle.lk_ast.specs.declared.value.Value.TheVariants as value
use Rattle.lk_ast.specs.declared.value.Value.{Value}
use Rattle.lk_ground_types.specs.Shapes.{base_level, row_level, rows_level, are_rows, is_base, is_flat_row}
use Rattle.lk_inline.specs.Stands.{IsRecord, Stands}
use Rattle.lk_operators.specs.Values.{base_in, list_in}
use Rattle.lk_query.specs.Given.{Given, of_base, of_list, of_row}
use Rattle.lk_sound.proofs.TableRows.{IsBaseOf, base_of_fits}
use Rattle.lk_sound.proofs.UpdatedRows.{base_itself}
use Rattle.lk_sound.specs.Instances.{Instances}
use Rattle.lk_sound.specs.Values.{Fits}
use Rattle.lk_types.specs.Each.{Each}
use Rattle.lk_types.specs.declared.ground.Ground.TheOpen.{Ground-F}
use Rattle.lk_types.specs.declared.ground.Ground.TheVariants as known
use Rattle.lk_types.specs.declared.ground.Ground.{Ground, out-Ground}
use Rattle.lk_types.specs.declared.ground.GroundField.{GroundField}
use Rattle.lk_typing.specs.Types as types

-- ---- no type is of two of these forms

base_or_row : (l : Ground-F Ground GroundField) → base_level l ≡ true → row_level l ≡ true → ⊥
base_or_row Ground-F.Int is also = cc
base_or_row Ground-F.Bool is also = cc
base_or_row Ground-F.Text is also = cc
base_or_row (Ground-F.List a) is also = cc
base_or_row (Ground-F.Fields gs) is also = cc
base_or_row (Ground-F.Tags gs) is also = cc
base_or_row (Ground-F.Fun ts es a) is also = cc

base_or_rows : (l : Ground-F Ground GroundField) → base_level l ≡ true → rows_level l ≡ true → ⊥
base_or_rows Ground-F.Int is also = cc
base_or_rows Ground-F.Bool is also = cc
base_or_rows Ground-F.Text is also = cc
base_or_rows (Ground-F.List a) is also = cc
base_or_rows (Ground-F.Fields gs) is also = cc
base_or_rows (Ground-F.Tags gs) is also = cc
base_or_rows (Ground-F.Fun ts es a) is also = cc

row_or_rows : (l : Ground-F Ground GroundField) → row_level l ≡ true → rows_level l ≡ true → ⊥
row_or_rows Ground-F.Int is also = cc
row_or_rows Ground-F.Bool is also = cc
row_or_rows Ground-F.Text is also = cc
row_or_rows (Ground-F.List a) is also = cc
row_or_rows (Ground-F.Fields gs) is also = cc
row_or_rows (Ground-F.Tags gs) is also = cc
row_or_rows (Ground-F.Fun ts es a) is also = cc

-- ---- what stands at a type of one of them

pub base_stands : (t : Ground) (v : Value) (b : Base) → is_base t ≡ true → v ≡ value.Base b → Stands t v (of_base b)
base_stands t v b is same = record {
  base = λ also. same;
  row = λ also. absurd (base_or_row (out-Ground t) is also);
  rows = λ also. absurd (base_or_rows (out-Ground t) is also);
  record_of = λ also. absurd (base_or_row (out-Ground t) is also);
  records_of = λ also. absurd (base_or_rows (out-Ground t) is also);
}

pub row_stands : (t : Ground) (v : Value) (r : Row) → is_flat_row t ≡ true → v ≡ row_value r → IsRecord r → Stands t v (of_row r)
row_stands t v r is same has = record {
  base = λ also. absurd (base_or_row (out-Ground t) also is);
  row = λ also. same;
  rows = λ also. absurd (row_or_rows (out-Ground t) is also);
  record_of = λ also. has;
  records_of = λ also. absurd (row_or_rows (out-Ground t) is also);
}

pub rows_stand : (t : Ground) (v : Value) (rs : List Row) → are_rows t ≡ true → v ≡ rows_value rs → Each IsRecord rs → Stands t v (of_list rs)
rows_stand t v rs are same have = record {
  base = λ also. absurd (base_or_rows (out-Ground t) also are);
  row = λ also. absurd (row_or_rows (out-Ground t) also are);
  rows = λ also. same;
  record_of = λ also. absurd (row_or_rows (out-Ground t) also are);
  records_of = λ also. have;
}

-- ---- the types of bases and lists by their forms

pub int_is : is_base known.Int ≡ true
int_is = ap base_level known.outs-Int

pub bool_is : is_base known.Bool ≡ true
bool_is = ap base_level known.outs-Bool

pub text_is : is_base known.Text ≡ true
text_is = ap base_level known.outs-Text

pub kind_is : (k : BaseKind) → is_base (types.base k) ≡ true
kind_is kind.Int = int_is
kind_is kind.Bool = bool_is
kind_is kind.Text = text_is

pub list_is : (a : Ground) → are_rows (known.List a) ≡ is_flat_row a
list_is a = ap rows_level (known.outs-List a)

pub list_shown : (vs : List Value) → list_in (value.List vs) ≡ Some vs
list_shown vs = simp (value.outs-List)

-- a value is one base alone
pub same_base : (b c : Base) → value.Base b ≡ value.Base c → b ≡ c
same_base b c is = let found : Some b ≡ Some c = sym (base_itself b) ∙ ap base_in is ∙ base_itself c in cc

pub same_list : (vs ws : List Value) → value.List vs ≡ value.List ws → vs ≡ ws
same_list vs ws is = let found : Some vs ≡ Some ws = sym (list_shown vs) ∙ ap list_in is ∙ list_shown ws in cc

-- ---- bases by their kinds

pub int_by : (b : Base) → is_of_kind kind.Int b ≡ true → (n : ℤ) × (b ≡ base.Int n)
int_by (base.Int n) is = (n, refl)
int_by (base.Bool c) is = absurd cc
int_by (base.Text bytes) is = absurd cc

pub bool_by : (b : Base) → is_of_kind kind.Bool b ≡ true → (c : Bool) × (b ≡ base.Bool c)
bool_by (base.Int n) is = absurd cc
bool_by (base.Bool c) is = (c, refl)
bool_by (base.Text bytes) is = absurd cc

pub text_by : (b : Base) → is_of_kind kind.Text b ≡ true → (bytes : List ℕ) × (b ≡ base.Text bytes)
text_by (base.Int n) is = absurd cc
text_by (base.Bool c) is = absurd cc
text_by (base.Text bytes) is = (bytes, refl)

module _ (p : Program) (i : Instances) where
  -- what stands for a base that fits its type is of its kind
  pub kind_given : (k : BaseKind) (v : Value) (b : Base) → Fits p i v (types.base k) → v ≡ value.Base b → is_of_kind k b ≡ true
  kind_given k v b fits same =
      let found : IsBaseOf p i k v = base_of_fits p i k v fits in
      subst (λ c. is_of_kind k c ≡ true) (same_base found.base b (sym found.is ∙ same)) found.of_kind

  pub int_given : (v : Value) (g : Given) → Fits p i v known.Int → Stands known.Int v g → (n : ℤ) × (g.base ≡ base.Int n)
  int_given v g fits stands = int_by g.base (kind_given kind.Int v g.base fits (stands.base int_is))

  pub bool_given : (v : Value) (g : Given) → Fits p i v known.Bool → Stands known.Bool v g → (b : Bool) × (g.base ≡ base.Bool b)
  bool_given v g fits stands = bool_by g.base (kind_given kind.Bool v g.base fits (stands.base bool_is))

  pub text_given : (v : Value) (g : Given) → Fits p i v known.Text → Stands known.Text v g → (bytes : List ℕ) × (g.base ≡ base.Text bytes)
  text_given v g fits stands = text_by g.base (kind_given kind.Text v g.base fits (stands.base text_is))
