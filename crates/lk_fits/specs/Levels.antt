-- What a value of a type is, one level deep.
use Rattle.std.specs.Prelude.{◌≡◌, ℕ, List}
use Rattle.lk_ast.specs.declared.table.Base.{Base}
use Rattle.lk_ast.specs.declared.table.Base.TheVariants as base
use Rattle.lk_ast.specs.declared.value.Field.{Field}
use Rattle.lk_ast.specs.declared.value.FunValue.{FunValue}
use Rattle.lk_ast.specs.declared.value.Value.{Value}
use Rattle.lk_ast.specs.declared.value.Value.TheOpen.{Value-F}
use Rattle.lk_types.specs.Each.{OneOf}
use Rattle.lk_types.specs.declared.ground.Ground.{Ground}
use Rattle.lk_types.specs.declared.ground.Ground.TheOpen.{Ground-F}
use Rattle.lk_types.specs.declared.ground.Ground.TheVariants as known
use Rattle.lk_types.specs.declared.ground.GroundField.{GroundField}
use Rattle.lk_fits.specs.Values.{Fits, AllFit, FitEach, FieldsFit}

-- an integer, a truth value or a text, of the type of these
abbrev pub IsBase : Base → Ground-F Ground GroundField → Type 0
IsBase (base.Int n) Ground-F.Int = Unit {0}
IsBase (base.Bool b) Ground-F.Bool = Unit {0}
IsBase (base.Text bytes) Ground-F.Text = Unit {0}
IsBase b t = ⊥

module _ (IsFun : ℕ → Ground → List Ground → Type 0) where
  -- one of these tags, with a value of its type
  abbrev pub IsTag : List GroundField → List ℕ → Value → Type 0
  IsTag gs tag held = OneOf (λ (g : GroundField). (g.label ≡ tag) × Fits IsFun held g.ty) gs

  -- what has this number is of this type, and keeps such values
  abbrev pub IsMade : Ground → FunValue → Type 0
  IsMade t f = (kept : List Ground) × IsFun f.site t kept × FitEach IsFun f.env kept

  abbrev pub IsOf : Value-F Value Field FunValue → Ground-F Ground GroundField → Type 0
  IsOf (Value-F.Base b) t = IsBase b t
  IsOf (Value-F.List values) (Ground-F.List a) = AllFit IsFun values a
  IsOf (Value-F.Fields fs) (Ground-F.Fields gs) = FieldsFit IsFun fs gs
  IsOf (Value-F.Tag tag held) (Ground-F.Tags gs) = IsTag gs tag held
  IsOf (Value-F.Fun f) (Ground-F.Fun ts effects b) = IsMade (known.Fun ts effects b) f
  IsOf _ _ = ⊥
