-- Types of signatures. A signature says nothing of effects, so each of its arrows has any.
use Rattle.std.specs.Prelude.{◌≡◌, ℕ, ◌+◌, List, [], ◌∷◌, Option, Some, None}
use Rattle.lk_ast.specs.declared.signature.Sig.{Sig}
use Rattle.lk_ast.specs.declared.signature.SigField.{SigField}
use Rattle.lk_ast.specs.declared.signature.SigType.{SigType, out-SigType, fold-SigType}
use Rattle.lk_ast.specs.declared.signature.SigType.TheOpen.{SigType-F, SigField-F}
use Rattle.lk_types.specs.Rows.{Label, Row, EffectSet, no_fields}
use Rattle.lk_types.specs.declared.ground.Ground.{Ground}
use Rattle.lk_types.specs.declared.ground.Ground.TheVariants as known
use Rattle.lk_types.specs.declared.ty.RowTail.TheVariants.{Closed, Var}
use Rattle.lk_types.specs.declared.ty.Ty.{Ty}
use Rattle.lk_types.specs.declared.ty.Ty.TheVariants as ty
use Rattle.lk_typing.specs.Names.{Named}
use Rattle.lk_typing.specs.Types.{record_of, variant_of, function_of, with_fields}
use Rattle.lk_typing.specs.Unknowns as unknown

-- ---- which ground types a signature allows

mutual
  pub data IsSigned : SigType → Ground → Type 0 where
    int : {s : SigType} → out-SigType s ≡ SigType-F.Int → IsSigned s known.Int
    bool : {s : SigType} → out-SigType s ≡ SigType-F.Bool → IsSigned s known.Bool
    text : {s : SigType} → out-SigType s ≡ SigType-F.Text → IsSigned s known.Text
    list : {s : SigType} (u : SigType) (a : Ground) → out-SigType s ≡ SigType-F.List u → IsSigned u a → IsSigned s (known.List a)
    fields : {s : SigType} (fs : List SigField) (named : Named Ground) (row : Row) → out-SigType s ≡ SigType-F.Fields fs → AreFields fs named → with_fields named no_fields ≡ Some row → IsSigned s (record_of row)
    tags : {s : SigType} (fs : List SigField) (named : Named Ground) (row : Row) → out-SigType s ≡ SigType-F.Tags fs → AreFields fs named → with_fields named no_fields ≡ Some row → IsSigned s (variant_of row)
    function : {s : SigType} (params : List SigType) (answer : SigType) (ts : List Ground) (effects : EffectSet) (a : Ground)
        → out-SigType s ≡ SigType-F.Fun params answer → AreSigned params ts → IsSigned answer a → IsSigned s (function_of ts effects a)

  pub data AreSigned : List SigType → List Ground → Type 0 where
    none : AreSigned [] []
    more : {s : SigType} {ss : List SigType} {t : Ground} {ts : List Ground} → IsSigned s t → AreSigned ss ts → AreSigned (s ∷ ss) (t ∷ ts)

  pub data AreFields : List SigField → Named Ground → Type 0 where
    no_field : AreFields [] []
    field : {f : SigField} {fs : List SigField} {a : Ground} {named : Named Ground} → IsSigned f.ty a → AreFields fs named → AreFields (f ∷ fs) ((f.label.text, a) ∷ named)

-- without a signature nothing is asked
abbrev pub HasSignature : Option Sig → Ground → Type 0
HasSignature None t = Unit {0}
HasSignature (Some sig) t = IsSigned sig.ty t

-- ---- the type of a signature with a variable for the effects of each arrow

pub record Signed : Type 0 where
  pub ty : Ty
  pub next : ℕ

-- numbered from there
abbrev pub Signing : Type 0
Signing = ℕ → Signed

pub record SignedAll : Type 0 where
  pub types : List Ty
  pub next : ℕ

abbrev pub sign_all : List Signing → ℕ → SignedAll
sign_all [] n = record { types = []; next = n }
sign_all (s ∷ ss) n =
    let rest : SignedAll = sign_all ss (s n).next in
    record { types = (s n).ty ∷ rest.types; next = rest.next }

pub record SignedFields : Type 0 where
  pub fields : Named Ty
  pub next : ℕ

abbrev pub sign_fields : List (Label × Signing) → ℕ → SignedFields
sign_fields [] n = record { fields = []; next = n }
sign_fields (f ∷ fs) n =
    let rest : SignedFields = sign_fields fs (f.1 n).next in
    record { fields = (f.0, (f.1 n).ty) ∷ rest.fields; next = rest.next }

abbrev pub signed : Ty → ℕ → Signed
signed t next = record { ty = t; next = next }

abbrev pub sign_level : SigType-F Signing (Label × Signing) → Signing
sign_level SigType-F.Int n = signed ty.Int n
sign_level SigType-F.Bool n = signed ty.Bool n
sign_level SigType-F.Text n = signed ty.Text n
sign_level (SigType-F.List s) n = signed (ty.List (s n).ty) (s n).next
sign_level (SigType-F.Fields fs) n = signed (unknown.record_of (sign_fields fs n).fields Closed) (sign_fields fs n).next
sign_level (SigType-F.Tags fs) n = signed (unknown.variant_of (sign_fields fs n).fields Closed) (sign_fields fs n).next
sign_level (SigType-F.Fun params answer) n =
    let ps : SignedAll = sign_all params (1 + n) in
    let a : Signed = answer ps.next in
    signed (ty.Fun ps.types (unknown.effects_of [] (Var n)) a.ty) a.next

abbrev pub field_level : SigField-F Signing (Label × Signing) → Label × Signing
field_level f = (f.label.text, f.ty)

unfoldable pub signing : SigType → Signing
signing = fold-SigType Signing (Label × Signing) sign_level field_level
