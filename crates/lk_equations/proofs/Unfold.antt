-- The definitions by folds, on each form of type.
use Rattle.std.proofs.Common.{◌≡◌, ◌∙◌, ap, ap₂, refl, sym, ℕ, List, [], ◌∷◌, map}
use Rattle.lk_ast.specs.declared.signature.SigField.{SigField, fold-SigField, fold_out-SigField}
use Rattle.lk_ast.specs.declared.signature.SigType.{SigType, roll-SigType, fold-roll-SigType}
use Rattle.lk_ast.specs.declared.signature.SigType.TheFolds.{map-SigType}
use Rattle.lk_ast.specs.declared.signature.SigType.TheOpen.{SigType-F}
use Rattle.lk_ast.specs.declared.signature.SigType.TheVariants as sig
use Rattle.lk_types.specs.Rows.{Label}
use Rattle.lk_types.specs.declared.ty.Ty.TheVariants as ty
use Rattle.lk_types.specs.declared.ty.RowTail.TheVariants.{Closed}
use Rattle.lk_typing.specs.Signatures.{Signing, field_level, sign_fields, sign_level, signed, signing}
use Rattle.lk_typing.specs.Unknowns.{record_of, variant_of}
use Rattle.lk_equations.specs.Made.{signing_fields}

-- ---- types of signatures

fields_signed : (fs : List SigField) → map (fold-SigField Signing (Label × Signing) sign_level field_level) fs ≡ signing_fields fs
unfolding signing
fields_signed [] = refl
fields_signed (f ∷ fs) = ap₂ (λ g gs. g ∷ gs) (fold_out-SigField Signing (Label × Signing) sign_level field_level f) (fields_signed fs)

-- the type of a signature by its level
level : (s : SigType-F SigType SigField) → signing (roll-SigType s) ≡ sign_level (map-SigType SigType SigField Signing (Label × Signing) signing (fold-SigField Signing (Label × Signing) sign_level field_level) s)
unfolding signing
level s = fold-roll-SigType Signing (Label × Signing) sign_level field_level s

module _ (n : ℕ) where
  at_level : (s : SigType-F SigType SigField) → signing (roll-SigType s) n ≡ sign_level (map-SigType SigType SigField Signing (Label × Signing) signing (fold-SigField Signing (Label × Signing) sign_level field_level) s) n
  at_level s = ap (λ f. f n) (level s)

  rolled : {s r : SigType} → r ≡ s → signing s n ≡ signing r n
  rolled is = ap (λ s. signing s n) (sym is)

  pub signing_int : signing sig.Int n ≡ signed ty.Int n
  signing_int = rolled sig.rolls-Int ∙ at_level SigType-F.Int

  pub signing_bool : signing sig.Bool n ≡ signed ty.Bool n
  signing_bool = rolled sig.rolls-Bool ∙ at_level SigType-F.Bool

  pub signing_text : signing sig.Text n ≡ signed ty.Text n
  signing_text = rolled sig.rolls-Text ∙ at_level SigType-F.Text

  pub signing_list : (s : SigType) → signing (sig.List s) n ≡ signed (ty.List (signing s n).ty) (signing s n).next
  signing_list s = rolled (sig.rolls-List s) ∙ at_level (SigType-F.List s)

  pub signing_record : (fs : List SigField) → signing (sig.Fields fs) n ≡ signed (record_of (sign_fields (signing_fields fs) n).fields Closed) (sign_fields (signing_fields fs) n).next
  signing_record fs = rolled (sig.rolls-Fields fs) ∙ at_level (SigType-F.Fields fs) ∙ ap (λ gs. sign_level (SigType-F.Fields gs) n) (fields_signed fs)

  pub signing_variant : (fs : List SigField) → signing (sig.Tags fs) n ≡ signed (variant_of (sign_fields (signing_fields fs) n).fields Closed) (sign_fields (signing_fields fs) n).next
  signing_variant fs = rolled (sig.rolls-Tags fs) ∙ at_level (SigType-F.Tags fs) ∙ ap (λ gs. sign_level (SigType-F.Tags gs) n) (fields_signed fs)

  pub signing_function : (params : List SigType) (answer : SigType) → signing (sig.Fun params answer) n ≡ sign_level (SigType-F.Fun (map signing params) (signing answer)) n
  signing_function params answer = rolled (sig.rolls-Fun params answer) ∙ at_level (SigType-F.Fun params answer)
