-- The type of a signature is even, whose arrows have no effects before new variables.
use Rattle.std.proofs.Common.{ℕ, ◌+◌, List, [], ◌∷◌, map, sym, subst, Option, Some, None}
use native.Mathlib.Omega.{arith}
use Rattle.lk_ast.specs.declared.signature.Sig.{Sig}
use Rattle.lk_ast.specs.declared.signature.SigField.{SigField, roll-SigField}
use Rattle.lk_ast.specs.declared.signature.SigType.{SigType, roll-SigType}
use Rattle.lk_ast.specs.declared.signature.SigType.TheFolds.{ind-SigType, map-SigType}
use Rattle.lk_ast.specs.declared.signature.SigType.TheOpen.{SigType-F}
use Rattle.lk_types.specs.Rows.{no_effects}
use Rattle.lk_types.specs.declared.ty.RowTail.TheVariants.{Closed, Var}
use Rattle.lk_types.specs.declared.ty.Ty.{Ty}
use Rattle.lk_typing.proofs.Even.Found.{Before, Stays, Found, mapped, here, onward, beside, new, any_sets, nothing_known}
use Rattle.lk_typing.proofs.Even.Nodes.{EvenTold}
use Rattle.lk_typing.proofs.Even.Types.{AreEvenTypes, AreEvenNames, even_int, even_bool, even_text, even_list, even_record, even_variant, even_function, alone}
use Rattle.lk_typing.proofs.Groups.Signatures.{level, rolled, sign_field, signing_field, rolled_fields}
use Rattle.lk_typing.specs.EffectRows.{IsEven}
use Rattle.lk_typing.specs.Groups.{signature_told}
use Rattle.lk_typing.specs.Signatures.{Signed, Signing, SignedAll, sign_all, sign_fields, signing}
use Rattle.lk_typing.specs.Unknowns.{effects_of}

-- a signing whose type is even
abbrev IsEvenSigning : Signing → Type 0
IsEvenSigning s = (n : ℕ) (b : Before) → Found n b (s n).next (λ c. IsEven c (s n).ty)

abbrev TypeEven : SigType → Type 0
TypeEven s = IsEvenSigning (signing s)

abbrev FieldEven : SigField → Type 0
FieldEven f = TypeEven f.ty

abbrev Such : Type 0
Such = (s : SigType) × TypeEven s

abbrev SuchField : Type 0
SuchField = (f : SigField) × FieldEven f

types_found : (ss : List Such) (n : ℕ) (b : Before) → Found n b (sign_all (map signing (map (λ s. s.0) ss)) n).next (λ c. AreEvenTypes c (sign_all (map signing (map (λ s. s.0) ss)) n).types)
types_found [] n b = mapped (any_sets n n b (omega arith)) (λ c all. tt)
types_found (s ∷ ss) n b = onward (nothing_known n b) (s.1 n b) (λ c two. mapped (beside two (types_found ss (signing s.0 n).next c)) (λ d all. (all.0.1, all.1)))

fields_found : (fs : List SuchField) (n : ℕ) (b : Before) → Found n b (sign_fields (map signing_field (map (λ f. f.0) fs)) n).next (λ c. AreEvenNames c (sign_fields (map signing_field (map (λ f. f.0) fs)) n).fields)
fields_found [] n b = mapped (any_sets n n b (omega arith)) (λ c all. tt)
fields_found (f ∷ fs) n b = onward (nothing_known n b) (f.1 n b) (λ c two. mapped (beside two (fields_found fs (signing f.0.ty n).next c)) (λ d all. (all.0.1, all.1)))

rolled_found : (fs : List SuchField) (n : ℕ) (b : Before) → Found n b (sign_fields (map sign_field (map (λ f. f.0) fs)) n).next (λ c. AreEvenNames c (sign_fields (map sign_field (map (λ f. f.0) fs)) n).fields)
rolled_found fs n b = subst (λ gs. Found n b (sign_fields gs n).next (λ c. AreEvenNames c (sign_fields gs n).fields)) (sym (rolled_fields (map (λ f. f.0) fs))) (fields_found fs n b)

abbrev plain_level : SigType-F Such SuchField → SigType-F SigType SigField
plain_level = map-SigType Such SuchField SigType SigField (λ s. s.0) (λ f. f.0)

level_found : (y : SigType-F Such SuchField) → IsEvenSigning (level (plain_level y))
level_found SigType-F.Int n b = mapped (any_sets n n b (omega arith)) (λ c all. even_int c)
level_found SigType-F.Bool n b = mapped (any_sets n n b (omega arith)) (λ c all. even_bool c)
level_found SigType-F.Text n b = mapped (any_sets n n b (omega arith)) (λ c all. even_text c)
level_found (SigType-F.List s) n b = mapped (s.1 n b) (λ c even. even_list c (signing s.0 n).ty even)
level_found (SigType-F.Fields fs) n b = mapped (rolled_found fs n b) (λ c even. even_record c (sign_fields (map sign_field (map (λ f. f.0) fs)) n).fields Closed even)
level_found (SigType-F.Tags fs) n b = mapped (rolled_found fs n b) (λ c even. even_variant c (sign_fields (map sign_field (map (λ f. f.0) fs)) n).fields Closed even)
level_found (SigType-F.Fun params answer) n b =
    let types : SignedAll = sign_all (map signing (map (λ s. s.0) params)) (1 + n) in
    let last : Signed = signing answer.0 types.next in
    onward (nothing_known n b) (new n b no_effects) (λ c one.
    onward one (types_found params (1 + n) c) (λ c two.
    mapped (beside two (answer.1 types.next c)) (λ d all. even_function d types.types (effects_of [] (Var n)) last.ty all.0.1 (alone d n all.0.0.1) all.1)))

pub signature_even : (s : SigType) → IsEvenSigning (signing s)
signature_even = ind-SigType TypeEven FieldEven
    (λ x y is. subst (λ z. TypeEven (roll-SigType z)) is (subst IsEvenSigning (sym (rolled (plain_level y))) (level_found y)))
    (λ x y is. subst (λ z. FieldEven (roll-SigField z)) is y.ty.1)

-- what is said of a function's signature
pub signature_found : (sig : Option Sig) (t : Ty) (n : ℕ) (b : Before) {K : Before → Type 0} → Stays n b K → ((c : Before) → K c → IsEven c t)
    → Found n b (signature_told sig t n).next (EvenTold (signature_told sig t n))
signature_found None t n b known is = mapped (here known) (λ c given. record { equations = tt })
signature_found (Some sig) t n b known is = mapped (beside known (signature_even sig.ty n b)) (λ c all. record { equations = ((is c all.0, all.1), tt) })
