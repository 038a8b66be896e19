-- The type of a signature with variables says of ground types what the rules say.
use Rattle.std.proofs.Common.{◌≡◌, ℕ, ◌+◌, List, [], ◌∷◌, ◌++◌, map, length, refl, sym, subst, ap, ap₂, ◌∙◌, Some}
use native.Mathlib.Omega.{arith}
use Rattle.std.specs.Option.{option_map}
use Rattle.lk_ast.specs.declared.signature.SigField.{SigField, roll-SigField, fold-SigField, fold_out-SigField}
use Rattle.lk_ast.specs.declared.signature.SigType.{SigType, out-SigType, roll-SigType, out-roll-SigType, roll-out-SigType}
use Rattle.lk_ast.specs.declared.signature.SigType.TheFolds.{ind-SigType, map-SigType, fold-roll-SigType}
use Rattle.lk_ast.specs.declared.signature.SigType.TheOpen.{SigType-F}
use Rattle.lk_types.proofs.Parts.{same_some}
use Rattle.lk_types.proofs.Unfold.{under_int, under_bool, under_text}
use Rattle.lk_types.specs.Grounding.{Grounding, under}
use Rattle.lk_types.specs.Rows.{Label, Row, EffectSet, no_fields}
use Rattle.lk_types.specs.declared.ground.Ground.{Ground}
use Rattle.lk_types.specs.declared.ground.Ground.TheVariants as known
use Rattle.lk_types.specs.declared.ty.RowTail.TheVariants.{Closed, Var}
use Rattle.lk_typing.proofs.Inverses.{first_same, rest_same, none_more, more_none, WereFields, record_was, variant_was, FunctionParts, function_was}
use Rattle.lk_typing.proofs.Lists.{length_both, stand_front, stand_back}
use Rattle.lk_typing.proofs.Meaning.{Letter, effects, Stand, HasEffects, seen}
use Rattle.lk_typing.proofs.Values.{under_record, under_variant, list_is, list_was, function_is}
use Rattle.lk_typing.specs.Law.{Become}
use Rattle.lk_typing.specs.Names.{Named}
use Rattle.lk_typing.specs.Signatures.{IsSigned, AreSigned, AreFields, Signed, Signing, SignedAll, sign_all, sign_fields, sign_level, field_level, signing}
use Rattle.lk_typing.specs.Types.{record_of, variant_of, function_of, with_fields}
use Rattle.lk_typing.specs.Unknowns as unknown

-- ---- one level

pub sign_field : SigField → Label × Signing
sign_field = fold-SigField Signing (Label × Signing) sign_level field_level

abbrev pub level : SigType-F SigType SigField → Signing
level x = sign_level (map-SigType SigType SigField Signing (Label × Signing) signing sign_field x)

pub rolled : (x : SigType-F SigType SigField) → signing (roll-SigType x) ≡ level x
unfolding signing sign_field
rolled x = fold-roll-SigType Signing (Label × Signing) sign_level field_level x

rolled_field : (f : SigField) → sign_field f ≡ (f.label.text, signing f.ty)
unfolding signing sign_field
rolled_field f = fold_out-SigField Signing (Label × Signing) sign_level field_level f

abbrev pub signing_field : SigField → Label × Signing
signing_field f = (f.label.text, signing f.ty)

pub rolled_fields : (fs : List SigField) → map sign_field fs ≡ map signing_field fs
rolled_fields [] = refl
rolled_fields (f ∷ fs) = ap₂ (λ a as'. a ∷ as') (rolled_field f) (rolled_fields fs)

by_form : (s : SigType) (x : SigType-F SigType SigField) → out-SigType s ≡ x → signing s ≡ level x
by_form s x is = ap signing (sym (roll-out-SigType s) ∙ ap roll-SigType is) ∙ rolled x

-- ---- what becomes of the type has the signature

abbrev TypeSound : SigType → Type 0
TypeSound s = (σ : Grounding) (n : ℕ) (t : Ground) → under σ (signing s n).ty ≡ Some t → IsSigned s t

abbrev FieldSound : SigField → Type 0
FieldSound f = TypeSound f.ty

abbrev Such : Type 0
Such = (s : SigType) × TypeSound s

abbrev SuchField : Type 0
SuchField = (f : SigField) × FieldSound f

types_sound : (ss : List Such) (σ : Grounding) (n : ℕ) (ts : List Ground) → Become σ (sign_all (map signing (map (λ s. s.0) ss)) n).types ts → AreSigned (map (λ s. s.0) ss) ts
types_sound [] σ n [] is = AreSigned.none
types_sound [] σ n (t ∷ ts) is = none_more is
types_sound (s ∷ ss) σ n [] is = more_none is
types_sound (s ∷ ss) σ n (t ∷ ts) is = AreSigned.more (s.1 σ n t (first_same is)) (types_sound ss σ (signing s.0 n).next ts (rest_same is))

fields_sound : (fs : List SuchField) (σ : Grounding) (n : ℕ) (known_fields : Named Ground)
    → seen (under σ) (sign_fields (map signing_field (map (λ f. f.0) fs)) n).fields ≡ seen (λ t. Some t) known_fields → AreFields (map (λ f. f.0) fs) known_fields
fields_sound [] σ n [] is = AreFields.no_field
fields_sound [] σ n (f ∷ known_fields) is = none_more is
fields_sound (f ∷ fs) σ n [] is = more_none is
fields_sound (f ∷ fs) σ n (a ∷ known_fields) is =
    let label : f.0.label.text ≡ a.0 = ap (λ p. p.0) (first_same is) in
    subst (λ l. AreFields (f.0 ∷ map (λ g. g.0) fs) ((l, a.1) ∷ known_fields)) label
    (AreFields.field (f.1 σ n a.1 (ap (λ p. p.1) (first_same is))) (fields_sound fs σ (signing f.0.ty n).next known_fields (rest_same is)))

abbrev plain_level : SigType-F Such SuchField → SigType-F SigType SigField
plain_level = map-SigType Such SuchField SigType SigField (λ s. s.0) (λ f. f.0)

abbrev LevelSound : SigType-F SigType SigField → Type 0
LevelSound x = (σ : Grounding) (n : ℕ) (t : Ground) → under σ (level x n).ty ≡ Some t → IsSigned (roll-SigType x) t

level_sound : (y : SigType-F Such SuchField) → LevelSound (plain_level y)
level_sound SigType-F.Int σ n t is = subst (λ u. IsSigned (roll-SigType SigType-F.Int) u) (same_some (sym (under_int σ) ∙ is)) (IsSigned.int (out-roll-SigType _))
level_sound SigType-F.Bool σ n t is = subst (λ u. IsSigned (roll-SigType SigType-F.Bool) u) (same_some (sym (under_bool σ) ∙ is)) (IsSigned.bool (out-roll-SigType _))
level_sound SigType-F.Text σ n t is = subst (λ u. IsSigned (roll-SigType SigType-F.Text) u) (same_some (sym (under_text σ) ∙ is)) (IsSigned.text (out-roll-SigType _))
level_sound (SigType-F.List s) σ n t is =
    let was : (a : Ground) × (under σ (signing s.0 n).ty ≡ Some a) × (t ≡ known.List a) = list_was σ (signing s.0 n).ty t is in
    subst (λ u. IsSigned (roll-SigType (SigType-F.List s.0)) u) (sym was.2) (IsSigned.list s.0 was.0 (out-roll-SigType _) (s.1 σ n was.0 was.1))
level_sound (SigType-F.Fields fs) σ n t is =
    let plain_fields : List SigField = map (λ f. f.0) fs in
    let rolls : under σ (unknown.record_of (sign_fields (map signing_field plain_fields) n).fields Closed) ≡ Some t = subst (λ gs. under σ (unknown.record_of (sign_fields gs n).fields Closed) ≡ Some t) (rolled_fields plain_fields) is in
    let was : (row : Row) × WereFields σ (sign_fields (map signing_field plain_fields) n).fields Closed row × (t ≡ record_of row) = record_was σ _ Closed t rolls in
    subst (λ u. IsSigned (roll-SigType (SigType-F.Fields plain_fields)) u) (sym was.2)
    (IsSigned.fields plain_fields was.1.known_fields was.0 (out-roll-SigType _) (fields_sound fs σ n was.1.known_fields was.1.same) was.1.with_them)
level_sound (SigType-F.Tags fs) σ n t is =
    let plain_fields : List SigField = map (λ f. f.0) fs in
    let rolls : under σ (unknown.variant_of (sign_fields (map signing_field plain_fields) n).fields Closed) ≡ Some t = subst (λ gs. under σ (unknown.variant_of (sign_fields gs n).fields Closed) ≡ Some t) (rolled_fields plain_fields) is in
    let was : (row : Row) × WereFields σ (sign_fields (map signing_field plain_fields) n).fields Closed row × (t ≡ variant_of row) = variant_was σ _ Closed t rolls in
    subst (λ u. IsSigned (roll-SigType (SigType-F.Tags plain_fields)) u) (sym was.2)
    (IsSigned.tags plain_fields was.1.known_fields was.0 (out-roll-SigType _) (fields_sound fs σ n was.1.known_fields was.1.same) was.1.with_them)
level_sound (SigType-F.Fun params answer) σ n t is =
    let types : SignedAll = sign_all (map signing (map (λ s. s.0) params)) (1 + n) in
    let was : FunctionParts σ types.types (unknown.effects_of [] (Var n)) (signing answer.0 types.next).ty t = function_was σ _ _ _ t is in
    subst (λ u. IsSigned (roll-SigType (SigType-F.Fun (map (λ s. s.0) params) answer.0)) u) (sym was.is)
    (IsSigned.function (map (λ s. s.0) params) answer.0 was.ts was.s was.a (out-roll-SigType _) (types_sound params σ (1 + n) was.ts was.params) (answer.1 σ types.next was.a was.answer))

type_sound : (y : SigType-F Such SuchField) → TypeSound (roll-SigType (plain_level y))
type_sound y σ n t is = level_sound y σ n t (sym (ap (λ f. under σ (f n).ty) (rolled (plain_level y))) ∙ is)

sound : (s : SigType) → TypeSound s
sound = ind-SigType TypeSound FieldSound (λ x y is. subst (λ z. TypeSound (roll-SigType z)) is (type_sound y)) (λ x y is. subst (λ z. FieldSound (roll-SigField z)) is y.ty.1)

pub signature_sound : (σ : Grounding) (sig : SigType) (n : ℕ) (t : Ground) → under σ (signing sig n).ty ≡ Some t → IsSigned sig t
signature_sound σ sig n t is = sound sig σ n t is

-- ---- for what has the signature there are letters

-- the numbers end there, and the type becomes that
abbrev SignedAs : Grounding → Signed → ℕ → Ground → Type 0
SignedAs σ w last t = (w.next ≡ last) × (under σ w.ty ≡ Some t)

abbrev Signable : SigType → Ground → Type 0
Signable s t = (ls : List Letter) × ((σ : Grounding) (n : ℕ) → Stand σ n ls → SignedAs σ (signing s n) (length ls + n) t)

abbrev SignableAll : List SigType → List Ground → Type 0
SignableAll ss ts = (ls : List Letter) × ((σ : Grounding) (n : ℕ) → Stand σ n ls → ((sign_all (map signing ss) n).next ≡ length ls + n) × Become σ (sign_all (map signing ss) n).types ts)

abbrev SignableFields : List SigField → Named Ground → Type 0
SignableFields fs named = (ls : List Letter)
    × ((σ : Grounding) (n : ℕ) → Stand σ n ls → ((sign_fields (map signing_field fs) n).next ≡ length ls + n) × (seen (under σ) (sign_fields (map signing_field fs) n).fields ≡ seen (λ t. Some t) named))

as_level : (s : SigType) (x : SigType-F SigType SigField) (t : Ground) → out-SigType s ≡ x
    → (ls : List Letter) → ((σ : Grounding) (n : ℕ) → Stand σ n ls → SignedAs σ (level x n) (length ls + n) t) → Signable s t
as_level s x t is ls all = (ls, λ σ n stand. subst (λ f. SignedAs σ (f n) (length ls + n) t) (sym (by_form s x is)) (all σ n stand))

list_signable : (s u : SigType) (a : Ground) → out-SigType s ≡ SigType-F.List u → Signable u a → Signable s (known.List a)
list_signable s u a is part = as_level s (SigType-F.List u) (known.List a) is part.0 (λ σ n stand. let met : SignedAs σ (signing u n) (length part.0 + n) a = part.1 σ n stand in (met.0, list_is σ _ a met.1))

fields_signable : (s : SigType) (fs : List SigField) (named : Named Ground) (r : Row) → out-SigType s ≡ SigType-F.Fields fs → SignableFields fs named → with_fields named no_fields ≡ Some r → Signable s (record_of r)
fields_signable s fs named r is parts row_is = as_level s (SigType-F.Fields fs) (record_of r) is parts.0 (λ σ n stand.
    let met : ((sign_fields (map signing_field fs) n).next ≡ length parts.0 + n) × (seen (under σ) (sign_fields (map signing_field fs) n).fields ≡ seen (λ t. Some t) named) = parts.1 σ n stand in
    subst (λ gs. SignedAs σ (record { ty = unknown.record_of (sign_fields gs n).fields Closed; next = (sign_fields gs n).next }) (length parts.0 + n) (record_of r)) (sym (rolled_fields fs))
    (met.0, under_record σ _ named Closed met.1 ∙ ap (option_map record_of) row_is))

tags_signable : (s : SigType) (fs : List SigField) (named : Named Ground) (r : Row) → out-SigType s ≡ SigType-F.Tags fs → SignableFields fs named → with_fields named no_fields ≡ Some r → Signable s (variant_of r)
tags_signable s fs named r is parts row_is = as_level s (SigType-F.Tags fs) (variant_of r) is parts.0 (λ σ n stand.
    let met : ((sign_fields (map signing_field fs) n).next ≡ length parts.0 + n) × (seen (under σ) (sign_fields (map signing_field fs) n).fields ≡ seen (λ t. Some t) named) = parts.1 σ n stand in
    subst (λ gs. SignedAs σ (record { ty = unknown.variant_of (sign_fields gs n).fields Closed; next = (sign_fields gs n).next }) (length parts.0 + n) (variant_of r)) (sym (rolled_fields fs))
    (met.0, under_variant σ _ named Closed met.1 ∙ ap (option_map variant_of) row_is))

-- one behind others, whose numbers end at k
behind : (σ : Grounding) (s : SigType) (t : Ground) (part : Signable s t) (k n : ℕ) → k ≡ n → Stand σ n part.0 → SignedAs σ (signing s k) (length part.0 + n) t
behind σ s t part k n same stand = subst (λ m. SignedAs σ (signing s m) (length part.0 + n) t) (sym same) (part.1 σ n stand)

function_signable : (s : SigType) (params : List SigType) (answer : SigType) (ts : List Ground) (es : EffectSet) (a : Ground)
    → out-SigType s ≡ SigType-F.Fun params answer → SignableAll params ts → Signable answer a → Signable s (function_of ts es a)
function_signable s params answer ts es a is parts last = as_level s (SigType-F.Fun params answer) (function_of ts es a) is (effects es ∷ parts.0 ++ last.0) (λ σ n stand.
    let types : SignedAll = sign_all (map signing params) (1 + n) in
    let front : (types.next ≡ length parts.0 + (1 + n)) × Become σ types.types ts = parts.1 σ (1 + n) (stand_front σ parts.0 last.0 (1 + n) stand.1) in
    let back : SignedAs σ (signing answer types.next) (length last.0 + (length parts.0 + (1 + n))) a = behind σ answer a last types.next (length parts.0 + (1 + n)) front.0 (stand_back σ parts.0 last.0 (1 + n) stand.1) in
    let both : length last.0 + (length parts.0 + (1 + n)) ≡ length (parts.0 ++ last.0) + (1 + n) = length_both parts.0 last.0 (1 + n) in
    let all : length (parts.0 ++ last.0) + (1 + n) ≡ length (effects es ∷ parts.0 ++ last.0) + n = omega arith in
    let own : HasEffects σ (unknown.effects_of [] (Var n)) es = record { same = ap (λ u. Some u) stand.0.effects } in
    (back.0 ∙ both ∙ all, function_is σ types.types ts (unknown.effects_of [] (Var n)) es (signing answer types.next).ty a front.1 own back.1))

more_signable : (s : SigType) (ss : List SigType) (t : Ground) (ts : List Ground) → Signable s t → SignableAll ss ts → SignableAll (s ∷ ss) (t ∷ ts)
more_signable s ss t ts first rest = (
  first.0 ++ rest.0,
  λ σ n stand.
      let front : SignedAs σ (signing s n) (length first.0 + n) t = first.1 σ n (stand_front σ first.0 rest.0 n stand) in
      let back : ((sign_all (map signing ss) (signing s n).next).next ≡ length rest.0 + (length first.0 + n)) × Become σ (sign_all (map signing ss) (signing s n).next).types ts =
      subst (λ m. ((sign_all (map signing ss) m).next ≡ length rest.0 + (length first.0 + n)) × Become σ (sign_all (map signing ss) m).types ts) (sym front.0)
      (rest.1 σ (length first.0 + n) (stand_back σ first.0 rest.0 n stand)) in
      (back.0 ∙ length_both first.0 rest.0 n, ap₂ (λ a as'. a ∷ as') front.1 back.1),
)

field_signable : (f : SigField) (fs : List SigField) (a : Ground) (named : Named Ground) → Signable f.ty a → SignableFields fs named → SignableFields (f ∷ fs) ((f.label.text, a) ∷ named)
field_signable f fs a named first rest = (
  first.0 ++ rest.0,
  λ σ n stand.
      let front : SignedAs σ (signing f.ty n) (length first.0 + n) a = first.1 σ n (stand_front σ first.0 rest.0 n stand) in
      let after : ℕ = (signing f.ty n).next in
      let back : ((sign_fields (map signing_field fs) after).next ≡ length rest.0 + (length first.0 + n)) × (seen (under σ) (sign_fields (map signing_field fs) after).fields ≡ seen (λ t. Some t) named) =
      subst (λ m. ((sign_fields (map signing_field fs) m).next ≡ length rest.0 + (length first.0 + n)) × (seen (under σ) (sign_fields (map signing_field fs) m).fields ≡ seen (λ t. Some t) named)) (sym front.0)
      (rest.1 σ (length first.0 + n) (stand_back σ first.0 rest.0 n stand)) in
      (back.0 ∙ length_both first.0 rest.0 n, ap₂ (λ o r. (f.label.text, o) ∷ r) front.1 back.1),
)

level_only : (s : SigType) (x : SigType-F SigType SigField) (t : Ground) → out-SigType s ≡ x → ((σ : Grounding) (n : ℕ) → SignedAs σ (level x n) n t) → Signable s t
level_only s x t is all = as_level s x t is [] (λ σ n stand. let same : n ≡ 0 + n = omega arith in subst (λ k. SignedAs σ (level x n) k t) same (all σ n))

mutual
  signable : {s : SigType} {t : Ground} → IsSigned s t → Signable s t
  signable (IsSigned.int {s} is) = level_only s SigType-F.Int known.Int is (λ σ n. (refl, under_int σ))
  signable (IsSigned.bool {s} is) = level_only s SigType-F.Bool known.Bool is (λ σ n. (refl, under_bool σ))
  signable (IsSigned.text {s} is) = level_only s SigType-F.Text known.Text is (λ σ n. (refl, under_text σ))
  signable (IsSigned.list {s} u a is d) = list_signable s u a is (signable d)
  signable (IsSigned.fields {s} fs named row is d row_is) = fields_signable s fs named row is (fields_are d) row_is
  signable (IsSigned.tags {s} fs named row is d row_is) = tags_signable s fs named row is (fields_are d) row_is
  signable (IsSigned.function {s} params answer ts es a is d e) = function_signable s params answer ts es a is (all_signable d) (signable e)

  all_signable : {ss : List SigType} {ts : List Ground} → AreSigned ss ts → SignableAll ss ts
  all_signable AreSigned.none = ([], λ σ n stand. (let same : n ≡ 0 + n = omega arith in same, refl))
  all_signable (AreSigned.more {s} {ss} {t} {ts} d e) = more_signable s ss t ts (signable d) (all_signable e)

  fields_are : {fs : List SigField} {named : Named Ground} → AreFields fs named → SignableFields fs named
  fields_are AreFields.no_field = ([], λ σ n stand. (let same : n ≡ 0 + n = omega arith in same, refl))
  fields_are (AreFields.field {f} {fs} {a} {named} d e) = field_signable f fs a named (signable d) (fields_are e)

pub signature_complete : (sig : SigType) (t : Ground) → IsSigned sig t
    → (ls : List Letter) × ((σ : Grounding) (n : ℕ) → Stand σ n ls → ((signing sig n).next ≡ length ls + n) × (under σ (signing sig n).ty ≡ Some t))
signature_complete sig t is = signable is
