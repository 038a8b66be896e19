-- What the readers find is a type of the grammar, and where they stop the tokens before can be completed.
use Rattle.std.proofs.Common.{◌≡◌, ℕ, zero, suc, true, List, [], ◌∷◌, ◌++◌, refl, ◌∙◌}
use Rattle.std.specs.Prelude.{codes}
use Rattle.lk_ast.specs.declared.signature.SigField.{SigField}
use Rattle.lk_ast.specs.declared.signature.SigType.{SigType}
use Rattle.lk_ast.specs.declared.signature.SigType.TheVariants as sig
use Rattle.lk_ast.specs.declared.token.Token.{Token}
use Rattle.lk_ast.specs.declared.token.TokenKind.TheVariants.{Tag as AnyTag}
use Rattle.lk_read.specs.Exact.{Language}
use Rattle.lk_read.specs.Kinds.{IsSign, IsTag}
use Rattle.lk_read.specs.Reader.{Reader}
use Rattle.lk_read.proofs.KindLaws.{some_token, a_sign, a_tag, a_name, any_tag}
use Rattle.lk_read.proofs.Laws.{Completes, Reads, Means, Next, Grows, Made, weaken, bind-reads, when-reads, give-reads, tired-reads, many-reads, eat-reads, made-reads}
use Rattle.lk_read.proofs.Moves.{moved, cons, after, Close, closed}
use Rattle.lk_rows.specs.Reading.{comma, is_label, field_with, fields_turn, fields_with, types_turn, types_with, unit_with, record_with, function_with, round_with, list_with, no_tags, some_tags_with, tags_with, named, base, type_with, type_at}
use Rattle.lk_rows.specs.Types.{field, IsType, IsTypes, IsFields, IsField}
use Rattle.lk_rows.specs.declared.types.Label.{Label}
use Rattle.lk_rows.specs.declared.types.Label.TheVariants.{Name, Tag}

abbrev int_token : Token
int_token = some_token (AnyTag (codes "Int"))

type_begins : Completes IsType []
type_begins = record { more = int_token ∷ []; value = sig.Int; whole = IsType.int int_token refl }

-- ---- parts

abbrev Fields_of : Label → Language (List SigField)
Fields_of label = IsFields (is_label label)

abbrev Field_of : Label → Language SigField
Field_of label = IsField (is_label label)

labels : (label : Label) → Means (is_label label) (λ t. is_label label t ≡ true)
labels Name = a_name
labels Tag = any_tag

module _ (type : Reader SigType) (T : Reads type IsType) where
  pub field-reads : (label : Label) → Reads (field_with (is_label label) type) (Field_of label)
  unfolding field_with
  field-reads label = weaken _ (Field_of label) (eat-reads _ _ (labels label) (λ l. eat-reads _ _ (a_sign (codes ":")) (λ c. made-reads type (field l) IsType T)))
      (λ w x h. let i = h.after in moved (Field_of label) (h.is ∙ cons h.t i.is) i.after.is (IsField.labelled h.t i.t h.test i.test i.after.of))

  pub fields_turn-reads : (label : Label) (parts : List SigField) → Reads (fields_turn (is_label label) type parts) (Grows (Fields_of label) parts)
  unfolding fields_turn
  fields_turn-reads label parts = weaken _ (Grows (Fields_of label) parts) (eat-reads _ _ (a_sign (codes ",")) (λ s. made-reads (field_with (is_label label) type) (λ (part : SigField). parts ++ part ∷ []) (Field_of label) (field-reads label)))
      (λ w x h u q. moved (Fields_of label) (after u h.is) h.after.is (IsFields.more h.t q h.test h.after.of))

  pub fields-reads : (label : Label) (n : ℕ) → Reads (fields_with (is_label label) type n) (Fields_of label)
  unfolding fields_with
  fields-reads label n = weaken _ (Fields_of label) (bind-reads _ _ (Field_of label) (λ part. Grows (Fields_of label) (part ∷ [])) (field-reads label) (λ part. many-reads comma (fields_turn (is_label label) type) (Fields_of label) (fields_turn-reads label) n (part ∷ [])))
      (λ w x h. moved (Fields_of label) h.is refl (h.snd h.u (IsFields.one h.fst)))

  pub types_turn-reads : (types : List SigType) → Reads (types_turn type types) (Grows IsTypes types)
  unfolding types_turn
  types_turn-reads types = weaken _ (Grows IsTypes types) (eat-reads _ _ (a_sign (codes ",")) (λ s. made-reads type (λ (ty : SigType). types ++ ty ∷ []) IsType T))
      (λ w x h u q. moved IsTypes (after u h.is) h.after.is (IsTypes.next h.t q h.test h.after.of))

  pub types-reads : (n : ℕ) → Reads (types_with type n) IsTypes
  unfolding types_with
  types-reads n = weaken _ IsTypes (bind-reads _ _ IsType (λ ty. Grows IsTypes (ty ∷ [])) T (λ ty. many-reads comma (types_turn type) IsTypes types_turn-reads n (ty ∷ [])))
      (λ w x h. moved IsTypes h.is refl (h.snd h.u (IsTypes.first h.fst)))

-- ---- behind an opening bracket

-- what more tokens make of this bracket
abbrev Behind : List ℕ → Language SigType
Behind sign w x = (o : Token) → IsSign sign o → IsType (o ∷ w) x

-- what more tokens make of `()`
abbrev Behind_unit : Token → Language SigType
Behind_unit c w x = (o : Token) → IsSign (codes "(") o → IsSign (codes ")") c → IsType (o ∷ c ∷ w) x

module _ (type : Reader SigType) (T : Reads type IsType) where
  pub unit-reads : Reads (unit_with type) (Behind (codes "("))
  unfolding unit_with
  unit-reads = weaken _ (Behind (codes "(")) (eat-reads _ Behind_unit (a_sign (codes ")")) (λ c. when-reads _ _ _ (Behind_unit c)
      (weaken _ (Behind_unit c) (eat-reads _ _ (a_sign (codes "->")) (λ a. made-reads type (sig.Fun []) IsType T))
      (λ w x h o p q. moved IsType (cons o (cons c h.is)) h.after.is (IsType.thunk o c h.t p q h.test h.after.of)))
      (weaken _ (Behind_unit c) (give-reads (sig.Fields []))
      (λ w x h o p q. moved IsType (cons o (cons c h.0)) h.1 (IsType.unit o c p q)))))
      (λ w x h o p. moved IsType (cons o h.is) refl (h.after o p h.test))

  pub record-reads : (n : ℕ) → Reads (record_with type n) (Behind (codes "("))
  unfolding record_with
  record-reads n = weaken _ (Behind (codes "(")) (bind-reads _ _ (Fields_of Name) (λ parts. Close (codes ")") (λ c. sig.Fields parts)) (fields-reads type T Name n) (λ parts. eat-reads _ _ (a_sign (codes ")")) (λ c. give-reads (sig.Fields parts))))
      (λ w x h o p. moved IsType (cons o (closed h)) h.snd.after.1 (IsType.fields o h.snd.t p h.fst h.snd.test))

  pub function-reads : (n : ℕ) → Reads (function_with type n) (Behind (codes "("))
  unfolding function_with
  function-reads n = weaken _ (Behind (codes "(")) (bind-reads _ _ IsTypes (λ params. Next (IsSign (codes ")")) (λ c. Next (IsSign (codes "->")) (λ a. Made (sig.Fun params) IsType))) (types-reads type T n) (λ params. eat-reads _ _ (a_sign (codes ")")) (λ c. eat-reads _ _ (a_sign (codes "->")) (λ a. made-reads type (sig.Fun params) IsType T))))
      (λ w x h o p. let i = h.snd in let j = i.after in moved IsType (cons o (h.is ∙ after h.u (i.is ∙ cons i.t j.is))) j.after.is (IsType.function o i.t j.t p h.fst i.test j.test j.after.of))

  pub round-reads : (n : ℕ) → Reads (round_with type n) IsType
  unfolding round_with
  round-reads n = weaken _ IsType (eat-reads _ (λ o. Behind (codes "(")) (a_sign (codes "(")) (λ o. when-reads _ _ _ (Behind (codes "(")) unit-reads (when-reads _ _ _ (Behind (codes "(")) (record-reads n) (function-reads n))))
      (λ w x h. moved IsType h.is refl (h.after h.t h.test))

  pub list-reads : Reads (list_with type) IsType
  unfolding list_with
  list-reads = weaken _ IsType (eat-reads _ _ (a_sign (codes "[")) (λ o. bind-reads _ _ IsType (λ item. Close (codes "]") (λ c. sig.List item)) T (λ item. eat-reads _ _ (a_sign (codes "]")) (λ c. give-reads (sig.List item)))))
      (λ w x h. let i = h.after in moved IsType (h.is ∙ cons h.t (closed i)) i.snd.after.1 (IsType.list h.t i.snd.t h.test i.fst i.snd.test))

  no_tags-reads : Reads no_tags (Behind (codes "[|"))
  unfolding no_tags
  no_tags-reads = weaken _ (Behind (codes "[|")) (eat-reads _ _ (a_sign (codes "|]")) (λ c. give-reads (sig.Tags [])))
      (λ w x h o p. moved IsType (cons o (h.is ∙ cons h.t h.after.0)) h.after.1 (IsType.no_tags o h.t p h.test))

  some_tags-reads : (n : ℕ) → Reads (some_tags_with type n) (Behind (codes "[|"))
  unfolding some_tags_with
  some_tags-reads n = weaken _ (Behind (codes "[|")) (bind-reads _ _ (Fields_of Tag) (λ parts. Close (codes "|]") (λ c. sig.Tags parts)) (fields-reads type T Tag n) (λ parts. eat-reads _ _ (a_sign (codes "|]")) (λ c. give-reads (sig.Tags parts))))
      (λ w x h o p. moved IsType (cons o (closed h)) h.snd.after.1 (IsType.tags o h.snd.t p h.fst h.snd.test))

  pub tags-reads : (n : ℕ) → Reads (tags_with type n) IsType
  unfolding tags_with
  tags-reads n = weaken _ IsType (eat-reads _ (λ o. Behind (codes "[|")) (a_sign (codes "[|")) (λ o. when-reads _ _ _ (Behind (codes "[|")) no_tags-reads (some_tags-reads n)))
      (λ w x h. moved IsType h.is refl (h.after h.t h.test))

-- ---- a type

named-reads : (name : List ℕ) (ty : SigType) → ((t : Token) → IsTag name t → IsType (t ∷ []) ty) → Reads (named name ty) IsType
unfolding named
named-reads name ty makes = weaken _ IsType (eat-reads _ _ (a_tag name) (λ t. give-reads ty)) (λ w x h. moved IsType (h.is ∙ cons h.t h.after.0) h.after.1 (makes h.t h.test))

pub base-reads : Reads base IsType
unfolding base
base-reads = when-reads _ _ _ IsType (named-reads (codes "Int") sig.Int IsType.int) (when-reads _ _ _ IsType (named-reads (codes "Bool") sig.Bool IsType.bool) (named-reads (codes "String") sig.Text IsType.text))

pub type-reads : (type : Reader SigType) → Reads type IsType → (n : ℕ) → Reads (type_with type n) IsType
unfolding type_with
type-reads type T n = when-reads _ _ _ IsType (round-reads type T n) (when-reads _ _ _ IsType (list-reads type T) (when-reads _ _ _ IsType (tags-reads type T n) base-reads))

pub type_at-reads : (n : ℕ) → Reads (type_at n) IsType
unfolding type_at
type_at-reads zero = tired-reads IsType type_begins
type_at-reads (suc n) = type-reads (type_at n) (type_at-reads n) n
