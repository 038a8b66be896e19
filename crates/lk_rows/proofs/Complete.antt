-- What the grammar derives is read, unless the room is too small: by one production after the other. What follows a type
-- isn't `->`, since that would go on with a `()`.
use Rattle.std.proofs.Common.{◌≡◌, ℕ, zero, suc, Bool, true, false, List, [], ◌∷◌, ◌++◌, Ok, refl, sym, ◌∙◌, subst, append_assoc}
use Rattle.std.specs.Prelude.{codes}
use Rattle.std.specs.Str.{bytes_eq}
use Rattle.lk_ast.specs.declared.signature.SigField.{SigField}
use Rattle.lk_ast.specs.declared.signature.SigType.{SigType}
use Rattle.lk_ast.specs.declared.signature.SigType.TheVariants as sig
use Rattle.lk_ast.specs.declared.token.Token.{Token}
use Rattle.lk_read.specs.Kinds.{IsSign, IsTag, is_sign, is_tag, is_name, is_any_tag}
use Rattle.lk_read.specs.Reader.{Reading, peek, many}
use Rattle.lk_read.proofs.Below.{◌⊑◌, bind-finds, eat-finds, give-finds, tired-finds, when-yes, when-no, many-ends, many-goes}
use Rattle.lk_read.proofs.KindLaws.{sign_sign, sign_name, tag_sign, tag_tag, tag_name, name_sign, any_tag_sign}
use Rattle.lk_read.proofs.Moves.{along, here, cons}
use Rattle.lk_rows.specs.Reading.{comma, field_with, fields_turn, fields_with, types_turn, types_with, unit_with, record_with, function_with, round_with, list_with, no_tags, some_tags_with, tags_with, named, base, type_with, type_at}
use Rattle.lk_rows.specs.Types.{field, IsType, IsTypes, IsFields, IsField}

-- ---- how types and parts begin

record Starts (ts : List Token) : Type 0 where
  close : peek (is_sign (codes ")")) ts ≡ false
  name : peek is_name ts ≡ false

a_sign_starts : (s : List ℕ) (t : Token) (ts : List Token) → bytes_eq s (codes ")") ≡ false → IsSign s t → Starts (t ∷ ts)
a_sign_starts s t ts e h = record { close = sign_sign s (codes ")") t h ∙ e; name = sign_name s t h }

a_tag_starts : (s : List ℕ) (t : Token) (ts : List Token) → IsTag s t → Starts (t ∷ ts)
a_tag_starts s t ts h = record { close = tag_sign s (codes ")") t h; name = tag_name s t h }

type_starts : {w : List Token} {ty : SigType} → IsType w ty → (z : List Token) → Starts (w ++ z)
type_starts (IsType.int t h) z = a_tag_starts (codes "Int") t z h
type_starts (IsType.bool t h) z = a_tag_starts (codes "Bool") t z h
type_starts (IsType.text t h) z = a_tag_starts (codes "String") t z h
type_starts (IsType.unit o c h k) z = a_sign_starts (codes "(") o (c ∷ z) refl h
type_starts (IsType.fields o c {w = w} h d k) z = a_sign_starts (codes "(") o ((w ++ c ∷ []) ++ z) refl h
type_starts (IsType.list o c {w = w} h d k) z = a_sign_starts (codes "[") o ((w ++ c ∷ []) ++ z) refl h
type_starts (IsType.no_tags o c h k) z = a_sign_starts (codes "[|") o (c ∷ z) refl h
type_starts (IsType.tags o c {w = w} h d k) z = a_sign_starts (codes "[|") o ((w ++ c ∷ []) ++ z) refl h
type_starts (IsType.thunk o c a {w = w} h k i d) z = a_sign_starts (codes "(") o (c ∷ a ∷ (w ++ z)) refl h
type_starts (IsType.function o c a {u = u} {w = w} h p k i d) z = a_sign_starts (codes "(") o ((u ++ c ∷ a ∷ w) ++ z) refl h

types_starts : {w : List Token} {types : List SigType} → IsTypes w types → (z : List Token) → Starts (w ++ z)
types_starts (IsTypes.first d) z = type_starts d z
types_starts (IsTypes.next {u = u} {w = w} s d h t) z = subst Starts (sym (append_assoc u (s ∷ w) z)) (types_starts d ((s ∷ w) ++ z))

abbrev Labelled : (Token → Bool) → List Token → Type 0
Labelled label ts = peek label ts ≡ true

field_starts : {label : Token → Bool} {w : List Token} {part : SigField} → IsField label w part → (z : List Token) → Labelled label (w ++ z)
field_starts (IsField.labelled l c h k d) z = h

fields_starts : {label : Token → Bool} {w : List Token} {parts : List SigField} → IsFields label w parts → (z : List Token) → Labelled label (w ++ z)
fields_starts (IsFields.one d) z = field_starts d z
fields_starts {label} (IsFields.more {u = u} {w = w} s d h t) z = subst (Labelled label) (sym (append_assoc u (s ∷ w) z)) (fields_starts d ((s ∷ w) ++ z))

no_sign : (label : Token → Bool) (s : List ℕ) → ((t : Token) → label t ≡ true → is_sign s t ≡ false) → (ts : List Token) → Labelled label ts → peek (is_sign s) ts ≡ false
no_sign label s f [] e = refl
no_sign label s f (t ∷ ts) e = f t e

-- ---- what ends a type

abbrev pub Ends : List Token → Type 0
Ends z = peek (is_sign (codes "->")) z ≡ false

ends : (s : List ℕ) (t : Token) (z : List Token) → bytes_eq s (codes "->") ≡ false → IsSign s t → Ends (t ∷ z)
ends s t z e h = sign_sign s (codes "->") t h ∙ e

-- ---- what is found

abbrev pub Type_finds : List Token → SigType → Type 0
Type_finds w ty = (n : ℕ) (z : List Token) → Ends z → type_with (type_at n) n (w ++ z) ⊑ Ok (ty, z)

abbrev Field_finds : (Token → Bool) → List Token → SigField → Type 0
Field_finds label w part = (n : ℕ) (z : List Token) → Ends z → field_with label (type_at n) (w ++ z) ⊑ Ok (part, z)

-- whatever the turns that are left give
abbrev Fields_find : (Token → Bool) → List Token → List SigField → Type 0
Fields_find label w parts = (n : ℕ) (z : List Token) (v : Reading (List SigField)) → Ends z → ((m : ℕ) → many comma (fields_turn label (type_at n)) m parts z ⊑ v) → fields_with label (type_at n) n (w ++ z) ⊑ v

abbrev Types_find : List Token → List SigType → Type 0
Types_find w types = (n : ℕ) (z : List Token) (v : Reading (List SigType)) → Ends z → ((m : ℕ) → many comma (types_turn (type_at n)) m types z ⊑ v) → types_with (type_at n) n (w ++ z) ⊑ v

pub whole : (w : List Token) (ty : SigType) → Type_finds w ty → (n : ℕ) (z : List Token) → Ends z → type_at n (w ++ z) ⊑ Ok (ty, z)
unfolding type_at
whole w ty f zero z e = tired-finds _ _
whole w ty f (suc n) z e = f n z e

-- ---- names

base_finds : (s : List ℕ) (t : Token) (ty : SigType) (n : ℕ) (z : List Token) → IsTag s t → base (t ∷ z) ⊑ Ok (ty, z) → type_with (type_at n) n (t ∷ z) ⊑ Ok (ty, z)
unfolding type_with
base_finds s t ty n z h k = when-no _ _ _ _ (tag_sign s (codes "(") t h) (when-no _ _ _ _ (tag_sign s (codes "[") t h) (when-no _ _ _ _ (tag_sign s (codes "[|") t h) k))

named_finds : (s : List ℕ) (t : Token) (ty : SigType) (z : List Token) → is_tag s t ≡ true → named s ty (t ∷ z) ⊑ Ok (ty, z)
unfolding named
named_finds s t ty z h = eat-finds _ _ _ _ h (give-finds _ _)

int_finds : (t : Token) → IsTag (codes "Int") t → Type_finds (t ∷ []) sig.Int
unfolding base
int_finds t h n z e = let is = tag_tag (codes "Int") (codes "Int") t h in
    base_finds (codes "Int") t sig.Int n z h (when-yes _ _ _ _ is (named_finds (codes "Int") t sig.Int z is))

bool_finds : (t : Token) → IsTag (codes "Bool") t → Type_finds (t ∷ []) sig.Bool
unfolding base
bool_finds t h n z e = let is = tag_tag (codes "Bool") (codes "Bool") t h in
    base_finds (codes "Bool") t sig.Bool n z h (when-no _ _ _ _ (tag_tag (codes "Bool") (codes "Int") t h) (when-yes _ _ _ _ is (named_finds (codes "Bool") t sig.Bool z is)))

text_finds : (t : Token) → IsTag (codes "String") t → Type_finds (t ∷ []) sig.Text
unfolding base
text_finds t h n z e = let is = tag_tag (codes "String") (codes "String") t h in
    base_finds (codes "String") t sig.Text n z h (when-no _ _ _ _ (tag_tag (codes "String") (codes "Int") t h) (when-no _ _ _ _ (tag_tag (codes "String") (codes "Bool") t h) (named_finds (codes "String") t sig.Text z is)))

-- ---- behind `(`

round_finds : (o : Token) (w : List Token) (ty : SigType) (n : ℕ) (z : List Token) → IsSign (codes "(") o → round_with (type_at n) n (o ∷ (w ++ z)) ⊑ Ok (ty, z) → type_with (type_at n) n (o ∷ (w ++ z)) ⊑ Ok (ty, z)
unfolding type_with
round_finds o w ty n z h k = when-yes _ _ _ _ (here (codes "(") o h refl) k

unit_finds : (o c : Token) → IsSign (codes "(") o → IsSign (codes ")") c → Type_finds (o ∷ c ∷ []) (sig.Fields [])
unfolding round_with unit_with
unit_finds o c h k n z e = let closes = here (codes ")") c k refl in
    round_finds o (c ∷ []) (sig.Fields []) n z h (eat-finds _ _ _ _ (here (codes "(") o h refl)
    (when-yes _ _ _ _ closes (eat-finds _ _ _ _ closes (when-no _ _ _ _ e (give-finds _ _)))))

thunk_finds : (o c a : Token) (w : List Token) (answer : SigType) → IsSign (codes "(") o → IsSign (codes ")") c → IsSign (codes "->") a → Type_finds w answer → Type_finds (o ∷ c ∷ a ∷ w) (sig.Fun [] answer)
unfolding round_with unit_with
thunk_finds o c a w answer h k i d n z e = let closes = here (codes ")") c k refl in let arrow = here (codes "->") a i refl in
    round_finds o (c ∷ a ∷ w) (sig.Fun [] answer) n z h (eat-finds _ _ _ _ (here (codes "(") o h refl)
    (when-yes _ _ _ _ closes (eat-finds _ _ _ _ closes (when-yes _ _ _ _ arrow (eat-finds _ _ _ _ arrow
    (bind-finds _ _ _ (whole w answer d n z e) (give-finds _ _)))))))

fields_find_all : (label : Token → Bool) (c : Token) (s : List ℕ) (w : List Token) (parts : List SigField) → Fields_find label w parts → IsSign s c → bytes_eq s (codes "->") ≡ false → bytes_eq s (codes ",") ≡ false → (n : ℕ) (z : List Token) → fields_with label (type_at n) n (w ++ c ∷ z) ⊑ Ok (parts, c ∷ z)
fields_find_all label c s w parts f k p q n z = f n (c ∷ z) (Ok (parts, c ∷ z)) (ends s c z p k) (λ m. many-ends _ _ m parts (c ∷ z) (sign_sign s (codes ",") c k ∙ q))

record_finds : (o c : Token) (w : List Token) (parts : List SigField) → IsSign (codes "(") o → IsFields is_name w parts → Fields_find is_name w parts → IsSign (codes ")") c → Type_finds (o ∷ (w ++ c ∷ [])) (sig.Fields parts)
unfolding round_with record_with
record_finds o c w parts h d f k n z e = let begins = fields_starts d (c ∷ z) in
    round_finds o (w ++ c ∷ []) (sig.Fields parts) n z h (along (round_with (type_at n) n) _ (cons o (sym (append_assoc w (c ∷ []) z)))
    (eat-finds _ _ _ _ (here (codes "(") o h refl)
    (when-no _ _ _ _ (no_sign is_name (codes ")") (name_sign (codes ")")) (w ++ c ∷ z) begins) (when-yes _ _ _ _ begins
    (bind-finds _ _ _ (fields_find_all is_name c (codes ")") w parts f k refl refl n z)
    (eat-finds _ _ _ _ (here (codes ")") c k refl) (give-finds _ _)))))))

types_find_all : (c : Token) (w : List Token) (types : List SigType) → Types_find w types → IsSign (codes ")") c → (n : ℕ) (z : List Token) → types_with (type_at n) n (w ++ c ∷ z) ⊑ Ok (types, c ∷ z)
types_find_all c w types f k n z = f n (c ∷ z) (Ok (types, c ∷ z)) (ends (codes ")") c z refl k) (λ m. many-ends _ _ m types (c ∷ z) (sign_sign (codes ")") (codes ",") c k))

function_finds : (o c a : Token) (u w : List Token) (params : List SigType) (answer : SigType) → IsSign (codes "(") o → IsTypes u params → Types_find u params → IsSign (codes ")") c → IsSign (codes "->") a → Type_finds w answer → Type_finds (o ∷ (u ++ c ∷ a ∷ w)) (sig.Fun params answer)
unfolding round_with function_with
function_finds o c a u w params answer h p f k i d n z e = let begins = types_starts p (c ∷ a ∷ (w ++ z)) in
    round_finds o (u ++ c ∷ a ∷ w) (sig.Fun params answer) n z h (along (round_with (type_at n) n) _ (cons o (sym (append_assoc u (c ∷ a ∷ w) z)))
    (eat-finds _ _ _ _ (here (codes "(") o h refl)
    (when-no _ _ _ _ begins.close (when-no _ _ _ _ begins.name
    (bind-finds _ _ _ (types_find_all c u params f k n (a ∷ (w ++ z)))
    (eat-finds _ _ _ _ (here (codes ")") c k refl) (eat-finds _ _ _ _ (here (codes "->") a i refl)
    (bind-finds _ _ _ (whole w answer d n z e) (give-finds _ _)))))))))

-- ---- lists and variants

list_finds : (o c : Token) (w : List Token) (item : SigType) → IsSign (codes "[") o → Type_finds w item → IsSign (codes "]") c → Type_finds (o ∷ (w ++ c ∷ [])) (sig.List item)
unfolding type_with list_with
list_finds o c w item h d k n z e = let opens = here (codes "[") o h refl in
    along (type_with (type_at n) n) _ (cons o (sym (append_assoc w (c ∷ []) z)))
    (when-no _ _ _ _ (sign_sign (codes "[") (codes "(") o h) (when-yes _ _ _ _ opens
    (eat-finds _ _ _ _ opens (bind-finds _ _ _ (whole w item d n (c ∷ z) (ends (codes "]") c z refl k))
    (eat-finds _ _ _ _ (here (codes "]") c k refl) (give-finds _ _))))))

tags_start : (o : Token) (w : List Token) (ty : SigType) (n : ℕ) (z : List Token) → IsSign (codes "[|") o → tags_with (type_at n) n (o ∷ (w ++ z)) ⊑ Ok (ty, z) → type_with (type_at n) n (o ∷ (w ++ z)) ⊑ Ok (ty, z)
unfolding type_with
tags_start o w ty n z h k = when-no _ _ _ _ (sign_sign (codes "[|") (codes "(") o h) (when-no _ _ _ _ (sign_sign (codes "[|") (codes "[") o h) (when-yes _ _ _ _ (here (codes "[|") o h refl) k))

no_tags_finds : (o c : Token) → IsSign (codes "[|") o → IsSign (codes "|]") c → Type_finds (o ∷ c ∷ []) (sig.Tags [])
unfolding tags_with no_tags
no_tags_finds o c h k n z e = let closes = here (codes "|]") c k refl in
    tags_start o (c ∷ []) (sig.Tags []) n z h (eat-finds _ _ _ _ (here (codes "[|") o h refl) (when-yes _ _ _ _ closes (eat-finds _ _ _ _ closes (give-finds _ _))))

tags_finds : (o c : Token) (w : List Token) (parts : List SigField) → IsSign (codes "[|") o → IsFields is_any_tag w parts → Fields_find is_any_tag w parts → IsSign (codes "|]") c → Type_finds (o ∷ (w ++ c ∷ [])) (sig.Tags parts)
unfolding tags_with some_tags_with
tags_finds o c w parts h d f k n z e = let begins = fields_starts d (c ∷ z) in
    tags_start o (w ++ c ∷ []) (sig.Tags parts) n z h (along (tags_with (type_at n) n) _ (cons o (sym (append_assoc w (c ∷ []) z)))
    (eat-finds _ _ _ _ (here (codes "[|") o h refl)
    (when-no _ _ _ _ (no_sign is_any_tag (codes "|]") (any_tag_sign (codes "|]")) (w ++ c ∷ z) begins)
    (bind-finds _ _ _ (fields_find_all is_any_tag c (codes "|]") w parts f k refl refl n z)
    (eat-finds _ _ _ _ (here (codes "|]") c k refl) (give-finds _ _))))))

-- ---- parts

labelled_finds : (label : Token → Bool) (l c : Token) (w : List Token) (ty : SigType) → label l ≡ true → IsSign (codes ":") c → Type_finds w ty → Field_finds label (l ∷ c ∷ w) (field l ty)
unfolding field_with
labelled_finds label l c w ty h k d n z e = eat-finds _ _ _ _ h (eat-finds _ _ _ _ (here (codes ":") c k refl) (bind-finds _ _ _ (whole w ty d n z e) (give-finds _ _)))

one_finds : (label : Token → Bool) (w : List Token) (part : SigField) → Field_finds label w part → Fields_find label w (part ∷ [])
unfolding fields_with
one_finds label w part f n z v e k = bind-finds _ _ _ (f n z e) (k n)

more_finds : (label : Token → Bool) (s : Token) (u w : List Token) (parts : List SigField) (part : SigField) → Fields_find label u parts → IsSign (codes ",") s → Field_finds label w part → Fields_find label (u ++ s ∷ w) (parts ++ part ∷ [])
unfolding fields_turn
more_finds label s u w parts part p h f n z v e more = let sep = here (codes ",") s h refl in
    along (fields_with label (type_at n) n) v (sym (append_assoc u (s ∷ w) z))
    (p n (s ∷ (w ++ z)) v (ends (codes ",") s (w ++ z) refl h)
    (many-goes comma _ parts (s ∷ (w ++ z)) sep (eat-finds _ _ _ _ sep (bind-finds _ _ _ (f n z e) (give-finds _ _))) more))

first_finds : (w : List Token) (ty : SigType) → Type_finds w ty → Types_find w (ty ∷ [])
unfolding types_with
first_finds w ty f n z v e k = bind-finds _ _ _ (whole w ty f n z e) (k n)

next_finds : (s : Token) (u w : List Token) (types : List SigType) (ty : SigType) → Types_find u types → IsSign (codes ",") s → Type_finds w ty → Types_find (u ++ s ∷ w) (types ++ ty ∷ [])
unfolding types_turn
next_finds s u w types ty p h f n z v e more = let sep = here (codes ",") s h refl in
    along (types_with (type_at n) n) v (sym (append_assoc u (s ∷ w) z))
    (p n (s ∷ (w ++ z)) v (ends (codes ",") s (w ++ z) refl h)
    (many-goes comma _ types (s ∷ (w ++ z)) sep (eat-finds _ _ _ _ sep (bind-finds _ _ _ (whole w ty f n z e) (give-finds _ _))) more))

-- ---- every derivation

mutual
  pub type_finds : {w : List Token} {ty : SigType} → IsType w ty → Type_finds w ty
  type_finds (IsType.int t h) = int_finds t h
  type_finds (IsType.bool t h) = bool_finds t h
  type_finds (IsType.text t h) = text_finds t h
  type_finds (IsType.unit o c h k) = unit_finds o c h k
  type_finds (IsType.fields o c h d k) = record_finds o c _ _ h d (fields_find d) k
  type_finds (IsType.list o c h d k) = list_finds o c _ _ h (type_finds d) k
  type_finds (IsType.no_tags o c h k) = no_tags_finds o c h k
  type_finds (IsType.tags o c h d k) = tags_finds o c _ _ h d (fields_find d) k
  type_finds (IsType.thunk o c a h k i d) = thunk_finds o c a _ _ h k i (type_finds d)
  type_finds (IsType.function o c a h p k i d) = function_finds o c a _ _ _ _ h p (types_find p) k i (type_finds d)

  types_find : {w : List Token} {types : List SigType} → IsTypes w types → Types_find w types
  types_find (IsTypes.first d) = first_finds _ _ (type_finds d)
  types_find (IsTypes.next s p h d) = next_finds s _ _ _ _ (types_find p) h (type_finds d)

  fields_find : {label : Token → Bool} {w : List Token} {parts : List SigField} → IsFields label w parts → Fields_find label w parts
  fields_find (IsFields.one d) = one_finds _ _ _ (field_finds d)
  fields_find (IsFields.more s p h d) = more_finds _ s _ _ _ _ (fields_find p) h (field_finds d)

  field_finds : {label : Token → Bool} {w : List Token} {part : SigField} → IsField label w part → Field_finds label w part
  field_finds (IsField.labelled l c h k d) = labelled_finds _ l c _ _ h k (type_finds d)
