-- What is printed of the types of signatures.
use Rattle.std.proofs.Common.{◌≡◌, Bool, true, List, [], ◌∷◌, ◌++◌, map, refl, sym, ap, subst, ◌∙◌}
use Rattle.std.specs.Prelude.{ℕ, codes}
use Rattle.lk_ast.specs.declared.place.Span.{Span}
use Rattle.lk_ast.specs.declared.place.Word.{Word as Named}
use Rattle.lk_ast.specs.declared.signature.SigField.{SigField, fold-SigField, fold_out-SigField}
use Rattle.lk_ast.specs.declared.signature.SigType.{SigType, roll-SigType}
use Rattle.lk_ast.specs.declared.signature.SigType.TheFolds.{fold-roll-SigType, map-SigType}
use Rattle.lk_ast.specs.declared.signature.SigType.TheOpen.{SigType-F}
use Rattle.lk_ast.specs.declared.signature.SigType.TheVariants as sig
use Rattle.lk_ast.specs.declared.token.Token.{Token}
use Rattle.lk_ast.specs.declared.token.TokenKind.{TokenKind}
use Rattle.lk_ast.specs.declared.token.TokenKind.TheVariants.{Word, Tag, Sign}
use Rattle.lk_read.specs.Kinds.{is_name, is_any_tag, word_of}
use Rattle.lk_rows.specs.Types.{field, IsType, IsTypes, IsFields, IsField}
use Rattle.lk_print.specs.Bare.{bare_word, bare_type, bare_type_of, bare_field_of}
use Rattle.lk_print.specs.Good.{IsGood}
use Rattle.lk_print.specs.Printed.{Kinds, separated, in_round, in_square, type_form, field_form, print_field, type_of}
use Rattle.lk_print.proofs.Expressions.{GoodTokens, first, rest, left, right, name_word, tag_word}
use Rattle.lk_print.proofs.Goods.{Good, constant, good_append, good_round, good_square, good_separated}
use Rattle.lk_print.proofs.Lists.{Each, each_more, ReadsOne, commas}
use Rattle.lk_print.proofs.Primaries.{named_token, tag_token}
use Rattle.lk_print.proofs.Spelled.{Spelt, token, spelt_none, spelt_cons, spelt_append, spelt_so, spelt_as, spelt_round}

-- ---- level by level

abbrev bare_field : SigField → SigField
bare_field = fold-SigField SigType SigField bare_type_of bare_field_of

bare_field_is : (p : SigField) → bare_field p ≡ record { label = bare_word p.label; ty = bare_type p.ty }
bare_field_is p = fold_out-SigField SigType SigField bare_type_of bare_field_of p

print_field_is : (p : SigField) → print_field p ≡ (p.label, type_of p.ty)
print_field_is p = fold_out-SigField Kinds (Named × Kinds) type_form field_form p

pub printed_is : (ty : SigType) (l : SigType-F SigType SigField) → roll-SigType l ≡ ty → type_of ty ≡ type_form (map-SigType SigType SigField Kinds (Named × Kinds) type_of print_field l)
printed_is ty l rolls = ap type_of (sym rolls) ∙ fold-roll-SigType Kinds (Named × Kinds) type_form field_form l

bare_is : (ty : SigType) (l : SigType-F SigType SigField) → roll-SigType l ≡ ty → bare_type ty ≡ roll-SigType (map-SigType SigType SigField SigType SigField bare_type bare_field l)
bare_is ty l rolls = ap bare_type (sym rolls) ∙ fold-roll-SigType SigType SigField bare_type_of bare_field_of l

-- types whose parts are the same but for their places
same_types : (s t : SigType) (k l : SigType-F SigType SigField) → roll-SigType k ≡ s → roll-SigType l ≡ t
    → map-SigType SigType SigField SigType SigField bare_type bare_field k ≡ map-SigType SigType SigField SigType SigField bare_type bare_field l → bare_type s ≡ bare_type t
same_types s t k l rolls_s rolls_t same = bare_is s k rolls_s ∙ ap roll-SigType same ∙ sym (bare_is t l rolls_t)

-- what is printed of this type is read as it
pub record KeepsType (ty : SigType) : Type 0 where
  pub type : Spelt (type_of ty) (ReadsOne IsType bare_type (bare_type ty))
  pub good : Good (type_of ty)

by_kinds : (ty : SigType) (kinds : Kinds) → type_of ty ≡ kinds → Good kinds → Spelt kinds (ReadsOne IsType bare_type (bare_type ty)) → KeepsType ty
by_kinds ty kinds is g r = record { type = spelt_as is r; good = subst Good (sym is) g }

int_kept : KeepsType sig.Int
int_kept = by_kinds sig.Int (Tag (codes "Int") ∷ []) (printed_is sig.Int SigType-F.Int sig.rolls-Int) (constant refl Each.none) (spelt_cons (λ at. spelt_none (record { x = sig.Int; is = IsType.int (token at (Tag (codes "Int"))) refl; same = refl })))

bool_kept : KeepsType sig.Bool
bool_kept = by_kinds sig.Bool (Tag (codes "Bool") ∷ []) (printed_is sig.Bool SigType-F.Bool sig.rolls-Bool) (constant refl Each.none) (spelt_cons (λ at. spelt_none (record { x = sig.Bool; is = IsType.bool (token at (Tag (codes "Bool"))) refl; same = refl })))

text_kept : KeepsType sig.Text
text_kept = by_kinds sig.Text (Tag (codes "String") ∷ []) (printed_is sig.Text SigType-F.Text sig.rolls-Text) (constant refl Each.none) (spelt_cons (λ at. spelt_none (record { x = sig.Text; is = IsType.text (token at (Tag (codes "String"))) refl; same = refl })))

list_kept : (item : SigType) → KeepsType item → KeepsType (sig.List item)
list_kept item r = by_kinds (sig.List item) (in_square (type_of item)) (printed_is (sig.List item) (SigType-F.List item) (sig.rolls-List item)) (good_square _ r.good) (spelt_cons (λ o. spelt_append (type_of item) r.type (λ u a. spelt_cons (λ c. spelt_none (record {
  x = sig.List a.x;
  is = IsType.list (token o (Sign (codes "["))) (token c (Sign (codes "]"))) refl a.is refl;
  same = same_types (sig.List a.x) (sig.List item) (SigType-F.List a.x) (SigType-F.List item) (sig.rolls-List a.x) (sig.rolls-List item) (ap (λ z. SigType-F.List z) a.same);
})))))

-- ---- fields and tags

pub record KeepsField (label : Token → Bool) (kind : List ℕ → TokenKind) (p : SigField) : Type 0 where
  pub test : (at : Span) → label (token at (kind p.label.text)) ≡ true
  pub good : IsGood (kind p.label.text)
  pub ty : KeepsType p.ty

abbrev field_kinds : (List ℕ → TokenKind) → SigField → Kinds
field_kinds kind p = kind p.label.text ∷ Sign (codes ":") ∷ type_of p.ty

module _ (label : Token → Bool) (kind : List ℕ → TokenKind) (same_text : (at : Span) (x : Named) → bare_word (word_of (token at (kind x.text))) ≡ bare_word x) where
  one_field : (p : SigField) → KeepsField label kind p → Spelt (field_kinds kind p) (ReadsOne (IsField label) bare_field (bare_field p))
  one_field p r = spelt_cons (λ l. spelt_cons (λ c. spelt_so r.ty.type (λ w a. record {
    x = field (token l (kind p.label.text)) a.x;
    is = IsField.labelled (token l (kind p.label.text)) (token c (Sign (codes ":"))) (r.test l) refl a.is;
    same = bare_field_is (field (token l (kind p.label.text)) a.x) ∙ (λ i. record { label = same_text l p.label i; ty = a.same i }) ∙ sym (bare_field_is p);
  })))

  each_field : (ps : List SigField) → Each (KeepsField label kind) ps → Each (λ p. Spelt (field_kinds kind p) (ReadsOne (IsField label) bare_field (bare_field p))) ps
  each_field [] Each.none = Each.none
  each_field (p ∷ ps) (Each.also r rs) = Each.also (one_field p r) (each_field ps rs)

  fields_spelt : (p : SigField) (ps : List SigField) → Each (KeepsField label kind) (p ∷ ps) → Spelt (separated (map (field_kinds kind) (p ∷ ps))) (ReadsOne (IsFields label) (map bare_field) (map bare_field (p ∷ ps)))
  fields_spelt p ps each = commas (IsField label) (IsFields label) (λ w x d. IsFields.one d) (λ u w s xs x d is e. IsFields.more s d is e) bare_field bare_field (field_kinds kind) p ps (each_field (p ∷ ps) each)

  each_field_good : (ps : List SigField) → Each (KeepsField label kind) ps → Each Good (map (field_kinds kind) ps)
  each_field_good [] Each.none = Each.none
  each_field_good (p ∷ ps) (Each.also r rs) = Each.also (Each.also r.good (constant refl r.ty.good)) (each_field_good ps rs)

  fields_good : (ps : List SigField) → Each (KeepsField label kind) ps → Good (separated (map (field_kinds kind) ps))
  fields_good ps each = good_separated _ (each_field_good ps each)

pub shown_fields : (kind : List ℕ → TokenKind) (ps : List SigField) → map (λ (q : Named × Kinds). kind q.0.text ∷ Sign (codes ":") ∷ q.1) (map print_field ps) ≡ map (field_kinds kind) ps
shown_fields kind [] = refl
shown_fields kind (p ∷ ps) = (λ i. (ap (λ (q : Named × Kinds). kind q.0.text ∷ Sign (codes ":") ∷ q.1) (print_field_is p)) i ∷ shown_fields kind ps i)

name_text : (at : Span) (x : Named) → bare_word (word_of (token at (Word x.text))) ≡ bare_word x
unfolding word_of
name_text at x = refl

tag_text : (at : Span) (x : Named) → bare_word (word_of (token at (Tag x.text))) ≡ bare_word x
unfolding word_of
tag_text at x = refl

record_kept : (ps : List SigField) → Each (KeepsField is_name (λ x. Word x)) ps → KeepsType (sig.Fields ps)
record_kept [] each = by_kinds (sig.Fields []) (in_round []) (printed_is (sig.Fields []) (SigType-F.Fields []) (sig.rolls-Fields [])) (good_round [] Each.none) (spelt_cons (λ o. spelt_cons (λ c. spelt_none (record { x = sig.Fields []; is = IsType.unit (token o (Sign (codes "("))) (token c (Sign (codes ")"))) refl refl; same = refl }))))
record_kept (p ∷ ps) each = by_kinds (sig.Fields (p ∷ ps)) (in_round (separated (map (field_kinds (λ x. Word x)) (p ∷ ps)))) (printed_is (sig.Fields (p ∷ ps)) (SigType-F.Fields (p ∷ ps)) (sig.rolls-Fields (p ∷ ps)) ∙ ap (λ z. in_round (separated z)) (shown_fields (λ x. Word x) (p ∷ ps))) (good_round _ (fields_good is_name (λ x. Word x) name_text (p ∷ ps) each)) (spelt_cons (λ o. spelt_append _ (fields_spelt is_name (λ x. Word x) name_text p ps each) (λ u m. spelt_cons (λ c. spelt_none (record {
  x = sig.Fields m.x;
  is = IsType.fields (token o (Sign (codes "("))) (token c (Sign (codes ")"))) refl m.is refl;
  same = same_types (sig.Fields m.x) (sig.Fields (p ∷ ps)) (SigType-F.Fields m.x) (SigType-F.Fields (p ∷ ps)) (sig.rolls-Fields m.x) (sig.rolls-Fields (p ∷ ps)) (ap (λ z. SigType-F.Fields z) m.same);
})))))

variant_kept : (ps : List SigField) → Each (KeepsField is_any_tag (λ x. Tag x)) ps → KeepsType (sig.Tags ps)
variant_kept [] each = by_kinds (sig.Tags []) (Sign (codes "[|") ∷ Sign (codes "|]") ∷ []) (printed_is (sig.Tags []) (SigType-F.Tags []) (sig.rolls-Tags [])) (constant refl (constant refl Each.none)) (spelt_cons (λ o. spelt_cons (λ c. spelt_none (record { x = sig.Tags []; is = IsType.no_tags (token o (Sign (codes "[|"))) (token c (Sign (codes "|]"))) refl refl; same = refl }))))
variant_kept (p ∷ ps) each = by_kinds (sig.Tags (p ∷ ps)) (Sign (codes "[|") ∷ (separated (map (field_kinds (λ x. Tag x)) (p ∷ ps)) ++ Sign (codes "|]") ∷ [])) (printed_is (sig.Tags (p ∷ ps)) (SigType-F.Tags (p ∷ ps)) (sig.rolls-Tags (p ∷ ps)) ∙ ap (λ z. Sign (codes "[|") ∷ (separated z ++ Sign (codes "|]") ∷ [])) (shown_fields (λ x. Tag x) (p ∷ ps))) (constant refl (good_append _ (fields_good is_any_tag (λ x. Tag x) tag_text (p ∷ ps) each) (constant refl Each.none))) (spelt_cons (λ o. spelt_append _ (fields_spelt is_any_tag (λ x. Tag x) tag_text p ps each) (λ u m. spelt_cons (λ c. spelt_none (record {
  x = sig.Tags m.x;
  is = IsType.tags (token o (Sign (codes "[|"))) (token c (Sign (codes "|]"))) refl m.is refl;
  same = same_types (sig.Tags m.x) (sig.Tags (p ∷ ps)) (SigType-F.Tags m.x) (SigType-F.Tags (p ∷ ps)) (sig.rolls-Tags m.x) (sig.rolls-Tags (p ∷ ps)) (ap (λ z. SigType-F.Tags z) m.same);
})))))

-- ---- functions

each_type : (ts : List SigType) → Each KeepsType ts → Each (λ ty. Spelt (type_of ty) (ReadsOne IsType bare_type (bare_type ty))) ts
each_type [] Each.none = Each.none
each_type (ty ∷ ts) (Each.also r rs) = Each.also r.type (each_type ts rs)

each_type_good : (ts : List SigType) → Each KeepsType ts → Each Good (map type_of ts)
each_type_good [] Each.none = Each.none
each_type_good (ty ∷ ts) (Each.also r rs) = Each.also r.good (each_type_good ts rs)

function_kept : (ps : List SigType) (answer : SigType) → Each KeepsType ps → KeepsType answer → KeepsType (sig.Fun ps answer)
function_kept [] answer each r = by_kinds (sig.Fun [] answer) (in_round [] ++ Sign (codes "->") ∷ type_of answer) (printed_is (sig.Fun [] answer) (SigType-F.Fun [] answer) (sig.rolls-Fun [] answer)) (constant refl (constant refl (constant refl r.good))) (spelt_cons (λ o. spelt_cons (λ c. spelt_cons (λ a. spelt_so r.type (λ w b. record {
  x = sig.Fun [] b.x;
  is = IsType.thunk (token o (Sign (codes "("))) (token c (Sign (codes ")"))) (token a (Sign (codes "->"))) refl refl refl b.is;
  same = same_types (sig.Fun [] b.x) (sig.Fun [] answer) (SigType-F.Fun [] b.x) (SigType-F.Fun [] answer) (sig.rolls-Fun [] b.x) (sig.rolls-Fun [] answer) (ap (λ z. SigType-F.Fun [] z) b.same);
})))))
function_kept (p ∷ ps) answer each r = by_kinds (sig.Fun (p ∷ ps) answer) (in_round (separated (map type_of (p ∷ ps))) ++ Sign (codes "->") ∷ type_of answer) (printed_is (sig.Fun (p ∷ ps) answer) (SigType-F.Fun (p ∷ ps) answer) (sig.rolls-Fun (p ∷ ps) answer)) (good_append (in_round (separated (map type_of (p ∷ ps)))) (good_round _ (good_separated _ (each_type_good (p ∷ ps) each))) (constant refl r.good)) (spelt_round (separated (map type_of (p ∷ ps))) (commas IsType IsTypes (λ w x d. IsTypes.first d) (λ u w s xs x d is e. IsTypes.next s d is e) bare_type bare_type type_of p ps (each_type (p ∷ ps) each)) (λ o c u m. spelt_cons (λ a. spelt_so r.type (λ w b. record {
  x = sig.Fun m.x b.x;
  is = IsType.function (token o (Sign (codes "("))) (token c (Sign (codes ")"))) (token a (Sign (codes "->"))) refl m.is refl refl b.is;
  same = same_types (sig.Fun m.x b.x) (sig.Fun (p ∷ ps) answer) (SigType-F.Fun m.x b.x) (SigType-F.Fun (p ∷ ps) answer) (sig.rolls-Fun m.x b.x) (sig.rolls-Fun (p ∷ ps) answer) (λ i. SigType-F.Fun (m.same i) (b.same i));
}))))

-- ---- every production

-- what a token that passes the test of a label is written as
abbrev Labels : (Token → Bool) → (List ℕ → TokenKind) → Type 0
Labels label kind = (t : Token) → IsGood t.kind → label t ≡ true → ((at : Span) → label (token at (kind (word_of t).text)) ≡ true) × IsGood (kind (word_of t).text)

names_label : Labels is_name (λ x. Word x)
names_label t g h = let n = name_word t g h in (λ at. named_token at (word_of t).text n, n.good)

tags_label : Labels is_any_tag (λ x. Tag x)
tags_label t g h = (λ at. tag_token at (word_of t).text, tag_word t g h)

mutual
  pub type_kept : {w : List Token} {ty : SigType} → GoodTokens w → IsType w ty → KeepsType ty
  type_kept g (IsType.int t h) = int_kept
  type_kept g (IsType.bool t h) = bool_kept
  type_kept g (IsType.text t h) = text_kept
  type_kept g (IsType.unit o c h i) = record_kept [] Each.none
  type_kept g (IsType.fields o c {w} {parts} h d i) = record_kept parts (fields_kept is_name (λ x. Word x) names_label (left w _ (rest g)) d)
  type_kept g (IsType.list o c {w} {item} h d i) = list_kept item (type_kept (left w _ (rest g)) d)
  type_kept g (IsType.no_tags o c h i) = variant_kept [] Each.none
  type_kept g (IsType.tags o c {w} {parts} h d i) = variant_kept parts (fields_kept is_any_tag (λ x. Tag x) tags_label (left w _ (rest g)) d)
  type_kept g (IsType.thunk o c a {answer} h i j d) = function_kept [] answer Each.none (type_kept (rest (rest (rest g))) d)
  type_kept g (IsType.function o c a {u} {params} {answer} h d i j e) = function_kept params answer (types_kept (left u _ (rest g)) d) (type_kept (rest (rest (right u _ (rest g)))) e)

  types_kept : {w : List Token} {ts : List SigType} → GoodTokens w → IsTypes w ts → Each KeepsType ts
  types_kept g (IsTypes.first d) = Each.also (type_kept g d) Each.none
  types_kept g (IsTypes.next {u} s {types} {ty} d h e) = each_more types ty (types_kept (left u _ g) d) (type_kept (rest (right u _ g)) e)

  fields_kept : {w : List Token} {ps : List SigField} (label : Token → Bool) (kind : List ℕ → TokenKind) → Labels label kind → GoodTokens w → IsFields label w ps → Each (KeepsField label kind) ps
  fields_kept label kind by g (IsFields.one d) = Each.also (field_kept label kind by g d) Each.none
  fields_kept label kind by g (IsFields.more {u} s {parts} {part} d h e) = each_more parts part (fields_kept label kind by (left u _ g) d) (field_kept label kind by (rest (right u _ g)) e)

  field_kept : {w : List Token} {p : SigField} (label : Token → Bool) (kind : List ℕ → TokenKind) → Labels label kind → GoodTokens w → IsField label w p → KeepsField label kind p
  field_kept label kind by g (IsField.labelled l c {ty} h i d) = record { test = (by l (first g) h).0; good = (by l (first g) h).1; ty = type_kept (rest (rest g)) d }
