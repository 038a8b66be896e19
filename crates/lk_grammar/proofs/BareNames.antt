-- An expression that is a bare name is one token.
use Rattle.std.proofs.Common.{◌≡◌, Bool, true, false, List, [], ◌∷◌, refl}
use Rattle.std.specs.Prelude.{◌||◌, not, if◌then◌else◌}
use Rattle.lk_ast.specs.declared.token.Token.{Token}
use Rattle.lk_read.specs.Kinds.{IsName}
use Rattle.lk_grammar.specs.Expressions.{IsExpr, IsAnd, IsComparison, IsJoin, IsSum, IsProduct, IsUnary, IsPostfix, IsPrimary, IsForm, IsBlock}
use Rattle.lk_parts.specs.Parts.{named, behind, is_name_end, is_form_end, form_end, is_bare_name}
use Rattle.lk_parts.specs.declared.part.Ends.{Ends}
use Rattle.lk_parts.specs.declared.part.Ends.TheVariants as ends
use Rattle.lk_parts.specs.declared.part.Part.{Part}

-- the tokens of a name
pub record IsBareName (w : List Token) (e : Part) : Type 0 where
  pub l : Token
  pub is : w ≡ l ∷ []
  pub name : IsName l
  pub makes : e ≡ named l

abbrev Named_at : List Token → Part → Type 0
Named_at w e = is_bare_name e ≡ true → IsBareName w e

behind-name : (x : Ends) → is_name_end (behind x) ≡ true → ⊥
behind-name ends.Closed e = absurd cc
behind-name ends.Name e = absurd cc
behind-name ends.Tag e = absurd cc
behind-name ends.Form e = absurd cc
behind-name ends.Compared e = absurd cc

either-name : (b : Bool) → is_name_end (if b then ends.Form else ends.Compared) ≡ true → ⊥
either-name true e = absurd cc
either-name false e = absurd cc

form_end-name : (e : Part) → is_name_end (form_end e) ≡ true → ⊥
form_end-name e h = either-name (is_form_end e.ends || not e.compared) h

block-name : {w : List Token} {e : Part} → IsBlock w e → Named_at w e
block-name (IsBlock.braces o c h s d k) e = absurd cc

primary-name : {w : List Token} {e : Part} → IsPrimary w e → Named_at w e
primary-name (IsPrimary.literal_token t h) e = absurd cc
primary-name (IsPrimary.name t h) e = record { l = t; is = refl; name = h; makes = refl }
primary-name (IsPrimary.tag t h) e = absurd cc
primary-name (IsPrimary.tag_unit t o c h k i) e = absurd cc
primary-name (IsPrimary.tag_of t o c h k d i) e = absurd cc
primary-name (IsPrimary.unit o c h k) e = absurd cc
primary-name (IsPrimary.paren o c h d k) e = absurd cc
primary-name (IsPrimary.fields o c h d k) e = absurd cc
primary-name (IsPrimary.extension o b c h d k r i) e = absurd cc
primary-name (IsPrimary.list o c h d k) e = absurd cc
primary-name (IsPrimary.block d) e = block-name d e
primary-name (IsPrimary.prefix k o c h i d j) e = absurd cc

postfix-name : {w : List Token} {e : Part} → IsPostfix w e → Named_at w e
postfix-name (IsPostfix.primary d) e = primary-name d e
postfix-name (IsPostfix.call o c d t h a k) e = absurd cc
postfix-name (IsPostfix.project p l d h k) e = absurd cc

form-name : {w : List Token} {e : Part} → IsForm w e → is_bare_name e ≡ true → ⊥
form-name (IsForm.conditional k o c l {e = e} h i a j d m b) q = form_end-name e q
form-name (IsForm.for_list k o x s c {d = d} h i j m a n b) q = form_end-name d q
form-name (IsForm.for_table k o x s t c {d = d} h i j m n p b) q = form_end-name d q
form-name (IsForm.where_holds k o c {e = e} h i a j b) q = form_end-name e q
form-name (IsForm.insert k t s {e = e} h i j b) q = form_end-name e q
form-name (IsForm.update k h o c i a j m p n) q = absurd cc
form-name (IsForm.delete k h a) q = absurd cc
form-name (IsForm.switch k o c b d h i a j m s n p) q = absurd cc
form-name (IsForm.query k h o b) q = absurd cc
form-name (IsForm.lambda k o c h i p j a b) q = absurd cc

unary-name : {w : List Token} {e : Part} → IsUnary w e → Named_at w e
unary-name (IsUnary.negation s {e = e} h d) q = absurd (behind-name e.ends q)
unary-name (IsUnary.form d) q = absurd (form-name d q)
unary-name (IsUnary.postfix d) q = postfix-name d q

product-name : {w : List Token} {e : Part} → IsProduct w e → Named_at w e
product-name (IsProduct.unary_level d) q = unary-name d q
product-name (IsProduct.product s {b = b} a t h d) q = absurd (behind-name b.ends q)

sum-name : {w : List Token} {e : Part} → IsSum w e → Named_at w e
sum-name (IsSum.product_level d) q = product-name d q
sum-name (IsSum.sum s {b = b} a t h d) q = absurd (behind-name b.ends q)

join-name : {w : List Token} {e : Part} → IsJoin w e → Named_at w e
join-name (IsJoin.sum_level d) q = sum-name d q
join-name (IsJoin.join s {b = b} a t h d) q = absurd (behind-name b.ends q)

comparison-name : {w : List Token} {e : Part} → IsComparison w e → Named_at w e
comparison-name (IsComparison.join_level d) q = join-name d q
comparison-name (IsComparison.comparison s {b = b} a t h d) q = absurd (behind-name b.ends q)

and-name : {w : List Token} {e : Part} → IsAnd w e → Named_at w e
and-name (IsAnd.comparison_level d) q = comparison-name d q
and-name (IsAnd.conjunction s {b = b} a t h d) q = absurd (behind-name b.ends q)

pub bare_name : {w : List Token} {e : Part} → IsExpr w e → is_bare_name e ≡ true → IsBareName w e
bare_name (IsExpr.and_level d) q = and-name d q
bare_name (IsExpr.disjunction s {b = b} a t h d) q = absurd (behind-name b.ends q)
