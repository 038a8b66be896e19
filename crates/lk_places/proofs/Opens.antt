-- Where what is called begins: with the first of its tokens.
use Rattle.std.proofs.Common.{◌≡◌, ℕ, List, ◌∷◌, ◌++◌, refl}
use Rattle.lk_ast.specs.declared.token.Token.{Token}
use Rattle.lk_grammar.specs.Expressions.{IsPostfix, IsPrimary, IsBlock}
use Rattle.lk_parts.specs.declared.part.Part.{Part}
use Rattle.lk_types.specs.Rows.{Label}
use Rattle.lk_places.proofs.Finds.{Finds, finds_before, finds_use}
use Rattle.lk_places.proofs.Walks.{Walk, with_use}

-- tokens the first of which begins here
pub data Opens : ℕ → List Token → Type 0 where
  opens : (t : Token) {n : ℕ} (w : List Token) → n ≡ t.span.start → Opens n (t ∷ w)

opens_append : {n : ℕ} {u : List Token} (v : List Token) → Opens n u → Opens n (u ++ v)
opens_append v (Opens.opens t w is) = Opens.opens t (w ++ v) is

block_opens : {w : List Token} {e : Part} → IsBlock w e → Opens e.from w
block_opens (IsBlock.braces o c h d i j) = Opens.opens o _ refl

primary_opens : {w : List Token} {e : Part} → IsPrimary w e → Opens e.from w
primary_opens (IsPrimary.literal_token t is) = Opens.opens t _ refl
primary_opens (IsPrimary.name t h) = Opens.opens t _ refl
primary_opens (IsPrimary.tag t h) = Opens.opens t _ refl
primary_opens (IsPrimary.tag_unit t o c h i j) = Opens.opens t _ refl
primary_opens (IsPrimary.tag_of t o c h i d j) = Opens.opens t _ refl
primary_opens (IsPrimary.unit o c h i) = Opens.opens o _ refl
primary_opens (IsPrimary.paren o c h d i) = Opens.opens o _ refl
primary_opens (IsPrimary.fields o c h d i) = Opens.opens o _ refl
primary_opens (IsPrimary.extension o b c h d i j l) = Opens.opens o _ refl
primary_opens (IsPrimary.list o c h d i) = Opens.opens o _ refl
primary_opens (IsPrimary.block d) = block_opens d
primary_opens (IsPrimary.prefix k o c is h d i) = Opens.opens k _ refl

pub postfix_opens : {w : List Token} {e : Part} → IsPostfix w e → Opens e.from w
postfix_opens (IsPostfix.primary d) = primary_opens d
postfix_opens (IsPostfix.call o c d h i j l) = opens_append _ (postfix_opens d)
postfix_opens (IsPostfix.project s l d h i) = opens_append _ (postfix_opens d)

-- a use that begins with the first of these tokens, and what is found behind them
pub finds_call : (g : Label) {site : ℕ} {u : List Token} {walk : Walk} {names : List ℕ} {w : List Token} → Opens site u → Finds walk names w → Finds (with_use g site walk) names (u ++ w)
finds_call g {site} (Opens.opens t v is) d = finds_use t g site is (finds_before v d)
