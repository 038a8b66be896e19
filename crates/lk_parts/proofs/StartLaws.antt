-- What a token begins, and which tests of tokens it then fails.
use Rattle.std.proofs.Common.{◌≡◌, ℕ, zero, suc, Bool, true, false, List, [], ◌∷◌, ◌++◌, refl, sym, ap, ◌∙◌, subst, inl, inr, append_assoc}
use Rattle.std.specs.Prelude.{not, nat_eq, if◌then◌else◌}
use Rattle.std.proofs.lemmas.Bool.{cases_Bool, eqb-true, eq-eqb}
use Rattle.lk_ast.specs.declared.token.Token.{Token}
use Rattle.lk_ast.specs.declared.token.TokenKind.{TokenKind}
use Rattle.lk_ast.specs.declared.token.TokenKind.TheVariants.{Word, Tag, Int, Text, Sign}
use Rattle.lk_read.specs.Keywords.{is_keyword}
use Rattle.lk_read.specs.Kinds.{is_name_kind, is_any_tag_kind, is_sign, is_word, is_name, is_any_tag, IsSign, IsWord, IsName, IsAnyTag}
use Rattle.lk_read.specs.Reader.{peek}
use Rattle.lk_read.proofs.KindLaws.{a_sign, a_word}
use Rattle.lk_parts.specs.Starts.{start_of_keyword, start_of_sign, start_of_kind, start_of, number, begins}
use Rattle.lk_parts.specs.declared.starts.Start.{Start}
use Rattle.lk_parts.specs.declared.starts.Start.TheVariants as start

-- ---- the start of a token

from_number : ℕ → Start
from_number zero = start.Literal
from_number (suc zero) = start.Name
from_number (suc (suc zero)) = start.Tag
from_number (suc (suc (suc zero))) = start.Round
from_number (suc (suc (suc (suc zero)))) = start.Square
from_number (suc (suc (suc (suc (suc zero))))) = start.Brace
from_number (suc (suc (suc (suc (suc (suc zero)))))) = start.Prefix
from_number (suc (suc (suc (suc (suc (suc (suc zero))))))) = start.Minus
from_number (suc (suc (suc (suc (suc (suc (suc (suc zero)))))))) = start.Form
from_number (suc (suc (suc (suc (suc (suc (suc (suc (suc n))))))))) = start.Other

numbered : (s : Start) → from_number (number s) ≡ s
unfolding from_number
numbered start.Literal = refl
numbered start.Name = refl
numbered start.Tag = refl
numbered start.Round = refl
numbered start.Square = refl
numbered start.Brace = refl
numbered start.Prefix = refl
numbered start.Minus = refl
numbered start.Form = refl
numbered start.Other = refl

pub begins_start : (wanted : Start) (t : Token) → begins wanted t ≡ true → start_of t ≡ wanted
unfolding begins
begins_start wanted t e = sym (numbered (start_of t)) ∙ ap from_number (eqb-true (number (start_of t)) (number wanted) e) ∙ numbered wanted

pub sign_start : (s : List ℕ) (t : Token) → IsSign s t → start_of t ≡ start_of_sign s
sign_start s t h = ap start_of_kind h

pub word_start : (w : List ℕ) (t : Token) → IsWord w t → start_of t ≡ start_of_kind (Word w)
word_start w t h = ap start_of_kind h

unkept : (b : Bool) (s : Start) → not b ≡ true → (if b then s else start.Name) ≡ start.Name
unkept true s e = absurd cc
unkept false s e = refl

name_start_kind : (k : TokenKind) → is_name_kind k ≡ true → start_of_kind k ≡ start.Name
name_start_kind (Word w) e = unkept (is_keyword w) (start_of_keyword w) e
name_start_kind (Tag w) e = absurd cc
name_start_kind (Int w) e = absurd cc
name_start_kind (Text w) e = absurd cc
name_start_kind (Sign w) e = absurd cc

pub name_start : (t : Token) → IsName t → start_of t ≡ start.Name
unfolding is_name
name_start t e = name_start_kind t.kind e

tag_start_kind : (k : TokenKind) → is_any_tag_kind k ≡ true → start_of_kind k ≡ start.Tag
tag_start_kind (Word w) e = absurd cc
tag_start_kind (Tag w) e = refl
tag_start_kind (Int w) e = absurd cc
tag_start_kind (Text w) e = absurd cc
tag_start_kind (Sign w) e = absurd cc

pub tag_start : (t : Token) → IsAnyTag t → start_of t ≡ start.Tag
unfolding is_any_tag
tag_start t e = tag_start_kind t.kind e

-- ---- tests that fail

-- a token of one start passes no test of another
pub fails : (test : Token → Bool) (other : Start) (t : Token) (s : Start) → ((u : Token) → test u ≡ true → start_of u ≡ other) → start_of t ≡ s → nat_eq (number s) (number other) ≡ false → test t ≡ false
fails test other t s means e differ = elim (cases_Bool (test t)) [
  | inl k ↦
      let same : s ≡ other = sym e ∙ means t k in
      let itself : nat_eq (number s) (number other) ≡ true = ap (λ (x : Start). nat_eq (number x) (number other)) same ∙ eq-eqb (number other) (number other) refl in
      let bad : false ≡ true = sym differ ∙ itself in absurd cc
  | inr k ↦ k
]

pub not_begins : (wanted : Start) (t : Token) (s : Start) → start_of t ≡ s → nat_eq (number s) (number wanted) ≡ false → begins wanted t ≡ false
not_begins wanted t s e d = fails (begins wanted) wanted t s (begins_start wanted) e d

pub not_name : (t : Token) (s : Start) → start_of t ≡ s → nat_eq (number s) 1 ≡ false → is_name t ≡ false
not_name t s e d = fails is_name start.Name t s name_start e d

pub not_tag : (t : Token) (s : Start) → start_of t ≡ s → nat_eq (number s) 2 ≡ false → is_any_tag t ≡ false
not_tag t s e d = fails is_any_tag start.Tag t s tag_start e d

pub not_sign : (sign : List ℕ) (t : Token) (s : Start) → start_of t ≡ s → nat_eq (number s) (number (start_of_sign sign)) ≡ false → is_sign sign t ≡ false
not_sign sign t s e d = fails (is_sign sign) (start_of_sign sign) t s (λ u k. sign_start sign u ((a_sign sign).means u k)) e d

-- ---- lists of tokens that begin so

abbrev pub is_primary_start : Start → Bool
is_primary_start start.Minus = false
is_primary_start start.Form = false
is_primary_start start.Other = false
is_primary_start s = true

abbrev pub is_expr_start : Start → Bool
is_expr_start start.Other = false
is_expr_start s = true

-- the first token is such a start
abbrev pub Begins : (Start → Bool) → List Token → Type 0
Begins test ts = peek (λ (t : Token). test (start_of t)) ts ≡ true

expr_start : (s : Start) → is_primary_start s ≡ true → is_expr_start s ≡ true
expr_start start.Minus e = absurd cc
expr_start start.Form e = absurd cc
expr_start start.Other e = absurd cc
expr_start start.Literal e = refl
expr_start start.Name e = refl
expr_start start.Tag e = refl
expr_start start.Round e = refl
expr_start start.Square e = refl
expr_start start.Brace e = refl
expr_start start.Prefix e = refl

pub begins_expr : (ts : List Token) → Begins is_primary_start ts → Begins is_expr_start ts
begins_expr [] e = absurd cc
begins_expr (t ∷ ts) e = expr_start (start_of t) e

pub first_not : (test : Start → Bool) (p : Token → Bool) (its : Start) (ts : List Token) → ((u : Token) → p u ≡ true → start_of u ≡ its) → Begins test ts → test its ≡ false → peek p ts ≡ false
first_not test p its [] means e d = refl
first_not test p its (t ∷ ts) means e d = elim (cases_Bool (p t)) [
  | inl k ↦ let bad : true ≡ false = sym e ∙ ap test (means t k) ∙ d in absurd cc
  | inr k ↦ k
]

pub first_not_sign : (test : Start → Bool) (s : List ℕ) (ts : List Token) → Begins test ts → test (start_of_sign s) ≡ false → peek (is_sign s) ts ≡ false
first_not_sign test s ts e d = first_not test (is_sign s) (start_of_sign s) ts (λ u k. sign_start s u ((a_sign s).means u k)) e d

pub first_not_word : (test : Start → Bool) (w : List ℕ) (ts : List Token) → Begins test ts → test (start_of_kind (Word w)) ≡ false → peek (is_word w) ts ≡ false
first_not_word test w ts e d = first_not test (is_word w) (start_of_kind (Word w)) ts (λ u k. word_start w u ((a_word w).means u k)) e d

pub first_not_form : (ts : List Token) → Begins is_primary_start ts → peek (begins start.Form) ts ≡ false
first_not_form ts e = first_not is_primary_start (begins start.Form) start.Form ts (begins_start start.Form) e refl

pub regrouped : (test : Start → Bool) (u v z : List Token) → Begins test (u ++ (v ++ z)) → Begins test ((u ++ v) ++ z)
regrouped test u v z h = subst (Begins test) (sym (append_assoc u v z)) h
