-- Tokens of given kinds, wherever they stand in a text.
use Rattle.std.proofs.Common.{◌≡◌, List, [], ◌∷◌, ◌++◌, map, refl, sym, ap, subst, ◌∙◌, append_assoc}
use Rattle.std.specs.Prelude.{codes}
use Rattle.lk_ast.specs.declared.place.Span.{Span}
use Rattle.lk_ast.specs.declared.token.Token.{Token}
use Rattle.lk_ast.specs.declared.token.TokenKind.{TokenKind}
use Rattle.lk_ast.specs.declared.token.TokenKind.TheVariants.{Sign}
use Rattle.lk_print.specs.Printed.{Kinds, in_round}

abbrev pub kinds_of : List Token → Kinds
kinds_of tokens = map (λ token. token.kind) tokens

-- a token of this kind at this place
abbrev pub token : Span → TokenKind → Token
token at kind = record { span = at; kind = kind }

-- whatever holds of all tokens of these kinds
pub record Spelt (kinds : Kinds) (P : List Token → Type 0) : Type 0 where
  pub run : (w : List Token) → kinds_of w ≡ kinds → P w

pub no_tokens : (w : List Token) → kinds_of w ≡ [] → w ≡ []
no_tokens [] e = refl
no_tokens (t ∷ w) e = absurd cc

pub spelt_none : {P : List Token → Type 0} → P [] → Spelt [] P
spelt_none {P} p = record { run = λ w e. subst P (sym (no_tokens w e)) p }

one_more : (P : List Token → Type 0) (kind : TokenKind) (kinds : Kinds) → ((at : Span) → Spelt kinds (λ w. P (token at kind ∷ w))) → (w : List Token) → kinds_of w ≡ kind ∷ kinds → P w
one_more P kind kinds f [] e = absurd cc
one_more P kind kinds f (t ∷ w) e =
    let same : t.kind ≡ kind = cc in
    let rest : kinds_of w ≡ kinds = cc in
    subst (λ k. P (token t.span k ∷ w)) (sym same) ((f t.span).run w rest)

pub spelt_cons : {P : List Token → Type 0} {kind : TokenKind} {kinds : Kinds} → ((at : Span) → Spelt kinds (λ w. P (token at kind ∷ w))) → Spelt (kind ∷ kinds) P
spelt_cons {P} f = record { run = one_more P _ _ f }

-- tokens cut in two where their kinds are
record Cut (a b : Kinds) (w : List Token) : Type 0 where
  u : List Token
  v : List Token
  is : w ≡ u ++ v
  front : kinds_of u ≡ a
  back : kinds_of v ≡ b

cut : (a b : Kinds) (w : List Token) → kinds_of w ≡ a ++ b → Cut a b w
cut [] b w e = record { u = []; v = w; is = refl; front = refl; back = e }
cut (k ∷ a) b [] e = absurd cc
cut (k ∷ a) b (t ∷ w) e =
    let c = cut a b w cc in
    record { u = t ∷ c.u; v = c.v; is = ap (λ z. t ∷ z) c.is; front = (λ i. the_first i ∷ c.front i); back = c.back }
  where
    the_first : t.kind ≡ k
    the_first = cc

pub spelt_append : {P Q : List Token → Type 0} (a : Kinds) {b : Kinds} → Spelt a Q → ((u : List Token) → Q u → Spelt b (λ v. P (u ++ v))) → Spelt (a ++ b) P
spelt_append {P} {Q} a {b} q f = record {
  run = λ w e.
      let c = cut a b w e in
      subst P (sym c.is) ((f c.u (q.run c.u c.front)).run c.v c.back);
}

pub spelt_so : {P Q : List Token → Type 0} {a : Kinds} → Spelt a Q → ((w : List Token) → Q w → P w) → Spelt a P
spelt_so q f = record { run = λ w e. f w (q.run w e) }

-- kinds that are equal are spelt alike
pub spelt_as : {P : List Token → Type 0} {a b : Kinds} → a ≡ b → Spelt b P → Spelt a P
spelt_as same s = record { run = λ w e. s.run w (e ∙ same) }

-- in parentheses, and what follows
pub spelt_round : {P Q : List Token → Type 0} (a : Kinds) {b : Kinds} → Spelt a Q → ((o c : Span) (u : List Token) → Q u → Spelt b (λ v. P (token o (Sign (codes "(")) ∷ (u ++ token c (Sign (codes ")")) ∷ v)))) → Spelt (in_round a ++ b) P
spelt_round {P} {Q} a {b} q f = spelt_as (ap (λ z. Sign (codes "(") ∷ z) (append_assoc a (Sign (codes ")") ∷ []) b)) (spelt_cons (λ o. spelt_append a q (λ u x. spelt_cons (λ c. f o c u x))))
