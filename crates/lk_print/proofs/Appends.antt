-- Tokens written one behind the other.
use Rattle.std.proofs.Common.{◌≡◌, List, [], ◌∷◌, ◌++◌, map, refl, sym, ap, ◌∙◌, append_assoc}
use Rattle.std.specs.Prelude.{ℕ, flat_map, codes}
use Rattle.std.proofs.lemmas.Grind.{flat_map-append}
use Rattle.lk_ast.specs.declared.expression.Expr.{Expr}
use Rattle.lk_ast.specs.declared.expression.SortKey.{SortKey}
use Rattle.lk_ast.specs.declared.token.TokenKind.{TokenKind}
use Rattle.lk_ast.specs.declared.token.TokenKind.TheVariants.{Word, Sign}
use Rattle.lk_print.specs.Printed.{Kinds, Form, behind_commas, separated, joined, in_round, form_of, key, order}
use Rattle.lk_print.specs.Written.{spaced, after_comma}
use Rattle.lk_print.proofs.Lists.{map_map}

-- the first of a list, if there is one
abbrev pub front : List Kinds → Kinds
front [] = []
front (w ∷ ws) = w

pub behind_both : (a b c : List ℕ) → (a ++ b) ++ c ≡ a ++ (b ++ c)
behind_both a b c = append_assoc a b c

pub spaced_both : (a b : List TokenKind) → flat_map spaced (a ++ b) ≡ flat_map spaced a ++ flat_map spaced b
spaced_both a b = flat_map-append spaced a b

pub spaced_behind : {X : Type 0} (f : X → Kinds) (xs : List X) → flat_map spaced (behind_commas (map f xs)) ≡ flat_map (λ x. after_comma (f x)) xs
spaced_behind f [] = refl
spaced_behind f (x ∷ xs) = ap (λ z. spaced (Sign (codes ",")) ++ z) (spaced_both (f x) (behind_commas (map f xs)) ∙ ap (λ z. flat_map spaced (f x) ++ z) (spaced_behind f xs)) ∙ regrouped (spaced (Sign (codes ","))) (flat_map spaced (f x)) _
  where
    regrouped : (a b c : List ℕ) → a ++ (b ++ c) ≡ (a ++ b) ++ c
    regrouped a b c = sym (append_assoc a b c)

pub spaced_joined : {X : Type 0} (f : X → Kinds) (xs : List X) → flat_map spaced (joined (map f xs)) ≡ flat_map (λ x. flat_map spaced (f x)) xs
spaced_joined f [] = refl
spaced_joined f (x ∷ xs) = spaced_both (f x) (joined (map f xs)) ∙ ap (λ z. flat_map spaced (f x) ++ z) (spaced_joined f xs)

pub alone_behind : (es : List Expr) → flat_map spaced (behind_commas (map (λ e. e.alone) (map form_of es))) ≡ flat_map (λ e. after_comma (form_of e).alone) es
alone_behind es = ap (λ z. flat_map spaced (behind_commas z)) (map_map (λ (f : Form). f.alone) form_of es) ∙ spaced_behind (λ (d : Expr). (form_of d).alone) es

ordered : (old : List ℕ) (keys : Kinds) → (((old ++ spaced (Word (codes "orderby"))) ++ spaced (Sign (codes "("))) ++ flat_map spaced keys) ++ spaced (Sign (codes ")")) ≡ old ++ flat_map spaced (Word (codes "orderby") ∷ in_round keys)
ordered old keys = search (behind_both, spaced_both)

pub order_line : (old l1 l2 l3 new : List ℕ) (first : SortKey) (rest keys : List SortKey) → keys ≡ first ∷ rest
    → l1 ≡ old ++ spaced (Word (codes "orderby")) → l2 ≡ l1 ++ spaced (Sign (codes "(")) → l3 ≡ l2 ++ flat_map spaced (separated (map key (first ∷ rest))) → new ≡ l3 ++ spaced (Sign (codes ")"))
    → new ≡ old ++ flat_map spaced (order keys)
order_line old l1 l2 l3 new first rest keys is a b c d =
    d ∙ ap (λ z. z ++ spaced (Sign (codes ")"))) (c ∙ ap (λ z. z ++ flat_map spaced (separated (map key (first ∷ rest)))) (b ∙ ap (λ z. z ++ spaced (Sign (codes "("))) a))
    ∙ ordered old (separated (map key (first ∷ rest))) ∙ ap (λ z. old ++ flat_map spaced (order z)) (sym is)
