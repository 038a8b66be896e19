-- Texts one behind the other, and lists of them with another one between.
use Rattle.std.proofs.Common.{◌≡◌, ℕ, ◌+◌, ◌<◌, List, [], ◌∷◌, ◌++◌, take, length, get_or, sym, ap, ◌∙◌, append_assoc}
use Rattle.std.proofs.lemmas.List.{take_more, flat_map_more}
use Rattle.std.specs.Prelude.{flat_map}

pub texts_both : (a b c : List ℕ) → (a ++ b) ++ c ≡ a ++ (b ++ c)
texts_both a b c = append_assoc a b c

-- the first one
abbrev pub front : {X : Type 0} → (X → List ℕ) → List X → List ℕ
front f [] = []
front f (x ∷ xs) = f x

-- the others, each behind what stands between
abbrev pub behind : {X : Type 0} → List ℕ → (X → List ℕ) → List X → List ℕ
behind between f xs = flat_map (λ x. between ++ f x) xs

-- one more of the others
pub one_more : {X : Type 0} (between : List ℕ) (f : X → List ℕ) (start old new : List ℕ) (rest : List X) (i : ℕ) (x d : X) → i < length rest → x ≡ get_or rest i d
    → old ≡ start ++ behind between f (take i rest) → new ≡ (old ++ between) ++ f x → new ≡ start ++ behind between f (take (i + 1) rest)
one_more between f start old new rest i x d within is was now =
    now
    ∙ append_assoc old between (f x)
    ∙ ap (λ z. z ++ (between ++ f x)) was
    ∙ flat_map_more (λ y. between ++ f y) start (take i rest) x
    ∙ ap (λ z. start ++ behind between f (take i rest ++ z ∷ [])) is
    ∙ ap (λ z. start ++ behind between f z) (sym (take_more rest i d within))
