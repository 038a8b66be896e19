-- For any letters there is something for all variables by which they stand for the first ones.
use Rattle.std.proofs.Common.{◌≡◌, ℕ, ◌+◌, List, [], ◌∷◌, ◌++◌, length, refl, subst, ap, append_assoc, zero, suc}
use native.Mathlib.Omega.{arith}
use Rattle.lk_types.specs.Grounding.{Grounding}
use Rattle.lk_types.specs.declared.ground.Ground.TheVariants as known
use Rattle.lk_typing.proofs.Lists.{length_append}
use Rattle.lk_typing.proofs.Meaning.{Letter, plain, Stand}

-- the letter of that number
abbrev pub letter_at : List Letter → ℕ → Letter
letter_at [] n = plain known.Int
letter_at (l ∷ ls) zero = l
letter_at (l ∷ ls) (suc n) = letter_at ls n

abbrev pub grounding_of : List Letter → Grounding
grounding_of ls = record { plain = λ n. (letter_at ls n).plain; rows = λ n. (letter_at ls n).row; effects = λ n. (letter_at ls n).effects }

reached : (front : List Letter) (l : Letter) (ls : List Letter) → letter_at (front ++ l ∷ ls) (length front) ≡ l
reached [] l ls = refl
reached (x ∷ front) l ls = reached front l ls

behind : (front ls : List Letter) → Stand (grounding_of (front ++ ls)) (length front) ls
behind front [] = tt
behind front (l ∷ ls) =
    let at : letter_at (front ++ l ∷ ls) (length front) ≡ l = reached front l ls in
    let both : length (front ++ l ∷ []) ≡ length front + length (l ∷ []) = length_append front (l ∷ []) in
    let next : length (front ++ l ∷ []) ≡ 1 + length front = omega arith in
    let rest : Stand (grounding_of (front ++ l ∷ ls)) (length (front ++ l ∷ [])) ls = subst (λ all. Stand (grounding_of all) (length (front ++ l ∷ [])) ls) (append_assoc front (l ∷ []) ls) (behind (front ++ l ∷ []) ls) in
    (record { plain = ap (λ m. m.plain) at; row = ap (λ m. m.row) at; effects = ap (λ m. m.effects) at }, subst (λ k. Stand (grounding_of (front ++ l ∷ ls)) k ls) next rest)

-- all of them stand for the variables from the first one
pub stand_all : (ls : List Letter) → Stand (grounding_of ls) 0 ls
stand_all ls = behind [] ls
