-- What is made of a walk whose constraints are solved.
use Rattle.lk_typing.proofs.Lists.{length_append}
use Rattle.std.proofs.Common.{◌≡◌, ℕ, zero, suc, ◌+◌, ◌<◌, ◌≤◌, min, List, [], ◌∷◌, ◌++◌, length, map, take, drop, refl, sym, ap, subst, ◌∙◌}
use native.Mathlib.Omega.{arith}
use Rattle.lk_types.specs.Each.{Each}
use Rattle.lk_types.specs.declared.equation.Equation.{Equation}
use Rattle.lk_types.specs.declared.scheme.Scheme.{Scheme}
use Rattle.lk_types.specs.declared.ty.Ty.{Ty}
use Rattle.lk_arena.specs.Openings.{Opening}
use Rattle.lk_unify.proofs.FineSides.{as_many}
use Rattle.lk_unify.specs.Constraints.{equations_of, AreSides, Makes}
use Rattle.lk_infer.specs.Generalised.{AreGeneralised}
use Rattle.lk_infer.specs.Refusals.{constraints_of}
use Rattle.lk_infer.specs.Walked.{asked, walk_constraints, IsSolved}
use Rattle.lk_walk.specs.declared.group.GroupWalk.{GroupWalk}

-- there are as many types as equations
makes_length : (ρ : Opening) (es : List Equation) (ts : List Ty) → Makes ρ es ts → length ts ≡ length es
makes_length ρ [] [] makes = refl
makes_length ρ [] (t ∷ ts) makes = absurd makes
makes_length ρ (e ∷ es) [] makes = absurd makes
makes_length ρ (e ∷ es) (t ∷ ts) makes = ap suc (makes_length ρ es ts makes.2)

asked_length : (ts : List Ty) → length (map asked ts) ≡ length ts
asked_length [] = refl
asked_length (t ∷ ts) = ap suc (asked_length ts)

walk_length : (walk : GroupWalk) → length (walk_constraints walk) ≡ length walk.functions + (length walk.nodes + length (constraints_of walk.steps))
walk_length walk =
    let one : length (map asked walk.functions) ≡ length walk.functions = asked_length walk.functions in
    let two : length (map asked walk.nodes) ≡ length walk.nodes = asked_length walk.nodes in
    let more : length (map asked walk.nodes ++ constraints_of walk.steps) ≡ length (map asked walk.nodes) + length (constraints_of walk.steps) = length_append (map asked walk.nodes) (constraints_of walk.steps) in
    let all : length (walk_constraints walk) ≡ length (map asked walk.functions) + length (map asked walk.nodes ++ constraints_of walk.steps) = length_append (map asked walk.functions) (map asked walk.nodes ++ constraints_of walk.steps) in
    omega arith

types_length : (walk : GroupWalk) (types : List Ty) → AreSides (equations_of (walk_constraints walk)) types → length types ≡ length walk.functions + (length walk.nodes + length (constraints_of walk.steps))
types_length walk types sides = makes_length sides.opening (equations_of (walk_constraints walk)) types sides.sides ∙ as_many (walk_constraints walk) ∙ walk_length walk

pub enough : (walk : GroupWalk) (types : List Ty) → AreSides (equations_of (walk_constraints walk)) types → length walk.functions ≤ length types
enough walk types sides = let n : length types ≡ length walk.functions + (length walk.nodes + length (constraints_of walk.steps)) = types_length walk types sides in omega arith

parted : {A : Type 0} (n : ℕ) (xs : List A) → xs ≡ take n xs ++ drop n xs
parted zero xs = refl
parted (suc n) [] = refl
parted (suc n) (x ∷ xs) = ap (λ rest. x ∷ rest) (parted n xs)

taken_length : {A : Type 0} (n : ℕ) (xs : List A) → n ≤ length xs → length (take n xs) ≡ n
taken_length zero xs le = refl
taken_length (suc n) [] le = absurd (let wrong : suc n ≤ 0 = le in omega arith)
taken_length (suc n) (x ∷ xs) le = ap suc (taken_length n xs (omega arith))

dropped_length : {A : Type 0} (n : ℕ) (xs : List A) (m : ℕ) → length xs ≡ n + m → length (drop n xs) ≡ m
dropped_length zero xs m is = let same : 0 + m ≡ m = omega arith in is ∙ same
dropped_length (suc n) [] m is = absurd (let wrong : 0 ≡ suc n + m = is in omega arith)
dropped_length (suc n) (x ∷ xs) m is = dropped_length n xs m (let all : suc (length xs) ≡ suc n + m = is in omega arith)

-- the first types are those of the functions, the next ones those of the nodes
pub solved_by : (walk : GroupWalk) (types : List Ty) (schemes : List Scheme) (others inside : List Ty) → AreSides (equations_of (walk_constraints walk)) types
    → others ≡ drop (length walk.functions) types → inside ≡ take (length walk.nodes) others
    → AreGeneralised types (take (length walk.functions) types) schemes → IsSolved walk schemes inside
solved_by walk types schemes others inside sides others_are inside_is made =
    let n : length types ≡ length walk.functions + (length walk.nodes + length (constraints_of walk.steps)) = types_length walk types sides in
    let m : length others ≡ length walk.nodes + length (constraints_of walk.steps) = ap length others_are ∙ dropped_length (length walk.functions) types _ n in
    let nodes_apart : others ≡ inside ++ drop (length walk.nodes) others = parted (length walk.nodes) others ∙ ap (λ xs. xs ++ drop (length walk.nodes) others) (sym inside_is) in
    let apart : types ≡ take (length walk.functions) types ++ (inside ++ drop (length walk.nodes) others) =
    parted (length walk.functions) types ∙ ap (λ xs. take (length walk.functions) types ++ xs) (sym others_are ∙ nodes_apart) in
    record {
      bodies = take (length walk.functions) types;
      rest = drop (length walk.nodes) others;
      sides = subst (AreSides (equations_of (walk_constraints walk))) apart sides;
      functions = taken_length (length walk.functions) types (omega arith);
      nodes = ap length inside_is ∙ taken_length (length walk.nodes) others (omega arith);
      generalised = subst (λ ts. AreGeneralised ts (take (length walk.functions) types) schemes) apart made;
    }
