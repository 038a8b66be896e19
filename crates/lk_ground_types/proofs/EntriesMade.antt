-- What is made and counted of the parts of a level.
use Rattle.std.proofs.Common.{◌≡◌, ℕ, ◌+◌, ◌<◌, ◌≤◌, nat_le, List, [], ◌∷◌, ◌++◌, length, take, get_or, map, refl, sym, ap, ◌∙◌, append_assoc, arith}
use Rattle.std.proofs.lemmas.Bool.Decides.{nat_tests}
use Rattle.std.proofs.lemmas.Grind.{flat_map-append}
use Rattle.std.proofs.lemmas.List.{append-nil, map-append, take_all, take_more}
use Rattle.std.specs.Prelude.{flat_map, sum}
use Rattle.lk_types.specs.declared.ground.Ground.{Ground}
use Rattle.lk_ground_types.proofs.Entering.{types_long}
use Rattle.lk_ground_types.proofs.GroundNodes.{field_is, ground_int}
use Rattle.lk_ground_types.proofs.LevelForms.{at_beyond}
use Rattle.lk_ground_types.specs.Counting.{capped}
use Rattle.lk_ground_types.specs.Grounds.{at, part_made, types_of}
use Rattle.lk_ground_types.specs.Sizes.{field_nodes, fits, ground_nodes}
use Rattle.lk_ground_types.specs.declared.entries.Entry.{Entry}
use Rattle.lk_ground_types.specs.declared.ground_level.GroundPart.{GroundPart}

-- ---- lists that grow at the end

-- one more behind what was there
pub behind_more : {X Y : Type 0} (f : X → List Y) (old new : List Y) (first : List Y) (xs : List X) (i : ℕ) (x d : X) → i < length xs → x ≡ get_or xs i d
    → old ≡ first ++ flat_map f (take i xs) → new ≡ old ++ f x → new ≡ first ++ flat_map f (take (i + 1) xs)
behind_more f old new first xs i x d below x_is before now =
    now ∙ (λ j. before j ++ f (x_is j)) ∙ append_assoc first (flat_map f (take i xs)) (f (get_or xs i d)) ∙ ap (λ ys. first ++ ys) (sym more)
  where
    more : flat_map f (take (i + 1) xs) ≡ flat_map f (take i xs) ++ f (get_or xs i d)
    more = ap (flat_map f) (take_more xs i d below) ∙ flat_map-append f (take i xs) (get_or xs i d ∷ []) ∙ ap (λ ys. flat_map f (take i xs) ++ ys) (append-nil (f (get_or xs i d)))

pub mapped_more : {X Y : Type 0} (f : X → Y) (old new : List Y) (first : List Y) (xs : List X) (i : ℕ) (x d : X) → i < length xs → x ≡ get_or xs i d
    → old ≡ first ++ map f (take i xs) → new ≡ old ++ f x ∷ [] → new ≡ first ++ map f (take (i + 1) xs)
mapped_more f old new first xs i x d below x_is before now =
    now ∙ (λ j. before j ++ f (x_is j) ∷ []) ∙ append_assoc first (map f (take i xs)) (f (get_or xs i d) ∷ [])
    ∙ ap (λ ys. first ++ ys) (sym (ap (map f) (take_more xs i d below) ∙ map-append f (take i xs) (get_or xs i d ∷ [])))

pub taken_more : {X : Type 0} (old new : List X) (first : List X) (xs : List X) (i : ℕ) (x d : X) → i < length xs → x ≡ get_or xs i d
    → old ≡ first ++ take i xs → new ≡ old ++ x ∷ [] → new ≡ first ++ take (i + 1) xs
taken_more old new first xs i x d below x_is before now =
    now ∙ (λ j. before j ++ x_is j ∷ []) ∙ append_assoc first (take i xs) (get_or xs i d ∷ []) ∙ ap (λ ys. first ++ ys) (sym (take_more xs i d below))

-- ---- nodes

pub one_capped : 1 ≡ capped 1
unfolding capped
one_capped = omega arith

pub none_nodes : (es : List Entry) (n : ℕ) → length es ≤ n → 1 ≡ capped (ground_nodes (at (types_of es) n))
none_nodes es n le = one_capped ∙ ap capped (sym (ap ground_nodes (at_beyond (types_of es) n (let h = types_long es in omega (arith, le, h))) ∙ ground_int))

capped_inside : (q x : ℕ) → capped (q + capped x) ≡ capped (q + x)
unfolding capped
capped_inside q x = omega arith

pub capped_after : (q x n r : ℕ) → n ≡ capped x → r ≡ capped (q + n) → r ≡ capped (q + x)
capped_after q x n r first second = second ∙ ap (λ n. capped (q + n)) first ∙ capped_inside q x

abbrev pub part_nodes : List Ground → GroundPart → ℕ
part_nodes ts p = 1 + ground_nodes (at ts p.part)

with_label : (q x : ℕ) → capped (capped (q + 1) + capped x) ≡ capped (q + (1 + x))
unfolding capped
with_label q x = omega arith

pub part_counted : (q x p n r : ℕ) → p ≡ capped (q + 1) → n ≡ capped x → r ≡ capped (p + n) → r ≡ capped (q + (1 + x))
part_counted q x p n r first second third = third ∙ (λ i. capped (first i + second i)) ∙ with_label q x

parts_same : (ts : List Ground) (ps : List GroundPart) → map field_nodes (map (part_made ts) ps) ≡ map (part_nodes ts) ps
parts_same ts [] = refl
parts_same ts (p ∷ ps) = λ i. field_is (part_made ts p) i ∷ parts_same ts ps i

pub parts_counted : (ts : List Ground) (ps : List GroundPart) (i total : ℕ) → length ps ≤ i → total ≡ capped (1 + sum (map (part_nodes ts) (take i ps))) → total ≡ capped (1 + sum (map field_nodes (map (part_made ts) ps)))
parts_counted ts ps i total end is = is ∙ ap (λ ps. capped (1 + sum (map (part_nodes ts) ps))) (take_all i ps end) ∙ ap (λ ns. capped (1 + sum ns)) (sym (parts_same ts ps))

types_same : (ts : List Ground) (ns : List ℕ) → map ground_nodes (map (at ts) ns) ≡ map (λ n. ground_nodes (at ts n)) ns
types_same ts [] = refl
types_same ts (n ∷ ns) = ap (λ ms. ground_nodes (at ts n) ∷ ms) (types_same ts ns)

pub types_counted : (ts : List Ground) (ns : List ℕ) (i total : ℕ) → length ns ≤ i → total ≡ capped (1 + sum (map (λ n. ground_nodes (at ts n)) (take i ns))) → total ≡ capped (1 + sum (map ground_nodes (map (at ts) ns)))
types_counted ts ns i total end is = is ∙ ap (λ ns. capped (1 + sum (map (λ n. ground_nodes (at ts n)) ns))) (take_all i ns end) ∙ ap (λ ms. capped (1 + sum ms)) (sym (types_same ts ns))

function_nodes : (x y z : ℕ) → capped (capped (capped (1 + x) + y) + capped z) ≡ capped (1 + (x + (y + z)))
unfolding capped
function_nodes x y z = omega arith

pub function_counted : (x y z p q n r : ℕ) → p ≡ capped (1 + x) → q ≡ capped (p + y) → n ≡ capped z → r ≡ capped (q + n) → r ≡ capped (1 + (x + (y + z)))
function_counted x y z p q n r first second third fourth =
    fourth ∙ (λ i. capped (second i + third i)) ∙ (λ i. capped (capped (first i + y) + capped z)) ∙ function_nodes x y z

-- whether it fits can be seen of the capped number
fits_capped : (x : ℕ) → nat_le (capped x) 4096 ≡ nat_le x 4096
unfolding capped
fits_capped x = grind (arith, nat_tests)

pub fits_counted : (n : ℕ) (t : Ground) → n ≡ capped (ground_nodes t) → nat_le n 4096 ≡ fits t
fits_counted n t is = ap (λ n. nat_le n 4096) is ∙ fits_capped (ground_nodes t)
