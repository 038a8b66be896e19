-- Lists of pairs.
use Rattle.std.proofs.Common.{◌≡◌, ℕ, suc, ◌+◌, ◌<◌, List, [], ◌∷◌, ◌++◌, length, get_or, take, map, refl, ap, arith, length-take}
use Rattle.std.proofs.lemmas.List.{take_more}
use Rattle.lk_types.specs.Each.{Each}
use Rattle.lk_arena.specs.Shapes.{Equates, AreNodePairs}
use Rattle.lk_arena.specs.Steps.{paired}
use Rattle.lk_arena.specs.Values.{Value}

pub paired-push : (xs ys : List ℕ) (a b : ℕ) → length xs ≡ length ys → paired (xs ++ a ∷ []) (ys ++ b ∷ []) ≡ paired xs ys ++ record { left = a; right = b } ∷ []
paired-push [] [] a b e = refl
paired-push [] (y ∷ ys) a b e = absurd (omega arith)
paired-push (x ∷ xs) [] a b e = absurd (omega arith)
paired-push (x ∷ xs) (y ∷ ys) a b e = ap (λ ps. record { left = x; right = y } ∷ ps) (paired-push xs ys a b (omega arith))

pub paired_more :
    (xs ys : List ℕ) (i : ℕ) → i < length xs → i < length ys →
    paired (take (i + 1) xs) (take (i + 1) ys) ≡ paired (take i xs) (take i ys) ++ record { left = get_or xs i 0; right = get_or ys i 0 } ∷ []
paired_more xs ys i h k =
    rw (take_more xs i 0 h, take_more ys i 0 k) (paired-push (take i xs) (take i ys) (get_or xs i 0) (get_or ys i 0) (simp length-take (omega arith)))

pub paired-map : (v : ℕ → Value) (xs ys : List ℕ) → map v xs ≡ map v ys → Equates (paired xs ys) v
paired-map v [] ys e = tt
paired-map v (x ∷ xs) [] e = tt
paired-map v (x ∷ xs) (y ∷ ys) e =
    let f : v x ∷ map v xs ≡ v y ∷ map v ys = e in
    ((let g : v x ≡ v y = cc in g), paired-map v xs ys (let g : map v xs ≡ map v ys = cc in g))

pub length-maps : (v : ℕ → Value) (xs ys : List ℕ) → map v xs ≡ map v ys → length xs ≡ length ys
length-maps v [] [] e = refl
length-maps v [] (y ∷ ys) e = let f : [] ≡ v y ∷ map v ys = e in cc
length-maps v (x ∷ xs) [] e = let f : v x ∷ map v xs ≡ [] = e in cc
length-maps v (x ∷ xs) (y ∷ ys) e = let f : v x ∷ map v xs ≡ v y ∷ map v ys = e in ap suc (length-maps v xs ys (let g : map v xs ≡ map v ys = cc in g))

pub AreNodePairs-paired : (n : ℕ) (xs ys : List ℕ) → Each (λ i. i < n) xs → Each (λ i. i < n) ys → AreNodePairs n (paired xs ys)
AreNodePairs-paired n [] ys p q = tt
AreNodePairs-paired n (x ∷ xs) [] p q = tt
AreNodePairs-paired n (x ∷ xs) (y ∷ ys) p q = ((p.0, q.0), AreNodePairs-paired n xs ys p.1 q.1)

pub map-paired : (v : ℕ → Value) (xs ys : List ℕ) → length xs ≡ length ys → Equates (paired xs ys) v → map v xs ≡ map v ys
map-paired v [] [] n e = refl
map-paired v [] (y ∷ ys) n e = absurd (omega arith)
map-paired v (x ∷ xs) [] n e = absurd (omega arith)
map-paired v (x ∷ xs) (y ∷ ys) n e =
    let h : v x ≡ v y = e.0 in
    let t : map v xs ≡ map v ys = map-paired v xs ys (omega arith) e.1 in
    let f : v x ∷ map v xs ≡ v y ∷ map v ys = cc in f
