-- Maps that are filled from the last entry to the first, so that the first one stays.
use Rattle.std.proofs.Common.{arith, ◌≡◌, refl, sym, ap, ◌∙◌, ℕ, suc, ◌-◌, ◌<◌, ◌≤◌, Bool, true, false, cond, List, [], ◌∷◌, ◌++◌, map, length, take, find, get_or, Option, Some, None}
use Rattle.std.proofs.Math.Seq.{take-suc}
use Rattle.std.proofs.lemmas.List.{map-append}
use Rattle.std.specs.BTreeMap.{BTreeMap, get, is_at, Updates}
use Rattle.std.specs.Option.{option_map, option_or}
use Rattle.std.specs.declared.cmp.Ordering.{Ordering}

-- what the map has at a key, behind what is left before it, shown by f and g
abbrev pub first_or : {K V X Y : Type 0} → (K → K → Ordering) → (K → X → Bool) → (X → Y) → (V → Y) → List X → BTreeMap K V → K → Option Y
first_or cmp test f g left m q = option_or (option_map f (find (test q) left)) (option_map g (get cmp m q))

last_or : {X Y : Type 0} (test : X → Bool) (f : X → Y) (left : List X) (x : X) (had : Option Y) → option_or (option_map f (find test left)) (cond (test x) (Some (f x)) had) ≡ option_or (option_map f (find test (left ++ x ∷ []))) had
last_or test f [] x had = elim (test x) as (λ b. cond b (Some (f x)) had ≡ option_or (option_map f (cond b (Some x) None)) had) [ true ↦ refl | false ↦ refl ]
last_or test f (y ∷ left) x had = elim (test y) as (λ b. option_or (option_map f (cond b (Some y) (find test left))) (cond (test x) (Some (f x)) had) ≡ option_or (option_map f (cond b (Some y) (find test (left ++ x ∷ [])))) had) [ true ↦ refl | false ↦ last_or test f left x had ]

map_cond : {V Y : Type 0} (g : V → Y) (b : Bool) (v : V) (had : Option V) → option_map g (cond b (Some v) had) ≡ cond b (Some (g v)) (option_map g had)
map_cond g true v had = refl
map_cond g false v had = refl

-- the last one goes into the map
pub first_or-insert : {K V X Y : Type 0} (cmp : K → K → Ordering) (test : K → X → Bool) (f : X → Y) (g : V → Y) (all left : List X) (x : X) (m n : BTreeMap K V) (key : K) (v : V)
    → all ≡ left ++ x ∷ [] → Updates cmp m n key (Some v) → ((q : K) → is_at (cmp key) q ≡ test q x) → g v ≡ f x → (q : K) → first_or cmp test f g left n q ≡ first_or cmp test f g all m q
first_or-insert cmp test f g all left x m n key v whole updates same shows q =
    ap (λ had. option_or (option_map f (find (test q) left)) (option_map g had)) (updates.0 q)
    ∙ ap (option_or (option_map f (find (test q) left))) (map_cond g (is_at (cmp key) q) v (get cmp m q) ∙ (λ i. cond (same q i) (Some (shows i)) (option_map g (get cmp m q))))
    ∙ last_or (test q) f left x (option_map g (get cmp m q))
    ∙ ap (λ xs. option_or (option_map f (find (test q) xs)) (option_map g (get cmp m q))) (sym whole)

-- the last of the first ones, shown by f
pub shown_take : {X Y : Type 0} (f : X → Y) (xs : List X) (i : ℕ) (x : X) → 0 < i → i ≤ length xs → x ≡ get_or xs (i - 1) x → map f (take i xs) ≡ map f (take (i - 1) xs) ++ f x ∷ []
shown_take f xs i x some within is =
    let one_more : i ≡ suc (i - 1) = omega (arith, some) in
    let below : i - 1 < length xs = omega (arith, some, within) in
    ap (λ j. map f (take j xs)) one_more ∙ ap (map f) (take-suc xs (i - 1) x below) ∙ map-append f (take (i - 1) xs) _ ∙ ap (λ y. map f (take (i - 1) xs) ++ f y ∷ []) (sym is)
