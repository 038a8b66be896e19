-- Levels of ground types that make one type, and levels with one key, are one level.
use Rattle.std.proofs.Common.{◌≡◌, ℕ, zero, suc, ◌+◌, ◌<◌, ◌==◌, if◌then◌else◌, List, [], ◌∷◌, ◌++◌, map, length, refl, sym, ap, ◌∙◌, Some, arith}
use Rattle.std.specs.Prelude.{flat_map, slice_get}
use Rattle.lk_types.specs.Each.{Each}
use Rattle.lk_types.specs.declared.ground.Ground.{Ground, out-Ground}
use Rattle.lk_types.specs.declared.ground.Ground.TheOpen.{Ground-F}
use Rattle.lk_types.specs.declared.ground.Ground.TheVariants as known
use Rattle.lk_types.specs.declared.ground.GroundField.{GroundField}
use Rattle.lk_types.specs.declared.ty.Effect.{Effect}
use Rattle.lk_types.specs.declared.ty.Effect.TheVariants.{Local, Move, Print, Rec, Scan, Trap, Write}
use Rattle.lk_ground_types.specs.Grounds.{AreDistinct, IsBelow, at, effect_number, ground_made, key, label_key, part_key, part_made}
use Rattle.lk_ground_types.specs.declared.ground_level.GroundLevel.{GroundLevel}
use Rattle.lk_ground_types.specs.declared.ground_level.GroundLevel.TheVariants as level
use Rattle.lk_ground_types.specs.declared.ground_level.GroundPart.{GroundPart}

-- ---- by the forms of two levels

abbrev form : GroundLevel → ℕ
form level.Int = 0
form level.Bool = 1
form level.Text = 2
form (level.List n) = 3
form (level.Fields ps) = 4
form (level.Tags ps) = 5
form (level.Fun ns es n) = 6

module _ (P : GroundLevel → GroundLevel → Type 0) (case_int : P level.Int level.Int) (case_bool : P level.Bool level.Bool) (case_text : P level.Text level.Text)
    (case_list : (n m : ℕ) → P (level.List n) (level.List m)) (case_fields : (ps qs : List GroundPart) → P (level.Fields ps) (level.Fields qs))
    (case_tags : (ps qs : List GroundPart) → P (level.Tags ps) (level.Tags qs))
    (case_fun : (ns : List ℕ) (es : List Effect) (n : ℕ) (ms : List ℕ) (fs : List Effect) (m : ℕ) → P (level.Fun ns es n) (level.Fun ms fs m)) where
  by_form : (l k : GroundLevel) → form l ≡ form k → P l k
  by_form level.Int level.Int same = case_int
  by_form level.Int level.Bool same = absurd (omega (arith, same))
  by_form level.Int level.Text same = absurd (omega (arith, same))
  by_form level.Int (level.List m) same = absurd (omega (arith, same))
  by_form level.Int (level.Fields qs) same = absurd (omega (arith, same))
  by_form level.Int (level.Tags qs) same = absurd (omega (arith, same))
  by_form level.Int (level.Fun ms fs m) same = absurd (omega (arith, same))
  by_form level.Bool level.Int same = absurd (omega (arith, same))
  by_form level.Bool level.Bool same = case_bool
  by_form level.Bool level.Text same = absurd (omega (arith, same))
  by_form level.Bool (level.List m) same = absurd (omega (arith, same))
  by_form level.Bool (level.Fields qs) same = absurd (omega (arith, same))
  by_form level.Bool (level.Tags qs) same = absurd (omega (arith, same))
  by_form level.Bool (level.Fun ms fs m) same = absurd (omega (arith, same))
  by_form level.Text level.Int same = absurd (omega (arith, same))
  by_form level.Text level.Bool same = absurd (omega (arith, same))
  by_form level.Text level.Text same = case_text
  by_form level.Text (level.List m) same = absurd (omega (arith, same))
  by_form level.Text (level.Fields qs) same = absurd (omega (arith, same))
  by_form level.Text (level.Tags qs) same = absurd (omega (arith, same))
  by_form level.Text (level.Fun ms fs m) same = absurd (omega (arith, same))
  by_form (level.List n) level.Int same = absurd (omega (arith, same))
  by_form (level.List n) level.Bool same = absurd (omega (arith, same))
  by_form (level.List n) level.Text same = absurd (omega (arith, same))
  by_form (level.List n) (level.List m) same = case_list n m
  by_form (level.List n) (level.Fields qs) same = absurd (omega (arith, same))
  by_form (level.List n) (level.Tags qs) same = absurd (omega (arith, same))
  by_form (level.List n) (level.Fun ms fs m) same = absurd (omega (arith, same))
  by_form (level.Fields ps) level.Int same = absurd (omega (arith, same))
  by_form (level.Fields ps) level.Bool same = absurd (omega (arith, same))
  by_form (level.Fields ps) level.Text same = absurd (omega (arith, same))
  by_form (level.Fields ps) (level.List m) same = absurd (omega (arith, same))
  by_form (level.Fields ps) (level.Fields qs) same = case_fields ps qs
  by_form (level.Fields ps) (level.Tags qs) same = absurd (omega (arith, same))
  by_form (level.Fields ps) (level.Fun ms fs m) same = absurd (omega (arith, same))
  by_form (level.Tags ps) level.Int same = absurd (omega (arith, same))
  by_form (level.Tags ps) level.Bool same = absurd (omega (arith, same))
  by_form (level.Tags ps) level.Text same = absurd (omega (arith, same))
  by_form (level.Tags ps) (level.List m) same = absurd (omega (arith, same))
  by_form (level.Tags ps) (level.Fields qs) same = absurd (omega (arith, same))
  by_form (level.Tags ps) (level.Tags qs) same = case_tags ps qs
  by_form (level.Tags ps) (level.Fun ms fs m) same = absurd (omega (arith, same))
  by_form (level.Fun ns es n) level.Int same = absurd (omega (arith, same))
  by_form (level.Fun ns es n) level.Bool same = absurd (omega (arith, same))
  by_form (level.Fun ns es n) level.Text same = absurd (omega (arith, same))
  by_form (level.Fun ns es n) (level.List m) same = absurd (omega (arith, same))
  by_form (level.Fun ns es n) (level.Fields qs) same = absurd (omega (arith, same))
  by_form (level.Fun ns es n) (level.Tags qs) same = absurd (omega (arith, same))
  by_form (level.Fun ns es n) (level.Fun ms fs m) same = case_fun ns es n ms fs m

-- ---- keys

abbrev first : List ℕ → ℕ
first [] = 0
first (n ∷ ns) = n

abbrev behind : List ℕ → List ℕ
behind [] = []
behind (n ∷ ns) = ns

form_first : (l : GroundLevel) → form l ≡ first (key l)
form_first level.Int = refl
form_first level.Bool = refl
form_first level.Text = refl
form_first (level.List n) = refl
form_first (level.Fields ps) = refl
form_first (level.Tags ps) = refl
form_first (level.Fun ns es n) = refl

one_less : (n m : ℕ) → n + 1 ≡ m + 1 → n ≡ m
one_less n m same = omega (arith, same)

labels_apart : (xs ys rest more : List ℕ) → label_key xs ++ rest ≡ label_key ys ++ more → (xs ≡ ys) × (rest ≡ more)
labels_apart [] [] rest more same = (refl, ap behind same)
labels_apart [] (y ∷ ys) rest more same = let h = ap first same in absurd (omega (arith, h))
labels_apart (x ∷ xs) [] rest more same = let h = ap first same in absurd (omega (arith, h))
labels_apart (x ∷ xs) (y ∷ ys) rest more same =
    let later = labels_apart xs ys rest more (ap behind same) in
    ((λ i. one_less x y (ap first same) i ∷ later.0 i), later.1)

parts_apart : (ps qs : List GroundPart) → flat_map part_key ps ≡ flat_map part_key qs → ps ≡ qs
parts_apart [] [] same = refl
parts_apart [] (q ∷ qs) same = cc
parts_apart (p ∷ ps) [] same = cc
parts_apart (p ∷ ps) (q ∷ qs) same =
    let labels = labels_apart p.label q.label (flat_map part_key ps) (flat_map part_key qs) (ap behind same) in
    (λ i. record { label = labels.0 i; part = ap first same i } ∷ parts_apart ps qs labels.1 i)

abbrev effect_of : ℕ → Effect
effect_of n = if n == 0 then Local else if n == 1 then Move else if n == 2 then Print else if n == 3 then Rec else if n == 4 then Scan else if n == 5 then Trap else Write

effect_back : (e : Effect) → effect_of (effect_number e) ≡ e
effect_back Local = refl
effect_back Move = refl
effect_back Print = refl
effect_back Rec = refl
effect_back Scan = refl
effect_back Trap = refl
effect_back Write = refl

few_effects : (e : Effect) → effect_number e < 7
few_effects Local = omega arith
few_effects Move = omega arith
few_effects Print = omega arith
few_effects Rec = omega arith
few_effects Scan = omega arith
few_effects Trap = omega arith
few_effects Write = omega arith

effects_apart : (es fs : List Effect) (rest more : List ℕ) → map effect_number es ++ 7 ∷ rest ≡ map effect_number fs ++ 7 ∷ more → (es ≡ fs) × (rest ≡ more)
effects_apart [] [] rest more same = (refl, ap behind same)
effects_apart [] (f ∷ fs) rest more same = let h = ap first same in let few = few_effects f in absurd (omega (arith, h, few))
effects_apart (e ∷ es) [] rest more same = let h = ap first same in let few = few_effects e in absurd (omega (arith, h, few))
effects_apart (e ∷ es) (f ∷ fs) rest more same =
    let later = effects_apart es fs rest more (ap behind same) in
    ((λ i. (sym (effect_back e) ∙ ap effect_of (ap first same) ∙ effect_back f) i ∷ later.0 i), later.1)

abbrev SameKeys : GroundLevel → GroundLevel → Type 0
SameKeys l k = key l ≡ key k → l ≡ k

pub keys_apart : (l k : GroundLevel) → key l ≡ key k → l ≡ k
keys_apart l k same =
    by_form SameKeys (λ _. refl) (λ _. refl) (λ _. refl)
    (λ n m same. ap (λ n. level.List n) (ap first (ap behind same)))
    (λ ps qs same. ap (λ ps. level.Fields ps) (parts_apart ps qs (ap behind same)))
    (λ ps qs same. ap (λ ps. level.Tags ps) (parts_apart ps qs (ap behind same)))
    (λ ns es n ms fs m same. (let both = effects_apart es fs ns ms (ap behind (ap behind same)) in λ i. level.Fun (both.1 i) (both.0 i) (ap first (ap behind same) i)))
    l k (form_first l ∙ ap first same ∙ sym (form_first k)) same

-- ---- types

abbrev Open : Type 0
Open = Ground-F Ground GroundField

abbrev opened : List Ground → GroundLevel → Open
opened ts level.Int = Ground-F.Int
opened ts level.Bool = Ground-F.Bool
opened ts level.Text = Ground-F.Text
opened ts (level.List n) = Ground-F.List (at ts n)
opened ts (level.Fields ps) = Ground-F.Fields (map (part_made ts) ps)
opened ts (level.Tags ps) = Ground-F.Tags (map (part_made ts) ps)
opened ts (level.Fun ns es n) = Ground-F.Fun (map (at ts) ns) es (at ts n)

made_out : (ts : List Ground) (l : GroundLevel) → out-Ground (ground_made ts l) ≡ opened ts l
made_out ts level.Int = known.outs-Int
made_out ts level.Bool = known.outs-Bool
made_out ts level.Text = known.outs-Text
made_out ts (level.List n) = known.outs-List (at ts n)
made_out ts (level.Fields ps) = known.outs-Fields (map (part_made ts) ps)
made_out ts (level.Tags ps) = known.outs-Tags (map (part_made ts) ps)
made_out ts (level.Fun ns es n) = known.outs-Fun (map (at ts) ns) es (at ts n)

abbrev open_form : Open → ℕ
open_form Ground-F.Int = 0
open_form Ground-F.Bool = 1
open_form Ground-F.Text = 2
open_form (Ground-F.List t) = 3
open_form (Ground-F.Fields fs) = 4
open_form (Ground-F.Tags fs) = 5
open_form (Ground-F.Fun ts es t) = 6

form_open : (ts : List Ground) (l : GroundLevel) → form l ≡ open_form (opened ts l)
form_open ts level.Int = refl
form_open ts level.Bool = refl
form_open ts level.Text = refl
form_open ts (level.List n) = refl
form_open ts (level.Fields ps) = refl
form_open ts (level.Tags ps) = refl
form_open ts (level.Fun ns es n) = refl

-- what stands in one form
abbrev one_in : Ground → Open → Ground
one_in d (Ground-F.List t) = t
one_in d (Ground-F.Fun ts es t) = t
one_in d other = d

abbrev fields_of : Open → List GroundField
fields_of (Ground-F.Fields fs) = fs
fields_of (Ground-F.Tags fs) = fs
fields_of other = []

abbrev params_in : Open → List Ground
params_in (Ground-F.Fun ts es t) = ts
params_in other = []

abbrev effects_in : Open → List Effect
effects_in (Ground-F.Fun ts es t) = es
effects_in other = []

pub at_there : (ts : List Ground) (n : ℕ) → n < length ts → slice_get ts n ≡ Some (at ts n)
at_there [] n less = absurd (omega arith)
at_there (t ∷ ts) zero less = refl
at_there (t ∷ ts) (suc n) less = at_there ts n (omega arith)

abbrev head_of : {X : Type 0} → X → List X → X
head_of d [] = d
head_of d (x ∷ xs) = x

abbrev tail_of : {X : Type 0} → List X → List X
tail_of [] = []
tail_of (x ∷ xs) = xs

module _ (ts : List Ground) (distinct : AreDistinct ts) where
  pub same_number : (n m : ℕ) → n < length ts → m < length ts → at ts n ≡ at ts m → n ≡ m
  same_number n m less small same = distinct n m (at ts m) (at_there ts n less ∙ ap Some same) (at_there ts m small)

  same_numbers : (ns ms : List ℕ) → Each (λ n. n < length ts) ns → Each (λ n. n < length ts) ms → map (at ts) ns ≡ map (at ts) ms → ns ≡ ms
  same_numbers [] [] less small same = refl
  same_numbers [] (m ∷ ms) less small same = cc
  same_numbers (n ∷ ns) [] less small same = cc
  same_numbers (n ∷ ns) (m ∷ ms) less small same =
      (λ i. same_number n m less.0 small.0 (ap (head_of (at ts n)) same) i ∷ same_numbers ns ms less.1 small.1 (ap tail_of same) i)

  same_parts : (ps qs : List GroundPart) → Each (λ n. n < length ts) (map (λ p. p.part) ps) → Each (λ n. n < length ts) (map (λ q. q.part) qs)
      → map (part_made ts) ps ≡ map (part_made ts) qs → ps ≡ qs
  same_parts [] [] less small same = refl
  same_parts [] (q ∷ qs) less small same = cc
  same_parts (p ∷ ps) [] less small same = cc
  same_parts (p ∷ ps) (q ∷ qs) less small same =
      let field = ap (head_of (part_made ts p)) same in
      (λ i. record { label = (field i).label; part = same_number p.part q.part less.0 small.0 (ap (λ f. f.ty) field) i } ∷ same_parts ps qs less.1 small.1 (ap tail_of same) i)

  abbrev SameTypes : GroundLevel → GroundLevel → Type 0
  SameTypes l k = IsBelow (length ts) l → IsBelow (length ts) k → opened ts l ≡ opened ts k → l ≡ k

  pub levels_apart : (l k : GroundLevel) → IsBelow (length ts) l → IsBelow (length ts) k → ground_made ts l ≡ ground_made ts k → l ≡ k
  levels_apart l k less small same =
      let open_same : opened ts l ≡ opened ts k = sym (made_out ts l) ∙ ap out-Ground same ∙ made_out ts k in
      by_form SameTypes (λ a b e. refl) (λ a b e. refl) (λ a b e. refl)
      (λ n m a b e. ap (λ n. level.List n) (same_number n m a.0 b.0 (ap (one_in (at ts n)) e)))
      (λ ps qs a b e. ap (λ ps. level.Fields ps) (same_parts ps qs a b (ap fields_of e)))
      (λ ps qs a b e. ap (λ ps. level.Tags ps) (same_parts ps qs a b (ap fields_of e)))
      (λ ns es n ms fs m a b e i. level.Fun (same_numbers ns ms a.1 b.1 (ap params_in e) i) (ap effects_in e i) (same_number n m a.0 b.0 (ap (one_in (at ts n)) e) i))
      l k (form_open ts l ∙ ap open_form open_same ∙ sym (form_open ts k)) less small open_same
