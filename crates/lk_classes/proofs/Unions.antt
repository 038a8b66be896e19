-- Two classes made one.
use Rattle.std.proofs.Common.{◌≡◌, ◌≢◌, sym, ap, subst, ◌∙◌, ◌⊎◌, inl, inr, ℕ, ◌+◌, ◌<◌, ◌≤◌, ◌^◌, List, length, map, set, arith, length-set}
use Rattle.std.proofs.lemmas.Bool.{cases_eq}
use Rattle.std.proofs.lemmas.Bool.Decides.{nat_tests}
use Rattle.std.proofs.lemmas.List.{get_or-map, length-map, get_or-set_same, get_or-set_other}
use Rattle.std.proofs.lemmas.List.Sums.{sum_by-set}
use Rattle.std.specs.List.{sum_by}
use Rattle.lk_classes.specs.Classes.{AreClasses, class_at, relabeled}
use Rattle.lk_classes.specs.Forest.{member_at, names_of, weight, IsForest, IsPlaced, IsRootOf}
use Rattle.lk_classes.specs.declared.forest.Link.TheVariants.{Name, Parent}
use Rattle.lk_classes.specs.declared.forest.Member.{Member}
use Rattle.lk_classes.specs.declared.forest.Root.{Root}
use Rattle.lk_classes.proofs.Trees.{follows_on, root_name}

-- ---- names

relabeled_from : (from to : ℕ) → relabeled from to from ≡ to
relabeled_from from to = grind (arith, nat_tests)

relabeled_to : (from to : ℕ) → relabeled from to to ≡ to
relabeled_to from to = grind (arith, nat_tests)

relabeled_other : (from to c : ℕ) → c ≢ from → relabeled from to c ≡ c
relabeled_other from to c other = grind (arith, nat_tests)

module _ {n : ℕ} {names : List ℕ} (from to : ℕ) (classes : AreClasses n names) (below : to < n) (named : class_at names to ≡ to) where
  abbrev renamed : List ℕ
  renamed = map (relabeled from to) names

  name_of_new : (i : ℕ) → i < n → class_at renamed i ≡ relabeled from to (class_at names i)
  name_of_new i h = get_or-map (relabeled from to) names i 0 0 (subst (λ k. i < k) (sym classes.count) h)

  -- a name still is one, or the new one is
  name_new : (c : ℕ) → c < n → class_at names c ≡ c → (relabeled from to c < n) × (class_at renamed (relabeled from to c) ≡ relabeled from to c)
  name_new c h is = elim (cases_eq c from) [
    | inl e ↦ (let new : relabeled from to c ≡ to = ap (relabeled from to) e ∙ relabeled_from from to in
        (subst (λ k. k < n) (sym new) below, ap (class_at renamed) new ∙ name_of_new to below ∙ ap (relabeled from to) named ∙ relabeled_to from to ∙ sym new))
    | inr e ↦ (let new : relabeled from to c ≡ c = relabeled_other from to c e in
        (subst (λ k. k < n) (sym new) h, ap (class_at renamed) new ∙ name_of_new c h ∙ ap (relabeled from to) is))
  ]

  classes_united : AreClasses n renamed
  classes_united = record {
    count = length-map names (relabeled from to) ∙ classes.count;
    below = λ i h. subst (λ c. c < n) (sym (name_of_new i h)) (name_new (class_at names i) (classes.below i h) (classes.named i h)).0;
    named = λ i h. subst (λ c. class_at renamed c ≡ c) (sym (name_of_new i h)) (name_new (class_at names i) (classes.below i h) (classes.named i h)).1;
  }

-- ---- members

written_same : (ms : List Member) (i : ℕ) (m : Member) → i < length ms → member_at (set ms i m) i ≡ m
written_same ms i m h = get_or-set_same ms i m (record { size = 0; link = Name 0 }) h

written_other : (ms : List Member) (i j : ℕ) (m : Member) → j ≢ i → member_at (set ms i m) j ≡ member_at ms j
written_other ms i j m h = get_or-set_other ms i j m (record { size = 0; link = Name 0 }) h

sum_written : (ms : List Member) (i : ℕ) (m : Member) → i < length ms → sum_by weight (set ms i m) + weight (member_at ms i) ≡ sum_by weight ms + weight m
sum_written ms i m h = sum_by-set weight ms i m (record { size = 0; link = Name 0 }) h

weight_within : (ms : List Member) (i : ℕ) → i < length ms → weight (member_at ms i) ≤ sum_by weight ms
weight_within ms i h =
    let e : sum_by weight (set ms i (record { size = 0; link = Name 0 })) + weight (member_at ms i) ≡ sum_by weight ms + 0 = sum_written ms i (record { size = 0; link = Name 0 }) h in
    omega arith

-- a root that is put below another, which then counts both
abbrev under : Root → Root → Member
under low high = record { size = low.size; link = Parent high.at }

abbrev over : Root → Root → ℕ → Member
over low high to = record { size = low.size + high.size; link = Name to }

abbrev pub joined : List Member → Root → Root → ℕ → List Member
joined ms low high to = set (set ms low.at (under low high)) high.at (over low high to)

pub record AreTwo (ms : List Member) (names : List ℕ) (low high : Root) (from to : ℕ) : Type 0 where
  pub forest : IsForest ms names
  pub low_below : low.at < length ms
  pub high_below : high.at < length ms
  pub low_is : member_at ms low.at ≡ record { size = low.size; link = Name low.name }
  pub high_is : member_at ms high.at ≡ record { size = high.size; link = Name high.name }
  pub names_are : ((low.name ≡ from) × (high.name ≡ to)) ⊎ ((low.name ≡ to) × (high.name ≡ from))
  pub differ : from ≢ to
  pub to_below : to < length ms
  pub to_named : class_at names to ≡ to

module _ {ms : List Member} {names : List ℕ} {low high : Root} {from to : ℕ} (two : AreTwo ms names low high from to) where
  abbrev lowered : List Member
  lowered = set ms low.at (under low high)

  abbrev after : List Member
  after = joined ms low high to

  abbrev labels : List ℕ
  labels = map (relabeled from to) names

  -- the roots are apart
  differ_at : low.at ≢ high.at
  differ_at e =
      let both : Name low.name ≡ Name high.name = ap (λ m. m.link) (sym two.low_is ∙ ap (member_at ms) e ∙ two.high_is) in
      let same : low.name ≡ high.name = cc in
      elim two.names_are [
        | inl is ↦ two.differ (sym is.0 ∙ same ∙ is.1)
        | inr is ↦ two.differ (sym is.1 ∙ sym same ∙ is.0)
      ]

  low_new : relabeled from to low.name ≡ to
  low_new = elim two.names_are [
    | inl is ↦ ap (relabeled from to) is.0 ∙ relabeled_from from to
    | inr is ↦ ap (relabeled from to) is.0 ∙ relabeled_to from to
  ]

  high_new : relabeled from to high.name ≡ to
  high_new = elim two.names_are [
    | inl is ↦ ap (relabeled from to) is.1 ∙ relabeled_to from to
    | inr is ↦ ap (relabeled from to) is.1 ∙ relabeled_from from to
  ]

  others : (c : ℕ) → c ≢ low.name → c ≢ high.name → (c ≢ from) × (c ≢ to)
  others c no_low no_high = elim two.names_are [
    | inl is ↦ (λ e. no_low (e ∙ sym is.0), λ e. no_high (e ∙ sym is.1))
    | inr is ↦ (λ e. no_high (e ∙ sym is.1), λ e. no_low (e ∙ sym is.0))
  ]

  -- another root keeps its name
  other_root : (i c : ℕ) → i < length ms → i ≢ high.at → i ≢ low.at → (member_at ms i).link ≡ Name c → (c ≢ from) × (c ≢ to)
  other_root i c h not_high not_low is = others c
      (λ e. not_low (two.forest.apart i low.at c h two.low_below is (ap (λ m. m.link) two.low_is ∙ ap Name (sym e))))
      (λ e. not_high (two.forest.apart i high.at c h two.high_below is (ap (λ m. m.link) two.high_is ∙ ap Name (sym e))))

  -- ---- sizes

  high_in : high.at < length lowered
  high_in = subst (λ n. high.at < n) (sym (length-set ms low.at (under low high))) two.high_below

  high_left : member_at lowered high.at ≡ record { size = high.size; link = Name high.name }
  high_left = written_other ms low.at high.at (under low high) (λ e. differ_at (sym e)) ∙ two.high_is

  -- the first write leaves the sizes of all other roots
  sum_lowered : sum_by weight lowered + low.size ≡ sum_by weight ms
  sum_lowered =
      let e : sum_by weight lowered + weight (member_at ms low.at) ≡ sum_by weight ms + 0 = sum_written ms low.at (under low high) two.low_below in
      let is : weight (member_at ms low.at) ≡ low.size = ap weight two.low_is in
      omega arith

  pub sizes_fit : low.size + high.size ≤ length ms
  sizes_fit =
      let within : weight (member_at lowered high.at) ≤ sum_by weight lowered = weight_within lowered high.at high_in in
      let is : weight (member_at lowered high.at) ≡ high.size = ap weight high_left in
      omega (arith, sum_lowered, two.forest.total)

  sum_after : sum_by weight after ≡ sum_by weight ms
  sum_after =
      let e : sum_by weight after + weight (member_at lowered high.at) ≡ sum_by weight lowered + (low.size + high.size) = sum_written lowered high.at (over low high to) high_in in
      let is : weight (member_at lowered high.at) ≡ high.size = ap weight high_left in
      omega (arith, sum_lowered)

  length-after : length after ≡ length ms
  length-after = length-set lowered high.at (over low high to) ∙ length-set ms low.at (under low high)

  -- ---- what stands at a place

  abbrev Place : ℕ → Type 0
  Place i =
      ((i ≡ high.at) × (member_at after i ≡ over low high to))
      ⊎ (((i ≡ low.at) × (member_at after i ≡ under low high))
      ⊎ ((i ≢ high.at) × (i ≢ low.at) × (member_at after i ≡ member_at ms i)))

  place : (i : ℕ) → Place i
  place i = elim (cases_eq i high.at) [
    | inl e ↦ inl (e, ap (member_at after) e ∙ written_same lowered high.at (over low high to) high_in)
    | inr not_high ↦ (let first : member_at after i ≡ member_at lowered i = written_other lowered high.at i (over low high to) not_high in elim (cases_eq i low.at) [
      | inl e ↦ inr (inl (e, first ∙ ap (member_at lowered) e ∙ written_same ms low.at (under low high) two.low_below))
      | inr not_low ↦ inr (inr (not_high, not_low, first ∙ written_other ms low.at i (under low high) not_low))
    ])
  ]

  sizes_grow : (i : ℕ) → (member_at ms i).size ≤ (member_at after i).size
  sizes_grow i = elim (place i) [
    | inl is ↦ (let new : (member_at after i).size ≡ low.size + high.size = ap (λ m. m.size) is.1 in
        let old : (member_at ms i).size ≡ high.size = ap (λ k. (member_at ms k).size) is.0 ∙ ap (λ m. m.size) two.high_is in omega arith)
    | inr rest ↦ elim rest [
      | inl is ↦ (let new : (member_at after i).size ≡ low.size = ap (λ m. m.size) is.1 in
          let old : (member_at ms i).size ≡ low.size = ap (λ k. (member_at ms k).size) is.0 ∙ ap (λ m. m.size) two.low_is in omega arith)
      | inr is ↦ (let new : (member_at after i).size ≡ (member_at ms i).size = ap (λ m. m.size) is.2 in omega arith)
    ]
  ]

  label : (i : ℕ) → i < length ms → class_at labels i ≡ relabeled from to (class_at names i)
  label = name_of_new from to two.forest.classes two.to_below two.to_named

  label_at_low : class_at labels low.at ≡ to
  label_at_low = label low.at two.low_below ∙ ap (relabeled from to) (root_name two.forest low.at low.name two.low_below (ap (λ m. m.link) two.low_is)) ∙ low_new

  label_at_high : class_at labels high.at ≡ to
  label_at_high = label high.at two.high_below ∙ ap (relabeled from to) (root_name two.forest high.at high.name two.high_below (ap (λ m. m.link) two.high_is)) ∙ high_new

  placed_high : (i : ℕ) → i ≡ high.at → IsPlaced after labels i (over low high to)
  placed_high i e =
      let size : (member_at ms high.at).size ≡ high.size = ap (λ m. m.size) two.high_is in
      let filled : 0 < (member_at ms high.at).size = (two.forest.placed high.at two.high_below).filled in
      record {
        filled = omega arith;
        fits = omega (arith, sizes_fit, length-after);
        follows = ap (class_at labels) e ∙ label_at_high;
      }

  placed_low : (i : ℕ) → i ≡ low.at → IsPlaced after labels i (under low high)
  placed_low i e =
      let low_size : (member_at ms low.at).size ≡ low.size = ap (λ m. m.size) two.low_is in
      let high_size : (member_at ms high.at).size ≡ high.size = ap (λ m. m.size) two.high_is in
      let low_filled : 0 < (member_at ms low.at).size = (two.forest.placed low.at two.low_below).filled in
      let high_filled : 0 < (member_at ms high.at).size = (two.forest.placed high.at two.high_below).filled in
      let new : (member_at after high.at).size ≡ low.size + high.size = ap (λ m. m.size) (written_same lowered high.at (over low high to) high_in) in
      record {
        filled = omega arith;
        fits = omega (arith, sizes_fit, length-after);
        follows = (subst (λ k. high.at < k) (sym length-after) two.high_below, omega arith, label_at_high ∙ sym label_at_low ∙ ap (class_at labels) (sym e));
      }

  placed_other : (i : ℕ) → i < length ms → i ≢ high.at → i ≢ low.at → IsPlaced after labels i (member_at ms i)
  placed_other i h not_high not_low = record {
    filled = (two.forest.placed i h).filled;
    fits = subst (λ k. (member_at ms i).size ≤ k) (sym length-after) (two.forest.placed i h).fits;
    follows = follows_on ms after names labels (relabeled from to) i (member_at ms i).size (member_at ms i).link h (omega (arith, length-after))
        (λ p b. sizes_grow p) label (λ c link. relabeled_other from to c (other_root i c h not_high not_low link).0) (two.forest.placed i h).follows;
  }

  placed_after : (i : ℕ) → i < length ms → IsPlaced after labels i (member_at after i)
  placed_after i h = elim (place i) [
    | inl is ↦ subst (IsPlaced after labels i) (sym is.1) (placed_high i is.0)
    | inr rest ↦ elim rest [
      | inl is ↦ subst (IsPlaced after labels i) (sym is.1) (placed_low i is.0)
      | inr is ↦ subst (IsPlaced after labels i) (sym is.2) (placed_other i h is.0 is.1)
    ]
  ]

  -- ---- roots

  -- a root of the new forest is the upper one, or one that stays
  root_after : (i c : ℕ) → i < length ms → (member_at after i).link ≡ Name c → ((i ≡ high.at) × (c ≡ to)) ⊎ (((member_at ms i).link ≡ Name c) × (c ≢ to))
  root_after i c h link = elim (place i) [
    | inl is ↦ inl (is.0, (let e : Name to ≡ Name c = sym (ap (λ m. m.link) is.1) ∙ link in cc))
    | inr rest ↦ elim rest [
      | inl is ↦ absurd (let e : Parent high.at ≡ Name c = sym (ap (λ m. m.link) is.1) ∙ link in cc)
      | inr is ↦ (let old : (member_at ms i).link ≡ Name c = sym (ap (λ m. m.link) is.2) ∙ link in inr (old, (other_root i c h is.0 is.1 old).1))
    ]
  ]

  apart_after : (i j c : ℕ) → i < length ms → j < length ms → (member_at after i).link ≡ Name c → (member_at after j).link ≡ Name c → i ≡ j
  apart_after i j c h k p q = elim (root_after i c h p) [
    | inl a ↦ elim (root_after j c k q) [
      | inl b ↦ a.0 ∙ sym b.0
      | inr b ↦ absurd (b.1 a.1)
    ]
    | inr a ↦ elim (root_after j c k q) [
      | inl b ↦ absurd (a.1 b.1)
      | inr b ↦ two.forest.apart i j c h k a.0 b.0
    ]
  ]

  pub united : IsForest (joined ms low high to) (map (relabeled from to) names)
  united = record {
    few = subst (λ k. k < 2 ^ 64) (sym length-after) two.forest.few;
    classes = subst (λ k. AreClasses k labels) (sym length-after) (classes_united from to two.forest.classes two.to_below two.to_named);
    total = sum_after ∙ two.forest.total ∙ sym length-after;
    placed = λ i h. placed_after i (subst (λ k. i < k) length-after h);
    apart = λ i j c h k p q. apart_after i j c (subst (λ m. i < m) length-after h) (subst (λ m. j < m) length-after k) p q;
  }

-- the roots that were found, in either order
pub two_roots : (ms shown seen : List Member) (names : List ℕ) (first second : Root) (pair : Root × Root) (from to : ℕ)
    → IsForest ms (names_of ms) → names_of ms ≡ names → shown ≡ ms → seen ≡ ms → IsRootOf shown from first → IsRootOf seen to second
    → (pair ≡ (first, second)) ⊎ (pair ≡ (second, first)) → from ≢ to → to < length names → class_at names from ≡ from → class_at names to ≡ to
    → AreTwo ms names pair.0 pair.1 from to
two_roots ms shown seen names first second pair from to forest view is_shown is_seen at_from at_to either differ below from_named to_named =
    let known : IsForest ms names = subst (λ all. IsForest ms all) view forest in
    let one : IsRootOf ms from first = subst (λ all. IsRootOf all from first) is_shown at_from in
    let two : IsRootOf ms to second = subst (λ all. IsRootOf all to second) is_seen at_to in
    let one_name : first.name ≡ from = one.name ∙ ap (λ all. class_at all from) view ∙ from_named in
    let two_name : second.name ≡ to = two.name ∙ ap (λ all. class_at all to) view ∙ to_named in
    elim either [
      | inl is ↦ subst (λ (p : Root × Root). AreTwo ms names p.0 p.1 from to) (sym is) (record {
        forest = known;
        low_below = one.below;
        high_below = two.below;
        low_is = one.member;
        high_is = two.member;
        names_are = inl (one_name, two_name);
        differ = differ;
        to_below = subst (λ n. to < n) known.classes.count below;
        to_named = to_named;
      })
      | inr is ↦ subst (λ (p : Root × Root). AreTwo ms names p.0 p.1 from to) (sym is) (record {
        forest = known;
        low_below = two.below;
        high_below = one.below;
        low_is = two.member;
        high_is = one.member;
        names_are = inr (two_name, one_name);
        differ = differ;
        to_below = subst (λ n. to < n) known.classes.count below;
        to_named = to_named;
      })
    ]
