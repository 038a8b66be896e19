-- The names that a forest gives, and one more member.
use Rattle.std.proofs.Common.{◌≡◌, refl, sym, ap, subst, ◌∙◌, ◌⊎◌, inl, inr, ℕ, zero, suc, ◌+◌, ◌<◌, ◌≤◌, ◌^◌, List, [], ◌∷◌, ◌++◌, length, arith, length-append}
use Rattle.std.proofs.lemmas.Bool.{cases_lt}
use Rattle.std.proofs.lemmas.List.{ext_get_or, get_or-map, length-map, get_or_push, get_or_append_left}
use Rattle.std.proofs.lemmas.List.Sums.{sum_by_push}
use Rattle.lk_classes.specs.Classes.{AreClasses, class_at}
use Rattle.lk_classes.specs.Forest.{member_at, name_by, names_of, weight, Follows, IsForest, IsPlaced}
use Rattle.lk_classes.specs.declared.forest.Link.{Link}
use Rattle.lk_classes.specs.declared.forest.Link.TheVariants.{Name, Parent}
use Rattle.lk_classes.specs.declared.forest.Member.{Member}

-- what follows in a larger forest, whose classes have other names
pub follows_on : (ms new : List Member) (names others : List ℕ) (name : ℕ → ℕ) (i size : ℕ) (link : Link)
    → i < length ms → length ms ≤ length new
    → ((p : ℕ) → p < length ms → (member_at ms p).size ≤ (member_at new p).size)
    → ((p : ℕ) → p < length ms → class_at others p ≡ name (class_at names p))
    → ((c : ℕ) → link ≡ Name c → name c ≡ c)
    → Follows ms names i size link → Follows new others i size link
follows_on ms new names others name i size (Name c) below more sizes renamed same is = renamed i below ∙ ap name is ∙ same c refl
follows_on ms new names others name i size (Parent p) below more sizes renamed same is = (
  omega arith,
  (let grows : size < (member_at ms p).size = is.1 in let least : (member_at ms p).size ≤ (member_at new p).size = sizes p is.0 in omega arith),
  renamed p is.0 ∙ ap name is.2 ∙ sym (renamed i below),
)

module _ {ms : List Member} {names : List ℕ} (forest : IsForest ms names) where
  -- the name found on the way up
  name_found : (steps i : ℕ) → i < length ms → length ms < steps + (member_at ms i).size → name_by ms steps (member_at ms i).link ≡ class_at names i
  name_found zero i below enough = absurd (let most : (member_at ms i).size ≤ length ms = (forest.placed i below).fits in omega arith)
  name_found (suc steps) i below enough =
      elim (member_at ms i).link as (λ link. Follows ms names i (member_at ms i).size link → name_by ms (suc steps) link ≡ class_at names i) [
        | Name c ↦ λ is. sym is
        | Parent p ↦ λ is. name_found steps p is.0 (let grows : (member_at ms i).size < (member_at ms p).size = is.1 in omega arith) ∙ is.2
      ] (forest.placed i below).follows

  -- a forest gives no other names
  pub names_of-forest : names_of ms ≡ names
  unfolding names_of
  names_of-forest =
      ext_get_or 0 _ names (length-map ms _ ∙ sym forest.classes.count) (λ i below.
      let b : i < length ms = rw (← length-map ms (λ m. name_by ms (length ms) m.link)) below in
      get_or-map (λ m. name_by ms (length ms) m.link) ms i (record { size = 0; link = Name 0 }) 0 b
      ∙ name_found (length ms) i b (let some : 0 < (member_at ms i).size = (forest.placed i b).filled in omega arith))

  pub is_forest : IsForest ms (names_of ms)
  is_forest = subst (IsForest ms) (sym names_of-forest) forest

  pub are_classes : AreClasses (length (names_of ms)) (names_of ms)
  are_classes = subst (λ all. AreClasses (length all) all) (sym names_of-forest) (subst (λ n. AreClasses n names) (sym forest.classes.count) forest.classes)

  -- a root has the name of its class
  pub root_name : (i c : ℕ) → i < length ms → (member_at ms i).link ≡ Name c → class_at names i ≡ c
  root_name i c h is = subst (Follows ms names i (member_at ms i).size) is (forest.placed i h).follows

-- ---- no member

pub none : IsForest [] []
none = record {
  few = omega arith;
  classes = record { count = refl; below = λ i h. absurd (omega arith); named = λ i h. absurd (omega arith) };
  total = refl;
  placed = λ i h. absurd (omega arith);
  apart = λ i j c h k p q. absurd (omega arith);
}

-- ---- one more member

old_or_new : (n i : ℕ) → i < n + 1 → (i < n) ⊎ (i ≡ n)
old_or_new n i h = elim (cases_lt i n) [ inl l ↦ inl l | inr g ↦ inr (omega arith) ]

module _ {n : ℕ} {names : List ℕ} (classes : AreClasses n names) where
  name_before : (i : ℕ) → i < n → class_at (names ++ n ∷ []) i ≡ class_at names i
  name_before i h = get_or_append_left names _ 0 i (let count : length names ≡ n = classes.count in omega arith)

  name_last : (i : ℕ) → i ≡ n → class_at (names ++ n ∷ []) i ≡ n
  name_last i e = get_or_push names n 0 i (classes.count ∙ sym e)

  classes_added : AreClasses (n + 1) (names ++ n ∷ [])
  classes_added = record {
    count = length-append names (n ∷ []) ∙ ap (λ k. k + 1) classes.count;
    below = λ i h. elim (old_or_new n i h) [
      | inl l ↦ (let is : class_at (names ++ n ∷ []) i ≡ class_at names i = name_before i l in let b : class_at names i < n = classes.below i l in omega arith)
      | inr e ↦ (let is : class_at (names ++ n ∷ []) i ≡ n = name_last i e in omega arith)
    ];
    named = λ i h. elim (old_or_new n i h) [
      | inl l ↦ ap (class_at (names ++ n ∷ [])) (name_before i l) ∙ name_before (class_at names i) (classes.below i l) ∙ classes.named i l ∙ sym (name_before i l)
      | inr e ↦ ap (class_at (names ++ n ∷ [])) (name_last i e) ∙ name_last n refl ∙ sym (name_last i e)
    ];
  }

abbrev fresh : List Member → Member
fresh ms = record { size = 1; link = Name (length ms) }

module _ {ms : List Member} {names : List ℕ} (forest : IsForest ms names) where
  member_before : (i : ℕ) → i < length ms → member_at (ms ++ fresh ms ∷ []) i ≡ member_at ms i
  member_before i h = get_or_append_left ms _ _ i h

  member_last : (i : ℕ) → i ≡ length ms → member_at (ms ++ fresh ms ∷ []) i ≡ fresh ms
  member_last i e = get_or_push ms _ _ i (sym e)

  -- a root of the new forest is an old one, or the new member
  root_added : (i c : ℕ) → i < length ms + 1 → (member_at (ms ++ fresh ms ∷ []) i).link ≡ Name c
      → ((i < length ms) × ((member_at ms i).link ≡ Name c) × (c < length ms)) ⊎ ((i ≡ length ms) × (c ≡ length ms))
  root_added i c h link = elim (old_or_new (length ms) i h) [
    | inl l ↦ (let old : (member_at ms i).link ≡ Name c = sym (ap (λ m. m.link) (member_before i l)) ∙ link in
        inl (l, old, subst (λ k. k < length ms) (root_name forest i c l old) (forest.classes.below i l)))
    | inr e ↦ inr (e, (let both : Name (length ms) ≡ Name c = sym (ap (λ m. m.link) (member_last i e)) ∙ link in cc))
  ]

  apart_added : (i j c : ℕ) → i < length ms + 1 → j < length ms + 1
      → (member_at (ms ++ fresh ms ∷ []) i).link ≡ Name c → (member_at (ms ++ fresh ms ∷ []) j).link ≡ Name c → i ≡ j
  apart_added i j c h k p q = elim (root_added i c h p) [
    | inl a ↦ elim (root_added j c k q) [
      | inl b ↦ forest.apart i j c a.0 b.0 a.1 b.1
      | inr b ↦ absurd (let less : c < length ms = a.2 in let is : c ≡ length ms = b.1 in omega arith)
    ]
    | inr a ↦ elim (root_added j c k q) [
      | inl b ↦ absurd (let less : c < length ms = b.2 in let is : c ≡ length ms = a.1 in omega arith)
      | inr b ↦ a.0 ∙ sym b.0
    ]
  ]

  placed_added : (i : ℕ) → i < length ms + 1 → IsPlaced (ms ++ fresh ms ∷ []) (names ++ length ms ∷ []) i (member_at (ms ++ fresh ms ∷ []) i)
  placed_added i h = let n : length (ms ++ fresh ms ∷ []) ≡ length ms + 1 = length-append ms _ in elim (old_or_new (length ms) i h) [
    | inl l ↦ subst (IsPlaced (ms ++ fresh ms ∷ []) (names ++ length ms ∷ []) i) (sym (member_before i l)) (record {
      filled = (forest.placed i l).filled;
      fits = (let fits : (member_at ms i).size ≤ length ms = (forest.placed i l).fits in omega arith);
      follows = follows_on ms (ms ++ fresh ms ∷ []) names (names ++ length ms ∷ []) (λ c. c) i (member_at ms i).size (member_at ms i).link l (omega arith)
          (λ p b. (let is : (member_at (ms ++ fresh ms ∷ []) p).size ≡ (member_at ms p).size = ap (λ m. m.size) (member_before p b) in omega arith))
          (λ p b. name_before forest.classes p b) (λ c is. refl) (forest.placed i l).follows;
    })
    | inr e ↦ subst (IsPlaced (ms ++ fresh ms ∷ []) (names ++ length ms ∷ []) i) (sym (member_last i e)) (record {
      filled = omega arith;
      fits = omega arith;
      follows = name_last forest.classes i e;
    })
  ]

  pub added : length ms + 1 < 2 ^ 64 → IsForest (ms ++ fresh ms ∷ []) (names ++ length ms ∷ [])
  added few = let n : length (ms ++ fresh ms ∷ []) ≡ length ms + 1 = length-append ms _ in record {
    few = omega arith;
    classes = subst (λ k. AreClasses k (names ++ length ms ∷ [])) (sym n) (classes_added forest.classes);
    total = sum_by_push weight ms (fresh ms) ∙ ap (λ k. k + 1) forest.total ∙ sym n;
    placed = λ i h. placed_added i (omega arith);
    apart = λ i j c h k p q. apart_added i j c (omega arith) (omega arith) p q;
  }
