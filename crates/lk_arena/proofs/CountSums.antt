-- Counts of nodes, worked out one after another in an order in which parts come first.
use Rattle.std.proofs.Common.{◌≡◌, ℕ, ◌+◌, ◌<◌, ◌≤◌, ⊎_elim, List, [], ◌∷◌, length, take, map, set, refl, sym, ◌∙◌, ap, subst, arith}
use Rattle.std.proofs.lemmas.Bool.{cases_eq}
use Rattle.std.proofs.lemmas.List.{length-take-le, get_or-set_same, get_or-set_other, get_or-take}
use Rattle.std.specs.Prelude.{slice_index_or as get_or}
use Rattle.lk_classes.specs.Classes.{class_at, AreClasses}
use Rattle.lk_types.proofs.Members.{each_from_map}
use Rattle.lk_types.specs.Each.{Each}
use Rattle.lk_arena.proofs.EachLemmas.{Each-zip, Each-get_or, OneOf-at}
use Rattle.lk_arena.specs.Counting.{sum_of, counted, saturated, no_count, count_at, type_sum, field_sum, part_sum, type_count, effect_count, AreCounted, IsAmong, IsCountOf, IsPartsFirst}
use Rattle.lk_arena.specs.Kinds.{Kind, OfTypes, OfFields, OfEffects, OfUnit, OfNothing, TakesKinds, HasKind, AreKinded}
use Rattle.lk_arena.specs.Shapes.{shape_at, parts_of, AreNodes}
use Rattle.lk_arena.specs.declared.counting.Count.{Count}
use Rattle.lk_arena.specs.declared.node.Field.{Field}
use Rattle.lk_arena.specs.declared.node.Head.{Head}
use Rattle.lk_arena.specs.declared.node.Head.TheVariants as head
use Rattle.lk_arena.specs.declared.node.Shape.{Shape}
use Rattle.lk_arena.specs.declared.node.Shape.TheVariants.{Free, Open, Empty, Made}
use Rattle.lk_arena.specs.declared.node.Shape.TheVariants as shape

-- ---- sums

saturated_both : (m n a b : ℕ) → m ≡ saturated a → saturated n ≡ saturated b → saturated (m + n) ≡ saturated (a + b)
saturated_both m n a b e f = omega arith

-- ---- the count of a shape, by the counts of its parts

module _ (closed : ℕ) (small : closed ≤ 1) (kind : ℕ → Kind) (f : ℕ → ℕ) (of : ℕ → Count) where
  abbrev Counts : ℕ → Type 0
  Counts p = IsCountOf (kind p) (of p) (f p)

  types_count : (p : ℕ) → kind p ≡ OfTypes → Counts p → (of p).as_type ≡ saturated (f p)
  types_count p k c = subst (λ k. IsCountOf k (of p) (f p)) k c

  fields_count : (p : ℕ) → kind p ≡ OfFields → Counts p → (of p).as_type ≡ saturated (f p)
  fields_count p k c = subst (λ k. IsCountOf k (of p) (f p)) k c

  effects_count : (p : ℕ) → kind p ≡ OfEffects → Counts p → (of p).as_effects ≡ saturated (f p)
  effects_count p k c = subst (λ k. IsCountOf k (of p) (f p)) k c

  sum_types : (ps : List ℕ) → Each (λ k. k ≡ OfTypes) (map kind ps) → Each Counts ps → saturated (type_sum of ps) ≡ saturated (sum_of (map f ps))
  sum_types [] k c = refl
  sum_types (p ∷ ps) k c = saturated_both ((of p).as_type) (type_sum of ps) (f p) (sum_of (map f ps)) (types_count p k.0 c.0) (sum_types ps k.1 c.1)

  sum_fields : (fs : List Field) → Each (λ f. kind f.node ≡ OfTypes) fs → Each (λ f. Counts f.node) fs → saturated (field_sum of fs) ≡ saturated (sum_of (map (λ g. 1 + f g.node) fs))
  sum_fields [] k c = refl
  sum_fields (g ∷ fs) k c =
      let e = types_count g.node k.0 c.0 in
      let r = sum_fields fs k.1 c.1 in
      omega arith

  sum_parts : (h : Head) (ps : List ℕ) → TakesKinds h (map kind ps) → Each Counts ps → saturated (part_sum of h ps) ≡ saturated (sum_of (map f ps))
  sum_parts head.Int [] k c = refl
  sum_parts head.Int (p ∷ ps) k c = absurd k
  sum_parts head.Bool [] k c = refl
  sum_parts head.Bool (p ∷ ps) k c = absurd k
  sum_parts head.Text [] k c = refl
  sum_parts head.Text (p ∷ ps) k c = absurd k
  sum_parts head.List [] k c = absurd k
  sum_parts head.List (p ∷ []) k c = saturated_both ((of p).as_type) 0 (f p) 0 (types_count p k c.0) refl
  sum_parts head.List (p ∷ q ∷ ps) k c = absurd k
  sum_parts head.Fields [] k c = absurd k
  sum_parts head.Fields (p ∷ []) k c = saturated_both ((of p).as_type) 0 (f p) 0 (fields_count p k c.0) refl
  sum_parts head.Fields (p ∷ q ∷ ps) k c = absurd k
  sum_parts head.Tags [] k c = absurd k
  sum_parts head.Tags (p ∷ []) k c = saturated_both ((of p).as_type) 0 (f p) 0 (fields_count p k c.0) refl
  sum_parts head.Tags (p ∷ q ∷ ps) k c = absurd k
  sum_parts head.Fun [] k c = absurd k
  sum_parts head.Fun (p ∷ []) k c = absurd k
  sum_parts head.Fun (p ∷ q ∷ ps) k c =
      saturated_both ((of p).as_effects) (type_sum of (q ∷ ps)) (f p) (sum_of (map f (q ∷ ps))) (effects_count p k.0 c.0) (sum_types (q ∷ ps) (k.1, k.2) c.1)

  pub count_shape :
      (k : Kind) (s : Shape) (count : Count) → HasKind kind k s → Each Counts (parts_of s) →
      count.as_type ≡ saturated (type_count closed of s) → count.as_effects ≡ saturated (effect_count closed of s) → IsCountOf k count (counted closed k s f)
  count_shape OfTypes Free count h c e r = e
  count_shape OfTypes (Made g ps) count h c e r = e ∙ saturated_both 1 (part_sum of g ps) 1 (sum_of (map f ps)) refl (sum_parts g ps h c)
  count_shape OfTypes Open count h c e r = absurd h
  count_shape OfTypes Empty count h c e r = absurd h
  count_shape OfTypes (shape.Row fs t) count h c e r = absurd h
  count_shape OfFields Free count h c e r = absurd h
  count_shape OfFields (Made g ps) count h c e r = absurd h
  count_shape OfFields Open count h c e r = e
  count_shape OfFields Empty count h c e r = e
  count_shape OfFields (shape.Row fs t) count h c e r =
      let a = sum_fields fs h.0 (each_from_map Counts (λ (g : Field). g.node) fs c.1) in
      let b = fields_count t h.1 c.0 in
      omega arith
  count_shape OfEffects Free count h c e r = absurd h
  count_shape OfEffects (Made g ps) count h c e r = absurd h
  count_shape OfEffects Open count h c e r = r
  count_shape OfEffects Empty count h c e r = r
  count_shape OfEffects (shape.Row fs t) count h c e r =
      let b = effects_count t h.1 c.0 in
      omega arith
  count_shape OfUnit s count h c e r = tt
  count_shape OfNothing s count h c e r = tt

-- ---- one after another

-- the counts of the first classes of the order
abbrev pub AreDone : (ℕ → ℕ) → List Shape → List ℕ → List ℕ → List Count → ℕ → Type 0
AreDone ends shapes classes order counts done =
    (kind : ℕ → Kind) (f : ℕ → ℕ) → AreKinded shapes classes kind → AreCounted ends shapes classes kind f →
    (k : ℕ) → k < done → class_at classes (get_or order k 0) ≡ get_or order k 0 →
    IsCountOf (kind (get_or order k 0)) (get_or counts (get_or order k 0) no_count) (f (get_or order k 0))

module _ (ends : ℕ → ℕ) (shapes : List Shape) (classes order : List ℕ) (named : AreClasses (length shapes) classes) (first : IsPartsFirst shapes classes order) where
  -- the nodes of a class have one count
  module _ (kind : ℕ → Kind) (f : ℕ → ℕ) (kinded : AreKinded shapes classes kind) (count : AreCounted ends shapes classes kind f) where
    same_count : (p : ℕ) → p < length shapes → f (class_at classes p) ≡ f p
    same_count p l =
        let c = class_at classes p in
        count c (named.below p l) ∙ ap (λ s. counted (ends s) (kind c) (shape_at shapes s) f) (named.named p l)
        ∙ ap (λ k. counted (ends c) k (shape_at shapes c) f) (kinded p l).0 ∙ sym (count p l)

    of_class : (counts : List Count) (p : ℕ) → p < length shapes →
        IsCountOf (kind (class_at classes p)) (count_at classes counts p) (f (class_at classes p)) → IsCountOf (kind p) (count_at classes counts p) (f p)
    of_class counts p l c =
        subst (λ k. IsCountOf k (count_at classes counts p) (f p)) (kinded p l).0 (subst (λ n. IsCountOf (kind (class_at classes p)) (count_at classes counts p) n) (same_count p l) c)

  pub counts_more :
      (counts : List Count) (done : ℕ) (count : Count) → ends (get_or order done 0) ≤ 1 → AreNodes shapes → length counts ≡ length shapes → done < length order → AreDone ends shapes classes order counts done →
      count.as_type ≡ saturated (type_count (ends (get_or order done 0)) (count_at classes counts) (shape_at shapes (get_or order done 0))) →
      count.as_effects ≡ saturated (effect_count (ends (get_or order done 0)) (count_at classes counts) (shape_at shapes (get_or order done 0))) →
      AreDone ends shapes classes order (set counts (get_or order done 0) count) (done + 1)
  counts_more counts done count small nodes size h are e r kind f kinded count_is k l name =
      let node = get_or order done 0 in
      let below : node < length shapes = Each-get_or (λ i. i < length shapes) order done 0 h first.nodes in
      ⊎_elim
      (λ (is : get_or order k 0 ≡ node).
      let of = count_at classes counts in
      let parts : Each (λ p. IsCountOf (kind p) (of p) (f p)) (parts_of (shape_at shapes node)) =
      Each-zip (IsAmong classes (take done order)) (λ p. p < length shapes) (λ p. IsCountOf (kind p) (of p) (f p))
      (λ p among b.
      let o = OneOf-at (λ d. d ≡ class_at classes p) (take done order) 0 among in
      let n : length (take done order) ≡ done = length-take-le done order (omega arith) in
      let j : o.0 < done = let q = o.1 in omega arith in
      let at : get_or order o.0 0 ≡ class_at classes p = sym (get_or-take done order o.0 0 j) ∙ o.2 in
      of_class kind f kinded count_is counts p b
      (rw at at (are kind f kinded count_is o.0 j (ap (class_at classes) at ∙ named.named p b ∙ sym at))))
      (parts_of (shape_at shapes node)) (first.parts done h) (nodes node below) in
      let here : IsCountOf (kind node) count (f node) =
      subst (λ n. IsCountOf (kind node) count n)
      (sym (count_is node below ∙ ap (λ s. counted (ends s) (kind node) (shape_at shapes s) f) (ap (class_at classes) (sym is) ∙ name ∙ is)))
      (count_shape (ends node) small kind f of (kind node) (shape_at shapes node) count (kinded node below).1 parts e r) in
      rw is (rw (get_or-set_same counts node count no_count (omega arith)) here))
      (λ (ne : get_or order k 0 ≡ node → ⊥).
      let less : k < done = ⊎_elim (λ (same : k ≡ done). absurd (ne (ap (λ n. get_or order n 0) same))) (λ (apart : k ≡ done → ⊥). omega arith) (cases_eq k done) in
      rw (get_or-set_other counts node (get_or order k 0) count no_count ne) (are kind f kinded count_is k less name))
      (cases_eq (get_or order k 0) node)

  pub all_counts :
      (counts : List Count) → AreDone ends shapes classes order counts (length order) →
      (kind : ℕ → Kind) (f : ℕ → ℕ) → AreKinded shapes classes kind → AreCounted ends shapes classes kind f →
      (i : ℕ) → i < length shapes → IsCountOf (kind i) (get_or counts (class_at classes i) no_count) (f i)
  all_counts counts are kind f kinded count i l =
      let c = class_at classes i in
      let o = OneOf-at (λ d. d ≡ c) order 0 (first.whole c (named.below i l) (named.named i l)) in
      of_class kind f kinded count counts i l (rw o.2 at (are kind f kinded count o.0 o.1 (ap (class_at classes) o.2 ∙ named.named i l ∙ sym o.2)))
