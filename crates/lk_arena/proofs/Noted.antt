-- Fields that go into a map from the last one to the first.
use Rattle.std.proofs.Common.{arith, ◌≡◌, refl, sym, ap, subst, ◌∙◌, ℕ, ◌+◌, ◌-◌, ◌<◌, ◌≤◌, Bool, true, false, cond, List, [], ◌∷◌, ◌++◌, length, take, drop, get_or, zero, suc, Option, Some, None, inl, inr, ⊎_elim}
use Rattle.std.proofs.lemmas.List.{drop_more, take_more}
use Rattle.std.proofs.lemmas.Map.Text.{btree_map_updates_str}
use Rattle.std.specs.Borrow.{Bor}
use Rattle.std.specs.BTreeMap.{UpdatesBy, is_at}
use Rattle.std.specs.Cmp.Lexicographic.{slice_cmp}
use Rattle.std.specs.Map.{lookup}
use Rattle.std.specs.Ordering.{nat_cmp}
use Rattle.std.specs.Prelude.{◌||◌, is_some}
use Rattle.std.specs.Str.{bytes_eq}
use Rattle.lk_types.proofs.Members.{each_both}
use Rattle.lk_types.specs.Each.{Each, OneOf}
use Rattle.lk_types.specs.Rows.{Label}
use Rattle.lk_arena.proofs.Chains.{or_found, found_at-append}
use Rattle.lk_arena.proofs.RowAlgebra.{label_cases}
use Rattle.lk_arena.specs.Lookups.{AreNoted, ByLabel, HasNodes, is_label, is_noted, node_in}
use Rattle.lk_arena.specs.Shapes.{IsDistinct, found_at}
use Rattle.lk_arena.specs.declared.node.Field.{Field}

same_test : (a b : Label) → bytes_eq a b ≡ bytes_eq b a
same_test a b = ⊎_elim (λ e. λ i. bytes_eq (e.1 i) (sym e.1 i)) (λ e. ⊎_elim (λ q. sym (λ i. bytes_eq (q.1 i) (sym q.1 i))) (λ q. e ∙ sym q) (label_cases b a)) (label_cases a b)

lacks : {A : Type 0} (o : Option A) → is_some o ≡ false → o ≡ None
lacks None e = refl
lacks (Some a) e = cc

-- a map into which a label and a node went
abbrev pub HasPut : ByLabel → ByLabel → Bor Label → ℕ → Type 0
HasPut m n key node = UpdatesBy (λ (x y : Bor Label). slice_cmp nat_cmp x.now y.now) (λ (k : Bor Label). slice_cmp nat_cmp key.now k.now) m n (Some node)

pub put_at : (m n : ByLabel) (key : Bor Label) (node : ℕ) → HasPut m n key node → (l : Label) → node_in n l ≡ cond (bytes_eq l key.now) (Some node) (node_in m l)
put_at m n key node put l = btree_map_updates_str key.now m n (Some node) put l ∙ ap (λ b. cond b (Some node) (node_in m l)) (same_test key.now l)

-- the field before those of a number on
module _ (fs : List Field) (i : ℕ) (f : Field) (some : 0 < i) (within : i ≤ length fs) (is : f ≡ get_or fs (i - 1) f) where
  pub one_before : drop (i - 1) fs ≡ f ∷ drop i fs
  one_before =
      let below : i - 1 < length fs = omega (arith, some, within) in
      let next : i - 1 + 1 ≡ i = omega (arith, some) in
      drop_more fs (i - 1) f below ∙ (λ j. sym is j ∷ drop (next j) fs)

  module _ (m n : ByLabel) (key : Bor Label) (key_is : key.now ≡ f.label) (put : HasPut m n key f.node) where
    pub nodes_more : HasNodes m (drop i fs) → HasNodes n (drop (i - 1) fs)
    nodes_more has l =
        put_at m n key f.node put l ∙ (λ j. cond (bytes_eq l (key_is j)) (Some f.node) (has l j)) ∙ sym (ap (λ gs. found_at gs l) one_before)

    noted_here : (l : Label) → is_noted n l ≡ (bytes_eq l f.label || is_noted m l)
    noted_here l = ap is_some (put_at m n key f.node put l) ∙ by_test (bytes_eq l key.now) ∙ ap (λ k. bytes_eq l k || is_noted m l) key_is
      where
        by_test : (b : Bool) → is_some (cond b (Some f.node) (node_in m l)) ≡ (b || is_noted m l)
        by_test true = refl
        by_test false = refl

    pub noted_more : (first : ByLabel) → ((l : Label) → is_noted m l ≡ (is_label (drop i fs) l || is_noted first l)) → (l : Label) → is_noted n l ≡ (is_label (drop (i - 1) fs) l || is_noted first l)
    noted_more first noted l =
        noted_here l ∙ ap (λ b. bytes_eq l f.label || b) (noted l) ∙ by_test (bytes_eq l f.label) ∙ sym (ap (λ gs. is_label gs l || is_noted first l) one_before)
      where
        by_test : (b : Bool) → (b || (is_label (drop i fs) l || is_noted first l)) ≡ (is_some (cond b (Some f.node) (found_at (drop i fs) l)) || is_noted first l)
        by_test true = refl
        by_test false = refl

    -- a label that was there already stands twice
    pub twice_found : HasNodes m (drop i fs) → is_some (node_in m key.now) ≡ true → IsDistinct (drop (i - 1) fs) → ⊥
    twice_found has there distinct =
        let here : IsDistinct (f ∷ drop i fs) = subst IsDistinct one_before distinct in
        let e : true ≡ false = sym there ∙ ap is_some (has key.now ∙ ap (found_at (drop i fs)) key_is ∙ here.0) in cc

    pub once_more : HasNodes m (drop i fs) → is_some (node_in m key.now) ≡ false → IsDistinct (drop i fs) → IsDistinct (drop (i - 1) fs)
    once_more has none distinct =
        subst IsDistinct (sym one_before) (lacks (found_at (drop i fs) f.label) (ap is_some (sym (has key.now ∙ ap (found_at (drop i fs)) key_is)) ∙ none), distinct)

-- ---- none yet, and all of them

dropped : {A : Type 0} (xs : List A) (i : ℕ) → length xs ≤ i → drop i xs ≡ []
dropped [] zero h = refl
dropped [] (suc i) h = refl
dropped (x ∷ xs) zero h = absurd (omega arith)
dropped (x ∷ xs) (suc i) h = dropped xs i (omega arith)

nothing_in : (m : ByLabel) → m.entries ≡ [] → (l : Label) → node_in m l ≡ None
nothing_in m none l = ap (lookup (is_at (λ (k : Bor Label). slice_cmp nat_cmp l k.now))) none

pub no_nodes : (m : ByLabel) (fs : List Field) (i : ℕ) → m.entries ≡ [] → length fs ≤ i → HasNodes m (drop i fs)
no_nodes m fs i none end l = nothing_in m none l ∙ sym (ap (λ gs. found_at gs l) (dropped fs i end))

pub none_noted : (m : ByLabel) (fs : List Field) (i : ℕ) → length fs ≤ i → (l : Label) → is_noted m l ≡ (is_label (drop i fs) l || is_noted m l)
none_noted m fs i end l = sym (ap (λ gs. is_label gs l || is_noted m l) (dropped fs i end))

pub all_nodes : (m : ByLabel) (fs : List Field) (i : ℕ) → i ≤ 0 → HasNodes m (drop i fs) → HasNodes m fs
all_nodes m fs zero h has = has
all_nodes m fs (suc i) h has = absurd (omega arith)

pub all_noted : (m first : ByLabel) (fs : List Field) (i : ℕ) → i ≤ 0 → ((l : Label) → is_noted m l ≡ (is_label (drop i fs) l || is_noted first l)) → (l : Label) → is_noted m l ≡ (is_label fs l || is_noted first l)
all_noted m first fs zero h noted = noted
all_noted m first fs (suc i) h noted = absurd (omega arith)

pub all_distinct : (fs : List Field) (i : ℕ) → i ≤ 0 → IsDistinct (drop i fs) → IsDistinct fs
all_distinct fs zero h distinct = distinct
all_distinct fs (suc i) h distinct = absurd (omega arith)

pub distinct_behind : (fs : List Field) (i : ℕ) → IsDistinct fs → IsDistinct (drop i fs)
distinct_behind [] zero d = tt
distinct_behind [] (suc i) d = tt
distinct_behind (f ∷ fs) zero d = d
distinct_behind (f ∷ fs) (suc i) d = distinct_behind fs i d.1

pub each_taken : {A : Type 0} (P : A → Type 0) (xs : List A) (i : ℕ) (x : A) → i < length xs → x ≡ get_or xs i x → Each P (take i xs) → P x → Each P (take (i + 1) xs)
each_taken P xs i x below is all now = subst (Each P) (sym (take_more xs i x below ∙ ap (λ y. take i xs ++ y ∷ []) (sym is))) (each_both P (take i xs) (x ∷ []) all (now, tt))

-- ---- rows that come one behind another

pub noted_start : (own : List Field) (nodes : ByLabel) → nodes.entries ≡ [] → AreNoted nodes own own
noted_start own nodes none l = ap (λ o. is_label own l || is_some o) (nothing_in nodes none l) ∙ by_test (is_label own l)
  where
    by_test : (b : Bool) → (b || false) ≡ b
    by_test true = refl
    by_test false = refl

pub noted_whole : (m n : ByLabel) (left fields : List Field) → AreNoted m left fields → ((l : Label) → is_noted n l ≡ (is_label left l || is_noted m l)) → (l : Label) → is_noted n l ≡ is_label fields l
noted_whole m n left fields are noted l = noted l ∙ are l

either_place : (a b : Option ℕ) → (is_some b || is_some a) ≡ is_some (or_found a b)
unfolding or_found
either_place None None = refl
either_place None (Some n) = refl
either_place (Some m) None = refl
either_place (Some m) (Some n) = refl

pub noted_behind : (n : ByLabel) (fields more : List Field) → ((l : Label) → is_noted n l ≡ is_label fields l) → AreNoted n more (fields ++ more)
noted_behind n fields more whole l =
    ap (λ b. is_label more l || b) (whole l) ∙ either_place (found_at fields l) (found_at more l) ∙ sym (ap is_some (found_at-append fields more l))

pub none_found : (n : ByLabel) (fields others : List Field) → ((l : Label) → is_noted n l ≡ is_label fields l) → Each (λ f. is_noted n f.label ≡ false) others → Each (λ f. found_at fields f.label ≡ None) others
none_found n fields [] whole each = tt
none_found n fields (f ∷ others) whole each = (lacks (found_at fields f.label) (sym (whole f.label) ∙ each.0), none_found n fields others whole each.1)

pub one_found : (n : ByLabel) (fields others : List Field) → ((l : Label) → is_noted n l ≡ is_label fields l) → OneOf (λ f. is_noted n f.label ≡ true) others → OneOf (λ f. is_label fields f.label ≡ true) others
one_found n fields [] whole one = one
one_found n fields (f ∷ others) whole (inl is) = inl (sym (whole f.label) ∙ is)
one_found n fields (f ∷ others) whole (inr rest) = inr (one_found n fields others whole rest)
