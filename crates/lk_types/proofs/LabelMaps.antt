-- Finite maps from labels: what stands at a label after an insertion, lists of entries in order, maps of the same entries.
use Rattle.std.proofs.Common.{◌≡◌, Bool, true, false, ◌&&◌, ◌⊎◌, inl, inr, ⊎_elim, List, [], ◌∷◌, map, refl, sym, ◌∙◌, ap, Option, Some, None, cond}
use Rattle.std.specs.Cmp.Lexicographic.{nat_list_cmp_total}
use Rattle.std.specs.FinMap as fin
use Rattle.std.specs.Option.{option_map}
use Rattle.std.specs.Ordering.{eq_by_cmp, is_eq, is_lt, ordering_reverse}
use Rattle.std.specs.Prelude.{T}
use Rattle.std.specs.declared.cmp.Ordering.{Ordering}
use Rattle.std.specs.declared.cmp.Ordering.TheVariants.{Less, Equal, Greater}
use Rattle.std.proofs.Math.Facts.{yes_and}
use Rattle.lk_types.specs.Rows.{Label, label_order}

-- ---- equal labels tie, and no others

pub self_equal : (o : Ordering) → o ≡ ordering_reverse o → is_eq o ≡ true
self_equal Less e = cc
self_equal Equal e = refl
self_equal Greater e = cc

pub labels_tie : (l k : Label) → l ≡ k → eq_by_cmp label_order l k ≡ true
labels_tie l k e = ap (λ k. is_eq (label_order l k)) (sym e) ∙ self_equal (label_order l l) (nat_list_cmp_total.antisymm l l)

pub not_equal : (o : Ordering) → (o ≡ Equal → ⊥) → is_eq o ≡ false
not_equal Less n = refl
not_equal Equal n = absurd (n refl)
not_equal Greater n = refl

pub tied_labels : (l k : Label) → label_order l k ≡ Equal → l ≡ k
tied_labels l k e = fin.slice_cmp-IsAntisymmetric fin.nat_cmp-IsAntisymmetric l k e

pub labels_differ : (l k : Label) → (l ≡ k → ⊥) → eq_by_cmp label_order l k ≡ false
labels_differ l k n = not_equal (label_order l k) (λ e. n (tied_labels l k e))

abbrev pub Tied : Label → Label → Type 0
Tied l k = (eq_by_cmp label_order l k ≡ true) × (l ≡ k)

abbrev pub Differ : Label → Label → Type 0
Differ l k = (eq_by_cmp label_order l k ≡ false) × (l ≡ k → ⊥)

true_false : true ≡ false → ⊥
true_false e = cc

pub tie_cases : (l k : Label) → Tied l k ⊎ Differ l k
tie_cases l k = by_order (label_order l k) refl
  where
    by_order : (o : Ordering) → label_order l k ≡ o → Tied l k ⊎ Differ l k
    by_order Less is = inr (ap is_eq is, λ same. true_false (sym (labels_tie l k same) ∙ ap is_eq is))
    by_order Equal is = inl (ap is_eq is, tied_labels l k is)
    by_order Greater is = inr (ap is_eq is, λ same. true_false (sym (labels_tie l k same) ∙ ap is_eq is))

-- ---- tests

pub first_holds : (a b : Bool) → T (a && b) → T a
first_holds true b p = tt
first_holds false b p = p

pub second_holds : (a b : Bool) → T (a && b) → T b
second_holds true b p = p
second_holds false b p = absurd p

less_differs : (o : Ordering) → T (is_lt o) → is_eq o ≡ false
less_differs Less p = refl
less_differs Equal p = absurd p
less_differs Greater p = absurd p

-- ---- maps

module _ {X : Type 0} where
  pub same_maps : (m n : fin.FinMap label_order X) → ((l : Label) → fin.get m l ≡ fin.get n l) → m ≡ n
  same_maps m n h = fin.same_map nat_list_cmp_total (fin.slice_cmp-IsAntisymmetric fin.nat_cmp-IsAntisymmetric) m n h

  pub get_here : (m : fin.FinMap label_order X) (k : Label) (x : X) (l : Label) → l ≡ k → fin.get (fin.insert m k x) l ≡ Some x
  get_here m k x l e = fin.get-insert nat_list_cmp_total m k x l ∙ ap (λ b. cond b (Some x) (fin.get m l)) (labels_tie l k e)

  pub get_there : (m : fin.FinMap label_order X) (k : Label) (x : X) (l : Label) → (l ≡ k → ⊥) → fin.get (fin.insert m k x) l ≡ fin.get m l
  get_there m k x l n = fin.get-insert nat_list_cmp_total m k x l ∙ ap (λ b. cond b (Some x) (fin.get m l)) (labels_differ l k n)

  pub removed_here : (m : fin.FinMap label_order X) (k l : Label) → l ≡ k → fin.get (fin.remove m k) l ≡ None
  removed_here m k l e = fin.get-remove nat_list_cmp_total m k l ∙ ap (λ b. cond b None (fin.get m l)) (labels_tie l k e)

  pub removed_there : (m : fin.FinMap label_order X) (k l : Label) → (l ≡ k → ⊥) → fin.get (fin.remove m k) l ≡ fin.get m l
  removed_there m k l n = fin.get-remove nat_list_cmp_total m k l ∙ ap (λ b. cond b None (fin.get m l)) (labels_differ l k n)

  -- two labels in either order
  pub insert_swap : (m : fin.FinMap label_order X) (l k : Label) (a b : X) → (l ≡ k → ⊥) → fin.insert (fin.insert m k b) l a ≡ fin.insert (fin.insert m l a) k b
  insert_swap m l k a b n = same_maps (fin.insert (fin.insert m k b) l a) (fin.insert (fin.insert m l a) k b) at
    where
      at : (q : Label) → fin.get (fin.insert (fin.insert m k b) l a) q ≡ fin.get (fin.insert (fin.insert m l a) k b) q
      at q =
          ⊎_elim
          (λ (e : Tied q l).
          get_here (fin.insert m k b) l a q e.1
          ∙ sym (get_there (fin.insert m l a) k b q (λ same. n (sym e.1 ∙ same)) ∙ get_here m l a q e.1))
          (λ (d : Differ q l).
          get_there (fin.insert m k b) l a q d.1
          ∙ ⊎_elim
          (λ (e : Tied q k). get_here m k b q e.1 ∙ sym (get_here (fin.insert m l a) k b q e.1))
          (λ (f : Differ q k). get_there m k b q f.1 ∙ sym (get_there (fin.insert m l a) k b q f.1 ∙ get_there m l a q d.1))
          (tie_cases q k))
          (tie_cases q l)

  -- ---- lists of entries

  pub find_here : (l : Label) (e : Label × X) (es : List (Label × X)) → l ≡ e.0 → fin.find label_order l (e ∷ es) ≡ Some e.1
  find_here l e es same = ap (λ b. cond b (Some e.1) (fin.find label_order l es)) (labels_tie l e.0 same)

  pub find_there : (l : Label) (e : Label × X) (es : List (Label × X)) → (l ≡ e.0 → ⊥) → fin.find label_order l (e ∷ es) ≡ fin.find label_order l es
  find_there l e es n = ap (λ b. cond b (Some e.1) (fin.find label_order l es)) (labels_differ l e.0 n)

  -- the label is below all of these, and they are in order
  abbrev is_below : Label → List (Label × X) → Bool
  is_below l [] = true
  is_below l (e ∷ es) = is_lt (label_order l e.0) && is_below l es

  abbrev in_order : List (Label × X) → Bool
  in_order es = fin.is_sorted label_order es

  -- the first_holds label of a list in order stands nowhere in the rest
  pub find_rest : (l : Label) (x : X) (es : List (Label × X)) → T (fin.is_sorted label_order ((l, x) ∷ es)) → fin.find label_order l es ≡ None
  find_rest l x [] h = refl
  find_rest l x (e ∷ es) h =
      let below = first_holds (is_below l (e ∷ es)) (in_order (e ∷ es)) h in
      let rest = second_holds (is_below l (e ∷ es)) (in_order (e ∷ es)) h in
      ap (λ b. cond b (Some e.1) (fin.find label_order l es)) (less_differs (label_order l e.0) (first_holds (is_lt (label_order l e.0)) (is_below l es) below))
      ∙ find_rest l x es (yes_and (is_below l es) (in_order es) (second_holds (is_lt (label_order l e.0)) (is_below l es) below) (second_holds (is_below e.0 es) (in_order es) rest))

  pub sorted_rest : (e : Label × X) (es : List (Label × X)) → T (fin.is_sorted label_order (e ∷ es)) → T (fin.is_sorted label_order es)
  sorted_rest e es h = second_holds (is_below e.0 es) (in_order es) h

  -- a list in order is that of its map
  pub entries_back : (es : List (Label × X)) → T (fin.is_sorted label_order es) → fin.entries (fin.from_entries {R = label_order} es) ≡ es
  entries_back es h =
      ap fin.entries (same_maps (fin.from_entries es) (fin.from_sorted es)
      (λ l. fin.get-from_entries nat_list_cmp_total es l ∙ sym (fin.get-from_sorted label_order es l h)))
      ∙ fin.entries-from_sorted label_order es h

  pub map_back : (m : fin.FinMap label_order X) → fin.from_entries (fin.entries m) ≡ m
  map_back m = same_maps (fin.from_entries (fin.entries m)) m (λ l. fin.get-from_entries nat_list_cmp_total (fin.entries m) l ∙ sym (fin.get-entries m l))

  pub no_entries : fin.entries (fin.empty {X = X} {R = label_order}) ≡ []
  no_entries = entries_back [] tt

-- ---- entries with other values

module _ {X Y : Type 0} (f : X → Y) where
  abbrev pub with_value : Label × X → Label × Y
  with_value e = (e.0, f e.1)

  mapped_cond : (b : Bool) (x : X) (o : Option X) → cond b (Some (f x)) (option_map f o) ≡ option_map f (cond b (Some x) o)
  mapped_cond true x o = refl
  mapped_cond false x o = refl

  pub find_mapped : (l : Label) (es : List (Label × X)) → fin.find label_order l (map with_value es) ≡ option_map f (fin.find label_order l es)
  find_mapped l [] = refl
  find_mapped l (e ∷ es) =
      ap (cond (eq_by_cmp label_order l e.0) (Some (f e.1))) (find_mapped l es) ∙ mapped_cond (eq_by_cmp label_order l e.0) e.1 (fin.find label_order l es)

  sorted_after : (k : Label) (x : X) (es : List (Label × X)) → T (fin.is_sorted label_order ((k, x) ∷ es)) → T (fin.is_sorted label_order ((k, f x) ∷ map with_value es))
  sorted_after k x [] h = tt
  sorted_after k x (e ∷ es) h =
      let below = first_holds (is_below k (e ∷ es)) (in_order (e ∷ es)) h in
      let rest = second_holds (is_below k (e ∷ es)) (in_order (e ∷ es)) h in
      let lower = first_holds (is_lt (label_order k e.0)) (is_below k es) below in
      let a = sorted_after k x es (yes_and (is_below k es) (in_order es) (second_holds (is_lt (label_order k e.0)) (is_below k es) below) (second_holds (is_below e.0 es) (in_order es) rest)) in
      let b = sorted_after e.0 e.1 es rest in
      let others = first_holds (is_below k (map with_value es)) (in_order (map with_value es)) a in
      yes_and (is_below k (map with_value (e ∷ es))) (in_order (map with_value (e ∷ es))) (yes_and (is_lt (label_order k e.0)) (is_below k (map with_value es)) lower others) b

  pub sorted_mapped : (es : List (Label × X)) → T (fin.is_sorted label_order es) → T (fin.is_sorted label_order (map with_value es))
  sorted_mapped [] h = tt
  sorted_mapped (e ∷ es) h = sorted_after e.0 e.1 es h

  sorted_before : (k : Label) (x : X) (es : List (Label × X)) → T (fin.is_sorted label_order ((k, f x) ∷ map with_value es)) → T (fin.is_sorted label_order ((k, x) ∷ es))
  sorted_before k x [] h = tt
  sorted_before k x (e ∷ es) h =
      let fs = map with_value es in
      let below = first_holds (is_below k (map with_value (e ∷ es))) (in_order (map with_value (e ∷ es))) h in
      let rest = second_holds (is_below k (map with_value (e ∷ es))) (in_order (map with_value (e ∷ es))) h in
      let lower = first_holds (is_lt (label_order k e.0)) (is_below k fs) below in
      let a = sorted_before k x es (yes_and (is_below k fs) (in_order fs) (second_holds (is_lt (label_order k e.0)) (is_below k fs) below) (second_holds (is_below e.0 fs) (in_order fs) rest)) in
      let b = sorted_before e.0 e.1 es rest in
      let others = first_holds (is_below k es) (in_order es) a in
      yes_and (is_below k (e ∷ es)) (in_order (e ∷ es)) (yes_and (is_lt (label_order k e.0)) (is_below k es) lower others) b

  pub sorted_back : (es : List (Label × X)) → T (fin.is_sorted label_order (map with_value es)) → T (fin.is_sorted label_order es)
  sorted_back [] h = tt
  sorted_back (e ∷ es) h = sorted_before e.0 e.1 es h
