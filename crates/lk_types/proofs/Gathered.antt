-- Places that are gathered from the last one down: each that is wanted is taken, and then its parts are wanted, too.
use Rattle.std.proofs.Common.{arith, get_or, max, ◌≡◌, ◌⊎◌, inl, inr, ℕ, zero, suc, ◌<◌, ◌≤◌, List, [], ◌∷◌, ◌++◌, length, refl, sym, ap, subst, ◌∙◌, Some}
use Rattle.std.proofs.lemmas.Cmp.{ranked}
use Rattle.std.proofs.lemmas.List.{append_assoc, append-nil}
use Rattle.std.proofs.lemmas.List.Elements.{All-contains, All-head, All-nil, All-tail, All-weaker, Contains-append_cases, Contains-append_left, Contains-append_right, Contains-get_or, Contains-push}
use Rattle.std.proofs.lemmas.Map.Lookups.{exact_unsigned}
use Rattle.std.proofs.lemmas.Map.Views.{All-insert_key}
use Rattle.std.proofs.lemmas.Option.{get_or_from_slice_get, slice_get-get_or}
use Rattle.std.specs.BTreeSet.{insert_key}
use Rattle.std.specs.List.{All, Contains}
use Rattle.std.specs.Ordering.{match_ordering, nat_cmp}
use Rattle.std.specs.Prelude.{slice_get, false, true}
use Rattle.std.specs.declared.cmp.Ordering.{Ordering}
use Rattle.std.specs.declared.cmp.Ordering.TheVariants.{Equal, Greater, Less}
use Rattle.lk_types.proofs.Built.{each_map}
use Rattle.lk_types.proofs.Kept.{each_has, stands_within}
use Rattle.lk_types.proofs.Members.{each_in, each_of_in}
use Rattle.lk_types.specs.Each.{Each}
use Rattle.lk_types.specs.Levels.{parts_of, IsTable, Stands, part, root}
use Rattle.lk_types.specs.Places.{level_at, with_keys, ArePlaces, AreRising}
use Rattle.lk_types.specs.declared.levels.Level.{Level}
use Rattle.lk_types.specs.declared.levels.Level.TheVariants as level

-- ---- a set with more keys

here : (k : ℕ) (ks : List ℕ) → Contains (k ∷ ks) k
here k ks = (0, some (length ks), refl)
  where
    some : (n : ℕ) → 0 < suc n
    some n = omega arith

further : (k q : ℕ) (ks : List ℕ) → Contains ks q → Contains (k ∷ ks) q
further k q ks (n, less, is) = (suc n, omega arith, is)

none_in : (q : ℕ) → Contains [] q → ⊥
none_in q has = none has.0 has.1
  where
    none : (k : ℕ) → k < 0 → ⊥
    none k less = omega arith

has_key : (ks : List ℕ) (k : ℕ) → Contains (insert_key nat_cmp ks k) k
has_key [] k = here k []
has_key (x ∷ xs) k = by (nat_cmp k x) refl (has_key xs k)
  where
    by : (r : Ordering) → nat_cmp k x ≡ r → Contains (insert_key nat_cmp xs k) k → Contains (match_ordering r (k ∷ x ∷ xs) (x ∷ xs) (x ∷ insert_key nat_cmp xs k)) k
    by Less is more = here k (x ∷ xs)
    by Equal is more = subst (λ y. Contains (y ∷ xs) k) (exact_unsigned k x is) (here k xs)
    by Greater is more = further x k (insert_key nat_cmp xs k) more

keeps_key : (ks : List ℕ) (k q : ℕ) → Contains ks q → Contains (insert_key nat_cmp ks k) q
keeps_key [] k q has = absurd (none_in q has)
keeps_key (x ∷ xs) k q has = by (nat_cmp k x) (keeps_key xs k q)
  where
    in_rest : (rest : List ℕ) → (Contains xs q → Contains rest q) → Contains (x ∷ xs) q → Contains (x ∷ rest) q
    in_rest rest more (zero, less, is) = subst (λ y. Contains (y ∷ rest) q) (sym is) (here q rest)
    in_rest rest more (suc n, less, is) = further x q rest (more (n, omega arith, is))

    by : (r : Ordering) → (Contains xs q → Contains (insert_key nat_cmp xs k) q) → Contains (match_ordering r (k ∷ x ∷ xs) (x ∷ xs) (x ∷ insert_key nat_cmp xs k)) q
    by Less more = further k q (x ∷ xs) has
    by Equal more = has
    by Greater more = in_rest (insert_key nat_cmp xs k) more has

keeps_keys : (ks ns : List ℕ) (q : ℕ) → Contains ks q → Contains (with_keys ks ns) q
keeps_keys ks [] q has = has
keeps_keys ks (n ∷ ns) q has = keeps_keys (insert_key nat_cmp ks n) ns q (keeps_key ks n q has)

has_keys : (ks ns : List ℕ) → Each (Contains (with_keys ks ns)) ns
has_keys ks [] = tt
has_keys ks (n ∷ ns) = (keeps_keys (insert_key nat_cmp ks n) ns n (has_key ks n), has_keys (insert_key nat_cmp ks n) ns)

all_keys : (P : ℕ → Type 0) (ks ns : List ℕ) → All P ks → Each P ns → All P (with_keys ks ns)
all_keys P ks [] all each = all
all_keys P ks (n ∷ ns) all each = all_keys P (insert_key nat_cmp ks n) ns (All-insert_key nat_cmp n P ks all each.0) each.1

-- ---- how far up places go

abbrev pub room : List ℕ → ℕ
room [] = 0
room (w ∷ ws) = max (suc w) (room ws)

room_below : (ws : List ℕ) (n : ℕ) → All (λ w. w < n) ws → room ws ≤ n
room_below [] n all = omega arith
room_below (w ∷ ws) n all = both (All-head (λ v. v < n) w ws all) (room_below ws n (All-tail (λ v. v < n) w ws all))
  where
    both : {m : ℕ} → w < n → m ≤ n → max (suc w) m ≤ n
    both less rest = omega arith

room_above : (ws : List ℕ) (n : ℕ) → n < room (ws ++ n ∷ [])
room_above [] n = omega arith
room_above (w ∷ ws) n = more (room_above ws n)
  where
    more : {m : ℕ} → n < m → n < max (suc w) m
    more less = omega arith

-- ---- what is gathered

-- these are wanted, and behind them those are taken
pub record IsGathered (levels : List Level) (roots wanted taken : List ℕ) : Type 0 where
  pub stand : All (Stands levels roots) wanted
  pub stood : Each (Stands levels roots) taken
  pub apart : All (λ w. Each (λ p. w < p) taken) wanted
  pub rising : AreRising taken
  pub start : Each (Contains (wanted ++ taken)) roots
  pub parts : (p : ℕ) → Contains taken p → Each (Contains (wanted ++ taken)) (parts_of (level_at levels p))

rising_more : (n : ℕ) (ns : List ℕ) → Each (λ m. n < m) ns → AreRising ns → AreRising (n ∷ ns)
rising_more n ns above rising zero zero less within = absurd (omega arith)
rising_more n ns above rising zero (suc j) less within = at_place ns j above (omega arith)
  where
    at_place : (ms : List ℕ) (j : ℕ) → Each (λ m. n < m) ms → j < length ms → n < get_or ms j 0
    at_place [] j all less = absurd (none j less)
      where
        none : (k : ℕ) → k < 0 → ⊥
        none k less = omega arith
    at_place (m ∷ ms) zero all less = all.0
    at_place (m ∷ ms) (suc j) all less = at_place ms j all.1 (omega arith)
rising_more n ns above rising (suc i) zero less within = absurd (omega arith)
rising_more n ns above rising (suc i) (suc j) less within = rising i j (omega arith) (omega arith)

pub gathered_first : (levels : List Level) (roots keys : List ℕ) → keys ≡ with_keys [] roots → IsGathered levels roots keys []
gathered_first levels roots keys is = record {
  stand = subst (All (Stands levels roots)) (sym is) (all_keys (Stands levels roots) [] roots (All-nil (Stands levels roots)) (each_of_in (Stands levels roots) roots (λ r one. root one)));
  stood = tt;
  apart = λ k d less. tt;
  rising = λ i j less below. absurd (none j below);
  start = subst (λ ks. Each (Contains ks) roots) (sym (append-nil keys ∙ is)) (has_keys [] roots);
  parts = λ p has. absurd (none_in p has);
}
  where
    none : (k : ℕ) → k < 0 → ⊥
    none k less = omega arith

module _ (levels : List Level) (roots wanted taken rest : List ℕ) (place : ℕ) (table : IsTable levels roots) (gathered : IsGathered levels roots wanted taken) (is : wanted ≡ rest ++ place ∷ []) where
  last_in : Contains wanted place
  last_in = subst (λ ws. Contains ws place) (sym is) (Contains-push rest place)

  place_stands : Stands levels roots place
  place_stands = All-contains (Stands levels roots) wanted place gathered.stand last_in

  pub place_within : place < length levels
  place_within = stands_within levels roots table place place_stands

  own : slice_get levels place ≡ Some (level_at levels place)
  own = slice_get-get_or levels place level.Int place_within

  abbrev ps : List ℕ
  ps = parts_of (level_at levels place)

  module _ (new : List ℕ) (under : All (λ q. nat_cmp q place ≡ Less) rest) (more : new ≡ with_keys rest ps) where
    lower : All (λ w. w < place) new
    lower = subst (All (λ w. w < place)) (sym more) (all_keys (λ w. w < place) rest ps (All-weaker (λ q. nat_cmp q place ≡ Less) (λ w. w < place) (λ q less. ranked q place Less (sym less)) rest under) (table.below place (level_at levels place) own))

    above : Each (λ p. place < p) taken
    above = All-contains (λ w. Each (λ p. w < p) taken) wanted place gathered.apart last_in

    stand_rest : All (Stands levels roots) rest
    stand_rest = λ k d less. All-contains (Stands levels roots) wanted (get_or rest k d) gathered.stand (subst (λ ws. Contains ws (get_or rest k d)) (sym is) (Contains-append_left rest (place ∷ []) (get_or rest k d) (Contains-get_or rest k d less)))

    still : (q : ℕ) → Contains (wanted ++ taken) q → Contains (new ++ (place ∷ taken)) q
    still q has = by (Contains-append_cases rest (place ∷ taken) q (subst (λ ks. Contains ks q) (ap (λ ws. ws ++ taken) is ∙ append_assoc rest (place ∷ []) taken) has))
      where
        by : Contains rest q ⊎ Contains (place ∷ taken) q → Contains (new ++ (place ∷ taken)) q
        by (inl old) = Contains-append_left new (place ∷ taken) q (subst (λ ks. Contains ks q) (sym more) (keeps_keys rest ps q old))
        by (inr old) = Contains-append_right new (place ∷ taken) q old

    parts_more : (p : ℕ) → Contains (place ∷ taken) p → Each (Contains (new ++ (place ∷ taken))) (parts_of (level_at levels p))
    parts_more p (zero, less, same) = subst (λ q. Each (Contains (new ++ (place ∷ taken))) (parts_of (level_at levels q))) same (each_map (λ q has. Contains-append_left new (place ∷ taken) q (subst (λ ks. Contains ks q) (sym more) has)) ps (has_keys rest ps))
    parts_more p (suc k, less, same) = each_map still (parts_of (level_at levels p)) (gathered.parts p (k, omega arith, same))

    pub gathered_more : IsGathered levels roots new (place ∷ taken)
    gathered_more = record {
      stand = subst (All (Stands levels roots)) (sym more) (all_keys (Stands levels roots) rest ps stand_rest (each_of_in (Stands levels roots) ps (λ q one. part place_stands own one)));
      stood = (place_stands, gathered.stood);
      apart = All-weaker (λ w. w < place) (λ w. Each (λ p. w < p) (place ∷ taken)) (λ w less. (less, each_map (λ p more. between w p less more) taken above)) new lower;
      rising = rising_more place taken above gathered.rising;
      start = each_map still roots gathered.start;
      parts = parts_more;
    }
      where
        between : (w p : ℕ) → w < place → place < p → w < p
        between w p less more = omega arith

    -- how far up what is wanted goes, which falls
    pub room_falls : room new < room wanted
    room_falls = fallen (room_below new place lower) (subst (λ ws. place < room ws) (sym is) (room_above rest place))
      where
        fallen : {n m : ℕ} → n ≤ place → place < m → n < m
        fallen less more = omega arith

module _ (levels : List Level) (roots taken : List ℕ) (gathered : IsGathered levels roots [] taken) where
  all_taken : (n : ℕ) → Stands levels roots n → Contains taken n
  all_taken n (root one) = each_in (Contains taken) roots n one gathered.start
  all_taken n (part {k = k} {l = l} stands is one) = each_in (Contains taken) (parts_of l) n one (subst (λ m. Each (Contains taken) (parts_of m)) (get_or_from_slice_get levels k l level.Int is) (gathered.parts k (all_taken k stands)))

  gathered_all : ArePlaces levels roots taken
  gathered_all = record {
    rising = gathered.rising;
    sound = λ n has. each_has (Stands levels roots) taken n gathered.stood has;
    whole = all_taken;
  }

pub gathered_last : (levels : List Level) (roots wanted taken all : List ℕ) → IsGathered levels roots wanted taken → wanted ≡ [] → all ≡ taken → ArePlaces levels roots all
gathered_last levels roots wanted taken all gathered none is = subst (ArePlaces levels roots) (sym is) (gathered_all levels roots taken (subst (λ ws. IsGathered levels roots ws taken) none gathered))

-- nothing is left where there is no last one
pub none_left : (keys : List ℕ) → (0 < length keys → false ≡ true) → keys ≡ []
none_left [] some = refl
none_left (k ∷ keys) some = let wrong = some (longer (length keys)) in absurd cc
  where
    longer : (n : ℕ) → 0 < suc n
    longer n = omega arith
