-- The place of a continuation in the order of all is that of its position among those that have one.
use Rattle.std.proofs.Common.{◌≡◌, refl, sym, ap, subst, ◌∙◌, ◌⊎◌, inl, inr, ℕ, zero, suc, ◌+◌, List, [], ◌∷◌, ◌++◌, Option, Some, None, length, slice_get, arith}
use Rattle.lk_ir.specs.Continuing.{conts_at}
use Rattle.lk_ir.specs.Orders.{CountFrom, all_orders, orders}
use Rattle.lk_ir.specs.declared.nodes.Cont.{Cont}
use Rattle.lk_ir.specs.declared.nodes.Conts.{Conts}
use Rattle.lk_code.specs.declared.tables.Home.{Home}
use Rattle.lk_defun.proofs.Lists.{get_back, get_either, get_front, nowhere, some_same}
use Rattle.lk_defun.specs.Numbers.{homes_at, homes_from}

abbrev home : ℕ → ℕ → Home
home n position = record { node = n; position = position }

-- ---- numbers one by one

first_counted : (n : ℕ) (ks ls : List ℕ) → CountFrom n (ks ++ ls) → CountFrom n ks
first_counted n [] ls counted = tt
first_counted n (k ∷ ks) ls counted = (counted.0, first_counted (n + 1) ks ls counted.1)

others_counted : (n : ℕ) (ks ls : List ℕ) → CountFrom n (ks ++ ls) → CountFrom (n + length ks) ls
others_counted n [] ls counted = let none : n ≡ n + length {A = ℕ} [] = omega arith in subst (λ m. CountFrom m ls) none counted
others_counted n (k ∷ ks) ls counted =
    let more : (n + 1) + length ks ≡ n + length (k ∷ ks) = omega arith in
    subst (λ m. CountFrom m ls) more (others_counted (n + 1) ks ls counted.1)

-- ---- a node

as_many : (n position : ℕ) (cs : List (Option Cont)) → length (homes_at n position cs) ≡ length (orders cs)
as_many n position [] = refl
as_many n position (None ∷ cs) = as_many n (position + 1) cs
as_many n position (Some c ∷ cs) = ap suc (as_many n (position + 1) cs)

-- so many places behind the first one a home is found
pub record IsFound (from order : ℕ) (homes : List Home) (h : Home) : Type 0 where
  pub place : ℕ
  pub order_is : order ≡ from + place
  pub there : slice_get homes place ≡ Some h

found_at : (n position from : ℕ) (cs : List (Option Cont)) → CountFrom from (orders cs) → (k : ℕ) (cont : Cont) → slice_get cs k ≡ Some (Some cont) → IsFound from cont.order (homes_at n position cs) (home n (position + k))
found_at n position from [] counted k cont at = absurd (nowhere at)
found_at n position from (None ∷ cs) counted zero cont at = absurd (nowhere (some_same at))
found_at n position from (None ∷ cs) counted (suc k) cont at =
    let one = found_at n (position + 1) from cs counted k cont at in
    let same : (position + 1) + k ≡ position + suc k = omega arith in
    record { place = one.place; order_is = one.order_is; there = one.there ∙ ap (λ j. Some (home n j)) same }
found_at n position from (Some c ∷ cs) counted zero cont at =
    let is : c ≡ cont = some_same (some_same at) in
    let none : from ≡ from + 0 = omega arith in
    let same : position ≡ position + 0 = omega arith in
    record { place = 0; order_is = sym (ap (λ (d : Cont). d.order) is) ∙ counted.0 ∙ none; there = ap (λ j. Some (home n j)) same }
found_at n position from (Some c ∷ cs) counted (suc k) cont at =
    let one = found_at n (position + 1) (from + 1) cs counted.1 k cont at in
    let same : (position + 1) + k ≡ position + suc k = omega arith in
    let behind : (from + 1) + one.place ≡ from + suc one.place = omega arith in
    record { place = suc one.place; order_is = one.order_is ∙ behind; there = one.there ∙ ap (λ j. Some (home n j)) same }

-- ---- all nodes

found_from : (n from : ℕ) (all : List Conts) → CountFrom from (all_orders all) → (node position : ℕ) (cont : Cont) → slice_get (conts_at all node) position ≡ Some (Some cont)
    → IsFound from cont.order (homes_from n all) (home (n + node) position)
found_from n from [] counted node position cont at = absurd (nowhere at)
found_from n from (c ∷ cs) counted zero position cont at =
    let one = found_at n 0 from c.of (first_counted from (orders c.of) (all_orders cs) counted) position cont at in
    let same : 0 + position ≡ position = omega arith in
    let here : n ≡ n + 0 = omega arith in
    record {
      place = one.place;
      order_is = one.order_is;
      there = get_front (homes_at n 0 c.of) (homes_from (n + 1) cs) one.place _ one.there ∙ ap (λ j. Some (home n j)) same ∙ ap (λ m. Some (home m position)) here;
    }
found_from n from (c ∷ cs) counted (suc node) position cont at =
    let one = found_from (n + 1) (from + length (orders c.of)) cs (others_counted from (orders c.of) (all_orders cs) counted) node position cont at in
    let many = as_many n 0 c.of in
    let behind : (from + length (orders c.of)) + one.place ≡ from + (length (homes_at n 0 c.of) + one.place) = omega (arith, many) in
    let same : (n + 1) + node ≡ n + suc node = omega arith in
    record {
      place = length (homes_at n 0 c.of) + one.place;
      order_is = one.order_is ∙ behind;
      there = get_back (homes_at n 0 c.of) (homes_from (n + 1) cs) one.place ∙ one.there ∙ ap (λ m. Some (home m position)) same;
    }

pub home_found : (all : List Conts) → CountFrom 0 (all_orders all) → (h : Home) (cont : Cont) → slice_get (conts_at all h.node) h.position ≡ Some (Some cont) → slice_get (homes_from 0 all) cont.order ≡ Some h
home_found all counted h cont at =
    let one = found_from 0 0 all counted h.node h.position cont at in
    let place : cont.order ≡ one.place = omega (arith, one.order_is) in
    let node : 0 + h.node ≡ h.node = omega arith in
    ap (slice_get (homes_from 0 all)) place ∙ one.there ∙ ap (λ m. Some (home m h.position)) node

-- ---- the other way round

-- the home is that of a position whose continuation has this place in the order
record IsOfPosition (n position from : ℕ) (cs : List (Option Cont)) (place : ℕ) (h : Home) : Type 0 where
  at : ℕ
  cont : Cont
  is : h ≡ home n (position + at)
  there : slice_get cs at ≡ Some (Some cont)
  order : cont.order ≡ from + place

counted_at : (n position from : ℕ) (cs : List (Option Cont)) → CountFrom from (orders cs) → (place : ℕ) (h : Home) → slice_get (homes_at n position cs) place ≡ Some h → IsOfPosition n position from cs place h
counted_at n position from [] counted place h is = absurd (nowhere is)
counted_at n position from (None ∷ cs) counted place h is =
    let one = counted_at n (position + 1) from cs counted place h is in
    let same : (position + 1) + one.at ≡ position + suc one.at = omega arith in
    record { at = suc one.at; cont = one.cont; is = one.is ∙ ap (home n) same; there = one.there; order = one.order }
counted_at n position from (Some c ∷ cs) counted zero h is =
    let none : from ≡ from + 0 = omega arith in
    let same : position ≡ position + 0 = omega arith in
    record { at = 0; cont = c; is = sym (some_same is) ∙ ap (home n) same; there = refl; order = counted.0 ∙ none }
counted_at n position from (Some c ∷ cs) counted (suc place) h is =
    let one = counted_at n (position + 1) (from + 1) cs counted.1 place h is in
    let same : (position + 1) + one.at ≡ position + suc one.at = omega arith in
    let behind : (from + 1) + place ≡ from + suc place = omega arith in
    record { at = suc one.at; cont = one.cont; is = one.is ∙ ap (home n) same; there = one.there; order = one.order ∙ behind }

-- of all nodes from this one on
record IsOfNode (n from : ℕ) (all : List Conts) (place : ℕ) (h : Home) : Type 0 where
  node : ℕ
  cont : Cont
  is : h.node ≡ n + node
  there : slice_get (conts_at all node) h.position ≡ Some (Some cont)
  order : cont.order ≡ from + place

counted_from : (n from : ℕ) (all : List Conts) → CountFrom from (all_orders all) → (place : ℕ) (h : Home) → slice_get (homes_from n all) place ≡ Some h → IsOfNode n from all place h
counted_from n from [] counted place h is = absurd (nowhere is)
counted_from n from (c ∷ cs) counted place h is =
    by_case (get_either (homes_at n 0 c.of) (homes_from (n + 1) cs) place h is) (λ j there. counted_from (n + 1) (from + length (orders c.of)) cs (others_counted from (orders c.of) (all_orders cs) counted) j h there)
  where
    by_case : (slice_get (homes_at n 0 c.of) place ≡ Some h) ⊎ ((j : ℕ) × (place ≡ length (homes_at n 0 c.of) + j) × (slice_get (homes_from (n + 1) cs) j ≡ Some h))
        → ((j : ℕ) → slice_get (homes_from (n + 1) cs) j ≡ Some h → IsOfNode (n + 1) (from + length (orders c.of)) cs j h) → IsOfNode n from (c ∷ cs) place h
    by_case (inl first) others =
        let one = counted_at n 0 from c.of (first_counted from (orders c.of) (all_orders cs) counted) place h first in
        let here : n ≡ n + 0 = omega arith in
        let at : 0 + one.at ≡ one.at = omega arith in
        record { node = 0; cont = one.cont; is = ap (λ (g : Home). g.node) one.is ∙ here; there = ap (λ (g : Home). slice_get c.of g.position) one.is ∙ ap (slice_get c.of) at ∙ one.there; order = one.order }
    by_case (inr rest) others =
        let one = others rest.0 rest.2 in
        let many = as_many n 0 c.of in
        let place_is = rest.1 in
        let behind : (from + length (orders c.of)) + rest.0 ≡ from + place = omega (arith, many, place_is) in
        let same : (n + 1) + one.node ≡ n + suc one.node = omega arith in
        record { node = suc one.node; cont = one.cont; is = one.is ∙ same; there = one.there; order = one.order ∙ behind }

-- The home with this number is that of the continuation that has it as its place in the order.
pub home_counted : (all : List Conts) → CountFrom 0 (all_orders all) → (place : ℕ) (h : Home) → slice_get (homes_from 0 all) place ≡ Some h
    → (cont : Cont) × (slice_get (conts_at all h.node) h.position ≡ Some (Some cont)) × (cont.order ≡ place)
home_counted all counted place h is =
    let one = counted_from 0 0 all counted place h is in
    let node : one.node ≡ h.node = omega (arith, one.is) in
    let order : one.cont.order ≡ place = omega (arith, one.order) in
    (one.cont, ap (λ n. slice_get (conts_at all n) h.position) (sym node) ∙ one.there, order)
