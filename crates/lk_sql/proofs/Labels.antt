-- Labels in byte order are distinct.
use Rattle.std.proofs.Common.{◌≡◌, ℕ, ◌&&◌, ◌||◌, not, Bool, true, false, List, [], ◌∷◌, bytes_eq, refl, sym, ◌∙◌, ap, ap₂, true≢false}
use Rattle.std.specs.Cmp.Lexicographic.{slice_cmp}
use Rattle.std.specs.Ordering.{nat_cmp, is_eq, is_lt}
use Rattle.std.specs.declared.cmp.Ordering.{Ordering}
use Rattle.std.specs.declared.cmp.Ordering.TheVariants.{Less, Equal, Greater}
use Rattle.std.proofs.lemmas.Cmp.{nat_list_cmp_total}
use Rattle.std.proofs.lemmas.Map.Text.{is_eq-slice_cmp}
use Rattle.lk_sql.specs.Good.{are_distinct, are_in_order, comes_before, is_there}

and-left : (a b : Bool) → a && b ≡ true → a ≡ true
and-left true b e = refl
and-left false b e = e

and-right : (a b : Bool) → a && b ≡ true → b ≡ true
and-right true b e = e
and-right false b e = absurd (true≢false (sym e))

less : (order : Ordering) → is_lt order ≡ true → order ≡ Less
less Less e = refl
less Equal e = absurd (true≢false (sym e))
less Greater e = absurd (true≢false (sym e))

-- a label before others isn't among them
not-there : (l : List ℕ) (labels : List (List ℕ)) → are_in_order (l ∷ labels) ≡ true → is_there labels l ≡ false
not-there l [] e = refl
not-there l (m ∷ labels) e =
    let before : slice_cmp nat_cmp l m ≡ Less = less (slice_cmp nat_cmp l m) (and-left (comes_before l m) (are_in_order (m ∷ labels)) e) in
    ap₂ (λ a b. a || b) (sym (is_eq-slice_cmp l m) ∙ ap is_eq before) (not-there l labels (later labels before (and-right (comes_before l m) (are_in_order (m ∷ labels)) e)))
  where
    later : (labels : List (List ℕ)) → slice_cmp nat_cmp l m ≡ Less → are_in_order (m ∷ labels) ≡ true → are_in_order (l ∷ labels) ≡ true
    later [] before e = refl
    later (o ∷ labels) before e =
        ap₂ (λ a b. a && b) (ap is_lt (nat_list_cmp_total.trans l m o before (less (slice_cmp nat_cmp m o) (and-left (comes_before m o) (are_in_order (o ∷ labels)) e)))) (and-right (comes_before m o) (are_in_order (o ∷ labels)) e)

rest-in_order : (l : List ℕ) (labels : List (List ℕ)) → are_in_order (l ∷ labels) ≡ true → are_in_order labels ≡ true
rest-in_order l [] e = refl
rest-in_order l (m ∷ labels) e = and-right (comes_before l m) (are_in_order (m ∷ labels)) e

pub distinct-in_order : (labels : List (List ℕ)) → are_in_order labels ≡ true → are_distinct labels ≡ true
distinct-in_order [] e = refl
distinct-in_order (l ∷ labels) e = ap₂ (λ a b. not a && b) (not-there l labels e) (distinct-in_order labels (rest-in_order l labels e))
