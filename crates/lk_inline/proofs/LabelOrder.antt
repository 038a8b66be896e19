-- Labels in byte order, and labels none of which is there twice, by the tests of well-formed SQL.
use Rattle.std.proofs.Common.{◌≡◌, refl, sym, ap, ap₂, ◌∙◌, Bool, true, false, ◌&&◌, ◌||◌, not, T, List, [], ◌∷◌, inl, inr, bytes_eq}
use Rattle.std.proofs.lemmas.Slice.Eq.{bytes_eq-Decides}
use Rattle.std.specs.FinMap as fin
use Rattle.std.specs.FinMap.Entries.{below_all}
use Rattle.lk_inline.proofs.PutFields.{entry_labels}
use Rattle.lk_inline.specs.Stands.{AreDistinct}
use Rattle.lk_sql.proofs.Labels.{distinct-in_order}
use Rattle.lk_sql.specs.Good.{are_distinct, are_in_order, is_there}
use Rattle.lk_types.proofs.LabelMaps.{first_holds, second_holds}
use Rattle.lk_types.specs.Each.{OneOf}
use Rattle.lk_types.specs.Rows.{Label, label_order}

-- ---- labels among others

pub one_there : (l : Label) (ls : List Label) → OneOf (λ other. other ≡ l) ls → is_there ls l ≡ true
one_there l [] one = absurd one
one_there l (m ∷ ls) (inl is) = ap (λ b. b || is_there ls l) ((bytes_eq-Decides l m).1 (sym is))
one_there l (m ∷ ls) (inr one) = by_test (bytes_eq l m) (one_there l ls one)
  where
    by_test : (b : Bool) → is_there ls l ≡ true → b || is_there ls l ≡ true
    by_test true later = refl
    by_test false later = later

there_one : (l : Label) (ls : List Label) → is_there ls l ≡ true → OneOf (λ other. other ≡ l) ls
there_one l [] there = let wrong : false ≡ true = there in absurd cc
there_one l (m ∷ ls) there = by_test (bytes_eq l m) refl (there_one l ls) there
  where
    by_test : (b : Bool) → bytes_eq l m ≡ b → (is_there ls l ≡ true → OneOf (λ other. other ≡ l) ls) → b || is_there ls l ≡ true → OneOf (λ other. other ≡ l) (m ∷ ls)
    by_test true is later there = inl (sym ((bytes_eq-Decides l m).0 is))
    by_test false is later there = inr (later there)

-- a label that isn't among them
pub not_there : (l : Label) (ls : List Label) → (OneOf (λ other. other ≡ l) ls → ⊥) → is_there ls l ≡ false
not_there l ls apart = by_test (is_there ls l) refl
  where
    by_test : (b : Bool) → is_there ls l ≡ b → b ≡ false
    by_test true there = absurd (apart (there_one l ls there))
    by_test false there = refl

-- ---- distinct labels

first_apart : (b c : Bool) → not b && c ≡ true → (b ≡ false) × (c ≡ true)
first_apart true c both = let wrong : false ≡ true = both in absurd cc
first_apart false c both = (refl, both)

distinct_by : (ls : List Label) → are_distinct ls ≡ true → AreDistinct ls
distinct_by [] all = tt
distinct_by (l ∷ ls) all =
    let both = first_apart (is_there ls l) (are_distinct ls) all in
    (λ one. let wrong : true ≡ false = sym (one_there l ls one) ∙ both.0 in absurd cc, distinct_by ls both.1)

pub distinct_test : (ls : List Label) → AreDistinct ls → are_distinct ls ≡ true
distinct_test [] distinct = refl
distinct_test (l ∷ ls) distinct = ap₂ (λ a b. not a && b) (not_there l ls distinct.0) (distinct_test ls distinct.1)

-- those in order are
pub order_distinct : (ls : List Label) → are_in_order ls ≡ true → AreDistinct ls
order_distinct ls ordered = distinct_by ls (distinct-in_order ls ordered)

-- ---- the labels of a finite map

both_true : (a b : Bool) → T (a && b) → (a ≡ true) × T b
both_true true b p = (refl, p)
both_true false b p = absurd p

first_in_order : {X : Type 0} (l : Label) (es : List (Label × X)) → T (below_all label_order l es) → are_in_order (entry_labels es) ≡ true → are_in_order (l ∷ entry_labels es) ≡ true
first_in_order l [] below rest = refl
first_in_order l (e ∷ es) below rest = ap₂ (λ a b. a && b) (both_true _ _ below).0 rest

-- they stand in order
pub sorted_in_order : {X : Type 0} (es : List (Label × X)) → T (fin.is_sorted label_order es) → are_in_order (entry_labels es) ≡ true
sorted_in_order [] sorted = refl
sorted_in_order (e ∷ es) sorted = first_in_order e.0 es (first_holds _ _ sorted) (sorted_in_order es (second_holds _ _ sorted))
