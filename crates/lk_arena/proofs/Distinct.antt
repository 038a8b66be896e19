-- Fields without a label twice, from their end on.
use Rattle.std.proofs.Common.{◌≡◌, ℕ, ◌+◌, ◌-◌, ◌<◌, ◌≤◌, true, false, List, [], ◌∷◌, length, get_or, take, drop, length-drop, refl, sym, ◌∙◌, ap, subst, arith, Option, Some, None}
use Rattle.std.proofs.lemmas.List.{drop_more, take_all}
use Rattle.std.specs.Prelude.{is_some}
use Rattle.lk_arena.specs.Shapes.{found_at, IsDistinct}
use Rattle.lk_arena.specs.declared.node.Field.{Field}

pub lacks : {A : Type 0} (o : Option A) → is_some o ≡ false → o ≡ None
lacks None e = refl
lacks (Some a) e = cc

module _ (fs : List Field) (i : ℕ) (f : Field) (h : i < length fs) (is : f ≡ get_or fs i f) where
  here : drop i fs ≡ f ∷ drop (i + 1) fs
  here = drop_more fs i f h ∙ ap (λ g. g ∷ drop (i + 1) fs) (sym is)

  rest : take (length fs - (i + 1)) (drop (i + 1) fs) ≡ drop (i + 1) fs
  rest = take_all (length fs - (i + 1)) (drop (i + 1) fs) (let e = length-drop (i + 1) fs in omega arith)

  module _ (r : Option ℕ) (found : r ≡ found_at (take (length fs - (i + 1)) (drop (i + 1) fs)) (get_or fs i f).label) where
    behind : r ≡ found_at (drop (i + 1) fs) f.label
    behind = found ∙ (λ j. found_at (rest j) (sym is j).label)

    pub distinct_twice : is_some r ≡ true → IsDistinct (drop i fs) → ⊥
    distinct_twice some d =
        let q : IsDistinct (f ∷ drop (i + 1) fs) = subst IsDistinct here d in
        let e : true ≡ false = sym some ∙ ap is_some (behind ∙ q.0) in cc

    pub distinct_more : is_some r ≡ false → IsDistinct (drop (i + 1) fs) → IsDistinct (drop i fs)
    distinct_more none d = subst IsDistinct (sym here) (sym behind ∙ lacks r none, d)

  pub distinct_less : IsDistinct (drop i fs) → IsDistinct (drop (i + 1) fs)
  distinct_less d = let q : IsDistinct (f ∷ drop (i + 1) fs) = subst IsDistinct here d in q.1

none_distinct : (fs : List Field) → length fs ≡ 0 → IsDistinct fs
none_distinct [] e = tt
none_distinct (f ∷ fs) e = absurd (omega arith)

pub distinct_end : (fs : List Field) (i : ℕ) → length fs ≤ i → IsDistinct (drop i fs)
distinct_end fs i h = none_distinct (drop i fs) (let e = length-drop i fs in omega arith)
