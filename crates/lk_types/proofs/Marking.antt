-- Marks of the levels that stand in some types, from the last level to the first.
use Rattle.std.proofs.Common.{arith, get_or, replicate, set, ◌≡◌, ◌⊎◌, inl, inr, ℕ, zero, suc, ◌+◌, ◌<◌, ◌≤◌, Bool, false, true, List, [], ◌∷◌, length, refl, sym, ap, subst, ◌∙◌, Some}
use Rattle.std.proofs.lemmas.Option.{slice_get_read, slice_get_within}
use Rattle.std.specs.Prelude.{slice_get}
use Rattle.lk_types.proofs.Built.{each_map}
use Rattle.lk_types.proofs.Members.{each_in}
use Rattle.lk_types.specs.Each.{Each, OneOf}
use Rattle.lk_types.specs.Levels.{parts_of, AreMarked, IsTable, Stands, part, root}
use Rattle.lk_types.specs.Places.{with_marks}
use Rattle.lk_types.specs.declared.levels.Level.{Level}

abbrev IsOn : List Bool → ℕ → Type 0
IsOn marks n = get_or marks n false ≡ true

-- ---- one mark more

set_long : (ms : List Bool) (p : ℕ) → length (set ms p true) ≡ length ms
set_long [] p = refl
set_long (m ∷ ms) zero = refl
set_long (m ∷ ms) (suc p) = ap suc (set_long ms p)

set_keeps : (ms : List Bool) (p n : ℕ) → IsOn ms n → IsOn (set ms p true) n
set_keeps [] p n on = on
set_keeps (m ∷ ms) zero zero on = refl
set_keeps (m ∷ ms) zero (suc n) on = on
set_keeps (m ∷ ms) (suc p) zero on = on
set_keeps (m ∷ ms) (suc p) (suc n) on = set_keeps ms p n on

set_marks : (ms : List Bool) (p : ℕ) → p < length ms → IsOn (set ms p true) p
set_marks [] p less = absurd (none p less)
  where
    none : (k : ℕ) → k < 0 → ⊥
    none k less = omega arith
set_marks (m ∷ ms) zero less = refl
set_marks (m ∷ ms) (suc p) less = set_marks ms p (omega arith)

set_only : (ms : List Bool) (p n : ℕ) → IsOn (set ms p true) n → (p ≡ n) ⊎ IsOn ms n
set_only [] p n on = inr on
set_only (m ∷ ms) zero zero on = inl refl
set_only (m ∷ ms) zero (suc n) on = inr on
set_only (m ∷ ms) (suc p) zero on = inr on
set_only (m ∷ ms) (suc p) (suc n) on = next (set_only ms p n on)
  where
    next : (p ≡ n) ⊎ IsOn ms n → (suc p ≡ suc n) ⊎ IsOn ms n
    next (inl same) = inl (ap suc same)
    next (inr before) = inr before

-- ---- more marks

pub marks_long : (ms : List Bool) (ps : List ℕ) → length (with_marks ms ps) ≡ length ms
marks_long ms [] = refl
marks_long ms (p ∷ ps) = marks_long (set ms p true) ps ∙ set_long ms p

marks_keep : (ms : List Bool) (ps : List ℕ) (n : ℕ) → IsOn ms n → IsOn (with_marks ms ps) n
marks_keep ms [] n on = on
marks_keep ms (p ∷ ps) n on = marks_keep (set ms p true) ps n (set_keeps ms p n on)

marks_all : (ms : List Bool) (ps : List ℕ) → Each (λ p. p < length ms) ps → Each (IsOn (with_marks ms ps)) ps
marks_all ms [] within = tt
marks_all ms (p ∷ ps) within = (
  marks_keep (set ms p true) ps p (set_marks ms p within.0),
  marks_all (set ms p true) ps (subst (λ k. Each (λ q. q < k) ps) (sym (set_long ms p)) within.1),
)

marks_only : (ms : List Bool) (ps : List ℕ) (n : ℕ) → IsOn (with_marks ms ps) n → OneOf (λ p. p ≡ n) ps ⊎ IsOn ms n
marks_only ms [] n on = inr on
marks_only ms (p ∷ ps) n on = before (marks_only (set ms p true) ps n on)
  where
    first : (p ≡ n) ⊎ IsOn ms n → OneOf (λ q. q ≡ n) (p ∷ ps) ⊎ IsOn ms n
    first (inl same) = inl (inl same)
    first (inr old) = inr old

    before : OneOf (λ q. q ≡ n) ps ⊎ IsOn (set ms p true) n → OneOf (λ q. q ≡ n) (p ∷ ps) ⊎ IsOn ms n
    before (inl later) = inl (inr later)
    before (inr on) = first (set_only ms p n on)

-- ---- the pass

-- all that is marked stands in the types, and from this place on marked levels have marked their parts
pub record IsMarking (levels : List Level) (roots : List ℕ) (from : ℕ) (marks : List Bool) : Type 0 where
  pub long : length marks ≡ length levels
  pub sound : (n : ℕ) → IsOn marks n → Stands levels roots n
  pub start : Each (IsOn marks) roots
  pub parts : (n : ℕ) (l : Level) → from ≤ n → IsOn marks n → slice_get levels n ≡ Some l → Each (IsOn marks) (parts_of l)

here_or_on : (m n : ℕ) → m ≤ n → (m ≡ n) ⊎ (m + 1 ≤ n)
here_or_on zero zero up = inl refl
here_or_on zero (suc n) up = inr (omega arith)
here_or_on (suc m) zero up = absurd (omega arith)
here_or_on (suc m) (suc n) up = next (here_or_on m n (omega arith))
  where
    next : (m ≡ n) ⊎ (m + 1 ≤ n) → (suc m ≡ suc n) ⊎ (suc m + 1 ≤ suc n)
    next (inl same) = inl (ap suc same)
    next (inr above) = inr (omega arith)

none_on : (k n : ℕ) → get_or (replicate k false) n false ≡ false
none_on zero n = refl
none_on (suc k) zero = refl
none_on (suc k) (suc n) = none_on k n

module _ (levels : List Level) (roots : List ℕ) (table : IsTable levels roots) where
  pub marking_first : (k : ℕ) (none marks : List Bool) → k ≡ length levels → none ≡ replicate k false → marks ≡ with_marks none roots → IsMarking levels roots k marks
  marking_first k none marks all is are = subst (IsMarking levels roots k) (sym are) (record {
    long = marks_long none roots ∙ none_long;
    sound = λ n on. by n (marks_only none roots n on);
    start = marks_all none roots (subst (λ m. Each (λ r. r < m) roots) (sym none_long) table.roots_below);
    parts = λ n l from on there. absurd (outside n from (slice_get_within levels n l there));
  })
    where
      replicated : (m : ℕ) → length (replicate m false) ≡ m
      replicated zero = refl
      replicated (suc m) = ap suc (replicated m)

      none_long : length none ≡ length levels
      none_long = ap length is ∙ replicated k ∙ all

      by : (n : ℕ) → OneOf (λ r. r ≡ n) roots ⊎ IsOn none n → Stands levels roots n
      by n (inl one) = root one
      by n (inr on) = absurd (off (sym (none_on k n) ∙ sym (ap (λ ms. get_or ms n false) is) ∙ on))
        where
          off : false ≡ true → ⊥
          off wrong = cc

      outside : (n : ℕ) → k ≤ n → n < length levels → ⊥
      outside n from less = omega arith

  module _ (k place : ℕ) (marks : List Bool) (next_up : k + 1 ≡ place) (marked : IsMarking levels roots place marks) where
    marking : IsMarking levels roots (k + 1) marks
    marking = subst (λ n. IsMarking levels roots n marks) (sym next_up) marked

    -- the parts of the level there have marks
    pub parts_within : (l : Level) → k < length levels → l ≡ get_or levels k l → Each (λ p. p < length marks) (parts_of l)
    parts_within l less read = each_map (λ p lower. further p lower less marked.long) (parts_of l) (table.below k l (slice_get_read levels (length levels) k l refl less read))
      where
        further : {m : ℕ} (p : ℕ) → p < k → k < length levels → m ≡ length levels → p < m
        further p lower small same = omega arith

    pub marking_more : (l : Level) (new : List Bool) → slice_get levels k ≡ Some l → IsOn marks k → new ≡ with_marks marks (parts_of l) → IsMarking levels roots k new
    marking_more l new there on are = subst (IsMarking levels roots k) (sym are) (record {
      long = marks_long marks (parts_of l) ∙ marking.long;
      sound = λ n new_on. by n (marks_only marks (parts_of l) n new_on);
      start = each_map (λ r old. marks_keep marks (parts_of l) r old) roots marking.start;
      parts = more;
    })
      where
        by : (n : ℕ) → OneOf (λ p. p ≡ n) (parts_of l) ⊎ IsOn marks n → Stands levels roots n
        by n (inl one) = part (marking.sound k on) there one
        by n (inr old) = marking.sound n old

        lower : Each (λ p. p < k) (parts_of l)
        lower = table.below k l there

        within : Each (λ p. p < length marks) (parts_of l)
        within = each_map (λ p less. further p (slice_get_within levels k l there) marking.long less) (parts_of l) lower
          where
            further : {m : ℕ} (p : ℕ) → k < length levels → m ≡ length levels → p < k → p < m
            further p small same less = omega arith

        some_is : {a b : Level} → Some a ≡ Some b → a ≡ b
        some_is same = cc

        old_on : (n : ℕ) → k + 1 ≤ n → OneOf (λ p. p ≡ n) (parts_of l) ⊎ IsOn marks n → IsOn marks n
        old_on n above (inl one) = absurd (too_low (each_in (λ p. p < k) (parts_of l) n one lower))
          where
            too_low : n < k → ⊥
            too_low less = omega arith
        old_on n above (inr old) = old

        more : (n : ℕ) (m : Level) → k ≤ n → IsOn (with_marks marks (parts_of l)) n → slice_get levels n ≡ Some m → Each (IsOn (with_marks marks (parts_of l))) (parts_of m)
        more n m from new_on at_n = split (here_or_on k n from)
          where
            split : (k ≡ n) ⊎ (k + 1 ≤ n) → Each (IsOn (with_marks marks (parts_of l))) (parts_of m)
            split (inl same) = subst (λ o. Each (IsOn (with_marks marks (parts_of l))) (parts_of o)) (some_is (sym there ∙ ap (slice_get levels) same ∙ at_n)) (marks_all marks (parts_of l) within)
            split (inr above) = each_map (λ p old. marks_keep marks (parts_of l) p old) (parts_of m) (marking.parts n m above (old_on n above (marks_only marks (parts_of l) n new_on)) at_n)

  pub marking_all : (marks : List Bool) → IsMarking levels roots 0 marks → AreMarked levels roots marks
  marking_all marks marking = record { long = marking.long; sound = marking.sound; whole = all_on }
    where
      all_on : (n : ℕ) → Stands levels roots n → IsOn marks n
      all_on n (root one) = each_in (IsOn marks) roots n one marking.start
      all_on n (part {k = k} {l = l} stands is one) = each_in (IsOn marks) (parts_of l) n one (marking.parts k l (least k) (all_on k stands) is)
        where
          least : (m : ℕ) → 0 ≤ m
          least m = omega arith
