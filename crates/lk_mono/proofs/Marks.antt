-- Marks of helpers: what a look at one of them does, a pass, and all passes.
use Rattle.std.proofs.Common.{◌≡◌, ℕ, zero, suc, ◌+◌, ◌<◌, ◌≤◌, Bool, true, false, ◌||◌, List, [], ◌∷◌, ◌⊎◌, inl, inr, Option, Some, None, length, set, slice_get, refl, sym, ap, ◌∙◌, subst, arith}
use Rattle.std.proofs.Math.Bool.{or-false, or-true}
use Rattle.std.proofs.lemmas.List.{length-set}
use Rattle.std.proofs.lemmas.Bool.{or_cases}
use Rattle.lk_mono.specs.Flatness.{AreSettled, IsLeft, IsMarking, IsOddAt, IsPass, calling, calls_marked, is_marked, unmarked}
use Rattle.lk_types.specs.Each.{OneOf}

abbrev pub one_if : Bool → ℕ
one_if true = 1
one_if false = 0

unmarked-set : (marks : List Bool) (i : ℕ) → i < length marks → is_marked marks i ≡ false → unmarked (set marks i true) < unmarked marks
unmarked-set [] i h e = absurd (omega arith)
unmarked-set (false ∷ bs) zero h e = omega arith
unmarked-set (true ∷ bs) zero h e = let f : true ≡ false = e in cc
unmarked-set (false ∷ bs) (suc i) h e = let t = unmarked-set bs i (omega arith) e in omega arith
unmarked-set (true ∷ bs) (suc i) h e = unmarked-set bs i (omega arith) e

-- the marks once one more is set
marked_more : (marks : List Bool) (i j : ℕ) → is_marked marks j ≡ true → is_marked (set marks i true) j ≡ true
marked_more [] i j e = e
marked_more (m ∷ ms) zero zero e = refl
marked_more (m ∷ ms) zero (suc j) e = e
marked_more (m ∷ ms) (suc i) zero e = e
marked_more (m ∷ ms) (suc i) (suc j) e = marked_more ms i j e

marked_before : (marks : List Bool) (i j : ℕ) → is_marked (set marks i true) j ≡ true → (is_marked marks j ≡ true) ⊎ (j ≡ i)
marked_before [] i j e = inl e
marked_before (m ∷ ms) zero zero e = inr refl
marked_before (m ∷ ms) zero (suc j) e = inl e
marked_before (m ∷ ms) (suc i) zero e = inl e
marked_before (m ∷ ms) (suc i) (suc j) e = elim (marked_before ms i j e) [
  | inl old ↦ inl old
  | inr same ↦ inr (ap suc same)
]

-- one of these is marked
pub some_marked : (marks : List Bool) (places : List ℕ) → calls_marked marks places ≡ true → (j : ℕ) × OneOf (λ place. place ≡ j) places × (is_marked marks j ≡ true)
some_marked marks [] e = let f : false ≡ true = e in cc
some_marked marks (place ∷ places) e = elim (or_cases (is_marked marks place) (calls_marked marks places) e) [
  | inl here ↦ (place, inl refl, here)
  | inr there ↦ (let found = some_marked marks places there in (found.0, inr found.1, found.2))
]

either : (i j : ℕ) → i ≤ j → (j ≡ i) ⊎ (1 + i ≤ j)
either i j h = grind arith

module _ (calls : List (List ℕ)) (i : ℕ) (places : List ℕ) (is : slice_get calls i ≡ Some places) (first old : List Bool) where
  same_places : (j : ℕ) (others : List ℕ) → j ≡ i → slice_get calls j ≡ Some others → others ≡ places
  same_places j others e found = ap (unwrap_or_else others) (sym found ∙ ap (slice_get calls) e ∙ is)
    where
      unwrap_or_else : List ℕ → Option (List ℕ) → List ℕ
      unwrap_or_else d None = d
      unwrap_or_else d (Some x) = x

  -- the one before is settled with the others
  settled_too : (marks : List Bool) → (i < length marks → calls_marked marks places ≡ true → is_marked marks i ≡ true) → AreSettled calls (1 + i) marks → AreSettled calls i marks
  settled_too marks here there j others le below found marked = elim (either i j le) [
    | inl same ↦ (let at : is_marked marks i ≡ true = here (let b : j < length marks = below in omega arith) (ap (calls_marked marks) (sym (same_places j others same found)) ∙ marked) in ap (is_marked marks) same ∙ at)
    | inr behind ↦ there j others behind below found marked
  ]

  -- the one before is left as it is
  pass_left : (changed : Bool) (new : List Bool) → IsPass calls (1 + i) first old changed → IsLeft places i old new → IsPass calls i first new changed
  pass_left changed new pass left = subst (λ marks. IsPass calls i first marks changed) (sym left.0) (record {
    size = pass.size;
    sound = pass.sound;
    kept = pass.kept;
    fewer = pass.fewer;
    same = pass.same;
    settled = λ e. settled_too old left.1 (pass.settled e);
  })

  no_more : (changed : Bool) → IsPass calls (1 + i) first old changed → unmarked old ≤ unmarked first
  no_more true pass = let h : unmarked old < unmarked first = pass.fewer refl in omega arith
  no_more false pass = let h : unmarked old ≡ unmarked first = ap unmarked (pass.same refl) in omega arith

  -- or marked
  pass_marking : (changed : Bool) (new : List Bool) → IsPass calls (1 + i) first old changed → IsMarking places i old new → IsPass calls i first new true
  pass_marking changed new pass marking = subst (λ marks. IsPass calls i first marks true) (sym marking.0) (record {
    size = length-set old i true ∙ pass.size;
    sound = λ own sound j e. elim (marked_before old i j e) [
      | inl before ↦ pass.sound own sound j before
      | inr same ↦ (let found = some_marked old places marking.3 in subst (IsOddAt own calls) (sym same) (calling found.0 places is found.1 (pass.sound own sound found.0 found.2)))
    ];
    kept = λ j e. marked_more old i j (pass.kept j e);
    fewer = λ e. let h : unmarked (set old i true) < unmarked old = unmarked-set old i marking.1 marking.2 in let k = no_more changed pass in omega arith;
    same = λ e. let f : true ≡ false = e in cc;
    settled = λ e. let f : true ≡ false = e in cc;
  })

  pub pass_on : (changed result : Bool) (new : List Bool) → IsPass calls (1 + i) first old changed → (result ≡ false → IsLeft places i old new) → (result ≡ true → IsMarking places i old new) → IsPass calls i first new (changed || result)
  pass_on changed false new pass left marking = subst (IsPass calls i first new) (sym (or-false changed)) (pass_left changed new pass (left refl))
  pass_on changed true new pass left marking = subst (IsPass calls i first new) (sym (or-true changed)) (pass_marking changed new pass (marking refl))
