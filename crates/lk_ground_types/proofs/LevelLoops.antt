-- What levels of types become, one after another.
use Rattle.std.proofs.Common.{◌≡◌, ◌⊎◌, inl, inr, ℕ, zero, suc, ◌+◌, ◌<◌, get_or, take, List, [], ◌∷◌, ◌++◌, length, map, refl, sym, ap, subst, ◌∙◌, Some, None, arith}
use Rattle.std.proofs.lemmas.List.{append-nil, append_assoc, length-append, length-map, length-take-le, take_more}
use Rattle.std.proofs.lemmas.Option.{none-some, slice_get-get_or}
use Rattle.std.specs.Option.{option_map}
use Rattle.std.specs.Prelude.{slice_get}
use Rattle.lk_ground_types.proofs.LastLevel.{built_last}
use Rattle.lk_types.proofs.Built.{built_front}
use Rattle.lk_types.proofs.Members.{each_both, each_weaker}
use Rattle.lk_types.proofs.Parts.{all_some, same_some}
use Rattle.lk_types.specs.Each.{Each}
use Rattle.lk_types.specs.Grounding.{all_of, under}
use Rattle.lk_types.specs.Levels.{built, made}
use Rattle.lk_types.specs.Levels as levels
use Rattle.lk_types.specs.declared.ground.Ground.{Ground}
use Rattle.lk_types.specs.declared.levels.Level.{Level}
use Rattle.lk_types.specs.declared.ty.Ty.{Ty}
use Rattle.lk_ground_types.proofs.Entering.{at_front}
use Rattle.lk_ground_types.proofs.Tables.{grown}
use Rattle.lk_ground_types.specs.Becoming.{AreGround, Stand, bound_number, level_of, number_at}
use Rattle.lk_ground_types.specs.Bound.{AreWithin, grounding_in}
use Rattle.lk_ground_types.specs.Grounds.{at, ground_made}
use Rattle.lk_ground_types.specs.Made.{IsIfThere}
use Rattle.lk_ground_types.proofs.Standing.{level_stands, number_within, numbers_within}
use Rattle.lk_ground_types.specs.declared.bindings.Bindings.{Bindings}
use Rattle.lk_ground_types.specs.declared.ground_level.GroundLevel.{GroundLevel}

-- ---- one after another

pub none_ground : (b : Bindings) (ts : List Ground) → AreGround b ts ts [] []
none_ground b ts = record { grown = ([], sym (append-nil ts)); count = refl; within = tt; stand = λ i less. absurd (none_less i less) }
  where
    none_less : (i : ℕ) → i < 0 → ⊥
    none_less i less = omega (arith, less)

number_front : (ns : List ℕ) (n i : ℕ) → i < length ns → number_at (ns ++ n ∷ []) i ≡ number_at ns i
number_front [] n i less = absurd (omega (arith, less))
number_front (m ∷ ns) n zero less = refl
number_front (m ∷ ns) n (suc i) less = number_front ns n i (omega (arith, less))

number_last : (ns : List ℕ) (n : ℕ) → number_at (ns ++ n ∷ []) (length ns) ≡ n
number_last [] n = refl
number_last (m ∷ ns) n = number_last ns n

each_grown : (ts us : List Ground) (ns : List ℕ) → Each (λ n. n < length ts) ns → Each (λ n. n < length (ts ++ us)) ns
each_grown ts us ns all = each_weaker (λ n. n < length ts) (λ n. n < length (ts ++ us)) (λ n less. (let h = length-append ts us in omega (arith, h, less))) ns all

less_cases : (i n : ℕ) → i < n + 1 → (i < n) ⊎ (i ≡ n)
less_cases zero zero less = inr refl
less_cases zero (suc n) less = inl (omega arith)
less_cases (suc i) zero less = absurd (omega (arith, less))
less_cases (suc i) (suc n) less = by_case (less_cases i n (omega (arith, less)))
  where
    by_case : (i < n) ⊎ (i ≡ n) → (suc i < suc n) ⊎ (suc i ≡ suc n)
    by_case (inl less) = inl (omega (arith, less))
    by_case (inr same) = inr (ap suc same)

module _ (b : Bindings) (first ts us : List Ground) (xs : List Level) (ns : List ℕ) (l : Level) (n : ℕ) (before : AreGround b first ts xs ns) (within : AreWithin (length first) b)
    (more : (rest : List Ground) × (us ≡ ts ++ rest)) (less : n < length us)
    (made_it : Stand (grounding_in ts b) ts (built xs) ns → IsIfThere (under (grounding_in ts b) (made (built xs) l)) (at us n)) where
  same : grounding_in ts b ≡ grounding_in first b
  same = ap (λ ts. grounding_in ts b) before.grown.1 ∙ grown first before.grown.0 b within

  stood : Stand (grounding_in ts b) ts (built xs) ns
  stood = subst (λ σ. Stand σ ts (built xs) ns) (sym same) before.stand

  one_made : IsIfThere (under (grounding_in first b) (made (built xs) l)) (at us n)
  one_made = subst (λ σ. IsIfThere (under σ (made (built xs) l)) (at us n)) same (made_it stood)

  long : length (ns ++ n ∷ []) ≡ length (xs ++ l ∷ [])
  long = length-append ns (n ∷ []) ∙ ap (λ k. k + 1) before.count ∙ sym (length-append xs (l ∷ []))

  stands_still : Stand (grounding_in first b) us (built (xs ++ l ∷ [])) (ns ++ n ∷ [])
  stands_still i below = by_case (less_cases i (length ns) (subst (λ k. i < k) (length-append ns (n ∷ [])) below))
    where
      by_case : (i < length ns) ⊎ (i ≡ length ns) → IsIfThere (under (grounding_in first b) (levels.at (built (xs ++ l ∷ [])) i)) (at us (number_at (ns ++ n ∷ []) i))
      by_case (inl lower) t is =
          ap (at us) (number_front ns n i lower)
          ∙ ap (λ us. at us (number_at ns i)) more.1
          ∙ at_front ts more.0 (number_at ns i) (number_within (length ts) ns i before.within lower)
          ∙ before.stand i lower t (ap (under (grounding_in first b)) (sym (built_front xs (l ∷ []) i (subst (λ k. i < k) before.count lower))) ∙ is)
      by_case (inr here) t is =
          ap (at us) (ap (number_at (ns ++ n ∷ [])) here ∙ number_last ns n)
          ∙ one_made t (ap (under (grounding_in first b)) (sym (ap (levels.at (built (xs ++ l ∷ []))) (here ∙ before.count) ∙ built_last xs l)) ∙ is)

  pub one_more_ground : AreGround b first us (xs ++ l ∷ []) (ns ++ n ∷ [])
  one_more_ground = record {
    grown = (before.grown.0 ++ more.0, more.1 ∙ ap (λ ts. ts ++ more.0) before.grown.1 ∙ append_assoc first before.grown.0 more.0);
    count = long;
    within = each_both (λ n. n < length us) ns (n ∷ []) (subst (λ us. Each (λ n. n < length us) ns) (sym more.1) (each_grown ts more.0 ns before.within)) (less, tt);
    stand = stands_still;
  }

more_within : (k m : ℕ) (b : Bindings) → k < m + 1 → AreWithin k b → AreWithin m b
more_within k m b le within = record {
  plain = λ n v is. (let h = within.plain n v is in omega (arith, le, h));
  rows = λ n row is l v there. (let h = within.rows n row is l v there in omega (arith, le, h));
}

-- ---- the types at the roots

module _ (b : Bindings) (first ts : List Ground) (xs : List Level) (ns : List ℕ) (are : AreGround b first ts xs ns) where
  pub roots_become : (roots : List ℕ) → Each (λ n. n < length xs) roots → (found : List Ground) → all_of (map (under (grounding_in first b)) (map (levels.at (built xs)) roots)) ≡ Some found
      → map (at ts) (map (number_at ns) roots) ≡ found
  roots_become [] below found is = same_some is
  roots_become (r ∷ roots) below found is =
      let x = all_some (under (grounding_in first b) (levels.at (built xs) r)) (map (under (grounding_in first b)) (map (levels.at (built xs)) roots)) found is in
      (λ i. are.stand r (subst (λ k. r < k) (sym are.count) below.0) x.0 x.2 i ∷ roots_become roots below.1 x.1 x.3 i) ∙ sym x.4

  -- each that becomes something becomes the type of its number
  pub roots_stand : (roots : List ℕ) → Each (λ n. n < length xs) roots → (i : ℕ) (ty : Ty) (t : Ground) → slice_get (map (levels.at (built xs)) roots) i ≡ Some ty → under (grounding_in first b) ty ≡ Some t
      → option_map (at ts) (slice_get (map (number_at ns) roots) i) ≡ Some t
  roots_stand [] below i ty t there is = absurd (none-some ty there)
  roots_stand (r ∷ roots) below zero ty t there is =
      ap Some (are.stand r (subst (λ k. r < k) (sym are.count) below.0) t (ap (under (grounding_in first b)) (same_some there) ∙ is))
  roots_stand (r ∷ roots) below (suc i) ty t there is = roots_stand roots below.1 i ty t there is

  pub roots_each : (roots : List ℕ) → Each (λ n. n < length xs) roots → (tys : List Ty) → map (levels.at (built xs)) roots ≡ tys → (ms : List ℕ) → ms ≡ ns → (made : List ℕ) → made ≡ map (number_at ms) roots
      → (i : ℕ) (ty : Ty) (t : Ground) → slice_get tys i ≡ Some ty → under (grounding_in first b) ty ≡ Some t → option_map (at ts) (slice_get made i) ≡ Some t
  roots_each roots below tys tys_are ms ms_are made made_are i ty t there is =
      ap (λ made. option_map (at ts) (slice_get made i)) (made_are ∙ ap (λ ns. map (number_at ns) roots) ms_are)
      ∙ roots_stand roots below i ty t (ap (λ tys. slice_get tys i) tys_are ∙ there) is

  pub roots_within : (roots : List ℕ) → Each (λ n. n < length xs) roots → Each (λ n. n < length ts) (map (number_at ns) roots)
  roots_within roots below = numbers_within (length ts) ns roots are.within (subst (λ k. Each (λ r. r < k) roots) (sym are.count) below)

  pub roots_found : (roots : List ℕ) → Each (λ n. n < length xs) roots → (tys : List Ty) → map (levels.at (built xs)) roots ≡ tys → (ms : List ℕ) → ms ≡ ns → (made : List ℕ) → made ≡ map (number_at ms) roots
      → (found : List Ground) → all_of (map (under (grounding_in first b)) tys) ≡ Some found → map (at ts) made ≡ found
  roots_found roots below tys tys_are ms ms_are made made_are found is =
      ap (map (at ts)) (made_are ∙ ap (λ ns. map (number_at ns) roots) ms_are)
      ∙ roots_become roots below found (ap (λ tys. all_of (map (under (grounding_in first b)) tys)) tys_are ∙ is)

  pub roots_placed : (roots : List ℕ) → Each (λ n. n < length xs) roots → (ms : List ℕ) → ms ≡ ns → (made : List ℕ) → made ≡ map (number_at ms) roots → Each (λ n. n < length ts) made
  roots_placed roots below ms ms_are made made_are = subst (Each (λ n. n < length ts)) (sym (made_are ∙ ap (λ ns. map (number_at ns) roots) ms_are)) (roots_within roots below)

  -- ---- while the levels are gone through

  pub within_still : AreWithin (length first) b → AreWithin (length ts) b
  within_still within =
      let h = length-append first are.grown.0 in
      subst (λ ts. AreWithin (length ts) b) (sym are.grown.1) (more_within (length first) (length (first ++ are.grown.0)) b (omega (arith, h)) within)

  pub numbers_so_far : (ms : List ℕ) → ms ≡ ns → Each (λ n. n < length ts) ms
  numbers_so_far ms ms_are = subst (Each (λ n. n < length ts)) (sym ms_are) are.within

pub nothing_more : (ts : List Ground) → (rest : List Ground) × (ts ≡ ts ++ rest)
nothing_more ts = ([], sym (append-nil ts))

module _ (b : Bindings) (first ts : List Ground) (xs : List Level) (i : ℕ) (d l : Level) (ns : List ℕ) (are : AreGround b first ts (take i xs) ns) where
  pub place_below : (ms : List ℕ) → ms ≡ ns → levels.AreBelow xs → i < length xs → l ≡ get_or xs i d → levels.IsBelow (length ms) l
  place_below ms ms_are below less is =
      subst (λ k. levels.IsBelow k l) (sym (ap length ms_are ∙ are.count ∙ length-take-le i xs (omega (arith, less)))) (below i l (slice_get-get_or xs i d less ∙ ap Some (sym is)))

pub levels_ground : (b : Bindings) (first ts us : List Ground) (xs : List Level) (i : ℕ) (d l : Level) (ns ms more_ns : List ℕ) (n : ℕ) → AreGround b first ts (take i xs) ns → AreWithin (length first) b
    → i < length xs → l ≡ get_or xs i d → ms ≡ ns → ((rest : List Ground) × (us ≡ ts ++ rest)) → n < length us
    → ((tys : List Ty) → Stand (grounding_in ts b) ts tys ms → IsIfThere (under (grounding_in ts b) (made tys l)) (at us n)) → more_ns ≡ ns ++ n ∷ []
    → AreGround b first us (take (i + 1) xs) more_ns
levels_ground b first ts us xs i d l ns ms more_ns n are within less is ms_are more placed stands more_are =
    subst (λ ns. AreGround b first us (take (i + 1) xs) ns) (sym more_are)
    (subst (λ xs. AreGround b first us xs (ns ++ n ∷ [])) (sym (take_more xs i d less ∙ ap (λ l. take i xs ++ l ∷ []) (sym is)))
    (one_more_ground b first ts us (take i xs) ns l n are within more placed (λ stand. stands (built (take i xs)) (subst (λ ns. Stand (grounding_in ts b) ts (built (take i xs)) ns) (sym ms_are) stand))))

pub added_stands : (b : Bindings) (ts us : List Ground) (tys : List Ty) (ns : List ℕ) → Stand (grounding_in ts b) ts tys ns → (l : Level) (g : GroundLevel) (n : ℕ) → levels.IsBelow (length ns) l
    → bound_number b l ≡ None → g ≡ level_of b ns l → at us n ≡ ground_made ts g → IsIfThere (under (grounding_in ts b) (made tys l)) (at us n)
added_stands b ts us tys ns stand l g n below none g_is made_it t is =
    made_it ∙ ap (ground_made ts) g_is ∙ level_stands b ts tys ns stand l below none t is

pub roots_counted : (xs : List Level) (roots : List ℕ) (tys : List Ty) → map (levels.at (built xs)) roots ≡ tys → (ms made : List ℕ) → made ≡ map (number_at ms) roots → length made ≡ length tys
roots_counted xs roots tys tys_are ms made made_are =
    ap length made_are ∙ length-map roots (number_at ms) ∙ sym (length-map roots (levels.at (built xs))) ∙ ap length tys_are
