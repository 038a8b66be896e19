-- Parts at the end of others: they stay in order, and what was given before stays.
use Rattle.std.proofs.Common.{◌≡◌, ℕ, zero, suc, ◌+◌, ◌<◌, ◌≤◌, ◌⊎◌, inl, inr, List, [], ◌∷◌, ◌++◌, length, map, Some, None, slice_get, refl, sym, ◌∙◌, ap, ap₂, subst, arith}
use Rattle.std.proofs.lemmas.List.{length-append}
use Rattle.std.proofs.lemmas.Option.{slice_get_within}
use Rattle.lk_ast.specs.Tables.{Tables}
use Rattle.lk_ast.specs.declared.value.Value.{Value}
use Rattle.lk_bodies.specs.Walk.{Made, State, add}
use Rattle.lk_inline.specs.Stands.{Stands}
use Rattle.lk_query.proofs.Growing.{gives_last, gives_more}
use Rattle.lk_query.specs.Given.{Values, given_level, gives}
use Rattle.lk_query.specs.Order.{AreOrdered, Below}
use Rattle.lk_query.specs.declared.part.Part.{Part}
use Rattle.lk_types.specs.declared.ground.Ground.{Ground}

pub append_assoc : {A : Type 0} (xs ys zs : List A) → (xs ++ ys) ++ zs ≡ xs ++ (ys ++ zs)
append_assoc [] ys zs = refl
append_assoc (x ∷ xs) ys zs = ap (λ rest. x ∷ rest) (append_assoc xs ys zs)

append_none : {A : Type 0} (xs : List A) → xs ++ [] ≡ xs
append_none [] = refl
append_none (x ∷ xs) = ap (λ rest. x ∷ rest) (append_none xs)

-- what stands behind a list is one more, or it stands in the list
pub behind_list : {A : Type 0} (xs : List A) (x y : A) (n : ℕ) → slice_get (xs ++ x ∷ []) n ≡ Some y → (slice_get xs n ≡ Some y) ⊎ ((n ≡ length xs) × (x ≡ y))
behind_list [] x y zero is = inr (refl, let same : Some x ≡ Some y = is in cc)
behind_list [] x y (suc n) is = let wrong : None ≡ Some y = is in absurd cc
behind_list (z ∷ xs) x y zero is = inl is
behind_list (z ∷ xs) x y (suc n) is = by (behind_list xs x y n is)
  where
    by : (slice_get xs n ≡ Some y) ⊎ ((n ≡ length xs) × (x ≡ y)) → (slice_get xs n ≡ Some y) ⊎ ((suc n ≡ suc (length xs)) × (x ≡ y))
    by (inl at) = inl at
    by (inr (at, same)) = inr (ap suc at, same)

pub ordered_add : (parts : List Part) (x : Part) → AreOrdered parts → Below (length parts) x → AreOrdered (parts ++ x ∷ [])
ordered_add parts x ordered below n y is = by (behind_list parts x y n is)
  where
    by : (slice_get parts n ≡ Some y) ⊎ ((n ≡ length parts) × (x ≡ y)) → Below n y
    by (inl at) = ordered n y at
    by (inr (at, same)) = subst (λ m. Below m y) (sym at) (subst (λ z. Below (length parts) z) same below)

pub longer : (parts more : List Part) (k : ℕ) → k < length parts → k < length (parts ++ more)
longer parts more k l = let many = length-append parts more in omega (arith, l, many)

pub at_end : (parts : List Part) (x : Part) → length parts < length (parts ++ x ∷ [])
at_end parts x = let many = length-append parts (x ∷ []) in omega (arith, many)

-- ---- lists of parts that grow

pub record Grows (parts later : List Part) : Type 0 where
  pub more : List Part
  pub is : later ≡ parts ++ more

pub grows_none : (parts : List Part) → Grows parts parts
grows_none parts = record { more = []; is = sym (append_none parts) }

pub grows_both : {parts later last : List Part} → Grows parts later → Grows later last → Grows parts last
grows_both {parts} {later} {last} first second = record { more = first.more ++ second.more; is = second.is ∙ ap (λ ps. ps ++ second.more) first.is ∙ append_assoc parts first.more second.more }

pub grows_one : (parts : List Part) (x : Part) → Grows parts (parts ++ x ∷ [])
grows_one parts x = record { more = x ∷ []; is = refl }

pub still_within : {parts later : List Part} → Grows parts later → (k : ℕ) → k < length parts → k < length later
still_within {parts} grows k l = subst (λ ps. k < length ps) (sym grows.is) (longer parts grows.more k l)

module _ (tables : Tables) where
  pub still_gives : {parts later : List Part} → Grows parts later → (k : ℕ) → k < length parts → gives tables later k ≡ gives tables parts k
  still_gives {parts} grows k l = ap (λ ps. gives tables ps k) grows.is ∙ gives_more tables parts grows.more k l

  pub still_stands : {parts later : List Part} → Grows parts later → (k : ℕ) → k < length parts → (t : Ground) (v : Value) (values : Values) → Stands t v (gives tables parts k values) → Stands t v (gives tables later k values)
  still_stands grows k l t v values stands = subst (λ g. Stands t v (g values)) (sym (still_gives grows k l)) stands
