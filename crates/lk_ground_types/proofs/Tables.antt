-- What bindings say after one more is among them.
use Rattle.std.proofs.Common.{◌≡◌, ℕ, ◌<◌, ◌==◌, ◌++◌, length, subst, Bool, true, false, cond, List, [], refl, sym, ap, ◌⊎◌, inl, inr, ◌∙◌, Option, Some, None, arith, if◌then◌else◌}
use Rattle.std.proofs.lemmas.Bool.Decides.{nat_tests}
use Rattle.std.proofs.lemmas.Option.{none-some}
use Rattle.std.specs.BTreeMap.{BTreeMap, IsEmpty, get, is_at}
use Rattle.std.specs.Map.{lookup}
use Rattle.std.specs.Option.{option_map, unwrap_or}
use Rattle.std.specs.Ordering.{nat_cmp}
use Rattle.lk_types.proofs.Parts.{same_some}
use Rattle.lk_types.specs.Rows.{no_fields}
use Rattle.lk_types.specs.declared.ground.Ground.{Ground}
use Rattle.lk_types.specs.declared.ty.Effect.{Effect}
use Rattle.lk_ground_types.proofs.Entering.{at_front}
use Rattle.lk_ground_types.proofs.RowNumbers.{row_grown}
use Rattle.lk_ground_types.specs.Bound.{AreWithin, IsRowWithin, grounding_in, is_listed, with_effects, with_plain, with_row}
use Rattle.lk_ground_types.specs.Grounds.{Parts, at, row_in}
use Rattle.lk_ground_types.specs.Least.{least, unit}
use Rattle.lk_ground_types.specs.declared.bindings.Bindings.{Bindings}

at_number : (n m : ℕ) → is_at (nat_cmp n) m ≡ (m == n)
at_number n m = grind (arith, nat_tests)

-- the table has v at n, and else what it had
abbrev Updated : {V : Type 0} → BTreeMap ℕ V → BTreeMap ℕ V → ℕ → V → Type 0
Updated old new n v = (m : ℕ) → get nat_cmp new m ≡ cond (is_at (nat_cmp n) m) (Some v) (get nat_cmp old m)

chosen : {V A : Type 0} (f : Option V → A) (b : Bool) (v : V) (o : Option V) → f (cond b (Some v) o) ≡ (if b then f (Some v) else f o)
chosen f true v o = refl
chosen f false v o = refl

updated : {V A : Type 0} (f : Option V → A) (old new : BTreeMap ℕ V) (n : ℕ) (v : V) → Updated old new n v → (m : ℕ)
    → f (get nat_cmp new m) ≡ (if m == n then f (Some v) else f (get nat_cmp old m))
updated f old new n v updates m =
    ap f (updates m) ∙ chosen f (is_at (nat_cmp n) m) v (get nat_cmp old m) ∙ ap (λ b. if b then f (Some v) else f (get nat_cmp old m)) (at_number n m)

module _ (ts : List Ground) (b : Bindings) where
  pub bound_plain : (new : BTreeMap ℕ ℕ) (n t : ℕ) → Updated b.plain new n t
      → grounding_in ts (record { plain = new; rows = b.rows; effects = b.effects }) ≡ with_plain n (at ts t) (grounding_in ts b)
  unfolding grounding_in
  bound_plain new n t updates = λ i. record {
    plain = λ m. updated (λ o. unwrap_or (option_map (at ts) o) unit) b.plain new n t updates m i;
    rows = (grounding_in ts b).rows;
    effects = (grounding_in ts b).effects;
  }

  pub bound_row : (new : BTreeMap ℕ Parts) (n : ℕ) (row : Parts) → Updated b.rows new n row
      → grounding_in ts (record { plain = b.plain; rows = new; effects = b.effects }) ≡ with_row n (row_in ts row) (grounding_in ts b)
  unfolding grounding_in
  bound_row new n row updates = λ i. record {
    plain = (grounding_in ts b).plain;
    rows = λ m. updated (λ o. unwrap_or (option_map (row_in ts) o) no_fields) b.rows new n row updates m i;
    effects = (grounding_in ts b).effects;
  }

  pub bound_effects : (new : BTreeMap ℕ (List Effect)) (n : ℕ) (es : List Effect) → Updated b.effects new n es
      → grounding_in ts (record { plain = b.plain; rows = b.rows; effects = new }) ≡ with_effects n (is_listed es) (grounding_in ts b)
  unfolding grounding_in
  bound_effects new n es updates = λ i. record {
    plain = (grounding_in ts b).plain;
    rows = (grounding_in ts b).rows;
    effects = λ m. updated (λ o. is_listed (unwrap_or o [])) b.effects new n es updates m i;
  }

none_in : {V A : Type 0} (f : Option V → A) (m : BTreeMap ℕ V) → IsEmpty m → (n : ℕ) → f (get nat_cmp m n) ≡ f None
none_in f m none n = ap (λ es. f (lookup (is_at (nat_cmp n)) es)) none

pub bound_none : (b : Bindings) → IsEmpty b.plain → IsEmpty b.rows → IsEmpty b.effects → (ts : List Ground) → grounding_in ts b ≡ least
unfolding grounding_in
bound_none b p q r ts = λ i. record {
  plain = λ n. none_in (λ o. unwrap_or (option_map (at ts) o) unit) b.plain p n i;
  rows = λ n. none_in (λ o. unwrap_or (option_map (row_in ts) o) no_fields) b.rows q n i;
  effects = λ n. none_in (λ o. is_listed (unwrap_or o [])) b.effects r n i;
}

-- ---- numbers within the table

-- what is found is the new one, or was there
found_in : {V : Type 0} (c : Bool) (v w : V) (o : Option V) → cond c (Some v) o ≡ Some w → (v ≡ w) ⊎ (o ≡ Some w)
found_in true v w o is = inl (same_some is)
found_in false v w o is = inr is

module _ (k : ℕ) (b : Bindings) where
  pub within_plain : (new : BTreeMap ℕ ℕ) (n t : ℕ) → Updated b.plain new n t → t < k → AreWithin k b → AreWithin k (record { plain = new; rows = b.rows; effects = b.effects })
  within_plain new n t updates less within = record { plain = λ m v is. by_case m v (found_in (is_at (nat_cmp n) m) t v (get nat_cmp b.plain m) (sym (updates m) ∙ is)); rows = within.rows }
    where
      by_case : (m v : ℕ) → (t ≡ v) ⊎ (get nat_cmp b.plain m ≡ Some v) → v < k
      by_case m v (inl same) = subst (λ v. v < k) same less
      by_case m v (inr old) = within.plain m v old

  pub within_row : (new : BTreeMap ℕ Parts) (n : ℕ) (row : Parts) → Updated b.rows new n row → IsRowWithin k row → AreWithin k b → AreWithin k (record { plain = b.plain; rows = new; effects = b.effects })
  within_row new n row updates fits within = record { plain = within.plain; rows = λ m v is. by_case m v (found_in (is_at (nat_cmp n) m) row v (get nat_cmp b.rows m) (sym (updates m) ∙ is)) }
    where
      by_case : (m : ℕ) (v : Parts) → (row ≡ v) ⊎ (get nat_cmp b.rows m ≡ Some v) → IsRowWithin k v
      by_case m v (inl same) = subst (IsRowWithin k) same fits
      by_case m v (inr old) = within.rows m v old

  pub within_none : IsEmpty b.plain → IsEmpty b.rows → AreWithin k b
  within_none p q = record {
    plain = λ n m is. absurd (none-some m (sym (none_in (λ o. o) b.plain p n) ∙ is));
    rows = λ n row is. absurd (none-some row (sym (none_in (λ o. o) b.rows q n) ∙ is));
  }

-- a table that grows leaves what stands for variables as it is
pub grown : (ts us : List Ground) (b : Bindings) → AreWithin (length ts) b → grounding_in (ts ++ us) b ≡ grounding_in ts b
unfolding grounding_in
grown ts us b within = λ i. record {
  plain = λ n. same_plain n (get nat_cmp b.plain n) refl i;
  rows = λ n. same_row n (get nat_cmp b.rows n) refl i;
  effects = λ n. is_listed (unwrap_or (get nat_cmp b.effects n) []);
}
  where
    same_plain : (n : ℕ) (o : Option ℕ) → get nat_cmp b.plain n ≡ o
        → unwrap_or (option_map (at (ts ++ us)) (get nat_cmp b.plain n)) unit ≡ unwrap_or (option_map (at ts) (get nat_cmp b.plain n)) unit
    same_plain n None is = ap (λ o. unwrap_or (option_map (at (ts ++ us)) o) unit) is ∙ sym (ap (λ o. unwrap_or (option_map (at ts) o) unit) is)
    same_plain n (Some m) is =
        ap (λ o. unwrap_or (option_map (at (ts ++ us)) o) unit) is ∙ at_front ts us m (within.plain n m is) ∙ sym (ap (λ o. unwrap_or (option_map (at ts) o) unit) is)

    same_row : (n : ℕ) (o : Option Parts) → get nat_cmp b.rows n ≡ o
        → unwrap_or (option_map (row_in (ts ++ us)) (get nat_cmp b.rows n)) no_fields ≡ unwrap_or (option_map (row_in ts) (get nat_cmp b.rows n)) no_fields
    same_row n None is = ap (λ o. unwrap_or (option_map (row_in (ts ++ us)) o) no_fields) is ∙ sym (ap (λ o. unwrap_or (option_map (row_in ts) o) no_fields) is)
    same_row n (Some row) is =
        ap (λ o. unwrap_or (option_map (row_in (ts ++ us)) o) no_fields) is ∙ row_grown ts us row (within.rows n row is) ∙ sym (ap (λ o. unwrap_or (option_map (row_in ts) o) no_fields) is)

-- ---- what is looked up

module _ (ts : List Ground) (b : Bindings) (n : ℕ) where
  pub plain_some : (t : ℕ) → get nat_cmp b.plain n ≡ Some t → (grounding_in ts b).plain n ≡ at ts t
  unfolding grounding_in
  plain_some t is = ap (λ o. unwrap_or (option_map (at ts) o) unit) is

  pub plain_none : get nat_cmp b.plain n ≡ None → (grounding_in ts b).plain n ≡ unit
  unfolding grounding_in
  plain_none is = ap (λ o. unwrap_or (option_map (at ts) o) unit) is

  pub rows_are : (grounding_in ts b).rows n ≡ unwrap_or (option_map (row_in ts) (get nat_cmp b.rows n)) no_fields
  unfolding grounding_in
  rows_are = refl

  pub effects_are : (grounding_in ts b).effects n ≡ is_listed (unwrap_or (get nat_cmp b.effects n) [])
  unfolding grounding_in
  effects_are = refl
