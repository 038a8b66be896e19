-- Where the walk of a block begins: a part for each name, which stands for the value that is captured under it.
use Rattle.std.proofs.Common.{◌≡◌, refl, sym, ap, ◌∙◌, subst, arith, ℕ, zero, suc, ◌+◌, ◌≤◌, ◌<◌, Bool, true, false, List, [], ◌∷◌, length, map, Some, None, slice_get, if◌then◌else◌, bytes_eq}
use Rattle.lk_ast.specs.Tables.{Tables}
use Rattle.lk_ast.specs.declared.declaration.Program.{Program}
use Rattle.lk_ast.specs.declared.value.Value.{Value}
use Rattle.lk_bodies.specs.Captured.{bound_parts, captured_as, numbered}
use Rattle.lk_bodies.specs.Walk.{Calls}
use Rattle.lk_ground_types.specs.Shapes.{is_flat}
use Rattle.lk_inline.proofs.BlockValues.{IsProper, captured_stand, lookup_paired, numbered_within, paired}
use Rattle.lk_inline.proofs.Making.{AreStanding, HaveNumbers}
use Rattle.lk_inline.specs.Stands.{Stands}
use Rattle.lk_locals.specs.Names.{bind_each, no_names}
use Rattle.lk_query.proofs.Parts.{gives-at}
use Rattle.lk_query.specs.Captured.{AreCaptured, bindings_from, leaves, values_from}
use Rattle.lk_query.specs.Given.{Values, gives}
use Rattle.lk_query.specs.Order.{AreOrdered, Below}
use Rattle.lk_query.specs.declared.part.Part.{Part}
use Rattle.lk_query.specs.declared.part.Part.TheVariants as part
use Rattle.lk_sound.proofs.Names.{AreDistinct}
use Rattle.lk_sound.specs.Instances.{Instances}
use Rattle.lk_types.specs.Each.{Each}
use Rattle.lk_types.specs.Rows.{Label}
use Rattle.lk_types.specs.declared.ground.Ground.{Ground}
use Rattle.lk_typing.specs.Names.{Named, named, names_of, types_of}

-- ---- the parts of names

bound_there : (xs : List Label) (k : ℕ) → k < length xs → Some part.Bound ≡ slice_get (bound_parts xs) k
bound_there [] k l = absurd (omega (arith, l))
bound_there (x ∷ xs) zero l = refl
bound_there (x ∷ xs) (suc k) l = bound_there xs k (omega (arith, l))

pub bound_alone : (xs : List Label) (k : ℕ) (x : Part) → slice_get (bound_parts xs) k ≡ Some x → x ≡ part.Bound
bound_alone [] k x is = let wrong : None ≡ Some x = is in absurd cc
bound_alone (y ∷ xs) zero x is = let same : Some part.Bound ≡ Some x = is in let it : part.Bound ≡ x = cc in sym it
bound_alone (y ∷ xs) (suc k) x is = bound_alone xs k x is

pub bound_ordered : (xs : List Label) → AreOrdered (bound_parts xs)
bound_ordered xs k x is = subst (Below k) (sym (bound_alone xs k x is)) tt

pub bound_length : (xs : List Label) → length (bound_parts xs) ≡ length xs
bound_length [] = refl
bound_length (x ∷ xs) = ap suc (bound_length xs)

pub bound_gives : (tables : Tables) (xs : List Label) (k : ℕ) → k < length xs → (values : Values) → gives tables (bound_parts xs) k values ≡ values k
bound_gives tables xs k l values = ap (λ g. g values) (gives-at tables (bound_parts xs) k part.Bound (bound_ordered xs) (bound_there xs k l))

-- ---- numbers

names_numbered : (kept : Named Ground) (n : ℕ) (x : Label) (t : Ground) → named x kept ≡ Some t → (k : ℕ) × (named x (numbered n (names_of kept)) ≡ Some k) × (k < n + length (names_of kept))
names_numbered [] n x t is = let wrong : None ≡ Some t = is in absurd cc
names_numbered (e ∷ kept) n x t is = by_test (bytes_eq e.0 x) (names_numbered kept (n + 1) x t) is
  where
    by_test : (b : Bool) → (named x kept ≡ Some t → (k : ℕ) × (named x (numbered (n + 1) (names_of kept)) ≡ Some k) × (k < (n + 1) + length (names_of kept))) → (if b then Some e.1 else named x kept) ≡ Some t
        → (k : ℕ) × ((if b then Some n else named x (numbered (n + 1) (names_of kept))) ≡ Some k) × (k < n + suc (length (names_of kept)))
    by_test true later is = (n, refl, omega arith)
    by_test false later is = let found = later is in (found.0, found.1, let below : found.0 < (n + 1) + length (names_of kept) = found.2 in omega (arith, below))

-- names that have the numbers from n on
pub names_have : (kept : Named Ground) (xs : List Label) → names_of kept ≡ xs → (ys : List Label) (n : ℕ) → length ys ≡ n + length xs → HaveNumbers kept (numbered n xs) (bound_parts ys)
names_have kept xs same ys n many x t is =
    let found = names_numbered kept n x t is in
    let below : found.0 < n + length (names_of kept) = found.2 in
    let as_many : length (names_of kept) ≡ length xs = ap length same in
    let parts : length (bound_parts ys) ≡ length ys = bound_length ys in
    (found.0, ap (λ zs. named x (numbered n zs)) (sym same) ∙ found.1, omega (arith, below, many, as_many, parts))

-- ---- what they stand for

module _ (p : Program) (i : Instances) (tables : Tables) (calls : List ℕ → List Value → Value) (makes : Calls) where
  -- names that have the numbers from n on, where the parts of all numbers stand for what is bound to them
  pub names_standing : (kept : Named Ground) (xs : List Label) → names_of kept ≡ xs → AreDistinct xs → (args : List Value)
      → Each (λ t. is_flat t ≡ true) (types_of kept) → Each IsProper (map captured_as (types_of kept)) → AreCaptured (map captured_as (types_of kept)) args
      → (ys : List Label) (n : ℕ) → length ys ≡ n + length xs → (values : Values) → ((j : ℕ) → n ≤ j → values j ≡ values_from (leaves args) 1 (bindings_from n (map captured_as (types_of kept))) j)
      → AreStanding p i tables calls makes kept (numbered n xs) (bind_each no_names xs args) (bound_parts ys) values
  names_standing kept xs same distinct args flat proper are ys n many values agree y t k v is at value_is =
      let within = numbered_within xs n y k at in
      subst (Stands t v) (sym (bound_gives tables ys k (omega (arith, many, within.1)) values ∙ agree k within.0))
      (captured_stand kept args flat proper are [] n 1 refl y t k v is (ap (λ zs. named y (numbered n zs)) same ∙ at)
      (ap (λ zs. named y (paired zs args)) same ∙ sym (lookup_paired xs args distinct y) ∙ value_is))
