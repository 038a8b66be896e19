-- Each solution is an instance of what the values of the nodes put for the variables, where each class of which nothing is known
-- stands for a variable of its own.
use Rattle.std.proofs.Common.{◌≡◌, ℕ, ◌<◌, true, false, List, [], ◌∷◌, length, Some, refl, ◌∙◌, ap, subst}
use Rattle.std.specs.Prelude.{IsSome}
use Rattle.lk_classes.specs.Classes.{class_at}
use Rattle.lk_types.proofs.Unfold.{under_variable}
use Rattle.lk_types.specs.Each.{Each}
use Rattle.lk_types.specs.Grounding.{Grounding, under, row_under, effects_under}
use Rattle.lk_types.specs.Solutions.{Solves}
use Rattle.lk_types.specs.declared.equation.Equation.{Equation}
use Rattle.lk_types.specs.declared.ty.RowTail.TheVariants.{Var}
use Rattle.lk_types.specs.declared.ty.Ty.TheVariants as ty
use Rattle.lk_types.specs.declared.ty.Variable.{Variable}
use Rattle.lk_types.specs.declared.ty.Variable.TheVariants as variable
use Rattle.lk_unify.proofs.Grounded.{open_solves}
use Rattle.lk_unify.proofs.GroundValues.{ground_in, ground_row_in, ground_effects_in, ground_in-is, ground_row_in-is, ground_effects_in-is}
use Rattle.lk_unify.proofs.LoadSteps.{weak}
use Rattle.lk_unify.proofs.OpenReads.{Reads}
use Rattle.lk_unify.proofs.OpenReadsAll.{reads_all}
use Rattle.lk_unify.proofs.OpenRows.{only_tail-under}
use Rattle.lk_unify.proofs.OpenEffects.{effects_in_row}
use Rattle.lk_arena.specs.Kinds.{Kind, OfTypes, OfFields, OfEffects, OfUnit, OfNothing, HasKind}
use Rattle.lk_unify.specs.Loading.{node_for, kind_of, value_of, Agrees, IsKinded}
use Rattle.lk_unify.specs.Models.{IsOwn}
use Rattle.lk_arena.specs.Openings.{OpensTo, as_opening, only_tail, only_effects_tail, row_type, effects_type}
use Rattle.lk_arena.specs.Order.{IsRanked}
use Rattle.lk_unify.specs.Reading.{type_in, row_in, effects_in, value_or, opening_by, IsNaming}
use Rattle.lk_arena.specs.Shapes.{shape_at, is_loose_shape, FitsNodes}
use Rattle.lk_unify.specs.Solving.{Says}
use Rattle.lk_arena.specs.Values.{Value, Plain, OfRow}
use Rattle.lk_unify.specs.declared.loader.Loader.{Loader}
use Rattle.lk_arena.specs.declared.node.Shape.{Shape}
use Rattle.lk_arena.specs.declared.node.Shape.TheVariants.{Free, Open, Empty, Made}
use Rattle.lk_arena.specs.declared.node.Shape.TheVariants as shape
use Rattle.lk_arena.proofs.Ranks.{some_of}

-- ---- at a class of which nothing is known

-- what stands for the variables that the classes are
abbrev pub grounding_at : (ℕ → ℕ) → (ℕ → Value) → Grounding
grounding_at owner v = record { plain = λ n. ground_in (v (owner n)); rows = λ n. ground_row_in (v (owner n)); effects = λ n. ground_effects_in (v (owner n)) }

module _ (owner : ℕ → ℕ) (v : ℕ → Value) (kind : ℕ → Kind) (i n : ℕ) (owned : owner n ≡ i) where
  loose_reads : (k : Kind) (s : Shape) (x : Value) → HasKind kind k s → is_loose_shape s ≡ true → (s ≡ Free → x ≡ Plain (ty.Var n)) → (s ≡ Open → x ≡ OfRow (only_tail (Var n))) →
      Reads (grounding_at owner v) k x (v i)
  loose_reads OfTypes Free x h loose types rows = λ g is. (
    ty.Var n,
    types refl,
    under_variable (grounding_at owner v) n ∙ ap Some (ap (λ j. ground_in (v j)) owned ∙ ground_in-is (v i) g is),
  )
  loose_reads OfFields Open x h loose types rows = λ m is. (
    only_tail (Var n),
    rows refl,
    only_tail-under (grounding_at owner v) (Var n) ∙ ap Some (ap (λ j. ground_row_in (v j)) owned ∙ ground_row_in-is (v i) m is),
  )
  loose_reads OfEffects Open x h loose types rows = λ s is. (
    only_effects_tail (Var n),
    rows refl,
    ap Some (ap (λ j. ground_effects_in (v j)) owned ∙ ground_effects_in-is (v i) s is),
  )
  loose_reads OfTypes Open x h loose types rows = absurd h
  loose_reads OfFields Free x h loose types rows = absurd h
  loose_reads OfEffects Free x h loose types rows = absurd h
  loose_reads OfUnit s x h loose types rows = tt
  loose_reads OfNothing s x h loose types rows = tt
  loose_reads k Empty x h loose types rows = let f : false ≡ true = loose in cc
  loose_reads k (Made g ps) x h loose types rows = let f : false ≡ true = loose in cc
  loose_reads k (shape.Row fs t) x h loose types rows = let f : false ≡ true = loose in cc

-- ---- at all variables

module _ (l : Loader) (kind : ℕ → Kind) (kinded : IsKinded l kind) (rank : ℕ → ℕ) (ranked : IsRanked l.arena.shapes l.arena.classes rank)
    (name owner : ℕ → ℕ) (naming : IsNaming l kind name owner) (u : ℕ → Value) (own : IsOwn l.arena.shapes l.arena.classes name u) (es : List Equation) (says : Says l es) where
  module _ (σ : Grounding) (solves : Solves σ es) where
    pub values : (v : ℕ → Value) × FitsNodes l.arena.shapes l.arena.classes v × Agrees l (as_opening σ) v
    values = says.forth (as_opening σ) (open_solves σ es solves)

    abbrev pub instance_by : Grounding
    instance_by = grounding_at owner values.0

    loose : (i : ℕ) → i < length l.arena.shapes → class_at l.arena.classes i ≡ i → is_loose_shape (shape_at l.arena.shapes i) ≡ true → Reads instance_by (kind i) (u i) (values.0 i)
    loose i b named is =
        loose_reads owner values.0 kind i (name i) (naming.owned i b named is) (kind i) (shape_at l.arena.shapes i) (u i) (kinded.nodes i b).1 is (own.types i b named) (own.rows i b named)

    reads : (i : ℕ) → i < length l.arena.shapes → Reads instance_by (kind i) (u i) (values.0 i)
    reads = reads_all l.arena.shapes l.arena.classes kind rank instance_by u values.0 says.whole.arena kinded.nodes ranked own.fits
        (weak l values.0 values.1) loose

    read_at : (x : Variable) (n : ℕ) → node_for l x ≡ Some n → Reads instance_by (kind_of x) (u n) (value_of (as_opening σ) x)
    read_at x n is =
        subst (λ k. Reads instance_by k (u n) (value_of (as_opening σ) x)) (kinded.named x n is)
        (subst (λ y. Reads instance_by (kind n) (u n) y) (values.2.at x n is) (reads n (says.whole.named x n is)))

    pub opens_at : (x : Variable) → IsSome (node_for l x) → OpensTo instance_by (opening_by l u) σ x
    opens_at (variable.Plain n) some =
        let at = some_of (node_for l (variable.Plain n)) some in
        let r = read_at (variable.Plain n) at.0 at.1 (σ.plain n) refl in
        ap (λ o. under instance_by (type_in (value_or o u (Plain (ty.Var n))))) at.1 ∙ ap (λ x. under instance_by (type_in x)) r.1 ∙ r.2
    opens_at (variable.Row n) some =
        let at = some_of (node_for l (variable.Row n)) some in
        let r = read_at (variable.Row n) at.0 at.1 (σ.rows n) refl in
        ap (λ o. row_under instance_by (row_type (row_in (value_or o u (OfRow (only_tail (Var n))))))) at.1 ∙ ap (λ x. row_under instance_by (row_type (row_in x))) r.1 ∙ r.2
    opens_at (variable.Effects n) some =
        let at = some_of (node_for l (variable.Effects n)) some in
        let r = read_at (variable.Effects n) at.0 at.1 (σ.effects n) refl in
        ap (λ o. effects_under instance_by (effects_type (effects_in (row_in (value_or o u (OfRow (only_tail (Var n)))))))) at.1
        ∙ ap (λ x. effects_under instance_by (effects_type (effects_in (row_in x)))) r.1
        ∙ ap (λ e. effects_under instance_by (effects_type e)) (effects_in_row r.0) ∙ r.2

    pub opens_all : (xs : List Variable) → Each (λ x. IsSome (node_for l x)) xs → Each (OpensTo instance_by (opening_by l u) σ) xs
    opens_all [] all = tt
    opens_all (x ∷ xs) all = (opens_at x all.0, opens_all xs all.1)
