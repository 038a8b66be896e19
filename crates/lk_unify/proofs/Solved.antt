-- Equations have a solution where whatever fits the nodes solves them: values without variables are put for the variables, Int for
-- each type of which nothing is known and the row without fields for each row.
use Rattle.std.proofs.Common.{◌≡◌, ℕ, ◌<◌, List, length, Option, Some, sym, ◌∙◌, ap, subst}
use Rattle.lk_types.specs.Grounding.{Grounding}
use Rattle.lk_types.specs.Rows.{Row, EffectSet}
use Rattle.lk_types.specs.Solutions.{HasSolution}
use Rattle.lk_types.specs.declared.equation.Equation.{Equation}
use Rattle.lk_types.specs.declared.ground.Ground.{Ground}
use Rattle.lk_types.specs.declared.ty.RowTail.TheVariants.{Closed}
use Rattle.lk_types.specs.declared.ty.Ty.TheVariants as ty
use Rattle.lk_types.specs.declared.ty.Variable.{Variable}
use Rattle.lk_types.specs.declared.ty.Variable.TheVariants as variable
use Rattle.lk_unify.proofs.Grounded.{solves_ground}
use Rattle.lk_unify.proofs.GroundModel.{ground_exists}
use Rattle.lk_unify.proofs.GroundValues.{ground_in, ground_row_in, ground_effects_in, ground_in-is, ground_row_in-is, ground_effects_in-is}
use Rattle.lk_arena.specs.Kinds.{Kind}
use Rattle.lk_unify.specs.Loading.{node_for, value_of, Agrees, IsLoader, IsKinded}
use Rattle.lk_unify.specs.Models.{IsGroundOf}
use Rattle.lk_arena.specs.Openings.{only_tail, as_type, as_row, as_effects, as_opening}
use Rattle.lk_arena.specs.Order.{IsRanked}
use Rattle.lk_unify.specs.Reading.{value_or}
use Rattle.lk_arena.specs.Shapes.{IsClean}
use Rattle.lk_unify.specs.Solving.{Says}
use Rattle.lk_arena.specs.Values.{Value, Plain, OfRow, effect_row}
use Rattle.lk_unify.specs.declared.loader.Loader.{Loader}

-- what the values put for the variables that have a node, and anything for the others
abbrev pub grounding_by : Loader → (ℕ → Value) → Grounding
grounding_by l v = record {
  plain = λ n. ground_in (value_or (node_for l (variable.Plain n)) v (Plain ty.Int));
  rows = λ n. ground_row_in (value_or (node_for l (variable.Row n)) v (OfRow (only_tail Closed)));
  effects = λ n. ground_effects_in (value_or (node_for l (variable.Effects n)) v (OfRow (only_tail Closed)));
}

-- a value without variables is what is put
module _ (v : ℕ → Value) (o : Option ℕ) (other : Value) (n : ℕ) (at : o ≡ Some n) where
  keeps_type : (g : Ground) → v n ≡ Plain (as_type g) → v n ≡ Plain (as_type (ground_in (value_or o v other)))
  keeps_type g is = is ∙ ap (λ g. Plain (as_type g)) (sym (ap (λ o. ground_in (value_or o v other)) at ∙ ground_in-is (v n) g is))

  keeps_row : (m : Row) → v n ≡ OfRow (as_row m) → v n ≡ OfRow (as_row (ground_row_in (value_or o v other)))
  keeps_row m is = is ∙ ap (λ m. OfRow (as_row m)) (sym (ap (λ o. ground_row_in (value_or o v other)) at ∙ ground_row_in-is (v n) m is))

  keeps_effects : (s : EffectSet) → v n ≡ OfRow (effect_row (as_effects s)) → v n ≡ OfRow (effect_row (as_effects (ground_effects_in (value_or o v other))))
  keeps_effects s is =
      is ∙ ap (λ s. OfRow (effect_row (as_effects s))) (sym (ap (λ o. ground_effects_in (value_or o v other)) at ∙ ground_effects_in-is (v n) s is))

module _ (l : Loader) (kind : ℕ → Kind) (whole : IsLoader l) (kinded : IsKinded l kind) (v : ℕ → Value) (grounds : (i : ℕ) → i < length l.arena.shapes → IsGroundOf (kind i) (v i)) where
  at_variable : (x : Variable) (n : ℕ) → node_for l x ≡ Some n → v n ≡ value_of (as_opening (grounding_by l v)) x
  at_variable (variable.Plain y) n is =
      let g : (t : Ground) × (v n ≡ Plain (as_type t)) = subst (λ k. IsGroundOf k (v n)) (kinded.named (variable.Plain y) n is) (grounds n (whole.named (variable.Plain y) n is)) in
      keeps_type v (node_for l (variable.Plain y)) (Plain ty.Int) n is g.0 g.1
  at_variable (variable.Row y) n is =
      let g : (m : Row) × (v n ≡ OfRow (as_row m)) = subst (λ k. IsGroundOf k (v n)) (kinded.named (variable.Row y) n is) (grounds n (whole.named (variable.Row y) n is)) in
      keeps_row v (node_for l (variable.Row y)) (OfRow (only_tail Closed)) n is g.0 g.1
  at_variable (variable.Effects y) n is =
      let g : (s : EffectSet) × (v n ≡ OfRow (effect_row (as_effects s))) =
      subst (λ k. IsGroundOf k (v n)) (kinded.named (variable.Effects y) n is) (grounds n (whole.named (variable.Effects y) n is)) in
      keeps_effects v (node_for l (variable.Effects y)) (OfRow (only_tail Closed)) n is g.0 g.1

  pub agrees : Agrees l (as_opening (grounding_by l v)) v
  agrees = record { at = at_variable }

-- where the kinds fit, the classes have ranks, no row has a label twice and what fits solves the equations
pub has_solution : (l : Loader) (es : List Equation) (kind : ℕ → Kind) (rank : ℕ → ℕ) → Says l es → IsKinded l kind → IsRanked l.arena.shapes l.arena.classes rank →
    IsClean l.arena.shapes l.arena.classes → HasSolution es
has_solution l es kind rank says kinded ranked clean =
    let m = ground_exists l.arena.shapes l.arena.classes kind rank says.whole.arena kinded.nodes ranked clean in (
      grounding_by l m.0,
      solves_ground (grounding_by l m.0) es (says.back m.0 (as_opening (grounding_by l m.0)) m.1 (agrees l kind says.whole kinded m.0 m.2)),
    )
