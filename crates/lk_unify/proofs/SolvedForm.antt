-- What is read back of the nodes is a most general solution in solved form.
use Rattle.std.proofs.Common.{◌≡◌, ℕ, List, [], ◌∷◌, flat_map, Option, Some, None, refl, sym, ◌∙◌, ap, subst}
use Rattle.lk_types.proofs.Members.{each_both, each_weaker}
use Rattle.lk_types.specs.Each.{Each}
use Rattle.lk_types.specs.Sizes.{IsSolution}
use Rattle.lk_types.specs.Solutions.{HasSolution, IsMostGeneral, IsUnbound}
use Rattle.lk_types.specs.Variables.{variables_of, variables_of_row, effects_variables, image_variables, equation_variables}
use Rattle.lk_types.specs.declared.equation.Binding.{Binding}
use Rattle.lk_types.specs.declared.equation.Equation.{Equation}
use Rattle.lk_types.specs.declared.equation.Subst.{Subst}
use Rattle.lk_types.specs.declared.ty.Variable.{Variable}
use Rattle.lk_types.specs.declared.ty.Variable.TheVariants as variable
use Rattle.lk_unify.proofs.Bindings.{puts_at, unbound, IsRead}
use Rattle.lk_unify.proofs.Generality.{instance_by, opens_all}
use Rattle.lk_unify.proofs.Instances.{instance_solves, instance_all, PutsAt}
use Rattle.lk_unify.proofs.OpenEffects.{effects_in_row}
use Rattle.lk_unify.proofs.OpenVariables.{IsGivenOfNames, own_type_variables, own_row_variables, own_effects_variables}
use Rattle.lk_unify.proofs.Within.{own_agrees}
use Rattle.lk_arena.specs.Kinds.{Kind, OfTypes, OfFields, OfEffects, OfUnit, OfNothing, HasKind}
use Rattle.lk_unify.specs.Loading.{node_for}
use Rattle.lk_arena.specs.Openings.{Opening, OpenSolves, row_type, effects_type}
use Rattle.lk_unify.specs.Reading.{type_in, row_in, effects_in, opening_by, image_of, binding_by, subst_of, own_variable}
use Rattle.lk_arena.specs.Shapes.{is_loose_shape}
use Rattle.lk_unify.specs.Small.{OwnNodes}
use Rattle.lk_arena.specs.Values.{Value}
use Rattle.lk_unify.specs.declared.loader.Loader.{Loader}
use Rattle.lk_arena.specs.declared.node.Shape.TheVariants.{Free}

-- a class of which nothing is known is of types or of rows
free_kind : (kind : ℕ → Kind) (k : Kind) → HasKind kind k Free → k ≡ OfTypes
free_kind kind OfTypes h = refl
free_kind kind OfFields h = absurd h
free_kind kind OfEffects h = absurd h
free_kind kind OfUnit h = absurd h
free_kind kind OfNothing h = absurd h

pub own_solves : (es : List Equation) (o : OwnNodes es) → OpenSolves (opening_by o.loader o.values) es
own_solves es o = o.says.back o.values (opening_by o.loader o.values) o.own.fits (own_agrees o)

-- where the variables of the equations are among those that are read
module _ (es : List Equation) (o : OwnNodes es) (xs : List Variable) (read : Each (IsRead xs o.loader) (equation_variables es)) where
  abbrev l : Loader
  l = o.loader

  abbrev u : ℕ → Value
  u = o.values

  abbrev s : Subst
  s = subst_of xs o.loader o.values

  abbrev ρ : Opening
  ρ = opening_by o.loader o.values

  -- ---- solved form

  given : IsGivenOfNames (IsUnbound s) o.loader.arena.shapes o.loader.arena.classes o.kind o.name
  given = record {
    types = λ i b named is.
        let k : o.kind i ≡ OfTypes = free_kind o.kind (o.kind i) (subst (HasKind o.kind (o.kind i)) is (o.kinded.nodes i b).1) in
        unbound xs l u (variable.Plain (o.name i)) (ap (λ k. node_for l (own_variable k (o.name i))) (sym k) ∙ o.naming.unused i b named (ap is_loose_shape is));
    rows = λ i b named k is. unbound xs l u (variable.Row (o.name i)) (ap (λ k. node_for l (own_variable k (o.name i))) (sym k) ∙ o.naming.unused i b named (ap is_loose_shape is));
    effects = λ i b named k is. unbound xs l u (variable.Effects (o.name i)) (ap (λ k. node_for l (own_variable k (o.name i))) (sym k) ∙ o.naming.unused i b named (ap is_loose_shape is));
  }

  image_solved : (x : Variable) (n : ℕ) → node_for o.loader x ≡ Some n → Each (IsUnbound s) (image_variables (image_of x (o.values n)))
  image_solved (variable.Plain m) n is =
      let at = (own_agrees o).at (variable.Plain m) n is in
      subst (λ t. Each (IsUnbound s) (variables_of t)) (sym (ap type_in at))
      (own_type_variables (IsUnbound s) o.loader.arena.shapes o.loader.arena.classes o.kind o.rank o.name o.values o.says.whole.arena o.kinded.nodes o.ranked o.own given n
      (o.says.whole.named (variable.Plain m) n is) (o.kinded.named (variable.Plain m) n is) (ρ.plain m) at)
  image_solved (variable.Row m) n is =
      let at = (own_agrees o).at (variable.Row m) n is in
      subst (λ r. Each (IsUnbound s) (variables_of_row (row_type r))) (sym (ap row_in at))
      (own_row_variables (IsUnbound s) o.loader.arena.shapes o.loader.arena.classes o.kind o.rank o.name o.values o.says.whole.arena o.kinded.nodes o.ranked o.own given n
      (o.says.whole.named (variable.Row m) n is) (o.kinded.named (variable.Row m) n is) (ρ.rows m) at)
  image_solved (variable.Effects m) n is =
      let at = (own_agrees o).at (variable.Effects m) n is in
      subst (λ e. Each (IsUnbound s) (effects_variables (effects_type e))) (sym (ap (λ x. effects_in (row_in x)) at ∙ effects_in_row (ρ.effects m)))
      (own_effects_variables (IsUnbound s) o.loader.arena.shapes o.loader.arena.classes o.kind o.rank o.name o.values o.says.whole.arena o.kinded.nodes o.ranked o.own given n
      (o.says.whole.named (variable.Effects m) n is) (o.kinded.named (variable.Effects m) n is) (ρ.effects m) at)

  abbrev IsSolved : Binding → Type 0
  IsSolved b = Each (IsUnbound s) (image_variables b.is)

  binding_solved : (x : Variable) (n : Option ℕ) → node_for o.loader x ≡ n → Each IsSolved (binding_by x o.values n)
  binding_solved x None is = tt
  binding_solved x (Some n) is = (image_solved x n is, tt)

  bindings_solved : (ys : List Variable) → Each IsSolved (flat_map (λ x. binding_by x o.values (node_for o.loader x)) ys)
  bindings_solved [] = tt
  bindings_solved (y ∷ ys) =
      each_both IsSolved (binding_by y o.values (node_for o.loader y)) (flat_map (λ x. binding_by x o.values (node_for o.loader x)) ys)
      (binding_solved y (node_for o.loader y) refl) (bindings_solved ys)

  -- ---- most general

  puts : Each (PutsAt s ρ) (equation_variables es)
  puts = each_weaker (IsRead xs o.loader) (PutsAt s ρ) (puts_at xs l u) (equation_variables es) read

  most_general : IsMostGeneral s es
  most_general = record {
    sound = λ σ τ at sides. instance_solves σ s τ ρ es puts (own_solves es o) at sides;
    general = λ σ solves. (
      instance_by l o.kind o.kinded o.rank o.ranked o.name o.owner o.naming o.values o.own es o.says σ solves,
      instance_all σ s (instance_by l o.kind o.kinded o.rank o.ranked o.name o.owner o.naming o.values o.own es o.says σ solves) ρ (equation_variables es) puts
          (opens_all l o.kind o.kinded o.rank o.ranked o.name o.owner o.naming o.values o.own es o.says σ solves (equation_variables es) o.bound),
    );
  }

  pub solution_of : HasSolution es → IsSolution (subst_of xs o.loader o.values) es
  solution_of solution = (solution, most_general, bindings_solved xs)
