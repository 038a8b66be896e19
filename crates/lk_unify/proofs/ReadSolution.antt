-- What is read back of the classes, by whatever numbers they have, is a solution, which puts something for variables of the equations
-- alone and has fields, tags and effects in order.
use Rattle.std.proofs.Common.{◌≡◌, ℕ, List, [], ◌∷◌, length, Option, Some, None, refl, sym, subst}
use Rattle.lk_types.proofs.Members.{each_flat, each_weaker}
use Rattle.lk_types.specs.Each.{Each, OneOf}
use Rattle.lk_types.specs.Sizes.{IsSolution}
use Rattle.lk_types.specs.Solutions.{HasSolution}
use Rattle.lk_types.specs.Variables.{equation_variables}
use Rattle.lk_types.specs.declared.equation.Binding.{Binding}
use Rattle.lk_types.specs.declared.equation.Equation.{Equation}
use Rattle.lk_types.specs.declared.equation.Subst.{Subst}
use Rattle.lk_types.specs.declared.ty.Variable.{Variable}
use Rattle.lk_types.specs.declared.ty.Variable.TheVariants as variable
use Rattle.lk_unify.proofs.Bindings.{IsRead}
use Rattle.lk_unify.proofs.Decided.{says_all}
use Rattle.lk_unify.proofs.OwnInOrder.{image_in_order}
use Rattle.lk_unify.proofs.SolvedForm.{solution_of}
use Rattle.lk_unify.proofs.Within.{own_by_names}
use Rattle.lk_arena.specs.Kinds.{Kind}
use Rattle.lk_unify.specs.Images.{variable_of, IsImageInOrder}
use Rattle.lk_unify.specs.Loading.{node_for, IsKinded}
use Rattle.lk_unify.specs.Models.{IsOwn}
use Rattle.lk_unify.specs.NamedNodes.{number_of}
use Rattle.lk_unify.specs.Reading.{binding_by, image_of, subst_of, IsNaming}
use Rattle.lk_unify.specs.Small.{OwnNodes}
use Rattle.lk_unify.specs.Solving.{AreLoaded}
use Rattle.lk_arena.specs.Values.{Value}
use Rattle.lk_unify.specs.declared.loader.Loader.{Loader}

abbrev pub IsReadAs : Loader → (ℕ → ℕ) → List Variable → Subst → Type 0
IsReadAs l name xs s = (u : ℕ → Value) → IsOwn l.arena.shapes l.arena.classes name u → s ≡ subst_of xs l u

-- ---- what holds of what is put for each variable that has a node

of_image : (x : Variable) (v : Value) → variable_of (record { var = number_of x; is = image_of x v }) ≡ x
of_image (variable.Plain n) v = refl
of_image (variable.Row n) v = refl
of_image (variable.Effects n) v = refl

module _ (P : Binding → Type 0) (l : Loader) (u : ℕ → Value) where
  at_node : (x : Variable) (o : Option ℕ) → node_for l x ≡ o → ((n : ℕ) → node_for l x ≡ Some n → P (record { var = number_of x; is = image_of x (u n) })) → Each P (binding_by x u o)
  at_node x None is holds = tt
  at_node x (Some n) is holds = (holds n is, tt)

  each_binding : (xs : List Variable) → Each (λ x. (n : ℕ) → node_for l x ≡ Some n → P (record { var = number_of x; is = image_of x (u n) })) xs → Each P (subst_of xs l u).binds
  each_binding xs holds =
      each_flat P (λ x. binding_by x u (node_for l x)) xs
      (each_weaker (λ x. (n : ℕ) → node_for l x ≡ Some n → P (record { var = number_of x; is = image_of x (u n) })) (λ x. Each P (binding_by x u (node_for l x)))
      (λ x holds. at_node x (node_for l x) refl holds) xs holds)

-- ---- what is read

module _ (l : Loader) (sides : List ℕ) (es : List Equation) (name : ℕ → ℕ) (xs : List Variable) (s : Subst) (loaded : AreLoaded l sides es (length es)) (solution : HasSolution es)
    (names : (kind : ℕ → Kind) → IsKinded l kind → (owner : ℕ → ℕ) × IsNaming l kind name owner) (read : IsReadAs l name xs s) where
  abbrev naming : (owner : ℕ → ℕ) × IsNaming l loaded.kind name owner
  naming = names loaded.kind loaded.kinded

  abbrev o : OwnNodes es
  o = own_by_names l es (says_all l sides es loaded) solution loaded.bound loaded.kind loaded.kinded name naming.0 naming.1

  pub read_solution : Each (λ x. OneOf (λ y. y ≡ x) xs) (equation_variables es) → IsSolution s es
  read_solution all =
      subst (λ s. IsSolution s es) (sym (read o.values o.own))
      (solution_of es o xs (each_weaker (λ x. OneOf (λ y. y ≡ x) xs) (IsRead xs l) (λ x one n is. one) (equation_variables es) all) solution)

  pub read_only : Each (λ x. OneOf (λ y. y ≡ x) (equation_variables es)) xs → Each (λ b. OneOf (λ x. x ≡ variable_of b) (equation_variables es)) s.binds
  read_only only =
      subst (λ (s : Subst). Each (λ b. OneOf (λ x. x ≡ variable_of b) (equation_variables es)) s.binds) (sym (read o.values o.own))
      (each_binding (λ b. OneOf (λ x. x ≡ variable_of b) (equation_variables es)) l o.values xs
      (each_weaker (λ x. OneOf (λ y. y ≡ x) (equation_variables es))
      (λ x. (n : ℕ) → node_for l x ≡ Some n → OneOf (λ y. y ≡ variable_of (record { var = number_of x; is = image_of x (o.values n) })) (equation_variables es))
      (λ x one n is. subst (λ z. OneOf (λ y. y ≡ z) (equation_variables es)) (sym (of_image x (o.values n))) one) xs only))

  pub read_in_order : Each (λ b. IsImageInOrder b.is) s.binds
  read_in_order =
      subst (λ (s : Subst). Each (λ b. IsImageInOrder b.is) s.binds) (sym (read o.values o.own))
      (each_binding (λ b. IsImageInOrder b.is) l o.values xs (everywhere xs))
    where
      everywhere : (ys : List Variable) → Each (λ x. (n : ℕ) → node_for l x ≡ Some n → IsImageInOrder (image_of x (o.values n))) ys
      everywhere [] = tt
      everywhere (y ∷ ys) = (
        (λ n is. image_in_order l.arena.shapes l.arena.classes o.rank name o.values loaded.says.whole.arena o.ranked o.own y n (loaded.says.whole.named y n is)),
        everywhere ys,
      )
