-- How large the sides of equations are under what is read back of the nodes.
use Rattle.std.proofs.Common.{◌≡◌, ℕ, ◌+◌, ◌<◌, ◌≤◌, List, inl, inr, map, Some, sym, ◌∙◌, ap, subst, arith}
use Rattle.std.specs.FinMap as fin
use Rattle.std.proofs.lemmas.Option.{same_Some}
use Rattle.lk_types.proofs.Members.{each_of_in}
use Rattle.lk_types.proofs.Unfold.{nodes_variable}
use Rattle.lk_types.specs.Each.{Each, OneOf}
use Rattle.lk_types.specs.Rows.{Label}
use Rattle.lk_types.specs.Sizes.{nodes, row_nodes_with, effects_nodes, nodes_with, one, size_of_image, image_size, size_under, most_nodes, IsWithin, IsBeyond, IsFine, IsSolution, IsTooLarge}
use Rattle.lk_types.specs.Solutions.{HasSolution}
use Rattle.lk_types.specs.Variables.{equation_variables}
use Rattle.lk_types.specs.declared.equation.Equation.{Equation}
use Rattle.lk_types.specs.declared.equation.Subst.{Subst}
use Rattle.lk_types.specs.declared.ty.RowTail.TheVariants.{Var}
use Rattle.lk_types.specs.declared.ty.Ty.{Ty}
use Rattle.lk_types.specs.declared.ty.Variable.{Variable}
use Rattle.lk_types.specs.declared.ty.Variable.TheVariants as variable
use Rattle.lk_unify.proofs.Bindings.{all_read, names_of, puts_at, IsRead}
use Rattle.lk_arena.proofs.EachLemmas.{Each-zip, OneOf-with}
use Rattle.lk_unify.proofs.Instances.{PutsAt}
use Rattle.lk_unify.proofs.OpenCounts.{count_nodes, row_count_nodes}
use Rattle.lk_unify.proofs.OpenSizes.{opening_size, opened_nodes}
use Rattle.lk_unify.proofs.OpenUnfold.{count_rolled}
use Rattle.lk_arena.proofs.Sizes.{no_entries}
use Rattle.lk_unify.proofs.SolvedForm.{own_solves, solution_of}
use Rattle.lk_arena.specs.Counting.{sum_of}
use Rattle.lk_unify.specs.Nodes.{count}
use Rattle.lk_arena.specs.Openings.{Opening, IsOpenMet, opened, only_tail, row_type, effects_type, field_type}
use Rattle.lk_unify.specs.Reading.{opening_by, subst_of}
use Rattle.lk_unify.specs.Small.{OwnNodes}
use Rattle.lk_arena.specs.Values.{Value}
use Rattle.lk_unify.specs.declared.loader.Loader.{Loader}

-- ---- how large the sides are

one_row : (n : ℕ) → row_nodes_with one (row_type (only_tail (Var n))) ≡ 1
one_row n = sym (row_count_nodes (row_type (only_tail (Var n)))) ∙ count_rolled 0 (map field_type (fin.entries (only_tail (Var n)).fields)) (Var n) ∙ ap (λ (xs : List (Label × Ty)). sum_of (map (λ f. 1 + count 0 f.ty) (map field_type xs)) + 1) no_entries

module _ (s : Subst) (ρ : Opening) where
  same_size : (x : Variable) → PutsAt s ρ x → image_size s x ≡ opening_size ρ x
  same_size (variable.Plain n) (inl p) = ap (size_of_image nodes) p.0 ∙ sym (ap nodes p.1 ∙ nodes_variable one n)
  same_size (variable.Plain n) (inr p) = ap (size_of_image nodes) p
  same_size (variable.Row n) (inl p) = ap (size_of_image (row_nodes_with one)) p.0 ∙ sym (ap (λ r. row_nodes_with one (row_type r)) p.1 ∙ one_row n)
  same_size (variable.Row n) (inr p) = ap (size_of_image (row_nodes_with one)) p
  same_size (variable.Effects n) (inl p) = ap (size_of_image (effects_nodes one)) p.0 ∙ sym (ap (λ e. effects_nodes one (effects_type e)) p.1)
  same_size (variable.Effects n) (inr p) = ap (size_of_image (effects_nodes one)) p

  -- under the substitution a side is as large as what it becomes
  size_is : ((x : Variable) → PutsAt s ρ x) → (t u : Ty) → opened ρ t ≡ Some u → size_under s t ≡ count 0 u
  size_is puts t u is = (λ i. nodes_with (λ x. same_size x (puts x) i) t) ∙ sym (opened_nodes ρ t u is) ∙ sym (count_nodes u)

-- the type that both sides become has so many nodes
abbrev pub IsSideOf : {equations : List Equation} → OwnNodes equations → (ℕ → Type 0) → Equation → Type 0
IsSideOf o P e = (t : Ty) × (opened (opening_by o.loader o.values) e.left ≡ Some t) × P (count 0 t)

-- what they put for all variables that have nodes
abbrev subst_by : Loader → (ℕ → Value) → Subst
subst_by l u = subst_of (names_of l) l u

puts_all : (l : Loader) (u : ℕ → Value) (x : Variable) → PutsAt (subst_by l u) (opening_by l u) x
puts_all l u x = puts_at (names_of l) l u x (all_read l x)

module _ (es : List Equation) (o : OwnNodes es) where
  sizes_are : (e : Equation) (t : Ty) → IsOpenMet (opening_by o.loader o.values) e → opened (opening_by o.loader o.values) e.left ≡ Some t →
      (size_under (subst_by o.loader o.values) e.left ≡ count 0 t) × (size_under (subst_by o.loader o.values) e.right ≡ count 0 t)
  sizes_are e t met is =
      let same : met.0 ≡ t = (let f : Some met.0 ≡ Some t = sym met.1 ∙ is in same_Some met.0 t f) in (
        size_is (subst_by o.loader o.values) (opening_by o.loader o.values) (puts_all o.loader o.values) e.left t is,
        size_is (subst_by o.loader o.values) (opening_by o.loader o.values) (puts_all o.loader o.values) e.right t (met.2 ∙ ap Some same),
      )

  its_within : (e : Equation) → IsSideOf o (λ n. n ≤ most_nodes) e → IsOpenMet (opening_by o.loader o.values) e → IsWithin (subst_by o.loader o.values) e
  its_within e side met =
      let sizes = sizes_are e side.0 met side.1 in
      (subst (λ n. n ≤ most_nodes) (sym sizes.0) side.2, subst (λ n. n ≤ most_nodes) (sym sizes.1) side.2)

  its_beyond : (e : Equation) → IsSideOf o (λ n. most_nodes < n) e → IsOpenMet (opening_by o.loader o.values) e → IsBeyond (subst_by o.loader o.values) e
  its_beyond e side met = inl (subst (λ n. most_nodes < n) (sym (sizes_are e side.0 met side.1).0) side.2)

  its_solution : HasSolution es → IsSolution (subst_by o.loader o.values) es
  its_solution solution = solution_of es o (names_of o.loader) (each_of_in (IsRead (names_of o.loader) o.loader) (equation_variables es) (λ x one. all_read o.loader x)) solution

  -- no side has more nodes than a type may have
  pub fine : Each (IsSideOf o (λ n. n ≤ most_nodes)) es → HasSolution es → IsFine es
  fine within solution = (
    subst_by o.loader o.values,
    its_solution solution,
    Each-zip (IsSideOf o (λ n. n ≤ most_nodes)) (IsOpenMet (opening_by o.loader o.values)) (IsWithin (subst_by o.loader o.values)) its_within es within (own_solves es o),
  )

  -- some side has more
  pub too_large : OneOf (IsSideOf o (λ n. most_nodes < n)) es → HasSolution es → IsTooLarge es
  too_large beyond solution = (
    subst_by o.loader o.values,
    its_solution solution,
    OneOf-with (IsSideOf o (λ n. most_nodes < n)) (IsOpenMet (opening_by o.loader o.values)) (IsBeyond (subst_by o.loader o.values)) its_beyond es beyond (own_solves es o),
  )
