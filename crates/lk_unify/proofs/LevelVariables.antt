-- The variables of a type stand in its levels.
use Rattle.std.proofs.Common.{◌≡◌, ℕ, zero, suc, ◌+◌, ◌<◌, List, [], ◌∷◌, ◌++◌, flat_map, get_or, length, map, take, sym, subst, ◌∙◌, ap, arith, Some}
use Rattle.std.proofs.lemmas.Option.{slice_get-get_or}
use Rattle.std.specs.List.{cons_option}
use Rattle.std.specs.Prelude.{IsSome}
use Rattle.lk_types.proofs.Built.{built_at, each_map}
use Rattle.lk_types.proofs.Members.{each_at, each_back, each_both, each_front, each_in, each_in_flat, each_of_in, each_weaker}
use Rattle.lk_types.proofs.Unfold.{variables_bool, variables_field, variables_fields, variables_function, variables_int, variables_list, variables_row, variables_tags, variables_text, variables_variable}
use Rattle.lk_types.specs.Each.{Each, OneOf}
use Rattle.lk_types.specs.Levels.{at, built, field_made, made, parts_of, row_made, row_parts, AreBelow}
use Rattle.lk_types.specs.Variables.{before_tail, equation_variables, tail_variable, variables_of, variables_of_field, variables_of_row}
use Rattle.lk_types.specs.declared.equation.Equation.{Equation}
use Rattle.lk_types.specs.declared.levels.Level.{Level}
use Rattle.lk_types.specs.declared.levels.Level.TheVariants as level
use Rattle.lk_types.specs.declared.levels.LevelField.{LevelField}
use Rattle.lk_types.specs.declared.levels.LevelRow.{LevelRow}
use Rattle.lk_types.specs.declared.ty.Ty.{Ty}
use Rattle.lk_types.specs.declared.ty.Ty.TheOpen.{TyRow-F}
use Rattle.lk_types.specs.declared.ty.TyField.{TyField}
use Rattle.lk_types.specs.declared.ty.TyRow.{TyRow, out-roll-TyRow}
use Rattle.lk_types.specs.declared.ty.Variable.{Variable}
use Rattle.lk_types.specs.declared.ty.Variable.TheVariants as variable
use Rattle.lk_unify.proofs.Loadeds.{taken}
use Rattle.lk_unify.proofs.Solving.{bound_still}
use Rattle.lk_unify.specs.LevelLoading.{level_variables}
use Rattle.lk_unify.specs.Loading.{node_for}
use Rattle.lk_unify.specs.Solving.{AreBound}
use Rattle.lk_unify.specs.declared.loader.Loader.{Loader}

-- ---- what holds of the variables of all levels holds of those of a type

module _ (P : Variable → Type 0) (ts : List Ty) where
  abbrev Holds : ℕ → Type 0
  Holds p = Each P (variables_of (at ts p))

  fields_hold : (fs : List LevelField) → Each Holds (map (λ f. f.part) fs) → Each P (flat_map variables_of_field (map (field_made ts) fs))
  fields_hold [] all = tt
  fields_hold (f ∷ fs) all =
      each_both P (variables_of_field (field_made ts f)) (flat_map variables_of_field (map (field_made ts) fs)) (subst (Each P) (sym (variables_field (field_made ts f))) all.0) (fields_hold fs all.1)

  places_hold : (ps : List ℕ) → Each Holds ps → Each P (flat_map variables_of (map (at ts) ps))
  places_hold [] all = tt
  places_hold (p ∷ ps) all = each_both P (variables_of (at ts p)) (flat_map variables_of (map (at ts) ps)) all.0 (places_hold ps all.1)

  row_holds : (row : LevelRow) → Each P (cons_option (tail_variable variable.Row row.tail) []) → Each Holds (row_parts row) → Each P (variables_of_row (row_made ts row))
  row_holds row own all =
      subst (Each P)
      (ap (λ (x : TyRow-F Ty TyField TyRow). before_tail (flat_map variables_of_field x.fields) variable.Row x.tail) (sym (out-roll-TyRow (record { fields = map (field_made ts) row.fields; tail = row.tail }))) ∙ sym (variables_row (row_made ts row)))
      (each_both P (flat_map variables_of_field (map (field_made ts) row.fields)) (cons_option (tail_variable variable.Row row.tail) []) (fields_hold row.fields all) own)

  level_holds : (l : Level) → Each P (level_variables l) → Each Holds (parts_of l) → Each P (variables_of (made ts l))
  level_holds level.Int own all = subst (Each P) (sym variables_int) tt
  level_holds level.Bool own all = subst (Each P) (sym variables_bool) tt
  level_holds level.Text own all = subst (Each P) (sym variables_text) tt
  level_holds (level.List p) own all = subst (Each P) (sym (variables_list (at ts p))) all.0
  level_holds (level.Fields row) own all = subst (Each P) (sym (variables_fields (row_made ts row))) (row_holds row own all)
  level_holds (level.Tags row) own all = subst (Each P) (sym (variables_tags (row_made ts row))) (row_holds row own all)
  level_holds (level.Fun params es p) own all =
      subst (Each P) (sym (variables_function (map (at ts) params) es (at ts p)))
      (each_both P (before_tail (flat_map variables_of (map (at ts) params)) variable.Effects es.tail) (variables_of (at ts p))
      (each_both P (flat_map variables_of (map (at ts) params)) (cons_option (tail_variable variable.Effects es.tail) []) (places_hold params all.1) own) all.0)
  level_holds (level.Var n) own all = subst (Each P) (sym (variables_variable n)) own

module _ (P : Variable → Type 0) (levels : List Level) (below : AreBelow levels) (all : Each P (flat_map level_variables levels)) where
  holds_to : (m n : ℕ) → n < m → n < length levels → Each P (variables_of (at (built levels) n))
  holds_to zero n less there = absurd (omega arith)
  holds_to (suc m) n less there =
      let l = get_or levels n level.Int in
      let is = slice_get-get_or levels n level.Int there in
      subst (λ t. Each P (variables_of t)) (sym (built_at levels below n l is))
      (level_holds P (built levels) l (each_at (λ l. Each P (level_variables l)) levels n l is (each_in_flat P level_variables levels all))
      (each_map (λ p lower. holds_to m p (first p lower) (second p lower)) (parts_of l) (below n l is)))
    where
      first : (p : ℕ) → p < n → p < m
      first p lower = omega arith

      second : (p : ℕ) → p < n → p < length levels
      second p lower = omega arith

  level_type_holds : (n : ℕ) → n < length levels → Each P (variables_of (at (built levels) n))
  level_type_holds n there = holds_to (suc n) n (next n) there
    where
      next : (n : ℕ) → n < suc n
      next n = omega arith

-- ---- variables among which are those of a type

-- each of these is among those
abbrev AreAmong : List Variable → List Variable → Type 0
AreAmong xs ys = Each (λ x. OneOf (λ y. y ≡ x) ys) xs

pub among_same : (xs ys : List Variable) → ys ≡ xs → AreAmong xs ys
among_same xs ys is = subst (AreAmong xs) (sym is) (each_of_in (λ x. OneOf (λ y. y ≡ x) xs) xs (λ x one. one))

pub among_levels : (levels : List Level) (r : ℕ) (t : Ty) (ys : List Variable) → AreBelow levels → r < length levels → at (built levels) r ≡ t → ys ≡ flat_map level_variables levels → AreAmong (variables_of t) ys
among_levels levels r t ys below less is all =
    subst (λ t. AreAmong (variables_of t) ys) is (level_type_holds (λ x. OneOf (λ y. y ≡ x) ys) levels below (among_same (flat_map level_variables levels) ys all) r less)

pub bound_among : (l : Loader) (xs ys : List Variable) → AreAmong xs ys → AreBound l ys → AreBound l xs
bound_among l xs ys among bound = each_weaker (λ x. OneOf (λ y. y ≡ x) ys) (λ x. IsSome (node_for l x)) (λ x one. each_in (λ y. IsSome (node_for l y)) ys x one bound) xs among

-- ---- the variables of equations

each_equations : (P : Variable → Type 0) (es : List Equation) (e : Equation) → Each P (equation_variables es) → Each P (variables_of e.left) → Each P (variables_of e.right) → Each P (equation_variables (es ++ e ∷ []))
each_equations P [] e all left right = each_both P (variables_of e.left) (variables_of e.right ++ []) left (each_both P (variables_of e.right) [] right tt)
each_equations P (f ∷ es) e all left right =
    let rest = each_back P (variables_of f.left) (variables_of f.right ++ equation_variables es) all in
    each_both P (variables_of f.left) (variables_of f.right ++ equation_variables (es ++ e ∷ [])) (each_front P (variables_of f.left) (variables_of f.right ++ equation_variables es) all)
    (each_both P (variables_of f.right) (equation_variables (es ++ e ∷ [])) (each_front P (variables_of f.right) (equation_variables es) rest)
    (each_equations P es e (each_back P (variables_of f.right) (equation_variables es) rest) left right))

abbrev AreKept : Loader → Loader → Type 0
AreKept old new = (x : Variable) (n : ℕ) → node_for old x ≡ Some n → node_for new x ≡ Some n

pub bound_next : (a b c : Loader) (es : List Equation) (i : ℕ) (e : Equation) → i < length es → e ≡ get_or es i e → AreKept a b → AreKept b c → AreBound a (equation_variables (take i es)) → AreBound b (variables_of e.left) → AreBound c (variables_of e.right)
    → AreBound c (equation_variables (take (i + 1) es))
bound_next a b c es i e less is first second bound left right =
    subst (λ fs. AreBound c (equation_variables fs)) (sym (taken es i e less is))
    (each_equations (λ x. IsSome (node_for c x)) (take i es) e (bound_still b c second (equation_variables (take i es)) (bound_still a b first (equation_variables (take i es)) bound)) (bound_still b c second (variables_of e.left) left) right)
