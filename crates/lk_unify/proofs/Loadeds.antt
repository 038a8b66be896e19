-- Equations that are made into nodes one after another.
use Rattle.std.proofs.Common.{◌≡◌, ℕ, zero, suc, ◌+◌, ◌<◌, ◌≤◌, List, [], ◌∷◌, ◌++◌, ◌⊎◌, inl, inr, ⊎_elim, length, take, get_or, refl, sym, subst, ◌∙◌, ap, arith, append_assoc, append-nil}
use Rattle.std.proofs.lemmas.List.{take_more}
use Rattle.std.specs.Prelude.{IsSome}
use Rattle.lk_types.proofs.Members.{each_both, each_front, each_back}
use Rattle.lk_types.specs.Each.{Each}
use Rattle.lk_types.specs.Solutions.{HasSolution, IsMet}
use Rattle.lk_types.specs.Variables.{variables_of, equation_variables}
use Rattle.lk_types.specs.declared.equation.Equation.{Equation}
use Rattle.lk_types.specs.declared.ty.Variable.{Variable}
use Rattle.lk_unify.proofs.Grounded.{open_solves}
use Rattle.lk_unify.proofs.Solving.{bound_still}
use Rattle.lk_arena.specs.Kinds.{Kind, OfTypes}
use Rattle.lk_unify.specs.Loading.{node_for, IsKinded, SameKinds}
use Rattle.lk_arena.specs.Openings.{IsOpenMet, OpenSolves, as_opening}
use Rattle.lk_unify.specs.Solving.{Says, HadNodes, HasNodes, AddsEquation, AddsSide, AreBound, AreLoaded, AreSides, IsSide, IsStart, NeverMeets}
use Rattle.lk_unify.specs.declared.loader.Loader.{Loader}
use Rattle.lk_unify.specs.declared.solvable.Loaded.{Loaded}

-- ---- the first of a list

-- the variables of the first equations are among those of all
pub variables_first : (P : Variable → Type 0) (k : ℕ) (es : List Equation) → Each P (equation_variables es) → Each P (equation_variables (take k es))
variables_first P zero es all = tt
variables_first P (suc k) [] all = tt
variables_first P (suc k) (e ∷ es) all =
    let right = each_back P (variables_of e.left) (variables_of e.right ++ equation_variables es) all in
    each_both P (variables_of e.left) (variables_of e.right ++ equation_variables (take k es)) (each_front P (variables_of e.left) (variables_of e.right ++ equation_variables es) all)
    (each_both P (variables_of e.right) (equation_variables (take k es)) (each_front P (variables_of e.right) (equation_variables es) right)
    (variables_first P k es (each_back P (variables_of e.right) (equation_variables es) right)))

pub each_first : {A : Type 0} (P : A → Type 0) (k : ℕ) (xs : List A) → Each P xs → Each P (take k xs)
each_first P zero xs all = tt
each_first P (suc k) [] all = tt
each_first P (suc k) (x ∷ xs) all = (all.0, each_first P k xs all.1)

-- one element more of a list is taken
pub taken : {A : Type 0} (xs : List A) (i : ℕ) (x : A) → i < length xs → x ≡ get_or xs i x → take (i + 1) xs ≡ take i xs ++ x ∷ []
taken xs i x below is = take_more xs i x below ∙ ap (λ y. take i xs ++ y ∷ []) (sym is)

-- ---- the sides

pub sides_below : (l : Loader) (es : List Equation) (sides : List ℕ) → AreSides l es sides → Each (λ n. n < length l.arena.shapes) sides
sides_below l [] [] all = tt
sides_below l (e ∷ es) (n ∷ ns) all = (all.0.below, sides_below l es ns all.1)
sides_below l [] (n ∷ ns) all = absurd all
sides_below l (e ∷ es) [] all = absurd all

module _ (old new : Loader) (e : Equation) (node : ℕ) (adds : AddsEquation old new e node) where
  side_still : (f : Equation) (n : ℕ) → IsSide old f n → IsSide new f n
  side_still f n side = record {
    below = omega (arith, adds.longer, side.below);
    meaning = λ v ρ fits agrees.
        let was = adds.back v ρ fits agrees in
        side.meaning v ρ was.0 was.1;
  }

  sides_more : (es : List Equation) (sides : List ℕ) → AreSides old es sides → AreSides new (es ++ e ∷ []) (sides ++ node ∷ [])
  sides_more [] [] all = (record { below = adds.below; meaning = λ v ρ fits agrees. (adds.met v ρ fits agrees).1 }, tt)
  sides_more (f ∷ es) (n ∷ ns) all = (side_still f n all.0, sides_more es ns all.1)
  sides_more [] (n ∷ ns) all = absurd all
  sides_more (f ∷ es) [] all = absurd all

  types_more : (k j : ℕ → Kind) → SameKinds (length old.arena.shapes) k j → j node ≡ OfTypes → (sides : List ℕ) → Each (λ n. n < length old.arena.shapes) sides →
      Each (λ n. k n ≡ OfTypes) sides → Each (λ n. j n ≡ OfTypes) (sides ++ node ∷ [])
  types_more k j same last [] below all = (last, tt)
  types_more k j same last (n ∷ ns) below all = (same n below.0 ∙ all.0, types_more k j same last ns below.1 all.1)

  says_more : (es : List Equation) → Says old es → Says new (es ++ e ∷ [])
  says_more es says = record {
    whole = adds.whole;
    back = λ v ρ fits agrees.
        let was = adds.back v ρ fits agrees in
        each_both (IsOpenMet ρ) es (e ∷ []) (says.back v ρ was.0 was.1) ((adds.met v ρ fits agrees).0, tt);
    forth = λ ρ solves.
        let v = says.forth ρ (each_front (IsOpenMet ρ) es (e ∷ []) solves) in
        adds.forth v.0 ρ v.1 v.2 (each_back (IsOpenMet ρ) es (e ∷ []) solves).0;
  }

-- ---- the list

zero_only : (j : ℕ) → j ≤ 0 → j ≡ 0
zero_only zero h = refl
zero_only (suc j) h = absurd (omega arith)

last_or_before : (j k : ℕ) → j ≤ k + 1 → (j ≤ k) ⊎ (j ≡ k + 1)
last_or_before j k h = ⊎_elim (λ l. inl (omega arith)) (λ e. ⊎_elim (λ same. inr same) (λ more. absurd (omega arith)) e) (order j (k + 1))
  where
    order : (m n : ℕ) → (m < n) ⊎ ((m ≡ n) ⊎ (n < m))
    order zero zero = inr (inl refl)
    order zero (suc n) = inl (omega arith)
    order (suc m) zero = inr (inr (omega arith))
    order (suc m) (suc n) = ⊎_elim (λ l. inl (omega arith)) (λ e. ⊎_elim (λ same. inr (inl (ap suc same))) (λ more. inr (inr (omega arith))) e) (order m n)

module _ (l : Loader) (all : List Equation) (bound : AreBound l (equation_variables all)) (kind : ℕ → Kind) (kinded : IsKinded l kind) where
  abbrev nodes_of : (k : ℕ) → Says l (take k all) → (sides : List ℕ) → AreSides l (take k all) sides → Each (λ n. kind n ≡ OfTypes) sides → HasNodes (take k all)
  nodes_of k says sides are types = record {
    loader = l;
    says = says;
    bound = variables_first (λ x. IsSome (node_for l x)) k all bound;
    kind = kind;
    kinded = kinded;
    sides = sides;
    sides_are = are;
    types = types;
  }

  all_nodes : (k : ℕ) → Says l (take k all) → (sides : List ℕ) → AreSides l (take k all) sides → Each (λ n. kind n ≡ OfTypes) sides → HadNodes (take k all) l kind sides
  all_nodes k says sides are types =
      (nodes_of k says sides are types, record { longer = omega arith; covers = λ c h. h; kinds = λ i h. refl; first = ([], sym (append-nil sides)) })

-- those from before were there before the new ones
still_before : (es : List Equation) (old new : Loader) (e : Equation) (node : ℕ) (adds : AddsEquation old new e node) (kind more : ℕ → Kind) → SameKinds (length old.arena.shapes) kind more →
    (sides : List ℕ) → HadNodes es old kind sides → HadNodes es new more (sides ++ node ∷ [])
still_before es old new e node adds kind more same sides had = (
  had.0,
  record {
    longer = omega (arith, had.1.longer, adds.longer);
    covers = λ c h. had.1.covers c (adds.covers c h);
    kinds = λ i h. same i (omega (arith, had.1.longer)) ∙ had.1.kinds i h;
    first = (had.1.first.0 ++ node ∷ [], ap (λ ns. ns ++ node ∷ []) had.1.first.1 ∙ append_assoc had.0.sides had.1.first.0 (node ∷ []));
  },
)

pub loaded_none : (l : Loader) (es : List Equation) → IsStart l → AreBound l (equation_variables es) → AreLoaded l [] es 0
loaded_none l es start bound = record {
  says = says;
  bound = bound;
  sides_are = tt;
  kind = start.kind;
  kinded = start.kinded;
  types = tt;
  before = λ j h. subst (λ j. HadNodes (take j es) l start.kind []) (sym (zero_only j h)) (all_nodes l es bound start.kind start.kinded 0 says [] tt tt);
}
  where
    says : Says l (take 0 es)
    says = record { whole = start.whole; back = λ v ρ fits agrees. tt; forth = λ ρ solves. start.forth ρ }

pub loaded_more : (old new : Loader) (sides : List ℕ) (es : List Equation) (k : ℕ) (e : Equation) (node : ℕ) → k < length es → e ≡ get_or es k e → AreLoaded old sides es k →
    AddsEquation old new e node → AreLoaded new (sides ++ node ∷ []) es (k + 1)
loaded_more old new sides es k e node below at loaded adds = record {
  says = says;
  bound = bound;
  sides_are = are;
  kind = kinds.0;
  kinded = kinds.2;
  types = types;
  before = λ j h.
      ⊎_elim
      (λ l. still_before (take j es) old new e node adds loaded.kind kinds.0 kinds.1 sides (loaded.before j l))
      (λ same. subst (λ j. HadNodes (take j es) new kinds.0 (sides ++ node ∷ [])) (sym same) (all_nodes new es bound kinds.0 kinds.2 (k + 1) says (sides ++ node ∷ []) are types))
      (last_or_before j k h);
}
  where
    first : take (k + 1) es ≡ take k es ++ e ∷ []
    first = taken es k e below at

    says : Says new (take (k + 1) es)
    says = subst (Says new) (sym first) (says_more old new e node adds (take k es) loaded.says)

    bound : AreBound new (equation_variables es)
    bound = bound_still old new adds.kept (equation_variables es) loaded.bound

    kinds : (j : ℕ → Kind) × SameKinds (length old.arena.shapes) loaded.kind j × IsKinded new j × (j node ≡ OfTypes)
    kinds = adds.kinds loaded.kind loaded.kinded

    are : AreSides new (take (k + 1) es) (sides ++ node ∷ [])
    are = subst (λ first. AreSides new first (sides ++ node ∷ [])) (sym first) (sides_more old new e node adds (take k es) sides loaded.sides_are)

    types : Each (λ n. kinds.0 n ≡ OfTypes) (sides ++ node ∷ [])
    types = types_more old new e node adds loaded.kind kinds.0 kinds.1 kinds.3 sides (sides_below old (take k es) sides loaded.sides_are) loaded.types

pub loaded_side : (old new : Loaded) (es : List Equation) (k : ℕ) (e : Equation) → k < length es → e ≡ get_or es k e → AreLoaded old.loader old.sides es k → AddsSide old new e →
    AreLoaded new.loader new.sides es (k + 1)
loaded_side old new es k e below at loaded adds =
    subst (λ sides. AreLoaded new.loader sides es (k + 1)) (sym adds.2) (loaded_more old.loader new.loader old.sides es k e adds.0 below at loaded adds.1)

-- with an equation that what fits doesn't meet there is no solution
pub loaded_stops : (l : Loader) (sides : List ℕ) (es : List Equation) (k : ℕ) (e : Equation) → k < length es → e ≡ get_or es k e → AreLoaded l sides es k → NeverMeets l e → HasSolution (take (k + 1) es) → ⊥
loaded_stops l sides es k e below at loaded never solution =
    let solves : OpenSolves (as_opening solution.0) (take k es ++ e ∷ []) = subst (OpenSolves (as_opening solution.0)) (taken es k e below at) (open_solves solution.0 (take (k + 1) es) solution.1) in
    let v = loaded.says.forth (as_opening solution.0) (each_front (IsOpenMet (as_opening solution.0)) (take k es) (e ∷ []) solves) in
    never v.0 (as_opening solution.0) v.1 v.2 (each_back (IsOpenMet (as_opening solution.0)) (take k es) (e ∷ []) solves).0

pub loaded_never : (l : Loader) (sides : List ℕ) (es : List Equation) (k : ℕ) (e : Equation) → k < length es → e ≡ get_or es k e → AreLoaded l sides es k → NeverMeets l e → HasSolution es → ⊥
loaded_never l sides es k e below at loaded never solution = loaded_stops l sides es k e below at loaded never (solution.0, each_first (IsMet solution.0) (k + 1) es solution.1)
