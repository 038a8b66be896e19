-- Nodes that say equations with a solution have values where each class of which nothing is known is a variable of its own; what
-- these values put for the variables agrees with them, and the counts of the classes tell how large the sides become.
use Rattle.std.proofs.Common.{◌≡◌, ℕ, zero, suc, ◌+◌, ◌<◌, ◌≤◌, true, false, ◌⊎◌, inl, inr, List, [], ◌∷◌, length, take, Option, Some, None, refl, sym, ◌∙◌, ap, subst, arith}
use Rattle.std.proofs.lemmas.Bool.{eqb-true, cases_Bool}
use Rattle.std.proofs.lemmas.List.{get_or_past, take_all, length-take-le}
use Rattle.std.specs.Map.{lookup}
use Rattle.std.specs.Option.{option_map}
use Rattle.std.specs.Prelude.{cond, IsSome}
use Rattle.lk_types.specs.Each.{Each}
use Rattle.lk_types.specs.Solutions.{HasSolution}
use Rattle.lk_types.specs.Variables.{same_variable, equation_variables}
use Rattle.lk_types.specs.declared.equation.Equation.{Equation}
use Rattle.lk_types.specs.declared.ty.RowTail.TheVariants.{Var}
use Rattle.lk_types.specs.declared.ty.Ty.{Ty}
use Rattle.lk_types.specs.declared.ty.Ty.TheVariants as ty
use Rattle.lk_types.specs.declared.ty.Variable.{Variable}
use Rattle.lk_types.specs.declared.ty.Variable.TheVariants as variable
use Rattle.lk_unify.proofs.Decided.{says_all}
use Rattle.lk_unify.proofs.EffectRows.{its_effects}
use Rattle.lk_unify.proofs.Grounded.{open_solves}
use Rattle.lk_unify.proofs.Firsts.{first_of_first}
use Rattle.lk_unify.proofs.Loadeds.{each_first, sides_below, variables_first}
use Rattle.lk_unify.proofs.LoadSteps.{weak}
use Rattle.lk_unify.proofs.OwnModel.{own_exists, ranks_exist}
use Rattle.lk_unify.proofs.Shaping.{HasValue}
use Rattle.lk_unify.proofs.ValueKinds.{own_kinds}
use Rattle.lk_unify.proofs.ValueCounts.{own_counted}
use Rattle.lk_arena.specs.Counting.{saturated, count_at, AreCountsOf, IsCountOf}
use Rattle.lk_arena.specs.Kinds.{Kind, OfTypes, OfFields, OfEffects, OfUnit, OfNothing}
use Rattle.lk_unify.specs.Loading.{node_for, value_of, kind_of, Agrees, IsKinded}
use Rattle.lk_unify.specs.Models.{IsOwn}
use Rattle.lk_unify.specs.Nodes.{count, value_count}
use Rattle.lk_arena.specs.Openings.{IsOpenMet, as_opening, only_tail, opened}
use Rattle.lk_arena.specs.Order.{IsRanked}
use Rattle.lk_unify.specs.NamedNodes.{node_at, number_of}
use Rattle.lk_unify.specs.Reading.{type_in, row_in, effects_in, value_or, opening_by, own_variable, IsNaming}
use Rattle.lk_arena.specs.Shapes.{WeakNodes}
use Rattle.lk_unify.specs.Small.{OwnNodes}
use Rattle.lk_unify.specs.Solving.{Says, HadNodes, HasNodes, HasValues, AreBound, AreLoaded, AreSides, IsSide}
use Rattle.lk_arena.specs.Values.{Value, Plain, OfRow, effect_row}
use Rattle.lk_arena.specs.declared.counting.Count.{Count}
use Rattle.lk_unify.specs.declared.loader.Loader.{Loader}

-- ---- numbers that no variable has: those from a base on

abbrev plus : ℕ → ℕ → ℕ
plus zero i = i
plus (suc b) i = suc (plus b i)

abbrev minus : ℕ → ℕ → ℕ
minus zero n = n
minus (suc b) zero = 0
minus (suc b) (suc n) = minus b n

minus-plus : (b i : ℕ) → minus b (plus b i) ≡ i
minus-plus zero i = refl
minus-plus (suc b) i = minus-plus b i

plus-above : (b i : ℕ) → b ≤ plus b i
plus-above zero i = omega arith
plus-above (suc b) i = let ih = plus-above b i in omega arith

-- above the numbers of all these variables
abbrev above : List (Variable × ℕ) → ℕ
above [] = 0
above (e ∷ es) = number_of e.0 + (1 + above es)

apart : (x y : Variable) → number_of y < number_of x → (same_variable x y ≡ true) ⊎ (same_variable x y ≡ false) → same_variable x y ≡ false
apart x y less (inr e) = e
apart (variable.Plain m) (variable.Plain n) less (inl e) = let s : m ≡ n = eqb-true m n e in absurd (omega arith)
apart (variable.Row m) (variable.Row n) less (inl e) = let s : m ≡ n = eqb-true m n e in absurd (omega arith)
apart (variable.Effects m) (variable.Effects n) less (inl e) = let s : m ≡ n = eqb-true m n e in absurd (omega arith)
apart (variable.Plain m) (variable.Row n) less (inl e) = refl
apart (variable.Plain m) (variable.Effects n) less (inl e) = refl
apart (variable.Row m) (variable.Plain n) less (inl e) = refl
apart (variable.Row m) (variable.Effects n) less (inl e) = refl
apart (variable.Effects m) (variable.Plain n) less (inl e) = refl
apart (variable.Effects m) (variable.Row n) less (inl e) = refl

not_found : (x : Variable) (es : List (Variable × ℕ)) → above es ≤ number_of x → lookup (same_variable x) es ≡ None
not_found x [] h = refl
not_found x (e ∷ es) h =
    ap (λ b. cond b (Some e.1) (lookup (same_variable x) es)) (apart x e.0 (omega arith) (cases_Bool (same_variable x e.0))) ∙ not_found x es (omega arith)

abbrev pub base : Loader → ℕ
base l = above l.names.others.entries + length l.names.places.items

-- from there on no variable has a node
no_node : (l : Loader) (x : Variable) → base l ≤ number_of x → node_for l x ≡ None
no_node l x h =
    ap (λ o. node_at o x (lookup (same_variable x) l.names.others.entries)) (get_or_past l.names.places.items (number_of x) None (omega arith)) ∙
    not_found x l.names.others.entries (omega arith)

number_own : (k : Kind) (n : ℕ) → number_of (own_variable k n) ≡ n
number_own OfTypes n = refl
number_own OfFields n = refl
number_own OfEffects n = refl
number_own OfUnit n = refl
number_own OfNothing n = refl

pub named_above : (l : Loader) (kind : ℕ → Kind) → IsNaming l kind (plus (base l)) (minus (base l))
named_above l kind = record {
  owned = λ i h c s. minus-plus (base l) i;
  unused = λ i h c s.
      (let above = plus-above (base l) i in
      let is = number_own (kind i) (plus (base l) i) in
      no_node l (own_variable (kind i) (plus (base l) i)) (omega arith));
}

-- ---- values of one's own

-- values that fit
module _ (l : Loader) (es : List Equation) (says : Says l es) (solution : HasSolution es) where
  pub fitting : (v : ℕ → Value) × WeakNodes l.arena.shapes l.arena.classes v
  fitting = let v = says.forth (as_opening solution.0) (open_solves solution.0 es solution.1) in (v.0, weak l v.0 v.1)

  pub ranking : (rank : ℕ → ℕ) × IsRanked l.arena.shapes l.arena.classes rank
  ranking = ranks_exist l.arena.shapes l.arena.classes fitting.0 says.whole.arena fitting.1

  -- by these names
  pub own_values : (kind : ℕ → Kind) → IsKinded l kind → (name : ℕ → ℕ) → (u : ℕ → Value) × IsOwn l.arena.shapes l.arena.classes name u
  own_values kind kinded name = own_exists l.arena.shapes l.arena.classes kind ranking.0 name fitting.0 says.whole.arena kinded.nodes ranking.1 fitting.1

  abbrev pub own_by_names : AreBound l (equation_variables es) → (kind : ℕ → Kind) → IsKinded l kind → (name owner : ℕ → ℕ) → IsNaming l kind name owner → OwnNodes es
  own_by_names bound kind kinded name owner naming = record {
    loader = l;
    says = says;
    bound = bound;
    kind = kind;
    kinded = kinded;
    rank = ranking.0;
    ranked = ranking.1;
    name = name;
    owner = owner;
    naming = naming;
    values = (own_values kind kinded name).0;
    own = (own_values kind kinded name).1;
  }

  abbrev pub own_by : AreBound l (equation_variables es) → (kind : ℕ → Kind) → IsKinded l kind → OwnNodes es
  own_by bound kind kinded = own_by_names bound kind kinded (plus (base l)) (minus (base l)) (named_above l kind)

abbrev pub own_nodes : (l : Loader) (sides : List ℕ) (es : List Equation) → AreLoaded l sides es (length es) → HasSolution es → OwnNodes es
own_nodes l sides es loaded solution = own_by l es (says_all l sides es loaded) solution loaded.bound loaded.kind loaded.kinded

abbrev pub own_of_nodes : {es : List Equation} → HasNodes es → HasSolution es → OwnNodes es
own_of_nodes {es} nodes solution = own_by nodes.loader es nodes.says solution nodes.bound nodes.kind nodes.kinded

-- ---- what they put for the variables

module _ (l : Loader) (u : ℕ → Value) where
  agrees_at : (x : Variable) (n : ℕ) → node_for l x ≡ Some n → HasValue (kind_of x) (u n) → u n ≡ value_of (opening_by l u) x
  agrees_at (variable.Plain m) n is value =
      let e : u n ≡ Plain (type_in (u n)) = value.1 ∙ ap (λ x. Plain (type_in x)) (sym value.1) in
      e ∙ ap (λ o. Plain (type_in (value_or o u (Plain (ty.Var m))))) (sym is)
  agrees_at (variable.Row m) n is value =
      let e : u n ≡ OfRow (row_in (u n)) = value.1 ∙ ap (λ x. OfRow (row_in x)) (sym value.1) in
      e ∙ ap (λ o. OfRow (row_in (value_or o u (OfRow (only_tail (Var m)))))) (sym is)
  agrees_at (variable.Effects m) n is value =
      let e : u n ≡ OfRow (effect_row (effects_in (row_in (u n)))) =
      value.1 ∙ ap OfRow (its_effects value.0 value.2) ∙ ap (λ x. OfRow (effect_row (effects_in (row_in x)))) (sym value.1) in
      e ∙ ap (λ o. OfRow (effect_row (effects_in (row_in (value_or o u (OfRow (only_tail (Var m)))))))) (sym is)

pub own_agrees : {es : List Equation} (o : OwnNodes es) → Agrees o.loader (opening_by o.loader o.values) o.values
own_agrees o = record {
  at = λ x n is.
      agrees_at o.loader o.values x n is
      (subst (λ k. HasValue k (o.values n)) (o.kinded.named x n is)
      (own_kinds o.loader.arena.shapes o.loader.arena.classes o.kind o.rank o.says.whole.arena o.kinded.nodes o.ranked o.name o.values o.own n (o.says.whole.named x n is)));
}

-- ---- how large the sides are, by the counts of the classes

module _ (closed : ℕ) {es : List Equation} (o : OwnNodes es) (counts : List Count) (counted : AreCountsOf (λ p. closed) o.loader.arena.shapes o.loader.arena.classes counts) where
  abbrev pub side_count : ℕ → ℕ
  side_count n = (count_at o.loader.arena.classes counts n).as_type

  unfoldable pub IsSideWith : Equation → ℕ → Type 0
  IsSideWith e n = (t : Ty) × (opened (opening_by o.loader o.values) e.left ≡ Some t) × (side_count n ≡ saturated (count closed t))

  of_plain : (s : Option Ty) (x : Value) → option_map Plain s ≡ Some x → (t : Ty) × (s ≡ Some t) × (x ≡ Plain t)
  of_plain None x e = let f : None ≡ Some x = e in cc
  of_plain (Some t) x e = (t, refl, (let f : Some (Plain t) ≡ Some x = e in cc))

  of_types : (k : Kind) (c : Count) (x : Value) (t : Ty) → k ≡ OfTypes → x ≡ Plain t → IsCountOf k c (value_count closed k x) → c.as_type ≡ saturated (count closed t)
  of_types k c x t kind is counts = subst (λ x. IsCountOf OfTypes c (value_count closed OfTypes x)) is (subst (λ k. IsCountOf k c (value_count closed k x)) kind counts)

  pub its_count : (e : Equation) (n : ℕ) → IsSide o.loader e n → o.kind n ≡ OfTypes → IsSideWith e n
  unfolding IsSideWith
  its_count e n side kind =
      let t = of_plain (opened (opening_by o.loader o.values) e.left) (o.values n) (side.meaning o.values (opening_by o.loader o.values) o.own.fits (own_agrees o)) in
      let counts_are =
      counted o.kind (λ i. value_count closed (o.kind i) (o.values i)) o.kinded.nodes
      (own_counted o.loader.arena.shapes o.loader.arena.classes o.kind o.says.whole.arena o.kinded.nodes o.name o.values o.own closed) n side.below in
      (t.0, t.1, of_types (o.kind n) (count_at o.loader.arena.classes counts n) (o.values n) t.0 kind t.2 counts_are)

-- ---- as they are loaded

module _ (l : Loader) (sides : List ℕ) (es : List Equation) (loaded : AreLoaded l sides es (length es)) where
  pub whole_sides : AreSides l es sides
  whole_sides = subst (λ xs. AreSides l xs sides) (take_all (length es) es (omega arith)) loaded.sides_are

  pub sides_in_classes : Each (λ n. n < length l.arena.classes) sides
  sides_in_classes = subst (λ k. Each (λ n. n < k) sides) (sym loaded.says.whole.arena.named.count) (sides_below l es sides whole_sides)

-- the first of the equations, as a list of their own
pub loaded_first : (l : Loader) (sides : List ℕ) (es : List Equation) (k : ℕ) → k ≤ length es → AreLoaded l sides es k → AreLoaded l sides (take k es) (length (take k es))
loaded_first l sides es k within loaded = record {
  says = subst (Says l) (sym all) loaded.says;
  bound = variables_first (λ x. IsSome (node_for l x)) k es loaded.bound;
  sides_are = subst (λ xs. AreSides l xs sides) (sym all) loaded.sides_are;
  kind = loaded.kind;
  kinded = loaded.kinded;
  types = loaded.types;
  before = λ j h. subst (λ es. HadNodes es l loaded.kind sides) (sym (first_of_first es j k (omega (arith, as_many, h)))) (loaded.before j (omega (arith, as_many, h)));
}
  where
    as_many : length (take k es) ≡ k
    as_many = length-take-le k es within

    all : take (length (take k es)) (take k es) ≡ take k es
    all = take_all (length (take k es)) (take k es) (omega arith)

pub side_nodes : (l : Loader) (sides : List ℕ) (es : List Equation) (k : ℕ) → k ≤ length es → AreLoaded l sides es k → Each (λ n. n < length l.arena.classes) sides
side_nodes l sides es k within loaded = sides_in_classes l sides (take k es) (loaded_first l sides es k within loaded)

-- values fit where there is a solution
pub loaded_values : (l : Loader) (sides : List ℕ) (es : List Equation) (k : ℕ) → AreLoaded l sides es k → HasSolution es → HasValues l
loaded_values l sides es k loaded solution =
    let v = loaded.says.forth (as_opening solution.0) (each_first (IsOpenMet (as_opening solution.0)) k es (open_solves solution.0 es solution.1)) in
    (v.0, v.1)
