-- What nodes say when variables get nodes, when one equation more is made into nodes, and when its sides are merged.
use Rattle.std.proofs.Common.{◌≡◌, ℕ, refl, ◌<◌, List, [], ◌∷◌, ◌++◌, length, sym, subst, ◌∙◌, ap, arith, Option, Some, None}
use Rattle.std.specs.BTreeMap.{get}
use Rattle.std.specs.Ordering.{nat_cmp}
use Rattle.std.specs.Prelude.{IsSome}
use Rattle.lk_types.specs.declared.ty.RowTail.TheVariants.{Closed}
use Rattle.lk_types.specs.declared.equation.Equation.{Equation}
use Rattle.lk_types.specs.declared.ty.Variable.{Variable}
use Rattle.lk_arena.proofs.Ranks.{some_of}
use Rattle.lk_unify.proofs.LoadSteps.{made_still}
use Rattle.lk_arena.specs.Kinds.{Kind, OfTypes}
use Rattle.lk_unify.specs.NamedNodes.{node_in}
use Rattle.lk_unify.specs.Loading.{node_for, kind_of, end_value, made_at, Agrees, IsLoader, IsKinded, Loads, LoadsEquation}
use Rattle.lk_arena.specs.Openings.{Opening, only_tail}
use Rattle.lk_arena.specs.Shapes.{WeakNodes, NeverSame}
use Rattle.lk_unify.specs.Solving.{AddsEquation, AreBound, IsStart, NeverMeets}
use Rattle.lk_arena.specs.Steps.{Leads}
use Rattle.lk_arena.specs.Values.{Value, OfRow}
use Rattle.lk_unify.specs.declared.loader.Loader.{Loader}
use Rattle.lk_unify.specs.declared.loader.MadeNode.{MadeNode}
use Rattle.lk_arena.specs.declared.node.Pair.{Pair}

-- ---- one equation more

module _ (b m : Loader) (e : Equation) (p : Pair) (loads : LoadsEquation b m e p) where
  pub never_same : NeverSame m.arena.shapes m.arena.classes p.left p.right → NeverMeets b e
  never_same never v ρ fits agrees met =
      let w = loads.forth v ρ fits agrees met in
      never w.0 w.2 w.4

  module _ (c : Loader) (same : c.names ≡ m.names) (made : c.made ≡ m.made) (leads : Leads p.left p.right m.arena.shapes m.arena.classes c.arena.shapes c.arena.classes []) where
    named : (x : Variable) (n : ℕ) → node_for c x ≡ Some n → node_for m x ≡ Some n
    named x n is = ap (λ names. node_in names x) (sym same) ∙ is

    below : (x : Variable) (n : ℕ) → node_for c x ≡ Some n → n < length m.arena.shapes
    below x n is = loads.whole.named x n (named x n is)

    back : (v : ℕ → Value) (ρ : Opening) → WeakNodes c.arena.shapes c.arena.classes v → Agrees c ρ v → WeakNodes m.arena.shapes m.arena.classes v × (v p.left ≡ v p.right) × Agrees m ρ v
    back v ρ fits agrees =
        let at_m = leads.back v (record { nodes = fits; equates = tt }) in
        (at_m.0, at_m.1, record { at = λ x n is. agrees.at x n (ap (λ names. node_in names x) same ∙ is) })

    made_before : (key : ℕ) (n : MadeNode) → made_at c key ≡ Some n → made_at m key ≡ Some n
    made_before key n is = sym (ap (λ made. get nat_cmp made key) made) ∙ is

    pub adds_equation : AddsEquation b c e p.left
    adds_equation = record {
      whole = record { arena = leads.arena; named = λ x n is. let under = below x n is in omega (arith, leads.longer); made = made_still m c loads.whole leads.longer (λ v fits. (leads.back v (record { nodes = fits; equates = tt })).0) made };
      longer = omega (arith, loads.longer, leads.longer);
      below = omega (arith, loads.left_below, leads.longer);
      kept = λ x n is. ap (λ names. node_in names x) same ∙ loads.kept x n is;
      kinds = λ k kinded.
          let loaded = loads.kinds.kinds k kinded in
          let merged = leads.kinds loaded.0 loaded.2.nodes (loaded.3.0 ∙ sym loaded.3.1) in (
            merged.0,
            λ i h. merged.1 i (omega (arith, loads.longer)) ∙ loaded.1 i h,
            record {
              nodes = merged.2;
              named = λ x n is. merged.1 n (below x n is) ∙ loaded.2.named x n (named x n is);
              made = λ key n is. let was = made_before key n is in merged.1 n.node (loads.whole.made key n was).below ∙ loaded.2.made key n was;
            },
            merged.1 p.left loads.left_below ∙ loaded.3.0,
          );
      back = λ v ρ fits agrees.
          let at_m = back v ρ fits agrees in
          (loads.back v at_m.0, record { at = λ x n is. at_m.2.at x n (loads.kept x n is) });
      covers = λ q h. loads.covers q (leads.covers q (record { nodes = h; equal = tt }));
      met = λ v ρ fits agrees.
          let at_m = back v ρ fits agrees in
          (loads.is v ρ at_m.0 at_m.2 at_m.1, (loads.sides v ρ at_m.0 at_m.2).0);
      forth = λ v ρ fits agrees met.
          let w = loads.forth v ρ fits agrees met in
          let u = leads.forth w.0 w.2 w.4 in
          (u.0, u.2.nodes, record { at = λ x n is. u.1 n (below x n is) ∙ w.3.at x n (named x n is) });
    }

-- ---- nodes for variables

-- without nodes nothing is said
pub start_nothing : (l : Loader) → IsLoader l → l.arena.shapes ≡ [] → ((kind : ℕ → Kind) → IsKinded l kind) → ((x : Variable) → node_for l x ≡ None) → IsStart l
start_nothing l whole no_shapes kinded no_names = record {
  whole = whole;
  kind = λ i. OfTypes;
  kinded = kinded (λ i. OfTypes);
  forth = λ ρ. (
    (λ i. OfRow (only_tail Closed)),
    record { builds = λ i under. absurd (nothing i under); respects = λ i under. absurd (nothing i (subst (λ n. i < n) whole.arena.named.count under)) },
    record { at = λ x n is. absurd (unnamed x n is) },
  );
}
  where
    nothing : (i : ℕ) → i < length l.arena.shapes → ⊥
    nothing i under = let none : length l.arena.shapes ≡ 0 = ap length no_shapes in omega arith

    unnamed : (x : Variable) (n : ℕ) → node_for l x ≡ Some n → ⊥
    unnamed x n is = let wrong : None ≡ Some n = sym (no_names x) ∙ is in cc

pub start_more : (old new : Loader) (x : Variable) (node : ℕ) → IsStart old → Loads old new (kind_of x) (λ ρ. Some (end_value (Some x) ρ)) node → IsStart new
start_more old new x node start loads = record {
  whole = loads.to.whole;
  kind = (loads.kinds.kinds start.kind start.kinded).0;
  kinded = (loads.kinds.kinds start.kind start.kinded).2;
  forth = λ ρ.
      let v = start.forth ρ in
      let w = loads.to.forth v.0 ρ (end_value (Some x) ρ) v.1 v.2 refl in
      (w.0, w.2, w.3);
}

is_some : (o : Option ℕ) (n : ℕ) → o ≡ Some n → IsSome o
is_some o n e = subst IsSome (sym e) (grind arith)

-- nodes for variables are kept
pub bound_still : (old new : Loader) → ((x : Variable) (n : ℕ) → node_for old x ≡ Some n → node_for new x ≡ Some n) → (xs : List Variable) → AreBound old xs → AreBound new xs
bound_still old new kept [] all = tt
bound_still old new kept (x ∷ xs) all =
    let at = some_of (node_for old x) all.0 in
    (is_some (node_for new x) at.0 (kept x at.0 at.1), bound_still old new kept xs all.1)

pub bound_more : (l : Loader) (x : Variable) (n : ℕ) → node_for l x ≡ Some n → (xs : List Variable) → AreBound l xs → AreBound l (xs ++ x ∷ [])
bound_more l x n is [] all = (is_some (node_for l x) n is, tt)
bound_more l x n is (y ∷ xs) all = (all.0, bound_more l x n is xs all.1)
