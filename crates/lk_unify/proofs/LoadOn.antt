-- A node more on nodes that were loaded, whatever was loaded beside them.
use Rattle.std.proofs.Common.{◌≡◌, ℕ, zero, suc, ◌+◌, ◌<◌, List, [], ◌∷◌, ◌++◌, length, map, sym, ◌∙◌, ap, arith, Option, Some}
use Rattle.std.proofs.lemmas.List.{map-append}
use Rattle.std.proofs.lemmas.Option.{same_Some}
use Rattle.lk_types.proofs.Members.{each_both, each_front, each_back, each_weaker}
use Rattle.lk_types.proofs.Parts.{all_some}
use Rattle.lk_types.specs.Each.{Each}
use Rattle.lk_types.specs.Levels.{at}
use Rattle.lk_types.specs.declared.ty.Ty.{Ty}
use Rattle.lk_arena.proofs.EachLemmas.{Each-get_or}
use Rattle.lk_arena.specs.Kinds.{Kind, OfTypes, HasKind}
use Rattle.lk_arena.specs.Openings.{Opening}
use Rattle.lk_arena.specs.Shapes.{IsBuilt, SameBelow}
use Rattle.lk_arena.specs.Values.{Value}
use Rattle.lk_arena.specs.declared.node.Shape.{Shape}
use Rattle.lk_unify.proofs.LoadKinds.{kinds_as}
use Rattle.lk_unify.proofs.LoadLists.{with_last, all_more}
use Rattle.lk_unify.proofs.LoadSteps.{both, both_some, agrees_before, loads_as}
use Rattle.lk_unify.specs.LevelLoading.{node_at, LoadsOn}
use Rattle.lk_unify.specs.Loading.{types_meaning, type_meaning, Agrees, IsLoader, KindsTo, Loads, LoadsAll, LoadsTo, Makes, SameKinds}
use Rattle.lk_unify.specs.declared.loader.Loader.{Loader}

-- what was loaded by itself
pub on_loads : {A : Type 0} (b c : Loader) (m : Opening → Option A) (r : (ℕ → Value) → A) (P : (ℕ → Kind) → Type 0) (x : Kind) (n : Opening → Option Value) (k : ℕ) → Loads b c x n k → LoadsOn b c m r P x n k
on_loads b c m r P x n k l = record {
  whole = l.to.whole;
  longer = l.to.longer;
  below = l.below;
  kept = l.to.kept;
  kinds = λ j kinded p. l.kinds.kinds j kinded;
  back = l.to.back;
  covers = l.to.covers;
  is = λ v ρ h agrees e. l.to.is v ρ h agrees;
  forth = λ v ρ y fits agrees e o. l.to.forth v ρ y fits agrees o;
}

-- a node that is made
pub on_made : {A : Type 0} (b c : Loader) (m : Opening → Option A) (r : (ℕ → Value) → A) (P : (ℕ → Kind) → Type 0) (x : Kind) (s : Shape) (n : Opening → Option Value) (k : ℕ) → IsLoader b → Makes b c x s k
    → ((j : ℕ → Kind) → P j → HasKind j x s)
    → ((v : ℕ → Value) (y : Value) (ρ : Opening) → m ρ ≡ Some (r v) → IsBuilt s v y → n ρ ≡ Some y)
    → ((v : ℕ → Value) (y : Value) (ρ : Opening) → m ρ ≡ Some (r v) → n ρ ≡ Some y → IsBuilt s v y)
    → LoadsOn b c m r P x n k
on_made b c m r P x s n k whole makes fits says builds = record {
  whole = makes.whole;
  longer = makes.longer;
  below = makes.below;
  kept = λ y j e. makes.names y ∙ e;
  kinds = λ j kinded p. makes.kinds j kinded (fits j p);
  back = makes.back;
  covers = makes.covers;
  is = λ v ρ h agrees e. says v (v k) ρ e (makes.built v h);
  forth = λ v ρ y fits agrees e o.
      let h = makes.forth v y fits (builds v y ρ e o) in
      (h.0, h.1, h.2, still ρ v h.0 h.1 agrees, h.3);
}
  where
    still : (ρ : Opening) (v w : ℕ → Value) → SameBelow (length b.arena.shapes) v w → Agrees b ρ v → Agrees c ρ w
    still ρ v w same agrees = record {
      at = λ y j e. let f = sym (makes.names y) ∙ e in same j (whole.named y j f) ∙ agrees.at y j f;
    }

-- a node more and one on that, where what the second is to be is only there where the first is
module _ {A : Type 0} (b c d : Loader) (m : Opening → Option A) (r : (ℕ → Value) → A) (P : (ℕ → Kind) → Type 0) (x y : Kind) (n o : Opening → Option Value) (k l : ℕ) where
  pub on_through : ((v w : ℕ → Value) → SameBelow (length b.arena.shapes) v w → r w ≡ r v) → ((i j : ℕ → Kind) → SameKinds (length b.arena.shapes) i j → P i → P j)
      → LoadsOn b c m r P x n k → LoadsOn c d (λ ρ. both (m ρ) (n ρ)) (λ v. (r v, v k)) (λ j. P j × (j k ≡ x)) y o l → ((ρ : Opening) (z : Value) → o ρ ≡ Some z → (w : Value) × (n ρ ≡ Some w))
      → LoadsOn b d m r P y o l
  on_through same_read same_kinds f g there = record {
    whole = g.whole;
    longer = (let i = f.longer in let j = g.longer in omega arith);
    below = g.below;
    kept = λ z j e. g.kept z j (f.kept z j e);
    kinds = λ j kinded p.
        let q = f.kinds j kinded p in
        let s = g.kinds q.0 q.2 (same_kinds j q.0 q.1 p, q.3) in
        (s.0, (λ i h. s.1 i (let t = f.longer in omega arith) ∙ q.1 i h), s.2, s.3);
    back = λ v h. f.back v (g.back v h);
    covers = λ counts h. f.covers counts (g.covers counts h);
    is = λ v ρ h agrees e.
        let first : n ρ ≡ Some (v k) = f.is v ρ (g.back v h) (agrees_before c d ρ v g.kept agrees) e in
        g.is v ρ h agrees (λ i. both (e i) (first i));
    forth = λ v ρ z fits agrees e is.
        let w = there ρ z is in
        let p = f.forth v ρ w.0 fits agrees e w.1 in
        let read : m ρ ≡ Some (r p.0) = e ∙ ap Some (sym (same_read v p.0 p.1)) in
        let first : n ρ ≡ Some (p.0 k) = w.1 ∙ ap Some (sym p.4) in
        let q = g.forth p.0 ρ z p.2 p.3 (λ i. both (read i) (first i)) is in
        (q.0, (λ i h. q.1 i (let t = f.longer in omega arith) ∙ p.1 i h), q.2, q.3, q.4);
  }

-- where more is read
pub on_more : {A B : Type 0} (b c : Loader) (m : Opening → Option A) (r : (ℕ → Value) → A) (P : (ℕ → Kind) → Type 0) (n : Opening → Option B) (s : (ℕ → Value) → B) (Q : (ℕ → Kind) → Type 0) (x : Kind) (o : Opening → Option Value) (k : ℕ)
    → ((v : ℕ → Value) (ρ : Opening) → n ρ ≡ Some (s v) → m ρ ≡ Some (r v)) → ((j : ℕ → Kind) → Q j → P j) → LoadsOn b c m r P x o k → LoadsOn b c n s Q x o k
on_more b c m r P n s Q x o k part such l = record {
  whole = l.whole;
  longer = l.longer;
  below = l.below;
  kept = l.kept;
  kinds = λ j kinded q. l.kinds j kinded (such j q);
  back = l.back;
  covers = l.covers;
  is = λ v ρ h agrees e. l.is v ρ h agrees (part v ρ e);
  forth = λ v ρ y fits agrees e is. l.forth v ρ y fits agrees (part v ρ e) is;
}

-- ---- types one after another

cons_once : {A : Type 0} (a b : A) (xs ys : List A) → a ∷ xs ≡ b ∷ ys → (a ≡ b) × (xs ≡ ys)
cons_once a b xs ys e = (cc, cc)

-- what one of the nodes is read as
pub part_at : (v : ℕ → Value) (ρ : Opening) (ts : List Ty) (ns : List ℕ) (p : ℕ) → types_meaning ts ρ ≡ Some (map v ns) → p < length ts → type_meaning (at ts p) ρ ≡ Some (v (node_at ns p))
part_at v ρ [] ns p e less = absurd (omega arith)
part_at v ρ (t ∷ ts) [] p e less = let s = all_some (type_meaning t ρ) (map (λ t. type_meaning t ρ) ts) [] e in let h : [] ≡ s.0 ∷ s.1 = s.4 in cc
part_at v ρ (t ∷ ts) (n ∷ ns) zero e less =
    let s = all_some (type_meaning t ρ) (map (λ t. type_meaning t ρ) ts) (v n ∷ map v ns) e in
    s.2 ∙ ap Some (sym (cons_once (v n) s.0 (map v ns) s.1 s.4).0)
part_at v ρ (t ∷ ts) (n ∷ ns) (suc p) e less =
    let s = all_some (type_meaning t ρ) (map (λ t. type_meaning t ρ) ts) (v n ∷ map v ns) e in
    part_at v ρ ts ns p (s.3 ∙ ap Some (sym (cons_once (v n) s.0 (map v ns) s.1 s.4).1)) (omega arith)

module _ (a b c : Loader) (ts : List Ty) (ns : List ℕ) (t : Ty) (k : ℕ) (l : LoadsAll a b (types_meaning ts) ns) (g : LoadsOn b c (types_meaning ts) (λ v. map v ns) (λ j. Each (λ n. j n ≡ OfTypes) ns) OfTypes (type_meaning t) k) where
  joined : LoadsTo a c (λ ρ. both (types_meaning ts ρ) (type_meaning t ρ)) (λ v. (map v ns, v k))
  joined = record {
    whole = g.whole;
    longer = (let i = l.to.longer in let j = g.longer in omega arith);
    kept = λ x n e. g.kept x n (l.to.kept x n e);
    local = λ v w same. (λ i. (l.to.local v w (λ j h. same j (let q = g.longer in omega arith)) i, same k g.below i));
    back = λ v h. l.to.back v (g.back v h);
    covers = λ counts h. l.to.covers counts (g.covers counts h);
    is = λ v ρ h agrees.
        let e = l.to.is v ρ (g.back v h) (agrees_before b c ρ v g.kept agrees) in
        (λ i. both (e i) (g.is v ρ h agrees e i));
    forth = λ v ρ x fits agrees e.
        let s = both_some (types_meaning ts ρ) (type_meaning t ρ) x e in
        let p = l.to.forth v ρ x.0 fits agrees s.0 in
        let q = g.forth p.0 ρ x.1 p.2 p.3 (s.0 ∙ ap Some (sym p.4)) s.1 in (
          q.0,
          (λ i h. q.1 i (let y = l.to.longer in omega arith) ∙ p.1 i h),
          q.2,
          q.3,
          (λ i. ((l.to.local p.0 q.0 q.1 ∙ p.4) i, q.4 i)),
        );
  }

  kinds_joined : KindsTo a c (λ j. Each (λ n. j n ≡ OfTypes) ns × (j k ≡ OfTypes))
  kinds_joined = record {
    local = λ i j same p. (l.kinds.local i j (λ n h. same n (let q = g.longer in omega arith)) p.0, same k g.below ∙ p.1);
    kinds = λ i kinded.
        let p = l.kinds.kinds i kinded in
        let q = g.kinds p.0 p.2 p.3 in
        (q.0, (λ n h. q.1 n (let y = l.to.longer in omega arith) ∙ p.1 n h), q.2, (l.kinds.local p.0 q.0 q.1 p.3, q.3));
  }

  pub all_loads_more : LoadsAll a c (types_meaning (ts ++ t ∷ [])) (ns ++ k ∷ [])
  all_loads_more = record {
    below = each_both (λ n. n < length c.arena.shapes) ns (k ∷ [])
        (each_weaker (λ n. n < length b.arena.shapes) (λ n. n < length c.arena.shapes) (λ n q. (let z = g.longer in omega arith)) ns l.below) (g.below, tt);
    kinds = kinds_as a c (λ j. Each (λ n. j n ≡ OfTypes) ns × (j k ≡ OfTypes)) (λ j. Each (λ n. j n ≡ OfTypes) (ns ++ k ∷ []))
        (λ j p. each_both (λ n. j n ≡ OfTypes) ns (k ∷ []) p.0 (p.1, tt))
        (λ j p. (each_front (λ n. j n ≡ OfTypes) ns (k ∷ []) p, (each_back (λ n. j n ≡ OfTypes) ns (k ∷ []) p).0))
        kinds_joined;
    to = loads_as a c (λ ρ. both (types_meaning ts ρ) (type_meaning t ρ)) (λ v. (map v ns, v k)) with_last (types_meaning (ts ++ t ∷ [])) (λ v. map v (ns ++ k ∷ []))
        joined (λ ρ. all_more (λ t. type_meaning t ρ) ts t) (λ v. map-append v ns (k ∷ []));
  }

-- one of the types alone, where all become something if it does
module _ (a c : Loader) (ts : List Ty) (ns : List ℕ) (p : ℕ) (l : LoadsAll a c (types_meaning ts) ns) (less : p < length ts) (same : length ns ≡ length ts)
    (there : (ρ : Opening) (x : Value) → type_meaning (at ts p) ρ ≡ Some x → (xs : List Value) × (types_meaning ts ρ ≡ Some xs)) where
  there_too : p < length ns
  there_too = omega arith

  pub one_loads : Loads a c OfTypes (type_meaning (at ts p)) (node_at ns p)
  one_loads =
      let below : node_at ns p < length c.arena.shapes = Each-get_or (λ n. n < length c.arena.shapes) ns p 0 there_too l.below in
      record {
        below = below;
        kinds = record {
          local = λ i j same e. same (node_at ns p) below ∙ e;
          kinds = λ i kinded. let q = l.kinds.kinds i kinded in (q.0, q.1, q.2, Each-get_or (λ n. q.0 n ≡ OfTypes) ns p 0 there_too q.3);
        };
        to = record {
          whole = l.to.whole;
          longer = l.to.longer;
          kept = l.to.kept;
          local = λ v w same. same (node_at ns p) below;
          back = l.to.back;
          covers = l.to.covers;
          is = λ v ρ h agrees. part_at v ρ ts ns p (l.to.is v ρ h agrees) less;
          forth = λ v ρ x fits agrees e.
              let all = there ρ x e in
              let q = l.to.forth v ρ all.0 fits agrees all.1 in
              (q.0, q.1, q.2, q.3, same_Some (q.0 (node_at ns p)) x (sym (part_at q.0 ρ ts ns p (all.1 ∙ ap Some (sym q.4)) less) ∙ e));
        };
      }
