-- Pairs taken one after another, from the end of a list.
use Rattle.lk_types.proofs.Members.{each_both, each_front, each_back}
use Rattle.std.proofs.Common.{◌≡◌, ℕ, ◌<◌, ◌≤◌, List, [], ◌∷◌, ◌++◌, length, refl, sym, ◌∙◌, ap, subst, arith}
use Rattle.lk_arena.proofs.Covering.{covers_with}
use Rattle.lk_arena.proofs.Flats.{Fits-with, WeakFits-with}
use Rattle.lk_arena.specs.Covering.{EqualCounts}
use Rattle.lk_arena.specs.Kinds.{Kind, AreKinded, EqualKinds}
use Rattle.lk_classes.specs.Classes.{class_at}
use Rattle.lk_arena.specs.Shapes.{AreNodePairs, Equates, Fits, HasFit, IsArena, NeverSame, Respects}
use Rattle.lk_arena.specs.Steps.{Leads, Merges, SamePairs}
use Rattle.lk_arena.specs.Values.{Value}
use Rattle.lk_arena.specs.declared.node.Pair.{Pair}
use Rattle.lk_arena.specs.declared.node.Shape.{Shape}

-- ---- the last pair

pub same_trans : (classes : List ℕ) (a b c : List Pair) → SamePairs classes a b → SamePairs classes b c → SamePairs classes a c
same_trans classes a b c first second = record {
  back = λ v respects e. first.back v respects (second.back v respects e);
  counts = λ c same e. first.counts c same (second.counts c same e);
  forth = λ v respects e. second.forth v respects (first.forth v respects e);
  kinds = λ kind named e. second.kinds kind named (first.kinds kind named e);
}

module _ (shapes : List Shape) (classes : List ℕ) (arena : IsArena shapes classes) (all rest : List Pair) (p : Pair) (taken : all ≡ rest ++ p ∷ []) (within : AreNodePairs (length shapes) all) where
  apart : AreNodePairs (length shapes) (rest ++ p ∷ [])
  apart = subst (AreNodePairs (length shapes)) taken within

  pub rest_within : AreNodePairs (length shapes) rest
  rest_within = each_front (λ p. (p.left < length shapes) × (p.right < length shapes)) rest (p ∷ []) apart

  pub last_within : (p.left < length shapes) × (p.right < length shapes)
  last_within = (each_back (λ p. (p.left < length shapes) × (p.right < length shapes)) rest (p ∷ []) apart).0

  in_classes : (i : ℕ) → i < length shapes → i < length classes
  in_classes i h = let e : length classes ≡ length shapes = arena.named.count in omega arith

  module _ (v : ℕ → Value) (respects : Respects classes v) where
    named : (i : ℕ) → i < length shapes → v i ≡ v (class_at classes i)
    named i h = respects i (in_classes i h)

    both : Equates all v → Equates rest v × (v p.left ≡ v p.right)
    both e =
        let h : Equates (rest ++ p ∷ []) v = subst (λ ps. Equates ps v) taken e in
        (each_front (λ p. v p.left ≡ v p.right) rest (p ∷ []) h, (each_back (λ p. v p.left ≡ v p.right) rest (p ∷ []) h).0)

    joined : Equates rest v → v p.left ≡ v p.right → Equates all v
    joined e last = subst (λ ps. Equates ps v) (sym taken) (each_both (λ p. v p.left ≡ v p.right) rest (p ∷ []) e (last, tt))

  counts_joined : (c : ℕ → ℕ) → EqualCounts rest c → c p.left ≡ c p.right → EqualCounts all c
  counts_joined c e last = subst (λ ps. EqualCounts ps c) (sym taken) (each_both (λ p. c p.left ≡ c p.right) rest (p ∷ []) e (last, tt))

  kinds_both : (kind : ℕ → Kind) → EqualKinds all kind → EqualKinds rest kind × (kind p.left ≡ kind p.right)
  kinds_both kind e =
      let h : EqualKinds (rest ++ p ∷ []) kind = subst (λ ps. EqualKinds ps kind) taken e in
      (each_front (λ p. kind p.left ≡ kind p.right) rest (p ∷ []) h, (each_back (λ p. kind p.left ≡ kind p.right) rest (p ∷ []) h).0)

  -- two nodes of one class
  pub last_same : class_at classes p.left ≡ class_at classes p.right → SamePairs classes all rest
  last_same same = record {
    back = λ v respects e. joined v respects e (named v respects p.left last_within.0 ∙ ap v same ∙ sym (named v respects p.right last_within.1));
    forth = λ v respects e. (both v respects e).0;
    counts = λ c named e. counts_joined c e (named p.left (in_classes p.left last_within.0) ∙ ap c same ∙ sym (named p.right (in_classes p.right last_within.1)));
    kinds = λ kind named e. (kinds_both kind e).0;
  }

  -- two classes
  pub last_apart : (left right : ℕ) → left ≡ class_at classes p.left → right ≡ class_at classes p.right → SamePairs classes all (record { left = left; right = right } ∷ rest)
  last_apart left right l r = record {
    back = λ v respects e.
        joined v respects e.1 (named v respects p.left last_within.0 ∙ ap v (sym l) ∙ e.0 ∙ ap v r ∙ sym (named v respects p.right last_within.1));
    forth = λ v respects e.
        let h = both v respects e in
        (ap v l ∙ sym (named v respects p.left last_within.0) ∙ h.1 ∙ named v respects p.right last_within.1 ∙ ap v (sym r), h.0);
    counts = λ c same e.
        counts_joined c e.1 (same p.left (in_classes p.left last_within.0) ∙ ap c (sym l) ∙ e.0 ∙ ap c r ∙ sym (same p.right (in_classes p.right last_within.1)));
    kinds = λ kind same e.
        let h = kinds_both kind e in
        (ap kind l ∙ sym (same p.left (in_classes p.left last_within.0)) ∙ h.1 ∙ same p.right (in_classes p.right last_within.1) ∙ ap kind (sym r), h.0);
  }

-- ---- one step after another

pub HasFit-trans : (old mid new : List Shape) (cs ds : List ℕ) (q r : List Pair) (v : ℕ → Value) → length old ≤ length mid → HasFit old mid cs q v
    → ((w : ℕ → Value) → Fits mid cs q w → HasFit mid new ds r w) → HasFit old new ds r v
HasFit-trans old mid new cs ds q r v len h next =
    let g = next h.0 h.2 in
    (g.0, (λ i l. g.1 i (omega arith) ∙ h.1 i l), g.2)

module _ (left right : ℕ) (shapes : List Shape) (classes : List ℕ) where
  pub leads_start : (queue : List Pair) → queue ≡ record { left = left; right = right } ∷ [] → IsArena shapes classes → left < length shapes → right < length shapes
      → Leads left right shapes classes shapes classes queue
  leads_start queue is arena l r =
      subst (Leads left right shapes classes shapes classes) (sym is)
      (record {
        arena = arena;
        longer = omega arith;
        pairs = ((l, r), tt);
        back = λ v fits. (fits.nodes, fits.equates.0);
        covers = λ c covers. covers.nodes;
        forth = λ v fits e. (v, (λ i h. refl), Fits-with shapes classes (record { left = left; right = right } ∷ []) v fits (e, tt));
        kinds = λ kind kinded e. (kind, (λ i h. refl), kinded, (e, tt));
      })

  module _ (shapes' : List Shape) (classes' : List ℕ) (queue : List Pair) (leads : Leads left right shapes classes shapes' classes' queue) where
    named_kinds : (kind : ℕ → Kind) → AreKinded shapes' classes' kind → (i : ℕ) → i < length classes' → kind i ≡ kind (class_at classes' i)
    named_kinds kind kinded i h = sym (kinded i (let c : length classes' ≡ length shapes' = leads.arena.named.count in omega arith)).0

    -- other pairs that say the same
    pub leads_same : (queue' : List Pair) → AreNodePairs (length shapes') queue' → SamePairs classes' queue queue' → Leads left right shapes classes shapes' classes' queue'
    leads_same queue' within same = record {
      arena = leads.arena;
      longer = leads.longer;
      pairs = within;
      back = λ v fits. leads.back v (WeakFits-with shapes' classes' queue v fits.nodes (same.back v fits.nodes.respects fits.equates));
      covers = λ c covers. leads.covers c (covers_with shapes' classes' queue c covers.nodes (same.counts c covers.nodes.same covers.equal));
      forth = λ v fits e.
          HasFit-trans shapes shapes' shapes' classes' classes' queue queue' v leads.longer (leads.forth v fits e)
          (λ w h. (w, (λ i b. refl), Fits-with shapes' classes' queue' w h.nodes (same.forth w h.nodes.respects h.equates)));
      kinds = λ kind kinded e. let h = leads.kinds kind kinded e in (h.0, h.1, h.2, same.kinds h.0 (named_kinds h.0 h.2) h.3);
    }

    module _ (p : Pair) (rest : List Pair) (same : SamePairs classes' queue (p ∷ rest)) where
      pub leads_never : NeverSame shapes' classes' p.left p.right → NeverSame shapes classes left right
      leads_never never v fits e =
          let h = leads.forth v fits e in
          never h.0 h.2.nodes (same.forth h.0 h.2.nodes.respects h.2.equates).0

      pub leads_merged : (shapes'' : List Shape) (classes'' : List ℕ) (queue'' : List Pair) → Merges p.left p.right shapes' classes' rest shapes'' classes'' queue''
          → Leads left right shapes classes shapes'' classes'' queue''
      leads_merged shapes'' classes'' queue'' merges = record {
        arena = merges.arena;
        longer = let a = leads.longer in let b = merges.longer in omega arith;
        pairs = merges.pairs;
        back = λ v fits.
            let b = merges.back v fits in
            leads.back v (WeakFits-with shapes' classes' queue v b.0.nodes (same.back v b.0.nodes.respects (b.1, b.0.equates)));
        covers = λ c covers.
            let b = merges.covers c covers in
            leads.covers c (covers_with shapes' classes' queue c b.0.nodes (same.counts c b.0.nodes.same (b.1, b.0.equal)));
        forth = λ v fits e.
            HasFit-trans shapes shapes' shapes'' classes' classes'' queue queue'' v leads.longer (leads.forth v fits e)
            (λ w h. let t = same.forth w h.nodes.respects h.equates in merges.forth w (Fits-with shapes' classes' rest w h.nodes t.1) t.0);
        kinds = λ kind kinded e.
            let h = leads.kinds kind kinded e in
            let t = same.kinds h.0 (named_kinds h.0 h.2) h.3 in
            let g = merges.kinds h.0 h.2 t.1 t.0 in
            (g.0, (λ i b. g.1 i (let l = leads.longer in omega arith) ∙ h.1 i b), g.2, g.3);
      }
