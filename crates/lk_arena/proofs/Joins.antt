-- New tails for two rows: the values of the new nodes follow from those of the old ones.
use Rattle.lk_types.proofs.Members.{each_weaker}
use Rattle.std.proofs.Common.{◌≡◌, ℕ, ◌<◌, ◌≤◌, List, sym, ◌∙◌, arith}
use Rattle.lk_arena.proofs.EachLemmas.{Each-zip}
use Rattle.lk_arena.specs.Kinds.{Kind, EqualKinds}
use Rattle.lk_arena.specs.Shapes.{Equates, AreNodePairs, SameBelow}
use Rattle.lk_arena.specs.Values.{Value}
use Rattle.lk_arena.specs.declared.node.Pair.{Pair}

pub Equates-same : (n : ℕ) (q : List Pair) (v w : ℕ → Value) → SameBelow n v w → AreNodePairs n q → Equates q v → Equates q w
Equates-same n q v w same within e =
    Each-zip (λ p. (p.left < n) × (p.right < n)) (λ p. v p.left ≡ v p.right) (λ p. w p.left ≡ w p.right)
    (λ p b h. same p.left b.0 ∙ h ∙ sym (same p.right b.1)) q within e

pub EqualKinds-same : (n : ℕ) (q : List Pair) (kind more : ℕ → Kind) → ((i : ℕ) → i < n → more i ≡ kind i) → AreNodePairs n q → EqualKinds q kind → EqualKinds q more
EqualKinds-same n q kind more same within e =
    Each-zip (λ p. (p.left < n) × (p.right < n)) (λ p. kind p.left ≡ kind p.right) (λ p. more p.left ≡ more p.right)
    (λ p b h. same p.left b.0 ∙ h ∙ sym (same p.right b.1)) q within e

pub AreNodePairs-more : (n m : ℕ) (q : List Pair) → n ≤ m → AreNodePairs n q → AreNodePairs m q
AreNodePairs-more n m q h within =
    each_weaker (λ p. (p.left < n) × (p.right < n)) (λ p. (p.left < m) × (p.right < m))
    (λ p b. let l = b.0 in let r = b.1 in (omega arith, omega arith)) q within
