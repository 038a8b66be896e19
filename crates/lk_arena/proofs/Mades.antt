-- Two constructors that are to be equal: one head, and the same number of parts, which are equal in pairs.
use Rattle.std.proofs.Common.{◌≡◌, ℕ, ◌<◌, List, map, length, sym, subst}
use Rattle.lk_types.specs.Each.{Each}
use Rattle.lk_arena.proofs.Heads.{made_once}
use Rattle.lk_arena.proofs.Pairs.{map-paired}
use Rattle.lk_arena.specs.Shapes.{shape_at, parts_of, IsBuilt, FitsNodes, IsArena, Equates}
use Rattle.lk_arena.specs.Steps.{paired}
use Rattle.lk_arena.specs.Values.{Value, IsMadeOf}
use Rattle.lk_arena.specs.declared.node.Head.{Head}
use Rattle.lk_arena.specs.declared.node.Shape.{Shape}
use Rattle.lk_arena.specs.declared.node.Shape.TheVariants.{Made}

pub made_parts :
    (shapes : List Shape) (classes : List ℕ) (from to : ℕ) (h k : Head) (ps qs : List ℕ) → shape_at shapes from ≡ Made h ps → shape_at shapes to ≡ Made k qs →
    from < length shapes → to < length shapes → (v : ℕ → Value) → FitsNodes shapes classes v → v from ≡ v to → (h ≡ k) × (map v ps ≡ map v qs)
made_parts shapes classes from to h k ps qs a b f t v fits e =
    made_once h k (map v ps) (map v qs) (v from) (subst (λ s. IsBuilt s v (v from)) a (fits.builds from f))
    (subst (λ x. IsMadeOf k (map v qs) x) (sym e) (subst (λ s. IsBuilt s v (v to)) b (fits.builds to t)))

pub parts_below : (shapes : List Shape) (classes : List ℕ) (i : ℕ) (h : Head) (ps : List ℕ) → IsArena shapes classes → i < length shapes → shape_at shapes i ≡ Made h ps → Each (λ p. p < length shapes) ps
parts_below shapes classes i h ps arena b a = subst (λ s. Each (λ p. p < length shapes) (parts_of s)) a (arena.nodes i b)

-- one constructor with parts of the same values builds the value of the other
pub made_again :
    (shapes : List Shape) (from to : ℕ) (h k : Head) (ps qs : List ℕ) → shape_at shapes from ≡ Made h ps → shape_at shapes to ≡ Made k qs → h ≡ k → length ps ≡ length qs →
    (v : ℕ → Value) → Equates (paired ps qs) v → v from ≡ v to → IsBuilt (shape_at shapes to) v (v to) → IsBuilt (shape_at shapes from) v (v from)
made_again shapes from to h k ps qs a b heads lengths v equal e built =
    let m : map v ps ≡ map v qs = map-paired v ps qs lengths equal in
    let t : IsMadeOf k (map v qs) (v to) = subst (λ s. IsBuilt s v (v to)) b built in
    let f : IsMadeOf h (map v ps) (v from) = rw (heads, m, e) t in
    subst (λ s. IsBuilt s v (v from)) (sym a) f
