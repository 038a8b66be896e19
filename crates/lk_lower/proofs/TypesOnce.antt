-- A list of types in which none stands twice.
use Rattle.std.proofs.Common.{◌≡◌, ℕ, List, [], sym, ap, subst, ◌∙◌, None}
use Rattle.std.proofs.lemmas.Bool.{false≢true}
use Rattle.std.proofs.lemmas.Option.{none-some}
use Rattle.std.specs.BTreeMap as tree
use Rattle.std.specs.BTreeMap.{BTreeMap}
use Rattle.std.specs.Option.{is_some}
use Rattle.std.specs.Ordering.{nat_cmp}
use Rattle.lk_lower.specs.Hints.{hint}
use Rattle.lk_lower.specs.Once.{AreHinted, IsNew}
use Rattle.lk_types.specs.declared.ground.Ground.{Ground}

-- no types
pub none_hinted : (types : List Ground) (numbers : BTreeMap ℕ ℕ) → types ≡ [] → AreHinted types numbers
none_hinted types numbers is = subst (λ ts. AreHinted ts numbers) (sym is) (record { distinct = λ i j t there same. absurd (none-some t there); hinted = λ i t there. absurd (none-some t there) })

-- a type whose hint has no number
pub new_here : (types : List Ground) (numbers : BTreeMap ℕ ℕ) (new : Ground) (h : ℕ) → AreHinted types numbers → h ≡ hint new → tree.get nat_cmp numbers h ≡ None → IsNew types new
new_here types numbers new h table same none i there = false≢true (ap is_some (sym none ∙ ap (tree.get nat_cmp numbers) same) ∙ table.hinted i new there)
