-- What instances are refused for because of their shapes is fixed: the place and the kind; and nothing where they have the shapes.
use Rattle.std.proofs.Common.{◌≡◌, Bool, true, false, List, [], ◌∷◌, Some, refl, sym, ap, subst, ◌∙◌}
use Rattle.lk_ast.specs.declared.place.Span.{Span}
use Rattle.lk_types.proofs.Parts.{same_some}
use Rattle.lk_mono.proofs.Alone.{IsAlone}
use Rattle.lk_mono.specs.Instances.{Body}
use Rattle.lk_mono.specs.Shapes as Shapes
use Rattle.lk_mono.specs.Shapes.{AreShaped, Fault, FirstFault, FirstRefused, IsFaultless, IsMisshapen, IsShaped, answers_function}
use Rattle.lk_mono.specs.declared.error.ShapeKind.{ShapeKind}
use Rattle.lk_sound.specs.Nodes.{Comparison, Equality, Order, TypedNode}
use Rattle.lk_types.specs.Each.{Each}
use Rattle.lk_types.specs.declared.ground.Ground.{Ground}

-- two bools that are one and the other
never : (b : Bool) → b ≡ true → b ≡ false → ⊥
never b one other = let wrong : true ≡ false = sym one ∙ other in cc

-- the same kind at the same place
abbrev pub AreSame : ShapeKind → ShapeKind → Span → Span → Type 0
AreSame kind other at place = (kind ≡ other) × (at ≡ place)

not_both : (o : Comparison) (t u : Ground) → Some (Equality t) ≡ Some (Order u) → ⊥
not_both o t u is = cc

module _ (helpers : List Body) where
  kind_once : (node : TypedNode) (kind other : ShapeKind) → IsAlone node → Fault helpers node kind → Fault helpers node other → kind ≡ other
  kind_once node _ _ alone (Fault.equality compares has) (Fault.equality too had) = refl
  kind_once node _ _ alone (Fault.equality {t} compares has) (Fault.order {t = u} too had) = absurd (not_both (Order u) t u (sym compares ∙ too))
  kind_once node _ _ alone (Fault.equality {t} compares has) (Fault.not_flat {block} is odd) = absurd (alone (Equality t) block compares is)
  kind_once node _ _ alone (Fault.equality {t} compares has) (Fault.captures {block} is flat one) = absurd (alone (Equality t) block compares is)
  kind_once node _ _ alone (Fault.order {t = u} too had) (Fault.equality {t} compares has) = absurd (not_both (Order u) t u (sym compares ∙ too))
  kind_once node _ _ alone (Fault.order compares has) (Fault.order too had) = refl
  kind_once node _ _ alone (Fault.order {t} compares has) (Fault.not_flat {block} is odd) = absurd (alone (Order t) block compares is)
  kind_once node _ _ alone (Fault.order {t} compares has) (Fault.captures {block} is flat one) = absurd (alone (Order t) block compares is)
  kind_once node _ _ alone (Fault.not_flat {block} is odd) (Fault.equality {t} compares has) = absurd (alone (Equality t) block compares is)
  kind_once node _ _ alone (Fault.not_flat {block} is odd) (Fault.order {t} compares has) = absurd (alone (Order t) block compares is)
  kind_once node _ _ alone (Fault.not_flat is odd) (Fault.not_flat was too) = refl
  kind_once node _ _ alone (Fault.not_flat {block} is odd) (Fault.captures {block = other} was flat one) = absurd (flat (subst (λ b. Shapes.IsNotFlat helpers b) (same_some (sym is ∙ was)) odd))
  kind_once node _ _ alone (Fault.captures {block} is flat one) (Fault.equality {t} compares has) = absurd (alone (Equality t) block compares is)
  kind_once node _ _ alone (Fault.captures {block} is flat one) (Fault.order {t} compares has) = absurd (alone (Order t) block compares is)
  kind_once node _ _ alone (Fault.captures {block = other} was flat one) (Fault.not_flat {block} is odd) = absurd (flat (subst (λ b. Shapes.IsNotFlat helpers b) (same_some (sym is ∙ was)) odd))
  kind_once node _ _ alone (Fault.captures is flat one) (Fault.captures was too other) = refl

  fault_once : (nodes : List TypedNode) (kind other : ShapeKind) (at place : Span) → Each IsAlone nodes → FirstFault helpers nodes kind at → FirstFault helpers nodes other place → AreSame kind other at place
  fault_once [] kind other at place alone fault _ = elim fault [ ]
  fault_once (node ∷ nodes) kind other _ _ alone (FirstFault.here fault) (FirstFault.here too) = (kind_once node kind other alone.0 fault too, refl)
  fault_once (node ∷ nodes) kind other _ place alone (FirstFault.here fault) (FirstFault.later fine rest) = absurd (fine kind fault)
  fault_once (node ∷ nodes) kind other at _ alone (FirstFault.later fine rest) (FirstFault.here fault) = absurd (fine other fault)
  fault_once (node ∷ nodes) kind other at place alone (FirstFault.later fine rest) (FirstFault.later too others) = fault_once nodes kind other at place alone.1 rest others

  shaped_faultless : (nodes : List TypedNode) (kind : ShapeKind) (at : Span) → Each (IsFaultless helpers) nodes → FirstFault helpers nodes kind at → ⊥
  shaped_faultless [] kind at fine fault = elim fault [ ]
  shaped_faultless (node ∷ nodes) kind _ fine (FirstFault.here fault) = fine.0 kind fault
  shaped_faultless (node ∷ nodes) kind at fine (FirstFault.later first rest) = shaped_faultless nodes kind at fine.1 rest

  refused_once : (bodies : List Body) (kind other : ShapeKind) (at place : Span) → Each (λ body. Each IsAlone body.nodes) bodies → FirstRefused helpers bodies kind at → FirstRefused helpers bodies other place → AreSame kind other at place
  refused_once [] kind other at place alone fault _ = elim fault [ ]
  refused_once (body ∷ bodies) kind other at place alone (FirstRefused.here fault) (FirstRefused.here too) = fault_once body.nodes kind other at place alone.0 fault too
  refused_once (body ∷ bodies) kind other at place alone (FirstRefused.here fault) (FirstRefused.later shaped rest) = absurd (shaped_faultless body.nodes kind at shaped fault)
  refused_once (body ∷ bodies) kind other at place alone (FirstRefused.later shaped rest) (FirstRefused.here fault) = absurd (shaped_faultless body.nodes other place shaped fault)
  refused_once (body ∷ bodies) kind other at place alone (FirstRefused.later shaped rest) (FirstRefused.later too others) = refused_once bodies kind other at place alone.1 rest others

  shaped_unrefused : (bodies : List Body) (kind : ShapeKind) (at : Span) → Each (IsShaped helpers) bodies → FirstRefused helpers bodies kind at → ⊥
  shaped_unrefused [] kind at shaped fault = elim fault [ ]
  shaped_unrefused (body ∷ bodies) kind at shaped (FirstRefused.here fault) = shaped_faultless body.nodes kind at shaped.0 fault
  shaped_unrefused (body ∷ bodies) kind at shaped (FirstRefused.later first rest) = shaped_unrefused bodies kind at shaped.1 rest

same_first : (a b : Body) (rest more mains : List Body) → mains ≡ a ∷ rest → mains ≡ b ∷ more → a ≡ b
same_first a b rest more mains one other = let both : ◌≡◌ {A = List Body} (a ∷ rest) (b ∷ more) = sym one ∙ other in cc

answers_one : (a b : Body) (rest more mains : List Body) → mains ≡ a ∷ rest → mains ≡ b ∷ more → answers_function a.use_of.type ≡ true → answers_function b.use_of.type ≡ false → ⊥
answers_one a b rest more mains one other does not = never (answers_function a.use_of.type) does (ap (λ (body : Body). answers_function body.use_of.type) (same_first a b rest more mains one other) ∙ not)

pub misshapen_once : (main_at : Span) (mains helpers : List Body) (kind other : ShapeKind) (at place : Span) → Each (λ body. Each IsAlone body.nodes) mains
    → IsMisshapen main_at mains helpers kind at → IsMisshapen main_at mains helpers other place → AreSame kind other at place
misshapen_once main_at mains helpers _ _ _ _ alone (IsMisshapen.main is does) (IsMisshapen.main was too) = (refl, refl)
misshapen_once main_at mains helpers _ other _ place alone (IsMisshapen.main {main} {others} is does) (IsMisshapen.other {main = first} {others = rest} was none refused) = absurd (answers_one main first others rest mains is was does none)
misshapen_once main_at mains helpers kind _ at _ alone (IsMisshapen.other {main = first} {others = rest} was none refused) (IsMisshapen.main {main} {others} is does) = absurd (answers_one main first others rest mains is was does none)
misshapen_once main_at mains helpers kind other at place alone (IsMisshapen.other is none refused) (IsMisshapen.other was not too) = refused_once helpers mains kind other at place alone refused too

pub shaped_fine : (main_at : Span) (mains helpers : List Body) (kind : ShapeKind) (at : Span) → AreShaped mains helpers → IsMisshapen main_at mains helpers kind at → ⊥
shaped_fine main_at mains helpers _ _ (AreShaped.shaped {main = first} {others = rest} was none shaped) (IsMisshapen.main {main} {others} is does) = answers_one main first others rest mains is was does none
shaped_fine main_at mains helpers kind at (AreShaped.shaped was none shaped) (IsMisshapen.other is not refused) = shaped_unrefused helpers mains kind at shaped refused
