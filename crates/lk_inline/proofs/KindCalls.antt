-- The kinds of what a walk makes of calls: what a helper's body makes of arguments has the kind of its type.
use Rattle.std.proofs.Common.{◌≡◌, ℕ, Bool, false, List, ◌∷◌, drop, map, Some, slice_get, sym, ◌∙◌, ap, subst}
use Rattle.lk_ast.specs.Layers.{layer}
use Rattle.lk_ast.specs.declared.declaration.Program.{Program}
use Rattle.lk_ast.specs.declared.expression.Expr.{Expr}
use Rattle.lk_ast.specs.declared.expression.Node.TheOpen.{Node-F}
use Rattle.lk_ast.specs.declared.place.Word.{Word}
use Rattle.lk_bodies.specs.Walk.{Calls, Made, Several, State, all, behind_type, call, walk}
use Rattle.lk_inline.proofs.Inducing.{walk_form}
use Rattle.lk_inline.proofs.KindSteps.{kind_behind}
use Rattle.lk_inline.proofs.KindsMade.{AreDescribed, AreKinded, AreSeen, Descriptions, HasKind, IsKinded, Scope}
use Rattle.lk_inline.proofs.Making.{AreWithin}
use Rattle.lk_query.specs.Order.{AreOrdered}
use Rattle.lk_query.specs.declared.part.Part.{Part}
use Rattle.lk_sites.specs.Pending.{Pending}
use Rattle.lk_sound.proofs.QueryParts.{IsEarly}
use Rattle.lk_sound.specs.Instances.{Instances}
use Rattle.lk_sound.specs.Nodes.{Use}
use Rattle.lk_types.specs.Rows.{EffectSet}
use Rattle.lk_types.specs.declared.ground.Ground.{Ground}
use Rattle.lk_types.specs.declared.ty.Effect.TheVariants as effect
use Rattle.lk_typing.specs.Names.{Named}
use Rattle.lk_typing.specs.Types.{function_of}

-- what is made of arguments of these types, whatever is known
abbrev pub IsKindedCall : Calls → Bool → List Ground → Ground → ℕ → Type 0
IsKindedCall makes scans ts a h = (scope : Scope) (known : Descriptions) (numbers : List ℕ) (parts : List Part) → AreOrdered parts → AreDescribed known parts → AreWithin ts numbers parts → AreSeen known scope ts numbers
    → HasKind scope scans a known parts (makes h numbers parts).part (makes h numbers parts).state.parts

-- helpers among the first so many functions make such parts
abbrev pub CallsKinded : Program → Instances → Calls → ℕ → Type 0
CallsKinded p i makes n = (u : Use) → IsEarly p i.helpers n u → (h : ℕ) → slice_get i.helpers h ≡ Some u → (ts : List Ground) (effects : EffectSet) (a : Ground) → u.type ≡ function_of ts effects a → effects effect.Local ≡ false → effects effect.Trap ≡ false
    → IsKindedCall makes (effects effect.Scan) ts a h

pub call_kinded : (scope : Scope) (scans : Bool) (makes : Calls) (e : Expr) (g : Word) (args : List Expr) (ts : List Ground) (t : Ground) (numbers : Named ℕ) (known : Descriptions) (s : State) (q : Pending) (h : ℕ) (later : List ℕ) → layer e ≡ Node-F.Call g args
    → s.calls ≡ h ∷ later
    → AreKinded scope scans ts known (record { parts = s.parts; types = drop 1 s.types; calls = later }) q (all (map (walk makes) args) numbers (record { parts = s.parts; types = drop 1 s.types; calls = later }))
    → IsKindedCall makes scans ts t h → IsKinded scope scans t known s q (walk makes e numbers s)
call_kinded scope scans makes e g args ts t numbers known s q h later is calls_are are makes_so =
    let m : Several = all (map (walk makes) args) numbers (record { parts = s.parts; types = drop 1 s.types; calls = later }) in
    let body : Made = makes h m.numbers m.state.parts in
    subst (λ w. IsKinded scope scans t known s q w)
    (sym (walk_form makes e (Node-F.Call g args) is numbers s ∙ ap (λ cs. call makes cs (map (walk makes) args) numbers (behind_type s)) calls_are))
    (record {
      left = are.left;
      has = kind_behind scope scans t known are.later s.parts m.state.parts body.part body.state.parts are.adds (makes_so scope are.later m.numbers m.state.parts are.adds.ordered are.adds.typed are.within are.are);
    })
