-- The evaluator's acts, and those that they stand for.
use Rattle.std.specs.Prelude.{◌≡◌, List, [], ◌∷◌, Option, Some, None, map}
use Rattle.lk_ast.specs.declared.place.Loc.TheVariants.{Client, Server}
use Rattle.lk_ast.specs.declared.place.Span.{Span}
use Rattle.lk_ast.specs.declared.value.FunValue.{FunValue}
use Rattle.lk_ast.specs.declared.value.Value.{Value}
use Rattle.lk_locals.specs.Names.{bind}
use Rattle.lk_evaluation.specs.Evaluation as spec
use Rattle.lk_evaluation.specs.Source.{Point, under}
use Rattle.lk_sem.specs.declared.act.Act.{Act}
use Rattle.lk_sem.specs.declared.act.Act.TheVariants.{Give, Tail, Goto, Print, Each, Read, Write, Fails, Lacks}

-- the act of a node with this span; the evaluator keeps no note of which function it enters, nor of its arguments
abbrev pub IsAct : Span → Act → spec.Act Point → Type 0
IsAct at (Give v) a = a ≡ spec.Give v
IsAct at (Tail e scope) a = a ≡ spec.Tail (under scope e.now)
IsAct at (Goto mark body scope) a = (f : FunValue) × (args : List Value) × (a ≡ spec.Goto mark f args (under scope body.now))
IsAct at (Print bytes) a = a ≡ spec.Uses Client (spec.Printing bytes)
IsAct at (Each x values body scope) a = a ≡ spec.Each at (map (λ v. under (bind x.now v scope) body.now) values)
IsAct at (Read args) a = a ≡ spec.Uses Server (spec.Reading at.start args)
IsAct at (Write args) a = a ≡ spec.Uses Server (spec.Writing at.start args)
IsAct at (Fails trap) a = a ≡ spec.Fails trap
IsAct at Lacks a = a ≡ spec.Lacks at

-- the one value of a list
abbrev pub only_of : List Value → Option Value
only_of (v ∷ []) = Some v
only_of _ = None

-- the first value of a list, and the others
abbrev pub first_of : List Value → Option (Value × List Value)
first_of [] = None
first_of (v ∷ values) = Some (v, values)
