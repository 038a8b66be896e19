-- A refused writing worked by hand: its log leaves one number of units that may have been used.
use Rattle.std.proofs.Common.{◌≡◌, ℕ, zero, suc, ◌≤◌, List, [], ◌∷◌, ◌++◌, codes, None, refl, sym, ◌∙◌, arith}
use Rattle.lk_ast.specs.declared.declaration.Decl.TheVariants as decl
use Rattle.lk_ast.specs.declared.declaration.FunDef.{FunDef}
use Rattle.lk_ast.specs.declared.declaration.Program.{Program}
use Rattle.lk_ast.specs.declared.event.Event.{Event}
use Rattle.lk_ast.specs.declared.event.Event.TheVariants.{Enter, Leave}
use Rattle.lk_ast.specs.declared.expression.Expr.{Expr}
use Rattle.lk_ast.specs.declared.expression.Node.{Node}
use Rattle.lk_ast.specs.declared.expression.Node.TheVariants as node
use Rattle.lk_ast.specs.declared.place.Loc.TheVariants.{Client}
use Rattle.lk_ast.specs.declared.place.Word.{Word}
use Rattle.lk_ast.specs.declared.table.BaseKind.TheVariants as kind
use Rattle.lk_ast.specs.declared.value.Value.{Value}
use Rattle.lk_ast.specs.declared.value.Value.TheVariants as value
use Rattle.lk_evaluation.specs.Evaluation.{eval_to}
use Rattle.lk_evaluation.specs.Laws.{HasBegun, run_of}
use Rattle.lk_evaluation.specs.Run.{Run, Out, events_of, start}
use Rattle.lk_evaluation.specs.Source.{session}
use Rattle.lk_sound.specs.Histories.{write_event}
use Rattle.lk_sem.specs.SourceRuns.{IsLeastFuel}

abbrev placed : ℕ → Node → Expr
placed start n = record { span = record { start = start; end = 0 }; node = n }

abbrev word : ℕ → List ℕ → Word
word start name = record { at = record { start = start; end = 0 }; text = name }

-- table t with (n : Int); fun main(a) client { insert t values []; a }
abbrev inserting_main : FunDef
inserting_main = record {
  name = word 28 (codes "main");
  sig = None;
  params = word 33 (codes "a") ∷ [];
  place = Client;
  body = placed 45 (node.Seq (placed 45 (node.Insert (word 52 (codes "t")) (placed 61 (node.List [])))) (placed 65 (node.Name (codes "a"))));
}

abbrev inserting : Program
inserting = record { decls = decl.Table (record { name = word 6 (codes "t"); columns = record { label = word 14 (codes "n"); kind = kind.Int } ∷ [] }) ∷ decl.Fun inserting_main ∷ [] }

abbrev evaluation : Run → Out Value
evaluation = session inserting inserting_main (codes "ann")

-- the log of a run in which the insertion is refused, and that
abbrev events : List Event
events = Enter ∷ write_event 45 (value.List [] ∷ []) ∷ []

abbrev evaluated : ℕ → List Event
evaluated fuel = events_of (run_of (evaluation (start fuel []))).log

-- Three nodes are entered before: the sequence, the insertion and its list. With less nothing happens.
with_three : evaluated 3 ≡ events ++ Leave ∷ []
unfolding eval_to
with_three = simp (node.outs-Seq, node.outs-Insert, node.outs-List, value.outs-Fields)

with_two : evaluated 2 ≡ []
unfolding eval_to
with_two = simp (node.outs-Seq, node.outs-Insert)

with_one : evaluated 1 ≡ []
unfolding eval_to
with_one = simp node.outs-Seq

with_none : evaluated 0 ≡ []
unfolding eval_to
with_none = refl

has_begun : HasBegun evaluation 3 events
has_begun = (Leave ∷ [], with_three)

nothing_yet : (more : List Event) → [] ≡ events ++ more → ⊥
nothing_yet more is = cc

at_least : (fuel : ℕ) → HasBegun evaluation fuel events → 3 ≤ fuel
at_least zero begun = absurd (nothing_yet begun.0 (sym with_none ∙ begun.1))
at_least (suc zero) begun = absurd (nothing_yet begun.0 (sym with_one ∙ begun.1))
at_least (suc (suc zero)) begun = absurd (nothing_yet begun.0 (sym with_two ∙ begun.1))
at_least (suc (suc (suc fuel))) begun = omega arith

-- so three units were used, whatever fuel there was
pub least_three : IsLeastFuel evaluation events 3
least_three = record { enough = has_begun; least = at_least }

-- and no other number: not four, which the whole evaluation uses
pub only_three : (used : ℕ) → IsLeastFuel evaluation events used → used ≡ 3
only_three used is =
    let most = is.least 3 has_begun in
    let least = at_least used is.enough in
    omega (arith, most, least)
