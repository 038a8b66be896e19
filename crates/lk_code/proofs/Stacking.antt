-- Frames do what the waiting parts do that they stand for.
use Rattle.std.proofs.Common.{◌≡◌, refl, sym, ap, ◌∙◌, Bool, true, false, List, [], ◌∷◌, ◌++◌, Option, Some, None}
use Rattle.std.proofs.lemmas.Option.{none-some}
use Rattle.std.specs.Option.{option_and_then, option_map}
use Rattle.std.specs.Prelude.{nat_lt, if◌then◌else◌}
use Rattle.lk_ast.specs.declared.place.Loc.{Loc}
use Rattle.lk_ast.specs.declared.value.Value.{Value}
use Rattle.lk_evaluation.specs.Run.{Out, Goes, Run, Stops, and_then}
use Rattle.lk_ir.specs.LetNormal.{Point}
use Rattle.lk_moves.proofs.Courses.{frames_law}
use Rattle.lk_moves.specs.Frames.{Frame as Waiting, continued, wound}
use Rattle.lk_types.proofs.Parts.{same_some}
use Rattle.lk_code.specs.Meaning.{continues_as, frame_meant, language, rest, stack_of}
use Rattle.lk_code.specs.Tables.{first_frame}
use Rattle.lk_code.specs.declared.tables.CodeTables.{CodeTables}
use Rattle.lk_code.specs.declared.tables.Frame.{Frame}

module _ (c : CodeTables) (place : Loc) where
  abbrev Stack : Type 0
  Stack = List (Waiting Point)

  -- frames that do what these do go on with the value at the end of an outcome as these pass it on
  passed_on : (fs : List Frame) (stack : Stack) → ((v : Value) (r : Run) → rest c fs place v r ≡ wound (language c) stack (Goes v r)) → (out : Out Value) → and_then out (rest c fs place) ≡ wound (language c) stack out
  passed_on fs stack same (Goes v r) = same v r
  passed_on fs stack same (Stops stop r) = sym ((frames_law (language c)).stopped stack stop r)

  -- a waiting part before those of the frames behind it
  one_more : (fs : List Frame) (stack : Stack) (frame : Waiting Point) → ((v : Value) (r : Run) → rest c fs place v r ≡ wound (language c) stack (Goes v r))
      → (v : Value) (r : Run) → and_then (continued (language c) frame v r) (rest c fs place) ≡ wound (language c) (stack ++ frame ∷ []) (Goes v r)
  one_more fs stack frame same v r = passed_on fs stack same (continued (language c) frame v r) ∙ sym ((frames_law (language c)).stacked stack (frame ∷ []) (Goes v r))

  abbrev Behind : Option (Waiting Point) → Option Stack → Option Stack
  Behind meant behind = option_and_then (λ frame. option_map (λ stack. stack ++ frame ∷ []) behind) meant

  -- by whether the first frame is a return, what it stands for, and what those behind it do
  first_one : (b : Bool) (meant : Option (Waiting Point)) (fs : List Frame) (behind : Option Stack) → ((stack : Stack) → behind ≡ Some stack → (v : Value) (r : Run) → rest c fs place v r ≡ wound (language c) stack (Goes v r))
      → (stack : Stack) → (if b then behind else Behind meant behind) ≡ Some stack → (v : Value) (r : Run) → and_then ((if b then Goes v else continues_as c meant v) r) (rest c fs place) ≡ wound (language c) stack (Goes v r)
  first_one true meant fs behind same stack is v r = same stack is v r
  first_one false None fs behind same stack is v r = absurd (none-some stack is)
  first_one false (Some frame) fs None same stack is v r = absurd (none-some stack is)
  first_one false (Some frame) fs (Some others) same stack is v r = one_more fs others frame (same others refl) v r ∙ ap (λ all. wound (language c) all (Goes v r)) (same_some is)

  pub stacks_law : (fs : List Frame) (stack : Stack) → stack_of c place fs ≡ Some stack → (v : Value) (r : Run) → rest c fs place v r ≡ wound (language c) stack (Goes v r)
  stacks_law [] stack is v r = ap (λ all. wound (language c) all (Goes v r)) (same_some is)
  stacks_law (f ∷ fs) stack is v r = first_one (nat_lt f.number (first_frame c)) (frame_meant c place f) fs (stack_of c place fs) (stacks_law fs) stack is v r
