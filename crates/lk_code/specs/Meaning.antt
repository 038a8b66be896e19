-- What labels and frames stand for (what numbers stand for after defunctionalisation: J. C. Reynolds, Definitional Interpreters for
-- Higher-Order Programming Languages, 1972, section 5; O. Danvy and L. R. Nielsen, Defunctionalization at Work, 2001): a label for its
-- body, or for what only one place can do; a frame for the rest of its node.
use Rattle.std.specs.Option.{option_and_then, option_map, unwrap_or}
use Rattle.std.specs.Prelude.{ℕ, List, [], ◌∷◌, ◌++◌, Option, Some, None, drop, length, map, nat_lt, if◌then◌else◌, take}
use Rattle.lk_ast.specs.declared.place.Loc.{Loc}
use Rattle.lk_ast.specs.declared.value.Value.{Value}
use Rattle.lk_evaluation.specs.Evaluation.{Language, Primitive, Printing, Reading, Writing, eval, used}
use Rattle.lk_evaluation.specs.Run.{Callee, Function, Goes, Printer, Run, Out, Site, Stops, Stuck, and_then}
use Rattle.lk_ir.specs.Continuing.{continuing}
use Rattle.lk_ir.specs.Environments.{Env, bind, bind_each, no_names}
use Rattle.lk_ir.specs.LetNormal.{Point, nowhere, under}
use Rattle.lk_ir.specs.Tables.{body_at, form_at, names_of}
use Rattle.lk_ir.specs.declared.nodes.Body.{Body}
use Rattle.lk_ir.specs.declared.nodes.Cont.{Cont}
use Rattle.lk_ir.specs.declared.nodes.Form.{Form}
use Rattle.lk_ir.specs.declared.nodes.Kind.{Kind}
use Rattle.lk_ir.specs.declared.nodes.Kind.TheVariants as kind
use Rattle.lk_moves.specs.Courses.{Evaluation}
use Rattle.lk_moves.specs.Frames as frames
use Rattle.lk_moves.specs.Frames.{continued}
use Rattle.lk_moves.specs.Meaning.{Meaning}
use Rattle.lk_operators.specs.Values.{list_in, text_in}
use Rattle.lk_code.specs.Tables.{cont_at, first_frame, fun_info, home_of, site_of}
use Rattle.lk_code.specs.declared.infos.FunInfo.{FunInfo}
use Rattle.lk_code.specs.declared.infos.FunKind.{FunKind}
use Rattle.lk_code.specs.declared.infos.FunKind.TheVariants as fun
use Rattle.lk_code.specs.declared.tables.CodeTables.{CodeTables}
use Rattle.lk_code.specs.declared.tables.Frame.{Frame}
use Rattle.lk_code.specs.declared.tables.Home.{Home}

-- ---- labels

module _ (c : CodeTables) where
  -- the language that code runs
  abbrev pub language : Language
  language = continuing c.forms c.conts

  -- a number that stands for nothing
  abbrev pub nothing : Run → Out Value
  nothing r = Stops (Stuck (nowhere c.forms)) r

  -- a body with the values of what it captured and then of its parameters
  abbrev pub entered : Body → List Value → Point
  entered b args = under (bind_each no_names (b.names ++ b.params) args) b.root

  abbrev pub does_body : Option Body → List Value → Loc → Evaluation
  does_body None args place = nothing
  does_body (Some b) args place = eval language (entered b args) place

  -- what only one place can do
  abbrev pub printing : List Value → Option Primitive
  printing (v ∷ []) = option_map Printing (text_in v)
  printing args = None

  abbrev pub primitive : FunKind → ℕ → List Value → Option Primitive
  primitive fun.Print label args = printing args
  primitive fun.Query label args = Some (Reading (site_of c.forms label) args)
  primitive fun.TableRead label args = Some (Reading (site_of c.forms label) args)
  primitive fun.Insert label args = Some (Writing (site_of c.forms label) args)
  primitive fun.Update label args = Some (Writing (site_of c.forms label) args)
  primitive fun.Delete label args = Some (Writing (site_of c.forms label) args)
  primitive other label args = None

  abbrev pub does_primitive : Option Primitive → Evaluation
  does_primitive None = nothing
  does_primitive (Some p) = used p

  abbrev pub does_kind : Option FunKind → ℕ → List Value → Loc → Evaluation
  does_kind None label args place = nothing
  does_kind (Some fun.Top) label args place = does_body (body_at c.forms label) args place
  does_kind (Some fun.Lambda) label args place = does_body (body_at c.forms label) args place
  does_kind (Some other) label args place = does_primitive (primitive other label args)

  abbrev pub kind_at : ℕ → Option FunKind
  kind_at label = option_map (λ (i : FunInfo). i.kind) (fun_info c label)

  -- what has this label does this with these arguments, the values that a lambda has captured before those that it is called with
  abbrev pub does : ℕ → List Value → Loc → Evaluation
  does label args place = does_kind (kind_at label) label args place

  -- how many of the arguments are values that are kept
  abbrev pub kept_count : ℕ → ℕ
  kept_count label = unwrap_or (option_map (λ (i : FunInfo). length i.env) (fun_info c label)) 0

  abbrev pub callee_kind : Option FunKind → ℕ → List Value → Callee
  callee_kind (Some fun.Print) label args = Printer
  callee_kind (Some fun.Query) label args = Site (site_of c.forms label)
  callee_kind (Some fun.TableRead) label args = Site (site_of c.forms label)
  callee_kind (Some fun.Insert) label args = Site (site_of c.forms label)
  callee_kind (Some fun.Update) label args = Site (site_of c.forms label)
  callee_kind (Some fun.Delete) label args = Site (site_of c.forms label)
  callee_kind other label args = Function (record { site = label; env = take (kept_count label) args })

  abbrev pub callee : ℕ → List Value → Callee
  callee label args = callee_kind (kind_at label) label args

  abbrev pub passed : ℕ → List Value → List Value
  passed label args = drop (kept_count label) args

  -- ---- frames

  -- the names that a frame keeps
  abbrev pub kept_names : Cont → List Value → Env
  kept_names cont kept = bind_each no_names (names_of cont.keeps) kept

  -- a part: the values of the earlier ones, and what is kept
  abbrev pub part_meant : Loc → Home → Cont → List Value → frames.Frame Point
  part_meant place h cont env = frames.Part (under (kept_names cont (drop h.position env)) h.node) (take h.position env) place

  -- one of several bodies of a `for`: the list made so far, the elements left, and what is kept
  abbrev pub turn_of : Loc → Form → ℕ → ℕ → Env → Option (List Value) → Option (List Value) → Option (frames.Frame Point)
  turn_of place form x body names (Some made) (Some left) = Some (frames.Turn form.at (under names body) (map (λ v. under (bind x v names) body) left) place made)
  turn_of place form x body names made left = None

  abbrev pub turn_meant : Loc → Form → Kind → List ℕ → Cont → List Value → Option (frames.Frame Point)
  turn_meant place form (kind.For x) (body ∷ []) cont (made ∷ left ∷ kept) = turn_of place form x body (kept_names cont kept) (list_in made) (list_in left)
  turn_meant place form other tails cont env = None

  abbrev pub at_home : Loc → Home → Form → Cont → List Value → Option (frames.Frame Point)
  at_home place h form cont env = if nat_lt h.position (length form.parts) then Some (part_meant place h cont env) else turn_meant place form form.kind form.tails cont env

  -- the waiting part of an evaluation at a place that a frame stands for, if it is no return
  abbrev pub frame_meant : Loc → Frame → Option (frames.Frame Point)
  frame_meant place f = option_and_then (λ h. option_and_then (λ form. option_and_then (λ cont. at_home place h form cont f.env) (cont_at c h)) (form_at c.forms h.node)) (home_of c f.number)

  abbrev pub continues_as : Option (frames.Frame Point) → Value → Evaluation
  continues_as None v = nothing
  continues_as (Some frame) v = continued language frame v

  -- what a frame does with the value that it waits for: a return hands it on
  abbrev pub goes_on : Loc → Frame → Value → Evaluation
  goes_on place f v = if nat_lt f.number (first_frame c) then Goes v else continues_as (frame_meant place f) v

  abbrev pub rest : List Frame → Loc → Value → Evaluation
  rest [] place v = Goes v
  rest (f ∷ fs) place v = λ r. and_then (goes_on place f v r) (rest fs place)

  -- The waiting parts that frames stand for, the next one last as in `wound`; a return stands for none.
  abbrev pub stack_of : Loc → List Frame → Option (List (frames.Frame Point))
  stack_of place [] = Some []
  stack_of place (f ∷ fs) = if nat_lt f.number (first_frame c) then stack_of place fs else option_and_then (λ frame. option_map (λ stack. stack ++ frame ∷ []) (stack_of place fs)) (frame_meant place f)

  abbrev pub meaning : Meaning Frame
  meaning = record { does = does; callee = callee; passed = passed; rest = rest }
