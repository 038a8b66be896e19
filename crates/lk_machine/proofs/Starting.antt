-- A machine that begins with what has a label does what the label does, and goes on to a value of its result's type.
use Rattle.std.proofs.Common.{◌≡◌, refl, sym, ◌∙◌, ap, subst, ℕ, ◌+◌, ◌-◌, ◌≤◌, ◌<◌, arith, length-append}
use Rattle.std.proofs.lemmas.Bool.{eq-eqb, lt-ltb}
use Rattle.std.proofs.lemmas.List.{take-append-drop}
use Rattle.std.proofs.lemmas.Option.{none-some, slice_get_within}
use Rattle.std.specs.Option.{option_map}
use Rattle.std.specs.Prelude.{Bool, true, false, List, [], ◌∷◌, ◌++◌, Option, Some, None, IfSome, drop, length, if◌then◌else◌, slice_get, take}
use Rattle.lk_ast.specs.declared.place.Loc.{Loc}
use Rattle.lk_ast.specs.declared.place.Loc.TheVariants.{Any, Client, Server}
use Rattle.lk_ast.specs.declared.value.Value.{Value}
use Rattle.lk_code.proofs.Calling.{entered_well}
use Rattle.lk_code.proofs.Crossing.{calls_law}
use Rattle.lk_code.proofs.Soundness.{functions}
use Rattle.lk_code.proofs.Waiting.{AreCut, fit_cut}
use Rattle.lk_code.specs.Acting.{ActsWell, IsCallOf, IsPointOf}
use Rattle.lk_code.specs.Meaning.{does, language, rest}
use Rattle.lk_code.specs.Parts.{Info, IsTypedBody}
use Rattle.lk_code.specs.Running.{is_at}
use Rattle.lk_code.specs.Sound.{IsReturnOf, info_of, told_by}
use Rattle.lk_code.specs.Tables.{first_frame, frame_info, fun_info, is_block, is_function}
use Rattle.lk_code.specs.TypedLaw.{IsWhole}
use Rattle.lk_code.specs.Values.{IsFun}
use Rattle.lk_code.specs.declared.infos.FrameInfo.{FrameInfo}
use Rattle.lk_code.specs.declared.infos.FunInfo.{FunInfo}
use Rattle.lk_code.specs.declared.infos.FunKind.{FunKind}
use Rattle.lk_code.specs.declared.infos.FunKind.TheVariants as fun
use Rattle.lk_code.specs.declared.tables.CodeTables.{CodeTables}
use Rattle.lk_code.specs.declared.tables.Frame.{Frame}
use Rattle.lk_evaluation.specs.Evaluation.{eval}
use Rattle.lk_evaluation.specs.Run.{Goes, Out, Run, Stops, and_then}
use Rattle.lk_fits.proofs.Fitting.{as_many}
use Rattle.lk_fits.specs.Values.{FitEach, none_left}
use Rattle.lk_ir.specs.Environments.{Env, bind_each, no_names}
use Rattle.lk_ir.specs.LetNormal.{body_entered, nowhere, under}
use Rattle.lk_ir.specs.Tables.{body_at}
use Rattle.lk_ir.specs.declared.nodes.Body.{Body}
use Rattle.lk_types.proofs.Parts.{same_some}
use Rattle.lk_types.specs.declared.ground.Ground.{Ground}
use Rattle.lk_machine.proofs.GoingOn.{goes}
use Rattle.lk_machine.proofs.Taking.{returned}
use Rattle.lk_machine.specs.Going.{begun, doing, forward, here, is_turn_at, left_round, waiting}
use Rattle.lk_machine.specs.Stepped.{GoesOn}
use Rattle.lk_machine.specs.Typed.{AreFrames, IsAsked, IsCall, IsHere, IsPlace, MayStart, MaySteps}
use Rattle.lk_machine.specs.declared.state.Now.{Now}
use Rattle.lk_machine.specs.declared.state.Now.TheVariants as now
use Rattle.lk_machine.specs.declared.state.State.{State}

-- what is no function and doesn't print reads or changes tables
block_kind : (k : FunKind) → is_function k ≡ false → (k ≡ fun.Print → ⊥) → is_block k ≡ true
block_kind fun.Print is none = absurd (none refl)
block_kind fun.Top is none = let wrong : true ≡ false = is in cc
block_kind fun.Lambda is none = let wrong : true ≡ false = is in cc
block_kind fun.Query is none = refl
block_kind fun.TableRead is none = refl
block_kind fun.Insert is none = refl
block_kind fun.Update is none = refl
block_kind fun.Delete is none = refl

false_at_client : (p : Loc) → p ≡ Server → is_at p Client ≡ true → ⊥
false_at_client p server at = let wrong : is_at Server Client ≡ true = subst (λ q. is_at q Client ≡ true) server at in let e : false ≡ true = wrong in cc

module _ (c : CodeTables) (whole : IsWhole c) (place : Loc) (label : ℕ) (args : List Value) (u : Ground) (may : MayStart c place label args u) where
  abbrev i : FunInfo
  i = may.0

  call : IsCall c label args u i
  call = may.1

  abbrev back : Frame
  back = record { number = label; env = [] }

  -- ---- the return of the label

  within : label < first_frame c
  within = slice_get_within c.funs label i call.is

  forward_same : forward c back ≡ back
  forward_same = ap (λ b. if is_turn_at c (if b then None else slice_get c.homes (label - first_frame c)) then record back { env = left_round back.env } else back) (lt-ltb label (first_frame c) within)

  found : (r : FrameInfo) × (frame_info c label ≡ Some r) × IsReturnOf i r
  found = whole.sound.returns label i call.is

  waits : AreFrames c place (back ∷ []) u u
  waits = record {
    chained = (found.0, found.1, found.2.hole ∙ call.result, within);
    held = (λ j is. subst (FitEach (IsFun c) []) (sym (ap (λ (r : FrameInfo). r.env) (same_some (sym is ∙ found.1)) ∙ found.2.env)) none_left, tt);
    placed = (λ j is. subst (λ p. is_at p place ≡ true) (sym (ap (λ (r : FrameInfo). r.place) (same_some (sym is ∙ found.1)) ∙ found.2.place)) may.2, tt);
    returns = (i, call.is, call.result);
  }

  frames : AreFrames c place (waiting c (back ∷ [])) u u
  frames = subst (λ f. AreFrames c place (f ∷ []) u u) (sym forward_same) waits

  -- what comes next, and then the return
  alone : (n : Now) (r : Run) → doing c (record { place = place; stack = back ∷ []; now = n; printed = None }) r ≡ here c place n r
  alone n r = by_out (here c place n r)
    where
      by_out : (out : Out Value) → and_then out (rest c (waiting c (back ∷ [])) place) ≡ out
      by_out (Goes v s) = returned c (forward c back) u frames.chained place v s
      by_out (Stops stop s) = refl

  -- ---- a body

  module _ (b : Body) (there : body_at c.forms label ≡ Some b) where
    inner : IsTypedBody c.forms (told_by c) label b
    inner = whole.sound.forms.bodies label b there

    same : inner.of ≡ info_of i
    same = same_some (sym inner.is ∙ ap (option_map info_of) call.is)

    params_long : length b.params ≡ length i.params
    params_long = inner.params_long ∙ ap (λ (o : Info). length o.params) same

    names_long : length b.names ≡ length i.env
    names_long = inner.names_long ∙ ap (λ (o : Info). length o.env) same

    all_long : length args ≡ length i.env + length i.params
    all_long = as_many (IsFun c) args (i.env ++ i.params) call.fit ∙ length-append i.env i.params

    pub long_enough : length b.params ≤ length args
    long_enough = omega (arith, params_long, all_long)

    seam : length args - length b.params ≡ length i.env
    seam = omega (arith, params_long, all_long)

    parts : AreCut (IsFun c) (length i.env) args i.env i.params
    parts = fit_cut (IsFun c) i.env i.params args call.fit

    abbrev names : Env
    names = bind_each (bind_each no_names b.names (take (length i.env) args)) b.params (drop (length i.env) args)

    enters : begun (Some b) label args ≡ now.Enter b.root (under names b.root).names
    enters = ap (λ n. now.Enter b.root (bind_each (bind_each no_names b.names (take n args)) b.params (drop n args))) seam

    of_body : (j : FunInfo) × (fun_info c label ≡ Some j) × (is_function j.kind ≡ true) × (b.place ≡ j.place)
    of_body = whole.sound.bodies label b there

    is_fun : is_function i.kind ≡ true
    is_fun = subst (λ (j : FunInfo). is_function j.kind ≡ true) (same_some (sym of_body.1 ∙ call.is)) of_body.2

    does_so : (r : Run) → eval (language c) (under names b.root) place r ≡ does c label args place r
    does_so r =
        calls_law c label i b call.is is_fun there (take (length i.env) args) (drop (length i.env) args) (names_long ∙ sym parts.long) place r
        ∙ ap (λ values. does c label values place r) (take-append-drop (length i.env) args)

    point : IsPointOf (IsFun c) c.forms (told_by c) u (under names b.root)
    point =
        let passed = drop (length i.env) args in
        let long : length b.params ≡ length passed = params_long ∙ sym (as_many (IsFun c) passed i.params parts.rest) in
        let well = entered_well (IsFun c) c.forms (told_by c) (functions c whole) whole.sound.forms label (info_of i) b (ap (option_map info_of) call.is) there (nowhere c.forms) (take (length i.env) args) passed parts.first parts.rest in
        let called : IsCallOf (IsFun c) c.forms (told_by c) i.result b.place (record { site = label; env = take (length i.env) args }) passed (under names b.root) =
        subst (λ many. ActsWell (IsFun c) c.forms (told_by c) i.result (body_entered many (nowhere c.forms) label (take (length i.env) args) passed b)) (eq-eqb (length b.params) (length passed) long) well in
        subst (λ t. IsPointOf (IsFun c) c.forms (told_by c) t (under names b.root)) call.result called.point

    at_here : IsHere c place b.root
    at_here form j there_form told =
        let own : form.within ≡ label = whole.sound.forms.within.roots label b form there there_form in
        subst (λ (k : FunInfo). is_at k.place place ≡ true) (same_some (sym call.is ∙ ap (fun_info c) (sym own) ∙ told)) may.2

  -- ---- what reads or changes tables

  module _ (none : body_at c.forms label ≡ None) where
    no_function : is_function i.kind ≡ false
    no_function = by (is_function i.kind) refl
      where
        by : (b : Bool) → is_function i.kind ≡ b → b ≡ false
        by false is = refl
        by true is = let has = whole.bodies label i call.is is in absurd (none-some has.0 (sym none ∙ has.1))

    reaches : is_block i.kind ≡ true
    reaches = block_kind i.kind no_function may.3

    at_server : i.place ≡ Server
    at_server = whole.sound.servers label i call.is reaches

    asked : IsPlace place → IsAsked c place label args u
    asked one = (i, call, reaches, by_place place one may.2)
      where
        by_place : (p : Loc) → IsPlace p → is_at i.place p ≡ true → p ≡ Server
        by_place Server one at = refl
        by_place Client one at = absurd (false_at_client i.place at_server at)
        by_place Any one at = absurd (one refl)

  -- ---- the machine

  pub long : IfSome (body_at c.forms label) (λ (b : Body). length b.params ≤ length args)
  long = by (body_at c.forms label) refl
    where
      by : (o : Option Body) → body_at c.forms label ≡ o → IfSome o (λ (b : Body). length b.params ≤ length args)
      by None there = tt
      by (Some b) there = long_enough b there

  abbrev machine : Now → State
  machine n = record { place = place; stack = back ∷ []; now = n; printed = None }

  pub going : (r : Run) → doing c (machine (begun (body_at c.forms label) label args)) r ≡ does c label args place r
  going r = by (body_at c.forms label) refl
    where
      by : (o : Option Body) → body_at c.forms label ≡ o → doing c (machine (begun o label args)) r ≡ does c label args place r
      by None there = alone (now.First label args) r
      by (Some b) there = alone (begun (Some b) label args) r ∙ ap (λ n. here c place n r) (enters b there) ∙ does_so b there r

  pub typed : IsPlace place → MaySteps c (machine (begun (body_at c.forms label) label args)) u
  typed one = by (body_at c.forms label) refl
    where
      by : (o : Option Body) → body_at c.forms label ≡ o → MaySteps c (machine (begun o label args)) u
      by None there = (u, record { place = one; next = asked there one; frames = frames }, tt)
      by (Some b) there = subst (λ n. MaySteps c (machine n) u) (sym (enters b there)) (u, record { place = one; next = (point b there, at_here b there); frames = frames }, tt)

  -- what comes first is no value
  no_value : (o : Option Body) (v : Value) → begun o label args ≡ now.Give v → ⊥
  no_value None v is = cc
  no_value (Some b) v is = cc

  pub on : IsPlace place → place ≡ Client → GoesOn c (machine (begun (body_at c.forms label) label args))
  on one client =
      let may_step = typed one in
      goes c (machine (begun (body_at c.forms label) label args)) may_step.0 client may_step.1.next may_step.2 (no_value (body_at c.forms label))

-- the same of a machine that is made so
module _ (c : CodeTables) (whole : IsWhole c) (place : Loc) (label : ℕ) (args : List Value) (stack : List Frame) (n : Now) (stack_is : stack ≡ record { number = label; env = [] } ∷ []) (now_is : n ≡ begun (body_at c.forms label) label args) where
  abbrev made : State
  made = record { place = place; stack = stack; now = n; printed = None }

  as_made : made ≡ record { place = place; stack = record { number = label; env = [] } ∷ []; now = begun (body_at c.forms label) label args; printed = None }
  as_made = cc

  pub made_going : (u : Ground) → MayStart c place label args u → (r : Run) → doing c made r ≡ does c label args place r
  made_going u may r = ap (λ m. doing c m r) as_made ∙ going c whole place label args u may r

  pub made_typed : IsPlace place → (u : Ground) → MayStart c place label args u → MaySteps c made u
  made_typed one u may = subst (λ m. MaySteps c m u) (sym as_made) (typed c whole place label args u may one)

  pub made_on : IsPlace place → (u : Ground) → MayStart c place label args u → place ≡ Client → GoesOn c made
  made_on one u may client = subst (GoesOn c) (sym as_made) (on c whole place label args u may one client)
