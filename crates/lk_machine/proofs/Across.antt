-- A call enters a body at its place, or crosses to the other place.
use Rattle.std.proofs.Common.{◌≡◌, refl, sym, ap, subst, ◌∙◌, ℕ, true, false, List, ◌++◌, Some, length, take, drop}
use Rattle.std.proofs.Math.Path.{fun_ext}
use Rattle.std.proofs.Math.Seq.{drop-append_seam, take-append_seam}
use Rattle.std.specs.Option.{option_map, unwrap_or}
use Rattle.lk_ast.specs.declared.place.Loc.{Loc}
use Rattle.lk_ast.specs.declared.place.Loc.TheVariants.{Client, Server, Any}
use Rattle.lk_ast.specs.declared.value.Value.{Value}
use Rattle.lk_code.proofs.Crossing.{calls_law}
use Rattle.lk_code.specs.Acting.{IsCallOf, IsPointOf}
use Rattle.lk_code.specs.Meaning.{callee, callee_kind, does, kept_count, kind_at, language, passed}
use Rattle.lk_code.specs.Parts.{Info}
use Rattle.lk_code.specs.Running.{is_at}
use Rattle.lk_code.specs.Sound.{info_of, told_by}
use Rattle.lk_code.specs.Tables.{fun_info, is_function}
use Rattle.lk_code.specs.TypedLaw.{IsWhole}
use Rattle.lk_code.specs.Values.{IsFun}
use Rattle.lk_code.specs.declared.infos.FunInfo.{FunInfo}
use Rattle.lk_code.specs.declared.infos.FunKind.{FunKind}
use Rattle.lk_code.specs.declared.infos.FunKind.TheVariants as fun
use Rattle.lk_code.specs.declared.tables.CodeTables.{CodeTables}
use Rattle.lk_evaluation.specs.Evaluation.{call_from, eval}
use Rattle.lk_evaluation.specs.Run.{Callee, Function, Run}
use Rattle.lk_fits.proofs.Fitting.{as_many, fit_both}
use Rattle.lk_fits.specs.Values.{FitEach}
use Rattle.lk_ir.specs.Environments.{Env, bind_each, no_names}
use Rattle.lk_ir.specs.LetNormal.{Point, under}
use Rattle.lk_ir.specs.Tables.{body_at}
use Rattle.lk_ir.specs.declared.nodes.Body.{Body}
use Rattle.lk_moves.specs.Courses.{Evaluation}
use Rattle.lk_types.proofs.Parts.{same_some}
use Rattle.lk_types.specs.declared.ground.Ground.{Ground}
use Rattle.lk_machine.proofs.Taking.{goes_next}
use Rattle.lk_machine.specs.Acts.{called}
use Rattle.lk_machine.specs.Going.{crossing, other}
use Rattle.lk_machine.specs.Moves.{ActsAt, IsReady, Leads, Moves, performed}
use Rattle.lk_machine.specs.Typed.{IsCallOut, IsHere, IsNow, IsPlace}
use Rattle.lk_machine.specs.declared.state.Next.TheVariants as next
use Rattle.lk_machine.specs.declared.state.Now.TheVariants as now
use Rattle.lk_machine.specs.declared.state.State.{State}

-- ---- places

-- and what doesn't runs at the other place
pub across : (place mark : Loc) → is_at mark place ≡ false → IsPlace place → mark ≡ other place
across Client Client is two = let wrong : true ≡ false = is in cc
across Client Server is two = refl
across Client Any is two = let wrong : true ≡ false = is in cc
across Server Client is two = refl
across Server Server is two = let wrong : true ≡ false = is in cc
across Server Any is two = let wrong : true ≡ false = is in cc
across Any mark is two = absurd (two refl)

-- ---- calls

module _ (c : CodeTables) where
  -- a call across, by who is called with what, and by what that does
  pub crossing_is : (place mark : Loc) (label : ℕ) (args : List Value) (who : Callee) (what : List Value) (body : Loc → Evaluation) → mark ≡ other place → callee c label args ≡ who → passed c label args ≡ what → does c label args ≡ body
      → (r : Run) → call_from place mark who what body r ≡ crossing c place label args r
  crossing_is place mark label args who what body to called with_these doing r =
      ap (λ m. call_from place m who what body r) to
      ∙ sym (ap (λ k. call_from place (other place) k (passed c label args) (does c label args) r) called
      ∙ ap (λ xs. call_from place (other place) who xs (does c label args) r) with_these
      ∙ ap (λ b. call_from place (other place) who what b r) doing)

  pub kept_many : (label : ℕ) (i : FunInfo) → fun_info c label ≡ Some i → kept_count c label ≡ length i.env
  kept_many label i is = ap (λ o. unwrap_or (option_map (λ (i : FunInfo). length i.env) o) 0) is

  pub kind_there : (label : ℕ) (i : FunInfo) → fun_info c label ≡ Some i → kind_at c label ≡ Some i.kind
  kind_there label i is = ap (option_map (λ (i : FunInfo). i.kind)) is

  called_function : (kind : FunKind) (label : ℕ) (args : List Value) → is_function kind ≡ true → callee_kind c (Some kind) label args ≡ Function (record { site = label; env = take (kept_count c label) args })
  called_function fun.Print label args is = let wrong : false ≡ true = is in cc
  called_function fun.Top label args is = refl
  called_function fun.Lambda label args is = refl
  called_function fun.Query label args is = let wrong : false ≡ true = is in cc
  called_function fun.TableRead label args is = let wrong : false ≡ true = is in cc
  called_function fun.Insert label args is = let wrong : false ≡ true = is in cc
  called_function fun.Update label args is = let wrong : false ≡ true = is in cc
  called_function fun.Delete label args is = let wrong : false ≡ true = is in cc

  module _ (whole : IsWhole c) (label : ℕ) (b : Body) (there : body_at c.forms label ≡ Some b) (env args : List Value) where
    abbrev point : Point
    point = under (bind_each (bind_each no_names b.names env) b.params args) b.root

    abbrev info : FunInfo
    info = (whole.sound.bodies label b there).0

    info_is : fun_info c label ≡ Some info
    info_is = (whole.sound.bodies label b there).1

    module _ (t : Ground) (call : IsCallOf (IsFun c) c.forms (told_by c) t b.place (record { site = label; env = env }) args point) where
      told : call.of ≡ info_of info
      told = same_some (sym call.is ∙ ap (option_map info_of) info_is)

      env_long : length env ≡ length info.env
      env_long = as_many (IsFun c) env call.of.env call.kept ∙ ap (λ (i : Info). length i.env) told

      names_long : length b.names ≡ length env
      names_long =
          let body = whole.sound.forms.bodies label b there in
          body.names_long ∙ ap (λ (i : Info). length i.env) (same_some (sym body.is ∙ call.is) ∙ told) ∙ sym env_long

      many : kept_count c label ≡ length env
      many = kept_many label info info_is ∙ sym env_long

      abbrev all : List Value
      all = env ++ args

      who : callee c label all ≡ Function (record { site = label; env = env })
      who =
          ap (λ k. callee_kind c k label all) (kind_there label info info_is)
          ∙ called_function info.kind label all (whole.sound.bodies label b there).2
          ∙ ap (λ n. Function (record { site = label; env = take n all })) many
          ∙ ap (λ kept. Function (record { site = label; env = kept })) (take-append_seam env args)

      with_these : passed c label all ≡ args
      with_these = ap (λ n. drop n all) many ∙ drop-append_seam env args

      does_so : (place : Loc) (r : Run) → does c label all place r ≡ eval (language c) point place r
      does_so place r = sym (calls_law c label info b info_is (whole.sound.bodies label b there).2 there env args names_long place r)

      body_does : ◌≡◌ {A = Loc → Evaluation} (does c label all) (eval (language c) point)
      body_does = fun_ext (λ place. fun_ext (does_so place))

      pub crosses : (place : Loc) → b.place ≡ other place → (r : Run) → performed c place (called label b env args) r ≡ crossing c place label all r
      crosses place to r = crossing_is place b.place label all (Function (record { site = label; env = env })) args (eval (language c) point) to who with_these body_does r

      pub crosses_typed : (place : Loc) → b.place ≡ other place → IsCallOut c place label all t
      crosses_typed place to = (
        info,
        record {
          is = info_is;
          fit = subst (λ (i : Info). FitEach (IsFun c) all (i.env ++ i.params)) told (fit_both (IsFun c) env args call.of.env call.of.params call.kept call.passed);
          result = ap (λ (i : Info). i.result) (sym told) ∙ call.result;
        },
        sym (whole.sound.bodies label b there).3 ∙ to,
      )

    -- ---- by where the body runs

    enters_here : (place : Loc) → is_at b.place place ≡ true → IsHere c place b.root
    enters_here place here form i at is =
        let root = whole.sound.forms.within.roots label b form there at in
        let same : i ≡ info = same_some (sym is ∙ ap (fun_info c) root ∙ info_is) in
        ap (λ (j : FunInfo). is_at j.place place) same ∙ ap (λ mark. is_at mark place) (sym (whole.sound.bodies label b there).3) ∙ here

    abbrev names : Env
    names = bind_each (bind_each no_names b.names env) b.params args

    pub enters_well : (old : State) → is_at b.place old.place ≡ true → IsReady old → (scope : Env) → scope ≡ names
        → Moves c (ActsAt c old.place (called label b env args)) old (record old { now = now.Enter b.root scope }) next.More
    enters_well old here ready scope are t u acts frames =
        let next_is : IsNow c old.place (now.Enter b.root scope) t = (subst (λ ns. IsPointOf (IsFun c) c.forms (told_by c) t (under ns b.root)) (sym are) acts.0.point, enters_here old.place here) in
        (((t, record { place = ready.0; next = next_is; frames = frames }, tt), λ client returning. let wrong : now.Enter b.root scope ≡ now.Give returning.0 = returning.2 in cc), refl)

    pub crosses_with : (old : State) (t : Ground) → ActsAt c old.place (called label b env args) t → IsReady old → is_at b.place old.place ≡ false → (both : List Value) → both ≡ env ++ args
        → Leads c old (performed c old.place (called label b env args)) (record old { now = now.Cross label both }) next.More
    crosses_with old t acts ready away both are =
        goes_next c old (now.Cross label both) (performed c old.place (called label b env args)) ready.1
        (λ r. crosses t acts.0 old.place (across old.place b.place away ready.0) r ∙ ap (λ xs. crossing c old.place label xs r) (sym are))

    pub crosses_well : (old : State) → IsReady old → is_at b.place old.place ≡ false → (both : List Value) → both ≡ env ++ args
        → Moves c (ActsAt c old.place (called label b env args)) old (record old { now = now.Cross label both }) next.More
    crosses_well old ready away both are t u acts frames =
        let call = subst (λ xs. IsCallOut c old.place label xs t) (sym are) (crosses_typed t acts.0 old.place (across old.place b.place away ready.0)) in
        (((t, record { place = ready.0; next = call; frames = frames }, tt), λ client returning. let wrong : now.Cross label both ≡ now.Give returning.0 = returning.2 in cc), refl)
