-- What only one place can do: the other one crosses for it, with `print` or what reads or changes tables.
use Rattle.std.proofs.Common.{◌≡◌, inl, inr, refl, sym, ap, subst, ◌∙◌, ℕ, true, List, [], ◌∷◌, ◌++◌, Some, None, drop, length}
use Rattle.std.specs.Option.{option_map}
use Rattle.lk_ast.specs.declared.place.Loc.{Loc}
use Rattle.lk_ast.specs.declared.place.Loc.TheVariants.{Client, Server, Any}
use Rattle.lk_ast.specs.declared.place.Span.{Span}
use Rattle.lk_ast.specs.declared.value.Value.{Value}
use Rattle.lk_ast.specs.declared.value.Value.TheVariants as value
use Rattle.lk_code.specs.Meaning.{callee, callee_kind, does, does_kind, does_primitive, kind_at, passed, primitive, rest}
use Rattle.lk_code.specs.Parts.{Info}
use Rattle.lk_code.specs.Sound.{kind_of}
use Rattle.lk_code.specs.Tables.{fun_info, is_block}
use Rattle.lk_code.specs.TypedLaw.{IsWhole, Reaches}
use Rattle.lk_code.specs.Values.{IsFun}
use Rattle.lk_code.specs.declared.infos.FunInfo.{FunInfo}
use Rattle.lk_code.specs.declared.infos.FunKind.TheVariants as fun
use Rattle.lk_code.specs.declared.tables.CodeTables.{CodeTables}
use Rattle.lk_evaluation.specs.Evaluation.{Act, Primitive, Printing, Uses, args_of, callee_of, used}
use Rattle.lk_evaluation.specs.Run.{Printer, Run, and_then}
use Rattle.lk_fits.proofs.Shapes.{text_fits}
use Rattle.lk_fits.specs.Values.{FitEach, none_left, one_more}
use Rattle.lk_ir.specs.LetNormal.{Point, reach}
use Rattle.lk_ir.specs.Tables.{form_at}
use Rattle.lk_ir.specs.declared.nodes.Block.{Block}
use Rattle.lk_ir.specs.declared.nodes.Block.TheVariants as block
use Rattle.lk_ir.specs.declared.nodes.Form.{Form}
use Rattle.lk_ir.specs.declared.nodes.Kept.{Kept}
use Rattle.lk_ir.specs.declared.nodes.Kind.TheVariants as kind
use Rattle.lk_moves.proofs.Courses.{takes_as}
use Rattle.lk_moves.specs.Courses.{Evaluation}
use Rattle.lk_operators.specs.Values.{text, text_in}
use Rattle.lk_types.proofs.Parts.{same_some}
use Rattle.lk_types.specs.declared.ground.Ground.{Ground}
use Rattle.lk_machine.proofs.Across.{crossing_is, kept_many, kind_there}
use Rattle.lk_machine.proofs.Taking.{goes_next}
use Rattle.lk_machine.specs.Going.{crossing, given, other, waiting}
use Rattle.lk_machine.specs.Moves.{ActsAt, IsReady, Leads, Moves, performed, then_frames}
use Rattle.lk_machine.specs.Typed.{AreFrames, IsCall, IsPlace}
use Rattle.lk_machine.specs.declared.state.Next.TheVariants as next
use Rattle.lk_machine.specs.declared.state.Now.TheVariants as now
use Rattle.lk_machine.specs.declared.state.State.{State}

-- away from the client it is the server
pub at_server : (place : Loc) → (place ≡ Client → ⊥) → IsPlace place → place ≡ Server
at_server Client away two = absurd (away refl)
at_server Server away two = refl
at_server Any away two = absurd (two refl)

module _ (c : CodeTables) (whole : IsWhole c) where
  -- ---- print

  module _ (bytes : List ℕ) where
    abbrev alone : List Value
    alone = text bytes ∷ []

    abbrev print : FunInfo
    print = whole.sound.printer.0

    no_env : print.env ≡ []
    no_env = ap (λ (i : Info). i.env) whole.sound.printer.2.2

    print_kind : Some print.kind ≡ Some fun.Print
    print_kind = ap Some whole.sound.printer.2.0

    shown : text_in (text bytes) ≡ Some bytes
    shown = simp (value.outs-Base)

    who : callee c 0 alone ≡ Printer
    who = ap (λ k. callee_kind c k 0 alone) (kind_there c 0 print whole.sound.printer.1 ∙ print_kind)

    with_these : passed c 0 alone ≡ alone
    with_these = ap (λ n. drop n alone) (kept_many c 0 print whole.sound.printer.1 ∙ ap length no_env)

    print_does : ◌≡◌ {A = Loc → Evaluation} (does c 0 alone) (λ place. used (Printing bytes))
    print_does =
        ap (λ k place. does_kind c k 0 alone place) (kind_there c 0 print whole.sound.printer.1 ∙ print_kind)
        ∙ ap (λ o place. does_primitive c (option_map Printing o)) shown

    pub print_crosses : (place : Loc) → place ≡ Server → (r : Run) → performed c place (Uses Client (Printing bytes)) r ≡ crossing c place 0 alone r
    print_crosses place server r = crossing_is c place Client 0 alone Printer alone (λ place. used (Printing bytes)) (ap other (sym server)) who with_these print_does r

    with_args : (old : State) → old.place ≡ Server → old.printed ≡ None → Leads c old (performed c old.place (Uses Client (Printing bytes))) (record old { now = now.Cross 0 alone }) next.More
    with_args old server quiet = goes_next c old (now.Cross 0 alone) (performed c old.place (Uses Client (Printing bytes))) quiet (print_crosses old.place server)

    print_fits : FitEach (IsFun c) alone (print.env ++ print.params)
    print_fits = subst (λ (i : Info). FitEach (IsFun c) alone (i.env ++ i.params)) (sym whole.sound.printer.2.2) (one_more (text_fits (IsFun c) bytes) none_left)

    args_well : (old : State) → old.place ≡ Server → IsReady old → Moves c (ActsAt c old.place (Uses Client (Printing bytes))) old (record old { now = now.Cross 0 alone }) next.More
    args_well old server ready t u acts frames =
        let call : IsCall c 0 alone t print = record { is = whole.sound.printer.1; fit = print_fits; result = ap (λ (i : Info). i.result) whole.sound.printer.2.2 ∙ sym acts.0 } in
        (((t, record { place = ready.0; next = (print, call, whole.sound.printer.2.1 ∙ ap other (sym server)); frames = frames }, tt), λ client returning. let wrong : now.Cross 0 alone ≡ now.Give returning.0 = returning.2 in cc), refl)

    -- from a list that holds the text alone
    pub print_with : (old : State) (made : List Value) → made ≡ alone → old.place ≡ Server → old.printed ≡ None → Leads c old (performed c old.place (Uses Client (Printing bytes))) (record old { now = now.Cross 0 made }) next.More
    print_with old made is server quiet = subst (λ xs. Leads c old (performed c old.place (Uses Client (Printing bytes))) (record old { now = now.Cross 0 xs }) next.More) (sym is) (with_args old server quiet)

    pub print_well : (old : State) (made : List Value) → made ≡ alone → old.place ≡ Server → IsReady old → Moves c (ActsAt c old.place (Uses Client (Printing bytes))) old (record old { now = now.Cross 0 made }) next.More
    print_well old made is server ready = subst (λ xs. Moves c (ActsAt c old.place (Uses Client (Printing bytes))) old (record old { now = now.Cross 0 xs }) next.More) (sym is) (args_well old server ready)

  -- ---- tables

  not_lambda : (b : Block) → kind_of b ≡ fun.Lambda → ⊥
  not_lambda block.Query is = cc
  not_lambda block.TableRead is = cc
  not_lambda block.Insert is = cc
  not_lambda block.Update is = cc
  not_lambda block.Delete is = cc

  of_blocks : (b : Block) → is_block (kind_of b) ≡ true
  of_blocks block.Query = refl
  of_blocks block.TableRead = refl
  of_blocks block.Insert = refl
  of_blocks block.Update = refl
  of_blocks block.Delete = refl

  -- what has the label takes what the act does
  same_args : (b : Block) (label : ℕ) (at : Span) (args others : List Value) (one : Primitive) → primitive c (kind_of b) label others ≡ Some one → ◌≡◌ {A = Act Point} (reach at b (Some args) args) (Uses Server one) → others ≡ args
  same_args block.Query label at args others one is acts = cc
  same_args block.TableRead label at args others one is acts = cc
  same_args block.Insert label at args others one is acts = cc
  same_args block.Update label at args others one is acts = cc
  same_args block.Delete label at args others one is acts = cc

  same_callee : (b : Block) (label : ℕ) (args : List Value) (one : Primitive) → primitive c (kind_of b) label args ≡ Some one → callee_kind c (Some (kind_of b)) label args ≡ callee_of one
  same_callee block.Query label args one is = ap callee_of (same_some is)
  same_callee block.TableRead label args one is = ap callee_of (same_some is)
  same_callee block.Insert label args one is = ap callee_of (same_some is)
  same_callee block.Update label args one is = ap callee_of (same_some is)
  same_callee block.Delete label args one is = ap callee_of (same_some is)

  same_passed : (b : Block) (label : ℕ) (args : List Value) (one : Primitive) → primitive c (kind_of b) label args ≡ Some one → args ≡ args_of one
  same_passed block.Query label args one is = ap args_of (same_some is)
  same_passed block.TableRead label args one is = ap args_of (same_some is)
  same_passed block.Insert label args one is = ap args_of (same_some is)
  same_passed block.Update label args one is = ap args_of (same_some is)
  same_passed block.Delete label args one is = ap args_of (same_some is)

  by_block : (b : Block) (label : ℕ) (args : List Value) → ◌≡◌ {A = Loc → Evaluation} (λ place. does_kind c (Some (kind_of b)) label args place) (λ place. does_primitive c (primitive c (kind_of b) label args))
  by_block block.Query label args = refl
  by_block block.TableRead label args = refl
  by_block block.Insert label args = refl
  by_block block.Update label args = refl
  by_block block.Delete label args = refl

  module _ (n : ℕ) (form : Form) (b : Block) (label : ℕ) (kept : List Kept) (there : form_at c.forms n ≡ Some form) (is : form.kind ≡ kind.Reach b label kept) (args : List Value) where
    abbrev does_act : Act Point
    does_act = reach form.at b (Some args) args

    abbrev info : FunInfo
    info = (whole.sound.blocks n form b label kept there is).0

    info_is : fun_info c label ≡ Some info
    info_is = (whole.sound.blocks n form b label kept there is).1

    kind_is : info.kind ≡ kind_of b
    kind_is = (whole.sound.blocks n form b label kept there is).2

    blocks : is_block info.kind ≡ true
    blocks = ap is_block kind_is ∙ of_blocks b

    no_kept : info.env ≡ []
    no_kept = elim (whole.sound.keeps label info info_is) [ inl lambda ↦ absurd (not_lambda b (sym kind_is ∙ lambda)) | inr none ↦ none ]

    module _ (t : Ground) (reached : Reaches c label t does_act) where
      told : reached.info ≡ info
      told = same_some (sym reached.told ∙ info_is)

      others_do : primitive c (kind_of b) label reached.args ≡ Some reached.one
      others_do = ap (λ k. primitive c k label reached.args) (sym kind_is ∙ ap (λ (i : FunInfo). i.kind) (sym told)) ∙ reached.does

      same : reached.args ≡ args
      same = same_args b label form.at args reached.args reached.one others_do reached.acts

      does_one : primitive c (kind_of b) label args ≡ Some reached.one
      does_one = ap (primitive c (kind_of b) label) (sym same) ∙ others_do

      kind_so : kind_at c label ≡ Some (kind_of b)
      kind_so = kind_there c label info info_is ∙ ap Some kind_is

      label_does : ◌≡◌ {A = Loc → Evaluation} (does c label args) (λ place. used reached.one)
      label_does =
          ap (λ k place. does_kind c k label args place) kind_so
          ∙ by_block b label args
          ∙ ap (λ o place. does_primitive c o) does_one

      call_fits : FitEach (IsFun c) args (info.env ++ info.params)
      call_fits =
          subst (λ env. FitEach (IsFun c) args (env ++ info.params)) (sym no_kept)
          (subst (λ (i : FunInfo). FitEach (IsFun c) args i.params) told (subst (λ values. FitEach (IsFun c) values reached.info.params) same reached.fit))

      result_is : info.result ≡ t
      result_is = ap (λ (i : FunInfo). i.result) (sym told) ∙ reached.result

      pub reach_crosses : (place : Loc) → place ≡ Client → (r : Run) → performed c place does_act r ≡ crossing c place label args r
      reach_crosses place client r =
          ap (λ a. performed c place a r) reached.acts
          ∙ crossing_is c place Server label args (callee_of reached.one) (args_of reached.one) (λ place. used reached.one) (ap other (sym client))
          (ap (λ k. callee_kind c k label args) kind_so ∙ same_callee b label args reached.one does_one)
          (ap (λ n. drop n args) (kept_many c label info info_is ∙ ap length no_kept) ∙ same_passed b label args reached.one does_one)
          label_does r

      pub reach_asks : (place : Loc) → place ≡ Server → (r : Run) → performed c place does_act r ≡ does c label args Server r
      reach_asks place server r =
          ap (λ a. performed c place a r) reached.acts
          ∙ ap (λ p. performed c p (Uses Server reached.one) r) server
          ∙ ap (λ (body : Loc → Evaluation). body Server r) (sym label_does)

      pub reach_call : IsCall c label args t info
      reach_call = record { is = info_is; fit = call_fits; result = result_is }

      -- the same as of its own result's type
      pub reach_own : IsCall c label args info.result info
      reach_own = record { is = info_is; fit = call_fits; result = refl }

    -- ---- by place

    pub reach_with : (old : State) (t : Ground) → Reaches c label t does_act → old.place ≡ Client → old.printed ≡ None → Leads c old (performed c old.place does_act) (record old { now = now.Cross label args }) next.More
    reach_with old t reached client quiet = goes_next c old (now.Cross label args) (performed c old.place does_act) quiet (reach_crosses t reached old.place client)

    pub reach_well : (old : State) → old.place ≡ Client → IsReady old → Moves c (λ t. Reaches c label t does_act) old (record old { now = now.Cross label args }) next.More
    reach_well old client ready t u reached frames =
        let runs : info.place ≡ other old.place = whole.sound.servers label info info_is blocks ∙ ap other (sym client) in
        (((t, record { place = ready.0; next = (info, reach_call t reached, runs); frames = frames }, tt), λ _ returning. let wrong : now.Cross label args ≡ now.Give returning.0 = returning.2 in cc), refl)

    pub asks_with : (old : State) (t : Ground) → Reaches c label t does_act → old.place ≡ Server → Leads c old (performed c old.place does_act) (record old { now = now.Waits }) (next.Db label args)
    asks_with old t reached server = (
      server,
      takes_as (then_frames c old (performed c old.place does_act)) (λ r. and_then (does c label args Server r) (given c (record old { now = now.Waits })))
          (λ r. ap (λ out. and_then out (rest c (waiting c old.stack) old.place)) (reach_asks t reached old.place server r)),
    )

    pub asks_well : (old : State) → IsReady old → Moves c (λ t. Reaches c label t does_act) old (record old { now = now.Waits }) (next.Db label args)
    asks_well old ready t u reached frames =
        ((info, reach_own t reached, blocks, refl, record { place = ready.0; next = tt; frames = subst (λ s. AreFrames c old.place (waiting c old.stack) s u) (sym (result_is t reached)) frames }), refl)
