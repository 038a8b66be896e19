-- A step by what it begins with.
use Rattle.std.proofs.Common.{◌≡◌, inl, inr, refl, sym, ap, subst, ◌∙◌, ℕ, List, [], Some, None}
use Rattle.lk_ast.specs.declared.place.Loc.{Loc}
use Rattle.lk_ast.specs.declared.place.Loc.TheVariants.{Server}
use Rattle.lk_ast.specs.declared.value.Value.{Value}
use Rattle.lk_code.specs.Acting.{FitNames}
use Rattle.lk_code.specs.Meaning.{does, language, rest}
use Rattle.lk_code.specs.Parts as typed
use Rattle.lk_code.specs.Parts.{Context, IsTyped}
use Rattle.lk_code.specs.Sound.{told_by}
use Rattle.lk_code.specs.Values.{IsFun}
use Rattle.lk_code.specs.declared.tables.CodeTables.{CodeTables}
use Rattle.lk_evaluation.specs.Evaluation.{eval}
use Rattle.lk_evaluation.specs.Run.{and_then}
use Rattle.lk_fits.specs.Values.{none_left}
use Rattle.lk_ir.specs.Environments.{Env}
use Rattle.lk_ir.specs.LetNormal.{under}
use Rattle.lk_ir.specs.Tables.{form_at}
use Rattle.lk_ir.specs.Uses as used
use Rattle.lk_ir.specs.Uses.{UsedBehind}
use Rattle.lk_ir.specs.declared.nodes.Form.{Form}
use Rattle.lk_moves.proofs.Courses.{takes_as}
use Rattle.lk_moves.proofs.Framed.{enters}
use Rattle.lk_moves.specs.Courses.{nothing}
use Rattle.lk_moves.specs.Frames.{resumed}
use Rattle.lk_types.specs.declared.ground.Ground.{Ground}
use Rattle.lk_machine.proofs.Taking.{entered, handed}
use Rattle.lk_machine.specs.Going.{doing, given, here, waiting}
use Rattle.lk_machine.specs.Moves.{EntersTo, HandsTo, Leads, MayMove, Moves}
use Rattle.lk_machine.specs.Stepped.{Stepped}
use Rattle.lk_machine.specs.Typed.{AreFrames, IsHere, IsNodeOf, IsNow, Leaves, MaySteps}
use Rattle.lk_machine.specs.declared.state.Next.{Next}
use Rattle.lk_machine.specs.declared.state.Next.TheVariants as next
use Rattle.lk_machine.specs.declared.state.Now.{Now}
use Rattle.lk_machine.specs.declared.state.Now.TheVariants as now
use Rattle.lk_machine.specs.declared.state.State.{State}

-- a machine at the beginning of a step: what comes next is taken out
abbrev pub at_step : State → Now → State
at_step m n = record m { now = n; printed = None }

module _ (c : CodeTables) where
  -- ---- by types

  -- What comes next in a machine that may step is of a type that its frames wait for,
  pub may_move : (IsOfType : Ground → Type 0) (old : State) (n left : Now) → old.now ≡ n → ((t : Ground) → IsNow c old.place n t → IsOfType t) → (u : Ground) → MaySteps c old u → MayMove c IsOfType (at_step old left)
  may_move IsOfType old n left is of u may = (may.0, u, of may.0 (subst (λ m. IsNow c old.place m may.0) is may.1.next), may.1.frames, (may.1.place, refl))

  -- so it is left well.
  pub leaves_well : (IsOfType : Ground → Type 0) (old new : State) (n left : Now) → old.now ≡ n → ((t : Ground) → IsNow c old.place n t → IsOfType t) → (answer : Next) → Moves c IsOfType (at_step old left) new answer
      → (u : Ground) → MaySteps c old u → Leaves c new u answer
  leaves_well IsOfType old new n left is of answer moves u may = (moves may.0 u (of may.0 (subst (λ m. IsNow c old.place m may.0) is may.1.next)) may.1.frames).0

  pub stays_there : (IsOfType : Ground → Type 0) (old new : State) (n left : Now) → old.now ≡ n → ((t : Ground) → IsNow c old.place n t → IsOfType t) → (answer : Next) → Moves c IsOfType (at_step old left) new answer
      → (u : Ground) → MaySteps c old u → new.place ≡ old.place
  stays_there IsOfType old new n left is of answer moves u may = (moves may.0 u (of may.0 (subst (λ m. IsNow c old.place m may.0) is may.1.next)) may.1.frames).1

  -- ---- a node

  uses_of : (form : Form) (n x : ℕ) → form_at c.forms n ≡ Some form → UsedBehind c.forms form form.parts x → used.Uses c.forms x n
  uses_of form n x there (inl uses) = used.in_part form there uses
  uses_of form n x there (inr (inl needs)) = used.itself form there needs
  uses_of form n x there (inr (inr uses)) = used.in_tail form there uses

  by_node : (place : Loc) (n : ℕ) (scope : Env) (t : Ground) (context : Context) → IsTyped c.forms (told_by c) context n t → FitNames (IsFun c) (λ x. used.Uses c.forms x n) context scope → IsHere c place n
      → IsNodeOf c place t (record { node = n; scope = scope; done = [] })
  by_node place n scope t context (typed.node form ts asked there type rule parts tails) names here = record {
    here = here;
    form = form;
    there = there;
    context = context;
    typed = typed.node form ts asked there type rule parts tails;
    names = λ x uses. names x (uses_of form n x there uses);
    held = [];
    types = refl;
    fit = none_left;
    steady = tt;
  }

  -- a node that is entered, with no value yet
  pub node_entered : (place : Loc) (n : ℕ) (scope : Env) (done : List Value) → done ≡ [] → (t : Ground) → IsNow c place (now.Enter n scope) t → IsNodeOf c place t (record { node = n; scope = scope; done = done })
  node_entered place n scope done none t is =
      subst (λ values. IsNodeOf c place t (record { node = n; scope = scope; done = values })) (sym none) (by_node place n scope t is.0.context is.0.typed is.0.names is.1)

  pub enters_node : (old new : State) (left : Now) (n : ℕ) (scope : Env) (done : List Value) → old.now ≡ now.Enter n scope → done ≡ [] → (answer : Next)
      → Leads c (at_step old left) (resumed (language c) (under scope n) done old.place) new answer → Stepped c old new answer
  enters_node old new left n scope done is none answer leads =
      entered c old (at_step old left) new (eval (language c) (under scope n) old.place) refl
      (λ r. ap (λ m. and_then (here c old.place m r) (rest c (waiting c old.stack) old.place)) is) answer (
        resumed (language c) (under scope n) [] old.place,
        enters (language c) (under scope n) old.place,
        subst (λ values. Leads c (at_step old left) (resumed (language c) (under scope n) values old.place) new answer) none leads,
      )

  -- ---- a plain position or body

  pub enters_plain : (old new : State) (n left : Now) → old.now ≡ n → (answer : Next) → EntersTo c (at_step old left) (here c old.place n) new answer → Stepped c old new answer
  enters_plain old new n left is answer enters =
      entered c old (at_step old left) new (here c old.place n) refl (λ r. ap (λ m. and_then (here c old.place m r) (rest c (waiting c old.stack) old.place)) is) answer enters

  -- ---- a value

  pub hands_value : (old new : State) (left : Now) (v : Value) → old.now ≡ now.Give v → (u : Ground) → MaySteps c old u → (answer : Next) → HandsTo c (at_step old left) v new answer → Stepped c old new answer
  hands_value old new left v is u may answer hands = handed c old (at_step old left) new v may.0 u is refl refl may.1.frames answer hands

  -- ---- a call across

  abbrev pub crossed : State → Now → State
  crossed old left = record old { now = left; printed = None; stack = waiting c old.stack }

  pub crosses_over : (old : State) (left : Now) (label : ℕ) (args : List Value) → old.now ≡ now.Cross label args → Stepped c old (crossed old left) (next.CallOut label args)
  crosses_over old left label args is r = ap (λ m. and_then (here c old.place m r) (rest c (waiting c old.stack) old.place)) is

  pub crosses_well : (old : State) (left : Now) (label : ℕ) (args : List Value) → old.now ≡ now.Cross label args → (u : Ground) → MaySteps c old u → Leaves c (crossed old left) u (next.CallOut label args)
  crosses_well old left label args is u may =
      let call = subst (λ m. IsNow c old.place m may.0) is may.1.next in
      (call.0, record { is = call.1.is; fit = call.1.fit; result = refl }, call.2, subst (λ t. AreFrames c old.place (waiting c old.stack) t u) (sym call.1.result) may.1.frames)

  pub crosses_as : (old new : State) (left : Now) (label : ℕ) (args : List Value) (answer : Next) → old.now ≡ now.Cross label args → (answer ≡ next.CallOut label args) × (new ≡ crossed old left) → (u : Ground) → MaySteps c old u → Leaves c new u answer
  crosses_as old new left label args answer is made u may =
      subst (λ a. Leaves c new u a) (sym made.0) (subst (λ m. Leaves c m u (next.CallOut label args)) (sym made.1) (crosses_well old left label args is u may))

  pub crosses_so : (old new : State) (left : Now) (label : ℕ) (args : List Value) (answer : Next) → old.now ≡ now.Cross label args → (answer ≡ next.CallOut label args) × (new ≡ crossed old left) → Stepped c old new answer
  crosses_so old new left label args answer is made = subst (λ a. Stepped c old new a) (sym made.0) (subst (λ m. Stepped c old m (next.CallOut label args)) (sym made.1) (crosses_over old left label args is))

  -- ---- what reads or changes tables, and was started

  pub asks_first : (old : State) (label : ℕ) (args : List Value) → old.now ≡ now.First label args → (u : Ground) → MaySteps c old u → Stepped c old (at_step old now.Waits) (next.Db label args)
  asks_first old label args is u may =
      let asked = subst (λ m. IsNow c old.place m may.0) is may.1.next in (
        asked.3,
        (
          nothing,
          inl ((label, args, is), refl),
          takes_as (doing c old) (λ r. and_then (does c label args Server r) (given c (at_step old now.Waits)))
              (λ r. ap (λ m. and_then (here c old.place m r) (rest c (waiting c old.stack) old.place)) is ∙ ap (λ p. and_then (does c label args p r) (rest c (waiting c old.stack) old.place)) asked.3),
        ),
      )

  pub asks_well : (old : State) (label : ℕ) (args : List Value) → old.now ≡ now.First label args → (u : Ground) → MaySteps c old u → Leaves c (at_step old now.Waits) u (next.Db label args)
  asks_well old label args is u may =
      let asked = subst (λ m. IsNow c old.place m may.0) is may.1.next in (
        asked.0,
        record { is = asked.1.is; fit = asked.1.fit; result = refl },
        asked.2,
        refl,
        record { place = may.1.place; next = tt; frames = subst (λ t. AreFrames c old.place (waiting c old.stack) t u) (sym asked.1.result) may.1.frames },
      )
  -- ---- no step
