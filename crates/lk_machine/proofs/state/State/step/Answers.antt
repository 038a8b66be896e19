use Rattle.std.proofs.Common.{sym, subst}
use Rattle.std.proofs.lemmas.Result.{IfOk-weaker}
use Rattle.lk_fits.specs.Values.{Fits}
use Rattle.lk_code.specs.Values.{IsFun}
use Rattle.lk_machine.specs.Stepped.{Stepped}
use Rattle.lk_machine.specs.Typed.{AreTurnsOf, IsNextPlain, IsNodeOf, Leaves, MaySteps}
use Rattle.lk_machine.specs.declared.state.Now.TheVariants as now
use Rattle.lk_machine.proofs.Stepping.{asks_first, asks_well, crosses_as, crosses_so, enters_node, enters_plain, hands_value, leaves_well, may_move, node_entered, stays_there}
use Rattle.lk_machine.proofs.state.State.step.Goals as goal

pub go_on-requires-clause-typed : goal.go_on-requires-clause-typed
go_on-requires-clause-typed c =
    let same = c.tables-tables.ensures.same in
    let may = c.requires.typed in
    may_move c.tables-tables.result.now (λ t. IsNodeOf c.tables-tables.result.now c.args.self.now.place t (record { node = c.in-Enter.node; scope = c.in-Enter.scope; done = c.new-done.result })) c.args.self.now (now.Enter c.in-Enter.node c.in-Enter.scope) c.replace.new.dest (sym c.in-Enter.ensures.value) (node_entered c.tables-tables.result.now c.args.self.now.place c.in-Enter.node c.in-Enter.scope c.new-done.result c.new-done.ensures) may.0 (subst (λ t. MaySteps t c.args.self.now may.0) (sym same) may.1)

pub returns-in-Enter-clause-stepped : goal.returns-in-Enter-clause-stepped
returns-in-Enter-clause-stepped c =
    let same = c.tables-tables.ensures.same in
    IfOk-weaker c.go_on.result _ _ (λ answer leads. subst (λ t. Stepped t c.args.self.now c.go_on.new.self answer) same (enters_node c.tables-tables.result.now c.args.self.now c.go_on.new.self c.replace.new.dest c.in-Enter.node c.in-Enter.scope c.new-done.result (sym c.in-Enter.ensures.value) c.new-done.ensures answer leads)) c.go_on.ensures.leads

pub returns-in-Enter-clause-kept : goal.returns-in-Enter-clause-kept
returns-in-Enter-clause-kept c =
    let same = c.tables-tables.ensures.same in
    IfOk-weaker c.go_on.result _ _
    (λ answer moves u may. subst (λ t. Leaves t c.go_on.new.self u answer) same
    (leaves_well c.tables-tables.result.now (λ t. IsNodeOf c.tables-tables.result.now c.args.self.now.place t (record { node = c.in-Enter.node; scope = c.in-Enter.scope; done = c.new-done.result })) c.args.self.now c.go_on.new.self (now.Enter c.in-Enter.node c.in-Enter.scope) c.replace.new.dest (sym c.in-Enter.ensures.value) (node_entered c.tables-tables.result.now c.args.self.now.place c.in-Enter.node c.in-Enter.scope c.new-done.result c.new-done.ensures) answer moves u (subst (λ t. MaySteps t c.args.self.now u) (sym same) may)))
    c.go_on.ensures.kept

pub returns-in-Enter-clause-place : goal.returns-in-Enter-clause-place
returns-in-Enter-clause-place c =
    let same = c.tables-tables.ensures.same in
    let may = c.requires.typed in
    IfOk-weaker c.go_on.result _ _
    (λ answer moves. stays_there c.tables-tables.result.now (λ t. IsNodeOf c.tables-tables.result.now c.args.self.now.place t (record { node = c.in-Enter.node; scope = c.in-Enter.scope; done = c.new-done.result })) c.args.self.now c.go_on.new.self (now.Enter c.in-Enter.node c.in-Enter.scope) c.replace.new.dest (sym c.in-Enter.ensures.value) (node_entered c.tables-tables.result.now c.args.self.now.place c.in-Enter.node c.in-Enter.scope c.new-done.result c.new-done.ensures) answer moves may.0 (subst (λ t. MaySteps t c.args.self.now may.0) (sym same) may.1))
    c.go_on.ensures.kept

pub returns-in-Hold-clause-stepped : goal.returns-in-Hold-clause-stepped
returns-in-Hold-clause-stepped c =
    let same = c.tables-tables.ensures.same in
    IfOk-weaker c.enter_part.result _ _ (λ answer leads. subst (λ t. Stepped t c.args.self.now c.enter_part.new.self answer) same (enters_plain c.tables-tables.result.now c.args.self.now c.enter_part.new.self (now.Hold c.in-Hold.held) c.replace.new.dest (sym c.in-Hold.ensures.value) answer leads)) c.enter_part.ensures.leads

pub returns-in-Hold-clause-kept : goal.returns-in-Hold-clause-kept
returns-in-Hold-clause-kept c =
    let same = c.tables-tables.ensures.same in
    IfOk-weaker c.enter_part.result _ _
    (λ answer moves u may. subst (λ t. Leaves t c.enter_part.new.self u answer) same
    (leaves_well c.tables-tables.result.now (λ t. IsNodeOf c.tables-tables.result.now c.args.self.now.place t c.in-Hold.held × IsNextPlain c.tables-tables.result.now c.in-Hold.held) c.args.self.now c.enter_part.new.self (now.Hold c.in-Hold.held) c.replace.new.dest (sym c.in-Hold.ensures.value) (λ t is. is) answer moves u (subst (λ t. MaySteps t c.args.self.now u) (sym same) may)))
    c.enter_part.ensures.kept

pub returns-in-Hold-clause-place : goal.returns-in-Hold-clause-place
returns-in-Hold-clause-place c =
    let same = c.tables-tables.ensures.same in
    let may = c.requires.typed in
    IfOk-weaker c.enter_part.result _ _
    (λ answer moves. stays_there c.tables-tables.result.now (λ t. IsNodeOf c.tables-tables.result.now c.args.self.now.place t c.in-Hold.held × IsNextPlain c.tables-tables.result.now c.in-Hold.held) c.args.self.now c.enter_part.new.self (now.Hold c.in-Hold.held) c.replace.new.dest (sym c.in-Hold.ensures.value) (λ t is. is) answer moves may.0 (subst (λ t. MaySteps t c.args.self.now may.0) (sym same) may.1))
    c.enter_part.ensures.kept

pub returns-in-Turn-clause-stepped : goal.returns-in-Turn-clause-stepped
returns-in-Turn-clause-stepped c =
    let same = c.tables-tables.ensures.same in
    IfOk-weaker c.enter_plainly.result _ _ (λ answer leads. subst (λ t. Stepped t c.args.self.now c.enter_plainly.new.self answer) same (enters_plain c.tables-tables.result.now c.args.self.now c.enter_plainly.new.self (now.Turn c.in-Turn.turns) c.replace.new.dest (sym c.in-Turn.ensures.value) answer leads)) c.enter_plainly.ensures.leads

pub returns-in-Turn-clause-kept : goal.returns-in-Turn-clause-kept
returns-in-Turn-clause-kept c =
    let same = c.tables-tables.ensures.same in
    IfOk-weaker c.enter_plainly.result _ _
    (λ answer moves u may. subst (λ t. Leaves t c.enter_plainly.new.self u answer) same
    (leaves_well c.tables-tables.result.now (λ t. AreTurnsOf c.tables-tables.result.now t c.in-Turn.turns) c.args.self.now c.enter_plainly.new.self (now.Turn c.in-Turn.turns) c.replace.new.dest (sym c.in-Turn.ensures.value) (λ t is. is.0) answer moves u (subst (λ t. MaySteps t c.args.self.now u) (sym same) may)))
    c.enter_plainly.ensures.kept

pub returns-in-Turn-clause-place : goal.returns-in-Turn-clause-place
returns-in-Turn-clause-place c =
    let same = c.tables-tables.ensures.same in
    let may = c.requires.typed in
    IfOk-weaker c.enter_plainly.result _ _
    (λ answer moves. stays_there c.tables-tables.result.now (λ t. AreTurnsOf c.tables-tables.result.now t c.in-Turn.turns) c.args.self.now c.enter_plainly.new.self (now.Turn c.in-Turn.turns) c.replace.new.dest (sym c.in-Turn.ensures.value) (λ t is. is.0) answer moves may.0 (subst (λ t. MaySteps t c.args.self.now may.0) (sym same) may.1))
    c.enter_plainly.ensures.kept

pub returns-in-Give-clause-stepped : goal.returns-in-Give-clause-stepped
returns-in-Give-clause-stepped c =
    let same = c.tables-tables.ensures.same in
    let may = c.requires.typed in
    IfOk-weaker c.hand.result _ _ (λ answer leads. subst (λ t. Stepped t c.args.self.now c.hand.new.self answer) same (hands_value c.tables-tables.result.now c.args.self.now c.hand.new.self c.replace.new.dest c.in-Give.value (sym c.in-Give.ensures.value) may.0 (subst (λ t. MaySteps t c.args.self.now may.0) (sym same) may.1) answer leads)) c.hand.ensures.leads

pub returns-in-Give-clause-kept : goal.returns-in-Give-clause-kept
returns-in-Give-clause-kept c =
    let same = c.tables-tables.ensures.same in
    IfOk-weaker c.hand.result _ _
    (λ answer moves u may. subst (λ t. Leaves t c.hand.new.self u answer) same
    (leaves_well c.tables-tables.result.now (Fits (IsFun c.tables-tables.result.now) c.in-Give.value) c.args.self.now c.hand.new.self (now.Give c.in-Give.value) c.replace.new.dest (sym c.in-Give.ensures.value) (λ t is. is) answer moves u (subst (λ t. MaySteps t c.args.self.now u) (sym same) may)))
    c.hand.ensures.kept

pub returns-in-Give-clause-place : goal.returns-in-Give-clause-place
returns-in-Give-clause-place c =
    let same = c.tables-tables.ensures.same in
    let may = c.requires.typed in
    IfOk-weaker c.hand.result _ _
    (λ answer moves. stays_there c.tables-tables.result.now (Fits (IsFun c.tables-tables.result.now) c.in-Give.value) c.args.self.now c.hand.new.self (now.Give c.in-Give.value) c.replace.new.dest (sym c.in-Give.ensures.value) (λ t is. is) answer moves may.0 (subst (λ t. MaySteps t c.args.self.now may.0) (sym same) may.1))
    c.hand.ensures.kept

pub returns-in-Cross-clause-stepped : goal.returns-in-Cross-clause-stepped
returns-in-Cross-clause-stepped c =
    let same = c.tables-tables.ensures.same in
    IfOk-weaker c.cross.result _ _ (λ answer made. subst (λ t. Stepped t c.args.self.now c.cross.new.self answer) same (crosses_so c.tables-tables.result.now c.args.self.now c.cross.new.self c.replace.new.dest c.in-Cross.label c.in-Cross.args answer (sym c.in-Cross.ensures.value) made)) c.cross.ensures

pub returns-in-Cross-clause-kept : goal.returns-in-Cross-clause-kept
returns-in-Cross-clause-kept c =
    let same = c.tables-tables.ensures.same in
    IfOk-weaker c.cross.result _ _
    (λ answer made u may. subst (λ t. Leaves t c.cross.new.self u answer) same
    (crosses_as c.tables-tables.result.now c.args.self.now c.cross.new.self c.replace.new.dest c.in-Cross.label c.in-Cross.args answer (sym c.in-Cross.ensures.value) made u (subst (λ t. MaySteps t c.args.self.now u) (sym same) may)))
    c.cross.ensures

pub returns-in-First-clause-stepped : goal.returns-in-First-clause-stepped
returns-in-First-clause-stepped c =
    let may = c.requires.typed in
    asks_first c.args.c.now.tables c.args.self.now c.in-First.label c.in-First.args (sym c.in-First.ensures.value) may.0 may.1

pub returns-in-First-clause-kept : goal.returns-in-First-clause-kept
returns-in-First-clause-kept c = asks_well c.args.c.now.tables c.args.self.now c.in-First.label c.in-First.args (sym c.in-First.ensures.value)
