use Rattle.std.proofs.Common.{sym, ap, subst, ◌∙◌}
use Rattle.std.proofs.lemmas.Result.{IfOk-weaker}
use Rattle.lk_ast.specs.Layers.{Layer}
use Rattle.lk_ast.specs.declared.expression.Node.{out-Node}
use Rattle.lk_ast.specs.declared.expression.Node.TheVariants as node
use Rattle.lk_lower.proofs.Shaping.{delete_shaped, update_shaped}
use Rattle.lk_lower.proofs.kinds.looked_up.Goals as goal
use Rattle.lk_lower.specs.Steps.{IsShaped}
use Rattle.lk_lower.specs.Walked.{state_of}

pub returns-in-Name : goal.returns-in-Name
returns-in-Name c =
    IfOk-weaker c.local.result _ _
    (λ k is. subst (λ (l : Layer). IsShaped c.args.at.now.owner c.args.place.number c.args.place.ty l (state_of c.args.walk.now) k (state_of c.local.new.walk)) (sym (ap out-Node c.in-Name.is ∙ node.outs-Name c.in-Name.name)) (is c.args.at.now.owner c.args.place.number c.args.place.ty))
    c.local.ensures

pub returns-in-Function : goal.returns-in-Function
returns-in-Function c =
    IfOk-weaker c.function.result _ _
    (λ k is. subst (λ (l : Layer). IsShaped c.args.at.now.owner c.args.place.number c.args.place.ty l (state_of c.args.walk.now) k (state_of c.function.new.walk)) (sym (ap out-Node c.in-Function.is ∙ node.outs-Function c.in-Function.field-0)) (is c.in-Function.field-0 c.args.at.now.owner c.args.place.number c.args.place.ty))
    c.function.ensures

pub returns-in-Call : goal.returns-in-Call
returns-in-Call c =
    IfOk-weaker c.call.result _ _
    (λ k is. subst (λ (l : Layer). IsShaped c.args.at.now.owner c.args.place.number c.args.place.ty l (state_of c.args.walk.now) k (state_of c.call.new.walk)) (sym (ap out-Node c.in-Call.is ∙ node.outs-Call c.in-Call.field-0 c.in-Call.field-1)) (is c.in-Call.field-0 c.in-Call.field-1 c.args.at.now.owner c.args.place.number c.args.place.ty))
    c.call.ensures

pub returns-in-Var : goal.returns-in-Var
returns-in-Var c =
    IfOk-weaker c.bind.result _ _
    (λ k is. subst (λ (l : Layer). IsShaped c.args.at.now.owner c.args.place.number c.args.place.ty l (state_of c.args.walk.now) k (state_of c.bind.new.walk)) (sym (ap out-Node c.in-Var.is ∙ node.outs-Var c.in-Var.name c.in-Var.field-1 c.in-Var.field-2)) (is c.in-Var.field-1 c.in-Var.field-2 c.args.at.now.owner c.args.place.number c.args.place.ty))
    c.bind.ensures

pub returns-in-ForList : goal.returns-in-ForList
returns-in-ForList c =
    IfOk-weaker c.list_loop.result _ _
    (λ k is. subst (λ (l : Layer). IsShaped c.args.at.now.owner c.args.place.number c.args.place.ty l (state_of c.args.walk.now) k (state_of c.list_loop.new.walk)) (sym (ap out-Node c.in-ForList.is ∙ node.outs-ForList c.in-ForList.name c.in-ForList.field-1 c.in-ForList.field-2)) (is c.in-ForList.field-1 c.in-ForList.field-2 c.args.at.now.owner c.args.place.number c.args.place.ty))
    c.list_loop.ensures

pub returns-in-ForTable : goal.returns-in-ForTable
returns-in-ForTable c =
    IfOk-weaker c.table_loop.result _ _
    (λ k is. subst (λ (l : Layer). IsShaped c.args.at.now.owner c.args.place.number c.args.place.ty l (state_of c.args.walk.now) k (state_of c.table_loop.new.walk)) (sym (ap out-Node c.in-ForTable.is ∙ node.outs-ForTable c.in-ForTable.name c.in-ForTable.field-1 c.in-ForTable.field-2)) (is c.in-ForTable.field-1 c.in-ForTable.field-2 c.args.at.now.owner c.args.place.number c.args.place.ty))
    c.table_loop.ensures

pub returns-in-Switch : goal.returns-in-Switch
returns-in-Switch c =
    IfOk-weaker c.switch.result _ _
    (λ k is. subst (λ (l : Layer). IsShaped c.args.at.now.owner c.args.place.number c.args.place.ty l (state_of c.args.walk.now) k (state_of c.switch.new.walk)) (sym (ap out-Node c.in-Switch.is ∙ node.outs-Switch c.in-Switch.field-0 c.in-Switch.cases c.in-Switch.last)) (is c.in-Switch.field-0 c.args.at.now.owner c.args.place.number c.args.place.ty))
    c.switch.ensures

pub returns-in-Table : goal.returns-in-Table
returns-in-Table c =
    IfOk-weaker c.read.result _ _
    (λ k is. subst (λ (l : Layer). IsShaped c.args.at.now.owner c.args.place.number c.args.place.ty l (state_of c.args.walk.now) k (state_of c.read.new.walk)) (sym (ap out-Node c.in-Table.is ∙ node.outs-Table c.in-Table.field-0)) (is c.in-Table.field-0))
    c.read.ensures

pub returns-in-Insert : goal.returns-in-Insert
returns-in-Insert c =
    IfOk-weaker c.insert.result _ _
    (λ k is. subst (λ (l : Layer). IsShaped c.args.at.now.owner c.args.place.number c.args.place.ty l (state_of c.args.walk.now) k (state_of c.insert.new.walk)) (sym (ap out-Node c.in-Insert.is ∙ node.outs-Insert c.in-Insert.table c.in-Insert.field-1)) (is c.in-Insert.field-1))
    c.insert.ensures

pub returns-in-Query : goal.returns-in-Query
returns-in-Query c =
    IfOk-weaker c.query.result _ _
    (λ k is. subst (λ (l : Layer). IsShaped c.args.at.now.owner c.args.place.number c.args.place.ty l (state_of c.args.walk.now) k (state_of c.query.new.walk)) (sym (ap out-Node c.in-Query.is ∙ node.outs-Query c.in-Query.field-0 c.in-Query.body)) (is c.in-Query.field-0))
    c.query.ensures

pub returns-in-Update : goal.returns-in-Update
returns-in-Update c =
    IfOk-weaker c.change.result _ _
    (λ k is. subst (λ (l : Layer). IsShaped c.args.at.now.owner c.args.place.number c.args.place.ty l (state_of c.args.walk.now) k (state_of c.change.new.walk)) (sym (ap out-Node c.in-Update.is ∙ node.outs-Update c.in-Update.rows)) (update_shaped c.args.at.now.owner c.args.place.number c.args.place.ty c.in-Update.rows (state_of c.args.walk.now) (state_of c.change.new.walk) k is))
    c.change.ensures

pub returns-in-Delete : goal.returns-in-Delete
returns-in-Delete c =
    IfOk-weaker c.change-in-Delete.result _ _
    (λ k is. subst (λ (l : Layer). IsShaped c.args.at.now.owner c.args.place.number c.args.place.ty l (state_of c.args.walk.now) k (state_of c.change-in-Delete.new.walk)) (sym (ap out-Node c.in-Delete.is ∙ node.outs-Delete c.in-Delete.rows)) (delete_shaped c.args.at.now.owner c.args.place.number c.args.place.ty c.in-Delete.rows (state_of c.args.walk.now) (state_of c.change-in-Delete.new.walk) k is))
    c.change-in-Delete.ensures
