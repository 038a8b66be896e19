use Rattle.std.proofs.Common.{◌≡◌, ◌∙◌, ap, sym}
use Rattle.lk_ast.specs.Layers.{layer}
use Rattle.lk_ast.specs.declared.expression.Node.{out-Node}
use Rattle.lk_ast.specs.declared.expression.Node.TheOpen.{Node-F}
use Rattle.lk_ast.specs.declared.expression.Node.TheVariants.{outs-Insert, outs-Update, outs-Delete}
use Rattle.lk_sem.proofs.Changing.{is_deletion, is_insertion, is_update}
use Rattle.lk_sem.proofs.writes.write_open.Goals as goal

pub insert_rows-requires-clause-insertion : goal.insert_rows-requires-clause-insertion
insert_rows-requires-clause-insertion g c =
    let is : layer c.in-Some.block.now ≡ Node-F.Insert c.in-Insert.table c.in-Insert.field-1 = ap out-Node (sym c.get.ensures ∙ c.in-Insert.is) ∙ outs-Insert c.in-Insert.table c.in-Insert.field-1 in
    is_insertion c.args.catalog.now c.args.site c.args.args.now c.in-Some.block.now c.in-Insert.table c.in-Insert.field-1 (sym c.in-Some.ensures) is c.requires.writing

pub update_rows-requires-clause-update : goal.update_rows-requires-clause-update
update_rows-requires-clause-update g c =
    let is : layer c.in-Some.block.now ≡ Node-F.Update c.in-Update.change = ap out-Node (sym c.get.ensures ∙ c.in-Update.is) ∙ outs-Update c.in-Update.change in
    is_update c.args.catalog.now c.args.site c.args.args.now c.in-Some.block.now c.in-Update.change (sym c.in-Some.ensures) is c.requires.writing

pub delete_rows-requires-clause-deletion : goal.delete_rows-requires-clause-deletion
delete_rows-requires-clause-deletion g c =
    let is : layer c.in-Some.block.now ≡ Node-F.Delete c.in-Delete.change = ap out-Node (sym c.get.ensures ∙ c.in-Delete.is) ∙ outs-Delete c.in-Delete.change in
    is_deletion c.args.catalog.now c.args.site c.args.args.now c.in-Some.block.now c.in-Delete.change (sym c.in-Some.ensures) is c.requires.writing
