use Rattle.std.proofs.lemmas.Result.{IfOk-weaker}
use Rattle.lk_unify.proofs.LoadShared.{makes_found, makes_new}
use Rattle.lk_unify.proofs.shared.make_node.Goals as goal

pub returns-then-not-is_kept : goal.returns-then-not-is_kept
returns-then-not-is_kept c =
    IfOk-weaker c.add_node.result _ _ (λ n. makes_new c.args.loader.now c.add_node.new.loader c.args.kind c.args.shape n c.requires) c.add_node.ensures

pub returns-in-Some : goal.returns-in-Some
returns-in-Some c = makes_found c.args.loader.now c.args.kind c.args.shape c.in-Some.node c.requires.whole c.in-Some.ensures
