use Rattle.std.proofs.lemmas.Result.{IfOk-weaker}
use Rattle.lk_unify.proofs.LoadShared.{makes_new}
use Rattle.lk_unify.proofs.shared.make_end.Goals as goal

pub returns : goal.returns
returns c =
    IfOk-weaker c.add_node.result _ _ (λ n. makes_new c.args.loader.now c.add_node.new.loader c.args.kind _ n c.requires) c.add_node.ensures
