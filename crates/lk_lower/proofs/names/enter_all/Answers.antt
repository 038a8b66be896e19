use Rattle.std.proofs.Common.{ap, ◌∙◌, ◌++◌}
use Rattle.lk_ast.specs.Layers.{layer}
use Rattle.lk_ast.specs.declared.expression.Node.{out-Node}
use Rattle.lk_lower.proofs.Counting.{some_entered}
use Rattle.lk_lower.proofs.names.enter_all.Goals as goal
use Rattle.lk_lower.specs.Children.{inside}
use Rattle.lk_lower.specs.Walked.{shown}

pub returns : goal.returns
returns c =
    some_entered (shown c.args.waiting.now) (shown c.gather_inside.new.found) (inside (layer c.args.e.now))
    (c.in_ok-gather_inside.ensures ∙ ap (λ n. shown c.args.waiting.now ++ inside (out-Node n)) c.get.ensures)
