use Rattle.std.proofs.Common.{◌++◌, ◌∷◌, [], ◌∙◌, ap}
use Rattle.lk_arena.proofs.Adding.{adds}
use Rattle.lk_arena.proofs.arena.Arena.add_node.Goals as goal

pub returns : goal.returns
returns c =
    adds c.args.self.now.shapes c.args.self.now.classes c.args.shape _ _ _ c.requires.arena c.requires.parts c.requires.distinct c.requires.filled
    c.in_ok-number.ensures.shapes (c.in_ok-number.ensures.classes ∙ ap (λ m. c.args.self.now.classes ++ m ∷ []) c.requires.arena.named.count) c.in_ok-number.ensures.number
