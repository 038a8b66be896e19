use Rattle.lk_arena.proofs.Binding.{binds}
use Rattle.lk_arena.proofs.joining.bind.Goals as goal

pub returns : goal.returns
returns c = binds c.args.arena.now.shapes _ c.args.arena.now.classes _ c.args.node c.args.fields c.args.tail c.requires.arena c.requires.can c.put_shape.ensures.shapes c.put_shape.ensures.classes
