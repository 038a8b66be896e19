use Rattle.std.proofs.Common.{subst, sym}
use Rattle.lk_arena.proofs.Relabel.{IsRelabeled, renamed_each}
use Rattle.lk_arena.proofs.Uniting.{unites}
use Rattle.lk_arena.proofs.merge.unite.Goals as goal
use Rattle.lk_arena.specs.Steps.{AreApart}

pub relabel-requires : goal.relabel-requires
relabel-requires c = subst (λ n. AreApart n c.args.arena.now.classes c.args.from c.args.to) (sym c.requires.arena.named.count) c.requires.apart

pub returns : goal.returns
returns c =
    let r : IsRelabeled c.args.arena.now.classes c.relabel.new.self.classes c.args.from c.args.to =
    subst (λ names. IsRelabeled c.args.arena.now.classes names c.args.from c.args.to) (sym c.relabel.ensures.classes) (renamed_each c.args.arena.now.classes c.args.from c.args.to) in
    unites c.args.arena.now.shapes c.args.arena.now.classes _ _ c.args.from c.args.to c.requires.arena c.requires.apart c.relabel.ensures.shapes r
