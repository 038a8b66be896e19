use Rattle.std.proofs.lemmas.Result.{on_ok_weaker}
use Rattle.lk_cli.proofs.LoadedTables.{told_loaded}
use Rattle.lk_cli.proofs.load.load.Goals as goal

pub returns-in-Ok-clause-loaded : goal.returns-in-Ok-clause-loaded
returns-in-Ok-clause-loaded g c =
    on_ok_weaker c.commit.result (λ same. told_loaded c.args.defs.now c.args.loaded c.requires.fit c.requires.apart _ _ _ _ c.in_ok-begin.ensures.1.1.0 c.in-Ok.ensures.put same) c.commit.ensures.ok
