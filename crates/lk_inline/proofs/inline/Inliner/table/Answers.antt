use Rattle.std.proofs.Common.{ap, ◌∙◌}
use Rattle.std.specs.BTreeMap.{get_by_text}
use Rattle.lk_ground.specs.declared.program.GroundProgram.{GroundProgram}
use Rattle.lk_sound.specs.Tables.{table_at}
use Rattle.lk_inline.proofs.inline.Inliner.table.Goals as goal

pub returns : goal.returns
returns c =
    c.get.ensures.value
    ∙ ap (get_by_text c.self.inside.tables) c.as_str.ensures
    ∙ c.self.invariant.1 c.args.name.now
    ∙ ap (λ (g : GroundProgram). table_at g.program.now c.args.name.now) c.self.view_is
