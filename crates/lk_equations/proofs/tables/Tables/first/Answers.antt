use Rattle.std.proofs.Common.{◌∙◌, ap, bytes_eq}
use Rattle.std.specs.Option.{option_map}
use Rattle.std.specs.Prelude.{find}
use Rattle.lk_equations.proofs.Tabling.{first_named}
use Rattle.lk_equations.proofs.tables.Tables.first.Goals as goal

pub returns-in-Some : goal.returns-in-Some
returns-in-Some c =
    ap (option_map (λ t. t.now)) c.in-Some.ensures
    ∙ first_named c.args.name.now c.self.inside.tables c.self.invariant
    ∙ ap (find (λ table. bytes_eq table.name.text c.args.name.now)) c.self.view_is

pub returns-in-None : goal.returns-in-None
returns-in-None c =
    ap (option_map (λ t. t.now)) c.in-None.ensures
    ∙ first_named c.args.name.now c.self.inside.tables c.self.invariant
    ∙ ap (find (λ table. bytes_eq table.name.text c.args.name.now)) c.self.view_is
