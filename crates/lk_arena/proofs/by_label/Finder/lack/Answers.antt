use Rattle.std.proofs.Common.{◌≡◌, sym, ◌∙◌, None, subst}
use Rattle.std.proofs.lemmas.List.{take_all}
use Rattle.lk_types.specs.Each.{Each}
use Rattle.lk_arena.proofs.Noted.{each_taken}
use Rattle.lk_arena.proofs.by_label.Finder.lack.Goals as goal
use Rattle.lk_arena.specs.Shapes.{found_at}
