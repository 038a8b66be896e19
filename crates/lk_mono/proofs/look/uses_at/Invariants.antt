use Rattle.std.proofs.Common.{◌≡◌, List, ◌++◌, drop}
use Rattle.lk_outline.specs.Shown.{shown}
use Rattle.lk_types.specs.declared.ground.Ground.{Ground}
use Rattle.lk_mono.proofs.NumbersGrown.{Grows}
use Rattle.lk_mono.specs.Looks.{AreNumbered, IsSetting, as_uses, found_in}
use Rattle.lk_mono.proofs.look.uses_at.Given as goal

abbrev pub invariant-loop-site : goal.invariant-loop-site
invariant-loop-site l = ((ts : List Ground) → IsSetting l.initial.grounds l.setting ts
    → as_uses l.uses ++ found_in l.setting.own.now ts (shown (drop l.site-index l.sites)) ≡ found_in l.setting.own.now ts (shown l.sites))
    × AreNumbered l.grounds l.uses × Grows l.initial.grounds l.grounds
