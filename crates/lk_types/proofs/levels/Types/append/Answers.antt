use Rattle.std.proofs.Common.{◌++◌, ap, length, refl, ◌∙◌}
use Rattle.lk_types.proofs.Shifted.{grown_table, whole_table, whole_types}
use Rattle.lk_types.specs.Levels.{types_at}
use Rattle.lk_types.proofs.levels.Types.append.Goals as goal

pub invariant_of-self-in_err-append-2 : goal.invariant_of-self-in_err-append-2
invariant_of-self-in_err-append-2 c = grown_table _ _ _ _ _ _ _ _ c.self.invariant c.other.invariant (c.in_ok-by.ensures ∙ ap length c.as_slice.ensures.value) c.in_ok-levels.ensures refl c.in_ok-append.ensures.items _ c.in_err-append-2.ensures.items

pub invariant_of-self-2 : goal.invariant_of-self-2
invariant_of-self-2 c = whole_table _ _ _ _ _ _ _ _ c.self.invariant c.other.invariant (c.in_ok-by.ensures ∙ ap length c.as_slice.ensures.value) c.in_ok-levels.ensures refl c.in_ok-append.ensures.items _ _ _ c.in_ok-roots.ensures c.as_slice-2.ensures.value c.in_ok-append-2.ensures.items

pub returns : goal.returns
returns c =
    whole_types _ _ _ _ _ _ _ _ c.self.invariant c.other.invariant (c.in_ok-by.ensures ∙ ap length c.as_slice.ensures.value) c.in_ok-levels.ensures refl c.in_ok-append.ensures.items _ _ _ c.in_ok-roots.ensures c.as_slice-2.ensures.value c.in_ok-append-2.ensures.items
    ∙ ap (λ ts. ts ++ types_at c.other.inside.levels.items c.other.inside.roots.items) c.self.view_is
    ∙ ap (λ ts. c.args.self.now ++ ts) c.other.view_is
