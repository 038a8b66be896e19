-- The laws of outlines.
use Rattle.std.proofs.Common.{refl, [], ◌∷◌, zero-le}
use Rattle.lk_types.specs.Rows.{effects_of}
use Rattle.lk_outline.specs.Law.{OutlineLaw, LengthLaw}
use Rattle.lk_outline.specs.Outline.{body_context, body_outline}
use Rattle.lk_outline.proofs.Binders.{below_names}
use Rattle.lk_outline.proofs.Lengths.{length_of}
use Rattle.lk_outline.proofs.Stretches.{whole}
use Rattle.lk_outline.proofs.TypedSites.{nodes_are}

pub outline_law : OutlineLaw
outline_law functions tables params words effects body t inside named_same d =
    nodes_are (effects_of effects) (t ∷ inside) (body_outline words body) d (body_context words) 0 (whole (t ∷ inside)) (whole (body_outline words body)) refl
    (below_names words 0 0 [] zero-le (λ x. zero-le))

pub length_law : LengthLaw
length_law functions tables params words effects body t inside d = length_of d (body_context words) 0
