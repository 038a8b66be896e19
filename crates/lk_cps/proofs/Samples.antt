-- Continuations worked by hand: their order, and the type of what the one behind `print(s)` keeps.
use Rattle.std.proofs.Common.{inr, refl, List, [], ◌∷◌}
use Rattle.lk_ir.proofs.Samples.{conts, form, nest}
use Rattle.lk_ir.specs.Continuing.{conts_at}
use Rattle.lk_ir.specs.declared.nodes.Kind.TheVariants as kind
use Rattle.lk_ir.specs.declared.nodes.Op.TheVariants as op
use Rattle.lk_types.specs.declared.ground.Ground.{Ground}
use Rattle.lk_ir.specs.Orders.{CountFrom, all_orders}
use Rattle.lk_ir.specs.TypedUses.{AreTypedAt}
use Rattle.lk_ir.specs.TypedUses as uses

pub in_order : CountFrom 0 (all_orders conts)
in_order = (refl, (refl, (refl, tt)))

pub keeps_text : (types : List Ground) → AreTypedAt (nest types) (form 3 kind.Then (9 ∷ []) (11 ∷ [])) (9 ∷ []) (conts_at conts 8)
keeps_text types = ((inr (inr (uses.first_tail_as tt (uses.in_part_as (form 3 (kind.Op op.Concat) (12 ∷ 13 ∷ []) []) refl (uses.first_as (uses.itself_as (form 3 (kind.Name 2) [] []) refl uses.own_name))))), tt), tt)
