use Rattle.std.proofs.Common.{length, refl, sym, subst}
use Rattle.std.proofs.lemmas.Result.{IfOk-weaker}
use Rattle.std.specs.Prelude.{IfOk}
use Rattle.lk_arena.specs.Kinds.{OfNothing, OfUnit}
use Rattle.lk_arena.specs.Shapes.{AllBelow}
use Rattle.lk_arena.specs.declared.node.Head.TheVariants as head
use Rattle.lk_arena.specs.declared.node.Shape.TheVariants.{Made}
use Rattle.lk_unify.proofs.LoadRows.{loads_closed, loads_unit}
use Rattle.lk_unify.proofs.load.load_unit.Goals as goal
use Rattle.lk_unify.specs.Loading.{Makes}

pub make_node-requires : goal.make_node-requires
make_node-requires c = record { whole = c.requires; parts = tt; distinct = tt; filled = tt; known = refl }

pub make_node-requires-2 : goal.make_node-requires-2
make_node-requires-2 c = record {
  whole = c.in_ok-nothing.ensures.whole;
  parts = subst (AllBelow (length c.make_node.new.loader.arena.shapes)) (sym c.in_ok-parts.ensures) (c.in_ok-nothing.ensures.below, tt);
  distinct = tt;
  filled = tt;
  known = refl;
}

pub returns : goal.returns
returns c =
    IfOk-weaker c.make_node-2.result _ _
    (λ n. loads_unit c.args.loader.now c.make_node.new.loader c.make_node-2.new.loader c.in_ok-nothing.nothing n
    (loads_closed c.args.loader.now c.make_node.new.loader c.in_ok-nothing.nothing OfNothing (λ j. tt) c.requires c.in_ok-nothing.ensures))
    (subst (λ ps. IfOk c.make_node-2.result (Makes c.make_node.new.loader c.make_node-2.new.loader OfUnit (Made head.Fields ps))) c.in_ok-parts.ensures c.make_node-2.ensures)
