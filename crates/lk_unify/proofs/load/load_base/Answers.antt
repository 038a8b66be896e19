use Rattle.std.proofs.Common.{length, refl, sym, subst}
use Rattle.std.specs.Prelude.{IfOk}
use Rattle.lk_arena.specs.Kinds.{OfTypes}
use Rattle.lk_arena.specs.Shapes.{AllBelow}
use Rattle.lk_arena.specs.declared.node.Shape.TheVariants.{Made}
use Rattle.lk_unify.proofs.load.load_base.Goals as goal
use Rattle.lk_unify.specs.Loading.{Makes}

pub make_node-requires : goal.make_node-requires
make_node-requires c = record {
  whole = c.requires;
  parts = subst (AllBelow (length c.args.loader.now.arena.shapes)) (sym c.new-parts.ensures) tt;
  distinct = tt;
  filled = tt;
  known = refl;
}

pub returns : goal.returns
returns c = subst (λ ps. IfOk c.make_node.result (Makes c.args.loader.now c.make_node.new.loader OfTypes (Made c.args.head ps))) c.new-parts.ensures c.make_node.ensures
