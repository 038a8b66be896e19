use Rattle.std.proofs.Common.{◌≡◌, ◌<◌, length, refl, sym, arith}
use Rattle.std.proofs.lemmas.List.{get_or_read}
use Rattle.std.specs.Prelude.{slice_index_or as get_or}
use Rattle.lk_arena.proofs.Looks.{node_below, search_done, search_more, less_done, less_same, less_more}
use Rattle.lk_arena.proofs.depth.go_down.Goals as goal
use Rattle.lk_classes.specs.Classes.{class_at}
use Rattle.lk_arena.specs.declared.node.Shape.TheVariants.{Free}

pub name_of-class-requires : goal.name_of-class-requires
name_of-class-requires c =
    let b = node_below (length c.args.shapes.now) c.down.search.looks.items c.pop.new.self.items c.down.search.done.items c.down.search.path.items c.in-Some.node
    c.in-Some.ensures.items c.down.invariant in
    let shape = get_or_read c.args.shapes.now c.in-Some.node c.index-shapes-node.result b c.index-shapes-node.is Free in
    rw c.requires.classes.count
    (c.in-Some-part_at.ensures.part (length c.args.shapes.now) (rw (sym shape) at (c.requires.nodes c.in-Some.node b)))

pub index-requires : goal.index-requires
index-requires c =
    let b = node_below (length c.args.shapes.now) c.down.search.looks.items c.pop.new.self.items c.down.search.done.items c.down.search.path.items c.in-Some.node
    c.in-Some.ensures.items c.down.invariant in
    let shape = get_or_read c.args.shapes.now c.in-Some.node c.index-shapes-node.result b c.index-shapes-node.is Free in
    let part = c.in-Some-part_at.ensures.part (length c.args.shapes.now) (rw (sym shape) at (c.requires.nodes c.in-Some.node b)) in
    let l : class_at c.args.classes.now c.in-Some-part_at.part < length c.args.shapes.now = c.requires.classes.below c.in-Some-part_at.part part in
    let name = c.name_of-class.ensures.name in
    let count = c.down.invariant.count in
    let len = c.down.search.looks.ok.0 in
    omega arith

pub down-preserved-in-Continue-branch-2 : goal.down-preserved-in-Continue-branch-2
down-preserved-in-Continue-branch-2 c =
    let b = node_below (length c.args.shapes.now) c.down.search.looks.items c.pop.new.self.items c.down.search.done.items c.down.search.path.items c.in-Some.node
    c.in-Some.ensures.items c.down.invariant in
    let shape = get_or_read c.args.shapes.now c.in-Some.node c.index-shapes-node.result b c.index-shapes-node.is Free in
    let part = c.in-Some-part_at.ensures.part (length c.args.shapes.now) (rw (sym shape) at (c.requires.nodes c.in-Some.node b)) in
    rw (c.in_ok-push-in-Some-part_at-2.ensures.items, c.in_ok-push-in-Some-part_at.ensures.items, c.name_of-class.ensures.name)
    (search_more (length c.args.shapes.now) c.down.search.looks.items c.pop.new.self.items c.down.search.done.items c.down.search.path.items c.in-Some.node
    c.in-Some.ensures.items c.down.invariant c.saturating_add.result _ (c.requires.classes.below c.in-Some-part_at.part part))

pub down-preserved : goal.down-preserved
down-preserved c =
    rw c.in_ok-push-in-None.ensures.items
    (search_done (length c.args.shapes.now) c.down.search.looks.items c.pop.new.self.items c.down.search.done.items c.down.search.path.items c.in-Some.node
    c.in-Some.ensures.items c.down.invariant c.saturating_add.result)

pub down-smaller-in-Continue-branch-2 : goal.down-smaller-in-Continue-branch-2
down-smaller-in-Continue-branch-2 c =
    let n = length c.args.shapes.now in
    let looks = c.down.search.looks.items in
    let b = node_below n looks c.pop.new.self.items c.down.search.done.items c.down.search.path.items c.in-Some.node c.in-Some.ensures.items c.down.invariant in
    let shape = get_or_read c.args.shapes.now c.in-Some.node c.index-shapes-node.result b c.index-shapes-node.is Free in
    let seen : c.index-looks.result.now ≡ get_or looks c.in-Some.node 0 =
    get_or_read looks c.in-Some.node c.index-looks.result.now (let e = c.down.invariant.count in omega arith) c.index-looks.ensures 0 in
    rw (c.in_ok-push-in-Some-part_at-2.ensures.items, c.in_ok-push-in-Some-part_at.ensures.items)
    (less_more n looks c.pop.new.self.items c.down.search.done.items c.down.search.path.items c.in-Some.node c.in-Some.ensures.items c.down.invariant
    c.args.shapes.now refl c.index-looks.result.now c.saturating_add.result seen c.saturating_add.ensures c.in-Some-part_at.ensures.room
    (rw shape at c.in-Some-part_at.ensures.below) c.name_of-class.result)

pub down-smaller-else-index-eq0 : goal.down-smaller-else-index-eq0
down-smaller-else-index-eq0 c =
    let n = length c.args.shapes.now in
    let looks = c.down.search.looks.items in
    let b = node_below n looks c.pop.new.self.items c.down.search.done.items c.down.search.path.items c.in-Some.node c.in-Some.ensures.items c.down.invariant in
    let shape = get_or_read c.args.shapes.now c.in-Some.node c.index-shapes-node.result b c.index-shapes-node.is Free in
    let seen : c.index-looks.result.now ≡ get_or looks c.in-Some.node 0 =
    get_or_read looks c.in-Some.node c.index-looks.result.now (let e = c.down.invariant.count in omega arith) c.index-looks.ensures 0 in
    rw c.in_ok-push-in-Some-part_at.ensures.items
    (less_same n looks c.pop.new.self.items c.down.search.done.items c.down.search.path.items c.in-Some.node c.in-Some.ensures.items c.down.invariant
    c.args.shapes.now refl c.index-looks.result.now c.saturating_add.result seen c.saturating_add.ensures c.in-Some-part_at.ensures.room
    (rw shape at c.in-Some-part_at.ensures.below))

pub down-smaller : goal.down-smaller
down-smaller c =
    let n = length c.args.shapes.now in
    let looks = c.down.search.looks.items in
    let b = node_below n looks c.pop.new.self.items c.down.search.done.items c.down.search.path.items c.in-Some.node c.in-Some.ensures.items c.down.invariant in
    let seen : c.index-looks.result.now ≡ get_or looks c.in-Some.node 0 =
    get_or_read looks c.in-Some.node c.index-looks.result.now (let e = c.down.invariant.count in omega arith) c.index-looks.ensures 0 in
    less_done n looks c.pop.new.self.items c.down.search.done.items c.down.search.path.items c.in-Some.node c.in-Some.ensures.items c.down.invariant
    c.args.shapes.now refl c.index-looks.result.now c.saturating_add.result seen c.saturating_add.ensures c.part_at.ensures.range
