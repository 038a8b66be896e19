use Rattle.std.proofs.Common.{◌++◌, refl, sym, ◌∙◌, ap, subst}
use Rattle.lk_classes.specs.Classes.{class_at}
use Rattle.lk_arena.proofs.Covering.{counted_more, counted_start}
use Rattle.lk_arena.proofs.Kinded.{kinds_start, kinds_more}
use Rattle.lk_arena.proofs.Noted.{none_found, noted_behind, noted_start, noted_whole, one_found}
use Rattle.lk_arena.proofs.Unmet.{unmet-lt}
use Rattle.lk_arena.proofs.Ways.{way_start, way_more}
use Rattle.lk_arena.proofs.Weak.{but_start, but_hit, but_kind, but_clash, but_more}
use Rattle.lk_arena.proofs.flat.flat_row.Goals as goal
use Rattle.lk_arena.specs.Shapes.{HasFields, is_row_shape}

pub loop-tail-init : goal.loop-tail-init
loop-tail-init c =
    let ss = c.args.arena.now.shapes in
    let cs = c.args.arena.now.classes in
    rw (c.in_ok-append.ensures ∙ ap (λ fs. fs ++ c.args.own.now) c.new-fields.ensures, c.class_of-tail.ensures)
    (record {
      flat = but_start c.args.hole ss cs c.requires.arena c.args.row c.args.own.now c.args.first c.requires.row c.requires.shape;
      kinds = kinds_start ss cs c.requires.arena c.args.row c.args.own.now c.args.first c.requires.row c.requires.shape;
      counts = counted_start c.args.hole ss cs c.requires.arena c.args.row c.args.own.now c.args.first c.requires.row c.requires.shape;
      way = way_start ss cs c.args.own.now (class_at cs c.args.first);
      noted = noted_start c.args.own.now c.new-labels.result c.new-labels.ensures.empty;
    })

pub returns-then-tail-hole-clause-none : goal.returns-then-tail-hole-clause-none
returns-then-tail-hole-clause-none c =
    but_hit c.args.hole c.args.arena.now.shapes c.args.arena.now.classes c.requires.arena c.args.row c.loop-tail.fields c.loop-tail.tail c.loop-tail.invariant.flat c.if-tail-hole.true

pub returns-then-not-is_row-clause-none : goal.returns-then-not-is_row-clause-none
returns-then-not-is_row-clause-none c =
    but_kind c.args.hole c.args.arena.now.shapes c.args.arena.now.classes c.requires.arena c.args.row c.loop-tail.fields c.loop-tail.tail c.loop-tail.invariant.flat
    (ap is_row_shape (sym c.shape_of.ensures) ∙ sym c.is_row.ensures ∙ c.if-not-is_row.true)

pub returns-then-not-lacks_all-clause-none : goal.returns-then-not-lacks_all-clause-none
returns-then-not-lacks_all-clause-none c =
    but_clash c.args.hole c.args.arena.now.shapes c.args.arena.now.classes c.requires.arena c.args.row c.loop-tail.fields c.loop-tail.tail c.loop-tail.invariant.flat c.in-Row.more c.in-Row.next
    (sym c.shape_of-in-loop-tail.ensures ∙ c.in-Row.is)
    (rw (c.as_slice.ensures) at
    (one_found c.note_labels.new.labels c.loop-tail.fields c.as_slice.result.now
    (noted_whole c.loop-tail.labels c.note_labels.new.labels c.loop-tail.unnoted.now c.loop-tail.fields c.loop-tail.invariant.noted c.in_ok-note_labels-in-Row.ensures) (c.if-not-lacks_all.ensures.has refl)))

pub loop-tail-preserved : goal.loop-tail-preserved
loop-tail-preserved c =
    let ss = c.args.arena.now.shapes in
    let cs = c.args.arena.now.classes in
    let fields = c.in_ok-append-in-Row.ensures ∙ ap (λ fs. c.loop-tail.fields ++ fs) c.as_slice-in-Row.ensures in
    let is = sym c.shape_of-in-loop-tail.ensures ∙ c.in-Row.is in
    let flat = c.loop-tail.invariant.flat in
    let whole = noted_whole c.loop-tail.labels c.note_labels.new.labels c.loop-tail.unnoted.now c.loop-tail.fields c.loop-tail.invariant.noted c.in_ok-note_labels-in-Row.ensures in
    rw (fields, c.as_slice-unnoted.ensures, c.class_of-tail-in-Row.ensures)
    (record {
      flat = but_more c.args.hole ss cs c.requires.arena c.args.row c.loop-tail.fields c.loop-tail.tail flat c.in-Row.more c.in-Row.next is c.if-tail-hole.false
          (rw (c.as_slice.ensures) at (none_found c.note_labels.new.labels c.loop-tail.fields c.as_slice.result.now whole (c.if-not-lacks_all.ensures.lacks refl)));
      kinds = kinds_more ss cs c.requires.arena c.args.row c.loop-tail.fields c.loop-tail.tail c.in-Row.more c.in-Row.next flat.below is c.loop-tail.invariant.kinds;
      counts = counted_more c.args.hole ss cs c.requires.arena c.args.row c.loop-tail.fields c.loop-tail.tail c.in-Row.more c.in-Row.next flat.below flat.named c.if-tail-hole.false is
          c.loop-tail.invariant.counts;
      way = way_more ss cs c.args.own.now c.loop-tail.fields c.in-Row.more (class_at cs c.args.first) c.loop-tail.tail c.in-Row.next flat.below flat.named is c.loop-tail.invariant.way;
      noted = noted_behind c.note_labels.new.labels c.loop-tail.fields c.in-Row.more whole;
    })

-- the row's labels are new, so it doesn't come again
pub loop-tail-smaller : goal.loop-tail-smaller
loop-tail-smaller c =
    let fields = c.in_ok-append-in-Row.ensures ∙ ap (λ fs. c.loop-tail.fields ++ fs) c.as_slice-in-Row.ensures in
    let is = sym c.shape_of-in-loop-tail.ensures ∙ c.in-Row.is in
    let whole = noted_whole c.loop-tail.labels c.note_labels.new.labels c.loop-tail.unnoted.now c.loop-tail.fields c.loop-tail.invariant.noted c.in_ok-note_labels-in-Row.ensures in
    let below = c.loop-tail.invariant.flat.below in
    rw fields
    (unmet-lt c.loop-tail.fields c.in-Row.more c.args.arena.now.shapes c.loop-tail.tail c.in-Row.next below is (subst HasFields is (c.requires.arena.filled c.loop-tail.tail below))
    (rw (c.as_slice.ensures) at (none_found c.note_labels.new.labels c.loop-tail.fields c.as_slice.result.now whole (c.if-not-lacks_all.ensures.lacks refl))))
