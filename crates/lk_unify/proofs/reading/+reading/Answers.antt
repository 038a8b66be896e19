use Rattle.std.proofs.Common.{◌-◌, sym, ◌∙◌, ap, arith}
use Rattle.std.proofs.lemmas.Result.{IfOk-weaker}
use Rattle.lk_types.specs.declared.ty.RowTail.TheVariants.{Var}
use Rattle.lk_unify.proofs.ReadParts.{made_can}
use Rattle.lk_unify.proofs.ReadRows.{fields_can, fields_open, fields_none, fields_row, next_row}
use Rattle.lk_unify.proofs.ReadMade.{list_read, fields_read, tags_read, function_read}
use Rattle.lk_unify.proofs.reading.+reading.Goals as goal
use Rattle.lk_arena.specs.Openings.{only_tail, row_type}
use Rattle.lk_unify.specs.Reading.{as_open, name_in, with_fields, with_entry}
use Rattle.lk_arena.specs.Shapes.{shape_at}

pub read_type-read_made-requires : goal.read_type-read_made-requires
read_type-read_made-requires t c =
    let is = ap (shape_at c.args.arena.now.shapes) (sym c.class_of-class.ensures) ∙ sym c.shape_of.ensures ∙ c.in-Made.is in
    let d = c.decreases in
    let room = c.requires.room in
    (omega arith, rw (c.as_slice.ensures) (made_can c.args.arena.now c.args.numbers.now c.args.fuel c.args.node c.requires c.in-Made.head c.in-Made.parts is))

pub make_row-read_fields-requires : goal.make_row-read_fields-requires
make_row-read_fields-requires t c =
    let is = ap (shape_at c.args.arena.now.shapes) (sym c.class_of-class.ensures) ∙ sym c.shape_of.ensures ∙ c.in-Row.is in
    let d = c.decreases in
    let room = c.requires.room in
    (omega arith, rw (c.as_slice.ensures) (fields_can c.args.arena.now c.args.numbers.now c.args.fuel c.args.node c.requires c.in-Row.own c.in-Row.tail is))

pub make_row-returns-in-Open : goal.make_row-returns-in-Open
make_row-returns-in-Open t c u own =
    let is = ap (shape_at c.args.arena.now.shapes) (sym c.class_of-class.ensures) ∙ sym c.shape_of.ensures ∙ c.in-Open.is in
    c.only_end.ensures
    ∙ ap (λ class. only_tail (Var (name_in c.args.numbers.now class))) c.class_of-class.ensures
    ∙ fields_open c.args.arena.now c.args.numbers.now c.args.fuel c.args.node c.requires u own is

pub make_row-returns-in_ok-below-in-Row : goal.make_row-returns-in_ok-below-in-Row
make_row-returns-in_ok-below-in-Row t c =
    let is = ap (shape_at c.args.arena.now.shapes) (sym c.class_of-class.ensures) ∙ sym c.shape_of.ensures ∙ c.in-Row.is in
    IfOk-weaker c.read_fields.result _ _
    (λ row read u own.
    read u own
    ∙ ap (with_fields c.in-Row.own u) (c.in_ok-below-in-Row.ensures u own)
    ∙ sym (fields_row c.args.arena.now c.args.numbers.now c.args.fuel c.args.node c.requires u own c.in-Row.own c.in-Row.tail is).1)
    (rw c.as_slice.ensures at c.read_fields.ensures)

pub make_row-returns-in_default : goal.make_row-returns-in_default
make_row-returns-in_default t c u own =
    let at = ap (shape_at c.args.arena.now.shapes) (sym c.class_of-class.ensures) ∙ sym c.shape_of.ensures in
    c.only_end-in_default.ensures
    ∙ fields_none c.args.arena.now c.args.numbers.now c.args.fuel c.args.node c.requires u own (λ is. c.in_default.not-Open (sym at ∙ is)) (λ fs t is. c.in_default.not-Row fs t (sym at ∙ is))

pub read_row-returns : goal.read_row-returns
read_row-returns t c = IfOk-weaker c.into_row.result _ _ (λ row is u own. is ∙ ap row_type (c.in_ok-made.ensures u own)) c.into_row.ensures

pub read_fields-loop-i-preserved : goal.read_fields-loop-i-preserved
read_fields-loop-i-preserved t c u own =
    let fs = c.args.own.now in
    let m = as_open c.args.below in
    let i = c.loop-i.i - 1 in
    let more = c.loop-i-test.true in
    let within = c.loop-i.auto.i in
    let row = next_row fs u m i c.loop-i.i (omega arith) (omega arith) c.index-own-i.result c.index-own-i.is in
    c.in_ok-row.ensures
    ∙ (λ k. with_entry (c.loop-i.invariant u own k) c.index-own-i.result.label (c.in_ok-ty.ensures u own k))
    ∙ row

pub read_made-returns-in_ok-new-in-List : goal.read_made-returns-in_ok-new-in-List
read_made-returns-in_ok-new-in-List t c u own x made =
    list_read c.args.arena.now c.args.numbers.now c.args.fuel u x c.args.head c.args.parts.now c.requires made c.in-List.is c.in_ok-new-in-List.field-0
    (c.in_ok-new-in-List.ensures ∙ c.in_ok-item-in-List.ensures u own)

pub read_made-returns-in_ok-row-in-Fields : goal.read_made-returns-in_ok-row-in-Fields
read_made-returns-in_ok-row-in-Fields t c u own x made =
    fields_read c.args.arena.now c.args.numbers.now c.args.fuel u x c.args.head c.args.parts.now c.requires made c.in-Fields.is c.in_ok-row-in-Fields.row
    (c.in_ok-row-in-Fields.ensures u own)

pub read_made-returns-in_ok-row-in-Tags : goal.read_made-returns-in_ok-row-in-Tags
read_made-returns-in_ok-row-in-Tags t c u own x made =
    tags_read c.args.arena.now c.args.numbers.now c.args.fuel u x c.args.head c.args.parts.now c.requires made c.in-Tags.is c.in_ok-row-in-Tags.row
    (c.in_ok-row-in-Tags.ensures u own)

pub read_made-returns-in_ok-new-in-Fun : goal.read_made-returns-in_ok-new-in-Fun
read_made-returns-in_ok-new-in-Fun t c u own x made =
    function_read c.args.arena.now c.args.numbers.now c.args.fuel u x c.args.head c.args.parts.now c.requires made c.in-Fun.is c.in_ok-params-in-Fun.params c.in_ok-effects-in-Fun.effects
    c.in_ok-new-in-Fun.field-0 (c.in_ok-params-in-Fun.ensures u own) (c.in_ok-effects-in-Fun.ensures u own) (c.in_ok-new-in-Fun.ensures ∙ c.in_ok-answer-in-Fun.ensures u own)
