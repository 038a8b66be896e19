use Rattle.std.proofs.Common.{length, refl, sym, ◌∙◌, ap}
use Rattle.lk_arena.proofs.Flats.{clash_same_left, clash_same_right, clash_left, clash_right}
use Rattle.lk_arena.proofs.joining.clash.Goals as goal

pub returns-then-lefts-ne0-clause-never : goal.returns-then-lefts-ne0-clause-never
returns-then-lefts-ne0-clause-never c _ v fits e =
    let l = c.args.left.now in
    let r = c.args.right.now in
    clash_same_left c.args.arena.now.shapes c.args.arena.now.classes l.row r.row l.fields r.fields l.tail r.tail c.requires.left c.requires.right v fits e
    c.if-left-right.true (λ z. c.if-lefts-ne0.true (ap length c.requires.lefts ∙ z))

pub returns-then-rights-ne0-clause-never : goal.returns-then-rights-ne0-clause-never
returns-then-rights-ne0-clause-never c _ v fits e =
    let l = c.args.left.now in
    let r = c.args.right.now in
    clash_same_right c.args.arena.now.shapes c.args.arena.now.classes l.row r.row l.fields r.fields l.tail r.tail c.requires.left c.requires.right v fits e
    c.if-left-right.true (λ z. c.if-rights-ne0.true (ap length c.requires.rights ∙ z))

pub returns-then-is_empty_row-clause-never : goal.returns-then-is_empty_row-clause-never
returns-then-is_empty_row-clause-never c _ v fits e =
    let l = c.args.left.now in
    let r = c.args.right.now in
    clash_left c.args.arena.now.shapes c.args.arena.now.classes l.row r.row l.fields r.fields l.tail r.tail c.requires.left c.requires.right v fits e
    (sym c.shape_of.ensures ∙ c.if-is_empty_row.ensures.0 refl) (λ z. c.if-lefts-ne0-2.true (ap length c.requires.lefts ∙ z))

pub returns-then-is_empty_row-2-clause-never : goal.returns-then-is_empty_row-2-clause-never
returns-then-is_empty_row-2-clause-never c _ v fits e =
    let l = c.args.left.now in
    let r = c.args.right.now in
    clash_right c.args.arena.now.shapes c.args.arena.now.classes l.row r.row l.fields r.fields l.tail r.tail c.requires.left c.requires.right v fits e
    (sym c.shape_of-then-rights-ne0-2.ensures ∙ c.if-is_empty_row-2.ensures.0 refl) (λ z. c.if-rights-ne0-2.true (ap length c.requires.rights ∙ z))
