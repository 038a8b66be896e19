use Rattle.std.proofs.Common.{sym, ◌∙◌}
use Rattle.lk_arena.proofs.Tails.{join_same, join_pair, join_left, join_right, can_bind_first, can_bind_second, join_both}
use Rattle.lk_arena.proofs.joining.join_tails.Goals as goal

pub returns-then-left-right : goal.returns-then-left-right
returns-then-left-right c =
    join_same c.args.left c.args.right c.args.lefts c.args.rights c.args.arena.now.shapes c.args.arena.now.classes c.args.queue.now c.requires.arena c.requires.pairs c.requires.tails
    c.if-left-right.true

pub returns-then-len-eq0-2 : goal.returns-then-len-eq0-2
returns-then-len-eq0-2 c =
    join_pair c.args.left c.args.right c.args.lefts c.args.rights c.args.arena.now.shapes c.args.arena.now.classes c.args.queue.now c.requires.arena c.requires.pairs c.requires.tails
    c.push.new.self c.in_ok-push.ensures.ok (sym c.len.ensures ∙ c.if-len-eq0.true) (sym c.len-then-len-eq0.ensures ∙ c.if-len-eq0-2.true)

pub returns-then-len-eq0 : goal.returns-then-len-eq0
returns-then-len-eq0 c =
    join_right c.args.left c.args.right c.args.lefts c.args.rights c.args.arena.now.shapes c.args.arena.now.classes c.args.queue.now c.requires.arena c.requires.pairs c.requires.tails _ _
    (sym c.len.ensures ∙ c.if-len-eq0.true) c.bind.ensures

pub returns-then-len-eq0-3 : goal.returns-then-len-eq0-3
returns-then-len-eq0-3 c =
    join_left c.args.left c.args.right c.args.lefts c.args.rights c.args.arena.now.shapes c.args.arena.now.classes c.args.queue.now c.requires.arena c.requires.pairs c.requires.tails _ _
    (sym c.len-2.ensures ∙ c.if-len-eq0-3.true) c.bind-then-len-eq0-3.ensures

pub bind-requires-2-clause-can : goal.bind-requires-2-clause-can
bind-requires-2-clause-can c =
    can_bind_first c.args.left c.args.right c.args.lefts c.args.rights c.args.arena.now.shapes c.args.arena.now.classes c.args.queue.now c.requires.arena c.requires.pairs c.requires.tails
    c.if-left-right.false _ _ _ c.in_ok-fresh.ensures (λ e. c.if-len-eq0.false (c.len.ensures ∙ e))

pub bind-requires-3-clause-can : goal.bind-requires-3-clause-can
bind-requires-3-clause-can c =
    can_bind_second c.args.left c.args.right c.args.lefts c.args.rights c.args.arena.now.shapes c.args.arena.now.classes c.args.queue.now c.requires.arena c.requires.pairs c.requires.tails
    c.if-left-right.false _ _ _ c.in_ok-fresh.ensures _ _ c.bind-2.ensures (λ e. c.if-len-eq0-3.false (c.len-2.ensures ∙ e))

pub returns : goal.returns
returns c =
    join_both c.args.left c.args.right c.args.lefts c.args.rights c.args.arena.now.shapes c.args.arena.now.classes c.args.queue.now c.requires.arena c.requires.pairs c.requires.tails
    c.if-left-right.false _ _ _ c.in_ok-fresh.ensures _ _ c.bind-2.ensures _ _ c.bind-3.ensures
