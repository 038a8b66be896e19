use Rattle.std.proofs.Common.{◌∙◌, sym, ap, ap₂, ◌++◌, ◌∷◌, []}
use Rattle.std.proofs.lemmas.Bool.{not-false, not-true}
use Rattle.lk_scope.specs.Leaving.{without}
use Rattle.lk_scope.proofs.InScope.{note-new, insert-again}
use Rattle.lk_scope.proofs.names.Names.enter.Goals as goal

pub returns-in_ok-push-clause-noted : goal.returns-in_ok-push-clause-noted
returns-in_ok-push-clause-noted c =
    ap₂ without (c.in_ok-push.ensures.ok ∙ ap (λ x. c.args.noted.now ++ x ∷ []) (c.in_ok-copy.ensures ∙ sym c.as_str.ensures)) c.in_ok-insert.ensures.inserted
    ∙ note-new c.args.noted.now c.as_str.result.now c.args.self.now (not-true _ (sym c.in_ok-insert.ensures.added ∙ c.if-branch.true))

pub returns-else-branch-clause-noted : goal.returns-else-branch-clause-noted
returns-else-branch-clause-noted c = ap (without c.args.noted.now) (c.in_ok-insert.ensures.inserted ∙ insert-again c.args.self.now c.as_str.result.now (not-false _ (sym c.in_ok-insert.ensures.added ∙ c.if-branch.false)))
