use Rattle.std.proofs.Common.{◌∙◌, sym, ap, ap₂, not}
use Rattle.std.specs.FinSet as set
use Rattle.lk_scope.proofs.InScope.{names-insert, contains-names}
use Rattle.lk_scope.proofs.names.Names.insert.Goals as goal

pub returns-clause-inserted : goal.returns-clause-inserted
returns-clause-inserted c = names-insert c.self.inside.names c.insert.new.self c.in_ok-text.text c.in_ok-insert.ensures.updates ∙ ap₂ (λ names x. set.insert names x) c.self.view_is c.in_ok-text.ensures.ok

pub returns-clause-added : goal.returns-clause-added
returns-clause-added c = c.in_ok-insert.ensures.added ∙ ap not (sym (contains-names c.self.inside.names _) ∙ ap₂ (λ names x. set.contains names x) c.self.view_is c.in_ok-text.ensures.ok)
