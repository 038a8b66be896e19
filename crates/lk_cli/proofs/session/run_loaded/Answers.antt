use Rattle.std.proofs.Common.{subst, sym}
use Rattle.lk_outside.specs.Scans.{FitAll}
use Rattle.lk_sem.proofs.Reading.{fit_all}
use Rattle.lk_cli.proofs.session.run_loaded.Goals as goal

pub last_scan-requires-clause-fit : goal.last_scan-requires-clause-fit
last_scan-requires-clause-fit g c = subst (FitAll _) (sym c.requires.declared) (fit_all _ _ c.in_ok-run.ensures.fit)
