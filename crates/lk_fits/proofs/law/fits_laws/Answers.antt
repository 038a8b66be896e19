use Rattle.lk_fits.proofs.Fitting.{as_many}
use Rattle.lk_fits.proofs.Levels.{made, shown}
use Rattle.lk_fits.proofs.law.fits_laws.Goals as goal
use Rattle.lk_fits.specs.Law.{IsTold}

pub returns : goal.returns
returns c = record {
  levels = λ told v t. (shown (IsTold told) v t, made (IsTold told) v t);
  long = λ told values ts fit. as_many (IsTold told) values ts fit;
}
