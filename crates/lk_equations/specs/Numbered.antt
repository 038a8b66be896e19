-- The numbers of a scheme's variables.
use Rattle.std.specs.Prelude.{◌≡◌, length}
use Rattle.lk_types.specs.Names.{count, number}
use Rattle.lk_types.specs.Renamed.{scheme_variables}
use Rattle.lk_types.specs.TypeText.{number_in}
use Rattle.lk_types.specs.Variables.{firsts}
use Rattle.lk_types.specs.declared.names.Names.{Names}
use Rattle.lk_types.specs.declared.scheme.Scheme.{Scheme}
use Rattle.lk_types.specs.declared.ty.Variable.{Variable}

-- they are numbered from 1 on, in the order in which they come first
pub record HasNumbers (names : Names) (scheme : Scheme) : Type 0 where
  pub numbers : (x : Variable) → number names x ≡ number_in (firsts (scheme_variables scheme)) x
  pub count_is : count names ≡ length (firsts (scheme_variables scheme))
