use Rattle.lk_principal.proofs.Emptied.{least_law}
use Rattle.lk_principal.proofs.Instances.{body_law, schemes_law}
use Rattle.lk_principal.proofs.Used.{use_law}
use Rattle.lk_principal.proofs.law.principal_laws.Goals as goal

pub returns : goal.returns
returns c =
    let types = c.ground_type_laws.ensures in
    record {
      schemes = schemes_law;
      least = least_law types.emptied;
      body = body_law types.agree types.emptied types.exists c.outline_laws.ensures.length;
      used = use_law;
    }
