use Rattle.lk_sites.proofs.SiteNodes.{nodes_found}
use Rattle.lk_sites.proofs.SitesFound.{sites_found}
use Rattle.lk_sites.proofs.SitesOrder.{sites_rise}
use Rattle.lk_sites.proofs.SitesTyped.{sites_typed}
use Rattle.lk_sites.proofs.law.sites_laws.Goals as goal

pub returns : goal.returns
returns c = record { sites = sites_typed; found = sites_found; nodes = nodes_found; ordered = sites_rise }
