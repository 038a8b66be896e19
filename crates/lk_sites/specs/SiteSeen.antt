-- A site in code, in the words of its definition.
use Rattle.lk_sites.specs.Sites.{Site}
use Rattle.lk_sites.specs.declared.site.QuerySite.{QuerySite}

abbrev pub shown : QuerySite → Site
shown s = record { label = s.label; fun = s.fun; block = s.expr.now; types = s.types.now; calls = s.calls.now }
