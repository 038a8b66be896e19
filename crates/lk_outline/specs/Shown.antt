-- The outline that the code makes, in the words of the definition.
use Rattle.std.specs.Prelude.{List, map}
use Rattle.lk_outline.specs.Outline.{Around, Kind, Site}
use Rattle.lk_outline.specs.declared.site.Around.{Around as TheAround}
use Rattle.lk_outline.specs.declared.site.Around.TheVariants as around
use Rattle.lk_outline.specs.declared.site.Kind.{Kind as TheKind}
use Rattle.lk_outline.specs.declared.site.Kind.TheVariants as kind
use Rattle.lk_outline.specs.declared.site.Site.{Site as TheSite}

abbrev pub shown_around : TheAround → Around
shown_around around.Function = Around.Function
shown_around (around.Lambda number) = Around.Lambda number
shown_around around.Query = Around.Query
shown_around around.Change = Around.Change

abbrev pub shown_kind : TheKind → Kind
shown_kind (kind.Function name) = Kind.Function name.now
shown_kind (kind.Call name args) = Kind.Call name.now args
shown_kind (kind.Equality operand) = Kind.Equality operand
shown_kind (kind.Order operand) = Kind.Order operand
shown_kind (kind.Name binder) = Kind.Name binder
shown_kind (kind.Query nodes) = Kind.Query nodes
shown_kind (kind.Change nodes) = Kind.Change nodes
shown_kind kind.Other = Kind.Other

abbrev pub shown_site : TheSite → Site
shown_site site = record { number = site.number; span = site.span; kind = shown_kind site.kind; around = shown_around site.around; inside = site.inside }

abbrev pub shown : List TheSite → List Site
shown sites = map shown_site sites
