-- What stands at the sites of a ground program in SQL, and the refusal of the first that is too large.
use Rattle.std.specs.Prelude.{◌≡◌, ℕ, List, [], ◌∷◌, Option, Some, None, map, nat_le, nat_lt, option_and_then, option_map, if◌then◌else◌}
use Rattle.lk_ast.specs.declared.declaration.Program.{Program}
use Rattle.lk_ast.specs.declared.place.Span.{Span}
use Rattle.lk_bodies.specs.Nodes.{query_nodes}
use Rattle.lk_ground.specs.declared.program.GroundFun.{GroundFun}
use Rattle.lk_ground.specs.declared.program.GroundProgram.{GroundProgram}
use Rattle.lk_inline.specs.Inlined.{inlined_at}
use Rattle.lk_norm.specs.Changes.{change_bytes}
use Rattle.lk_norm.specs.Limits.{branch_count, most_branches, most_bytes, sql_length}
use Rattle.lk_norm.specs.Sql.{change_sql, query_sql}
use Rattle.lk_query.specs.declared.query.Inlined.{Inlined}
use Rattle.lk_query.specs.declared.query.Inlined.TheVariants as inlined
use Rattle.lk_sites.specs.Sites.{Site, sites_of}
use Rattle.lk_translate.specs.declared.error.Size.{Size}
use Rattle.lk_translate.specs.declared.error.Size.TheVariants.{Nodes, Branches, Text}
use Rattle.lk_translate.specs.declared.translated.Code.{Code}
use Rattle.lk_translate.specs.declared.translated.Code.TheVariants as code
use Rattle.lk_translate.specs.declared.translated.Translated.{Translated}

-- ---- sizes

-- the most nodes of what stands at a site, with those of the bodies that it calls
abbrev pub most_nodes : ℕ
most_nodes = 65536

-- too large in this where there are more than the most, or else in what the rest is
abbrev pub over : ℕ → ℕ → Size → Option Size → Option Size
over most n size rest = if nat_lt most n then Some size else rest

-- what is inlined is too large in this, if in anything: a change has no branches, and the bytes of its scalars are counted together
abbrev pub inlined_fault : Inlined → Option Size
inlined_fault (inlined.Query query) = over most_branches (branch_count query) Branches (over most_bytes (sql_length query) Text None)
inlined_fault (inlined.Change change) = over most_bytes (change_bytes (change_sql change)) Text None

abbrev pub inlined_code : Inlined → Code
inlined_code (inlined.Query query) = code.Select (query_sql query)
inlined_code (inlined.Change change) = code.Change (change_sql change)

-- ---- sites

-- in a program with these helpers
module _ (p : Program) (helpers : List GroundFun) where
  -- what stands at a site is too large in this, if in anything
  unfoldable pub size_fault : Site → Option Size
  size_fault site = over most_nodes (query_nodes p site.block) Nodes (option_and_then inlined_fault (inlined_at p helpers site))

  -- what stands there in SQL
  unfoldable pub code_of : Site → Option Code
  code_of site = option_map inlined_code (inlined_at p helpers site)

  abbrev pub translated_at : Site → Option Translated
  translated_at site = option_map (λ code. record { label = site.label; span = site.block.span; code = code }) (code_of site)

  -- a refusal: for what, and where
  abbrev pub fault_at : Site → Option (Size × Span)
  fault_at site = option_map (λ size. (size, site.block.span)) (size_fault site)

abbrev pub first_of : Option (Size × Span) → Option (Size × Span) → Option (Size × Span)
first_of None other = other
first_of (Some one) other = Some one

-- the first refusal of these sites
abbrev pub first_fault : Program → List GroundFun → List Site → Option (Size × Span)
first_fault p helpers [] = None
first_fault p helpers (site ∷ sites) = first_of (fault_at p helpers site) (first_fault p helpers sites)

-- ---- programs

-- no site is refused, and this is what stands at each, in the order of their labels
pub record AreTranslated (p : Program) (g : GroundProgram) (all : List Translated) : Type 0 where
  pub fit : first_fault p g.helpers (sites_of g) ≡ None
  pub each : map Some all ≡ map (translated_at p g.helpers) (sites_of g)

-- of the sites that are too large, the one with the least label is so in this, and stands here
abbrev pub IsFirstFault : Program → GroundProgram → Size → Span → Type 0
IsFirstFault p g size at = first_fault p g.helpers (sites_of g) ≡ Some (size, at)
