-- Which site of the ground program a label is that reads tables or changes rows that are there. Events of a session are told by where
-- the node of their label begins, so a legal history of the program can be told of what the code reads and changes.
use Rattle.std.specs.Option.{option_and_then}
use Rattle.std.specs.Prelude.{◌≡◌, ℕ, Bool, true, false, Option, Some, None}
use Rattle.lk_ast.specs.declared.declaration.Program.{Program}
use Rattle.lk_code.specs.Tables.{block_at, fun_info, site_of}
use Rattle.lk_code.specs.declared.infos.FunInfo.{FunInfo}
use Rattle.lk_code.specs.declared.infos.FunKind.{FunKind}
use Rattle.lk_code.specs.declared.infos.FunKind.TheVariants as fun
use Rattle.lk_code.specs.declared.tables.BlockCode.{BlockCode}
use Rattle.lk_code.specs.declared.tables.BlockCode.TheVariants as block
use Rattle.lk_code.specs.declared.tables.Contents.{Contents}
use Rattle.lk_ground.specs.declared.program.GroundProgram.{GroundProgram}
use Rattle.lk_inline.specs.Inlined.{inlined_at}
use Rattle.lk_lowered.specs.Law.{IsSiteAt}
use Rattle.lk_query.specs.declared.query.Inlined.{Inlined}
use Rattle.lk_sites.specs.Sites.{Site, sites_of}
use Rattle.lk_translate.specs.Law.{IsLegal}
use Rattle.lk_translate.specs.Translation.{inlined_code}
use Rattle.lk_translate.specs.declared.translated.Code.{Code}
use Rattle.lk_translate.specs.declared.translated.Code.TheVariants as code
use Rattle.lk_types.specs.Each.{OneOf}

-- what reads tables or changes rows that are there
abbrev pub has_site : FunKind → Bool
has_site fun.Query = true
has_site fun.TableRead = true
has_site fun.Update = true
has_site fun.Delete = true
has_site other = false

-- what a label runs, as it was translated
abbrev pub code_in : BlockCode → Option Code
code_in (block.Select sql) = Some (code.Select sql)
code_in (block.Insert def) = None
code_in (block.Update def change) = Some (code.Change change)
code_in (block.Delete def change) = Some (code.Change change)

-- The label is that of the site. Its node is what the site's block is lowered to, so it begins where the block does and captures the same
-- names; and it runs the SQL of what is inlined there, which means what stands there.
pub record IsOfSite (p : Program) (g : GroundProgram) (c : Contents) (label : ℕ) (site : Site) : Type 0 where
  pub label_is : site.label ≡ label
  pub node : ℕ
  pub at : IsSiteAt g c.tables.forms node site
  pub begins : site_of c.tables.forms label ≡ site.block.span.start
  pub found : Inlined
  pub there : inlined_at p g.helpers site ≡ Some found
  pub runs : option_and_then code_in (block_at c label) ≡ Some (inlined_code found)
  pub legal : IsLegal p site found

-- Each label that reads tables or changes rows that are there runs what is translated of the site that begins where its node does.
abbrev pub AreOfSites : Program → GroundProgram → Contents → Type 0
AreOfSites p g c = (label : ℕ) (i : FunInfo) → fun_info c.tables label ≡ Some i → has_site i.kind ≡ true → OneOf (IsOfSite p g c label) (sites_of g)
