-- The laws of translations: a database that follows SQL may answer just what the program's readings may be answered with, what it
-- changes is what the program changes, and the SQL is well formed.
use Rattle.std.specs.Prelude.{◌≡◌, ◌↔◌, true, List, Some}
use Rattle.lk_ast.specs.Layers.{Layer, layer}
use Rattle.lk_ast.specs.Tables.{HaveColumns, Tables, row_fits}
use Rattle.lk_ast.specs.declared.declaration.Program.{Program}
use Rattle.lk_ast.specs.declared.expression.ChangeExpr.{ChangeExpr, out-ChangeExpr}
use Rattle.lk_ast.specs.declared.expression.Node.TheOpen.{Node-F}
use Rattle.lk_ast.specs.declared.table.Row.{Row}
use Rattle.lk_ast.specs.declared.table.TableDef.{TableDef}
use Rattle.lk_ast.specs.declared.value.Value.{Value}
use Rattle.lk_bag.specs.Blocks.{blocks_of}
use Rattle.lk_bag.specs.Change.{is_met, updated}
use Rattle.lk_bag.specs.Legal.{IsAnsweredOver, names_in}
use Rattle.lk_ground.specs.declared.program.GroundProgram.{GroundProgram}
use Rattle.lk_inline.specs.Inlined.{inlined_at}
use Rattle.lk_inline.specs.Law.{AreProper, IsProperType}
use Rattle.lk_mono.specs.Grounded.{IsGrounded}
use Rattle.lk_mono.specs.Instanced.{HasInstances}
use Rattle.lk_names.specs.Programs.{IsBound}
use Rattle.lk_norm.specs.Sql.{change_sql, query_sql}
use Rattle.lk_query.specs.Captured.{AreCaptured, leaves}
use Rattle.lk_query.specs.declared.query.Inlined.{Inlined}
use Rattle.lk_query.specs.declared.query.Inlined.TheVariants as inlined
use Rattle.lk_query.specs.declared.query.InlinedChange.{InlinedChange}
use Rattle.lk_query.specs.declared.query.Query.{Query}
use Rattle.lk_sites.specs.Blocks.{IsBlock}
use Rattle.lk_sites.specs.Sites.{Site, sites_of}
use Rattle.lk_sound.specs.Tables.{AreTables, table_at}
use Rattle.lk_sql.specs.Change as sql
use Rattle.lk_sql.specs.Good.{is_good_change, is_good_sql}
use Rattle.lk_sql.specs.Keys.{IsAnswer}
use Rattle.lk_translate.specs.Translation.{AreTranslated, inlined_code}
use Rattle.lk_translate.specs.declared.translated.Code.{Code}
use Rattle.lk_translate.specs.declared.translated.Code.TheVariants as code
use Rattle.lk_translate.specs.declared.translated.Translated.{Translated}
use Rattle.lk_types.specs.Each.{Each, OneOf}
use Rattle.lk_types.specs.declared.scheme.Scheme.{Scheme}
use Rattle.lk_types.specs.declared.ty.Ty.{Ty}

-- ---- readings

-- Over all tables whose rows fit, and for all values of what the query captures: its SQL may be answered with just what is the bag of
-- the reading over these tables, in any order that the keys allow.
abbrev pub AnswersAlike : Program → Site → Query → Type 0
AnswersAlike p site query =
    (tables : Tables) → AreTables p tables → (args : List Value) → AreCaptured query.captured args → (answer : List Row)
    → IsAnswer tables (leaves args) (query_sql query) answer ↔ IsAnsweredOver p tables site.block args answer

-- So it is where the program's names are bound, its instances are a closed set, and what stands at the site is typed in one of them,
-- if the types of the nodes from there on have their labels in order.
abbrev pub AnswerLaw : Type 0
AnswerLaw = (p : Program) → IsBound p → (g : GroundProgram) → (has : HasInstances p g) → (site : Site) → IsBlock p has.shaped.instances site.block site.types site.calls → Each IsProperType site.types
    → (query : Query) → inlined_at p g.helpers site ≡ Some (inlined.Query query) → AnswersAlike p site query

-- ---- changes

module _ (p : Program) (site : Site) (change : InlinedChange) where
  -- so it is of each row that the table may hold, whatever rows tables have, and for all values of what is captured
  abbrev OfEachRow : ChangeExpr → (Tables → List Value → Row → Type 0) → Type 0
  OfEachRow of P = (def : TableDef) → table_at p (out-ChangeExpr of).table.text ≡ Some def → (tables : Tables) (args : List Value) → AreCaptured change.captured args → (row : Row) → row_fits def row ≡ true → P tables args row

  -- the SQL changes the row where the text says so
  abbrev pub ChangesWhere : ChangeExpr → Type 0
  ChangesWhere of = OfEachRow of (λ tables args row. sql.is_changed tables (leaves args) (change_sql change) row ≡ is_met p (names_in site.block args) of row)

  -- and makes of it what the text says
  abbrev pub ChangesTo : ChangeExpr → Type 0
  ChangesTo of = OfEachRow of (λ tables args row. sql.changed tables (leaves args) (change_sql change) row ≡ updated p (names_in site.block args) of row)

  -- an update or a deletion; nothing else changes rows
  abbrev pub ChangesLegally : Layer → Type 0
  ChangesLegally (Node-F.Update of) = ChangesWhere of × ChangesTo of
  ChangesLegally (Node-F.Delete of) = ChangesWhere of
  ChangesLegally other = ⊥

-- So it is of a block of the program's text, if the types in the helpers have their labels in order, too.
abbrev pub ChangeLaw : Type 0
ChangeLaw = (p : Program) → IsBound p → (g : GroundProgram) → (has : HasInstances p g) → AreProper g.helpers
    → (site : Site) → IsBlock p has.shaped.instances site.block site.types site.calls → OneOf (λ other. other ≡ site.block) (blocks_of p) → Each IsProperType site.types
    → (change : InlinedChange) → inlined_at p g.helpers site ≡ Some (inlined.Change change) → ChangesLegally p site change (layer site.block)

-- ---- well-formed SQL

-- well-formed SQL
abbrev pub IsGoodCode : Code → Type 0
IsGoodCode (code.Select sql) = is_good_sql sql ≡ true
IsGoodCode (code.Change change) = is_good_change change ≡ true

-- what is inlined has such, a query where each table of the program has a column
abbrev pub IsGood : Program → Inlined → Type 0
IsGood p (inlined.Query query) = HaveColumns p → is_good_sql (query_sql query) ≡ true
IsGood p (inlined.Change change) = is_good_change (change_sql change) ≡ true

abbrev pub GoodLaw : Type 0
GoodLaw = (p : Program) → IsBound p → (g : GroundProgram) → (has : HasInstances p g) → AreProper g.helpers
    → (site : Site) → IsBlock p has.shaped.instances site.block site.types site.calls → OneOf (λ other. other ≡ site.block) (blocks_of p) → Each IsProperType site.types
    → (found : Inlined) → inlined_at p g.helpers site ≡ Some found → IsGood p found

-- ---- programs

-- what is inlined at a site means what stands there
abbrev pub IsLegal : Program → Site → Inlined → Type 0
IsLegal p site (inlined.Query query) = AnswersAlike p site query
IsLegal p site (inlined.Change change) = ChangesLegally p site change (layer site.block)

-- it is what is inlined at one of the sites, in SQL that is well formed and means what stands there
pub record IsMeant (p : Program) (g : GroundProgram) (one : Translated) : Type 0 where
  pub site : Site
  pub listed : OneOf (λ other. other ≡ site) (sites_of g)
  pub label : one.label ≡ site.label
  pub span : one.span ≡ site.block.span
  pub found : Inlined
  pub there : inlined_at p g.helpers site ≡ Some found
  pub code : one.code ≡ inlined_code found
  pub legal : IsLegal p site found
  pub good : IsGood p found

-- so is all that is translated of a ground program
abbrev pub TranslationLaw : Type 0
TranslationLaw = (p : Program) → IsBound p → (schemes : List Scheme) (types : List Ty) (g : GroundProgram) → IsGrounded p schemes types g → HasInstances p g → (all : List Translated) → AreTranslated p g all → Each (IsMeant p g) all
