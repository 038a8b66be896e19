-- What a database may answer to the SQL of a query is what the body of the query, evaluated in its place, comes to: just these rows, in
-- any order that its keys allow.
use Rattle.std.specs.Prelude.{◌≡◌, ◌↔◌, List, Some, IsPermutation}
use Rattle.lk_ast.specs.Layers.{layer}
use Rattle.lk_ast.specs.Rows.{rows_value}
use Rattle.lk_ast.specs.Tables.{Tables}
use Rattle.lk_ast.specs.declared.declaration.Program.{Program}
use Rattle.lk_ast.specs.declared.expression.Expr.{Expr}
use Rattle.lk_ast.specs.declared.expression.Node.TheOpen.{Node-F}
use Rattle.lk_ast.specs.declared.expression.SortKey.{SortKey}
use Rattle.lk_ast.specs.declared.table.Base.{Base}
use Rattle.lk_ast.specs.declared.table.Row.{Row}
use Rattle.lk_ast.specs.declared.value.Value.{Value}
use Rattle.lk_bag.specs.Legal.{AreSorted, IsAnswer}
use Rattle.lk_ground.specs.declared.program.GroundProgram.{GroundProgram}
use Rattle.lk_index.specs.Free.{captured_query}
use Rattle.lk_locals.specs.Names.{Names, lookup_all}
use Rattle.lk_mono.specs.Grounded.{IsGrounded}
use Rattle.lk_mono.specs.Instanced.{HasInstances}
use Rattle.lk_query.specs.Captured.{leaves}
use Rattle.lk_sites.specs.Blocks.{IsBlock}
use Rattle.lk_sites.specs.Sites.{Site, sites_of}
use Rattle.lk_sound.specs.Law.{AreBoundAndApart}
use Rattle.lk_sound.specs.Points.{AreLocals}
use Rattle.lk_sound.specs.Tables.{AreTables}
use Rattle.lk_sql.specs.Keys as sql
use Rattle.lk_sql.specs.declared.tree.Sql.{Sql}
use Rattle.lk_translate.specs.Translation.{AreTranslated}
use Rattle.lk_translate.specs.declared.translated.Code.TheVariants as code
use Rattle.lk_translate.specs.declared.translated.Translated.{Translated}
use Rattle.lk_types.specs.Each.{Each, OneOf}
use Rattle.lk_types.specs.declared.scheme.Scheme.{Scheme}
use Rattle.lk_types.specs.declared.ty.Ty.{Ty}
use Rattle.lk_queries.specs.Keys.{CameTo}

-- The value is a list of rows, and over these tables and with these parameters the SQL may be answered with just these rows, sorted by
-- the keys.
pub record AreOfDatabase (tables : Tables) (params : List Base) (select : Sql) (keys : List SortKey) (v : Value) : Type 0 where
  pub rows : List Row
  pub is : v ≡ rows_value rows
  pub answers : (answer : List Row) → sql.IsAnswer tables params select answer ↔ (IsPermutation rows answer × AreSorted keys answer)

-- The SQL of a query where it stands: what is captured there. The database may answer it with just what the query may be answered with,
-- and whatever the body comes to in its place tells these answers.
pub record IsOfDatabase (p : Program) (tables : Tables) (query : Expr) (keys : List SortKey) (body : Expr) (select : Sql) (names : Names) : Type 0 where
  pub args : List Value
  pub captured : lookup_all names (captured_query body) ≡ Some args
  pub legal : (answer : List Row) → sql.IsAnswer tables (leaves args) select answer ↔ IsAnswer p tables query args answer
  pub answered : (v : Value) → CameTo p tables body names v → AreOfDatabase tables (leaves args) select keys v

-- What is translated is what stands at one of the sites; a query is SQL that means its body, over all tables whose rows fit and under all
-- local names with values of their types.
pub record IsMeantInPlace (p : Program) (g : GroundProgram) (has : HasInstances p g) (one : Translated) : Type 0 where
  pub site : Site
  pub listed : OneOf (λ other. other ≡ site) (sites_of g)
  pub label : one.label ≡ site.label
  pub span : one.span ≡ site.block.span
  pub block : IsBlock p has.shaped.instances site.block site.types site.calls
  pub means : (keys : List SortKey) (body : Expr) → layer site.block ≡ Node-F.Query keys body
      → (select : Sql) × (one.code ≡ code.Select select)
      × ((tables : Tables) → AreTables p tables → (names : Names) → AreLocals p has.shaped.instances block.locals names → IsOfDatabase p tables site.block keys body select names)

-- So is all that is translated of a ground program.
abbrev pub DatabaseLaw : Type 0
DatabaseLaw = (p : Program) → AreBoundAndApart p → (schemes : List Scheme) (types : List Ty) (g : GroundProgram) → IsGrounded p schemes types g → (has : HasInstances p g)
    → (all : List Translated) → AreTranslated p g all → Each (IsMeantInPlace p g has) all
