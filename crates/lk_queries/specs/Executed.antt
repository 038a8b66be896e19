-- What the executor answers to a query's SQL is what the query may be answered with.
use Rattle.std.specs.Prelude.{◌≡◌, List, Option, IfSome}
use Rattle.lk_ast.specs.Tables.{Tables, table_defs}
use Rattle.lk_ast.specs.declared.declaration.Program.{Program}
use Rattle.lk_ast.specs.declared.expression.Expr.{Expr}
use Rattle.lk_ast.specs.declared.table.Row.{Row}
use Rattle.lk_ast.specs.declared.value.Value.{Value}
use Rattle.lk_bag.specs.Legal.{IsAnswer, IsAnsweredOver}
use Rattle.lk_exec.specs.Listings.{IsListing}
use Rattle.lk_ground.specs.declared.program.GroundProgram.{GroundProgram}
use Rattle.lk_names.specs.Programs.{IsBound}
use Rattle.lk_query.specs.Captured.{AreCaptured, leaves}
use Rattle.lk_query.specs.declared.query.Inlined.TheVariants as inlined
use Rattle.lk_query.specs.declared.query.Query.{Query}
use Rattle.lk_sound.specs.Tables.{AreTables}
use Rattle.lk_sql.specs.Keys as sql
use Rattle.lk_sql.specs.declared.tree.Sql.{Sql}
use Rattle.lk_translate.specs.Law.{IsMeant}
use Rattle.lk_translate.specs.declared.translated.Code.TheVariants as code
use Rattle.lk_translate.specs.declared.translated.Translated.{Translated}

-- These rows answer the reading with these values of what it captures: over the tables as scans listed them, whose rows fit, and so, where
-- the store tells of its tables, over these.
pub record IsAnsweredLegally (p : Program) (block : Expr) (told : Option Tables) (listed : Tables) (args : List Value) (rows : List Row) : Type 0 where
  pub fit : AreTables p listed
  pub over : IsAnsweredOver p listed block args rows
  pub legal : IfSome told (λ tables. IsAnswer p tables block args rows)

-- So does all that the SQL may be answered with over the tables as scans listed them.
abbrev pub AnswersLegally : Program → Expr → Query → Sql → Type 0
AnswersLegally p block query select =
    (told : Option Tables) (listed : Tables) → IsListing (table_defs p) told listed → (args : List Value) → AreCaptured query.captured args → (rows : List Row) → sql.IsAnswer listed (leaves args) select rows
    → IsAnsweredLegally p block told listed args rows

-- What is translated to the SQL of a query or of a reading stands for one, and what the executor answers to it is what that may be
-- answered with.
abbrev pub ExecutedLaw : Type 0
ExecutedLaw = (p : Program) → IsBound p → (g : GroundProgram) (one : Translated) (meant : IsMeant p g one) (select : Sql) → one.code ≡ code.Select select
    → (query : Query) × (meant.found ≡ inlined.Query query) × AnswersLegally p meant.site.block query select
