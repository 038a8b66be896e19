-- What the executor answers to a query's SQL is what the query may be answered with.
use Rattle.std.proofs.Common.{◌≡◌, refl, sym, ap, subst, ◌∙◌, ℕ, Bool, true, false, List, [], ◌∷◌, map, Option, Some, None, inl, inr, if◌then◌else◌}
use Rattle.std.proofs.lemmas.Bool.{both_ways}
use Rattle.std.proofs.lemmas.Option.{none-some}
use Rattle.std.proofs.lemmas.Slice.Eq.{bytes_eq-Decides}
use Rattle.std.specs.Prelude.{IfSome, bytes_eq, find}
use Rattle.lk_ast.specs.Tables.{Tables, all_fit, table_defs}
use Rattle.lk_ast.specs.declared.declaration.Program.{Program}
use Rattle.lk_ast.specs.declared.expression.Expr.{Expr}
use Rattle.lk_ast.specs.declared.table.Row.{Row}
use Rattle.lk_ast.specs.declared.table.TableDef.{TableDef}
use Rattle.lk_ast.specs.declared.value.Value.{Value}
use Rattle.lk_bag.specs.Legal.{IsAnswer, IsAnsweredOver}
use Rattle.lk_exec.specs.Listings.{IsListing, def_of}
use Rattle.lk_ground.specs.declared.program.GroundProgram.{GroundProgram}
use Rattle.lk_names.specs.Programs.{IsBound}
use Rattle.lk_norm.specs.Sql.{query_sql}
use Rattle.lk_query.specs.Captured.{AreCaptured, leaves}
use Rattle.lk_query.specs.declared.query.Inlined.{Inlined}
use Rattle.lk_query.specs.declared.query.Inlined.TheVariants as inlined
use Rattle.lk_query.specs.declared.query.Query.{Query}
use Rattle.lk_sites.specs.Sites.{Site}
use Rattle.lk_sound.proofs.Names.{AreDistinct}
use Rattle.lk_sound.proofs.TableNames.{def_name, only_one, tables_apart}
use Rattle.lk_sound.specs.Tables.{AreTables}
use Rattle.lk_sql.specs.Keys as sql
use Rattle.lk_sql.specs.declared.tree.Sql.{Sql}
use Rattle.lk_translate.specs.Law.{AnswersAlike, IsLegal, IsMeant}
use Rattle.lk_translate.specs.Translation.{inlined_code}
use Rattle.lk_translate.specs.declared.translated.Code.{Code}
use Rattle.lk_translate.specs.declared.translated.Code.TheVariants as code
use Rattle.lk_translate.specs.declared.translated.Translated.{Translated}
use Rattle.lk_types.proofs.Members.{each_of_in}
use Rattle.lk_types.specs.Each.{OneOf}
use Rattle.lk_queries.specs.Executed.{AnswersLegally, ExecutedLaw, IsAnsweredLegally}

-- ---- tables as scans listed them

-- there is a definition of the name of each
named : (defs : List TableDef) (def : TableDef) → OneOf (λ other. other ≡ def) defs → (found : TableDef) × (def_of defs def.name ≡ Some found)
named [] def one = absurd one
named (d ∷ defs) def (inl is) = (d, ap (λ b. if b then Some d else def_of defs def.name) ((bytes_eq-Decides d.name def.name).1 (ap def_name is)))
named (d ∷ defs) def (inr later) = by_test (bytes_eq d.name def.name) (named defs def later)
  where
    by_test : (b : Bool) → (found : TableDef) × (def_of defs def.name ≡ Some found) → (found : TableDef) × ((if b then Some d else def_of defs def.name) ≡ Some found)
    by_test true rest = (d, refl)
    by_test false rest = rest

-- the rows of each table fit it
listed_fit : (p : Program) → IsBound p → (told : Option Tables) (listed : Tables) → IsListing (table_defs p) told listed → AreTables p listed
listed_fit p bound told listed is = each_of_in Fits (table_defs p) fits
  where
    Fits : TableDef → Type 0
    Fits def = all_fit def (listed def.name) ≡ true

    fits : (def : TableDef) → OneOf (λ other. other ≡ def) (table_defs p) → Fits def
    fits def there =
        let own = named (table_defs p) def there in
        let same : def ≡ own.0 = only_one (table_defs p) def.name own.0 def (tables_apart p bound) own.1 there refl in
        subst (λ (other : TableDef). all_fit other (listed def.name) ≡ true) (sym same) (subst (λ found. IfSome found (λ other. all_fit other (listed def.name) ≡ true)) own.1 (is.fit def.name))

-- ---- answers

legal_answer : (p : Program) (block : Expr) (told : Option Tables) (listed : Tables) (args : List Value) (rows : List Row) → IsListing (table_defs p) told listed → IsAnsweredOver p listed block args rows → IfSome told (λ tables. IsAnswer p tables block args rows)
legal_answer p block None listed args rows is over = tt
legal_answer p block (Some tables) listed args rows is over = (listed, is.same, over.0, over.1)

answers_legally : (p : Program) → IsBound p → (site : Site) (query : Query) → AnswersAlike p site query → AnswersLegally p site.block query (query_sql query)
answers_legally p bound site query alike told listed is args captured rows answer =
    let fit = listed_fit p bound told listed is in
    let over = (alike listed fit args captured rows).0 answer in
    record { fit = fit; over = over; legal = legal_answer p site.block told listed args rows is over }

pub executed_law : ExecutedLaw
executed_law p bound g one meant select is = by_found meant.found (sym meant.code ∙ is) meant.legal
  where
    by_found : (found : Inlined) → inlined_code found ≡ code.Select select → IsLegal p meant.site found → (query : Query) × (found ≡ inlined.Query query) × AnswersLegally p meant.site.block query select
    by_found (inlined.Query query) same legal =
        let sql_is : query_sql query ≡ select = cc in
        (query, refl, subst (AnswersLegally p meant.site.block query) sql_is (answers_legally p bound meant.site query legal))
    by_found (inlined.Change change) same legal = absurd cc
