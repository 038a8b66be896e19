-- What a database may answer to SQL is what the bodies of queries come to in their places.
use Rattle.std.proofs.Common.{◌≡◌, sym, ap, ◌∙◌, subst, List, [], ◌∷◌, Some}
use Rattle.std.specs.Prelude.{◌↔◌}
use Rattle.lk_ast.specs.Functions.{functions_of}
use Rattle.lk_ast.specs.Layers.{layer}
use Rattle.lk_ast.specs.Tables.{Tables}
use Rattle.lk_ast.specs.declared.declaration.FunDef.{FunDef}
use Rattle.lk_ast.specs.declared.declaration.Program.{Program}
use Rattle.lk_ast.specs.declared.expression.Expr.{Expr}
use Rattle.lk_ast.specs.declared.expression.Node.TheOpen.{Node-F}
use Rattle.lk_ast.specs.declared.expression.SortKey.{SortKey}
use Rattle.lk_ast.specs.declared.table.Row.{Row}
use Rattle.lk_bag.specs.Blocks.{blocks_of}
use Rattle.lk_bag.specs.Legal.{IsAnsweredOver, captured_by}
use Rattle.lk_ground.specs.declared.program.GroundProgram.{GroundProgram}
use Rattle.lk_inline.specs.Inlined.{inlined_at}
use Rattle.lk_inline.specs.Law.{CapturedLaw, Captures}
use Rattle.lk_locals.specs.Names.{Names, lookup_all}
use Rattle.lk_mono.specs.Instanced.{HasInstances}
use Rattle.lk_norm.specs.Sql.{query_sql}
use Rattle.lk_query.specs.Captured.{AreCaptured, leaves}
use Rattle.lk_query.specs.declared.query.Inlined.{Inlined}
use Rattle.lk_query.specs.declared.query.Inlined.TheVariants as inlined
use Rattle.lk_query.specs.declared.query.Query.{Query}
use Rattle.lk_sites.specs.Law.{IsSiteOf, SitesLaw}
use Rattle.lk_sites.specs.Sites.{Site, sites_of}
use Rattle.lk_sound.proofs.BlocksInside.{bodies_blocks}
use Rattle.lk_sound.proofs.TextBlocks.{function_blocks, insides_blocks}
use Rattle.lk_sound.specs.Law.{AreBoundAndApart}
use Rattle.lk_sound.specs.Points.{AreBlocksOf, AreLocals}
use Rattle.lk_sound.specs.Tables.{AreTables}
use Rattle.lk_sql.specs.Keys as sql
use Rattle.lk_sql.specs.declared.tree.Sql.{Sql}
use Rattle.lk_translate.specs.Law.{AnswersAlike, ChangesLegally, IsLegal, IsMeant, TranslationLaw}
use Rattle.lk_translate.specs.Translation.{inlined_code}
use Rattle.lk_translate.specs.declared.translated.Code.TheVariants as code
use Rattle.lk_translate.specs.declared.translated.Translated.{Translated}
use Rattle.lk_types.proofs.Members.{each_in, each_of_in}
use Rattle.lk_types.proofs.Parts.{same_some}
use Rattle.lk_types.specs.Each.{Each, OneOf}
use Rattle.lk_queries.specs.Database.{DatabaseLaw, IsMeantInPlace, IsOfDatabase}
use Rattle.lk_queries.specs.Keys.{AreAnswers, IsAnsweredInPlace}
use Rattle.lk_queries.proofs.Giving.{IsTypedQuery, typed_query}
use Rattle.lk_queries.proofs.Keyed.{answered_in_place, answers_given}

-- what acts on tables in a block of the program is some of the program
blocks_in_blocks : (p : Program) (block : Expr) → OneOf (λ other. other ≡ block) (blocks_of p) → AreBlocksOf p block
blocks_in_blocks p block of_text =
    each_in (AreBlocksOf p) (blocks_of p) block of_text
    (bodies_blocks (AreBlocksOf p) (λ e blocks. insides_blocks p e blocks) (functions_of p) (each_of_in (λ (f : FunDef). AreBlocksOf p f.body) (functions_of p) (λ f declared. function_blocks p f declared)))

-- one after the other
both_ways : {A B C : Type 0} → A ↔ B → B ↔ C → A ↔ C
both_ways first second = (λ a. second.0 (first.0 a), λ c. first.1 (second.1 c))

turned : {A B : Type 0} → A ↔ B → B ↔ A
turned one = (one.1, one.0)

module _ (p : Program) (apart : AreBoundAndApart p) (g : GroundProgram) (has : HasInstances p g) (captured : CapturedLaw) where
  module _ (site : Site) (is : IsSiteOf p g has site) (keys : List SortKey) (body : Expr) (layer_is : layer site.block ≡ Node-F.Query keys body) (query : Query) (alike : AnswersAlike p site query) where
    of_database : (tables : Tables) → AreTables p tables → (names : Names) → AreLocals p has.shaped.instances is.block.locals names → Captures p site.block names (inlined.Query query) → IsOfDatabase p tables site.block keys body (query_sql query) names
    of_database tables rows names fit its =
        let typed : IsTypedQuery p has.shaped.instances is.block.functions is.block.locals body =
        typed_query p has.shaped.instances is.block.functions is.block.locals is.block.effects site.block is.block.type is.block.inside is.block.typed is.block.fine keys body layer_is in
        let blocks : AreBlocksOf p site.block = blocks_in_blocks p site.block is.of_text in
        let one : IsAnsweredInPlace p tables site.block keys body names = answered_in_place p apart has.shaped.instances has.shaped.closed tables rows is.block.functions is.block.locals site.block keys body layer_is typed blocks names fit in
        let same : its.args ≡ one.args = same_some (sym its.values ∙ ap (λ l. lookup_all names (captured_by l)) layer_is ∙ one.captured) in
        let kinds : AreCaptured query.captured one.args = subst (AreCaptured query.captured) same its.are in
        let given = answers_given p apart has.shaped.instances has.shaped.closed tables rows is.block.functions is.block.locals site.block keys body layer_is typed blocks names fit one.args one.captured in
        let sql_is : (answer : List Row) → sql.IsAnswer tables (leaves one.args) (query_sql query) answer ↔ IsAnsweredOver p tables site.block one.args answer = λ answer. alike tables rows one.args kinds answer in
        record {
          args = one.args;
          captured = one.captured;
          legal = λ answer. both_ways (both_ways (sql_is answer) (given.over answer)) (turned (given.legal answer));
          answered = λ v came.
              let are : AreAnswers p tables site.block keys one.args v = one.answered v came in
              record { rows = are.rows; is = are.is; answers = λ answer. both_ways (sql_is answer) (are.over answer) };
        }

  meant_in_place : (one : Translated) → IsMeant p g one → SitesLaw → IsMeantInPlace p g has one
  meant_in_place one meant sites =
      let site : Site = meant.site in
      let is : IsSiteOf p g has site = each_in (IsSiteOf p g has) (sites_of g) site meant.listed (sites p g has) in
      record {
        site = site;
        listed = meant.listed;
        label = meant.label;
        span = meant.span;
        block = is.block;
        means = λ keys body layer_is. by_found is keys body layer_is meant.found meant.there meant.code meant.legal;
      }
    where
      by_found : (is : IsSiteOf p g has meant.site) (keys : List SortKey) (body : Expr) → layer meant.site.block ≡ Node-F.Query keys body → (found : Inlined) → inlined_at p g.helpers meant.site ≡ Some found → one.code ≡ inlined_code found → IsLegal p meant.site found
          → (select : Sql) × (one.code ≡ code.Select select)
          × ((tables : Tables) → AreTables p tables → (names : Names) → AreLocals p has.shaped.instances is.block.locals names → IsOfDatabase p tables meant.site.block keys body select names)
      by_found is keys body layer_is (inlined.Query query) there code_is legal = (
        query_sql query,
        code_is,
        λ tables rows names fit. of_database meant.site is keys body layer_is query legal tables rows names fit (captured p apart.bound g has meant.site is.block names fit (inlined.Query query) there),
      )
      by_found is keys body layer_is (inlined.Change change) there code_is legal = absurd (subst (ChangesLegally p meant.site change) layer_is legal)

each_meant : {A : Type 0} (P Q : A → Type 0) → ((x : A) → P x → Q x) → (xs : List A) → Each P xs → Each Q xs
each_meant P Q imply [] all = tt
each_meant P Q imply (x ∷ xs) all = (imply x all.0, each_meant P Q imply xs all.1)

pub database_law : TranslationLaw → SitesLaw → CapturedLaw → DatabaseLaw
database_law translated sites captured p apart schemes types g grounded has all are =
    each_meant (IsMeant p g) (IsMeantInPlace p g has) (λ one meant. meant_in_place p apart g has captured one meant sites) all (translated p apart.bound schemes types g grounded has all are)
