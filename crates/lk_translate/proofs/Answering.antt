-- The SQL of a query may be answered with just what the reading may be answered with.
use Rattle.std.proofs.Common.{◌≡◌, refl, sym, ap, subst, Bool, true, false, List, map, Some, None}
use Rattle.std.proofs.lemmas.List.Sorted.{IsPermutation-map, IsPermutation-sym, IsPermutation-trans}
use Rattle.std.specs.Prelude.{IsPermutation}
use Rattle.lk_ast.specs.Layers.{Layer, layer}
use Rattle.lk_ast.specs.Rows.{row_value}
use Rattle.lk_ast.specs.declared.declaration.Program.{Program}
use Rattle.lk_ast.specs.declared.expression.Node.TheOpen.{Node-F}
use Rattle.lk_ast.specs.declared.table.Row.{Row}
use Rattle.lk_ast.specs.declared.value.Value.{Value}
use Rattle.lk_ast.specs.Tables.{Tables}
use Rattle.lk_bag.specs.Legal.{IsAnsweredOver, bag, keys_at}
use Rattle.lk_ground.specs.declared.program.GroundProgram.{GroundProgram}
use Rattle.lk_inline.specs.Inlined.{change_at, inlined_at, inlined_by, key_of, query_at, reading_at}
use Rattle.lk_inline.specs.Law.{BlockLaw, IsProperType, Keeps, KeepsBag}
use Rattle.lk_inline.specs.Law as keeps
use Rattle.lk_mono.specs.Instanced.{HasInstances}
use Rattle.lk_names.specs.Programs.{IsBound}
use Rattle.lk_norm.specs.Law.{PermutedLaw}
use Rattle.lk_norm.specs.Sql.{query_sql}
use Rattle.lk_query.specs.Captured.{AreCaptured, leaves, query_values}
use Rattle.lk_query.specs.Given.{gives}
use Rattle.lk_query.specs.declared.query.Inlined.{Inlined}
use Rattle.lk_query.specs.declared.query.Inlined.TheVariants as inlined
use Rattle.lk_query.specs.declared.query.Query.{Query}
use Rattle.lk_sites.specs.Blocks.{IsBlock}
use Rattle.lk_sites.specs.Sites.{Site}
use Rattle.lk_sound.specs.Instances.{Instances}
use Rattle.lk_sound.specs.Tables.{AreTables}
use Rattle.lk_sql.specs.Keys as sql
use Rattle.lk_sql.specs.Meaning.{all_rows, no_rows}
use Rattle.lk_translate.proofs.Ordering.{HaveLabels, sorted_back, sorted_same}
use Rattle.lk_translate.proofs.Reading.{HasFields, field_labels, labels_of_answer, query_fields, reading_fields}
use Rattle.lk_translate.proofs.RowsBack.{rows_back}
use Rattle.lk_translate.specs.Law.{AnswerLaw, AnswersAlike}
use Rattle.lk_types.proofs.Parts.{same_some}
use Rattle.lk_types.specs.Each.{Each}

-- a query at a site: its keys are those of the text, and what it reads are records with some fields
record IsReading (p : Program) (i : Instances) (site : Site) (query : Query) : Type 0 where
  keys : query.keys ≡ map key_of (keys_at (layer site.block))
  fields : HasFields p i site.block query.captured

-- the query of what is inlined, if it is one
abbrev query_or : Query → Inlined → Query
query_or other (inlined.Query query) = query
query_or other (inlined.Change change) = other

abbrev is_query : Inlined → Bool
is_query (inlined.Query query) = true
is_query (inlined.Change change) = false

-- what keeps its meaning at a site, if it is this query
bag_kept : (p : Program) (site : Site) (query : Query) (l : Layer) (found : Inlined) → found ≡ inlined.Query query → Keeps p site.block l found → KeepsBag p site.block query
bag_kept p site query l _ is (keeps.query kept) = subst (KeepsBag p site.block) (ap (query_or query) is) kept
bag_kept p site query l _ is (keeps.update layers test rows) = let wrong : false ≡ true = ap is_query is in absurd cc
bag_kept p site query l _ is (keeps.delete layers test) = let wrong : false ≡ true = ap is_query is in absurd cc

module _ (p : Program) (bound : IsBound p) (g : GroundProgram) (has : HasInstances p g) (site : Site) (block : IsBlock p has.shaped.instances site.block site.types site.calls) (query : Query) where
  abbrev i : Instances
  i = has.shaped.instances

  -- what is found is this query
  found_is : (made : Inlined) → Some made ≡ Some (inlined.Query query) → made ≡ inlined.Query query
  found_is made at = same_some at

  reading : (l : Layer) → layer site.block ≡ l → inlined_by p g.helpers site l ≡ Some (inlined.Query query) → IsReading p i site query
  reading (Node-F.Query keys body) is at =
      subst (IsReading p i site) (ap (query_or query) (found_is (query_at p g.helpers site keys body) at))
      (record { keys = sym (ap (λ l. map key_of (keys_at l)) is); fields = query_fields p bound g has site block keys body is })
  reading (Node-F.Table name) is at =
      subst (IsReading p i site) (ap (query_or query) (found_is (reading_at p g.helpers site name) at))
      (record { keys = sym (ap (λ l. map key_of (keys_at l)) is); fields = reading_fields p bound g has site block name is })
  reading (Node-F.Update change) is at = let wrong : false ≡ true = ap is_query (found_is (change_at p g.helpers site change) at) in absurd cc
  reading (Node-F.Delete change) is at = let wrong : false ≡ true = ap is_query (found_is (change_at p g.helpers site change) at) in absurd cc
  reading other is at = let wrong : None ≡ Some (inlined.Query query) = at in absurd cc

  module _ (kept : KeepsBag p site.block query) (permuted : PermutedLaw) (read : IsReading p i site query) (tables : Tables) (are : AreTables p tables) (args : List Value) (so : AreCaptured query.captured args) (answer : List Row) where
    abbrev given : List Row
    given = (gives tables query.parts query.root (query_values query.captured (leaves args))).list

    abbrev shown : List Row
    shown = all_rows tables (leaves args) (query_sql query).selects no_rows

    -- what the reading gives are the values of what is given
    same_bag : bag p tables site.block args ≡ map row_value given
    same_bag = kept.rows tables are args so

    same_rows : IsPermutation shown given
    same_rows = permuted query tables (leaves args)

    labels : IsPermutation (bag p tables site.block args) (map row_value answer) → HaveLabels (field_labels read.fields.fields) answer
    labels bags = labels_of_answer p i site.block query.captured read.fields tables are args so answer bags

    of_sql : sql.IsAnswer tables (leaves args) (query_sql query) answer → IsAnsweredOver p tables site.block args answer
    of_sql answered =
        let rows : IsPermutation given answer = IsPermutation-trans given shown answer (IsPermutation-sym shown given same_rows) answered.0 in
        let bags : IsPermutation (bag p tables site.block args) (map row_value answer) = subst (λ values. IsPermutation values (map row_value answer)) (sym same_bag) (IsPermutation-map row_value given answer rows) in
        let sorted : sql.AreSorted (map key_of (keys_at (layer site.block))) answer = subst (λ keys. sql.AreSorted keys answer) read.keys answered.1 in
        (bags, sorted_same (keys_at (layer site.block)) _ answer (labels bags) sorted)

    in_sql : IsAnsweredOver p tables site.block args answer → sql.IsAnswer tables (leaves args) (query_sql query) answer
    in_sql answered =
        let rows : IsPermutation given answer = rows_back given answer (subst (λ values. IsPermutation values (map row_value answer)) same_bag answered.0) in
        let sorted : sql.AreSorted (map key_of (keys_at (layer site.block))) answer = sorted_back (keys_at (layer site.block)) _ answer (labels answered.0) answered.1 in
        (IsPermutation-trans shown given answer same_rows rows, subst (λ keys. sql.AreSorted keys answer) (sym read.keys) sorted)

  pub answers : BlockLaw → PermutedLaw → Each IsProperType site.types → inlined_at p g.helpers site ≡ Some (inlined.Query query) → AnswersAlike p site query
  answers blocks permuted proper at tables are args so answer =
      let read : IsReading p i site query = reading (layer site.block) refl at in
      let kept : KeepsBag p site.block query = bag_kept p site query (layer site.block) (inlined.Query query) refl (blocks p bound g has site block proper (inlined.Query query) at) in
      (of_sql kept permuted read tables are args so answer, in_sql kept permuted read tables are args so answer)

pub answered-legally : BlockLaw → PermutedLaw → AnswerLaw
answered-legally blocks permuted p bound g has site block proper query at = answers p bound g has site block query blocks permuted proper at
