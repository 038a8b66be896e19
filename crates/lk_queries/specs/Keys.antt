-- What a query may be answered with, by what its body comes to: just these rows, in any order that its keys allow.
use Rattle.std.specs.Prelude.{◌≡◌, ◌↔◌, List, [], ◌∷◌, ◌++◌, Some, IsPermutation}
use Rattle.lk_ast.specs.Layers.{layer}
use Rattle.lk_ast.specs.Rows.{rows_value}
use Rattle.lk_ast.specs.Tables.{Tables}
use Rattle.lk_ast.specs.declared.declaration.Program.{Program}
use Rattle.lk_ast.specs.declared.expression.Expr.{Expr}
use Rattle.lk_ast.specs.declared.expression.Node.TheOpen.{Node-F}
use Rattle.lk_ast.specs.declared.expression.SortKey.{SortKey}
use Rattle.lk_ast.specs.declared.place.Loc.TheVariants.{Server}
use Rattle.lk_ast.specs.declared.table.Row.{Row}
use Rattle.lk_ast.specs.declared.value.Value.{Value}
use Rattle.lk_bag.specs.Legal.{AreSorted, IsAnswer, IsAnsweredOver, IsLegal, may_stand_before}
use Rattle.lk_evaluation.specs.Evaluation.{eval}
use Rattle.lk_evaluation.specs.Run.{Run, Entry, Goes, events_of}
use Rattle.lk_evaluation.specs.Source.{Point, source, under}
use Rattle.lk_index.specs.Free.{captured_query}
use Rattle.lk_locals.specs.Names.{Names, lookup_all}
use Rattle.lk_sort.specs.Sorting.{merged}
use Rattle.lk_sound.specs.Instances.{Instances, AreClosed}
use Rattle.lk_sound.specs.Law.{AreBoundAndApart}
use Rattle.lk_sound.specs.Points.{IsPoint}
use Rattle.lk_sound.specs.Tables.{AreTables}
use Rattle.lk_types.specs.Rows.{EffectSet}
use Rattle.lk_types.specs.declared.ground.Ground.{Ground}

-- the rows sorted by keys
abbrev pub in_order : List SortKey → List Row → List Row
in_order keys [] = []
in_order keys (row ∷ rows) = merged (may_stand_before keys) (row ∷ []) (in_order keys rows)

-- The value is a list of rows, and with what it captured the query may be answered with just these rows, sorted by its keys: so with
-- the rows that sorting makes of them.
pub record AreAnswers (p : Program) (tables : Tables) (query : Expr) (keys : List SortKey) (args : List Value) (v : Value) : Type 0 where
  pub rows : List Row
  pub is : v ≡ rows_value rows
  pub legal : (answer : List Row) → IsAnswer p tables query args answer ↔ (IsPermutation rows answer × AreSorted keys answer)
  -- in whatever order the tables list their rows
  pub over : (answer : List Row) → IsAnsweredOver p tables query args answer ↔ (IsPermutation rows answer × AreSorted keys answer)
  pub sorted : IsAnswer p tables query args (in_order keys rows)

-- A body, evaluated at the server with these local names in a legal history from these tables, came to a value.
pub record CameTo (p : Program) (tables : Tables) (body : Expr) (names : Names) (v : Value) : Type 0 where
  pub before : Run
  pub after : Run
  pub more : List Entry
  pub others : Tables
  pub comes : eval (source p) (under names body) Server before ≡ Goes v after
  pub log : after.log ≡ before.log ++ more
  pub legal : IsLegal p tables (events_of more) others

-- A query where it stands: what it captures there. Whatever its body comes to in its place tells the query's answers.
pub record IsAnsweredInPlace (p : Program) (tables : Tables) (query : Expr) (keys : List SortKey) (body : Expr) (names : Names) : Type 0 where
  pub args : List Value
  pub captured : lookup_all names (captured_query body) ≡ Some args
  pub answered : (v : Value) → CameTo p tables body names v → AreAnswers p tables query keys args v

-- So it is for each query that a program comes to.
abbrev pub AnswersLaw : Type 0
AnswersLaw = (p : Program) → AreBoundAndApart p → (i : Instances) → AreClosed p i → (tables : Tables) → AreTables p tables
    → (effects : EffectSet) (t : Ground) (point : Point) → IsPoint p i effects t point
    → (keys : List SortKey) (body : Expr) → layer point.expr ≡ Node-F.Query keys body
    → IsAnsweredInPlace p tables point.expr keys body point.names
