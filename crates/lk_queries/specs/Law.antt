-- An expression has two meanings: what its evaluation comes to, and what it gives in a query. The law that they are the same, where
-- readings of tables are answered by what the tables list.
use Rattle.std.specs.Prelude.{◌≡◌, ℕ, ◌+◌, ◌<◌, Bool, true, false, List, [], ◌++◌, Some, map}
use Rattle.lk_ast.specs.Layers.{layer}
use Rattle.lk_ast.specs.Rows.{row_value, rows_value}
use Rattle.lk_ast.specs.Tables.{Tables, tables_of}
use Rattle.lk_ast.specs.declared.declaration.Program.{Program}
use Rattle.lk_ast.specs.declared.event.Event.{Event}
use Rattle.lk_ast.specs.declared.event.Event.TheVariants.{Print, Enter, Leave, Read, Write}
use Rattle.lk_ast.specs.declared.expression.Expr.{Expr}
use Rattle.lk_ast.specs.declared.expression.Node.TheOpen.{Node-F}
use Rattle.lk_ast.specs.declared.expression.SortKey.{SortKey}
use Rattle.lk_ast.specs.declared.place.Loc.TheVariants.{Server}
use Rattle.lk_ast.specs.declared.table.Row.{Row}
use Rattle.lk_ast.specs.declared.value.Value.{Value}
use Rattle.lk_bag.specs.Bag.{gives}
use Rattle.lk_bag.specs.Blocks.{block_at}
use Rattle.lk_bag.specs.Legal.{bag}
use Rattle.lk_evaluation.specs.Evaluation.{eval}
use Rattle.lk_evaluation.specs.Run.{Run, Entry, Out, Goes, Stops, Spent, Within, answers_in, events_of}
use Rattle.lk_evaluation.specs.Source.{Point, source, under}
use Rattle.lk_index.specs.Free.{captured_query}
use Rattle.lk_locals.specs.Names.{Names, lookup_all}
use Rattle.lk_sound.specs.Instances.{Instances, AreClosed, IsFlatPart}
use Rattle.lk_sound.specs.Law.{AreBoundAndApart}
use Rattle.lk_sound.specs.Nodes.{nodes_of, parts_of}
use Rattle.lk_sound.specs.Points.{AreBlocksOf, AreLocals, IsPoint}
use Rattle.lk_sound.specs.Tables.{AreTables}
use Rattle.lk_types.specs.Each.{Each}
use Rattle.lk_types.specs.Rows.{EffectSet}
use Rattle.lk_types.specs.declared.ground.Ground.{Ground}
use Rattle.lk_types.specs.declared.ty.Effect.{Effect}
use Rattle.lk_types.specs.declared.ty.Effect.TheVariants as effect
use Rattle.lk_typing.specs.Names.{Named, Entry as FunctionEntry}
use Rattle.lk_typing.specs.Typing.{HasType}

-- no effect but that of reading tables
abbrev pub AtMostScan : EffectSet → Type 0
AtMostScan effects = (e : Effect) → effects e ≡ true → e ≡ effect.Scan

-- ---- runs that only read

module _ (p : Program) (tables : Tables) where
  -- a reading of the program that was answered by just what it gives over these tables, in that order
  abbrev pub IsListing : Event → Type 0
  IsListing (Read e) = (block : Expr) × (block_at p e.site ≡ Some block) × (bag p tables block e.args ≡ map row_value e.answer)
  IsListing (Print bytes) = ⊥
  IsListing Enter = ⊥
  IsListing Leave = ⊥
  IsListing (Write e) = ⊥

  abbrev pub IsListed : Entry → Type 0
  IsListed entry = IsListing entry.event × (entry.crossing ≡ Within)

  -- From one run to another nothing happens but such readings: their answers come off the front of the answers, the returns are
  -- kept.
  pub record Reads (before after : Run) : Type 0 where
    pub more : List Entry
    pub log : after.log ≡ before.log ++ more
    pub listed : Each IsListed more
    pub taken : before.answers ≡ answers_in (events_of more) ++ after.answers
    pub returns : after.returns ≡ before.returns

  -- these answers are still there, behind others
  abbrev pub HasLeft : List (List Row) → Run → Type 0
  HasLeft later after = (left : List (List Row)) × (after.answers ≡ left ++ later)

  -- It comes to this value with so much fuel used and with just these answers left; or it is spent, where there is less fuel than
  -- that, with no fewer left.
  abbrev pub EndsWith : (A : Type 0) → A → ℕ → List (List Row) → Run → Out A → Type 0
  EndsWith A v fuel later before (Goes w after) = (w ≡ v) × (before.fuel ≡ fuel + after.fuel) × (after.answers ≡ later) × Reads before after
  EndsWith A v fuel later before (Stops Spent after) = (before.fuel < fuel) × HasLeft later after × Reads before after
  EndsWith A v fuel later before (Stops other after) = ⊥

  -- There are a number of nodes and a list of answers with which it comes to the value from any run that begins with these
  -- answers. What doesn't scan tables takes none.
  pub record Ends (scans : Bool) (A : Type 0) (v : A) (evaluates : Run → Out A) : Type 0 where
    pub fuel : ℕ
    pub answers : List (List Row)
    pub silent : scans ≡ false → answers ≡ []
    pub ends : (r : Run) (later : List (List Row)) → r.answers ≡ answers ++ later → EndsWith A v fuel later r (evaluates r)

-- ---- the law

-- An expression typed as the body of a query is, which does no more than read tables and is flat, as all that stands in queries,
-- under names with values of their types, over tables whose rows fit, is evaluated at the server to what it gives.
abbrev pub QueryLaw : Type 0
QueryLaw = (p : Program) → AreBoundAndApart p → (i : Instances) → AreClosed p i → (tables : Tables) → AreTables p tables
    → (functions : Named (FunctionEntry Ground)) (locals : Named Ground) (effects : EffectSet) (e : Expr) (t : Ground) (inside : List Ground) (typed : HasType functions (tables_of p) locals effects e t inside)
    → AtMostScan effects → Each (IsFlatPart i.helpers) (parts_of (nodes_of true typed)) → AreBlocksOf p e
    → (names : Names) → AreLocals p i locals names
    → Ends p tables (effects effect.Scan) _ (gives p tables e names) (eval (source p) (under names e) Server)

-- A query where it stands: what it captures there, and its rows over the tables. Its body, evaluated in its place at the server, comes
-- to just these rows.
pub record IsInPlace (p : Program) (tables : Tables) (query body : Expr) (names : Names) : Type 0 where
  pub args : List Value
  pub answer : List Row
  pub captured : lookup_all names (captured_query body) ≡ Some args
  pub bag_is : bag p tables query args ≡ map row_value answer
  pub ends : Ends p tables true Value (rows_value answer) (eval (source p) (under names body) Server)

-- So it is for each query that a program comes to.
abbrev pub InPlaceLaw : Type 0
InPlaceLaw = (p : Program) → AreBoundAndApart p → (i : Instances) → AreClosed p i → (tables : Tables) → AreTables p tables
    → (effects : EffectSet) (t : Ground) (point : Point) → IsPoint p i effects t point
    → (keys : List SortKey) (body : Expr) → layer point.expr ≡ Node-F.Query keys body
    → IsInPlace p tables point.expr body point.names
