-- The laws of inlining: what stands at a site gives what the program's text says (Cooper, The script-writer's dream, DBPL 2009).
use Rattle.std.specs.Prelude.{◌≡◌, Bool, true, ℕ, List, [], map, Some}
use Rattle.lk_ast.specs.Functions.{main_of}
use Rattle.lk_ast.specs.Layers.{Layer, layer}
use Rattle.lk_ast.specs.Rows.{row_value}
use Rattle.lk_ast.specs.Tables.{HaveColumns, Tables, row_fits}
use Rattle.lk_ast.specs.declared.declaration.FunDef.{FunDef}
use Rattle.lk_ast.specs.declared.declaration.Program.{Program}
use Rattle.lk_ast.specs.declared.event.Event.TheVariants.{Print, Enter, Leave, Read, Write}
use Rattle.lk_ast.specs.declared.event.Event.{Event}
use Rattle.lk_ast.specs.declared.expression.ChangeExpr.{ChangeExpr, out-ChangeExpr}
use Rattle.lk_ast.specs.declared.expression.Expr.{Expr}
use Rattle.lk_ast.specs.declared.expression.Node.TheOpen.{Node-F}
use Rattle.lk_ast.specs.declared.place.Loc.TheVariants.{Server}
use Rattle.lk_ast.specs.declared.table.Row.{Row}
use Rattle.lk_ast.specs.declared.table.TableDef.{TableDef}
use Rattle.lk_ast.specs.declared.value.Value.{Value}
use Rattle.lk_bag.specs.Blocks.{block_at, blocks_of}
use Rattle.lk_bag.specs.Change.{is_met, updated}
use Rattle.lk_bag.specs.Legal.{bag, captured_in, names_in}
use Rattle.lk_bodies.specs.Shapes.{columns_of, labels}
use Rattle.lk_evaluation.specs.Evaluation.{Primitive, Reading, Uses, Writing}
use Rattle.lk_evaluation.specs.Laws.{run_of}
use Rattle.lk_evaluation.specs.Run.{Entry, start}
use Rattle.lk_evaluation.specs.Source.{session, source, under}
use Rattle.lk_ground.specs.declared.program.GroundFun.{GroundFun}
use Rattle.lk_ground.specs.declared.program.GroundProgram.{GroundProgram}
use Rattle.lk_inline.specs.Inlined.{inlined_at}
use Rattle.lk_inline.specs.KindsOfTypes.{IsInOrder}
use Rattle.lk_locals.specs.Names.{Names, lookup_all}
use Rattle.lk_mono.specs.Grounded.{IsGrounded}
use Rattle.lk_mono.specs.Instanced.{HasInstances}
use Rattle.lk_names.specs.Programs.{IsBound}
use Rattle.lk_query.specs.Captured.{AreCaptured, leaves, query_values}
use Rattle.lk_query.specs.Changed.{ReadNoTable, changed, is_changed}
use Rattle.lk_query.specs.Given.{gives}
use Rattle.lk_query.specs.Kinds.{IsTyped, IsTypedChange, Kind}
use Rattle.lk_query.specs.Order.{AreOrdered}
use Rattle.lk_query.specs.declared.query.Captured.{Captured}
use Rattle.lk_query.specs.declared.query.Inlined.TheVariants as inlined
use Rattle.lk_query.specs.declared.query.Inlined.{Inlined}
use Rattle.lk_query.specs.declared.query.InlinedChange.{InlinedChange}
use Rattle.lk_query.specs.declared.query.Query.{Query}
use Rattle.lk_sites.specs.Blocks.{IsBlock}
use Rattle.lk_sites.specs.Sites.{Site, sites_of}
use Rattle.lk_sound.specs.Captures.{is_block}
use Rattle.lk_sound.specs.Law.{AreAnswered, AreBoundAndApart}
use Rattle.lk_sound.specs.Points.{AreLocals}
use Rattle.lk_sound.specs.Tables.{AreTables, table_at}
use Rattle.lk_sql.specs.Good.{are_in_order}
use Rattle.lk_types.specs.Each.{Each, OneOf}
use Rattle.lk_types.specs.declared.ground.Ground.{Ground}
use Rattle.lk_types.specs.declared.scheme.Scheme.{Scheme}
use Rattle.lk_types.specs.declared.ty.Ty.{Ty}

-- ---- types

-- the labels of a record stand in byte order, so that none is there twice, and so do those of the records in a list
pub record IsProperType (t : Ground) : Type 0 where
  pub columns : are_in_order (labels (columns_of t)) ≡ true
  pub elements : IsInOrder t

-- each type of a node in these functions is so
abbrev pub AreProper : List GroundFun → Type 0
AreProper fs = Each (λ (f : GroundFun). Each IsProperType f.types) fs

-- ---- what is kept

module _ (p : Program) (block : Expr) where
  -- over tables whose rows fit, and for all values of what it captures, its rows are those of the query, in the same order
  pub record KeepsBag (query : Query) : Type 0 where
    pub rows :
        (tables : Tables) → AreTables p tables → (args : List Value) → AreCaptured query.captured args
        → bag p tables block args ≡ map row_value (gives tables query.parts query.root (query_values query.captured (leaves args))).list

  -- for all values of what it captures and each row that its table may hold, the row changes where the text says so
  pub record KeepsTest (change : InlinedChange) (of : ChangeExpr) : Type 0 where
    pub test :
        (def : TableDef) → table_at p (out-ChangeExpr of).table.text ≡ Some def → (args : List Value) → AreCaptured change.captured args → (row : Row) → row_fits def row ≡ true
        → is_changed change (leaves args) row ≡ is_met p (names_in block args) of row

  -- and becomes what the text says
  pub record KeepsRows (change : InlinedChange) (of : ChangeExpr) : Type 0 where
    pub rows :
        (def : TableDef) → table_at p (out-ChangeExpr of).table.text ≡ Some def → (args : List Value) → AreCaptured change.captured args → (row : Row) → row_fits def row ≡ true
        → changed change (leaves args) row ≡ updated p (names_in block args) of row

  -- what is inlined means what stands there in the text
  pub data Keeps : Layer → Inlined → Type 0 where
    query : {l : Layer} {q : Query} → KeepsBag q → Keeps l (inlined.Query q)
    update : {l : Layer} {change : ChangeExpr} {c : InlinedChange} → l ≡ Node-F.Update change → KeepsTest c change → KeepsRows c change → Keeps l (inlined.Change c)
    delete : {l : Layer} {change : ChangeExpr} {c : InlinedChange} → l ≡ Node-F.Delete change → KeepsTest c change → Keeps l (inlined.Change c)

-- Where the program's names are bound and its instances are a closed set, what is inlined of a block in them keeps its meaning, if
-- the types of the nodes from the block on have their labels in order.
abbrev pub BlockLaw : Type 0
BlockLaw = (p : Program) → IsBound p → (g : GroundProgram) → (has : HasInstances p g) → (site : Site) → IsBlock p has.shaped.instances site.block site.types site.calls → Each IsProperType site.types
    → (found : Inlined) → inlined_at p g.helpers site ≡ Some found → Keeps p site.block (layer site.block) found

-- In the functions and the helpers of a ground program all types have.
abbrev pub TypesLaw : Type 0
TypesLaw = (p : Program) (schemes : List Scheme) (types : List Ty) (g : GroundProgram) → IsGrounded p schemes types g → AreProper g.funs × AreProper g.helpers

-- ---- what is captured

-- what is told of the values that the block captures
abbrev pub captured_of : Inlined → List Captured
captured_of (inlined.Query q) = q.captured
captured_of (inlined.Change c) = c.captured

-- a reading or a writing that begins at this place, with what it captured
abbrev pub done_with : Inlined → ℕ → List Value → Primitive
done_with (inlined.Query q) place args = Reading place args
done_with (inlined.Change c) place args = Writing place args

-- Under these local names the block captures values of the kinds that are told of them, and with these its evaluation in the
-- program reads or writes tables.
pub record Captures (p : Program) (block : Expr) (names : Names) (found : Inlined) : Type 0 where
  pub args : List Value
  pub values : lookup_all names (captured_in block) ≡ Some args
  pub are : AreCaptured (captured_of found) args
  pub does : (source p).act (under names block) [] ≡ Uses Server (done_with found block.span.start args)

-- Where the program's names are bound and its instances are a closed set, so it is with what is inlined of a block in them, if the
-- local names have values of their types.
abbrev pub CapturedLaw : Type 0
CapturedLaw = (p : Program) → IsBound p → (g : GroundProgram) → (has : HasInstances p g) → (site : Site) → (block : IsBlock p has.shaped.instances site.block site.types site.calls)
    → (names : Names) → AreLocals p has.shaped.instances block.locals names
    → (found : Inlined) → inlined_at p g.helpers site ≡ Some found → Captures p site.block names found

-- ---- what sessions capture

-- The block stands at one of the ground program's sites, and these values are of the kinds that are told of what it captures
-- there.
pub record IsOfSite (p : Program) (g : GroundProgram) (block : Expr) (args : List Value) : Type 0 where
  pub site : Site
  pub listed : OneOf (λ other. other ≡ site) (sites_of g)
  pub is : site.block ≡ block
  pub are : (found : Inlined) → inlined_at p g.helpers site ≡ Some found → AreCaptured (captured_of found) args

-- if a query, an update or a deletion begins at this place, it captured such values
abbrev pub CapturesThere : Program → GroundProgram → ℕ → List Value → Type 0
CapturesThere p g place args = (block : Expr) → block_at p place ≡ Some block → is_block (layer block) ≡ true → IsOfSite p g block args

-- the same of the query by which an event reads, and of the update or the deletion by which it writes
abbrev pub CapturesIn : Program → GroundProgram → Event → Type 0
CapturesIn p g (Print bytes) = Unit {0}
CapturesIn p g Enter = Unit {0}
CapturesIn p g Leave = Unit {0}
CapturesIn p g (Read e) = CapturesThere p g e.site e.args
CapturesIn p g (Write e) = CapturesThere p g e.site e.args

-- So it is in each session of a program whose names are bound and whose functions, lambdas, queries and changes begin at places of
-- their own, if its instances are a closed set and each reading is answered by its bag over some tables that fit.
abbrev pub SessionCapturedLaw : Type 0
SessionCapturedLaw = (p : Program) → AreBoundAndApart p → (g : GroundProgram) → HasInstances p g → (main : FunDef) → main_of p ≡ Some main
    → (arg : List ℕ) (fuel : ℕ) (answers : List (List Row)) → AreAnswered p (session p main arg (start fuel answers))
    → Each (λ (entry : Entry). CapturesIn p g entry.event) (run_of (session p main arg (start fuel answers))).log

-- ---- kinds

-- Each part of what is inlined stands behind its own parts and gives a thing of its kind, that of a query where tables have columns,
-- since a reading gives all columns of its table. A change reads no table.
pub data HasKinds (p : Program) : Inlined → Type 0 where
  query : {q : Query} (kinds : ℕ → Kind) (scopes : ℕ → ℕ → Bool) → AreOrdered q.parts → (HaveColumns p → IsTyped kinds scopes q) → HasKinds p (inlined.Query q)
  change : {c : InlinedChange} (kinds : ℕ → Kind) (scopes : ℕ → ℕ → Bool) → AreOrdered c.parts → IsTypedChange kinds scopes c → ReadNoTable c.parts → HasKinds p (inlined.Change c)

-- So it is of what is inlined of a block of the program's text, where the types of the nodes from the block on have their labels in
-- order, and those in the helpers have, too.
abbrev pub KindsLaw : Type 0
KindsLaw = (p : Program) → IsBound p → (g : GroundProgram) → (has : HasInstances p g) → AreProper g.helpers
    → (site : Site) → IsBlock p has.shaped.instances site.block site.types site.calls → OneOf (λ other. other ≡ site.block) (blocks_of p) → Each IsProperType site.types
    → (found : Inlined) → inlined_at p g.helpers site ≡ Some found → HasKinds p found
