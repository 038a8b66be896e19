-- Conditions and new values of updates and deletions mean what their evaluation comes to where the change stands, row by row.
use Rattle.std.specs.Prelude.{◌≡◌, ℕ, ◌+◌, ◌<◌, true, List, Option, Some, None, find}
use Rattle.lk_ast.specs.Layers.{Layer, layer}
use Rattle.lk_ast.specs.Rows.{row_value}
use Rattle.lk_ast.specs.Tables.{row_fits}
use Rattle.lk_ast.specs.declared.declaration.Program.{Program}
use Rattle.lk_ast.specs.declared.expression.ChangeExpr.{ChangeExpr, out-ChangeExpr}
use Rattle.lk_ast.specs.declared.expression.Expr.{Expr}
use Rattle.lk_ast.specs.declared.expression.Node.TheOpen.{Node-F}
use Rattle.lk_ast.specs.declared.expression.PartExpr.{PartExpr}
use Rattle.lk_ast.specs.declared.place.Loc.TheVariants.{Server}
use Rattle.lk_ast.specs.declared.table.Cell.{Cell}
use Rattle.lk_ast.specs.declared.table.Row.{Row}
use Rattle.lk_ast.specs.declared.table.TableDef.{TableDef}
use Rattle.lk_ast.specs.declared.value.Value.{Value}
use Rattle.lk_ast.specs.declared.value.Value.TheVariants as value
use Rattle.lk_bag.specs.Change.{is_met, sets_label, updated}
use Rattle.lk_bag.specs.Legal.{names_in}
use Rattle.lk_evaluation.specs.Evaluation.{eval}
use Rattle.lk_evaluation.specs.Laws.{Both}
use Rattle.lk_evaluation.specs.Run.{Run, Out, Goes, Stops, Spent}
use Rattle.lk_evaluation.specs.Source.{Point, source, under}
use Rattle.lk_index.specs.Free.{captured_change}
use Rattle.lk_locals.specs.Names.{Names, bind, lookup_all}
use Rattle.lk_operators.specs.Values.{truth}
use Rattle.lk_sound.specs.Instances.{Instances, AreClosed}
use Rattle.lk_sound.specs.Law.{AreBoundAndApart}
use Rattle.lk_sound.specs.Points.{IsPoint}
use Rattle.lk_sound.specs.Tables.{table_at}
use Rattle.lk_types.specs.Rows.{EffectSet}
use Rattle.lk_types.specs.declared.ground.Ground.{Ground}

-- ---- runs that only calculate

-- nothing was logged and nothing taken
pub record IsStill (before after : Run) : Type 0 where
  pub log : after.log ≡ before.log
  pub answers : after.answers ≡ before.answers
  pub returns : after.returns ≡ before.returns

-- it comes to this value with so much fuel used, or it is spent, where there is less fuel than that
abbrev pub IsCalculated : Value → ℕ → Run → Out Value → Type 0
IsCalculated v fuel before (Goes w after) = (w ≡ v) × (before.fuel ≡ fuel + after.fuel) × IsStill before after
IsCalculated v fuel before (Stops Spent after) = (before.fuel < fuel) × IsStill before after
IsCalculated v fuel before (Stops other after) = ⊥

-- there is a number of nodes with which it comes to the value from any run
pub record Calculates (v : Value) (evaluates : Run → Out Value) : Type 0 where
  pub fuel : ℕ
  pub comes : (r : Run) → IsCalculated v fuel r (evaluates r)

-- ---- updates and deletions

module _ (p : Program) (change : ChangeExpr) (names : Names) (row : Row) where
  -- what stands in the change, evaluated at the server under the names where it stands, its name bound to this row
  abbrev pub in_row : Expr → Run → Out Value
  in_row e = eval (source p) (under (bind (out-ChangeExpr change).name.text (row_value row) names) e) Server

  -- what a column is set to
  abbrev pub IsSetTo : Option PartExpr → Cell → Cell → Type 0
  IsSetTo None old new = new ≡ old
  IsSetTo (Some part) old new = (new.label ≡ old.label) × Calculates (value.Base new.value) (in_row part.expr)

  abbrev pub IsSet : Cell → Cell → Type 0
  IsSet old new = IsSetTo (find (sets_label old.label) (out-ChangeExpr change).sets) old new

-- A change where it stands: what it captures there. With that, each row of its table that fits is changed just where the condition, in its
-- place, comes to true, and each of its cells is set to what the new value comes to, if there is one for it.
pub record IsChangeInPlace (p : Program) (block : Expr) (change : ChangeExpr) (names : Names) : Type 0 where
  pub args : List Value
  pub captured : lookup_all names (captured_change change) ≡ Some args
  pub tests : (def : TableDef) → table_at p (out-ChangeExpr change).table.text ≡ Some def → (row : Row) → row_fits def row ≡ true
      → Calculates (truth (is_met p (names_in block args) change row)) (in_row p change names row (out-ChangeExpr change).cond)
  pub sets : (def : TableDef) → table_at p (out-ChangeExpr change).table.text ≡ Some def → (row : Row) → row_fits def row ≡ true
      → is_met p (names_in block args) change row ≡ true → Both (IsSet p change names row) row.cells (updated p (names_in block args) change row).cells

-- the change of an update or a deletion
abbrev pub IsChangeOf : Layer → ChangeExpr → Type 0
IsChangeOf (Node-F.Update change) other = change ≡ other
IsChangeOf (Node-F.Delete change) other = change ≡ other
IsChangeOf other change = ⊥

-- So it is for each update and deletion that a program comes to.
abbrev pub ChangesLaw : Type 0
ChangesLaw = (p : Program) → AreBoundAndApart p → (i : Instances) → AreClosed p i
    → (effects : EffectSet) (t : Ground) (point : Point) → IsPoint p i effects t point
    → (change : ChangeExpr) → IsChangeOf (layer point.expr) change
    → IsChangeInPlace p point.expr change point.names
