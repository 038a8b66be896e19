-- A typed expression of an instance, with what is still to come in the instance's body from its own node on.
use Rattle.std.specs.Prelude.{ℕ, false, List}
use Rattle.lk_ast.specs.Tables.{tables_of}
use Rattle.lk_ast.specs.declared.declaration.Program.{Program}
use Rattle.lk_ast.specs.declared.expression.Expr.{Expr}
use Rattle.lk_sites.specs.Pending.{Pending, pending}
use Rattle.lk_sites.specs.Takes.{Takes}
use Rattle.lk_sound.specs.Instances.{Instances, IsFine}
use Rattle.lk_sound.specs.Nodes.{nodes_of}
use Rattle.lk_types.specs.Each.{Each}
use Rattle.lk_types.specs.Rows.{EffectSet}
use Rattle.lk_types.specs.declared.ground.Ground.{Ground}
use Rattle.lk_typing.specs.Names.{Entry, Named}
use Rattle.lk_typing.specs.Typing.{HasType}

-- a query, an update or a deletion, or the reading of a table: all uses in it call helpers
pub record IsBlock (p : Program) (i : Instances) (block : Expr) (types : List Ground) (calls : List ℕ) : Type 0 where
  pub functions : Named (Entry Ground)
  pub locals : Named Ground
  pub effects : EffectSet
  pub type : Ground
  pub inside : List Ground
  pub typed : HasType functions (tables_of p) locals effects block type inside
  pub fine : Each (IsFine i) (nodes_of false typed)
  pub after : Pending
  pub takes : Takes i.helpers (nodes_of false typed) (pending types calls) after
