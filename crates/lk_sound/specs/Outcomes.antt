-- What an evaluation with some effects may come to, and what it may log: only what these effects allow (Lucassen and Gifford,
-- Polymorphic effect systems, 1988), where functions are used at these instances. It never lacks a rule.
use Rattle.std.specs.Prelude.{◌≡◌, true, List, ◌++◌, None}
use Rattle.lk_ast.specs.declared.declaration.Program.{Program}
use Rattle.lk_ast.specs.declared.event.Event.{Event}
use Rattle.lk_ast.specs.declared.event.Event.TheVariants as event
use Rattle.lk_evaluation.specs.Run.{Run, Entry, Out, Goes, Stops, Stop, Trapped, Spent, Waiting, Stuck, Asked}
use Rattle.lk_types.specs.Each.{Each}
use Rattle.lk_types.specs.Rows.{EffectSet}
use Rattle.lk_types.specs.declared.ty.Effect.TheVariants as effect
use Rattle.lk_sound.specs.Captures.{Captures}
use Rattle.lk_sound.specs.Instances.{Instances}
use Rattle.lk_sound.specs.Tables.{IsReading, IsWriting}

-- a text is printed only with `print`, tables are read only with `scan` and written only with `write`, and control passes freely
abbrev pub Allows : Program → Instances → EffectSet → Event → Type 0
Allows p i effects (event.Print bytes) = effects effect.Print ≡ true
Allows p i effects (event.Read e) = (effects effect.Scan ≡ true) × IsReading p e.site e.args × Captures p i e.site e.args
Allows p i effects (event.Write e) = (effects effect.Write ≡ true) × IsWriting p e.site e.args × Captures p i e.site e.args
Allows p i effects event.Enter = Unit {0}
Allows p i effects event.Leave = Unit {0}

-- A trap comes only with `trap`, and a reading waits only with `scan`. The want of a rule never comes, and nothing is asked of the
-- client, which is so only in an evaluation over what it returned.
abbrev pub MayStop : Program → Instances → EffectSet → Stop → Type 0
MayStop p i effects (Trapped trap) = effects effect.Trap ≡ true
MayStop p i effects (Waiting site args) = (effects effect.Scan ≡ true) × IsReading p site args × Captures p i site args
MayStop p i effects (Stuck at) = ⊥
MayStop p i effects Spent = Unit {0}
MayStop p i effects (Asked callee args) = ⊥

-- a whole evaluation goes on from a run to another: behind the first log is only what the effects allow
pub record Happens (p : Program) (i : Instances) (effects : EffectSet) (before after : Run) : Type 0 where
  pub whole : after.returns ≡ None
  pub more : List Entry
  pub log : after.log ≡ before.log ++ more
  pub allowed : Each (λ (entry : Entry). Allows p i effects entry.event) more

-- it comes to something of this kind, or stops for a reason that the effects allow
abbrev pub IsOutcome : Program → Instances → EffectSet → {A : Type 0} → (A → Type 0) → Run → Out A → Type 0
IsOutcome p i effects P before (Goes a after) = P a × Happens p i effects before after
IsOutcome p i effects P before (Stops stop after) = MayStop p i effects stop × Happens p i effects before after
