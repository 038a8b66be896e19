-- What an event, and the events so far, make of tables.
use Rattle.std.specs.List.{list_any}
use Rattle.std.specs.Prelude.{◌≡◌, ℕ, true, false, List, ◌∷◌, ◌++◌, Option, Some, None, IfSome, IsSomeAnd}
use Rattle.lk_ast.specs.Layers.{layer}
use Rattle.lk_ast.specs.Plain.{holds_function}
use Rattle.lk_ast.specs.Tables.{Tables}
use Rattle.lk_ast.specs.declared.declaration.Program.{Program}
use Rattle.lk_ast.specs.declared.event.Event.{Event}
use Rattle.lk_ast.specs.declared.event.Event.TheVariants.{Print, Enter, Leave, Read, Write}
use Rattle.lk_ast.specs.declared.expression.Expr.{Expr}
use Rattle.lk_ast.specs.declared.table.Row.{Row}
use Rattle.lk_ast.specs.declared.value.Value.{Value}
use Rattle.lk_bag.specs.Blocks.{block_at}
use Rattle.lk_bag.specs.Legal.{AreAllCaptured, IsAnsweredOver, IsLegal, reads_tables}
use Rattle.lk_types.specs.Each.{Each}
use Rattle.lk_sound.specs.Tables.{AreTables, table_at}

-- the answer of a reading
abbrev pub read_event : ℕ → List Value → List Row → Event
read_event site args answer = Read (record { site = site; args = args; answer = answer })

-- a writing
abbrev pub write_event : ℕ → List Value → Event
write_event site args = Write (record { site = site; args = args })

-- A reading, with a value for each name that it captures, was answered by what it gives over some tables whose rows fit, in some order,
-- sorted by its keys.
abbrev pub HasAnswer : Program → Event → Type 0
HasAnswer p (Print bytes) = Unit {0}
HasAnswer p Enter = Unit {0}
HasAnswer p Leave = Unit {0}
HasAnswer p (Write e) = Unit {0}
HasAnswer p (Read e) =
    (block : Expr) × (block_at p e.site ≡ Some block) × (reads_tables (layer block) ≡ true) × AreAllCaptured block e.args
    × (listed : Tables) × AreTables p listed × IsAnsweredOver p listed block e.args e.answer

-- a legal history from the later tables is one from the earlier, with these events before it
pub record Precedes (p : Program) (before : Tables) (events : List Event) (after : Tables) : Type 0 where
  pub on : (more : List Event) (last : Tables) → IsLegal p after more last → IsLegal p before (events ++ more) last

-- the same of one event
pub record Follows (p : Program) (before : Tables) (event : Event) (after : Tables) : Type 0 where
  pub on : (more : List Event) (last : Tables) → IsLegal p after more last → IsLegal p before (event ∷ more) last

-- where the tables were told they still are, and these events came between
abbrev pub HasPast : Program → Option Tables → Option Tables → List Event → Type 0
HasPast p old new events = IfSome old (λ before. IsSomeAnd new (λ after. Precedes p before events after))

-- the same of one event
abbrev pub HasFollowed : Program → Option Tables → Option Tables → Event → Type 0
HasFollowed p old new event = IfSome old (λ before. IsSomeAnd new (λ after. Follows p before event after))

-- where they are told before and after, tables that the program doesn't declare are as they were
abbrev pub KeepsOthers : Program → Option Tables → Option Tables → Type 0
KeepsOthers p old new = (x : List ℕ) → table_at p x ≡ None → IfSome old (λ before. IfSome new (λ after. after x ≡ before x))

-- the tables fit, where they are told
abbrev pub AreFit : Program → Option Tables → Type 0
AreFit p told = IfSome told (AreTables p)

-- where the tables were told they still are, and these events lead from those to these
abbrev pub HasHistory : Program → Option Tables → Option Tables → List Event → Type 0
HasHistory p old new events = IfSome old (λ before. IsSomeAnd new (λ after. IsLegal p before events after))

-- an event that isn't of tables
abbrev pub IsQuiet : Event → Type 0
IsQuiet (Print bytes) = Unit {0}
IsQuiet Enter = Unit {0}
IsQuiet Leave = Unit {0}
IsQuiet (Read e) = ⊥
IsQuiet (Write e) = ⊥

-- behind the first log are only such events
pub record GoesQuietly (before after : List Event) : Type 0 where
  pub more : List Event
  pub log : after ≡ before ++ more
  pub quiet : Each IsQuiet more

-- no function stands in what is shown of it
abbrev pub IsPlainEvent : Event → Type 0
IsPlainEvent (Print bytes) = Unit {0}
IsPlainEvent Enter = Unit {0}
IsPlainEvent Leave = Unit {0}
IsPlainEvent (Read e) = list_any holds_function e.args ≡ false
IsPlainEvent (Write e) = list_any holds_function e.args ≡ false
