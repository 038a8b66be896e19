-- What labels run at the server: a query or a reading its SQL, and what changes a table that table, with the change as SQL.
use Rattle.std.specs.Option.{option_flatten}
use Rattle.std.specs.Prelude.{◌≡◌, ◌<◌, ℕ, List, ◌++◌, Option, Some, None, length, reverse, slice_get}
use Rattle.lk_ast.specs.declared.table.TableDef.{TableDef}
use Rattle.lk_code.specs.declared.infos.FunInfo.{FunInfo}
use Rattle.lk_code.specs.declared.infos.FunKind.{FunKind}
use Rattle.lk_code.specs.declared.infos.FunKind.TheVariants as fun
use Rattle.lk_code.specs.declared.tables.BlockCode.{BlockCode}
use Rattle.lk_code.specs.declared.tables.BlockCode.TheVariants as block
use Rattle.lk_ir.specs.declared.nodes.Touched.{Touched}
use Rattle.lk_sql.specs.declared.tree.Change.{Change}
use Rattle.lk_sql.specs.declared.tree.Sql.{Sql}
use Rattle.lk_translate.specs.declared.translated.Code.{Code}
use Rattle.lk_translate.specs.declared.translated.Code.TheVariants as code
use Rattle.lk_translate.specs.declared.translated.Translated.{Translated}
use Rattle.lk_types.specs.Each.{OneOf}

-- one that is translated has this label
abbrev pub HasCode : List Translated → ℕ → Code → Type 0
HasCode queries label of = OneOf (λ (one : Translated). (one.label ≡ label) × (one.code ≡ of)) queries

-- what has this label changes this table, which is one of these
abbrev pub Changes : List Touched → List TableDef → ℕ → TableDef → Type 0
Changes touched defs label def = OneOf (λ (one : Touched). one ≡ record { label = label; table = def.name }) touched × OneOf (λ (other : TableDef). other ≡ def) defs

-- what a label of this kind runs at the server, if anything
abbrev pub Runs : List Touched → List TableDef → List Translated → ℕ → FunKind → Option BlockCode → Type 0
Runs touched defs queries label fun.Query (Some (block.Select sql)) = HasCode queries label (code.Select sql)
Runs touched defs queries label fun.TableRead (Some (block.Select sql)) = HasCode queries label (code.Select sql)
Runs touched defs queries label fun.Insert (Some (block.Insert def)) = Changes touched defs label def
Runs touched defs queries label fun.Update (Some (block.Update def change)) = Changes touched defs label def × HasCode queries label (code.Change change)
Runs touched defs queries label fun.Delete (Some (block.Delete def change)) = Changes touched defs label def × HasCode queries label (code.Change change)
Runs touched defs queries label fun.Print None = Unit {0}
Runs touched defs queries label fun.Top None = Unit {0}
Runs touched defs queries label fun.Lambda None = Unit {0}
Runs touched defs queries label kind found = ⊥

-- the same of each label, by its kind
pub record AreRun (touched : List Touched) (defs : List TableDef) (queries : List Translated) (funs : List FunInfo) (blocks : List (Option BlockCode)) : Type 0 where
  pub counted : length blocks ≡ length funs
  pub each : (label : ℕ) (i : FunInfo) → slice_get funs label ≡ Some i → Runs touched defs queries label i.kind (option_flatten (slice_get blocks label))

-- ---- while they are made

-- these are left of what is translated, the last one first
abbrev pub AreLeft : List Translated → List Translated → Type 0
AreLeft all left = (gone : List Translated) × (reverse all ≡ left ++ gone)

-- some of them are taken
abbrev pub Takes : List Translated → List Translated → Type 0
Takes old new = (taken : List Translated) × (old ≡ new ++ taken)

-- whatever these are left of
abbrev pub OfAll : List Translated → (List Translated → Type 0) → Type 0
OfAll left P = (all : List Translated) → AreLeft all left → P all

-- so many of the first labels have what they run
pub record AreRunSoFar (touched : List Touched) (defs : List TableDef) (queries : List Translated) (funs : List FunInfo) (done : ℕ) (blocks : List (Option BlockCode)) (left : List Translated) : Type 0 where
  pub counted : length blocks ≡ done
  pub each : (label : ℕ) (i : FunInfo) → label < done → slice_get funs label ≡ Some i → Runs touched defs queries label i.kind (option_flatten (slice_get blocks label))
  pub rest : AreLeft queries left
