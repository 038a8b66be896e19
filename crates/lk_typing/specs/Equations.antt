-- The equations of an expression that binds no name, by its operator and the types of its parts, in order, and its own type.
-- New variables have the numbers from the one that is given.
use Rattle.std.specs.Prelude.{ℕ, ◌+◌, List, [], ◌∷◌, ◌++◌, Option, Some, None, map}
use Rattle.lk_ast.specs.declared.declaration.TableDecl.{TableDecl}
use Rattle.lk_types.specs.Rows.{Label}
use Rattle.lk_types.specs.declared.equation.Equation.{Equation}
use Rattle.lk_types.specs.declared.scheme.Lack.{Lack}
use Rattle.lk_types.specs.declared.ty.Effect.TheVariants as effect
use Rattle.lk_types.specs.declared.ty.Effects.{Effects}
use Rattle.lk_types.specs.declared.ty.RowTail.TheVariants.{Closed, Var}
use Rattle.lk_types.specs.declared.ty.Ty.{Ty}
use Rattle.lk_types.specs.declared.ty.Ty.TheVariants as ty
use Rattle.lk_types.specs.declared.ty.Variable.{Variable}
use Rattle.lk_types.specs.declared.ty.Variable.TheVariants as variable
use Rattle.lk_typing.specs.Heads as head
use Rattle.lk_typing.specs.Heads.{Head}
use Rattle.lk_typing.specs.Names.{Named, named, Entry, One, Many, table_named}
use Rattle.lk_types.specs.Renamed.{place_from, renamed, width}
use Rattle.lk_typing.specs.Types.{labelled}
use Rattle.lk_typing.specs.Unknowns.{base, record_of, variant_of, unit, row_of, same, has}

-- what is said of an expression, its type, and the next number for a variable
pub record Own : Type 0 where
  pub ty : Ty
  pub equations : List Equation
  pub next : ℕ

abbrev pub own : Ty → List Equation → ℕ → Own
own t equations next = record { ty = t; equations = equations; next = next }

-- what can't hold: a name that stands for nothing, or another number of parts than the operator has
abbrev pub never : ℕ → Own
never n = own unit (same ty.Int ty.Bool ∷ []) n

-- ---- names

abbrev pub local : Option Ty → ℕ → Own
local None n = never n
local (Some t) n = own t [] n

-- a row variable lacks a label: a record with that label before it is one
abbrev pub lacks : (Variable → ℕ) → Lack → Equation
lacks place lack = let r : Ty = record_of ((lack.label, unit) ∷ []) (Var (place (variable.Row lack.var))) in same r r

-- the type of a function where it is used: its own one, or a new instance of its scheme
abbrev pub used : Option (Entry Ty) → ℕ → Own
used None n = never n
used (Some (One t)) n = own t [] n
used (Some (Many scheme)) n = own (renamed (place_from n scheme) scheme.body) (map (lacks (place_from n scheme)) scheme.lacks) (width scheme + n)

-- a call of a function of that type
abbrev pub called : Effects → List Ty → Own → Own
called effects ts function = own (ty.Var function.next) (function.equations ++ same function.ty (ty.Fun ts effects (ty.Var function.next)) ∷ []) (1 + function.next)

-- ---- records and tables

abbrev pub closed_record : Option (List (Label × Ty) × List Ty) → ℕ → Own
closed_record (Some (fields, [])) n = own (record_of fields Closed) [] n
closed_record _ n = never n

-- the other record is any row, and with the fields before it there is no label twice
abbrev pub extended : Option (List (Label × Ty) × List Ty) → ℕ → Own
extended (Some (fields, other ∷ [])) n = own (record_of fields (Var n)) (same other (record_of [] (Var n)) ∷ same (record_of fields (Var n)) (record_of fields (Var n)) ∷ []) (1 + n)
extended _ n = never n

abbrev pub rows : Option TableDecl → Effects → ℕ → Own
rows None effects n = never n
rows (Some table) effects n = own (ty.List (row_of table)) (has effects effect.Scan n ∷ []) (1 + n)

abbrev pub inserted : Option TableDecl → Effects → Ty → ℕ → Own
inserted None effects t n = never n
inserted (Some table) effects t n = own unit (same t (ty.List (row_of table)) ∷ has effects effect.Write n ∷ []) (1 + n)

-- ---- operators

module _ (functions : Named (Entry Ty)) (tables : List TableDecl) (names : Named Ty) (effects : Effects) where
  abbrev pub equations_of : Head → List Ty → ℕ → Own
  equations_of (head.Literal kind) [] n = own (base kind) [] n
  equations_of (head.Local x) [] n = local (named x names) n
  equations_of (head.Function g) [] n = used (named g functions) n
  equations_of (head.Call g) ts n = called effects ts (used (named g functions) n)
  equations_of head.Apply (t ∷ ts) n = own (ty.Var n) (same t (ty.Fun ts effects (ty.Var n)) ∷ has effects effect.Local (1 + n) ∷ []) (2 + n)
  equations_of head.Seq (a ∷ b ∷ []) n = own b (same a unit ∷ []) n
  equations_of head.If (c ∷ d ∷ e ∷ []) n = own d (same c ty.Bool ∷ same d e ∷ []) n
  equations_of head.Logic (a ∷ b ∷ []) n = own ty.Bool (same a ty.Bool ∷ same b ty.Bool ∷ []) n
  equations_of head.Concat (a ∷ b ∷ []) n = own ty.Text (same a ty.Text ∷ same b ty.Text ∷ []) n
  equations_of head.Append (a ∷ b ∷ []) n = own a (same a (ty.List (ty.Var n)) ∷ same b a ∷ []) (1 + n)
  equations_of head.Cons (a ∷ b ∷ []) n = own b (same b (ty.List a) ∷ has effects effect.Local n ∷ []) (1 + n)
  equations_of head.Arithmetic (a ∷ b ∷ []) n = own ty.Int (same a ty.Int ∷ same b ty.Int ∷ []) n
  equations_of head.Division (a ∷ b ∷ []) n = own ty.Int (same a ty.Int ∷ same b ty.Int ∷ has effects effect.Trap n ∷ []) (1 + n)
  equations_of head.Comparison (a ∷ b ∷ []) n = own ty.Bool (same a b ∷ []) n
  equations_of head.Negation (a ∷ []) n = own ty.Int (same a ty.Int ∷ []) n
  equations_of head.Not (a ∷ []) n = own ty.Bool (same a ty.Bool ∷ []) n
  equations_of head.First (a ∷ []) n = own (ty.Var n) (same a (ty.List (ty.Var n)) ∷ has effects effect.Trap (1 + n) ∷ has effects effect.Local (2 + n) ∷ []) (3 + n)
  equations_of head.Rest (a ∷ []) n = own (ty.List (ty.Var n)) (same a (ty.List (ty.Var n)) ∷ has effects effect.Trap (1 + n) ∷ has effects effect.Local (2 + n) ∷ []) (3 + n)
  equations_of head.Empty (a ∷ []) n = own ty.Bool (same a (ty.List (ty.Var n)) ∷ []) (1 + n)
  equations_of head.IntToString (a ∷ []) n = own ty.Text (same a ty.Int ∷ has effects effect.Local n ∷ []) (1 + n)
  equations_of head.Print (a ∷ []) n = own unit (same a ty.Text ∷ has effects effect.Print n ∷ []) (1 + n)
  equations_of (head.Record labels) ts n = closed_record (labelled labels ts) n
  equations_of (head.Extend labels) ts n = extended (labelled labels ts) n
  equations_of head.Items [] n = own (ty.List (ty.Var n)) [] (1 + n)
  equations_of head.Items (t ∷ ts) n = own (ty.List t) (map (λ later. same later t) ts) n
  equations_of (head.Project l) (a ∷ []) n = own (ty.Var n) (same a (record_of ((l, ty.Var n) ∷ []) (Var (1 + n))) ∷ []) (2 + n)
  equations_of (head.Tag l) (a ∷ []) n = own (variant_of ((l, a) ∷ []) (Var n)) [] (1 + n)
  equations_of (head.Table x) [] n = rows (table_named tables x) effects n
  equations_of head.Where (c ∷ a ∷ []) n = own (ty.List (ty.Var n)) (same c ty.Bool ∷ same a (ty.List (ty.Var n)) ∷ []) (1 + n)
  equations_of (head.Insert x) (a ∷ []) n = inserted (table_named tables x) effects a n
  equations_of h ts n = never n
