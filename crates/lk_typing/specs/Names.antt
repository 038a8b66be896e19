-- What names stand for in types: local names, functions and tables. Of two entries with one name the first counts.
use Rattle.std.specs.Prelude.{◌≡◌, List, [], ◌∷◌, Option, Some, None, map, find, bytes_eq, is_some, if◌then◌else◌}
use Rattle.lk_ast.specs.declared.declaration.ColumnDecl.{ColumnDecl}
use Rattle.lk_ast.specs.declared.declaration.TableDecl.{TableDecl}
use Rattle.lk_ast.specs.declared.place.Word.{Word}
use Rattle.lk_types.specs.Grounding.{Grounding}
use Rattle.lk_types.specs.Rows.{Label, Row, no_fields}
use Rattle.lk_types.specs.Schemes.{IsInstance}
use Rattle.lk_types.specs.declared.ground.Ground.{Ground}
use Rattle.lk_types.specs.declared.scheme.Scheme.{Scheme}
use Rattle.lk_typing.specs.Types.{base, with_fields}

-- names with what stands for each
abbrev pub Named : Type 0 → Type 0
Named A = List (Label × A)

abbrev pub named : {A : Type 0} → Label → Named A → Option A
named x [] = None
named x (entry ∷ entries) = if bytes_eq entry.0 x then Some entry.1 else named x entries

-- the words of a text
abbrev pub texts : List Word → List Label
texts words = map (λ word. word.text) words

abbrev pub names_of : {A : Type 0} → Named A → List Label
names_of entries = map (λ entry. entry.0) entries

abbrev pub types_of : {A : Type 0} → Named A → List A
types_of entries = map (λ entry. entry.1) entries

-- ---- functions

-- A function has one type while the types of its own group are looked for, and behind the group it has a scheme.
pub data Entry (A : Type 0) : Type 0 where
  One : A → Entry A
  Many : Scheme → Entry A

-- a type at which a function may be used: its own one, or some instance of its scheme
pub data IsUse : Entry Ground → Ground → Type 0 where
  one : {t : Ground} → IsUse (One t) t
  instance : {τ : Grounding} {scheme : Scheme} {t : Ground} → IsInstance τ scheme t → IsUse (Many scheme) t

-- the function of that name may be used at the type
abbrev pub MayBe : Named (Entry Ground) → Label → Ground → Type 0
MayBe functions g t = (entry : Entry Ground) × (named g functions ≡ Some entry) × IsUse entry t

-- ---- tables

-- a column and its type
abbrev pub column : ColumnDecl → Label × Ground
column c = (c.label.text, base c.kind)

-- the row that the columns of a table make, where none is there twice
abbrev pub row_known : TableDecl → Option Row
row_known table = with_fields (map column table.columns) no_fields

-- a table whose columns make a row
abbrev pub proper : Option TableDecl → Option TableDecl
proper None = None
proper (Some table) = if is_some (row_known table) then Some table else None

abbrev pub table_named : List TableDecl → Label → Option TableDecl
table_named tables x = proper (find (λ table. bytes_eq table.name.text x) tables)

-- the columns of a table make this row
abbrev pub IsRowOf : Option TableDecl → Row → Type 0
IsRowOf None row = ⊥
IsRowOf (Some table) row = row_known table ≡ Some row

-- the table of that name has such rows
abbrev pub HasRows : List TableDecl → Label → Row → Type 0
HasRows tables x row = IsRowOf (table_named tables x) row
