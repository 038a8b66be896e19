-- How SQL is written: one text for each piece (the words and signs of ISO/IEC 9075-2:2016; a parameter is `:` and its number).
use Rattle.std.specs.Prelude.{ℕ, true, false, Bool, List, [], ◌∷◌, ◌++◌, codes, if◌then◌else◌, ◌==◌}
use Rattle.std.specs.List.{flat_map, join_by}
use Rattle.std.specs.Fmt.{decimal, signed_decimal}
use Rattle.lk_ast.specs.declared.table.Base.{Base}
use Rattle.lk_ast.specs.declared.table.Base.TheVariants as base
use Rattle.lk_sql.specs.declared.tree.FromItem.{FromItem}
use Rattle.lk_sql.specs.declared.tree.Key.{Key}
use Rattle.lk_sql.specs.declared.tree.Out.{Out, fold-Out}
use Rattle.lk_sql.specs.declared.tree.Scalar.{Scalar}
use Rattle.lk_sql.specs.declared.tree.Scalar.TheFolds.{fold-Scalar}
use Rattle.lk_sql.specs.declared.tree.Scalar.TheOpen.{Scalar-F, Out-F, Select-F}
use Rattle.lk_sql.specs.declared.tree.Select.{Select, fold-Select}
use Rattle.lk_sql.specs.declared.tree.Sql.{Sql}
use Rattle.lk_sql.specs.declared.tree.SqlOp.{SqlOp}
use Rattle.lk_sql.specs.declared.tree.SqlOp.TheVariants as op

abbrev pub Bytes : Type 0
Bytes = List ℕ

-- these texts, with another one between
abbrev pub joined : Bytes → List Bytes → Bytes
joined = join_by (λ text. text)

-- ---- names and literals

-- "l"
abbrev pub name_text : Bytes → Bytes
name_text name = codes "\"" ++ (name ++ codes "\"")

-- an apostrophe in a text is written twice
abbrev pub quoted : ℕ → Bytes
quoted byte = if byte == 39 then 39 ∷ 39 ∷ [] else byte ∷ []

abbrev pub truth_text : Bool → Bytes
truth_text true = codes "TRUE"
truth_text false = codes "FALSE"

abbrev pub base_text : Base → Bytes
base_text (base.Int n) = signed_decimal n
base_text (base.Bool b) = truth_text b
base_text (base.Text bytes) = codes "'" ++ (flat_map quoted bytes ++ codes "'")

-- t1
abbrev pub generator_text : ℕ → Bytes
generator_text n = codes "t" ++ decimal n

-- ---- operations, around what stands inside as text already

-- before one operand, or between two
abbrev pub sign : SqlOp → Bytes
sign op.Add = codes " + "
sign op.Sub = codes " - "
sign op.Mul = codes " * "
sign op.Neg = codes "- "
sign op.Concat = codes " || "
sign op.Eq = codes " = "
sign op.Ne = codes " <> "
sign op.Lt = codes " < "
sign op.Le = codes " <= "
sign op.Gt = codes " > "
sign op.Ge = codes " >= "
sign op.And = codes " AND "
sign op.Or = codes " OR "
sign op.Not = codes "NOT "

-- (a + b), (- a)
abbrev pub operation_text : SqlOp → List Bytes → Bytes
operation_text o (operand ∷ []) = codes "(" ++ (sign o ++ (operand ++ codes ")"))
operation_text o operands = codes "(" ++ (joined (sign o) operands ++ codes ")")

abbrev pub case_text : Bytes → Bytes → Bytes → Bytes
case_text c a b = codes "(CASE WHEN " ++ (c ++ (codes " THEN " ++ (a ++ (codes " ELSE " ++ (b ++ codes " END)")))))

abbrev pub exists_text : Bytes → Bytes
exists_text selects = codes "(EXISTS (" ++ (selects ++ codes "))")

-- ---- selects

-- s AS "l"
abbrev pub out_text : Bytes → Bytes → Bytes
out_text scalar label = scalar ++ (codes " AS " ++ name_text label)

-- "t" AS t1
abbrev pub from_text : FromItem → Bytes
from_text from = name_text from.table ++ (codes " AS " ++ generator_text from.var)

-- nothing where there are no generators
abbrev pub froms_text : List FromItem → Bytes
froms_text [] = []
froms_text (from ∷ froms) = codes " FROM " ++ join_by from_text (codes ", ") (from ∷ froms)

-- SELECT s AS "l", s AS "m" FROM "t" AS t1, "u" AS t2 WHERE c
abbrev pub selected : Bytes → Bytes → Bytes → Bytes
selected outs froms cond = codes "SELECT " ++ (outs ++ (froms ++ (codes " WHERE " ++ cond)))

-- one level
abbrev pub scalar_level : Scalar-F Bytes Bytes Bytes → Bytes
scalar_level (Scalar-F.Lit b) = base_text b
scalar_level (Scalar-F.Param k) = codes ":" ++ decimal k
scalar_level (Scalar-F.Column n label) = generator_text n ++ (codes "." ++ name_text label)
scalar_level (Scalar-F.Op o operands) = operation_text o operands
scalar_level (Scalar-F.Case c a b) = case_text c a b
scalar_level (Scalar-F.Exists selects) = exists_text (joined (codes " UNION ALL ") selects)

abbrev pub out_level : Out-F Bytes Bytes Bytes → Bytes
out_level out = out_text out.scalar out.label

abbrev pub select_level : Select-F Bytes Bytes Bytes → Bytes
select_level select = selected (joined (codes ", ") select.outs) (froms_text select.froms) select.cond

unfoldable pub scalar_text : Scalar → Bytes
scalar_text = fold-Scalar Bytes Bytes Bytes scalar_level out_level select_level

unfoldable pub output_text : Out → Bytes
output_text = fold-Out Bytes Bytes Bytes scalar_level out_level select_level

unfoldable pub select_text : Select → Bytes
select_text = fold-Select Bytes Bytes Bytes scalar_level out_level select_level

-- ---- queries

abbrev pub selects_text : List Select → Bytes
selects_text = join_by select_text (codes " UNION ALL ")

abbrev pub direction : Bool → Bytes
direction true = codes " DESC"
direction false = []

-- "l" DESC
abbrev pub key_text : Key → Bytes
key_text key = name_text key.label ++ direction key.desc

-- nothing where there are no keys
abbrev pub keys_text : List Key → Bytes
keys_text [] = []
keys_text (key ∷ keys) = codes " ORDER BY " ++ join_by key_text (codes ", ") (key ∷ keys)

abbrev pub sql_text : Sql → Bytes
sql_text sql = selects_text sql.selects ++ keys_text sql.keys
