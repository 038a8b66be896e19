-- The typing rules of operators, one for each, over ground types: the types of the parts in text order, and the type of the
-- whole, in a function with these effects. What is called has just the effects of the function around: effects are never
-- widened, but an effect that stands for itself, as that of `print`, is one among them (rows as in Rémy, Type inference for records in a
-- natural extension of ML, 1993; effects as in Lucassen and Gifford, Polymorphic effect systems, 1988, and Lindley and
-- Cheney, Row-based effect types for database integration, 2012).
use Rattle.std.specs.Prelude.{◌≡◌, true, List, [], ◌∷◌, Some}
use Rattle.lk_ast.specs.declared.declaration.TableDecl.{TableDecl}
use Rattle.lk_ast.specs.declared.table.BaseKind.{BaseKind}
use Rattle.lk_types.specs.Each.{Each}
use Rattle.lk_types.specs.Rows.{Label, Row, EffectSet, no_fields}
use Rattle.lk_types.specs.declared.ground.Ground.{Ground}
use Rattle.lk_types.specs.declared.ground.Ground.TheVariants.{Int, Bool, Text, List as ListOf}
use Rattle.lk_types.specs.declared.ty.Effect.TheVariants as effect
use Rattle.lk_typing.specs.Heads as head
use Rattle.lk_typing.specs.Heads.{Head}
use Rattle.lk_typing.specs.Names.{Named, named, Entry, MayBe, HasRows}
use Rattle.lk_typing.specs.Types.{base, record_of, variant_of, unit, function_of, with_fields, labelled}

module _ (functions : Named (Entry Ground)) (tables : List TableDecl) (names : Named Ground) (effects : EffectSet) where
  pub data Rule : Head → List Ground → Ground → Type 0 where
    literal : {kind : BaseKind} → Rule (head.Literal kind) [] (base kind)
    local : {x : Label} {t : Ground} → named x names ≡ Some t → Rule (head.Local x) [] t
    function : {g : Label} {t : Ground} → MayBe functions g t → Rule (head.Function g) [] t
    call : {g : Label} {ts : List Ground} {a : Ground} → MayBe functions g (function_of ts effects a) → Rule (head.Call g) ts a
    apply : {ts : List Ground} {a : Ground} → effects effect.Local ≡ true → Rule head.Apply (function_of ts effects a ∷ ts) a
    seq : {t : Ground} → Rule head.Seq (unit ∷ t ∷ []) t
    branch : {t : Ground} → Rule head.If (Bool ∷ t ∷ t ∷ []) t
    logic : Rule head.Logic (Bool ∷ Bool ∷ []) Bool
    concat : Rule head.Concat (Text ∷ Text ∷ []) Text
    append : (a : Ground) → Rule head.Append (ListOf a ∷ ListOf a ∷ []) (ListOf a)
    cons : {a : Ground} → effects effect.Local ≡ true → Rule head.Cons (a ∷ ListOf a ∷ []) (ListOf a)
    arithmetic : Rule head.Arithmetic (Int ∷ Int ∷ []) Int
    division : effects effect.Trap ≡ true → Rule head.Division (Int ∷ Int ∷ []) Int
    comparison : {t : Ground} → Rule head.Comparison (t ∷ t ∷ []) Bool
    negation : Rule head.Negation (Int ∷ []) Int
    not : Rule head.Not (Bool ∷ []) Bool
    first : {a : Ground} → effects effect.Trap ≡ true → effects effect.Local ≡ true → Rule head.First (ListOf a ∷ []) a
    rest : (a : Ground) → effects effect.Trap ≡ true → effects effect.Local ≡ true → Rule head.Rest (ListOf a ∷ []) (ListOf a)
    empty : (a : Ground) → Rule head.Empty (ListOf a ∷ []) Bool
    int_to_string : effects effect.Local ≡ true → Rule head.IntToString (Int ∷ []) Text
    print : effects effect.Print ≡ true → Rule head.Print (Text ∷ []) unit
    -- a closed record
    closed_record : {labels : List Label} {ts : List Ground} (fields : List (Label × Ground)) (row : Row) → labelled labels ts ≡ Some (fields, []) → with_fields fields no_fields ≡ Some row → Rule (head.Record labels) ts (record_of row)
    -- the other record lacks the labels
    extend : {labels : List Label} {ts : List Ground} (fields : List (Label × Ground)) (other row : Row) → labelled labels ts ≡ Some (fields, record_of other ∷ []) → with_fields fields other ≡ Some row → Rule (head.Extend labels) ts (record_of row)
    items : (a : Ground) {ts : List Ground} → Each (λ t. t ≡ a) ts → Rule head.Items ts (ListOf a)
    -- some other fields, and this one
    project : {l : Label} {a : Ground} (other row : Row) → with_fields ((l, a) ∷ []) other ≡ Some row → Rule (head.Project l) (record_of row ∷ []) a
    -- some other tags, and this one
    tag : {l : Label} {t : Ground} (other row : Row) → with_fields ((l, t) ∷ []) other ≡ Some row → Rule (head.Tag l) (t ∷ []) (variant_of row)
    table : {x : Label} (row : Row) → HasRows tables x row → effects effect.Scan ≡ true → Rule (head.Table x) [] (ListOf (record_of row))
    filter : (b : Ground) → Rule head.Where (Bool ∷ ListOf b ∷ []) (ListOf b)
    insert : {x : Label} (row : Row) → HasRows tables x row → effects effect.Write ≡ true → Rule (head.Insert x) (ListOf (record_of row) ∷ []) unit
