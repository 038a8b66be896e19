-- What a walk makes of each operator of a query, by its rule.
use Rattle.std.proofs.Common.{◌≡◌, ℕ, ◌<◌, Bool, true, false, not, ◌&&◌, ℤ, ◌||◌, List, [], ◌∷◌, ◌++◌, length, map, Option, Some, None, refl, sym, ◌∙◌, ap, ap₂, subst, arith, if◌then◌else◌}
use Rattle.std.proofs.lemmas.Bool.{both_ways}
use Rattle.lk_ast.specs.Layers.{Layer, layer}
use Rattle.lk_ast.specs.Tables.{Tables, tables_of}
use Rattle.lk_ast.specs.declared.declaration.Program.{Program}
use Rattle.lk_ast.specs.declared.expression.Expr.{Expr}
use Rattle.lk_ast.specs.declared.expression.Node.TheOpen.{Node-F}
use Rattle.lk_ast.specs.declared.place.Word.{Word}
use Rattle.lk_ast.specs.declared.table.Base.TheVariants as base
use Rattle.lk_ast.specs.declared.table.BaseKind.TheVariants as kind
use Rattle.lk_ast.specs.declared.value.Value.{Value}
use Rattle.lk_ast.specs.declared.value.Value.TheVariants as value
use Rattle.lk_bag.proofs.Given.{all_given, given_and, given_if, given_operation, given_or, given_table, given_where, is_operation, operands}
use Rattle.lk_bag.specs.Bag.{chosen, given, value_of}
use Rattle.lk_bodies.proofs.Levels.{with_walks}
use Rattle.lk_bodies.specs.Shapes.{columns_of, element_columns, labels}
use Rattle.lk_bodies.specs.Walk.{Calls, Made, State, Walk, add, behind_type, choice, emptiness, node_level, one, table, three, two, walk}
use Rattle.lk_ground_types.specs.Shapes.{are_rows, is_base, is_flat_row, is_list, is_query_type}
use Rattle.lk_inline.proofs.Choices.{and_stands, choice_base_stands, choice_row_stands, choice_rows_stand, or_stands, where_stands}
use Rattle.lk_inline.proofs.Inducing.{walk_form}
use Rattle.lk_inline.proofs.Loops.{append_stands, empty_stands}
use Rattle.lk_inline.proofs.Making.{AreMade, HaveNumbers, IsMade}
use Rattle.lk_inline.proofs.OperatorValues.{add_stands, concat_stands, ge_stands, gt_stands, le_stands, literal_number, literal_text, literal_truth, lt_stands, mul_stands, neg_stands, not_stands, sub_stands}
use Rattle.lk_inline.proofs.Operating.{AreMadeOf, IsMadeOf, leaf_made, one_made, three_made, two_made}
use Rattle.lk_inline.proofs.QueryTypes.{QueryType, list_rows, query_type, record_row, rows_flat}
use Rattle.lk_inline.proofs.QueryTypes as query
use Rattle.lk_inline.proofs.RecordValues.{project_stands, table_stands}
use Rattle.lk_inline.specs.Stands.{Stands}
use Rattle.lk_locals.specs.Names.{Names}
use Rattle.lk_operators.specs.Operators.{operated}
use Rattle.lk_operators.specs.Values.{bool_in}
use Rattle.lk_query.specs.Given.{Given, Gives, Values, given_level, gives, of_base}
use Rattle.lk_query.specs.Order.{AreOrdered, Below}
use Rattle.lk_query.specs.declared.part.Part.{Part}
use Rattle.lk_query.specs.declared.part.Part.TheVariants as part
use Rattle.lk_sites.specs.Pending.{Pending}
use Rattle.lk_sound.proofs.FlatTypes.{unit_not_flat}
use Rattle.lk_sound.specs.Instances.{Instances}
use Rattle.lk_sound.specs.Points.{AreLocals}
use Rattle.lk_sound.specs.Tables.{AreTables}
use Rattle.lk_sound.specs.Values.{FitEach, Fits}
use Rattle.lk_sql.specs.Operations.{operation}
use Rattle.lk_sql.specs.declared.tree.SqlOp.{SqlOp}
use Rattle.lk_sql.specs.declared.tree.SqlOp.TheVariants as op
use Rattle.lk_types.specs.Each.{Each}
use Rattle.lk_types.specs.Rows.{Label, EffectSet}
use Rattle.lk_types.specs.declared.ground.Ground.{Ground}
use Rattle.lk_types.specs.declared.ground.Ground.TheVariants as known
use Rattle.lk_types.specs.declared.ty.Effect.TheVariants as effect
use Rattle.lk_typing.specs.Heads as operator
use Rattle.lk_typing.specs.Heads.{Head}
use Rattle.lk_typing.specs.Names.{Entry, Named}
use Rattle.lk_typing.specs.Rules.{Rule}
use Rattle.lk_typing.specs.Rules as rule
use Rattle.lk_typing.specs.Types.{record_of}

module _ (p : Program) (i : Instances) (tables : Tables) (calls : List ℕ → List Value → Value) (makes : Calls) (functions : Named (Entry Ground)) (effects : EffectSet) (locals : Named Ground) where
  abbrev By : Head → List Ground → Ground → Type 0
  By = Rule functions (tables_of p) locals effects

  abbrev give : Expr → Names → Value
  give = given tables calls

  module _ (e : Expr) (numbers : Named ℕ) (s : State) (q : Pending) (have : HaveNumbers locals numbers s.parts) where
    abbrev pub Makes : Ground → Type 0
    Makes t = IsMadeOf p i tables calls makes e locals numbers s q have t

    abbrev pub Parts : List Ground → List Expr → Type 0
    Parts ts es = AreMadeOf p i tables calls makes e locals numbers s q have ts es

    abbrev pub Fitting : List Ground → List Expr → Type 0
    Fitting ts es = (names : Names) → AreLocals p i locals names → FitEach p i (all_given tables calls names es) ts

    -- an operation on two things of a type, and one on one thing, that give bases
    pub binary : (l : Layer) (o : SqlOp) (u t : Ground) (a b : Expr) → layer e ≡ l → is_operation l ≡ true → operands l ≡ a ∷ b ∷ []
        → node_level makes (with_walks makes l) s.types numbers (behind_type s) ≡ two (part.Two o) (walk makes a) (walk makes b) numbers (behind_type s)
        → Parts (u ∷ u ∷ []) (a ∷ b ∷ []) → Fitting (u ∷ u ∷ []) (a ∷ b ∷ [])
        → ((v w : Value) (g h : Given) → Fits p i v u → Fits p i w u → Stands u v g → Stands u w h → Stands t (value_of (operated l (v ∷ w ∷ []))) (of_base (operation o (g.base ∷ h.base ∷ [])))) → Makes t
    binary l o u t a b is operation_is operands_are level_is are fits stands =
        two_made p i tables calls makes e locals numbers s q have a b u u t (part.Two o) (walk_form makes e l is numbers s ∙ level_is) are (λ n k l x y. (x, y)) fits
        (λ names fit own n k l' values fa fb sa sb.
        subst (λ v. Stands t v (of_base (operation o ((own k values).base ∷ (own l' values).base ∷ []))))
        (sym (given_operation tables calls e l names is operation_is ∙ ap (λ es. value_of (operated l (all_given tables calls names es))) operands_are))
        (stands (give a names) (give b names) (own k values) (own l' values) fa fb sa sb))

    unary : (l : Layer) (o : SqlOp) (u t : Ground) (a : Expr) → layer e ≡ l → is_operation l ≡ true → operands l ≡ a ∷ []
        → node_level makes (with_walks makes l) s.types numbers (behind_type s) ≡ one (part.One o) (walk makes a) numbers (behind_type s)
        → Parts (u ∷ []) (a ∷ []) → Fitting (u ∷ []) (a ∷ [])
        → ((v : Value) (g : Given) → Fits p i v u → Stands u v g → Stands t (value_of (operated l (v ∷ []))) (of_base (operation o (g.base ∷ [])))) → Makes t
    unary l o u t a is operation_is operands_are level_is are fits stands =
        one_made p i tables calls makes e locals numbers s q have a u t (part.One o) (walk_form makes e l is numbers s ∙ level_is) are (λ n k x. x) fits
        (λ names fit own n k values fa sa.
        subst (λ v. Stands t v (of_base (operation o ((own k values).base ∷ []))))
        (sym (given_operation tables calls e l names is operation_is ∙ ap (λ es. value_of (operated l (all_given tables calls names es))) operands_are))
        (stands (give a names) (own k values) fa sa))

    -- ---- numbers, texts and truth values

    pub add_arm : (a b : Expr) (ts : List Ground) (t : Ground) → layer e ≡ Node-F.Add a b → By operator.Arithmetic ts t → Parts ts (a ∷ b ∷ []) → Fitting ts (a ∷ b ∷ []) → Makes t
    add_arm a b _ _ is rule.arithmetic are fits = binary (Node-F.Add a b) op.Add known.Int known.Int a b is refl refl refl are fits (add_stands p i a b)

    pub sub_arm : (a b : Expr) (ts : List Ground) (t : Ground) → layer e ≡ Node-F.Sub a b → By operator.Arithmetic ts t → Parts ts (a ∷ b ∷ []) → Fitting ts (a ∷ b ∷ []) → Makes t
    sub_arm a b _ _ is rule.arithmetic are fits = binary (Node-F.Sub a b) op.Sub known.Int known.Int a b is refl refl refl are fits (sub_stands p i a b)

    pub mul_arm : (a b : Expr) (ts : List Ground) (t : Ground) → layer e ≡ Node-F.Mul a b → By operator.Arithmetic ts t → Parts ts (a ∷ b ∷ []) → Fitting ts (a ∷ b ∷ []) → Makes t
    mul_arm a b _ _ is rule.arithmetic are fits = binary (Node-F.Mul a b) op.Mul known.Int known.Int a b is refl refl refl are fits (mul_stands p i a b)

    pub concat_arm : (a b : Expr) (ts : List Ground) (t : Ground) → layer e ≡ Node-F.Concat a b → By operator.Concat ts t → Parts ts (a ∷ b ∷ []) → Fitting ts (a ∷ b ∷ []) → Makes t
    concat_arm a b _ _ is rule.concat are fits = binary (Node-F.Concat a b) op.Concat known.Text known.Text a b is refl refl refl are fits (concat_stands p i a b)

    pub neg_arm : (a : Expr) (ts : List Ground) (t : Ground) → layer e ≡ Node-F.Neg a → By operator.Negation ts t → Parts ts (a ∷ []) → Fitting ts (a ∷ []) → Makes t
    neg_arm a _ _ is rule.negation are fits = unary (Node-F.Neg a) op.Neg known.Int known.Int a is refl refl refl are fits (neg_stands p i a)

    pub not_arm : (a : Expr) (ts : List Ground) (t : Ground) → layer e ≡ Node-F.Not a → By operator.Not ts t → Parts ts (a ∷ []) → Fitting ts (a ∷ []) → Makes t
    not_arm a _ _ is rule.not are fits = unary (Node-F.Not a) op.Not known.Bool known.Bool a is refl refl refl are fits (not_stands p i a)

    pub and_arm : (a b : Expr) (ts : List Ground) (t : Ground) → layer e ≡ Node-F.And a b → By operator.Logic ts t → Parts ts (a ∷ b ∷ []) → Fitting ts (a ∷ b ∷ []) → Makes t
    and_arm a b _ _ is rule.logic are fits =
        two_made p i tables calls makes e locals numbers s q have a b known.Bool known.Bool known.Bool (part.Two op.And) (walk_form makes e (Node-F.And a b) is numbers s) are (λ n k l x y. (x, y)) fits
        (λ names fit own n k l values fa fb sa sb. subst (λ v. Stands known.Bool v (of_base (operation op.And ((own k values).base ∷ (own l values).base ∷ [])))) (sym (given_and tables calls e a b names is))
        (and_stands p i (give a names) (give b names) (own k values) (own l values) fa fb sa sb))

    pub or_arm : (a b : Expr) (ts : List Ground) (t : Ground) → layer e ≡ Node-F.Or a b → By operator.Logic ts t → Parts ts (a ∷ b ∷ []) → Fitting ts (a ∷ b ∷ []) → Makes t
    or_arm a b _ _ is rule.logic are fits =
        two_made p i tables calls makes e locals numbers s q have a b known.Bool known.Bool known.Bool (part.Two op.Or) (walk_form makes e (Node-F.Or a b) is numbers s) are (λ n k l x y. (x, y)) fits
        (λ names fit own n k l values fa fb sa sb. subst (λ v. Stands known.Bool v (of_base (operation op.Or ((own k values).base ∷ (own l values).base ∷ [])))) (sym (given_or tables calls e a b names is))
        (or_stands p i (give a names) (give b names) (own k values) (own l values) fa fb sa sb))

    -- ---- literals

    pub int_arm : (number : ℤ) (ts : List Ground) (t : Ground) → layer e ≡ Node-F.Int number → By (operator.Literal kind.Int) ts t → Parts ts [] → Makes t
    int_arm number _ _ is rule.literal are =
        leaf_made p i tables calls makes e locals numbers s q have known.Int (part.Lit (base.Int number)) (walk_form makes e (Node-F.Int number) is numbers s) are.left are.ordered tt
        (λ names fit own n values. subst (λ v. Stands known.Int v (of_base (base.Int number))) (sym (given_operation tables calls e (Node-F.Int number) names is refl)) (literal_number number))

    pub text_arm : (bytes : List ℕ) (ts : List Ground) (t : Ground) → layer e ≡ Node-F.Text bytes → By (operator.Literal kind.Text) ts t → Parts ts [] → Makes t
    text_arm bytes _ _ is rule.literal are =
        leaf_made p i tables calls makes e locals numbers s q have known.Text (part.Lit (base.Text bytes)) (walk_form makes e (Node-F.Text bytes) is numbers s) are.left are.ordered tt
        (λ names fit own n values. subst (λ v. Stands known.Text v (of_base (base.Text bytes))) (sym (given_operation tables calls e (Node-F.Text bytes) names is refl)) (literal_text bytes))

    pub bool_arm : (b : Bool) (ts : List Ground) (t : Ground) → layer e ≡ Node-F.Bool b → By (operator.Literal kind.Bool) ts t → Parts ts [] → Makes t
    bool_arm b _ _ is rule.literal are =
        leaf_made p i tables calls makes e locals numbers s q have known.Bool (part.Lit (base.Bool b)) (walk_form makes e (Node-F.Bool b) is numbers s) are.left are.ordered tt
        (λ names fit own n values. subst (λ v. Stands known.Bool v (of_base (base.Bool b))) (sym (given_operation tables calls e (Node-F.Bool b) names is refl)) (literal_truth b))

    -- ---- lists

    pub append_arm : (a b : Expr) (ts : List Ground) (t : Ground) → layer e ≡ Node-F.Append a b → By operator.Append ts t → is_query_type t ≡ true → Parts ts (a ∷ b ∷ []) → Fitting ts (a ∷ b ∷ []) → Makes t
    append_arm a b _ _ is (rule.append u) flat are fits =
        two_made p i tables calls makes e locals numbers s q have a b (known.List u) (known.List u) (known.List u) part.Append (walk_form makes e (Node-F.Append a b) is numbers s) are (λ n k l x y. (x, y)) fits
        (λ names fit own n k l values fa fb sa sb. subst (λ v. Stands (known.List u) v (given_level tables own n (part.Append k l) values)) (sym (given_operation tables calls e (Node-F.Append a b) names is refl))
        (append_stands a b u (list_rows u flat) (give a names) (give b names) (own k values) (own l values) sa sb))

    pub where_arm : (c d : Expr) (ts : List Ground) (t : Ground) → layer e ≡ Node-F.Where c d → By operator.Where ts t → is_query_type t ≡ true → Parts ts (c ∷ d ∷ []) → Fitting ts (c ∷ d ∷ []) → Makes t
    where_arm c d _ _ is (rule.filter u) flat are fits =
        two_made p i tables calls makes e locals numbers s q have c d known.Bool (known.List u) (known.List u) part.Where (walk_form makes e (Node-F.Where c d) is numbers s) are (λ n k l x y. (x, y)) fits
        (λ names fit own n k l values fc fd sc sd. subst (λ v. Stands (known.List u) v (given_level tables own n (part.Where k l) values)) (sym (given_where tables calls e c d names is))
        (where_stands p i u (list_rows u flat) (give c names) (give d names) (own k values) (own l values) fc sc sd))

    -- ---- records and tables

    pub project_arm : (d : Expr) (l : Word) (ts : List Ground) (t : Ground) → layer e ≡ Node-F.Project d l → By (operator.Project l.text) ts t → Each (λ u. is_query_type u ≡ true) ts → Parts ts (d ∷ []) → Fitting ts (d ∷ []) → Makes t
    project_arm d l _ t is (rule.project other row made) flat are fits =
        one_made p i tables calls makes e locals numbers s q have d (record_of row) t (λ x. part.Project x l.text) (walk_form makes e (Node-F.Project d l) is numbers s) are (λ n k x. x) fits
        (λ names fit own n k values fd sd. subst (λ v. Stands t v (given_level tables own n (part.Project k l.text) values)) (sym (given_operation tables calls e (Node-F.Project d l) names is refl))
        (project_stands p i d l t other row made (record_row row flat.0) (give d names) (own k values) fd sd))

    -- a choice, by the type of what is chosen; the node's own type is the next one
    pub if_arm : (c a b : Expr) (ts : List Ground) (t : Ground) (others : List Ground) → layer e ≡ Node-F.If c a b → By operator.If ts t → s.types ≡ t ∷ others → is_query_type t ≡ true → Parts ts (c ∷ a ∷ b ∷ []) → Fitting ts (c ∷ a ∷ b ∷ []) → Makes t
    if_arm c a b _ t others is rule.branch own flat are fits = by_type (query_type t flat)
      where
        walk_is : (x : ℕ → ℕ → ℕ → Part) → ((j k l : ℕ) → choice (t ∷ others) j k l ≡ x j k l) → walk makes e numbers s ≡ three x (walk makes c) (walk makes a) (walk makes b) numbers (behind_type s)
        walk_is x same =
            walk_form makes e (Node-F.If c a b) is numbers s
            ∙ ap (λ types. three (choice types) (walk makes c) (walk makes a) (walk makes b) numbers (behind_type s)) own
            ∙ (λ d. three (λ j k l. same j k l d) (walk makes c) (walk makes a) (walk makes b) numbers (behind_type s))

        value_is : (names : Names) → given tables calls e names ≡ chosen (bool_in (given tables calls c names)) (given tables calls a names) (given tables calls b names)
        value_is names = given_if tables calls e c a b names is

        by_type : QueryType t → Makes t
        by_type (query.base base_is) =
            three_made p i tables calls makes e locals numbers s q have c a b known.Bool t t part.Case (walk_is part.Case (λ j k l. ap (λ x. if x then part.Case j k l else (if is_list t then part.If j k l else part.IfRow (labels (columns_of t)) j k l)) base_is)) are (λ n j k l x y z. (x, y, z)) fits
            (λ names fit own n j k l values fc fa fb sc sa sb. subst (λ v. Stands t v (given_level tables own n (part.Case j k l) values)) (sym (value_is names))
            (choice_base_stands p i t base_is (give c names) (give a names) (give b names) (own j values) (own k values) (own l values) fc sc sa sb))
        by_type (query.rows rows_are base_not list_is) =
            three_made p i tables calls makes e locals numbers s q have c a b known.Bool t t part.If
            (walk_is part.If (λ j k l. ap₂ (λ x y. if x then part.Case j k l else (if y then part.If j k l else part.IfRow (labels (columns_of t)) j k l)) base_not list_is)) are (λ n j k l x y z. (x, y, z)) fits
            (λ names fit own n j k l values fc fa fb sc sa sb. subst (λ v. Stands t v (given_level tables own n (part.If j k l) values)) (sym (value_is names))
            (choice_rows_stand p i t rows_are (give c names) (give a names) (give b names) (own j values) (own k values) (own l values) fc sc sa sb))
        by_type (query.row row_is base_not list_not) =
            three_made p i tables calls makes e locals numbers s q have c a b known.Bool t t (part.IfRow (labels (columns_of t)))
            (walk_is (part.IfRow (labels (columns_of t))) (λ j k l. ap₂ (λ x y. if x then part.Case j k l else (if y then part.If j k l else part.IfRow (labels (columns_of t)) j k l)) base_not list_not)) are (λ n j k l x y z. (x, y, z)) fits
            (λ names fit own n j k l values fc fa fb sc sa sb. subst (λ v. Stands t v (given_level tables own n (part.IfRow (labels (columns_of t)) j k l) values)) (sym (value_is names))
            (choice_row_stands p i t row_is (give c names) (give a names) (give b names) (own j values) (own k values) (own l values) fc fa fb sc sa sb))

    -- whether a list is empty; its type is the next one behind the node's own
    pub empty_arm : (d : Expr) (ts : List Ground) (t u : Ground) (others : List Ground) → layer e ≡ Node-F.Empty d → By operator.Empty ts t → (behind_type s).types ≡ u ∷ others → Each (λ u. is_query_type u ≡ true) ts → Parts ts (d ∷ []) → Fitting ts (d ∷ []) → Makes t
    empty_arm d _ _ u others is (rule.empty a) next flat are fits =
        one_made p i tables calls makes e locals numbers s q have d (known.List a) known.Bool (part.Empty (element_columns u))
        (walk_form makes e (Node-F.Empty d) is numbers s ∙ ap (λ types. one (emptiness types) (walk makes d) numbers (behind_type s)) next) are (λ n k x. x) fits
        (λ names fit own n k values fd sd. subst (λ v. Stands known.Bool v (given_level tables own n (part.Empty (element_columns u) k) values)) (sym (given_operation tables calls e (Node-F.Empty d) names is refl))
        (empty_stands d a (list_rows a flat.0) (give d names) (own k values) sd))

    pub table_arm : (x : Word) (ts : List Ground) (t : Ground) (others : List Ground) → AreTables p tables → layer e ≡ Node-F.Table x → By (operator.Table x.text) ts t → s.types ≡ t ∷ others → is_query_type t ≡ true → Parts ts [] → Makes t
    table_arm x _ _ others rows is (rule.table row has scans) own flat are =
        leaf_made p i tables calls makes e locals numbers s q have (known.List (record_of row)) (part.Table x.text (labels (element_columns (known.List (record_of row)))))
        (walk_form makes e (Node-F.Table x) is numbers s ∙ ap (λ types. add (table types x.text) (behind_type s)) own) are.left are.ordered tt
        (λ names fit own n values. subst (λ v. Stands (known.List (record_of row)) v (given_level tables own n (part.Table x.text (labels (element_columns (known.List (record_of row))))) values)) (sym (given_table tables calls e x names is))
        (table_stands p i tables rows x.text row has (list_rows (record_of row) flat)))
