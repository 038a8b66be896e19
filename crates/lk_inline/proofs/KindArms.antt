-- The kinds of what a walk makes of operators: of bases, choices, lists, projections and tables.
use Rattle.std.proofs.Common.{◌≡◌, ℕ, Bool, true, List, [], ◌∷◌, refl, ◌∙◌, ap, ap₂, if◌then◌else◌}
use Rattle.std.proofs.lemmas.Bool.{both_ways}
use Rattle.lk_ast.specs.Layers.{layer}
use Rattle.lk_ast.specs.declared.declaration.TableDecl.{TableDecl}
use Rattle.lk_ast.specs.declared.expression.Expr.{Expr}
use Rattle.lk_ast.specs.declared.expression.Node.TheOpen.{Node-F}
use Rattle.lk_ast.specs.declared.place.Word.{Word}
use Rattle.lk_ast.specs.declared.table.Base.{Base}
use Rattle.lk_ast.specs.declared.table.BaseKind.{BaseKind}
use Rattle.lk_bodies.specs.Shapes.{columns_of, element_columns, labels}
use Rattle.lk_bodies.specs.Walk.{Calls, State, add, behind_type, choice, emptiness, one, table, three, two, walk}
use Rattle.lk_ground_types.specs.Shapes.{are_rows, is_base, is_flat_row, is_list, is_query_type}
use Rattle.lk_inline.proofs.Inducing.{walk_form}
use Rattle.lk_inline.proofs.KindForms.{base_columns, base_kind, is_list_kind, row_kind, rows_kind, type_columns}
use Rattle.lk_inline.proofs.KindOperands.{Here, Own, leaf_kinded, one_kinded, own_part, three_kinded, two_kinded}
use Rattle.lk_inline.proofs.KindsMade.{Descriptions, Scope}
use Rattle.lk_inline.proofs.QueryTypes.{QueryType, list_rows, query_type, record_row}
use Rattle.lk_inline.proofs.QueryTypes as query
use Rattle.lk_inline.proofs.RecordValues.{base_among, flat_fields}
use Rattle.lk_inline.proofs.Standing.{bool_is, int_is, kind_is, text_is}
use Rattle.lk_inline.specs.KindsOfTypes.{IsInOrder, kind_of_type}
use Rattle.lk_query.specs.Kinds.{OfBase, OfList, OfRecord}
use Rattle.lk_query.specs.declared.part.Part.{Part}
use Rattle.lk_query.specs.declared.part.Part.TheVariants as part
use Rattle.lk_sites.specs.Pending.{Pending}
use Rattle.lk_sound.proofs.FieldRows.{get_among, get_first}
use Rattle.lk_sql.specs.Good.{operand_count}
use Rattle.lk_sql.specs.declared.tree.SqlOp.{SqlOp}
use Rattle.lk_sql.specs.declared.tree.SqlOp.TheVariants as op
use Rattle.lk_types.specs.Each.{Each}
use Rattle.lk_types.specs.Rows.{EffectSet, fields_of}
use Rattle.lk_types.specs.declared.ground.Ground.{Ground}
use Rattle.lk_types.specs.declared.ground.Ground.TheVariants as known_type
use Rattle.lk_types.specs.declared.ty.Effect.TheVariants as effect
use Rattle.lk_typing.specs.Heads as operator
use Rattle.lk_typing.specs.Heads.{Head}
use Rattle.lk_typing.specs.Names.{Entry, Named}
use Rattle.lk_typing.specs.Rules.{Rule}
use Rattle.lk_typing.specs.Rules as rule
use Rattle.lk_typing.specs.Types as types
use Rattle.lk_typing.specs.Types.{record_of, with_fields}

module _ (functions : Named (Entry Ground)) (tables : List TableDecl) (locals : Named Ground) (effects : EffectSet) (scope : Scope) (makes : Calls) (e : Expr) (numbers : Named ℕ) (known : Descriptions) (s : State) (q : Pending) where
  abbrev By : Head → List Ground → Ground → Type 0
  By = Rule functions tables locals effects

  abbrev scans : Bool
  scans = effects effect.Scan

  abbrev pub Makes : Ground → Type 0
  Makes t = Here scope scans makes e numbers known s q t

  abbrev pub Parts : List Ground → List Expr → Type 0
  Parts ts es = Own scope scans makes e numbers known s q ts es

  -- ---- numbers, texts and truth values

  pub binary : (o : SqlOp) (u t : Ground) (a b : Expr) → walk makes e numbers s ≡ two (part.Two o) (walk makes a) (walk makes b) numbers (behind_type s) → operand_count o ≡ 2 → is_base u ≡ true → is_base t ≡ true
      → Parts (u ∷ u ∷ []) (a ∷ b ∷ []) → Makes t
  binary o u t a b walk_is count own_base base_is are =
      two_kinded scope scans makes e numbers known s q a b u u t (part.Two o) walk_is are (λ n k l x y. (x, y))
      (λ seen n k l x y sk sl. (
        base_kind t base_is,
        count,
        own_part seen n (kind_of_type t) scope u OfBase k (base_kind u own_base) x sk,
        own_part seen n (kind_of_type t) scope u OfBase l (base_kind u own_base) y sl,
      )) (base_columns t base_is) (λ k l. refl)

  pub unary : (o : SqlOp) (u t : Ground) (a : Expr) → walk makes e numbers s ≡ one (part.One o) (walk makes a) numbers (behind_type s) → operand_count o ≡ 1 → is_base u ≡ true → is_base t ≡ true → Parts (u ∷ []) (a ∷ []) → Makes t
  unary o u t a walk_is count own_base base_is are =
      one_kinded scope scans makes e numbers known s q a u t (part.One o) walk_is are (λ n k x. x)
      (λ seen n k x sk. (base_kind t base_is, count, own_part seen n (kind_of_type t) scope u OfBase k (base_kind u own_base) x sk)) (base_columns t base_is) (λ k. refl)

  pub arithmetic_arm : (o : SqlOp) (a b : Expr) (ts : List Ground) (t : Ground) → walk makes e numbers s ≡ two (part.Two o) (walk makes a) (walk makes b) numbers (behind_type s) → operand_count o ≡ 2 → By operator.Arithmetic ts t
      → Parts ts (a ∷ b ∷ []) → Makes t
  arithmetic_arm o a b _ _ walk_is count rule.arithmetic are = binary o known_type.Int known_type.Int a b walk_is count int_is int_is are

  pub logic_arm : (o : SqlOp) (a b : Expr) (ts : List Ground) (t : Ground) → walk makes e numbers s ≡ two (part.Two o) (walk makes a) (walk makes b) numbers (behind_type s) → operand_count o ≡ 2 → By operator.Logic ts t
      → Parts ts (a ∷ b ∷ []) → Makes t
  logic_arm o a b _ _ walk_is count rule.logic are = binary o known_type.Bool known_type.Bool a b walk_is count bool_is bool_is are

  pub concat_arm : (a b : Expr) (ts : List Ground) (t : Ground) → layer e ≡ Node-F.Concat a b → By operator.Concat ts t → Parts ts (a ∷ b ∷ []) → Makes t
  concat_arm a b _ _ is rule.concat are = binary op.Concat known_type.Text known_type.Text a b (walk_form makes e (Node-F.Concat a b) is numbers s) refl text_is text_is are

  pub neg_arm : (a : Expr) (ts : List Ground) (t : Ground) → layer e ≡ Node-F.Neg a → By operator.Negation ts t → Parts ts (a ∷ []) → Makes t
  neg_arm a _ _ is rule.negation are = unary op.Neg known_type.Int known_type.Int a (walk_form makes e (Node-F.Neg a) is numbers s) refl int_is int_is are

  pub not_arm : (a : Expr) (ts : List Ground) (t : Ground) → layer e ≡ Node-F.Not a → By operator.Not ts t → Parts ts (a ∷ []) → Makes t
  not_arm a _ _ is rule.not are = unary op.Not known_type.Bool known_type.Bool a (walk_form makes e (Node-F.Not a) is numbers s) refl bool_is bool_is are

  pub literal_arm : (k : BaseKind) (b : Base) (ts : List Ground) (t : Ground) → walk makes e numbers s ≡ add (part.Lit b) (behind_type s) → By (operator.Literal k) ts t → Parts ts [] → Makes t
  literal_arm k b _ _ walk_is rule.literal are =
      leaf_kinded scope scans makes e numbers known s q (types.base k) (part.Lit b) walk_is are (λ n. tt) (λ seen n. base_kind (types.base k) (kind_is k)) (base_columns (types.base k) (kind_is k)) (λ off. refl)

  -- ---- lists

  pub append_arm : (a b : Expr) (ts : List Ground) (t : Ground) → layer e ≡ Node-F.Append a b → By operator.Append ts t → is_query_type t ≡ true → IsInOrder t → Parts ts (a ∷ b ∷ []) → Makes t
  append_arm a b _ _ is (rule.append u) flat order are =
      let t : Ground = known_type.List u in
      two_kinded scope scans makes e numbers known s q a b t t t part.Append (walk_form makes e (Node-F.Append a b) is numbers s) are (λ n k l x y. (x, y))
      (λ seen n k l x y sk sl. (
        is_list_kind t (list_rows u flat),
        own_part seen n (kind_of_type t) scope t (kind_of_type t) k refl x sk,
        own_part seen n (kind_of_type t) scope t (kind_of_type t) l refl y sl,
      )) (type_columns t flat order) (λ k l. refl)

  pub where_arm : (c d : Expr) (ts : List Ground) (t : Ground) → layer e ≡ Node-F.Where c d → By operator.Where ts t → is_query_type t ≡ true → IsInOrder t → Parts ts (c ∷ d ∷ []) → Makes t
  where_arm c d _ _ is (rule.filter u) flat order are =
      let t : Ground = known_type.List u in
      two_kinded scope scans makes e numbers known s q c d known_type.Bool t t part.Where (walk_form makes e (Node-F.Where c d) is numbers s) are (λ n k l x y. (x, y))
      (λ seen n k l x y sk sl. (
        is_list_kind t (list_rows u flat),
        own_part seen n (kind_of_type t) scope known_type.Bool OfBase k (base_kind known_type.Bool bool_is) x sk,
        own_part seen n (kind_of_type t) scope t (kind_of_type t) l refl y sl,
      )) (type_columns t flat order) (λ k l. refl)

  -- whether a list is empty; its type is the next one behind the node's own
  pub empty_arm : (d : Expr) (u : Ground) (others : List Ground) → layer e ≡ Node-F.Empty d → (behind_type s).types ≡ u ∷ others → are_rows u ≡ true → Parts (u ∷ []) (d ∷ []) → Makes known_type.Bool
  empty_arm d u others is next rows_are are =
      one_kinded scope scans makes e numbers known s q d u known_type.Bool (part.Empty (element_columns u))
      (walk_form makes e (Node-F.Empty d) is numbers s ∙ ap (λ types. one (emptiness types) (walk makes d) numbers (behind_type s)) next) are (λ n k x. x)
      (λ seen n k x sk. (base_kind known_type.Bool bool_is, own_part seen n (kind_of_type known_type.Bool) scope u (OfList (labels (element_columns u))) k (rows_kind u rows_are) x sk))
      (base_columns known_type.Bool bool_is) (λ k. refl)

  -- ---- records and tables

  pub project_arm : (d : Expr) (l : Word) (ts : List Ground) (t : Ground) → layer e ≡ Node-F.Project d l → By (operator.Project l.text) ts t → Each (λ u. is_query_type u ≡ true) ts → Parts ts (d ∷ []) → Makes t
  project_arm d l _ t is (rule.project other row made) flat are =
      let row_is : is_flat_row (record_of row) ≡ true = record_row row flat.0 in
      let base_is : is_base t ≡ true = base_among l.text t (fields_of row) (flat_fields (fields_of row) row_is) (get_among row l.text t (get_first l.text t other row made)) in
      one_kinded scope scans makes e numbers known s q d (record_of row) t (λ x. part.Project x l.text) (walk_form makes e (Node-F.Project d l) is numbers s) are (λ n k x. x)
      (λ seen n k x sk. (
        base_kind t base_is,
        (labels (columns_of (record_of row)), own_part seen n (kind_of_type t) scope (record_of row) (OfRecord (labels (columns_of (record_of row)))) k (row_kind (record_of row) row_is) x sk),
      )) (base_columns t base_is) (λ k. refl)

  pub table_arm : (x : Word) (ts : List Ground) (t : Ground) (others : List Ground) → layer e ≡ Node-F.Table x → By (operator.Table x.text) ts t → s.types ≡ t ∷ others → is_query_type t ≡ true → IsInOrder t → Parts ts [] → Makes t
  table_arm x _ _ others is (rule.table row has may) own flat order are =
      let t : Ground = known_type.List (record_of row) in
      leaf_kinded scope scans makes e numbers known s q t (part.Table x.text (labels (element_columns t)))
      (walk_form makes e (Node-F.Table x) is numbers s ∙ ap (λ types. add (table types x.text) (behind_type s)) own) are (λ n. tt) (λ seen n. rows_kind t (list_rows (record_of row) flat)) (type_columns t flat order)
      (λ off. absurd (both_ways (effects effect.Scan) off may))

  -- a choice, by the type of what is chosen; the node's own type is the next one
  pub if_arm : (c a b : Expr) (ts : List Ground) (t : Ground) (others : List Ground) → layer e ≡ Node-F.If c a b → By operator.If ts t → s.types ≡ t ∷ others → is_query_type t ≡ true → IsInOrder t → Parts ts (c ∷ a ∷ b ∷ []) → Makes t
  if_arm c a b _ t others is rule.branch own flat order are = by_type (query_type t flat)
    where
      walk_is : (x : ℕ → ℕ → ℕ → Part) → ((j k l : ℕ) → choice (t ∷ others) j k l ≡ x j k l) → walk makes e numbers s ≡ three x (walk makes c) (walk makes a) (walk makes b) numbers (behind_type s)
      walk_is x same =
          walk_form makes e (Node-F.If c a b) is numbers s
          ∙ ap (λ types. three (choice types) (walk makes c) (walk makes a) (walk makes b) numbers (behind_type s)) own
          ∙ (λ d. three (λ j k l. same j k l d) (walk makes c) (walk makes a) (walk makes b) numbers (behind_type s))

      by_type : QueryType t → Makes t
      by_type (query.base base_is) =
          three_kinded scope scans makes e numbers known s q c a b known_type.Bool t t t part.Case
          (walk_is part.Case (λ j k l. ap (λ x. if x then part.Case j k l else (if is_list t then part.If j k l else part.IfRow (labels (columns_of t)) j k l)) base_is)) are (λ n j k l x y z. (x, y, z))
          (λ seen n j k l x y z sj sk sl. (
            base_kind t base_is,
            own_part seen n (kind_of_type t) scope known_type.Bool OfBase j (base_kind known_type.Bool bool_is) x sj,
            own_part seen n (kind_of_type t) scope t OfBase k (base_kind t base_is) y sk,
            own_part seen n (kind_of_type t) scope t OfBase l (base_kind t base_is) z sl,
          )) (type_columns t flat order) (λ j k l. refl)
      by_type (query.rows rows_are base_not list_is) =
          three_kinded scope scans makes e numbers known s q c a b known_type.Bool t t t part.If
          (walk_is part.If (λ j k l. ap₂ (λ x y. if x then part.Case j k l else (if y then part.If j k l else part.IfRow (labels (columns_of t)) j k l)) base_not list_is)) are (λ n j k l x y z. (x, y, z))
          (λ seen n j k l x y z sj sk sl. (
            is_list_kind t rows_are,
            own_part seen n (kind_of_type t) scope known_type.Bool OfBase j (base_kind known_type.Bool bool_is) x sj,
            own_part seen n (kind_of_type t) scope t (kind_of_type t) k refl y sk,
            own_part seen n (kind_of_type t) scope t (kind_of_type t) l refl z sl,
          )) (type_columns t flat order) (λ j k l. refl)
      by_type (query.row row_is base_not list_not) =
          three_kinded scope scans makes e numbers known s q c a b known_type.Bool t t t (part.IfRow (labels (columns_of t)))
          (walk_is (part.IfRow (labels (columns_of t))) (λ j k l. ap₂ (λ x y. if x then part.Case j k l else (if y then part.If j k l else part.IfRow (labels (columns_of t)) j k l)) base_not list_not)) are (λ n j k l x y z. (x, y, z))
          (λ seen n j k l x y z sj sk sl. (
            row_kind t row_is,
            own_part seen n (kind_of_type t) scope known_type.Bool OfBase j (base_kind known_type.Bool bool_is) x sj,
            own_part seen n (kind_of_type t) scope t (kind_of_type t) k refl y sk,
            own_part seen n (kind_of_type t) scope t (kind_of_type t) l refl z sl,
          )) (type_columns t flat order) (λ j k l. refl)
