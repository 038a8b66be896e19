-- The kinds of what a walk makes of comparisons, by the type of what is compared, which is the next one behind the node's own.
use Rattle.std.proofs.Common.{◌≡◌, ℕ, Bool, true, false, List, [], ◌∷◌, ◌++◌, length, refl, sym, ◌∙◌, ap, subst, if◌then◌else◌}
use Rattle.lk_ast.specs.Layers.{layer}
use Rattle.lk_ast.specs.declared.declaration.TableDecl.{TableDecl}
use Rattle.lk_ast.specs.declared.expression.Expr.{Expr}
use Rattle.lk_ast.specs.declared.expression.Node.TheOpen.{Node-F}
use Rattle.lk_bodies.specs.Shapes.{columns_of, labels}
use Rattle.lk_bodies.specs.Walk.{Calls, Made, State, add, all, behind_type, equality, inequality, two, walk}
use Rattle.lk_ground_types.specs.Shapes.{is_list, is_query_type}
use Rattle.lk_inline.proofs.Inducing.{walk_form}
use Rattle.lk_inline.proofs.KindArms.{Makes, Parts, binary}
use Rattle.lk_inline.proofs.KindForms.{base_columns, base_kind, row_kind}
use Rattle.lk_inline.proofs.KindOperands.{own_part, two_kinded}
use Rattle.lk_inline.proofs.KindSteps.{finished_kinded, from_behind_type, kind_added, kind_behind}
use Rattle.lk_inline.proofs.KindsMade.{Descriptions, IsKinded, Scope}
use Rattle.lk_inline.proofs.QueryTypes.{QueryType, query_type}
use Rattle.lk_inline.proofs.QueryTypes as query
use Rattle.lk_inline.proofs.Standing.{bool_is}
use Rattle.lk_inline.specs.KindsOfTypes.{kind_of_type}
use Rattle.lk_query.specs.Kinds.{OfBase, OfRecord}
use Rattle.lk_query.specs.declared.part.Part.{Part}
use Rattle.lk_query.specs.declared.part.Part.TheVariants as part
use Rattle.lk_sites.specs.Pending.{Pending}
use Rattle.lk_sql.specs.declared.tree.SqlOp.TheVariants as op
use Rattle.lk_types.specs.Rows.{EffectSet}
use Rattle.lk_types.specs.declared.ground.Ground.{Ground}
use Rattle.lk_types.specs.declared.ground.Ground.TheVariants as known_type
use Rattle.lk_types.specs.declared.ty.Effect.TheVariants as effect
use Rattle.lk_typing.specs.Names.{Entry, Named}

-- NOT of a truth value that was made
not_kinded : (scope : Scope) (scans : Bool) (known : Descriptions) (s : State) (q : Pending) (m : Made) → IsKinded scope scans known_type.Bool known s q m → IsKinded scope scans known_type.Bool known s q (add (part.One op.Not m.part) m.state)
not_kinded scope scans known s q m is = record {
  left = is.left;
  has =
      kind_behind scope scans known_type.Bool known is.has.later s.parts m.state.parts (length m.state.parts) (m.state.parts ++ part.One op.Not m.part ∷ []) is.has.adds
      (kind_added scope scans known_type.Bool is.has.later m.state.parts (part.One op.Not m.part) is.has.adds.ordered is.has.adds.typed is.has.within
      (base_kind known_type.Bool bool_is, refl, own_part is.has.later (length m.state.parts) (kind_of_type known_type.Bool) scope known_type.Bool OfBase m.part (base_kind known_type.Bool bool_is) is.has.within is.has.is)
      (base_columns known_type.Bool bool_is) (λ off. refl));
}

apart : (t : Ground) → is_list t ≡ true → is_list t ≡ false → ⊥
apart t is also = let wrong : true ≡ false = sym is ∙ also in cc

module _ (functions : Named (Entry Ground)) (tables : List TableDecl) (locals : Named Ground) (effects : EffectSet) (scope : Scope) (makes : Calls) (e : Expr) (numbers : Named ℕ) (known : Descriptions) (s : State) (q : Pending) where
  abbrev scans : Bool
  scans = effects effect.Scan

  abbrev Here : Ground → Type 0
  Here t = Makes functions tables locals effects scope makes e numbers known s q t

  abbrev Both : Ground → Expr → Expr → Type 0
  Both u a b = Parts functions tables locals effects scope makes e numbers known s q (u ∷ u ∷ []) (a ∷ b ∷ [])

  pub eq_arm : (a b : Expr) (u : Ground) (others : List Ground) → layer e ≡ Node-F.Eq a b → (behind_type s).types ≡ u ∷ others → is_query_type u ≡ true → is_list u ≡ false → Both u a b → Here known_type.Bool
  eq_arm a b u others is next flat no_list are = by_type (query_type u flat)
    where
      walk_is : (x : ℕ → ℕ → Part) → ((k l : ℕ) → equality (u ∷ others) k l ≡ x k l) → walk makes e numbers s ≡ two x (walk makes a) (walk makes b) numbers (behind_type s)
      walk_is x one =
          walk_form makes e (Node-F.Eq a b) is numbers s
          ∙ ap (λ types. two (equality types) (walk makes a) (walk makes b) numbers (behind_type s)) next
          ∙ (λ d. two (λ k l. one k l d) (walk makes a) (walk makes b) numbers (behind_type s))

      by_type : QueryType u → Here known_type.Bool
      by_type (query.base base_is) =
          binary functions tables locals effects scope makes e numbers known s q op.Eq u known_type.Bool a b
          (walk_is (part.Two op.Eq) (λ k l. ap (λ x. if x then part.Two op.Eq k l else part.EqRows (labels (columns_of u)) k l) base_is)) refl base_is bool_is are
      by_type (query.rows rows_are base_not list_is) = absurd (apart u list_is no_list)
      by_type (query.row row_is base_not list_not) =
          two_kinded scope scans makes e numbers known s q a b u u known_type.Bool (part.EqRows (labels (columns_of u)))
          (walk_is (part.EqRows (labels (columns_of u))) (λ k l. ap (λ x. if x then part.Two op.Eq k l else part.EqRows (labels (columns_of u)) k l) base_not)) are (λ n k l x y. (x, y))
          (λ seen n k l x y sk sl. (
            base_kind known_type.Bool bool_is,
            own_part seen n (kind_of_type known_type.Bool) scope u (OfRecord (labels (columns_of u))) k (row_kind u row_is) x sk,
            own_part seen n (kind_of_type known_type.Bool) scope u (OfRecord (labels (columns_of u))) l (row_kind u row_is) y sl,
          )) (base_columns known_type.Bool bool_is) (λ k l. refl)

  pub ne_arm : (a b : Expr) (u : Ground) (others : List Ground) → layer e ≡ Node-F.Ne a b → (behind_type s).types ≡ u ∷ others → is_query_type u ≡ true → is_list u ≡ false → Both u a b → Here known_type.Bool
  ne_arm a b u others is next flat no_list are = by_type (query_type u flat)
    where
      first : Made
      first = walk makes a numbers (behind_type s)

      second : Made
      second = walk makes b numbers first.state

      walk_is : walk makes e numbers s ≡ inequality (u ∷ others) first.part second.part second.state
      walk_is = walk_form makes e (Node-F.Ne a b) is numbers s ∙ ap (λ types. inequality types first.part second.part second.state) next

      choose : Made → Made → Bool → Made
      choose x y b = if b then x else y

      equal : Part
      equal = part.EqRows (labels (columns_of u)) first.part second.part

      differ : Made
      differ = add (part.One op.Not (length second.state.parts)) (add equal second.state).state

      by_type : QueryType u → Here known_type.Bool
      by_type (query.base base_is) =
          binary functions tables locals effects scope makes e numbers known s q op.Ne u known_type.Bool a b
          (walk_is ∙ ap (choose (add (part.Two op.Ne first.part second.part) second.state) differ) base_is) refl base_is bool_is are
      by_type (query.rows rows_are base_not list_is) = absurd (apart u list_is no_list)
      by_type (query.row row_is base_not list_not) =
          let n : ℕ = length second.state.parts in
          subst (λ m. IsKinded scope scans known_type.Bool known s q m) (sym (walk_is ∙ ap (choose (add (part.Two op.Ne first.part second.part) second.state) differ) base_not))
          (from_behind_type scope scans known_type.Bool known s q differ
          (not_kinded scope scans known (behind_type s) q (add equal second.state)
          (finished_kinded scope scans known_type.Bool (u ∷ u ∷ []) known (behind_type s) q (all (walk makes a ∷ walk makes b ∷ []) numbers (behind_type s)) equal are (are.within.0, are.within.1.0) (
            base_kind known_type.Bool bool_is,
            own_part are.later n (kind_of_type known_type.Bool) scope u (OfRecord (labels (columns_of u))) first.part (row_kind u row_is) are.within.0 are.are.0,
            own_part are.later n (kind_of_type known_type.Bool) scope u (OfRecord (labels (columns_of u))) second.part (row_kind u row_is) are.within.1.0 are.are.1.0,
          ) (base_columns known_type.Bool bool_is) (λ off. refl))))
