-- The parts of an update or a deletion have kinds, and none of them reads a table.
use Rattle.std.proofs.Common.{◌≡◌, refl, sym, ap, ◌∙◌, subst, arith, ℕ, zero, suc, ◌+◌, ◌≤◌, ◌<◌, Bool, true, false, List, [], ◌∷◌, drop, length, map, Option, Some, None, is_some, if◌then◌else◌, bytes_eq}
use Rattle.lk_ast.specs.Children.{exprs_of}
use Rattle.lk_ast.specs.Functions.{functions_of}
use Rattle.lk_ast.specs.Tables.{tables_of}
use Rattle.lk_ast.specs.declared.declaration.Program.{Program}
use Rattle.lk_ast.specs.declared.expression.ChangeExpr.{ChangeExpr, out-ChangeExpr}
use Rattle.lk_ast.specs.declared.expression.Expr.{Expr}
use Rattle.lk_ast.specs.declared.expression.PartExpr.{PartExpr}
use Rattle.lk_bodies.specs.Captured.{bound_parts, captured_as, captured_at, numbered}
use Rattle.lk_bodies.specs.Shapes.{columns_level, columns_of, labels}
use Rattle.lk_bodies.specs.Uses.{change_uses}
use Rattle.lk_bodies.specs.Walk.{Made, Several, State, all, called, labelled, walk}
use Rattle.lk_ground.specs.declared.program.GroundFun.{GroundFun}
use Rattle.lk_ground.specs.declared.program.GroundProgram.{GroundProgram}
use Rattle.lk_ground_types.specs.Shapes.{base_level, is_base}
use Rattle.lk_index.specs.Free.{captured_change}
use Rattle.lk_inline.proofs.BlockChanges.{walks_of}
use Rattle.lk_inline.proofs.BlockForms.{IsChangeAlone}
use Rattle.lk_inline.proofs.BlockStarts.{bound_length, bound_ordered}
use Rattle.lk_inline.proofs.KindForms.{base_kind}
use Rattle.lk_inline.proofs.KindHelpers.{helpers_kinded}
use Rattle.lk_inline.proofs.KindInduction.{exprs_kinded}
use Rattle.lk_inline.proofs.KindNodes.{taken_in_order}
use Rattle.lk_inline.proofs.KindStarts.{AreBound, begun, begun_described, begun_scope, begun_still, kept_each, kept_named, kept_only, kinds_kept, seen_begun}
use Rattle.lk_inline.proofs.KindsMade.{AreKinded, AreKnown, AreSeen, Descriptions, IsSeen, kinds_of, scopes_of}
use Rattle.lk_inline.proofs.LawTypes.{behind_first}
use Rattle.lk_inline.proofs.Making.{AreWithin, all_more}
use Rattle.lk_inline.proofs.SetOrder.{bases_in_order, labels_in_order}
use Rattle.lk_inline.proofs.TableColumns.{HasTable, has_table}
use Rattle.lk_inline.specs.Inlined.{calls_of, state_at, table_labels}
use Rattle.lk_inline.specs.KindsOfTypes.{IsInOrder, kind_level, kind_of_type}
use Rattle.lk_inline.specs.Law as kinded
use Rattle.lk_inline.specs.Law.{HasKinds}
use Rattle.lk_inline.specs.Sets.{in_order}
use Rattle.lk_mono.specs.Instanced.{HasInstances}
use Rattle.lk_names.specs.Programs.{IsBound}
use Rattle.lk_query.proofs.Parts.{bind-other}
use Rattle.lk_query.specs.Changed.{ReadNoTable}
use Rattle.lk_query.specs.Kinds.{AreBasesIn, IsBaseIn, IsNoList, Kind, OfRecord, kinds_from}
use Rattle.lk_query.specs.Order.{bind}
use Rattle.lk_query.specs.declared.part.Labelled.{Labelled}
use Rattle.lk_query.specs.declared.query.Captured.{Captured}
use Rattle.lk_query.specs.declared.query.Inlined.TheVariants as inlined
use Rattle.lk_query.specs.declared.query.InlinedChange.{InlinedChange}
use Rattle.lk_sites.specs.Pending.{Pending, pending}
use Rattle.lk_sites.specs.Sites.{Site}
use Rattle.lk_sites.specs.Takes.{Takes}
use Rattle.lk_sound.proofs.Bags.{all_early}
use Rattle.lk_sound.proofs.QueryParts.{AreQueryNodes}
use Rattle.lk_sound.specs.Instances.{Instances}
use Rattle.lk_sound.specs.Nodes.{change_nodes, nodes_of}
use Rattle.lk_sound.specs.Tables.{table_at}
use Rattle.lk_sql.proofs.Labels.{distinct-in_order}
use Rattle.lk_types.proofs.Parts.{mapped}
use Rattle.lk_types.specs.Each.{Each}
use Rattle.lk_types.specs.Rows.{Label, Row, fields_of}
use Rattle.lk_types.specs.declared.ground.Ground.{Ground}
use Rattle.lk_types.specs.declared.ground.Ground.TheVariants as known
use Rattle.lk_typing.specs.Names.{Entry, HasRows, Named, named, names_of, types_of}
use Rattle.lk_typing.specs.Types as types
use Rattle.lk_typing.specs.Types.{record_of}
use Rattle.lk_typing.specs.Typing.{HasField, IsChange, labels_of, changed as is_change, more}

-- ---- kinds of types

record_kind : (row : Row) → kind_of_type (record_of row) ≡ OfRecord (labels (columns_of (record_of row)))
record_kind row = ap kind_level (known.outs-Fields (fields_of row)) ∙ ap (λ l. OfRecord (labels (columns_level l))) (sym (known.outs-Fields (fields_of row)))

no_bound : (xs : List Label) → ReadNoTable (bound_parts xs)
no_bound [] = refl
no_bound (x ∷ xs) = no_bound xs

module _ (p : Program) (bound : IsBound p) (g : GroundProgram) (has : HasInstances p g) (ordered : Each (λ (f : GroundFun). Each IsInOrder f.types) g.helpers) (functions : Named (Entry Ground)) (locals : Named Ground) (site : Site)
    (proper : Each IsInOrder site.types) (change : ChangeExpr) (after : Pending) (alone : IsChangeAlone p has.shaped.instances functions locals change site.types site.calls after) where
  abbrev i : Instances
  i = has.shaped.instances

  abbrev n : ℕ
  n = length (functions_of p)

  abbrev xs : List Label
  xs = captured_change change

  abbrev kept : Named Ground
  kept = alone.names.kept

  abbrev x : Label
  x = (out-ChangeExpr change).name.text

  abbrev cond : Expr
  cond = (out-ChangeExpr change).cond

  abbrev sets : List PartExpr
  sets = (out-ChangeExpr change).sets

  abbrev numbers : Named ℕ
  numbers = (x, 0) ∷ numbered 1 xs

  abbrev start : State
  start = state_at p g.helpers (x ∷ xs) site

  abbrev first : Made
  first = walk (calls_of p g.helpers) cond numbers start

  abbrev others : Several
  others = all (map (λ (set : PartExpr). walk (calls_of p g.helpers) set.expr) sets) numbers first.state

  abbrev captured : List Captured
  captured = captured_at (change_uses change (drop 1 site.types)) xs

  abbrev ls : List Label
  ls = table_labels (table_at p (out-ChangeExpr change).table.text)

  abbrev change_of : InlinedChange
  change_of = record { parts = others.state.parts; labels = ls; captured = captured; cond = first.part; sets = in_order (labelled (map (λ (set : PartExpr). set.label.text) sets) others.numbers) }

  -- ---- where the walk begins

  abbrev given : ℕ → Option Kind
  given = bind 0 (Some (OfRecord ls)) (kinds_kept 1 kept)

  many : length kept ≡ length xs
  many = names_length kept ∙ ap length alone.names.names
    where
      names_length : (entries : Named Ground) → length entries ≡ length (names_of entries)
      names_length [] = refl
      names_length (e ∷ entries) = ap suc (names_length entries)

  given_behind : (k : ℕ) → given (suc k) ≡ kinds_kept 1 kept (suc k)
  given_behind k = bind-other 0 (suc k) (Some (OfRecord ls)) (kinds_kept 1 kept) (λ e. absurd (omega (arith, e)))

  bound_each : (k : ℕ) → k < length (x ∷ xs) → (kind : Kind) × (given k ≡ Some kind) × IsNoList kind
  bound_each zero below = (OfRecord ls, refl, tt)
  bound_each (suc k) below =
      let same = many in
      let found = kept_each 1 kept alone.names.flat (suc k) (omega arith) (omega (arith, below, same)) in
      (found.0, given_behind k ∙ found.1, found.2)

  bound_only : (k : ℕ) → is_some (given k) ≡ true → k < length (x ∷ xs)
  bound_only zero is = omega arith
  bound_only (suc k) is =
      let found = kept_only 1 kept (suc k) (ap is_some (sym (given_behind k)) ∙ is) in
      let below : suc k < 1 + length kept = found.1 in
      let same = many in
      omega (arith, below, same)

  names_bound : AreBound given (length (x ∷ xs))
  names_bound = record { each = bound_each; only = bound_only }

  module _ (row : Row) (rows_are : HasRows (tables_of p) (out-ChangeExpr change).table.text row) where
    of_table : HasTable p (out-ChangeExpr change).table.text row
    of_table = has_table p i (out-ChangeExpr change).table.text row rows_are

    row_kind : Some (OfRecord ls) ≡ Some (kind_of_type (record_of row))
    row_kind = ap (λ labels. Some (OfRecord labels)) (ap table_labels of_table.at ∙ sym of_table.labels) ∙ ap Some (sym (record_kind row))

    names_known : AreKnown (begun_scope given) (begun given) ((x, record_of row) ∷ kept) numbers (bound_parts (x ∷ xs))
    names_known y t is = by_test (bytes_eq x y) is
      where
        by_test : (b : Bool) → (if b then Some (record_of row) else named y kept) ≡ Some t
            → (k : ℕ) × ((if b then Some 0 else named y (numbered 1 xs)) ≡ Some k) × (k < length (bound_parts (x ∷ xs))) × IsSeen (begun given) (begun_scope given) (kind_of_type t) k
        by_test true is =
            let same : record_of row ≡ t = cc in
            let parts : length (bound_parts (x ∷ xs)) ≡ length (x ∷ xs) = bound_length (x ∷ xs) in
            (0, refl, omega (arith, parts), seen_begun given t 0 (row_kind ∙ ap (λ t. Some (kind_of_type t)) same))
        by_test false is =
            let found = kept_named 1 kept alone.names.flat y t is in
            let from : 1 ≤ found.0 = found.2 in
            let below : found.0 < 1 + length kept = found.3 in
            let same = many in
            let parts : length (bound_parts (x ∷ xs)) ≡ length (x ∷ xs) = bound_length (x ∷ xs) in (
              found.0,
              ap (λ ys. named y (numbered 1 ys)) (sym alone.names.names) ∙ found.1,
              omega (arith, below, same, parts),
              seen_begun given t found.0 (bind-other 0 found.0 (Some (OfRecord ls)) (kinds_kept 1 kept) (λ e. absurd (omega (arith, e, from))) ∙ found.4),
            )

  -- ---- what is made

  record IsChangeKinded : Type 0 where
    ts : List Ground
    fields : Named Ground
    are : types.labelled (labels_of sets) ts ≡ Some (fields, [])
    bases : Each (λ (set : Label × Ground). is_base set.1 ≡ true) fields
    made : AreKinded (begun_scope given) false (known.Bool ∷ ts) (begun given) start after (record { numbers = first.part ∷ others.numbers; state = others.state })

  each_base : (row : Row) → ((l : Label) (t : Ground) → HasField (record_of row) l t → is_base t ≡ true) → (fields : Named Ground) → Each (λ (set : Label × Ground). HasField (record_of row) set.0 set.1) fields
      → Each (λ (set : Label × Ground). is_base set.1 ≡ true) fields
  each_base row bases [] each = tt
  each_base row bases (f ∷ fields) each = (bases f.0 f.1 each.0, each_base row bases fields each.1)

  change_kinded : (inside : List Ground) (d : IsChange functions (tables_of p) kept change inside) → AreQueryNodes p i.helpers n (change_nodes d) → Takes i.helpers (change_nodes d) (pending (drop 1 site.types) site.calls) after → IsChangeKinded
  unfolding nodes_of
  change_kinded _ (is_change row fields ts of_cond rest rows_are holds values are each) nodes takes = record {
    ts = ts;
    fields = fields;
    are = are;
    bases = each_base row (of_table row rows_are).bases fields each;
    made = subst (AreKinded (begun_scope given) false (known.Bool ∷ ts) (begun given) start after)
        (all_more (walk (called g.helpers n) cond) (map (walk (called g.helpers n)) (exprs_of sets)) numbers start
        ∙ ap (λ ws. record { numbers = first.part ∷ (all ws numbers first.state).numbers; state = (all ws numbers first.state).state }) (walks_of (walk (called g.helpers n)) sets))
        (exprs_kinded p i has.shaped.closed (called g.helpers n) n (helpers_kinded p bound g has ordered n) functions true (more of_cond rest holds values) refl refl nodes
        (taken_in_order i.helpers _ (pending (drop 1 site.types) site.calls) after takes (behind_first IsInOrder site.types proper))
        (begun_scope given) (begun given) numbers start after (bound_ordered (x ∷ xs)) (begun_described given (x ∷ xs) names_bound) (names_known row rows_are) takes);
  }

  kinded_so : IsChangeKinded
  kinded_so = change_kinded alone.inside alone.typed (all_early p i has.shaped.closed (change_nodes alone.typed) alone.flat) alone.takes

  -- ---- the law

  module _ (same : captured ≡ map captured_as (types_of kept)) where
    abbrev later : Descriptions
    later = kinded_so.made.later

    -- a part that gives a base
    base_in : (t : Ground) (k : ℕ) → is_base t ≡ true → k < length others.state.parts → IsSeen later (begun_scope given) (kind_of_type t) k → IsBaseIn (kinds_of later) (scopes_of later) change_of k
    base_in t k is within seen = record {
      there = within;
      is = seen.0 ∙ base_kind t is;
      captures = λ j looks. ap (λ cs. bind 0 (Some (OfRecord ls)) (kinds_from 1 cs) j) same ∙ begun_still given (x ∷ xs) names_bound later kinded_so.made.adds.same j (seen.1 j looks);
    }

    bases_in : (labels : List Label) (ts : List Ground) (ns : List ℕ) (fields : Named Ground) (left : List Ground) → types.labelled labels ts ≡ Some (fields, left) → Each (λ (set : Label × Ground). is_base set.1 ≡ true) fields
        → AreWithin ts ns others.state.parts → AreSeen later (begun_scope given) ts ns → AreBasesIn (kinds_of later) (scopes_of later) change_of (labelled labels ns)
    bases_in [] ts ns fields left are bases within seen = tt
    bases_in (l ∷ labels) [] ns fields left are bases within seen = let wrong : None ≡ Some (fields, left) = are in absurd cc
    bases_in (l ∷ labels) (t ∷ ts) [] fields left are bases within seen = absurd within
    bases_in (l ∷ labels) (t ∷ ts) (k ∷ ns) fields left are bases within seen =
        let found : (x : Named Ground × List Ground) × (types.labelled labels ts ≡ Some x) × ((fields, left) ≡ ((l, t) ∷ x.0, x.1)) =
        mapped (λ (x : Named Ground × List Ground). ((l, t) ∷ x.0, x.1)) (types.labelled labels ts) (fields, left) are in
        let all_bases : Each (λ (set : Label × Ground). is_base set.1 ≡ true) ((l, t) ∷ found.0.0) = subst (λ (x : Named Ground × List Ground). Each (λ (set : Label × Ground). is_base set.1 ≡ true) x.0) found.2 bases in
        (base_in t k all_bases.0 within.0 seen.0, bases_in labels ts ns found.0.0 found.0.1 found.1 all_bases.1 within.1 seen.1)

    pub change_kinds : HasKinds p (inlined.Change change_of)
    change_kinds =
        let it : IsChangeKinded = kinded_so in
        kinded.change (kinds_of later) (scopes_of later) it.made.adds.ordered
        (record {
          typed = it.made.adds.typed;
          tests = base_in known.Bool first.part (ap base_level known.outs-Bool) it.made.within.0 it.made.are.0;
          becomes = bases_in_order (kinds_of later) (scopes_of later) change_of (labelled (labels_of sets) others.numbers) (bases_in (labels_of sets) it.ts others.numbers it.fields [] it.are it.bases it.made.within.1 it.made.are.1);
          distinct = distinct-in_order (map (λ (item : Labelled). item.label) change_of.sets) (labels_in_order (labelled (labels_of sets) others.numbers));
        })
        (it.made.adds.quiet refl (no_bound (x ∷ xs)))
