-- The kinds of what a walk makes of records and lists of records.
use Rattle.std.proofs.Common.{◌≡◌, ℕ, ◌<◌, Bool, true, List, [], ◌∷◌, ◌++◌, append-nil, length, map, refl, sym, ◌∙◌, ap, ap₂, subst}
use Rattle.std.proofs.lemmas.List.{map_push}
use Rattle.lk_ast.specs.Layers.{layer}
use Rattle.lk_ast.specs.declared.declaration.TableDecl.{TableDecl}
use Rattle.lk_ast.specs.declared.expression.Expr.{Expr}
use Rattle.lk_ast.specs.declared.expression.Node.TheOpen.{Node-F}
use Rattle.lk_ast.specs.declared.expression.PartExpr.{PartExpr}
use Rattle.lk_bodies.proofs.Levels.{labels_are, walks_are}
use Rattle.lk_bodies.specs.Shapes.{columns_of, labels}
use Rattle.lk_bodies.specs.Walk.{Calls, Made, Several, State, add, all, behind_type, extension, fields, labelled, walk}
use Rattle.lk_ground_types.specs.Shapes.{is_base, is_flat_row, is_query_type}
use Rattle.lk_inline.proofs.Adding.{at_end}
use Rattle.lk_inline.proofs.Inducing.{walk_form}
use Rattle.lk_inline.proofs.KindArms.{Makes, Parts}
use Rattle.lk_inline.proofs.KindForms.{base_kind, list_kind, record_columns, row_kind, type_columns}
use Rattle.lk_inline.proofs.KindOperands.{own_part}
use Rattle.lk_inline.proofs.KindSteps.{adds_both, adds_one, all_seen_later, finished_kinded, from_behind_type, kind_added, kind_behind, next_has, next_seen, with_part}
use Rattle.lk_inline.proofs.KindsMade.{Adds, AreKinded, AreSeen, Descriptions, IsKinded, IsSeen, Scope, kinds_of, scopes_of}
use Rattle.lk_inline.proofs.Making.{within_grows}
use Rattle.lk_inline.proofs.QueryTypes.{list_rows, record_row, rows_flat}
use Rattle.lk_inline.proofs.RecordArms.{all_below, all_labelled, all_last, below_front, rest_each, walks_of_fields}
use Rattle.lk_inline.proofs.RecordRules.{bases_in, flat_bases, labelled_types}
use Rattle.lk_inline.specs.KindsOfTypes.{IsInOrder, kind_of_type}
use Rattle.lk_query.specs.Kinds.{AllHave, AreBases, Kind, OfBase, OfRecord}
use Rattle.lk_query.specs.Order.{AllBelow}
use Rattle.lk_query.specs.declared.part.Part.{Part}
use Rattle.lk_query.specs.declared.part.Part.TheVariants as part
use Rattle.lk_sites.specs.Pending.{Pending}
use Rattle.lk_types.specs.Each.{Each}
use Rattle.lk_types.specs.Rows.{EffectSet, Label}
use Rattle.lk_types.specs.declared.ground.Ground.{Ground}
use Rattle.lk_types.specs.declared.ground.Ground.TheVariants as known_type
use Rattle.lk_types.specs.declared.ty.Effect.TheVariants as effect
use Rattle.lk_typing.specs.Heads as operator
use Rattle.lk_typing.specs.Names.{Entry, Named, types_of}
use Rattle.lk_typing.specs.Rules as rule
use Rattle.lk_typing.specs.Types.{record_of}
use Rattle.lk_typing.specs.Typing.{expr_of, label_of}

-- ---- several own parts

module _ (known : Descriptions) (n : ℕ) (kind : Kind) (scope : Scope) where
  all_have : (a : Ground) (row : Kind) → kind_of_type a ≡ row → (ts : List Ground) (numbers : List ℕ) → Each (λ t. t ≡ a) ts → AllBelow n numbers → AreSeen known scope ts numbers
      → AllHave (kinds_of (with_part known n kind scope)) (scopes_of (with_part known n kind scope)) n row numbers
  all_have a row is [] [] same below seen = tt
  all_have a row is [] (k ∷ numbers) same below seen = absurd seen
  all_have a row is (t ∷ ts) [] same below seen = tt
  all_have a row is (t ∷ ts) (k ∷ numbers) same below seen = (own_part known n kind scope t row k (ap kind_of_type same.0 ∙ is) below.0 seen.0, all_have a row is ts numbers same.1 below.1 seen.1)

  labelled_bases : (ls : List Label) (ts : List Ground) (numbers : List ℕ) → Each (λ t. is_base t ≡ true) ts → AllBelow n numbers → AreSeen known scope ts numbers
      → AreBases (kinds_of (with_part known n kind scope)) (scopes_of (with_part known n kind scope)) n (labelled ls numbers)
  labelled_bases [] ts numbers bases below seen = tt
  labelled_bases (l ∷ ls) ts [] bases below seen = tt
  labelled_bases (l ∷ ls) [] (k ∷ numbers) bases below seen = absurd seen
  labelled_bases (l ∷ ls) (t ∷ ts) (k ∷ numbers) bases below seen = (own_part known n kind scope t OfBase k (base_kind t bases.0) below.0 seen.0, labelled_bases ls ts numbers bases.1 below.1 seen.1)

none_seen : (known : Descriptions) (scope : Scope) (numbers : List ℕ) (k : ℕ) → AreSeen known scope [] (numbers ++ k ∷ []) → ⊥
none_seen known scope [] k seen = seen
none_seen known scope (j ∷ numbers) k seen = seen

nothing_seen : (known : Descriptions) (scope : Scope) (ts : List Ground) (t : Ground) → AreSeen known scope (ts ++ t ∷ []) [] → ⊥
nothing_seen known scope [] t seen = seen
nothing_seen known scope (u ∷ ts) t seen = seen

-- the last one apart from the others
seen_split : (known : Descriptions) (scope : Scope) (ts : List Ground) (t : Ground) (numbers : List ℕ) (k : ℕ) → AreSeen known scope (ts ++ t ∷ []) (numbers ++ k ∷ []) → AreSeen known scope ts numbers × IsSeen known scope (kind_of_type t) k
seen_split known scope [] t [] k seen = (tt, seen.0)
seen_split known scope [] t (j ∷ numbers) k seen = absurd (none_seen known scope numbers k seen.1)
seen_split known scope (u ∷ ts) t [] k seen = absurd (nothing_seen known scope ts t seen.1)
seen_split known scope (u ∷ ts) t (j ∷ numbers) k seen = let rest = seen_split known scope ts t numbers k seen.1 in ((seen.0, rest.0), rest.1)

base_types : (fields : Named Ground) → Each (λ (f : Label × Ground). is_base f.1 ≡ true) fields → Each (λ t. is_base t ≡ true) (types_of fields)
base_types [] bases = tt
base_types (f ∷ fields) bases = (bases.0, base_types fields bases.1)

module _ (functions : Named (Entry Ground)) (tables : List TableDecl) (locals : Named Ground) (effects : EffectSet) (scope : Scope) (makes : Calls) (e : Expr) (numbers : Named ℕ) (known : Descriptions) (s : State) (q : Pending) where
  abbrev scans : Bool
  scans = effects effect.Scan

  abbrev Here : Ground → Type 0
  Here t = Makes functions tables locals effects scope makes e numbers known s q t

  abbrev Own : List Ground → List Expr → Type 0
  Own ts es = Parts functions tables locals effects scope makes e numbers known s q ts es

  -- a list of records
  pub items_arm : (es : List Expr) (ts : List Ground) (t : Ground) → layer e ≡ Node-F.List es → rule.Rule functions tables locals effects operator.Items ts t → is_query_type t ≡ true → IsInOrder t → Own ts es → Here t
  items_arm es ts _ is (rule.items a same) flat order are =
      let t : Ground = known_type.List a in
      let m : Several = all (map (walk makes) es) numbers (behind_type s) in
      let below : AllBelow (length m.state.parts) m.numbers = all_below ts m.numbers m.state.parts are.within in
      subst (λ w. IsKinded scope scans t known s q w) (sym (walk_form makes e (Node-F.List es) is numbers s))
      (from_behind_type scope scans t known s q (add (part.Items m.numbers) m.state)
      (finished_kinded scope scans t ts known (behind_type s) q m (part.Items m.numbers) are below
      (labels (columns_of a), list_kind a, all_have are.later (length m.state.parts) (kind_of_type t) scope a (OfRecord (labels (columns_of a))) (row_kind a (rows_flat a (list_rows a flat))) ts m.numbers same below are.are)
      (type_columns t flat order) (λ off. refl)))

  -- a record, whose fields extend an empty one
  pub record_arm : (items : List PartExpr) (ts : List Ground) (t : Ground) (others : List Ground) → layer e ≡ Node-F.Record items → rule.Rule functions tables locals effects (operator.Record (map label_of items)) ts t → s.types ≡ t ∷ others → is_query_type t ≡ true
      → Own ts (map expr_of items) → Here t
  record_arm items ts _ others is (rule.closed_record found row known_fields made) own flat are =
      let t : Ground = record_of row in
      let row_is : is_flat_row t ≡ true = record_row row flat in
      let ls : List Label = map (λ (item : PartExpr). item.label.text) items in
      let es : List Expr = map expr_of items in
      let m : Several = all (map (walk makes) es) numbers (behind_type s) in
      let rest : ℕ = length m.state.parts in
      let last : State = (add (part.Record []) m.state).state in
      let x : Part = part.Extend (labels (columns_of t)) (labelled ls m.numbers) rest in
      let then : Descriptions = with_part are.later rest (OfRecord []) scope in
      let empty : Adds scans are.later m.state.parts then last.parts = adds_one scans are.later m.state.parts (part.Record []) (OfRecord []) scope are.adds.ordered are.adds.typed tt (refl, tt) tt (λ off. refl) in
      let below : AllBelow (length last.parts) m.numbers = all_below ts m.numbers last.parts (within_grows ts m.numbers m.state.parts last.parts empty.grows are.within) in
      let bases : Each (λ t. is_base t ≡ true) ts =
      subst (Each (λ t. is_base t ≡ true)) (sym (labelled_types (map label_of items) ts found [] known_fields ∙ append-nil (types_of found))) (base_types found (bases_in found _ row made (flat_bases row row_is))) in
      let seen : AreSeen then scope ts m.numbers = all_seen_later are.later then scope ts m.numbers m.state.parts empty.same are.within are.are in
      let walk_is : walk makes e numbers s ≡ add x last =
      walk_form makes e (Node-F.Record items) is numbers s
      ∙ ap₂ (λ names walks. fields s.types names walks numbers (behind_type s)) (labels_are makes items) (walks_are makes items ∙ walks_of_fields makes items)
      ∙ ap (λ types. fields types ls (map (walk makes) es) numbers (behind_type s)) own in
      subst (λ w. IsKinded scope scans t known s q w) (sym walk_is)
      (record {
        left = are.left;
        has =
            kind_behind scope scans t known then s.parts last.parts (length last.parts) (last.parts ++ x ∷ []) (adds_both are.adds empty)
            (kind_added scope scans t then last.parts x empty.ordered empty.typed (all_labelled ls (length last.parts) m.numbers below, at_end m.state.parts (part.Record [])) (
              row_kind t row_is,
              labelled_bases then (length last.parts) (kind_of_type t) scope ls ts m.numbers bases below seen,
              ([], next_has then (length last.parts) (kind_of_type t) scope scope (OfRecord []) rest (λ j looked. looked) (at_end m.state.parts (part.Record [])) (next_seen are.later rest (OfRecord []) scope scope (λ j looked. looked))),
            )
            (record_columns t row_is) (λ off. refl));
      })

  -- a record that extends another one
  pub extend_arm : (items : List PartExpr) (d : Expr) (ts : List Ground) (t : Ground) (others : List Ground) → layer e ≡ Node-F.Extend items d → rule.Rule functions tables locals effects (operator.Extend (map label_of items)) ts t → s.types ≡ t ∷ others
      → is_query_type t ≡ true → Each (λ u. is_query_type u ≡ true) ts → Own ts (map expr_of items ++ d ∷ []) → Here t
  extend_arm items d ts _ others is (rule.extend found other row known_fields made) own flat flats are =
      let t : Ground = record_of row in
      let row_is : is_flat_row t ≡ true = record_row row flat in
      let ls : List Label = map (λ (item : PartExpr). item.label.text) items in
      let es : List Expr = map expr_of items in
      let m : Several = all (map (walk makes) es) numbers (behind_type s) in
      let rest : Made = walk makes d numbers m.state in
      let n : ℕ = length rest.state.parts in
      let x : Part = part.Extend (labels (columns_of t)) (labelled ls m.numbers) rest.part in
      let both : Several = record { numbers = m.numbers ++ rest.part ∷ []; state = rest.state } in
      let both_is : all (map (walk makes) (es ++ d ∷ [])) numbers (behind_type s) ≡ both =
      ap (λ walks. all walks numbers (behind_type s)) (map_push (walk makes) es d) ∙ all_last (map (walk makes) es) (walk makes d) numbers (behind_type s) in
      let made_so : AreKinded scope scans ts known (behind_type s) q both = subst (λ m. AreKinded scope scans ts known (behind_type s) q m) both_is are in
      let below : AllBelow n m.numbers × (rest.part < n) = below_front n m.numbers rest.part (all_below ts both.numbers rest.state.parts made_so.within) in
      let other_row : is_flat_row (record_of other) ≡ true = record_row other (rest_each (λ u. is_query_type u ≡ true) (map label_of items) ts found (record_of other ∷ []) known_fields flats).0 in
      let seen : AreSeen made_so.later scope (types_of found) m.numbers × IsSeen made_so.later scope (kind_of_type (record_of other)) rest.part =
      seen_split made_so.later scope (types_of found) (record_of other) m.numbers rest.part
      (subst (λ ts. AreSeen made_so.later scope ts (m.numbers ++ rest.part ∷ [])) (labelled_types (map label_of items) ts found (record_of other ∷ []) known_fields) made_so.are) in
      let walk_is : walk makes e numbers s ≡ add x rest.state =
      walk_form makes e (Node-F.Extend items d) is numbers s
      ∙ ap₂ (λ names walks. extension s.types names walks (walk makes d) numbers (behind_type s)) (labels_are makes items) (walks_are makes items ∙ walks_of_fields makes items)
      ∙ ap (λ types. extension types ls (map (walk makes) es) (walk makes d) numbers (behind_type s)) own in
      subst (λ w. IsKinded scope scans t known s q w) (sym walk_is)
      (from_behind_type scope scans t known s q (add x rest.state)
      (finished_kinded scope scans t ts known (behind_type s) q both x made_so (all_labelled ls n m.numbers below.0, below.1) (
        row_kind t row_is,
        labelled_bases made_so.later n (kind_of_type t) scope ls (types_of found) m.numbers (base_types found (bases_in found other row made (flat_bases row row_is))) below.0 seen.0,
        (labels (columns_of (record_of other)), own_part made_so.later n (kind_of_type t) scope (record_of other) (OfRecord (labels (columns_of (record_of other)))) rest.part (row_kind (record_of other) other_row) below.1 seen.1),
      )
      (record_columns t row_is) (λ off. refl)))
