-- A node for a level, on the nodes of the levels before it.
use Rattle.std.proofs.Common.{◌≡◌, ℕ, ◌<◌, List, [], ◌∷◌, length, map, refl, sym, ◌∙◌, ap, subst, arith, Option, Some, None}
use Rattle.std.proofs.lemmas.List.{length-map}
use Rattle.std.specs.Option.{option_map}
use Rattle.std.proofs.lemmas.Option.{same_Some}
use Rattle.lk_types.proofs.Members.{each_to_map}
use Rattle.lk_types.proofs.Parts.{mapped}
use Rattle.lk_types.specs.Each.{Each}
use Rattle.lk_types.specs.Grounding.{all_of}
use Rattle.lk_types.specs.Levels.{at, field_made, made, row_made, row_parts}
use Rattle.lk_types.specs.Variables.{tail_variable}
use Rattle.lk_types.specs.declared.levels.Level.{Level}
use Rattle.lk_types.specs.declared.levels.Level.TheVariants as level
use Rattle.lk_types.specs.declared.levels.LevelField.{LevelField}
use Rattle.lk_types.specs.declared.levels.LevelRow.{LevelRow}
use Rattle.lk_types.specs.declared.ty.Effects.{Effects}
use Rattle.lk_types.specs.declared.ty.Ty.{Ty}
use Rattle.lk_types.specs.declared.ty.Ty.TheOpen.{TyRow-F}
use Rattle.lk_types.specs.declared.ty.Ty.TheVariants as ty
use Rattle.lk_types.specs.declared.ty.TyField.{TyField}
use Rattle.lk_types.specs.declared.ty.TyRow.{TyRow, out-TyRow, out-roll-TyRow}
use Rattle.lk_types.specs.declared.ty.Variable.TheVariants as variable
use Rattle.lk_arena.proofs.EachLemmas.{Each-get_or, Each-zip}
use Rattle.lk_arena.specs.Kinds.{Kind, OfTypes, OfFields, OfEffects, TakesKinds}
use Rattle.lk_arena.specs.Openings.{OpenRow, Opening, opened, row_opened, row_type}
use Rattle.lk_arena.specs.Shapes.{AllBelow, IsDistinct, SameBelow}
use Rattle.lk_arena.specs.Values.{Value, Plain, OfRow, IsMadeOf}
use Rattle.lk_arena.specs.declared.node.Field.{Field}
use Rattle.lk_arena.specs.declared.node.Head.{Head}
use Rattle.lk_arena.specs.declared.node.Head.TheVariants as head
use Rattle.lk_arena.specs.declared.node.Shape.TheVariants.{Made}
use Rattle.lk_arena.specs.declared.node.Shape.TheVariants as shape
use Rattle.lk_unify.proofs.LoadLists.{loads_no_fields}
use Rattle.lk_unify.proofs.LoadOn.{on_loads, on_made, on_more, on_through, part_at}
use Rattle.lk_unify.proofs.LoadRows.{all_meaning, end, end_meaning, entry, loads_row_end, never_twice, none_left, row_is, row_known, row_says, row_stands}
use Rattle.lk_unify.proofs.LoadSteps.{both, both_some, none_of}
use Rattle.lk_unify.proofs.LoadTypes.{function_builds, function_says, loads_bool, loads_int, loads_text, loads_var, meaning, means, never_first}
use Rattle.lk_unify.proofs.OpenUnfold.{opened_fields, opened_list, opened_tags}
use Rattle.lk_unify.specs.LevelLoading.{level_field, node_at, LoadedOn, LoadsOn}
use Rattle.lk_unify.specs.Loading.{effects_meaning, end_value, fields_meaning, row_meaning, type_meaning, types_meaning, AddsFunction, AddsRow, IsLoader, Loads, LoadsFields, Makes, NeverMeans, SameKinds}
use Rattle.lk_unify.specs.declared.loader.Loader.{Loader}

-- ---- values and kinds at nodes that were there

all_same : (k : ℕ) (ns : List ℕ) → AllBelow k ns → (v w : ℕ → Value) → SameBelow k v w → map w ns ≡ map v ns
all_same k [] below v w same = refl
all_same k (n ∷ ns) below v w same = (λ i. same n below.0 i ∷ all_same k ns below.1 v w same i)

fields_same : (k : ℕ) (fs : List Field) → Each (λ f. f.node < k) fs → (v w : ℕ → Value) → SameBelow k v w → map (λ f. w f.node) fs ≡ map (λ f. v f.node) fs
fields_same k [] below v w same = refl
fields_same k (f ∷ fs) below v w same = (λ i. same f.node below.0 i ∷ fields_same k fs below.1 v w same i)

kinds_same : (k : ℕ) (ns : List ℕ) → AllBelow k ns → (i j : ℕ → Kind) → SameKinds k i j → Each (λ n. i n ≡ OfTypes) ns → Each (λ n. j n ≡ OfTypes) ns
kinds_same k ns below i j same all = Each-zip (λ n. i n ≡ OfTypes) (λ n. n < k) (λ n. j n ≡ OfTypes) (λ n is less. same n less ∙ is) ns all below

field_kinds_same : (k : ℕ) (fs : List Field) → Each (λ f. f.node < k) fs → (i j : ℕ → Kind) → SameKinds k i j → Each (λ f. i f.node ≡ OfTypes) fs → Each (λ f. j f.node ≡ OfTypes) fs
field_kinds_same k fs below i j same all = Each-zip (λ f. i f.node ≡ OfTypes) (λ f. f.node < k) (λ f. j f.node ≡ OfTypes) (λ f is less. same f.node less ∙ is) fs all below

-- ---- one part

module _ {A : Type 0} (part : Opening → Option A) (wrap : A → Value) (make : A → Ty) (h : Head) (n : Opening → Option Value) (is : (ρ : Opening) → n ρ ≡ option_map Plain (option_map make (part ρ)))
    (says : (a : A) (x : Value) → IsMadeOf h (wrap a ∷ []) x → x ≡ Plain (make a)) (made : (a : A) → IsMadeOf h (wrap a ∷ []) (Plain (make a))) (kind : Kind) (takes : TakesKinds h (kind ∷ [])) where
  on_one : (b c : Loader) (p k : ℕ) → IsLoader b → Makes b c OfTypes (Made h (p ∷ [])) k → LoadsOn b c (λ ρ. option_map wrap (part ρ)) (λ v. v p) (λ j. j p ≡ kind) OfTypes n k
  on_one b c p k whole makes =
      on_made b c (λ ρ. option_map wrap (part ρ)) (λ v. v p) (λ j. j p ≡ kind) OfTypes (Made h (p ∷ [])) n k whole makes (λ j e. subst (λ y. TakesKinds h (y ∷ [])) (sym e) takes)
      (λ v x ρ e built.
      let s = mapped wrap (part ρ) (v p) e in
      is ρ ∙ ap (λ o. option_map Plain (option_map make o)) s.1 ∙ ap Some (sym (says s.0 x (subst (λ y. IsMadeOf h (y ∷ []) x) s.2 built))))
      (λ v x ρ e o.
      let s = mapped Plain (option_map make (part ρ)) x (sym (is ρ) ∙ o) in
      let q = mapped make (part ρ) s.0 s.1 in
      let u = mapped wrap (part ρ) (v p) e in
      let same : u.0 ≡ q.0 = same_Some u.0 q.0 (sym u.1 ∙ q.1) in
      subst (λ y. IsMadeOf h (y ∷ []) x) (sym (u.2 ∙ ap wrap same)) (subst (IsMadeOf h (wrap q.0 ∷ [])) (sym (s.2 ∙ ap Plain q.2)) (made q.0)))

  part_there : (ρ : Opening) (z : Value) → n ρ ≡ Some z → (w : Value) × (option_map wrap (part ρ) ≡ Some w)
  part_there ρ z o =
      let s = mapped Plain (option_map make (part ρ)) z (sym (is ρ) ∙ o) in
      let q = mapped make (part ρ) s.0 s.1 in
      (wrap q.0, ap (option_map wrap) q.1)

-- ---- rows

module _ (r : TyRow) where
  on_row_fields : (b c d : Loader) (fields : List Field) (tail k : ℕ) → map (λ f. f.label) fields ≡ map (λ f. f.label) (out-TyRow r).fields → Each (λ f. f.node < length b.arena.shapes) fields
      → Loads b c OfFields (end_meaning r) tail → IsDistinct fields → Makes c d OfFields (shape.Row fields tail) k
      → LoadsOn b d (fields_meaning (out-TyRow r).fields) (λ v. map (λ f. v f.node) fields) (λ j. Each (λ f. j f.node ≡ OfTypes) fields) OfFields (row_meaning r) k
  on_row_fields b c d fields tail k labels below e distinct add =
      on_through b c d (fields_meaning (out-TyRow r).fields) (λ v. map (λ f. v f.node) fields) (λ j. Each (λ f. j f.node ≡ OfTypes) fields) OfFields OfFields (end_meaning r) (row_meaning r) tail k
      (fields_same (length b.arena.shapes) fields below) (field_kinds_same (length b.arena.shapes) fields below)
      (on_loads b c (fields_meaning (out-TyRow r).fields) (λ v. map (λ f. v f.node) fields) (λ j. Each (λ f. j f.node ≡ OfTypes) fields) OfFields (end_meaning r) tail e)
      (on_made c d (all_meaning r) (λ v. (map (λ f. v f.node) fields, v tail)) (λ j. Each (λ f. j f.node ≡ OfTypes) fields × (j tail ≡ OfFields)) OfFields (shape.Row fields tail) (row_meaning r) k e.to.whole add (λ j p. p)
      (row_says (all_meaning r) (λ v. (map (λ f. v f.node) fields, v tail)) fields tail (row_meaning r) (λ ρ. map (entry ρ) (out-TyRow r).fields) (end r) (row_is r) (row_known r fields tail labels) distinct)
      (row_stands (all_meaning r) (λ v. (map (λ f. v f.node) fields, v tail)) fields tail (row_meaning r) (λ ρ. map (entry ρ) (out-TyRow r).fields) (end r) (row_is r) (row_known r fields tail labels)))
      (λ ρ z is. (end_value (tail_variable variable.Row (out-TyRow r).tail) ρ, refl))

  row_end_loads : (b c : Loader) (fields : List Field) (tail : ℕ) → IsLoader b → map (λ f. f.label) fields ≡ map (λ f. f.label) (out-TyRow r).fields → fields ≡ [] → Loads b c OfFields (end_meaning r) tail → Loads b c OfFields (row_meaning r) tail
  row_end_loads b c fields tail whole labels empty e =
      let none : (out-TyRow r).fields ≡ [] = none_left r (out-TyRow r).fields (ap (map (λ f. f.label)) (sym empty) ∙ labels) in
      loads_row_end r b b c fields tail (subst (λ gs. LoadsFields b b gs fields) (sym none) (loads_no_fields b fields whole empty)) empty e

-- ---- functions

module _ (params : List Ty) (es : Effects) (answer : Ty) where
  on_function : (b c d : Loader) (first second : ℕ) (others : List ℕ) (k : ℕ) → second < length b.arena.shapes → AllBelow (length b.arena.shapes) others → Loads b c OfEffects (effects_meaning es) first
      → Makes c d OfTypes (Made head.Fun (first ∷ (second ∷ others))) k
      → LoadsOn b d (λ ρ. both (type_meaning answer ρ) (types_meaning params ρ)) (λ v. (v second, map v others)) (λ j. (j second ≡ OfTypes) × Each (λ n. j n ≡ OfTypes) others) OfTypes (means params es answer) k
  on_function b c d first second others k below all e add =
      on_through b c d (λ ρ. both (type_meaning answer ρ) (types_meaning params ρ)) (λ v. (v second, map v others)) (λ j. (j second ≡ OfTypes) × Each (λ n. j n ≡ OfTypes) others) OfEffects OfTypes (effects_meaning es) (means params es answer) first k
      (λ v w same. (λ i. (same second below i, all_same (length b.arena.shapes) others all v w same i)))
      (λ i j same p. (same second below ∙ p.0, kinds_same (length b.arena.shapes) others all i j same p.1))
      (on_loads b c (λ ρ. both (type_meaning answer ρ) (types_meaning params ρ)) (λ v. (v second, map v others)) (λ j. (j second ≡ OfTypes) × Each (λ n. j n ≡ OfTypes) others) OfEffects (effects_meaning es) first e)
      (on_made c d (meaning params es answer) (λ v. ((v second, map v others), v first)) (λ j. ((j second ≡ OfTypes) × Each (λ n. j n ≡ OfTypes) others) × (j first ≡ OfEffects)) OfTypes (Made head.Fun (first ∷ (second ∷ others))) (means params es answer) k e.to.whole add
      (λ j p. (p.1, p.0.0, each_to_map (λ k. k ≡ OfTypes) j others p.0.1))
      (λ v x ρ is built. function_says params es answer x (v first) (v second) (map v others) ρ is built)
      (λ v x ρ is o.
      let y = function_builds params es answer x ρ o in
      subst (λ (z : (Value × List Value) × Value). IsMadeOf head.Fun (z.1 ∷ (z.0.0 ∷ z.0.1)) x) (same_Some y.0 ((v second, map v others), v first) (sym y.1 ∙ is)) y.2))
      (λ ρ z is.
      let y = function_builds params es answer z ρ is in
      let u = both_some (both (type_meaning answer ρ) (types_meaning params ρ)) (effects_meaning es ρ) y.0 y.1 in
      (y.0.1, u.1))

-- ---- on the nodes of all levels before

module _ (ts : List Ty) (ns : List ℕ) where
  abbrev AreTypes : (ℕ → Kind) → Type 0
  AreTypes j = Each (λ n. j n ≡ OfTypes) ns

  abbrev LevelOn : Loader → Loader → Kind → (Opening → Option Value) → ℕ → Type 0
  LevelOn b c = LoadsOn b c (types_meaning ts) (λ v. map v ns) AreTypes

  fields_at : (v : ℕ → Value) (ρ : Opening) → types_meaning ts ρ ≡ Some (map v ns) → (fs : List LevelField) → Each (λ p. p < length ts) (map (λ f. f.part) fs)
      → fields_meaning (map (field_made ts) fs) ρ ≡ Some (map (λ f. v f.node) (map (level_field ns) fs))
  fields_at v ρ e [] below = refl
  fields_at v ρ e (f ∷ fs) below =
      ap (λ o. all_of (o ∷ map (λ f. type_meaning f.ty ρ) (map (field_made ts) fs))) (part_at v ρ ts ns f.part e below.0)
      ∙ ap (option_map (λ more. v (node_at ns f.part) ∷ more)) (fields_at v ρ e fs below.1)

  places_at : (v : ℕ → Value) (ρ : Opening) → types_meaning ts ρ ≡ Some (map v ns) → (ps : List ℕ) → Each (λ p. p < length ts) ps → types_meaning (map (at ts) ps) ρ ≡ Some (map v (map (node_at ns) ps))
  places_at v ρ e [] below = refl
  places_at v ρ e (p ∷ ps) below =
      ap (λ o. all_of (o ∷ map (λ t. type_meaning t ρ) (map (at ts) ps))) (part_at v ρ ts ns p e below.0)
      ∙ ap (option_map (λ more. v (node_at ns p) ∷ more)) (places_at v ρ e ps below.1)

  labels_at : (fs : List LevelField) → map (λ (f : Field). f.label) (map (level_field ns) fs) ≡ map (λ (f : TyField). f.label) (map (field_made ts) fs)
  labels_at [] = refl
  labels_at (f ∷ fs) = ap (λ ls. f.label ∷ ls) (labels_at fs)

  module _ (long : length ns ≡ length ts) where
    there_too : (p : ℕ) → p < length ts → p < length ns
    there_too p less = omega arith

    fields_each : (P : ℕ → Type 0) → Each P ns → (fs : List LevelField) → Each (λ p. p < length ts) (map (λ f. f.part) fs) → Each (λ f. P f.node) (map (level_field ns) fs)
    fields_each P all [] below = tt
    fields_each P all (f ∷ fs) below = (Each-get_or P ns f.part 0 (there_too f.part below.0) all, fields_each P all fs below.1)

    pub places_each : (P : ℕ → Type 0) → Each P ns → (ps : List ℕ) → Each (λ p. p < length ts) ps → Each P (map (node_at ns) ps)
    places_each P all [] below = tt
    places_each P all (p ∷ ps) below = (Each-get_or P ns p 0 (there_too p below.0) all, places_each P all ps below.1)

    pub level_list : (b c : Loader) (p k : ℕ) → p < length ts → IsLoader b → Makes b c OfTypes (Made head.List (node_at ns p ∷ [])) k → LevelOn b c OfTypes (type_meaning (ty.List (at ts p))) k
    level_list b c p k less whole makes =
        on_more b c (type_meaning (at ts p)) (λ v. v (node_at ns p)) (λ j. j (node_at ns p) ≡ OfTypes) (types_meaning ts) (λ v. map v ns) AreTypes OfTypes (type_meaning (ty.List (at ts p))) k
        (λ v ρ e. part_at v ρ ts ns p e less) (λ j all. Each-get_or (λ n. j n ≡ OfTypes) ns p 0 (there_too p less) all)
        (on_one (λ ρ. opened ρ (at ts p)) Plain ty.List head.List (type_meaning (ty.List (at ts p))) (λ ρ. ap (option_map Plain) (opened_list ρ (at ts p))) (λ g x e. e) (λ g. refl) OfTypes refl b c (node_at ns p) k whole makes)

    module _ (b : Loader) (below : AllBelow (length b.arena.shapes) ns) where
      -- a constructor on a row
      module _ (r : TyRow) (c d : Loader) (part k : ℕ) (row : LevelOn b c OfFields (row_meaning r) part) where
        on_record : (h : Head) (make : TyRow → Ty) (n : Opening → Option Value) → Makes c d OfTypes (Made h (part ∷ [])) k
            → ((ρ : Opening) → n ρ ≡ option_map Plain (option_map (λ m. make (row_type m)) (row_opened ρ r)))
            → ((m : OpenRow) (x : Value) → IsMadeOf h (OfRow m ∷ []) x → x ≡ Plain (make (row_type m))) → ((m : OpenRow) → IsMadeOf h (OfRow m ∷ []) (Plain (make (row_type m)))) → TakesKinds h (OfFields ∷ [])
            → LevelOn b d OfTypes n k
        on_record h make n makes is says made takes =
            on_through b c d (types_meaning ts) (λ v. map v ns) AreTypes OfFields OfTypes (row_meaning r) n part k (all_same (length b.arena.shapes) ns below) (kinds_same (length b.arena.shapes) ns below) row
            (on_more c d (row_meaning r) (λ v. v part) (λ j. j part ≡ OfFields) (λ ρ. both (types_meaning ts ρ) (row_meaning r ρ)) (λ v. (map v ns, v part)) (λ j. AreTypes j × (j part ≡ OfFields)) OfTypes n k
            (λ v ρ e. (both_some (types_meaning ts ρ) (row_meaning r ρ) (map v ns, v part) e).1) (λ j p. p.1)
            (on_one (λ ρ. row_opened ρ r) OfRow (λ m. make (row_type m)) h n is says made OfFields takes c d part k row.whole makes))
            (part_there (λ ρ. row_opened ρ r) OfRow (λ m. make (row_type m)) h n is says made OfFields takes)

        pub level_record : Makes c d OfTypes (Made head.Fields (part ∷ [])) k → LevelOn b d OfTypes (type_meaning (ty.Fields r)) k
        level_record makes = on_record head.Fields ty.Fields (type_meaning (ty.Fields r)) makes (λ ρ. ap (option_map Plain) (opened_fields ρ r)) (λ m x e. e) (λ m. refl) refl

        pub level_variant : Makes c d OfTypes (Made head.Tags (part ∷ [])) k → LevelOn b d OfTypes (type_meaning (ty.Tags r)) k
        level_variant makes = on_record head.Tags ty.Tags (type_meaning (ty.Tags r)) makes (λ ρ. ap (option_map Plain) (opened_tags ρ r)) (λ m x e. e) (λ m. refl) refl

      -- a row
      module _ (row : LevelRow) (parts : Each (λ p. p < length ts) (row_parts row)) (fields : List Field) (are : fields ≡ map (level_field ns) row.fields) where
        abbrev its_row : TyRow-F Ty TyField TyRow
        its_row = record { fields = map (field_made ts) row.fields; tail = row.tail }

        its_labels : map (λ (f : Field). f.label) fields ≡ map (λ (f : TyField). f.label) (out-TyRow (row_made ts row)).fields
        its_labels = ap (map (λ (f : Field). f.label)) are ∙ labels_at row.fields ∙ ap (λ (x : TyRow-F Ty TyField TyRow). map (λ (f : TyField). f.label) x.fields) (sym (out-roll-TyRow its_row))

        its_meaning : (v : ℕ → Value) (ρ : Opening) → types_meaning ts ρ ≡ Some (map v ns) → fields_meaning (out-TyRow (row_made ts row)).fields ρ ≡ Some (map (λ f. v f.node) fields)
        its_meaning v ρ e =
            ap (λ (x : TyRow-F Ty TyField TyRow). fields_meaning x.fields ρ) (out-roll-TyRow its_row) ∙ fields_at v ρ e row.fields parts ∙ ap (λ fs. Some (map (λ (f : Field). v f.node) fs)) (sym are)

        its_kinds : (j : ℕ → Kind) → AreTypes j → Each (λ f. j f.node ≡ OfTypes) fields
        its_kinds j all = subst (Each (λ f. j f.node ≡ OfTypes)) (sym are) (fields_each (λ n. j n ≡ OfTypes) all row.fields parts)

        pub fields_below : Each (λ f. f.node < length b.arena.shapes) fields
        fields_below = subst (Each (λ f. f.node < length b.arena.shapes)) (sym are) (fields_each (λ n. n < length b.arena.shapes) below row.fields parts)

        its_end : (c : Loader) (tail : ℕ) → Loads b c OfFields (λ ρ. Some (end_value (tail_variable variable.Row row.tail) ρ)) tail → Loads b c OfFields (end_meaning (row_made ts row)) tail
        its_end c tail e = subst (λ (x : TyRow-F Ty TyField TyRow). Loads b c OfFields (λ ρ. Some (end_value (tail_variable variable.Row x.tail) ρ)) tail) (sym (out-roll-TyRow its_row)) e

        pub level_row_end : (c : Loader) (tail : ℕ) → IsLoader b → fields ≡ [] → Loads b c OfFields (λ ρ. Some (end_value (tail_variable variable.Row row.tail) ρ)) tail → LevelOn b c OfFields (row_meaning (row_made ts row)) tail
        level_row_end c tail whole empty e =
            on_loads b c (types_meaning ts) (λ v. map v ns) AreTypes OfFields (row_meaning (row_made ts row)) tail (row_end_loads (row_made ts row) b c fields tail whole its_labels empty (its_end c tail e))

        pub level_row : (c d : Loader) (tail : ℕ) (answer : Option ℕ) → Loads b c OfFields (λ ρ. Some (end_value (tail_variable variable.Row row.tail) ρ)) tail → AddsRow c d OfFields fields tail answer
            → LoadedOn b d ts ns OfFields (row_meaning (row_made ts row)) answer
        level_row c d tail None e twice = never_twice (row_made ts row) fields its_labels twice
        level_row c d tail (Some k) e added =
            on_more b d (fields_meaning (out-TyRow (row_made ts row)).fields) (λ v. map (λ f. v f.node) fields) (λ j. Each (λ f. j f.node ≡ OfTypes) fields) (types_meaning ts) (λ v. map v ns) AreTypes OfFields (row_meaning (row_made ts row)) k
            its_meaning its_kinds
            (on_row_fields (row_made ts row) b c d fields tail k its_labels fields_below (its_end c tail e) added.0 added.1)

      -- a function
      pub level_function : (params : List ℕ) (es : Effects) (p : ℕ) → Each (λ p. p < length ts) (p ∷ params) → (d : Loader) (answer : Option ℕ) → AddsFunction b d es (node_at ns p) (map (node_at ns) params) answer
          → LoadedOn b d ts ns OfTypes (type_meaning (ty.Fun (map (at ts) params) es (at ts p))) answer
      level_function params es p parts d None never = never_first (map (at ts) params) es (at ts p) never
      level_function params es p parts d (Some k) h =
          on_more b d (λ ρ. both (type_meaning (at ts p) ρ) (types_meaning (map (at ts) params) ρ)) (λ v. (v (node_at ns p), map v (map (node_at ns) params)))
          (λ j. (j (node_at ns p) ≡ OfTypes) × Each (λ n. j n ≡ OfTypes) (map (node_at ns) params)) (types_meaning ts) (λ v. map v ns) AreTypes OfTypes (type_meaning (ty.Fun (map (at ts) params) es (at ts p))) k
          (λ v ρ e. (λ i. both (part_at v ρ ts ns p e parts.0 i) (places_at v ρ e params parts.1 i)))
          (λ j all. (Each-get_or (λ n. j n ≡ OfTypes) ns p 0 (there_too p parts.0) all, places_each (λ n. j n ≡ OfTypes) all params parts.1))
          (on_function (map (at ts) params) es (at ts p) b h.0 d h.1 (node_at ns p) (map (node_at ns) params) k (Each-get_or (λ n. n < length b.arena.shapes) ns p 0 (there_too p parts.0) below)
          (places_each (λ n. n < length b.arena.shapes) below params parts.1) h.2 h.3)

-- ---- levels by themselves

module _ (ts : List Ty) (ns : List ℕ) (b c : Loader) (l : Level) (k : ℕ) where
  abbrev Such : Type 0
  Such = LoadsOn b c (types_meaning ts) (λ v. map v ns) (λ j. Each (λ n. j n ≡ OfTypes) ns) OfTypes (type_meaning (made ts l)) k

  alone : Loads b c OfTypes (type_meaning (made ts l)) k → Such
  alone = on_loads b c (types_meaning ts) (λ v. map v ns) (λ j. Each (λ n. j n ≡ OfTypes) ns) OfTypes (type_meaning (made ts l)) k

  pub level_int : l ≡ level.Int → IsLoader b → Makes b c OfTypes (Made head.Int []) k → Such
  level_int is whole makes = alone (loads_int b c k (made ts l) (ap (made ts) is) whole makes)

  pub level_bool : l ≡ level.Bool → IsLoader b → Makes b c OfTypes (Made head.Bool []) k → Such
  level_bool is whole makes = alone (loads_bool b c k (made ts l) (ap (made ts) is) whole makes)

  pub level_text : l ≡ level.Text → IsLoader b → Makes b c OfTypes (Made head.Text []) k → Such
  level_text is whole makes = alone (loads_text b c k (made ts l) (ap (made ts) is) whole makes)

  pub level_var : (n : ℕ) → l ≡ level.Var n → Loads b c OfTypes (λ ρ. Some (Plain (ρ.plain n))) k → Such
  level_var n is loads = alone (loads_var b c k n (made ts l) (ap (made ts) is) loads)

-- ---- answers

pub on_some : (b c : Loader) (ts : List Ty) (ns : List ℕ) (kind : Kind) (n : Opening → Option Value) (answer : Option ℕ) (k : ℕ) → answer ≡ Some k → LoadedOn b c ts ns kind n answer
    → LoadedOn b c ts ns kind n (Some k)
on_some b c ts ns kind n answer k is on = subst (LoadedOn b c ts ns kind n) is on

pub on_none : (b c : Loader) (ts : List Ty) (ns : List ℕ) (kind : Kind) (n : Opening → Option Value) (answer : Option ℕ) → ((k : ℕ) → answer ≡ Some k → ⊥) → LoadedOn b c ts ns kind n answer → NeverMeans n
on_none b c ts ns kind n answer never on = subst (LoadedOn b c ts ns kind n) (none_of answer never) on

-- types for as many nodes
abbrev pub any_types : List ℕ → List Ty
any_types ns = map (λ n. ty.Int) ns

pub any_long : (ns : List ℕ) → length ns ≡ length (any_types ns)
any_long ns = sym (length-map ns (λ n. ty.Int))
