-- Records and tags of values that stand for others are records and tags that do.
use Rattle.std.proofs.Common.{◌≡◌, Bool, true, false, suc, refl, sym, ap, ap₂, subst, ◌∙◌, ◌==◌, List, [], ◌∷◌, ◌++◌, map, drop, length, Some, if◌then◌else◌, bytes_eq, find}
use Rattle.std.proofs.lemmas.Cmp.{nat_list_cmp_total}
use Rattle.std.proofs.lemmas.List.{length-map}
use Rattle.std.specs.FinMap as fin
use Rattle.std.specs.FinMap.Entries.{by_order}
use Rattle.std.specs.Option.{option_map}
use Rattle.std.specs.declared.cmp.Ordering.{Ordering}
use Rattle.std.specs.declared.cmp.Ordering.TheVariants.{Less, Equal, Greater}
use Rattle.lk_ast.specs.declared.expression.PartExpr.{PartExpr}
use Rattle.lk_ast.specs.declared.value.Field.{Field}
use Rattle.lk_ast.specs.declared.value.Value.{Value}
use Rattle.lk_evaluation.specs.Laws.{Maybe}
use Rattle.lk_operators.specs.Outcomes.{given, on_one}
use Rattle.lk_operators.specs.Records as made
use Rattle.lk_operators.specs.Records.{Entries, entries_of, fields_in_order, value_under}
use Rattle.lk_operators.specs.Values as values
use Rattle.lk_operators.specs.Values.{fields_in}
use Rattle.lk_operators.specs.declared.outcome.Outcome.TheVariants as outcome
use Rattle.lk_types.specs.Rows.{Label, label_order}
use Rattle.lk_sound.proofs.FieldRows.{no_entries}
use Rattle.lk_ground.specs.Alike.{Alike, AllAlike, FieldsAlike, fields, tag, none, more, no_field, field}
use Rattle.lk_ground.specs.declared.program.GroundProgram.{GroundProgram}
use Rattle.lk_ground.proofs.AlikeNames.{as_many}
use Rattle.lk_ground.proofs.AlikeOperations.{OutcomesAlike, values as value_alike, no_rule, by_parts}
use Rattle.lk_ground.proofs.AlikeShapes.{fields_alike}

abbrev as_values : List (Label × Value) → List Field
as_values es = map (λ e. values.field e.0 e.1) es

module _ (p : GroundProgram) where
  many_fields : {fs gs : List Field} → FieldsAlike p fs gs → length fs ≡ length gs
  many_fields no_field = refl
  many_fields (field label alike all) = ap suc (many_fields all)

  both_fields : {fs gs more others : List Field} → FieldsAlike p fs gs → FieldsAlike p more others → FieldsAlike p (fs ++ more) (gs ++ others)
  both_fields no_field rest = rest
  both_fields (field label alike all) rest = field label alike (both_fields all rest)

  -- ---- maps

  put_alike : (l : Label) (v w : Value) (es ds : List (Label × Value)) → Alike p v w → FieldsAlike p (as_values es) (as_values ds) → FieldsAlike p (as_values (fin.put label_order l v es)) (as_values (fin.put label_order l w ds))
  put_alike l v w [] [] alike all = field refl alike no_field
  put_alike l v w [] (d ∷ ds) alike all = elim all [ ]
  put_alike l v w (e ∷ es) [] alike all = elim all [ ]
  put_alike l v w (e ∷ es) (d ∷ ds) alike (field same first rest) =
      subst (λ k. FieldsAlike p (as_values (fin.put label_order l v (e ∷ es))) (as_values (by_order (label_order l k) ((l, w) ∷ d ∷ ds) ((d.0, w) ∷ ds) (d ∷ fin.put label_order l w ds)))) same
      (by_place (label_order l e.0) (put_alike l v w es ds alike rest))
    where
      by_place : (o : Ordering) → FieldsAlike p (as_values (fin.put label_order l v es)) (as_values (fin.put label_order l w ds))
          → FieldsAlike p (as_values (by_order o ((l, v) ∷ e ∷ es) ((e.0, v) ∷ es) (e ∷ fin.put label_order l v es))) (as_values (by_order o ((l, w) ∷ d ∷ ds) ((d.0, w) ∷ ds) (d ∷ fin.put label_order l w ds)))
      by_place Less behind = field refl alike (field same first rest)
      by_place Equal behind = field same alike rest
      by_place Greater behind = field same first behind

  empty_alike : FieldsAlike p (fields_in_order fin.empty) (fields_in_order fin.empty)
  empty_alike = subst (λ es. FieldsAlike p (as_values es) (as_values es)) (sym (no_entries Value)) no_field

  insert_alike : (m n : Entries) (l : Label) (v w : Value) → Alike p v w → FieldsAlike p (fields_in_order m) (fields_in_order n) → FieldsAlike p (fields_in_order (fin.insert m l v)) (fields_in_order (fin.insert n l w))
  insert_alike m n l v w alike all =
      subst (λ es. FieldsAlike p (as_values es) (fields_in_order (fin.insert n l w))) (sym (fin.entries-insert nat_list_cmp_total m l v))
      (subst (λ ds. FieldsAlike p (as_values (fin.put label_order l v (fin.entries m))) (as_values ds)) (sym (fin.entries-insert nat_list_cmp_total n l w))
      (put_alike l v w (fin.entries m) (fin.entries n) alike all))

  all_put : {fs gs : List Field} → FieldsAlike p fs gs → (m n : Entries) → FieldsAlike p (fields_in_order m) (fields_in_order n) → FieldsAlike p (fields_in_order (made.with_fields m fs)) (fields_in_order (made.with_fields n gs))
  all_put no_field m n all = all
  all_put (field {f} {g} {fs} {gs} same alike rest) m n all =
      subst (λ l. FieldsAlike p (fields_in_order (made.with_fields (fin.insert m f.label f.value) fs)) (fields_in_order (made.with_fields (fin.insert n l g.value) gs))) same
      (all_put rest (fin.insert m f.label f.value) (fin.insert n f.label g.value) (insert_alike m n f.label f.value g.value alike all))

  record_alike : (fs gs : List Field) → FieldsAlike p fs gs → OutcomesAlike p (made.record_of fs) (made.record_of gs)
  record_alike fs gs all =
      let entries : FieldsAlike p (fields_in_order (entries_of fs)) (fields_in_order (entries_of gs)) = all_put all fin.empty fin.empty empty_alike in
      let left : fin.len (entries_of fs) ≡ length (fields_in_order (entries_of fs)) = fin.len-entries (entries_of fs) ∙ sym (length-map (fin.entries (entries_of fs)) _) in
      let right : fin.len (entries_of gs) ≡ length (fields_in_order (entries_of gs)) = fin.len-entries (entries_of gs) ∙ sym (length-map (fin.entries (entries_of gs)) _) in
      let same : (fin.len (entries_of fs) == length fs) ≡ (fin.len (entries_of gs) == length gs) = ap₂ (λ m n. m == n) (left ∙ many_fields entries ∙ sym right) (many_fields all) in
      subst (λ b. OutcomesAlike p (made.record_of fs) (if b then outcome.Value (values.fields (fields_in_order (entries_of gs))) else outcome.NoRule)) same (by_test (fin.len (entries_of fs) == length fs) entries)
    where
      by_test : (b : Bool) → FieldsAlike p (fields_in_order (entries_of fs)) (fields_in_order (entries_of gs))
          → OutcomesAlike p (if b then outcome.Value (values.fields (fields_in_order (entries_of fs))) else outcome.NoRule) (if b then outcome.Value (values.fields (fields_in_order (entries_of gs))) else outcome.NoRule)
      by_test true entries = value_alike (fields _ _ refl refl entries)
      by_test false entries = no_rule

  labelled_alike : (parts : List PartExpr) (vs ws : List Value) → AllAlike p vs ws → FieldsAlike p (made.labelled parts vs) (made.labelled parts ws)
  labelled_alike parts _ _ none = no_field
  labelled_alike [] _ _ (more one all) = no_field
  labelled_alike (part ∷ parts) _ _ (more one all) = field refl one (labelled_alike parts _ _ all)

  dropped : {X : Type 0} (xs : List X) (vs ws : List Value) → AllAlike p vs ws → AllAlike p (drop (length xs) vs) (drop (length xs) ws)
  dropped [] vs ws all = all
  dropped (x ∷ xs) _ _ none = none
  dropped (x ∷ xs) _ _ (more one all) = dropped xs _ _ all

  -- ---- operations

  pub new_record_alike : (parts : List PartExpr) (vs ws : List Value) → AllAlike p vs ws → OutcomesAlike p (made.new_record parts vs) (made.new_record parts ws)
  new_record_alike parts vs ws all =
      subst (λ n. OutcomesAlike p (made.new_record parts vs) (if length parts == n then made.record_of (made.labelled parts ws) else outcome.NoRule)) (as_many p vs ws all) (by_test (length parts == length vs))
    where
      by_test : (b : Bool) → OutcomesAlike p (if b then made.record_of (made.labelled parts vs) else outcome.NoRule) (if b then made.record_of (made.labelled parts ws) else outcome.NoRule)
      by_test true = record_alike (made.labelled parts vs) (made.labelled parts ws) (labelled_alike parts vs ws all)
      by_test false = no_rule

  pub extended_alike : (parts : List PartExpr) (vs ws : List Value) → AllAlike p vs ws → OutcomesAlike p (made.extended parts vs) (made.extended parts ws)
  extended_alike parts vs ws all = behind (drop (length parts) vs) (drop (length parts) ws) (dropped parts vs ws all)
    where
      each : (v w : Value) → Alike p v w → OutcomesAlike p (given (λ fs. made.record_of (fs ++ made.labelled parts vs)) (fields_in v)) (given (λ fs. made.record_of (fs ++ made.labelled parts ws)) (fields_in w))
      each v w one = by_parts p (FieldsAlike p) _ _ (fields_in v) (fields_in w) (fields_alike p v w one) (λ fs gs both. record_alike (fs ++ made.labelled parts vs) (gs ++ made.labelled parts ws) (both_fields both (labelled_alike parts vs ws all)))

      behind : (xs ys : List Value) → AllAlike p xs ys → OutcomesAlike p (on_one (λ r. given (λ fs. made.record_of (fs ++ made.labelled parts vs)) (fields_in r)) xs) (on_one (λ r. given (λ fs. made.record_of (fs ++ made.labelled parts ws)) (fields_in r)) ys)
      behind _ _ none = no_rule
      behind _ _ (more one none) = each _ _ one
      behind _ _ (more one (more two rest)) = no_rule

  found_under : (l : Label) (fs gs : List Field) → FieldsAlike p fs gs → Maybe (Alike p) (value_under l fs) (value_under l gs)
  found_under l _ _ no_field = tt
  found_under l _ _ (field {f} {g} {fs} {gs} same alike all) =
      subst (λ k. Maybe (Alike p) (value_under l (f ∷ fs)) (option_map (λ (f : Field). f.value) (if bytes_eq k l then Some g else find (λ (f : Field). bytes_eq f.label l) gs))) same (by_test (bytes_eq f.label l) (found_under l fs gs all))
    where
      by_test : (b : Bool) → Maybe (Alike p) (value_under l fs) (value_under l gs)
          → Maybe (Alike p) (option_map (λ (f : Field). f.value) (if b then Some f else find (λ (f : Field). bytes_eq f.label l) fs)) (option_map (λ (f : Field). f.value) (if b then Some g else find (λ (f : Field). bytes_eq f.label l) gs))
      by_test true rest = alike
      by_test false rest = rest

  pub project_alike : (l : Label) (v w : Value) → Alike p v w → OutcomesAlike p (made.project l v) (made.project l w)
  project_alike l v w one =
      by_parts p (FieldsAlike p) _ _ (fields_in v) (fields_in w) (fields_alike p v w one) (λ fs gs all. by_parts p (Alike p) outcome.Value outcome.Value (value_under l fs) (value_under l gs) (found_under l fs gs all) (λ x y alike. value_alike alike))

  pub tag_alike : (l : Label) (v w : Value) → Alike p v w → OutcomesAlike p (made.tag l v) (made.tag l w)
  tag_alike l v w one = value_alike (tag l v w refl refl one)
