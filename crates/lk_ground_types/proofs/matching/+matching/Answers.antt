use Rattle.std.proofs.Common.{◌<◌, length, map, inl, inr, sym, subst, ◌∙◌, ap}
use Rattle.std.proofs.Math.ListN.{get_or-map}
use Rattle.std.proofs.lemmas.List.{length-map, take_all}
use Rattle.std.proofs.lemmas.Option.{slice_get-get_or}
use Rattle.std.specs.FinMap as fin
use Rattle.std.specs.Prelude.{flat_map}
use Rattle.std.proofs.lemmas.Result.{on_ok_weaker}
use Rattle.lk_types.specs.Variables.{variables_of_field}
use Rattle.lk_types.specs.declared.ty.Ty.TheVariants as ty
use Rattle.std.specs.Option.{option_map}
use Rattle.lk_ground_types.specs.Bound.{IsRowWithin, grounding_in}
use Rattle.lk_ground_types.specs.Grounds.{at, row_in}
use Rattle.lk_ground_types.specs.Matching.{Binds}
use Rattle.lk_ground_types.proofs.Arms.{FieldsBecome, at_closed, at_tail, one_more_bound, one_more_taken, at_base, at_field, at_function, at_list, at_record, at_variable, at_variant, no_field, no_function, no_list, no_record, no_variant, none_fit}
use Rattle.lk_types.proofs.Members.{each_at}
use Rattle.lk_ground_types.proofs.Results.{on_any, on_both}
use Rattle.lk_ground_types.proofs.RowNumbers.{get_row, removed_row, row_back, within_parts, within_removed}
use Rattle.lk_ground_types.proofs.matching.+matching.Goals as goal

pub match_type-returns-in-Int : goal.match_type-returns-in-Int
match_type-returns-in-Int t c = record { binds = at_base _ _ _ (inl c.in-Int.is); within = λ p w. w }

pub match_type-returns-in-Bool : goal.match_type-returns-in-Bool
match_type-returns-in-Bool t c = record { binds = at_base _ _ _ (inr (inl c.in-Bool.is)); within = λ p w. w }

pub match_type-returns-in-Text : goal.match_type-returns-in-Text
match_type-returns-in-Text t c = record { binds = at_base _ _ _ (inr (inr c.in-Text.is)); within = λ p w. w }

pub match_type-returns-in-None : goal.match_type-returns-in-None
match_type-returns-in-None t c = record { binds = no_list _ _ _ c.in-List.item c.in-List.is (sym c.in-None.ensures.item); within = λ p w. w }

pub match_type-returns-in-None-record_fields : goal.match_type-returns-in-None-record_fields
match_type-returns-in-None-record_fields t c = record { binds = no_record _ _ _ c.in-Fields.row c.in-Fields.is (sym c.in-None-record_fields.ensures.fields); within = λ p w. w }

pub match_type-returns-in-None-variant_tags : goal.match_type-returns-in-None-variant_tags
match_type-returns-in-None-variant_tags t c = record { binds = no_variant _ _ _ c.in-Tags.row c.in-Tags.is (sym c.in-None-variant_tags.ensures.tags); within = λ p w. w }

pub match_type-returns-in_default : goal.match_type-returns-in_default
match_type-returns-in_default t c =
    record { binds = no_function _ _ _ c.in-Fun.params c.in-Fun.effects c.in-Fun.answer c.in-Fun.is (sym c.in_default.ensures.function); within = λ p w. w }

pub match_type-returns-in-Some : goal.match_type-returns-in-Some
match_type-returns-in-Some t c =
    on_ok_weaker c.match_type.result
    (λ is. record {
      binds = at_list _ _ _ c.get.result.now (c.in-List.is ∙ ap ty.List (sym c.get.ensures)) (at c.args.grounds.now c.in-Some.part) _ (sym c.in-Some.ensures.item) is.binds;
      within = λ p w. is.within c.in-Some.ensures.within w;
    })
    c.match_type.ensures

pub match_type-returns-in-Some-record_fields : goal.match_type-returns-in-Some-record_fields
match_type-returns-in-Some-record_fields t c =
    on_ok_weaker c.match_row.result
    (λ is. record {
      binds = at_record _ _ _ c.in-Fields.row c.in-Fields.is _ _ (sym c.in-Some-record_fields.ensures.fields) is.binds;
      within = λ p w. is.within c.in-Some-record_fields.ensures.within w;
    })
    c.match_row.ensures

pub match_type-returns-in-Some-variant_tags : goal.match_type-returns-in-Some-variant_tags
match_type-returns-in-Some-variant_tags t c =
    on_ok_weaker c.match_row-in-Some-variant_tags.result
    (λ is. record {
      binds = at_variant _ _ _ c.in-Tags.row c.in-Tags.is _ _ (sym c.in-Some-variant_tags.ensures.tags) is.binds;
      within = λ p w. is.within c.in-Some-variant_tags.ensures.within w;
    })
    c.match_row-in-Some-variant_tags.ensures

pub match_type-returns-in_ok-match_effects-in-Fun : goal.match_type-returns-in_ok-match_effects-in-Fun
match_type-returns-in_ok-match_effects-in-Fun t c =
    on_ok_weaker c.match_type-in-Fun.result
    (λ is. record {
      binds =
          at_function _ _ _ c.as_slice.result.now c.in-Fun.effects c.get-in-Fun.result.now
          (c.in-Fun.is ∙ λ i. ty.Fun (sym c.as_slice.ensures i) c.in-Fun.effects (sym c.get-in-Fun.ensures i))
          (map (at c.args.grounds.now) c.in-Some-function_parts.knowns.now) c.in-Some-function_parts.labels.now (at c.args.grounds.now c.in-Some-function_parts.known) _ _ _
          (sym c.in-Some-function_parts.ensures.function) c.in_ok-match_all-in-Fun.ensures.binds c.in_ok-match_effects-in-Fun.ensures.binds is.binds;
      within = λ p w.
          is.within c.in-Some-function_parts.ensures.within.1
          (c.in_ok-match_effects-in-Fun.ensures.within tt (c.in_ok-match_all-in-Fun.ensures.within c.in-Some-function_parts.ensures.within.0 w));
    })
    c.match_type-in-Fun.ensures

pub match_type-returns-in-Var : goal.match_type-returns-in-Var
match_type-returns-in-Var t c =
    on_both c.bind_plain.result (λ bound within. record { binds = at_variable _ _ _ _ _ c.in-Var.is (bound c.args.grounds.now); within = within (length c.args.grounds.now) })
    c.bind_plain.ensures.bound c.bind_plain.ensures.within

pub match_all-returns-then-types-numbers : goal.match_all-returns-then-types-numbers
match_all-returns-then-types-numbers t c = record {
  binds = none_fit _ _ _ (λ same. c.if-types-numbers.true (same ∙ length-map c.args.numbers.now (at c.args.grounds.now)));
  within = λ p w. w;
}

pub match_field-returns-in-None-clause-bound : goal.match_field-returns-in-None-clause-bound
match_field-returns-in-None-clause-bound t c = record {
  binds = no_field _ _ _
      (get_row c.args.grounds.now c.args.rest.now c.args.field.now.label
      ∙ ap (λ o. option_map (at c.args.grounds.now) o) (ap (fin.get c.args.rest.now) (sym c.as_str.ensures) ∙ sym c.in-None.ensures.taken));
  within = λ p w. w;
}

pub match_field-returns-in-Some-clause-left : goal.match_field-returns-in-Some-clause-left
match_field-returns-in-Some-clause-left t c = on_any c.match_type.result (c.take.ensures.left ∙ ap (fin.remove c.args.rest.now) c.as_str.ensures)

pub match_field-returns-in-Some-clause-bound : goal.match_field-returns-in-Some-clause-bound
match_field-returns-in-Some-clause-bound t c =
    let there = ap (fin.get c.args.rest.now) (sym c.as_str.ensures) ∙ sym c.in-Some.ensures.taken in
    on_ok_weaker c.match_type.result
    (λ is. record {
      binds =
          at_field _ _ (at c.args.grounds.now c.in-Some.part) _ _ (get_row c.args.grounds.now c.args.rest.now c.args.field.now.label ∙ ap (λ o. option_map (at c.args.grounds.now) o) there)
          is.binds;
      within = λ p w. is.within (p c.args.field.now.label c.in-Some.part there) w;
    })
    c.match_type.ensures

pub match_all-loop-i-preserved : goal.match_all-loop-i-preserved
match_all-loop-i-preserved t c = record {
  binds =
      one_more_bound _ (map (at c.args.grounds.now) c.args.numbers.now) c.loop-i.i _ _ _ _ _ _ _ c.loop-i-test.true c.index-types-i.is
      (sym (get_or-map (at c.args.grounds.now) c.args.numbers.now c.loop-i.i 0))
      c.loop-i.invariant.binds c.in_ok-match_type.ensures.binds;
  within = λ p w.
      c.in_ok-match_type.ensures.within
      (each_at (λ n. n < length c.args.grounds.now) c.args.numbers.now c.loop-i.i _
      (slice_get-get_or c.args.numbers.now c.loop-i.i 0 (subst (λ m. c.loop-i.i < m) c.if-types-numbers.false c.loop-i-test.true)) p)
      (c.loop-i.invariant.within p w);
}

pub match_fields-loop-field-preserved : goal.match_fields-loop-field-preserved
match_fields-loop-field-preserved t c = record {
  taken =
      one_more_taken _ _ _ _ _ _ (row_in c.args.grounds.now c.match_field.new.rest) _ _ _ c.loop-field-test.true c.field-item.is c.loop-field.invariant.taken
      (ap (row_in c.args.grounds.now) c.in_ok-match_field.ensures.left ∙ removed_row c.args.grounds.now c.loop-field.rest _)
      c.in_ok-match_field.ensures.bound.binds;
  fits = λ p. subst (IsRowWithin (length c.args.grounds.now)) (sym c.in_ok-match_field.ensures.left) (within_removed (length c.args.grounds.now) c.loop-field.rest _ (c.loop-field.invariant.fits p));
  within = λ p w. c.in_ok-match_field.ensures.bound.within (c.loop-field.invariant.fits p) (c.loop-field.invariant.within p w);
}

pub match_fields-returns-clause-bound : goal.match_fields-returns-clause-bound
match_fields-returns-clause-bound t c = record {
  binds =
      subst (λ fs. Binds (flat_map variables_of_field fs) (FieldsBecome c.args.fields.now (row_in c.args.grounds.now c.args.rest.now)) (grounding_in c.args.grounds.now c.args.found.now) (grounding_in c.args.grounds.now c.loop-field.found))
      (take_all c.loop-field.field-index c.args.fields.now c.loop-field-test.false) c.loop-field.invariant.taken.bound;
  within = c.loop-field.invariant.within;
}

pub match_row-returns-in-Closed : goal.match_row-returns-in-Closed
match_row-returns-in-Closed t c = record {
  binds =
      at_closed _ _ c.as_slice.ensures _ (row_in c.args.grounds.now c.in_ok-rest.rest) (row_in c.args.grounds.now c.match_fields.new.rest) _ _
      (ap (row_in c.args.grounds.now) c.in_ok-rest.ensures ∙ row_back c.args.grounds.now c.args.parts.now)
      c.in_ok-match_fields.ensures.left c.in_ok-match_fields.ensures.bound.binds c.in-Closed.is;
  within = λ p w. c.in_ok-match_fields.ensures.bound.within (subst (IsRowWithin (length c.args.grounds.now)) (sym c.in_ok-rest.ensures) (within_parts (length c.args.grounds.now) c.args.parts.now p)) w;
}

pub match_row-returns-in-Var : goal.match_row-returns-in-Var
match_row-returns-in-Var t c =
    on_both c.bind_row.result
    (λ bound within. record {
      binds =
          at_tail _ _ c.as_slice.ensures _ (row_in c.args.grounds.now c.in_ok-rest.rest) (row_in c.args.grounds.now c.match_fields.new.rest) _ _
          (ap (row_in c.args.grounds.now) c.in_ok-rest.ensures ∙ row_back c.args.grounds.now c.args.parts.now)
          c.in_ok-match_fields.ensures.left c.in_ok-match_fields.ensures.bound.binds _ _ c.in-Var.is (bound c.args.grounds.now);
      within = λ p w. (let fits = subst (IsRowWithin (length c.args.grounds.now)) (sym c.in_ok-rest.ensures) (within_parts (length c.args.grounds.now) c.args.parts.now p) in
          within (length c.args.grounds.now) (c.in_ok-match_fields.ensures.within fits) (c.in_ok-match_fields.ensures.bound.within fits w));
    })
    c.bind_row.ensures.bound c.bind_row.ensures.within
