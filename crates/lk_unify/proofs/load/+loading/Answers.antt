use Rattle.std.proofs.Common.{◌≡◌, ◌+◌, ◌<◌, Some, take, true, false, length, refl, sym, subst, arith}
use Rattle.std.proofs.lemmas.List.{take_all}
use Rattle.std.proofs.lemmas.Result.{IfOk-weaker}
use Rattle.lk_types.proofs.Members.{each_weaker}
use Rattle.lk_types.specs.declared.ty.TyRow.{out-TyRow}
use Rattle.lk_unify.proofs.LoadLists.{loads_no_types, loads_types_more, never_types, loads_no_fields, loads_fields_more, never_fields}
use Rattle.lk_unify.proofs.LoadRows.{row_end_as, loads_row_end, loaded_row, never_row_fields, some_fields}
use Rattle.lk_unify.proofs.LoadSteps.{if_mapped, loaded_some, loaded_none, all_some, all_lacking, fields_some, fields_lacking}
use Rattle.lk_unify.proofs.LoadTypes.{loads_int, loads_bool, loads_text, loads_var, loads_list, never_list, loads_record, never_record, loads_variant, never_variant, loaded_function, never_as, never_second, never_others}
use Rattle.lk_unify.proofs.load.+loading.Goals as goal
use Rattle.lk_arena.specs.Kinds.{OfTypes, OfFields}
use Rattle.lk_unify.specs.Loading.{type_meaning, types_meaning, row_meaning, Loaded, LoadedAll, AddsFunction, LoadsAll, LoadsFields}

pub load_list-returns-in_default : goal.load_list-returns-in_default
load_list-returns-in_default t c = never_list c.args.item.now (loaded_none c.args.loader.now c.load_type.new.loader OfTypes (type_meaning c.args.item.now) c.in_ok-part.field-0 c.in_default.not-Some c.in_ok-part.ensures)

pub load_list-returns : goal.load_list-returns
load_list-returns t c =
    if_mapped Some c.load_one.result c.map.result _ _ c.map.ensures.cases
    (λ n. loads_list c.args.loader.now c.load_type.new.loader c.load_one.new.loader c.in-Some.part n c.args.item.now
    (loaded_some c.args.loader.now c.load_type.new.loader OfTypes (type_meaning c.args.item.now) c.in_ok-part.field-0 c.in-Some.part c.in-Some.is c.in_ok-part.ensures))
    c.load_one.ensures

pub load_record-returns-in_default : goal.load_record-returns-in_default
load_record-returns-in_default t c = never_record c.args.row.now (loaded_none c.args.loader.now c.load_row.new.loader OfFields (row_meaning c.args.row.now) c.in_ok-part.field-0 c.in_default.not-Some c.in_ok-part.ensures)

pub load_record-returns : goal.load_record-returns
load_record-returns t c =
    if_mapped Some c.load_one.result c.map.result _ _ c.map.ensures.cases
    (λ n. loads_record c.args.loader.now c.load_row.new.loader c.load_one.new.loader c.in-Some.part n c.args.row.now
    (loaded_some c.args.loader.now c.load_row.new.loader OfFields (row_meaning c.args.row.now) c.in_ok-part.field-0 c.in-Some.part c.in-Some.is c.in_ok-part.ensures))
    c.load_one.ensures

pub load_variant-returns-in_default : goal.load_variant-returns-in_default
load_variant-returns-in_default t c = never_variant c.args.row.now (loaded_none c.args.loader.now c.load_row.new.loader OfFields (row_meaning c.args.row.now) c.in_ok-part.field-0 c.in_default.not-Some c.in_ok-part.ensures)

pub load_variant-returns : goal.load_variant-returns
load_variant-returns t c =
    if_mapped Some c.load_one.result c.map.result _ _ c.map.ensures.cases
    (λ n. loads_variant c.args.loader.now c.load_row.new.loader c.load_one.new.loader c.in-Some.part n c.args.row.now
    (loaded_some c.args.loader.now c.load_row.new.loader OfFields (row_meaning c.args.row.now) c.in_ok-part.field-0 c.in-Some.part c.in-Some.is c.in_ok-part.ensures))
    c.load_one.ensures

pub load_type-returns-in-Int : goal.load_type-returns-in-Int
load_type-returns-in-Int t c =
    if_mapped Some c.load_base.result c.map.result _ _ c.map.ensures.cases (λ n. loads_int c.args.loader.now c.load_base.new.loader n c.args.ty.now c.in-Int.is c.requires) c.load_base.ensures

pub load_type-returns-in-Bool : goal.load_type-returns-in-Bool
load_type-returns-in-Bool t c =
    if_mapped Some c.load_base-in-Bool.result c.map-in-Bool.result _ _ c.map-in-Bool.ensures.cases (λ n. loads_bool c.args.loader.now c.load_base-in-Bool.new.loader n c.args.ty.now c.in-Bool.is c.requires) c.load_base-in-Bool.ensures

pub load_type-returns-in-Text : goal.load_type-returns-in-Text
load_type-returns-in-Text t c =
    if_mapped Some c.load_base-in-Text.result c.map-in-Text.result _ _ c.map-in-Text.ensures.cases (λ n. loads_text c.args.loader.now c.load_base-in-Text.new.loader n c.args.ty.now c.in-Text.is c.requires) c.load_base-in-Text.ensures

pub load_type-returns-in-Var : goal.load_type-returns-in-Var
load_type-returns-in-Var t c =
    if_mapped Some c.load_variable.result c.map-in-Var.result _ _ c.map-in-Var.ensures.cases (λ n. loads_var c.args.loader.now c.load_variable.new.loader n c.in-Var.number c.args.ty.now c.in-Var.is)
    c.load_variable.ensures.loads

pub load_types-loop-ty-init : goal.load_types-loop-ty-init
load_types-loop-ty-init t c = loads_no_types c.args.loader.now c.new-nodes.result c.requires c.new-nodes.ensures

pub load_types-returns-in_default : goal.load_types-returns-in_default
load_types-returns-in_default t c =
    never_types c.args.types.now c.loop-ty.ty-index c.ty-item.result c.loop-ty-test.true c.ty-item.is
    (loaded_none c.loop-ty.loader c.load_type.new.loader OfTypes (type_meaning c.ty-item.result) c.in_ok-node.field-0 c.in_default.not-Some c.in_ok-node.ensures)

pub load_types-loop-ty-preserved : goal.load_types-loop-ty-preserved
load_types-loop-ty-preserved t c =
    subst (LoadsAll c.args.loader.now c.load_type.new.loader (types_meaning (take (c.loop-ty.ty-index + 1) c.args.types.now))) (sym c.in_ok-push.ensures.ok)
    (loads_types_more c.args.loader.now c.loop-ty.loader c.load_type.new.loader c.args.types.now c.loop-ty.ty-index c.ty-item.result c.loop-ty.nodes c.in-Some.node c.loop-ty-test.true c.ty-item.is
    c.loop-ty.invariant
    (loaded_some c.loop-ty.loader c.load_type.new.loader OfTypes (type_meaning c.ty-item.result) c.in_ok-node.field-0 c.in-Some.node c.in-Some.is c.in_ok-node.ensures))

pub load_types-returns : goal.load_types-returns
load_types-returns t c = subst (λ ts. LoadsAll c.args.loader.now c.loop-ty.loader (types_meaning ts) c.loop-ty.nodes) (take_all c.loop-ty.ty-index c.args.types.now c.loop-ty-test.false) c.loop-ty.invariant

pub load_fields-loop-field-init : goal.load_fields-loop-field-init
load_fields-loop-field-init t c = loads_no_fields c.args.loader.now c.new-found.result c.requires c.new-found.ensures

pub load_fields-returns-in_default : goal.load_fields-returns-in_default
load_fields-returns-in_default t c =
    never_fields c.args.fields.now c.loop-field.field-index c.field-item.result c.loop-field-test.true c.field-item.is
    (loaded_none c.loop-field.loader c.load_type.new.loader OfTypes (type_meaning c.field-item.result.ty) c.in_ok-node.field-0 c.in_default.not-Some c.in_ok-node.ensures)

pub load_fields-loop-field-preserved : goal.load_fields-loop-field-preserved
load_fields-loop-field-preserved t c =
    subst (LoadsFields c.args.loader.now c.load_type.new.loader (take (c.loop-field.field-index + 1) c.args.fields.now)) (sym c.in_ok-push.ensures.ok)
    (loads_fields_more c.args.loader.now c.loop-field.loader c.load_type.new.loader c.args.fields.now c.loop-field.field-index c.field-item.result c.loop-field.found
    (record { label = c.in_ok-copy.field-0; node = c.in-Some.node }) c.loop-field-test.true c.field-item.is c.loop-field.invariant
    (loaded_some c.loop-field.loader c.load_type.new.loader OfTypes (type_meaning c.field-item.result.ty) c.in_ok-node.field-0 c.in-Some.node c.in-Some.is c.in_ok-node.ensures) c.in_ok-copy.ensures)

pub load_fields-returns : goal.load_fields-returns
load_fields-returns t c = subst (λ fs. LoadsFields c.args.loader.now c.loop-field.loader fs c.loop-field.found) (take_all c.loop-field.field-index c.args.fields.now c.loop-field-test.false) c.loop-field.invariant

pub load_row-returns-in_default : goal.load_row-returns-in_default
load_row-returns-in_default t c =
    never_row_fields c.args.row.now (fields_lacking c.args.loader.now c.load_fields.new.loader _ c.as_slice.result.now c.in_ok-fields.field-0 c.as_slice.ensures c.in_default.not-Some c.in_ok-fields.ensures)

pub load_row-returns-then-is_empty : goal.load_row-returns-then-is_empty
load_row-returns-then-is_empty t c =
    loads_row_end c.args.row.now c.args.loader.now c.load_fields.new.loader c.load_end.new.loader c.in-Some.fields c.in_ok-tail.tail
    (fields_some c.args.loader.now c.load_fields.new.loader _ c.as_slice.result.now c.in_ok-fields.field-0 c.in-Some.fields c.as_slice.ensures c.in-Some.is c.in_ok-fields.ensures)
    (c.if-is_empty.ensures.0 refl)
    (row_end_as c.load_fields.new.loader c.load_end.new.loader c.in_ok-tail.tail c.of_row.result (out-TyRow c.args.row.now).tail c.of_row.ensures c.in_ok-tail.ensures)

pub load_row-add_row-requires : goal.load_row-add_row-requires
load_row-add_row-requires t c =
    let fields = fields_some c.args.loader.now c.load_fields.new.loader _ c.as_slice.result.now c.in_ok-fields.field-0 c.in-Some.fields c.as_slice.ensures c.in-Some.is c.in_ok-fields.ensures in
    let tail = row_end_as c.load_fields.new.loader c.load_end.new.loader c.in_ok-tail.tail c.of_row.result (out-TyRow c.args.row.now).tail c.of_row.ensures c.in_ok-tail.ensures in
    record {
      whole = tail.to.whole;
      tail_below = tail.below;
      below =
          each_weaker (λ f. f.node < length c.load_fields.new.loader.arena.shapes) (λ f. f.node < length c.load_end.new.loader.arena.shapes) (λ f below. (let longer = tail.to.longer in omega arith))
          c.in-Some.fields fields.below;
      some = some_fields c.in-Some.fields (λ e. (let h : false ≡ true = c.if-is_empty.ensures.1 e in cc));
    }

pub load_row-returns : goal.load_row-returns
load_row-returns t c =
    IfOk-weaker c.add_row.result _ _
    (λ answer. loaded_row c.args.row.now c.args.loader.now c.load_fields.new.loader c.load_end.new.loader c.add_row.new.loader c.in-Some.fields c.in_ok-tail.tail answer
    (fields_some c.args.loader.now c.load_fields.new.loader _ c.as_slice.result.now c.in_ok-fields.field-0 c.in-Some.fields c.as_slice.ensures c.in-Some.is c.in_ok-fields.ensures)
    (row_end_as c.load_fields.new.loader c.load_end.new.loader c.in_ok-tail.tail c.of_row.result (out-TyRow c.args.row.now).tail c.of_row.ensures c.in_ok-tail.ensures))
    c.add_row.ensures

pub load_type-returns-in_default : goal.load_type-returns-in_default
load_type-returns-in_default t c =
    never_as c.args.ty.now _ c.in-Fun.is
    (never_second c.in-Fun.params c.in-Fun.effects c.in-Fun.answer
    (loaded_none c.args.loader.now c.load_type.new.loader OfTypes (type_meaning c.in-Fun.answer) c.in_ok-second-in-Fun.field-0 c.in_default.not-Some
    (subst (λ u. Loaded c.args.loader.now c.load_type.new.loader OfTypes (type_meaning u) c.in_ok-second-in-Fun.field-0) c.get-in-Fun.ensures c.in_ok-second-in-Fun.ensures)))

pub load_type-returns-in_default-2 : goal.load_type-returns-in_default-2
load_type-returns-in_default-2 t c =
    never_as c.args.ty.now _ c.in-Fun.is
    (never_others c.in-Fun.params c.in-Fun.effects c.in-Fun.answer
    (all_lacking c.load_type.new.loader c.load_types.new.loader (types_meaning c.in-Fun.params) c.in_ok-others-in-Fun.field-0 c.in_default-2.not-Some
    (subst (λ us. LoadedAll c.load_type.new.loader c.load_types.new.loader (types_meaning us) c.in_ok-others-in-Fun.field-0) c.as_slice.ensures c.in_ok-others-in-Fun.ensures)))

pub load_type-returns-in-Some-2 : goal.load_type-returns-in-Some-2
load_type-returns-in-Some-2 t c =
    IfOk-weaker c.load_function.result _ _
    (λ found adds. loaded_function c.args.loader.now c.load_type.new.loader c.load_types.new.loader c.load_function.new.loader c.args.ty.now c.in-Fun.params c.in-Fun.effects c.in-Fun.answer c.in-Some.second c.in-Some-2.others
    found c.in-Fun.is
    (loaded_some c.args.loader.now c.load_type.new.loader OfTypes (type_meaning c.in-Fun.answer) c.in_ok-second-in-Fun.field-0 c.in-Some.second c.in-Some.is (subst (λ u. Loaded c.args.loader.now c.load_type.new.loader OfTypes (type_meaning u) c.in_ok-second-in-Fun.field-0) c.get-in-Fun.ensures c.in_ok-second-in-Fun.ensures))
    (all_some c.load_type.new.loader c.load_types.new.loader (types_meaning c.in-Fun.params) c.in_ok-others-in-Fun.field-0 c.in-Some-2.others c.in-Some-2.is
    (subst (λ us. LoadedAll c.load_type.new.loader c.load_types.new.loader (types_meaning us) c.in_ok-others-in-Fun.field-0) c.as_slice.ensures c.in_ok-others-in-Fun.ensures))
    (subst (λ ns. AddsFunction c.load_types.new.loader c.load_function.new.loader c.in-Fun.effects c.in-Some.second ns found) c.as_slice-in-Fun.ensures adds))
    c.load_function.ensures
