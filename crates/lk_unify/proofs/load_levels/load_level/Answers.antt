use Rattle.std.proofs.Common.{◌<◌, Some, length, subst, sym, ap, ◌∙◌}
use Rattle.std.proofs.lemmas.Result.{IfOk-weaker}
use Rattle.lk_types.specs.Each.{Each}
use Rattle.lk_types.specs.Levels.{made, IsBelow}
use Rattle.lk_types.specs.declared.levels.Level.TheVariants as level
use Rattle.lk_arena.proofs.EachLemmas.{Each-get_or}
use Rattle.lk_arena.specs.Kinds.{OfTypes}
use Rattle.lk_unify.proofs.LoadLevelParts.{level_bool, level_int, level_list, level_text, level_var}
use Rattle.lk_unify.proofs.LoadSteps.{if_mapped}
use Rattle.lk_unify.proofs.load_levels.load_level.Goals as goal
use Rattle.lk_unify.specs.LevelLoading.{LoadedOn}
use Rattle.lk_unify.specs.Loading.{type_meaning}

pub returns-in-Int : goal.returns-in-Int
returns-in-Int c =
    if_mapped _ c.load_base.result c.map.result _ _ c.map.ensures.cases
    (λ n makes ts same. level_int ts c.args.nodes.now c.args.loader.now c.load_base.new.loader c.args.level.now n c.in-Int.is c.requires.whole makes) c.load_base.ensures

pub returns-in-Bool : goal.returns-in-Bool
returns-in-Bool c =
    if_mapped _ c.load_base-in-Bool.result c.map-in-Bool.result _ _ c.map-in-Bool.ensures.cases
    (λ n makes ts same. level_bool ts c.args.nodes.now c.args.loader.now c.load_base-in-Bool.new.loader c.args.level.now n c.in-Bool.is c.requires.whole makes) c.load_base-in-Bool.ensures

pub returns-in-Text : goal.returns-in-Text
returns-in-Text c =
    if_mapped _ c.load_base-in-Text.result c.map-in-Text.result _ _ c.map-in-Text.ensures.cases
    (λ n makes ts same. level_text ts c.args.nodes.now c.args.loader.now c.load_base-in-Text.new.loader c.args.level.now n c.in-Text.is c.requires.whole makes) c.load_base-in-Text.ensures

pub load_one-requires-clause-part : goal.load_one-requires-clause-part
load_one-requires-clause-part c =
    Each-get_or (λ n. n < length c.args.loader.now.arena.shapes) c.args.nodes.now c.in-List.part 0 (subst (IsBelow (length c.args.nodes.now)) c.in-List.is c.requires.parts).0 c.requires.nodes

pub returns-in-List : goal.returns-in-List
returns-in-List c =
    if_mapped _ c.load_one.result c.map-in-List.result _ _ c.map-in-List.ensures.cases
    (λ n makes ts same.
    let below = (subst (IsBelow (length c.args.nodes.now)) c.in-List.is c.requires.parts).0 in
    subst (λ l. LoadedOn c.args.loader.now c.load_one.new.loader ts c.args.nodes.now OfTypes (type_meaning (made ts l)) (Some n)) (sym c.in-List.is)
    (level_list ts c.args.nodes.now same c.args.loader.now c.load_one.new.loader c.in-List.part n (subst (λ m. c.in-List.part < m) same below) c.requires.whole makes))
    c.load_one.ensures

pub load_level_record-requires-clause-parts : goal.load_level_record-requires-clause-parts
load_level_record-requires-clause-parts c = subst (IsBelow (length c.args.nodes.now)) c.in-Fields.is c.requires.parts

pub returns-in-Fields : goal.returns-in-Fields
returns-in-Fields c =
    IfOk-weaker c.load_level_record.result _ _
    (λ answer on ts same. subst (λ l. LoadedOn c.args.loader.now c.load_level_record.new.loader ts c.args.nodes.now OfTypes (type_meaning (made ts l)) answer) (sym c.in-Fields.is) (on ts same)) c.load_level_record.ensures

pub load_level_variant-requires-clause-parts : goal.load_level_variant-requires-clause-parts
load_level_variant-requires-clause-parts c = subst (IsBelow (length c.args.nodes.now)) c.in-Tags.is c.requires.parts

pub returns-in-Tags : goal.returns-in-Tags
returns-in-Tags c =
    IfOk-weaker c.load_level_variant.result _ _
    (λ answer on ts same. subst (λ l. LoadedOn c.args.loader.now c.load_level_variant.new.loader ts c.args.nodes.now OfTypes (type_meaning (made ts l)) answer) (sym c.in-Tags.is) (on ts same)) c.load_level_variant.ensures

pub load_level_function-requires-clause-part : goal.load_level_function-requires-clause-part
load_level_function-requires-clause-part c = (subst (IsBelow (length c.args.nodes.now)) c.in-Fun.is c.requires.parts).0

pub load_level_function-requires-clause-params : goal.load_level_function-requires-clause-params
load_level_function-requires-clause-params c = subst (Each (λ p. p < length c.args.nodes.now)) (sym c.as_slice.ensures) (subst (IsBelow (length c.args.nodes.now)) c.in-Fun.is c.requires.parts).1

pub returns-in-Fun : goal.returns-in-Fun
returns-in-Fun c =
    IfOk-weaker c.load_level_function.result _ _
    (λ answer on ts same.
    subst (λ l. LoadedOn c.args.loader.now c.load_level_function.new.loader ts c.args.nodes.now OfTypes (type_meaning (made ts l)) answer) (ap (λ ps. level.Fun ps c.in-Fun.effects c.in-Fun.part) c.as_slice.ensures ∙ sym c.in-Fun.is) (on ts same)) c.load_level_function.ensures

pub returns-in-Var : goal.returns-in-Var
returns-in-Var c =
    if_mapped _ c.load_variable.result c.map-in-Var.result _ _ c.map-in-Var.ensures.cases
    (λ n loads ts same. level_var ts c.args.nodes.now c.args.loader.now c.load_variable.new.loader c.args.level.now n c.in-Var.number c.in-Var.is loads) c.load_variable.ensures.loads
