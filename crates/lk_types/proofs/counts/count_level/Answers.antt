use Rattle.std.proofs.Common.{length, map, subst}
use Rattle.std.specs.Prelude.{sum}
use Rattle.lk_types.proofs.Counted.{count_one, level_bool, level_fields, level_fun, level_int, level_list, level_tags, level_text, level_var}
use Rattle.lk_types.proofs.counts.count_level.Goals as goal
use Rattle.lk_types.specs.Counts.{IsCount}
use Rattle.lk_types.specs.Levels.{at, IsBelow}
use Rattle.lk_types.specs.Sizes.{nodes}

pub returns-in-Int : goal.returns-in-Int
returns-in-Int c = λ ts are. level_int ts c.args.level.now 1 c.in-Int.is count_one

pub returns-in-Bool : goal.returns-in-Bool
returns-in-Bool c = λ ts are. level_bool ts c.args.level.now 1 c.in-Bool.is count_one

pub returns-in-Text : goal.returns-in-Text
returns-in-Text c = λ ts are. level_text ts c.args.level.now 1 c.in-Text.is count_one

pub returns-in-List : goal.returns-in-List
returns-in-List c = λ ts are.
    let below = subst (IsBelow (length c.args.counts.now)) c.in-List.is c.requires in
    level_list ts c.args.level.now c.both.result c.in-List.part c.in-List.is (c.both.ensures 1 _ count_one (are c.in-List.part below.0))

pub returns-in-Fields : goal.returns-in-Fields
returns-in-Fields c = λ ts are. level_fields ts c.args.level.now c.both-in-Fields.result c.in-Fields.row c.in-Fields.is (c.both-in-Fields.ensures 1 _ count_one (c.count_row.ensures ts are))

pub returns-in-Tags : goal.returns-in-Tags
returns-in-Tags c = λ ts are. level_tags ts c.args.level.now c.both-in-Tags.result c.in-Tags.row c.in-Tags.is (c.both-in-Tags.ensures 1 _ count_one (c.count_row-in-Tags.ensures ts are))

pub returns-in-Fun : goal.returns-in-Fun
returns-in-Fun c = λ ts are.
    let below = subst (IsBelow (length c.args.counts.now)) c.in-Fun.is c.requires in
    level_fun ts c.args.level.now c.both-in-Fun-2.result c.in-Fun.params c.in-Fun.effects c.in-Fun.part c.in-Fun.is
    (c.both-in-Fun-2.ensures 1 _ count_one
    (c.both-in-Fun.ensures _ _ (subst (λ ns. IsCount c.count_all.result (sum (map (λ n. nodes (at ts n)) ns))) c.as_slice.ensures (c.count_all.ensures ts are))
    (c.both-rest.ensures _ _ c.count_effects.ensures (are c.in-Fun.part below.0))))

pub returns-in-Var : goal.returns-in-Var
returns-in-Var c = λ ts are. level_var ts c.args.level.now 1 c.in-Var.field-0 c.in-Var.is count_one
