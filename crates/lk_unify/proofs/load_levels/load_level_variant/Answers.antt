use Rattle.lk_types.specs.Levels.{row_made}
use Rattle.lk_arena.specs.Kinds.{OfFields}
use Rattle.lk_unify.proofs.LoadLevelParts.{any_long, any_types, level_variant, on_none, on_some}
use Rattle.lk_unify.proofs.LoadSteps.{if_mapped}
use Rattle.lk_unify.proofs.LoadTypes.{never_variant}
use Rattle.lk_unify.proofs.load_levels.load_level_variant.Goals as goal
use Rattle.lk_unify.specs.Loading.{row_meaning}

pub load_one-requires-clause-whole : goal.load_one-requires-clause-whole
load_one-requires-clause-whole c =
    let ns = c.args.nodes.now in
    (on_some c.args.loader.now c.load_level_row.new.loader (any_types ns) ns OfFields (row_meaning (row_made (any_types ns) c.args.row.now)) c.in_ok-part.field-0 c.in-Some.part c.in-Some.is (c.in_ok-part.ensures (any_types ns) (any_long ns))).whole

pub load_one-requires-clause-part : goal.load_one-requires-clause-part
load_one-requires-clause-part c =
    let ns = c.args.nodes.now in
    (on_some c.args.loader.now c.load_level_row.new.loader (any_types ns) ns OfFields (row_meaning (row_made (any_types ns) c.args.row.now)) c.in_ok-part.field-0 c.in-Some.part c.in-Some.is (c.in_ok-part.ensures (any_types ns) (any_long ns))).below

pub returns-in_default : goal.returns-in_default
returns-in_default c ts same =
    never_variant (row_made ts c.args.row.now)
    (on_none c.args.loader.now c.load_level_row.new.loader ts c.args.nodes.now OfFields (row_meaning (row_made ts c.args.row.now)) c.in_ok-part.field-0 c.in_default.not-Some (c.in_ok-part.ensures ts same))

pub returns : goal.returns
returns c =
    if_mapped _ c.load_one.result c.map.result _ _ c.map.ensures.cases
    (λ n makes ts same. level_variant ts c.args.nodes.now same c.args.loader.now c.requires.nodes (row_made ts c.args.row.now) c.load_level_row.new.loader c.load_one.new.loader c.in-Some.part n
    (on_some c.args.loader.now c.load_level_row.new.loader ts c.args.nodes.now OfFields (row_meaning (row_made ts c.args.row.now)) c.in_ok-part.field-0 c.in-Some.part c.in-Some.is (c.in_ok-part.ensures ts same)) makes)
    c.load_one.ensures
