use Rattle.std.proofs.Common.{get_or, sym, ◌∙◌, ap}
use Rattle.std.proofs.lemmas.List.{take_all}
use Rattle.lk_types.specs.declared.ty.Variable.TheVariants as variable
use Rattle.lk_unify.proofs.ReadVariables.{binds_none, binds_some, named_can}
use Rattle.lk_unify.proofs.reading.read_all.Goals as goal
use Rattle.lk_unify.specs.Reading.{subst_of}

pub loop-variable-init : goal.loop-variable-init
loop-variable-init c u own = c.new-binds.ensures

pub loop-variable-preserved-in_default : goal.loop-variable-preserved-in_default
loop-variable-preserved-in_default c u own =
    binds_none c.args.loader.now u c.args.variables.now c.loop-variable.variable-index (variable.Plain 0) c.loop-variable-test.true c.loop-variable.binds (sym c.node_for.ensures ∙ c.in_default.is)
    (c.loop-variable.invariant u own)

pub read_image-requires : goal.read_image-requires
read_image-requires c =
    named_can c.args.loader.now c.args.numbers.now c.args.fuel c.requires.whole c.requires.kinds c.requires.count c.requires.ranks
    (get_or c.args.variables.now c.loop-variable.variable-index (variable.Plain 0)) c.in-Some.node (sym c.node_for.ensures ∙ c.in-Some.is)

pub loop-variable-preserved : goal.loop-variable-preserved
loop-variable-preserved c u own =
    binds_some c.args.loader.now u c.args.variables.now c.loop-variable.variable-index (variable.Plain 0) c.loop-variable-test.true c.loop-variable.binds c.push.new.self c.in-Some.node
    c.number_of.result c.in_ok-image.image (sym c.node_for.ensures ∙ c.in-Some.is) c.in_ok-push.ensures.ok c.number_of.ensures (c.in_ok-image.ensures u own) (c.loop-variable.invariant u own)

pub returns : goal.returns
returns c u own =
    ap (λ bs. record { binds = bs }) (c.loop-variable.invariant u own)
    ∙ ap (λ xs. subst_of xs c.args.loader.now u) (take_all c.loop-variable.variable-index c.args.variables.now c.loop-variable-test.false)
