use Rattle.lk_unify.proofs.LoadEquations.{never_left, never_right, loads_equation}
use Rattle.lk_unify.proofs.LoadSteps.{loaded_some, loaded_none}
use Rattle.lk_unify.proofs.load_sides.load_equation.Goals as goal
use Rattle.lk_arena.specs.Kinds.{OfTypes}
use Rattle.lk_unify.specs.Loading.{type_meaning}

pub returns-in_default : goal.returns-in_default
returns-in_default c =
    never_left c.args.equation.now
    (loaded_none c.args.loader.now c.load_side.new.loader OfTypes (type_meaning c.args.equation.now.left) c.in_ok-left.field-0 c.in_default.not-Some c.in_ok-left.ensures)

pub load_side-requires-2 : goal.load_side-requires-2
load_side-requires-2 c = (loaded_some c.args.loader.now c.load_side.new.loader OfTypes (type_meaning c.args.equation.now.left) c.in_ok-left.field-0 c.in-Some.left c.in-Some.is c.in_ok-left.ensures).to.whole

pub returns-in_default-2 : goal.returns-in_default-2
returns-in_default-2 c =
    never_right c.args.equation.now
    (loaded_none c.load_side.new.loader c.load_side-2.new.loader OfTypes (type_meaning c.args.equation.now.right) c.in_ok-right.field-0 c.in_default-2.not-Some c.in_ok-right.ensures)

pub returns : goal.returns
returns c =
    loads_equation c.args.equation.now c.args.loader.now c.load_side.new.loader c.load_side-2.new.loader c.in-Some.left c.in-Some-2.right
    (loaded_some c.args.loader.now c.load_side.new.loader OfTypes (type_meaning c.args.equation.now.left) c.in_ok-left.field-0 c.in-Some.left c.in-Some.is c.in_ok-left.ensures)
    (loaded_some c.load_side.new.loader c.load_side-2.new.loader OfTypes (type_meaning c.args.equation.now.right) c.in_ok-right.field-0 c.in-Some-2.right c.in-Some-2.is c.in_ok-right.ensures)
