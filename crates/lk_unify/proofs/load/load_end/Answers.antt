use Rattle.std.proofs.Common.{refl}
use Rattle.std.proofs.lemmas.Result.{IfOk-weaker}
use Rattle.lk_unify.proofs.LoadRows.{end_closed, end_variable}
use Rattle.lk_unify.proofs.load.load_end.Goals as goal
use Rattle.lk_unify.specs.Loading.{kind_for}

pub make_end-requires : goal.make_end-requires
make_end-requires c = record { whole = c.requires; parts = tt; distinct = tt; filled = tt; known = refl }

pub returns-in-None : goal.returns-in-None
returns-in-None c =
    IfOk-weaker c.make_end.result _ _ (λ n. end_closed c.args.loader.now c.make_end.new.loader (kind_for c.args.kind) n c.args.tail c.in-None.is c.requires) c.make_end.ensures

pub returns-in-Some : goal.returns-in-Some
returns-in-Some c =
    IfOk-weaker c.load_variable.result _ _ (λ n. end_variable c.args.loader.now c.load_variable.new.loader (kind_for c.args.kind) n c.args.tail c.in-Some.variable c.in-Some.is)
    c.load_variable.ensures.loads
