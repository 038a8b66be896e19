use Rattle.lk_types.proofs.Lists.{nothing_behind}
use Rattle.lk_types.proofs.Unfold.{variables_base}
use Rattle.lk_types.proofs.variables.+variables.Goals as goal

pub push_variables-returns-in-Int : goal.push_variables-returns-in-Int
push_variables-returns-in-Int t c = nothing_behind _ _ (variables_base _ c.in-Int.is)

pub push_variables-returns-in-Int-2 : goal.push_variables-returns-in-Int-2
push_variables-returns-in-Int-2 t c = nothing_behind _ _ (variables_base _ c.in-Int.is)

pub push_variables-returns-in-Int-3 : goal.push_variables-returns-in-Int-3
push_variables-returns-in-Int-3 t c = nothing_behind _ _ (variables_base _ c.in-Int.is)
