use Rattle.lk_queries.proofs.Answered.{database_law}
use Rattle.lk_queries.proofs.AnyOrder.{any_order_law, listed_law, order_law}
use Rattle.lk_queries.proofs.Changing.{changes_law}
use Rattle.lk_queries.proofs.Executed.{executed_law}
use Rattle.lk_queries.proofs.Fueling.{enough_law}
use Rattle.lk_queries.proofs.Giving.{in_place_law, query_law}
use Rattle.lk_queries.proofs.Keyed.{answers_law}
use Rattle.lk_queries.proofs.law.query_laws.Goals as goal

pub returns-clause-gives : goal.returns-clause-gives
returns-clause-gives c = query_law

pub returns-clause-in_place : goal.returns-clause-in_place
returns-clause-in_place c = in_place_law

pub returns-clause-order : goal.returns-clause-order
returns-clause-order c = order_law

pub returns-clause-any_order : goal.returns-clause-any_order
returns-clause-any_order c = any_order_law

pub returns-clause-answers : goal.returns-clause-answers
returns-clause-answers c = answers_law

pub returns-clause-enough : goal.returns-clause-enough
returns-clause-enough c = enough_law

pub returns-clause-listed : goal.returns-clause-listed
returns-clause-listed c = listed_law

pub returns-clause-changes : goal.returns-clause-changes
returns-clause-changes c = changes_law

pub returns-clause-database : goal.returns-clause-database
returns-clause-database c = database_law c.translate_laws.ensures.translated c.sites_laws.ensures.sites c.inline_laws.ensures.captured

pub returns-clause-executed : goal.returns-clause-executed
returns-clause-executed c = executed_law
