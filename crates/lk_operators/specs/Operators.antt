-- What the nodes come to whose values depend on those of their parts alone.
use Rattle.std.specs.Prelude.{not, List}
use Rattle.std.specs.Ordering.{is_lt, is_le, is_gt, is_ge}
use Rattle.lk_ast.specs.Layers.{Layer}
use Rattle.lk_ast.specs.declared.expression.Node.TheOpen.{Node-F}
use Rattle.lk_ast.specs.declared.value.Value.{Value}
use Rattle.lk_operators.specs.Lists.{concat, append, cons, head, tail, empty}
use Rattle.lk_operators.specs.Numbers.{add, subtract, multiply, negate, quotient, remainder, int_to_string}
use Rattle.lk_operators.specs.Order.{compared, same, holds}
use Rattle.lk_operators.specs.Outcomes.{given, on_none, on_one, on_two}
use Rattle.lk_operators.specs.Records.{new_record, extended, project, tag}
use Rattle.lk_operators.specs.Values.{int, truth, text, list, bool_in}
use Rattle.lk_operators.specs.declared.outcome.Outcome.{Outcome}
use Rattle.lk_operators.specs.declared.outcome.Outcome.TheVariants as outcome

-- `not(e)`
abbrev pub negation : Value → Outcome
negation v = given (λ b. outcome.Value (truth (not b))) (bool_in v)

-- What a node comes to with the values of its parts, in text order. The last line is for the nodes that do more than this (names,
-- calls, blocks, branches, loops, output and tables).
abbrev pub operated : Layer → List Value → Outcome
operated (Node-F.Int n) values = on_none (outcome.Value (int n)) values
operated (Node-F.Text bytes) values = on_none (outcome.Value (text bytes)) values
operated (Node-F.Bool b) values = on_none (outcome.Value (truth b)) values
operated (Node-F.List es) values = outcome.Value (list values)
operated (Node-F.Concat a b) values = on_two concat values
operated (Node-F.Append a b) values = on_two append values
operated (Node-F.Cons a b) values = on_two cons values
operated (Node-F.Add a b) values = on_two add values
operated (Node-F.Sub a b) values = on_two subtract values
operated (Node-F.Mul a b) values = on_two multiply values
operated (Node-F.Div a b) values = on_two quotient values
operated (Node-F.Mod a b) values = on_two remainder values
operated (Node-F.Eq a b) values = on_two (holds same) values
operated (Node-F.Ne a b) values = on_two (holds (λ v w. not (same v w))) values
operated (Node-F.Lt a b) values = on_two (holds (compared is_lt)) values
operated (Node-F.Le a b) values = on_two (holds (compared is_le)) values
operated (Node-F.Gt a b) values = on_two (holds (compared is_gt)) values
operated (Node-F.Ge a b) values = on_two (holds (compared is_ge)) values
operated (Node-F.Neg e) values = on_one negate values
operated (Node-F.Not e) values = on_one negation values
operated (Node-F.Hd e) values = on_one head values
operated (Node-F.Tl e) values = on_one tail values
operated (Node-F.Empty e) values = on_one empty values
operated (Node-F.IntToString e) values = on_one int_to_string values
operated (Node-F.Record parts) values = new_record parts values
operated (Node-F.Extend parts r) values = extended parts values
operated (Node-F.Project e label) values = on_one (project label.text) values
operated (Node-F.Tag t e) values = on_one (tag t.text) values
operated _ values = outcome.NoRule
