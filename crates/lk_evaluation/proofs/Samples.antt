-- Evaluations worked by hand, computed by the definition.
use Rattle.std.proofs.Common.{◌≡◌, ℕ, Bool, true, false, List, [], ◌∷◌, ◌++◌, if◌then◌else◌, map, length, pos, sym, ap, ◌∙◌}
use Rattle.std.specs.Prelude.{codes, None, Some, cond}
use Rattle.std.proofs.lemmas.Cmp.{nat_list_cmp_total}
use Rattle.std.specs.Cmp.Lexicographic.{slice_cmp}
use Rattle.std.specs.FinMap as finite
use Rattle.std.specs.FinSet as set
use Rattle.std.specs.Ordering.{nat_cmp, eq_by_cmp}
use Rattle.std.specs.declared.cmp.Ordering.{Ordering}
use Rattle.lk_ast.specs.Layers.{Layer, layer}
use Rattle.lk_ast.specs.Rows.{rows_value}
use Rattle.lk_ast.specs.declared.declaration.Decl.TheVariants as decl
use Rattle.lk_ast.specs.declared.declaration.FunDef.{FunDef}
use Rattle.lk_ast.specs.declared.declaration.Program.{Program}
use Rattle.lk_ast.specs.declared.event.Event.TheVariants.{Print, Enter, Leave, Read, Write}
use Rattle.lk_ast.specs.declared.expression.Case.{Case}
use Rattle.lk_ast.specs.declared.expression.ChangeExpr.{ChangeExpr}
use Rattle.lk_ast.specs.declared.expression.Expr.{Expr, fold_out-Expr}
use Rattle.lk_ast.specs.declared.expression.LambdaExpr.{LambdaExpr}
use Rattle.lk_ast.specs.declared.expression.LastCase.{LastCase}
use Rattle.lk_ast.specs.declared.expression.Node.{Node, fold_out-Node}
use Rattle.lk_ast.specs.declared.expression.Node.TheFolds.{map-Node}
use Rattle.lk_ast.specs.declared.expression.Node.TheOpen.{Node-F}
use Rattle.lk_ast.specs.declared.expression.Node.TheVariants as node
use Rattle.lk_ast.specs.declared.expression.PartExpr.{PartExpr, fold_out-PartExpr}
use Rattle.lk_ast.specs.declared.place.Loc.{Loc}
use Rattle.lk_ast.specs.declared.place.Loc.TheVariants.{Client, Server}
use Rattle.lk_ast.specs.declared.place.Word.{Word}
use Rattle.lk_ast.specs.declared.table.Base.{Base}
use Rattle.lk_ast.specs.declared.table.Base.TheVariants as base
use Rattle.lk_ast.specs.declared.table.BaseKind.TheVariants as kind
use Rattle.lk_ast.specs.declared.table.Row.{Row}
use Rattle.lk_ast.specs.declared.value.Value.{Value}
use Rattle.lk_ast.specs.declared.value.Value.TheVariants as value
use Rattle.lk_index.specs.Free.{Uses, free, free_node, free_case, free_change, free_lambda, free_last, free_part, node_in, case_in, change_in, expr_in, lambda_in, last_in, part_in, in_byte_order, captured_query}
use Rattle.lk_locals.specs.Names.{Names, bind, lookup}
use Rattle.lk_evaluation.specs.Evaluation.{eval_to}
use Rattle.lk_evaluation.specs.Run.{Goes, Stops, Waiting, Within, Called, Returned, Function, Site, start}
use Rattle.lk_evaluation.specs.Source.{session}
use Rattle.lk_operators.specs.Records.{record_of}
use Rattle.lk_operators.specs.Values.{field, fields, int, text, truth, unit}
use Rattle.lk_operators.specs.declared.outcome.Outcome.TheVariants as outcome

-- the value of a name that was bound
lookup-bind : (names : Names) (x : List ℕ) (v : Value) (q : List ℕ) → lookup (bind x v names) q ≡ cond (eq_by_cmp (slice_cmp nat_cmp) q x) (Some v) (lookup names q)
lookup-bind names x v q = finite.get-insert nat_list_cmp_total names x v q

-- nodes at no place in particular, and words at their first byte
abbrev at_zero : Node → Expr
at_zero n = record { span = record { start = 0; end = 0 }; node = n }

abbrev word : ℕ → List ℕ → Word
word start name = record { at = record { start = start; end = 0 }; text = name }

abbrev literal : List ℕ → Expr
literal bytes = at_zero (node.Text bytes)

abbrev name : List ℕ → Expr
name x = at_zero (node.Name x)

abbrev call : List ℕ → Expr → Expr
call f e = at_zero (node.Call (word 0 f) (e ∷ []))

abbrev joined : Expr → Expr → Expr
joined a b = at_zero (node.Concat a b)

-- a function whose name stands at that byte of the text
abbrev function : ℕ → List ℕ → List ℕ → Loc → Expr → FunDef
function start f x place body = record { name = word start f; sig = None; params = word 0 x ∷ []; place = place; body = body }

-- fun greet(n) server { "hi " ^^ n } fun main(a) client { greet(a) }
abbrev greet_main : FunDef
greet_main = function 39 (codes "main") (codes "a") Client (call (codes "greet") (name (codes "a")))

abbrev greet : Program
greet = record { decls = decl.Fun (function 4 (codes "greet") (codes "n") Server (joined (literal (codes "hi ")) (name (codes "n")))) ∷ decl.Fun greet_main ∷ [] }

-- five nodes are entered, control passes to the server and back, and each takes a step
pub greets : session greet greet_main (codes "ann") (start 10 [])
    ≡ Goes (text (codes "hi ann")) (record {
      fuel = 5;
      steps = 7;
      log = record { number = 3; event = Enter; crossing = Called (Function (record { site = 4; env = [] })) (text (codes "ann") ∷ []) }
          ∷ record { number = 7; event = Leave; crossing = Returned (text (codes "hi ann")) } ∷ [];
      answers = [];
      returns = None;
    })
unfolding eval_to
greets = simp (node.outs-Concat, node.outs-Text, node.outs-Name, node.outs-Call, value.outs-Base, lookup-bind)

-- fun log(s) client { print(s); s ^^ "!" } fun work(n) server { "<" ^^ log(n) ^^ ">" } fun main(a) client { work(a) }
abbrev nest_main : FunDef
nest_main = function 89 (codes "main") (codes "a") Client (call (codes "work") (name (codes "a")))

abbrev nest : Program
nest = record {
  decls = decl.Fun (function 4 (codes "log") (codes "s") Client (at_zero (node.Seq (at_zero (node.Print (name (codes "s")))) (joined (name (codes "s")) (literal (codes "!"))))))
      ∷ decl.Fun (function 45 (codes "work") (codes "n") Server (joined (literal (codes "<")) (joined (call (codes "log") (name (codes "n"))) (literal (codes ">")))))
      ∷ decl.Fun nest_main ∷ [];
}

-- fourteen nodes are entered; four changes of place, the values of `print`, of `log` and of the inner `^^` take a step each
pub nests : session nest nest_main (codes "ann") (start 20 [])
    ≡ Goes (text (codes "<ann!>")) (record {
      fuel = 6;
      steps = 21;
      log = record { number = 3; event = Enter; crossing = Called (Function (record { site = 45; env = [] })) (text (codes "ann") ∷ []) }
          ∷ record { number = 9; event = Leave; crossing = Called (Function (record { site = 4; env = [] })) (text (codes "ann") ∷ []) }
          ∷ record { number = 12; event = Print (codes "ann"); crossing = Within }
          ∷ record { number = 17; event = Enter; crossing = Returned (text (codes "ann!")) }
          ∷ record { number = 21; event = Leave; crossing = Returned (text (codes "<ann!>")) } ∷ [];
      answers = [];
      returns = None;
    })
unfolding eval_to
nests = simp (node.outs-Concat, node.outs-Text, node.outs-Name, node.outs-Call, node.outs-Seq, node.outs-Print, value.outs-Base, value.outs-Fields, lookup-bind)

-- ---- conditions

abbrev bool : Bool → Expr
bool b = at_zero (node.Bool b)

-- fun main(a) client { e }
abbrev alone_main : Expr → FunDef
alone_main e = function 4 (codes "main") (codes "a") Client e

abbrev alone : Expr → Program
alone e = record { decls = decl.Fun (alone_main e) ∷ [] }

-- the value of an expression alone, after so many nodes of ten, each a step
abbrev comes_to : Expr → Bool → ℕ → ℕ → Type 0
comes_to e b steps left = session (alone e) (alone_main e) (codes "ann") (start 10 []) ≡ Goes (truth b) (record { fuel = left; steps = steps; log = []; answers = []; returns = None })

-- `true && false`: both sides are evaluated
pub and_both : comes_to (at_zero (node.And (bool true) (bool false))) false 3 7
unfolding eval_to
and_both = simp (node.outs-And, node.outs-Bool, value.outs-Base)

-- `false && true`: the right side isn't entered
pub and_left : comes_to (at_zero (node.And (bool false) (bool true))) false 2 8
unfolding eval_to
and_left = simp (node.outs-And, node.outs-Bool, value.outs-Base)

-- `true || false`: the right side isn't entered
pub or_left : comes_to (at_zero (node.Or (bool true) (bool false))) true 2 8
unfolding eval_to
or_left = simp (node.outs-Or, node.outs-Bool, value.outs-Base)

-- `false || true`: both sides are evaluated
pub or_both : comes_to (at_zero (node.Or (bool false) (bool true))) true 3 7
unfolding eval_to
or_both = simp (node.outs-Or, node.outs-Bool, value.outs-Base)

-- ---- tables

-- a node that begins at that byte of the text
abbrev placed : ℕ → Node → Expr
placed start n = record { span = record { start = start; end = 0 }; node = n }

-- a row with one column
abbrev row : List ℕ → Base → Row
row label b = record { cells = record { label = label; value = b } ∷ [] }

-- table t with (n : Int); fun main(a) client { for (r <-- t) [r.n] }
abbrev numbers_main : FunDef
numbers_main = function 28 (codes "main") (codes "a") Client
    (placed 45 (node.ForTable (word 0 (codes "r")) (placed 45 (node.Table (word 0 (codes "t")))) (at_zero (node.List (at_zero (node.Project (name (codes "r")) (word 0 (codes "n"))) ∷ [])))))

abbrev numbers : Program
numbers = record { decls = decl.Table (record { name = word 6 (codes "t"); columns = record { label = word 0 (codes "n"); kind = kind.Int } ∷ [] }) ∷ decl.Fun numbers_main ∷ [] }

-- the table's rows
abbrev one_and_two : List Row
one_and_two = row (codes "n") (base.Int (pos 1)) ∷ row (codes "n") (base.Int (pos 2)) ∷ []

-- Eight nodes are entered: the loop and its table, and for each row three. Two changes of place, the table's value, those of
-- `r.n` and those of the lists take a step each. The reading is the server's.
pub numbered : session numbers numbers_main (codes "ann") (start 10 (one_and_two ∷ [] ∷ []))
    ≡ Goes (value.List (int (pos 1) ∷ int (pos 2) ∷ [])) (record {
      fuel = 2;
      steps = 15;
      log = record { number = 3; event = Enter; crossing = Called (Site 45) [] }
          ∷ record { number = 3; event = Read (record { site = 45; args = []; answer = one_and_two }); crossing = Within }
          ∷ record { number = 4; event = Leave; crossing = Returned (rows_value one_and_two) } ∷ [];
      answers = [] ∷ [];
      returns = None;
    })
unfolding eval_to
numbered = simp (node.outs-ForTable, node.outs-Table, node.outs-List, node.outs-Project, node.outs-Name, value.outs-Fields, value.outs-List, lookup-bind)

-- the same without an answer: the reading waits, and says which it is
pub waits : session numbers numbers_main (codes "ann") (start 10 [])
    ≡ Stops (Waiting 45 []) (record {
      fuel = 8;
      steps = 3;
      log = record { number = 3; event = Enter; crossing = Called (Site 45) [] } ∷ [];
      answers = [];
      returns = None;
    })
unfolding eval_to
waits = simp (node.outs-ForTable, node.outs-Table)

-- fun main(a) client { query { [(n = a)] } }
abbrev asked_part : PartExpr
asked_part = record { label = word 0 (codes "n"); expr = name (codes "a") }

abbrev asked_parts : List PartExpr
asked_parts = asked_part ∷ []

abbrev asked : Expr
asked = at_zero (node.List (at_zero (node.Record asked_parts) ∷ []))

abbrev query_main : FunDef
query_main = function 4 (codes "main") (codes "a") Client (placed 21 (node.Query [] asked))

abbrev query : Program
query = record { decls = decl.Fun query_main ∷ [] }

abbrev order : List ℕ → List ℕ → Ordering
order = slice_cmp nat_cmp

-- one word is in order
one_word : (x : List ℕ) → in_byte_order (x ∷ []) ≡ x ∷ []
one_word x =
    let entry : List (List ℕ × Unit {0}) = (x, tt) ∷ [] in
    let same : (q : List ℕ) → finite.get (finite.from_entries {R = order} entry) q ≡ finite.get (finite.from_sorted {R = order} entry) q = λ q. finite.get-from_entries nat_list_cmp_total entry q ∙ sym (finite.get-from_sorted order entry q tt) in
    let is : finite.from_entries {R = order} entry ≡ finite.from_sorted entry = finite.same_map nat_list_cmp_total (finite.slice_cmp-IsAntisymmetric finite.nat_cmp-IsAntisymmetric) _ _ same in
    ap finite.keys is ∙ ap (map (λ e. e.0)) (finite.entries-from_sorted order entry tt)

-- a level with the uses in its parts
abbrev mapped : Layer → Node-F Uses Uses Uses Uses Uses Uses Uses
mapped = map-Node Node Case ChangeExpr Expr LambdaExpr LastCase PartExpr Uses Uses Uses Uses Uses Uses Uses free_node free_case free_change free free_lambda free_last free_part

-- the free names of an expression of this form
level : (e : Expr) (l : Layer) → layer e ≡ l → free e set.empty ≡ node_in (mapped l) set.empty
level e l is =
    ap (λ f. f set.empty) (fold_out-Expr Uses Uses Uses Uses Uses Uses Uses node_in case_in change_in expr_in lambda_in last_in part_in e)
    ∙ ap (λ f. f set.empty) (fold_out-Node Uses Uses Uses Uses Uses Uses Uses node_in case_in change_in expr_in lambda_in last_in part_in e.node)
    ∙ ap (λ l. node_in (mapped l) set.empty) is

part_level : (part : PartExpr) → free_part part set.empty ≡ free part.expr set.empty
part_level part = ap (λ f. f set.empty) (fold_out-PartExpr Uses Uses Uses Uses Uses Uses Uses node_in case_in change_in expr_in lambda_in last_in part_in part)

-- nothing binds `a` in the query
asks_for : free asked set.empty ≡ codes "a" ∷ []
asks_for =
    level asked _ (node.outs-List _)
    ∙ ap (λ found. found ++ []) (level (at_zero (node.Record asked_parts)) _ (node.outs-Record asked_parts)
    ∙ ap (λ found. found ++ []) (part_level asked_part ∙ level (name (codes "a")) _ (node.outs-Name (codes "a"))
    ∙ ap (λ b. if b then [] else codes "a" ∷ []) (set.contains-empty order (codes "a"))))

captures : captured_query asked ≡ codes "a" ∷ []
captures = ap in_byte_order asks_for ∙ one_word (codes "a")

-- a query is evaluated by its store, which is told the values that it captured
pub queries : session query query_main (codes "ann") (start 10 ((row (codes "n") (base.Text (codes "ann")) ∷ []) ∷ []))
    ≡ Goes (rows_value (row (codes "n") (base.Text (codes "ann")) ∷ [])) (record {
      fuel = 9;
      steps = 3;
      log = record { number = 2; event = Enter; crossing = Called (Site 21) (text (codes "ann") ∷ []) }
          ∷ record { number = 2; event = Read (record { site = 21; args = text (codes "ann") ∷ []; answer = row (codes "n") (base.Text (codes "ann")) ∷ [] }); crossing = Within }
          ∷ record { number = 3; event = Leave; crossing = Returned (rows_value (row (codes "n") (base.Text (codes "ann")) ∷ [])) } ∷ [];
      answers = [];
      returns = None;
    })
unfolding eval_to
queries = simp (node.outs-Query, captures, lookup-bind)

-- a record of one field
one_field : (l : List ℕ) (v : Value) → record_of (field l v ∷ []) ≡ outcome.Value (fields (field l v ∷ []))
one_field l v = simp (as_entries, counted)
  where
    entry : List (List ℕ × Value)
    entry = (l, v) ∷ []

    is : finite.insert {R = order} finite.empty l v ≡ finite.from_sorted entry
    is = finite.same_map nat_list_cmp_total (finite.slice_cmp-IsAntisymmetric finite.nat_cmp-IsAntisymmetric) _ _ (λ q. finite.get-from_entries nat_list_cmp_total entry q ∙ sym (finite.get-from_sorted order entry q tt))

    as_entries : finite.entries (finite.insert {R = order} finite.empty l v) ≡ entry
    as_entries = ap finite.entries is ∙ finite.entries-from_sorted order entry tt

    counted : finite.len (finite.insert {R = order} finite.empty l v) ≡ 1
    counted = finite.len-entries (finite.insert finite.empty l v) ∙ ap length as_entries

-- table t with (n : String); fun main(a) client { insert t values [(n = a)] }
abbrev insert_main : FunDef
insert_main = function 31 (codes "main") (codes "a") Client (placed 48 (node.Insert (word 0 (codes "t")) asked))

abbrev insert : Program
insert = record { decls = decl.Table (record { name = word 6 (codes "t"); columns = record { label = word 0 (codes "n"); kind = kind.Text } ∷ [] }) ∷ decl.Fun insert_main ∷ [] }

-- Four nodes are entered; two changes of place, the row's value and the list's take a step each. The server writes.
pub inserts : session insert insert_main (codes "ann") (start 10 [])
    ≡ Goes unit (record {
      fuel = 6;
      steps = 8;
      log = record { number = 7; event = Enter; crossing = Called (Site 48) (value.List (fields (field (codes "n") (text (codes "ann")) ∷ []) ∷ []) ∷ []) }
          ∷ record { number = 7; event = Write (record { site = 48; args = value.List (fields (field (codes "n") (text (codes "ann")) ∷ []) ∷ []) ∷ [] }); crossing = Within }
          ∷ record { number = 8; event = Leave; crossing = Returned unit } ∷ [];
      answers = [];
      returns = None;
    })
unfolding eval_to
inserts = simp (node.outs-Insert, node.outs-List, node.outs-Record, node.outs-Name, one_field, lookup-bind)
