-- A table worked by hand is that of a ground program.
use Rattle.std.proofs.Common.{◌≡◌, refl, sym, subst, ℕ, ◌+◌, List, [], ◌∷◌, Some}
use Rattle.std.specs.Prelude.{codes, None}
use Rattle.std.specs.Cmp.Lexicographic.{slice_cmp}
use Rattle.std.specs.List.Sorted.{IsStrictlySortedBy}
use Rattle.std.specs.Ordering.{nat_cmp}
use Rattle.lk_ast.specs.Layers.{Layer, layer}
use Rattle.lk_ast.specs.declared.declaration.FunDef.{FunDef}
use Rattle.lk_ast.specs.declared.declaration.Program.{Program}
use Rattle.lk_ast.specs.declared.expression.Expr.{Expr}
use Rattle.lk_ast.specs.declared.expression.Node.{Node}
use Rattle.lk_ast.specs.declared.expression.Node.TheOpen.{Node-F}
use Rattle.lk_ast.specs.declared.expression.Node.TheVariants as node
use Rattle.lk_ast.specs.declared.place.Loc.{Loc}
use Rattle.lk_ast.specs.declared.place.Loc.TheVariants.{Client, Server}
use Rattle.lk_ast.specs.declared.place.Word.{Word}
use Rattle.lk_evaluation.specs.Syntax.{parts_of}
use Rattle.lk_ground.specs.declared.program.GroundFun.{GroundFun}
use Rattle.lk_ground.specs.declared.program.GroundProgram.{GroundProgram}
use Rattle.lk_types.specs.declared.ground.Ground.{Ground}
use Rattle.lk_ir.proofs.Samples.{at, form, main_body, nest}
use Rattle.lk_ir.specs.Tables.{form_at}
use Rattle.lk_ir.specs.declared.nodes.Form.{Form}
use Rattle.lk_ir.specs.declared.nodes.Forms.{Forms}
use Rattle.lk_ir.specs.declared.nodes.Kind.TheVariants as kind
use Rattle.lk_ir.specs.declared.nodes.Op.TheVariants as op
use Rattle.lk_lower.specs.Lowering as low
use Rattle.lk_lower.specs.Lowering.{AreForms, AreLowered, IsLocal, IsLowered, Pending, Shell, TypeIs, tails_of}

-- ---- fun log(s) client { print(s); s ^^ "!" } fun work(n) server { "<" ^^ log(n) ^^ ">" } fun main(a) client { work(a) }

abbrev at_zero : Node → Expr
at_zero n = record { span = at; node = n }

abbrev word : List ℕ → Word
word name = record { at = at; text = name }

abbrev literal : List ℕ → Expr
literal bytes = at_zero (node.Text bytes)

abbrev name : List ℕ → Expr
name x = at_zero (node.Name x)

abbrev call : List ℕ → Expr → Expr
call f e = at_zero (node.Call (word f) (e ∷ []))

abbrev joined : Expr → Expr → Expr
joined a b = at_zero (node.Concat a b)

abbrev prints : Expr
prints = at_zero (node.Print (name (codes "s")))

abbrev marked : Expr
marked = joined (name (codes "s")) (literal (codes "!"))

abbrev log_body : Expr
log_body = at_zero (node.Seq prints marked)

abbrev closed : Expr
closed = joined (call (codes "log") (name (codes "n"))) (literal (codes ">"))

abbrev work_body : Expr
work_body = joined (literal (codes "<")) closed

abbrev function : List ℕ → List ℕ → Loc → Expr → FunDef
function f x place body = record { name = word f; sig = None; params = word x ∷ []; place = place; body = body }

-- the types of texts, of the unit value, and of the three functions
module _ (program : Program) (text unit main work log : Ground) where
  abbrev typed_at : FunDef → Ground → List Ground → List ℕ → GroundFun
  typed_at f ty types calls = record { function = record { ref_ptr = (0, 0); now = f }; ty = ty; types = types; calls = calls }

  abbrev ground : GroundProgram
  ground = record {
    program = record { ref_ptr = (0, 0); now = program };
    funs =
        typed_at (function (codes "main") (codes "a") Client (call (codes "work") (name (codes "a")))) main (text ∷ text ∷ []) (1 ∷ [])
        ∷ typed_at (function (codes "work") (codes "n") Server work_body) work (text ∷ text ∷ text ∷ text ∷ text ∷ text ∷ []) (2 ∷ [])
        ∷ typed_at (function (codes "log") (codes "s") Client log_body) log (text ∷ unit ∷ text ∷ text ∷ text ∷ text ∷ []) []
        ∷ [];
    helpers = [];
  }

  abbrev table : Forms
  table = nest (text ∷ unit ∷ main ∷ work ∷ log ∷ [])

  abbrev pending : List Ground → List ℕ → ℕ → ℕ → Pending
  pending types calls label next = record { types = types; calls = calls; label = label; next = next }

  -- ---- nodes

  module _ (owner within : ℕ) where
    -- a node by the level of its expression
    by_level : {n : ℕ} {before after : Pending} (e : Expr) (l : Layer) → layer e ≡ l → (one : Form) (inside between : Pending) → n ≡ before.next → form_at table n ≡ Some one → one.at ≡ e.span → one.within ≡ within → TypeIs table one.ty before.types
        → Shell table owner n one.ty l e.span before one.kind inside → AreLowered table owner within (parts_of l) inside one.parts between → AreLowered table owner within (tails_of l) between one.tails after → IsLowered table owner within e before n after
    by_level {n = n} {before = before} {after = after} e l is one inside between number there place in_it type shell parts tails =
        low.node one inside between number there place in_it type
        (subst (λ m. Shell table owner n one.ty m e.span before one.kind inside) (sym is) shell)
        (subst (λ m. AreLowered table owner within (parts_of m) inside one.parts between) (sym is) parts)
        (subst (λ m. AreLowered table owner within (tails_of m) between one.tails after) (sym is) tails)

    name_at : (n k : ℕ) (x : List ℕ) (types : List Ground) (calls : List ℕ) (label : ℕ) → form_at table n ≡ Some (form within (kind.Name k) [] []) → IsLocal table k x
        → IsLowered table owner within (name x) (pending (text ∷ types) calls label n) n (pending types calls label (n + 1))
    name_at n k x types calls label there is =
        by_level (name x) (Node-F.Name x) (node.outs-Name x) (form within (kind.Name k) [] []) (pending types calls label (n + 1)) (pending types calls label (n + 1)) refl there refl refl (text, refl, refl) (low.name is) low.none low.none

    literal_at : (n : ℕ) (bytes : List ℕ) (types : List Ground) (calls : List ℕ) (label : ℕ) → form_at table n ≡ Some (form within (kind.Op (op.Text bytes)) [] [])
        → IsLowered table owner within (literal bytes) (pending (text ∷ types) calls label n) n (pending types calls label (n + 1))
    literal_at n bytes types calls label there =
        by_level (literal bytes) (Node-F.Text bytes) (node.outs-Text bytes) (form within (kind.Op (op.Text bytes)) [] []) (pending types calls label (n + 1)) (pending types calls label (n + 1)) refl there refl refl (text, refl, refl) (low.operation refl) low.none low.none

    join_at : (n k m : ℕ) (a b : Expr) (types : List Ground) (calls : List ℕ) (label : ℕ) (between after : Pending) → form_at table n ≡ Some (form within (kind.Op op.Concat) (k ∷ m ∷ []) [])
        → IsLowered table owner within a (pending types calls label (n + 1)) k between → IsLowered table owner within b between m after → IsLowered table owner within (joined a b) (pending (text ∷ types) calls label n) n after
    join_at n k m a b types calls label between after there first second =
        by_level (joined a b) (Node-F.Concat a b) (node.outs-Concat a b) (form within (kind.Op op.Concat) (k ∷ m ∷ []) []) (pending types calls label (n + 1)) after refl there refl refl (text, refl, refl) (low.operation refl) (low.more first (low.more second low.none)) low.none

    call_at : (n k i : ℕ) (g : List ℕ) (e : Expr) (types : List Ground) (calls : List ℕ) (label : ℕ) (after : Pending) → form_at table n ≡ Some (form within (kind.Call i) (k ∷ []) [])
        → IsLowered table owner within e (pending types calls label (n + 1)) k after → IsLowered table owner within (call g e) (pending (text ∷ types) (i ∷ calls) label n) n after
    call_at n k i g e types calls label after there one =
        by_level (call g e) (Node-F.Call (word g) (e ∷ [])) (node.outs-Call (word g) (e ∷ [])) (form within (kind.Call i) (k ∷ []) []) (pending types calls label (n + 1)) after refl there refl refl (text, refl, refl) (low.call refl) (low.more one low.none) low.none

  -- ---- bodies

  main_lowered : IsLowered table 0 1 (call (codes "work") (name (codes "a"))) (pending (text ∷ text ∷ []) (1 ∷ []) 2 0) 0 (pending [] [] 2 2)
  main_lowered = call_at 0 1 0 1 1 (codes "work") (name (codes "a")) (text ∷ []) [] 2 (pending [] [] 2 2) refl (name_at 0 1 1 0 (codes "a") [] [] 2 refl refl)

  closed_lowered : IsLowered table 1 2 closed (pending (text ∷ text ∷ text ∷ text ∷ []) (2 ∷ []) 3 4) 4 (pending [] [] 3 8)
  closed_lowered =
      join_at 1 2 4 5 7 (call (codes "log") (name (codes "n"))) (literal (codes ">")) (text ∷ text ∷ text ∷ []) (2 ∷ []) 3 (pending (text ∷ []) [] 3 7) (pending [] [] 3 8) refl
      (call_at 1 2 5 6 2 (codes "log") (name (codes "n")) (text ∷ text ∷ []) [] 3 (pending (text ∷ []) [] 3 7) refl (name_at 1 2 6 1 (codes "n") (text ∷ []) [] 3 refl refl))
      (literal_at 1 2 7 (codes ">") [] [] 3 refl)

  work_lowered : IsLowered table 1 2 work_body (pending (text ∷ text ∷ text ∷ text ∷ text ∷ text ∷ []) (2 ∷ []) 3 2) 2 (pending [] [] 3 8)
  work_lowered =
      join_at 1 2 2 3 4 (literal (codes "<")) closed (text ∷ text ∷ text ∷ text ∷ text ∷ []) (2 ∷ []) 3 (pending (text ∷ text ∷ text ∷ text ∷ []) (2 ∷ []) 3 4) (pending [] [] 3 8) refl
      (literal_at 1 2 3 (codes "<") (text ∷ text ∷ text ∷ text ∷ []) (2 ∷ []) 3 refl) closed_lowered

  prints_lowered : IsLowered table 2 3 prints (pending (unit ∷ text ∷ text ∷ text ∷ text ∷ []) [] 4 9) 9 (pending (text ∷ text ∷ text ∷ []) [] 4 11)
  prints_lowered =
      by_level 2 3 prints (Node-F.Print (name (codes "s"))) (node.outs-Print (name (codes "s"))) (record (form 3 kind.Print (10 ∷ []) []) { ty = 1 }) (pending (text ∷ text ∷ text ∷ text ∷ []) [] 4 10) (pending (text ∷ text ∷ text ∷ []) [] 4 11)
      refl refl refl refl (unit, refl, refl) low.print (low.more (name_at 2 3 10 2 (codes "s") (text ∷ text ∷ text ∷ []) [] 4 refl refl) low.none) low.none

  marked_lowered : IsLowered table 2 3 marked (pending (text ∷ text ∷ text ∷ []) [] 4 11) 11 (pending [] [] 4 14)
  marked_lowered =
      join_at 2 3 11 12 13 (name (codes "s")) (literal (codes "!")) (text ∷ text ∷ []) [] 4 (pending (text ∷ []) [] 4 13) (pending [] [] 4 14) refl
      (name_at 2 3 12 2 (codes "s") (text ∷ []) [] 4 refl refl) (literal_at 2 3 13 (codes "!") [] [] 4 refl)

  log_lowered : IsLowered table 2 3 log_body (pending (text ∷ unit ∷ text ∷ text ∷ text ∷ text ∷ []) [] 4 8) 8 (pending [] [] 4 14)
  log_lowered =
      by_level 2 3 log_body (Node-F.Seq prints marked) (node.outs-Seq prints marked) (form 3 kind.Then (9 ∷ []) (11 ∷ [])) (pending (unit ∷ text ∷ text ∷ text ∷ text ∷ []) [] 4 9) (pending (text ∷ text ∷ text ∷ []) [] 4 11)
      refl refl refl refl (text, refl, refl) low.then_next (low.more prints_lowered low.none) (low.more marked_lowered low.none)

  -- ---- the program

  names_rise : IsStrictlySortedBy (slice_cmp nat_cmp) (codes "a" ∷ codes "n" ∷ codes "s" ∷ [])
  unfolding IsStrictlySortedBy
  names_rise = ((refl, (refl, tt)), ((refl, tt), (tt, tt)))

  pub are_forms : AreForms ground table
  are_forms = record {
    locals = names_rise;
    printer = record { owner = 0; ty = 0; node = None; body = None };
    printer_is = refl;
    printer_node = refl;
    printer_body = refl;
    funs =
        low.one_fun main_body (pending [] [] 2 2) 2 refl refl (main, refl, refl)
        (record { form = record { owner = 0; ty = 2; node = None; body = Some main_body }; is = refl; owner_is = refl; ty_is = refl; node_is = refl; body_is = refl; place_is = refl; names_are = tt; params_are = (refl, tt) })
        main_lowered
        (low.one_fun (record { place = Server; names = []; params = 1 ∷ []; root = 2 }) (pending [] [] 3 8) 3 refl refl (work, refl, refl)
        (record { form = record { owner = 1; ty = 3; node = None; body = Some (record { place = Server; names = []; params = 1 ∷ []; root = 2 }) }; is = refl; owner_is = refl; ty_is = refl; node_is = refl; body_is = refl; place_is = refl; names_are = tt; params_are = (refl, tt) })
        work_lowered
        (low.one_fun (record { place = Client; names = []; params = 2 ∷ []; root = 8 }) (pending [] [] 4 14) 4 refl refl (log, refl, refl)
        (record { form = record { owner = 2; ty = 4; node = None; body = Some (record { place = Client; names = []; params = 2 ∷ []; root = 8 }) }; is = refl; owner_is = refl; ty_is = refl; node_is = refl; body_is = refl; place_is = refl; names_are = tt; params_are = (refl, tt) })
        log_lowered
        (low.no_fun refl refl refl refl)));
  }
