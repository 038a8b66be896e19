-- Expressions with records, queries and functions, and why some of them have no typing.
use Rattle.std.proofs.Common.{◌≡◌, ℕ, ◌+◌, Bool, List, [], ◌∷◌, map, refl, sym, subst, ap, ◌∙◌, arith, Some, None, is_some, if◌then◌else◌, true}
use Rattle.std.specs.FinMap as fin
use Rattle.std.specs.Prelude.{codes, sum}
use Rattle.lk_ast.specs.declared.declaration.FunDef.{FunDef}
use Rattle.lk_ast.specs.declared.declaration.TableDecl.{TableDecl}
use Rattle.lk_ast.specs.declared.expression.Expr.{Expr}
use Rattle.lk_ast.specs.declared.expression.Node.TheVariants as node
use Rattle.lk_ast.specs.declared.place.Loc.TheVariants.{Any}
use Rattle.lk_ast.specs.declared.table.BaseKind.TheVariants as kind
use Rattle.lk_types.proofs.Parts.{same_some}
use Rattle.lk_types.proofs.Rows.{field_twice}
use Rattle.lk_types.specs.Rows.{Label, Row, EffectSet, no_fields, with_field, effects_of}
use Rattle.lk_types.specs.declared.ground.Ground.{Ground, fold-Ground}
use Rattle.lk_types.specs.declared.ground.Ground.TheFolds.{the_lemmas}
use Rattle.lk_types.specs.declared.ground.Ground.TheOpen.{Ground-F, GroundField-F}
use Rattle.lk_types.specs.declared.ground.Ground.TheVariants as known
use Rattle.lk_types.specs.declared.ty.Effect.{Effect}
use Rattle.lk_types.specs.declared.ty.Effect.TheVariants as effect
use Rattle.lk_typing.proofs.Inverses.{first_same, rest_same}
use Rattle.lk_typing.proofs.Samples.Forms.{at, word, part, number, text, name, fun, opened, both, made, of_name, of_field, of_extend, name_has}
use Rattle.lk_typing.proofs.Samples.Programs.{alone, held_alone, only_type, one_param}
use Rattle.lk_typing.proofs.Samples.Types.{same_row, added, bare}
use Rattle.lk_typing.specs.Groups.{IsFunction}
use Rattle.lk_typing.specs.Heads as head
use Rattle.lk_typing.specs.Names.{Named, Entry, HasRows, IsRowOf, row_known}
use Rattle.lk_typing.specs.Programs.{IsWellTyped}
use Rattle.lk_typing.specs.Rules as rule
use Rattle.lk_typing.specs.Rules.{Rule}
use Rattle.lk_typing.specs.Types.{record_of, function_of, only_scan}
use Rattle.lk_typing.specs.Typing.{HasType, for_table, query, none, more}

-- ---- { var r = (x = 1); (x = 2 | r) }

abbrev twice : Expr
twice = at (node.Var (word (codes "r")) (at (node.Record (part (codes "x") (number 1) ∷ []))) (at (node.Extend (part (codes "x") (number 2) ∷ []) (name (codes "r")))))

-- a row with a field before it doesn't get it again
pub no_field_twice : (l : Label) (a b : Ground) (other row longer : Row) → with_field l (Some a) (Some other) ≡ Some row → with_field l (Some b) (Some row) ≡ Some longer → ⊥
no_field_twice l a b other row longer is again =
    let none : None ≡ Some longer = sym (field_twice l (Some b) (Some a) (Some other)) ∙ ap (with_field l (Some b)) is ∙ again in
    absurd cc

-- a record that has the label doesn't get it again, so there is no typing
pub not_twice : (functions : Named (Entry Ground)) (tables : List TableDecl) (names : Named Ground) (effects : EffectSet) (t : Ground) (inside : List Ground) → HasType functions tables names effects twice t inside → ⊥
not_twice functions tables names effects t inside typed =
    let v = opened _ (node.outs-Var _ _ _) typed in
    let r = of_field _ _ v.bound in
    let s = of_extend _ _ _ v.then in
    let same : s.other ≡ r.row = same_row _ _ (sym (same_some (of_name (codes "r") s.before)) ∙ r.is) in
    no_field_twice (codes "x") r.a s.a no_fields r.row s.row r.whole (ap (λ z. with_field (codes "x") (Some s.a) (Some z)) (sym same) ∙ s.whole)

-- ---- queries: reading a table is all that they may do

-- table t with (n : Int)
abbrev numbers : TableDecl
numbers = record { name = word (codes "t"); columns = record { label = word (codes "n"); kind = kind.Int } ∷ [] }

-- (n:Int)
abbrev number_row : Row
number_row = fin.insert no_fields (codes "n") known.Int

pub its_rows : HasRows (numbers ∷ []) (codes "t") number_row
its_rows = subst (λ o. IsRowOf (if is_some o then Some numbers else None) number_row) (sym its_row) its_row
  where
    its_row : row_known numbers ≡ Some number_row
    its_row = added (codes "n") known.Int no_fields (bare (codes "n"))

-- for (x <-- t) [x]
abbrev all_of_them : Expr
all_of_them = at (node.ForTable (word (codes "x")) (at (node.Table (word (codes "t")))) (at (node.List (name (codes "x") ∷ []))))

abbrev reading : Expr
reading = at (node.Query [] all_of_them)

module _ (functions : Named (Entry Ground)) (names : Named Ground) (effects : EffectSet) where
  -- the types of its nodes: the `for`, the table, the list and the name in it
  pub reads : HasType functions (numbers ∷ []) names only_scan all_of_them (known.List (record_of number_row)) (known.List (record_of number_row) ∷ known.List (record_of number_row) ∷ record_of number_row ∷ [])
  reads = for_table (word (codes "x")) _ _ (record_of number_row) (record_of number_row) [] (record_of number_row ∷ []) (node.outs-ForTable _ _ _)
      (made _ (node.outs-Table _) refl none (rule.table number_row its_rows refl))
      (made _ (node.outs-List _) refl (more [] [] (name_has (codes "x") refl) none) (rule.items (record_of number_row) (refl, tt)))

  -- a query that reads a table, wherever tables may be read
  pub query_reads : effects effect.Scan ≡ true
      → HasType functions (numbers ∷ []) names effects reading (known.List (record_of number_row)) (known.List (record_of number_row) ∷ known.List (record_of number_row) ∷ known.List (record_of number_row) ∷ record_of number_row ∷ [])
  query_reads scans = query [] all_of_them (record_of number_row) _ (node.outs-Query _ _) reads tt scans tt

-- ---- query { print("a"); [1] }

abbrev printing : Expr
printing = at (node.Query [] (at (node.Seq (at (node.Print (text (codes "a")))) (at (node.List (number 1 ∷ []))))))

print_says : {functions : Named (Entry Ground)} {tables : List TableDecl} {names : Named Ground} {effects : EffectSet} {ts : List Ground} {t : Ground} → Rule functions tables names effects head.Print ts t → effects effect.Print ≡ true
print_says (rule.print prints) = prints

-- has no typing, whatever the effects of the function are that it stands in
pub no_printing : (functions : Named (Entry Ground)) (tables : List TableDecl) (names : Named Ground) (effects : EffectSet) (t : Ground) (inside : List Ground) → HasType functions tables names effects printing t inside → ⊥
no_printing functions tables names effects t inside typed =
    let q = opened _ (node.outs-Query _ _) typed in
    let s = both (opened _ (node.outs-Seq _ _) q.typed).typed in
    let prints : only_scan effect.Print ≡ true = print_says (opened _ (node.outs-Print _) s.5).rule in
    absurd cc

-- ---- no type is a part of itself: fun self(x) { x(x) }

-- how many function types nest in the parameters of one
abbrev nested : Ground-F ℕ ℕ → ℕ
nested (Ground-F.Fun params es answer) = 1 + sum params
nested other = 0

abbrev in_field : GroundField-F ℕ ℕ → ℕ
in_field f = 0

depth : Ground → ℕ
depth = fold-Ground ℕ ℕ nested in_field

depth_of_function : (params : List Ground) (es : List Effect) (answer : Ground) → depth (known.Fun params es answer) ≡ 1 + sum (map depth params)
unfolding depth
depth_of_function params es answer = search the_lemmas

-- no function takes itself
pub not_its_own : (t a : Ground) (s : EffectSet) → t ≡ function_of (t ∷ []) s a → ⊥
not_its_own t a s is = by_depth (depth t) (ap depth is ∙ depth_of_function (t ∷ []) (effects_of s) a)
  where
    by_depth : (n : ℕ) → n ≡ 1 + (0 + n) → ⊥
    by_depth n is = omega arith

abbrev self : FunDef
self = fun (codes "self") (codes "x") Any (at (node.Apply (name (codes "x")) (name (codes "x") ∷ [])))

apply_says : {functions : Named (Entry Ground)} {tables : List TableDecl} {names : Named Ground} {effects : EffectSet} {ts : List Ground} {a : Ground} → Rule functions tables names effects head.Apply ts a
    → (us : List Ground) × (ts ≡ function_of us effects a ∷ us)
apply_says (rule.apply {ts = us} local) = (us, refl)

pub self_untyped : {functions : Named (Entry Ground)} {tables : List TableDecl} {in_mutual : Bool} {t : Ground} {nodes : List Ground} → IsFunction functions tables in_mutual self t nodes → ⊥
self_untyped typed =
    let f = one_param self (codes "x") refl typed in
    let p = opened _ (node.outs-Apply _ _) f.body in
    let two = both p.typed in
    let c = apply_says p.rule in
    let types : two.0 ∷ two.1 ∷ [] ≡ function_of c.0 f.effects f.answer ∷ c.0 = sym two.4 ∙ c.1 in
    let same : f.p ≡ two.0 = same_some (of_name (codes "x") two.5) in
    let also : two.1 ≡ f.p = sym (same_some (of_name (codes "x") two.6)) in
    not_its_own f.p f.answer f.effects (same ∙ first_same types ∙ ap (λ us. function_of us f.effects f.answer) (sym (rest_same types) ∙ ap (λ u. u ∷ []) also))

pub self_not_well_typed : IsWellTyped (alone self) → ⊥
self_not_well_typed typed =
    let hold = held_alone self typed.0 typed.1 in
    let group = hold.each hold.some.0 hold.some.1 in
    self_untyped (only_type [] self hold.some.0 group.0 group.1).3
