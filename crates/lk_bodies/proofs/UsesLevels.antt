-- The uses of an expression by those of its parts, and of a statement and what follows it.
use Rattle.std.proofs.Common.{◌≡◌, refl, sym, ap, ap₂, ◌∙◌, Bool, true, false, List, [], ◌∷◌, ◌++◌, map, Option, Some, None, bytes_eq, is_some, if◌then◌else◌, ◌||◌}
use Rattle.std.specs.Borrow.{Bor}
use Rattle.std.specs.Option.{option_copied}
use Rattle.lk_ast.specs.Children.{exprs_of}
use Rattle.lk_ast.specs.Layers.{Layer, before, layer, statement_node}
use Rattle.lk_ast.specs.declared.expression.ChangeExpr.{ChangeExpr, out-ChangeExpr}
use Rattle.lk_ast.specs.declared.expression.Expr.{Expr, fold_out-Expr}
use Rattle.lk_ast.specs.declared.expression.Node.{Node, out-Node, fold_out-Node}
use Rattle.lk_ast.specs.declared.expression.Node.TheFolds.{map-Node}
use Rattle.lk_ast.specs.declared.expression.Node.TheOpen.{Node-F}
use Rattle.lk_ast.specs.declared.expression.Node.TheVariants as node
use Rattle.lk_ast.specs.declared.expression.PartExpr.{PartExpr, fold_out-PartExpr}
use Rattle.lk_ast.specs.declared.place.Word.{Word}
use Rattle.lk_ast.specs.declared.statements.Statement.{Statement}
use Rattle.lk_bodies.specs.Uses.{Used, Uses, all, change_uses, expr_level, is_bound, local, node_level, part_level, uses, uses_node, uses_part}
use Rattle.lk_bodies.specs.UsesSeen.{behind_type}
use Rattle.lk_bodies.specs.Walk.{with_some}
use Rattle.lk_types.specs.Rows.{Label}
use Rattle.lk_types.specs.declared.ground.Ground.{Ground}
use Rattle.lk_typing.specs.Heads as operator
use Rattle.lk_typing.specs.Heads.{Head, head, parts}
use Rattle.lk_typing.specs.Names.{Named, named, names_of}
use Rattle.lk_typing.specs.Typing.{label_of, expr_of, head_of, parts_of}

-- ---- one level

-- a level with the uses of its parts
abbrev pub with_uses : Layer → Node-F (List Ground → Uses) (Unit {0}) (Unit {0}) Uses (Unit {0}) (Unit {0}) Uses
with_uses l = map-Node _ _ _ _ _ _ _ (List Ground → Uses) (Unit {0}) (Unit {0}) Uses (Unit {0}) (Unit {0}) Uses uses_node (λ case. tt) (λ change. tt) uses (λ lambda. tt) (λ last. tt) uses_part l

pub uses_expr : (e : Expr) (bound : List Label) (u : Used) → uses e bound u ≡ uses_node e.node u.types bound (behind_type u)
unfolding uses uses_node
uses_expr e bound u = ap (λ w. w bound u) (fold_out-Expr (List Ground → Uses) (Unit {0}) (Unit {0}) Uses (Unit {0}) (Unit {0}) Uses node_level (λ case. tt) (λ change. tt) expr_level (λ lambda. tt) (λ last. tt) part_level e)

uses_out : (n : Node) (own : List Ground) (bound : List Label) (u : Used) → uses_node n own bound u ≡ node_level (with_uses (out-Node n)) own bound u
unfolding uses uses_node uses_part
uses_out n own bound u = ap (λ w. w own bound u) (fold_out-Node (List Ground → Uses) (Unit {0}) (Unit {0}) Uses (Unit {0}) (Unit {0}) Uses node_level (λ case. tt) (λ change. tt) expr_level (λ lambda. tt) (λ last. tt) part_level n)

uses_at : (n : Node) (l : Layer) → out-Node n ≡ l → (own : List Ground) (bound : List Label) (u : Used) → uses_node n own bound u ≡ node_level (with_uses l) own bound u
uses_at n l is own bound u = uses_out n own bound u ∙ ap (λ m. node_level (with_uses m) own bound u) is

part_uses : (part : PartExpr) → uses_part part ≡ uses part.expr
unfolding uses uses_part
part_uses part = fold_out-PartExpr (List Ground → Uses) (Unit {0}) (Unit {0}) Uses (Unit {0}) (Unit {0}) Uses node_level (λ case. tt) (λ change. tt) expr_level (λ lambda. tt) (λ last. tt) part_level part

-- an expression of this form
pub uses_form : (e : Expr) (l : Layer) → layer e ≡ l → (bound : List Label) (u : Used) → uses e bound u ≡ node_level (with_uses l) u.types bound (behind_type u)
uses_form e l is bound u = uses_expr e bound u ∙ uses_at e.node l is u.types bound (behind_type u)

-- ---- statements

-- a statement, and then what follows
uses_before : {A : Type 0} (a : A) (s : Statement) (next : Expr) (names : Named A) (u : Used) → uses (before s next) (names_of names) u ≡ uses next (names_of (with_some s.name a names)) (uses s.expr (names_of names) (behind_type u))
uses_before {A} a s next names u = uses_expr (before s next) (names_of names) u ∙ by_name s.name s.expr
  where
    by_name : (name : Option Word) (e : Expr) → uses_node (statement_node name e next) u.types (names_of names) (behind_type u) ≡ uses next (names_of (with_some name a names)) (uses e (names_of names) (behind_type u))
    by_name None e = uses_at (node.Seq e next) (Node-F.Seq e next) (node.outs-Seq e next) u.types (names_of names) (behind_type u)
    by_name (Some x) e = uses_at (node.Var x e next) (Node-F.Var x e next) (node.outs-Var x e next) u.types (names_of names) (behind_type u)

pub use_step : {A : Type 0} (a : A) (s : Statement) (e next : Expr) (names kept more : Named A) (u behind after : Used)
    → e ≡ before s next → behind ≡ behind_type u → after ≡ uses s.expr (names_of names) behind → kept ≡ names → more ≡ with_some s.name a kept
    → uses next (names_of more) after ≡ uses e (names_of names) u
use_step a s e next names kept more u behind after is first one same enters =
    ap₂ (λ names u. uses next (names_of names) u) (enters ∙ ap (with_some s.name a) same) (one ∙ ap (uses s.expr (names_of names)) first)
    ∙ sym (uses_before a s next names u)
    ∙ ap (λ e. uses e (names_of names) u) (sym is)

-- ---- parts one after another

parts_uses : (items : List PartExpr) → map uses_part items ≡ map uses (exprs_of items)
parts_uses [] = refl
parts_uses (part ∷ items) = ap₂ (λ a rest. a ∷ rest) (part_uses part) (parts_uses items)

all_and_one : (es : List Expr) (e : Expr) (bound : List Label) (u : Used) → uses e bound (all (map uses es) bound u) ≡ all (map uses (es ++ e ∷ [])) bound u
all_and_one [] e bound u = refl
all_and_one (d ∷ es) e bound u = all_and_one es e bound (uses d bound u)

set_uses : (sets : List PartExpr) → map (λ (set : PartExpr). uses set.expr) sets ≡ map uses (exprs_of sets)
set_uses [] = refl
set_uses (set ∷ sets) = ap (λ rest. uses set.expr ∷ rest) (set_uses sets)

-- ---- operators

-- whether such an operator may stand in a query
abbrev pub may_stand : Option Head → Bool
may_stand None = false
may_stand (Some operator.Apply) = false
may_stand (Some operator.Cons) = false
may_stand (Some operator.Division) = false
may_stand (Some operator.First) = false
may_stand (Some operator.Rest) = false
may_stand (Some operator.IntToString) = false
may_stand (Some operator.Print) = false
may_stand (Some (operator.Tag l)) = false
may_stand (Some (operator.Insert l)) = false
may_stand (Some other) = true

-- the name that it uses itself, at the first of these types
abbrev pub own_use : Option Head → List Ground → Uses
own_use (Some (operator.Local x)) own bound u = local x own bound u
own_use other own bound u = u

-- its own name, and then its parts
level_uses : (l : Layer) (own : List Ground) (bound : List Label) (u : Used) → may_stand (head label_of expr_of l) ≡ true
    → node_level (with_uses l) own bound u ≡ all (map uses (parts label_of expr_of l)) bound (own_use (head label_of expr_of l) own bound u)
level_uses (Node-F.Record items) own bound u may = ap (λ ws. all ws bound u) (parts_uses items)
level_uses (Node-F.Extend items e) own bound u may = ap (λ ws. uses e bound (all ws bound u)) (parts_uses items) ∙ all_and_one (exprs_of items) e bound u
level_uses (Node-F.Apply f args) own bound u may = absurd cc
level_uses (Node-F.Cons a b) own bound u may = absurd cc
level_uses (Node-F.Div a b) own bound u may = absurd cc
level_uses (Node-F.Mod a b) own bound u may = absurd cc
level_uses (Node-F.Hd e) own bound u may = absurd cc
level_uses (Node-F.Tl e) own bound u may = absurd cc
level_uses (Node-F.IntToString e) own bound u may = absurd cc
level_uses (Node-F.Print e) own bound u may = absurd cc
level_uses (Node-F.Tag t e) own bound u may = absurd cc
level_uses (Node-F.Insert t e) own bound u may = absurd cc
level_uses (Node-F.Lambda lambda) own bound u may = absurd cc
level_uses (Node-F.Var x e rest) own bound u may = absurd cc
level_uses (Node-F.Switch e cases last) own bound u may = absurd cc
level_uses (Node-F.ForList x e body) own bound u may = absurd cc
level_uses (Node-F.ForTable x rows body) own bound u may = absurd cc
level_uses (Node-F.Query keys e) own bound u may = absurd cc
level_uses (Node-F.Update change) own bound u may = absurd cc
level_uses (Node-F.Delete change) own bound u may = absurd cc
level_uses other own bound u may = refl

pub plain_uses : (e : Expr) (h : Head) → head_of e ≡ Some h → may_stand (Some h) ≡ true → (bound : List Label) (u : Used)
    → uses e bound u ≡ all (map uses (parts_of e)) bound (own_use (Some h) u.types bound (behind_type u))
plain_uses e h is may bound u =
    uses_form e (layer e) refl bound u ∙ level_uses (layer e) u.types bound (behind_type u) (ap may_stand is ∙ may) ∙ ap (λ o. all (map uses (parts_of e)) bound (own_use o u.types bound (behind_type u))) is

-- ---- changes

-- the condition and what is set, where the row's name is bound
pub uses_in_change : (change : ChangeExpr) (types : List Ground)
    → change_uses change types ≡ (all (map uses (exprs_of (out-ChangeExpr change).sets)) ((out-ChangeExpr change).name.text ∷ []) (uses (out-ChangeExpr change).cond ((out-ChangeExpr change).name.text ∷ []) (record { found = []; types = types }))).found
uses_in_change change types =
    ap (λ ws. (all ws ((out-ChangeExpr change).name.text ∷ []) (uses (out-ChangeExpr change).cond ((out-ChangeExpr change).name.text ∷ []) (record { found = []; types = types }))).found) (set_uses (out-ChangeExpr change).sets)

-- ---- what is bound

bound_or : {A : Type 0} (b : Bool) (a : A) (found : Option A) (others : Bool) → is_some found ≡ others → is_some (if b then Some a else found) ≡ (b || others)
bound_or true a found others same = refl
bound_or false a found others same = same

-- a name is bound where something is found for it
pub bound_found : {A : Type 0} (entries : Named A) (x : Label) → is_some (named x entries) ≡ is_bound (names_of entries) x
bound_found [] x = refl
bound_found (entry ∷ entries) x = bound_or (bytes_eq entry.0 x) entry.1 (named x entries) (is_bound (names_of entries) x) (bound_found entries x)

pub some_copied : {A : Type 0} (o : Option (Bor A)) → is_some (option_copied o) ≡ is_some o
some_copied None = refl
some_copied (Some a) = refl
