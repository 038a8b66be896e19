-- What is printed of calls, of fields and of words before parentheses.
use Rattle.std.proofs.Common.{◌≡◌, ℕ, List, ◌++◌, Option, Some, None, map, refl, sym, ap, ◌∙◌}
use Rattle.std.specs.Prelude.{codes}
use Rattle.lk_ast.specs.Layers.{Layer}
use Rattle.lk_ast.specs.declared.expression.Expr.{Expr}
use Rattle.lk_ast.specs.declared.expression.Node.{out-Node, out-roll-Node, roll-out-Node}
use Rattle.lk_ast.specs.declared.expression.Node.TheOpen.{Node-F}
use Rattle.lk_ast.specs.declared.expression.Node.TheVariants as node
use Rattle.lk_ast.specs.declared.place.Span.{Span}
use Rattle.lk_ast.specs.declared.place.Word.{Word as Named}
use Rattle.lk_ast.specs.declared.token.TokenKind.TheVariants.{Sign}
use Rattle.lk_grammar.specs.Expressions.{IsPostfix, IsUnary}
use Rattle.lk_parts.specs.Parts.{called, projected, negated}
use Rattle.lk_print.specs.Bare.{bare, bare_layer, bare_word}
use Rattle.lk_print.specs.Printed.{Form, form_of, compound, in_round, separated, name_kind}
use Rattle.lk_print.proofs.Goods.{constant, good_append, good_round}
use Rattle.lk_print.proofs.Levels.{at_level, of_node, same_level, same_of, form_is, scoped_is, parts_bare, bare_at}
use Rattle.lk_print.proofs.Lists.{Each}
use Rattle.lk_print.proofs.Meant.{Written, compound_written, postfix_expr, unary_expr}
use Rattle.lk_print.proofs.Primaries.{IsNamed, named_token, bare_name, args_written, args_good, all_meant}
use Rattle.lk_print.proofs.Spelled.{token, spelt_none, spelt_cons, spelt_append, spelt_so}
use Rattle.lk_scope.specs.Names.{Names}
use Rattle.lk_scope.specs.Scoped.{scoped, all_in, function_in, call_by, call_node}

-- ---- what is called

function_level : (l : Layer) (g : List ℕ) → function_in l ≡ Some g → l ≡ Node-F.Function g
function_level (Node-F.Int a) g e = absurd cc
function_level (Node-F.Text a) g e = absurd cc
function_level (Node-F.Bool a) g e = absurd cc
function_level (Node-F.Name a) g e = absurd cc
function_level (Node-F.Function a) g e = cc
function_level (Node-F.Lambda a) g e = absurd cc
function_level (Node-F.Call a b) g e = absurd cc
function_level (Node-F.Apply a b) g e = absurd cc
function_level (Node-F.Var a b c) g e = absurd cc
function_level (Node-F.Seq a b) g e = absurd cc
function_level (Node-F.If a b c) g e = absurd cc
function_level (Node-F.And a b) g e = absurd cc
function_level (Node-F.Or a b) g e = absurd cc
function_level (Node-F.Concat a b) g e = absurd cc
function_level (Node-F.Append a b) g e = absurd cc
function_level (Node-F.Cons a b) g e = absurd cc
function_level (Node-F.Add a b) g e = absurd cc
function_level (Node-F.Sub a b) g e = absurd cc
function_level (Node-F.Mul a b) g e = absurd cc
function_level (Node-F.Div a b) g e = absurd cc
function_level (Node-F.Mod a b) g e = absurd cc
function_level (Node-F.Eq a b) g e = absurd cc
function_level (Node-F.Ne a b) g e = absurd cc
function_level (Node-F.Lt a b) g e = absurd cc
function_level (Node-F.Le a b) g e = absurd cc
function_level (Node-F.Gt a b) g e = absurd cc
function_level (Node-F.Ge a b) g e = absurd cc
function_level (Node-F.Neg a) g e = absurd cc
function_level (Node-F.Not a) g e = absurd cc
function_level (Node-F.Hd a) g e = absurd cc
function_level (Node-F.Tl a) g e = absurd cc
function_level (Node-F.Empty a) g e = absurd cc
function_level (Node-F.IntToString a) g e = absurd cc
function_level (Node-F.Print a) g e = absurd cc
function_level (Node-F.Record a) g e = absurd cc
function_level (Node-F.Extend a b) g e = absurd cc
function_level (Node-F.List a) g e = absurd cc
function_level (Node-F.Project a b) g e = absurd cc
function_level (Node-F.Tag a b) g e = absurd cc
function_level (Node-F.Switch a b c) g e = absurd cc
function_level (Node-F.ForList a b c) g e = absurd cc
function_level (Node-F.ForTable a b c) g e = absurd cc
function_level (Node-F.Table a) g e = absurd cc
function_level (Node-F.Where a b) g e = absurd cc
function_level (Node-F.Query a b) g e = absurd cc
function_level (Node-F.Insert a b) g e = absurd cc
function_level (Node-F.Update a) g e = absurd cc
function_level (Node-F.Delete a) g e = absurd cc

function_bare : (l : Layer) → function_in (bare_layer (parts_bare l)) ≡ function_in l
function_bare (Node-F.Int a) = refl
function_bare (Node-F.Text a) = refl
function_bare (Node-F.Bool a) = refl
function_bare (Node-F.Name a) = refl
function_bare (Node-F.Function a) = refl
function_bare (Node-F.Lambda a) = refl
function_bare (Node-F.Call a b) = refl
function_bare (Node-F.Apply a b) = refl
function_bare (Node-F.Var a b c) = refl
function_bare (Node-F.Seq a b) = refl
function_bare (Node-F.If a b c) = refl
function_bare (Node-F.And a b) = refl
function_bare (Node-F.Or a b) = refl
function_bare (Node-F.Concat a b) = refl
function_bare (Node-F.Append a b) = refl
function_bare (Node-F.Cons a b) = refl
function_bare (Node-F.Add a b) = refl
function_bare (Node-F.Sub a b) = refl
function_bare (Node-F.Mul a b) = refl
function_bare (Node-F.Div a b) = refl
function_bare (Node-F.Mod a b) = refl
function_bare (Node-F.Eq a b) = refl
function_bare (Node-F.Ne a b) = refl
function_bare (Node-F.Lt a b) = refl
function_bare (Node-F.Le a b) = refl
function_bare (Node-F.Gt a b) = refl
function_bare (Node-F.Ge a b) = refl
function_bare (Node-F.Neg a) = refl
function_bare (Node-F.Not a) = refl
function_bare (Node-F.Hd a) = refl
function_bare (Node-F.Tl a) = refl
function_bare (Node-F.Empty a) = refl
function_bare (Node-F.IntToString a) = refl
function_bare (Node-F.Print a) = refl
function_bare (Node-F.Record a) = refl
function_bare (Node-F.Extend a b) = refl
function_bare (Node-F.List a) = refl
function_bare (Node-F.Project a b) = refl
function_bare (Node-F.Tag a b) = refl
function_bare (Node-F.Switch a b c) = refl
function_bare (Node-F.ForList a b c) = refl
function_bare (Node-F.ForTable a b c) = refl
function_bare (Node-F.Table a) = refl
function_bare (Node-F.Where a b) = refl
function_bare (Node-F.Query a b) = refl
function_bare (Node-F.Insert a b) = refl
function_bare (Node-F.Update a) = refl
function_bare (Node-F.Delete a) = refl

-- the function that an expression is the name of
abbrev function_of : Expr → Option (List ℕ)
function_of f = function_in (out-Node f.node)

as_level : (f : Expr) → at_level f.span (out-Node f.node) ≡ f
as_level f = ap (of_node f.span) (roll-out-Node f.node)

function_kept : (f : Expr) → function_of (bare f) ≡ function_of f
function_kept f =
    ap (λ e. function_of (bare e)) (sym (as_level f))
    ∙ ap function_of (bare_at f.span (out-Node f.node))
    ∙ ap function_in (out-roll-Node (bare_layer (parts_bare (out-Node f.node))))
    ∙ function_bare (out-Node f.node)

is_function : (f : Expr) (g : List ℕ) → function_of f ≡ Some g → f ≡ of_node f.span (node.Function g)
is_function f g e = sym (as_level f) ∙ ap (at_level f.span) (function_level (out-Node f.node) g e) ∙ ap (of_node f.span) (node.rolls-Function g)

-- ---- calls

call_form : (which : Option (List ℕ)) (span : Span) (f : Expr) (ss : List Expr) → function_of f ≡ which → form_of (of_node span (call_by which f ss)) ≡ compound ((form_of f).part ++ in_round (separated (map (λ (s : Form). s.alone) (map form_of ss))))
call_form None span f ss e = form_is span (node.Apply f ss) (Node-F.Apply f ss) (node.rolls-Apply f ss)
call_form (Some g) span f ss e =
    form_is span (node.Call (record { at = f.span; text = g }) ss) (Node-F.Call (record { at = f.span; text = g }) ss) (node.rolls-Call _ ss)
    ∙ ap (λ (z : Form). compound (z.part ++ in_round (separated (map (λ (s : Form). s.alone) (map form_of ss))))) (sym (ap form_of (is_function f g e) ∙ form_is f.span (node.Function g) (Node-F.Function g) (node.rolls-Function g)))

call_same : (which : Option (List ℕ)) (s t : Span) (f h : Expr) (fs hs : List Expr) → bare f ≡ bare h → map bare fs ≡ map bare hs → bare (of_node s (call_by which f fs)) ≡ bare (of_node t (call_by which h hs))
call_same None s t f h fs hs p q =
    ap (λ z. bare (of_node s z)) (sym (node.rolls-Apply f fs))
    ∙ same_level s t (Node-F.Apply f fs) (Node-F.Apply h hs) (λ i. Node-F.Apply (p i) (q i))
    ∙ ap (λ z. bare (of_node t z)) (node.rolls-Apply h hs)
call_same (Some g) s t f h fs hs p q =
    ap (λ z. bare (of_node s z)) (sym (node.rolls-Call _ fs))
    ∙ same_level s t (Node-F.Call (record { at = f.span; text = g }) fs) (Node-F.Call (record { at = h.span; text = g }) hs) (λ i. Node-F.Call (bare_word (record { at = f.span; text = g })) (q i))
    ∙ ap (λ z. bare (of_node t z)) (node.rolls-Call _ hs)

calls_same : (s t : Span) (f h : Expr) (fs hs : List Expr) → bare f ≡ bare h → map bare fs ≡ map bare hs → bare (of_node s (call_node f fs)) ≡ bare (of_node t (call_node h hs))
calls_same s t f h fs hs p q =
    ap (λ which. bare (of_node s (call_by which f fs))) (sym (function_kept f) ∙ ap function_of p ∙ function_kept h)
    ∙ call_same (function_of h) s t f h fs hs p q

pub call_written : (names : Names) (span : Span) (f : Expr) (ss : List Expr) → Written names f → Each (Written names) ss → Written names (of_node span (call_node f ss))
call_written names span f ss p each = compound_written names (of_node span (call_node f ss)) _ (call_form (function_of f) span f ss refl) (good_append (form_of f).part p.good_part (good_round _ (args_good names ss each))) (spelt_append (form_of f).part p.part (λ u a. spelt_cons (λ o. spelt_append (separated (map (λ (s : Form). s.alone) (map form_of ss))) (args_written names ss each) (λ v m. spelt_cons (λ c. spelt_none (record {
  part = called a.part m.x (token c (Sign (codes ")")));
  is = postfix_expr (IsPostfix.call (token o (Sign (codes "("))) (token c (Sign (codes ")"))) (IsPostfix.primary a.is) a.call refl m.is refl);
  same = ap bare (scoped_is _ (node.Apply a.part.expr m.x) (Node-F.Apply a.part.expr m.x) names (node.rolls-Apply a.part.expr m.x)) ∙ calls_same _ span (scoped a.part.expr names) f (all_in names (map scoped m.x)) ss a.same (all_meant names m.x ss m.same);
}))))))

-- ---- fields and signs

pub project_written : (names : Names) (span : Span) (e : Expr) (l : Named) → Written names e → IsNamed l.text → Written names (of_node span (node.Project e l))
project_written names span e l p h = compound_written names (of_node span (node.Project e l)) _ (form_is span (node.Project e l) (Node-F.Project e l) (node.rolls-Project e l)) (good_append (form_of e).part p.good_part (constant refl (Each.also h.good Each.none))) (spelt_append (form_of e).part p.part (λ u a. spelt_cons (λ d. spelt_cons (λ at. spelt_none (record {
  part = projected a.part (token at (name_kind l));
  is = postfix_expr (IsPostfix.project (token d (Sign (codes "."))) (token at (name_kind l)) (IsPostfix.primary a.is) refl (named_token at l.text h));
  same = same_of names _ span _ (node.Project e l) (Node-F.Project a.part.expr _) (Node-F.Project (scoped a.part.expr names) _) (Node-F.Project e l) (node.rolls-Project _ _) (sym (node.rolls-Project _ _)) (node.rolls-Project e l) (λ i. Node-F.Project (a.same i) (bare_name at l i));
})))))

pub negation_written : (names : Names) (span : Span) (e : Expr) → Written names e → Written names (of_node span (node.Neg e))
negation_written names span e p = compound_written names (of_node span (node.Neg e)) _ (form_is span (node.Neg e) (Node-F.Neg e) (node.rolls-Neg e)) (constant refl p.good_part) (spelt_cons (λ at. spelt_so p.part (λ w a. record {
  part = negated (token at (Sign (codes "-"))) a.part;
  is = unary_expr (IsUnary.negation (token at (Sign (codes "-"))) refl (IsUnary.postfix (IsPostfix.primary a.is)));
  same = same_of names _ span _ (node.Neg e) (Node-F.Neg a.part.expr) (Node-F.Neg (scoped a.part.expr names)) (Node-F.Neg e) (node.rolls-Neg _) (sym (node.rolls-Neg _)) (node.rolls-Neg e) (ap (λ z. Node-F.Neg z) a.same);
})))
