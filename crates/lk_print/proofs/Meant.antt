-- That what is printed of an expression is read as one that means the same.
use Rattle.std.proofs.Common.{◌≡◌, true, List, [], ◌∷◌, ◌++◌, refl, sym, ap, subst, ◌∙◌, append_assoc}
use Rattle.std.specs.Prelude.{codes}
use Rattle.lk_ast.specs.declared.expression.Expr.{Expr}
use Rattle.lk_ast.specs.declared.token.Token.{Token}
use Rattle.lk_ast.specs.declared.token.TokenKind.TheVariants.{Sign}
use Rattle.lk_grammar.specs.Expressions.{IsExpr, IsAnd, IsComparison, IsJoin, IsSum, IsProduct, IsUnary, IsPostfix, IsPrimary, IsForm, IsBlock, IsStatements}
use Rattle.lk_parts.specs.Parts.{chain, takes_operator, takes_comparison, takes_call, wrapped, braced}
use Rattle.lk_parts.specs.declared.part.Part.{Part}
use Rattle.lk_parts.specs.declared.part.Statement.{Statement}
use Rattle.lk_print.specs.Bare.{bare}
use Rattle.lk_print.specs.Printed.{Kinds, Form, form_of, primary, compound, block, in_round, in_braces}
use Rattle.lk_print.proofs.Goods.{Good, good_round, good_braces}
use Rattle.lk_print.proofs.Spelled.{Spelt, token, spelt_cons, spelt_append, spelt_none, spelt_so, spelt_as}
use Rattle.lk_scope.specs.Names.{Names}
use Rattle.lk_scope.specs.Scoped.{scoped}

-- under these names the one means the other, but for its places
abbrev pub Same : Names → Expr → Expr → Type 0
Same names e s = bare (scoped e names) ≡ bare s

-- the tokens are a part of a language that means this expression
pub record Reads (L : List Token → Part → Type 0) (names : Names) (s : Expr) (w : List Token) : Type 0 where
  pub part : Part
  pub is : L w part
  pub same : Same names part.expr s

-- they are a primary that takes nothing of what stands behind it
pub record ReadsPart (names : Names) (s : Expr) (w : List Token) : Type 0 where
  pub part : Part
  pub is : IsPrimary w part
  pub operator : takes_operator part ≡ true
  pub comparison : takes_comparison part ≡ true
  pub call : takes_call part ≡ true
  pub same : Same names part.expr s

-- they are what stands between the braces of a block
pub record ReadsInside (names : Names) (s : Expr) (w : List Token) : Type 0 where
  pub u : List Token
  pub v : List Token
  pub statements : List Statement
  pub last : Part
  pub is : w ≡ u ++ v
  pub front : IsStatements u statements
  pub back : IsExpr v last
  pub same : Same names (chain statements last.to last.expr) s

-- what is printed of this expression, in its three forms, is read as it
pub record Written (names : Names) (s : Expr) : Type 0 where
  pub alone : Spelt (form_of s).alone (Reads IsExpr names s)
  pub part : Spelt (form_of s).part (ReadsPart names s)
  pub inside : Spelt (form_of s).inside (ReadsInside names s)
  pub good_alone : Good (form_of s).alone
  pub good_part : Good (form_of s).part
  pub good_inside : Good (form_of s).inside

-- ---- from level to level

pub unary_expr : {w : List Token} {p : Part} → IsUnary w p → IsExpr w p
unary_expr d = IsExpr.and_level (IsAnd.comparison_level (IsComparison.join_level (IsJoin.sum_level (IsSum.product_level (IsProduct.unary_level d)))))

pub form_expr : {w : List Token} {p : Part} → IsForm w p → IsExpr w p
form_expr d = unary_expr (IsUnary.form d)

pub postfix_expr : {w : List Token} {p : Part} → IsPostfix w p → IsExpr w p
postfix_expr d = unary_expr (IsUnary.postfix d)

pub primary_expr : {w : List Token} {p : Part} → IsPrimary w p → IsExpr w p
primary_expr d = postfix_expr (IsPostfix.primary d)

-- ---- the three forms from one

pub alone_inside : (names : Names) (s : Expr) (w : List Token) → Reads IsExpr names s w → ReadsInside names s w
alone_inside names s w r = record { u = []; v = w; statements = []; last = r.part; is = refl; front = IsStatements.nil; back = r.is; same = r.same }

part_alone : (names : Names) (s : Expr) (w : List Token) → ReadsPart names s w → Reads IsExpr names s w
part_alone names s w r = record { part = r.part; is = primary_expr r.is; same = r.same }

in_parens : (names : Names) (s : Expr) (kinds : Kinds) → Spelt kinds (Reads IsExpr names s) → Spelt (in_round kinds) (ReadsPart names s)
in_parens names s kinds r = spelt_cons (λ o. spelt_append kinds r (λ u e. spelt_cons (λ c. spelt_none (record {
  part = wrapped (token o (Sign (codes "("))) e.part (token c (Sign (codes ")")));
  is = IsPrimary.paren (token o (Sign (codes "("))) (token c (Sign (codes ")"))) refl e.is refl;
  operator = refl;
  comparison = refl;
  call = refl;
  same = e.same;
}))))

pub primary_written : (names : Names) (s : Expr) (kinds : Kinds) → form_of s ≡ primary kinds → Good kinds → Spelt kinds (ReadsPart names s) → Written names s
primary_written names s kinds is g r =
    let alone : Spelt kinds (Reads IsExpr names s) = spelt_so r (part_alone names s) in
    record {
      alone = spelt_as (ap (λ (f : Form). f.alone) is) alone;
      part = spelt_as (ap (λ (f : Form). f.part) is) r;
      inside = spelt_as (ap (λ (f : Form). f.inside) is) (spelt_so alone (alone_inside names s));
      good_alone = subst Good (sym (ap (λ (f : Form). f.alone) is)) g;
      good_part = subst Good (sym (ap (λ (f : Form). f.part) is)) g;
      good_inside = subst Good (sym (ap (λ (f : Form). f.inside) is)) g;
    }

pub compound_written : (names : Names) (s : Expr) (kinds : Kinds) → form_of s ≡ compound kinds → Good kinds → Spelt kinds (Reads IsExpr names s) → Written names s
compound_written names s kinds is g r = record {
  alone = spelt_as (ap (λ (f : Form). f.alone) is) r;
  part = spelt_as (ap (λ (f : Form). f.part) is) (in_parens names s kinds r);
  inside = spelt_as (ap (λ (f : Form). f.inside) is) (spelt_so r (alone_inside names s));
  good_alone = subst Good (sym (ap (λ (f : Form). f.alone) is)) g;
  good_part = subst Good (sym (ap (λ (f : Form). f.part) is)) (good_round kinds g);
  good_inside = subst Good (sym (ap (λ (f : Form). f.inside) is)) g;
}

-- ---- blocks

pub record ReadsBlock (names : Names) (s : Expr) (w : List Token) : Type 0 where
  pub part : Part
  pub is : IsBlock w part
  pub operator : takes_operator part ≡ true
  pub comparison : takes_comparison part ≡ true
  pub call : takes_call part ≡ true
  pub same : Same names part.expr s

pub braces_block : (names : Names) (s : Expr) (kinds : Kinds) → Spelt kinds (ReadsInside names s) → Spelt (in_braces kinds) (ReadsBlock names s)
braces_block names s kinds r = spelt_cons (λ o. spelt_append kinds r (λ w e. spelt_cons (λ c. spelt_none (record {
  part = braced (token o (Sign (codes "{"))) e.statements e.last (token c (Sign (codes "}")));
  is = subst (λ z. IsBlock (token o (Sign (codes "{")) ∷ z) (braced (token o (Sign (codes "{"))) e.statements e.last (token c (Sign (codes "}")))))
      (sym (ap (λ z. z ++ token c (Sign (codes "}")) ∷ []) e.is ∙ append_assoc e.u e.v (token c (Sign (codes "}")) ∷ [])))
      (IsBlock.braces (token o (Sign (codes "{"))) (token c (Sign (codes "}"))) refl e.front e.back refl);
  operator = refl;
  comparison = refl;
  call = refl;
  same = e.same;
}))))

block_part : (names : Names) (s : Expr) (w : List Token) → ReadsBlock names s w → ReadsPart names s w
block_part names s w r = record { part = r.part; is = IsPrimary.block r.is; operator = r.operator; comparison = r.comparison; call = r.call; same = r.same }

pub block_written : (names : Names) (s : Expr) (kinds : Kinds) → form_of s ≡ block kinds → Good kinds → Spelt kinds (ReadsInside names s) → Written names s
block_written names s kinds is g r =
    let part : Spelt (in_braces kinds) (ReadsPart names s) = spelt_so (braces_block names s kinds r) (block_part names s) in
    record {
      alone = spelt_as (ap (λ (f : Form). f.alone) is) (spelt_so part (part_alone names s));
      part = spelt_as (ap (λ (f : Form). f.part) is) part;
      inside = spelt_as (ap (λ (f : Form). f.inside) is) r;
      good_alone = subst Good (sym (ap (λ (f : Form). f.alone) is)) (good_braces kinds g);
      good_part = subst Good (sym (ap (λ (f : Form). f.part) is)) (good_braces kinds g);
      good_inside = subst Good (sym (ap (λ (f : Form). f.inside) is)) g;
    }

-- an expression between the braces of a body
pub body_block : (names : Names) (s : Expr) → Written names s → Spelt (in_braces (form_of s).inside) (ReadsBlock names s)
body_block names s r = braces_block names s (form_of s).inside r.inside
