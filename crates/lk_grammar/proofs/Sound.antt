-- What the reader of expressions finds is an expression, and where it stops the tokens before can be completed.
use Rattle.std.proofs.Common.{ℕ, zero, suc}
use Rattle.lk_read.specs.Reader.{Reader}
use Rattle.lk_read.proofs.Laws.{Reads, tired-reads}
use Rattle.lk_grammar.specs.Expressions.{IsExpr, IsAnd, IsComparison, IsJoin, IsSum, IsProduct, IsUnary}
use Rattle.lk_grammar.specs.Reading.{primary_with, postfix_with, form_with, unary_over, product_over, sum_over, join_over, comparison_over, and_over, or_over, expr_at}
use Rattle.lk_parts.specs.declared.operators.Level.TheVariants as level
use Rattle.lk_parts.specs.declared.part.Part.{Part}
use Rattle.lk_grammar.proofs.SoundForms.{form-reads}
use Rattle.lk_grammar.proofs.SoundLevels.{expr_begins, left-reads, join-reads, comparison-reads, unary-reads, postfix-reads}
use Rattle.lk_grammar.proofs.SoundPrimaries.{primary-reads}

module _ (expr : Reader Part) (E : Reads expr IsExpr) (n : ℕ) where
  pub unary_over-reads : (m : ℕ) → Reads (unary_over expr n m) IsUnary
  unfolding unary_over
  unary_over-reads m = unary-reads (form_with expr n) (postfix_with (primary_with expr n) expr n) (form-reads expr E n) (postfix-reads expr E n (primary_with expr n) (primary-reads expr E n)) m

  pub product_over-reads : Reads (product_over expr n) IsProduct
  unfolding product_over
  product_over-reads = left-reads level.Product (unary_over expr n n) IsUnary IsProduct (unary_over-reads n) (λ w e d. IsProduct.unary_level d) (λ u v s a b q ok h d. IsProduct.product s q ok h d) n

  pub sum_over-reads : Reads (sum_over expr n) IsSum
  unfolding sum_over
  sum_over-reads = left-reads level.Sum (product_over expr n) IsProduct IsSum product_over-reads (λ w e d. IsSum.product_level d) (λ u v s a b q ok h d. IsSum.sum s q ok h d) n

  pub join_over-reads : (m : ℕ) → Reads (join_over expr n m) IsJoin
  unfolding join_over
  join_over-reads m = join-reads (sum_over expr n) sum_over-reads m

  pub comparison_over-reads : Reads (comparison_over expr n) IsComparison
  unfolding comparison_over
  comparison_over-reads = comparison-reads (join_over expr n n) (join_over-reads n)

  pub and_over-reads : Reads (and_over expr n) IsAnd
  unfolding and_over
  and_over-reads = left-reads level.And (comparison_over expr n) IsComparison IsAnd comparison_over-reads (λ w e d. IsAnd.comparison_level d) (λ u v s a b q ok h d. IsAnd.conjunction s q ok h d) n

  pub or_over-reads : Reads (or_over expr n) IsExpr
  unfolding or_over
  or_over-reads = left-reads level.Or (and_over expr n) IsAnd IsExpr and_over-reads (λ w e d. IsExpr.and_level d) (λ u v s a b q ok h d. IsExpr.disjunction s q ok h d) n

pub expr_at-reads : (n : ℕ) → Reads (expr_at n) IsExpr
unfolding expr_at
expr_at-reads zero = tired-reads IsExpr expr_begins
expr_at-reads (suc n) = or_over-reads (expr_at n) (expr_at-reads n) n
