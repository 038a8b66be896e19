-- Parts that read no table give the same over any tables.
use Rattle.std.proofs.Common.{◌≡◌, ℕ, ◌+◌, ◌||◌, Bool, true, false, List, [], ◌∷◌, refl, ◌∙◌, ap, true≢false}
use Rattle.std.specs.List.{list_any}
use Rattle.lk_ast.specs.Tables.{Tables}
use Rattle.lk_query.specs.Changed.{ReadNoTable, reads_table}
use Rattle.lk_query.specs.Given.{Gives, given_level, gives, nothing}
use Rattle.lk_query.specs.Order.{bind, filled_from}
use Rattle.lk_query.specs.declared.part.Part.{Part}
use Rattle.lk_query.specs.declared.part.Part.TheVariants as part

module _ (tables others : Tables) where
  level-same : (f : ℕ → Gives) (n : ℕ) (x : Part) → reads_table x ≡ false → given_level tables f n x ≡ given_level others f n x
  level-same f n (part.Lit b) e = refl
  level-same f n part.Bound e = refl
  level-same f n (part.Case c a b) e = refl
  level-same f n (part.If c a b) e = refl
  level-same f n (part.IfRow labels c a b) e = refl
  level-same f n (part.One o a) e = refl
  level-same f n (part.Two o a b) e = refl
  level-same f n (part.EqRows labels a b) e = refl
  level-same f n (part.Empty columns list) e = refl
  level-same f n (part.Record items) e = refl
  level-same f n (part.Extend labels items rest) e = refl
  level-same f n (part.Project a label) e = refl
  level-same f n (part.Items items) e = refl
  level-same f n (part.Append a b) e = refl
  level-same f n (part.ForList list x body) e = refl
  level-same f n (part.Table table labels) e = absurd (true≢false e)
  level-same f n (part.Where c list) e = refl

  filled-same : (n : ℕ) (f : ℕ → Gives) (parts : List Part) → list_any reads_table parts ≡ false → filled_from (given_level tables) n f parts ≡ filled_from (given_level others) n f parts
  filled-same n f [] e = refl
  filled-same n f (x ∷ parts) e = by_test (reads_table x) refl e (λ f e. filled-same (n + 1) f parts e)
    where
      by_test :
          (b : Bool) → reads_table x ≡ b → b || list_any reads_table parts ≡ false →
          ((f : ℕ → Gives) → list_any reads_table parts ≡ false → filled_from (given_level tables) (n + 1) f parts ≡ filled_from (given_level others) (n + 1) f parts) →
          filled_from (given_level tables) (n + 1) (bind n (given_level tables f n x) f) parts ≡ filled_from (given_level others) (n + 1) (bind n (given_level others f n x) f) parts
      by_test true is e rest = absurd (true≢false e)
      by_test false is e rest = ap (λ g. filled_from (given_level tables) (n + 1) (bind n g f) parts) (level-same f n x is) ∙ rest (bind n (given_level others f n x) f) e

  pub gives-same : (parts : List Part) → ReadNoTable parts → gives tables parts ≡ gives others parts
  unfolding gives
  gives-same parts e = filled-same 0 (λ n values. nothing) parts e
