-- What each part stands for gives what the part gives.
use Rattle.std.proofs.Common.{ℕ, List}
use Rattle.lk_ast.specs.Tables.{Tables}
use Rattle.lk_ast.specs.declared.table.Base.{Base}
use Rattle.lk_query.specs.Given.{Gives, given_level, gives}
use Rattle.lk_query.specs.declared.part.Part.{Part}
use Rattle.lk_query.specs.declared.part.Part.TheVariants as part
use Rattle.lk_query.proofs.Parts.{filled-related}
use Rattle.lk_norm.specs.Normal.{StandsFor, norm_level, norms}
use Rattle.lk_norm.proofs.Bases.{follows_case, follows_equal, follows_extend, follows_if_row, follows_lit, follows_one, follows_project, follows_record, follows_two}
use Rattle.lk_norm.proofs.Lists.{follows_append, follows_for, follows_if, follows_items, follows_where}
use Rattle.lk_norm.proofs.Shows.{Follows, follows_name, shows_nothing}
use Rattle.lk_norm.proofs.Tests.{follows_empty, follows_read}

module _ (tables : Tables) (params : List Base) where
  level_follows : (f : ℕ → StandsFor) (g : ℕ → Gives) → ((k : ℕ) → Follows tables params (f k) (g k)) → (n : ℕ) (x : Part) → Follows tables params (norm_level f n x) (given_level tables g n x)
  level_follows f g h n (part.Lit b) = follows_lit tables params b
  level_follows f g h n part.Bound = follows_name tables params n
  level_follows f g h n (part.Case c a b) = follows_case tables params (f c) (g c) (f a) (g a) (f b) (g b) (h c) (h a) (h b)
  level_follows f g h n (part.If c a b) = follows_if tables params (f c) (g c) (f a) (g a) (f b) (g b) (h c) (h a) (h b)
  level_follows f g h n (part.IfRow labels c a b) = follows_if_row tables params labels (f c) (g c) (f a) (g a) (f b) (g b) (h c) (h a) (h b)
  level_follows f g h n (part.One o a) = follows_one tables params f g h o a
  level_follows f g h n (part.Two o a b) = follows_two tables params f g h o a b
  level_follows f g h n (part.EqRows labels a b) = follows_equal tables params labels (f a) (g a) (f b) (g b) (h a) (h b)
  level_follows f g h n (part.Empty columns list) = follows_empty tables params columns (f list) (g list) (h list)
  level_follows f g h n (part.Record items) = follows_record tables params f g h items
  level_follows f g h n (part.Extend labels items rest) = follows_extend tables params f g h labels items rest
  level_follows f g h n (part.Project a label) = follows_project tables params (f a) (g a) label (h a)
  level_follows f g h n (part.Items items) = follows_items tables params f g h items
  level_follows f g h n (part.Append a b) = follows_append tables params (f a) (g a) (f b) (g b) (h a) (h b)
  level_follows f g h n (part.ForList list x body) = follows_for tables params x (f list) (g list) (f body) (g body) (h list) (h body)
  level_follows f g h n (part.Table table labels) = follows_read tables params table labels
  level_follows f g h n (part.Where c list) = follows_where tables params (f c) (g c) (f list) (g list) (h c) (h list)

  pub follows : (parts : List Part) (k : ℕ) → Follows tables params (norms parts k) (gives tables parts k)
  unfolding norms gives
  follows parts k = filled-related (Follows tables params) norm_level (given_level tables) level_follows _ _ (λ n names values h. shows_nothing tables params n) parts k
