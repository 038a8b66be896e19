-- Which of the numbers 0, 1, .., n - 1 are equal: a partition of them into classes, each of which is named by one of its
-- members (R. E. Tarjan, Efficiency of a good but not linear set union algorithm, 1975). The list has the name of each
-- number's class.
use Rattle.std.specs.Prelude.{◌≡◌, ℕ, ◌<◌, List, length, slice_index_or as get_or, if◌then◌else◌, ◌==◌}

abbrev pub class_at : List ℕ → ℕ → ℕ
class_at classes i = get_or classes i 0

-- each of n numbers has a class, which is named by a number in it
pub record AreClasses (n : ℕ) (classes : List ℕ) : Type 0 where
  pub count : length classes ≡ n
  pub below : (i : ℕ) → i < n → class_at classes i < n
  pub named : (i : ℕ) → i < n → class_at classes (class_at classes i) ≡ class_at classes i

-- what a class is named once two are one
abbrev pub relabeled : ℕ → ℕ → ℕ → ℕ
relabeled from to c = if c == from then to else c
