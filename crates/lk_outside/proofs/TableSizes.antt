-- How many rows a table has by those that a scan gave, which are its own in some order.
use Rattle.std.proofs.Common.{◌≡◌, ℕ, ◌+◌, ◌≤◌, List, Option, Some, None, length, sym, ◌∙◌, ap, subst, IsPermutation}
use Rattle.std.specs.Prelude.{IfSome}
use Rattle.std.proofs.lemmas.List.Sorted.{length_permutation}
use Rattle.lk_ast.specs.Limits.{most_rows}
use Rattle.lk_ast.specs.Tables.{Tables}
use Rattle.lk_ast.specs.declared.table.Row.{Row}
use Rattle.lk_outside.specs.TableSizes.{HasRoom, HasSize}

pub size_of : (told : Option Tables) (name : List ℕ) (there rows : List Row) (n : ℕ) → IfSome told (λ t. IsPermutation (t name) there) → n ≡ length there + length rows → HasSize told name rows n
size_of None name there rows n same is = tt
size_of (Some tables) name there rows n same is = ap (λ l. l + length rows) (sym (length_permutation (tables name) there same)) ∙ sym is

pub room_of : (told : Option Tables) (name : List ℕ) (there rows : List Row) (n : ℕ) → IfSome told (λ t. IsPermutation (t name) there) → n ≡ length there + length rows → n ≤ most_rows → HasRoom told name rows
room_of None name there rows n same is few = tt
room_of (Some tables) name there rows n same is few = let size : length (tables name) + length rows ≡ n = size_of (Some tables) name there rows n same is in subst (λ k. k ≤ most_rows) (sym size) few
