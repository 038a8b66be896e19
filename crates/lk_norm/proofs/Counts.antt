-- How many branches there are.
use Rattle.std.proofs.Common.{◌≡◌, ℕ, suc, ◌+◌, ◌*◌, ◌==◌, if◌then◌else◌, Bool, true, false, List, [], ◌∷◌, ◌++◌, map, length, Some, None, refl, sym, ◌∙◌, ap, ap₂, arith, length-append, suc-mul, zero-mul}
use Rattle.std.specs.List.{flat_map}
use Rattle.lk_sql.specs.declared.tree.FromItem.{FromItem}
use Rattle.lk_sql.specs.declared.tree.Scalar.{Scalar}
use Rattle.lk_sql.specs.declared.tree.Scalar.TheVariants as scalar
use Rattle.lk_query.specs.Branches.{count_level, counts}
use Rattle.lk_query.specs.Captured.{Binding}
use Rattle.lk_query.specs.Order.{bind}
use Rattle.lk_query.specs.declared.part.Part.{Part}
use Rattle.lk_query.specs.declared.part.Part.TheVariants as part
use Rattle.lk_query.proofs.Parts.{filled-related}
use Rattle.lk_norm.specs.Captured.{names_from, outputs_from}
use Rattle.lk_norm.specs.Law.{CountLaw, HasBranches, NoLists}
use Rattle.lk_norm.specs.Normal.{Names, Stands, StandsFor, as_base, as_row, branch, conjunction, negation, norm_level, norms, test}

pub no-lists : (x : ℕ) (a : Stands) (names : Names) → ((m : ℕ) (g : List FromItem) (c : Scalar) → a.list m g c ≡ []) → NoLists names → NoLists (bind x a names)
no-lists x a names e h k = step (k == x)
  where
    step : (b : Bool) (m : ℕ) (g : List FromItem) (c : Scalar) → (if b then a else names k).list m g c ≡ []
    step true m g c = e m g c
    step false m g c = h k m g c

pub length-map : {X Y : Type 0} (f : X → Y) (xs : List X) → length (map f xs) ≡ length xs
length-map f [] = refl
length-map f (x ∷ xs) = let e = length-map f xs in omega (arith, e)

length-flat : {X Y : Type 0} (f : X → List Y) (n : ℕ) → ((x : X) → length (f x) ≡ n) → (xs : List X) → length (flat_map f xs) ≡ length xs * n
length-flat f n e [] = sym (zero-mul n)
length-flat f n e (x ∷ xs) = length-append (f x) (flat_map f xs) ∙ ap₂ (λ a b. a + b) (e x) (length-flat f n e xs) ∙ more
  where
    more : n + length xs * n ≡ suc (length xs) * n
    more = let e = suc-mul (length xs) n in omega (arith, e)

-- two lists, one behind the other
length-two : {X : Type 0} (xs ys : List X) (m n : ℕ) → length xs ≡ m → length ys ≡ n → length (xs ++ ys) ≡ m + n
length-two xs ys m n a b = length-append xs ys ∙ ap₂ (λ m n. m + n) a b

level_has : (f : ℕ → StandsFor) (counts : ℕ → ℕ) → ((k : ℕ) → HasBranches (f k) (counts k)) → (n : ℕ) (x : Part) → HasBranches (norm_level f n x) (count_level counts n x)
level_has f counts h n (part.Lit b) names free m g d = refl
level_has f counts h n part.Bound names free m g d = ap length (free n m g d)
level_has f counts h n (part.Case c a b) names free m g d = refl
level_has f counts h n (part.If c a b) names free m g d =
    let t = test f c names m g in
    length-two ((f a names).list m g (conjunction d t)) ((f b names).list m g (conjunction d (negation t))) (counts a) (counts b)
    (h a names free m g (conjunction d t)) (h b names free m g (conjunction d (negation t)))
level_has f counts h n (part.IfRow labels c a b) names free m g d = refl
level_has f counts h n (part.One o a) names free m g d = refl
level_has f counts h n (part.Two o a b) names free m g d = refl
level_has f counts h n (part.EqRows labels a b) names free m g d = refl
level_has f counts h n (part.Empty columns list) names free m g d = refl
level_has f counts h n (part.Record items) names free m g d = refl
level_has f counts h n (part.Extend labels items rest) names free m g d = refl
level_has f counts h n (part.Project a label) names free m g d = refl
level_has f counts h n (part.Items items) names free m g d = length-map (λ item. branch g d ((f item names).row (m + length g))) items
level_has f counts h n (part.Append a b) names free m g d = length-two ((f a names).list m g d) ((f b names).list m g d) (counts a) (counts b) (h a names free m g d) (h b names free m g d)
level_has f counts h n (part.ForList list x body) names free m g d =
    length-flat (λ b. (f body (bind x (as_row (λ n. b.outs)) names)).list m b.froms b.cond) (counts body)
    (λ b. h body (bind x (as_row (λ n. b.outs)) names) (no-lists x (as_row (λ n. b.outs)) names (λ m g c. refl) free) m b.froms b.cond) ((f list names).list m g d)
    ∙ ap (λ n. n * counts body) (h list names free m g d)
level_has f counts h n (part.Table table labels) names free m g d = refl
level_has f counts h n (part.Where c list) names free m g d = h list names free m g (conjunction d (test f c names m g))

-- the branches are as many as counted
pub counted : CountLaw
unfolding norms counts
counted parts k = filled-related HasBranches norm_level count_level level_has _ _ (λ names free m g d. refl) parts k

-- captured names stand for no list
pub captured-no_lists : (k : ℕ) (captured : List Binding) → NoLists (names_from k captured)
captured-no_lists k [] = λ n m g c. refl
captured-no_lists k ((x, None) ∷ captured) = no-lists x (as_base (λ n. scalar.Param k)) (names_from (k + 1) captured) (λ m g c. refl) (captured-no_lists (k + 1) captured)
captured-no_lists k ((x, Some labels) ∷ captured) = no-lists x (as_row (λ n. outputs_from k labels)) (names_from (k + length labels) captured) (λ m g c. refl) (captured-no_lists (k + length labels) captured)
