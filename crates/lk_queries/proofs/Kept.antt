-- What is captured under local names: the values of the free names, which stand for them again.
use Rattle.std.proofs.Common.{◌≡◌, refl, sym, ap, ◌∙◌, subst, inl, inr, ◌⊎◌, Bool, true, false, cond, List, [], ◌∷◌, Option, Some, None}
use Rattle.std.proofs.lemmas.Option.{none-some}
use Rattle.std.specs.Cmp.Lexicographic.{bytes_decides}
use Rattle.std.specs.Str.{bytes_eq}
use Rattle.lk_ast.specs.declared.declaration.Program.{Program}
use Rattle.lk_ast.specs.declared.value.Value.{Value}
use Rattle.lk_index.specs.Free.{in_byte_order}
use Rattle.lk_locals.specs.Names.{Names, no_names, bind, bind_each, lookup, lookup_all, with_value}
use Rattle.lk_scope.specs.Names as scope
use Rattle.lk_sound.proofs.Apart.{ordered_apart}
use Rattle.lk_sound.proofs.Bindings.{lookup_bound, same_bytes}
use Rattle.lk_sound.proofs.Calls.{kept_fit}
use Rattle.lk_sound.proofs.Captured.{AreKept, any_such, kept_of}
use Rattle.lk_sound.proofs.Free.{AreKnown}
use Rattle.lk_sound.proofs.Names.{IsAmong}
use Rattle.lk_sound.proofs.OrderedWords.{ordered_holds, ordered_of}
use Rattle.lk_sound.specs.Instances.{Instances}
use Rattle.lk_sound.specs.Points.{AreLocals}
use Rattle.lk_types.specs.Rows.{Label}
use Rattle.lk_types.specs.declared.ground.Ground.{Ground}
use Rattle.lk_typing.specs.Names.{Named, named, names_of}

-- ---- names that stand for them again

-- what several names have, each has
both_there : (one : Option Value) (rest : Option (List Value)) (values : List Value) → with_value one rest ≡ Some values → (w : Value) × (ws : List Value) × (one ≡ Some w) × (rest ≡ Some ws) × (values ≡ w ∷ ws)
both_there None rest values is = absurd (none-some values is)
both_there (Some w) None values is = absurd (none-some values is)
both_there (Some w) (Some ws) values is = let same : values ≡ w ∷ ws = cc in (w, ws, refl, refl, same)

-- where values are bound again under the names that they were taken from, these have them again
bound_again : (names : Names) (xs : List Label) (values : List Value) (inner : Names) → lookup_all names xs ≡ Some values → (y : Label) → (lookup inner y ≡ lookup names y) ⊎ IsAmong y xs
    → lookup (bind_each inner xs values) y ≡ lookup names y
bound_again names [] values inner is y (inl same) = same
bound_again names [] values inner is y (inr among) = absurd among
bound_again names (x ∷ xs) values inner is y there =
    let found = both_there (lookup names x) (lookup_all names xs) values is in
    subst (λ vs. lookup (bind_each inner (x ∷ xs) vs) y ≡ lookup names y) (sym found.4)
    (bound_again names xs found.1 (bind x found.0 inner) found.3 y (by_side found.0 found.2 (bytes_eq x y) refl there))
  where
    by_side : (v : Value) → lookup names x ≡ Some v → (b : Bool) → bytes_eq x y ≡ b → (lookup inner y ≡ lookup names y) ⊎ IsAmong y (x ∷ xs) → (lookup (bind x v inner) y ≡ lookup names y) ⊎ IsAmong y xs
    by_side v has true same there = inl (lookup_bound x v inner y ∙ ap (λ b. cond b (Some v) (lookup inner y)) same ∙ sym has ∙ ap (lookup names) (same_bytes x y same))
    by_side v has false same (inl before) = inl (lookup_bound x v inner y ∙ ap (λ b. cond b (Some v) (lookup inner y)) same ∙ before)
    by_side v has false same (inr (inl is)) = let itself : bytes_eq x y ≡ true = (bytes_decides x y).1 is in absurd cc
    by_side v has false same (inr (inr among)) = inr among

-- a name that has a type is one of the names
named_among : (x : Label) (t : Ground) (entries : Named Ground) → named x entries ≡ Some t → IsAmong x (names_of entries)
named_among x t [] is = absurd (none-some t is)
named_among x t (entry ∷ entries) is = by_test (bytes_eq entry.0 x) refl is (named_among x t entries)
  where
    by_test : (b : Bool) → bytes_eq entry.0 x ≡ b → cond b (Some entry.1) (named x entries) ≡ Some t → (named x entries ≡ Some t → IsAmong x (names_of entries)) → IsAmong x (names_of (entry ∷ entries))
    by_test true same is later = inl (same_bytes entry.0 x same)
    by_test false same is later = inr (later is)

-- What is captured of these words where local names have types: values, and types of which the names have values, the local ones as
-- well as those that stand for what was captured, which are the same.
pub record IsTaken (p : Program) (i : Instances) (locals : Named Ground) (names : Names) (words : List Label) : Type 0 where
  pub values : List Value
  pub kept : Named Ground
  pub found : lookup_all names (in_byte_order words) ≡ Some values
  pub same : (y : Label) → IsAmong y words → named y kept ≡ named y locals
  pub fit : AreLocals p i kept names
  pub fit_again : AreLocals p i kept (bind_each no_names (in_byte_order words) values)
  pub again : (x : Label) (t : Ground) → named x kept ≡ Some t → lookup (bind_each no_names (in_byte_order words) values) x ≡ lookup names x

pub taken_of : (p : Program) (i : Instances) (locals : Named Ground) (names : Names) (words : List Label) → AreLocals p i locals names → AreKnown locals scope.no_names words → IsTaken p i locals names words
taken_of p i locals names words fit known =
    let all : AreKept p i (λ t. Unit {0}) locals names (in_byte_order words) = kept_of p i (λ t. Unit {0}) locals names (in_byte_order words) fit (λ x among. any_such locals x (known.known x (ordered_of words x among)).1) in
    let among : (x : Label) (t : Ground) → named x all.kept ≡ Some t → IsAmong x (in_byte_order words) = λ x t is. subst (IsAmong x) all.named_are (named_among x t all.kept is) in
    record {
      values = all.values;
      kept = all.kept;
      found = all.found;
      same = λ y one. all.same y (ordered_holds words y one);
      fit = λ x t is. fit x t (sym (all.same x (among x t is)) ∙ is);
      fit_again = kept_fit p i all.kept (in_byte_order words) all.values all.named_are (ordered_apart words) all.fit;
      again = λ x t is. bound_again names (in_byte_order words) all.values no_names all.found x (inr (among x t is));
    }
