-- The binders of the names that are seen in an expression: which number a name has where names are bound round it.
use Rattle.std.proofs.Common.{◌≡◌, refl, sym, ap, ◌∙◌, ℕ, ◌≤◌, ◌<◌, Bool, true, false, ◌||◌, cond, List, [], ◌∷◌, ◌++◌, Option, Some, None, is_some, bytes_eq, nat_le, le_trans}
use Rattle.std.proofs.lemmas.Bool.{le-leb, lt-leb}
use Rattle.std.specs.Cmp.Lexicographic.{slice_cmp}
use Rattle.std.specs.FinSet as set
use Rattle.std.specs.Option.{option_or}
use Rattle.std.specs.Ordering.{nat_cmp}
use Rattle.lk_ast.specs.declared.place.Word.{Word}
use Rattle.lk_scope.specs.Names.{Names, no_names, is_local}
use Rattle.lk_types.specs.Rows.{Label}
use Rattle.lk_types.specs.declared.ground.Ground.{Ground}
use Rattle.lk_typing.specs.Names.{Named, named, names_of, texts}
use Rattle.lk_typing.specs.Typing.{IsHeld, under_name, bare}
use Rattle.lk_outline.specs.Outline.{with_names, with_some, binder_of}
use Rattle.lk_sound.proofs.Standing.{Binds, named_behind}

-- ---- binders before a node

-- the binders of all names have at most that number
abbrev pub AreBelow : ℕ → Named ℕ → Type 0
AreBelow m scope = (x : Label) → binder_of (named x scope) ≤ m

pub below_later : (n m : ℕ) (scope : Named ℕ) → n ≤ m → AreBelow n scope → AreBelow m scope
below_later n m scope later below x = le_trans (below x) later

pub below_names : (words : List Word) (b m : ℕ) (scope : Named ℕ) → b ≤ m → AreBelow m scope → AreBelow m (with_names words b scope)
below_names [] b m scope low below x = below x
below_names (w ∷ words) b m scope low below x = by_test (bytes_eq w.text x) (below_names words b m scope low below x)
  where
    by_test : (t : Bool) → binder_of (named x (with_names words b scope)) ≤ m → binder_of (cond t (Some b) (named x (with_names words b scope))) ≤ m
    by_test true others = low
    by_test false others = others

pub below_some : (name : Option Word) (b m : ℕ) (scope : Named ℕ) → b ≤ m → AreBelow m scope → AreBelow m (with_some name b scope)
below_some None b m scope low below = below
below_some (Some x) b m scope low below = below_names (x ∷ []) b m scope low below

-- ---- binders of names that have types

-- the names of these entries are bound by the node before that number, and all others as they were
abbrev pub AreBoundAt : ℕ → Named Ground → Named ℕ → Named ℕ → Type 0
AreBoundAt b entries scope inner = (y : Label) → named y inner ≡ cond (is_some (named y entries)) (Some b) (named y scope)

pub names_at : (words : List Word) (entries : Named Ground) (b : ℕ) (scope : Named ℕ) → names_of entries ≡ texts words → AreBoundAt b entries scope (with_names words b scope)
names_at [] [] b scope same y = refl
names_at [] (entry ∷ entries) b scope same y = absurd cc
names_at (w ∷ words) [] b scope same y = absurd cc
names_at (w ∷ words) (entry ∷ entries) b scope same y =
    let head : w.text ≡ entry.0 = cc in
    let tail : names_of entries ≡ texts words = cc in
    ap (λ x. cond (bytes_eq x y) (Some b) (named y (with_names words b scope))) head ∙ by_test (bytes_eq entry.0 y) (names_at words entries b scope tail y)
  where
    by_test : (t : Bool) → named y (with_names words b scope) ≡ cond (is_some (named y entries)) (Some b) (named y scope)
        → cond t (Some b) (named y (with_names words b scope)) ≡ cond (is_some (cond t (Some entry.1) (named y entries))) (Some b) (named y scope)
    by_test true others = refl
    by_test false others = others

pub name_at : (w : Word) (a : Ground) (b : ℕ) (scope : Named ℕ) → AreBoundAt b ((w.text, a) ∷ []) scope (with_names (w ∷ []) b scope)
name_at w a b scope = names_at (w ∷ []) ((w.text, a) ∷ []) b scope refl

pub held_at : (name : Option Word) (a : Ground) (held : Named Ground) (b : ℕ) (scope : Named ℕ) → IsHeld name a held → AreBoundAt b held scope (with_some name b scope)
held_at _ _ _ b scope (under_name {x} {a}) = name_at x a b scope
held_at _ _ _ b scope bare = λ y. refl

-- ---- names that are bound outside a block

-- A name that isn't bound in the block of that node is bound before it, and has the same type outside; the others are bound
-- behind it.
pub record Divides (q : ℕ) (outer names : Named Ground) (bound : Names) (scope : Named ℕ) : Type 0 where
  pub bound_inside : (x : Label) → is_local bound x ≡ true → nat_le (binder_of (named x scope)) q ≡ false
  pub bound_outside : (x : Label) → is_local bound x ≡ false → (nat_le (binder_of (named x scope)) q ≡ true) × (named x outer ≡ named x names)

-- nothing is bound yet where the block begins
pub divides_first : (q : ℕ) (names : Named Ground) (scope : Named ℕ) → AreBelow q scope → Divides q names names no_names scope
divides_first q names scope below = record { bound_inside = λ x is. absurd (let none : is_local no_names x ≡ false = set.contains-empty (slice_cmp nat_cmp) x in cc); bound_outside = λ x is. (le-leb (binder_of (named x scope)) q (below x), refl) }

pub divides_inside : {q b : ℕ} {outer names : Named Ground} {bound inner : Names} {scope further : Named ℕ} (entries : Named Ground)
    → Binds bound inner entries → AreBoundAt b entries scope further → q < b → Divides q outer names bound scope → Divides q outer (entries ++ names) inner further
divides_inside {q} {b} {outer} {names} {bound} {inner} {scope} {further} entries binds at behind divides =
    record {
      bound_inside = λ x is. ap (λ o. nat_le (binder_of o) q) (at x) ∙ if_inside x (named x entries) (sym (binds x) ∙ is);
      bound_outside = λ x is. (
        ap (λ o. nat_le (binder_of o) q) (at x) ∙ (if_outside x (named x entries) (sym (binds x) ∙ is)).0,
        (if_outside x (named x entries) (sym (binds x) ∙ is)).1 ∙ sym (named_behind x entries names),
      );
    }
  where
    if_inside : (x : Label) (o : Option Ground) → (is_some o || is_local bound x) ≡ true → nat_le (binder_of (cond (is_some o) (Some b) (named x scope))) q ≡ false
    if_inside x None is = divides.bound_inside x is
    if_inside x (Some t) is = lt-leb b q behind

    if_outside : (x : Label) (o : Option Ground) → (is_some o || is_local bound x) ≡ false
        → (nat_le (binder_of (cond (is_some o) (Some b) (named x scope))) q ≡ true) × (named x outer ≡ option_or o (named x names))
    if_outside x None is = divides.bound_outside x is
    if_outside x (Some t) is = absurd (let never : true ≡ false = is in cc)
