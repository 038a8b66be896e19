-- Names that the continuations of earlier positions have nothing more to take from: where they stand in front of a position, its point and
-- what is left behind all positions are those of the names themselves.
use Rattle.std.proofs.Common.{◌≡◌, refl, sym, ap, subst, ◌∙◌, inl, inr, ℕ, zero, suc, Bool, true, false, cond, ◌==◌, List, [], ◌∷◌, ◌++◌, Option, Some, None, drop, take, length, slice_get}
use Rattle.std.specs.Prelude.{◌||◌}
use Rattle.std.proofs.lemmas.Bool.{eqb-true}
use Rattle.std.proofs.lemmas.Option.{none-some}
use Rattle.std.specs.FinMap.{get-empty}
use Rattle.std.specs.Option.{option_flatten}
use Rattle.std.specs.Ordering.{nat_cmp}
use Rattle.lk_ast.specs.declared.value.Value.{Value}
use Rattle.lk_ir.proofs.Lookups.{bound, only_keeps, only_lookup, same_names}
use Rattle.lk_ir.specs.Continuing.{behind, conts_at, going, is_among, narrowed, only}
use Rattle.lk_ir.specs.Environments.{Env, bind, bind_each, lookup, no_names}
use Rattle.lk_ir.specs.Law.{AreMatched, IsSteady}
use Rattle.lk_ir.specs.LetNormal.{plain_in, under}
use Rattle.lk_ir.specs.Tables.{form_at, names_of}
use Rattle.lk_ir.specs.Uses as used
use Rattle.lk_ir.specs.Uses.{Among, AreKept, IsTurnKept, KeepsJust, UsedBehind, turned}
use Rattle.lk_ir.specs.declared.nodes.Cont.{Cont}
use Rattle.lk_ir.specs.declared.nodes.Form.{Form}
use Rattle.lk_ir.specs.declared.nodes.Forms.{Forms}
use Rattle.lk_types.proofs.Parts.{same_some}
use Rattle.lk_code.specs.Meaning.{kept_names}
use Rattle.lk_code.specs.Sound.{AreSound}
use Rattle.lk_code.specs.Tables.{cont_at}
use Rattle.lk_code.specs.declared.tables.CodeTables.{CodeTables}
use Rattle.lk_code.specs.declared.tables.Home.{Home}

-- ---- lists at a place

pub split_at : {A : Type 0} (xs : List A) (n : ℕ) (x : A) → slice_get xs n ≡ Some x → xs ≡ take n xs ++ x ∷ drop (suc n) xs
split_at [] n x is = absurd (none-some x is)
split_at (y ∷ xs) zero x is = ap (λ z. z ∷ xs) (same_some is)
split_at (y ∷ xs) (suc n) x is = ap (λ zs. y ∷ zs) (split_at xs n x is)

pub one_further : {A : Type 0} (xs : List A) (n : ℕ) (x : A) → slice_get xs n ≡ Some x → take (suc n) xs ≡ take n xs ++ x ∷ []
one_further [] n x is = absurd (none-some x is)
one_further (y ∷ xs) zero x is = ap (λ z. z ∷ []) (same_some is)
one_further (y ∷ xs) (suc n) x is = ap (λ zs. y ∷ zs) (one_further xs n x is)

pub from_there : {A : Type 0} (xs : List A) (n : ℕ) (x : A) → slice_get xs n ≡ Some x → drop n xs ≡ x ∷ drop (suc n) xs
from_there [] n x is = absurd (none-some x is)
from_there (y ∷ xs) zero x is = ap (λ z. z ∷ xs) (same_some is)
from_there (y ∷ xs) (suc n) x is = from_there xs n x is

pub as_far : {A : Type 0} (xs : List A) (n : ℕ) (x : A) → slice_get xs n ≡ Some x → n ≡ length (take n xs)
as_far [] n x is = absurd (none-some x is)
as_far (y ∷ xs) zero x is = refl
as_far (y ∷ xs) (suc n) x is = ap suc (as_far xs n x is)

pub all_taken : {A : Type 0} (xs : List A) (n : ℕ) → slice_get xs n ≡ None → take n xs ≡ xs
all_taken [] zero past = refl
all_taken [] (suc n) past = refl
all_taken (x ∷ xs) zero past = absurd (none-some x (sym past))
all_taken (x ∷ xs) (suc n) past = ap (λ zs. x ∷ zs) (all_taken xs n past)

pub none_behind : {A : Type 0} (xs : List A) (n : ℕ) → slice_get xs n ≡ None → drop n xs ≡ []
none_behind [] zero past = refl
none_behind [] (suc n) past = refl
none_behind (x ∷ xs) zero past = absurd (none-some x (sym past))
none_behind (x ∷ xs) (suc n) past = none_behind xs n past

-- ---- the points of positions

going_none : (ks : List ℕ) (names : Env) (n k : ℕ) → slice_get ks n ≡ Some k → slice_get (going ks [] names) n ≡ Some (under names k)
going_none [] names n k at = absurd (none-some k at)
going_none (j ∷ ks) names zero k at = ap (λ i. Some (under names i)) (same_some at)
going_none (j ∷ ks) names (suc n) k at = going_none ks names n k at

pub point_at : (ks : List ℕ) (cs : List (Option Cont)) (names : Env) (n k : ℕ) → slice_get ks n ≡ Some k → IsSteady (take n cs) names → slice_get (going ks cs names) n ≡ Some (under names k)
point_at [] cs names n k at steady = absurd (none-some k at)
point_at (j ∷ ks) [] names n k at steady = going_none (j ∷ ks) names n k at
point_at (j ∷ ks) (c ∷ cs) names zero k at steady = ap (λ i. Some (under names i)) (same_some at)
point_at (j ∷ ks) (None ∷ cs) names (suc n) k at steady = point_at ks cs names n k at steady
point_at (j ∷ ks) (Some c ∷ cs) names (suc n) k at steady = ap (λ e. slice_get (going ks cs e) n) steady.0 ∙ point_at ks cs names n k at steady.1

pub no_point : (ks : List ℕ) (cs : List (Option Cont)) (names : Env) (n : ℕ) → slice_get ks n ≡ None → slice_get (going ks cs names) n ≡ None
no_point [] cs names n past = refl
no_point (k ∷ ks) cs names zero past = absurd (none-some k (sym past))
no_point (k ∷ ks) [] names (suc n) past = no_point ks [] names n past
no_point (k ∷ ks) (c ∷ cs) names (suc n) past = no_point ks cs (narrowed c names) n past

-- behind all positions what is left is what the continuation behind them keeps, if there is one
pub left_behind : (ks : List ℕ) (cs : List (Option Cont)) (names : Env) (n : ℕ) → slice_get ks n ≡ None → IsSteady (take n cs) names → behind ks cs names ≡ narrowed (option_flatten (slice_get cs (length ks))) names
left_behind [] [] names n past steady = refl
left_behind [] (c ∷ cs) names n past steady = refl
left_behind (k ∷ ks) cs names zero past steady = absurd (none-some k (sym past))
left_behind (k ∷ ks) [] names (suc n) past steady = refl
left_behind (k ∷ ks) (None ∷ cs) names (suc n) past steady = left_behind ks cs names n past steady
left_behind (k ∷ ks) (Some c ∷ cs) names (suc n) past steady = ap (behind ks cs) steady.0 ∙ left_behind ks cs names n past steady.1

-- a position without a continuation takes nothing
pub none_steady : (cs : List (Option Cont)) (names : Env) (n : ℕ) → option_flatten (slice_get cs n) ≡ None → IsSteady (take n cs) names → IsSteady (take (suc n) cs) names
none_steady [] names n none steady = tt
none_steady (None ∷ cs) names zero none steady = tt
none_steady (Some c ∷ cs) names zero none steady = absurd (none-some c (sym none))
none_steady (None ∷ cs) names (suc n) none steady = none_steady cs names n none steady
none_steady (Some c ∷ cs) names (suc n) none steady = (steady.0, none_steady cs names n none steady.1)

-- ---- what is kept

among_so : (xs : List ℕ) (x : ℕ) → is_among xs x ≡ true → Among x xs
among_so [] x is = let wrong : false ≡ true = is in cc
among_so (y ∷ xs) x is = by_test (y == x) refl (among_so xs x) is
  where
    by_test : (b : Bool) → y == x ≡ b → (is_among xs x ≡ true → Among x xs) → (b || is_among xs x) ≡ true → Among x (y ∷ xs)
    by_test true same later is = subst (λ z. Among x (z ∷ xs)) (sym (eqb-true y x same)) used.here
    by_test false other later is = used.later (later is)

-- some of the names that are there, where these are others among them
pub only_more : (xs ys : List ℕ) (names : Env) → ((x : ℕ) → Among x ys → Among x xs) → only ys names ≡ names → only xs names ≡ names
only_more xs ys names within are = same_names (only xs names) names (λ x. by_test x (is_among ys x) refl)
  where
    nothing_else : (b : Bool) → ◌≡◌ {A = Option Value} (cond b None None) None
    nothing_else true = refl
    nothing_else false = refl

    missing : (x : ℕ) → is_among ys x ≡ false → lookup names x ≡ None
    missing x other = ap (λ e. lookup e x) (sym are) ∙ only_lookup ys names x ∙ ap (λ b. cond b (lookup names x) None) other

    by_test : (x : ℕ) (b : Bool) → is_among ys x ≡ b → lookup (only xs names) x ≡ lookup names x
    by_test x true is = only_keeps xs names x (within x (among_so ys x is))
    by_test x false other = only_lookup xs names x ∙ ap (λ o. cond (is_among xs x) o None) (missing x other) ∙ nothing_else (is_among xs x) ∙ sym (missing x other)

not_bound : (names : Env) (xs : List ℕ) (values : List Value) (x : ℕ) → is_among xs x ≡ false → lookup (bind_each names xs values) x ≡ lookup names x
not_bound names [] values x other = refl
not_bound names (y ∷ xs) [] x other = refl
not_bound names (y ∷ xs) (v ∷ values) x other = by_test (y == x) refl (not_bound (bind y v names) xs values x) other
  where
    by_test : (b : Bool) → y == x ≡ b → (is_among xs x ≡ false → lookup (bind_each (bind y v names) xs values) x ≡ lookup (bind y v names) x) → (b || is_among xs x) ≡ false → lookup (bind_each (bind y v names) xs values) x ≡ lookup names x
    by_test true same later is = let wrong : true ≡ false = is in cc
    by_test false apart later is = later is ∙ bound y v names x ∙ ap (λ b. cond b (Some v) (lookup names x)) apart

-- names that were bound are these alone
pub only_bound : (xs : List ℕ) (values : List Value) → only xs (bind_each no_names xs values) ≡ bind_each no_names xs values
only_bound xs values = same_names _ _ (λ x. only_lookup xs (bind_each no_names xs values) x ∙ by_test x (is_among xs x) refl)
  where
    by_test : (x : ℕ) (b : Bool) → is_among xs x ≡ b → cond b (lookup (bind_each no_names xs values) x) None ≡ lookup (bind_each no_names xs values) x
    by_test x true is = refl
    by_test x false other = sym (not_bound no_names xs values x other ∙ get-empty nat_cmp x)

-- ---- the continuations of a node

module _ (f : Forms) (form : Form) where
  pub further_behind : (k : ℕ) (ks : List ℕ) (x : ℕ) → UsedBehind f form ks x → UsedBehind f form (k ∷ ks) x
  further_behind k ks x (inl uses) = inl (used.others uses)
  further_behind k ks x (inr uses) = inr uses

  -- what the continuation of a position keeps, or is none where the position is plain
  pub keeps_at : (ks : List ℕ) (cs : List (Option Cont)) → AreKept f form ks cs → (n k : ℕ) → slice_get ks n ≡ Some k → (cont : Cont) → option_flatten (slice_get cs n) ≡ Some cont → KeepsJust (UsedBehind f form (drop (suc n) ks)) cont
  keeps_at [] cs kept n k at cont is = absurd (none-some k at)
  keeps_at (j ∷ ks) [] kept n k at cont is = absurd kept
  keeps_at (j ∷ ks) (None ∷ cs) kept zero k at cont is = absurd (none-some cont is)
  keeps_at (j ∷ ks) (Some c ∷ cs) kept zero k at cont is = subst (KeepsJust (UsedBehind f form ks)) (same_some is) kept.1
  keeps_at (j ∷ ks) (None ∷ cs) kept (suc n) k at cont is = keeps_at ks cs kept.1 n k at cont is
  keeps_at (j ∷ ks) (Some c ∷ cs) kept (suc n) k at cont is = keeps_at ks cs kept.2 n k at cont is

  pub plain_at : (ks : List ℕ) (cs : List (Option Cont)) → AreKept f form ks cs → (n k : ℕ) → slice_get ks n ≡ Some k → option_flatten (slice_get cs n) ≡ None → plain_in f (form_at f k) ≡ true
  plain_at [] cs kept n k at none = absurd (none-some k at)
  plain_at (j ∷ ks) [] kept n k at none = absurd kept
  plain_at (j ∷ ks) (None ∷ cs) kept zero k at none = subst (λ i. plain_in f (form_at f i) ≡ true) (same_some at) kept.0
  plain_at (j ∷ ks) (Some c ∷ cs) kept zero k at none = absurd (none-some c (sym none))
  plain_at (j ∷ ks) (None ∷ cs) kept (suc n) k at none = plain_at ks cs kept.1 n k at none
  plain_at (j ∷ ks) (Some c ∷ cs) kept (suc n) k at none = plain_at ks cs kept.2 n k at none

  pub none_at : (ks : List ℕ) (cs : List (Option Cont)) → AreKept f form ks cs → (n k : ℕ) → slice_get ks n ≡ Some k → plain_in f (form_at f k) ≡ true → option_flatten (slice_get cs n) ≡ None
  none_at [] cs kept n k at plain = absurd (none-some k at)
  none_at (j ∷ ks) [] kept n k at plain = absurd kept
  none_at (j ∷ ks) (None ∷ cs) kept zero k at plain = refl
  none_at (j ∷ ks) (Some c ∷ cs) kept zero k at plain = absurd (let wrong : true ≡ false = sym plain ∙ ap (λ i. plain_in f (form_at f i)) (sym (same_some at)) ∙ kept.0 in cc)
  none_at (j ∷ ks) (None ∷ cs) kept (suc n) k at plain = none_at ks cs kept.1 n k at plain
  none_at (j ∷ ks) (Some c ∷ cs) kept (suc n) k at plain = none_at ks cs kept.2 n k at plain

  -- positions and their continuations go side by side
  pub matched_at : (ks : List ℕ) (cs : List (Option Cont)) → AreKept f form ks cs → (n k : ℕ) → slice_get ks n ≡ Some k → AreMatched (take n ks) (take n cs)
  matched_at [] cs kept n k at = absurd (none-some k at)
  matched_at (j ∷ ks) [] kept n k at = absurd kept
  matched_at (j ∷ ks) (c ∷ cs) kept zero k at = tt
  matched_at (j ∷ ks) (None ∷ cs) kept (suc n) k at = matched_at ks cs kept.1 n k at
  matched_at (j ∷ ks) (Some c ∷ cs) kept (suc n) k at = matched_at ks cs kept.2 n k at

  -- the continuation behind all positions keeps what is used behind them
  turn_keeps : (o : Option ℕ) (cs : List (Option Cont)) → IsTurnKept f form o cs → (n : ℕ) (cont : Cont) → option_flatten (slice_get cs n) ≡ Some cont → KeepsJust (UsedBehind f form []) cont
  turn_keeps None [] kept n cont is = absurd (none-some cont is)
  turn_keeps None (d ∷ cs) kept n cont is = absurd kept
  turn_keeps (Some body) [] kept n cont is = absurd kept
  turn_keeps (Some body) (None ∷ []) kept zero cont is = absurd (none-some cont is)
  turn_keeps (Some body) (None ∷ []) kept (suc n) cont is = absurd (none-some cont is)
  turn_keeps (Some body) (None ∷ d ∷ cs) kept n cont is = absurd kept
  turn_keeps (Some body) (Some d ∷ []) kept zero cont is = subst (KeepsJust (UsedBehind f form [])) (same_some is) kept.1
  turn_keeps (Some body) (Some d ∷ []) kept (suc n) cont is = absurd (none-some cont is)
  turn_keeps (Some body) (Some d ∷ e ∷ cs) kept n cont is = absurd kept

  pub keeps_behind : (ks : List ℕ) (cs : List (Option Cont)) → AreKept f form ks cs → (n : ℕ) → slice_get ks n ≡ None → (cont : Cont) → option_flatten (slice_get cs n) ≡ Some cont → KeepsJust (UsedBehind f form []) cont
  keeps_behind [] cs kept n past cont is = turn_keeps (turned form.kind form.tails) cs kept n cont is
  keeps_behind (k ∷ ks) cs kept zero past cont is = absurd (none-some k (sym past))
  keeps_behind (k ∷ ks) [] kept (suc n) past cont is = absurd kept
  keeps_behind (k ∷ ks) (None ∷ cs) kept (suc n) past cont is = keeps_behind ks cs kept.1 n past cont is
  keeps_behind (k ∷ ks) (Some c ∷ cs) kept (suc n) past cont is = keeps_behind ks cs kept.2 n past cont is

  -- what any of these continuations keeps is used behind where they begin
  kept_used : (ks : List ℕ) (cs : List (Option Cont)) → AreKept f form ks cs → (n : ℕ) (cont : Cont) → option_flatten (slice_get cs n) ≡ Some cont → (x : ℕ) → Among x (names_of cont.keeps) → UsedBehind f form ks x
  kept_used [] cs kept n cont is x among = ((turn_keeps (turned form.kind form.tails) cs kept n cont is).just x).0 among
  kept_used (k ∷ ks) [] kept n cont is x among = absurd kept
  kept_used (k ∷ ks) (None ∷ cs) kept zero cont is x among = absurd (none-some cont is)
  kept_used (k ∷ ks) (Some c ∷ cs) kept zero cont is x among = further_behind k ks x (((subst (KeepsJust (UsedBehind f form ks)) (same_some is) kept.1).just x).0 among)
  kept_used (k ∷ ks) (None ∷ cs) kept (suc n) cont is x among = further_behind k ks x (kept_used ks cs kept.1 n cont is x among)
  kept_used (k ∷ ks) (Some c ∷ cs) kept (suc n) cont is x among = further_behind k ks x (kept_used ks cs kept.2 n cont is x among)

  turn_steady : (o : Option ℕ) (cs : List (Option Cont)) → IsTurnKept f form o cs → (n : ℕ) (cont : Cont) → option_flatten (slice_get cs n) ≡ Some cont → (names : Env) → only (names_of cont.keeps) names ≡ names → IsSteady (take (suc n) cs) names
  turn_steady None [] kept n cont is names own = tt
  turn_steady None (d ∷ cs) kept n cont is names own = absurd kept
  turn_steady (Some body) [] kept n cont is names own = absurd kept
  turn_steady (Some body) (None ∷ []) kept zero cont is names own = tt
  turn_steady (Some body) (None ∷ []) kept (suc n) cont is names own = tt
  turn_steady (Some body) (None ∷ d ∷ cs) kept n cont is names own = absurd kept
  turn_steady (Some body) (Some d ∷ []) kept zero cont is names own = (subst (λ (one : Cont). only (names_of one.keeps) names ≡ names) (sym (same_some is)) own, tt)
  turn_steady (Some body) (Some d ∷ []) kept (suc n) cont is names own = absurd (none-some cont is)
  turn_steady (Some body) (Some d ∷ e ∷ cs) kept n cont is names own = absurd kept

  -- names that are kept by a continuation are steady for all up to it
  pub own_steady : (ks : List ℕ) (cs : List (Option Cont)) → AreKept f form ks cs → (n : ℕ) (cont : Cont) → option_flatten (slice_get cs n) ≡ Some cont → (names : Env) → only (names_of cont.keeps) names ≡ names → IsSteady (take (suc n) cs) names
  own_steady [] cs kept n cont is names own = turn_steady (turned form.kind form.tails) cs kept n cont is names own
  own_steady (k ∷ ks) [] kept n cont is names own = absurd kept
  own_steady (k ∷ ks) (None ∷ cs) kept zero cont is names own = tt
  own_steady (k ∷ ks) (Some c ∷ cs) kept zero cont is names own = (subst (λ (one : Cont). only (names_of one.keeps) names ≡ names) (sym (same_some is)) own, tt)
  own_steady (k ∷ ks) (None ∷ cs) kept (suc n) cont is names own = own_steady ks cs kept.1 n cont is names own
  own_steady (k ∷ ks) (Some c ∷ cs) kept (suc n) cont is names own =
      (only_more (names_of c.keeps) (names_of cont.keeps) names (λ x among. (kept.1.just x).1 (kept_used ks cs kept.2 n cont is x among)) own, own_steady ks cs kept.2 n cont is names own)

-- ---- frames

-- What a frame keeps under the names of its continuation is steady for it and for all before it.
pub frame_steady : (c : CodeTables) → AreSound c → (h : Home) (form : Form) (cont : Cont) → form_at c.forms h.node ≡ Some form → cont_at c h ≡ Some cont → (kept : List Value)
    → IsSteady (take (suc h.position) (conts_at c.conts h.node)) (kept_names c cont kept)
frame_steady c sound h form cont there is kept =
    own_steady c.forms form form.parts (conts_at c.conts h.node) (sound.named.each h.node form there) h.position cont is (kept_names c cont kept) (only_bound (names_of cont.keeps) kept)
