-- What a continuation keeps of the names is enough: a frame at its position goes on alike, and where the kept values are bound anew,
-- the kept names have them again.
use Rattle.std.proofs.Common.{◌≡◌, refl, sym, ap, ◌∙◌, ℕ, suc, Bool, true, false, cond, ◌==◌, List, [], ◌∷◌, ◌++◌, Option, Some, None, drop, length, length-append, add-one, append-nil, slice_get}
use Rattle.std.specs.Prelude.{◌||◌}
use Rattle.std.proofs.lemmas.Bool.{eqb-true}
use Rattle.std.proofs.lemmas.Option.{none-some}
use Rattle.std.specs.FinMap.{get-empty}
use Rattle.std.specs.Ordering.{nat_cmp}
use Rattle.lk_ast.specs.declared.place.Loc.{Loc}
use Rattle.lk_ast.specs.declared.value.Value.{Value}
use Rattle.lk_evaluation.specs.Evaluation.{Act, Language, all_parts, eval, perform}
use Rattle.lk_evaluation.specs.Run.{Run, Out, and_then}
use Rattle.lk_locals.specs.Names.{with_value}
use Rattle.lk_moves.specs.Frames.{Part, continued, handed_by}
use Rattle.lk_ir.proofs.Lookups.{bound, only_lookup, same_names}
use Rattle.lk_ir.specs.Continuing.{act_in, behind, continuing, conts_at, going, is_among, only, parts_in}
use Rattle.lk_ir.specs.Environments.{Env, bind, bind_each, lookup, lookup_all, no_names}
use Rattle.lk_ir.specs.Law.{AreMatched, IsContAt, IsSteady, IsTurnAt}
use Rattle.lk_ir.specs.LetNormal.{Point, act, under}
use Rattle.lk_ir.specs.Tables.{names_of}
use Rattle.lk_ir.specs.declared.nodes.Cont.{Cont}
use Rattle.lk_ir.specs.declared.nodes.Conts.{Conts}
use Rattle.lk_ir.specs.declared.nodes.Forms.{Forms}

swapped : {A : Type 0} (a b : Bool) (o : Option A) → cond a (cond b o None) None ≡ cond b (cond a o None) None
swapped true true o = refl
swapped true false o = refl
swapped false true o = refl
swapped false false o = refl

doubled : {A : Type 0} (a : Bool) (o : Option A) → cond a (cond a o None) None ≡ cond a o None
doubled true o = refl
doubled false o = refl

pub only_swap : (xs ys : List ℕ) (names : Env) → only xs (only ys names) ≡ only ys (only xs names)
only_swap xs ys names = same_names _ _ (λ x.
    only_lookup xs (only ys names) x ∙ ap (λ o. cond (is_among xs x) o None) (only_lookup ys names x) ∙ swapped (is_among xs x) (is_among ys x) (lookup names x)
    ∙ sym (only_lookup ys (only xs names) x ∙ ap (λ o. cond (is_among ys x) o None) (only_lookup xs names x)))

pub only_again : (xs : List ℕ) (names : Env) → only xs (only xs names) ≡ only xs names
only_again xs names = same_names _ _ (λ x. only_lookup xs (only xs names) x ∙ ap (λ o. cond (is_among xs x) o None) (only_lookup xs names x) ∙ doubled (is_among xs x) (lookup names x) ∙ sym (only_lookup xs names x))

pub kept_steady : (cs : List (Option Cont)) (xs : List ℕ) (names : Env) → IsSteady cs names → IsSteady cs (only xs names)
kept_steady [] xs names is = tt
kept_steady (None ∷ cs) xs names is = kept_steady cs xs names is
kept_steady (Some c ∷ cs) xs names is = (only_swap (names_of c.keeps) xs names ∙ ap (only xs) is.0, kept_steady cs xs names is.1)

-- behind a position with a continuation, the points are those of the names that it keeps
pub points_behind : (ks ls : List ℕ) (k : ℕ) (cs ds : List (Option Cont)) (c : Cont) → AreMatched ks cs → (names : Env) → IsSteady cs names
    → drop (suc (length ks)) (going (ks ++ k ∷ ls) (cs ++ Some c ∷ ds) names) ≡ going ls ds (only (names_of c.keeps) names)
points_behind [] ls k [] ds c m names is = refl
points_behind [] ls k (d ∷ cs) ds c m names is = absurd m
points_behind (j ∷ ks) ls k [] ds c m names is = absurd m
points_behind (j ∷ ks) ls k (None ∷ cs) ds c m names is = points_behind ks ls k cs ds c m names is
points_behind (j ∷ ks) ls k (Some d ∷ cs) ds c m names is = ap (λ e. drop (suc (length ks)) (going (ks ++ k ∷ ls) (cs ++ Some c ∷ ds) e)) is.0 ∙ points_behind ks ls k cs ds c m names is.1

-- from a position on, the names are narrowed as those there
pub behind_there : (ks ls : List ℕ) (cs ds : List (Option Cont)) → AreMatched ks cs → (names : Env) → IsSteady cs names → behind (ks ++ ls) (cs ++ ds) names ≡ behind ls ds names
behind_there [] ls [] ds m names is = refl
behind_there [] ls (c ∷ cs) ds m names is = absurd m
behind_there (k ∷ ks) ls [] ds m names is = absurd m
behind_there (k ∷ ks) ls (None ∷ cs) ds m names is = behind_there ks ls cs ds m names is
behind_there (k ∷ ks) ls (Some c ∷ cs) ds m names is = ap (behind (ks ++ ls) (cs ++ ds)) is.0 ∙ behind_there ks ls cs ds m names is.1

-- all names and those that a continuation keeps lead to the same points behind its position
pub same_points : (ks ls : List ℕ) (k : ℕ) (cs ds : List (Option Cont)) (c : Cont) → AreMatched ks cs → (names : Env) → IsSteady cs names
    → drop (suc (length ks)) (going (ks ++ k ∷ ls) (cs ++ Some c ∷ ds) names) ≡ drop (suc (length ks)) (going (ks ++ k ∷ ls) (cs ++ Some c ∷ ds) (only (names_of c.keeps) names))
same_points ks ls k cs ds c m names is =
    let xs = names_of c.keeps in
    points_behind ks ls k cs ds c m names is
    ∙ ap (going ls ds) (sym (only_again xs names))
    ∙ sym (points_behind ks ls k cs ds c m (only xs names) (kept_steady cs xs names is))

-- and leave the same names
pub same_behind : (ks ls : List ℕ) (k : ℕ) (cs ds : List (Option Cont)) (c : Cont) → AreMatched ks cs → (names : Env) → IsSteady cs names
    → behind (ks ++ k ∷ ls) (cs ++ Some c ∷ ds) names ≡ behind (ks ++ k ∷ ls) (cs ++ Some c ∷ ds) (only (names_of c.keeps) names)
same_behind ks ls k cs ds c m names is =
    let xs = names_of c.keeps in
    behind_there ks (k ∷ ls) cs (Some c ∷ ds) m names is
    ∙ ap (behind ls ds) (sym (only_again xs names))
    ∙ sym (behind_there ks (k ∷ ls) cs (Some c ∷ ds) m (only xs names) (kept_steady cs xs names is))

-- the position itself
position_there : (ks ls : List ℕ) (k : ℕ) (cs ds : List (Option Cont)) (c : Cont) → AreMatched ks cs → (names : Env) → IsSteady cs names
    → slice_get (going (ks ++ k ∷ ls) (cs ++ Some c ∷ ds) names) (length ks) ≡ Some (under names k)
position_there [] ls k [] ds c m names is = refl
position_there [] ls k (d ∷ cs) ds c m names is = absurd m
position_there (j ∷ ks) ls k [] ds c m names is = absurd m
position_there (j ∷ ks) ls k (None ∷ cs) ds c m names is = position_there ks ls k cs ds c m names is
position_there (j ∷ ks) ls k (Some d ∷ cs) ds c m names is =
    ap (λ e. slice_get (going (ks ++ k ∷ ls) (cs ++ Some c ∷ ds) e) (length ks)) is.0 ∙ position_there ks ls k cs ds c m names is.1

-- ---- frames

module _ (f : Forms) (all : List Conts) (n : ℕ) (done : List Value) (place : Loc) (v : Value) (r : Run) where
  abbrev language : Language
  language = continuing f all

  -- what is done with these points that are left, one that hands its value on if it is there, and this act
  abbrev goes_on : List Point → Option Point → (List Value → Act Point) → Out Value
  goes_on points one act = and_then (all_parts language (eval language) points place (done ++ v ∷ []) (handed_by language one r)) (λ values s. perform language (eval language) place (act values) s)

  module _ (c : Cont) (names : Env) (at : IsContAt f all n (length done) c names) where
    abbrev ps : List ℕ
    ps = at.earlier ++ at.position ∷ at.later

    abbrev cs : List (Option Cont)
    cs = at.first ++ Some c ∷ at.rest

    points_are : (env : Env) → language.parts (under env n) ≡ going ps cs env
    points_are env = ap (λ o. parts_in f all o n env) at.there ∙ ap (λ ks. going ks (conts_at all n) env) at.parts ∙ ap (λ ds. going ps ds env) at.conts

    abbrev acting : List ℕ → List (Option Cont) → Env → List Value → Act Point
    acting ks ds env = λ values. act f at.form.at at.form.kind at.form.tails (behind ks ds env) values

    acts_are : (env : Env) → language.act (under env n) ≡ acting ps cs env
    acts_are env = ap (λ o. λ values. act_in f all o n env values) at.there ∙ ap (λ ks. acting ks (conts_at all n) env) at.parts ∙ ap (λ ds. acting ps ds env) at.conts

    -- the frame by the names that are left
    frame_is : (env : Env) → IsSteady at.first env → continued language (Part (under env n) done place) v r ≡ goes_on (drop (length (done ++ v ∷ [])) (going ps cs env)) (Some (under env at.position)) (acting ps cs env)
    frame_is env steady =
        ap (λ qs. goes_on (drop (length (done ++ v ∷ [])) qs) (slice_get qs (length done)) (language.act (under env n))) (points_are env)
        ∙ ap (λ m. goes_on (drop (length (done ++ v ∷ [])) (going ps cs env)) (slice_get (going ps cs env) m) (language.act (under env n))) at.many
        ∙ ap (λ o. goes_on (drop (length (done ++ v ∷ [])) (going ps cs env)) o (language.act (under env n))) (position_there at.earlier at.later at.position at.first at.rest c at.matched env steady)
        ∙ ap (goes_on (drop (length (done ++ v ∷ [])) (going ps cs env)) (Some (under env at.position))) (acts_are env)

    one_further : (xs : List Point) → drop (length (done ++ v ∷ [])) xs ≡ drop (suc (length at.earlier)) xs
    one_further xs = ap (λ m. drop m xs) (length-append done (v ∷ []) ∙ add-one (length done) ∙ ap suc at.many)

    pub resumes : continued language (Part (under names n) done place) v r ≡ continued language (Part (under (only (names_of c.keeps) names) n) done place) v r
    resumes =
        let kept : Env = only (names_of c.keeps) names in
        frame_is names at.steady
        ∙ ap (λ qs. goes_on qs (Some (under names at.position)) (acting ps cs names))
        (one_further (going ps cs names) ∙ same_points at.earlier at.later at.position at.first at.rest c at.matched names at.steady ∙ sym (one_further (going ps cs kept)))
        ∙ ap (λ env. goes_on (drop (length (done ++ v ∷ [])) (going ps cs kept)) (Some (under names at.position)) (λ values. act f at.form.at at.form.kind at.form.tails env values))
        (same_behind at.earlier at.later at.position at.first at.rest c at.matched names at.steady)
        ∙ sym (frame_is kept (kept_steady at.first (names_of c.keeps) names at.steady))

-- ---- turns

module _ (f : Forms) (all : List Conts) (n : ℕ) (c : Cont) (names : Env) (at : IsTurnAt f all n c names) where
  abbrev turning : List (Option Cont) → Env → List Value → Act Point
  turning ds env values = act f at.form.at at.form.kind at.form.tails (behind at.form.parts ds env) values

  turning_is : (env : Env) (values : List Value) → (continuing f all).act (under env n) values ≡ turning (at.first ++ Some c ∷ []) env values
  turning_is env values = ap (λ o. act_in f all o n env values) at.there ∙ ap (λ ds. turning ds env values) at.conts

  turn_left : (env : Env) → IsSteady at.first env → behind at.form.parts (at.first ++ Some c ∷ []) env ≡ only (names_of c.keeps) env
  turn_left env steady = ap (λ ks. behind ks (at.first ++ Some c ∷ []) env) (sym (append-nil at.form.parts)) ∙ behind_there at.form.parts [] at.first (Some c ∷ []) at.matched env steady

  pub turns : (values : List Value) → (continuing f all).act (under names n) values ≡ (continuing f all).act (under (only (names_of c.keeps) names) n) values
  turns values =
      let xs = names_of c.keeps in
      turning_is names values
      ∙ ap (λ env. act f at.form.at at.form.kind at.form.tails env values) (turn_left names at.steady ∙ sym (only_again xs names) ∙ sym (turn_left (only xs names) (kept_steady at.first xs names at.steady)))
      ∙ sym (turning_is (only xs names) values)

-- ---- the values that a frame holds

looked_each : (o : Option Value) (rest : Option (List Value)) (kept : List Value) → with_value o rest ≡ Some kept → (v : Value) × (values : List Value) × (o ≡ Some v) × (rest ≡ Some values) × (kept ≡ v ∷ values)
looked_each None rest kept is = absurd (none-some kept is)
looked_each (Some v) None kept is = absurd (none-some kept is)
looked_each (Some v) (Some values) kept is = (v, values, refl, refl, cc)

bound_again : (names acc : Env) (xs : List ℕ) (kept : List Value) → lookup_all names xs ≡ Some kept → (y : ℕ) → lookup (bind_each acc xs kept) y ≡ cond (is_among xs y) (lookup names y) (lookup acc y)
bound_again names acc [] kept is y = refl
bound_again names acc (x ∷ xs) kept is y =
    let parts = looked_each (lookup names x) (lookup_all names xs) kept is in
    ap (λ all. lookup (bind_each acc (x ∷ xs) all) y) parts.4
    ∙ bound_again names (bind x parts.0 acc) xs parts.1 parts.3 y
    ∙ ap (cond (is_among xs y) (lookup names y)) (bound x parts.0 acc y)
    ∙ by_test (x == y) refl (is_among xs y) parts.0 parts.2
  where
    by_test : (b : Bool) → x == y ≡ b → (a : Bool) → (v : Value) → lookup names x ≡ Some v → cond a (lookup names y) (cond b (Some v) (lookup acc y)) ≡ cond (b || a) (lookup names y) (lookup acc y)
    by_test true same true v is = refl
    by_test true same false v is = sym is ∙ ap (lookup names) (eqb-true x y same)
    by_test false same true v is = refl
    by_test false same false v is = refl

-- what a continuation keeps of names, made anew from the kept values
pub kept_again : (names : Env) (xs : List ℕ) (kept : List Value) → lookup_all names xs ≡ Some kept → only xs names ≡ bind_each no_names xs kept
kept_again names xs kept is = same_names _ _ (λ y.
    only_lookup xs names y
    ∙ ap (cond (is_among xs y) (lookup names y)) (sym (get-empty nat_cmp y))
    ∙ sym (bound_again names no_names xs kept is y))
