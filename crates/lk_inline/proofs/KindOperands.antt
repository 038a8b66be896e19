-- The kind of a part over one, two or three others, by theirs.
use Rattle.std.proofs.Common.{◌≡◌, ℕ, ◌<◌, Bool, false, List, [], ◌∷◌, length, map, sym, ◌∙◌, subst}
use Rattle.lk_ast.specs.declared.expression.Expr.{Expr}
use Rattle.lk_bodies.specs.Walk.{Calls, Made, Several, State, add, all, behind_type, one, three, two, walk}
use Rattle.lk_inline.proofs.KindSteps.{IsNext, finished_kinded, from_behind_type, next_has, with_part}
use Rattle.lk_inline.proofs.KindsMade.{AreKinded, Descriptions, IsKinded, IsSeen, Scope, kinds_of, scopes_of}
use Rattle.lk_inline.specs.KindsOfTypes.{kind_of_type}
use Rattle.lk_query.specs.Changed.{reads_table}
use Rattle.lk_query.specs.Kinds.{Has, HasColumns, Kind}
use Rattle.lk_query.specs.Order.{Below}
use Rattle.lk_query.specs.declared.part.Part.{Part}
use Rattle.lk_sites.specs.Pending.{Pending}
use Rattle.lk_types.specs.declared.ground.Ground.{Ground}
use Rattle.lk_typing.specs.Names.{Named}

-- an own part of a part that looks at what is in scope, by its type
pub own_part : (known : Descriptions) (n : ℕ) (kind : Kind) (scope : Scope) (u : Ground) (own : Kind) (k : ℕ) → kind_of_type u ≡ own → k < n → IsSeen known scope (kind_of_type u) k
    → Has (kinds_of (with_part known n kind scope)) (scopes_of (with_part known n kind scope)) n own k
own_part known n kind scope u own k is l seen = next_has known n kind scope scope own k (λ j looked. looked) l (seen.0 ∙ is, seen.1)

module _ (scope : Scope) (scans : Bool) (makes : Calls) (e : Expr) (numbers : Named ℕ) (known : Descriptions) (s : State) (q : Pending) where
  abbrev pub Here : Ground → Type 0
  Here t = IsKinded scope scans t known s q (walk makes e numbers s)

  abbrev pub Own : List Ground → List Expr → Type 0
  Own ts es = AreKinded scope scans ts known (behind_type s) q (all (map (walk makes) es) numbers (behind_type s))

  -- a part that has none of its own
  pub leaf_kinded : (t : Ground) (x : Part) → walk makes e numbers s ≡ add x (behind_type s) → Own [] [] → ((n : ℕ) → Below n x) → ((known : Descriptions) (n : ℕ) → IsNext known n (kind_of_type t) scope x) → HasColumns (kind_of_type t)
      → (scans ≡ false → reads_table x ≡ false) → Here t
  leaf_kinded t x walk_is are below is has alone =
      subst (λ m. IsKinded scope scans t known s q m) (sym walk_is)
      (from_behind_type scope scans t known s q (add x (behind_type s))
      (finished_kinded scope scans t [] known (behind_type s) q (record { numbers = []; state = behind_type s }) x are (below (length s.parts)) (is are.later (length s.parts)) has alone))

  pub one_kinded : (a : Expr) (u t : Ground) (x : ℕ → Part) → walk makes e numbers s ≡ one x (walk makes a) numbers (behind_type s) → Own (u ∷ []) (a ∷ []) → ((n k : ℕ) → k < n → Below n (x k))
      → ((known : Descriptions) (n k : ℕ) → k < n → IsSeen known scope (kind_of_type u) k → IsNext known n (kind_of_type t) scope (x k)) → HasColumns (kind_of_type t) → ((k : ℕ) → reads_table (x k) ≡ false) → Here t
  one_kinded a u t x walk_is are below is has alone =
      let m : Several = all (walk makes a ∷ []) numbers (behind_type s) in
      let k : ℕ = (walk makes a numbers (behind_type s)).part in
      subst (λ m. IsKinded scope scans t known s q m) (sym walk_is)
      (from_behind_type scope scans t known s q (add (x k) m.state)
      (finished_kinded scope scans t (u ∷ []) known (behind_type s) q m (x k) are (below (length m.state.parts) k are.within.0) (is are.later (length m.state.parts) k are.within.0 are.are.0) has (λ off. alone k)))

  pub two_kinded : (a b : Expr) (u v t : Ground) (x : ℕ → ℕ → Part) → walk makes e numbers s ≡ two x (walk makes a) (walk makes b) numbers (behind_type s) → Own (u ∷ v ∷ []) (a ∷ b ∷ []) → ((n k l : ℕ) → k < n → l < n → Below n (x k l))
      → ((known : Descriptions) (n k l : ℕ) → k < n → l < n → IsSeen known scope (kind_of_type u) k → IsSeen known scope (kind_of_type v) l → IsNext known n (kind_of_type t) scope (x k l)) → HasColumns (kind_of_type t)
      → ((k l : ℕ) → reads_table (x k l) ≡ false) → Here t
  two_kinded a b u v t x walk_is are below is has alone =
      let m : Several = all (walk makes a ∷ walk makes b ∷ []) numbers (behind_type s) in
      let first : Made = walk makes a numbers (behind_type s) in
      let second : Made = walk makes b numbers first.state in
      subst (λ m. IsKinded scope scans t known s q m) (sym walk_is)
      (from_behind_type scope scans t known s q (add (x first.part second.part) m.state)
      (finished_kinded scope scans t (u ∷ v ∷ []) known (behind_type s) q m (x first.part second.part) are (below (length m.state.parts) first.part second.part are.within.0 are.within.1.0)
      (is are.later (length m.state.parts) first.part second.part are.within.0 are.within.1.0 are.are.0 are.are.1.0) has (λ off. alone first.part second.part)))

  pub three_kinded : (c a b : Expr) (w u v t : Ground) (x : ℕ → ℕ → ℕ → Part) → walk makes e numbers s ≡ three x (walk makes c) (walk makes a) (walk makes b) numbers (behind_type s) → Own (w ∷ u ∷ v ∷ []) (c ∷ a ∷ b ∷ [])
      → ((n j k l : ℕ) → j < n → k < n → l < n → Below n (x j k l))
      → ((known : Descriptions) (n j k l : ℕ) → j < n → k < n → l < n → IsSeen known scope (kind_of_type w) j → IsSeen known scope (kind_of_type u) k → IsSeen known scope (kind_of_type v) l → IsNext known n (kind_of_type t) scope (x j k l))
      → HasColumns (kind_of_type t) → ((j k l : ℕ) → reads_table (x j k l) ≡ false) → Here t
  three_kinded c a b w u v t x walk_is are below is has alone =
      let m : Several = all (walk makes c ∷ walk makes a ∷ walk makes b ∷ []) numbers (behind_type s) in
      let first : Made = walk makes c numbers (behind_type s) in
      let second : Made = walk makes a numbers first.state in
      let third : Made = walk makes b numbers second.state in
      subst (λ m. IsKinded scope scans t known s q m) (sym walk_is)
      (from_behind_type scope scans t known s q (add (x first.part second.part third.part) m.state)
      (finished_kinded scope scans t (w ∷ u ∷ v ∷ []) known (behind_type s) q m (x first.part second.part third.part) are
      (below (length m.state.parts) first.part second.part third.part are.within.0 are.within.1.0 are.within.1.1.0)
      (is are.later (length m.state.parts) first.part second.part third.part are.within.0 are.within.1.0 are.within.1.1.0 are.are.0 are.are.1.0 are.are.1.1.0) has (λ off. alone first.part second.part third.part)))
