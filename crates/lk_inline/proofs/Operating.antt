-- What a walk makes of operators, by what it makes of their parts.
use Rattle.std.proofs.Common.{◌≡◌, ℕ, ◌<◌, Bool, true, false, List, [], ◌∷◌, ◌++◌, length, map, Some, None, refl, sym, ◌∙◌, ap, ap₂, subst, arith}
use Rattle.lk_ast.specs.Tables.{Tables}
use Rattle.lk_ast.specs.declared.declaration.Program.{Program}
use Rattle.lk_ast.specs.declared.expression.Expr.{Expr}
use Rattle.lk_ast.specs.declared.value.Value.{Value}
use Rattle.lk_bag.proofs.Given.{all_given}
use Rattle.lk_bag.specs.Bag.{given}
use Rattle.lk_bodies.specs.Walk.{Calls, Made, Several, State, Walk, add, all, behind_type, one, two, three, walk}
use Rattle.lk_inline.proofs.Adding.{Grows, at_end, grows_both, grows_none, grows_one, ordered_add}
use Rattle.lk_inline.proofs.Making.{AreMade, AreStanding, HaveNumbers, IsAdded, IsMade, added, finished, left}
use Rattle.lk_inline.proofs.RecordRules.{StandEach}
use Rattle.lk_inline.specs.Stands.{Stands}
use Rattle.lk_locals.specs.Names.{Names}
use Rattle.lk_query.specs.Given.{Given, Gives, Values, given_level, gives}
use Rattle.lk_query.specs.Order.{AreOrdered, Below}
use Rattle.lk_query.specs.declared.part.Part.{Part}
use Rattle.lk_sites.specs.Pending.{Pending}
use Rattle.lk_sound.specs.Instances.{Instances}
use Rattle.lk_sound.specs.Points.{AreLocals}
use Rattle.lk_sound.specs.Values.{FitEach, Fits, none_left, one_more}
use Rattle.lk_types.specs.declared.ground.Ground.{Ground}
use Rattle.lk_typing.specs.Names.{Named}

module _ (p : Program) (i : Instances) (tables : Tables) (calls : List ℕ → List Value → Value) (makes : Calls) where
  abbrev give : Expr → Names → Value
  give = given tables calls

  -- behind a node's own type there are the same parts
  pub from_behind : (locals : Named Ground) (numbers : Named ℕ) (t : Ground) (value_of : Names → Value) (s : State) (q : Pending) (m : Made) → IsMade p i tables calls makes locals numbers t value_of (behind_type s) q m → IsMade p i tables calls makes locals numbers t value_of s q m
  from_behind locals numbers t value_of s q m is = record { left = is.left; grows = is.grows; ordered = is.ordered; within = is.within; means = is.means }

  -- what is given for a list of types, one by one
  pub fit_one : (v : Value) (t : Ground) → FitEach p i (v ∷ []) (t ∷ []) → Fits p i v t
  fit_one v t (one_more fits none_left) = fits

  pub fit_two : (v w : Value) (t u : Ground) → FitEach p i (v ∷ w ∷ []) (t ∷ u ∷ []) → Fits p i v t × Fits p i w u
  fit_two v w t u (one_more one (one_more other none_left)) = (one, other)

  pub fit_three : (v w z : Value) (t u y : Ground) → FitEach p i (v ∷ w ∷ z ∷ []) (t ∷ u ∷ y ∷ []) → Fits p i v t × Fits p i w u × Fits p i z y
  fit_three v w z t u y (one_more one (one_more other (one_more last none_left))) = (one, other, last)

  module _ (e : Expr) (locals : Named Ground) (numbers : Named ℕ) (s : State) (q : Pending) (have : HaveNumbers locals numbers s.parts) where
    abbrev pub IsMadeOf : Ground → Type 0
    IsMadeOf t = IsMade p i tables calls makes locals numbers t (give e) s q (walk makes e numbers s)

    abbrev pub AreMadeOf : List Ground → List Expr → Type 0
    AreMadeOf ts es = AreMade p i tables calls makes locals numbers ts (λ names. all_given tables calls names es) (behind_type s) q (all (map (walk makes) es) numbers (behind_type s))

    -- a part that has none of its own
    pub leaf_made : (t : Ground) (x : Part) → walk makes e numbers s ≡ add x (behind_type s) → left (behind_type s) ≡ q → AreOrdered s.parts → Below (length s.parts) x
        → ((names : Names) → AreLocals p i locals names → (own : ℕ → Gives) (n : ℕ) (values : Values) → Stands t (give e names) (given_level tables own n x values)) → IsMadeOf t
    leaf_made t x walk_is left_is ordered below stands =
        subst (λ r. IsMade p i tables calls makes locals numbers t (give e) s r (walk makes e numbers s)) left_is
        (subst (λ m. IsMade p i tables calls makes locals numbers t (give e) s (left (behind_type s)) m) (sym walk_is)
        (from_behind locals numbers t (give e) s (left (behind_type s)) (add x (behind_type s))
        (added p i tables calls makes locals numbers t (give e) (behind_type s) x ordered (record { below = below; means = λ values names fit standing. stands names fit (gives tables s.parts) (length s.parts) values }))))

    pub one_made : (a : Expr) (u t : Ground) (x : ℕ → Part) → walk makes e numbers s ≡ one x (walk makes a) numbers (behind_type s) → AreMadeOf (u ∷ []) (a ∷ []) → ((n k : ℕ) → k < n → Below n (x k))
        → ((names : Names) → AreLocals p i locals names → FitEach p i (all_given tables calls names (a ∷ [])) (u ∷ []))
        → ((names : Names) → AreLocals p i locals names → (own : ℕ → Gives) (n k : ℕ) (values : Values) → Fits p i (give a names) u → Stands u (give a names) (own k values)
        → Stands t (give e names) (given_level tables own n (x k) values)) → IsMadeOf t
    one_made a u t x walk_is are below fits stands =
        let m : Several = all (walk makes a ∷ []) numbers (behind_type s) in
        let k : ℕ = (walk makes a numbers (behind_type s)).part in
        subst (λ m. IsMade p i tables calls makes locals numbers t (give e) s q m) (sym walk_is)
        (from_behind locals numbers t (give e) s q (add (x k) m.state)
        (finished p i tables calls makes locals numbers t (u ∷ []) (give e) (λ names. all_given tables calls names (a ∷ [])) (behind_type s) q m (x k) have are (below (length m.state.parts) k are.within.0)
        (λ values names fit each. stands names fit (gives tables m.state.parts) (length m.state.parts) k values (fit_one (give a names) u (fits names fit)) each.0)))

    pub two_made : (a b : Expr) (u v t : Ground) (x : ℕ → ℕ → Part) → walk makes e numbers s ≡ two x (walk makes a) (walk makes b) numbers (behind_type s) → AreMadeOf (u ∷ v ∷ []) (a ∷ b ∷ []) → ((n k l : ℕ) → k < n → l < n → Below n (x k l))
        → ((names : Names) → AreLocals p i locals names → FitEach p i (all_given tables calls names (a ∷ b ∷ [])) (u ∷ v ∷ []))
        → ((names : Names) → AreLocals p i locals names → (own : ℕ → Gives) (n k l : ℕ) (values : Values) → Fits p i (give a names) u → Fits p i (give b names) v → Stands u (give a names) (own k values) → Stands v (give b names) (own l values)
        → Stands t (give e names) (given_level tables own n (x k l) values)) → IsMadeOf t
    two_made a b u v t x walk_is are below fits stands =
        let m : Several = all (walk makes a ∷ walk makes b ∷ []) numbers (behind_type s) in
        let first : Made = walk makes a numbers (behind_type s) in
        let second : Made = walk makes b numbers first.state in
        subst (λ m. IsMade p i tables calls makes locals numbers t (give e) s q m) (sym walk_is)
        (from_behind locals numbers t (give e) s q (add (x first.part second.part) m.state)
        (finished p i tables calls makes locals numbers t (u ∷ v ∷ []) (give e) (λ names. all_given tables calls names (a ∷ b ∷ [])) (behind_type s) q m (x first.part second.part) have are (below (length m.state.parts) first.part second.part are.within.0 are.within.1.0)
        (λ values names fit each.
        let both = fit_two (give a names) (give b names) u v (fits names fit) in
        stands names fit (gives tables m.state.parts) (length m.state.parts) first.part second.part values both.0 both.1 each.0 each.1.0)))

    pub three_made : (c a b : Expr) (u t : Ground) (v : Ground) (x : ℕ → ℕ → ℕ → Part) → walk makes e numbers s ≡ three x (walk makes c) (walk makes a) (walk makes b) numbers (behind_type s) → AreMadeOf (u ∷ v ∷ v ∷ []) (c ∷ a ∷ b ∷ []) → ((n j k l : ℕ) → j < n → k < n → l < n → Below n (x j k l))
        → ((names : Names) → AreLocals p i locals names → FitEach p i (all_given tables calls names (c ∷ a ∷ b ∷ [])) (u ∷ v ∷ v ∷ []))
        → ((names : Names) → AreLocals p i locals names → (own : ℕ → Gives) (n j k l : ℕ) (values : Values) → Fits p i (give c names) u → Fits p i (give a names) v → Fits p i (give b names) v
        → Stands u (give c names) (own j values) → Stands v (give a names) (own k values) → Stands v (give b names) (own l values) → Stands t (give e names) (given_level tables own n (x j k l) values)) → IsMadeOf t
    three_made c a b u t v x walk_is are below fits stands =
        let m : Several = all (walk makes c ∷ walk makes a ∷ walk makes b ∷ []) numbers (behind_type s) in
        let first : Made = walk makes c numbers (behind_type s) in
        let second : Made = walk makes a numbers first.state in
        let third : Made = walk makes b numbers second.state in
        subst (λ m. IsMade p i tables calls makes locals numbers t (give e) s q m) (sym walk_is)
        (from_behind locals numbers t (give e) s q (add (x first.part second.part third.part) m.state)
        (finished p i tables calls makes locals numbers t (u ∷ v ∷ v ∷ []) (give e) (λ names. all_given tables calls names (c ∷ a ∷ b ∷ [])) (behind_type s) q m (x first.part second.part third.part) have are
        (below (length m.state.parts) first.part second.part third.part are.within.0 are.within.1.0 are.within.1.1.0)
        (λ values names fit each.
        let all_three = fit_three (give c names) (give a names) (give b names) u v v (fits names fit) in
        stands names fit (gives tables m.state.parts) (length m.state.parts) first.part second.part third.part values all_three.0 all_three.1 all_three.2 each.0 each.1.0 each.1.1.0)))
