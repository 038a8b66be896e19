-- What a walk has made of an expression: parts at the end of those that were there, of which the last stands for what the
-- expression gives, where the parts of names stand for the names' values.
use Rattle.std.proofs.Common.{◌≡◌, ℕ, ◌+◌, ◌<◌, List, [], ◌∷◌, ◌++◌, length, map, Some, None, refl, sym, ◌∙◌, ap, ap₂, subst, arith}
use Rattle.lk_ast.specs.Tables.{Tables}
use Rattle.lk_ast.specs.declared.declaration.Program.{Program}
use Rattle.lk_ast.specs.declared.expression.Expr.{Expr}
use Rattle.lk_ast.specs.declared.value.Value.{Value}
use Rattle.lk_bag.proofs.Given.{all_given}
use Rattle.lk_bag.specs.Bag.{given}
use Rattle.lk_bodies.specs.Walk.{Calls, Made, Several, State, Walk, add, all, all_from, made, walk}
use Rattle.lk_inline.proofs.Adding.{Grows, at_end, grows_both, grows_none, grows_one, ordered_add, still_gives, still_stands, still_within}
use Rattle.lk_inline.proofs.RecordRules.{StandEach}
use Rattle.lk_inline.specs.Stands.{Stands}
use Rattle.lk_locals.specs.Names.{Names, lookup}
use Rattle.lk_query.proofs.Growing.{gives_last}
use Rattle.lk_query.specs.Given.{Given, Values, given_level, gives}
use Rattle.lk_query.specs.Order.{AreOrdered, Below}
use Rattle.lk_query.specs.declared.part.Part.{Part}
use Rattle.lk_sites.specs.Pending.{Pending, pending}
use Rattle.lk_sound.specs.Instances.{Instances}
use Rattle.lk_sound.specs.Points.{AreLocals}
use Rattle.lk_types.specs.Each.{Each}
use Rattle.lk_types.specs.Rows.{Label}
use Rattle.lk_types.specs.declared.ground.Ground.{Ground}
use Rattle.lk_typing.specs.Names.{Named, named}

-- what is still to come
abbrev pub left : State → Pending
left s = pending s.types s.calls

-- each name that has a type has a part
abbrev pub HaveNumbers : Named Ground → Named ℕ → List Part → Type 0
HaveNumbers locals numbers parts = (x : Label) (t : Ground) → named x locals ≡ Some t → (k : ℕ) × (named x numbers ≡ Some k) × (k < length parts)

pub numbers_grow : (locals : Named Ground) (numbers : Named ℕ) (parts later : List Part) → Grows parts later → HaveNumbers locals numbers parts → HaveNumbers locals numbers later
numbers_grow locals numbers parts later grows have x t is = let found = have x t is in (found.0, found.1, still_within grows found.0 found.2)

-- a number of a part for each type
abbrev pub AreWithin : List Ground → List ℕ → List Part → Type 0
AreWithin [] [] parts = Unit {0}
AreWithin (t ∷ ts) (k ∷ numbers) parts = (k < length parts) × AreWithin ts numbers parts
AreWithin ts numbers parts = ⊥

-- ---- parts one after another

behind_none : (xs : List ℕ) → xs ≡ xs ++ []
behind_none [] = refl
behind_none (x ∷ xs) = ap (λ rest. x ∷ rest) (behind_none xs)

rebracketed : (xs : List ℕ) (y : ℕ) (zs : List ℕ) → (xs ++ y ∷ []) ++ zs ≡ xs ++ (y ∷ zs)
rebracketed [] y zs = refl
rebracketed (x ∷ xs) y zs = ap (λ rest. x ∷ rest) (rebracketed xs y zs)

-- the numbers behind others
abbrev behind_numbers : List ℕ → Several → Several
behind_numbers before m = record { numbers = before ++ m.numbers; state = m.state }

pub all_from_is : (before : List ℕ) (walks : List Walk) (names : Named ℕ) (s : State) → all_from before walks names s ≡ record { numbers = before ++ (all walks names s).numbers; state = (all walks names s).state }
all_from_is before [] names s = ap (λ numbers. record { numbers = numbers; state = s }) (behind_none before)
all_from_is before (w ∷ walks) names s =
    let m = w names s in
    all_from_is (before ++ m.part ∷ []) walks names m.state
    ∙ ap (λ numbers. record { numbers = numbers; state = (all walks names m.state).state }) (rebracketed before m.part (all walks names m.state).numbers)
    ∙ ap (behind_numbers before) (sym (all_from_is (m.part ∷ []) walks names m.state))

pub all_more : (w : Walk) (walks : List Walk) (names : Named ℕ) (s : State) → all (w ∷ walks) names s ≡ record { numbers = (w names s).part ∷ (all walks names (w names s).state).numbers; state = (all walks names (w names s).state).state }
all_more w walks names s = all_from_is ((w names s).part ∷ []) walks names (w names s).state

-- what is within parts is within more of them
pub within_grows : (ts : List Ground) (numbers : List ℕ) (parts later : List Part) → Grows parts later → AreWithin ts numbers parts → AreWithin ts numbers later
within_grows [] [] parts later grows within = tt
within_grows [] (k ∷ numbers) parts later grows within = within
within_grows (t ∷ ts) [] parts later grows within = within
within_grows (t ∷ ts) (k ∷ numbers) parts later grows within = (still_within grows k within.0, within_grows ts numbers parts later grows within.1)

module _ (p : Program) (i : Instances) (tables : Tables) (calls : List ℕ → List Value → Value) (makes : Calls) where
  -- the parts of names stand for their values
  abbrev pub AreStanding : Named Ground → Named ℕ → Names → List Part → Values → Type 0
  AreStanding locals numbers names parts values = (x : Label) (t : Ground) (k : ℕ) (v : Value) → named x locals ≡ Some t → named x numbers ≡ Some k → lookup names x ≡ Some v → Stands t v (gives tables parts k values)

  pub standing_grows : (locals : Named Ground) (numbers : Named ℕ) (names : Names) (parts later : List Part) (values : Values) → Grows parts later → HaveNumbers locals numbers parts
      → AreStanding locals numbers names parts values → AreStanding locals numbers names later values
  standing_grows locals numbers names parts later values grows have standing x t k v is at value_is =
      let found = have x t is in
      let same : Some found.0 ≡ Some k = sym found.1 ∙ at in
      let here : found.0 ≡ k = cc in
      still_stands tables grows k (subst (λ n. n < length parts) here found.2) t v values (standing x t k v is at value_is)

  -- what is made of a part with this value under names: what is left then, and what it stands for
  pub record IsMade (locals : Named Ground) (numbers : Named ℕ) (t : Ground) (value_of : Names → Value) (s : State) (q : Pending) (m : Made) : Type 0 where
    pub left : left m.state ≡ q
    pub grows : Grows s.parts m.state.parts
    pub ordered : AreOrdered m.state.parts
    pub within : m.part < length m.state.parts
    pub means : (values : Values) (names : Names) → AreLocals p i locals names → AreStanding locals numbers names s.parts values → Stands t (value_of names) (gives tables m.state.parts m.part values)

  -- the same of several
  pub record AreMade (locals : Named Ground) (numbers : Named ℕ) (ts : List Ground) (values_of : Names → List Value) (s : State) (q : Pending) (m : Several) : Type 0 where
    pub left : left m.state ≡ q
    pub grows : Grows s.parts m.state.parts
    pub ordered : AreOrdered m.state.parts
    pub within : AreWithin ts m.numbers m.state.parts
    pub means : (values : Values) (names : Names) → AreLocals p i locals names → AreStanding locals numbers names s.parts values → StandEach ts (values_of names) (map (λ k. gives tables m.state.parts k values) m.numbers)

  pub none_made : (locals : Named Ground) (numbers : Named ℕ) (s : State) → AreOrdered s.parts → AreMade locals numbers [] (λ names. []) s (left s) (record { numbers = []; state = s })
  none_made locals numbers s ordered = record { left = refl; grows = grows_none s.parts; ordered = ordered; within = tt; means = λ values names fit standing. tt }

  pub more_made : (locals : Named Ground) (numbers : Named ℕ) (t : Ground) (ts : List Ground) (value_of : Names → Value) (values_of : Names → List Value) (s : State) (q r : Pending) (m : Made) (others : Several)
      → HaveNumbers locals numbers s.parts → IsMade locals numbers t value_of s q m → AreMade locals numbers ts values_of m.state r others
      → AreMade locals numbers (t ∷ ts) (λ names. value_of names ∷ values_of names) s r (record { numbers = m.part ∷ others.numbers; state = others.state })
  more_made locals numbers t ts value_of values_of s q r m others have one rest = record {
    left = rest.left;
    grows = grows_both one.grows rest.grows;
    ordered = rest.ordered;
    within = (still_within rest.grows m.part one.within, rest.within);
    means = λ values names fit standing. (
      still_stands tables rest.grows m.part one.within t (value_of names) values (one.means values names fit standing),
      rest.means values names fit (standing_grows locals numbers names s.parts m.state.parts values one.grows have standing),
    );
  }

  -- one part more, which has to do with those that were made alone
  pub record IsAdded (locals : Named Ground) (numbers : Named ℕ) (t : Ground) (value_of : Names → Value) (s : State) (x : Part) : Type 0 where
    pub below : Below (length s.parts) x
    pub means : (values : Values) (names : Names) → AreLocals p i locals names → AreStanding locals numbers names s.parts values → Stands t (value_of names) (given_level tables (gives tables s.parts) (length s.parts) x values)

  pub added : (locals : Named Ground) (numbers : Named ℕ) (t : Ground) (value_of : Names → Value) (s : State) (x : Part) → AreOrdered s.parts → IsAdded locals numbers t value_of s x → IsMade locals numbers t value_of s (left s) (add x s)
  added locals numbers t value_of s x ordered is = record {
    left = refl;
    grows = grows_one s.parts x;
    ordered = ordered_add s.parts x ordered is.below;
    within = at_end s.parts x;
    means = λ values names fit standing. subst (λ g. Stands t (value_of names) (g values)) (sym (gives_last tables s.parts x)) (is.means values names fit standing);
  }

  -- a part over those that were made
  pub finished : (locals : Named Ground) (numbers : Named ℕ) (t : Ground) (ts : List Ground) (value_of : Names → Value) (values_of : Names → List Value) (s : State) (q : Pending) (m : Several) (x : Part)
      → HaveNumbers locals numbers s.parts → AreMade locals numbers ts values_of s q m → Below (length m.state.parts) x
      → ((values : Values) (names : Names) → AreLocals p i locals names → StandEach ts (values_of names) (map (λ k. gives tables m.state.parts k values) m.numbers)
      → Stands t (value_of names) (given_level tables (gives tables m.state.parts) (length m.state.parts) x values))
      → IsMade locals numbers t value_of s q (add x m.state)
  finished locals numbers t ts value_of values_of s q m x have are below means = record {
    left = are.left;
    grows = grows_both are.grows (grows_one m.state.parts x);
    ordered = ordered_add m.state.parts x are.ordered below;
    within = at_end m.state.parts x;
    means = λ values names fit standing. subst (λ g. Stands t (value_of names) (g values)) (sym (gives_last tables m.state.parts x)) (means values names fit (are.means values names fit standing));
  }

  -- the same with the value that something else comes to, too
  pub same_value : (locals : Named Ground) (numbers : Named ℕ) (t : Ground) (value_of other : Names → Value) (s : State) (q : Pending) (m : Made) → ((names : Names) → other names ≡ value_of names)
      → IsMade locals numbers t value_of s q m → IsMade locals numbers t other s q m
  same_value locals numbers t value_of other s q m same is = record {
    left = is.left;
    grows = is.grows;
    ordered = is.ordered;
    within = is.within;
    means = λ values names fit standing. subst (λ v. Stands t v (gives tables m.state.parts m.part values)) (sym (same names)) (is.means values names fit standing);
  }

  -- ---- one part more behind several

  each_grows : (ts : List Ground) (vs : List Value) (numbers : List ℕ) (parts later : List Part) (values : Values) → Grows parts later → AreWithin ts numbers parts → StandEach ts vs (map (λ k. gives tables parts k values) numbers)
      → StandEach ts vs (map (λ k. gives tables later k values) numbers)
  each_grows [] [] [] parts later values grows within each = tt
  each_grows [] (v ∷ vs) [] parts later values grows within each = each
  each_grows (t ∷ ts) [] [] parts later values grows within each = each
  each_grows (t ∷ ts) (v ∷ vs) [] parts later values grows within each = each
  each_grows [] [] (k ∷ numbers) parts later values grows within each = each
  each_grows [] (v ∷ vs) (k ∷ numbers) parts later values grows within each = each
  each_grows (t ∷ ts) [] (k ∷ numbers) parts later values grows within each = each
  each_grows (t ∷ ts) (v ∷ vs) (k ∷ numbers) parts later values grows within each = (still_stands tables grows k within.0 t v values each.0, each_grows ts vs numbers parts later values grows within.1 each.1)

  pub one_behind : (locals : Named Ground) (numbers : Named ℕ) (ts : List Ground) (values_of : Names → List Value) (s : State) (q : Pending) (m : Several) (x : Part) → AreMade locals numbers ts values_of s q m → Below (length m.state.parts) x
      → AreMade locals numbers ts values_of s q (record { numbers = m.numbers; state = (add x m.state).state })
  one_behind locals numbers ts values_of s q m x are below = record {
    left = are.left;
    grows = grows_both are.grows (grows_one m.state.parts x);
    ordered = ordered_add m.state.parts x are.ordered below;
    within = within_grows ts m.numbers m.state.parts (m.state.parts ++ x ∷ []) (grows_one m.state.parts x) are.within;
    means = λ values names fit standing. each_grows ts (values_of names) m.numbers m.state.parts (m.state.parts ++ x ∷ []) values (grows_one m.state.parts x) are.within (are.means values names fit standing);
  }
