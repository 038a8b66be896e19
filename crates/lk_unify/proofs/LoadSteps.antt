-- Loads one after another, a load under another reading, and a node that is put on what was loaded.
use Rattle.std.proofs.Common.{[], ◌∷◌, ◌++◌, ◌≡◌, ℕ, ◌+◌, ◌<◌, ◌≤◌, List, length, refl, sym, ◌∙◌, ap, subst, arith, Option, Some, None}
use Rattle.std.specs.BTreeMap.{get}
use Rattle.std.specs.Option.{option_map}
use Rattle.std.specs.Ordering.{nat_cmp}
use Rattle.std.specs.Prelude.{Err, IfOk, IsOkAnd, MatchResult, Ok, Result}
use Rattle.std.proofs.lemmas.Option.{same_Some}
use Rattle.lk_types.proofs.Parts.{mapped}
use Rattle.lk_types.specs.Each.{Each}
use Rattle.lk_arena.specs.Openings.{Opening}
use Rattle.lk_types.specs.declared.ty.TyField.{TyField}
use Rattle.lk_types.specs.declared.ty.Variable.{Variable}
use Rattle.lk_arena.proofs.Covering.{covers_push}
use Rattle.lk_arena.proofs.Growth.{HasNode-push, WeakNodes-push, built_push, IsArena-push, more_count}
use Rattle.lk_arena.specs.Kinds.{Kind}
use Rattle.lk_unify.specs.NamedNodes.{node_in}
use Rattle.lk_unify.specs.Loading.{node_for, made_at, Agrees, CoversBack, IsLoader, IsMade, LoadsTo, Loads, LoadsAll, LoadsFields, Loaded, LoadedAll, LoadedFields, Makes, NeverMeans, Adds, fields_meaning}
use Rattle.lk_arena.specs.Shapes.{parts_of, fields_in, IsArena, IsBuilt, IsDistinct, HasFields, HasNode, FitsNodes, WeakNodes, SameBelow}
use Rattle.lk_arena.specs.Values.{Value}
use Rattle.lk_unify.specs.declared.loader.Loader.{Loader}
use Rattle.lk_unify.specs.declared.loader.MadeNode.{MadeNode}
use Rattle.lk_arena.specs.declared.node.Field.{Field}
use Rattle.lk_arena.specs.declared.node.Shape.{Shape}

-- ---- options

pub none_of : {A : Type 0} (o : Option A) → ((a : A) → o ≡ Some a → ⊥) → o ≡ None
none_of None n = refl
none_of (Some a) n = absurd (n a refl)

-- both, where both are there
abbrev pub both : {A B : Type 0} → Option A → Option B → Option (A × B)
both None q = None
both (Some a) q = option_map (λ b. (a, b)) q

pub both_some : {A B : Type 0} (p : Option A) (q : Option B) (x : A × B) → both p q ≡ Some x → (p ≡ Some x.0) × (q ≡ Some x.1)
both_some None q x e = cc
both_some (Some a) None x e = cc
both_some (Some a) (Some b) x e = (λ i. Some ((same_Some (a, b) x e i).0), λ i. Some ((same_Some (a, b) x e i).1))

-- ---- loads

pub agrees_before : (old new : Loader) (ρ : Opening) (v : ℕ → Value) → ((x : Variable) (n : ℕ) → node_for old x ≡ Some n → node_for new x ≡ Some n) → Agrees new ρ v → Agrees old ρ v
agrees_before old new ρ v kept a = record { at = λ x n e. a.at x n (kept x n e) }

-- nothing
pub loads_nothing : {A : Type 0} (l : Loader) (a : A) → IsLoader l → LoadsTo l l (λ ρ. Some a) (λ v. a)
loads_nothing l a whole = record {
  whole = whole;
  longer = omega arith;
  kept = λ x n e. e;
  local = λ v w s. refl;
  back = λ v f. f;
  covers = λ c f. f;
  is = λ v ρ f g. refl;
  forth = λ v ρ x fits agrees e. (v, (λ i h. refl), fits, agrees, same_Some a x e);
}

pub loads_both : {A B : Type 0} (a b c : Loader) (m : Opening → Option A) (r : (ℕ → Value) → A) (n : Opening → Option B) (q : (ℕ → Value) → B)
    → LoadsTo a b m r → LoadsTo b c n q → LoadsTo a c (λ ρ. both (m ρ) (n ρ)) (λ v. (r v, q v))
loads_both a b c m r n q f g = record {
  whole = g.whole;
  longer = (let x = f.longer in let y = g.longer in omega arith);
  kept = λ x k e. g.kept x k (f.kept x k e);
  local = λ v w s. (λ i. (f.local v w (λ k h. s k (let y = g.longer in omega arith)) i, g.local v w s i));
  back = λ v h. f.back v (g.back v h);
  covers = λ c h. f.covers c (g.covers c h);
  is = λ v ρ h agrees. (λ i. both (f.is v ρ (g.back v h) (agrees_before b c ρ v g.kept agrees) i) (g.is v ρ h agrees i));
  forth = λ v ρ x fits agrees e.
      let s = both_some (m ρ) (n ρ) x e in
      let p = f.forth v ρ x.0 fits agrees s.0 in
      let o = g.forth p.0 ρ x.1 p.2 p.3 s.1 in (
        o.0,
        (λ i h. o.1 i (let y = f.longer in omega arith) ∙ p.1 i h),
        o.2,
        o.3,
        (λ i. ((f.local p.0 o.0 o.1 ∙ p.4) i, o.4 i)),
      );
}

-- what is read, in other words
pub loads_as : {A B : Type 0} (old new : Loader) (m : Opening → Option A) (r : (ℕ → Value) → A) (f : A → B) (n : Opening → Option B) (q : (ℕ → Value) → B)
    → LoadsTo old new m r → ((ρ : Opening) → n ρ ≡ option_map f (m ρ)) → ((v : ℕ → Value) → q v ≡ f (r v)) → LoadsTo old new n q
loads_as old new m r f n q l meaning read = record {
  whole = l.whole;
  longer = l.longer;
  kept = l.kept;
  local = λ v w s. read w ∙ ap f (l.local v w s) ∙ sym (read v);
  back = l.back;
  covers = l.covers;
  is = λ v ρ h agrees. meaning ρ ∙ ap (option_map f) (l.is v ρ h agrees) ∙ ap Some (sym (read v));
  forth = λ v ρ x fits agrees e.
      let s = mapped f (m ρ) x (sym (meaning ρ) ∙ e) in
      let p = l.forth v ρ s.0 fits agrees s.1 in
      (p.0, p.1, p.2, p.3, read p.0 ∙ ap f p.4 ∙ sym s.2);
}

-- ---- what a call answers, and something is made of it

pub if_mapped : {A B E : Type 0} (f : A → B) (r : Result A E) (s : Result B E) (P : A → Type 0) (Q : B → Type 0) → MatchResult r (λ x. IsOkAnd s (λ y. y ≡ f x)) (λ e. s ≡ Err e) → ((x : A) → P x → Q (f x)) → IfOk r P → IfOk s Q
if_mapped f (Ok x) (Ok y) P Q is each p = subst Q (sym is) (each x p)
if_mapped f (Ok x) (Err e) P Q is each p = absurd is
if_mapped f (Err e) (Ok y) P Q is each p = let no : Ok y ≡ Err e = is in cc
if_mapped f (Err e) (Err d) P Q is each p = tt

-- ---- a node more

pub weak : (l : Loader) (v : ℕ → Value) → FitsNodes l.arena.shapes l.arena.classes v → WeakNodes l.arena.shapes l.arena.classes v
weak l v fits = record { builds = λ i b named. fits.builds i b; respects = fits.respects }

-- what was made is there still
pub made_still : (b c : Loader) → IsLoader b → length b.arena.shapes ≤ length c.arena.shapes → ((v : ℕ → Value) → WeakNodes c.arena.shapes c.arena.classes v → WeakNodes b.arena.shapes b.arena.classes v) → c.made ≡ b.made →
    (key : ℕ) (m : MadeNode) → made_at c key ≡ Some m → IsMade c.arena.shapes c.arena.classes m
made_still b c whole longer back same key m is =
    let made : IsMade b.arena.shapes b.arena.classes m = whole.made key m (sym (ap (λ made. get nat_cmp made key) same) ∙ is) in
    record {
      below = (let h = made.below in omega arith);
      known = made.known;
      built = λ v fits. made.built v (back v fits);
    }

module _ (b c : Loader) (s : Shape) (k : ℕ) (whole : IsLoader b) (add : Adds b c s k) (parts : Each (λ p. p < length b.arena.shapes) (parts_of s)) where
  -- the new node's class
  pub added_classes : c.arena.classes ≡ b.arena.classes ++ length b.arena.shapes ∷ []
  added_classes = add.classes ∙ ap (λ m. b.arena.classes ++ m ∷ []) whole.arena.named.count

  pub one_longer : length c.arena.shapes ≡ length b.arena.shapes + 1
  one_longer = ap length add.shapes ∙ more_count b.arena.shapes b.arena.classes s whole.arena parts

  pub same_names : (x : Variable) → node_for c x ≡ node_for b x
  same_names x = ap (λ n. node_in n x) add.names

  pub added_below : k < length c.arena.shapes
  added_below = let n = add.number in omega (arith, one_longer)

  pub added_back : (v : ℕ → Value) → WeakNodes c.arena.shapes c.arena.classes v → WeakNodes b.arena.shapes b.arena.classes v
  added_back = WeakNodes-push b.arena.shapes b.arena.classes s c.arena.shapes c.arena.classes k whole.arena parts add.shapes added_classes add.number

  pub added_covers : CoversBack b c
  added_covers = covers_push b.arena.shapes b.arena.classes s c.arena.shapes c.arena.classes whole.arena parts add.shapes added_classes

  pub added_built : (v : ℕ → Value) → WeakNodes c.arena.shapes c.arena.classes v → IsBuilt s v (v k)
  added_built = built_push b.arena.shapes b.arena.classes s c.arena.shapes c.arena.classes k whole.arena parts add.shapes added_classes add.number

  pub added_node : (v : ℕ → Value) (x : Value) → FitsNodes b.arena.shapes b.arena.classes v → IsBuilt s v x → HasNode b.arena.shapes c.arena.shapes c.arena.classes v k x
  added_node = HasNode-push b.arena.shapes b.arena.classes s c.arena.shapes c.arena.classes k whole.arena parts add.shapes added_classes add.number

  pub added_arena : IsDistinct (fields_in s) → HasFields s → IsArena c.arena.shapes c.arena.classes
  added_arena distinct filled = IsArena-push b.arena.shapes b.arena.classes s c.arena.shapes c.arena.classes whole.arena parts distinct filled add.shapes added_classes

  pub added_made : (key : ℕ) (m : MadeNode) → made_at c key ≡ Some m → IsMade c.arena.shapes c.arena.classes m
  added_made = made_still b c whole (omega (arith, one_longer)) added_back add.made

-- a node on what was loaded
module _ {A : Type 0} (a b c : Loader) (m : Opening → Option A) (r : (ℕ → Value) → A) (x : Kind) (s : Shape) (k : ℕ) (n : Opening → Option Value) (l : LoadsTo a b m r) (makes : Makes b c x s k) where
  agrees_old : (ρ : Opening) (v : ℕ → Value) → Agrees c ρ v → Agrees b ρ v
  agrees_old ρ v agrees = agrees_before b c ρ v (λ y j e. makes.names y ∙ e) agrees

  agrees_still : (ρ : Opening) (v w : ℕ → Value) → SameBelow (length b.arena.shapes) v w → Agrees b ρ v → Agrees c ρ w
  agrees_still ρ v w same agrees = record {
    at = λ y j e. let f = sym (makes.names y) ∙ e in same j (l.whole.named y j f) ∙ agrees.at y j f;
  }

  pub more_to : ((v : ℕ → Value) (y : Value) (ρ : Opening) → m ρ ≡ Some (r v) → IsBuilt s v y → n ρ ≡ Some y)
      → ((y : Value) (ρ : Opening) → n ρ ≡ Some y → (z : A) × (m ρ ≡ Some z) × ((w : ℕ → Value) → r w ≡ z → IsBuilt s w y))
      → LoadsTo a c n (λ v. v k)
  more_to says builds = record {
    whole = makes.whole;
    longer = (let y = l.longer in let z = makes.longer in omega arith);
    kept = λ y j e. makes.names y ∙ l.kept y j e;
    local = λ v w same. same k makes.below;
    back = λ v h. l.back v (makes.back v h);
    covers = λ c h. l.covers c (makes.covers c h);
    is = λ v ρ h agrees. says v (v k) ρ (l.is v ρ (makes.back v h) (agrees_old ρ v agrees)) (makes.built v h);
    forth = λ v ρ y fits agrees e.
        let z = builds y ρ e in
        let p = l.forth v ρ z.0 fits agrees z.1 in
        let h = makes.forth p.0 y p.2 (z.2 p.0 p.4) in
        (h.0, (λ i q. h.1 i (let t = l.longer in omega arith) ∙ p.1 i q), h.2, agrees_still ρ p.0 h.0 h.1 p.3, h.3);
  }

-- ---- answers

pub loaded_some : (a b : Loader) (k : Kind) (m : Opening → Option Value) (answer : Option ℕ) (n : ℕ) → answer ≡ Some n → Loaded a b k m answer → Loads a b k m n
loaded_some a b k m answer n e l = subst (Loaded a b k m) e l

pub loaded_none : (a b : Loader) (k : Kind) (m : Opening → Option Value) (answer : Option ℕ) → ((n : ℕ) → answer ≡ Some n → ⊥) → Loaded a b k m answer → NeverMeans m
loaded_none a b k m answer n l = subst (Loaded a b k m) (none_of answer n) l

pub all_some : (a b : Loader) (m : Opening → Option (List Value)) (answer : Option (List ℕ)) (ns : List ℕ) → answer ≡ Some ns → LoadedAll a b m answer → LoadsAll a b m ns
all_some a b m answer ns e l = subst (LoadedAll a b m) e l

pub all_lacking : (a b : Loader) (m : Opening → Option (List Value)) (answer : Option (List ℕ)) → ((ns : List ℕ) → answer ≡ Some ns → ⊥) → LoadedAll a b m answer → NeverMeans m
all_lacking a b m answer n l = subst (LoadedAll a b m) (none_of answer n) l

pub fields_some : (a b : Loader) (fs gs : List TyField) (answer : Option (List Field)) (fields : List Field) → gs ≡ fs → answer ≡ Some fields → LoadedFields a b gs answer → LoadsFields a b fs fields
fields_some a b fs gs answer fields same e l = subst (λ hs. LoadsFields a b hs fields) same (subst (LoadedFields a b gs) e l)

pub fields_lacking : (a b : Loader) (fs gs : List TyField) (answer : Option (List Field)) → gs ≡ fs → ((fields : List Field) → answer ≡ Some fields → ⊥) → LoadedFields a b gs answer → NeverMeans (fields_meaning fs)
fields_lacking a b fs gs answer same n l = subst (λ hs. NeverMeans (fields_meaning hs)) same (subst (LoadedFields a b gs) (none_of answer n) l)
