-- What a lambda captures are its free names, and what it keeps are their values: with the types of these its body has the type
-- that it had where the lambda stands. So it is with queries and changes of tables, which capture names of flat types.
use Rattle.std.proofs.Common.{◌≡◌, refl, sym, ap, ap₂, ◌∙◌, subst, Bool, true, false, cond, List, [], ◌∷◌, ◌++◌, length, inl, inr, Option, Some, None, IsSome}
use Rattle.std.specs.Cmp.Lexicographic.{bytes_decides}
use Rattle.std.specs.Str.{bytes_eq}
use Rattle.lk_ast.specs.declared.declaration.Program.{Program}
use Rattle.lk_ast.specs.declared.expression.LambdaExpr.{LambdaExpr}
use Rattle.lk_ast.specs.declared.value.Value.{Value}
use Rattle.lk_index.specs.Free.{free, free_lambda, in_byte_order, captured}
use Rattle.lk_ground_types.specs.Shapes.{is_flat}
use Rattle.lk_locals.specs.Names as outer
use Rattle.lk_locals.specs.Names.{Names, lookup, lookup_all, with_value, bind_each}
use Rattle.lk_types.specs.Each.{Each}
use Rattle.lk_scope.specs.Names as scope
use Rattle.lk_scope.specs.Names.{no_names, bind_all}
use Rattle.lk_types.specs.Rows.{Label, EffectSet}
use Rattle.lk_types.specs.declared.ground.Ground.{Ground}
use Rattle.lk_typing.specs.Names.{Named, named, names_of, types_of, texts, Entry}
use Rattle.lk_sound.proofs.Standing.{binds_all}
use Rattle.lk_sound.proofs.Apart.{ordered_apart}
use Rattle.lk_sound.proofs.Calls.{kept_fit, length_names}
use Rattle.lk_sound.proofs.Fitting.{as_many}
use Rattle.lk_sound.proofs.Free.{AreKnown, outside_known, known_in}
use Rattle.lk_sound.proofs.FreeLevels.{lambda_level}
use Rattle.lk_sound.proofs.Names.{IsAmong}
use Rattle.lk_sound.proofs.OrderedWords.{ordered_holds, ordered_of}
use Rattle.lk_sound.proofs.PlainValues.{all_plain}
use Rattle.lk_sound.proofs.Points.{IsTyped}
use Rattle.lk_sound.proofs.Retyped.{Agree, agree_inside, outermost, retyped, retyped_nodes}
use Rattle.lk_sound.specs.Instances.{Instances, IsFine}
use Rattle.lk_sound.specs.Nodes.{type_before, known_in as known_types}
use Rattle.lk_sound.specs.Points.{AreLocals}
use Rattle.lk_sound.specs.Tables.{ArePlain}
use Rattle.lk_sound.specs.Values.{Fits, FitEach, none_left, one_more}

-- ---- values that are kept

-- the values of these names, and the types that they have, each of which is such a type
pub record AreKept (p : Program) (i : Instances) (Q : Ground → Type 0) (locals : Named Ground) (names : Names) (xs : List Label) : Type 0 where
  pub values : List Value
  pub kept : Named Ground
  pub found : lookup_all names xs ≡ Some values
  pub named_are : names_of kept ≡ xs
  pub fit : FitEach p i values (types_of kept)
  pub each : Each Q (types_of kept)
  pub same : (y : Label) → IsAmong y xs → named y kept ≡ named y locals

-- the name has such a type
abbrev pub HasSuch : (Ground → Type 0) → Named Ground → Label → Type 0
HasSuch Q locals x = (t : Ground) × (named x locals ≡ Some t) × Q t

module _ (p : Program) (i : Instances) (Q : Ground → Type 0) (locals : Named Ground) (names : Names) where
  one_more_kept : (x : Label) (xs : List Label) (t : Ground) (v : Value) → named x locals ≡ Some t → Q t → lookup names x ≡ Some v → Fits p i v t → AreKept p i Q locals names xs → AreKept p i Q locals names (x ∷ xs)
  one_more_kept x xs t v is such found fits rest =
      record {
        values = v ∷ rest.values;
        kept = (x, t) ∷ rest.kept;
        found = ap₂ with_value found rest.found;
        named_are = ap (λ ys. x ∷ ys) rest.named_are;
        fit = one_more fits rest.fit;
        each = (such, rest.each);
        same = λ y among. by_test y (bytes_eq x y) refl among;
      }
    where
      by_test : (y : Label) (b : Bool) → bytes_eq x y ≡ b → IsAmong y (x ∷ xs) → cond b (Some t) (named y rest.kept) ≡ named y locals
      by_test y true same among = sym is ∙ ap (λ z. named z locals) ((bytes_decides x y).0 same)
      by_test y false other (inl same) = let itself : bytes_eq x y ≡ true = (bytes_decides x y).1 same in absurd cc
      by_test y false other (inr among) = rest.same y among

  pub kept_of : (xs : List Label) → AreLocals p i locals names → ((x : Label) → IsAmong x xs → HasSuch Q locals x) → AreKept p i Q locals names xs
  kept_of [] fit each = record { values = []; kept = []; found = refl; named_are = refl; fit = none_left; each = tt; same = λ y among. absurd among }
  kept_of (x ∷ xs) fit each =
      let such : HasSuch Q locals x = each x (inl refl) in
      let held : (v : Value) × (lookup names x ≡ Some v) × Fits p i v such.0 = fit x such.0 such.1 in
      one_more_kept x xs such.0 held.0 such.1 such.2 held.1 held.2 (kept_of xs fit (λ y among. each y (inr among)))

-- a name with a type has such a one where all types are
pub any_such : (locals : Named Ground) (x : Label) → IsSome (named x locals) → HasSuch (λ t. Unit {0}) locals x
any_such locals x some = by_type (named x locals) refl some
  where
    by_type : (o : Option Ground) → named x locals ≡ o → IsSome o → HasSuch (λ t. Unit {0}) locals x
    by_type None is some = absurd cc
    by_type (Some t) is some = (t, is, tt)

-- ---- lambdas

-- What a lambda keeps where local names have these values: values of the types that the names which it captured have there, and
-- with these types its body has the type that it had there.
pub record IsClosure (p : Program) (i : Instances) (functions : Named (Entry Ground)) (names : Names) (l : LambdaExpr) (params : Named Ground) (own : EffectSet) (b : Ground) : Type 0 where
  pub values : List Value
  pub kept : Named Ground
  pub found : lookup_all names (captured l) ≡ Some values
  pub named_are : names_of kept ≡ captured l
  pub fit : FitEach p i values (types_of kept)
  pub body : IsTyped p i functions (params ++ kept) own l.body b

pub closure_kept : (p : Program) (i : Instances) (functions : Named (Entry Ground)) (locals : Named Ground) (names : Names) (l : LambdaExpr) (params : Named Ground) (own : EffectSet) (b : Ground)
    → names_of params ≡ texts l.params → IsTyped p i functions (params ++ locals) own l.body b → AreLocals p i locals names
    → IsClosure p i functions names l params own b
closure_kept p i functions locals names l params own b are body fit =
    let inner : scope.Names = bind_all l.params no_names in
    let known : AreKnown locals no_names (free l.body inner) = outside_known params (binds_all l.params params no_names are) (known_in body.typed inner) in
    let free_same : free_lambda l no_names ≡ free l.body inner = lambda_level l no_names in
    let all : AreKept p i (λ t. Unit {0}) locals names (captured l) =
    kept_of p i (λ t. Unit {0}) locals names (captured l) fit (λ x among. any_such locals x (known.known x (subst (IsAmong x) free_same (ordered_of (free_lambda l no_names) x among))).1) in
    let outside : Agree locals all.kept no_names (free l.body inner) = outermost (λ y among. all.same y (ordered_holds (free_lambda l no_names) y (subst (IsAmong y) (sym free_same) among))) in
    let within : Agree (params ++ locals) (params ++ all.kept) inner (free l.body inner) = agree_inside params (binds_all l.params params no_names are) outside in
    record {
      values = all.values;
      kept = all.kept;
      found = all.found;
      named_are = all.named_are;
      fit = all.fit;
      body = record {
        inside = body.inside;
        typed = retyped body.typed inner (params ++ all.kept) within.used within.round;
        fine = subst (Each (IsFine i)) (sym (retyped_nodes false body.typed inner (params ++ all.kept) within.used within.round)) body.fine;
      };
    }

-- ---- queries and changes of tables

-- What a query or a change with these free names captures where local names have these values: plain values, one for each name,
-- and names that stand for them have the types that they had.
pub record IsCaptured (p : Program) (i : Instances) (locals : Named Ground) (names : Names) (words : List Label) : Type 0 where
  pub values : List Value
  pub kept : Named Ground
  pub found : lookup_all names (in_byte_order words) ≡ Some values
  pub many : length values ≡ length (in_byte_order words)
  pub plain : ArePlain values
  pub fit : AreLocals p i kept (bind_each outer.no_names (in_byte_order words) values)
  pub same : (y : Label) → IsAmong y words → named y kept ≡ named y locals

-- those of the names that have a type
such_by : (Q : Ground → Type 0) (locals : Named Ground) (x : Label) (ts : List Ground) (o : Option Ground) → named x locals ≡ o → IsSome o → Each Q (type_before o ts) → HasSuch Q locals x × Each Q ts
such_by Q locals x ts None is some all = absurd cc
such_by Q locals x ts (Some t) is some all = ((t, is, all.0), all.1)

each_such : (Q : Ground → Type 0) (locals : Named Ground) (words : List Label) → ((x : Label) → IsAmong x words → IsSome (named x locals)) → Each Q (known_types locals words) → (x : Label) → IsAmong x words → HasSuch Q locals x
each_such Q locals [] known all x among = absurd among
each_such Q locals (word ∷ words) known all x (inl is) = subst (HasSuch Q locals) is (such_by Q locals word (known_types locals words) (named word locals) refl (known word (inl refl)) all).0
each_such Q locals (word ∷ words) known all x (inr later) =
    each_such Q locals words (λ y among. known y (inr among)) (such_by Q locals word (known_types locals words) (named word locals) refl (known word (inl refl)) all).1 x later

pub captured_kept : (p : Program) (i : Instances) (locals : Named Ground) (names : Names) (words : List Label) → AreLocals p i locals names → AreKnown locals no_names words → Each (λ t. is_flat t ≡ true) (known_types locals words)
    → IsCaptured p i locals names words
captured_kept p i locals names words fit known flat =
    let all : AreKept p i (λ t. is_flat t ≡ true) locals names (in_byte_order words) =
    kept_of p i (λ t. is_flat t ≡ true) locals names (in_byte_order words) fit (λ x among. each_such (λ t. is_flat t ≡ true) locals words (λ y there. (known.known y there).1) flat x (ordered_of words x among)) in
    record {
      values = all.values;
      kept = all.kept;
      found = all.found;
      many = as_many p i all.values (types_of all.kept) all.fit ∙ sym (length_names all.kept) ∙ ap length all.named_are;
      plain = all_plain p i all.values (types_of all.kept) all.fit all.each;
      fit = kept_fit p i all.kept (in_byte_order words) all.values all.named_are (ordered_apart words) all.fit;
      same = λ y among. all.same y (ordered_holds words y among);
    }
