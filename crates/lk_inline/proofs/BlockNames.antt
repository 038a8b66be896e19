-- The names that a block captures: in byte order, each once, with the types that they have where the block stands.
use Rattle.std.proofs.Common.{◌≡◌, refl, sym, ap, ap₂, ◌∙◌, subst, Bool, true, false, List, [], ◌∷◌, map, inl, inr, Option, Some, None, IsSome, bytes_eq, if◌then◌else◌}
use Rattle.std.specs.Cmp.Lexicographic.{bytes_decides}
use Rattle.lk_bodies.specs.Captured.{captured_as, captured_at, captured_by}
use Rattle.lk_ground_types.specs.Shapes.{is_flat}
use Rattle.lk_index.specs.Free.{in_byte_order}
use Rattle.lk_sound.proofs.OrderedWords.{ordered_of}
use Rattle.lk_scope.specs.Names.{no_names}
use Rattle.lk_sound.proofs.Free.{AreKnown}
use Rattle.lk_sound.proofs.Names.{IsAmong}
use Rattle.lk_sound.specs.Nodes.{known_in, type_before}
use Rattle.lk_types.specs.Each.{Each}
use Rattle.lk_types.specs.Rows.{Label}
use Rattle.lk_types.specs.declared.ground.Ground.{Ground}
use Rattle.lk_typing.specs.Names.{Named, named, names_of, types_of}

-- ---- names with their types

-- names of flat types, with these
pub record AreKept (locals : Named Ground) (xs : List Label) : Type 0 where
  pub kept : Named Ground
  pub names : names_of kept ≡ xs
  pub entries : Each (λ (e : Label × Ground). named e.0 locals ≡ Some e.1) kept
  pub flat : Each (λ t. is_flat t ≡ true) (types_of kept)
  pub same : (y : Label) → IsAmong y xs → named y kept ≡ named y locals

-- the name has a flat type
abbrev HasFlat : Named Ground → Label → Type 0
HasFlat locals x = (t : Ground) × (named x locals ≡ Some t) × (is_flat t ≡ true)

one_more_kept : (locals : Named Ground) (x : Label) (xs : List Label) (t : Ground) → named x locals ≡ Some t → is_flat t ≡ true → AreKept locals xs → AreKept locals (x ∷ xs)
one_more_kept locals x xs t is flat rest =
    record {
      kept = (x, t) ∷ rest.kept;
      names = ap (λ ys. x ∷ ys) rest.names;
      entries = (is, rest.entries);
      flat = (flat, rest.flat);
      same = λ y among. by_test y (bytes_eq x y) refl among;
    }
  where
    by_test : (y : Label) (b : Bool) → bytes_eq x y ≡ b → IsAmong y (x ∷ xs) → (if b then Some t else named y rest.kept) ≡ named y locals
    by_test y true same among = sym is ∙ ap (λ z. named z locals) ((bytes_decides x y).0 same)
    by_test y false other (inl same) = let itself : bytes_eq x y ≡ true = (bytes_decides x y).1 same in absurd cc
    by_test y false other (inr among) = rest.same y among

kept_of : (locals : Named Ground) (xs : List Label) → ((x : Label) → IsAmong x xs → HasFlat locals x) → AreKept locals xs
kept_of locals [] each = record { kept = []; names = refl; entries = tt; flat = tt; same = λ y among. absurd among }
kept_of locals (x ∷ xs) each = let one : HasFlat locals x = each x (inl refl) in one_more_kept locals x xs one.0 one.1 one.2 (kept_of locals xs (λ y among. each y (inr among)))

flat_by : (locals : Named Ground) (x : Label) (ts : List Ground) (o : Option Ground) → named x locals ≡ o → IsSome o → Each (λ t. is_flat t ≡ true) (type_before o ts) → HasFlat locals x × Each (λ t. is_flat t ≡ true) ts
flat_by locals x ts None is some all = absurd cc
flat_by locals x ts (Some t) is some all = ((t, is, all.0), all.1)

each_flat : (locals : Named Ground) (words : List Label) → ((x : Label) → IsAmong x words → IsSome (named x locals)) → Each (λ t. is_flat t ≡ true) (known_in locals words) → (x : Label) → IsAmong x words → HasFlat locals x
each_flat locals [] known all x among = absurd among
each_flat locals (word ∷ words) known all x (inl is) = subst (HasFlat locals) is (flat_by locals word (known_in locals words) (named word locals) refl (known word (inl refl)) all).0
each_flat locals (word ∷ words) known all x (inr later) =
    each_flat locals words (λ y among. known y (inr among)) (flat_by locals word (known_in locals words) (named word locals) refl (known word (inl refl)) all).1 x later

-- those of the words in byte order
pub names_kept : (locals : Named Ground) (words : List Label) → AreKnown locals no_names words → Each (λ t. is_flat t ≡ true) (known_in locals words) → AreKept locals (in_byte_order words)
names_kept locals words known flat = kept_of locals (in_byte_order words) (λ x among. each_flat locals words (λ y there. (known.known y there).1) flat x (ordered_of words x among))

-- ---- what is captured under them

pub each_entry : (P : Label × Ground → Type 0) (Q : Label × Ground → Type 0) (kept : Named Ground) → ((e : Label × Ground) → IsAmong e.0 (names_of kept) → P e → Q e) → Each P kept → Each Q kept
each_entry P Q [] of all = tt
each_entry P Q (e ∷ kept) of all = (of e (inl refl) all.0, each_entry P Q kept (λ f among. of f (inr among)) all.1)

captured_each : (uses kept : Named Ground) → Each (λ (e : Label × Ground). named e.0 uses ≡ Some e.1) kept → captured_at uses (names_of kept) ≡ map captured_as (types_of kept)
captured_each uses [] each = refl
captured_each uses (e ∷ kept) each = ap₂ (λ c cs. c ∷ cs) (ap captured_by each.0) (captured_each uses kept each.1)

-- by the uses that have the types of the names, it is told by these types
pub captured_are : (locals uses : Named Ground) (xs : List Label) (all : AreKept locals xs) → ((x : Label) → IsAmong x xs → named x uses ≡ named x all.kept) → captured_at uses xs ≡ map captured_as (types_of all.kept)
captured_are locals uses xs all are =
    ap (captured_at uses) (sym all.names)
    ∙ captured_each uses all.kept
    (each_entry (λ e. named e.0 locals ≡ Some e.1) (λ e. named e.0 uses ≡ Some e.1) all.kept
    (λ e among is. let there : IsAmong e.0 xs = subst (IsAmong e.0) all.names among in are e.0 there ∙ all.same e.0 there ∙ is) all.entries)
