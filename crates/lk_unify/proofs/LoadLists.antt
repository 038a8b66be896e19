-- Loads of several types: all of them, where each is there.
use Rattle.std.proofs.Common.{◌≡◌, ℕ, zero, suc, ◌+◌, ◌<◌, List, [], ◌∷◌, ◌++◌, length, map, get_or, take, refl, sym, ◌∙◌, ap, subst, arith, Option, Some, None}
use Rattle.std.proofs.lemmas.List.{map-append, take_more}
use Rattle.std.specs.Option.{option_map}
use Rattle.lk_types.proofs.Members.{each_both, each_front, each_back, each_weaker}
use Rattle.lk_types.specs.Each.{Each}
use Rattle.lk_types.specs.Grounding.{all_of}
use Rattle.lk_types.specs.declared.ty.Ty.{Ty}
use Rattle.lk_types.specs.declared.ty.TyField.{TyField}
use Rattle.lk_unify.proofs.LoadKinds.{kinds_nothing, kinds_both, kinds_as}
use Rattle.lk_unify.proofs.LoadSteps.{both, loads_nothing, loads_both, loads_as}
use Rattle.lk_arena.specs.Kinds.{OfTypes}
use Rattle.lk_unify.specs.Loading.{IsLoader, LoadsTo, Loads, LoadsAll, LoadsFields, NeverMeans, type_meaning, types_meaning, fields_meaning}
use Rattle.lk_unify.specs.declared.loader.Loader.{Loader}
use Rattle.lk_arena.specs.declared.node.Field.{Field}

abbrev pub with_last : {A : Type 0} → List A × A → List A
with_last p = p.0 ++ p.1 ∷ []

one_front : {A : Type 0} (a : A) (o : Option (List A)) (p : Option A) → option_map (λ more. a ∷ more) (option_map with_last (both o p)) ≡ option_map with_last (both (option_map (λ more. a ∷ more) o) p)
one_front a None p = refl
one_front a (Some xs) None = refl
one_front a (Some xs) (Some b) = refl

all_one : {A : Type 0} (o : Option A) → all_of (o ∷ []) ≡ option_map with_last (both (Some []) o)
all_one None = refl
all_one (Some a) = refl

pub all_more : {X A : Type 0} (f : X → Option A) (xs : List X) (x : X) → all_of (map f (xs ++ x ∷ [])) ≡ option_map with_last (both (all_of (map f xs)) (f x))
all_more f [] x = all_one (f x)
all_more f (y ∷ ys) x = by_first (f y) (all_more f ys x)
  where
    by_first : (o : Option _) → all_of (map f (ys ++ x ∷ [])) ≡ option_map with_last (both (all_of (map f ys)) (f x))
        → all_of (o ∷ map f (ys ++ x ∷ [])) ≡ option_map with_last (both (all_of (o ∷ map f ys)) (f x))
    by_first None is = refl
    by_first (Some a) is = ap (option_map (λ more. a ∷ more)) is ∙ one_front a (all_of (map f ys)) (f x)

-- one that isn't there
pub all_none : {X A : Type 0} (f : X → Option A) (xs : List X) (i : ℕ) (x : X) → i < length xs → f (get_or xs i x) ≡ None → all_of (map f xs) ≡ None
all_none f [] i x h e = absurd (omega arith)
all_none f (y ∷ ys) zero x h e = ap (λ o. all_of (o ∷ map f ys)) e
all_none f (y ∷ ys) (suc i) x h e = by_first (f y) (all_none f ys i x (omega arith) e)
  where
    by_first : (o : Option _) → all_of (map f ys) ≡ None → all_of (o ∷ map f ys) ≡ None
    by_first None is = refl
    by_first (Some a) is = ap (option_map (λ more. a ∷ more)) is

-- ---- types

pub loads_no_types : (l : Loader) (ns : List ℕ) → IsLoader l → ns ≡ [] → LoadsAll l l (types_meaning []) ns
loads_no_types l ns whole e = subst (LoadsAll l l (types_meaning [])) (sym e) (record { below = tt; kinds = kinds_nothing l; to = loads_nothing l [] whole })

module _ (a b c : Loader) (ts : List Ty) (i : ℕ) (t : Ty) (ns : List ℕ) (n : ℕ) (h : i < length ts) (is : t ≡ get_or ts i t) (l : LoadsAll a b (types_meaning (take i ts)) ns) (m : Loads b c OfTypes (type_meaning t) n) where
  types_next : LoadsTo a c (types_meaning (take i ts ++ t ∷ [])) (λ v. map v (ns ++ n ∷ []))
  types_next =
      loads_as a c (λ ρ. both (types_meaning (take i ts) ρ) (type_meaning t ρ)) (λ v. (map v ns, v n)) with_last (types_meaning (take i ts ++ t ∷ [])) (λ v. map v (ns ++ n ∷ []))
      (loads_both a b c (types_meaning (take i ts)) (λ v. map v ns) (type_meaning t) (λ v. v n) l.to m.to)
      (λ ρ. all_more (λ t. type_meaning t ρ) (take i ts) t)
      (λ v. map-append v ns (n ∷ []))

  pub loads_types_more : LoadsAll a c (types_meaning (take (i + 1) ts)) (ns ++ n ∷ [])
  loads_types_more =
      subst (λ xs. LoadsAll a c (types_meaning xs) (ns ++ n ∷ [])) (sym (take_more ts i t h ∙ ap (λ x. take i ts ++ x ∷ []) (sym is)))
      (record {
        below = each_both (λ k. k < length c.arena.shapes) ns (n ∷ [])
            (each_weaker (λ k. k < length b.arena.shapes) (λ k. k < length c.arena.shapes) (λ k q. (let z = m.to.longer in omega arith)) ns l.below) (m.below, tt);
        kinds = kinds_as a c (λ j. Each (λ n. j n ≡ OfTypes) ns × (j n ≡ OfTypes)) (λ j. Each (λ n. j n ≡ OfTypes) (ns ++ n ∷ []))
            (λ j p. each_both (λ n. j n ≡ OfTypes) ns (n ∷ []) p.0 (p.1, tt))
            (λ j p. (each_front (λ n. j n ≡ OfTypes) ns (n ∷ []) p, (each_back (λ n. j n ≡ OfTypes) ns (n ∷ []) p).0))
            (kinds_both a b c (λ j. Each (λ n. j n ≡ OfTypes) ns) (λ j. j n ≡ OfTypes) l.to.longer m.to.longer l.kinds m.kinds);
        to = types_next;
      })

pub never_types : (ts : List Ty) (i : ℕ) (t : Ty) → i < length ts → t ≡ get_or ts i t → NeverMeans (type_meaning t) → NeverMeans (types_meaning ts)
never_types ts i t h is never ρ = all_none (λ t. type_meaning t ρ) ts i t h (ap (λ t. type_meaning t ρ) (sym is) ∙ never ρ)

-- ---- types of fields

pub loads_no_fields : (l : Loader) (fields : List Field) → IsLoader l → fields ≡ [] → LoadsFields l l [] fields
loads_no_fields l fields whole e = subst (LoadsFields l l []) (sym e) (record { below = tt; kinds = kinds_nothing l; labels = refl; to = loads_nothing l [] whole })

module _ (a b c : Loader) (fs : List TyField) (i : ℕ) (f : TyField) (fields : List Field) (g : Field) (h : i < length fs) (is : f ≡ get_or fs i f) (l : LoadsFields a b (take i fs) fields) (m : Loads b c OfTypes (type_meaning f.ty) g.node)
    (label : g.label ≡ f.label) where
  fields_next : LoadsTo a c (fields_meaning (take i fs ++ f ∷ [])) (λ v. map (λ f. v f.node) (fields ++ g ∷ []))
  fields_next =
      loads_as a c (λ ρ. both (fields_meaning (take i fs) ρ) (type_meaning f.ty ρ)) (λ v. (map (λ f. v f.node) fields, v g.node)) with_last (fields_meaning (take i fs ++ f ∷ []))
      (λ v. map (λ f. v f.node) (fields ++ g ∷ []))
      (loads_both a b c (fields_meaning (take i fs)) (λ v. map (λ f. v f.node) fields) (type_meaning f.ty) (λ v. v g.node) l.to m.to)
      (λ ρ. all_more (λ f. type_meaning f.ty ρ) (take i fs) f)
      (λ v. map-append (λ f. v f.node) fields (g ∷ []))

  pub loads_fields_more : LoadsFields a c (take (i + 1) fs) (fields ++ g ∷ [])
  loads_fields_more =
      subst (λ xs. LoadsFields a c xs (fields ++ g ∷ [])) (sym (take_more fs i f h ∙ ap (λ x. take i fs ++ x ∷ []) (sym is)))
      (record {
        below = each_both (λ f. f.node < length c.arena.shapes) fields (g ∷ [])
            (each_weaker (λ f. f.node < length b.arena.shapes) (λ f. f.node < length c.arena.shapes) (λ k q. (let z = m.to.longer in omega arith)) fields l.below) (m.below, tt);
        labels = map-append (λ f. f.label) fields (g ∷ []) ∙ (λ j. l.labels j ++ label j ∷ []) ∙ sym (map-append (λ f. f.label) (take i fs) (f ∷ []));
        kinds = kinds_as a c (λ j. Each (λ f. j f.node ≡ OfTypes) fields × (j g.node ≡ OfTypes)) (λ j. Each (λ f. j f.node ≡ OfTypes) (fields ++ g ∷ []))
            (λ j p. each_both (λ f. j f.node ≡ OfTypes) fields (g ∷ []) p.0 (p.1, tt))
            (λ j p. (each_front (λ f. j f.node ≡ OfTypes) fields (g ∷ []) p, (each_back (λ f. j f.node ≡ OfTypes) fields (g ∷ []) p).0))
            (kinds_both a b c (λ j. Each (λ f. j f.node ≡ OfTypes) fields) (λ j. j g.node ≡ OfTypes) l.to.longer m.to.longer l.kinds m.kinds);
        to = fields_next;
      })

pub never_fields : (fs : List TyField) (i : ℕ) (f : TyField) → i < length fs → f ≡ get_or fs i f → NeverMeans (type_meaning f.ty) → NeverMeans (fields_meaning fs)
never_fields fs i f h is never ρ = all_none (λ f. type_meaning f.ty ρ) fs i f h (ap (λ f. type_meaning f.ty ρ) (sym is) ∙ never ρ)
