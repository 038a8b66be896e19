-- Names with their types as a list in the order of names.
use Rattle.std.proofs.Common.{◌≡◌, inl, inr, refl, sym, ap, subst, ◌∙◌, ◌⊎◌, ℕ, Bool, true, false, cond, [], ◌∷◌, map, Option, Some, None, IsSome, Less, nat_cmp}
use Rattle.std.proofs.lemmas.Cmp.{nat_cmp_total, tied_itself}
use Rattle.std.proofs.lemmas.Option.{none-some}
use Rattle.std.specs.BTreeMap.{BTreeMap, Updates}
use Rattle.std.specs.FinMap.{nat_cmp-IsAntisymmetric}
use Rattle.std.specs.List.{AllByRecursion}
use Rattle.std.specs.List.Sorted.{IsStrictlySortedBy}
use Rattle.std.specs.Ordering.{is_eq}
use Rattle.std.specs.declared.cmp.Ordering.{Ordering}
use Rattle.std.specs.declared.cmp.Ordering.TheVariants.{Equal, Greater}
use Rattle.lk_ir.specs.Tables.{names_of}
use Rattle.lk_ir.specs.Uses as relation
use Rattle.lk_ir.specs.Uses.{Among, IsFreeOf}
use Rattle.lk_ir.specs.declared.nodes.Kept.{Kept}
use Rattle.lk_types.specs.Each.{Each}
use Rattle.lk_cps.specs.Live.{Joins, Leaves, Live, Puts, Rises, kept_of, name_of, type_in}

pub never : false ≡ true → ⊥
never is = cc

-- ---- one name and another

tied : (r : Ordering) → is_eq r ≡ true → r ≡ Equal
tied Equal is = refl
tied Less is = absurd (never is)
tied Greater is = absurd (never is)

pub same_name : (x y : ℕ) → is_eq (nat_cmp x y) ≡ true → x ≡ y
same_name x y is = nat_cmp-IsAntisymmetric x y (tied (nat_cmp x y) is)

pub itself : (x : ℕ) → is_eq (nat_cmp x x) ≡ true
itself x = ap is_eq (tied_itself nat_cmp_total x)

pub other_name : (x y : ℕ) → (x ≡ y → ⊥) → is_eq (nat_cmp x y) ≡ false
other_name x y apart = by_test (is_eq (nat_cmp x y)) refl
  where
    by_test : (b : Bool) → is_eq (nat_cmp x y) ≡ b → b ≡ false
    by_test false is = refl
    by_test true is = absurd (apart (same_name x y is))

-- either the same or another
pub data Apart (x y : ℕ) : Type 0 where
  same : x ≡ y → Apart x y
  apart : (x ≡ y → ⊥) → Apart x y

pub compared : (x y : ℕ) → Apart x y
compared x y = by_test (is_eq (nat_cmp x y)) refl
  where
    by_test : (b : Bool) → is_eq (nat_cmp x y) ≡ b → Apart x y
    by_test true is = same (same_name x y is)
    by_test false is = apart (λ e. never (sym (subst (λ z. is_eq (nat_cmp x z) ≡ false) (sym e) is) ∙ itself x))

pub data Found (o : Option ℕ) : Type 0 where
  found : (ty : ℕ) → o ≡ Some ty → Found o

pub found_in : (o : Option ℕ) → IsSome o → Found o
found_in None some = absurd (never some)
found_in (Some ty) some = found ty refl

pub is_there : (o : Option ℕ) (ty : ℕ) → o ≡ Some ty → IsSome o
is_there o ty is = subst IsSome (sym is) refl

-- ---- an entry more

module _ (x ty : ℕ) (es : Live) where
  pub first_entry : type_in ((x, ty) ∷ es) x ≡ Some ty
  first_entry = ap (λ b. cond b (Some ty) (type_in es x)) (itself x)

  pub later_entry : (y : ℕ) → (y ≡ x → ⊥) → type_in ((x, ty) ∷ es) y ≡ type_in es y
  later_entry y differs = ap (λ b. cond b (Some ty) (type_in es y)) (other_name y x differs)

none_below : (x : ℕ) (es : Live) → AllByRecursion (λ y. nat_cmp x y ≡ Less) (map name_of es) → type_in es x ≡ None
none_below x [] below = refl
none_below x (e ∷ es) below = ap (λ o. cond (is_eq o) (Some e.1) (type_in es x)) below.0 ∙ none_below x es below.1

pub first_alone : (e : ℕ × ℕ) (es : Live) → Rises (e ∷ es) → type_in es e.0 ≡ None
unfolding IsStrictlySortedBy
first_alone e es rises = none_below e.0 es rises.0

pub rest_rises : (e : ℕ × ℕ) (es : Live) → Rises (e ∷ es) → Rises es
unfolding IsStrictlySortedBy
rest_rises e es rises = rises.1

-- ---- what the map does

pub put_there : (x ty : ℕ) (old new : BTreeMap ℕ ℕ) → Updates nat_cmp old new x (Some ty) → Puts old.entries x ty new.entries
put_there x ty old new updates = record { there = updates.1; others = λ y differs. updates.2 y (other_name x y differs) }

pub left_out : (x : ℕ) (old new : BTreeMap ℕ ℕ) → Updates nat_cmp old new x None → Leaves old.entries (Some x) new.entries
left_out x old new updates = record {
  gone = λ y some is. never (subst IsSome updates.1 (subst (λ z. IsSome (type_in new.entries z)) (sym is) some));
  others = λ y differs. updates.2 y (other_name x y differs);
}

pub all_left : (old : Live) → Leaves old None old
all_left old = record { gone = λ x some. tt; others = λ x free. refl }

-- ---- two lists

pub joins_swapped : (a b c : Live) → Joins a b c → Joins b a c
joins_swapped a b c joins = record { first = joins.second; second = joins.first; one = λ x ty is. swapped (joins.one x ty is) }
  where
    swapped : {A B : Type 0} → A ⊎ B → B ⊎ A
    swapped (inl p) = inr p
    swapped (inr q) = inl q

-- whoever puts the entries that are left to these has joined both lists
pub record Joining (a b now left : Live) : Type 0 where
  pub rises : Rises left
  pub rest : (c : Live) → Joins now left c → Joins a b c

pub joining_first : (a b : Live) → Rises b → Joining a b a b
joining_first a b rises = record { rises = rises; rest = λ c joins. joins }

step : (x ty : ℕ) (now left next c : Live) → type_in left x ≡ None → Puts now x ty next → Joins next left c → Joins now ((x, ty) ∷ left) c
step x ty now left next c alone puts joins = record { first = first_is; second = second_is; one = λ y t is. by_side y t (joins.one y t is) }
  where
    first_is : (y : ℕ) → IsSome (type_in now y) → IsSome (type_in c y)
    first_is y some = by_name (compared x y)
      where
        by_name : Apart x y → IsSome (type_in c y)
        by_name (same is) = joins.first y (subst (λ z. IsSome (type_in next z)) is (is_there (type_in next x) ty puts.there))
        by_name (apart differs) = joins.first y (subst IsSome (sym (puts.others y differs)) some)

    second_is : (y : ℕ) → IsSome (type_in ((x, ty) ∷ left) y) → IsSome (type_in c y)
    second_is y some = by_name (compared x y)
      where
        by_name : Apart x y → IsSome (type_in c y)
        by_name (same is) = joins.first y (subst (λ z. IsSome (type_in next z)) is (is_there (type_in next x) ty puts.there))
        by_name (apart differs) = joins.second y (subst IsSome (later_entry x ty left y (λ e. differs (sym e))) some)

    by_side : (y t : ℕ) → (type_in next y ≡ Some t) ⊎ (type_in left y ≡ Some t) → (type_in now y ≡ Some t) ⊎ (type_in ((x, ty) ∷ left) y ≡ Some t)
    by_side y t (inl is) = by_name (compared x y)
      where
        by_name : Apart x y → (type_in now y ≡ Some t) ⊎ (type_in ((x, ty) ∷ left) y ≡ Some t)
        by_name (same e) = inr (subst (λ z. type_in ((x, ty) ∷ left) z ≡ Some t) e (first_entry x ty left ∙ sym puts.there ∙ subst (λ z. type_in next z ≡ Some t) (sym e) is))
        by_name (apart differs) = inl (sym (puts.others y differs) ∙ is)
    by_side y t (inr is) = by_name (compared x y)
      where
        by_name : Apart x y → (type_in now y ≡ Some t) ⊎ (type_in ((x, ty) ∷ left) y ≡ Some t)
        by_name (same e) = absurd (none-some t (sym alone ∙ subst (λ z. type_in left z ≡ Some t) (sym e) is))
        by_name (apart differs) = inr (later_entry x ty left y (λ e. differs (sym e)) ∙ is)

pub joining_more : (a b now left next : Live) (e : ℕ × ℕ) → Joining a b now (e ∷ left) → Puts now e.0 e.1 next → Joining a b next left
joining_more a b now left next e joining puts = record {
  rises = rest_rises e left joining.rises;
  rest = λ c joins. joining.rest c (step e.0 e.1 now left next c (first_alone e left joining.rises) puts joins);
}

pub joining_last : (a b now left : Live) → left ≡ [] → Joining a b now left → Joins a b now
joining_last a b now left none joining = joining.rest now (subst (λ es. Joins now es now) (sym none) (record { first = λ x some. some; second = λ x some. absurd (never some); one = λ x ty is. inl is }))

-- ---- what is kept

pub names_are : (es : Live) → names_of (map kept_of es) ≡ map name_of es
names_are [] = refl
names_are (e ∷ es) = ap (λ xs. e.0 ∷ xs) (names_are es)

pub there : (x : ℕ) (es : Live) → Among x (names_of (map kept_of es)) → IsSome (type_in es x)
there x [] among = elim among [ ]
there _ (e ∷ es) relation.here = is_there (type_in (e ∷ es) e.0) e.1 (first_entry e.0 e.1 es)
there x (e ∷ es) (relation.later among) = by_name (compared x e.0) (there x es among)
  where
    by_name : Apart x e.0 → IsSome (type_in es x) → IsSome (type_in (e ∷ es) x)
    by_name (same is) later = subst (λ z. IsSome (type_in (e ∷ es) z)) (sym is) (is_there (type_in (e ∷ es) e.0) e.1 (first_entry e.0 e.1 es))
    by_name (apart differs) later = subst IsSome (sym (later_entry e.0 e.1 es x differs)) later

pub among : (x : ℕ) (es : Live) → IsSome (type_in es x) → Among x (names_of (map kept_of es))
among x [] some = absurd (never some)
among x (e ∷ es) some = by_name (compared x e.0) (among x es)
  where
    by_name : Apart x e.0 → (IsSome (type_in es x) → Among x (names_of (map kept_of es))) → Among x (names_of (map kept_of (e ∷ es)))
    by_name (same is) later = subst (λ z. Among z (names_of (map kept_of (e ∷ es)))) (sym is) relation.here
    by_name (apart differs) later = relation.later (later (subst IsSome (later_entry e.0 e.1 es x differs) some))

pub each_typed : (R : ℕ → ℕ → Type 0) (es : Live) → Rises es → ((x ty : ℕ) → type_in es x ≡ Some ty → R x ty) → Each (λ (k : Kept). R k.name k.ty) (map kept_of es)
each_typed R [] rises typed = tt
each_typed R (e ∷ es) rises typed = (typed e.0 e.1 (first_entry e.0 e.1 es), each_typed R es (rest_rises e es rises) (λ x ty is. typed x ty (by_name x ty is (compared x e.0))))
  where
    by_name : (x ty : ℕ) → type_in es x ≡ Some ty → Apart x e.0 → type_in (e ∷ es) x ≡ Some ty
    by_name x ty is (same e_is) = absurd (none-some ty (sym (first_alone e es rises) ∙ subst (λ z. type_in es z ≡ Some ty) e_is is))
    by_name x ty is (apart differs) = later_entry e.0 e.1 es x differs ∙ is
