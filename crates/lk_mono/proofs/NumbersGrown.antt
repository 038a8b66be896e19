-- A table of ground types that grows leaves the numbers of types what they are.
use Rattle.std.proofs.Common.{◌≡◌, ℕ, zero, suc, ◌<◌, ◌+◌, get_or, List, [], ◌∷◌, ◌++◌, length, map, refl, sym, ap, subst, ◌∙◌}
use native.Mathlib.Omega.{arith}
use Rattle.lk_ground_types.proofs.Entering.{at_front}
use Rattle.lk_ground_types.specs.Grounds.{at}
use Rattle.lk_mono.specs.Looks.{AreNumbered, IsNumbered}
use Rattle.lk_mono.specs.Queues.{AreUsesNumbered}
use Rattle.lk_mono.specs.declared.body.Body.{Body}
use Rattle.lk_mono.specs.declared.look.Found.{Found}
use Rattle.lk_mono.specs.declared.queue.Use.{Use}
use Rattle.lk_types.specs.Each.{Each}
use Rattle.lk_types.specs.declared.ground.Ground.{Ground}

abbrev pub Grows : List Ground → List Ground → Type 0
Grows ts us = (rest : List Ground) × (us ≡ ts ++ rest)

longer : (ts rest : List Ground) (n : ℕ) → n < length ts → n < length (ts ++ rest)
longer ts rest n less = let h = no_shorter ts rest in omega (arith, less, h)
  where
    no_shorter : (ts rest : List Ground) → length ts < length (ts ++ rest) + 1
    no_shorter [] rest = omega arith
    no_shorter (t ∷ ts) rest = let h = no_shorter ts rest in omega (arith, h)

pub still_numbered : (ts us : List Ground) → Grows ts us → (number : ℕ) (type : Ground) → IsNumbered ts number type → IsNumbered us number type
still_numbered ts us more number type is =
    subst (λ us. IsNumbered us number type) (sym more.1)
    (record { within = longer ts more.0 number is.within; is = at_front ts more.0 number is.within ∙ is.is })

pub uses_still : (ts us : List Ground) → Grows ts us → (listed : List Use) → AreUsesNumbered ts listed → AreUsesNumbered us listed
uses_still ts us more [] all = tt
uses_still ts us more (u ∷ listed) all = (still_numbered ts us more u.number u.ty all.0, uses_still ts us more listed all.1)

pub found_still : (ts us : List Ground) → Grows ts us → (found : List Found) → AreNumbered ts found → AreNumbered us found
found_still ts us more [] all = tt
found_still ts us more (f ∷ found) all = (still_numbered ts us more f.number f.ty all.0, found_still ts us more found all.1)

pub bodies_still : (ts us : List Ground) → Grows ts us → (bodies : List Body) → Each (λ (b : Body). AreNumbered ts b.uses) bodies → Each (λ (b : Body). AreNumbered us b.uses) bodies
bodies_still ts us more [] all = tt
bodies_still ts us more (b ∷ bodies) all = (found_still ts us more b.uses all.0, bodies_still ts us more bodies all.1)

pub grows_on : (ts us vs : List Ground) → Grows ts us → Grows us vs → Grows ts vs
grows_on ts us vs first second = (first.0 ++ second.0, second.1 ∙ ap (λ us. us ++ second.0) first.1 ∙ together ts first.0 second.0)
  where
    together : (xs ys zs : List Ground) → (xs ++ ys) ++ zs ≡ xs ++ (ys ++ zs)
    together [] ys zs = refl
    together (x ∷ xs) ys zs = ap (λ xs. x ∷ xs) (together xs ys zs)

pub one_more_body : (ts : List Ground) (bodies : List Body) (b : Body) → Each (λ (b : Body). AreNumbered ts b.uses) bodies → AreNumbered ts b.uses → Each (λ (b : Body). AreNumbered ts b.uses) (bodies ++ b ∷ [])
one_more_body ts [] b all one = (one, tt)
one_more_body ts (a ∷ bodies) b all one = (all.0, one_more_body ts bodies b all.1 one)

pub same_table : (ts : List Ground) → Grows ts ts
same_table ts = ([], sym (nothing ts))
  where
    nothing : (ts : List Ground) → ts ++ [] ≡ ts
    nothing [] = refl
    nothing (t ∷ ts) = ap (λ ts. t ∷ ts) (nothing ts)

pub body_numbered : (ts : List Ground) (bodies : List Body) (i : ℕ) (d b : Body) → Each (λ (b : Body). AreNumbered ts b.uses) bodies → i < length bodies → b ≡ get_or bodies i d → AreNumbered ts b.uses
body_numbered ts [] i d b all less is = absurd (omega (arith, less))
body_numbered ts (a ∷ bodies) zero d b all less is = subst (λ (b : Body). AreNumbered ts b.uses) (sym is) all.0
body_numbered ts (a ∷ bodies) (suc i) d b all less is = body_numbered ts bodies i d b all.1 (omega (arith, less)) is

pub found_numbered : (ts : List Ground) (uses : List Found) (i : ℕ) (d f : Found) → AreNumbered ts uses → i < length uses → f ≡ get_or uses i d → IsNumbered ts f.number f.ty
found_numbered ts [] i d f all less is = absurd (omega (arith, less))
found_numbered ts (a ∷ uses) zero d f all less is = subst (λ (f : Found). IsNumbered ts f.number f.ty) (sym is) all.0
found_numbered ts (a ∷ uses) (suc i) d f all less is = found_numbered ts uses i d f all.1 (omega (arith, less)) is

-- ---- types by numbers

pub same_type : (ts us : List Ground) → Grows ts us → (n : ℕ) → n < length ts → at us n ≡ at ts n
same_type ts us more n less = ap (λ us. at us n) more.1 ∙ at_front ts more.0 n less

pub same_types : (ts us : List Ground) → Grows ts us → (numbers : List ℕ) → Each (λ n. n < length ts) numbers → map (at us) numbers ≡ map (at ts) numbers
same_types ts us more [] all = refl
same_types ts us more (n ∷ numbers) all = λ i. same_type ts us more n all.0 i ∷ same_types ts us more numbers all.1 i

pub still_within : (ts us : List Ground) → Grows ts us → (numbers : List ℕ) → Each (λ n. n < length ts) numbers → Each (λ n. n < length us) numbers
still_within ts us more [] all = tt
still_within ts us more (n ∷ numbers) all = (subst (λ us. n < length us) (sym more.1) (longer ts more.0 n all.0), still_within ts us more numbers all.1)
