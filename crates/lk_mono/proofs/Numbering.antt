-- Types that are found by numbers in a table that grows meanwhile.
use Rattle.std.proofs.Common.{◌≡◌, ℕ, ◌+◌, ◌<◌, get_or, take, drop, List, [], ◌∷◌, ◌++◌, length, map, IfSome, Option, Some, None, sym, ap, subst, ◌∙◌}
use Rattle.std.proofs.lemmas.List.{append_assoc, drop_more, map-append, take_more}
use Rattle.std.specs.List.{cons_option}
use Rattle.std.specs.Option.{option_map}
use Rattle.lk_ground_types.specs.Grounds.{at, ground_made}
use Rattle.lk_ground_types.specs.declared.ground_level.GroundLevel.TheVariants as level
use Rattle.lk_outline.specs.Shown.{shown, shown_site}
use Rattle.lk_outline.specs.Typed.{type_at}
use Rattle.lk_outline.specs.declared.site.Site.{Site as TheSite}
use Rattle.lk_types.specs.Each.{Each}
use Rattle.lk_types.specs.declared.ground.Ground.{Ground}
use Rattle.lk_types.specs.declared.ground.Ground.TheVariants as known
use Rattle.lk_types.specs.declared.ty.Effect.{Effect}
use Rattle.lk_mono.proofs.NumbersGrown.{Grows, grows_on, same_types, still_within}
use Rattle.lk_mono.specs.Looks.{AreNumbered, IsNumbered, IsSetting, as_found, as_uses, found_at, found_in}
use Rattle.lk_mono.specs.declared.look.Found.{Found}
use Rattle.lk_mono.specs.declared.look.Setting.{Setting}

each_last : {A : Type 0} (P : A → Type 0) (xs : List A) (x : A) → Each P xs → P x → Each P (xs ++ x ∷ [])
each_last P [] x all one = (one, tt)
each_last P (y ∷ xs) x all one = (all.0, each_last P xs x all.1 one)

-- ---- arguments

-- so many of the arguments have numbers
abbrev pub AreParams : List Ground → List Ground → List ℕ → List ℕ → List ℕ → Type 0
AreParams first ts numbers args params = (map (at ts) params ≡ map (type_at (map (at first) numbers)) args) × Each (λ n. n < length ts) params × Grows first ts

pub one_more_param : (first ts us : List Ground) (numbers args params more_params : List ℕ) (i arg d n : ℕ) → Each (λ n. n < length first) numbers → AreParams first ts numbers (take i args) params
    → i < length args → arg ≡ get_or args i d → at us n ≡ type_at (map (at ts) numbers) arg → n < length us → Grows ts us → more_params ≡ params ++ n ∷ []
    → AreParams first us numbers (take (i + 1) args) more_params
one_more_param first ts us numbers args params more_params i arg d n all are less arg_is is within more more_are = subst (AreParams first us numbers (take (i + 1) args)) (sym more_are) (
  map-append (at us) params (n ∷ [])
      ∙ (λ j. (same_types ts us more params are.1 ∙ are.0) j ++ (is ∙ ap (λ ts. type_at ts arg) (same_types first ts are.2 numbers all) ∙ ap (type_at (map (at first) numbers)) arg_is) j ∷ [])
      ∙ sym (map-append (type_at (map (at first) numbers)) (take i args) (get_or args i d ∷ []))
      ∙ ap (map (type_at (map (at first) numbers))) (sym (take_more args i d less)),
  each_last (λ n. n < length us) params n (still_within ts us more params are.1) within,
  grows_on first ts us are.2 more,
)

-- ---- calls

-- the type of what is called
pub called_there : (first ts us vs : List Ground) (numbers args params : List ℕ) (effects : List Effect) (node answer number : ℕ) → Each (λ n. n < length first) numbers
    → Grows first ts → Grows ts us → map (at ts) params ≡ map (type_at (map (at first) numbers)) args → Each (λ n. n < length ts) params → at us answer ≡ type_at (map (at ts) numbers) node
    → at vs number ≡ ground_made us (level.Fun params effects answer) → (types : List Ground) (known_effects : List Effect) → map (at first) numbers ≡ types → effects ≡ known_effects
    → at vs number ≡ known.Fun (map (type_at types) args) known_effects (type_at types node)
called_there first ts us vs numbers args params effects node answer number all before after are within is made types known_effects types_are effects_are =
    made
    ∙ (λ i. known.Fun ((same_types ts us after params within ∙ are ∙ ap (λ ts. map (type_at ts) args) types_are) i) (effects_are i)
    ((is ∙ ap (λ ts. type_at ts node) (same_types first ts before numbers all ∙ types_are)) i))

-- ---- uses, one node after another

module _ (own : List Effect) (types : List Ground) where
  next_site : (sites : List TheSite) (i : ℕ) (s d : TheSite) → i < length sites → s ≡ get_or sites i d
      → found_in own types (shown (drop i sites)) ≡ cons_option (found_at own types (shown_site s)) (found_in own types (shown (drop (i + 1) sites)))
  next_site sites i s d less is = ap (λ xs. found_in own types (shown xs)) (drop_more sites i d less ∙ ap (λ s. s ∷ drop (i + 1) sites) (sym is))

  -- the node uses something
  pub one_more_use : (sites : List TheSite) (i : ℕ) (s d : TheSite) (uses more_uses : List Found) (f : Found) → i < length sites → s ≡ get_or sites i d → option_map as_found (Some f) ≡ found_at own types (shown_site s) → more_uses ≡ uses ++ f ∷ []
      → as_uses uses ++ found_in own types (shown (drop i sites)) ≡ found_in own types (shown sites)
      → as_uses more_uses ++ found_in own types (shown (drop (i + 1) sites)) ≡ found_in own types (shown sites)
  one_more_use sites i s d uses more_uses f less is found more before =
      ap (λ uses. as_uses uses ++ found_in own types (shown (drop (i + 1) sites))) more
      ∙ ap (λ uses. uses ++ found_in own types (shown (drop (i + 1) sites))) (map-append as_found uses (f ∷ []))
      ∙ append_assoc (as_uses uses) (as_found f ∷ []) (found_in own types (shown (drop (i + 1) sites)))
      ∙ ap (λ o. as_uses uses ++ cons_option o (found_in own types (shown (drop (i + 1) sites)))) found
      ∙ ap (λ rest. as_uses uses ++ rest) (sym (next_site sites i s d less is))
      ∙ before

  -- it uses nothing
  pub no_more_use : (sites : List TheSite) (i : ℕ) (s d : TheSite) (uses : List Found) → i < length sites → s ≡ get_or sites i d → option_map as_found None ≡ found_at own types (shown_site s)
      → as_uses uses ++ found_in own types (shown (drop i sites)) ≡ found_in own types (shown sites)
      → as_uses uses ++ found_in own types (shown (drop (i + 1) sites)) ≡ found_in own types (shown sites)
  no_more_use sites i s d uses less is none before =
      ap (λ o. as_uses uses ++ cons_option o (found_in own types (shown (drop (i + 1) sites)))) none
      ∙ ap (λ rest. as_uses uses ++ rest) (sym (next_site sites i s d less is))
      ∙ before

pub one_more_numbered : (ts : List Ground) (uses more_uses : List Found) (f : Found) → more_uses ≡ uses ++ f ∷ [] → AreNumbered ts uses → IsNumbered ts f.number f.ty → AreNumbered ts more_uses
one_more_numbered ts uses more_uses f more all one = subst (AreNumbered ts) (sym more) (each_last (λ (f : Found). IsNumbered ts f.number f.ty) uses f all one)

pub some_numbered : (ts : List Ground) (o : Option Found) (f : Found) → o ≡ Some f → IfSome o (λ f. IsNumbered ts f.number f.ty) → IsNumbered ts f.number f.ty
some_numbered ts o f is one = subst (λ o. IfSome o (λ f. IsNumbered ts f.number f.ty)) is one

pub setting_still : (ts us : List Ground) → Grows ts us → (setting : Setting) (types : List Ground) → IsSetting ts setting types → IsSetting us setting types
setting_still ts us more setting types is = record {
  made = same_types ts us more setting.numbers.now is.within ∙ is.made;
  within = still_within ts us more setting.numbers.now is.within;
}
