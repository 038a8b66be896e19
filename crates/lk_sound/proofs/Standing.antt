-- What a name stands for in lists one behind the other, and names that are bound round a part of the text.
use Rattle.std.proofs.Common.{◌≡◌, refl, sym, ap, ◌∙◌, Bool, true, false, ◌||◌, cond, List, [], ◌∷◌, ◌++◌, Option, Some, None, is_some, bytes_eq}
use Rattle.std.proofs.lemmas.Cmp.{nat_list_cmp_total}
use Rattle.std.proofs.lemmas.Map.Text.{is_eq-slice_cmp}
use Rattle.std.specs.Cmp.Lexicographic.{nat_list_eq_equiv}
use Rattle.std.specs.FinSet as set
use Rattle.std.specs.Option.{option_or}
use Rattle.lk_ast.specs.declared.place.Word.{Word}
use Rattle.lk_scope.specs.Names.{Names, is_local, bind, bind_all, bind_some}
use Rattle.lk_types.specs.Rows.{Label}
use Rattle.lk_types.specs.declared.ground.Ground.{Ground}
use Rattle.lk_typing.specs.Names.{Named, named, names_of, texts}
use Rattle.lk_typing.specs.Typing.{IsHeld, under_name, bare}

-- ---- what a name stands for

-- in a list before another one, or else in that one
pub named_behind : {A : Type 0} (y : Label) (front back : Named A) → named y (front ++ back) ≡ option_or (named y front) (named y back)
named_behind y [] back = refl
named_behind y (entry ∷ front) back = by_test (bytes_eq entry.0 y) (named_behind y front back)
  where
    by_test : (b : Bool) → named y (front ++ back) ≡ option_or (named y front) (named y back)
        → cond b (Some entry.1) (named y (front ++ back)) ≡ option_or (cond b (Some entry.1) (named y front)) (named y back)
    by_test true is = refl
    by_test false is = is

-- ---- names that are bound

pub bound_one : (w : Word) (bound : Names) (y : Label) → is_local (bind w bound) y ≡ (bytes_eq w.text y || is_local bound y)
bound_one w bound y = set.contains-insert nat_list_cmp_total bound w.text y ∙ ap (λ b. b || is_local bound y) (is_eq-slice_cmp y w.text ∙ nat_list_eq_equiv.symm y w.text)

-- The names that are bound there besides are those of these entries.
abbrev pub Binds : {A : Type 0} → Names → Names → Named A → Type 0
Binds bound inner entries = (y : Label) → is_local inner y ≡ (is_some (named y entries) || is_local bound y)

pub binds_one : {A : Type 0} (w : Word) (a : A) (bound : Names) → Binds bound (bind w bound) ((w.text, a) ∷ [])
binds_one w a bound y = bound_one w bound y ∙ by_test (bytes_eq w.text y)
  where
    by_test : (b : Bool) → (b || is_local bound y) ≡ (is_some (cond b (Some a) None) || is_local bound y)
    by_test true = refl
    by_test false = refl

pub binds_held : (name : Option Word) (a : Ground) (held : Named Ground) (bound : Names) → IsHeld name a held → Binds bound (bind_some name bound) held
binds_held _ _ _ bound (under_name {x} {a}) = binds_one x a bound
binds_held _ _ _ bound bare = λ y. refl

pub binds_all : {A : Type 0} (words : List Word) (params : Named A) (bound : Names) → names_of params ≡ texts words → Binds bound (bind_all words bound) params
binds_all [] [] bound is y = refl
binds_all [] (p ∷ params) bound is y = absurd cc
binds_all (w ∷ words) [] bound is y = absurd cc
binds_all {A = A} (w ∷ words) (p ∷ params) bound is y =
    let head : p.0 ≡ w.text = cc in
    let tail : names_of params ≡ texts words = cc in
    binds_all words params (bind w bound) tail y ∙ ap (λ b. is_some (named y params) || b) (bound_one w bound y)
    ∙ by_test (bytes_eq w.text y) (named y params) ∙ ap (λ x. is_some (cond (bytes_eq x y) (Some p.1) (named y params)) || is_local bound y) (sym head)
  where
    by_test : (b : Bool) (o : Option A) → (is_some o || (b || is_local bound y)) ≡ (is_some (cond b (Some p.1) o) || is_local bound y)
    by_test true None = refl
    by_test true (Some a) = refl
    by_test false o = refl
