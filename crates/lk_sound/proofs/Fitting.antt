-- Values that fit, one after another.
use Rattle.std.proofs.Common.{◌≡◌, refl, ap, List, [], ◌∷◌, ◌++◌, length, suc}
use Rattle.lk_ast.specs.declared.declaration.Program.{Program}
use Rattle.lk_ast.specs.declared.value.Value.{Value}
use Rattle.lk_types.specs.declared.ground.Ground.{Ground}
use Rattle.lk_sound.specs.Instances.{Instances}
use Rattle.lk_sound.specs.Values.{Fits, AllFit, FitEach, none, more, none_left, one_more}

pub fit_each_more : (p : Program) (i : Instances) (done : List Value) (ds : List Ground) (v : Value) (t : Ground) → FitEach p i done ds → Fits p i v t → FitEach p i (done ++ v ∷ []) (ds ++ t ∷ [])
fit_each_more p i [] [] v t none_left fits = one_more fits none_left
fit_each_more p i [] (u ∷ ds) v t fit fits = elim fit [ ]
fit_each_more p i (d ∷ done) [] v t fit fits = elim fit [ ]
fit_each_more p i (d ∷ done) (u ∷ ds) v t (one_more du rest) fits = one_more du (fit_each_more p i done ds v t rest fits)

pub all_fit_both : (p : Program) (i : Instances) (xs ys : List Value) (a : Ground) → AllFit p i xs a → AllFit p i ys a → AllFit p i (xs ++ ys) a
all_fit_both p i [] ys a none fit = fit
all_fit_both p i (x ∷ xs) ys a (more fx fxs) fit = more fx (all_fit_both p i xs ys a fxs fit)

-- as many values as types
pub as_many : (p : Program) (i : Instances) (values : List Value) (ts : List Ground) → FitEach p i values ts → length values ≡ length ts
as_many p i [] [] none_left = refl
as_many p i [] (t ∷ ts) fit = elim fit [ ]
as_many p i (v ∷ values) [] fit = elim fit [ ]
as_many p i (v ∷ values) (t ∷ ts) (one_more fits fit) = ap suc (as_many p i values ts fit)

-- ---- the values of one, two or more parts

module _ (p : Program) (i : Instances) (P : List Value → Type 0) where
  pub on_none : P [] → (values : List Value) → FitEach p i values [] → P values
  on_none is [] none_left = is
  on_none is (v ∷ values) fit = elim fit [ ]

  pub on_first : (t : Ground) (ts : List Ground) → ((v : Value) (values : List Value) → Fits p i v t → FitEach p i values ts → P (v ∷ values)) → (values : List Value) → FitEach p i values (t ∷ ts) → P values
  on_first t ts is [] fit = elim fit [ ]
  on_first t ts is (v ∷ values) (one_more fits fit) = is v values fits fit

on_one_left : (p : Program) (i : Instances) (P : List Value → Type 0) (v : Value) → P (v ∷ []) → (values : List Value) → FitEach p i values [] → P (v ∷ values)
on_one_left p i P v is values fit = on_none p i (λ rest. P (v ∷ rest)) is values fit

pub on_one : (p : Program) (i : Instances) (P : List Value → Type 0) (t : Ground) → ((v : Value) → Fits p i v t → P (v ∷ [])) → (values : List Value) → FitEach p i values (t ∷ []) → P values
on_one p i P t is values fit = on_first p i P t [] (λ v rest fits left. on_one_left p i P v (is v fits) rest left) values fit
