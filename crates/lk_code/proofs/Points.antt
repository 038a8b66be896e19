-- Positions of a typed point are typed points, and behind them the names are left that it still uses.
use Rattle.std.proofs.Common.{◌≡◌, sym, inl, inr, subst, ◌∙◌, ℕ, List, [], ◌∷◌, Option, Some, None}
use Rattle.lk_ast.specs.declared.value.Value.{Value}
use Rattle.lk_fits.specs.Values.{Fits}
use Rattle.lk_ir.proofs.Lookups.{only_keeps}
use Rattle.lk_ir.specs.Continuing.{act_in, behind, conts_at, going, only, parts_in}
use Rattle.lk_ir.specs.Environments.{Env, lookup}
use Rattle.lk_ir.specs.LetNormal.{under}
use Rattle.lk_ir.specs.Tables.{form_at, names_of}
use Rattle.lk_ir.specs.Uses as used
use Rattle.lk_ir.specs.Uses.{AreKept, AreNamed, IsTurnKept, KeepsJust, UsedBehind, turned}
use Rattle.lk_ir.specs.declared.nodes.Cont.{Cont}
use Rattle.lk_ir.specs.declared.nodes.Conts.{Conts}
use Rattle.lk_ir.specs.declared.nodes.Form.{Form}
use Rattle.lk_ir.specs.declared.nodes.Forms.{Forms}
use Rattle.lk_types.specs.declared.ground.Ground.{Ground}
use Rattle.lk_code.proofs.Acting.{typed_acts}
use Rattle.lk_code.specs.Acting.{ActsWell, AreFunctions, ArePoints, FitNames, GoesWell, TypedPoints}
use Rattle.lk_code.specs.Parts as typed
use Rattle.lk_code.specs.Parts.{AreTyped, AreTypedForms, Context, Info, IsTyped}

module _ (IsFun : ℕ → Ground → List Ground → Type 0) (f : Forms) (info : ℕ → Option Info) where
  abbrev pub BehindFit : Form → List ℕ → Context → Env → Type 0
  BehindFit form left c names = FitNames IsFun (UsedBehind f form left) c names

  -- ---- what is left

  -- what a continuation keeps of names that are used behind it, or of some of these
  pub kept_within : (P Q : ℕ → Type 0) (c : Context) (names : Env) (cont : Cont) → ((x : ℕ) → Q x → P x) → KeepsJust P cont → FitNames IsFun Q c names → FitNames IsFun Q c (only (names_of cont.keeps) names)
  kept_within P Q c names cont within keeps fit x uses t told =
      let found : (v : Value) × (lookup names x ≡ Some v) × Fits IsFun v t = fit x uses t told in
      (found.0, only_keeps (names_of cont.keeps) names x ((keeps.just x).1 (within x uses)) ∙ found.1, found.2)

  kept_fit : (P : ℕ → Type 0) (c : Context) (names : Env) (cont : Cont) → KeepsJust P cont → FitNames IsFun P c names → FitNames IsFun P c (only (names_of cont.keeps) names)
  kept_fit P c names cont keeps fit = kept_within P P c names cont (λ x uses. uses) keeps fit

  one_left : (form : Form) (k : ℕ) (ks : List ℕ) (c : Context) (names : Env) → BehindFit form (k ∷ ks) c names → BehindFit form ks c names
  one_left form k ks c names fit x (inl uses) = fit x (inl (used.others uses))
  one_left form k ks c names fit x (inr uses) = fit x (inr uses)

  turn_left : (form : Form) (body : Option ℕ) (cs : List (Option Cont)) → IsTurnKept f form body cs → (c : Context) (names : Env) → BehindFit form [] c names → BehindFit form [] c (behind [] cs names)
  turn_left form None [] kept c names fit = fit
  turn_left form None (d ∷ cs) kept c names fit = absurd kept
  turn_left form (Some body) [] kept c names fit = absurd kept
  turn_left form (Some body) (None ∷ []) kept c names fit = fit
  turn_left form (Some body) (None ∷ d ∷ cs) kept c names fit = absurd kept
  turn_left form (Some body) (Some d ∷ []) kept c names fit = kept_fit (UsedBehind f form []) c names d kept.1 fit
  turn_left form (Some body) (Some d ∷ e ∷ cs) kept c names fit = absurd kept

  pub left_over : (form : Form) (ks : List ℕ) (cs : List (Option Cont)) → AreKept f form ks cs → (c : Context) (names : Env) → BehindFit form ks c names → BehindFit form [] c (behind ks cs names)
  left_over form [] cs kept c names fit = turn_left form (turned form.kind form.tails) cs kept c names fit
  left_over form (k ∷ ks) [] kept c names fit = absurd kept
  left_over form (k ∷ ks) (None ∷ cs) kept c names fit = left_over form ks cs kept.1 c names (one_left form k ks c names fit)
  left_over form (k ∷ ks) (Some d ∷ cs) kept c names fit = left_over form ks cs kept.2 c (only (names_of d.keeps) names) (kept_fit (UsedBehind f form ks) c names d kept.1 (one_left form k ks c names fit))

  -- ---- positions

  pub points_typed : (form : Form) (ks : List ℕ) (cs : List (Option Cont)) (ts : List Ground) → AreKept f form ks cs → (c : Context) (names : Env) → AreTyped f info c ks ts → BehindFit form ks c names → ArePoints IsFun f info ts (going ks cs names)
  points_typed form [] cs [] kept c names typed.none fit = tt
  points_typed form [] cs (t ∷ ts) kept c names have fit = elim have [ ]
  points_typed form (k ∷ ks) cs [] kept c names have fit = elim have [ ]
  points_typed form (k ∷ ks) [] (t ∷ ts) kept c names have fit = absurd kept
  points_typed form (k ∷ ks) (None ∷ cs) (t ∷ ts) kept c names (typed.more one rest) fit =
      (record { context = c; typed = one; names = λ x uses u told. fit x (inl (used.first uses)) u told }, points_typed form ks cs ts kept.1 c names rest (one_left form k ks c names fit))
  points_typed form (k ∷ ks) (Some d ∷ cs) (t ∷ ts) kept c names (typed.more one rest) fit = (
    record { context = c; typed = one; names = λ x uses u told. fit x (inl (used.first uses)) u told },
    points_typed form ks cs ts kept.2 c (only (names_of d.keeps) names) rest (kept_fit (UsedBehind f form ks) c names d kept.1 (one_left form k ks c names fit)),
  )

  -- ---- points

  module _ (functions : AreFunctions IsFun f info) (sound : AreTypedForms f info) (conts : List Conts) (named : AreNamed f conts) where
    -- what is used behind the positions, or by them, is used by the node
    pub all_used : (n : ℕ) (form : Form) → form_at f n ≡ Some form → (x : ℕ) → UsedBehind f form form.parts x → used.Uses f x n
    all_used n form there x (inl uses) = used.in_part form there uses
    all_used n form there x (inr (inl needs)) = used.itself form there needs
    all_used n form there x (inr (inr uses)) = used.in_tail form there uses

    node_well : (c : Context) (n : ℕ) (t : Ground) (names : Env) → IsTyped f info c n t → FitNames IsFun (λ x. used.Uses f x n) c names → GoesWell IsFun f info conts t (under names n)
    node_well c n t names (typed.node form ts asked there has rule parts tails) fit =
        let kept = named.each n form there in
        let all : BehindFit form form.parts c names = λ x uses. fit x (all_used n form there x uses) in
        let left : BehindFit form [] c (behind form.parts (conts_at conts n) names) = left_over form form.parts (conts_at conts n) kept c names all in
        record {
          types = ts;
          parts = subst (λ o. ArePoints IsFun f info ts (parts_in f conts o n names)) (sym there) (points_typed form form.parts (conts_at conts n) ts kept c names parts all);
          acts = λ values fits. subst (λ o. ActsWell IsFun f info t (act_in f conts o n names values)) (sym there)
              (typed_acts IsFun f info functions sound c n form ts asked t there rule tails (behind form.parts (conts_at conts n) names) (λ x uses. left x (inr uses)) values fits);
        }

  pub typed_points : AreFunctions IsFun f info → AreTypedForms f info → (conts : List Conts) → AreNamed f conts → TypedPoints IsFun f info conts
  typed_points functions sound conts named t p of = node_well functions sound conts named of.context p.node t p.names of.typed of.names
