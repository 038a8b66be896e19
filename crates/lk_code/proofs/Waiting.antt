-- A frame with values of the types told of it goes on with what is of its result's type, and at a position it is that of a typed node.
use Rattle.std.proofs.Common.{◌≡◌, refl, sym, ap, subst, ◌∙◌, inl, inr, ◌⊎◌, ℕ, suc, ◌+◌, true, false, List, [], ◌∷◌, ◌++◌, Option, Some, None, drop, take, length, length-append, slice_get, arith}
use Rattle.std.proofs.lemmas.Bool.Decides.{nat_tests}
use Rattle.std.specs.Option.{option_and_then, option_map}
use Rattle.std.specs.Prelude.{nat_lt, if◌then◌else◌}
use Rattle.lk_ast.specs.declared.place.Loc.{Loc}
use Rattle.lk_ast.specs.declared.value.Value.{Value}
use Rattle.lk_fits.proofs.Shapes.{list_of_fits}
use Rattle.lk_fits.specs.Values.{FitEach, none_left, one_more}
use Rattle.lk_ir.specs.Continuing.{act_in, behind, conts_at, going, only, parts_in}
use Rattle.lk_ir.specs.Environments.{Env}
use Rattle.lk_ir.specs.LetNormal.{Point, act}
use Rattle.lk_ir.specs.Tables.{form_at, names_of}
use Rattle.lk_ir.specs.TypedUses.{UsedBehindAs}
use Rattle.lk_ir.specs.Uses as used
use Rattle.lk_ir.specs.Uses.{AreKept, UsedBehind, UsedIn}
use Rattle.lk_ir.specs.declared.nodes.Cont.{Cont}
use Rattle.lk_ir.specs.declared.nodes.Form.{Form}
use Rattle.lk_ir.specs.declared.nodes.Forms.{Forms}
use Rattle.lk_ir.specs.declared.nodes.Kind.{Kind}
use Rattle.lk_ir.specs.declared.nodes.Kind.TheVariants as kind
use Rattle.lk_moves.specs.Frames as frames
use Rattle.lk_operators.specs.Values.{list_in}
use Rattle.lk_types.proofs.Parts.{same_some}
use Rattle.lk_types.specs.declared.ground.Ground.{Ground}
use Rattle.lk_types.specs.declared.ground.Ground.TheVariants as known
use Rattle.lk_code.proofs.Acting.{bodies_well, typed_acts}
use Rattle.lk_code.proofs.KeptNames.{kept_names_fit}
use Rattle.lk_code.proofs.Places.{AreSplit, AtPart, AtTurn, node_type_is, node_types_are, one_behind, place as place_of, split, turned_is, types_long}
use Rattle.lk_code.proofs.Points.{BehindFit, kept_within, left_over, points_typed}
use Rattle.lk_code.proofs.Soundness.{functions}
use Rattle.lk_code.proofs.TypedUses.{use_behind}
use Rattle.lk_code.specs.Acting.{ActsWell, ArePoints, FitNames}
use Rattle.lk_code.specs.Law.{frame}
use Rattle.lk_code.specs.Meaning.{at_home, frame_meant, kept_names, part_meant, turn_meant, turn_of}
use Rattle.lk_code.specs.Parts as typed
use Rattle.lk_code.specs.Parts.{AreTyped, Asked, Context, HaveTypes, Info, IsTyped, Rule, type_in}
use Rattle.lk_code.specs.Sound.{HasFrame, IsFrameOf, told_by}
use Rattle.lk_code.specs.Tables.{cont_at, first_frame, frame_info, node_type, type_at}
use Rattle.lk_code.specs.Told.{node_types}
use Rattle.lk_code.specs.TypedLaw.{IsNodeAt, IsWhole}
use Rattle.lk_code.specs.Values.{IsFun}
use Rattle.lk_code.specs.Waiting.{GoesOn}
use Rattle.lk_code.specs.declared.infos.FrameInfo.{FrameInfo}
use Rattle.lk_code.specs.declared.tables.CodeTables.{CodeTables}
use Rattle.lk_code.specs.declared.tables.Home.{Home}

not_itself : (n : ℕ) → nat_lt n n ≡ false
not_itself n = grind (arith, nat_tests)

is_within : (n m : ℕ) → nat_lt n (n + suc m) ≡ true
is_within n m = grind (arith, nat_tests)

-- ---- lists

front : {A : Type 0} (xs ys : List A) → take (length xs) (xs ++ ys) ≡ xs
front [] ys = refl
front (x ∷ xs) ys = ap (λ zs. x ∷ zs) (front xs ys)

there_in : (xs ys zs : List ℕ) (x : ℕ) → slice_get ((xs ++ x ∷ ys) ++ zs) (length xs) ≡ Some x
there_in [] ys zs x = refl
there_in (y ∷ xs) ys zs x = there_in xs ys zs x

first_behind : (xs ys : List ℕ) (x : ℕ) → slice_get (xs ++ x ∷ ys) (length xs) ≡ Some x
first_behind [] ys x = refl
first_behind (y ∷ xs) ys x = first_behind xs ys x

up_to : (xs ys : List ℕ) (x : ℕ) → take (suc (length xs)) (xs ++ x ∷ ys) ≡ xs ++ x ∷ []
up_to [] ys x = refl
up_to (y ∷ xs) ys x = ap (λ zs. y ∷ zs) (up_to xs ys x)

left_behind : (xs ys : List ℕ) (x : ℕ) → drop (suc (length xs)) (xs ++ x ∷ ys) ≡ ys
left_behind [] ys x = refl
left_behind (y ∷ xs) ys x = left_behind xs ys x

module _ (IsFun : ℕ → Ground → List Ground → Type 0) where
  -- values of some types, and of others behind them
  pub record AreCut (n : ℕ) (values : List Value) (ts us : List Ground) : Type 0 where
    pub first : FitEach IsFun (take n values) ts
    pub rest : FitEach IsFun (drop n values) us
    pub long : length (take n values) ≡ n

  pub fit_cut : (ts us : List Ground) (values : List Value) → FitEach IsFun values (ts ++ us) → AreCut (length ts) values ts us
  fit_cut [] us [] fit = record { first = none_left; rest = fit; long = refl }
  fit_cut [] us (v ∷ values) fit = record { first = none_left; rest = fit; long = refl }
  fit_cut (t ∷ ts) us [] fit = elim fit [ ]
  fit_cut (t ∷ ts) us (v ∷ values) (one_more fits fit) = let inner : AreCut (length ts) values ts us = fit_cut ts us values fit in record { first = one_more fits inner.first; rest = inner.rest; long = ap suc inner.long }

  -- ---- behind a position

  module _ (f : Forms) (info : ℕ → Option Info) (form : Form) (c : Context) where
    in_later : (x : ℕ) (js : List ℕ) (k : ℕ) (later : List ℕ) → UsedIn f x later → UsedIn f x (js ++ k ∷ later)
    in_later x [] k later uses = used.others uses
    in_later x (j ∷ js) k later uses = used.others (in_later x js k later uses)

    further_behind : (js : List ℕ) (k : ℕ) (later : List ℕ) (x : ℕ) → UsedBehind f form later x → UsedBehind f form (js ++ k ∷ later) x
    further_behind js k later x (inl uses) = inl (in_later x js k later uses)
    further_behind js k later x (inr uses) = inr uses

    narrowed_fit : (js : List ℕ) (k : ℕ) (later : List ℕ) (names : Env) (d : Cont) → used.KeepsJust (UsedBehind f form (js ++ k ∷ later)) d → BehindFit IsFun f info form later c names → BehindFit IsFun f info form later c (only (names_of d.keeps) names)
    narrowed_fit js k later names d keeps fit = kept_within IsFun f info (UsedBehind f form (js ++ k ∷ later)) (UsedBehind f form later) c names d (further_behind js k later) keeps fit

    pub going_left : (earlier : List ℕ) (k : ℕ) (later : List ℕ) (cs : List (Option Cont)) (ts : List Ground) → AreKept f form (earlier ++ k ∷ later) cs → AreTyped f info c later ts → (names : Env) → BehindFit IsFun f info form later c names
        → ArePoints IsFun f info ts (drop (suc (length earlier)) (going (earlier ++ k ∷ later) cs names))
    going_left [] k later [] ts kept have names fit = absurd kept
    going_left [] k later (None ∷ cs) ts kept have names fit = points_typed IsFun f info form later cs ts kept.1 c names have fit
    going_left [] k later (Some d ∷ cs) ts kept have names fit =
        points_typed IsFun f info form later cs ts kept.2 c (only (names_of d.keeps) names) have (kept_within IsFun f info (UsedBehind f form later) (UsedBehind f form later) c names d (λ x uses. uses) kept.1 fit)
    going_left (j ∷ js) k later [] ts kept have names fit = absurd kept
    going_left (j ∷ js) k later (None ∷ cs) ts kept have names fit = going_left js k later cs ts kept.1 have names fit
    going_left (j ∷ js) k later (Some d ∷ cs) ts kept have names fit = going_left js k later cs ts kept.2 have (only (names_of d.keeps) names) (narrowed_fit js k later names d kept.1 fit)

    pub behind_left : (earlier : List ℕ) (k : ℕ) (later : List ℕ) (cs : List (Option Cont)) → AreKept f form (earlier ++ k ∷ later) cs → (names : Env) → BehindFit IsFun f info form later c names
        → BehindFit IsFun f info form [] c (behind (earlier ++ k ∷ later) cs names)
    behind_left [] k later [] kept names fit = absurd kept
    behind_left [] k later (None ∷ cs) kept names fit = left_over IsFun f info form later cs kept.1 c names fit
    behind_left [] k later (Some d ∷ cs) kept names fit =
        left_over IsFun f info form later cs kept.2 c (only (names_of d.keeps) names) (kept_within IsFun f info (UsedBehind f form later) (UsedBehind f form later) c names d (λ x uses. uses) kept.1 fit)
    behind_left (j ∷ js) k later [] kept names fit = absurd kept
    behind_left (j ∷ js) k later (None ∷ cs) kept names fit = behind_left js k later cs kept.1 names fit
    behind_left (j ∷ js) k later (Some d ∷ cs) kept names fit = behind_left js k later cs kept.2 (only (names_of d.keeps) names) (narrowed_fit js k later names d kept.1 fit)

-- ---- the rule of a `for`

pub record IsForOf (f : Forms) (info : ℕ → Option Info) (c : Context) (x body : ℕ) (ts : List Ground) (t : Ground) : Type 0 where
  pub a : Ground
  pub b : Ground
  pub parts : ts ≡ known.List a ∷ []
  pub result : t ≡ known.List b
  pub typed : IsTyped f info ((x, a) ∷ c) body (known.List b)

for_rule : {f : Forms} {info : ℕ → Option Info} {c : Context} {k : Kind} {ts : List Ground} {asked : List Asked} {t : Ground} {tails : List ℕ} (x body : ℕ) → Rule f info c k ts asked t → HaveTypes f info tails asked → k ≡ kind.For x → tails ≡ body ∷ []
    → IsForOf f info c x body ts t
for_rule {f = f} {info = info} {c = c} x body (typed.for_each {x = y} a b) (typed.tail {n = n} one typed.no_tail) is tails =
    let name : y ≡ x = cc in
    let node : n ≡ body = cc in
    record { a = a; b = b; parts = refl; result = refl; typed = subst (λ z. IsTyped f info ((z, a) ∷ c) body (known.List b)) name (subst (λ m. IsTyped f info ((y, a) ∷ c) m (known.List b)) node one) }
for_rule x body other have is tails = cc

-- ---- a node by its form

pub record IsNode (f : Forms) (info : ℕ → Option Info) (c : Context) (form : Form) (t : Ground) : Type 0 where
  pub ts : List Ground
  pub asked : List Asked
  pub type : type_at f form.ty ≡ Some t
  pub rule : Rule f info c form.kind ts asked t
  pub parts : AreTyped f info c form.parts ts
  pub tails : HaveTypes f info form.tails asked

pub inverted : (f : Forms) (info : ℕ → Option Info) (c : Context) (n : ℕ) (form : Form) (t : Ground) → form_at f n ≡ Some form → IsTyped f info c n t → IsNode f info c form t
inverted f info c n form t there (typed.node other ts asked is has rule parts tails) =
    subst (λ (g : Form). IsNode f info c g t) (same_some (sym is ∙ there)) (record { ts = ts; asked = asked; type = has; rule = rule; parts = parts; tails = tails })

-- ---- frames

module _ (c : CodeTables) (whole : IsWhole c) (h : Home) (form : Form) (cont : Cont) (i : FrameInfo) (there : form_at c.forms h.node ≡ Some form) (is : cont_at c h ≡ Some cont) (info_is : frame_info c (first_frame c + cont.order) ≡ Some i)
    (env : List Value) (place : Loc) where
  abbrev has : HasFrame c h form cont
  has = whole.sound.frames h form cont there is

  pub types : IsFrameOf c.forms form h.position cont i
  types = subst (IsFrameOf c.forms form h.position cont) (same_some (sym has.is ∙ info_is)) has.types

  -- what the frame stands for
  meant : frame_meant c place (frame (first_frame c + cont.order) env) ≡ at_home c place h form cont env
  meant =
      ap (λ o. option_and_then (λ h. option_and_then (λ form. option_and_then (λ cont. at_home c place h form cont env) (cont_at c h)) (form_at c.forms h.node)) o) has.home
      ∙ ap (λ o. option_and_then (λ form. option_and_then (λ cont. at_home c place h form cont env) (cont_at c h)) o) there
      ∙ ap (λ o. option_and_then (λ cont. at_home c place h form cont env) o) is

  abbrev Goes : Option (frames.Frame Point) → Type 0
  Goes frame = GoesOn (IsFun c) c.forms (told_by c) c.conts i.hole i.result frame

  abbrev info : ℕ → Option Info
  info = told_by c

  abbrev conts : List (Option Cont)
  conts = conts_at c.conts h.node

  module _ (context : Context) (t : Ground) (node : IsNode c.forms info context form t) where
    result : t ≡ i.result
    result = same_some (sym node.type ∙ types.result)

    pub told : (left : List ℕ) (ts : List Ground) → AreTyped c.forms info context left ts → (x ty : ℕ) → UsedBehindAs c.forms form left x ty → (u : Ground) × (type_at c.forms ty ≡ Some u) × (type_in x context ≡ Some u)
    told left ts have x ty uses = use_behind c.forms info x ty (λ label b body. whole.sound.forms.bodies label b body) form left uses node.type node.rule have node.tails

    -- ---- of a part

    module _ (at : AtPart c.forms form cont form.parts h.position) where
      s : AreSplit c.forms info context at.earlier at.position at.later node.ts
      s = split c.forms info context at.earlier at.position at.later node.ts (subst (λ ks. AreTyped c.forms info context ks node.ts) at.is node.parts)

      before_last : nat_lt h.position (length form.parts) ≡ true
      before_last =
          ap (λ n. nat_lt n (length form.parts)) at.many
          ∙ ap (λ ks. nat_lt (length at.earlier) (length ks)) at.is
          ∙ ap (nat_lt (length at.earlier)) (length-append at.earlier (at.position ∷ at.later))
          ∙ is_within (length at.earlier) (length at.later)

      held : types.held ≡ s.before
      held = same_some (sym types.held_are
          ∙ ap (λ b. if b then node_types c.forms (take h.position form.parts) else option_and_then (λ u. option_map (λ us. u ∷ us) (node_types c.forms form.parts)) (type_at c.forms form.ty)) before_last
          ∙ ap (λ n. node_types c.forms (take n form.parts)) at.many
          ∙ ap (λ ks. node_types c.forms (take (length at.earlier) ks)) at.is
          ∙ ap (node_types c.forms) (front at.earlier (at.position ∷ at.later))
          ∙ node_types_are c.forms info context at.earlier s.before s.first)

      hole : s.here ≡ i.hole
      hole = same_some (sym (
          ap (λ n. option_and_then (node_type c.forms) (slice_get (form.parts ++ form.tails) n)) at.many
          ∙ ap (λ ks. option_and_then (node_type c.forms) (slice_get (ks ++ form.tails) (length at.earlier))) at.is
          ∙ ap (option_and_then (node_type c.forms)) (there_in at.earlier at.later form.tails at.position)
          ∙ node_type_is c.forms info context at.position s.here s.one) ∙ types.hole)

      cut : FitEach (IsFun c) env i.env → AreCut (IsFun c) h.position env s.before types.kept
      cut fit = subst (λ n. AreCut (IsFun c) n env s.before types.kept) (sym (at.many ∙ types_long c.forms info context at.earlier s.before s.first))
          (fit_cut (IsFun c) s.before types.kept env (subst (λ ts. FitEach (IsFun c) env (ts ++ types.kept)) held (subst (FitEach (IsFun c) env) types.env fit)))

      abbrev names : Env
      names = kept_names c cont (drop h.position env)

      kept : AreKept c.forms form (at.earlier ++ at.position ∷ at.later) conts
      kept = subst (λ ks. AreKept c.forms form ks conts) at.is (whole.sound.named.each h.node form there)

      names_fit : FitEach (IsFun c) (drop h.position env) types.kept → BehindFit (IsFun c) c.forms info form at.later context names
      names_fit fit =
          kept_names_fit c.forms (IsFun c) info (UsedBehind c.forms form at.later) (UsedBehindAs c.forms form at.later) context cont types.kept (drop h.position env) at.keeps at.types types.kept_are fit (told at.later s.after s.rest)

      points : BehindFit (IsFun c) c.forms info form at.later context names → length (take h.position env) ≡ h.position
          → ArePoints (IsFun c) c.forms info s.after (drop (suc (length (take h.position env))) (parts_in c.forms c.conts (form_at c.forms h.node) h.node names))
      points fit long =
          subst (λ o. ArePoints (IsFun c) c.forms info s.after (drop (suc (length (take h.position env))) (parts_in c.forms c.conts o h.node names))) (sym there)
          (subst (λ n. ArePoints (IsFun c) c.forms info s.after (drop (suc n) (going form.parts conts names))) (sym (long ∙ at.many))
          (subst (λ ks. ArePoints (IsFun c) c.forms info s.after (drop (suc (length at.earlier)) (going ks conts names))) (sym at.is)
          (going_left (IsFun c) c.forms info form context at.earlier at.position at.later conts s.after kept s.rest names fit)))

      acts : BehindFit (IsFun c) c.forms info form at.later context names → (values : List Value) → FitEach (IsFun c) values (s.before ++ i.hole ∷ s.after)
          → ActsWell (IsFun c) c.forms info i.result (act_in c.forms c.conts (form_at c.forms h.node) h.node names values)
      acts fit values fits =
          let left : BehindFit (IsFun c) c.forms info form [] context (behind form.parts conts names) =
          subst (λ ks. BehindFit (IsFun c) c.forms info form [] context (behind ks conts names)) (sym at.is) (behind_left (IsFun c) c.forms info form context at.earlier at.position at.later conts kept names fit) in
          let all : FitEach (IsFun c) values node.ts = subst (FitEach (IsFun c) values) (sym s.is) (subst (λ u. FitEach (IsFun c) values (s.before ++ u ∷ s.after)) (sym hole) fits) in
          subst (λ o. ActsWell (IsFun c) c.forms info i.result (act_in c.forms c.conts o h.node names values)) (sym there)
          (subst (λ u. ActsWell (IsFun c) c.forms info u (act c.forms form.at form.kind form.tails (behind form.parts conts names) values)) result
          (typed_acts (IsFun c) c.forms info (functions c whole) whole.sound.forms context h.node form node.ts node.asked t there node.rule node.tails (behind form.parts conts names) (λ x uses. left x (inr uses)) values all))

      pub part_goes : FitEach (IsFun c) env i.env → Goes (at_home c place h form cont env)
      part_goes fit =
          let parts = cut fit in
          let named = names_fit parts.rest in
          subst (λ b. Goes (if b then Some (part_meant c place h cont env) else turn_meant c place form form.kind form.tails cont env)) (sym before_last)
          (record { before = s.before; after = s.after; fit = parts.first; left = points named parts.long; acts = acts named })

      -- the types of the earlier positions and of this one
      types_here : node_types c.forms (take (suc h.position) form.parts) ≡ Some (s.before ++ i.hole ∷ [])
      types_here =
          ap (λ n. node_types c.forms (take (suc n) form.parts)) at.many
          ∙ ap (λ ks. node_types c.forms (take (suc (length at.earlier)) ks)) at.is
          ∙ ap (node_types c.forms) (up_to at.earlier at.later at.position)
          ∙ node_types_are c.forms info context (at.earlier ++ at.position ∷ []) (s.before ++ s.here ∷ []) (one_behind c.forms info context at.earlier at.position s.before s.here s.first s.one)
          ∙ ap (λ u. Some (s.before ++ u ∷ [])) hole

      later_are : drop (suc h.position) form.parts ≡ at.later
      later_are = ap (λ n. drop (suc n) form.parts) at.many ∙ ap (drop (suc (length at.earlier))) at.is ∙ left_behind at.earlier at.later at.position

      pub part_node : IsTyped c.forms info context h.node t → FitEach (IsFun c) env i.env → IsNodeAt c h form cont i env
      part_node typed fit =
          let parts = cut fit in
          record {
            context = context;
            typed = subst (IsTyped c.forms info context h.node) result typed;
            names = subst (λ ks. BehindFit (IsFun c) c.forms info form ks context names) (sym later_are) (names_fit parts.rest);
            held = s.before;
            types = types_here;
            fit = parts.first;
            long = parts.long;
          }

    -- ---- of the body of a `for`

    module _ (at : AtTurn c.forms form cont form.parts h.position) where
      abbrev of_for : (x : ℕ) × (form.kind ≡ kind.For x) × (form.tails ≡ at.body ∷ [])
      of_for = turned_is form.kind form.tails at.body at.turn

      abbrev x : ℕ
      x = of_for.0

      rule : IsForOf c.forms info context x at.body node.ts t
      rule = for_rule x at.body node.rule node.tails of_for.1 of_for.2

      behind_last : nat_lt h.position (length form.parts) ≡ false
      behind_last = ap (λ n. nat_lt n (length form.parts)) at.many ∙ not_itself (length form.parts)

      held_both : types.held ≡ t ∷ node.ts
      held_both = same_some (sym types.held_are
          ∙ ap (λ b. if b then node_types c.forms (take h.position form.parts) else option_and_then (λ u. option_map (λ us. u ∷ us) (node_types c.forms form.parts)) (type_at c.forms form.ty)) behind_last
          ∙ ap (option_and_then (λ u. option_map (λ us. u ∷ us) (node_types c.forms form.parts))) node.type
          ∙ ap (option_map (λ us. t ∷ us)) (node_types_are c.forms info context form.parts node.ts node.parts))

      hole_list : i.hole ≡ known.List rule.b
      hole_list = same_some (sym types.hole
          ∙ ap (λ n. option_and_then (node_type c.forms) (slice_get (form.parts ++ form.tails) n)) at.many
          ∙ ap (λ ns. option_and_then (node_type c.forms) (slice_get (form.parts ++ ns) (length form.parts))) of_for.2
          ∙ ap (option_and_then (node_type c.forms)) (first_behind form.parts [] at.body)
          ∙ node_type_is c.forms info ((x, rule.a) ∷ context) at.body (known.List rule.b) rule.typed)

      env_lists : FitEach (IsFun c) env i.env → FitEach (IsFun c) env (known.List rule.b ∷ known.List rule.a ∷ types.kept)
      env_lists fit =
          subst (λ u. FitEach (IsFun c) env (u ∷ known.List rule.a ∷ types.kept)) rule.result
          (subst (λ us. FitEach (IsFun c) env (t ∷ (us ++ types.kept))) rule.parts
          (subst (λ ts. FitEach (IsFun c) env (ts ++ types.kept)) held_both (subst (FitEach (IsFun c) env) types.env fit)))

      tails_fit : (inner : Env) → BehindFit (IsFun c) c.forms info form [] context inner → FitNames (IsFun c) (λ y. used.UsedInTails c.forms y (Some x ∷ []) (at.body ∷ [])) context inner
      tails_fit inner fit y uses =
          fit y (inr (inr (subst (λ k. used.UsedInTails c.forms y (used.binds k) form.tails) (sym of_for.1) (subst (λ ns. used.UsedInTails c.forms y (Some x ∷ []) ns) (sym of_for.2) uses))))

      by_env : (values : List Value) → FitEach (IsFun c) values (known.List rule.b ∷ known.List rule.a ∷ types.kept) → Goes (turn_meant c place form (kind.For x) (at.body ∷ []) cont values)
      by_env _ (one_more {v = v} first (one_more {v = w} {values = rest} second fit)) =
          let made = list_of_fits (IsFun c) v rule.b first in
          let left = list_of_fits (IsFun c) w rule.a second in
          let names = kept_names c cont rest in
          let named = kept_names_fit c.forms (IsFun c) info (UsedBehind c.forms form []) (UsedBehindAs c.forms form []) context cont types.kept rest at.keeps at.types types.kept_are fit (told [] [] typed.none) in
          subst (λ o. Goes (turn_of c place form x at.body names o (list_in w))) (sym made.1)
          (subst (λ o. Goes (turn_of c place form x at.body names (Some made.0) o)) (sym left.1)
          (record {
            of = rule.b;
            hole_is = hole_list;
            result_is = sym result ∙ rule.result;
            fit = made.2;
            bodies = bodies_well (IsFun c) c.forms info context names x at.body rule.a rule.b rule.typed (tails_fit names named) left.0 left.2;
          }))

      pub turn_goes : FitEach (IsFun c) env i.env → Goes (at_home c place h form cont env)
      turn_goes fit =
          subst (λ b. Goes (if b then Some (part_meant c place h cont env) else turn_meant c place form form.kind form.tails cont env)) (sym behind_last)
          (subst (λ k. Goes (turn_meant c place form k form.tails cont env)) (sym of_for.1)
          (subst (λ ns. Goes (turn_meant c place form (kind.For x) ns cont env)) (sym of_for.2) (by_env env (env_lists fit))))

  -- ---- of either

  typed_so : (context : Context) × (t : Ground) × IsTyped c.forms info context h.node t
  typed_so = whole.sound.forms.nodes h.node form there

  node_so : IsNode c.forms info typed_so.0 form typed_so.1
  node_so = inverted c.forms info typed_so.0 h.node form typed_so.1 there typed_so.2

  place_so : AtPart c.forms form cont form.parts h.position ⊎ AtTurn c.forms form cont form.parts h.position
  place_so = place_of c.forms form cont form.parts conts (whole.sound.named.each h.node form there) (whole.sound.named_as.each h.node form there) h.position is

  pub frame_goes : FitEach (IsFun c) env i.env → Goes (frame_meant c place (frame (first_frame c + cont.order) env))
  frame_goes fit = subst Goes (sym meant) (by_place place_so)
    where
      by_place : AtPart c.forms form cont form.parts h.position ⊎ AtTurn c.forms form cont form.parts h.position → Goes (at_home c place h form cont env)
      by_place (inl at) = part_goes typed_so.0 typed_so.1 node_so at fit
      by_place (inr at) = turn_goes typed_so.0 typed_so.1 node_so at fit

  pub node_there : nat_lt h.position (length form.parts) ≡ true → FitEach (IsFun c) env i.env → IsNodeAt c h form cont i env
  node_there before fit = by_place place_so
    where
      by_place : AtPart c.forms form cont form.parts h.position ⊎ AtTurn c.forms form cont form.parts h.position → IsNodeAt c h form cont i env
      by_place (inl at) = part_node typed_so.0 typed_so.1 node_so at typed_so.2 fit
      by_place (inr at) = let wrong : true ≡ false = sym before ∙ behind_last typed_so.0 typed_so.1 node_so at in cc
