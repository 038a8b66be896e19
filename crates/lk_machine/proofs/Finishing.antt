-- A node all of whose positions have values: what it does then is of its type, and stays where it is.
use Rattle.std.proofs.Common.{◌≡◌, refl, sym, ap, ap₂, subst, ◌∙◌, inl, inr, ℕ, ◌≤◌, cond, List, [], ◌∷◌, ◌++◌, Option, Some, None, drop, take, length, map, slice_get, arith}
use Rattle.std.proofs.lemmas.Option.{none-some, slice_get_past}
use Rattle.lk_ast.specs.declared.place.Loc.{Loc}
use Rattle.lk_ast.specs.declared.place.Span.{Span}
use Rattle.lk_ast.specs.declared.value.Value.{Value}
use Rattle.lk_ast.specs.declared.value.Value.TheVariants as value
use Rattle.lk_evaluation.specs.Evaluation.{Act, Each, Tail, eval, perform}
use Rattle.lk_evaluation.specs.Run.{Run}
use Rattle.lk_fits.proofs.Shapes.{fits_list}
use Rattle.lk_fits.specs.Values.{FitEach, none_left, one_more}
use Rattle.lk_ir.proofs.Lookups.{bound, equal_self}
use Rattle.lk_ir.proofs.Resumes.{only_again}
use Rattle.lk_ir.specs.Continuing.{act_in, conts_at, narrowed, only, parts_in}
use Rattle.lk_ir.specs.Environments.{Env, bind, lookup}
use Rattle.lk_ir.specs.LetNormal.{Point, act, over, reach, under}
use Rattle.lk_ir.specs.Tables.{form_at, names_of}
use Rattle.lk_ir.specs.Uses as used
use Rattle.lk_ir.specs.Uses.{Among, AreKept, UsedBehind}
use Rattle.lk_ir.specs.declared.nodes.Block.{Block}
use Rattle.lk_ir.specs.declared.nodes.Cont.{Cont}
use Rattle.lk_ir.specs.declared.nodes.Form.{Form}
use Rattle.lk_ir.specs.declared.nodes.Forms.{Forms}
use Rattle.lk_ir.specs.declared.nodes.Kept.{Kept}
use Rattle.lk_ir.specs.declared.nodes.Kind.{Kind}
use Rattle.lk_ir.specs.declared.nodes.Kind.TheVariants as kind
use Rattle.lk_moves.proofs.Framed.{moves_law}
use Rattle.lk_moves.specs.Frames.{resumed}
use Rattle.lk_operators.specs.Values.{list_in}
use Rattle.lk_types.proofs.Parts.{same_some}
use Rattle.lk_types.specs.Each.{Each as EachOf}
use Rattle.lk_types.specs.declared.ground.Ground.{Ground}
use Rattle.lk_types.specs.declared.ground.Ground.TheVariants as known
use Rattle.lk_code.proofs.Places.{node_types_are}
use Rattle.lk_code.proofs.Points.{kept_within}
use Rattle.lk_code.proofs.Reaching.{reaches_law}
use Rattle.lk_code.proofs.Soundness.{acts_law}
use Rattle.lk_code.proofs.Staying.{stays_law}
use Rattle.lk_code.proofs.Waiting.{IsNode, inverted}
use Rattle.lk_code.specs.Acting.{ActsWell, FitNames}
use Rattle.lk_code.specs.Meaning.{language}
use Rattle.lk_code.specs.Parts as typed
use Rattle.lk_code.specs.Parts.{Asked, Context, Info, Rule}
use Rattle.lk_code.specs.Sound.{told_by}
use Rattle.lk_code.specs.Tables.{cont_at}
use Rattle.lk_code.specs.Told.{node_types}
use Rattle.lk_code.specs.TypedLaw.{IsWhole, Reaches, StaysAt}
use Rattle.lk_code.specs.Values.{IsFun}
use Rattle.lk_code.specs.declared.tables.CodeTables.{CodeTables}
use Rattle.lk_machine.proofs.Pushing.{stays_here}
use Rattle.lk_machine.proofs.Rounds.{list_shown}
use Rattle.lk_machine.proofs.Steady.{all_taken, keeps_behind, left_behind, no_point, none_behind}
use Rattle.lk_machine.specs.Acts.{IsAct, each_of}
use Rattle.lk_machine.specs.Moves.{ActsAt, IsTold, StaysHere, performed}
use Rattle.lk_machine.specs.Typed.{IsForOf, IsHere, IsNodeOf}
use Rattle.lk_machine.specs.declared.act.Act as acts
use Rattle.lk_machine.specs.declared.act.Act.TheVariants as does
use Rattle.lk_machine.specs.declared.state.Held.{Held}

-- ---- lists

among_last : (x : ℕ) (xs ys : List ℕ) → Among x ys → Among x (xs ++ ys)
among_last x [] ys among = among
among_last x (y ∷ xs) ys among = used.later (among_last x xs ys among)

-- ---- a `for`

same_value : (x : ℕ) (names : Env) (body : ℕ) (v w : Value) → under (bind x v names) body ≡ under (bind x w names) body → v ≡ w
same_value x names body v w same = same_some (sym (shown v) ∙ ap (λ (p : Point). lookup p.names x) same ∙ shown w)
  where
    shown : (u : Value) → lookup (bind x u names) x ≡ Some u
    shown u = bound x u names x ∙ ap (λ b. cond b (Some u) (lookup names x)) (equal_self x)

-- bodies for elements tell which these are
same_elements : (x : ℕ) (names : Env) (body : ℕ) (vs ws : List Value) → map (λ v. under (bind x v names) body) vs ≡ map (λ v. under (bind x v names) body) ws → vs ≡ ws
same_elements x names body [] [] same = refl
same_elements x names body [] (w ∷ ws) same = cc
same_elements x names body (v ∷ vs) [] same = cc
same_elements x names body (v ∷ vs) (w ∷ ws) same =
    let first : under (bind x v names) body ≡ under (bind x w names) body = cc in
    let others : map (λ v. under (bind x v names) body) vs ≡ map (λ v. under (bind x v names) body) ws = cc in
    ap₂ (λ u us. u ∷ us) (same_value x names body v w first) (same_elements x names body vs ws others)

abbrev points_of : Act Point → List Point
points_of (Each at points) = points
points_of other = []

for_types : {f : Forms} {info : ℕ → Option Info} {c : Context} {k : Kind} {ts : List Ground} {asked : List Asked} {t : Ground} (x : ℕ) → Rule f info c k ts asked t → k ≡ kind.For x → (a : Ground) × (ts ≡ known.List a ∷ [])
for_types x (typed.for_each a b) is = (a, refl)
for_types x other is = cc

-- the one value is the list of the elements
elements_are : (IsFun : ℕ → Ground → List Ground → Type 0) (f : Forms) (at : Span) (x body : ℕ) (names : Env) (a : Ground) (done values : List Value) → FitEach IsFun done (known.List a ∷ []) → act f at (kind.For x) (body ∷ []) names done ≡ each_of at x body values names → done ≡ value.List values ∷ []
elements_are IsFun f at x body names a _ values (one_more {v = v} fits none_left) same =
    let found = fits_list IsFun v a fits in
    let points : map (λ u. under (bind x u names) body) found.0 ≡ map (λ u. under (bind x u names) body) values =
    ap points_of (sym (ap (λ o. over at x o body names) (ap list_in found.1 ∙ list_shown found.0)) ∙ same) in
    ap (λ u. u ∷ []) (found.1 ∙ ap value.List (same_elements x names body found.0 values points))

-- ---- a node

module _ (c : CodeTables) (whole : IsWhole c) (place : Loc) (h : Held) (form : Form) (there : form_at c.forms h.node ≡ Some form) (past : slice_get form.parts (length h.done) ≡ None) where
  abbrev info : ℕ → Option Info
  info = told_by c

  abbrev conts : List (Option Cont)
  conts = conts_at c.conts h.node

  abbrev after_all : Option Cont
  after_all = cont_at c (record { node = h.node; position = length form.parts })

  -- the names that are left
  abbrev pub left : Env
  left = narrowed after_all h.scope

  -- what it does then
  abbrev pub does_then : Act Point
  does_then = act c.forms form.at form.kind form.tails left h.done

  kept_all : AreKept c.forms form form.parts conts
  kept_all = whole.sound.named.each h.node form there

  last_past : slice_get form.parts (length form.parts) ≡ None
  last_past = slice_get_past form.parts (length form.parts) (let e : length form.parts ≤ length form.parts = omega arith in e)

  -- the machine's act, by the names that it has left
  pub acts_so : (f : Forms) → f ≡ c.forms → (names : Env) → names ≡ left → (a : acts.Act) → IsAct f form names a (act f form.at form.kind form.tails names h.done) → IsAct c.forms form left a does_then
  acts_so f same names are a is =
      subst (λ e. IsAct c.forms form e a (act c.forms form.at form.kind form.tails e h.done)) are
      (subst (λ g. IsAct g form names a (act g form.at form.kind form.tails names h.done)) same is)

  module _ (t : Ground) (node : IsNodeOf c place t h) where
    same_form : node.form ≡ form
    same_form = same_some (sym node.there ∙ there)

    inner : IsNode c.forms info node.context form t
    inner = inverted c.forms info node.context h.node form t there node.typed

    fits : FitEach (IsFun c) h.done inner.ts
    fits = subst (FitEach (IsFun c) h.done) (same_some (sym types_all ∙ node_types_are c.forms info node.context form.parts inner.ts inner.parts)) node.fit
      where
        types_all : node_types c.forms form.parts ≡ Some node.held
        types_all = ap (node_types c.forms) (sym (all_taken form.parts (length h.done) past)) ∙ subst (λ (g : Form). node_types c.forms (take (length h.done) g.parts) ≡ Some node.held) same_form node.types

    abbrev BehindFit : Env → Type 0
    BehindFit names = FitNames (IsFun c) (UsedBehind c.forms form []) node.context names

    names_fit : BehindFit h.scope
    names_fit = subst (λ ks. FitNames (IsFun c) (UsedBehind c.forms form ks) node.context h.scope) (none_behind form.parts (length h.done) past)
        (subst (λ (g : Form). FitNames (IsFun c) (UsedBehind c.forms g (drop (length h.done) g.parts)) node.context h.scope) same_form node.names)

    narrowed_fit : (o : Option Cont) → after_all ≡ o → BehindFit (narrowed o h.scope)
    narrowed_fit None is = names_fit
    narrowed_fit (Some cont) is = kept_within (IsFun c) c.forms info (UsedBehind c.forms form []) (UsedBehind c.forms form []) node.context h.scope cont (λ x uses. uses) (keeps_behind c.forms form form.parts conts kept_all (length form.parts) last_past cont is) names_fit

    left_fit : BehindFit left
    left_fit = narrowed_fit after_all refl

    acts_well : ActsWell (IsFun c) c.forms info t does_then
    acts_well = acts_law c whole node.context h.node form inner.ts inner.asked t there inner.rule inner.tails left (λ x uses. left_fit x (inr uses)) h.done fits

    -- ---- where it stays

    tail_here : (k : ℕ) → Among k form.tails → IsHere c place k
    tail_here k among = stays_here c whole place h.node k form there node.here (among_last k form.parts form.tails among)

    points_here : (points : List Point) → EachOf (λ (p : Point). Among p.node form.tails) points → EachOf (λ (p : Point). IsHere c place p.node) points
    points_here [] stay = tt
    points_here (p ∷ points) stay = (tail_here p.node stay.0, points_here points stay.1)

    stays_so : (a : Act Point) → StaysAt form.tails a → StaysHere c place a
    stays_so (Tail p) stays = tail_here p.node stays
    stays_so (Each at points) stays = points_here points stays
    stays_so other stays = tt

    -- ---- what is told of it

    narrow_left : (o : Option Cont) → after_all ≡ o → (cont : Cont) → after_all ≡ Some cont → only (names_of cont.keeps) (narrowed o h.scope) ≡ narrowed o h.scope
    narrow_left None is cont there = absurd (none-some cont (sym is ∙ there))
    narrow_left (Some d) is cont there = subst (λ (one : Cont). only (names_of one.keeps) (only (names_of d.keeps) h.scope) ≡ only (names_of d.keeps) h.scope) (same_some (sym is ∙ there)) (only_again (names_of d.keeps) h.scope)

    for_told : (x body : ℕ) (values : List Value) (names : Env) → form.kind ≡ kind.For x → form.tails ≡ body ∷ [] → names ≡ left → does_then ≡ each_of form.at x body values left → IsForOf c place t h.node form x body values names
    for_told x body values names for tails same acts =
        let rule = for_types x inner.rule for in
        let all : FitEach (IsFun c) h.done (known.List rule.0 ∷ []) = subst (FitEach (IsFun c) h.done) rule.1 fits in
        let by_for : act c.forms form.at (kind.For x) (body ∷ []) left h.done ≡ each_of form.at x body values left =
        sym (ap₂ (λ k ns. act c.forms form.at k ns left h.done) for tails) ∙ acts in
        record {
          here = node.here;
          there = there;
          kind = for;
          tail = tails;
          context = node.context;
          typed = node.typed;
          held = inner.ts;
          types = node_types_are c.forms info node.context form.parts inner.ts inner.parts;
          elements = subst (λ vs. FitEach (IsFun c) vs inner.ts) (elements_are (IsFun c) c.forms form.at x body left rule.0 h.done values all by_for) fits;
          fit = subst BehindFit (sym same) left_fit;
          narrow = λ cont is. subst (λ e. only (names_of cont.keeps) e ≡ e) (sym same) (narrow_left after_all refl cont is);
        }

    reach_told : (b : Block) (label : ℕ) (args : List Value) (kept : List Kept) → form.kind ≡ kind.Reach b label kept → does_then ≡ reach form.at b (Some args) args → Reaches c label t (reach form.at b (Some args) args)
    reach_told b label args kept is acts = subst (Reaches c label t) acts
        (reaches_law c whole h.node form b label kept there is node.context inner.ts inner.asked t inner.rule left (λ x needs. left_fit x (inr (inl needs))) h.done fits)

    told_so : (a : acts.Act) → IsAct c.forms form left a does_then → IsTold c place h.node form a t
    told_so (does.Each x body values names) is = for_told x body values names is.0 is.1 is.2 is.3
    told_so (does.Reach b label args) is = reach_told b label args is.0 is.1 is.2
    told_so other is = tt

    -- the act is one of the type, at the place, with what its performing needs to know
    pub acts_at : (a : acts.Act) → IsAct c.forms form left a does_then → ActsAt c place does_then t × IsTold c place h.node form a t
    acts_at a is = ((acts_well, stays_so does_then (stays_law c.forms form.at form.kind form.tails left h.done)), told_so a is)

    -- and what is left of the node
    pub acts_now : (r : Run) → resumed (language c) (under h.scope h.node) h.done place r ≡ performed c place does_then r
    acts_now r =
        (moves_law (language c)).acts (under h.scope h.node) h.done place r none_left_there
        ∙ ap (λ a. perform (language c) (eval (language c)) place a r) act_is
      where
        none_left_there : slice_get ((language c).parts (under h.scope h.node)) (length h.done) ≡ None
        none_left_there = ap (λ o. slice_get (parts_in c.forms c.conts o h.node h.scope) (length h.done)) there ∙ no_point form.parts conts h.scope (length h.done) past

        act_is : (language c).act (under h.scope h.node) h.done ≡ does_then
        act_is =
            ap (λ o. act_in c.forms c.conts o h.node h.scope h.done) there
            ∙ ap (λ e. act c.forms form.at form.kind form.tails e h.done) (left_behind form.parts conts h.scope (length h.done) past node.steady)
