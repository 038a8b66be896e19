-- What plain nodes do: each has a value without a step of its own.
use Rattle.std.proofs.Common.{◌≡◌, refl, sym, ap, subst, ◌∙◌, inl, inr, ◌⊎◌, ℕ, true, false, List, [], ◌∷◌, Option, Some, None, slice_get}
use Rattle.lk_ast.specs.declared.place.Loc.{Loc}
use Rattle.lk_ast.specs.declared.place.Span.{Span}
use Rattle.lk_ast.specs.declared.value.Value.{Value}
use Rattle.lk_code.proofs.Soundness.{acts_law}
use Rattle.lk_code.proofs.Waiting.{IsNode, inverted}
use Rattle.lk_code.specs.Acting.{ActsWell, IsPointOf}
use Rattle.lk_code.specs.Meaning.{language}
use Rattle.lk_code.specs.Parts as typed
use Rattle.lk_code.specs.Parts.{AreTyped, Asked, Context, Info, Rule, every, head_of}
use Rattle.lk_code.specs.Sound.{told_by}
use Rattle.lk_code.specs.TypedLaw.{IsWhole}
use Rattle.lk_code.specs.Values.{IsFun}
use Rattle.lk_code.specs.declared.tables.CodeTables.{CodeTables}
use Rattle.lk_evaluation.specs.Evaluation.{Act, Give, Lacks, eval, perform}
use Rattle.lk_evaluation.specs.Run.{Goes}
use Rattle.lk_fits.specs.Values.{FitEach, Fits, none_left}
use Rattle.lk_ir.specs.Continuing.{act_in, behind, conts_at, going, parts_in}
use Rattle.lk_ir.specs.Environments.{Env, lookup, lookup_all}
use Rattle.lk_ir.specs.LetNormal.{Point, act, closure, done, given, made, plain_in}
use Rattle.lk_ir.specs.Operations.{applied, is_literal, is_plain}
use Rattle.lk_ir.specs.Tables.{form_at, whole_at}
use Rattle.lk_ir.specs.Uses as used
use Rattle.lk_ir.specs.Uses.{AreKept, IsTurnKept, Needs, UsedInTails, binds, turned}
use Rattle.lk_ir.specs.declared.nodes.Block.TheVariants as block
use Rattle.lk_ir.specs.declared.nodes.Cont.{Cont}
use Rattle.lk_ir.specs.declared.nodes.Form.{Form}
use Rattle.lk_ir.specs.declared.nodes.Forms.{Forms}
use Rattle.lk_ir.specs.declared.nodes.Kind.{Kind}
use Rattle.lk_ir.specs.declared.nodes.Kind.TheVariants as kind
use Rattle.lk_ir.specs.declared.nodes.Op.{Op}
use Rattle.lk_ir.specs.declared.nodes.Op.TheVariants as op
use Rattle.lk_moves.proofs.Courses.{takes_to}
use Rattle.lk_moves.proofs.Framed.{acts, enters}
use Rattle.lk_moves.specs.Courses.{Takes, entering}
use Rattle.lk_moves.specs.Frames.{resumed}
use Rattle.lk_types.proofs.Parts.{same_some}
use Rattle.lk_types.specs.declared.ground.Ground.{Ground}
use Rattle.lk_typing.specs.Rules as typing
use Rattle.lk_machine.specs.Acts.{IsAct}
use Rattle.lk_machine.specs.declared.act.Act as machine
use Rattle.lk_machine.specs.declared.act.Act.TheVariants as acts_by

-- ---- by the rule of a plain node it has no positions

literal_alone : (o : Op) (ts : List Ground) (t : Ground) → is_literal o ≡ true → typing.Rule [] [] [] every (head_of o) ts t → ts ≡ []
literal_alone (op.Int n) _ t is typing.literal = refl
literal_alone (op.Text bytes) _ t is typing.literal = refl
literal_alone (op.Bool b) _ t is typing.literal = refl
literal_alone other ts t is rule = absurd (let wrong : false ≡ true = is in cc)

module _ (f : Forms) (info : ℕ → Option Info) (c : Context) where
  plain_alone : {k : Kind} {ts : List Ground} {asked : List Asked} {t : Ground} → is_plain k ≡ true → Rule f info c k ts asked t → ts ≡ []
  plain_alone is (typed.operation {o = o} {ts = ts} {t = t} rule) = literal_alone o ts t is rule
  plain_alone is (typed.name told) = refl
  plain_alone is (typed.function whole told nothing has) = refl
  plain_alone is (typed.lambda told named has) = refl
  plain_alone is other = absurd (let wrong : false ≡ true = is in cc)

  no_positions : (ns : List ℕ) → AreTyped f info c ns [] → ns ≡ []
  no_positions [] typed.none = refl
  no_positions (n ∷ ns) have = elim have [ ]

-- it isn't a `for`, and has no continuation
no_turn : (k : Kind) (tails : List ℕ) → is_plain k ≡ true → turned k tails ≡ None
no_turn (kind.For x) (body ∷ []) is = absurd (let wrong : false ≡ true = is in cc)
no_turn other tails is = refl

no_conts : (f : Forms) (form : Form) (cs : List (Option Cont)) → IsTurnKept f form None cs → cs ≡ []
no_conts f form [] kept = refl
no_conts f form (d ∷ cs) kept = absurd kept

-- ---- what it does

module _ (f : Forms) (at : Span) (tails : List ℕ) (names : Env) where
  abbrev HasValue : Act Point → Type 0
  HasValue a = ((v : Value) × (a ≡ Give v)) ⊎ (a ≡ Lacks at)

  of_name : (o : Option Value) → HasValue (given at o)
  of_name None = inr refl
  of_name (Some v) = inl (v, refl)

  of_function : (env : List Value) (o : Option ℕ) → HasValue (made at env o)
  of_function env None = inr refl
  of_function env (Some label) = inl (_, refl)

  of_lambda : (label : ℕ) (o : Option (List Value)) → HasValue (closure at label o)
  of_lambda label None = inr refl
  of_lambda label (Some env) = of_function env (Some label)

  of_literal : (o : Op) → is_literal o ≡ true → HasValue (done at (applied o []))
  of_literal (op.Int n) is = inl (_, refl)
  of_literal (op.Text bytes) is = inl (_, refl)
  of_literal (op.Bool b) is = inl (_, refl)
  of_literal other is = absurd (let wrong : false ≡ true = is in cc)

  has_value : (k : Kind) → is_plain k ≡ true → HasValue (act f at k tails names [])
  has_value (kind.Op o) is = of_literal o is
  has_value (kind.Name x) is = of_name (lookup names x)
  has_value (kind.Function i) is = of_function [] (whole_at f i)
  has_value (kind.Lambda label xs) is = of_lambda label (lookup_all names xs)
  has_value other is = absurd (let wrong : false ≡ true = is in cc)

-- ---- plain points of types

-- A plain point has a value of its type once it is entered.
pub record IsPlainOf (c : CodeTables) (t : Ground) (p : Point) : Type 0 where
  pub form : Form
  pub there : form_at c.forms p.node ≡ Some form
  pub plain : is_plain form.kind ≡ true
  pub v : Value
  pub fits : Fits (IsFun c) v t
  pub acts : act c.forms form.at form.kind form.tails p.names [] ≡ Give v
  pub takes : (place : Loc) → Takes (eval (language c) p place) entering (Goes v)

module _ (c : CodeTables) (whole : IsWhole c) (t : Ground) (p : Point) (of : IsPointOf (IsFun c) c.forms (told_by c) t p) where
  module _ (form : Form) (there : form_at c.forms p.node ≡ Some form) (plain : is_plain form.kind ≡ true) where
    node : IsNode c.forms (told_by c) of.context form t
    node = inverted c.forms (told_by c) of.context p.node form t there of.typed

    alone : node.ts ≡ []
    alone = plain_alone c.forms (told_by c) of.context plain node.rule

    parts : form.parts ≡ []
    parts = no_positions c.forms (told_by c) of.context form.parts (subst (AreTyped c.forms (told_by c) of.context form.parts) alone node.parts)

    conts : conts_at c.conts p.node ≡ []
    conts = no_conts c.forms form (conts_at c.conts p.node)
        (subst (λ o. IsTurnKept c.forms form o (conts_at c.conts p.node)) (no_turn form.kind form.tails plain)
        (subst (λ ks. AreKept c.forms form ks (conts_at c.conts p.node)) parts (whole.sound.named.each p.node form there)))

    abbrev does : Act Point
    does = act c.forms form.at form.kind form.tails p.names []

    no_parts : slice_get ((language c).parts p) 0 ≡ None
    no_parts = ap (λ o. slice_get (parts_in c.forms c.conts o p.node p.names) 0) there ∙ ap (λ ks. slice_get (going ks (conts_at c.conts p.node) p.names) 0) parts

    does_so : (language c).act p [] ≡ does
    does_so =
        ap (λ o. act_in c.forms c.conts o p.node p.names []) there
        ∙ ap (λ ks. act c.forms form.at form.kind form.tails (behind ks (conts_at c.conts p.node) p.names) []) parts
        ∙ ap (λ cs. act c.forms form.at form.kind form.tails (behind [] cs p.names) []) conts

    well : ActsWell (IsFun c) c.forms (told_by c) t does
    well = acts_law c whole of.context p.node form node.ts node.asked t there node.rule node.tails p.names (λ x uses. of.names x (used_so x uses)) [] (subst (FitEach (IsFun c) []) (sym alone) none_left)
      where
        used_so : (x : ℕ) → Needs form.kind x ⊎ UsedInTails c.forms x (binds form.kind) form.tails → used.Uses c.forms x p.node
        used_so x (inl needs) = used.itself form there needs
        used_so x (inr uses) = used.in_tail form there uses

    with_value : (v : Value) → does ≡ Give v → IsPlainOf c t p
    with_value v gives = record {
      form = form;
      there = there;
      plain = plain;
      v = v;
      fits = subst (ActsWell (IsFun c) c.forms (told_by c) t) gives well;
      acts = gives;
      takes = λ place. takes_to (eval (language c) p place) (resumed (language c) p [] place) (Goes v) entering
          (λ r. acts (language c) p [] place r no_parts ∙ ap (λ a. perform (language c) (eval (language c)) place a r) (does_so ∙ gives)) (enters (language c) p place);
    }

    by_value : ((v : Value) × (does ≡ Give v)) ⊎ (does ≡ Lacks form.at) → IsPlainOf c t p
    by_value (inl gives) = with_value gives.0 gives.1
    by_value (inr lacks) = absurd (subst (ActsWell (IsFun c) c.forms (told_by c) t) lacks well)

  pub plain_point : plain_in c.forms (form_at c.forms p.node) ≡ true → IsPlainOf c t p
  plain_point = by_form (form_at c.forms p.node) refl
    where
      by_form : (o : Option Form) → form_at c.forms p.node ≡ o → plain_in c.forms o ≡ true → IsPlainOf c t p
      by_form None there plain = absurd (let wrong : false ≡ true = plain in cc)
      by_form (Some form) there plain = by_value form there plain (has_value c.forms form.at form.tails p.names form.kind plain)

-- ---- and so the machine's act

-- where the act has a value, the machine's has it
gives_only : (f : Forms) (form : Form) (names : Env) (m : machine.Act) (v : Value) → IsAct f form names m (Give v) → m ≡ acts_by.Give v
gives_only f form names (acts_by.Give w) v is = let same : w ≡ v = cc in ap acts_by.Give same
gives_only f form names (acts_by.Tail n scope) v is = cc
gives_only f form names (acts_by.Goto label body env args) v is = let wrong = is.1 in cc
gives_only f form names (acts_by.Print bytes) v is = cc
gives_only f form names (acts_by.Each x body values scope) v is = let wrong = is.3 in cc
gives_only f form names (acts_by.Reach block.Query label args) v is = let wrong = is.2 in cc
gives_only f form names (acts_by.Reach block.TableRead label args) v is = let wrong = is.2 in cc
gives_only f form names (acts_by.Reach block.Insert label args) v is = let wrong = is.2 in cc
gives_only f form names (acts_by.Reach block.Update label args) v is = let wrong = is.2 in cc
gives_only f form names (acts_by.Reach block.Delete label args) v is = let wrong = is.2 in cc
gives_only f form names (acts_by.Fails trap) v is = cc
gives_only f form names acts_by.Lacks v is = cc

-- by the node as it is looked up, under the names of the point
pub does_give : (c : CodeTables) (t : Ground) (p : Point) (has : IsPlainOf c t p) (f : Forms) (form : Form) (names : Env) (m : machine.Act) → f ≡ c.forms → form_at f p.node ≡ Some form → names ≡ p.names
    → (is_plain form.kind ≡ true → IsAct f form names m (act f form.at form.kind form.tails names [])) → m ≡ acts_by.Give has.v
does_give c t p has f form names m whole there same does =
    let found : has.form ≡ form = same_some (sym has.there ∙ ap (λ g. form_at g p.node) (sym whole) ∙ there) in
    let so : IsAct c.forms has.form p.names m (act c.forms has.form.at has.form.kind has.form.tails p.names []) =
    subst (λ env. IsAct c.forms has.form env m (act c.forms has.form.at has.form.kind has.form.tails env [])) same
    (subst (λ g. IsAct g has.form names m (act g has.form.at has.form.kind has.form.tails names [])) whole
    (subst (λ (one : Form). is_plain one.kind ≡ true → IsAct f one names m (act f one.at one.kind one.tails names [])) (sym found) does has.plain)) in
    gives_only c.forms has.form p.names m has.v (subst (IsAct c.forms has.form p.names m) has.acts so)

pub same_given : (m : machine.Act) (v w : Value) → m ≡ acts_by.Give v → m ≡ acts_by.Give w → v ≡ w
same_given m v w one other = cc
