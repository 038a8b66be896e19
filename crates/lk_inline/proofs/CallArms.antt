-- What a walk makes of calls, and what it takes for a node.
use Rattle.std.proofs.Common.{◌≡◌, ℕ, ◌<◌, Bool, true, false, List, [], ◌∷◌, ◌++◌, drop, length, map, Some, None, slice_get, refl, sym, ◌∙◌, ap, ap₂, subst}
use Rattle.lk_ast.specs.Layers.{Layer, layer}
use Rattle.lk_ast.specs.Tables.{Tables}
use Rattle.lk_ast.specs.declared.declaration.Program.{Program}
use Rattle.lk_ast.specs.declared.expression.Expr.{Expr}
use Rattle.lk_ast.specs.declared.expression.Node.TheOpen.{Node-F}
use Rattle.lk_ast.specs.declared.place.Word.{Word}
use Rattle.lk_ast.specs.declared.value.Value.{Value}
use Rattle.lk_bag.proofs.Given.{all_given, given_call}
use Rattle.lk_bag.specs.Bag.{given}
use Rattle.lk_bodies.specs.Walk.{Calls, Made, Several, State, all, back, behind_type, call, walk}
use Rattle.lk_inline.proofs.Adding.{Grows, grows_both}
use Rattle.lk_inline.proofs.Inducing.{walk_form}
use Rattle.lk_inline.proofs.Making.{AreMade, AreWithin, HaveNumbers, IsMade, left}
use Rattle.lk_inline.proofs.RecordRules.{StandEach}
use Rattle.lk_inline.specs.Stands.{Stands}
use Rattle.lk_locals.specs.Names.{Names}
use Rattle.lk_query.specs.Given.{Values, gives}
use Rattle.lk_query.specs.Order.{AreOrdered}
use Rattle.lk_query.specs.declared.part.Part.{Part}
use Rattle.lk_sites.specs.Pending.{Pending, pending}
use Rattle.lk_sites.specs.Takes as takes
use Rattle.lk_sites.specs.Takes.{Takes}
use Rattle.lk_sound.proofs.QueryParts.{IsEarly}
use Rattle.lk_sound.specs.Instances.{Instances}
use Rattle.lk_sound.specs.Nodes.{TypedNode, Use}
use Rattle.lk_sound.specs.Points.{AreLocals}
use Rattle.lk_sound.specs.Values.{FitEach}
use Rattle.lk_types.specs.Rows.{EffectSet}
use Rattle.lk_types.specs.declared.ground.Ground.{Ground}
use Rattle.lk_types.specs.declared.ty.Effect.TheVariants as effect
use Rattle.lk_typing.specs.Names.{Named}
use Rattle.lk_typing.specs.Types.{function_of}

-- ---- what is taken for the first node

pub data TakesFirst (helpers : List Use) (node : TypedNode) (nodes : List TypedNode) (p q : Pending) : Type 0 where
  other : (types : List Ground) → node.part.use_of ≡ None → p.types ≡ node.part.type ∷ types → Takes helpers nodes (pending types p.calls) q → TakesFirst helpers node nodes p q
  called : (types : List Ground) (calls : List ℕ) (u : Use) (h : ℕ) → node.part.use_of ≡ Some u → slice_get helpers h ≡ Some u → p.types ≡ node.part.type ∷ types → p.calls ≡ h ∷ calls → Takes helpers nodes (pending types calls) q
      → TakesFirst helpers node nodes p q

pub takes_first : (helpers : List Use) (node : TypedNode) (nodes : List TypedNode) (p q : Pending) → Takes helpers (node ∷ nodes) p q → TakesFirst helpers node nodes p q
takes_first helpers node nodes _ q (takes.other {types = types} {calls = calls} is rest) = other types is refl rest
takes_first helpers node nodes _ q (takes.called {types = types} {calls = calls} {u = u} {h = h} is at rest) = called types calls u h is at refl refl rest

-- and what is behind it
pub takes_behind : (helpers : List Use) (nodes : List TypedNode) (s : State) (q : Pending) (t : Ground) (types : List Ground) → s.types ≡ t ∷ types → Takes helpers nodes (pending types s.calls) q → Takes helpers nodes (left (behind_type s)) q
takes_behind helpers nodes s q t types is takes = subst (λ ts. Takes helpers nodes (pending ts s.calls) q) (sym (ap (drop 1) is)) takes

-- ---- calls

module _ (p : Program) (i : Instances) (tables : Tables) (calls : List ℕ → List Value → Value) (makes : Calls) where
  -- what the body of a helper makes of arguments stands for what a call gives
  pub record IsCall (u : Use) (ts : List Ground) (a : Ground) (numbers : List ℕ) (parts : List Part) (m : Made) : Type 0 where
    pub grows : Grows parts m.state.parts
    pub ordered : AreOrdered m.state.parts
    pub within : m.part < length m.state.parts
    pub means : (values : Values) (args : List Value) → FitEach p i args ts → StandEach ts args (map (λ k. gives tables parts k values) numbers) → Stands a (calls u.name args) (gives tables m.state.parts m.part values)

  -- helpers among the first so many functions make such parts
  abbrev pub CallsMade : ℕ → Type 0
  CallsMade n = (u : Use) → IsEarly p i.helpers n u → (h : ℕ) → slice_get i.helpers h ≡ Some u → (ts : List Ground) (effects : EffectSet) (a : Ground) → u.type ≡ function_of ts effects a → effects effect.Local ≡ false → effects effect.Trap ≡ false
      → (numbers : List ℕ) (parts : List Part) → AreOrdered parts → AreWithin ts numbers parts → IsCall u ts a numbers parts (makes h numbers parts)

  pub call_arm : (e : Expr) (g : Word) (args : List Expr) (ts : List Ground) (t : Ground) (locals : Named Ground) (numbers : Named ℕ) (s : State) (q : Pending) (h : ℕ) (later : List ℕ) (u : Use) → layer e ≡ Node-F.Call g args
      → s.calls ≡ h ∷ later → u.name ≡ g.text
      → AreMade p i tables calls makes locals numbers ts (λ names. all_given tables calls names args) (record { parts = s.parts; types = drop 1 s.types; calls = later }) q (all (map (walk makes) args) numbers (record { parts = s.parts; types = drop 1 s.types; calls = later }))
      → ((names : Names) → AreLocals p i locals names → FitEach p i (all_given tables calls names args) ts)
      → ((ns : List ℕ) (parts : List Part) → AreOrdered parts → AreWithin ts ns parts → IsCall u ts t ns parts (makes h ns parts))
      → IsMade p i tables calls makes locals numbers t (given tables calls e) s q (walk makes e numbers s)
  call_arm e g args ts t locals numbers s q h later u is calls_are named are fits makes_so =
      let m : Several = all (map (walk makes) args) numbers (record { parts = s.parts; types = drop 1 s.types; calls = later }) in
      let body : Made = makes h m.numbers m.state.parts in
      let made_so : IsCall u ts t m.numbers m.state.parts body = makes_so m.numbers m.state.parts are.ordered are.within in
      subst (λ w. IsMade p i tables calls makes locals numbers t (given tables calls e) s q w)
      (sym (walk_form makes e (Node-F.Call g args) is numbers s ∙ ap (λ cs. call makes cs (map (walk makes) args) numbers (behind_type s)) calls_are))
      (record {
        left = are.left;
        grows = grows_both are.grows made_so.grows;
        ordered = made_so.ordered;
        within = made_so.within;
        means = λ values names fit standing.
            subst (λ v. Stands t v (gives tables body.state.parts body.part values)) (ap (λ x. calls x (all_given tables calls names args)) named ∙ sym (given_call tables calls e g args names is))
            (made_so.means values (all_given tables calls names args) (fits names fit) (are.means values names fit standing));
      })
