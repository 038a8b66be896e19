-- An instance whose turn it is: what there is in it, and what comes of adding what it uses.
use Rattle.std.proofs.Common.{◌≡◌, ℕ, Bor, Bool, true, false, List, map, Option, Some, None, slice_get, refl, sym, ap, subst, ◌∙◌}
use Rattle.std.proofs.lemmas.Option.{slice_get-map}
use Rattle.std.specs.Option.{option_map}
use Rattle.lk_ast.specs.Functions.{function_named}
use Rattle.lk_ast.specs.declared.declaration.FunDef.{FunDef}
use Rattle.lk_ast.specs.declared.place.Span.{Span}
use Rattle.lk_ground_types.specs.Functions.{effects_level}
use Rattle.lk_ground_types.specs.Functions as ground
use Rattle.lk_ground_types.specs.Grounds.{at}
use Rattle.lk_ground_types.specs.Least.{IsLeastBut}
use Rattle.lk_mono.proofs.OwnMembers.{IsMemberOf, is_member, some_member}
use Rattle.lk_mono.proofs.Growing.{IsGrown, filled, grown}
use Rattle.lk_mono.proofs.NodeTypes.{types_of}
use Rattle.lk_mono.proofs.Queued.{sound_queue}
use Rattle.lk_mono.proofs.Sited.{sited_found}
use Rattle.lk_mono.proofs.Siting.{all_before, all_uses_sited, large_is, uses_sited}
use Rattle.lk_mono.specs.Held.{AreSited, IsSound, IsSource, types_in}
use Rattle.lk_mono.specs.Instances.{IsBody, Wanted, before_large, first_large, uses_among}
use Rattle.lk_mono.specs.Looks.{IsLooked, TheFound, as_uses}
use Rattle.lk_mono.specs.Members.{TheMember, as_member, named_member}
use Rattle.lk_mono.specs.Queues.{AreFoundOf, IsAdded, IsQueueOf, as_list, as_use}
use Rattle.lk_mono.specs.Queues as queues
use Rattle.lk_mono.specs.Steps.{IsFullAt, IsLargeAt, IsStep}
use Rattle.lk_mono.specs.declared.body.Body.{Body as TheBody}
use Rattle.lk_mono.specs.declared.body.Source.{Source}
use Rattle.lk_mono.specs.declared.look.Found.{Found}
use Rattle.lk_mono.specs.declared.look.Looked.{Looked}
use Rattle.lk_mono.specs.declared.member.Member.{Member}
use Rattle.lk_mono.specs.declared.queue.Queue.{Queue}
use Rattle.lk_mono.specs.declared.queue.Use.{Use as TheUse}
use Rattle.lk_outline.specs.Law.{OutlineLaw}
use Rattle.lk_sound.specs.Nodes.{TypedNode, Use, nodes_of}
use Rattle.lk_outline.specs.Outline.{body_outline}
use Rattle.lk_outline.specs.Shown.{shown}
use Rattle.lk_outline.specs.Typed.{effects_in, typed_nodes}
use Rattle.lk_principal.specs.Bodies.{IsTypedLeast}
use Rattle.lk_principal.specs.Law.{BodyLaw, IsInstanceOf, UseLaw}
use Rattle.lk_types.proofs.Members.{each_at}
use Rattle.lk_types.specs.Grounding.{Grounding, under}
use Rattle.lk_types.specs.Rows.{effects_of}
use Rattle.lk_types.specs.Variables.{variables_of}
use Rattle.lk_types.specs.declared.ground.Ground.{Ground, out-Ground}
use Rattle.lk_types.specs.declared.ground.Ground.TheOpen.{Ground-F}
use Rattle.lk_types.specs.declared.ground.Ground.TheVariants as known
use Rattle.lk_types.specs.declared.ground.GroundField.{GroundField}
use Rattle.lk_types.specs.declared.scheme.Scheme.{Scheme}
use Rattle.lk_typing.specs.Law.{Become}
use Rattle.lk_typing.specs.Names.{types_of as types_of_names}
use Rattle.lk_ast.specs.Tables.{tables_of}

-- the effects of a function, by two names
same_effects : (l : Ground-F Ground GroundField) → effects_level l ≡ effects_in l
same_effects (Ground-F.Fun params effects answer) = refl
same_effects other = refl

-- what looking into a function at a type says
abbrev pub Looks : List Ground → Member → Ground → Looked → Type 0
Looks table m t looked = (τ : Grounding) (ts : List Ground) → IsLeastBut (variables_of m.scheme.now.body) τ → under τ m.scheme.now.body ≡ Some t → Become τ m.types ts
    → IsLooked table (ground.effects_in t) ts (shown m.sites) looked

-- at the type of the number
pub looks_at : (table : List Ground) (m : Member) (t u : Ground) (looked : Looked) → t ≡ u → Looks table m t looked → Looks table m u looked
looks_at table m t u looked same looks = subst (λ t. Looks table m t looked) same looks

-- what adding what was found says
abbrev pub Adds : Wanted → List TheFound → Queue → Queue → Bool → Type 0
Adds wanted found old new ok = (others : ℕ) (list us : List Use) → AreFoundOf wanted found us → IsQueueOf others list old → IsAdded others list us new ok

-- what was found is a slice of a list
pub added_slice : (wanted : Wanted) (slice uses : List Found) (old new : Queue) (ok now : Bool) → slice ≡ uses → ok ≡ now → Adds wanted (as_uses slice) old new ok → Adds wanted (as_uses uses) old new now
added_slice wanted slice uses old new ok now same is adds = subst (λ ok. Adds wanted (as_uses uses) old new ok) is (subst (λ uses. Adds wanted (as_uses uses) old new ok) same adds)

-- an instance with what there is in it
record IsTurn (table : List Ground) (source : Source) (u : Use) (m : Member) (looked : Looked) : Type 0 where
  nodes : List TypedNode
  body : IsBody source.program.now source.typed.now.schemes source.typed.now.types u nodes
  function : function_named source.program.now u.name ≡ Some m.function.now
  name : m.function.now.name.text ≡ u.name
  ts : List Ground
  types : types_in nodes ≡ ts
  are : nodes ≡ typed_nodes (effects_in (out-Ground u.type)) ts (shown m.sites)
  says : IsLooked table (effects_in (out-Ground u.type)) ts (shown m.sites) looked

module _ (table : List Ground) (body_law : BodyLaw) (outline_law : OutlineLaw) (source : Source) (is : IsSource source) (u : Use) (m : Member) (looked : Looked) where
  turn : IsMemberOf source u m → Looks table m u.type looked → IsTurn table source u m looked
  turn member looks =
      let typed : IsTypedLeast source.program.now source.typed.now.schemes member.function member.scheme member.own u.type =
      body_law source.program.now source.typed.now.schemes source.typed.now.types is.typed member.number member.function member.scheme member.own member.is member.has member.share member.σ u.type member.instance in
      let function : m.function.now ≡ member.function = ap (λ (x : TheMember). x.function) member.member in
      let scheme : m.scheme.now ≡ member.scheme = ap (λ (x : TheMember). x.scheme) member.member in
      let types : m.types ≡ member.own = ap (λ (x : TheMember). x.types) member.member in
      let sites : shown m.sites ≡ body_outline member.function.params member.function.body = ap (λ (x : TheMember). x.sites) member.member in
      let effects : effects_in (out-Ground u.type) ≡ effects_of typed.is.typed.effects =
      ap (λ t. effects_in (out-Ground t)) typed.is.typed.is ∙ ap effects_in (known.outs-Fun (types_of_names typed.is.typed.params) (effects_of typed.is.typed.effects) typed.is.typed.answer) in
      record {
        nodes = nodes_of false typed.is.typed.body;
        body = record {
          number = member.number;
          function = member.function;
          scheme = member.scheme;
          own = member.own;
          is = member.is;
          named = member.named;
          has = member.has;
          share = member.share;
          typed = typed;
          are = refl;
        };
        function = member.named ∙ ap (λ f. Some f) (sym function);
        name = ap (λ (f : FunDef). f.name.text) function ∙ member.name;
        ts = typed.nodes;
        types = types_of false typed.is.typed.body ∙ sym typed.is.typed.all;
        are =
            outline_law typed.is.functions (tables_of source.program.now) typed.is.typed.params member.function.params typed.is.typed.effects member.function.body typed.is.typed.answer typed.is.typed.inside typed.is.typed.names typed.is.typed.body
            ∙ (λ i. typed_nodes (sym effects i) (sym typed.is.typed.all i) (sym sites i));
        says = subst (λ own. IsLooked table own typed.nodes (shown m.sites) looked) (same_effects (out-Ground u.type))
            (looks typed.σ typed.nodes
            (subst (λ (s : Scheme). IsLeastBut (variables_of s.body) typed.σ) (sym scheme) typed.least)
            (subst (λ (s : Scheme). under typed.σ s.body ≡ Some u.type) (sym scheme) typed.instance.body)
            (subst (λ own. Become typed.σ own typed.nodes) (sym types) typed.become));
      }

  module _ (it : IsTurn table source u m looked) where
    sited : AreSited (before_large it.nodes) (as_uses looked.uses)
    sited = uses_sited (effects_in (out-Ground u.type)) it.ts table (shown m.sites) looked it.says it.nodes it.are it.types

    large : first_large it.nodes ≡ looked.large
    large = large_is (effects_in (out-Ground u.type)) it.ts table (shown m.sites) looked it.says it.nodes it.are it.types

    module _ (wanted : Wanted) (others : ℕ) (old new : Queue) (sound : IsSound source others old) (number : ℕ) (turned : slice_get (as_list old.listed) number ≡ Some u) where
      added_before : (ok : Bool) → Adds wanted (as_uses looked.uses) old new ok → IsAdded others (as_list old.listed) (uses_among wanted (before_large it.nodes)) new ok
      added_before ok adds = adds others (as_list old.listed) (uses_among wanted (before_large it.nodes)) (sited_found wanted (before_large it.nodes) (as_uses looked.uses) sited) (sound_queue source others old sound)

      full_at : Adds wanted (as_uses looked.uses) old new false → IsFullAt source wanted others old number
      full_at adds = record {
        use_of = u;
        nodes = it.nodes;
        turned = turned;
        body = it.body;
        full = filled (as_list old.listed) (uses_among wanted (before_large it.nodes)) new (added_before false adds);
      }

      large_at : (at : Span) → looked.large ≡ Some at → Adds wanted (as_uses looked.uses) old new true → IsLargeAt source wanted others old number at
      large_at at is adds = by_added (added_before true adds)
        where
          by_added : IsAdded others (as_list old.listed) (uses_among wanted (before_large it.nodes)) new true → IsLargeAt source wanted others old number at
          by_added (queues.all {longer} more queued) = record {
            use_of = u;
            nodes = it.nodes;
            longer = longer;
            turned = turned;
            body = it.body;
            more = more;
            large = large ∙ is;
          }

      step : UseLaw → (held : TheBody) → held.member.now ≡ m → held.uses ≡ looked.uses → looked.large ≡ None → held.types ≡ map (at table) looked.numbers
          → Adds wanted (as_uses looked.uses) old new true → IsStep source wanted others old number held new
      step use_law held same_member same_uses not_large made adds =
          let none : first_large it.nodes ≡ None = large ∙ not_large in
          let types : held.types ≡ it.ts = made ∙ it.says.made in
          let whole : IsAdded others (as_list old.listed) (uses_among wanted it.nodes) new true = subst (λ nodes. IsAdded others (as_list old.listed) (uses_among wanted nodes) new true) (all_before it.nodes none) (added_before true adds) in
          let more : IsGrown use_law source is u it.nodes it.body wanted others old new = grown use_law source is u it.nodes it.body wanted others old new sound whole in
          record {
            body = record { use_of = u; nodes = it.nodes };
            turned = turned;
            is_held = record {
              instance = it.body;
              function = it.function ∙ ap (λ (x : Member). Some x.function.now) (sym same_member);
              name = ap (λ (x : Member). x.function.now.name.text) same_member ∙ it.name;
              types = types ∙ sym it.types;
              nodes = it.are ∙ (λ i. typed_nodes (effects_in (out-Ground u.type)) (sym types i) (shown (sym same_member i).sites));
              uses = subst (λ uses. AreSited it.nodes (as_uses uses)) (sym same_uses) (all_uses_sited (effects_in (out-Ground u.type)) it.ts table (shown m.sites) looked it.says it.nodes it.are it.types none);
              fits = none;
            };
            more = more.more;
            sound = more.sound;
          }

-- ---- the instance of a number

-- one that stands in a list of the code, in the definition's
listed_at : (listed : List TheUse) (number : ℕ) (next : TheUse) → slice_get listed number ≡ Some next → slice_get (as_list listed) number ≡ Some (as_use next)
listed_at listed number next is = slice_get-map as_use listed number ∙ ap (option_map as_use) is

module _ (source : Source) (is : IsSource source) (others : ℕ) (old : Queue) (sound : IsSound source others old) (number : ℕ) (next : TheUse) (listed : slice_get old.listed number ≡ Some next)
    (found : Option (Bor Member)) (ensures : option_map (λ (m : Bor Member). as_member m.now) found ≡ named_member (as_use next).name (map as_member source.members.now)) where
  instance : IsInstanceOf source.program.now source.typed.now.schemes (as_use next).name (as_use next).type
  instance = each_at (λ u. IsInstanceOf source.program.now source.typed.now.schemes u.name u.type) (as_list old.listed) number (as_use next) (listed_at old.listed number next listed) sound.instances

  -- its function is there
  pub has_member : found ≡ None → ⊥
  has_member none = some_member source is (as_use next) instance found ensures none

  module _ (table : List Ground) (body_law : BodyLaw) (outline_law : OutlineLaw) (m : Bor Member) (some : found ≡ Some m) (looked : Looked) (looks : Looks table m.now (as_use next).type looked)
      (wanted : Wanted) (slice : List Found) (same : slice ≡ looked.uses) (new : Queue) (ok : Bool) (adds : Adds wanted (as_uses slice) old new ok) where
    it : IsTurn table source (as_use next) m.now looked
    it = turn table body_law outline_law source is (as_use next) m.now looked (is_member source is (as_use next) instance found ensures m some) looks

    turned : slice_get (as_list old.listed) number ≡ Some (as_use next)
    turned = listed_at old.listed number next listed

    its : (b : Bool) → ok ≡ b → Adds wanted (as_uses looked.uses) old new b
    its b known = added_slice wanted slice looked.uses old new ok b same known adds

    pub is_full : ok ≡ false → IsFullAt source wanted others old number
    is_full full = full_at table body_law outline_law source is (as_use next) m.now looked it wanted others old new sound number turned (its false full)

    module _ (all : ok ≡ true) where
      pub is_large : (at : Span) → looked.large ≡ Some at → IsLargeAt source wanted others old number at
      is_large at large = large_at table body_law outline_law source is (as_use next) m.now looked it wanted others old new sound number turned at large (its true all)

      pub is_step : UseLaw → (types : List Ground) → looked.large ≡ None → types ≡ map (at table) looked.numbers
          → IsStep source wanted others old number (record { member = m; types = types; uses = looked.uses }) new
      is_step use_law types not_large made =
          step table body_law outline_law source is (as_use next) m.now looked it wanted others old new sound number turned use_law (record { member = m; types = types; uses = looked.uses }) refl refl not_large made (its true all)
