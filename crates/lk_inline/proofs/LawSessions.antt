-- What sessions capture is of the kinds that are told of a site.
use Rattle.std.proofs.Common.{◌≡◌, inl, inr, refl, sym, ap, ◌∙◌, subst, ℕ, true, false, List, [], ◌∷◌, Option, None, Some, IsSome}
use Rattle.std.proofs.lemmas.Option.{none-some}
use Rattle.lk_ast.specs.Layers.{Layer, layer}
use Rattle.lk_ast.specs.declared.declaration.Program.{Program}
use Rattle.lk_ast.specs.declared.declaration.TableDecl.{TableDecl}
use Rattle.lk_ast.specs.declared.event.Event.{Event}
use Rattle.lk_ast.specs.declared.event.Event.TheVariants.{Print, Enter, Leave, Read, Write}
use Rattle.lk_ast.specs.declared.expression.Expr.{Expr}
use Rattle.lk_ast.specs.declared.expression.Node.TheOpen.{Node-F}
use Rattle.lk_ast.specs.declared.place.Span.{Span}
use Rattle.lk_ast.specs.declared.table.Row.{Row}
use Rattle.lk_ast.specs.declared.value.Value.{Value}
use Rattle.lk_bag.specs.Blocks.{begins, block_at, blocks_of}
use Rattle.lk_bag.specs.Legal.{captured_by, captured_in}
use Rattle.lk_evaluation.specs.Laws.{run_of}
use Rattle.lk_evaluation.specs.Run.{Entry, Out, Goes, Stops, start}
use Rattle.lk_evaluation.specs.Source.{session}
use Rattle.lk_ground.specs.declared.program.GroundProgram.{GroundProgram}
use Rattle.lk_index.specs.Free.{in_byte_order}
use Rattle.lk_inline.proofs.CapturedValues.{HaveTheirs}
use Rattle.lk_inline.proofs.LawCaptured.{by_form}
use Rattle.lk_sound.proofs.OrderedWords.{ordered_of}
use Rattle.lk_inline.specs.Inlined.{inlined_at}
use Rattle.lk_inline.specs.Law.{Captures, CapturesIn, CapturesThere, IsOfSite, SessionCapturedLaw, captured_of}
use Rattle.lk_locals.specs.Names.{Names, lookup, lookup_all}
use Rattle.lk_mono.specs.Instanced.{HasInstances}
use Rattle.lk_query.specs.Captured.{AreCaptured}
use Rattle.lk_query.specs.declared.query.Inlined.{Inlined}
use Rattle.lk_scope.specs.Names.{no_names}
use Rattle.lk_sites.proofs.SiteNodes.{nodes_found}
use Rattle.lk_sites.proofs.SitesTyped.{sites_typed}
use Rattle.lk_sites.specs.Blocks.{IsBlock}
use Rattle.lk_sites.specs.Law.{IsFirstOf, IsSiteOf}
use Rattle.lk_sites.specs.Sites.{Site, sites_of}
use Rattle.lk_sound.proofs.Evaluating.{session_law}
use Rattle.lk_sound.proofs.Free.{change_known, known_in as names_known}
use Rattle.lk_types.proofs.Members.{found_in}
use Rattle.lk_sound.proofs.Names.{IsAmong}
use Rattle.lk_sound.proofs.TextBlocks.{IsBlockOf, block_found}
use Rattle.lk_sound.specs.Captures as sound
use Rattle.lk_sound.specs.Captures.{HasCaptured, HaveValuesOf, free_in, is_block}
use Rattle.lk_sound.specs.Instances.{Instances}
use Rattle.lk_sound.specs.Law.{AreAnswered, AreBoundAndApart}
use Rattle.lk_sound.specs.Nodes.{Block, TypedNode, known_in, nodes_of, type_before}
use Rattle.lk_sound.specs.Outcomes.{Allows, IsOutcome}
use Rattle.lk_sound.specs.Values.{Fits}
use Rattle.lk_types.proofs.Parts.{same_some}
use Rattle.lk_types.specs.Each.{Each, OneOf}
use Rattle.lk_types.specs.Rows.{EffectSet, Label}
use Rattle.lk_types.specs.declared.ground.Ground.{Ground}
use Rattle.lk_typing.specs.Names.{Entry as Known, Named, named}
use Rattle.lk_typing.specs.Typing.{HasType, plain, lambda, var, switch, switch_open, for_list, for_table, query, update, delete}

-- ---- values of names

-- the names that a block captures, by the names that it uses
captured_free : (l : Layer) → is_block l ≡ true → captured_by l ≡ in_byte_order (free_in l)
captured_free (Node-F.Query keys body) is = refl
captured_free (Node-F.Update change) is = refl
captured_free (Node-F.Delete change) is = refl
captured_free other is = let wrong : false ≡ true = is in absurd cc

module _ (p : Program) (i : Instances) (locals : Named Ground) (names : Names) where
  -- it has a value of its type
  abbrev HasIts : Label → Type 0
  HasIts x = (t : Ground) → named x locals ≡ Some t → (v : Value) × (lookup names x ≡ Some v) × Fits p i v t

  its_value : (x : Label) (xs : List Label) (ts : List Ground) (o : Option Ground) → named x locals ≡ o → IsSome o → HaveValuesOf p i names (x ∷ xs) (type_before o ts) → HasIts x × HaveValuesOf p i names xs ts
  its_value x xs ts None is some have = absurd cc
  its_value x xs ts (Some u) is some have = (λ t of. subst (λ a. (v : Value) × (lookup names x ≡ Some v) × Fits p i v a) (same_some (sym is ∙ of)) have.0, have.1)

  value_at : (words : List Label) → ((x : Label) → IsAmong x words → IsSome (named x locals)) → HaveValuesOf p i names words (known_in locals words) → (x : Label) → IsAmong x words → HasIts x
  value_at [] known have x among = absurd among
  value_at (word ∷ words) known have x (inl is) = subst HasIts is (its_value word words (known_in locals words) (named word locals) refl (known word (inl refl)) have).0
  value_at (word ∷ words) known have x (inr later) =
      value_at words (λ y among. known y (inr among)) (its_value word words (known_in locals words) (named word locals) refl (known word (inl refl)) have).1 x later

-- ---- typed blocks

-- its free names have types, and the first of its nodes tells these and where it stands
record IsTold (locals : Named Ground) (e : Expr) (node : TypedNode) (types : List Ground) (l : Layer) : Type 0 where
  span : node.part.span ≡ e.span
  known : (x : Label) → IsAmong x (free_in l) → IsSome (named x locals)
  are : types ≡ known_in locals (free_in l)

-- the first of some nodes
record IsFirst (own node : TypedNode) (its : Block) : Type 0 where
  same : own ≡ node
  block : own.block ≡ Some its

first_is : (own node : TypedNode) (rest others : List TypedNode) (its : Block) → ◌≡◌ {A = List TypedNode} (own ∷ rest) (node ∷ others) → node.block ≡ Some its → IsFirst own node its
first_is own node rest others its is block_is =
    let same : own ≡ node = cc in
    record { same = same; block = ap (λ (n : TypedNode). n.block) same ∙ block_is }

by_block : {locals : Named Ground} {e : Expr} (part_block : Block) (own node : TypedNode) (its : Block) → IsFirst own node its → (l : Layer) → layer e ≡ l → own.block ≡ Some part_block → own.part.span ≡ e.span → part_block.captured ≡ known_in locals (free_in l)
    → ((x : Label) → IsAmong x (free_in l) → IsSome (named x locals)) → IsTold locals e node its.captured (layer e)
by_block {locals = locals} {e = e} part_block own node its first l is own_is span captured known =
    subst (IsTold locals e node its.captured) (sym is)
    (record {
      span = ap (λ (n : TypedNode). n.part.span) (sym first.same) ∙ span;
      known = known;
      are = ap (λ (b : Block). b.captured) (same_some (sym first.block ∙ own_is)) ∙ captured;
    })

none_told : {locals : Named Ground} {e : Expr} (own node : TypedNode) (its : Block) (l : Layer) → IsFirst own node its → own.block ≡ None → IsTold locals e node its.captured l
none_told own node its l first none = absurd (none-some its (sym none ∙ first.block))

module _ {functions : Named (Known Ground)} {tables : List TableDecl} where
  told : {locals : Named Ground} {effects : EffectSet} {e : Expr} {a : Ground} {inside : List Ground} (d : HasType functions tables locals effects e a inside) (node : TypedNode) (others : List TypedNode) (its : Block)
      → nodes_of false d ≡ node ∷ others → node.block ≡ Some its → IsTold locals e node its.captured (layer e)
  unfolding nodes_of
  told (query keys body b inside is one sorted scans own) node others its first block_is =
      by_block _ _ node its (first_is _ node _ others its first block_is) (Node-F.Query keys body) is refl refl refl (λ x among. ((names_known one no_names).known x among).1)
  told (update change is changes writes) node others its first block_is =
      by_block _ _ node its (first_is _ node _ others its first block_is) (Node-F.Update change) is refl refl refl (λ x among. ((change_known changes no_names).known x among).1)
  told (delete change is changes writes) node others its first block_is =
      by_block _ _ node its (first_is _ node _ others its first block_is) (Node-F.Delete change) is refl refl refl (λ x among. ((change_known changes no_names).known x among).1)
  told {e = e} (plain h ts is have by) node others its first block_is = none_told _ node its (layer e) (first_is _ node _ others its first block_is) refl
  told {e = e} (lambda l params own b is named moves body local) node others its first block_is = none_told _ node its (layer e) (first_is _ node _ others its first block_is) refl
  told {e = e} (var x d rest b first_inside last is one later) node others its first block_is = none_told _ node its (layer e) (first_is _ node _ others its first block_is) refl
  told {e = e} (switch d cases row tags ts first_inside bodies is one have same made local) node others its first block_is = none_told _ node its (layer e) (first_is _ node _ others its first block_is) refl
  told {e = e} (switch_open d cases last rest row tags ts first_inside bodies inside is one have same later made local) node others its first block_is = none_told _ node its (layer e) (first_is _ node _ others its first block_is) refl
  told {e = e} (for_list x d body b c first_inside inside is one later) node others its first block_is = none_told _ node its (layer e) (first_is _ node _ others its first block_is) refl
  told {e = e} (for_table x rows body b c first_inside inside is one later) node others its first block_is = none_told _ node its (layer e) (first_is _ node _ others its first block_is) refl

-- ---- one block

one_listed : {A : Type 0} (P : A → Type 0) (Q : A → Type 0) (xs : List A) → OneOf P xs → Each Q xs → (x : A) × OneOf (λ other. other ≡ x) xs × P x × Q x
one_listed P Q [] one all = absurd one
one_listed P Q (x ∷ xs) (inl here) all = (x, inl refl, here, all.0)
one_listed P Q (x ∷ xs) (inr later) all = let (y, among, is, has) = one_listed P Q xs later all.1 in (y, inr among, is, has)

module _ (p : Program) (apart : AreBoundAndApart p) (g : GroundProgram) (has : HasInstances p g) where
  abbrev i : Instances
  i = has.shaped.instances

  -- with values for the free names of the site's block
  kinds_at : (site : Site) (block : IsBlock p i site.block site.types site.calls) (node : TypedNode) (types : List Ground) → IsTold block.locals site.block node types (layer site.block) → is_block (layer site.block) ≡ true
      → (names : Names) (args : List Value) → lookup_all names (captured_in site.block) ≡ Some args → HaveValuesOf p i names (free_in (layer site.block)) types
      → (found : Inlined) → inlined_at p g.helpers site ≡ Some found → AreCaptured (captured_of found) args
  kinds_at site block node types told_it is names args values have found at =
      let l : Layer = layer site.block in
      let theirs : HaveValuesOf p i names (free_in l) (known_in block.locals (free_in l)) = subst (HaveValuesOf p i names (free_in l)) told_it.are have in
      let fit : HaveTheirs p i block.locals names (captured_in site.block) = λ x among. value_at p i block.locals names (free_in l) told_it.known theirs x (ordered_of (free_in l) x (subst (IsAmong x) (captured_free l is) among)) in
      let captures : Captures p site.block names found = by_form p g has site block names fit l refl found at in
      subst (AreCaptured (captured_of found)) (same_some (sym captures.values ∙ values)) captures.are

  -- two blocks of the program that begin at one place are one
  same_block : (place : ℕ) (block other : Expr) → block_at p place ≡ Some block → IsBlockOf p other → other.span ≡ block.span → block ≡ other
  same_block place block other there of same =
      let one : block_at p block.span.start ≡ Some block = block_found p block apart.blocks (found_in (begins place) (blocks_of p) block there).0 in
      same_some (sym one ∙ ap (λ (span : Span). block_at p span.start) (sym same) ∙ block_found p other apart.blocks of)

  captured_so : (place : ℕ) (block : Expr) (args : List Value) → block_at p place ≡ Some block → is_block (layer block) ≡ true → HasCaptured p i block args → IsOfSite p g block args
  captured_so place block args there is it =
      let (site, listed, at, of) = one_listed (IsFirstOf p i it.node) (IsSiteOf p g has) (sites_of g) (nodes_found p g has it.node it.listed it.outside it.its it.is) (sites_typed p g has) in
      let told_it : IsTold at.block.locals site.block it.node it.its.captured (layer site.block) = told at.block.typed it.node at.others it.its at.first it.is in
      let same : block ≡ site.block = same_block place block site.block there of.of_text (sym told_it.span ∙ it.span) in
      record {
        site = site;
        listed = listed;
        is = sym same;
        are = kinds_at site at.block it.node it.its.captured told_it (subst (λ b. is_block (layer b) ≡ true) same is) it.names args
            (subst (λ b. lookup_all it.names (captured_in b) ≡ Some args) same it.values) (subst (λ b. HaveValuesOf p i it.names (free_in (layer b)) it.its.captured) same it.fit);
      }

  there_so : (place : ℕ) (args : List Value) → sound.Captures p i place args → CapturesThere p g place args
  there_so place args all block found is = captured_so place block args found is (all block found is)

  -- ---- events

  module _ (effects : EffectSet) where
    event_so : (e : Event) → Allows p i effects e → CapturesIn p g e
    event_so (Print bytes) allowed = tt
    event_so Enter allowed = tt
    event_so Leave allowed = tt
    event_so (Read e) allowed = there_so e.site e.args allowed.2
    event_so (Write e) allowed = there_so e.site e.args allowed.2

    events_so : (entries : List Entry) → Each (λ (entry : Entry). Allows p i effects entry.event) entries → Each (λ (entry : Entry). CapturesIn p g entry.event) entries
    events_so [] all = tt
    events_so (entry ∷ entries) all = (event_so entry.event all.0, events_so entries all.1)

    out_so : (P : Value → Type 0) (fuel : ℕ) (answers : List (List Row)) (out : Out Value) → IsOutcome p i effects P (start fuel answers) out → Each (λ (entry : Entry). CapturesIn p g entry.event) (run_of out).log
    out_so P fuel answers (Goes v s) outcome = subst (Each (λ (entry : Entry). CapturesIn p g entry.event)) (sym outcome.1.log) (events_so outcome.1.more outcome.1.allowed)
    out_so P fuel answers (Stops stop s) outcome = subst (Each (λ (entry : Entry). CapturesIn p g entry.event)) (sym outcome.1.log) (events_so outcome.1.more outcome.1.allowed)

pub sessions-capture : SessionCapturedLaw
sessions-capture p apart g has main is arg fuel answers =
    let shaped = has.shaped in
    let same : shaped.main ≡ main = same_some (sym shaped.is ∙ is) in
    subst (λ f. AreAnswered p (session p f arg (start fuel answers)) → Each (λ (entry : Entry). CapturesIn p g entry.event) (run_of (session p f arg (start fuel answers))).log) same
    (λ answered. out_so p apart g has shaped.effects (λ v. Fits p shaped.instances v shaped.answer) fuel answers (session p shaped.main arg (start fuel answers)) (session_law p apart shaped arg (start fuel answers) refl answered))
