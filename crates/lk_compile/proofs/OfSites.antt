-- What labels run is translated of the sites of the ground program, each at its own label.
use Rattle.std.proofs.Common.{◌≡◌, inl, inr, refl, sym, ap, subst, ◌∙◌, ℕ, zero, suc, Bool, true, false, List, [], ◌∷◌, map, Option, Some, None, slice_get}
use Rattle.std.proofs.lemmas.Map.Keys.{sorted_from_strictly_increasing, sorted_tail}
use Rattle.std.proofs.lemmas.Option.{none-some}
use Rattle.std.specs.Cmp.{nat_cmp_is}
use Rattle.std.specs.List.{AllByRecursion}
use Rattle.std.specs.List.Sorted.{IsStrictlySortedBy}
use Rattle.std.specs.Option.{option_and_then, option_map, unwrap_or}
use Rattle.std.specs.Ordering.{nat_cmp}
use Rattle.std.specs.declared.cmp.Ordering.TheVariants.{Equal, Less}
use Rattle.lk_ast.specs.Functions.{functions_of, is_named}
use Rattle.lk_ast.specs.declared.declaration.Program.{Program}
use Rattle.lk_ast.specs.declared.place.Span.{Span}
use Rattle.lk_ast.specs.declared.table.TableDef.{TableDef}
use Rattle.lk_code.specs.Sound.{kind_of}
use Rattle.lk_code.specs.Tables.{block_at, fun_info, node_of, site_of}
use Rattle.lk_code.specs.declared.infos.FunInfo.{FunInfo}
use Rattle.lk_code.specs.declared.infos.FunKind.{FunKind}
use Rattle.lk_code.specs.declared.infos.FunKind.TheVariants as fun
use Rattle.lk_code.specs.declared.tables.BlockCode.{BlockCode}
use Rattle.lk_code.specs.declared.tables.BlockCode.TheVariants as block
use Rattle.lk_code.specs.declared.tables.CodeTables.{CodeTables}
use Rattle.lk_code.specs.declared.tables.Contents.{Contents}
use Rattle.lk_defun.proofs.Labels.{labelled}
use Rattle.lk_defun.proofs.Lists.{nowhere, some_same}
use Rattle.lk_defun.specs.Numbers.{AreTables, kind_by, kind_in}
use Rattle.lk_ground.specs.Language.{function_of}
use Rattle.lk_ground.specs.declared.program.GroundFun.{GroundFun}
use Rattle.lk_ground.specs.declared.program.GroundProgram.{GroundProgram}
use Rattle.lk_infer.specs.declared.typed.Typed.{Typed}
use Rattle.lk_inline.specs.Inlined.{inlined_at}
use Rattle.lk_ir.specs.Tables.{body_of, form_at, label_at}
use Rattle.lk_ir.specs.declared.ir.CpsProgram.{CpsProgram}
use Rattle.lk_ir.specs.declared.nodes.Block.{Block}
use Rattle.lk_ir.specs.declared.nodes.Block.TheVariants as acts
use Rattle.lk_ir.specs.declared.nodes.Body.{Body}
use Rattle.lk_ir.specs.declared.nodes.Form.{Form}
use Rattle.lk_ir.specs.declared.nodes.Forms.{Forms}
use Rattle.lk_ir.specs.declared.nodes.Kind.{Kind}
use Rattle.lk_ir.specs.declared.nodes.Kind.TheVariants as kind
use Rattle.lk_ir.specs.declared.nodes.LabelForm.{LabelForm}
use Rattle.lk_ir.specs.declared.nodes.Touched.{Touched}
use Rattle.lk_lower.specs.Lowering.{AreForms}
use Rattle.lk_lowered.proofs.Sited.{are_sited}
use Rattle.lk_lowered.specs.Law as lowered
use Rattle.lk_lowered.specs.Law.{AreDeclared, IsReached, IsSiteAt, is_reach}
use Rattle.lk_mono.specs.Instanced as instanced
use Rattle.lk_mono.specs.Instanced.{AreInstancesOf}
use Rattle.lk_query.specs.declared.query.Inlined.{Inlined}
use Rattle.lk_sites.proofs.SitesOrder.{sites_rise}
use Rattle.lk_sites.specs.Sites.{Site, sites_of}
use Rattle.lk_sound.specs.Instances.{Instances}
use Rattle.lk_sound.specs.Nodes.{TypedNode, Use}
use Rattle.lk_sound.specs.Within.{IsFunctionOf}
use Rattle.lk_translate.specs.Law.{IsLegal, IsMeant}
use Rattle.lk_translate.specs.Translation.{inlined_code}
use Rattle.lk_translate.specs.declared.translated.Code.{Code}
use Rattle.lk_translate.specs.declared.translated.Code.TheVariants as code
use Rattle.lk_translate.specs.declared.translated.Translated.{Translated}
use Rattle.lk_types.proofs.Members.{found_in}
use Rattle.lk_types.specs.Each.{Each, OneOf}
use Rattle.lk_compile.specs.Accepted.{IsGround}
use Rattle.lk_compile.specs.Blocks.{AreRun, HasCode, Runs}
use Rattle.lk_compile.specs.Compiled.{AreTablesOf}
use Rattle.lk_compile.specs.Sites.{AreOfSites, IsOfSite, code_in, has_site}

-- ---- instances

-- each is one of a function of the program
instance_of : (p : Program) (i : Instances) (in_helper : Bool) (P : Use → TypedNode → Type 0) (funs : List GroundFun) (us : List Use) → AreInstancesOf p i in_helper P funs us → (k : ℕ) (f : GroundFun) → slice_get funs k ≡ Some f → IsFunctionOf p (function_of f)
instance_of p i in_helper P _ _ instanced.none k f at = absurd (none-some f at)
instance_of p i in_helper P _ _ (instanced.more {f = own} {u = u} is others) zero f at = subst (λ (g : GroundFun). IsFunctionOf p (function_of g)) (some_same at) (found_in (is_named u.name) (functions_of p) (function_of own) is.named).0
instance_of p i in_helper P _ _ (instanced.more {fs = fs} {us = us} is others) (suc k) f at = instance_of p i in_helper P fs us others k f at

-- ---- labels of the table

-- it isn't of this kind
not_site : {A : Type 0} (k found : FunKind) → Some k ≡ Some found → has_site k ≡ false → has_site found ≡ true → A
not_site k found is none has = let wrong : false ≡ true = sym none ∙ ap has_site (some_same is) ∙ has in absurd cc

by_block : (b : Block) → has_site (kind_of b) ≡ true → lowered.has_site b ≡ true
by_block acts.Query has = refl
by_block acts.TableRead has = refl
by_block acts.Insert has = let wrong : false ≡ true = has in absurd cc
by_block acts.Update has = refl
by_block acts.Delete has = refl

reach_kind : (node : Kind) (k : FunKind) → kind_by node ≡ Some k → has_site k ≡ true → is_reach node ≡ true
reach_kind (kind.Reach b label kept) k is has = by_block b (ap has_site (some_same is) ∙ has)
reach_kind other k is has = absurd (nowhere is)

module _ (f : Forms) (label : ℕ) (l : LabelForm) (at : label_at f label ≡ Some l) (k : FunKind) (has : has_site k ≡ true) where
  abbrev HasNode : Type 0
  HasNode = (n : ℕ) × IsReached f label n

  by_form : (n : ℕ) (form : Option Form) → form_at f n ≡ form → l.node ≡ Some n → l.body ≡ None → option_and_then (λ (it : Form). kind_by it.kind) form ≡ Some k → HasNode
  by_form n None there node body is = absurd (nowhere is)
  by_form n (Some form) there node body is = (
    n,
    record { node = ap (option_and_then (λ (it : LabelForm). it.node)) at ∙ node; body = ap body_of at ∙ body; form = form; is = there; reach = reach_kind form.kind k is has },
  )

  by_node : (node : Option ℕ) (body : Option Body) → l.node ≡ node → l.body ≡ body → kind_in f node body ≡ Some k → HasNode
  by_node None None node body is = not_site fun.Print k is refl has
  by_node None (Some b) node body is = not_site fun.Top k is refl has
  by_node (Some n) (Some b) node body is = not_site fun.Lambda k is refl has
  by_node (Some n) None node body is = by_form n (form_at f n) refl node body is

-- what has information of this kind has a node
reached_at : (cps : CpsProgram) (c : CodeTables) → AreTables cps c → (label : ℕ) (i : FunInfo) → fun_info c label ≡ Some i → has_site i.kind ≡ true → (n : ℕ) × IsReached cps.forms label n
reached_at cps c numbers label i at has =
    let own = labelled cps c.funs numbers.funs label i at in
    by_node cps.forms label own.l own.there i.kind has own.l.node own.l.body refl refl own.shows.kind

-- ---- what is run

-- what a label of such a kind runs is translated for it
runs_code : (touched : List Touched) (defs : List TableDef) (queries : List Translated) (label : ℕ) (k : FunKind) (found : Option BlockCode) → Runs touched defs queries label k found → has_site k ≡ true → (of : Code) × (option_and_then code_in found ≡ Some of) × HasCode queries label of
runs_code touched defs queries label fun.Query (Some (block.Select sql)) runs has = (code.Select sql, refl, runs)
runs_code touched defs queries label fun.TableRead (Some (block.Select sql)) runs has = (code.Select sql, refl, runs)
runs_code touched defs queries label fun.Update (Some (block.Update def change)) runs has = (code.Change change, refl, runs.1)
runs_code touched defs queries label fun.Delete (Some (block.Delete def change)) runs has = (code.Change change, refl, runs.1)
runs_code touched defs queries label fun.Insert found runs has = not_site fun.Insert fun.Insert refl refl has
runs_code touched defs queries label fun.Print found runs has = not_site fun.Print fun.Print refl refl has
runs_code touched defs queries label fun.Top found runs has = not_site fun.Top fun.Top refl refl has
runs_code touched defs queries label fun.Lambda found runs has = not_site fun.Lambda fun.Lambda refl refl has
runs_code touched defs queries label other found runs has = absurd runs

one_here : {A : Type 0} (P : A → Type 0) (xs : List A) (x : A) → P x → OneOf (λ y. y ≡ x) xs → OneOf P xs
one_here P [] x here one = absurd one
one_here P (y ∷ xs) x here (inl same) = inl (subst P (sym same) here)
one_here P (y ∷ xs) x here (inr later) = inr (one_here P xs x here later)

module _ (p : Program) (g : GroundProgram) (label : ℕ) (of : Code) where
  -- this is what is translated of the site with this label
  record IsCodeAt (site : Site) : Type 0 where
    label_is : site.label ≡ label
    found : Inlined
    there : inlined_at p g.helpers site ≡ Some found
    code_is : of ≡ inlined_code found
    legal : IsLegal p site found

  code_meant : (queries : List Translated) → Each (IsMeant p g) queries → HasCode queries label of → OneOf IsCodeAt (sites_of g)
  code_meant [] meant has = absurd has
  code_meant (one ∷ queries) meant (inl is) =
      let its = meant.0 in
      one_here IsCodeAt (sites_of g) its.site (record { label_is = sym its.label ∙ is.0; found = its.found; there = its.there; code_is = sym is.1 ∙ its.code; legal = its.legal }) its.listed
  code_meant (one ∷ queries) meant (inr later) = code_meant queries meant.1 later

-- ---- one site for each label

abbrev label_of : Site → ℕ
label_of site = site.label

not_below : (n : ℕ) → nat_cmp n n ≡ Less → ⊥
not_below n is = let wrong : Equal ≡ Less = nat_cmp_is n n Equal refl ∙ is in cc

first_below : (x : ℕ) (xs : List ℕ) → IsStrictlySortedBy nat_cmp (x ∷ xs) → AllByRecursion (λ y. nat_cmp x y ≡ Less) xs
unfolding IsStrictlySortedBy
first_below x xs rise = rise.0

module _ (label : ℕ) where
  none_behind : (P : Site → Type 0) → ((site : Site) → P site → site.label ≡ label) → (n : ℕ) → n ≡ label → (sites : List Site) → AllByRecursion (λ m. nat_cmp n m ≡ Less) (map label_of sites) → OneOf P sites → ⊥
  none_behind P of n same [] below one = one
  none_behind P of n same (site ∷ sites) below (inl here) = not_below n (subst (λ m. nat_cmp n m ≡ Less) (of site here ∙ sym same) below.0)
  none_behind P of n same (site ∷ sites) below (inr later) = none_behind P of n same sites below.1 later

  module _ (P Q : Site → Type 0) (one : (site : Site) → P site → site.label ≡ label) (two : (site : Site) → Q site → site.label ≡ label) where
    -- the site of this label is both
    both_at_once : (sites : List Site) → IsStrictlySortedBy nat_cmp (map label_of sites) → OneOf P sites → OneOf Q sites → OneOf (λ site. P site × Q site) sites
    both_at_once [] rise is also = absurd is
    both_at_once (site ∷ sites) rise (inl is) (inl also) = inl (is, also)
    both_at_once (site ∷ sites) rise (inl is) (inr later) = absurd (none_behind Q two site.label (one site is) sites (first_below site.label (map label_of sites) rise) later)
    both_at_once (site ∷ sites) rise (inr later) (inl also) = absurd (none_behind P one site.label (two site also) sites (first_below site.label (map label_of sites) rise) later)
    both_at_once (site ∷ sites) rise (inr is) (inr also) = inr (both_at_once sites (sorted_tail nat_cmp site.label (map label_of sites) rise) is also)

one_weaker : {A : Type 0} (P Q : A → Type 0) → ((x : A) → P x → Q x) → (xs : List A) → OneOf P xs → OneOf Q xs
one_weaker P Q weaker [] one = absurd one
one_weaker P Q weaker (x ∷ xs) (inl is) = inl (weaker x is)
one_weaker P Q weaker (x ∷ xs) (inr later) = inr (one_weaker P Q weaker xs later)

-- ---- the code of a program

begins_at : (f : Forms) (label n : ℕ) (form : Form) → node_of f label ≡ Some n → form_at f n ≡ Some form → site_of f label ≡ form.at.start
begins_at f label n form node is =
    ap (λ o. unwrap_or (option_map (λ (it : Form). it.at.start) (option_and_then (form_at f) o)) 0) node ∙ ap (λ o. unwrap_or (option_map (λ (it : Form). it.at.start) o) 0) is

module _ (p : Program) (typed : Typed) (g : GroundProgram) (is : IsGround p typed g) where
  declared : AreDeclared g
  declared i f at = subst (λ q. IsFunctionOf q (function_of f)) (sym is.grounded.program) (instance_of p is.instances.shaped.instances false _ g.funs is.instances.shaped.instances.mains is.instances.mains i f at)

  pub of_sites : (queries : List Translated) → Each (IsMeant p g) queries → (c : Contents) → AreTablesOf g c.tables → AreRun c.tables.forms.tables c.defs queries c.tables.funs c.blocks → AreOfSites p g c
  of_sites queries meant c of run label i at has =
      let f = c.tables.forms in
      let forms : AreForms g f = subst (AreForms g) (sym of.numbers.forms) of.forms in
      let reached = reached_at of.cps c.tables of.numbers label i at has in
      let n : ℕ = reached.0 in
      let its : IsReached f label n = subst (λ (it : Forms). IsReached it label n) (sym of.numbers.forms) reached.1 in
      let runs = runs_code f.tables c.defs queries label i.kind (block_at c label) (run.each label i at) has in
      let IsAt : Site → Type 0 = λ (site : Site). (site.label ≡ label) × IsSiteAt g f n site in
      let IsCode : Site → Type 0 = IsCodeAt p g label runs.0 in
      let both = both_at_once label IsAt IsCode (λ site it. it.0) (λ site it. it.label_is) (sites_of g) (sorted_from_strictly_increasing (map label_of (sites_of g)) (sites_rise g))
      ((are_sited g f forms declared).labels label n its) (code_meant p g label runs.0 queries meant runs.2) in
      one_weaker (λ site. IsAt site × IsCode site) (IsOfSite p g c label) (λ site it. record {
        label_is = it.0.0;
        node = n;
        at = it.0.1;
        begins = begins_at f label n it.0.1.reached.form its.node it.0.1.reached.is ∙ ap (λ (span : Span). span.start) it.0.1.at;
        found = it.1.found;
        there = it.1.there;
        runs = runs.1 ∙ ap (λ of. Some of) it.1.code_is;
        legal = it.1.legal;
      }) (sites_of g) both
