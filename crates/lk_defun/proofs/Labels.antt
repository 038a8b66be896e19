-- What is told of labels, by their numbers.
use Rattle.std.proofs.Common.{◌≡◌, refl, sym, ap, subst, ◌∙◌, ℕ, zero, suc, ◌+◌, true, false, List, [], ◌∷◌, Option, Some, None, map, slice_get, arith}
use Rattle.std.specs.Option.{option_and_then, option_map}
use Rattle.std.specs.Prelude.{IsSome}
use Rattle.std.proofs.lemmas.Option.{slice_get-map}
use Rattle.lk_ast.specs.declared.place.Loc.TheVariants.{Server}
use Rattle.lk_ir.specs.Tables.{body_at, body_of, form_at, label_at}
use Rattle.lk_ir.specs.declared.ir.CpsProgram.{CpsProgram}
use Rattle.lk_ir.specs.declared.nodes.Block.{Block}
use Rattle.lk_ir.specs.declared.nodes.Block.TheVariants as block
use Rattle.lk_ir.specs.declared.nodes.Body.{Body}
use Rattle.lk_ir.specs.declared.nodes.Form.{Form}
use Rattle.lk_ir.specs.declared.nodes.Forms.{Forms}
use Rattle.lk_ir.specs.declared.nodes.Kind.{Kind}
use Rattle.lk_ir.specs.declared.nodes.Kind.TheVariants as kind
use Rattle.lk_ir.specs.declared.nodes.LabelForm.{LabelForm}
use Rattle.lk_types.specs.declared.ground.Ground.{Ground}
use Rattle.lk_code.specs.Parts.{Info}
use Rattle.lk_code.specs.Sound.{info_of, kind_of}
use Rattle.lk_code.specs.Tables.{is_block, is_function}
use Rattle.lk_code.specs.Told.{env_of, of_block, of_node, taken, told}
use Rattle.lk_code.specs.declared.infos.FunInfo.{FunInfo}
use Rattle.lk_code.specs.declared.infos.FunKind.{FunKind}
use Rattle.lk_code.specs.declared.infos.FunKind.TheVariants as fun
use Rattle.lk_defun.proofs.Lists.{nowhere, some_same}
use Rattle.lk_defun.specs.Numbers.{fun_at, fun_by, funs_from, kind_by, kind_in, name_in, place_in}
use Rattle.lk_defun.specs.Words.{Word}

-- ---- by number

pub funs_at : (p : CpsProgram) (n : ℕ) (ls : List LabelForm) (k : ℕ) → slice_get (funs_from p n ls) k ≡ option_map (fun_at p (n + k)) (slice_get ls k)
funs_at p n [] k = refl
funs_at p n (l ∷ ls) zero = let none : n ≡ n + 0 = omega arith in ap (λ m. Some (fun_at p m l)) none
funs_at p n (l ∷ ls) (suc k) = let one : (n + 1) + k ≡ n + suc k = omega arith in funs_at p (n + 1) ls k ∙ ap (λ m. option_map (fun_at p m) (slice_get ls k)) one

-- ---- what a function's information shows

-- what has this label is of this kind, at this place, with these types
pub record IsShown (p : CpsProgram) (label : ℕ) (l : LabelForm) (i : FunInfo) : Type 0 where
  pub kind : kind_in p.forms l.node l.body ≡ Some i.kind
  pub place : i.place ≡ place_in i.kind l.body
  pub types : told p.forms (env_of p label) l.ty l.node l.body ≡ Some (info_of i)

module _ (p : CpsProgram) (label : ℕ) (l : LabelForm) (i : FunInfo) where
  abbrev Shows : Option FunKind → Option Info → Type 0
  Shows k of = (k ≡ Some i.kind) × (i.place ≡ place_in i.kind l.body) × (of ≡ Some (info_of i))

  abbrev made : FunKind → Info → Word → FunInfo
  made k of name = record { name = name; kind = k; place = place_in k l.body; params = of.params; effects = of.effects; result = of.result; env = of.env }

  by_name : (k : FunKind) (of : Info) (name : Option Word) → option_map (made k of) name ≡ Some i → Shows (Some k) (Some of)
  by_name k of None is = absurd (nowhere is)
  by_name k of (Some name) is =
      let same = some_same is in
      (ap (λ (j : FunInfo). Some j.kind) same, subst (λ (j : FunInfo). j.place ≡ place_in j.kind l.body) same refl, ap (λ j. Some (info_of j)) same)

  by_types : (k : FunKind) (of : Option Info) → fun_by p.forms l k of ≡ Some i → Shows (Some k) of
  by_types k None is = absurd (nowhere is)
  by_types k (Some of) is = by_name k of (name_in p.forms l k) is

  by_kind : (k : Option FunKind) (of : Option Info) → option_and_then (λ k. fun_by p.forms l k of) k ≡ Some i → Shows k of
  by_kind None of is = absurd (nowhere is)
  by_kind (Some k) of is = by_types k of is

  pub shown : fun_at p label l ≡ Some i → IsShown p label l i
  shown is = let shows = by_kind (kind_in p.forms l.node l.body) (told p.forms (env_of p label) l.ty l.node l.body) is in record { kind = shows.0; place = shows.1; types = shows.2 }

-- ---- what reads or changes tables

-- its kind is no other
no_print : (b : Block) → kind_of b ≡ fun.Print → ⊥
no_print block.Query is = cc
no_print block.TableRead is = cc
no_print block.Insert is = cc
no_print block.Update is = cc
no_print block.Delete is = cc

serves : (b : Block) → place_in (kind_of b) None ≡ Server
serves block.Query = refl
serves block.TableRead = refl
serves block.Insert = refl
serves block.Update = refl
serves block.Delete = refl

by_block : (k : Kind) (found : FunKind) → kind_by k ≡ Some found → (b : Block) × (kind_of b ≡ found)
by_block (kind.Reach b label kept) found is = (b, some_same is)
by_block other found is = absurd (nowhere is)

node_block : (form : Option Form) (found : FunKind) → option_and_then (λ (form : Form). kind_by form.kind) form ≡ Some found → (b : Block) × (kind_of b ≡ found)
node_block None found is = absurd (nowhere is)
node_block (Some form) found is = by_block form.kind found is

-- it keeps nothing
block_keeps : (b : Block) (params : Option (List Ground)) (result : Option Ground) (of : Info) → of_block b params result ≡ Some of → of.env ≡ []
block_keeps b None result of is = absurd (nowhere is)
block_keeps b (Some params) None of is = absurd (nowhere is)
block_keeps b (Some params) (Some result) of is = sym (ap (λ (o : Info). o.env) (some_same is))

node_keeps : (f : Forms) (result : Option Ground) (parts : List ℕ) (k : Kind) (of : Info) → of_node f result parts k ≡ Some of → of.env ≡ []
node_keeps f result parts (kind.Reach b label kept) of is = block_keeps b (taken f b kept parts) result of is
node_keeps f result parts other of is = absurd (nowhere is)

pub form_keeps : (f : Forms) (result : Option Ground) (form : Option Form) (of : Info) → option_and_then (λ (form : Form). of_node f result form.parts form.kind) form ≡ Some of → of.env ≡ []
form_keeps f result None of is = absurd (nowhere is)
form_keeps f result (Some form) of is = node_keeps f result form.parts form.kind of is

-- ---- by node and body

no_block : false ≡ true → ⊥
no_block is = cc

other_kind : fun.Top ≡ fun.Print → ⊥
other_kind is = cc

no_lambda : fun.Lambda ≡ fun.Print → ⊥
no_lambda is = cc

no_function : (b : Block) → is_function (kind_of b) ≡ true → ⊥
no_function block.Query is = no_block is
no_function block.TableRead is = no_block is
no_function block.Insert is = no_block is
no_function block.Update is = no_block is
no_function block.Delete is = no_block is

module _ (f : Forms) (found : FunKind) where
  -- only what has neither is `print`
  pub prints : (node : Option ℕ) (body : Option Body) → kind_in f node body ≡ Some found → found ≡ fun.Print → (node ≡ None) × (body ≡ None)
  prints None None is print = (refl, refl)
  prints None (Some b) is print = absurd (other_kind (some_same is ∙ print))
  prints (Some n) (Some b) is print = absurd (no_lambda (some_same is ∙ print))
  prints (Some n) None is print = let one = node_block (form_at f n) found is in absurd (no_print one.0 (one.1 ∙ print))

  -- what reads or changes tables runs at the server
  pub at_server : (node : Option ℕ) (body : Option Body) → kind_in f node body ≡ Some found → is_block found ≡ true → place_in found body ≡ Server
  at_server None None is reaches = absurd (no_block (ap is_block (some_same is) ∙ reaches))
  at_server None (Some b) is reaches = absurd (no_block (ap is_block (some_same is) ∙ reaches))
  at_server (Some n) (Some b) is reaches = absurd (no_block (ap is_block (some_same is) ∙ reaches))
  at_server (Some n) None is reaches = let one = node_block (form_at f n) found is in subst (λ k. place_in k None ≡ Server) one.1 (serves one.0)

  -- an instance or a lambda has a body
  pub has_body : (node : Option ℕ) (body : Option Body) → kind_in f node body ≡ Some found → is_function found ≡ true → IsSome body
  has_body None None is function = absurd (no_block (ap is_function (some_same is) ∙ function))
  has_body None (Some b) is function = refl
  has_body (Some n) (Some b) is function = refl
  has_body (Some n) None is function = let one = node_block (form_at f n) found is in absurd (no_function one.0 (ap is_function one.1 ∙ function))

-- ---- labels and what is told of them

module _ (p : CpsProgram) (funs : List FunInfo) (funs_are : map Some funs ≡ funs_from p 0 p.forms.labels) where
  pub both : (label : ℕ) → option_map Some (slice_get funs label) ≡ option_map (fun_at p label) (label_at p.forms label)
  both label =
      let none : 0 + label ≡ label = omega arith in
      sym (slice_get-map Some funs label) ∙ ap (λ os. slice_get os label) funs_are ∙ funs_at p 0 p.forms.labels label ∙ ap (λ m. option_map (fun_at p m) (label_at p.forms label)) none

  pub record HasLabel (label : ℕ) (i : FunInfo) : Type 0 where
    pub l : LabelForm
    pub there : label_at p.forms label ≡ Some l
    pub shows : IsShown p label l i

  -- what has information has a label
  pub labelled : (label : ℕ) (i : FunInfo) → slice_get funs label ≡ Some i → HasLabel label i
  labelled label i at = by_form (label_at p.forms label) refl (sym (ap (option_map Some) at) ∙ both label)
    where
      by_form : (l : Option LabelForm) → label_at p.forms label ≡ l → Some (Some i) ≡ option_map (fun_at p label) l → HasLabel label i
      by_form None there is = absurd (nowhere (sym is))
      by_form (Some l) there is = record { l = l; there = there; shows = shown p label l i (sym (some_same is)) }

  -- and the other way round
  pub informed : (label : ℕ) (l : LabelForm) → label_at p.forms label ≡ Some l → (i : FunInfo) × (slice_get funs label ≡ Some i) × IsShown p label l i
  informed label l there = by_info (slice_get funs label) refl (both label ∙ ap (option_map (fun_at p label)) there)
    where
      by_info : (i : Option FunInfo) → slice_get funs label ≡ i → option_map Some i ≡ Some (fun_at p label l) → (i : FunInfo) × (slice_get funs label ≡ Some i) × IsShown p label l i
      by_info None at is = absurd (nowhere is)
      by_info (Some i) at is = (i, at, shown p label l i (sym (some_same is)))

  pub with_body : (label : ℕ) (i : FunInfo) → slice_get funs label ≡ Some i → is_function i.kind ≡ true → IsSome (body_at p.forms label)
  with_body label i at function = let has = labelled label i at in subst IsSome (sym (ap body_of has.there)) (has_body p.forms i.kind has.l.node has.l.body has.shows.kind function)
