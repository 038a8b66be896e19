-- What a program with continuations tells of its labels is what its table is typed by.
use Rattle.std.proofs.Common.{◌≡◌, refl, sym, ap, ap₂, subst, ◌∙◌, ℕ, true, false, List, [], ◌∷◌, map, Option, Some, None, slice_get}
use Rattle.std.proofs.lemmas.Option.{slice_get_within}
use Rattle.std.specs.Option.{option_and_then, option_map}
use Rattle.lk_ast.specs.Layers.{Layer}
use Rattle.lk_ast.specs.declared.expression.Expr.{Expr}
use Rattle.lk_ast.specs.declared.place.Span.{Span}
use Rattle.lk_code.specs.Parts.{captures}
use Rattle.lk_code.specs.Tables.{node_type, type_at}
use Rattle.lk_code.specs.Told.{all_of, effect_of, env_of, info_in, kept_types, of_block, of_function, of_node, of_type, taken, told, types_at}
use Rattle.lk_evaluation.specs.Laws.{Both}
use Rattle.lk_ground.specs.declared.program.GroundProgram.{GroundProgram}
use Rattle.lk_ir.specs.Tables.{body_of, form_at, label_at}
use Rattle.lk_ir.specs.TypedUses as typed_uses
use Rattle.lk_ir.specs.TypedUses.{AmongKept, NeedsAs, UsedAs, UsedInTailsAs, UsesAs}
use Rattle.lk_ir.specs.declared.ir.CpsProgram.{CpsProgram}
use Rattle.lk_ir.specs.declared.nodes.Block.{Block}
use Rattle.lk_ir.specs.declared.nodes.Block.TheVariants as block
use Rattle.lk_ir.specs.declared.nodes.Body.{Body}
use Rattle.lk_ir.specs.declared.nodes.Form.{Form}
use Rattle.lk_ir.specs.declared.nodes.Forms.{Forms}
use Rattle.lk_ir.specs.declared.nodes.Kept.{Kept}
use Rattle.lk_ir.specs.declared.nodes.Kind.{Kind}
use Rattle.lk_ir.specs.declared.nodes.Kind.TheVariants as kind
use Rattle.lk_ir.specs.declared.nodes.LabelForm.{LabelForm}
use Rattle.lk_lower.proofs.Covers.{each_node}
use Rattle.lk_lower.specs.Law.{IsCovered}
use Rattle.lk_lower.specs.Lowering as low
use Rattle.lk_lower.specs.Lowering.{AreForms, IsKept, IsLowered, Pending, Shell}
use Rattle.lk_lowered.proofs.Told as known_of
use Rattle.lk_lowered.proofs.Told.{AreEnvsOf, AreFromUses, KeptTypes, Tells}
use Rattle.lk_types.proofs.Parts.{same_some}
use Rattle.lk_types.specs.Each.{Each}
use Rattle.lk_types.specs.declared.ground.Ground.{Ground}
use Rattle.lk_types.specs.declared.ground.Ground.TheVariants as known
use Rattle.lk_types.specs.declared.ty.Effect.{Effect}
use Rattle.lk_typing.specs.Names.{Named}

-- ---- numbers of types stand for types

module _ (f : Forms) where
  abbrev HasType : ℕ → Type 0
  HasType ty = (t : Ground) × (slice_get f.types ty ≡ Some t)

  kept_type : (uses : Named Ground) {x ty : ℕ} {kept : List Kept} → AmongKept x ty kept → Each (IsKept f uses) kept → HasType ty
  kept_type uses typed_uses.here_kept (one, others) = (one.1, one.4)
  kept_type uses (typed_uses.later_kept among) (one, others) = kept_type uses among others

  no_kept : {x ty : ℕ} → AmongKept x ty [] → HasType ty
  no_kept among = elim among [ ]

  kept_of : {b c : Block} {label other : ℕ} {kept others : List Kept} → kind.Reach b label kept ≡ kind.Reach c other others → kept ≡ others
  kept_of same = cc

  shell_type : {owner n ty number : ℕ} {l : Layer} {at : Span} {p q : Pending} {k : Kind} → Shell f owner n ty l at p k q → {x : ℕ} {b : Block} {label : ℕ} {kept : List Kept} → k ≡ kind.Reach b label kept → AmongKept x number kept → HasType number
  shell_type {number = number} (low.table of) {x = x} same among = no_kept (subst (AmongKept x number) (sym (kept_of same)) among)
  shell_type {number = number} (low.insert of touched) {x = x} same among = no_kept (subst (AmongKept x number) (sym (kept_of same)) among)
  shell_type {number = number} (low.query of are) {x = x} same among = kept_type _ (subst (AmongKept x number) (sym (kept_of same)) among) are.types_are
  shell_type {number = number} (low.update of are touched) {x = x} same among = kept_type _ (subst (AmongKept x number) (sym (kept_of same)) among) are.types_are
  shell_type {number = number} (low.delete of are touched) {x = x} same among = kept_type _ (subst (AmongKept x number) (sym (kept_of same)) among) are.types_are
  shell_type other same among = cc

  own_type : {owner within n : ℕ} {e : Expr} {p q : Pending} → IsLowered f owner within e p n q → (form : Form) → form_at f n ≡ Some form → HasType form.ty
  own_type (low.node other inside between number is at in_it has shell parts tails) form there = (has.0, ap (λ (g : Form). slice_get f.types g.ty) (same_some (sym there ∙ is)) ∙ has.1)
  own_type (low.lambda other l xs body is number at_it at in_it has of locals no_part no_tail label inner) form there = (has.0, ap (λ (g : Form). slice_get f.types g.ty) (same_some (sym there ∙ at_it)) ∙ has.1)

  block_type : {owner within n : ℕ} {e : Expr} {p q : Pending} → IsLowered f owner within e p n q → (form : Form) → form_at f n ≡ Some form → {x ty : ℕ} {b : Block} {label : ℕ} {kept : List Kept} → form.kind ≡ kind.Reach b label kept → AmongKept x ty kept → HasType ty
  block_type (low.node other inside between number is at in_it has shell parts tails) form there kind_is among = shell_type shell (ap (λ (g : Form). g.kind) (same_some (sym is ∙ there)) ∙ kind_is) among
  block_type (low.lambda other l xs body is number at_it at in_it has of locals no_part no_tail label inner) form there kind_is among =
      absurd (no_reach (sym of ∙ ap (λ (g : Form). g.kind) (same_some (sym at_it ∙ there)) ∙ kind_is))
    where
      no_reach : {b : Block} {label own : ℕ} {kept : List Kept} {ys : List ℕ} → kind.Lambda own ys ≡ kind.Reach b label kept → ⊥
      no_reach same = cc

  module _ (g : GroundProgram) (of : AreForms g f) where
    pub covered : (n : ℕ) (form : Form) → form_at f n ≡ Some form → IsCovered f n
    covered n form is = each_node f g of n (slice_get_within f.nodes n form is)

    mutual
      -- a use has a type
      pub use_type : {x ty n : ℕ} → UsesAs f x ty n → HasType ty
      use_type {n = n} (typed_uses.itself_as form is needs) = need_type n form is refl refl needs
      use_type (typed_uses.in_part_as form is uses) = used_type uses
      use_type (typed_uses.in_tail_as form is uses) = tail_type uses

      need_type : {x ty own : ℕ} {k : Kind} (n : ℕ) (form : Form) → form_at f n ≡ Some form → form.kind ≡ k → form.ty ≡ own → NeedsAs f x ty k own → HasType ty
      need_type n form is kind_is ty_is typed_uses.own_name = subst HasType ty_is (own_type (covered n form is).lowered form is)
      need_type n form is kind_is ty_is (typed_uses.kept_name among) = block_type (covered n form is).lowered form is kind_is among
      need_type n form is kind_is ty_is (typed_uses.captured_name b body names captured none uses) = use_type uses

      used_type : {x ty : ℕ} {ns : List ℕ} → UsedAs f x ty ns → HasType ty
      used_type (typed_uses.first_as uses) = use_type uses
      used_type (typed_uses.others_as uses) = used_type uses

      tail_type : {x ty : ℕ} {bs : List (Option ℕ)} {ns : List ℕ} → UsedInTailsAs f x ty bs ns → HasType ty
      tail_type (typed_uses.first_tail_as apart uses) = use_type uses
      tail_type (typed_uses.other_tails_as uses) = tail_type uses

    -- captured names with the types that these numbers stand for
    pub record HaveTypes (root : ℕ) (xs tys : List ℕ) : Type 0 where
      pub types : List Ground
      pub are : types_at f tys ≡ Some types
      pub uses : AreFromUses f root xs types

    have_types : (root : ℕ) (xs tys : List ℕ) → Both (λ x ty. UsesAs f x ty root) xs tys → HaveTypes root xs tys
    have_types root [] [] both = record { types = []; are = refl; uses = known_of.no_name }
    have_types root [] (ty ∷ tys) both = absurd both
    have_types root (x ∷ xs) [] both = absurd both
    have_types root (x ∷ xs) (ty ∷ tys) both =
        let one = use_type both.0 in
        let rest = have_types root xs tys both.1 in
        record {
          types = one.0 ∷ rest.types;
          are = ap (option_and_then (λ t. option_map (λ ts. t ∷ ts) (types_at f tys))) one.1 ∙ ap (option_map (λ ts. one.0 ∷ ts)) rest.are;
          uses = known_of.one_name ty both.0 one.1 rest.uses;
        }

-- ---- what is told

told_body : (f : Forms) (env : List ℕ) (ty : ℕ) (n : Option ℕ) (b : Body) → told f env ty n (Some b) ≡ of_function (type_at f ty) (types_at f env)
told_body f env ty None b = refl
told_body f env ty (Some n) b = refl

told_function : (o : Option Ground) (p : Option (List Ground)) (params : List Ground) (effects : List Effect) (result : Ground) (env : List Ground) → o ≡ Some (known.Fun params effects result) → p ≡ Some env
    → of_function o p ≡ Some (record { params = params; effects = effects; result = result; env = env })
told_function o p params effects result env is are = ap₂ of_function is are ∙ ap (λ level. of_type level env) (known.outs-Fun params effects result)

kept_told : (f : Forms) (kept : List Kept) (ts : List Ground) → KeptTypes f kept ts → kept_types f kept ≡ Some ts
kept_told f [] [] are = refl
kept_told f [] (t ∷ ts) are = absurd are
kept_told f (k ∷ kept) [] are = absurd are
kept_told f (k ∷ kept) (t ∷ ts) are = ap (option_and_then (λ t. option_map (λ ts. t ∷ ts) (kept_types f kept))) are.0 ∙ ap (option_map (λ ts. t ∷ ts)) (kept_told f kept ts are.1)

taken_kept : (f : Forms) (b : Block) (kept : List Kept) (parts : List ℕ) → captures b ≡ true → taken f b kept parts ≡ kept_types f kept
taken_kept f block.Query kept parts is = refl
taken_kept f block.TableRead kept parts is = refl
taken_kept f block.Insert kept parts is = let wrong : false ≡ true = is in cc
taken_kept f block.Update kept parts is = refl
taken_kept f block.Delete kept parts is = refl

block_told : (f : Forms) (env : List ℕ) (ty n : ℕ) (own : Option ℕ) (body : Option Body) (form : Form) (b : Block) (label : ℕ) (kept : List Kept) (params : List Ground) (result : Ground) → own ≡ Some n → body ≡ None → form_at f n ≡ Some form → form.kind ≡ kind.Reach b label kept
    → taken f b kept form.parts ≡ Some params → type_at f ty ≡ Some result → told f env ty own body ≡ Some (record { params = params; effects = effect_of b ∷ []; result = result; env = [] })
block_told f env ty n own body form b label kept params result own_is body_is is kind_is takes type =
    ap₂ (told f env ty) own_is body_is ∙ ap (option_and_then (λ (g : Form). of_node f (type_at f ty) g.parts g.kind)) is
    ∙ ap (of_node f (type_at f ty) form.parts) kind_is ∙ ap₂ (of_block b) takes type

pub tells_in : (g : GroundProgram) (c : CpsProgram) → AreForms g c.forms → AreEnvsOf c → Tells c.forms (info_in c)
tells_in g c of envs = record {
  bodies = λ label l b params effects result there body_is type.
      (let all : HaveTypes c.forms g of b.root b.names (env_of c label) = have_types c.forms g of b.root b.names (env_of c label) (envs label b (ap body_of there ∙ body_is)) in
      (all.types, at_label label l there ∙ ap (told c.forms (env_of c label) l.ty l.node) body_is ∙ told_body c.forms (env_of c label) l.ty l.node b ∙ told_function (type_at c.forms l.ty) (types_at c.forms (env_of c label)) params effects result all.types type all.are, all.uses));
  blocks = λ label n l form b kept ts t there node_is body_is is kind_is captured kept_are type.
      (effect_of b ∷ [], [], at_label label l there ∙ block_told c.forms (env_of c label) l.ty n l.node l.body form b label kept ts t node_is body_is is kind_is (taken_kept c.forms b kept form.parts captured ∙ kept_told c.forms kept ts kept_are) type);
  inserts = λ label n k l form part a t there node_is body_is is kind_is parts_are part_is part_type type.
      (effect_of block.Insert ∷ [], [], at_label label l there ∙ block_told c.forms (env_of c label) l.ty n l.node l.body form block.Insert label [] (a ∷ []) t node_is body_is is kind_is (part_told k form part a parts_are part_is part_type) type);
}
  where
    at_label : (label : ℕ) (l : LabelForm) → label_at c.forms label ≡ Some l → info_in c label ≡ told c.forms (env_of c label) l.ty l.node l.body
    at_label label l there = ap (option_and_then (λ (m : LabelForm). told c.forms (env_of c label) m.ty m.node m.body)) there

    part_told : (k : ℕ) (form part : Form) (a : Ground) → form.parts ≡ k ∷ [] → form_at c.forms k ≡ Some part → slice_get c.forms.types part.ty ≡ Some a → all_of (map (node_type c.forms) form.parts) ≡ Some (a ∷ [])
    part_told k form part a parts_are part_is part_type =
        let one : node_type c.forms k ≡ Some a = ap (option_and_then (λ (g : Form). type_at c.forms g.ty)) part_is ∙ part_type in
        ap (λ ns. all_of (map (node_type c.forms) ns)) parts_are ∙ ap (option_and_then (λ x. option_map (λ xs. x ∷ xs) (Some []))) one
