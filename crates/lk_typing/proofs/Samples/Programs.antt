-- Programs and their schemes: functions with one parameter, when schemes hold, and when they are the most general ones.
use Rattle.std.proofs.Common.{◌≡◌, ℕ, zero, suc, pred, Bool, true, false, List, [], ◌∷◌, ◌++◌, length, refl, sym, subst, ap, ap₂, ◌∙◌, append-nil, arith}
use Rattle.std.specs.List.{list_any}
use Rattle.std.specs.Prelude.{bytes_eq}
use Rattle.lk_ast.specs.Functions.{functions_in, is_main}
use Rattle.lk_ast.specs.declared.declaration.Decl.{Decl}
use Rattle.lk_ast.specs.declared.declaration.Decl.TheVariants.{Fun}
use Rattle.lk_ast.specs.declared.declaration.FunDef.{FunDef}
use Rattle.lk_ast.specs.declared.declaration.Program.{Program}
use Rattle.lk_ast.specs.declared.declaration.TableDecl.{TableDecl}
use Rattle.lk_types.proofs.Parts.{same_some}
use Rattle.lk_types.specs.Each.{Each}
use Rattle.lk_types.specs.Grounding.{Grounding}
use Rattle.lk_types.specs.Rows.{Label, EffectSet}
use Rattle.lk_types.specs.Schemes.{IsInstance}
use Rattle.lk_types.specs.declared.ground.Ground.{Ground}
use Rattle.lk_types.specs.declared.ground.Ground.TheVariants as known
use Rattle.lk_types.specs.declared.scheme.Lack.{Lack}
use Rattle.lk_types.specs.declared.scheme.Scheme.{Scheme}
use Rattle.lk_types.specs.declared.ty.Effect.{Effect}
use Rattle.lk_types.specs.declared.ty.Effect.TheVariants as effect
use Rattle.lk_types.specs.declared.ty.Ty.{Ty}
use Rattle.lk_types.specs.declared.ty.Ty.TheVariants as ty
use Rattle.lk_types.specs.declared.ty.RowTail.TheVariants.{Var}
use Rattle.lk_typing.proofs.Inverses.{first_same, rest_same}
use Rattle.lk_typing.proofs.SchemeCounts.{as_many_schemes}
use Rattle.lk_typing.specs.Groups.{IsFunction, none, more, IsGroup, is_recursive, scheme_entries}
use Rattle.lk_typing.specs.Names.{Named, Entry, One, names_of, types_of, texts}
use Rattle.lk_typing.specs.Programs as program
use Rattle.lk_typing.specs.Programs.{AreAt, AreInstances, StandAlone, Hold, entries, HaveSchemes, IsTypedBy, AreInstancesOf, ArePrincipal}
use Rattle.lk_typing.specs.Signatures.{HasSignature}
use Rattle.lk_typing.specs.Types.{function_of}
use Rattle.lk_typing.specs.Typing.{HasType, HasIf, is_marked}
use Rattle.lk_typing.specs.Unknowns as unknown
use Rattle.lk_typing.specs.Uses.{functions_used}

-- ---- the first declaration

pub record Typed (tables : List TableDecl) (earlier : Named Scheme) (decl : Decl) (decls : List Decl) (all : List Scheme) : Type 0 where
  pub schemes : List Scheme
  pub rest : List Scheme
  pub hold : Hold earlier tables decl schemes
  pub then : HaveSchemes tables (entries (functions_in decl) schemes ++ earlier) decls rest
  pub is : all ≡ schemes ++ rest

pub first_declaration : {tables : List TableDecl} {earlier : Named Scheme} {decl : Decl} {decls : List Decl} {all : List Scheme} → HaveSchemes tables earlier (decl ∷ decls) all → Typed tables earlier decl decls all
first_declaration (program.HaveSchemes.more schemes rest hold then) = record { schemes = schemes; rest = rest; hold = hold; then = then; is = refl }

record Instances (decl : Decl) (decls : List Decl) (all : List Scheme) (types : List Ground) : Type 0 where
  schemes : List Scheme
  rest : List Scheme
  ts : List Ground
  others : List Ground
  long : length schemes ≡ length (functions_in decl)
  instances : AreInstances schemes ts
  then : AreInstancesOf decls rest others
  is : all ≡ schemes ++ rest
  types_are : types ≡ ts ++ others

first_instances : {decl : Decl} {decls : List Decl} {all : List Scheme} {types : List Ground} → AreInstancesOf (decl ∷ decls) all types → Instances decl decls all types
first_instances (program.AreInstancesOf.more schemes rest ts others long instances then) = record { schemes = schemes; rest = rest; ts = ts; others = others; long = long; instances = instances; then = then; is = refl; types_are = refl }

-- ---- the most general schemes

same_front : {A : Type 0} (xs ys us vs : List A) → length xs ≡ length ys → xs ++ us ≡ ys ++ vs → (xs ≡ ys) × (us ≡ vs)
same_front [] [] us vs long is = (refl, is)
same_front [] (y ∷ ys) us vs long is = absurd (omega arith)
same_front (x ∷ xs) [] us vs long is = absurd (omega arith)
same_front (x ∷ xs) (y ∷ ys) us vs long is = let rest = same_front xs ys us vs (ap pred long) (rest_same is) in (ap₂ (λ a as'. a ∷ as') (first_same is) rest.0, rest.1)

-- all instances of other schemes are instances of these too
abbrev pub AreGeneral : List TableDecl → Named Scheme → List Decl → List Scheme → Type 0
AreGeneral tables earlier decls schemes = (others : List Scheme) (ts : List Ground) → HaveSchemes tables earlier decls others → AreInstancesOf decls others ts → AreInstancesOf decls schemes ts

module _ {tables : List TableDecl} {earlier : Named Scheme} where
  pub none_general : AreGeneral tables earlier [] []
  none_general others ts typed instances = only_none typed instances
    where
      only_none : {others : List Scheme} → HaveSchemes tables earlier [] others → AreInstancesOf [] others ts → AreInstancesOf [] [] ts
      only_none program.HaveSchemes.none instances = instances

  -- all types of the first group are instances, and those behind it are the most general ones, whatever schemes the group has
  pub more_general : (decl : Decl) (decls : List Decl) (schemes rest : List Scheme) → length schemes ≡ length (functions_in decl)
      → ((ts nodes : List Ground) → IsGroup earlier tables decl ts nodes → AreInstances schemes ts)
      → ((others : List Scheme) → Hold earlier tables decl others → AreGeneral tables (entries (functions_in decl) others ++ earlier) decls rest)
      → AreGeneral tables earlier (decl ∷ decls) (schemes ++ rest)
  more_general decl decls schemes rest long every behind others ts typed instances =
      let a = first_declaration typed in
      let b = first_instances instances in
      let same = same_front b.schemes a.schemes b.rest a.rest (b.long ∙ sym (as_many_schemes earlier tables decl a.schemes a.hold)) (sym b.is ∙ a.is) in
      let group = a.hold.each b.ts (subst (λ s. AreInstances s b.ts) same.0 b.instances) in
      subst (AreInstancesOf (decl ∷ decls) (schemes ++ rest)) (sym b.types_are)
      (program.AreInstancesOf.more schemes rest b.ts b.others long (every b.ts group.0 group.1)
      (behind a.schemes a.hold a.rest b.others a.then (subst (λ s. AreInstancesOf decls s b.others) same.1 b.then)))

-- ---- a function alone in its group

-- what it sees: itself, at its own type, and those before it
abbrev pub IsType : Named Scheme → FunDef → Ground → List Ground → Type 0
IsType earlier f t nodes = IsFunction ((f.name.text, One t) ∷ scheme_entries earlier) [] false f t nodes

-- it has the type, which is the same as one that it has
pub has_type : (earlier : Named Scheme) (f : FunDef) {t u : Ground} {nodes : List Ground} → t ≡ u → IsType earlier f u nodes → (nodes : List Ground) × IsType earlier f t nodes
has_type earlier f {nodes = nodes} same typed = (nodes, subst (λ v. IsType earlier f v nodes) (sym same) typed)

pub only_type : (earlier : Named Scheme) (f : FunDef) (ts nodes : List Ground) → IsGroup earlier [] (Fun f) ts nodes → (t : Ground) × (inside : List Ground) × (ts ≡ t ∷ []) × IsType earlier f t inside
only_type earlier f [] nodes group = let wrong : ⊥ = elim group [ ] in absurd wrong
only_type earlier f (t ∷ []) nodes (more inside rest typed others) = (t, inside, refl, typed)
only_type earlier f (t ∷ u ∷ ts) nodes (more inside rest typed others) = let wrong : ⊥ = elim others [ ] in absurd wrong

-- one scheme stands alone, since there are no others
stands_alone : (scheme : Scheme) → StandAlone (scheme ∷ [])
stands_alone scheme zero own σ t is its = (t ∷ [], (σ, (subst (λ s. IsInstance σ s t) (sym (same_some is)) its, tt)), refl)
stands_alone scheme (suc i) own σ t is its = absurd cc

-- the instances of a scheme are these types, of which there are some
pub record Covers (scheme : Scheme) (Fits : Ground → Type 0) : Type 0 where
  pub some : (t : Ground) × Fits t
  pub fits : (σ : Grounding) (t : Ground) → IsInstance σ scheme t → Fits t
  pub at : (t : Ground) → Fits t → (σ : Grounding) × IsInstance σ scheme t

module _ (earlier : Named Scheme) (f : FunDef) (scheme : Scheme) (Fits : Ground → Type 0) (covers : Covers scheme Fits) where
  pub holds : ((t : Ground) → Fits t → (nodes : List Ground) × IsType earlier f t nodes) → Hold earlier [] (Fun f) (scheme ∷ [])
  holds typed = record { some = (covers.some.0 ∷ [], instances covers.some.0 covers.some.1); alone = stands_alone scheme; each = each }
    where
      instances : (t : Ground) → Fits t → AreInstances (scheme ∷ []) (t ∷ [])
      instances t fit = let found = covers.at t fit in (found.0, (found.1, tt))

      each : (ts : List Ground) → AreInstances (scheme ∷ []) ts → (nodes : List Ground) × IsGroup earlier [] (Fun f) ts nodes
      each [] its = absurd its.1
      each (t ∷ []) its = let found = typed t (covers.fits its.0 t its.1.0) in (found.0 ++ [], more found.0 [] found.1 none)
      each (t ∷ u ∷ ts) its = absurd its.1.1

  pub every : ((t : Ground) (nodes : List Ground) → IsType earlier f t nodes → Fits t) → (ts nodes : List Ground) → IsGroup earlier [] (Fun f) ts nodes → AreInstances (scheme ∷ []) ts
  every fits ts nodes group =
      let only = only_type earlier f ts nodes group in
      let found = covers.at only.0 (fits only.0 only.1 only.3) in
      (found.0, subst (AreAt found.0 (scheme ∷ [])) (sym only.2) (found.1, tt))

-- ---- a program of one function

abbrev pub alone : FunDef → Program
alone f = record { decls = Fun f ∷ [] }

-- the schemes that it has hold
pub held_alone : (f : FunDef) (schemes : List Scheme) → IsTypedBy (alone f) schemes → Hold [] [] (Fun f) schemes
held_alone f schemes typed =
    let first = first_declaration typed in
    subst (Hold [] [] (Fun f)) (sym (first.is ∙ ap (λ rest. first.schemes ++ rest) (no_more first.then) ∙ append-nil first.schemes)) first.hold
  where
    no_more : {earlier : Named Scheme} {rest : List Scheme} → HaveSchemes [] earlier [] rest → rest ≡ []
    no_more program.HaveSchemes.none = refl

-- a scheme that covers the types of the function is principal
pub principal_alone : (f : FunDef) (scheme : Scheme) (Fits : Ground → Type 0) → Covers scheme Fits
    → ((t : Ground) → Fits t → (nodes : List Ground) × IsType [] f t nodes) → ((t : Ground) (nodes : List Ground) → IsType [] f t nodes → Fits t) → ArePrincipal (alone f) (scheme ∷ [])
principal_alone f scheme Fits covers typed fits = record {
  typed = program.HaveSchemes.more (scheme ∷ []) [] (holds [] f scheme Fits covers typed) program.HaveSchemes.none;
  most_general = more_general (Fun f) [] (scheme ∷ []) [] refl (every [] f scheme Fits covers fits) (λ others held. none_general);
}

-- ---- a function with one parameter

-- (t) {es|n}-> u, where variables have these lacks
abbrev pub one_to : Ty → List Effect → ℕ → Ty → List Lack → Scheme
one_to t es n u lacks = record { body = ty.Fun (t ∷ []) (unknown.effects_of es (Var n)) u; lacks = lacks }

-- whether it calls itself, from the functions that it uses
pub calls_itself : (f : FunDef) (uses : List Label) (s : EffectSet) → functions_used f.body ≡ uses → HasIf (list_any (λ g. bytes_eq g f.name.text) uses) s effect.Rec → HasIf (is_recursive false f) s effect.Rec
calls_itself f uses s is recurs = subst (λ us. HasIf (list_any (λ g. bytes_eq g f.name.text) us) s effect.Rec) (sym is) recurs

-- the type of its parameter, and its body's typing
pub record OneParam (functions : Named (Entry Ground)) (tables : List TableDecl) (in_mutual : Bool) (f : FunDef) (x : Label) (t : Ground) : Type 0 where
  pub p : Ground
  pub effects : EffectSet
  pub answer : Ground
  pub inside : List Ground
  pub is : t ≡ function_of (p ∷ []) effects answer
  pub main : is_main f ≡ true → p ≡ known.Text
  pub moves : HasIf (is_marked f.place) effects effect.Move
  pub recurs : HasIf (is_recursive in_mutual f) effects effect.Rec
  pub body : HasType functions tables ((x, p) ∷ []) effects f.body answer inside

module _ {functions : Named (Entry Ground)} {tables : List TableDecl} {in_mutual : Bool} (f : FunDef) where
  pub function_has : (x : Label) (p a : Ground) (s : EffectSet) (inside : List Ground) → texts f.params ≡ x ∷ [] → HasSignature f.sig (function_of (p ∷ []) s a) → (is_main f ≡ true → p ≡ known.Text)
      → HasIf (is_marked f.place) s effect.Move → HasIf (is_recursive in_mutual f) s effect.Rec → HasType functions tables ((x, p) ∷ []) s f.body a inside
      → IsFunction functions tables in_mutual f (function_of (p ∷ []) s a) (a ∷ inside)
  function_has x p a s inside params signature main moves recurs body = record {
    params = (x, p) ∷ [];
    effects = s;
    answer = a;
    inside = inside;
    is = refl;
    names = sym params;
    signature = signature;
    main = λ it. (main it, tt);
    moves = moves;
    recurs = recurs;
    body = body;
    all = refl;
  }

  pub one_param : (x : Label) {t : Ground} {nodes : List Ground} → texts f.params ≡ x ∷ [] → IsFunction functions tables in_mutual f t nodes → OneParam functions tables in_mutual f x t
  one_param x params typed =
      let p = single typed.params (typed.names ∙ params) in
      record {
        p = p.0;
        effects = typed.effects;
        answer = typed.answer;
        inside = typed.inside;
        is = typed.is ∙ ap (λ ps. function_of (types_of ps) typed.effects typed.answer) p.1;
        main = λ it. (subst (λ ps. Each (λ q. q ≡ known.Text) (types_of ps)) p.1 (typed.main it)).0;
        moves = typed.moves;
        recurs = typed.recurs;
        body = subst (λ ps. HasType functions tables ps typed.effects f.body typed.answer typed.inside) p.1 typed.body;
      }
    where
      single : (params : Named Ground) → names_of params ≡ x ∷ [] → (p : Ground) × (params ≡ (x, p) ∷ [])
      single [] is = absurd cc
      single (param ∷ []) is = (param.1, ap (λ l. (l, param.1) ∷ []) (first_same is))
      single (param ∷ other ∷ params) is = absurd cc
