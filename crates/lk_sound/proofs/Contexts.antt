-- What a name of a function stands for in the bodies of a program: a function of that name, at a type that it has. So has each
-- function the types that are instances of its scheme, and the function in which a session begins takes a text.
use Rattle.std.proofs.Common.{◌≡◌, ◌⊎◌, inl, inr, ℕ, zero, suc, ◌==◌, Bool, true, false, ◌&&◌, cond, List, [], ◌∷◌, ◌++◌, map, flat_map, length, codes, Some, find, slice_get, bytes_eq, refl, sym, ap, subst, subst₂, ◌∙◌, arith}
use Rattle.std.proofs.lemmas.Bool.{and_parts}
use Rattle.std.proofs.lemmas.Bool.Decides.{nat_tests}
use Rattle.std.proofs.lemmas.List.{length-map}
use Rattle.std.proofs.lemmas.Option.{none-some}
use Rattle.std.proofs.lemmas.Slice.Eq.{bytes_eq-Decides}
use Rattle.lk_ast.specs.Functions.{functions_in, functions_of, is_named, is_main}
use Rattle.lk_ast.specs.declared.declaration.Decl.{Decl}
use Rattle.lk_ast.specs.declared.declaration.FunDef.{FunDef}
use Rattle.lk_ast.specs.declared.declaration.Program.{Program}
use Rattle.lk_ast.specs.declared.declaration.TableDecl.{TableDecl}
use Rattle.lk_types.proofs.Parts.{same_some}
use Rattle.lk_types.specs.Each.{Each, OneOf}
use Rattle.lk_types.specs.Grounding.{Grounding}
use Rattle.lk_types.specs.Schemes.{IsInstance}
use Rattle.lk_types.specs.declared.ground.Ground.{Ground}
use Rattle.lk_types.specs.declared.ground.Ground.TheVariants as known
use Rattle.lk_types.specs.declared.scheme.Scheme.{Scheme}
use Rattle.lk_typing.proofs.SchemeCounts.{as_many_schemes}
use Rattle.lk_typing.specs.Groups.{IsFunction, AreFunctions, IsGroup, is_mutual, own_entries, scheme_entries}
use Rattle.lk_typing.specs.Names.{Named, types_of, Entry}
use Rattle.lk_typing.specs.Programs.{AreInstances, Hold, HaveSchemes, entries}
use Rattle.lk_ast.specs.Tables.{tables_of}
use Rattle.lk_typing.specs.Types.{function_of}
use Rattle.lk_types.proofs.Members.{one_in_front, one_in_back, one_of_both, one_at}
use Rattle.lk_sound.proofs.Names.{IsAmong, AreDistinct}
use Rattle.lk_sound.specs.Functions.{AreSeen, IsContext, HasFunctionType}
use Rattle.lk_sound.specs.Law.{MainLaw, InstanceLaw}
use Rattle.lk_sound.specs.Within.{IsFunctionOf}

-- ---- functions of a group

module _ (functions : Named (Entry Ground)) (tables : List TableDecl) (in_mutual : Bool) where
  function_there : (fs : List FunDef) (ts nodes : List Ground) → AreFunctions functions tables in_mutual fs ts nodes
      → (i : ℕ) (f : FunDef) (t : Ground) → slice_get fs i ≡ Some f → slice_get ts i ≡ Some t → (own : List Ground) × IsFunction functions tables in_mutual f t own
  function_there _ _ _ AreFunctions.none i f t is at = absurd (none-some f is)
  function_there _ _ _ (AreFunctions.more nodes rest typed later) zero f t is at = (nodes, subst₂ (λ f t. IsFunction functions tables in_mutual f t nodes) (same_some is) (same_some at) typed)
  function_there _ _ _ (AreFunctions.more nodes rest typed later) (suc i) f t is at = function_there _ _ _ later i f t is at

  type_there : (fs : List FunDef) (ts nodes : List Ground) → AreFunctions functions tables in_mutual fs ts nodes
      → (i : ℕ) (f : FunDef) → slice_get fs i ≡ Some f → (t : Ground) × (slice_get ts i ≡ Some t)
  type_there _ _ _ AreFunctions.none i f is = absurd (none-some f is)
  type_there _ _ _ (AreFunctions.more {t = t} nodes rest typed later) zero f is = (t, refl)
  type_there _ _ _ (AreFunctions.more nodes rest typed later) (suc i) f is = type_there _ _ _ later i f is

module _ (p : Program) where
  -- these declarations of the program stand behind functions with these schemes
  record AreLast (earlier : Named Scheme) (decls : List Decl) : Type 0 where
    lifts : (functions : Named (Entry Ground)) → AreSeen (tables_of p) earlier decls functions → IsContext p functions
    declared : (f : FunDef) → OneOf (λ other. other ≡ f) (flat_map functions_in decls) → IsFunctionOf p f

  all_last : AreLast [] p.decls
  all_last = record { lifts = λ functions seen. seen; declared = λ f there. there }

  module _ (earlier : Named Scheme) (decl : Decl) (decls : List Decl) (last : AreLast earlier (decl ∷ decls)) where
    others_last : (schemes : List Scheme) → Hold earlier (tables_of p) decl schemes → AreLast (entries (functions_in decl) schemes ++ earlier) decls
    others_last schemes hold = record {
      lifts = λ functions seen. last.lifts functions (AreSeen.later schemes hold seen);
      declared = λ f there. last.declared f (one_in_back (λ other. other ≡ f) (functions_in decl) (flat_map functions_in decls) there);
    }

    -- a function of the declaration has the type that it has in the group
    group_typed : (ts nodes : List Ground) → IsGroup earlier (tables_of p) decl ts nodes → (i : ℕ) (f : FunDef) (t : Ground) → slice_get (functions_in decl) i ≡ Some f → slice_get ts i ≡ Some t → HasFunctionType p f t
    group_typed ts nodes group i f t is at =
        let context : Named (Entry Ground) = own_entries (functions_in decl) ts ++ scheme_entries earlier in
        let found : (own : List Ground) × IsFunction context (tables_of p) (is_mutual decl) f t own = function_there context (tables_of p) (is_mutual decl) (functions_in decl) ts nodes group i f t is at in
        record {
          declared = last.declared f (one_in_front (λ other. other ≡ f) (functions_in decl) (flat_map functions_in decls) (one_at (functions_in decl) i f is));
          functions = context;
          seen = last.lifts context (AreSeen.here ts nodes group);
          in_mutual = is_mutual decl;
          nodes = found.0;
          typed = found.1;
        }

    -- it has the types that are instances of its scheme
    scheme_typed : (schemes : List Scheme) → Hold earlier (tables_of p) decl schemes
        → (i : ℕ) (f : FunDef) (scheme : Scheme) (σ : Grounding) (t : Ground) → slice_get (functions_in decl) i ≡ Some f → slice_get schemes i ≡ Some scheme → IsInstance σ scheme t → HasFunctionType p f t
    scheme_typed schemes hold i f scheme σ t is at its =
        let whole : (ts : List Ground) × AreInstances schemes ts × (slice_get ts i ≡ Some t) = hold.alone i scheme σ t at its in
        let group : (nodes : List Ground) × IsGroup earlier (tables_of p) decl whole.0 nodes = hold.each whole.0 whole.1 in
        group_typed whole.0 group.0 group.1 i f t is whole.2

    -- it has some type
    some_typed : (schemes : List Scheme) → Hold earlier (tables_of p) decl schemes → (i : ℕ) (f : FunDef) → slice_get (functions_in decl) i ≡ Some f → (t : Ground) × HasFunctionType p f t
    some_typed schemes hold i f is =
        let some : (ts : List Ground) × AreInstances schemes ts = hold.some in
        let group : (nodes : List Ground) × IsGroup earlier (tables_of p) decl some.0 nodes = hold.each some.0 some.1 in
        let found : (t : Ground) × (slice_get some.0 i ≡ Some t) =
        type_there (own_entries (functions_in decl) some.0 ++ scheme_entries earlier) (tables_of p) (is_mutual decl) (functions_in decl) some.0 group.0 group.1 i f is in
        (found.0, group_typed some.0 group.0 group.1 i f found.0 is found.1)
    -- ---- the function of a name

named_there : (fs : List FunDef) (f : FunDef) → OneOf (λ other. other ≡ f) fs → IsAmong f.name.text (map (λ (f : FunDef). f.name.text) fs)
named_there [] f there = there
named_there (other ∷ fs) f (inl is) = inl (ap (λ (f : FunDef). f.name.text) is)
named_there (other ∷ fs) f (inr later) = inr (named_there fs f later)

-- where no two have the same name, that of one of them finds it
pub found_named : (fs : List FunDef) (f : FunDef) → AreDistinct (map (λ (f : FunDef). f.name.text) fs) → OneOf (λ other. other ≡ f) fs → find (is_named f.name.text) fs ≡ Some f
found_named [] f distinct there = absurd there
found_named (other ∷ fs) f distinct (inl is) =
    ap (λ b. cond b (Some other) (find (is_named f.name.text) fs)) ((bytes_eq-Decides other.name.text f.name.text).1 (ap (λ (f : FunDef). f.name.text) is)) ∙ ap (λ g. Some g) is
found_named (other ∷ fs) f distinct (inr later) = by_test (bytes_eq other.name.text f.name.text) refl (found_named fs f distinct.1 later)
  where
    by_test : (b : Bool) → bytes_eq other.name.text f.name.text ≡ b → find (is_named f.name.text) fs ≡ Some f → cond b (Some other) (find (is_named f.name.text) fs) ≡ Some f
    by_test true same found =
        let is : other.name.text ≡ f.name.text = (bytes_eq-Decides other.name.text f.name.text).0 same in
        absurd (distinct.0 (subst (λ x. IsAmong x (map (λ (f : FunDef). f.name.text) fs)) (sym is) (named_there fs f later)))
    by_test false differs found = found

-- ---- instances of schemes

-- what stands at one place of two lists of two parts each stands at one place of the fronts or at one of the backs
at_both : {A B : Type 0} (xs others : List A) (ys rest : List B) → length ys ≡ length xs → (i : ℕ) (x : A) (y : B) → slice_get (xs ++ others) i ≡ Some x → slice_get (ys ++ rest) i ≡ Some y
    → ((slice_get xs i ≡ Some x) × (slice_get ys i ≡ Some y)) ⊎ ((j : ℕ) × (slice_get others j ≡ Some x) × (slice_get rest j ≡ Some y))
at_both [] others [] rest many i x y is at = inr (i, is, at)
at_both [] others (b ∷ ys) rest many i x y is at = absurd (let wrong : suc (length ys) ≡ 0 = many in omega arith)
at_both (a ∷ xs) others [] rest many i x y is at = absurd (let wrong : 0 ≡ suc (length xs) = many in omega arith)
at_both (a ∷ xs) others (b ∷ ys) rest many zero x y is at = inl (is, at)
at_both (a ∷ xs) others (b ∷ ys) rest many (suc i) x y is at = at_both xs others ys rest (omega arith) i x y is at

module _ (p : Program) where
  instance_typed : (earlier : Named Scheme) (decls : List Decl) (schemes : List Scheme) → HaveSchemes (tables_of p) earlier decls schemes → AreLast p earlier decls
      → (i : ℕ) (f : FunDef) (scheme : Scheme) (σ : Grounding) (t : Ground) → slice_get (flat_map functions_in decls) i ≡ Some f → slice_get schemes i ≡ Some scheme → IsInstance σ scheme t → HasFunctionType p f t
  instance_typed earlier _ _ HaveSchemes.none last i f scheme σ t is at its = absurd (none-some f is)
  instance_typed earlier _ _ (HaveSchemes.more {decl = decl} {decls = decls} schemes rest hold have) last i f scheme σ t is at its =
      by_side (at_both (functions_in decl) (flat_map functions_in decls) schemes rest (as_many_schemes earlier (tables_of p) decl schemes hold) i f scheme is at)
      (λ j its_place its_scheme. instance_typed (entries (functions_in decl) schemes ++ earlier) decls rest have (others_last p earlier decl decls last schemes hold) j f scheme σ t its_place its_scheme its)
    where
      by_side : ((slice_get (functions_in decl) i ≡ Some f) × (slice_get schemes i ≡ Some scheme)) ⊎ ((j : ℕ) × (slice_get (flat_map functions_in decls) j ≡ Some f) × (slice_get rest j ≡ Some scheme))
          → ((j : ℕ) → slice_get (flat_map functions_in decls) j ≡ Some f → slice_get rest j ≡ Some scheme → HasFunctionType p f t) → HasFunctionType p f t
      by_side (inl own) later = scheme_typed p earlier decl decls last schemes hold i f scheme σ t own.0 own.1 its
      by_side (inr other) later = later other.0 other.1 other.2

  -- each function has a type
  each_typed : (earlier : Named Scheme) (decls : List Decl) (schemes : List Scheme) → HaveSchemes (tables_of p) earlier decls schemes → AreLast p earlier decls
      → (f : FunDef) → OneOf (λ other. other ≡ f) (flat_map functions_in decls) → (t : Ground) × HasFunctionType p f t
  each_typed earlier _ _ HaveSchemes.none last f there = absurd there
  each_typed earlier _ _ (HaveSchemes.more {decl = decl} {decls = decls} schemes rest hold have) last f there =
      by_side (one_of_both (λ other. other ≡ f) (functions_in decl) (flat_map functions_in decls) there)
      (each_typed (entries (functions_in decl) schemes ++ earlier) decls rest have (others_last p earlier decl decls last schemes hold) f)
    where
      place_of : (fs : List FunDef) → OneOf (λ other. other ≡ f) fs → (i : ℕ) × (slice_get fs i ≡ Some f)
      place_of [] one = absurd one
      place_of (other ∷ fs) (inl is) = (zero, ap (λ g. Some g) is)
      place_of (other ∷ fs) (inr later) = let found : (i : ℕ) × (slice_get fs i ≡ Some f) = place_of fs later in (suc found.0, found.1)

      by_side : OneOf (λ other. other ≡ f) (functions_in decl) ⊎ OneOf (λ other. other ≡ f) (flat_map functions_in decls)
          → (OneOf (λ other. other ≡ f) (flat_map functions_in decls) → (t : Ground) × HasFunctionType p f t) → (t : Ground) × HasFunctionType p f t
      by_side (inl own) later =
          let at : (i : ℕ) × (slice_get (functions_in decl) i ≡ Some f) = place_of (functions_in decl) own in
          some_typed p earlier decl decls last schemes hold at.0 f at.1
      by_side (inr other) later = later other

pub instance_law : InstanceLaw
instance_law p schemes typed i f scheme σ t is at its = instance_typed p [] p.decls schemes typed (all_last p) i f scheme σ t is at its

-- ---- the function in which a session begins

-- what is found is there, and passes the test
found_main : (fs : List FunDef) (f : FunDef) → find is_main fs ≡ Some f → OneOf (λ other. other ≡ f) fs × (is_main f ≡ true)
found_main [] f is = absurd (none-some f is)
found_main (other ∷ fs) f is = by_test (is_main other) refl is (found_main fs f)
  where
    by_test : (b : Bool) → is_main other ≡ b → cond b (Some other) (find is_main fs) ≡ Some f → (find is_main fs ≡ Some f → OneOf (λ other. other ≡ f) fs × (is_main f ≡ true))
        → OneOf (λ other. other ≡ f) (other ∷ fs) × (is_main f ≡ true)
    by_test true test is later = (inl (same_some is), ap is_main (sym (same_some is)) ∙ test)
    by_test false test is later = let found : OneOf (λ other. other ≡ f) fs × (is_main f ≡ true) = later is in (inr found.0, found.1)

one_number : (n : ℕ) → (n == 1) ≡ true → n ≡ 1
one_number n same = grind (arith, nat_tests)

-- it has one parameter
one_param : (f : FunDef) → is_main f ≡ true → length f.params ≡ 1
one_param f main =
    let front : (is_named (codes "main") f && (length f.params == 1)) ≡ true = (and_parts _ _ main).0 in
    one_number (length f.params) (and_parts _ _ front).1

one_text : (ts : List Ground) → length ts ≡ 1 → Each (λ t. t ≡ known.Text) ts → ts ≡ known.Text ∷ []
one_text [] many all = absurd (let wrong : 0 ≡ 1 = many in omega arith)
one_text (t ∷ []) many all = ap (λ t. t ∷ []) all.0
one_text (t ∷ u ∷ ts) many all = absurd (let wrong : suc (suc (length ts)) ≡ 1 = many in omega arith)

pub main_law : MainLaw
main_law p (schemes, typed) main is =
    let found : OneOf (λ other. other ≡ main) (functions_of p) × (is_main main ≡ true) = found_main (functions_of p) main is in
    let has : (t : Ground) × HasFunctionType p main t = each_typed p [] p.decls schemes typed (all_last p) main found.0 in
    let its : IsFunction has.1.functions (tables_of p) has.1.in_mutual main has.0 has.1.nodes = has.1.typed in
    let many : length (types_of its.params) ≡ 1 =
    length-map its.params (λ entry. entry.1) ∙ sym (length-map its.params (λ entry. entry.0)) ∙ ap length its.names ∙ length-map main.params (λ word. word.text) ∙ one_param main found.1 in
    let text : types_of its.params ≡ known.Text ∷ [] = one_text (types_of its.params) many (its.main found.1) in
    (its.effects, its.answer, (is, subst (HasFunctionType p main) (its.is ∙ ap (λ params. function_of params its.effects its.answer) text) has.1))
