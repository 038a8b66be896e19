-- A function has a type by the rules just where all holds that the walk through it says, if the same goes for its body.
use Rattle.std.proofs.Common.{◌≡◌, ℕ, ◌+◌, Bool, true, false, List, [], ◌∷◌, ◌++◌, map, length, refl, sym, subst, ap, ◌∙◌, Option, Some, None}
use native.Mathlib.Omega.{arith}
use Rattle.lk_ast.specs.Functions.{is_main}
use Rattle.lk_ast.specs.declared.declaration.FunDef.{FunDef}
use Rattle.lk_ast.specs.declared.declaration.TableDecl.{TableDecl}
use Rattle.lk_ast.specs.declared.place.Span.{Span}
use Rattle.lk_ast.specs.declared.signature.Sig.{Sig}
use Rattle.lk_types.proofs.Members.{each_front, each_back, each_both}
use Rattle.lk_types.proofs.Parts.{same_some}
use Rattle.lk_types.proofs.Unfold.{under_text}
use Rattle.lk_types.specs.Each.{Each}
use Rattle.lk_types.specs.Grounding.{Grounding, under}
use Rattle.lk_types.specs.Rows.{EffectSet}
use Rattle.lk_types.specs.Solutions.{IsMet}
use Rattle.lk_types.specs.declared.equation.Equation.{Equation}
use Rattle.lk_types.specs.declared.ground.Ground.{Ground}
use Rattle.lk_types.specs.declared.ground.Ground.TheVariants as known
use Rattle.lk_types.specs.declared.ty.Effect.{Effect}
use Rattle.lk_types.specs.declared.ty.Effect.TheVariants as effect
use Rattle.lk_types.specs.declared.ty.Effects.{Effects}
use Rattle.lk_types.specs.declared.ty.Ty.{Ty}
use Rattle.lk_types.specs.declared.ty.Ty.TheVariants as ty
use Rattle.lk_typing.proofs.EffectRows.{has_sound, has_complete, without}
use Rattle.lk_typing.proofs.Inverses.{first_same, rest_same, none_more, more_none}
use Rattle.lk_typing.proofs.Lists.{length_append, stand_front, stand_back, become_more}
use Rattle.lk_typing.proofs.Meaning.{Letter, effects, Stand, Names, Functions, HasEffects, Found, Sound, Met, Complete}
use Rattle.lk_typing.proofs.Groups.Signatures.{signature_sound, signature_complete}
use Rattle.lk_typing.proofs.Nodes.{equations_hold, equations_met}
use Rattle.lk_typing.proofs.Scopes.{same_types}
use Rattle.lk_typing.proofs.Values.{function_is, meets, met}
use Rattle.lk_typing.specs.Groups.{IsFunction, Unknown, type_of, signature_told, main_told, FunctionWalked, function_walked, is_recursive}
use Rattle.lk_typing.specs.Law.{Become}
use Rattle.lk_typing.specs.Names.{Named, Entry, names_of, types_of, texts}
use Rattle.lk_typing.specs.Signatures.{HasSignature, signing}
use Rattle.lk_typing.specs.Steps.{Holds, Meets, same_at}
use Rattle.lk_typing.specs.Types.{function_of}
use Rattle.lk_typing.specs.Typing.{HasType, HasIf, is_marked}
use Rattle.lk_typing.specs.Unknowns as unknown
use Rattle.lk_typing.specs.Walk.{Told, has_if, Walked, walk}

-- ---- names and what they stand for

-- what is unknown of a function becomes this
pub record UnknownIs (σ : Grounding) (u : Unknown) (params : Named Ground) (s : EffectSet) (a : Ground) : Type 0 where
  pub named : Names σ u.params params
  pub has : HasEffects σ u.effects s
  pub answers : under σ u.answer ≡ Some a

pub type_is : (σ : Grounding) (u : Unknown) (params : Named Ground) (s : EffectSet) (a : Ground) → UnknownIs σ u params s a → under σ (type_of u) ≡ Some (function_of (types_of params) s a)
type_is σ u params s a is = function_is σ (types_of u.params) (types_of params) u.effects s u.answer a (same_types σ u.params params is.named) is.has is.answers

-- ---- what is said of a function

-- the letter of the others among the effects
abbrev if_letters : Bool → EffectSet → Effect → List Letter
if_letters true s e = effects (without e s) ∷ []
if_letters false s e = []

module _ (σ : Grounding) where
  -- all that is said holds, and the numbers end there
  abbrev ToldMet : Told → ℕ → Type 0
  ToldMet said last = (said.next ≡ last) × Each (IsMet σ) said.equations

  signature_holds : (sig : Option Sig) (t : Ty) (g : Ground) (n : ℕ) → under σ t ≡ Some g → Each (IsMet σ) (signature_told sig t n).equations → HasSignature sig g
  signature_holds None t g n is all = tt
  signature_holds (Some sig) t g n is all = signature_sound σ sig.ty n g (met σ t (signing sig.ty n).ty g is all.0)

  if_holds : (b : Bool) (es : Effects) (s : EffectSet) (e : Effect) (n : ℕ) → HasEffects σ es s → Each (IsMet σ) (has_if b es e n).equations → HasIf b s e
  if_holds true es s e n is all = has_sound σ es s e n is all.0
  if_holds false es s e n is all = tt

  texts_hold : (types : List Ty) (ts : List Ground) → Become σ types ts → Each (IsMet σ) (map (λ p. unknown.same p ty.Text) types) → Each (λ p. p ≡ known.Text) ts
  texts_hold [] [] is all = tt
  texts_hold [] (t ∷ ts) is all = none_more is
  texts_hold (x ∷ xs) [] is all = more_none is
  texts_hold (x ∷ xs) (t ∷ ts) is all = (same_some (sym (met σ x ty.Text t (first_same is) all.0) ∙ under_text σ), texts_hold xs ts (rest_same is) all.1)

  main_holds : (b : Bool) (params : Named Ty) (known_params : Named Ground) → Names σ params known_params → Each (IsMet σ) (main_told b params) → b ≡ true → Each (λ p. p ≡ known.Text) (types_of known_params)
  main_holds true params known_params is all main = texts_hold (types_of params) (types_of known_params) (same_types σ params known_params is) all
  main_holds false params known_params is all main = let wrong : false ≡ true = main in cc

  texts_met : (types : List Ty) (ts : List Ground) → Become σ types ts → Each (λ p. p ≡ known.Text) ts → Each (IsMet σ) (map (λ p. unknown.same p ty.Text) types)
  texts_met [] ts is all = tt
  texts_met (x ∷ xs) [] is all = more_none is
  texts_met (x ∷ xs) (t ∷ ts) is all = (meets σ x ty.Text known.Text (first_same is ∙ ap (λ a. Some a) all.0) (under_text σ), texts_met xs ts (rest_same is) all.1)

  main_met : (b : Bool) (params : Named Ty) (known_params : Named Ground) → Names σ params known_params → (b ≡ true → Each (λ p. p ≡ known.Text) (types_of known_params)) → Each (IsMet σ) (main_told b params)
  main_met true params known_params is main = texts_met (types_of params) (types_of known_params) (same_types σ params known_params is) (main refl)
  main_met false params known_params is main = tt

  if_met : (b : Bool) (es : Effects) (s : EffectSet) (e : Effect) (n : ℕ) → HasEffects σ es s → HasIf b s e → Stand σ n (if_letters b s e) → ToldMet (has_if b es e n) (length (if_letters b s e) + n)
  if_met true es s e n is there stand = (let same : 1 + n ≡ length (effects (without e s) ∷ []) + n = omega arith in same, (has_complete σ es s e n is there stand.0.effects, tt))
  if_met false es s e n is there stand = (let same : n ≡ 0 + n = omega arith in same, tt)

-- the letters of a signature
abbrev SignatureMet : Option Sig → Ground → Type 0
SignatureMet sig g = (ls : List Letter) × ((σ : Grounding) (t : Ty) (n : ℕ) → under σ t ≡ Some g → Stand σ n ls → ToldMet σ (signature_told sig t n) (length ls + n))

signature_met : (sig : Option Sig) (g : Ground) → HasSignature sig g → SignatureMet sig g
signature_met None g has = ([], λ σ t n is stand. (let same : n ≡ 0 + n = omega arith in same, tt))
signature_met (Some sig) g has =
    let complete : (ls : List Letter) × ((σ : Grounding) (n : ℕ) → Stand σ n ls → ((signing sig.ty n).next ≡ length ls + n) × (under σ (signing sig.ty n).ty ≡ Some g)) = signature_complete sig.ty g has in
    (complete.0, λ σ t n is stand. ((complete.1 σ n stand).0, (meets σ t (signing sig.ty n).ty g is (complete.1 σ n stand).1, tt)))

-- letters behind others, where the numbers of those end at k
pub stand_next : (σ : Grounding) (ls ms : List Letter) (n k : ℕ) → k ≡ length ls + n → Stand σ n (ls ++ ms) → Stand σ k ms
stand_next σ ls ms n k is stand = subst (λ m. Stand σ m ms) (sym is) (stand_back σ ls ms n stand)

-- ---- a function

-- the numbers end there, all that is said holds, and the nodes become these
pub record FunctionMet (σ : Grounding) (w : FunctionWalked) (last : ℕ) (nodes : List Ground) : Type 0 where
  pub ends : w.next ≡ last
  pub met : Meets σ w.steps
  pub become : Become σ w.nodes nodes

module _ (functions : Named (Entry Ty)) (known_functions : Named (Entry Ground)) (tables : List TableDecl) (in_mutual : Bool) (f : FunDef) where
  abbrev walked : Unknown → ℕ → FunctionWalked
  walked u n = function_walked functions tables in_mutual f u n

  -- a function whose type and nodes these become
  pub record FunctionFound (σ : Grounding) (w : FunctionWalked) (t : Ground) : Type 0 where
    pub nodes : List Ground
    pub become : Become σ w.nodes nodes
    pub typed : IsFunction known_functions tables in_mutual f t nodes

  pub function_sound : Sound functions known_functions tables (walk functions tables f.body) f.body
      → (σ : Grounding) (u : Unknown) (params : Named Ground) (s : EffectSet) (a : Ground) (n : ℕ)
      → Functions σ functions known_functions → UnknownIs σ u params s a → names_of params ≡ texts f.params → Meets σ (walked u n).steps
      → FunctionFound σ (walked u n) (function_of (types_of params) s a)
  function_sound sound σ u params s a n known_so is names all =
      let at : Span = f.name.at in
      let signature : Told = signature_told f.sig (type_of u) n in
      let moves : Told = has_if (is_marked f.place) u.effects effect.Move signature.next in
      let recurs : Told = has_if (is_recursive in_mutual f) u.effects effect.Rec moves.next in
      let main : List Equation = main_told (is_main f) u.params in
      let before : List Equation = signature.equations ++ (main ++ (moves.equations ++ recurs.equations)) in
      let body : Walked = walk functions tables f.body u.params u.effects recurs.next in
      let last : List Equation = unknown.same u.answer body.ty ∷ [] in
      let said : Each (IsMet σ) before = equations_met σ at before (each_front (λ step. Holds σ step.said) (same_at at before) (body.steps ++ same_at at last) all) in
      let behind : Meets σ (body.steps ++ same_at at last) = each_back (λ step. Holds σ step.said) (same_at at before) (body.steps ++ same_at at last) all in
      let inner : Meets σ body.steps = each_front (λ step. Holds σ step.said) body.steps (same_at at last) behind in
      let one : Each (IsMet σ) last = equations_met σ at last (each_back (λ step. Holds σ step.said) body.steps (same_at at last) behind) in
      let behind_signature : Each (IsMet σ) (main ++ (moves.equations ++ recurs.equations)) = each_back (IsMet σ) signature.equations (main ++ (moves.equations ++ recurs.equations)) said in
      let of_effects : Each (IsMet σ) (moves.equations ++ recurs.equations) = each_back (IsMet σ) main (moves.equations ++ recurs.equations) behind_signature in
      let found : Found functions known_functions tables σ body f.body params s = sound σ u.params params u.effects s recurs.next known_so is.named is.has inner in
      let answers : under σ body.ty ≡ Some a = met σ u.answer body.ty a is.answers one.0 in
      record {
        nodes = a ∷ found.inside;
        become = become_more σ body.ty body.inside a found.inside answers found.nodes;
        typed = record {
          params = params;
          effects = s;
          answer = a;
          inside = found.inside;
          is = refl;
          names = names;
          signature = signature_holds σ f.sig (type_of u) (function_of (types_of params) s a) n (type_is σ u params s a is) (each_front (IsMet σ) signature.equations (main ++ (moves.equations ++ recurs.equations)) said);
          main = main_holds σ (is_main f) u.params params is.named (each_front (IsMet σ) main (moves.equations ++ recurs.equations) behind_signature);
          moves = if_holds σ (is_marked f.place) u.effects s effect.Move signature.next is.has (each_front (IsMet σ) moves.equations recurs.equations of_effects);
          recurs = if_holds σ (is_recursive in_mutual f) u.effects s effect.Rec moves.next is.has (each_back (IsMet σ) moves.equations recurs.equations of_effects);
          body = subst (λ t. HasType known_functions tables params s f.body t found.inside) (same_some (sym found.ty ∙ answers)) found.typed;
          all = refl;
        };
      }

  -- letters for all that the walk numbers, whatever stands for what is unknown of the function
  abbrev pub FunctionComplete : Named Ground → EffectSet → Ground → List Ground → Type 0
  FunctionComplete params s a nodes = (ls : List Letter)
      × ((σ : Grounding) (u : Unknown) (n : ℕ) → Functions σ functions known_functions → UnknownIs σ u params s a → Stand σ n ls → FunctionMet σ (walked u n) (length ls + n) nodes)

  pub function_complete : (t : Ground) (nodes : List Ground) (typed : IsFunction known_functions tables in_mutual f t nodes)
      → Complete functions known_functions tables (walk functions tables f.body) typed.params typed.effects typed.answer typed.inside
      → FunctionComplete typed.params typed.effects typed.answer nodes
  function_complete t nodes typed complete =
      let s : EffectSet = typed.effects in
      let a : Ground = typed.answer in
      let signed : SignatureMet f.sig (function_of (types_of typed.params) s a) = signature_met f.sig _ (subst (λ g. HasSignature f.sig g) typed.is typed.signature) in
      let first : List Letter = signed.0 in
      let moving : List Letter = if_letters (is_marked f.place) s effect.Move in
      let recurring : List Letter = if_letters (is_recursive in_mutual f) s effect.Rec in
      let inner : List Letter = complete.0 in (
        first ++ (moving ++ (recurring ++ inner)),
        λ σ u n known_so is stand.
            let at : Span = f.name.at in
            let signature : Told = signature_told f.sig (type_of u) n in
            let moves : Told = has_if (is_marked f.place) u.effects effect.Move signature.next in
            let recurs : Told = has_if (is_recursive in_mutual f) u.effects effect.Rec moves.next in
            let main : List Equation = main_told (is_main f) u.params in
            let before : List Equation = signature.equations ++ (main ++ (moves.equations ++ recurs.equations)) in
            let body : Walked = walk functions tables f.body u.params u.effects recurs.next in
            let last : List Equation = unknown.same u.answer body.ty ∷ [] in
            let by_signature : ToldMet σ signature (length first + n) = signed.1 σ (type_of u) n (type_is σ u typed.params s a is) (stand_front σ first (moving ++ (recurring ++ inner)) n stand) in
            let second : Stand σ signature.next (moving ++ (recurring ++ inner)) = stand_next σ first (moving ++ (recurring ++ inner)) n signature.next by_signature.0 stand in
            let by_moves : ToldMet σ moves (length moving + signature.next) = if_met σ (is_marked f.place) u.effects s effect.Move signature.next is.has typed.moves (stand_front σ moving (recurring ++ inner) signature.next second) in
            let third : Stand σ moves.next (recurring ++ inner) = stand_next σ moving (recurring ++ inner) signature.next moves.next by_moves.0 second in
            let by_recurs : ToldMet σ recurs (length recurring + moves.next) = if_met σ (is_recursive in_mutual f) u.effects s effect.Rec moves.next is.has typed.recurs (stand_front σ recurring inner moves.next third) in
            let fourth : Stand σ recurs.next inner = stand_next σ recurring inner moves.next recurs.next by_recurs.0 third in
            let by_body : Met σ body (length inner + recurs.next) a typed.inside = complete.1 σ u.params u.effects recurs.next known_so is.named is.has fourth in
            let by_main : Each (IsMet σ) main = main_met σ (is_main f) u.params typed.params is.named typed.main in
            let said : Each (IsMet σ) before = each_both (IsMet σ) signature.equations (main ++ (moves.equations ++ recurs.equations)) by_signature.1 (each_both (IsMet σ) main (moves.equations ++ recurs.equations) by_main (each_both (IsMet σ) moves.equations recurs.equations by_moves.1 by_recurs.1)) in
            let one : Each (IsMet σ) last = (meets σ u.answer body.ty a is.answers by_body.ty, tt) in
            record {
              ends = by_body.next ∙ numbers first moving recurring inner n signature.next moves.next recurs.next by_signature.0 by_moves.0 by_recurs.0;
              met = each_both (λ step. Holds σ step.said) (same_at at before) (body.steps ++ same_at at last) (equations_hold σ at before said) (each_both (λ step. Holds σ step.said) body.steps (same_at at last) by_body.met (equations_hold σ at last one));
              become = subst (λ ns. Become σ (body.ty ∷ body.inside) ns) (sym typed.all) (become_more σ body.ty body.inside a typed.inside by_body.ty by_body.nodes);
            },
      )
    where
      numbers : (a b c d : List Letter) (n k l m : ℕ) → k ≡ length a + n → l ≡ length b + k → m ≡ length c + l → length d + m ≡ length (a ++ (b ++ (c ++ d))) + n
      numbers a b c d n k l m first second third =
          let cd : length (c ++ d) ≡ length c + length d = length_append c d in
          let bcd : length (b ++ (c ++ d)) ≡ length b + length (c ++ d) = length_append b (c ++ d) in
          let abcd : length (a ++ (b ++ (c ++ d))) ≡ length a + length (b ++ (c ++ d)) = length_append a (b ++ (c ++ d)) in
          omega arith
