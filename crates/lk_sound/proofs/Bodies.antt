-- What is used at an instance of a closed set is a function of the program with a typed body, whose nodes are fine.
use Rattle.std.proofs.Common.{◌≡◌, sym, ◌∙◌, subst, false, append-nil, [], ◌++◌, Some}
use Rattle.std.proofs.lemmas.Slice.Eq.{bytes_eq-Decides}
use Rattle.lk_ast.specs.Functions.{functions_of, function_named, is_named}
use Rattle.lk_ast.specs.declared.declaration.FunDef.{FunDef}
use Rattle.lk_ast.specs.declared.declaration.Program.{Program}
use Rattle.lk_names.specs.Programs.{IsBound}
use Rattle.lk_types.proofs.Parts.{same_some}
use Rattle.lk_types.specs.Each.{Each}
use Rattle.lk_types.specs.Rows.{Label, EffectSet}
use Rattle.lk_types.specs.declared.ground.Ground.{Ground}
use Rattle.lk_typing.specs.Names.{Named, types_of, texts, names_of, Entry}
use Rattle.lk_typing.specs.Types.{function_of}
use Rattle.lk_sound.specs.Functions.{HasFunctionType}
use Rattle.lk_sound.specs.Instances.{Instances, IsListed, IsFine, HasBody, AreClosed}
use Rattle.lk_sound.specs.Nodes.{nodes_of}
use Rattle.lk_sound.specs.Within.{IsFunctionOf}
use Rattle.lk_sound.proofs.Apart.{functions_apart}
use Rattle.lk_sound.proofs.Contexts.{found_named}
use Rattle.lk_types.proofs.Members.{each_in, found_in}
use Rattle.lk_sound.proofs.Points.{IsTyped}

-- the function has the type, its body by the rules and with fine nodes
pub record HasFineBody (p : Program) (i : Instances) (f : FunDef) (t : Ground) : Type 0 where
  pub declared : IsFunctionOf p f
  pub functions : Named (Entry Ground)
  pub params : Named Ground
  pub own : EffectSet
  pub answer : Ground
  pub named : names_of params ≡ texts f.params
  pub is : t ≡ function_of (types_of params) own answer
  pub body : IsTyped p i functions (params ++ []) own f.body answer

module _ (p : Program) (i : Instances) where
  fine_body : (f : FunDef) (t : Ground) (has : HasFunctionType p f t) → Each (IsFine i) (nodes_of false has.typed.body) → HasFineBody p i f t
  fine_body f t has fine = record {
    declared = has.declared;
    functions = has.functions;
    params = has.typed.params;
    own = has.typed.effects;
    answer = has.typed.answer;
    named = has.typed.names;
    is = has.typed.is;
    body =
        let alone : IsTyped p i has.functions has.typed.params has.typed.effects f.body has.typed.answer = record { inside = has.typed.inside; typed = has.typed.body; fine = fine } in
        subst (λ locals. IsTyped p i has.functions locals has.typed.effects f.body has.typed.answer) (sym (append-nil has.typed.params)) alone;
  }

  -- a use that is listed
  pub record IsUsed (g : Label) (t : Ground) : Type 0 where
    pub function : FunDef
    pub named : function_named p g ≡ Some function
    pub listed : IsListed i.mains (record { name = function.name.text; type = t })
    pub has : HasFineBody p i function t

  pub used_there : AreClosed p i → (g : Label) (t : Ground) → IsListed i.mains (record { name = g; type = t }) → IsUsed g t
  used_there closed g t listed =
      let body : HasBody p (IsFine i) (record { name = g; type = t }) = each_in (HasBody p (IsFine i)) i.mains (record { name = g; type = t }) listed closed.mains in
      let same : body.function.name.text ≡ g = (bytes_eq-Decides body.function.name.text g).0 (found_in (is_named g) (functions_of p) body.function body.named).1 in
      record {
        function = body.function;
        named = body.named;
        listed = subst (λ x. IsListed i.mains (record { name = x; type = t })) (sym same) listed;
        has = fine_body body.function t body.has body.nodes;
      }

  -- a function of the program that is listed by its name
  pub listed_body : IsBound p → AreClosed p i → (f : FunDef) (t : Ground) → IsFunctionOf p f → IsListed i.mains (record { name = f.name.text; type = t }) → HasFineBody p i f t
  listed_body bound closed f t declared listed =
      let found : IsUsed f.name.text t = used_there closed f.name.text t listed in
      let itself : function_named p f.name.text ≡ Some f = found_named (functions_of p) f (functions_apart p bound) declared in
      let same : found.function ≡ f = same_some (sym found.named ∙ itself) in
      subst (λ g. HasFineBody p i g t) same found.has
