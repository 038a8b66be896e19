-- The continuations of a node, from the last position to the first, and of all nodes.
use Rattle.std.proofs.Common.{◌≡◌, sym, ap, subst, ◌∙◌, ℕ, ◌+◌, List, [], ◌∷◌, ◌++◌, drop, map, reverse, Option, Some, None, slice_get}
use Rattle.std.proofs.lemmas.List.{reverse-append}
use Rattle.std.specs.List.Sorted.{IsStrictlySortedBy}
use Rattle.std.specs.Ordering.{nat_cmp}
use Rattle.lk_types.specs.Each.{Each}
use Rattle.lk_ir.specs.Tables.{names_of}
use Rattle.lk_ir.specs.Uses.{Among, IsTurnKept, KeepsJust, UsedBehind, turned}
use Rattle.lk_ir.specs.declared.nodes.Cont.{Cont}
use Rattle.lk_ir.specs.declared.nodes.Form.{Form}
use Rattle.lk_ir.specs.declared.nodes.Forms.{Forms}
use Rattle.lk_ir.specs.declared.nodes.Kept.{Kept}
use Rattle.lk_cps.proofs.Entries.{among, each_typed, names_are, there}
use Rattle.lk_cps.proofs.Living.{behind_more, drop_at}
use Rattle.lk_ir.specs.TypedUses.{KeepsTypes}
use Rattle.lk_cps.specs.Live.{AllConts, AreContsAt, IsContOf, KeepsAll, Live, LiveBehind, forward}
use Rattle.lk_cps.specs.Steps.{AreContsOf, HasLooked, LooksAt}
use Rattle.lk_ir.specs.TypedUses.{UseCaptured, UsedBehindAs}
use Rattle.lk_cps.specs.declared.positions.Looked.{Looked}

module _ (f : Forms) (form : Form) where
  -- ---- one continuation

  keeps_just : (left : List ℕ) (live : Live) (c : Cont) → LiveBehind f form left live → KeepsAll live c.keeps → KeepsJust (UsedBehind f form left) c
  keeps_just left live c is keeps = record {
    ordered = subst (IsStrictlySortedBy nat_cmp) (sym (ap names_of keeps.is ∙ names_are live)) keeps.rises;
    just = λ x. (λ a. (is.just x).0 (there x live (subst (λ ks. Among x (names_of ks)) keeps.is a)), λ used. subst (λ ks. Among x (names_of ks)) (sym keeps.is) (among x live ((is.just x).1 used)));
  }

  keeps_types : (left : List ℕ) (live : Live) (c : Cont) → LiveBehind f form left live → KeepsAll live c.keeps → UseCaptured f → KeepsTypes (UsedBehindAs f form left) (Some c)
  keeps_types left live c is keeps all = subst (Each (λ (k : Kept). UsedBehindAs f form left k.name k.ty)) (sym keeps.is) (each_typed (UsedBehindAs f form left) live keeps.rises (is.typed all))

  -- ---- positions

  -- behind all of them, where there is no body
  pub no_turn : (live : Live) → LiveBehind f form [] live → None ≡ turned form.kind form.tails → HasLooked f form [] (record { of = []; live = live })
  no_turn live is none = record { conts = record { kept = subst (λ o. IsTurnKept f form o []) none tt; typed = λ all. tt }; live = is }

  pub a_turn : (body : ℕ) (cont : Option Cont) (live : Live) → LiveBehind f form [] live → Some body ≡ turned form.kind form.tails → IsContOf f body live cont → HasLooked f form [] (record { of = cont ∷ []; live = live })
  a_turn body None live is some plain = record { conts = record { kept = subst (λ o. IsTurnKept f form o (None ∷ [])) some plain; typed = λ all. (tt, tt) }; live = is }
  a_turn body (Some c) live is some cont = record {
    conts = record { kept = subst (λ o. IsTurnKept f form o (Some c ∷ [])) some (cont.0, keeps_just [] live c is cont.1); typed = λ all. (keeps_types [] live c is cont.1 all, tt) };
    live = is;
  }

  one_more : (n : ℕ) (left : List ℕ) (cont : Option Cont) (cs : List (Option Cont)) (live : Live) → AreContsAt f form left cs → LiveBehind f form left live → IsContOf f n live cont → AreContsAt f form (n ∷ left) (cont ∷ cs)
  one_more n left None cs live conts is plain = record { kept = (plain, conts.kept); typed = λ all. (tt, conts.typed all) }
  one_more n left (Some c) cs live conts is cont = record { kept = (cont.0, keeps_just left live c is cont.1, conts.kept); typed = λ all. (keeps_types left live c is cont.1 all, conts.typed all) }

  pub looked_more : (n : ℕ) (left : List ℕ) (before after : Looked) → HasLooked f form left before → LooksAt f n before after → HasLooked f form (n ∷ left) after
  looked_more n left before after looked step = record {
    conts = subst (AreContsAt f form (n ∷ left)) (sym (ap reverse step.of ∙ reverse-append before.of (step.cont ∷ []))) (one_more n left step.cont (reverse before.of) before.live looked.conts looked.live step.is);
    live = behind_more f form n left step.own before.live after.live step.own_is looked.live step.both;
  }

pub looked_step : (f : Forms) (form : Form) (i j n : ℕ) (before after : Looked) → i + 1 ≡ j → slice_get form.parts i ≡ Some n → HasLooked f form (drop j form.parts) before → LooksAt f n before after → HasLooked f form (drop i form.parts) after
looked_step f form i j n before after next at looked step = subst (λ ns. HasLooked f form ns after) (sym (drop_at form.parts i j n next at)) (looked_more f form n (drop j form.parts) before after looked step)

-- ---- nodes

pub node_more : (f : Forms) (form : Form) (forms : List Form) (of : List (Option Cont)) (all more : List (List (Option Cont))) → more ≡ all ++ of ∷ [] → AreContsAt f form form.parts (reverse of) → AllConts f forms (forward all) → AllConts f (form ∷ forms) (forward more)
node_more f form forms of all more is first rest =
    subst (AllConts f (form ∷ forms)) (sym (ap forward is ∙ ap (map (λ (cs : List (Option Cont)). reverse cs)) (reverse-append all (of ∷ [])))) (first, rest)

pub node_step : (f : Forms) (i j : ℕ) (of : List (Option Cont)) (all more : List (List (Option Cont))) → i + 1 ≡ j → more ≡ all ++ of ∷ [] → AreContsOf f i of → AllConts f (drop j f.nodes) (forward all) → AllConts f (drop i f.nodes) (forward more)
node_step f i j of all more next is node rest = subst (λ forms. AllConts f forms (forward more)) (sym (drop_at f.nodes i j node.form next node.there)) (node_more f node.form (drop j f.nodes) of all more is node.conts rest)
