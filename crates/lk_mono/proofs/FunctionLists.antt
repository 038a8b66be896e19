-- Functions of a ground program, made of instances one after another.
use Rattle.std.proofs.Common.{◌≡◌, ℕ, suc, ◌+◌, ◌⊎◌, inl, inr, length, Bool, List, [], ◌∷◌, ◌++◌, Some, append_assoc, refl, sym, ap, subst, ◌∙◌}
use Rattle.std.proofs.lemmas.List.{append-nil, nil_from_length}
use native.Mathlib.Omega.{arith}
use Rattle.lk_ground.specs.Language.{function_of}
use Rattle.lk_ground.specs.declared.program.GroundFun.{GroundFun}
use Rattle.lk_mono.specs.Grounded.{Are, AreAllCalled, AreCalled, IsInstance}
use Rattle.lk_mono.specs.Held.{AreHeld, IsHeld}
use Rattle.lk_mono.specs.Instances.{Body, uses_of}
use Rattle.lk_mono.specs.Queues.{as_list, as_use}
use Rattle.lk_mono.specs.declared.body.Body.{Body as TheBody}
use Rattle.lk_mono.specs.declared.body.Source.{Source}
use Rattle.lk_mono.specs.declared.queue.Use.{Use as TheUse}
use Rattle.lk_sound.specs.Nodes.{Use}

module _ (source : Source) (mains helpers : List Use) (in_helper : Bool) where
  -- With these functions for the first instances, others are for those that are left, and so for all.
  pub record AreOn (held : List Body) (funs : List GroundFun) (uses : List TheUse) (bodies : List TheBody) (calls : List (List ℕ)) : Type 0 where
    pub left : List Body
    pub are_held : AreHeld source bodies left
    pub are_uses : uses_of left ≡ as_list uses
    pub called : AreAllCalled mains helpers in_helper left calls
    pub whole : (more : List GroundFun) → Are source.program.now mains helpers in_helper more left → Are source.program.now mains helpers in_helper (funs ++ more) held

  pub begins : (held : List Body) (uses : List TheUse) (bodies : List TheBody) (calls : List (List ℕ)) → AreHeld source bodies held → uses_of held ≡ as_list uses → AreAllCalled mains helpers in_helper held calls → AreOn held [] uses bodies calls
  begins held uses bodies calls are_held are_uses called = record { left = held; are_held = are_held; are_uses = are_uses; called = called; whole = λ more are. are }

  first_use : (body : Body) (bodies : List Body) (u : TheUse) (us : List TheUse) → uses_of (body ∷ bodies) ≡ as_list (u ∷ us) → (body.use_of ≡ as_use u) × (uses_of bodies ≡ as_list us)
  first_use body bodies u us is = (cc, cc)

  instance : (g : GroundFun) (held : TheBody) (u : TheUse) (body : Body) → function_of g ≡ held.member.now.function.now → g.ty ≡ u.ty → g.types ≡ held.types
      → IsHeld source held body → body.use_of ≡ as_use u → AreCalled mains helpers in_helper body.nodes g.calls → IsInstance source.program.now mains helpers in_helper g body
  instance g held u body function type types is same called = record {
    function = is.function ∙ ap Some (sym function);
    name = ap (λ f. f.name.text) function ∙ is.name;
    type = type ∙ ap (λ v. v.type) (sym same);
    types = types ∙ is.types;
    calls = called;
  }

  pub goes : (held : List Body) (funs : List GroundFun) (us us' : List TheUse) (bs bs' : List TheBody) (cs cs' : List (List ℕ)) (u : TheUse) (b : TheBody) (c : List ℕ) (g : GroundFun) (new : List GroundFun)
      → us ≡ u ∷ us' → bs ≡ b ∷ bs' → cs ≡ c ∷ cs' → function_of g ≡ b.member.now.function.now → g.ty ≡ u.ty → g.types ≡ b.types → g.calls ≡ c → new ≡ funs ++ g ∷ []
      → AreOn held funs us bs cs → AreOn held new us' bs' cs'
  goes held funs us us' bs bs' cs cs' u b c g new uses bodies calls function type types called pushed on =
      subst (λ fs. AreOn held fs us' bs' cs') (sym pushed)
      (step on.left (subst (λ xs. AreHeld source xs on.left) bodies on.are_held) (on.are_uses ∙ ap as_list uses) (subst (AreAllCalled mains helpers in_helper on.left) calls on.called) on.whole) where
        step : (left : List Body) → AreHeld source (b ∷ bs') left → uses_of left ≡ as_list (u ∷ us') → AreAllCalled mains helpers in_helper left (c ∷ cs')
            → ((more : List GroundFun) → Are source.program.now mains helpers in_helper more left → Are source.program.now mains helpers in_helper (funs ++ more) held)
            → AreOn held (funs ++ g ∷ []) us' bs' cs'
        step [] are same all whole = elim are [ ]
        step (body ∷ left) (AreHeld.more is are) same (AreAllCalled.more one all) whole =
            let (one_use, rest) = first_use body left u us' same in
            record {
              left = left;
              are_held = are;
              are_uses = rest;
              called = all;
              whole = λ more others. subst (λ fs. Are source.program.now mains helpers in_helper fs held) (sym (append_assoc funs (g ∷ []) more))
                  (whole (g ∷ more) (Are.more (instance g b u body function type types is one_use (subst (AreCalled mains helpers in_helper body.nodes) (sym called) one)) others));
            }

  none_more : (left : List Body) → left ≡ [] → Are source.program.now mains helpers in_helper [] left
  none_more left is = subst (Are source.program.now mains helpers in_helper []) (sym is) Are.none

  no_uses : (left : List Body) → uses_of left ≡ [] → left ≡ []
  no_uses [] is = refl
  no_uses (body ∷ left) is = cc

  no_bodies : (left : List Body) → AreHeld source [] left → left ≡ []
  no_bodies [] are = refl
  no_bodies (body ∷ left) are = elim are [ ]

  no_calls : (left : List Body) → AreAllCalled mains helpers in_helper left [] → left ≡ []
  no_calls [] are = refl
  no_calls (body ∷ left) are = elim are [ ]

  pub ends : (held : List Body) (funs : List GroundFun) (us : List TheUse) (bs : List TheBody) (cs : List (List ℕ)) → (length us ≡ 0) ⊎ ((length bs ≡ 0) ⊎ (length cs ≡ 0)) → AreOn held funs us bs cs
      → Are source.program.now mains helpers in_helper funs held
  ends held funs us bs cs none on = subst (λ fs. Are source.program.now mains helpers in_helper fs held) (append-nil funs) (on.whole [] (none_more on.left (by_end none))) where
    by_end : (length us ≡ 0) ⊎ ((length bs ≡ 0) ⊎ (length cs ≡ 0)) → on.left ≡ []
    by_end (inl ended) = no_uses on.left (on.are_uses ∙ ap as_list (nil_from_length us ended))
    by_end (inr (inl ended)) = no_bodies on.left (subst (λ xs. AreHeld source xs on.left) (nil_from_length bs ended) on.are_held)
    by_end (inr (inr ended)) = no_calls on.left (subst (AreAllCalled mains helpers in_helper on.left) (nil_from_length cs ended) on.called)

  pub starts : (held : List Body) (funs : List GroundFun) (us uses : List TheUse) (bs bodies : List TheBody) (cs calls : List (List ℕ)) → funs ≡ [] → us ≡ uses → bs ≡ bodies → cs ≡ calls
      → AreHeld source bodies held → uses_of held ≡ as_list uses → AreAllCalled mains helpers in_helper held calls → AreOn held funs us bs cs
  starts held funs us uses bs bodies cs calls none same_uses same_bodies same_calls are_held are_uses called =
      subst (λ fs. AreOn held fs us bs cs) (sym none)
      (subst (λ xs. AreOn held [] xs bs cs) (sym same_uses)
      (subst (λ xs. AreOn held [] uses xs cs) (sym same_bodies)
      (subst (AreOn held [] uses bodies) (sym same_calls) (begins held uses bodies calls are_held are_uses called))))

-- an iterator knows how many are left
pub counted : {A : Type 0} (n m : ℕ) (xs ys : List A) (x : A) → m + 1 ≡ n → xs ≡ x ∷ ys → n ≡ length xs → m ≡ length ys
counted n m xs ys x less is same = let all : length xs ≡ suc (length ys) = ap length is in omega (arith, less, same, all)
