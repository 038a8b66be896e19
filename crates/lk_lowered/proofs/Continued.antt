-- What lambdas capture has the types that are made for it.
use Rattle.std.proofs.Common.{◌≡◌, refl, sym, ap, subst, ℕ, zero, suc, List, [], ◌∷◌, Option, Some, None, slice_get}
use Rattle.std.proofs.lemmas.Option.{none-some}
use Rattle.std.specs.Option.{unwrap_or}
use Rattle.lk_code.specs.Told.{env_of}
use Rattle.lk_cps.specs.Conts.{AreEnvs, IsEnv, IsEnvOf, IsTypeOf}
use Rattle.lk_evaluation.specs.Laws.{Both}
use Rattle.lk_ir.specs.Tables.{body_at, body_of, label_at}
use Rattle.lk_ir.specs.TypedUses.{UseCaptured, UsesAs}
use Rattle.lk_ir.specs.Uses as used_by
use Rattle.lk_ir.specs.Uses.{Among, Uses}
use Rattle.lk_ir.specs.declared.ir.CpsProgram.{CpsProgram}
use Rattle.lk_ir.specs.declared.nodes.Body.{Body}
use Rattle.lk_ir.specs.declared.nodes.Forms.{Forms}
use Rattle.lk_ir.specs.declared.nodes.LabelForm.{LabelForm}
use Rattle.lk_lowered.proofs.Told.{AreEnvsOf}
use Rattle.lk_types.proofs.Parts.{same_some}

-- what stands beside the one with this number
beside : {A B : Type 0} (R : A → B → Type 0) (xs : List A) (ys : List B) (n : ℕ) (x : A) → Both R xs ys → slice_get xs n ≡ Some x → (y : B) × (slice_get ys n ≡ Some y) × R x y
beside R [] ys n x both is = absurd (none-some x is)
beside R (z ∷ xs) [] n x both is = absurd both
beside R (z ∷ xs) (y ∷ ys) zero x both is = (y, refl, subst (λ w. R w y) (same_some is) both.0)
beside R (z ∷ xs) (y ∷ ys) (suc n) x both is = beside R xs ys n x both.1 is

as_used : (f : Forms) (root : ℕ) (xs tys : List ℕ) → UseCaptured f → Both (IsTypeOf f root) xs tys → ((x : ℕ) → Among x xs → Uses f x root) → Both (λ x ty. UsesAs f x ty root) xs tys
as_used f root [] [] captured both uses = tt
as_used f root [] (ty ∷ tys) captured both uses = absurd both
as_used f root (x ∷ xs) [] captured both uses = absurd both
as_used f root (x ∷ xs) (ty ∷ tys) captured both uses = (both.0 captured (uses x used_by.here), as_used f root xs tys captured both.1 (λ y among. uses y (used_by.later among)))

module _ (c : CpsProgram) (envs : AreEnvs c.forms c.envs) (captured : UseCaptured c.forms) where
  env_at : (label : ℕ) (b : Body) → body_at c.forms label ≡ Some b → (o : Option LabelForm) → label_at c.forms label ≡ o → body_of o ≡ Some b → Both (λ x ty. UsesAs c.forms x ty b.root) b.names (env_of c label)
  env_at label b body None is has = absurd (none-some b has)
  env_at label b body (Some l) is has =
      let found = beside (IsEnvOf c.forms) c.forms.labels c.envs label l envs is in
      let own : Both (IsTypeOf c.forms b.root) b.names found.0 = subst (λ o. IsEnv c.forms o found.0) has found.2 in
      subst (λ tys. Both (λ x ty. UsesAs c.forms x ty b.root) b.names tys) (sym (ap (λ o. unwrap_or o []) found.1)) (as_used c.forms b.root b.names found.0 captured own (λ x among. (captured.used label b body x among).0))

pub envs_of : (c : CpsProgram) → AreEnvs c.forms c.envs → UseCaptured c.forms → AreEnvsOf c
envs_of c envs captured label b body = env_at c envs captured label b body (label_at c.forms label) refl body
