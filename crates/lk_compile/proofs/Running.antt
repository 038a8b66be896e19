-- All is there that either place runs of the code of a program.
use Rattle.std.proofs.Common.{◌≡◌, ◌∙◌, refl, sym, ap, subst, ℕ, ◌≤◌, true, false, List, Option, Some, None}
use Rattle.std.specs.Prelude.{IsSome, IsSomeAnd}
use Rattle.lk_ast.specs.declared.place.Loc.{Loc}
use Rattle.lk_code.specs.Running.{HasCode, HasHome, IsInBody, RunsAt, is_code}
use Rattle.lk_code.specs.Sound.{AreSound}
use Rattle.lk_code.specs.Tables.{block_at, cont_at, first_frame, frame_info, home_of, is_block, is_function}
use Rattle.lk_code.specs.declared.infos.FrameInfo.{FrameInfo}
use Rattle.lk_code.specs.declared.infos.FunKind.{FunKind}
use Rattle.lk_code.specs.declared.infos.FunKind.TheVariants as fun
use Rattle.lk_code.specs.declared.tables.BlockCode.{BlockCode}
use Rattle.lk_code.specs.declared.tables.BlockCode.TheVariants as block
use Rattle.lk_code.specs.declared.tables.Contents.{Contents}
use Rattle.lk_defun.proofs.Numbered.{numbered_bodies}
use Rattle.lk_ground.specs.declared.program.GroundProgram.{GroundProgram}
use Rattle.lk_ir.specs.Tables.{body_at, form_at}
use Rattle.lk_ir.specs.declared.nodes.Form.{Form}
use Rattle.lk_ir.specs.declared.nodes.Forms.{Forms}
use Rattle.lk_lower.specs.Lowering.{AreForms}
use Rattle.lk_lowered.specs.Law.{StandsLaw}
use Rattle.lk_translate.specs.declared.translated.Translated.{Translated}
use Rattle.lk_compile.specs.Blocks.{AreRun, Runs}
use Rattle.lk_compile.specs.Compiled.{AreTablesOf}

no_block : false ≡ true → ⊥
no_block is = cc

module _ (c : Contents) (queries : List Translated) where
  abbrev RunsHere : ℕ → FunKind → Option BlockCode → Type 0
  RunsHere label kind found = Runs c.tables.forms.tables c.defs queries label kind found

  -- what reads or changes tables runs what is of its kind
  is_run : (label : ℕ) (kind : FunKind) (found : Option BlockCode) → RunsHere label kind found → is_block kind ≡ true → is_code kind found ≡ true
  is_run label fun.Query (Some (block.Select sql)) runs reaches = refl
  is_run label fun.TableRead (Some (block.Select sql)) runs reaches = refl
  is_run label fun.Insert (Some (block.Insert def)) runs reaches = refl
  is_run label fun.Update (Some (block.Update def change)) runs reaches = refl
  is_run label fun.Delete (Some (block.Delete def change)) runs reaches = refl
  is_run label fun.Print None runs reaches = absurd (no_block reaches)
  is_run label fun.Top None runs reaches = absurd (no_block reaches)
  is_run label fun.Lambda None runs reaches = absurd (no_block reaches)
  is_run label kind found runs reaches = absurd runs

  has_code : (label : ℕ) (kind : FunKind) → (is_function kind ≡ true → IsSome (body_at c.tables.forms label)) → RunsHere label kind (block_at c label) → HasCode c label kind
  has_code label fun.Print body runs = tt
  has_code label fun.Top body runs = body refl
  has_code label fun.Lambda body runs = body refl
  has_code label other body runs = is_run label other (block_at c label) runs refl

  abbrev Stands : Type 0
  Stands = (n : ℕ) (form : Form) → form_at c.tables.forms n ≡ Some form → IsSome (body_at c.tables.forms form.within)

  -- a frame that is no return has a home, whose node stands in a body
  has_home : AreSound c.tables → Stands → (number : ℕ) (i : FrameInfo) → frame_info c.tables number ≡ Some i → first_frame c.tables ≤ number → HasHome c number
  has_home sound stands number i at above =
      let is = sound.homes number i at above in
      let home : home_of c.tables number ≡ Some is.home = ap (home_of c.tables) is.numbered ∙ (sound.frames is.home is.form is.cont is.there is.is).home in
      subst (λ o. IsSomeAnd o (λ home. IsSome (cont_at c.tables home) × IsInBody c home.node)) (sym home) (
        subst IsSome (sym is.is) refl,
        subst (λ o. IsSomeAnd o (λ (form : Form). IsSome (body_at c.tables.forms form.within))) (sym is.there) (stands is.home.node is.form is.there),
      )

  pub runs_at : StandsLaw → (g : GroundProgram) → AreSound c.tables → AreTablesOf g c.tables → AreRun c.tables.forms.tables c.defs queries c.tables.funs c.blocks → (place : Loc) → RunsAt c place
  runs_at stands g sound of run place =
      let forms : AreForms g c.tables.forms = subst (λ (f : Forms). AreForms g f) (sym of.numbers.forms) of.forms in
      record {
        labels = λ label i at here. has_code label i.kind (numbered_bodies of.cps c.tables of.numbers label i at) (run.each label i at);
        frames = λ number i at above here. has_home sound (stands g c.tables.forms forms) number i at above;
      }
